use Rattle.std.proofs.Common.{rules, ◌≡◌, ◌≤◌, IfErr, IfOk, length, subst, sym}
use Rattle.pt_generated.specs.Script.{script_of}
use Rattle.pt_generated.proofs.ScriptLemmas.{script-short}
use Rattle.pt_words.specs.Asked.{asked}
use Rattle.pt_prog.specs.Answer.{BrokeOffFor, WroteAllFor}
use Rattle.pt_prog.specs.Limits.{script_limit}
use Rattle.pt_prog.proofs.AnswerLemmas.{made_limit}
use Rattle.pt_prog.proofs.program.answer_made.Goals as goal

pub answer_file-requires : goal.answer_file-requires
answer_file-requires g c =
    let same : c.as_slice.result.now ≡ script_of c.args.count = search rules in
    let short : length c.as_slice.result.now ≤ script_limit = subst (λ t. length t ≤ script_limit) (sym same) (script-short c.args.count c.requires.fits) in
    subst (λ n. length c.as_slice.result.now ≤ n) (sym (made_limit c.args.line.now.command (script_of c.args.count) c.requires.makes)) short

pub returns-clause-ok : goal.returns-clause-ok
returns-clause-ok g c =
    let same : c.as_slice.result.now ≡ script_of c.args.count = search rules in
    subst (λ t. IfOk c.answer_file.result (WroteAllFor (g.O.Sink.taken c.args.out.now) (g.O.Sink.taken c.answer_file.new.out) (g.L.Sink.taken c.args.log.now)
    (g.L.Sink.taken c.answer_file.new.log) (asked c.args.line.now) t)) same c.answer_file.ensures.ok

pub returns-clause-err : goal.returns-clause-err
returns-clause-err g c =
    let same : c.as_slice.result.now ≡ script_of c.args.count = search rules in
    subst (λ t. IfErr c.answer_file.result (BrokeOffFor (g.O.Sink.taken c.args.out.now) (g.O.Sink.taken c.answer_file.new.out) (g.L.Sink.taken c.args.log.now)
    (g.L.Sink.taken c.answer_file.new.log) (asked c.args.line.now) t)) same c.answer_file.ensures.err
