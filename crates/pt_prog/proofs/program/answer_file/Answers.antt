use Rattle.std.proofs.Common.{subst}
use Rattle.pt_base.specs.Failures.{IfRefused}
use Rattle.pt_prelude.specs.declared.source.TheConstants.{PRELUDE}
use Rattle.pt_tree.specs.StatementFold.{script_of}
use Rattle.pt_words.specs.Asked.{asked}
use Rattle.pt_prog.specs.Answer.{IsNoPrelude}
use Rattle.pt_prog.proofs.AnswerLemmas.{all_for, broke_off_for, none_broke_off_for, none_for}
use Rattle.pt_prog.proofs.program.answer_file.Goals as goal

pub answer_over-requires-clause-is_prelude : goal.answer_over-requires-clause-is_prelude
answer_over-requires-clause-is_prelude g c = (PRELUDE.now, c.in-Ok.ensures.ok)

pub returns-in-Ok-clause-ok : goal.returns-in-Ok-clause-ok
returns-in-Ok-clause-ok g c =
    all_for (asked c.args.line.now) c.args.bytes.now _ _ _ _ (script_of c.in-Ok.prelude) c.in-Ok.ensures.ok c.answer_over.result c.answer_over.ensures.ok

pub returns-in-Ok-clause-err : goal.returns-in-Ok-clause-err
returns-in-Ok-clause-err g c =
    broke_off_for (asked c.args.line.now) c.args.bytes.now _ _ _ _ (script_of c.in-Ok.prelude) c.in-Ok.ensures.ok c.answer_over.result c.answer_over.ensures.err

pub returns-in-Err-Refused-clause-ok : goal.returns-in-Err-Refused-clause-ok
returns-in-Err-Refused-clause-ok g c =
    none_for (asked c.args.line.now) c.args.bytes.now _ _ _ _ c.in-Err-Refused.end
    (subst (IfRefused IsNoPrelude) c.in-Err-Refused.field-0-is c.in-Err-Refused.ensures.err) c.write_final.result c.write_final.ensures.ok

pub returns-in-Err-Refused-clause-err : goal.returns-in-Err-Refused-clause-err
returns-in-Err-Refused-clause-err g c =
    none_broke_off_for (asked c.args.line.now) c.args.bytes.now _ _ _ _ c.in-Err-Refused.end
    (subst (IfRefused IsNoPrelude) c.in-Err-Refused.field-0-is c.in-Err-Refused.ensures.err) c.write_final.result c.write_final.ensures.err
