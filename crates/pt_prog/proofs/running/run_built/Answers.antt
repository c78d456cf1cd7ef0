use Rattle.std.proofs.Common.{refl, sym}
use Rattle.pt_tree.specs.StatementFold.{script_of}
use Rattle.pt_words.specs.Asked.{asked}
use Rattle.pt_prog.specs.LogText.{final}
use Rattle.pt_prog.specs.Answer.{unbuilt}
use Rattle.pt_prog.specs.declared.end.End.TheVariants as end
use Rattle.pt_prog.proofs.RunLemmas.{every_err_of, every_ok_of}
use Rattle.pt_prog.proofs.running.run_built.Goals as goal

pub returns-in-Some-clause-ok : goal.returns-in-Some-clause-ok
returns-in-Some-clause-ok g c =
    every_ok_of (script_of c.args.prelude.now) (asked c.args.line.now) c.args.text.now _ _ _ _ c.write_final.result (final (end.Unbuilt c.in-Some.first)) (end.Unbuilt c.in-Some.first)
    (unbuilt c.in-Some.first c.requires.is_run (record { script = script_of c.args.script.now; is_script = c.requires.is_script; is_first = sym c.in-Some.ensures }) refl refl)
    c.write_final.ensures.ok

pub returns-in-Some-clause-err : goal.returns-in-Some-clause-err
returns-in-Some-clause-err g c =
    every_err_of (script_of c.args.prelude.now) (asked c.args.line.now) c.args.text.now _ _ _ _ c.write_final.result (final (end.Unbuilt c.in-Some.first)) (end.Unbuilt c.in-Some.first)
    (unbuilt c.in-Some.first c.requires.is_run (record { script = script_of c.args.script.now; is_script = c.requires.is_script; is_first = sym c.in-Some.ensures }) refl refl)
    c.write_final.ensures.err
