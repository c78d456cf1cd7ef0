use Rattle.pt_sinks.proofs.WritingLemmas.{front_of_none}
use Rattle.pt_prog.specs.LogText.{summary}
use Rattle.pt_prog.proofs.ending.write_summary.Goals as goal

pub returns-in_default-clause-err : goal.returns-in_default-clause-err
returns-in_default-clause-err g c = front_of_none _ _ _ _ (summary c.args.end c.args.acts c.args.lines) (λ a b t. t) (λ a b t. t)
