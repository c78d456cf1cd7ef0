use Rattle.std.proofs.Common.{subst}
use Rattle.std.specs.Prelude.{option_map}
use Rattle.pt_refusals.specs.Laws.{TellsFirst}
use Rattle.pt_refusals.specs.Verdicts.{misfit_of}
use Rattle.pt_verify.proofs.block.refusal_of_unsized.Goals as goal

pub returns-in-Some : goal.returns-in-Some
returns-in-Some c = λ b t.
    subst (λ r. TellsFirst b c.last_of-last.result (option_map misfit_of r)) c.in-Some.is (c.in_ok-refusal.ensures b t) t.tables
