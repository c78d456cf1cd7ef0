use Rattle.std.proofs.Common.{◌∙◌}
use Rattle.pt_acts.proofs.Behind.{marked, not-marked}
use Rattle.pt_acts.proofs.statement_rows.mark.Goals as goal

pub returns-in-Some : goal.returns-in-Some
returns-in-Some c = λ before test is at. c.set.ensures ∙ marked _ _ _ _ _ is at c.in-Some.ensures.value

pub returns-in_default : goal.returns-in_default
returns-in_default c = λ before test is at. not-marked _ _ _ _ is at c.in_default.ensures.value
