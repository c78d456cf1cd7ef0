use Rattle.pt_refusals.proofs.Staying.{disagreement_stays}
use Rattle.pt_refusals.proofs.laws.agreement_falls_short_for_good.Goals as goal

pub returns : goal.returns
returns c = disagreement_stays
