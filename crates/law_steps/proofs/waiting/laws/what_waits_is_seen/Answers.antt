use Rattle.law_steps.proofs.waiting.Telling.{seen_tells}
use Rattle.law_steps.proofs.waiting.laws.what_waits_is_seen.Goals as goal

pub returns : goal.returns
returns g c machine x xs s is = seen_tells _ _ machine x xs s is
