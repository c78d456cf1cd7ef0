use Rattle.law_frames.proofs.Runs.{reached_has_names}
use Rattle.law_frames.proofs.laws.runs_have_their_names.Goals as goal

pub returns : goal.returns
returns c = reached_has_names
