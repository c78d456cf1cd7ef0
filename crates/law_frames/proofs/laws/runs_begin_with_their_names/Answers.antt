use Rattle.law_frames.proofs.Start.{begins_with_names}
use Rattle.law_frames.proofs.laws.runs_begin_with_their_names.Goals as goal

pub returns : goal.returns
returns c = begins_with_names
