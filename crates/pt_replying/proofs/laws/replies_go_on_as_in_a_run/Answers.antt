use Rattle.pt_replying.proofs.Replies.{replies_as_run}
use Rattle.pt_replying.proofs.laws.replies_go_on_as_in_a_run.Goals as goal

pub returns : goal.returns
returns g c = replies_as_run
