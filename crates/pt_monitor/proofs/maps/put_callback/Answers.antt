use Rattle.pt_monitor.specs.Events.{bit_of}
use Rattle.pt_monitor.proofs.Keeping.{callback_put}
use Rattle.pt_monitor.proofs.maps.put_callback.Goals as goal

pub returns-clause-ok : goal.returns-clause-ok
returns-clause-ok c = callback_put _ _ c.bit.result (bit_of c.args.event) c.bit.ensures c.args.f c.in_ok-insert.ensures.updates.0
