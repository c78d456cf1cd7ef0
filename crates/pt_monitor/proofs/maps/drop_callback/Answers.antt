use Rattle.pt_monitor.specs.Events.{bit_of}
use Rattle.pt_monitor.proofs.Keeping.{callback_dropped}
use Rattle.pt_monitor.proofs.maps.drop_callback.Goals as goal

pub returns : goal.returns
returns c = callback_dropped _ _ c.bit.result (bit_of c.args.event) c.bit.ensures c.swap_remove.ensures.updates.0
