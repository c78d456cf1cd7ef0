use Rattle.pt_monitor.proofs.Keeping.{local_given}
use Rattle.pt_monitor.proofs.maps.give_local.Goals as goal

pub returns-clause-ok : goal.returns-clause-ok
returns-clause-ok c = local_given _ _ c.args.block.0 c.args.set c.in_ok-insert.ensures.updates.0
