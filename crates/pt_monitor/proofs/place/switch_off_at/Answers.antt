use Rattle.pt_monitor.proofs.Keeping.{switched_off, same_place, same_there}
use Rattle.pt_monitor.proofs.place.switch_off_at.Goals as goal

pub returns-clause-ok : goal.returns-clause-ok
returns-clause-ok c = switched_off same_place same_there c.args.places.now.keys c.insert.new.self.keys c.args.place c.in_ok-insert.ensures.updates.0
