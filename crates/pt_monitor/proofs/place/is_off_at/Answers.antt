use Rattle.std.proofs.Common.{◌∙◌, sym}
use Rattle.pt_monitor.proofs.Keeping.{off_at, same_place, same_there}
use Rattle.pt_monitor.proofs.place.is_off_at.Goals as goal

pub returns : goal.returns
returns c = c.contains.ensures ∙ sym (off_at same_place same_there c.args.place c.args.places.now.keys)
