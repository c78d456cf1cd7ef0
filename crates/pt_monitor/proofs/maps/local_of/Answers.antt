use Rattle.std.proofs.Common.{◌∙◌, ap, sym}
use Rattle.pt_monitor.proofs.Keeping.{local_at, set_or_none}
use Rattle.pt_monitor.proofs.maps.local_of.Goals as goal

pub returns-in-Some : goal.returns-in-Some
returns-in-Some c = ap set_or_none c.in-Some.ensures.value ∙ sym (local_at c.args.block.0 c.args.sets.now.entries)

pub returns-in-None : goal.returns-in-None
returns-in-None c = ap set_or_none c.in-None.ensures.value ∙ sym (local_at c.args.block.0 c.args.sets.now.entries)
