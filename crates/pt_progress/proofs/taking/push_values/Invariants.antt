use Rattle.std.proofs.Common.{◌≡◌, ◌++◌, ◌-◌, map, drop}
use Rattle.pt_frames.specs.declared.slot.Slot.TheVariants as slot
use Rattle.pt_progress.proofs.taking.push_values.Given as goal

abbrev pub invariant-loop-at : goal.invariant-loop-at
invariant-loop-at l = l.slots ≡ map slot.Value (drop (l.count - l.at) l.values) ++ l.fn.slots
