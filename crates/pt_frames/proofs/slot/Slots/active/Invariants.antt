use Rattle.std.proofs.Common.{◌≡◌, drop}
use Rattle.pt_frames.specs.Slots.{active_in}
use Rattle.pt_frames.proofs.slot.Slots.active.Given as goal

abbrev pub invariant-loop-above : goal.invariant-loop-above
invariant-loop-above l = active_in l.self ≡ active_in (drop l.above l.self)
