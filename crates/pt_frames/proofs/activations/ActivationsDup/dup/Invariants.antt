use Rattle.std.proofs.Common.{◌≡◌, take}
use Rattle.pt_frames.proofs.activations.ActivationsDup.dup.Given as goal

abbrev pub invariant-loop-newer : goal.invariant-loop-newer
invariant-loop-newer l = l.items.items ≡ take l.newer-index l.newer-items
