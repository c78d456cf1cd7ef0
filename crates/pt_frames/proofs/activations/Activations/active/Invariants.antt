use Rattle.std.proofs.Common.{◌≡◌, drop}
use Rattle.pt_frames.specs.Activations.{active_exception}
use Rattle.pt_frames.proofs.activations.Activations.active.Given as goal

abbrev pub invariant-loop-newer : goal.invariant-loop-newer
invariant-loop-newer l = active_exception l.self ≡ active_exception (drop l.newer l.self)
