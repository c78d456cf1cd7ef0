use Rattle.std.proofs.Common.{◌≡◌, drop}
use Rattle.pt_openers.specs.Openers.{active_in}
use Rattle.pt_openers.proofs.openers.Openers.active.Given as goal

abbrev pub invariant-loop-newer : goal.invariant-loop-newer
invariant-loop-newer g l = active_in g.P.Waits.exception l.self ≡ active_in g.P.Waits.exception (drop l.newer l.self)
