use Rattle.std.proofs.Common.{◌≡◌, drop}
use Rattle.pt_openers.specs.Openers.{hook_runs}
use Rattle.pt_openers.proofs.openers.Openers.hook_runs.Given as goal

abbrev pub invariant-loop-newer : goal.invariant-loop-newer
invariant-loop-newer g l = hook_runs g.P.Waits.is_for_hook l.self ≡ hook_runs g.P.Waits.is_for_hook (drop l.newer l.self)
