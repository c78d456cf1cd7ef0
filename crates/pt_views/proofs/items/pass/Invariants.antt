use Rattle.std.proofs.Common.{◌≡◌, ◌-◌, drop}
use Rattle.pt_views.proofs.items.pass.Given as goal

abbrev pub invariant-loop-passed : goal.invariant-loop-passed
invariant-loop-passed l = drop (l.count - l._passed) l.left ≡ drop l.count l.fn.left
