use Rattle.std.proofs.Common.{◌≡◌, ◌++◌, map, take}
use Rattle.pt_builtin_objects.specs.Start.{objects_of}
use Rattle.pt_builtin_objects.proofs.add_all.Given as goal

abbrev pub invariant-loop-row : goal.invariant-loop-row
invariant-loop-row l = l.heap ≡ l.initial.heap ++ objects_of (map (λ r. (r.0.now, r.1)) (take l.row-index l.rows))
