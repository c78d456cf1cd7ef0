use Rattle.std.proofs.Common.{◌≡◌, ◌++◌, map, take}
use Rattle.pt_code_loader.specs.Starting.{objects_by}
use Rattle.pt_code_loader.proofs.starting.add_helpers.Given as goal

abbrev pub invariant-loop-row : goal.invariant-loop-row
invariant-loop-row l = l.heap ≡ l.initial.heap ++ objects_by l.facts (map (λ r. (r.0.now, r.1)) (take l.row-index l.rows))
