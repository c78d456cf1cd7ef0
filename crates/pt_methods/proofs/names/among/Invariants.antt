use Rattle.std.proofs.Common.{◌≡◌, map, drop}
use Rattle.pt_methods.specs.Names.{among}
use Rattle.pt_methods.proofs.names.among.Given as goal

abbrev pub invariant-loop-row : goal.invariant-loop-row
invariant-loop-row l = among l.name (map (λ r. (r.0.now, r.1)) (drop l.row-index l.rows)) ≡ among l.name (map (λ r. (r.0.now, r.1)) l.rows)
