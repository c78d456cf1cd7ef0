use Rattle.std.proofs.Common.{◌≡◌, drop, map}
use Rattle.std.specs.List.{position_from}
use Rattle.std.specs.Str.{bytes_eq}
use Rattle.pt_helper_objects.proofs.place_in.Given as goal

abbrev pub invariant-loop-at : goal.invariant-loop-at
invariant-loop-at l = position_from (bytes_eq l.name) 0 (map (λ r. r.0.now) l.rows) ≡ position_from (bytes_eq l.name) l.at (map (λ r. r.0.now) (drop l.at l.rows))
