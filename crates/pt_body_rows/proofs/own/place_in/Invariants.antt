use Rattle.std.proofs.Common.{◌≡◌, drop}
use Rattle.pt_body_rows.specs.Bodies.{place_in}
use Rattle.pt_body_rows.proofs.OwnLemmas.{place_from}
use Rattle.pt_body_rows.proofs.own.place_in.Given as goal

abbrev pub invariant-loop-at : goal.invariant-loop-at
invariant-loop-at l = place_in l.name l.names l.values ≡ place_from l.at l.name (drop l.at l.names) (drop l.at l.values)
