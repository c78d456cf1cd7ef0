use Rattle.std.proofs.Common.{◌≡◌, ◌-◌, ◌++◌}
use Rattle.pt_content.specs.Changes.{places_from}
use Rattle.pt_text_operations.proofs.lists.places.Given as goal

abbrev pub invariant-loop-place : goal.invariant-loop-place
invariant-loop-place l = l.values ++ places_from l.place (l.end - l.place) ≡ places_from l.first (l.end - l.first)
