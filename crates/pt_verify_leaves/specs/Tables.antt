-- The class of what each EndFinally takes.
use Rattle.std.specs.Prelude.{◌≡◌, ℕ, ◌<◌, List, length, Option}
use Rattle.pt_places.specs.declared.places.Place.{Place}
use Rattle.pt_sizes.specs.Flow.{entry}
use Rattle.pt_verify_leaves.specs.Onto.{ended_at}

pub record HasEnded (places : List (Option Place)) (classes : List (Option ℕ)) (end : ℕ) (held : List (Option ℕ)) : Type 0 where
  pub long : length held ≡ end
  pub each : (pc : ℕ) → pc < end → entry held pc ≡ ended_at (entry classes pc) (entry places pc)
