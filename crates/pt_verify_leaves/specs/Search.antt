-- What is found over the classes of topmost slots.
use Rattle.std.specs.Prelude.{ℕ, List, Option}
use Rattle.pt_ranges.specs.declared.handlers.Handler.{Handler}
use Rattle.pt_places.specs.declared.places.Place.{Place}
use Rattle.pt_sizes.specs.Flow.{entry}
use Rattle.pt_closure.specs.Closure.{Pair, IsClosure}
use Rattle.pt_verify_leaves.specs.Gathering.{AreGathered}
use Rattle.pt_verify_leaves.specs.Onto.{ListsBelow, member_at, next_of, seed_at}
use Rattle.pt_verify_leaves.specs.Tables.{HasEnded}

pub record HasSearched (places : List (Option Place)) (rows : List Handler) (classes : List (Option ℕ)) (count : ℕ) (sizes : List (Option ℕ)) (end : ℕ)
    (bundles : List (List ℕ)) (held : List (Option ℕ)) : Type 0 where
  pub seeds : List Pair
  pub seeded : ListsBelow (λ pc. seed_at rows classes pc (entry places pc) (entry sizes pc)) end seeds
  pub listed : List Pair
  pub lists : ListsBelow (λ pc. member_at (entry classes pc) pc (entry places pc)) end listed
  pub members : List (List ℕ)
  pub gathers : AreGathered count listed members
  pub found : List Pair
  pub closed : IsClosure (next_of rows classes places members) seeds found
  pub bundled : AreGathered count found bundles
  pub ended : HasEnded places classes end held
