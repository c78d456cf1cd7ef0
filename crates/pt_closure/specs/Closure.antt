-- The least set of pairs that has some pairs and all that follows from each.
use Rattle.std.specs.Prelude.{◌≡◌, ◌⊎◌, ℕ, List, [], ◌∷◌, ◌++◌, Contains, Bool, true, false}
use Rattle.std.specs.Ordering.{nat_cmp, ordering_then}
use Rattle.std.specs.declared.cmp.Ordering.{Ordering}
use Rattle.std.specs.BTreeSet.{contains}
use Rattle.pt_closure.specs.declared.found.Found.{Found}

abbrev pub Pair : Type 0
Pair = ℕ × ℕ

pub data Derived (next : Pair → List Pair) (seeds : List Pair) : Pair → Type 0 where
  given : {x : Pair} → Contains seeds x → Derived next seeds x
  follows : {x y : Pair} → Derived next seeds x → Contains (next x) y → Derived next seeds y

pub record IsClosure (next : Pair → List Pair) (seeds found : List Pair) : Type 0 where
  pub sound : (x : Pair) → Contains found x → Derived next seeds x
  pub whole : (x : Pair) → Derived next seeds x → Contains found x

-- while it is made: what follows from pairs that are found is found or due
pub record Open (next : Pair → List Pair) (seeds work found : List Pair) : Type 0 where
  pub sound : (x : Pair) → Contains found x → Derived next seeds x
  pub due : (x : Pair) → Contains work x → Derived next seeds x
  pub given : (x : Pair) → Contains seeds x → Contains found x ⊎ Contains work x
  pub closed : (x y : Pair) → Contains found x → Contains (next x) y → Contains found y ⊎ Contains work y

abbrev pub pair_cmp : Pair → Pair → Ordering
pair_cmp x y = ordering_then (nat_cmp x.0 y.0) (nat_cmp x.1 y.1)

-- the set has just the pairs that are listed
pub record AreSeen (f : Found) : Type 0 where
  pub sound : (x : Pair) → contains pair_cmp f.seen x ≡ true → Contains f.pairs.items x
  pub whole : (x : Pair) → Contains f.pairs.items x → contains pair_cmp f.seen x ≡ true

pub record AddsNew (x : Pair) (old new : Found) : Type 0 where
  pub pairs : new.pairs.items ≡ old.pairs.items ++ x ∷ []
  pub seen : AreSeen new

pub record Knows (x : Pair) (old new : Found) : Type 0 where
  pub pairs : new.pairs.items ≡ old.pairs.items
  pub seen : AreSeen new
  pub among : Contains old.pairs.items x

abbrev pub Adds : Bool → Pair → (old new : Found) → Type 0
Adds true x old new = AddsNew x old new
Adds false x old new = Knows x old new
