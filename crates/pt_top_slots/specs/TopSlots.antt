-- The classes of topmost slots.
use Rattle.std.specs.Prelude.{◌≡◌, ◌↔◌, ℕ, suc, ◌<◌, List, Option, Some}
use Rattle.pt_sizes.specs.Flow.{entry}
use Rattle.pt_joins.specs.declared.joins.Join.{Join}
use Rattle.pt_joins.specs.Joins.{Joined}
use Rattle.pt_top_slots.specs.declared.tops.TopSlots.{TopSlots}

pub record HasClass (tops : TopSlots) (pc : ℕ) : Type 0 where
  pub class : ℕ
  pub is : entry tops.classes.items pc ≡ Some class
  pub low : class < tops.count

pub record HasSlots (sizes : List (Option ℕ)) (pc : ℕ) : Type 0 where
  pub below : ℕ
  pub is : entry sizes pc ≡ Some (suc below)

-- two have one number just where they lie on one level and are joined there
pub record AreTops (joins : List Join) (sizes : List (Option ℕ)) (tops : TopSlots) : Type 0 where
  pub whole : (pc n : ℕ) → entry sizes pc ≡ Some (suc n) → HasClass tops pc
  pub sound : (pc c : ℕ) → entry tops.classes.items pc ≡ Some c → HasSlots sizes pc
  pub exact : (q r m n i j : ℕ) → entry sizes q ≡ Some (suc m) → entry sizes r ≡ Some (suc n)
      → entry tops.classes.items q ≡ Some i → entry tops.classes.items r ≡ Some j
      → (i ≡ j) ↔ ((m ≡ n) × Joined joins m q r)
