-- The lists of kinds at the places of a block, as numbers in a forest.
use Rattle.std.specs.Prelude.{◌≡◌, ℕ, ◌<◌, List, length, slice_index_or, Option, Some, None, option_map}
use Rattle.pt_instr.specs.declared.kinds.Kind.{Kind}
use Rattle.pt_instr.specs.declared.kinds.Kind.TheVariants.{Pending}
use Rattle.pt_code.specs.View.{Ins}
use Rattle.pt_places.specs.declared.places.Place.{Place}
use Rattle.pt_places.specs.PlaceTable.{entry}
use Rattle.sem_fits.specs.fits.Block.{Block}
use Rattle.pt_jump.specs.Slots.{IsHeld}
use Rattle.pt_kinds.specs.declared.forest.Forest.{Forest}
use Rattle.pt_kinds.specs.Forest.{IsInside, list_at}
use Rattle.pt_block_kinds.specs.declared.graph.BlockKinds.{BlockKinds}
use Rattle.pt_block_kinds.specs.Graph.{HasSizes, IsSeen}
use Rattle.pt_block_kinds.specs.Drawing.{Draws}
use Rattle.pt_block_kinds.specs.Told.{TellsListAt, TwoMeet}
use Rattle.pt_place_slots.specs.declared.lists.KindList.{KindList}

abbrev pub held_up_to : Kind → (length below : ℕ) → ℕ
held_up_to Pending n below = n
held_up_to k n below = below

-- of each list how many slots there are up to the topmost that holds a completion
abbrev pub AreHeld : Forest → List ℕ → Type 0
AreHeld f held = (list : ℕ) → IsInside f list
    → IsHeld (list_at f list) (slice_index_or held list 0)

pub record IsListed (f : Forest) (l : KindList) : Type 0 where
  pub inside : IsInside f l.list
  pub count : l.count ≡ length (list_at f l.list)
  pub held : IsHeld (list_at f l.list) l.held

abbrev pub Lists : Forest → Option KindList → Type 0
Lists f o = (l : KindList) → o ≡ Some l → IsListed f l

-- the list that a place gets, where the flow is that of a block in which no place gets two; none
-- where no instruction starts
pub record TellsListed (kinds : BlockKinds) (place : Option Place) (pc : ℕ) (o : Option KindList)
    : Type 0 where
  pub nowhere : place ≡ None → o ≡ None
  pub told : (b : Block) (p : ℕ) (sizes : List (Option ℕ)) → Draws b p sizes kinds
      → IsSeen b (length sizes) → HasSizes b p sizes → (TwoMeet b p → ⊥) → (i : Ins)
      → b.at pc ≡ Some i → (place ≡ None → ⊥)
      → TellsListAt b p pc (option_map (λ l. list_at kinds.flow.forest l.list) o)

pub record AreListed (kinds : BlockKinds) (places : List (Option Place)) (count : ℕ)
    (table : List (Option KindList)) : Type 0 where
  pub long : length table ≡ count
  pub listed : (pc : ℕ) → Lists kinds.flow.forest (entry table pc)
  pub tells : (pc : ℕ) → pc < count → TellsListed kinds (entry places pc) pc (entry table pc)
