-- What the tables of a block tell of its slots.
use Rattle.std.specs.Prelude.{◌≡◌, ℕ, ◌<◌, ◌≤◌, List, length, slice_get, Option, Some, None, option_map}
use Rattle.pt_instr.specs.declared.kinds.Kind.{Kind}
use Rattle.pt_instr.specs.Effects.{Kinds}
use Rattle.pt_places.specs.declared.places.Place.{Place}
use Rattle.pt_places.specs.PlaceTable.{entry}
use Rattle.sem_fits.specs.fits.Block.{Block}
use Rattle.sem_fits.specs.fits.Places.{Gets}
use Rattle.pt_jump.specs.Slots.{SlotsTold}
use Rattle.pt_kinds.specs.Forest as K
use Rattle.pt_kinds.specs.Forest.{list_at}
use Rattle.pt_block_kinds.specs.declared.graph.BlockKinds.{BlockKinds}
use Rattle.pt_block_kinds.specs.Told.{TellsListAt}
use Rattle.pt_joins.specs.Joins.{IsForest, Root}
use Rattle.pt_common_slots.specs.Common.{TellsCommon}
use Rattle.pt_place_slots.specs.declared.lists.KindList.{KindList}
use Rattle.pt_place_slots.specs.declared.tables.BlockSlots.{BlockSlots}
use Rattle.pt_place_slots.specs.Lists.{AreListed, Lists}

-- what holds whatever the block is
pub record IsSound (s : BlockSlots) : Type 0 where
  pub kinds : K.IsForest s.forest
  pub joins : IsForest s.joins.nodes.items
  pub listed : (pc : ℕ) → Lists s.forest (entry s.places.items pc)
  pub wide : length s.places.items ≤ length s.joins.nodes.items
  pub few : length s.joins.nodes.items < 4294967296

pub record TellsSlotsOf (b : Block) (s : BlockSlots) : Type 0 where
  pub lists : (pc : ℕ) → TellsListAt b b.size pc
      (option_map (λ l. list_at s.forest l.list) (entry s.places.items pc))
  pub common : TellsCommon b b.size s.joins.nodes.items

-- the lists are those that kinds tell
pub record HasLists (kinds : BlockKinds) (places : List (Option Place)) (count : ℕ)
    (s : BlockSlots) : Type 0 where
  pub forest : s.forest ≡ kinds.flow.forest
  pub lists : AreListed kinds places count s.places.items

-- the number of a slot at a place
pub record IsNumber (s : BlockSlots) (pc slot number : ℕ) : Type 0 where
  pub root : Root s.joins.nodes.items slot pc number

pub record HasSlot (b : Block) (s : BlockSlots) (pc slot : ℕ) (kind : Kind) (number : ℕ)
    : Type 0 where
  pub kinds : Kinds
  pub gets : Gets b b.size pc kinds
  pub is : slice_get kinds slot ≡ Some kind
  pub numbered : IsNumber s pc slot number

abbrev pub TellsSlotAt : Block → BlockSlots → (pc slot : ℕ) → Option (Kind × ℕ) → Type 0
TellsSlotAt b s pc slot (Some (kind, number)) = HasSlot b s pc slot kind number
TellsSlotAt b s pc slot None = (ks : Kinds) → Gets b b.size pc ks → slice_get ks slot ≡ None

abbrev pub held_of : Option KindList → ℕ
held_of (Some l) = l.held
held_of None = 0

abbrev pub told_of : BlockSlots → SlotsTold
told_of s = record {
  count = λ pc. option_map (λ l. l.count) (entry s.places.items pc);
  held = λ pc. held_of (entry s.places.items pc);
}
