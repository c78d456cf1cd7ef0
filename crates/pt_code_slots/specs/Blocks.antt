-- What the tables of code that fits tell.
use Rattle.std.specs.Prelude.{◌≡◌, ℕ, ◌<◌, List, length, slice_get, Option, Some}
use Rattle.pt_instr.specs.declared.kinds.Kind.{Kind}
use Rattle.pt_code.specs.declared.CodeBlock.{CodeBlock}
use Rattle.pt_code.specs.declared.Code.{Code}
use Rattle.pt_code.specs.View.{Ins, IsView}
use Rattle.sem_fits.specs.fits.Block.{Block, block_of}
use Rattle.sem_fits.specs.fits.Fits.{Fits}
use Rattle.pt_place_slots.specs.declared.tables.BlockSlots.{BlockSlots}
use Rattle.pt_place_slots.specs.Tables.{IsSound, TellsSlotsOf, TellsSlotAt}
use Rattle.pt_code_slots.specs.declared.blocks.CodeSlots.{CodeSlots}

abbrev pub AllSound : List BlockSlots → Type 0
AllSound all = (n : ℕ) (s : BlockSlots) → slice_get all n ≡ Some s → IsSound s

abbrev pub AreSound : CodeSlots → Type 0
AreSound slots = AllSound slots.blocks.items

-- the tables of a block are there, and tell of it where it fits
pub record HasTables (c : Code) (all : List BlockSlots) (n : ℕ) (b : CodeBlock) : Type 0 where
  pub slots : BlockSlots
  pub is : slice_get all n ≡ Some slots
  pub tells : (view : ℕ → Option Ins) → IsView b view → Fits (block_of c b view)
      → TellsSlotsOf (block_of c b view) slots

-- so it is of the blocks below a number
pub record HasTablesBelow (c : Code) (all : List BlockSlots) (count : ℕ) : Type 0 where
  pub long : length all ≡ count
  pub sound : AllSound all
  pub each : (n : ℕ) (b : CodeBlock) → n < count → slice_get c.blocks n ≡ Some b
      → HasTables c all n b

pub record Tells (c : Code) (slots : CodeSlots) (n : ℕ) (b : CodeBlock) (view : ℕ → Option Ins)
    : Type 0 where
  pub tables : BlockSlots
  pub is : slice_get slots.blocks.items n ≡ Some tables
  pub tells : TellsSlotsOf (block_of c b view) tables

abbrev pub TellsCode : Code → CodeSlots → Type 0
TellsCode c slots = (n : ℕ) (b : CodeBlock) → slice_get c.blocks n ≡ Some b
    → (view : ℕ → Option Ins) → IsView b view → Tells c slots n b view

-- what is told of a slot of a block, by the tables of the block
pub record TellsSlot (b : Block) (slots : CodeSlots) (n pc slot : ℕ) (o : Option (Kind × ℕ))
    : Type 0 where
  pub tables : BlockSlots
  pub is : slice_get slots.blocks.items n ≡ Some tables
  pub told : TellsSlotAt b tables pc slot o
