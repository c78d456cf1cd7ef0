-- What is known of the slots of a block, and how jumps are answered by it (Library Reference,
-- "inspect": `f_lineno`).
use Rattle.std.specs.Prelude.{◌≡◌, ℕ, zero, suc, Bool, false, not, if◌then◌else◌, MatchBool, List, slice_get, Option, Some, None}
use Rattle.pt_code.specs.declared.CodeBlock.{CodeBlock}
use Rattle.pt_code.specs.declared.Code.{Code}
use Rattle.pt_code.specs.declared.Start.{Start}
use Rattle.pt_code.specs.View.{Ins, IsView}
use Rattle.sem_fits.specs.fits.Block.{Block, block_of}
use Rattle.sem_fits.specs.fits.Leaves.{Common}
use Rattle.sem_fits.specs.fits.Jumps.{Answer, no_statement, out_of_finally, into_block, lands}
use Rattle.pt_jump.specs.Slots.{SlotsTold, TellsSlots, size_at, held_at}
use Rattle.pt_jump.specs.Targets.{first_on}

-- how many slots lie at each place, those that hold completions, and whether a slot, counted from
-- the lowest, is the same at two places
pub record SlotsKnown : Type 0 where
  pub told : SlotsTold
  pub is_shared : (slot one other : ℕ) → Bool

-- what is known is so
pub record KnowsSlots (b : Block) (k : SlotsKnown) : Type 0 where
  pub told : TellsSlots b k.told
  pub shared : (slot q r : ℕ) → MatchBool (k.is_shared slot q r) (Common b b.size slot q r)
      (Common b b.size slot q r → ⊥)

-- of each block of a code, by its number
pub record KnowsCode (c : Code) (known : ℕ → SlotsKnown) : Type 0 where
  pub each : (n : ℕ) (b : CodeBlock) → slice_get c.blocks n ≡ Some b → (view : ℕ → Option Ins)
      → IsView b view → KnowsSlots (block_of c b view) (known n)

-- the topmost of so many slots isn't the same at two places
abbrev pub is_apart : SlotsKnown → (from to count : ℕ) → Bool
is_apart k q r zero = false
is_apart k q r (suc slot) = not (k.is_shared slot q r)

-- the answer to a jump to a place: the slots that hold completions come first
abbrev pub answer_at : SlotsKnown → (from to : ℕ) → Answer
answer_at k q r =
    if is_apart k q r (held_at k.told q r) then out_of_finally
    else (if is_apart k q r (size_at k.told r) then into_block else lands r (size_at k.told r))

abbrev pub answer_to : SlotsKnown → (from : ℕ) → Option ℕ → Answer
answer_to k q None = no_statement
answer_to k q (Some r) = answer_at k q r

-- the answer to a jump to a line, with the starts of the block's statements
abbrev pub answer_by : SlotsKnown → List Start → (from line : ℕ) → Answer
answer_by k starts q line = answer_to k q (first_on k.told line None starts)
