-- When code makes functions as rows say (Language Reference 6.14, 8.7).
use Rattle.std.specs.Prelude.{◌≡◌, ℕ, List, Bool}
use Rattle.pt_tree.specs.Syntax.{Name}
use Rattle.pt_instr.specs.declared.Instr.{Instr}
use Rattle.pt_heap.specs.declared.object.Object.{Object}
use Rattle.pt_frames.specs.declared.slot.Slot.{Slot}
use Rattle.pt_moves.specs.sem_rows.pt_host.World.{Stores, with_objects}
use Rattle.pt_moves.specs.sem_rows.declared.heap_rows.progress.Progress.{Progress}
use Rattle.pt_moves.specs.sem_rows.heap_rows.RowsIn.{Standpoint, RowsIn}

-- the operands name these names of defaults and a block that takes so many cells along, and the block that makes the function is
-- hidden or not
pub record MakesFunction (xs : List Name) (l : ℕ) (captures : ℕ) (hidden : Bool) (b : ℕ) (s : Standpoint) : Type 0 where
  pub names : s.code.pool.texts l ≡ xs
  pub captured : s.code.pool.captures b ≡ captures
  pub is_hidden : s.here.block.hidden ≡ hidden

unfoldable pub RowsFunction : List Name → (l : ℕ) → (captures : ℕ) → (hidden : Bool) → (b : ℕ) → Instr
    → (old : List Slot) (heap : List Object) → Progress → (new : List Slot) (grown : List Object) → Type 0
RowsFunction xs l captures hidden b j old heap p new grown =
    (st : Stores) → RowsIn (λ s. MakesFunction xs l captures hidden b s) j old (with_objects heap st) p new (with_objects grown st)
