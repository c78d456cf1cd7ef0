-- When code runs the body of a class, of which the class is made then, as its row says (Language Reference 8.8).
use Rattle.std.specs.Prelude.{◌≡◌, ◌+◌, ◌++◌, ℕ, List, [], ◌∷◌, Bool, length, Option, None, if◌then◌else◌}
use Rattle.pt_base.specs.declared.numbers.BlockId.{BlockId}
use Rattle.pt_heap.specs.declared.value.Value.{Value}
use Rattle.pt_bind.specs.NameSets.{is_among}
use Rattle.pt_bind.specs.declared.arguments.Locals.{Locals}
use Rattle.pt_frames.specs.declared.slot.Slot.{Slot}
use Rattle.pt_instr.specs.declared.Instr.TheVariants as instr
use Rattle.pt_moves.specs.sem_rows.pt_host.World.{Stores, class_variable}
use Rattle.pt_moves.specs.sem_rows.pt_host.Classes.{cell_if, with_own_cell}
use Rattle.pt_moves.specs.sem_rows.declared.heap_rows.progress.Progress.{Progress}
use Rattle.pt_moves.specs.sem_rows.heap_rows.RowsIn.{RowsIn}
use Rattle.pt_function_rows.specs.pt_code_facts.declared.facts.BlockFacts.{BlockFacts}
use Rattle.pt_function_rows.specs.pt_code_facts.declared.facts.Blocks.{Blocks}
use Rattle.pt_function_rows.specs.pt_code_facts.Facts.{facts_view, KnowsBlocks}
use Rattle.pt_function_rows.specs.Openings.{first_values_of, given_cells, numbers_from}
use Rattle.pt_class_rows.specs.Calls.{with_parts}

-- the number of the cell behind those of a block, which is that of the class
abbrev pub next_number : BlockFacts → (cells : List (Option Value)) → ℕ
next_number facts cells = length cells + length facts.cells

abbrev pub own_cells : BlockFacts → List (Option Value)
own_cells facts = if is_among facts.frees class_variable then None ∷ [] else []

-- the names of the body begin so, and so do the cells, of which one may be that of the class
pub record OpensBody (facts : BlockFacts) (along : List ℕ) (cells : List (Option Value)) (ls : Locals) (cell : Option ℕ) (changed : List (Option Value)) : Type 0 where
  pub values : ls.values ≡ first_values_of facts [] facts.locals
  pub numbers : ls.cells ≡ numbers_from (length cells) facts.cells ++ with_own_cell (next_number facts cells) facts.frees along
  pub cell_is : cell ≡ cell_if (facts_view facts) (next_number facts cells)
  pub changes : changed ≡ (cells ++ given_cells facts [] facts.cells) ++ own_cells facts

unfoldable pub RowsClass : Blocks → (captures : ℕ) → (hidden : Bool) → BlockId → (old : List Slot) (cells : List (Option Value))
    → Progress → (new : List Slot) (changed : List (Option Value)) → Type 0
RowsClass blocks captures hidden b old cells p new changed =
    (st : Stores)
    → RowsIn (λ s. KnowsBlocks s.program blocks × ((s.code.pool.captures b.0 ≡ captures) × (s.here.block.hidden ≡ hidden))) (instr.MakeClass b)
    old (with_parts cells st.world.heap st) p new (with_parts changed st.world.heap st)
