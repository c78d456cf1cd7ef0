-- What was done with calls, and where functions are made, is what the machine did.
use Rattle.std.proofs.Common.{◌≡◌, ◌∙◌, ℕ, List, Option, refl, sym, ap, subst, length}
use Rattle.pt_base.specs.declared.numbers.BlockId.{BlockId}
use Rattle.pt_tree.specs.Syntax.{Name}
use Rattle.pt_instr.specs.declared.Instr.{Instr}
use Rattle.pt_instr.specs.declared.Instr.TheVariants as instr
use Rattle.pt_instr.specs.declared.ListNo.{ListNo}
use Rattle.pt_heap.specs.declared.value.Value.{Value}
use Rattle.pt_heap.specs.declared.object.Object.{Object}
use Rattle.pt_frames.specs.declared.slot.Slot.{Slot}
use Rattle.pt_frames.specs.Slots.{active_in}
use Rattle.pt_code_tables.specs.pt_machine_state.pt_code_facts.sem_rows.declared.heap_rows.progress.Progress.{Progress}
use Rattle.pt_code_tables.specs.pt_machine_state.pt_code_facts.sem_rows.heap_rows.RowsIn.{RowsIn}
use Rattle.pt_code_tables.specs.pt_machine_state.pt_code_facts.sem_rows.heap_rows.Told.{told}
use Rattle.pt_code_tables.specs.pt_machine_state.pt_code_facts.sem_rows.heap_rows.Views.{names_in, slots_view}
use Rattle.pt_code_tables.specs.pt_machine_state.pt_code_facts.declared.facts.BlockFacts.{BlockFacts}
use Rattle.pt_code.specs.View.{Ins}
use Rattle.sem_run.specs.run.Host.{Here}
use Rattle.pt_code_tables.specs.pt_builtins.pt_host.World.{CodeFacts, Program}
use Rattle.pt_code_tables.specs.pt_builtins.pt_host.HeapHost.{heap_host}
use Rattle.sem_code_machine.specs.rows.Rows.{row_of}
use Rattle.sem_code_machine.specs.code_machine.CodeBlocks.{CodeBlocks}
use Rattle.pt_operation_rows.specs.pt_call_rows.CallRows.{KnowsRunning, RowsCall, RowsNamedCall}
use Rattle.pt_operation_rows.specs.pt_call_rows.pt_block_calls.BlockCalls.{RowsOperation}
use Rattle.pt_operation_rows.specs.pt_call_rows.pt_class_rows.Calls.{Running, running}
use Rattle.pt_operation_rows.specs.pt_call_rows.pt_class_rows.Classes.{RowsClass}
use Rattle.pt_operation_rows.specs.pt_call_rows.pt_function_rows.FunctionRows.{RowsFunction}
use Rattle.pt_code_tables.specs.pt_machine_state.declared.machine.Machine.{Machine}
use Rattle.pt_code_tables.specs.pt_machine_state.Views.{block_of, stores_of}
use Rattle.pt_code_tables.specs.declared.tables.CodeTables.{CodeTables}
use Rattle.pt_code_tables.specs.Tables.{AreTablesOf, list_in, capture_in, pool_in}
use Rattle.pt_machine.specs.Performing.{Performs}
use Rattle.pt_machine.proofs.RowLemmas.{IsTold, keeps, told_row}
use Rattle.pt_machine.proofs.NameRows.{AreFacts, facts-are, stands}

-- what changes slots, cells and the heap
module _ (tables : CodeTables) (j : Instr) (p : Progress) (m : Machine) where
  abbrev changed : List Slot → List (Option Value) → List Object → Machine
  changed slots cells heap = record m { here = record m.here { slots = slots }; frames = record m.frames { cells = cells }; heap = heap }

  operated-told : (slots : List Slot) (cells : List (Option Value)) (heap : List Object)
      → RowsOperation j tables.facts m.here.slots m.frames.cells m.heap p slots cells heap → IsTold tables j p m (changed slots cells heap)
  unfolding RowsOperation RowsIn
  operated-told slots cells heap row program code known can i h is =
      row (stores_of program m) (stands tables j p m program code h) m.here.pc.0 i (known.blocks (block_of m.here)).truths known.facts

  pub operated : (slots : List Slot) (cells : List (Option Value)) (heap : List Object)
      → RowsOperation j tables.facts m.here.slots m.frames.cells m.heap p slots cells heap → active_in slots ≡ active_in m.here.slots
      → Performs tables j p m (changed slots cells heap)
  operated slots cells heap row same =
      record { rest = refl; active = keeps p same; row = told_row tables j p m (changed slots cells heap) (operated-told slots cells heap row); places = refl }

module _ (tables : CodeTables) (j : Instr) (p : Progress) (m : Machine) (f : BlockFacts) (are : AreFacts tables m f) where
  abbrev with_cells : List Slot → List (Option Value) → List Object → Machine
  with_cells slots cells heap = record m { here = record m.here { slots = slots }; frames = record m.frames { cells = cells }; heap = heap }

  abbrev here : Running
  here = running f m.here.locals m.here.cells m.here.names

  -- the block that runs, with its names
  runs : (program : Program) (code : CodeBlocks Value) → AreTablesOf program code tables → (h : Here Value) → h.block ≡ block_of m.here
      → KnowsRunning tables.facts here program h (stores_of program m)
  runs program code known h is = (
    known.facts,
    record {
      facts = ap (λ b. program.facts b) is ∙ facts-are tables j p m f are program code known;
      names = ap (λ (g : CodeFacts). names_in g m.here.locals m.here.cells m.here.names) (facts-are tables j p m f are program code known);
    },
  )

  module _ (slots : List Slot) (cells : List (Option Value)) (heap : List Object) where
    call-told : RowsCall tables.facts here j m.here.slots m.frames.cells m.heap p slots cells heap → IsTold tables j p m (with_cells slots cells heap)
    unfolding RowsCall RowsIn
    call-told row program code known can i h is =
        row (stores_of program m) (stands tables j p m program code h) m.here.pc.0 i (known.blocks (block_of m.here)).truths (runs program code known h is)

    pub called : RowsCall tables.facts here j m.here.slots m.frames.cells m.heap p slots cells heap → active_in slots ≡ active_in m.here.slots
        → Performs tables j p m (with_cells slots cells heap)
    called row same = record { rest = refl; active = keeps p same; row = told_row tables j p m (with_cells slots cells heap) (call-told row); places = refl }

    named-told : (l : ℕ) → RowsNamedCall (list_in (pool_in tables m.here.hidden) l) l tables.facts here j m.here.slots m.frames.cells m.heap p slots cells heap
        → IsTold tables j p m (with_cells slots cells heap)
    unfolding RowsNamedCall RowsIn
    named-told l row program code known can i h is =
        row (stores_of program m) (stands tables j p m program code h) m.here.pc.0 i (known.blocks (block_of m.here)).truths
        (runs program code known h is, (known.pools (block_of m.here)).lists l)

    pub called_with_names : (l : ℕ) → RowsNamedCall (list_in (pool_in tables m.here.hidden) l) l tables.facts here j m.here.slots m.frames.cells m.heap p slots cells heap
        → active_in slots ≡ active_in m.here.slots → Performs tables j p m (with_cells slots cells heap)
    called_with_names l row same = record { rest = refl; active = keeps p same; row = told_row tables j p m (with_cells slots cells heap) (named-told l row); places = refl }

-- the body of a class begins
module _ (tables : CodeTables) (p : Progress) (m : Machine) (b : BlockId) (slots : List Slot) (cells : List (Option Value)) where
  abbrev with_body : Machine
  with_body = record m { here = record m.here { slots = slots }; frames = record m.frames { cells = cells } }

  class-told : RowsClass tables.facts (capture_in (pool_in tables m.here.hidden) b.0) m.here.hidden b m.here.slots m.frames.cells p slots cells
      → IsTold tables (instr.MakeClass b) p m with_body
  unfolding RowsClass RowsIn
  class-told row program code known can i h is =
      row (stores_of program m) (stands tables (instr.MakeClass b) p m program code h) m.here.pc.0 i (known.blocks (block_of m.here)).truths
      (known.facts, ((known.pools (block_of m.here)).captures b.0, ap (λ k. k.hidden) is))

  pub class_by : (k : ℕ) → k ≡ capture_in (pool_in tables m.here.hidden) b.0 → RowsClass tables.facts k m.here.hidden b m.here.slots m.frames.cells p slots cells
      → active_in slots ≡ active_in m.here.slots → Performs tables (instr.MakeClass b) p m with_body
  class_by k captured row same =
      record {
        rest = refl;
        active = keeps p same;
        row = told_row tables (instr.MakeClass b) p m with_body
            (class-told (subst (λ i. RowsClass tables.facts i m.here.hidden b m.here.slots m.frames.cells p slots cells) captured row));
        places = refl;
      }

-- a function is made, where the instruction counts as many names as the list has
module _ (tables : CodeTables) (p : Progress) (m : Machine) (b : BlockId) (l : ListNo) (slots : List Slot) (heap : List Object) where
  abbrev with_heap : Machine
  with_heap = record m { here = record m.here { slots = slots }; heap = heap }

  abbrev Made : ℕ → Type 0
  Made n = RowsFunction (list_in (pool_in tables m.here.hidden) l.0) l.0 (capture_in (pool_in tables m.here.hidden) b.0) m.here.hidden b.0 (instr.MakeFunction b n l) m.here.slots m.heap p slots heap

  told-by : (n : ℕ) → Made n → (program : Program) (code : CodeBlocks Value) → AreTablesOf program code tables → (i : Ins) (h : Here Value) → h.block ≡ block_of m.here
      → told program (code.object (block_of m.here)) i h p (slots_view slots) (stores_of program with_heap)
      ≡ row_of (heap_host program) (code.object (block_of m.here)) m.here.pc.0 i (instr.MakeFunction b n l) (slots_view m.here.slots) h (stores_of program m)
  unfolding RowsFunction RowsIn
  told-by n row program code known i h is =
      row (stores_of program m) (stands tables (instr.MakeFunction b n l) p m program code h) m.here.pc.0 i (known.blocks (block_of m.here)).truths
      (record { names = (known.pools (block_of m.here)).lists l.0; captured = (known.pools (block_of m.here)).captures b.0; is_hidden = ap (λ k. k.hidden) is })

  function-told : (n : ℕ) → Made (length (list_in (pool_in tables m.here.hidden) l.0)) → IsTold tables (instr.MakeFunction b n l) p m with_heap
  function-told n row program code known can i h is =
      let count : n ≡ length (list_in (pool_in tables m.here.hidden) l.0) = can.operands ∙ ap (λ xs. length xs) ((known.pools (block_of m.here)).lists l.0) in
      told-by n (subst (λ k. Made k) (sym count) row) program code known i h is

  pub made_by : (n : ℕ) (xs : List Name) (k : ℕ) → xs ≡ list_in (pool_in tables m.here.hidden) l.0 → k ≡ capture_in (pool_in tables m.here.hidden) b.0
      → RowsFunction xs l.0 k m.here.hidden b.0 (instr.MakeFunction b (length xs) l) m.here.slots m.heap p slots heap → active_in slots ≡ active_in m.here.slots
      → Performs tables (instr.MakeFunction b n l) p m with_heap
  made_by n xs k names captured row same =
      let made : Made (length (list_in (pool_in tables m.here.hidden) l.0)) =
      subst (λ ys. RowsFunction ys l.0 (capture_in (pool_in tables m.here.hidden) b.0) m.here.hidden b.0 (instr.MakeFunction b (length ys) l) m.here.slots m.heap p slots heap) names
      (subst (λ i. RowsFunction xs l.0 i m.here.hidden b.0 (instr.MakeFunction b (length xs) l) m.here.slots m.heap p slots heap) captured row) in
      record { rest = refl; active = keeps p same; row = told_row tables (instr.MakeFunction b n l) p m with_heap (function-told n made); places = refl }
