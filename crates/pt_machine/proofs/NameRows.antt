-- What was done with names is what the machine did.
use Rattle.std.proofs.Common.{◌≡◌, ◌∙◌, ◌++◌, ◌<◌, ◌≤◌, ℕ, List, Bool, Option, refl, sym, ap, subst, length}
use Rattle.pt_tree.specs.Syntax.{Name}
use Rattle.pt_instr.specs.declared.Instr.{Instr}
use Rattle.pt_instr.specs.declared.Instr.TheVariants.{Attr, Import, ImportName}
use Rattle.pt_instr.specs.declared.TextNo.{TextNo}
use Rattle.pt_heap.specs.declared.value.Value.{Value}
use Rattle.pt_heap.specs.declared.object.Object.{Object}
use Rattle.pt_names.specs.Names.{Named}
use Rattle.pt_frames.specs.declared.slot.Slot.{Slot}
use Rattle.pt_frames.specs.Slots.{active_in}
use Rattle.pt_code.specs.View.{Ins}
use Rattle.sem_run.specs.run.Host.{Here}
use Rattle.pt_code_tables.specs.pt_builtins.pt_host.World.{Program, Stores, CodeFacts}
use Rattle.pt_code_tables.specs.pt_builtins.pt_host.HeapHost.{heap_host}
use Rattle.sem_code_machine.specs.rows.Rows.{row_of}
use Rattle.sem_code_machine.specs.code_machine.CodeBlocks.{CodeBlocks}
use Rattle.pt_code_tables.specs.pt_machine_state.pt_code_facts.sem_rows.declared.heap_rows.progress.Progress.{Progress}
use Rattle.pt_code_tables.specs.pt_machine_state.pt_code_facts.sem_rows.heap_rows.RowsIn.{RowsIn, Standpoint}
use Rattle.pt_code_tables.specs.pt_machine_state.pt_code_facts.sem_rows.heap_rows.Told.{told, block_id}
use Rattle.pt_code_tables.specs.pt_machine_state.pt_code_facts.sem_rows.heap_rows.Views.{slots_view, stores_in, world_view}
use Rattle.pt_code_tables.specs.pt_machine_state.pt_code_facts.sem_rows.variables.Numbers.{KnowsNames}
use Rattle.pt_code_tables.specs.pt_machine_state.pt_code_facts.declared.facts.BlockFacts.{BlockFacts}
use Rattle.pt_code_tables.specs.pt_machine_state.pt_code_facts.Facts.{facts_view, facts_at}
use Rattle.pt_attribute_rows.specs.Attributes.{RowsAttribute, RowsNamed}
use Rattle.pt_attribute_rows.specs.Imports.{RowsImport, RowsImportName}
use Rattle.pt_body_rows.specs.pt_name_rows.Names.{RowsLocal, RowsCell, RowsOwnCell, RowsGlobal, RowsLoadGlobal}
use Rattle.pt_code_tables.specs.pt_machine_state.declared.machine.Machine.{Machine}
use Rattle.pt_code_tables.specs.pt_machine_state.Views.{block_of, stores_of}
use Rattle.pt_code_tables.specs.declared.tables.CodeTables.{CodeTables}
use Rattle.pt_code_tables.specs.Tables.{AreTablesOf, HasDifferentNames, text_in, builtin_in, pool_in}
use Rattle.law_frames.specs.Operands.{OperandsNameIn}
use Rattle.pt_machine.specs.Performing.{Performs}
use Rattle.pt_machine.proofs.RowLemmas.{IsTold, keeps, told_row}

-- the instruction names a local name by this number, or one in a cell or a free one
abbrev pub NamesLocal : Instr → ℕ → Type 0
NamesLocal j n = (locals cells : ℕ) (defaults : ℕ → ℕ) → OperandsNameIn locals cells defaults j → n < locals

abbrev pub NamesCell : Instr → ℕ → Type 0
NamesCell j n = (locals cells : ℕ) (defaults : ℕ → ℕ) → OperandsNameIn locals cells defaults j → n < cells

-- facts of the block
abbrev pub AreFacts : CodeTables → Machine → BlockFacts → Type 0
AreFacts tables m f = f ≡ facts_at tables.facts (block_id m.here.block m.here.hidden)

module _ (tables : CodeTables) (j : Instr) (p : Progress) (m : Machine) (f : BlockFacts) (are : AreFacts tables m f) where
  module _ (program : Program) (code : CodeBlocks Value) (known : AreTablesOf program code tables) where
    pub facts-are : program.facts (block_of m.here) ≡ facts_view f
    facts-are = known.facts (block_of m.here) ∙ ap (λ g. facts_view g) (sym are)

    knows : KnowsNames (code.object (block_of m.here)) (facts_view f)
    knows = subst (λ g. KnowsNames (code.object (block_of m.here)) g) facts-are (known.names (block_of m.here))

    different : HasDifferentNames (facts_view f)
    different = subst (λ g. HasDifferentNames g) facts-are (known.are_different (block_of m.here))

    locals-counted : length (program.facts (block_of m.here)).locals ≤ length m.here.locals → length f.locals ≤ length m.here.locals
    locals-counted h = subst (λ (g : CodeFacts). length g.locals ≤ length m.here.locals) facts-are h

    local-within : (n : ℕ) → n < length (program.facts (block_of m.here)).locals → n < length f.locals
    local-within n h = subst (λ (g : CodeFacts). n < length g.locals) facts-are h

    cells-counted : length ((program.facts (block_of m.here)).cells ++ (program.facts (block_of m.here)).frees) ≤ length m.here.cells
        → length (f.cells ++ f.frees) ≤ length m.here.cells
    cells-counted h = subst (λ (g : CodeFacts). length (g.cells ++ g.frees) ≤ length m.here.cells) facts-are h

    cell-within : (n : ℕ) → n < length ((program.facts (block_of m.here)).cells ++ (program.facts (block_of m.here)).frees) → n < length (f.cells ++ f.frees)
    cell-within n h = subst (λ (g : CodeFacts). n < length (g.cells ++ g.frees)) facts-are h

    abbrev at : Here Value → Standpoint
    at h = record { program = program; code = code.object (block_of m.here); here = h }

    -- it leads by these facts where it leads by those of the program
    abbrev Leads : CodeFacts → (slots : List Slot) (old new : CodeFacts → Stores) → Ins → Here Value → Type 0
    Leads g slots old new i h =
        told program (code.object (block_of m.here)) i h p (slots_view slots) (new g)
        ≡ row_of (heap_host program) (code.object (block_of m.here)) m.here.pc.0 i j (slots_view m.here.slots) h (old g)

    pub by-facts : (slots : List Slot) (old new : CodeFacts → Stores) (i : Ins) (h : Here Value) → Leads (facts_view f) slots old new i h
        → Leads (program.facts (block_of m.here)) slots old new i h
    by-facts slots old new i h leads = subst (λ g. Leads g slots old new i h) (sym facts-are) leads

  -- local names

  abbrev with_locals : List Slot → List (Option Value) → Machine
  with_locals slots locals = record m { here = record m.here { slots = slots; locals = locals } }

  module _ (n : ℕ) (slots : List Slot) (locals : List (Option Value)) (named : NamesLocal j n) where
    local-told : RowsLocal f n j m.here.slots m.here.locals p slots locals → IsTold tables j p m (with_locals slots locals)
    unfolding RowsLocal RowsIn
    local-told row program code known can i h is =
        by-facts program code known slots (λ g. stores_in g m.here.locals m.here.cells m.here.names (world_view m.frames m.heap))
        (λ g. stores_in g locals m.here.cells m.here.names (world_view m.frames m.heap)) i h
        (row m.here.cells m.here.names (world_view m.frames m.heap) (record { are_different = (different program code known).locals; count = locals-counted program code known can.locals })
        (local-within program code known n (named _ _ _ can.operands)) (at program code known h) m.here.pc.0 i (known.blocks (block_of m.here)).truths (knows program code known))

    pub local_row : RowsLocal f n j m.here.slots m.here.locals p slots locals → active_in slots ≡ active_in m.here.slots → length locals ≡ length m.here.locals
        → Performs tables j p m (with_locals slots locals)
    local_row row same counted = record { rest = refl; active = keeps p same; row = told_row tables j p m (with_locals slots locals) (local-told row); places = counted }

    pub set_local : ((g : BlockFacts) → RowsLocal g n j m.here.slots m.here.locals p slots locals) → active_in slots ≡ active_in m.here.slots → length locals ≡ length m.here.locals
        → Performs tables j p m (with_locals slots locals)
    set_local row same counted = local_row (row f) same counted

  module _ (n : ℕ) (locals : List (Option Value)) (named : NamesLocal j n) where
    pub deleted_local : ((slots : List Slot) → RowsLocal f n j slots m.here.locals p slots locals) → length locals ≡ length m.here.locals
        → Performs tables j p m (with_locals m.here.slots locals)
    deleted_local row counted = local_row n m.here.slots locals named (row m.here.slots) refl counted

    pub fresh_local : ((g : BlockFacts) (slots : List Slot) → RowsLocal g n j slots m.here.locals p slots locals) → length locals ≡ length m.here.locals
        → Performs tables j p m (with_locals m.here.slots locals)
    fresh_local row counted = local_row n m.here.slots locals named (row f m.here.slots) refl counted

  -- cells

  abbrev with_cells : List Slot → (own : List ℕ) → List (Option Value) → Machine
  with_cells slots own cells = record m { here = record m.here { slots = slots; cells = own }; frames = record m.frames { cells = cells } }

  module _ (n : ℕ) (named : NamesCell j n) where
    module _ (slots : List Slot) (cells : List (Option Value)) where
      cell-told : RowsCell f m.here.cells n j m.here.slots m.frames.cells p slots cells → IsTold tables j p m (with_cells slots m.here.cells cells)
      unfolding RowsCell RowsIn
      cell-told row program code known can i h is =
          by-facts program code known slots (λ g. stores_in g m.here.locals m.here.cells m.here.names (world_view m.frames m.heap))
          (λ g. stores_in g m.here.locals m.here.cells m.here.names (world_view (record m.frames { cells = cells }) m.heap)) i h
          (row m.here.locals m.here.names (world_view m.frames m.heap) (record { are_different = (different program code known).cells; count = cells-counted program code known can.cells })
          (cell-within program code known n (named _ _ _ can.operands))
          (at program code known h) m.here.pc.0 i (known.blocks (block_of m.here)).truths (knows program code known))

      pub cell_row : RowsCell f m.here.cells n j m.here.slots m.frames.cells p slots cells → active_in slots ≡ active_in m.here.slots → Performs tables j p m (with_cells slots m.here.cells cells)
      cell_row row same = record { rest = refl; active = keeps p same; row = told_row tables j p m (with_cells slots m.here.cells cells) (cell-told row); places = refl }

      pub set_cell : ((g : BlockFacts) → RowsCell g m.here.cells n j m.here.slots m.frames.cells p slots cells) → active_in slots ≡ active_in m.here.slots
          → Performs tables j p m (with_cells slots m.here.cells cells)
      set_cell row same = cell_row (row f) same

    pub loaded_cell : (slots : List Slot) → RowsCell f m.here.cells n j m.here.slots m.frames.cells p slots m.frames.cells → active_in slots ≡ active_in m.here.slots
        → Performs tables j p m (record m { here = record m.here { slots = slots } })
    loaded_cell slots row same = cell_row slots m.frames.cells row same

    pub pushed_cell : (slots : List Slot) → ((g : BlockFacts) (cells : List (Option Value)) → RowsCell g m.here.cells n j m.here.slots cells p slots cells)
        → active_in slots ≡ active_in m.here.slots → Performs tables j p m (record m { here = record m.here { slots = slots } })
    pushed_cell slots row same = cell_row slots m.frames.cells (row f m.frames.cells) same

    pub deleted_cell : (cells : List (Option Value)) → ((slots : List Slot) → RowsCell f m.here.cells n j slots m.frames.cells p slots cells)
        → Performs tables j p m (record m { frames = record m.frames { cells = cells } })
    deleted_cell cells row = cell_row m.here.slots cells (row m.here.slots) refl

    own-told : (own : List ℕ) (cells : List (Option Value)) → RowsOwnCell f n j m.here.cells m.frames.cells p own cells → IsTold tables j p m (with_cells m.here.slots own cells)
    unfolding RowsOwnCell RowsIn
    own-told own cells row program code known can i h is =
        by-facts program code known m.here.slots (λ g. stores_in g m.here.locals m.here.cells m.here.names (world_view m.frames m.heap))
        (λ g. stores_in g m.here.locals own m.here.names (world_view (record m.frames { cells = cells }) m.heap)) i h
        (row m.here.slots m.here.locals m.here.names (world_view m.frames m.heap) (record { are_different = (different program code known).cells; count = cells-counted program code known can.cells })
        (cell-within program code known n (named _ _ _ can.operands))
        (at program code known h) m.here.pc.0 i (known.blocks (block_of m.here)).truths (knows program code known))

    pub fresh_cell : (own : List ℕ) (cells : List (Option Value)) → RowsOwnCell f n j m.here.cells m.frames.cells p own cells
        → Performs tables j p m (record m { here = record m.here { cells = own }; frames = record m.frames { cells = cells } })
    fresh_cell own cells row = record { rest = refl; active = keeps p refl; row = told_row tables j p m (with_cells m.here.slots own cells) (own-told own cells row); places = refl }

-- names of the module

module _ (tables : CodeTables) (j : Instr) (p : Progress) (m : Machine) where
  abbrev with_globals : List Slot → Named → Machine
  with_globals slots globals = record m { here = record m.here { slots = slots }; frames = record m.frames { globals = globals } }

  abbrev pub stands : (program : Program) (code : CodeBlocks Value) → Here Value → Standpoint
  stands program code h = record { program = program; code = code.object (block_of m.here); here = h }

  module _ (t : ℕ) where
    global-told : (slots : List Slot) (globals : Named) → RowsGlobal (text_in (pool_in tables m.here.hidden) t) j t m.here.slots m.frames.globals p slots globals → IsTold tables j p m (with_globals slots globals)
    unfolding RowsGlobal RowsIn
    global-told slots globals row program code known can i h is =
        row (stores_of program m) (stands program code h) m.here.pc.0 i (known.blocks (block_of m.here)).truths ((known.pools (block_of m.here)).texts t)

    pub global_row : (slots : List Slot) (globals : Named) → RowsGlobal (text_in (pool_in tables m.here.hidden) t) j t m.here.slots m.frames.globals p slots globals
        → active_in slots ≡ active_in m.here.slots → Performs tables j p m (with_globals slots globals)
    global_row slots globals row same = record { rest = refl; active = keeps p same; row = told_row tables j p m (with_globals slots globals) (global-told slots globals row); places = refl }

    deleted_global : (globals : Named) → ((slots : List Slot) → RowsGlobal (text_in (pool_in tables m.here.hidden) t) j t slots m.frames.globals p slots globals)
        → Performs tables j p m (record m { frames = record m.frames { globals = globals } })
    deleted_global globals row = global_row m.here.slots globals (row m.here.slots) refl

    pub deleted_by : (x : Name) → x ≡ text_in (pool_in tables m.here.hidden) t → (globals : Named) → ((slots : List Slot) → RowsGlobal x j t slots m.frames.globals p slots globals)
        → Performs tables j p m (record m { frames = record m.frames { globals = globals } })
    deleted_by x is globals row = deleted_global globals (λ slots. subst (λ y. RowsGlobal y j t slots m.frames.globals p slots globals) is (row slots))

    load-told : (slots : List Slot) → RowsLoadGlobal m.here.hidden (text_in (pool_in tables m.here.hidden) t) (builtin_in (pool_in tables m.here.hidden) t) j t m.here.slots m.frames.globals p slots → IsTold tables j p m (with_globals slots m.frames.globals)
    unfolding RowsLoadGlobal RowsIn
    load-told slots row program code known can i h is =
        row (stores_of program m) (known.builtins m.here.hidden t) (stands program code h) m.here.pc.0 i (known.blocks (block_of m.here)).truths
        (record { is_text = (known.pools (block_of m.here)).texts t; is_hidden = ap (λ k. k.hidden) is })

    pub load_row : (slots : List Slot) → RowsLoadGlobal m.here.hidden (text_in (pool_in tables m.here.hidden) t) (builtin_in (pool_in tables m.here.hidden) t) j t m.here.slots m.frames.globals p slots
        → active_in slots ≡ active_in m.here.slots → Performs tables j p m (record m { here = record m.here { slots = slots } })
    load_row slots row same = record { rest = refl; active = keeps p same; row = told_row tables j p m (with_globals slots m.frames.globals) (load-told slots row); places = refl }

-- attributes

module _ (tables : CodeTables) (t : TextNo) (p : Progress) (m : Machine) (slots : List Slot) (heap : List Object) where
  abbrev with_heap : Machine
  with_heap = record m { here = record m.here { slots = slots }; heap = heap }

  attribute-told : RowsAttribute tables.facts (text_in (pool_in tables m.here.hidden) t.0) t m.here.slots m.heap p slots heap → IsTold tables (Attr t) p m with_heap
  unfolding RowsAttribute RowsIn
  attribute-told row program code known can i h is =
      row (stores_of program m) (stands tables (Attr t) p m program code h) m.here.pc.0 i (known.blocks (block_of m.here)).truths
      (known.facts, (known.pools (block_of m.here)).texts t.0)

  pub attribute_row : RowsAttribute tables.facts (text_in (pool_in tables m.here.hidden) t.0) t m.here.slots m.heap p slots heap → active_in slots ≡ active_in m.here.slots
      → Performs tables (Attr t) p m with_heap
  attribute_row row same = record { rest = refl; active = keeps p same; row = told_row tables (Attr t) p m with_heap (attribute-told row); places = refl }

  module _ (j : Instr) where
    named-told : RowsNamed (text_in (pool_in tables m.here.hidden) t.0) t j m.here.slots m.heap p slots heap → IsTold tables j p m with_heap
    unfolding RowsNamed RowsIn
    named-told row program code known can i h is =
        row (stores_of program m) (stands tables j p m program code h) m.here.pc.0 i (known.blocks (block_of m.here)).truths ((known.pools (block_of m.here)).texts t.0)

    pub named_row : RowsNamed (text_in (pool_in tables m.here.hidden) t.0) t j m.here.slots m.heap p slots heap → active_in slots ≡ active_in m.here.slots
        → Performs tables j p m with_heap
    named_row row same = record { rest = refl; active = keeps p same; row = told_row tables j p m with_heap (named-told row); places = refl }

-- modules and their names

module _ (tables : CodeTables) (t : TextNo) (p : Progress) (m : Machine) (slots : List Slot) where
  abbrev with_slots : Machine
  with_slots = record m { here = record m.here { slots = slots } }

  import-told : RowsImport (text_in (pool_in tables m.here.hidden) t.0) t m.here.slots p slots → IsTold tables (Import t) p m with_slots
  unfolding RowsImport RowsIn
  import-told row program code known can i h is =
      row (stores_of program m) (stands tables (Import t) p m program code h) m.here.pc.0 i (known.blocks (block_of m.here)).truths ((known.pools (block_of m.here)).texts t.0)

  pub import_row : RowsImport (text_in (pool_in tables m.here.hidden) t.0) t m.here.slots p slots → active_in slots ≡ active_in m.here.slots → Performs tables (Import t) p m with_slots
  import_row row same = record { rest = refl; active = keeps p same; row = told_row tables (Import t) p m with_slots (import-told row); places = refl }

  module _ (heap : List Object) where
    import-name-told : RowsImportName tables.facts (text_in (pool_in tables m.here.hidden) t.0) t m.here.slots m.heap p slots heap → IsTold tables (ImportName t) p m (record with_slots { heap = heap })
    unfolding RowsImportName RowsIn
    import-name-told row program code known can i h is =
        row (stores_of program m) (stands tables (ImportName t) p m program code h) m.here.pc.0 i (known.blocks (block_of m.here)).truths
        (known.facts, (known.pools (block_of m.here)).texts t.0)

    pub import_name_row : RowsImportName tables.facts (text_in (pool_in tables m.here.hidden) t.0) t m.here.slots m.heap p slots heap → active_in slots ≡ active_in m.here.slots
        → Performs tables (ImportName t) p m (record m { here = record m.here { slots = slots }; heap = heap })
    import_name_row row same =
        record { rest = refl; active = keeps p same; row = told_row tables (ImportName t) p m (record with_slots { heap = heap }) (import-name-told row); places = refl }
