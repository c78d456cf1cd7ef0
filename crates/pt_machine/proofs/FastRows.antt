-- What was done by a fast path is what the machine did.
use Rattle.std.proofs.Common.{◌≡◌, ◌∙◌, ℕ, List, Option, Some, None, false, length, refl, sym, ap, subst}
use Rattle.pt_base.specs.declared.numbers.Pc.{Pc}
use Rattle.pt_tree.specs.Syntax.{Name}
use Rattle.pt_instr.specs.declared.Instr.{Instr}
use Rattle.pt_instr.specs.declared.Instr.TheVariants as instr
use Rattle.pt_instr.specs.declared.ConstNo.{ConstNo}
use Rattle.pt_instr.specs.declared.TextNo.{TextNo}
use Rattle.pt_heap.specs.declared.value.Value.{Value}
use Rattle.pt_names.specs.Names.{Named}
use Rattle.pt_frames.specs.declared.slot.Slot.{Slot}
use Rattle.pt_code_tables.specs.pt_machine_state.pt_code_facts.sem_rows.declared.heap_rows.progress.Progress.TheVariants as progress
use Rattle.pt_code_tables.specs.pt_machine_state.pt_code_facts.declared.facts.BlockFacts.{BlockFacts}
use Rattle.pt_code_tables.specs.pt_machine_state.pt_code_facts.Facts.{facts_at}
use Rattle.pt_code_tables.specs.pt_machine_state.pt_code_facts.sem_rows.heap_rows.Told.{block_id}
use Rattle.pt_body_rows.specs.pt_name_rows.pt_moves.Operands.{RowsConstant}
use Rattle.pt_body_rows.proofs.pt_name_rows.pt_moves.MoveLemmas.{jump_row}
use Rattle.pt_body_rows.specs.pt_name_rows.Names.{RowsGlobal, RowsLoadGlobal}
use Rattle.pt_fast_rows.specs.FastPaths.{FastRow, FastConstant, FastLocal, FastCell, FastLoad, FastGlobal, Leads, Led}
use Rattle.pt_code_tables.specs.pt_machine_state.declared.machine.Machine.{Machine}
use Rattle.pt_code_tables.specs.declared.tables.CodeTables.{CodeTables}
use Rattle.pt_code_tables.specs.Tables.{constant_in, text_in, builtin_in, pool_in}
use Rattle.pt_machine.specs.Performing.{Performs}
use Rattle.pt_machine.proofs.RowLemmas.{still_row, heap_row, constant_row, of_instr}
use Rattle.pt_machine.proofs.NameRows.{NamesLocal, NamesCell, local_row, cell_row, global_row, load_row}

module _ (tables : CodeTables) (next : Pc) (m : Machine) where
  -- the machine did the row and is such then, or nothing was done
  abbrev Fast : Instr → Option Pc → Machine → Type 0
  Fast j o new = Leads next o (λ p. Performs tables j p m new) (new ≡ m)

  abbrev with_slots : List Slot → Machine
  with_slots slots = record m { here = record m.here { slots = slots } }

  module _ (k j : Instr) (is : k ≡ j) where
    pub fast_row : (o : Option Pc) (slots : List Slot) → Leads next o (λ p. FastRow j p m.here.slots slots) (slots ≡ m.here.slots)
        → Fast k o (with_slots slots)
    fast_row (Some pc) slots led =
        record {
          progress = led.progress;
          to = led.to;
          row =
              of_instr is (heap_row tables j led.progress m slots m.heap (led.row.0 m.heap) led.row.1);
        }
    fast_row None slots left = ap with_slots left

  module _ (k : Instr) (number : ConstNo) (is : k ≡ instr.Const number) where
    pub fast_constant : (v : Value) (o : Option Pc) (slots : List Slot) → Leads next o (λ p. FastConstant v p m.here.slots slots) (slots ≡ m.here.slots)
        → v ≡ constant_in (pool_in tables m.here.hidden) number.0 → Fast k o (with_slots slots)
    fast_constant v (Some pc) slots led same =
        record {
          progress = led.progress;
          to = led.to;
          row = of_instr is (constant_row tables number led.progress m slots
              (subst (λ w. RowsConstant w m.here.slots led.progress slots) same led.row.0) led.row.1);
        }
    fast_constant v None slots left same = ap with_slots left

  pub fast_jump : (k : Instr) (to : Pc) → k ≡ instr.Jump to → Led next to (λ p. Performs tables k p m m)
  fast_jump k to is = record {
    progress = progress.Goto to;
    to = refl;
    row =
        of_instr is (still_row tables (instr.Jump to) (progress.Goto to) m (λ slots. jump_row to slots));
  }

  module _ (k : Instr) (t : TextNo) where
    -- of the module, in a block that isn't hidden
    pub fast_load : m.here.hidden ≡ false → k ≡ instr.Global t → (x : Name) (o : Option Pc) (slots : List Slot)
        → Leads next o (λ p. FastLoad x (instr.Global t) t.0 p m.here.slots m.frames.globals slots) (slots ≡ m.here.slots)
        → x ≡ text_in (pool_in tables m.here.hidden) t.0 → Fast k o (with_slots slots)
    fast_load seen is x (Some pc) slots led same =
        record {
          progress = led.progress;
          to = led.to;
          row = of_instr is (load_row tables (instr.Global t) led.progress m t.0 slots
              (subst (λ y. RowsLoadGlobal m.here.hidden y (builtin_in (pool_in tables m.here.hidden) t.0) (instr.Global t) t.0 m.here.slots m.frames.globals led.progress slots) same
              (subst (λ b. RowsLoadGlobal b x (builtin_in (pool_in tables m.here.hidden) t.0) (instr.Global t) t.0 m.here.slots m.frames.globals led.progress slots) (sym seen)
              (led.row.0 (builtin_in (pool_in tables m.here.hidden) t.0)))) led.row.1);
        }
    fast_load seen is x None slots left same = ap with_slots left

    abbrev with_globals : List Slot → Named → Machine
    with_globals slots globals = record m { here = record m.here { slots = slots }; frames = record m.frames { globals = globals } }

    pub fast_store : k ≡ instr.SetGlobal t → (x : Name) (o : Option Pc) (slots : List Slot) (globals : Named)
        → Leads next o (λ p. FastGlobal x (instr.SetGlobal t) t.0 p m.here.slots m.frames.globals slots globals)
        ((slots ≡ m.here.slots) × (globals ≡ m.frames.globals))
        → x ≡ text_in (pool_in tables m.here.hidden) t.0 → Fast k o (with_globals slots globals)
    fast_store is x (Some pc) slots globals led same =
        record {
          progress = led.progress;
          to = led.to;
          row = of_instr is (global_row tables (instr.SetGlobal t) led.progress m t.0 slots globals
              (subst (λ y. RowsGlobal y (instr.SetGlobal t) t.0 m.here.slots m.frames.globals led.progress slots globals) same led.row.0) led.row.1);
        }
    fast_store is x None slots globals left same = ap (λ s. with_globals s globals) left.0 ∙ ap (λ g. with_globals m.here.slots g) left.1

  abbrev with_locals : List Slot → List (Option Value) → Machine
  with_locals slots locals = record m { here = record m.here { slots = slots; locals = locals } }

  -- whether the block is hidden or not
  abbrev facts_here : BlockFacts
  facts_here = facts_at tables.facts (block_id m.here.block m.here.hidden)

  module _ (k j : Instr) (is : k ≡ j) (n : ℕ) (named : NamesLocal j n) where
    pub fast_local : (o : Option Pc) (slots : List Slot)
        → Leads next o (λ p. FastLocal j n p m.here.slots m.here.locals slots m.here.locals) (slots ≡ m.here.slots)
        → Fast k o (with_slots slots)
    fast_local (Some pc) slots led =
        record {
          progress = led.progress;
          to = led.to;
          row =
              of_instr is (local_row tables j led.progress m facts_here refl n slots m.here.locals named (led.row.0 facts_here) led.row.1 refl);
        }
    fast_local None slots left = ap with_slots left

    pub fast_set_local : (o : Option Pc) (slots : List Slot) (locals : List (Option Value))
        → Leads next o (λ p. FastLocal j n p m.here.slots m.here.locals slots locals) ((slots ≡ m.here.slots) × (locals ≡ m.here.locals))
        → length locals ≡ length m.here.locals → Fast k o (with_locals slots locals)
    fast_set_local (Some pc) slots locals led counted =
        record {
          progress = led.progress;
          to = led.to;
          row =
              of_instr is (local_row tables j led.progress m facts_here refl n slots locals named (led.row.0 facts_here) led.row.1 counted);
        }
    fast_set_local None slots locals left counted = ap (λ s. with_locals s locals) left.0 ∙ ap (λ ls. with_locals m.here.slots ls) left.1

  abbrev with_cells : List Slot → List (Option Value) → Machine
  with_cells slots cells = record m { here = record m.here { slots = slots }; frames = record m.frames { cells = cells } }

  module _ (k j : Instr) (is : k ≡ j) (n : ℕ) (named : NamesCell j n) where
    pub fast_cell : (o : Option Pc) (slots : List Slot)
        → Leads next o (λ p. FastCell m.here.cells j n p m.here.slots m.frames.cells slots m.frames.cells) (slots ≡ m.here.slots)
        → Fast k o (with_slots slots)
    fast_cell (Some pc) slots led =
        record {
          progress = led.progress;
          to = led.to;
          row =
              of_instr is (cell_row tables j led.progress m facts_here refl n named slots m.frames.cells (led.row.0 facts_here) led.row.1);
        }
    fast_cell None slots left = ap with_slots left

    pub fast_set_cell : (o : Option Pc) (slots : List Slot) (cells : List (Option Value))
        → Leads next o (λ p. FastCell m.here.cells j n p m.here.slots m.frames.cells slots cells) ((slots ≡ m.here.slots) × (cells ≡ m.frames.cells))
        → Fast k o (with_cells slots cells)
    fast_set_cell (Some pc) slots cells led =
        record {
          progress = led.progress;
          to = led.to;
          row =
              of_instr is (cell_row tables j led.progress m facts_here refl n named slots cells (led.row.0 facts_here) led.row.1);
        }
    fast_set_cell None slots cells left = ap (λ s. with_cells s cells) left.0 ∙ ap (λ cs. with_cells m.here.slots cs) left.1
