-- What was done with names of a body is what the machine did.
use Rattle.std.proofs.Common.{◌≡◌, ◌∙◌, ℕ, List, Bool, Option, length, refl, ap, subst}
use Rattle.pt_tree.specs.Syntax.{Name}
use Rattle.pt_instr.specs.declared.Instr.{Instr}
use Rattle.pt_heap.specs.declared.value.Value.{Value}
use Rattle.pt_names.specs.Names.{Named}
use Rattle.pt_frames.specs.declared.slot.Slot.{Slot}
use Rattle.pt_frames.specs.Slots.{active_in}
use Rattle.sem_code_machine.specs.code_machine.CodeBlocks.{CodeBlocks}
use Rattle.pt_code_tables.specs.pt_machine_state.pt_code_facts.sem_rows.declared.heap_rows.progress.Progress.{Progress}
use Rattle.pt_code_tables.specs.pt_machine_state.pt_code_facts.sem_rows.heap_rows.RowsIn.{RowsIn}
use Rattle.pt_code_tables.specs.pt_machine_state.pt_code_facts.sem_rows.heap_rows.Views.{stores_in, world_view}
use Rattle.pt_code_tables.specs.pt_machine_state.pt_code_facts.declared.facts.BlockFacts.{BlockFacts}
use Rattle.pt_code_tables.specs.pt_builtins.pt_host.World.{Program}
use Rattle.pt_body_rows.specs.Bodies.{IsNameOf, RowsName, RowsRead, RowsLoadName}
use Rattle.pt_code_tables.specs.pt_machine_state.declared.machine.Machine.{Machine}
use Rattle.pt_code_tables.specs.pt_machine_state.Views.{block_of}
use Rattle.pt_code_tables.specs.declared.tables.CodeTables.{CodeTables}
use Rattle.pt_code_tables.specs.Tables.{AreTablesOf, is_class_in, text_in, builtin_in, pool_in}
use Rattle.pt_machine.specs.Performing.{Performs}
use Rattle.pt_machine.proofs.RowLemmas.{IsTold, keeps, told_row}
use Rattle.pt_machine.proofs.NameRows.{AreFacts, by-facts, stands}

module _ (tables : CodeTables) (j : Instr) (p : Progress) (m : Machine) (f : BlockFacts) (are : AreFacts tables m f) (t : ℕ) where
  abbrev in_class : Bool
  in_class = is_class_in (pool_in tables m.here.hidden) m.here.block.0

  abbrev with_names : List Slot → (locals : List (Option Value)) → (own globals : Named) → Machine
  with_names slots locals own globals = record m { here = record m.here { slots = slots; locals = locals; names = own }; frames = record m.frames { globals = globals } }

  named : (program : Program) (code : CodeBlocks Value) → AreTablesOf program code tables → (h : _) → IsNameOf (text_in (pool_in tables m.here.hidden) t) in_class t (stands tables j p m program code h)
  named program code known h = record { text = (known.pools (block_of m.here)).texts t; scope = known.scopes (block_of m.here) }

  module _ (slots : List Slot) (locals : List (Option Value)) (own globals : Named) where
    name-told : RowsName (text_in (pool_in tables m.here.hidden) t) in_class f j t m.here.slots m.here.locals m.here.names m.frames.globals p slots locals own globals
        → IsTold tables j p m (with_names slots locals own globals)
    unfolding RowsName RowsIn
    name-told row program code known can i h is =
        by-facts tables j p m f are program code known slots (λ g. stores_in g m.here.locals m.here.cells m.here.names (world_view m.frames m.heap))
        (λ g. stores_in g locals m.here.cells own (world_view (record m.frames { globals = globals }) m.heap)) i h
        (row m.here.cells (world_view m.frames m.heap) (stands tables j p m program code h) m.here.pc.0 i (known.blocks (block_of m.here)).truths (named program code known h))

    pub set_name : RowsName (text_in (pool_in tables m.here.hidden) t) in_class f j t m.here.slots m.here.locals m.here.names m.frames.globals p slots locals own globals
        → active_in slots ≡ active_in m.here.slots → length locals ≡ length m.here.locals → Performs tables j p m (with_names slots locals own globals)
    set_name row same counted =
        record { rest = refl; active = keeps p same; row = told_row tables j p m (with_names slots locals own globals) (name-told row); places = counted }

  deleted_name : (locals : List (Option Value)) (own globals : Named)
      → ((slots : List Slot) → RowsName (text_in (pool_in tables m.here.hidden) t) in_class f j t slots m.here.locals m.here.names m.frames.globals p slots locals own globals)
      → length locals ≡ length m.here.locals
      → Performs tables j p m (record m { here = record m.here { locals = locals; names = own }; frames = record m.frames { globals = globals } })
  deleted_name locals own globals row counted = set_name m.here.slots locals own globals (row m.here.slots) refl counted

  pub deleted_by : (x : Name) (b : Bool) → x ≡ text_in (pool_in tables m.here.hidden) t → b ≡ in_class → (locals : List (Option Value)) (own globals : Named)
      → ((slots : List Slot) → RowsName x b f j t slots m.here.locals m.here.names m.frames.globals p slots locals own globals) → length locals ≡ length m.here.locals
      → Performs tables j p m (record m { here = record m.here { locals = locals; names = own }; frames = record m.frames { globals = globals } })
  deleted_by x b is is_class locals own globals row counted =
      deleted_name locals own globals (λ slots. subst (λ y. RowsName y in_class f j t slots m.here.locals m.here.names m.frames.globals p slots locals own globals) is
      (subst (λ d. RowsName x d f j t slots m.here.locals m.here.names m.frames.globals p slots locals own globals) is_class (row slots)))
      counted

  load-told : (slots : List Slot) → RowsLoadName m.here.hidden (text_in (pool_in tables m.here.hidden) t) (builtin_in (pool_in tables m.here.hidden) t) in_class f j t m.here.slots m.here.locals m.here.names m.frames.globals p slots
      → IsTold tables j p m (with_names slots m.here.locals m.here.names m.frames.globals)
  unfolding RowsLoadName RowsRead RowsIn
  load-told slots row program code known can i h is =
      by-facts tables j p m f are program code known slots (λ g. stores_in g m.here.locals m.here.cells m.here.names (world_view m.frames m.heap))
      (λ g. stores_in g m.here.locals m.here.cells m.here.names (world_view m.frames m.heap)) i h
      (row (known.builtins m.here.hidden t) m.here.cells (world_view m.frames m.heap) (stands tables j p m program code h) m.here.pc.0 i (known.blocks (block_of m.here)).truths
      (record { name = named program code known h; is_hidden = ap (λ k. k.hidden) is }))

  pub loaded_name : (slots : List Slot) → RowsLoadName m.here.hidden (text_in (pool_in tables m.here.hidden) t) (builtin_in (pool_in tables m.here.hidden) t) in_class f j t m.here.slots m.here.locals m.here.names m.frames.globals p slots
      → active_in slots ≡ active_in m.here.slots → Performs tables j p m (record m { here = record m.here { slots = slots } })
  loaded_name slots row same =
      record { rest = refl; active = keeps p same; row = told_row tables j p m (with_names slots m.here.locals m.here.names m.frames.globals) (load-told slots row); places = refl }
