-- What was done with slots and the heap is what the machine did.
use Rattle.std.proofs.Common.{◌≡◌, ◌∙◌, inr, false, List, refl, sym, ap, subst}
use Rattle.std.specs.Prelude.{◌⊎◌, Result, Ok, Err, IfOk, OnOk}
use Rattle.pt_instr.specs.declared.Instr.{Instr}
use Rattle.pt_instr.specs.declared.Instr.TheVariants as instr
use Rattle.pt_instr.specs.declared.ConstNo.{ConstNo}
use Rattle.pt_heap.specs.declared.value.Value.{Value}
use Rattle.pt_heap.specs.declared.object.Object.{Object}
use Rattle.pt_frames.specs.declared.slot.Slot.{Slot}
use Rattle.pt_frames.specs.Slots.{active_in}
use Rattle.pt_code.specs.View.{Ins}
use Rattle.sem_run.specs.run.Host.{Here}
use Rattle.pt_code_tables.specs.pt_builtins.pt_host.World.{Program}
use Rattle.pt_code_tables.specs.pt_builtins.pt_host.HeapHost.{heap_host}
use Rattle.sem_code_machine.specs.rows.Rows.{row_of}
use Rattle.sem_code_machine.specs.code_machine.CodeBlocks.{CodeBlocks}
use Rattle.pt_code_tables.specs.pt_machine_state.pt_code_facts.sem_rows.declared.heap_rows.progress.Progress.{Progress}
use Rattle.pt_code_tables.specs.pt_machine_state.pt_code_facts.sem_rows.declared.heap_rows.progress.Progress.TheVariants as progress
use Rattle.pt_code_tables.specs.pt_machine_state.pt_code_facts.sem_rows.heap_rows.Told.{told, IfActive, KeepsActive}
use Rattle.pt_code_tables.specs.pt_machine_state.pt_code_facts.sem_rows.heap_rows.Views.{slots_view}
use Rattle.pt_code_tables.specs.pt_machine_state.pt_code_facts.sem_rows.heap_rows.Leads.{IsStuck}
use Rattle.pt_code_tables.specs.pt_machine_state.pt_code_facts.sem_rows.unsupported_rows.Unsupported.{is_supported, RowsOutside}
use Rattle.pt_body_rows.specs.pt_name_rows.pt_moves.Operands.{RowsSlots, RowsHeap, RowsConstant}
use Rattle.pt_code_tables.specs.pt_machine_state.declared.machine.Machine.{Machine}
use Rattle.pt_code_tables.specs.pt_machine_state.Views.{block_of, stores_of}
use Rattle.pt_code_tables.specs.pt_machine_state.Laws.{behind_row}
use Rattle.pt_code_tables.specs.declared.tables.CodeTables.{CodeTables}
use Rattle.pt_code_tables.specs.Tables.{AreTablesOf, constant_in, pool_in}
use Rattle.pt_machine.specs.Performing.{NamesPlaces, Performs, IsRowIn, row_done}

pub keeps : {A : Type 0} (p : Progress) → A → IfActive p A
keeps (progress.Raises e) a = a
keeps progress.RaisesAgain a = a
keeps (progress.Fails class arg) a = a
keeps (progress.FailsSaying class t) a = a
keeps (progress.Calls b hidden ls why) a = a
keeps progress.Next a = tt
keeps (progress.Goto pc) a = tt
keeps (progress.Leaves how) a = tt
keeps (progress.Reraises e) a = tt
keeps (progress.Print t) a = tt
keeps (progress.Outside what) a = tt
keeps progress.Lacks a = tt

-- the row of an instruction that stands in code of which the tables are
abbrev pub IsTold : CodeTables → Instr → Progress → (old new : Machine) → Type 0
IsTold tables j p old new =
    (program : Program) (code : CodeBlocks Value) → AreTablesOf program code tables → NamesPlaces program code j old → (i : Ins) (h : Here Value)
    → h.block ≡ block_of old.here
    → told program (code.object (block_of old.here)) i h p (slots_view new.here.slots) (stores_of program (behind_row (row_done p new) old))
    ≡ row_of (heap_host program) (code.object (block_of old.here)) old.here.pc.0 i j (slots_view old.here.slots) h (stores_of program old)

pub told_row : (tables : CodeTables) (j : Instr) (p : Progress) (old new : Machine) → IsTold tables j p old new → IsRowIn tables j p old new
unfolding IsRowIn
told_row tables j p old new row program code known can i is h at =
    inr (row program code known can i h at ∙ ap (λ k. row_of (heap_host program) (code.object (block_of old.here)) old.here.pc.0 i k (slots_view old.here.slots) h (stores_of program old)) (sym is))

module _ (tables : CodeTables) (j : Instr) (p : Progress) (m : Machine) where
  abbrev with_slots : List Slot → Machine
  with_slots slots = record m { here = record m.here { slots = slots } }

  abbrev with_heap : List Slot → List Object → Machine
  with_heap slots heap = record m { here = record m.here { slots = slots }; heap = heap }

  pub still_row : ((slots : List Slot) → RowsSlots j slots p slots) → Performs tables j p m m
  unfolding RowsSlots
  still_row row = record {
    rest = refl;
    active = keeps p refl;
    row = told_row tables j p m m (λ program code known can i h at.
        row m.here.slots program (code.object (block_of m.here)) m.here.pc.0 i h (stores_of program m) (known.blocks (block_of m.here)).truths);
    places = refl;
  }

  pub slots_row : (slots : List Slot) → RowsSlots j m.here.slots p slots → active_in slots ≡ active_in m.here.slots → Performs tables j p m (with_slots slots)
  unfolding RowsSlots
  slots_row slots row same = record {
    rest = refl;
    active = keeps p same;
    row = told_row tables j p m (with_slots slots) (λ program code known can i h at.
        row program (code.object (block_of m.here)) m.here.pc.0 i h (stores_of program m) (known.blocks (block_of m.here)).truths);
    places = refl;
  }

  -- a handler's exception may be taken off
  pub handler_row : (slots : List Slot) → RowsSlots j m.here.slots p slots → KeepsActive p m.here.slots slots → Performs tables j p m (with_slots slots)
  unfolding RowsSlots
  handler_row slots row kept = record {
    rest = refl;
    active = kept;
    row = told_row tables j p m (with_slots slots) (λ program code known can i h at.
        row program (code.object (block_of m.here)) m.here.pc.0 i h (stores_of program m) (known.blocks (block_of m.here)).truths);
    places = refl;
  }

  pub heap_row : (slots : List Slot) (heap : List Object) → RowsHeap j m.here.slots m.heap p slots heap → active_in slots ≡ active_in m.here.slots → Performs tables j p m (with_heap slots heap)
  unfolding RowsHeap
  heap_row slots heap row same = record {
    rest = refl;
    active = keeps p same;
    row = told_row tables j p m (with_heap slots heap) (λ program code known can i h at.
        row program (code.object (block_of m.here)) m.here.pc.0 i h (stores_of program m) (known.blocks (block_of m.here)).truths);
    places = refl;
  }

pub constant_row : (tables : CodeTables) (k : ConstNo) (p : Progress) (m : Machine) (slots : List Slot) → RowsConstant (constant_in (pool_in tables m.here.hidden) k.0) m.here.slots p slots
    → active_in slots ≡ active_in m.here.slots → Performs tables (instr.Const k) p m (record m { here = record m.here { slots = slots } })
unfolding RowsConstant
constant_row tables k p m slots row same =
    record {
      rest = refl;
      active = keeps p same;
      row = told_row tables (instr.Const k) p m (record m { here = record m.here { slots = slots } }) (λ program code known can i h at.
          row k program (code.object (block_of m.here)) m.here.pc.0 i h (stores_of program m) (known.blocks (block_of m.here)).truths ((known.pools (block_of m.here)).constants k.0));
      places = refl;
    }

-- what isn't supported leaves the profile, with all as it was
outside-is : (tables : CodeTables) (j : Instr) (p : Progress) (m : Machine) → RowsOutside j p → IsRowIn tables j p m m
unfolding RowsOutside IsRowIn
outside-is tables j p m row program code known can i same h at =
    subst (λ k. IsStuck (row_of (heap_host program) (code.object (block_of m.here)) m.here.pc.0 i k (slots_view m.here.slots) h (stores_of program m))
    ⊎ (told program (code.object (block_of m.here)) i h p (slots_view m.here.slots) (stores_of program m)
    ≡ row_of (heap_host program) (code.object (block_of m.here)) m.here.pc.0 i k (slots_view m.here.slots) h (stores_of program m))) (sym same)
    (row program (code.object (block_of m.here)) m.here.pc.0 i h (stores_of program m) m.here.slots (known.extras (block_of m.here)))

pub outside_row : (tables : CodeTables) (j : Instr) (p : Progress) (m : Machine) → ((k : Instr) → is_supported k ≡ false → RowsOutside k p) → is_supported j ≡ false → Performs tables j p m m
outside_row tables j p m rows is = record { rest = refl; active = keeps p refl; row = outside-is tables j p m (rows j is); places = refl }

-- of an answer, by what holds of its value

pub both_ok : {A E B : Type 0} {P Q : A → Type 0} (r : Result A E) → IfOk r P → OnOk r B → ((x : A) → P x → B → Q x) → IfOk r Q
both_ok (Ok x) row same f = f x row same
both_ok (Err e) row same f = tt

pub row_ok : {A E : Type 0} {P Q : A → Type 0} (r : Result A E) → IfOk r P → ((x : A) → P x → Q x) → IfOk r Q
row_ok (Ok x) row f = f x row
row_ok (Err e) row f = tt

pub of_instr : {tables : CodeTables} {k j : Instr} {p : Progress} {m new : Machine} → k ≡ j → Performs tables j p m new → Performs tables k p m new
of_instr {tables} {k} {j} {p} {m} {new} is done = subst (λ i. Performs tables i p m new) (sym is) done
