-- Rows of local names.
use Rattle.std.proofs.Common.{◌≡◌, ◌∙◌, ◌<◌, ℕ, List, [], ◌∷◌, length, Option, Some, None, refl, sym, ap, subst}
use Rattle.std.specs.Prelude.{drop, slice_get, slice_set, slice_index_or}
use Rattle.std.specs.Option.{option_flatten}
use Rattle.std.specs.Str.{bytes_eq}
use Rattle.indexmap.specs.IndexMap.{insert_entry}
use Rattle.pt_tree.specs.Syntax.{Name}
use Rattle.sem_control.specs.control.Turn as T
use Rattle.pt_instr.specs.declared.Instr.TheVariants as instr
use Rattle.pt_instr.specs.declared.SlotNo.{SlotNo}
use Rattle.pt_heap.specs.declared.value.Value.{Value}
use Rattle.pt_names.specs.Names.{Named, name_value}
use Rattle.pt_frames.specs.declared.slot.Slot.{Slot}
use Rattle.pt_frames.specs.declared.slot.Slot.TheVariants as slot
use Rattle.sem_code.specs.slots.CodeObject.{local}
use Rattle.pt_builtins.specs.pt_host.World.{World, Stores}
use Rattle.pt_builtins.specs.pt_host.Variables.{variable_value}
use Rattle.sem_code.specs.slots.Slots.{on}
use Rattle.pt_moves.specs.sem_rows.declared.heap_rows.progress.Progress.{Progress}
use Rattle.pt_moves.specs.sem_rows.declared.heap_rows.progress.Progress.TheVariants as progress
use Rattle.pt_moves.specs.sem_rows.heap_rows.Told.{told}
use Rattle.pt_moves.specs.sem_rows.heap_rows.RowsIn.{RowsIn}
use Rattle.pt_moves.specs.sem_rows.heap_rows.Views.{slots_view, stores_in}
use Rattle.pt_moves.specs.sem_rows.variables.Numbers.{HasLocals}
use Rattle.pt_moves.proofs.sem_rows.variables.NumberLemmas.{locals_stand}
use Rattle.pt_code_facts.specs.declared.facts.BlockFacts.{BlockFacts}
use Rattle.pt_code_facts.specs.Facts.{facts_view}
use Rattle.pt_moves.specs.Operands.{one_value}
use Rattle.pt_moves.proofs.TakeLemmas.{one_on}
use Rattle.pt_moves.proofs.MoveLemmas.{lacks_one, stuck_row}
use Rattle.pt_name_rows.specs.Names.{RowsLocal, local_unbound}
use Rattle.pt_name_rows.proofs.AskLemmas.{goes_to, loads, loads_none, stores, deletes, deletes_none, makes_anew}

module _ (facts : BlockFacts) (x : SlotNo) (locals : List (Option Value)) where
  abbrev named_x : Name
  named_x = slice_index_or facts.locals x.0 []

  module _ (own : List ℕ) (of_class : Named) (w : World) (has : HasLocals (facts_view facts) locals) (within : x.0 < length facts.locals) where
    abbrev st : Stores
    st = stores_in (facts_view facts) locals own of_class w

    reads : (n : Name) → n ≡ named_x → variable_value T.local n st ≡ option_flatten (slice_get locals x.0)
    reads n e = ap (λ y. name_value y st.names.values) e ∙ ap option_flatten (locals_stand (facts_view facts) locals own of_class x.0 has within).read

    writes : (n : Name) (v : Option Value) → n ≡ named_x
        → ◌≡◌ {A = Stores} (record { names = record { values = insert_entry bytes_eq st.names.values n v; cells = st.names.cells }; world = w })
        (stores_in (facts_view facts) (slice_set locals x.0 v) own of_class w)
    writes n v e = ap (λ vs. record { names = record { values = vs; cells = st.names.cells }; world = w })
        (ap (λ y. insert_entry bytes_eq st.names.values y v) e ∙ (locals_stand (facts_view facts) locals own of_class x.0 has within).written v)

  module _ (old : List Slot) where
    found_of : (v : Value) → option_flatten (slice_get locals x.0) ≡ Some v → RowsLocal facts x.0 (instr.Local x) old locals progress.Next (slot.Value v ∷ old) locals
    unfolding RowsLocal RowsIn
    found_of v e own of_class w has within s pc i truths knows =
        loads s.program s.code i s.here (st own of_class w has within) (slots_view old) (local (s.code.pool.local x.0)) v (reads own of_class w has within _ (knows.local x.0) ∙ e)

    missing_of : option_flatten (slice_get locals x.0) ≡ None → RowsLocal facts x.0 (instr.Local x) old locals (local_unbound named_x) old locals
    unfolding RowsLocal RowsIn
    missing_of e own of_class w has within s pc i truths knows =
        ap (λ n. told s.program s.code i s.here (local_unbound n) (slots_view old) (st own of_class w has within)) (sym (knows.local x.0))
        ∙ loads_none s.program s.code i s.here (st own of_class w has within) (slots_view old) (local (s.code.pool.local x.0)) (reads own of_class w has within _ (knows.local x.0) ∙ e)

    stored_of : (v : Value) → RowsLocal facts x.0 (instr.SetLocal x) (slot.Value v ∷ old) locals progress.Next old (slice_set locals x.0 (Some v))
    unfolding RowsLocal RowsIn
    stored_of v own of_class w has within s pc i truths knows =
        ap (λ (c : Stores). goes_to (on i.next (slots_view old)) c) (sym (writes own of_class w has within _ (Some v) (knows.local x.0)))
        ∙ stores s.program s.code i s.here (st own of_class w has within) (slots_view old) (local (s.code.pool.local x.0)) v refl

    deleted_of : (v : Value) → option_flatten (slice_get locals x.0) ≡ Some v → RowsLocal facts x.0 (instr.DelLocal x) old locals progress.Next old (slice_set locals x.0 None)
    unfolding RowsLocal RowsIn
    deleted_of v e own of_class w has within s pc i truths knows =
        ap (λ (c : Stores). goes_to (on i.next (slots_view old)) c) (sym (writes own of_class w has within _ None (knows.local x.0)))
        ∙ deletes s.program s.code i s.here (st own of_class w has within) (slots_view old) (local (s.code.pool.local x.0)) v (reads own of_class w has within _ (knows.local x.0) ∙ e)

    delete_missing_of : option_flatten (slice_get locals x.0) ≡ None → RowsLocal facts x.0 (instr.DelLocal x) old locals (local_unbound named_x) old locals
    unfolding RowsLocal RowsIn
    delete_missing_of e own of_class w has within s pc i truths knows =
        ap (λ n. told s.program s.code i s.here (local_unbound n) (slots_view old) (st own of_class w has within)) (sym (knows.local x.0))
        ∙ deletes_none s.program s.code i s.here (st own of_class w has within) (slots_view old) (local (s.code.pool.local x.0)) (reads own of_class w has within _ (knows.local x.0) ∙ e)

    made_anew_of : RowsLocal facts x.0 (instr.FreshLocal x) old locals progress.Next old (slice_set locals x.0 None)
    unfolding RowsLocal RowsIn
    made_anew_of own of_class w has within s pc i truths knows =
        ap (λ (c : Stores). goes_to (on i.next (slots_view old)) c) (sym (writes own of_class w has within _ None (knows.local x.0)))
        ∙ makes_anew s.program s.code i s.here (st own of_class w has within) (slots_view old) (local (s.code.pool.local x.0))

-- the same by what code found, took and wrote
module _ (facts : BlockFacts) (x : SlotNo) (old : List Slot) (locals : List (Option Value)) where
  pub found : (new : List Slot) (v : Value) → option_flatten (slice_get locals x.0) ≡ Some v → new ≡ slot.Value v ∷ old → RowsLocal facts x.0 (instr.Local x) old locals progress.Next new locals
  found new v e f = subst (λ n. RowsLocal facts x.0 (instr.Local x) old locals progress.Next n locals) (sym f) (found_of facts x locals old v e)

  pub missing : (p : Progress) → option_flatten (slice_get locals x.0) ≡ None → p ≡ local_unbound (slice_index_or facts.locals x.0 []) → RowsLocal facts x.0 (instr.Local x) old locals p old locals
  missing p e f = subst (λ q. RowsLocal facts x.0 (instr.Local x) old locals q old locals) (sym f) (missing_of facts x locals old e)

  pub stored : (new : List Slot) (changed : List (Option Value)) (v : Value) → one_value old ≡ Some v → new ≡ drop 1 old → changed ≡ slice_set locals x.0 (Some v)
      → RowsLocal facts x.0 (instr.SetLocal x) old locals progress.Next new changed
  stored new changed v e f g = subst (λ n. RowsLocal facts x.0 (instr.SetLocal x) old locals progress.Next n changed) (sym f)
      (subst (λ c. RowsLocal facts x.0 (instr.SetLocal x) old locals progress.Next (drop 1 old) c) (sym g)
      (subst (λ o. RowsLocal facts x.0 (instr.SetLocal x) o locals progress.Next (drop 1 old) (slice_set locals x.0 (Some v))) (sym (one_on old v e)) (stored_of facts x locals (drop 1 old) v)))

  pub store_lacks : (new : List Slot) (changed : List (Option Value)) → one_value old ≡ None → RowsLocal facts x.0 (instr.SetLocal x) old locals progress.Lacks new changed
  unfolding RowsLocal RowsIn
  store_lacks new changed e own of_class w has within s pc i truths knows = stuck_row s.program s.here _ _ (lacks_one old e _)

  pub deleted : (changed : List (Option Value)) (v : Value) → option_flatten (slice_get locals x.0) ≡ Some v → changed ≡ slice_set locals x.0 None
      → RowsLocal facts x.0 (instr.DelLocal x) old locals progress.Next old changed
  deleted changed v e g = subst (λ c. RowsLocal facts x.0 (instr.DelLocal x) old locals progress.Next old c) (sym g) (deleted_of facts x locals old v e)

  pub delete_missing : (p : Progress) → option_flatten (slice_get locals x.0) ≡ None → p ≡ local_unbound (slice_index_or facts.locals x.0 []) → RowsLocal facts x.0 (instr.DelLocal x) old locals p old locals
  delete_missing p e f = subst (λ q. RowsLocal facts x.0 (instr.DelLocal x) old locals q old locals) (sym f) (delete_missing_of facts x locals old e)

  pub made_anew : (changed : List (Option Value)) → changed ≡ slice_set locals x.0 None → RowsLocal facts x.0 (instr.FreshLocal x) old locals progress.Next old changed
  made_anew changed g = subst (λ c. RowsLocal facts x.0 (instr.FreshLocal x) old locals progress.Next old c) (sym g) (made_anew_of facts x locals old)
