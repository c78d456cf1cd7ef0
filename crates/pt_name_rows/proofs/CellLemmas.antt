-- Rows of cell and free names.
use Rattle.std.proofs.Common.{◌≡◌, ◌∙◌, ◌<◌, ◌≤◌, ℕ, zero, suc, Bool, true, false, List, [], ◌∷◌, ◌++◌, length, Option, Some, None, refl, sym, ap, subst, arith}
use Rattle.std.specs.Prelude.{drop, nat_lt, slice_get, slice_set, if◌then◌else◌}
use Rattle.std.proofs.lemmas.Bool.Decides.{nat_tests}
use Rattle.pt_tree.specs.Syntax.{Name}
use Rattle.sem_control.specs.control.Turn as T
use Rattle.sem_control.specs.control.Turn.{Scope, Variable}
use Rattle.pt_instr.specs.declared.Instr.TheVariants as instr
use Rattle.pt_instr.specs.declared.SlotNo.{SlotNo}
use Rattle.pt_heap.specs.declared.value.Value.{Value}
use Rattle.pt_names.specs.Names.{Named}
use Rattle.pt_frames.specs.declared.slot.Slot.{Slot}
use Rattle.pt_frames.specs.declared.slot.Slot.TheVariants as slot
use Rattle.sem_run.specs.run.Host.{Here}
use Rattle.sem_code.specs.slots.Slots as S
use Rattle.sem_code.specs.slots.Slots.{on}
use Rattle.pt_builtins.specs.pt_host.World.{World, Stores}
use Rattle.pt_builtins.specs.pt_host.Trees.{Tree}
use Rattle.pt_builtins.specs.pt_host.Variables.{variable_value, readable_value, number_in, cell_value, is_no_method, unless_bound, raise_unbound, put, with_cell, with_new_cell, make_anew, number_value}
use Rattle.pt_moves.specs.sem_rows.declared.heap_rows.progress.Progress.{Progress}
use Rattle.pt_moves.specs.sem_rows.declared.heap_rows.progress.Progress.TheVariants as progress
use Rattle.pt_moves.specs.sem_rows.heap_rows.Leads.{by_tree, giving}
use Rattle.pt_moves.specs.sem_rows.heap_rows.Told.{told}
use Rattle.pt_moves.specs.sem_rows.heap_rows.RowsIn.{RowsIn}
use Rattle.pt_moves.proofs.sem_rows.heap_rows.RowLemmas.{cells_lead}
use Rattle.pt_moves.specs.sem_rows.heap_rows.Views.{slots_view, stores_in}
use Rattle.pt_moves.specs.sem_rows.variables.Numbers.{cell_name, cell_variable, HasCells}
use Rattle.pt_moves.proofs.sem_rows.variables.NumberLemmas.{cells_stand}
use Rattle.pt_code_facts.specs.declared.facts.BlockFacts.{BlockFacts}
use Rattle.pt_code_facts.specs.Facts.{facts_view}
use Rattle.pt_moves.specs.Operands.{one_value}
use Rattle.pt_moves.proofs.TakeLemmas.{one_on}
use Rattle.pt_moves.proofs.MoveLemmas.{lacks_one, stuck_row}
use Rattle.pt_name_rows.specs.Names.{RowsCell, RowsOwnCell, cell_unbound, unbound, value_of_cell, value_through, with_value, with_cells}
use Rattle.pt_name_rows.proofs.AskLemmas.{goes_to, loads, loads_none, stores, deletes, deletes_none, makes_anew}

-- a cell name and a free one are read and written alike

abbrev scope : Bool → Scope
scope b = if b then T.cell else T.free

read_alike : (b : Bool) (n : Name) (st : Stores) → variable_value (scope b) n st ≡ cell_value (number_in (scope b) n st.names) st.world
read_alike true n st = refl
read_alike false n st = refl

readable_alike : (hidden b : Bool) (n : Name) (st : Stores) → readable_value hidden (scope b) n st ≡ cell_value (number_in (scope b) n st.names) st.world
readable_alike hidden true n st = refl
readable_alike hidden false n st = refl

put_alike : (b : Bool) (n : Name) (v : Option Value) (st : Stores) → put (scope b) n v st ≡ with_cell (number_in (scope b) n st.names) v st
put_alike true n v st = refl
put_alike false n v st = refl

binds_alike : (b : Bool) (n : Name) → is_no_method (scope b) n ≡ false
binds_alike true n = refl
binds_alike false n = refl

unbound_alike : (b : Bool) (n : Name) (h : Here Value) (st : Stores) → ◌≡◌ {A = Tree Value} (raise_unbound (scope b) n h st) (unless_bound (scope b) n h st)
unbound_alike true n h st = refl
unbound_alike false n h st = refl

value_in : (c : Option ℕ) (cells : List (Option Value)) (w : World) → cell_value c (with_cells cells w) ≡ value_of_cell cells c
value_in (Some c) cells w = refl
value_in None cells w = refl

past_end : (ns : List ℕ) (n : ℕ) → slice_get ns n ≡ None → length ns ≤ n
past_end [] n e = omega arith
past_end (m ∷ ns) zero e = absurd (cc)
past_end (m ∷ ns) (suc n) e = let h : length ns ≤ n = past_end ns n e in omega (arith, h)

module _ (facts : BlockFacts) (own : List ℕ) (x : SlotNo) (cells : List (Option Value)) where
  abbrev variable_x : Variable
  variable_x = cell_variable (facts_view facts) x.0

  abbrev is_cell : Bool
  is_cell = nat_lt x.0 (length facts.cells)

  binds : (y : Variable) → y ≡ variable_x → is_no_method y.scope y.name ≡ false
  binds y e = ap (λ (z : Variable). is_no_method z.scope z.name) e ∙ binds_alike is_cell (cell_name (facts_view facts) x.0)

  module _ (locals : List (Option Value)) (of_class : Named) (w : World) (has : HasCells (facts_view facts) own) (within : x.0 < length (facts.cells ++ facts.frees)) where
    abbrev st : Stores
    st = stores_in (facts_view facts) locals own of_class (with_cells cells w)

    number : number_in (scope is_cell) (cell_name (facts_view facts) x.0) st.names ≡ slice_get own x.0
    number = (cells_stand (facts_view facts) locals own of_class x.0 has within).read

    through : cell_value (number_in (scope is_cell) (cell_name (facts_view facts) x.0) st.names) st.world ≡ value_through own cells x.0
    through = ap (λ c. cell_value c st.world) number ∙ value_in (slice_get own x.0) cells w

    reads : (y : Variable) → y ≡ variable_x → variable_value y.scope y.name st ≡ value_through own cells x.0
    reads y e = ap (λ (z : Variable). variable_value z.scope z.name st) e ∙ (read_alike is_cell (cell_name (facts_view facts) x.0) st ∙ through)

    readable : (hidden : Bool) (y : Variable) → y ≡ variable_x → readable_value hidden y.scope y.name st ≡ value_through own cells x.0
    readable hidden y e = ap (λ (z : Variable). readable_value hidden z.scope z.name st) e ∙ (readable_alike hidden is_cell (cell_name (facts_view facts) x.0) st ∙ through)

    written : (c : Option ℕ) (v : Option Value) → with_cell c v st ≡ stores_in (facts_view facts) locals own of_class (with_cells (with_value c v cells) w)
    written (Some c) v = refl
    written None v = refl

    writes : (y : Variable) (v : Option Value) → y ≡ variable_x
        → put y.scope y.name v st ≡ stores_in (facts_view facts) locals own of_class (with_cells (with_value (slice_get own x.0) v cells) w)
    writes y v e = ap (λ (z : Variable). put z.scope z.name v st) e ∙ (put_alike is_cell (cell_name (facts_view facts) x.0) v st
        ∙ (ap (λ c. with_cell c v st) number ∙ written (slice_get own x.0) v))

  module _ (old : List Slot) where
    found_of : (v : Value) → value_through own cells x.0 ≡ Some v → RowsCell facts own x.0 (instr.Cell x) old cells progress.Next (slot.Value v ∷ old) cells
    unfolding RowsCell RowsIn
    found_of v e locals of_class w has within s pc i truths knows =
        loads s.program s.code i s.here (st locals of_class w has within) (slots_view old) (s.code.pool.cell x.0) v (readable locals of_class w has within _ _ (knows.cell x.0) ∙ e)

    missing_of : value_through own cells x.0 ≡ None → RowsCell facts own x.0 (instr.Cell x) old cells (cell_unbound (facts_view facts) x.0) old cells
    unfolding RowsCell RowsIn
    missing_of e locals of_class w has within s pc i truths knows =
        ap (λ t. by_tree s.code i (giving s.code i (slots_view old)) (slots_view old) t) (unbound_alike is_cell (cell_name (facts_view facts) x.0) s.here (st locals of_class w has within))
        ∙ (ap (λ (y : Variable). by_tree s.code i (giving s.code i (slots_view old)) (slots_view old) (unless_bound y.scope y.name s.here (st locals of_class w has within))) (sym (knows.cell x.0))
        ∙ loads_none s.program s.code i s.here (st locals of_class w has within) (slots_view old) (s.code.pool.cell x.0) (readable locals of_class w has within _ _ (knows.cell x.0) ∙ e))

    stored_of : (v : Value) → RowsCell facts own x.0 (instr.SetCell x) (slot.Value v ∷ old) cells progress.Next old (with_value (slice_get own x.0) (Some v) cells)
    unfolding RowsCell RowsIn
    stored_of v locals of_class w has within s pc i truths knows =
        ap (λ (c : Stores). goes_to (on i.next (slots_view old)) c) (sym (writes locals of_class w has within _ (Some v) (knows.cell x.0)))
        ∙ stores s.program s.code i s.here (st locals of_class w has within) (slots_view old) (s.code.pool.cell x.0) v (binds _ (knows.cell x.0))

    deleted_of : (v : Value) → value_through own cells x.0 ≡ Some v → RowsCell facts own x.0 (instr.DelCell x) old cells progress.Next old (with_value (slice_get own x.0) None cells)
    unfolding RowsCell RowsIn
    deleted_of v e locals of_class w has within s pc i truths knows =
        ap (λ (c : Stores). goes_to (on i.next (slots_view old)) c) (sym (writes locals of_class w has within _ None (knows.cell x.0)))
        ∙ deletes s.program s.code i s.here (st locals of_class w has within) (slots_view old) (s.code.pool.cell x.0) v (reads locals of_class w has within _ (knows.cell x.0) ∙ e)

    delete_missing_of : value_through own cells x.0 ≡ None → RowsCell facts own x.0 (instr.DelCell x) old cells (cell_unbound (facts_view facts) x.0) old cells
    unfolding RowsCell RowsIn
    delete_missing_of e locals of_class w has within s pc i truths knows =
        ap (λ (y : Variable). told s.program s.code i s.here (unbound y.scope y.name) (slots_view old) (st locals of_class w has within)) (sym (knows.cell x.0))
        ∙ deletes_none s.program s.code i s.here (st locals of_class w has within) (slots_view old) (s.code.pool.cell x.0) (reads locals of_class w has within _ (knows.cell x.0) ∙ e)

  pushed_of : (c : ℕ) (old : List Slot) → slice_get own x.0 ≡ Some c → RowsCell facts own x.0 (instr.PushCell x) old cells progress.Next (slot.Cell c ∷ old) cells
  unfolding RowsCell RowsIn
  pushed_of c old e locals of_class w has within s pc i truths knows =
      sym (cells_lead s.program s.code i s.here (st locals of_class w has within) (s.code.pool.cell x.0) (λ v. on i.next (S.cell v ∷ slots_view old)) (slots_view old)
      ∙ ap (λ (o : Option ℕ). goes_to (on i.next (S.cell (number_value o) ∷ slots_view old)) (st locals of_class w has within))
      (ap (λ (y : Variable). number_in y.scope y.name (st locals of_class w has within).names) (knows.cell x.0) ∙ (number locals of_class w has within ∙ e)))

  push_lacks_of : (old new : List Slot) → slice_get own x.0 ≡ None → RowsCell facts own x.0 (instr.PushCell x) old cells progress.Lacks new cells
  unfolding RowsCell RowsIn
  push_lacks_of old new e locals of_class w has within s pc i truths knows =
      absurd (let h : length own ≤ x.0 = past_end own x.0 e in let k : length (facts.cells ++ facts.frees) ≤ length own = has.count in omega (arith, h, k, within))

below : (n m : ℕ) → nat_lt n m ≡ true → n < m
below n m e = grind (arith, nat_tests)

-- another cell for a cell name, and no value for a free one
module _ (facts : BlockFacts) (x : SlotNo) (own : List ℕ) (cells : List (Option Value)) where
  anew : (b : Bool) (n : Name) (st : Stores) → b ≡ true → make_anew (scope b) n st ≡ with_new_cell n st
  anew true n st e = refl
  anew false n st e = absurd (cc)

  emptied_alike : (b : Bool) (n : Name) (st : Stores) → b ≡ false → make_anew (scope b) n st ≡ put (scope b) n None st
  emptied_alike true n st e = absurd (cc)
  emptied_alike false n st e = refl

  abbrev before : List (Option Value) → Named → World → Stores
  before locals of_class w = stores_in (facts_view facts) locals own of_class (with_cells cells w)

  -- with the numbers of other cells
  abbrev with_numbers : List (Option Value) → Named → World → List (Name × ℕ) → Stores
  with_numbers locals of_class w ns = record { names = record { values = (before locals of_class w).names.values; cells = ns }; world = with_cells (cells ++ None ∷ []) w }

  made_anew_of : is_cell facts own x cells ≡ true → RowsOwnCell facts x.0 (instr.FreshCell x) own cells progress.Next (slice_set own x.0 (length cells)) (cells ++ None ∷ [])
  unfolding RowsOwnCell RowsIn
  made_anew_of among slots locals of_class w has within s pc i truths knows =
      ap (λ (ns : List (Name × ℕ)). goes_to (on i.next (slots_view slots)) (with_numbers locals of_class w ns))
      (sym ((cells_stand (facts_view facts) locals own of_class x.0 has within).written (below _ _ among) (length cells)))
      ∙ (ap (λ (c : Stores). goes_to (on i.next (slots_view slots)) c) (sym (anew (is_cell facts own x cells) (cell_name (facts_view facts) x.0) (before locals of_class w) among))
      ∙ (ap (λ (y : Variable). goes_to (on i.next (slots_view slots)) (make_anew y.scope y.name (before locals of_class w))) (sym (knows.cell x.0))
      ∙ makes_anew s.program s.code i s.here (before locals of_class w) (slots_view slots) (s.code.pool.cell x.0)))

  emptied_of : is_cell facts own x cells ≡ false → RowsOwnCell facts x.0 (instr.FreshCell x) own cells progress.Next own (with_value (slice_get own x.0) None cells)
  unfolding RowsOwnCell RowsIn
  emptied_of beyond slots locals of_class w has within s pc i truths knows =
      ap (λ (c : Stores). goes_to (on i.next (slots_view slots)) c) (sym (writes facts own x cells locals of_class w has within _ None (knows.cell x.0)))
      ∙ (ap (λ (y : Variable). goes_to (on i.next (slots_view slots)) (put y.scope y.name None (before locals of_class w))) (knows.cell x.0)
      ∙ (ap (λ (c : Stores). goes_to (on i.next (slots_view slots)) c) (sym (emptied_alike (is_cell facts own x cells) (cell_name (facts_view facts) x.0) (before locals of_class w) beyond))
      ∙ (ap (λ (y : Variable). goes_to (on i.next (slots_view slots)) (make_anew y.scope y.name (before locals of_class w))) (sym (knows.cell x.0))
      ∙ makes_anew s.program s.code i s.here (before locals of_class w) (slots_view slots) (s.code.pool.cell x.0))))

-- the same by what code found, took and wrote
module _ (facts : BlockFacts) (own : List ℕ) (x : SlotNo) (old : List Slot) (cells : List (Option Value)) where
  pub found : (new : List Slot) (v : Value) → value_through own cells x.0 ≡ Some v → new ≡ slot.Value v ∷ old → RowsCell facts own x.0 (instr.Cell x) old cells progress.Next new cells
  found new v e f = subst (λ n. RowsCell facts own x.0 (instr.Cell x) old cells progress.Next n cells) (sym f) (found_of facts own x cells old v e)

  pub missing : (p : Progress) → value_through own cells x.0 ≡ None → p ≡ cell_unbound (facts_view facts) x.0 → RowsCell facts own x.0 (instr.Cell x) old cells p old cells
  missing p e f = subst (λ q. RowsCell facts own x.0 (instr.Cell x) old cells q old cells) (sym f) (missing_of facts own x cells old e)

  pub stored : (new : List Slot) (changed : List (Option Value)) (v : Value) → one_value old ≡ Some v → new ≡ drop 1 old → changed ≡ with_value (slice_get own x.0) (Some v) cells
      → RowsCell facts own x.0 (instr.SetCell x) old cells progress.Next new changed
  stored new changed v e f g = subst (λ n. RowsCell facts own x.0 (instr.SetCell x) old cells progress.Next n changed) (sym f)
      (subst (λ c. RowsCell facts own x.0 (instr.SetCell x) old cells progress.Next (drop 1 old) c) (sym g)
      (subst (λ o. RowsCell facts own x.0 (instr.SetCell x) o cells progress.Next (drop 1 old) (with_value (slice_get own x.0) (Some v) cells)) (sym (one_on old v e))
      (stored_of facts own x cells (drop 1 old) v)))

  pub store_lacks : (new : List Slot) (changed : List (Option Value)) → one_value old ≡ None → RowsCell facts own x.0 (instr.SetCell x) old cells progress.Lacks new changed
  unfolding RowsCell RowsIn
  store_lacks new changed e locals of_class w has within s pc i truths knows = stuck_row s.program s.here _ _ (lacks_one old e _)

  pub deleted : (changed : List (Option Value)) (v : Value) → value_through own cells x.0 ≡ Some v → changed ≡ with_value (slice_get own x.0) None cells
      → RowsCell facts own x.0 (instr.DelCell x) old cells progress.Next old changed
  deleted changed v e g = subst (λ c. RowsCell facts own x.0 (instr.DelCell x) old cells progress.Next old c) (sym g) (deleted_of facts own x cells old v e)

  pub delete_missing : (p : Progress) → value_through own cells x.0 ≡ None → p ≡ cell_unbound (facts_view facts) x.0 → RowsCell facts own x.0 (instr.DelCell x) old cells p old cells
  delete_missing p e f = subst (λ q. RowsCell facts own x.0 (instr.DelCell x) old cells q old cells) (sym f) (delete_missing_of facts own x cells old e)

  pub pushed : (new : List Slot) (c : ℕ) → slice_get own x.0 ≡ Some c → new ≡ slot.Cell c ∷ old → RowsCell facts own x.0 (instr.PushCell x) old cells progress.Next new cells
  pushed new c e f = subst (λ n. RowsCell facts own x.0 (instr.PushCell x) old cells progress.Next n cells) (sym f) (pushed_of facts own x cells c old e)

  pub push_lacks : (new : List Slot) → slice_get own x.0 ≡ None → RowsCell facts own x.0 (instr.PushCell x) old cells progress.Lacks new cells
  push_lacks new e = push_lacks_of facts own x cells old new e

module _ (facts : BlockFacts) (x : SlotNo) (own changed_own : List ℕ) (cells changed : List (Option Value)) (b : Bool) (counts : b ≡ nat_lt x.0 (length facts.cells)) where
  pub made_anew : (c : ℕ) → b ≡ true → c ≡ length cells → changed ≡ cells ++ None ∷ [] → changed_own ≡ slice_set own x.0 c
      → RowsOwnCell facts x.0 (instr.FreshCell x) own cells progress.Next changed_own changed
  made_anew c is e f g =
      subst (λ m. RowsOwnCell facts x.0 (instr.FreshCell x) own cells progress.Next m changed) (sym (g ∙ ap (λ k. slice_set own x.0 k) e))
      (subst (λ m. RowsOwnCell facts x.0 (instr.FreshCell x) own cells progress.Next (slice_set own x.0 (length cells)) m) (sym f) (made_anew_of facts x own cells (sym counts ∙ is)))

  pub emptied : b ≡ false → changed_own ≡ own → changed ≡ with_value (slice_get own x.0) None cells
      → RowsOwnCell facts x.0 (instr.FreshCell x) own cells progress.Next changed_own changed
  emptied is e f =
      subst (λ m. RowsOwnCell facts x.0 (instr.FreshCell x) own cells progress.Next m changed) (sym e)
      (subst (λ m. RowsOwnCell facts x.0 (instr.FreshCell x) own cells progress.Next own m) (sym f) (emptied_of facts x own cells (sym counts ∙ is)))
