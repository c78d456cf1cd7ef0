-- Rows that make functions.
use Rattle.std.proofs.Common.{◌≡◌, ◌∙◌, ℕ, Bool, true, false, List, [], ◌∷◌, ◌++◌, length, map, Option, Some, None, refl, sym, ap, arith}
use Rattle.std.specs.Prelude.{drop, nat_eq, if◌then◌else◌}
use Rattle.pt_base.specs.declared.numbers.BlockId.{BlockId}
use Rattle.pt_base.specs.declared.what.What.TheVariants.{Heap}
use Rattle.pt_tree.specs.Syntax.{Name}
use Rattle.sem_control.specs.control.Turn as T
use Rattle.pt_instr.specs.declared.Instr.TheVariants as instr
use Rattle.pt_instr.specs.declared.ListNo.{ListNo}
use Rattle.pt_heap.specs.declared.value.Value.{Value}
use Rattle.pt_heap.specs.Limits.{object_limit}
use Rattle.pt_heap.specs.declared.view.Binding.{Binding}
use Rattle.pt_heap.specs.declared.object.Object.{Object}
use Rattle.pt_heap.specs.declared.object.Object.TheVariants as object
use Rattle.pt_frames.specs.declared.slot.Slot.{Slot}
use Rattle.pt_frames.specs.declared.slot.Slot.TheVariants as slot
use Rattle.pt_code.specs.View.{Ins}
use Rattle.sem_code.specs.slots.Steps.{gives}
use Rattle.sem_code.specs.slots.Pops as P
use Rattle.sem_run.specs.run.Host.{made, beyond}
use Rattle.pt_content.specs.Changes.{next_object}
use Rattle.pt_moves.specs.sem_rows.pt_host.World.{Stores, Allotted, IsAllotted, allot, with_objects}
use Rattle.pt_moves.specs.sem_rows.pt_host.Trees.{answer_with}
use Rattle.pt_moves.specs.sem_rows.pt_host.Calls.{defaults_of, number_of, function_object}
use Rattle.pt_moves.specs.sem_rows.declared.heap_rows.progress.Progress.TheVariants as progress
use Rattle.pt_moves.specs.sem_rows.heap_rows.Laws.{reached}
use Rattle.pt_moves.specs.sem_rows.heap_rows.Leads.{by_tree, giving}
use Rattle.pt_moves.specs.sem_rows.heap_rows.Told.{told}
use Rattle.pt_moves.specs.sem_rows.heap_rows.RowsIn.{Standpoint, RowsIn}
use Rattle.pt_moves.specs.sem_rows.heap_rows.Views.{slots_view}
use Rattle.pt_moves.proofs.sem_rows.heap_rows.RowLemmas.{operations_lead}
use Rattle.pt_moves.proofs.MoveLemmas.{stuck_row}
use Rattle.pt_function_rows.specs.Operands.{many_values, many_cells}
use Rattle.pt_function_rows.specs.FunctionRows.{MakesFunction, RowsFunction}
use Rattle.pt_function_rows.proofs.TakeLemmas.{as_values, before_others, none_before_others, length_taken, values_taken, values_missing, cells_taken, cells_missing}

-- as many defaults as names, and cells behind them

defaults_before : (xs : List Name) (vs us : List Value) → length vs ≡ length xs → defaults_of xs (vs ++ us) ≡ defaults_of xs vs
defaults_before [] [] us e = none us
  where
    none : (ws : List Value) → defaults_of [] ws ≡ []
    none [] = refl
    none (w ∷ ws) = refl
defaults_before [] (v ∷ vs) us e = absurd (omega (arith, e))
defaults_before (x ∷ xs) [] us e = absurd (omega (arith, e))
defaults_before (x ∷ xs) (v ∷ vs) us e = ap (λ l. record { name = x; value = v } ∷ l) (defaults_before xs vs us (omega (arith, e)))

behind_defaults : (xs : List Name) (vs us : List Value) → length vs ≡ length xs → drop (length xs) (vs ++ us) ≡ us
behind_defaults [] [] us e = refl
behind_defaults [] (v ∷ vs) us e = absurd (omega (arith, e))
behind_defaults (x ∷ xs) [] us e = absurd (omega (arith, e))
behind_defaults (x ∷ xs) (v ∷ vs) us e = behind_defaults xs vs us (omega (arith, e))

numbers_back : (ns : List ℕ) → map number_of (as_values ns) ≡ ns
numbers_back [] = refl
numbers_back (n ∷ ns) = ap (λ l. n ∷ l) (numbers_back ns)

abbrev made_object : BlockId → Bool → List Binding → List ℕ → Object
made_object b hidden ds ns = object.Function (record { block = b; hidden = hidden; defaults = ds; cells = ns })

object_is : (b : BlockId) (hidden : Bool) (xs : List Name) (vs : List Value) (ns : List ℕ) → length vs ≡ length xs
    → function_object b.0 hidden xs (vs ++ as_values ns) ≡ made_object b hidden (defaults_of xs vs) ns
object_is b hidden xs vs ns e = λ j. made_object b hidden (defaults_before xs vs (as_values ns) e j)
    ((ap (λ l. map number_of l) (behind_defaults xs vs (as_values ns) e) ∙ numbers_back ns) j)

-- where the instruction leads, by what was taken
module _ (b : BlockId) (l : ListNo) (xs : List Name) (captures : ℕ) (hidden : Bool) (old : List Slot) (heap : List Object) where
  abbrev under : List Slot
  under = drop (length xs) (drop captures old)

  turned : (s : Standpoint) (i : Ins) (ns : List ℕ) (vs : List Value) → MakesFunction xs l.0 captures hidden b.0 s
      → many_cells captures old ≡ Some ns → many_values (length xs) (drop captures old) ≡ Some vs
      → P.cells (s.code.pool.captures b.0) [] (slots_view old)
      (λ cs below. P.values (length xs) cs below (λ ws under. gives s.code i (T.operate (T.function b.0 (s.code.pool.texts l.0)) ws) under))
      ≡ gives s.code i (T.operate (T.function b.0 xs) (vs ++ as_values ns)) (slots_view (drop (length xs) (drop captures old)))
  turned s i ns vs makes e g =
      ap (λ k. P.cells k [] (slots_view old) (λ cs below. P.values (length xs) cs below (λ ws under. gives s.code i (T.operate (T.function b.0 (s.code.pool.texts l.0)) ws) under))) makes.captured
      ∙ (cells_taken captures [] old (λ cs below. P.values (length xs) cs below (λ ws under. gives s.code i (T.operate (T.function b.0 (s.code.pool.texts l.0)) ws) under)) ns e
      ∙ (values_taken (length xs) (as_values ns) (drop captures old) (λ ws under. gives s.code i (T.operate (T.function b.0 (s.code.pool.texts l.0)) ws) under) (vs ++ as_values ns)
      (before_others (length xs) [] (as_values ns) (drop captures old) vs g)
      ∙ ap (λ ys. gives s.code i (T.operate (T.function b.0 ys) (vs ++ as_values ns)) (slots_view (drop (length xs) (drop captures old)))) makes.names))

  leads : (s : Standpoint) (i : Ins) (ns : List ℕ) (vs : List Value) (st : Stores) → MakesFunction xs l.0 captures hidden b.0 s
      → many_cells captures old ≡ Some ns → many_values (length xs) (drop captures old) ≡ Some vs
      → reached s.program s.code i s.here (with_objects heap st)
      (P.cells (s.code.pool.captures b.0) [] (slots_view old)
      (λ cs below. P.values (length xs) cs below (λ ws under. gives s.code i (T.operate (T.function b.0 (s.code.pool.texts l.0)) ws) under)))
      ≡ by_tree s.code i (giving s.code i (slots_view (drop (length xs) (drop captures old)))) (slots_view (drop (length xs) (drop captures old)))
      (answer_with (allot (made_object b hidden (defaults_of xs vs) ns) heap) (with_objects heap st))
  leads s i ns vs st makes e g =
      ap (λ t. reached s.program s.code i s.here (with_objects heap st) t) (turned s i ns vs makes e g)
      ∙ (operations_lead s.program s.code i s.here (with_objects heap st) (T.function b.0 xs) (vs ++ as_values ns) (slots_view under)
      ∙ ap (λ o. by_tree s.code i (giving s.code i (slots_view under)) (slots_view under) (answer_with (allot o heap) (with_objects heap st)))
      (ap (λ t. function_object b.0 t xs (vs ++ as_values ns)) makes.is_hidden ∙ object_is b hidden xs vs ns (let h : length vs ≡ length xs = omega (arith, length_taken (length xs) [] (drop captures old) vs g) in h)))

  -- what the object is, where there is room
  told_made : (s : Standpoint) (i : Ins) (st : Stores) (rest new : List Slot) (a : Allotted) (v : Value) (grown : List Object) → IsAllotted a (Some v) grown → new ≡ slot.Value v ∷ rest
      → told s.program s.code i s.here progress.Next (slots_view new) (with_objects grown st)
      ≡ by_tree s.code i (giving s.code i (slots_view rest)) (slots_view rest) (answer_with a (with_objects heap st))
  told_made s i st rest new (made w k) v grown is e =
      ap (λ ss. told s.program s.code i s.here progress.Next (slots_view ss) (with_objects grown st)) e
      ∙ (ap (λ g. told s.program s.code i s.here progress.Next (slots_view (slot.Value v ∷ rest)) (with_objects g st)) is.1
      ∙ ap (λ x. told s.program s.code i s.here progress.Next (slots_view (slot.Value x ∷ rest)) (with_objects k st)) (let q : v ≡ w = let h : ◌≡◌ {A = Option Value} (Some v) (Some w) = is.0 in cc in q))
  told_made s i st rest new (beyond what) v grown is e = absurd (let h : ◌≡◌ {A = Option Value} (Some v) None = is in cc)

  told_full : (s : Standpoint) (i : Ins) (st : Stores) (rest : List Slot) (o : Object) (grown : List Object) → IsAllotted (allot o heap) None grown
      → told s.program s.code i s.here (progress.Outside Heap) (slots_view rest) (with_objects grown st)
      ≡ by_tree s.code i (giving s.code i (slots_view rest)) (slots_view rest) (answer_with (allot o heap) (with_objects heap st))
  told_full s i st rest o grown is = by (nat_eq (length heap) object_limit) is
    where
      by : (full : Bool) → IsAllotted (if full then beyond Heap else made (next_object heap) (heap ++ o ∷ [])) None grown
          → told s.program s.code i s.here (progress.Outside Heap) (slots_view rest) (with_objects grown st)
          ≡ by_tree s.code i (giving s.code i (slots_view rest)) (slots_view rest)
          (answer_with (if full then beyond Heap else made (next_object heap) (heap ++ o ∷ [])) (with_objects heap st))
      by true e = refl
      by false e = absurd (let h : ◌≡◌ {A = Option Value} None (Some (next_object heap)) = e.0 in cc)

  module _ (new : List Slot) (grown : List Object) (ns : List ℕ) (vs : List Value) (ds : List Binding) (o : Object) where
    pub made_row : (v : Value) → many_cells captures old ≡ Some ns → many_values (length xs) (drop captures old) ≡ Some vs → ds ≡ defaults_of xs vs → o ≡ made_object b hidden ds ns
        → IsAllotted (allot o heap) (Some v) grown → new ≡ slot.Value v ∷ drop (length xs) (drop captures old)
        → RowsFunction xs l.0 captures hidden b.0 (instr.MakeFunction b (length xs) l) old heap progress.Next new grown
    unfolding RowsFunction RowsIn
    made_row v e g d m is f st s pc i truths makes =
        told_made s i st (drop (length xs) (drop captures old)) new (allot o heap) v grown is f
        ∙ (ap (λ x. by_tree s.code i (giving s.code i (slots_view (drop (length xs) (drop captures old)))) (slots_view (drop (length xs) (drop captures old))) (answer_with (allot x heap) (with_objects heap st)))
        (m ∙ ap (λ y. made_object b hidden y ns) d)
        ∙ sym (leads s i ns vs st makes e g))

    pub full_row : many_cells captures old ≡ Some ns → many_values (length xs) (drop captures old) ≡ Some vs → ds ≡ defaults_of xs vs → o ≡ made_object b hidden ds ns
        → IsAllotted (allot o heap) None grown → new ≡ drop (length xs) (drop captures old)
        → RowsFunction xs l.0 captures hidden b.0 (instr.MakeFunction b (length xs) l) old heap (progress.Outside Heap) new grown
    unfolding RowsFunction RowsIn
    full_row e g d m is f st s pc i truths makes =
        ap (λ ss. told s.program s.code i s.here (progress.Outside Heap) (slots_view ss) (with_objects grown st)) f
        ∙ (told_full s i st (drop (length xs) (drop captures old)) o grown is
        ∙ (ap (λ x. by_tree s.code i (giving s.code i (slots_view (drop (length xs) (drop captures old)))) (slots_view (drop (length xs) (drop captures old))) (answer_with (allot x heap) (with_objects heap st)))
        (m ∙ ap (λ y. made_object b hidden y ns) d)
        ∙ sym (leads s i ns vs st makes e g)))

  module _ (new : List Slot) (grown : List Object) where
    pub lacks_cells : many_cells captures old ≡ None → RowsFunction xs l.0 captures hidden b.0 (instr.MakeFunction b (length xs) l) old heap progress.Lacks new grown
    unfolding RowsFunction RowsIn
    lacks_cells e st s pc i truths makes = stuck_row s.program s.here _ _
        (ap (λ k. P.cells k [] (slots_view old) (λ cs below. P.values (length xs) cs below (λ ws under. gives s.code i (T.operate (T.function b.0 (s.code.pool.texts l.0)) ws) under))) makes.captured
        ∙ cells_missing captures [] old _ e)

    pub lacks_defaults : (ns : List ℕ) → many_cells captures old ≡ Some ns → many_values (length xs) (drop captures old) ≡ None
        → RowsFunction xs l.0 captures hidden b.0 (instr.MakeFunction b (length xs) l) old heap progress.Lacks new grown
    unfolding RowsFunction RowsIn
    lacks_defaults ns e g st s pc i truths makes = stuck_row s.program s.here _ _
        (ap (λ k. P.cells k [] (slots_view old) (λ cs below. P.values (length xs) cs below (λ ws under. gives s.code i (T.operate (T.function b.0 (s.code.pool.texts l.0)) ws) under))) makes.captured
        ∙ (cells_taken captures [] old _ ns e
        ∙ values_missing (length xs) (as_values ns) (drop captures old) _ (none_before_others (length xs) [] (as_values ns) (drop captures old) g)))
