-- Rows of what changes objects.
use Rattle.std.proofs.Common.{◌≡◌, ◌∙◌, ℕ, List, [], ◌∷◌, Option, Some, None, Result, Ok, Err, refl, sym, ap, subst}
use Rattle.std.specs.Prelude.{codes, drop}
use Rattle.pt_base.specs.declared.what.What.TheVariants.{Feature}
use Rattle.sem_control.specs.control.Turn as T
use Rattle.sem_control.specs.control.Turn.{Turn}
use Rattle.pt_instr.specs.declared.Instr.{Instr}
use Rattle.pt_instr.specs.declared.Instr.TheVariants as instr
use Rattle.pt_heap.specs.declared.value.Value.{Value}
use Rattle.pt_heap.specs.declared.object.Object.{Object}
use Rattle.pt_bind.specs.declared.arguments.Args.{Args}
use Rattle.pt_frames.specs.declared.slot.Slot.{Slot}
use Rattle.pt_frames.specs.declared.slot.Slot.TheVariants as slot
use Rattle.pt_code.specs.View.{Ins}
use Rattle.sem_code.specs.slots.CodeObject.{CodeObject}
use Rattle.sem_code.specs.slots.Slots.{State}
use Rattle.sem_code.specs.slots.Pops.{the_value}
use Rattle.sem_code.specs.slots.Steps.{does}
use Rattle.sem_run.specs.run.Host.{Here, answer, leave}
use Rattle.pt_content.specs.declared.op.Op.{Op}
use Rattle.pt_content.specs.declared.op.Op.TheVariants as op
use Rattle.pt_content.specs.declared.answer.PrimAns.{PrimAns}
use Rattle.pt_content.specs.declared.answer.PrimAns.TheVariants as prim
use Rattle.pt_content.specs.pt_attrs.Look.{object_of}
use Rattle.pt_content.specs.pt_attrs.declared.look.Found.{Found}
use Rattle.pt_content.specs.pt_attrs.declared.look.Found.TheVariants as found
use Rattle.pt_block_calls.specs.pt_operators.pt_prims.Operations.{prim_answer, prim_heap}
use Rattle.pt_block_calls.specs.pt_operators.pt_prims.pt_special_methods.Instances.{method_of}
use Rattle.pt_block_calls.specs.pt_operators.pt_moves.sem_rows.pt_host.Answers.{changed_by}
use Rattle.pt_block_calls.specs.pt_operators.pt_moves.sem_rows.pt_host.Calls.{ask_with, asked_in_place, behind_helper, call_function_at, operated}
use Rattle.pt_block_calls.specs.pt_operators.pt_moves.sem_rows.pt_host.Errors.{error}
use Rattle.pt_block_calls.specs.pt_operators.pt_moves.sem_rows.pt_host.Primitives.{arguments_of, done as awaits_none, of_prim}
use Rattle.pt_block_calls.specs.pt_operators.pt_moves.sem_rows.pt_host.Trees.{Tree, then_with}
use Rattle.pt_block_calls.specs.pt_operators.pt_moves.sem_rows.pt_host.World.{Stores, Program, allot}
use Rattle.pt_block_calls.specs.pt_operators.pt_moves.sem_rows.declared.heap_rows.progress.Progress.{Progress}
use Rattle.pt_block_calls.specs.pt_operators.pt_moves.sem_rows.declared.heap_rows.progress.Progress.TheVariants as progress
use Rattle.pt_block_calls.specs.pt_operators.pt_moves.sem_rows.heap_rows.Laws.{reached}
use Rattle.pt_block_calls.specs.pt_operators.pt_moves.sem_rows.heap_rows.Leads.{behind, by_tree}
use Rattle.pt_block_calls.specs.pt_operators.pt_moves.sem_rows.heap_rows.RowsIn.{RowsIn}
use Rattle.pt_block_calls.specs.pt_operators.pt_moves.sem_rows.heap_rows.Told.{told}
use Rattle.pt_block_calls.specs.pt_operators.pt_moves.sem_rows.heap_rows.Views.{slots_view}
use Rattle.pt_block_calls.proofs.pt_operators.pt_moves.sem_rows.heap_rows.RowLemmas.{asks_lead, raises_alike}
use Rattle.pt_block_calls.specs.pt_operators.pt_moves.Operands.{one_value, two_values, three_values}
use Rattle.pt_block_calls.proofs.pt_operators.pt_moves.TakeLemmas.{one_on, two_on, three_on}
use Rattle.pt_block_calls.proofs.pt_operators.pt_moves.MoveLemmas.{lacks_one, lacks_two, lacks_three, stuck_row}
use Rattle.pt_block_calls.specs.pt_operators.Operates.{progress_of}
use Rattle.pt_block_calls.specs.pt_function_rows.pt_code_facts.declared.facts.Blocks.{Blocks}
use Rattle.pt_block_calls.specs.pt_class_rows.Calls.{with_parts}
use Rattle.pt_block_calls.specs.declared.blocks.Given.TheVariants as gives
use Rattle.pt_block_calls.specs.BlockCalls.{AsksFor, AsksWith, CallsFunctionAt, RowsOperation, without_names}
use Rattle.pt_block_calls.proofs.AskLemmas.{alone_is}
use Rattle.pt_container_rows.specs.Operands.{value_down}
use Rattle.pt_container_rows.specs.Rows.{Changes, ChangesBy, Drops}
use Rattle.pt_container_rows.proofs.TakeLemmas.{found_down, lacks_down}

-- by what an operation answers alone
change_told : (a : PrimAns) (program : Program) (code : CodeObject Value) (i : Ins) (h : Here Value) (st : Stores) (slots : List Slot)
    → told program code i h (progress_of a) (slots_view slots) st
    ≡ by_tree code i (behind code i (slots_view slots)) (slots_view slots) (of_prim awaits_none a h st)
change_told (prim.Value v) program code i h st slots = refl
change_told (prim.Values vs) program code i h st slots = refl
change_told prim.End program code i h st slots = refl
change_told (prim.Raise class arg) program code i h st slots =
    raises_alike code i (behind code i (slots_view slots)) (slots_view slots) (allot (error class (arguments_of arg) None h.active) st.world.heap) st
change_told (prim.Help helper vs inverted) program code i h st slots = refl
change_told (prim.Print t) program code i h st slots = refl
change_told (prim.Outside what) program code i h st slots = refl

module _ (o : Op) (vs : List Value) (blocks : Blocks) (cells : List (Option Value)) (heap : List Object) (p : Progress) (changed : List (Option Value))
    (grown : List Object) where
  abbrev Asked : Result PrimAns Progress → Type 0
  Asked r = AsksFor o vs gives.Discard blocks cells heap r changed grown

  pub changed_alone : (r : Result PrimAns Progress) (a : PrimAns) → Asked r → r ≡ Ok a → p ≡ progress_of a → Changes o vs blocks cells heap p changed grown
  unfolding Changes
  changed_alone r a asks so goes drops slots program code i h st knows =
      ap (λ x. told program code i h x (slots_view slots) (with_parts changed grown st)) goes
      ∙ (change_told a program code i h (with_parts changed grown st) slots
      ∙ ap (λ (t : Tree (Unit {0})). by_tree code i (behind code i (slots_view slots)) (slots_view slots) t)
      (alone_is o vs gives.Discard blocks cells heap changed grown awaits_none a program h st (subst Asked so asks)))

  help_changes : Asked (Err p) → Changes o vs blocks cells heap p changed grown
  unfolding AsksFor AsksWith Changes operated
  help_changes (x, (us, (b, (is, done)))) drops slots program code i h st knows =
      done slots program code i h st knows
      ∙ ap (λ (t : Tree (Unit {0})). by_tree code i (behind code i (slots_view slots)) (slots_view slots) t)
      (ap (λ (k : Value → Stores → Tree (Unit {0})). then_with (ask_with program x us h (with_parts cells (prim_heap o vs heap) st)) k)
      (λ j v st1. sym (drops x us b v h st1) j)
      ∙ ap (λ k. asked_in_place program awaits_none o k h (with_parts cells (prim_heap o vs heap) st)) (sym is))

  pub changed_asked : (r : Result PrimAns Progress) → Asked r → r ≡ Err p → Changes o vs blocks cells heap p changed grown
  changed_asked r asks so = help_changes (subst Asked so asks)

-- by the method of an instance

module _ (name : List ℕ) (o : Op) (v : Value) (rest vs : List Value) (blocks : Blocks) (cells : List (Option Value)) (heap : List Object)
    (m : Option Found) (has : m ≡ method_of heap v name) where
  abbrev leads_by : Program → Here Value → Stores → Option Found → Tree (Unit {0})
  leads_by program h st k = changed_by program k v rest (operated program awaits_none o vs h (with_parts cells heap st)) h (with_parts cells heap st)

  pub function_changes : (f : Value) (args : Args) (p : Progress) (changed : List (Option Value)) (grown : List Object)
      → m ≡ Some (found.Bound f) → args ≡ without_names (v ∷ rest)
      → ((slots : List Slot) → CallsFunctionAt blocks f args gives.Discard slots cells heap p changed grown)
      → ChangesBy name o v rest vs blocks cells heap p changed grown
  unfolding ChangesBy CallsFunctionAt
  function_changes f args p changed grown is so done drops slots program code i h st knows =
      done slots program code i h st knows
      ∙ ap (λ (t : Tree (Unit {0})). by_tree code i (behind code i (slots_view slots)) (slots_view slots) t)
      (ap (λ a. then_with (call_function_at program (object_of heap f) a h (with_parts cells heap st)) (λ r st1. answer tt st1)) so
      ∙ ap (leads_by program h st) (sym is ∙ has))

  other_left : (k : Found) → ((f : Value) → m ≡ Some (found.Bound f) → ⊥) → m ≡ Some k → (program : Program) (h : Here Value) (st : Stores)
      → ◌≡◌ {A = Tree (Unit {0})} (leave Feature) (leads_by program h st (Some k))
  unfolding then_with
  other_left (found.Bound f) n is program h st = absurd (n f is)
  other_left (found.Plain w) n is program h st = refl
  other_left found.Unbuilt n is program h st = refl

  pub other_changes : (k : Found) → ((f : Value) → m ≡ Some (found.Bound f) → ⊥) → m ≡ Some k
      → ChangesBy name o v rest vs blocks cells heap (progress.Outside Feature) cells heap
  unfolding ChangesBy
  other_changes k n is drops slots program code i h st knows =
      ap (λ (t : Tree (Unit {0})). by_tree code i (behind code i (slots_view slots)) (slots_view slots) t)
      (other_left k n is program h st ∙ ap (leads_by program h st) (sym is ∙ has))

  pub operation_changes : (p : Progress) (changed : List (Option Value)) (grown : List Object) → m ≡ None → Changes o vs blocks cells heap p changed grown
      → ChangesBy name o v rest vs blocks cells heap p changed grown
  unfolding ChangesBy Changes
  operation_changes p changed grown is done drops slots program code i h st knows =
      done drops slots program code i h st knows
      ∙ ap (λ (t : Tree (Unit {0})). by_tree code i (behind code i (slots_view slots)) (slots_view slots) t) (ap (leads_by program h st) (sym is ∙ has))

-- rows

module _ (blocks : Blocks) (cells : List (Option Value)) (heap : List Object) (p : Progress) (changed : List (Option Value)) (grown : List Object) where
  set_item_of : (u v w : Value) (below : List Slot)
      → ChangesBy (codes "__setitem__") op.SetItem v (w ∷ u ∷ []) (u ∷ v ∷ w ∷ []) blocks cells heap p changed grown
      → RowsOperation instr.SetItem blocks (slot.Value w ∷ (slot.Value v ∷ (slot.Value u ∷ below))) cells heap p below changed grown
  unfolding ChangesBy RowsOperation RowsIn
  set_item_of u v w below done st s pc i truths knows =
      done (λ x us b y h st1. refl) below s.program s.code i s.here st knows
      ∙ sym (asks_lead s.program s.code i s.here (with_parts cells heap st) (T.deed (T.set_item v w u)) (behind s.code i (slots_view below)) (slots_view below) tt)

  delete_item_of : (v w : Value) (below : List Slot) → ChangesBy (codes "__delitem__") op.DelItem v (w ∷ []) (v ∷ w ∷ []) blocks cells heap p changed grown
      → RowsOperation instr.DelItem blocks (slot.Value w ∷ (slot.Value v ∷ below)) cells heap p below changed grown
  unfolding ChangesBy RowsOperation RowsIn
  delete_item_of v w below done st s pc i truths knows =
      done (λ x us b y h st1. refl) below s.program s.code i s.here st knows
      ∙ sym (asks_lead s.program s.code i s.here (with_parts cells heap st) (T.deed (T.delete_item v w)) (behind s.code i (slots_view below)) (slots_view below) tt)

  module _ (n : ℕ) (below : List Slot) (made : Value) (e : value_down n below ≡ Some made) where
    at_made : (program : Program) (code : CodeObject Value) (i : Ins) (h : Here Value) (st : Stores) (next : Value → Turn (State Value) Value)
        → reached program code i h st (the_value n (slots_view below) next) ≡ reached program code i h st (next made)
    at_made program code i h st next = ap (λ t. reached program code i h st t) (found_down n below made e next)

    list_add_of : (v : Value) → Changes op.ListAdd (made ∷ v ∷ []) blocks cells heap p changed grown
        → RowsOperation (instr.ListAdd n) blocks (slot.Value v ∷ below) cells heap p below changed grown
    unfolding Changes RowsOperation RowsIn
    list_add_of v done st s pc i truths knows =
        done (λ x us b y h st1. refl) below s.program s.code i s.here st knows
        ∙ (sym (asks_lead s.program s.code i s.here (with_parts cells heap st) (T.deed (T.add_to_list made v)) (behind s.code i (slots_view below)) (slots_view below) tt)
        ∙ sym (at_made s.program s.code i s.here (with_parts cells heap st) (λ m. does s.code i (T.add_to_list m v) (slots_view below))))

    set_add_of : (v : Value) → Changes op.SetAdd (made ∷ v ∷ []) blocks cells heap p changed grown
        → RowsOperation (instr.SetAdd n) blocks (slot.Value v ∷ below) cells heap p below changed grown
    unfolding Changes RowsOperation RowsIn
    set_add_of v done st s pc i truths knows =
        done (λ x us b y h st1. refl) below s.program s.code i s.here st knows
        ∙ (sym (asks_lead s.program s.code i s.here (with_parts cells heap st) (T.deed (T.add_to_set made v)) (behind s.code i (slots_view below)) (slots_view below) tt)
        ∙ sym (at_made s.program s.code i s.here (with_parts cells heap st) (λ m. does s.code i (T.add_to_set m v) (slots_view below))))

    dict_add_of : (k v : Value) → Changes op.DictAdd (made ∷ k ∷ v ∷ []) blocks cells heap p changed grown
        → RowsOperation (instr.DictAdd n) blocks (slot.Value v ∷ (slot.Value k ∷ below)) cells heap p below changed grown
    unfolding Changes RowsOperation RowsIn
    dict_add_of k v done st s pc i truths knows =
        done (λ x us b y h st1. refl) below s.program s.code i s.here st knows
        ∙ (sym (asks_lead s.program s.code i s.here (with_parts cells heap st) (T.deed (T.add_to_dict made k v)) (behind s.code i (slots_view below)) (slots_view below) tt)
        ∙ sym (at_made s.program s.code i s.here (with_parts cells heap st) (λ m. does s.code i (T.add_to_dict m k v) (slots_view below))))

-- the same by what was taken, for code

module _ (blocks : Blocks) (old : List Slot) (cells : List (Option Value)) (heap : List Object) (new : List Slot) (changed : List (Option Value))
    (grown : List Object) where
  abbrev Rows : Instr → List Slot → Progress → Type 0
  Rows j x p = RowsOperation j blocks x cells heap p new changed grown

  pub set_item_row : (p : Progress) (q : Value × (Value × Value)) → three_values old ≡ Some q → new ≡ drop 3 old
      → ChangesBy (codes "__setitem__") op.SetItem q.1.0 (q.1.1 ∷ q.0 ∷ []) (q.0 ∷ q.1.0 ∷ q.1.1 ∷ []) blocks cells heap p changed grown
      → RowsOperation instr.SetItem blocks old cells heap p new changed grown
  set_item_row p (u, (v, w)) e f done =
      subst (λ x. Rows instr.SetItem x p) (sym (three_on old u v w e ∙ ap (λ ss. slot.Value w ∷ (slot.Value v ∷ (slot.Value u ∷ ss))) (sym f)))
      (set_item_of blocks cells heap p changed grown u v w new done)

  pub set_item_lacks : three_values old ≡ None → RowsOperation instr.SetItem blocks old cells heap progress.Lacks new changed grown
  unfolding RowsOperation RowsIn
  set_item_lacks e st s pc i truths knows = stuck_row s.program s.here (with_parts cells heap st) _ (lacks_three old e _)

  pub delete_item_row : (p : Progress) (q : Value × Value) → two_values old ≡ Some q → new ≡ drop 2 old
      → ChangesBy (codes "__delitem__") op.DelItem q.0 (q.1 ∷ []) (q.0 ∷ q.1 ∷ []) blocks cells heap p changed grown
      → RowsOperation instr.DelItem blocks old cells heap p new changed grown
  delete_item_row p (v, w) e f done =
      subst (λ x. Rows instr.DelItem x p) (sym (two_on old v w e ∙ ap (λ ss. slot.Value w ∷ (slot.Value v ∷ ss)) (sym f)))
      (delete_item_of blocks cells heap p changed grown v w new done)

  pub delete_item_lacks : two_values old ≡ None → RowsOperation instr.DelItem blocks old cells heap progress.Lacks new changed grown
  unfolding RowsOperation RowsIn
  delete_item_lacks e st s pc i truths knows = stuck_row s.program s.here (with_parts cells heap st) _ (lacks_two old e _)

  module _ (n : ℕ) where
    -- with a value on top, and a container that stands further down
    module _ (v : Value) (e : one_value old ≡ Some v) (f : new ≡ drop 1 old) where
      stand : old ≡ slot.Value v ∷ new
      stand = one_on old v e ∙ ap (λ ss. slot.Value v ∷ ss) (sym f)

      pub list_add_row : (p : Progress) (made : Value) → value_down n new ≡ Some made → Changes op.ListAdd (made ∷ v ∷ []) blocks cells heap p changed grown
          → RowsOperation (instr.ListAdd n) blocks old cells heap p new changed grown
      list_add_row p made g done = subst (λ x. Rows (instr.ListAdd n) x p) (sym stand) (list_add_of blocks cells heap p changed grown n new made g v done)

      list_lacks_of : value_down n new ≡ None → RowsOperation (instr.ListAdd n) blocks (slot.Value v ∷ new) cells heap progress.Lacks new changed grown
      unfolding RowsOperation RowsIn
      list_lacks_of g st s pc i truths knows = stuck_row s.program s.here (with_parts cells heap st) _ (lacks_down n new g _)

      pub list_add_lacks_list : value_down n new ≡ None → RowsOperation (instr.ListAdd n) blocks old cells heap progress.Lacks new changed grown
      list_add_lacks_list g = subst (λ x. Rows (instr.ListAdd n) x progress.Lacks) (sym stand) (list_lacks_of g)

      pub set_add_row : (p : Progress) (made : Value) → value_down n new ≡ Some made → Changes op.SetAdd (made ∷ v ∷ []) blocks cells heap p changed grown
          → RowsOperation (instr.SetAdd n) blocks old cells heap p new changed grown
      set_add_row p made g done = subst (λ x. Rows (instr.SetAdd n) x p) (sym stand) (set_add_of blocks cells heap p changed grown n new made g v done)

      set_lacks_of : value_down n new ≡ None → RowsOperation (instr.SetAdd n) blocks (slot.Value v ∷ new) cells heap progress.Lacks new changed grown
      unfolding RowsOperation RowsIn
      set_lacks_of g st s pc i truths knows = stuck_row s.program s.here (with_parts cells heap st) _ (lacks_down n new g _)

      pub set_add_lacks_set : value_down n new ≡ None → RowsOperation (instr.SetAdd n) blocks old cells heap progress.Lacks new changed grown
      set_add_lacks_set g = subst (λ x. Rows (instr.SetAdd n) x progress.Lacks) (sym stand) (set_lacks_of g)

    pub list_add_lacks : one_value old ≡ None → RowsOperation (instr.ListAdd n) blocks old cells heap progress.Lacks new changed grown
    unfolding RowsOperation RowsIn
    list_add_lacks e st s pc i truths knows = stuck_row s.program s.here (with_parts cells heap st) _ (lacks_one old e _)

    pub set_add_lacks : one_value old ≡ None → RowsOperation (instr.SetAdd n) blocks old cells heap progress.Lacks new changed grown
    unfolding RowsOperation RowsIn
    set_add_lacks e st s pc i truths knows = stuck_row s.program s.here (with_parts cells heap st) _ (lacks_one old e _)

    -- with a key and a value on top
    module _ (q : Value × Value) (e : two_values old ≡ Some q) (f : new ≡ drop 2 old) where
      stands : old ≡ slot.Value q.1 ∷ (slot.Value q.0 ∷ new)
      stands = two_on old q.0 q.1 e ∙ ap (λ ss. slot.Value q.1 ∷ (slot.Value q.0 ∷ ss)) (sym f)

      pub dict_add_row : (p : Progress) (made : Value) → value_down n new ≡ Some made
          → Changes op.DictAdd (made ∷ q.0 ∷ q.1 ∷ []) blocks cells heap p changed grown → RowsOperation (instr.DictAdd n) blocks old cells heap p new changed grown
      dict_add_row p made g done = subst (λ x. Rows (instr.DictAdd n) x p) (sym stands) (dict_add_of blocks cells heap p changed grown n new made g q.0 q.1 done)

      dict_lacks_of : value_down n new ≡ None
          → RowsOperation (instr.DictAdd n) blocks (slot.Value q.1 ∷ (slot.Value q.0 ∷ new)) cells heap progress.Lacks new changed grown
      unfolding RowsOperation RowsIn
      dict_lacks_of g st s pc i truths knows = stuck_row s.program s.here (with_parts cells heap st) _ (lacks_down n new g _)

      pub dict_add_lacks_dict : value_down n new ≡ None → RowsOperation (instr.DictAdd n) blocks old cells heap progress.Lacks new changed grown
      dict_add_lacks_dict g = subst (λ x. Rows (instr.DictAdd n) x progress.Lacks) (sym stands) (dict_lacks_of g)

    pub dict_add_lacks : two_values old ≡ None → RowsOperation (instr.DictAdd n) blocks old cells heap progress.Lacks new changed grown
    unfolding RowsOperation RowsIn
    dict_add_lacks e st s pc i truths knows = stuck_row s.program s.here (with_parts cells heap st) _ (lacks_two old e _)
