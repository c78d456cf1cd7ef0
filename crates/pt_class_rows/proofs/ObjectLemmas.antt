-- New objects that are given, and answers that are alike in one heap.
use Rattle.std.proofs.Common.{◌≡◌, ◌∙◌, ℕ, Bool, true, false, List, [], ◌∷◌, ◌++◌, length, nat_eq, Option, Some, None, Result, refl, sym, ap, subst, if◌then◌else◌}
use Rattle.pt_base.specs.declared.numbers.ObjId.{ObjId}
use Rattle.pt_base.specs.declared.what.What.{What}
use Rattle.pt_base.specs.declared.what.What.TheVariants.{Feature, Heap}
use Rattle.pt_heap.specs.Limits.{object_limit}
use Rattle.pt_heap.specs.declared.value.Value.{Value}
use Rattle.pt_heap.specs.declared.view.Binding.{Binding}
use Rattle.pt_heap.specs.declared.object.Object.{Object}
use Rattle.pt_bind.specs.declared.arguments.Args.{Args}
use Rattle.pt_bind.specs.declared.arguments.BindErr.{BindErr}
use Rattle.pt_bind.specs.declared.arguments.BindErr.TheVariants as refusal
use Rattle.pt_bind.specs.declared.arguments.Locals.{Locals}
use Rattle.pt_bind.specs.Binding.{IsTold}
use Rattle.std.specs.Prelude.{Err}
use Rattle.pt_content.specs.Changes.{next_object}
use Rattle.pt_frames.specs.declared.slot.Slot.{Slot}
use Rattle.pt_frames.specs.declared.slot.Slot.TheVariants as slot
use Rattle.pt_code.specs.View.{Ins}
use Rattle.sem_code.specs.slots.CodeObject.{CodeObject}
use Rattle.sem_run.specs.run.Host.{Here, leave, made, beyond}
use Rattle.sem_run.specs.transitions.Successors.{outside}
use Rattle.pt_moves.specs.sem_rows.pt_host.declared.places.TheConstants.{OBJECT}
use Rattle.pt_moves.specs.sem_rows.pt_host.World.{Program, Stores, Allotted, IsAllotted, allot}
use Rattle.pt_moves.specs.sem_rows.pt_host.Trees.{Tree, answer_with, raise_with, then_with}
use Rattle.pt_moves.specs.sem_rows.pt_host.Errors.{raise_saying}
use Rattle.pt_moves.specs.sem_rows.pt_host.Calls.{instance, new_object}
use Rattle.pt_moves.specs.sem_rows.declared.heap_rows.progress.Progress.{Progress}
use Rattle.pt_moves.specs.sem_rows.declared.heap_rows.progress.Progress.TheVariants as progress
use Rattle.pt_moves.specs.sem_rows.heap_rows.Leads.{by_tree, giving}
use Rattle.pt_moves.specs.sem_rows.heap_rows.Told.{told}
use Rattle.pt_moves.specs.sem_rows.heap_rows.Views.{slots_view}
use Rattle.pt_class_rows.specs.Calls.{Calls, Makes, is_memory, with_parts}
use Rattle.pt_class_rows.specs.Instances.{GivesNew, GivesObject, are_none, unnamed}

-- a heap that is full takes none
pub only_heap : (o : Object) (h : List Object) (what : What) → allot o h ≡ beyond what → what ≡ Heap
only_heap o h what e = by (nat_eq (length h) object_limit) (next_object h) (h ++ o ∷ []) e
  where
    by : (b : Bool) (v : Value) (k : List Object) → ◌≡◌ {A = Allotted} (if b then beyond Heap else made v k) (beyond what) → what ≡ Heap
    by true v k e = cc
    by false v k e = absurd (cc)

-- what is raised isn't changed by what would have been made of an answer
pub raise_kept : {A B : Type 0} (a : Allotted) (st : Stores) (f : A → Stores → Tree B) → ◌≡◌ {A = Tree B} (then_with (raise_with {A = A} a st) f) (raise_with {A = B} a st)
unfolding then_with
raise_kept (made v h) st f = refl
raise_kept (beyond what) st f = refl

-- a refusal that isn't want of memory is the one that is told
pub told_of : (a : Result Locals BindErr) (e : BindErr) → is_memory e ≡ false → IsTold a e → a ≡ Err e
told_of a (refusal.Missing x) m t = t
told_of a (refusal.TooMany n) m t = t
told_of a (refusal.Unexpected x) m t = t
told_of a (refusal.Double x) m t = t
told_of a refusal.Memory m t = absurd (cc)

-- answers that are alike where the heap is this one
module _ (heap : List Object) (b : Here Value → Stores → Tree Value) (old : List Slot) where
  pub made_as : (a : Here Value → Stores → Tree Value) (p : Progress) (new : List Slot) (grown : List Object)
      → ((h : Here Value) (st : Stores) → st.world.heap ≡ heap → ◌≡◌ {A = Tree Value} (a h st) (b h st))
      → Makes a old heap p new grown → Makes b old heap p new grown
  unfolding Makes Calls
  made_as a p new grown same done cells program code i h st u =
      done cells program code i h st u
      ∙ ap (λ (t : Tree Value). by_tree code i (giving code i (slots_view old)) (slots_view old) t) (same h (with_parts cells heap st) refl)

  pub left_out : (what : What) (new : List Slot) (grown : List Object)
      → ((h : Here Value) (st : Stores) → st.world.heap ≡ heap → ◌≡◌ {A = Tree Value} (leave what) (b h st))
      → Makes b old heap (progress.Outside what) new grown
  unfolding Makes Calls
  left_out what new grown same cells program code i h st u =
      ap (λ (t : Tree Value). by_tree code i (giving code i (slots_view old)) (slots_view old) t) (same h (with_parts cells heap st) refl)

  pub fails_so : (class : ObjId) (t : List ℕ) (p : Progress) → p ≡ progress.FailsSaying class t
      → ((h : Here Value) (st : Stores) → st.world.heap ≡ heap → ◌≡◌ {A = Tree Value} (raise_saying class t h st) (b h st))
      → Makes b old heap p old heap
  unfolding Makes Calls
  fails_so class t p e same cells program code i h st u =
      ap (λ x. told program code i h x (slots_view old) (with_parts cells heap st)) e
      ∙ ap (λ (t : Tree Value). by_tree code i (giving code i (slots_view old)) (slots_view old) t) (same h (with_parts cells heap st) refl)

module _ (o : Object) (slots : List Slot) (heap : List Object) where
  -- what the allotted object does
  so : (p : Progress) (new : List Slot) (grown : List Object)
      → ((cells : List (Option Value)) (program : Program) (code : CodeObject Value) (i : Ins) (h : Here Value) (st : Stores)
      → told program code i h p (slots_view new) (with_parts cells grown st)
      ≡ by_tree code i (giving code i (slots_view slots)) (slots_view slots) (answer_with (allot o heap) (with_parts cells heap st)))
      → GivesNew o slots heap p new grown
  unfolding GivesNew Makes Calls
  so p new grown leads cells program code i h st u = leads cells program code i h st

  pub given : (v : Value) (grown : List Object) (new : List Slot) → IsAllotted (allot o heap) (Some v) grown → new ≡ slot.Value v ∷ slots
      → GivesNew o slots heap progress.Next new grown
  given v grown new is stands = by (allot o heap) is refl
    where
      by : (a : Allotted) → IsAllotted a (Some v) grown → a ≡ allot o heap → GivesNew o slots heap progress.Next new grown
      by (made w g) (e, f) same =
          let one : w ≡ v = cc in
          subst (λ n. GivesNew o slots heap progress.Next n grown) (sym (stands ∙ ap (λ x. slot.Value x ∷ slots) (sym one)))
          (subst (λ k. GivesNew o slots heap progress.Next (slot.Value w ∷ slots) k) (sym f)
          (so progress.Next (slot.Value w ∷ slots) g (λ cells program code i h st.
          ap (λ a. by_tree code i (giving code i (slots_view slots)) (slots_view slots) (answer_with a (with_parts cells heap st))) same)))
      by (beyond what) e same = absurd (cc)

  pub no_room : (grown : List Object) → IsAllotted (allot o heap) None grown → GivesNew o slots heap (progress.Outside Heap) slots grown
  no_room grown is = by (allot o heap) is refl
    where
      by : (a : Allotted) → IsAllotted a None grown → a ≡ allot o heap → GivesNew o slots heap (progress.Outside Heap) slots grown
      by (made w g) (e, f) same = absurd (cc)
      by (beyond what) e same =
          so (progress.Outside Heap) slots grown (λ cells program code i h st.
          ap outside (sym (only_heap o heap what (sym same)))
          ∙ ap (λ a. by_tree code i (giving code i (slots_view slots)) (slots_view slots) (answer_with a (with_parts cells heap st))) same)

-- no arguments, or some

module _ (args : Args) where
  pub none_given : args.named ≡ [] → args.plain ≡ [] → true ≡ are_none (unnamed args)
  none_given n e = by args.named args.plain n e
    where
      by : (bs : List Binding) (vs : List Value) → bs ≡ [] → vs ≡ [] → true ≡ are_none (unnamed (record { plain = vs; named = bs }))
      by [] [] n e = refl
      by [] (v ∷ vs) n e = absurd (cc)
      by (b ∷ bs) vs n e = absurd (cc)

  pub some_given : args.named ≡ [] → (args.plain ≡ [] → ⊥) → false ≡ are_none (unnamed args)
  some_given n e = by args.named args.plain n e
    where
      by : (bs : List Binding) (vs : List Value) → bs ≡ [] → (vs ≡ [] → ⊥) → false ≡ are_none (unnamed (record { plain = vs; named = bs }))
      by [] [] n e = absurd (e refl)
      by [] (v ∷ vs) n e = refl
      by (b ∷ bs) vs n e = absurd (cc)

  pub some_named : (args.named ≡ [] → ⊥) → false ≡ are_none (unnamed args)
  some_named n = by args.named n
    where
      by : (bs : List Binding) → (bs ≡ [] → ⊥) → false ≡ are_none (unnamed (record { plain = args.plain; named = bs }))
      by [] n = absurd (n refl)
      by (b ∷ bs) n = refl

pub only_none : (o : Option (List Value)) → are_none o ≡ true → Some [] ≡ o
only_none None e = absurd (cc)
only_none (Some []) e = refl
only_none (Some (v ∷ vs)) e = absurd (cc)

module _ (args : Args) (slots : List Slot) (heap : List Object) where
  pub object_made : (o : Object) (p : Progress) (new : List Slot) (grown : List Object) → are_none (unnamed args) ≡ true → o ≡ instance false OBJECT []
      → GivesNew o slots heap p new grown → GivesObject args slots heap p new grown
  unfolding GivesNew GivesObject
  object_made o p new grown none is done =
      made_as heap (λ h st. new_object (unnamed args) st) slots (λ h st. answer_with (allot o st.world.heap) st) p new grown
      (λ h st e. ap (λ x. answer_with (allot x st.world.heap) st) is ∙ ap (λ vs. new_object vs st) (only_none (unnamed args) none)) done

  other_object : (o : Option (List Value)) (st : Stores) → are_none o ≡ false → ◌≡◌ {A = Tree Value} (leave Feature) (new_object o st)
  other_object None st e = refl
  other_object (Some []) st e = absurd (cc)
  other_object (Some (v ∷ vs)) st e = refl

  pub no_object : are_none (unnamed args) ≡ false → GivesObject args slots heap (progress.Outside Feature) slots heap
  unfolding GivesObject
  no_object some = left_out heap (λ h st. new_object (unnamed args) st) slots Feature slots heap (λ h st e. other_object (unnamed args) st some)
