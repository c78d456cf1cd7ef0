-- Attributes that are set by texts.
use Rattle.std.proofs.Common.{◌≡◌, ◌∙◌, ℕ, Bool, true, false, List, [], ◌∷◌, length, get_or, Option, Some, None, Result, Ok, Err, refl, sym, ap, subst, arith}
use Rattle.std.specs.Prelude.{codes}
use Rattle.pt_base.specs.declared.failure.Failure.{Failure}
use Rattle.pt_base.specs.declared.failure.Failure.TheVariants.{Refused}
use Rattle.pt_base.specs.declared.what.What.TheVariants.{Feature}
use Rattle.pt_heap.specs.declared.value.Value.{Value}
use Rattle.pt_heap.specs.declared.value.Value.TheVariants as value
use Rattle.pt_heap.specs.declared.view.Binding.{Binding}
use Rattle.pt_heap.specs.declared.object.Object.{Object}
use Rattle.pt_bind.specs.declared.arguments.Args.{Args}
use Rattle.pt_content.specs.Classes.{class_name}
use Rattle.pt_content.specs.Operands.{text_of}
use Rattle.pt_content.specs.pt_attrs.declared.look.NoAttr.{NoAttr}
use Rattle.pt_content.specs.pt_attrs.Look.{object_of}
use Rattle.pt_content.specs.pt_attrs.Store.{Changes, assigned}
use Rattle.pt_frames.specs.declared.slot.Slot.{Slot}
use Rattle.pt_frames.specs.declared.slot.Slot.TheVariants as slot
use Rattle.sem_run.specs.run.Host.{Here, answer, leave}
use Rattle.pt_moves.specs.sem_rows.pt_host.declared.places.TheConstants.{ATTRIBUTE_ERROR, TYPE_ERROR}
use Rattle.pt_moves.specs.sem_rows.pt_host.World.{Stores}
use Rattle.pt_moves.specs.sem_rows.pt_host.Trees.{Tree, then_with}
use Rattle.pt_moves.specs.sem_rows.pt_host.Errors.{error_saying, raise_saying}
use Rattle.pt_moves.specs.sem_rows.pt_host.Texts.{missing_text}
use Rattle.pt_moves.specs.sem_rows.pt_host.Attributes.{by_changed, is_fixed, set_attribute, set_named}
use Rattle.pt_moves.specs.sem_rows.pt_host.Calls.{call_setattr}
use Rattle.pt_moves.specs.sem_rows.declared.heap_rows.progress.Progress.{Progress}
use Rattle.pt_moves.specs.sem_rows.declared.heap_rows.progress.Progress.TheVariants as progress
use Rattle.pt_moves.specs.sem_rows.heap_rows.Leads.{by_tree, giving}
use Rattle.pt_moves.specs.sem_rows.heap_rows.Told.{told}
use Rattle.pt_moves.specs.sem_rows.heap_rows.Views.{slots_view}
use Rattle.pt_class_rows.specs.Calls.{Calls, Makes, with_parts}
use Rattle.pt_class_rows.specs.Instances.{SetsHere, SetsNamed, unnamed}
use Rattle.pt_class_rows.proofs.ObjectLemmas.{fails_so, left_out, made_as, raise_kept}

-- an attribute is set

module _ (x : List ℕ) (to v : Value) (slots : List Slot) (heap grown : List Object) (fixed : Bool) (is_so : fixed ≡ is_fixed (object_of heap to) x)
    (r : Result (Unit {0}) (Failure NoAttr)) (changes : Changes heap grown r (assigned heap to x v)) where
  -- what is made of the answer
  abbrev then_none : (b : Bool) → Option (List Object) → Here Value → Stores → Tree Value
  then_none b o h st = then_with (by_changed b x to o h st) (λ (u : Unit {0}) st1. answer value.None st1)

  here : (b : Bool) (o : Option (List Object)) (h : Here Value) (st : Stores) → st.world.heap ≡ heap → b ≡ fixed → o ≡ assigned heap to x v
      → ◌≡◌ {A = Tree Value} (then_none b o h st) (then_with (set_attribute x to v h st) (λ (u : Unit {0}) st1. answer value.None st1))
  here b o h st at fixes so =
      ap (λ c. then_none c o h st) (fixes ∙ (is_so ∙ ap (λ k. is_fixed (object_of k to) x) (sym at)))
      ∙ ap (λ q. then_none (is_fixed (object_of st.world.heap to) x) q h st) (so ∙ ap (λ k. assigned k to x v) (sym at))

  stored : (u : Unit {0}) → r ≡ Ok u → Some grown ≡ assigned heap to x v
  stored u e = sym (let h : assigned heap to x v ≡ Some grown = subst (λ y. Changes heap grown y (assigned heap to x v)) e changes in h)

  pub set_here : (u : Unit {0}) (new : List Slot) → r ≡ Ok u → fixed ≡ false → new ≡ slot.Value value.None ∷ slots
      → SetsHere x to v slots heap progress.Next new grown
  unfolding SetsHere Makes Calls then_with
  set_here u new e free stands cells program code i h st w =
      ap (λ ss. told program code i h progress.Next (slots_view ss) (with_parts cells grown st)) stands
      ∙ ap (λ (t : Tree Value). by_tree code i (giving code i (slots_view slots)) (slots_view slots) t)
      (here false (Some grown) h (with_parts cells heap st) refl (sym free) (stored u e))

  pub fixed_here : (u : Unit {0}) → r ≡ Ok u → fixed ≡ true → SetsHere x to v slots heap (progress.Outside Feature) slots grown
  unfolding SetsHere then_with
  fixed_here u e closed =
      left_out heap (λ h st. then_with (set_attribute x to v h st) (λ (u : Unit {0}) st1. answer value.None st1)) slots Feature slots grown
      (λ h st at. here true (Some grown) h st at (sym closed) (stored u e))

  pub missing_here : (f : NoAttr) (p : Progress) → r ≡ Err (Refused f) → p ≡ progress.FailsSaying ATTRIBUTE_ERROR (missing_text (class_name grown to) x)
      → SetsHere x to v slots heap p slots grown
  unfolding SetsHere
  missing_here f p e q =
      let refused : (assigned heap to x v ≡ None) × (grown ≡ heap) = subst (λ y. Changes heap grown y (assigned heap to x v)) e changes in
      subst (λ k. Makes (λ h st. then_with (set_attribute x to v h st) (λ (u : Unit {0}) st1. answer value.None st1)) slots heap p slots k) (sym refused.1)
      (fails_so heap (λ h st. then_with (set_attribute x to v h st) (λ (u : Unit {0}) st1. answer value.None st1)) slots
      ATTRIBUTE_ERROR (missing_text (class_name heap to) x) p (q ∙ ap (λ k. progress.FailsSaying ATTRIBUTE_ERROR (missing_text (class_name k to) x)) refused.1)
      (λ h st at. ap (λ k. raise_saying ATTRIBUTE_ERROR (missing_text (class_name k to) x) h st) (sym at)
      ∙ (sym (raise_kept (error_saying ATTRIBUTE_ERROR (missing_text (class_name st.world.heap to) x) None h.active st.world.heap) st
      (λ (u : Unit {0}) st1. answer value.None st1))
      ∙ here fixed None h st at refl (sym refused.0))))

-- by the arguments

module _ (args : Args) (slots : List Slot) (heap : List Object) where
  pub some_named : (args.named ≡ [] → ⊥) → SetsNamed args slots heap (progress.Outside Feature) slots heap
  unfolding SetsNamed
  some_named n = left_out heap (λ h st. call_setattr (unnamed args) h st) slots Feature slots heap (λ h st e. by args.named n h st)
    where
      by : (bs : List Binding) → (bs ≡ [] → ⊥) → (h : Here Value) (st : Stores)
          → ◌≡◌ {A = Tree Value} (leave Feature) (call_setattr (unnamed (record { plain = args.plain; named = bs })) h st)
      by [] n h st = absurd (n refl)
      by (b ∷ bs) n h st = refl

  unnamed_so : args.named ≡ [] → Some args.plain ≡ unnamed args
  unnamed_so n = ap (λ bs. unnamed (record { plain = args.plain; named = bs })) (sym n)

  pub other_arguments : args.named ≡ [] → (length args.plain ≡ 3 → ⊥) → SetsNamed args slots heap (progress.Outside Feature) slots heap
  unfolding SetsNamed
  other_arguments n l = left_out heap (λ h st. call_setattr (unnamed args) h st) slots Feature slots heap
      (λ h st e. by args.plain l h st ∙ ap (λ o. call_setattr o h st) (unnamed_so n))
    where
      by : (vs : List Value) → (length vs ≡ 3 → ⊥) → (h : Here Value) (st : Stores) → ◌≡◌ {A = Tree Value} (leave Feature) (call_setattr (Some vs) h st)
      by [] l h st = refl
      by (a ∷ []) l h st = refl
      by (a ∷ b ∷ []) l h st = refl
      by (a ∷ b ∷ c ∷ []) l h st = absurd (l refl)
      by (a ∷ b ∷ c ∷ d ∷ vs) l h st = refl

  three : (vs : List Value) (x y z : Value) → length vs ≡ 3 → get_or vs 0 x ∷ get_or vs 1 y ∷ get_or vs 2 z ∷ [] ≡ vs
  three [] x y z l = absurd (omega (arith, l))
  three (a ∷ []) x y z l = absurd (omega (arith, l))
  three (a ∷ b ∷ []) x y z l = absurd (omega (arith, l))
  three (a ∷ b ∷ c ∷ []) x y z l = refl
  three (a ∷ b ∷ c ∷ d ∷ vs) x y z l = absurd (omega (arith, l))

  module _ (n : args.named ≡ []) (l : length args.plain ≡ 3) (x y z : Value) where
    -- what is called, by the text
    leads : (o : Option (List ℕ)) (h : Here Value) (st : Stores) → st.world.heap ≡ heap → o ≡ text_of heap (get_or args.plain 1 y)
        → ◌≡◌ {A = Tree Value} (then_with (set_named o (get_or args.plain 0 x) (get_or args.plain 2 z) h st) (λ (u : Unit {0}) st1. answer value.None st1))
        (call_setattr (unnamed args) h st)
    leads o h st at e =
        ap (λ q. then_with (set_named q (get_or args.plain 0 x) (get_or args.plain 2 z) h st) (λ (u : Unit {0}) st1. answer value.None st1))
        (e ∙ ap (λ k. text_of k (get_or args.plain 1 y)) (sym at))
        ∙ ap (λ q. call_setattr q h st) (ap (λ vs. Some vs) (three args.plain x y z l) ∙ unnamed_so n)

    pub named_set : (t : List ℕ) (p : Progress) (new : List Slot) (grown : List Object) → text_of heap (get_or args.plain 1 y) ≡ Some t
        → SetsHere t (get_or args.plain 0 x) (get_or args.plain 2 z) slots heap p new grown → SetsNamed args slots heap p new grown
    unfolding SetsHere SetsNamed
    named_set t p new grown e done =
        made_as heap (λ h st. call_setattr (unnamed args) h st) slots
        (λ h st. then_with (set_attribute t (get_or args.plain 0 x) (get_or args.plain 2 z) h st) (λ (u : Unit {0}) st1. answer value.None st1)) p new grown
        (λ h st at. leads (Some t) h st at (sym e)) done

  pub no_text : (n : args.named ≡ []) (l : length args.plain ≡ 3) (y : Value) (p : Progress) → text_of heap (get_or args.plain 1 y) ≡ None
      → p ≡ progress.FailsSaying TYPE_ERROR (codes "bad argument") → SetsNamed args slots heap p slots heap
  unfolding SetsNamed
  no_text n l y p e q =
      fails_so heap (λ h st. call_setattr (unnamed args) h st) slots TYPE_ERROR (codes "bad argument") p q
      (λ h st at. sym (raise_kept (error_saying TYPE_ERROR (codes "bad argument") None h.active st.world.heap) st (λ (u : Unit {0}) st1. answer value.None st1))
      ∙ leads n l y y y None h st at (sym e))
