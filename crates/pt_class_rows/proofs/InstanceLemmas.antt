-- Instances of classes of scripts.
use Rattle.std.proofs.Common.{◌≡◌, ◌∙◌, ℕ, Bool, true, false, List, [], ◌∷◌, Option, Some, None, Result, Ok, Err, refl, sym, ap, subst}
use Rattle.std.specs.Prelude.{slice_get, IfOk, IfErr}
use Rattle.pt_base.specs.declared.numbers.ObjId.{ObjId}
use Rattle.pt_base.specs.declared.what.What.{What}
use Rattle.pt_base.specs.declared.what.What.TheVariants.{Feature, Heap}
use Rattle.pt_heap.specs.declared.value.Value.{Value}
use Rattle.pt_heap.specs.declared.object.Class.{Class}
use Rattle.pt_heap.specs.declared.object.Object.{Object}
use Rattle.pt_bind.specs.Binding.{IsTold, binding_with}
use Rattle.pt_bind.specs.declared.arguments.Args.{Args}
use Rattle.pt_bind.specs.declared.arguments.BindErr.{BindErr}
use Rattle.pt_bind.specs.declared.arguments.Locals.{Locals}
use Rattle.pt_bind.specs.declared.arguments.Params.{Params}
use Rattle.pt_content.specs.pt_attrs.declared.look.Found.{Found}
use Rattle.pt_content.specs.pt_attrs.declared.look.Found.TheVariants as found
use Rattle.pt_content.specs.pt_attrs.pt_dicts.Chain.{class_in}
use Rattle.pt_prims.specs.Classes.{derives}
use Rattle.pt_frames.specs.declared.slot.Slot.{Slot}
use Rattle.sem_run.specs.run.Host.{Here, leave, made, beyond}
use Rattle.pt_moves.specs.sem_rows.pt_host.declared.places.TheConstants.{BASE_EXCEPTION, TYPE_ERROR}
use Rattle.pt_moves.specs.sem_rows.pt_host.World.{Program, Stores, Allotted, IsAllotted, allot}
use Rattle.pt_moves.specs.sem_rows.pt_host.Trees.{Tree, answer_with, then_with}
use Rattle.pt_moves.specs.sem_rows.pt_host.Texts.{binding_text}
use Rattle.pt_moves.specs.sem_rows.pt_host.Calls.{initialized as host_initialized, initializer, instance, instance_by, made_unless, parameters_without}
use Rattle.pt_moves.specs.sem_rows.declared.heap_rows.progress.Progress.{Progress}
use Rattle.pt_moves.specs.sem_rows.declared.heap_rows.progress.Progress.TheVariants as progress
use Rattle.pt_moves.specs.sem_rows.heap_rows.Leads.{by_tree, giving}
use Rattle.pt_moves.specs.sem_rows.heap_rows.Views.{slots_view}
use Rattle.pt_class_rows.specs.Calls.{Calls, Makes, is_memory, with_parts}
use Rattle.pt_class_rows.specs.Instances.{CallsClass, GivesNew, IsInitialized, MakesBare}
use Rattle.pt_class_rows.proofs.ObjectLemmas.{fails_so, made_as, only_heap, told_of}

-- without `__init__`

module _ (e : Bool) (id : ObjId) (args : Args) (slots : List Slot) (heap : List Object) (ps : Params) (r : Result Locals BindErr) where
  bound_so : (ls : Locals) → ps ≡ parameters_without e → IfOk r (λ ls. binding_with ps [] args ≡ Ok ls) → r ≡ Ok ls
      → Ok ls ≡ binding_with (parameters_without e) [] args
  bound_so ls is ok so =
      let h : binding_with ps [] args ≡ Ok ls = subst (λ x. IfOk x (λ ls. binding_with ps [] args ≡ Ok ls)) so ok in
      sym h ∙ ap (λ k. binding_with k [] args) is

  pub bare_made : (ls : Locals) (vs : List Value) (o : Object) (p : Progress) (new : List Slot) (grown : List Object)
      → ps ≡ parameters_without e → IfOk r (λ ls. binding_with ps [] args ≡ Ok ls) → r ≡ Ok ls → vs ≡ args.plain → o ≡ instance e id vs
      → GivesNew o slots heap p new grown → MakesBare e id args slots heap p new grown
  unfolding GivesNew MakesBare
  bare_made ls vs o p new grown is ok so plain made_so done c at =
      made_as heap (λ h st. made_unless (binding_with (parameters_without e) [] args) c (instance e id args.plain) h st) slots
      (λ h st. answer_with (allot o st.world.heap) st) p new grown
      (λ h st same. ap (λ x. answer_with (allot x st.world.heap) st) (made_so ∙ ap (λ us. instance e id us) plain)
      ∙ ap (λ b. made_unless b c (instance e id args.plain) h st) (bound_so ls is ok so)) done

  pub bare_refused : (f : BindErr) (p : Progress)
      → ps ≡ parameters_without e → IfErr r (IsTold (binding_with ps [] args)) → r ≡ Err f
      → ((c : Class) → class_in (slice_get heap id.0) ≡ Some c → (is_memory f ≡ false) × (p ≡ progress.FailsSaying TYPE_ERROR (binding_text c.name f)))
      → MakesBare e id args slots heap p slots heap
  unfolding MakesBare
  bare_refused f p is err so refused c at =
      let told_so : IsTold (binding_with ps [] args) f = subst (λ x. IfErr x (IsTold (binding_with ps [] args))) so err in
      let answer : Err f ≡ binding_with (parameters_without e) [] args =
      sym (told_of (binding_with ps [] args) f (refused c at).0 told_so) ∙ ap (λ k. binding_with k [] args) is in
      fails_so heap (λ h st. made_unless (binding_with (parameters_without e) [] args) c (instance e id args.plain) h st) slots
      TYPE_ERROR (binding_text c.name f) p (refused c at).1
      (λ h st same. ap (λ b. made_unless b c (instance e id args.plain) h st) answer)

-- by what the class has its instances begin with

module _ (id : ObjId) (args : Args) (slots : List Slot) (heap : List Object) where
  pub bare_called : (o : Option Found) (e : Bool) (p : Progress) (new : List Slot) (grown : List Object) → o ≡ initializer heap id → o ≡ None
      → e ≡ derives heap BASE_EXCEPTION id → MakesBare e id args slots heap p new grown → CallsClass id args slots heap p new grown
  unfolding MakesBare Makes CallsClass Calls
  bare_called o e p new grown is none derived done c cells at program code i h st u =
      done c at cells program code i h st u
      ∙ (ap (λ b. by_tree code i (giving code i (slots_view slots)) (slots_view slots) (instance_by program b None id c args h (with_parts cells heap st))) derived
      ∙ ap (λ x. by_tree code i (giving code i (slots_view slots)) (slots_view slots)
      (instance_by program (derives heap BASE_EXCEPTION id) x id c args h (with_parts cells heap st))) (sym none ∙ is))

  left_by : (f : Option Found) → f ≡ initializer heap id
      → ((program : Program) (c : Class) (h : Here Value) (st : Stores)
      → ◌≡◌ {A = Tree Value} (leave Feature) (instance_by program (derives heap BASE_EXCEPTION id) f id c args h st))
      → CallsClass id args slots heap (progress.Outside Feature) slots heap
  unfolding CallsClass Calls
  left_by f is leaves c cells at program code i h st u =
      ap (λ (t : Tree Value). by_tree code i (giving code i (slots_view slots)) (slots_view slots) t) (leaves program c h (with_parts cells heap st))
      ∙ ap (λ x. by_tree code i (giving code i (slots_view slots)) (slots_view slots)
      (instance_by program (derives heap BASE_EXCEPTION id) x id c args h (with_parts cells heap st))) is

  pub plain_initializer : (o : Option Found) (v : Value) → o ≡ initializer heap id → o ≡ Some (found.Plain v)
      → CallsClass id args slots heap (progress.Outside Feature) slots heap
  plain_initializer o v is e = left_by (Some (found.Plain v)) (sym e ∙ is) (λ program c h st. refl)

  pub unbuilt_initializer : (o : Option Found) → o ≡ initializer heap id → o ≡ Some found.Unbuilt
      → CallsClass id args slots heap (progress.Outside Feature) slots heap
  unbuilt_initializer o is e = left_by (Some found.Unbuilt) (sym e ∙ is) (λ program c h st. refl)

  module _ (o : Option Found) (f : Value) (e : Bool) (vs : List Value) (x : Object) (grown : List Object) (is : o ≡ initializer heap id)
      (bound : o ≡ Some (found.Bound f)) (derived : e ≡ derives heap BASE_EXCEPTION id) (plain : vs ≡ args.plain) (made_so : x ≡ instance e id vs) where
    object_is : x ≡ instance (derives heap BASE_EXCEPTION id) id args.plain
    object_is = made_so ∙ (ap (λ b. instance b id vs) derived ∙ ap (λ us. instance (derives heap BASE_EXCEPTION id) id us) plain)

    pub initialized : (v : Value) → IsAllotted (allot x heap) (Some v) grown → IsInitialized id args heap f v grown
    initialized v a = record {
      function = sym is ∙ bound;
      made_so = subst (λ y. IsAllotted (allot y heap) (Some v) grown) object_is a;
    }

    -- where there is no room for it
    no-room-by : (a : Allotted) → a ≡ allot (instance (derives heap BASE_EXCEPTION id) id args.plain) heap → IsAllotted a None grown
        → (program : Program) (c : Class) (h : Here Value) (st : Stores)
        → ◌≡◌ {A = Tree Value} (leave Heap) (then_with (answer_with a st) (λ v st1. host_initialized program f v args h st1))
    unfolding then_with
    no-room-by (made w k) same is program c h st = absurd (cc)
    no-room-by (beyond what) same is program c h st =
        ap (λ (y : What). leave y) (sym (only_heap (instance (derives heap BASE_EXCEPTION id) id args.plain) heap what (sym same)))

    pub no_room : IsAllotted (allot x heap) None grown → CallsClass id args slots heap (progress.Outside Heap) slots grown
    unfolding CallsClass Calls
    no_room a c cells at program code i h st u =
        ap (λ (t : Tree Value). by_tree code i (giving code i (slots_view slots)) (slots_view slots) t)
        (no-room-by (allot (instance (derives heap BASE_EXCEPTION id) id args.plain) heap) refl
        (subst (λ y. IsAllotted (allot y heap) None grown) object_is a) program c h (with_parts cells heap st))
        ∙ ap (λ y. by_tree code i (giving code i (slots_view slots)) (slots_view slots)
        (instance_by program (derives heap BASE_EXCEPTION id) y id c args h (with_parts cells heap st))) (sym bound ∙ is)
