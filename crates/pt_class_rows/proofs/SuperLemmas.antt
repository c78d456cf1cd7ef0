-- What `super` gives.
use Rattle.std.proofs.Common.{◌≡◌, ◌∙◌, ℕ, Bool, true, false, List, [], ◌∷◌, Option, Some, None, refl, sym, ap, subst}
use Rattle.std.specs.Prelude.{codes, slice_get, if◌then◌else◌}
use Rattle.pt_base.specs.declared.numbers.ObjId.{ObjId}
use Rattle.pt_base.specs.declared.what.What.TheVariants.{Feature}
use Rattle.pt_heap.specs.declared.value.Value.{Value}
use Rattle.pt_heap.specs.declared.value.Value.TheVariants as value
use Rattle.pt_heap.specs.declared.object.Class.{Class}
use Rattle.pt_heap.specs.declared.object.Object.{Object}
use Rattle.pt_heap.specs.declared.object.Object.TheVariants as object
use Rattle.pt_bind.specs.declared.arguments.Args.{Args}
use Rattle.pt_content.specs.pt_attrs.pt_dicts.Chain.{class_in}
use Rattle.pt_frames.specs.declared.slot.Slot.{Slot}
use Rattle.sem_run.specs.run.Host.{Here, leave}
use Rattle.pt_moves.specs.sem_rows.pt_host.declared.places.TheConstants.{RUNTIME_ERROR, TYPE_ERROR}
use Rattle.pt_moves.specs.sem_rows.pt_host.World.{Program, Stores, allot}
use Rattle.pt_moves.specs.sem_rows.pt_host.Trees.{Tree, answer_with}
use Rattle.pt_moves.specs.sem_rows.pt_host.Errors.{raise_saying}
use Rattle.pt_moves.specs.sem_rows.pt_host.Supers.{class_around as host_class, may_have_super, super_by, super_object, super_of}
use Rattle.pt_moves.specs.sem_rows.pt_host.Calls.{call_super}
use Rattle.pt_moves.specs.sem_rows.declared.heap_rows.progress.Progress.{Progress}
use Rattle.pt_moves.specs.sem_rows.declared.heap_rows.progress.Progress.TheVariants as progress
use Rattle.pt_moves.specs.sem_rows.heap_rows.Leads.{by_tree, giving}
use Rattle.pt_moves.specs.sem_rows.heap_rows.Views.{slots_view}
use Rattle.pt_class_rows.specs.Calls.{Calls, Makes, Running, Runs, with_parts}
use Rattle.pt_class_rows.specs.Instances.{GivesNew, are_none, unnamed}
use Rattle.pt_class_rows.specs.Supers.{GivesSuper, GivesSuperBy, GivesSuperOf, class_around, first_value}
use Rattle.pt_class_rows.proofs.ObjectLemmas.{fails_so, made_as, only_none}
use Rattle.pt_class_rows.proofs.NameLemmas.{class_is, parameter_is}

-- by a class

module _ (id : ObjId) (r : Value) (slots : List Slot) (heap : List Object) where
  abbrev above : Here Value → Stores → Tree Value
  above h st = super_by id (slice_get st.world.heap id.0) r h st

  -- one that is a class, and one that is none
  of_class : (o : Option Object) (b : Bool) (h : Here Value) (st : Stores) → (class_in o ≡ None → ⊥) → may_have_super st.world.heap (value.Obj id) r ≡ b
      → ◌≡◌ {A = Tree Value}
      (if b then answer_with (allot (super_object id r) st.world.heap) st else raise_saying TYPE_ERROR (codes "bad argument") h st) (super_by id o r h st)
  of_class None b h st n e = absurd (n refl)
  of_class (Some (object.Str s)) b h st n e = absurd (n refl)
  of_class (Some (object.List l)) b h st n e = absurd (n refl)
  of_class (Some (object.Tuple l)) b h st n e = absurd (n refl)
  of_class (Some (object.Dict d)) b h st n e = absurd (n refl)
  of_class (Some (object.Set d)) b h st n e = absurd (n refl)
  of_class (Some (object.Range x)) b h st n e = absurd (n refl)
  of_class (Some (object.Slice x)) b h st n e = absurd (n refl)
  of_class (Some (object.Cursor x)) b h st n e = absurd (n refl)
  of_class (Some (object.View x)) b h st n e = absurd (n refl)
  of_class (Some (object.Function f)) b h st n e = absurd (n refl)
  of_class (Some (object.Method m)) b h st n e = absurd (n refl)
  of_class (Some (object.Builtin f)) b h st n e = absurd (n refl)
  of_class (Some (object.Class c)) b h st n e =
      ap (λ d. if d then answer_with (allot (super_object id r) st.world.heap) st else raise_saying TYPE_ERROR (codes "bad argument") h st) (sym e)
  of_class (Some (object.Instance x)) b h st n e = absurd (n refl)
  of_class (Some (object.Error x)) b h st n e = absurd (n refl)
  of_class (Some (object.Generator x)) b h st n e = absurd (n refl)
  of_class (Some (object.Frame x)) b h st n e = absurd (n refl)
  of_class (Some (object.CodeRef x y)) b h st n e = absurd (n refl)
  of_class (Some (object.Module x)) b h st n e = absurd (n refl)
  of_class (Some (object.Super x)) b h st n e = absurd (n refl)

  of_none : (o : Option Object) (h : Here Value) (st : Stores) → class_in o ≡ None
      → ◌≡◌ {A = Tree Value} (raise_saying RUNTIME_ERROR (codes "bad argument") h st) (super_by id o r h st)
  of_none None h st e = refl
  of_none (Some (object.Str s)) h st e = refl
  of_none (Some (object.List l)) h st e = refl
  of_none (Some (object.Tuple l)) h st e = refl
  of_none (Some (object.Dict d)) h st e = refl
  of_none (Some (object.Set d)) h st e = refl
  of_none (Some (object.Range x)) h st e = refl
  of_none (Some (object.Slice x)) h st e = refl
  of_none (Some (object.Cursor x)) h st e = refl
  of_none (Some (object.View x)) h st e = refl
  of_none (Some (object.Function f)) h st e = refl
  of_none (Some (object.Method m)) h st e = refl
  of_none (Some (object.Builtin f)) h st e = refl
  of_none (Some (object.Class c)) h st e = absurd (cc)
  of_none (Some (object.Instance x)) h st e = refl
  of_none (Some (object.Error x)) h st e = refl
  of_none (Some (object.Generator x)) h st e = refl
  of_none (Some (object.Frame x)) h st e = refl
  of_none (Some (object.CodeRef x y)) h st e = refl
  of_none (Some (object.Module x)) h st e = refl
  of_none (Some (object.Super x)) h st e = refl

  pub super_given : (p : Progress) (new : List Slot) (grown : List Object) → (class_in (slice_get heap id.0) ≡ None → ⊥)
      → may_have_super heap (value.Obj id) r ≡ true → GivesNew (super_object id r) slots heap p new grown → GivesSuperOf id r slots heap p new grown
  unfolding GivesNew GivesSuperOf
  super_given p new grown is may done =
      made_as heap above slots (λ h st. answer_with (allot (super_object id r) st.world.heap) st) p new grown
      (λ h st at. of_class (slice_get st.world.heap id.0) true h st (subst (λ k. class_in (slice_get k id.0) ≡ None → ⊥) (sym at) is)
      (ap (λ k. may_have_super k (value.Obj id) r) at ∙ may)) done

  pub no_super : (p : Progress) → (class_in (slice_get heap id.0) ≡ None → ⊥) → may_have_super heap (value.Obj id) r ≡ false
      → p ≡ progress.FailsSaying TYPE_ERROR (codes "bad argument") → GivesSuperOf id r slots heap p slots heap
  unfolding GivesSuperOf
  no_super p is may q =
      fails_so heap above slots TYPE_ERROR (codes "bad argument") p q
      (λ h st at. of_class (slice_get st.world.heap id.0) false h st (subst (λ k. class_in (slice_get k id.0) ≡ None → ⊥) (sym at) is)
      (ap (λ k. may_have_super k (value.Obj id) r) at ∙ may))

  pub no_class : (p : Progress) → class_in (slice_get heap id.0) ≡ None → p ≡ progress.FailsSaying RUNTIME_ERROR (codes "bad argument")
      → GivesSuperOf id r slots heap p slots heap
  unfolding GivesSuperOf
  no_class p is q =
      fails_so heap above slots RUNTIME_ERROR (codes "bad argument") p q
      (λ h st at. of_none (slice_get st.world.heap id.0) h st (ap (λ k. class_in (slice_get k id.0)) at ∙ is))

-- by what stands in its cell

module _ (c r : Option Value) (slots : List Slot) (heap : List Object) where
  pub by_class : (id : ObjId) (v : Value) (p : Progress) (new : List Slot) (grown : List Object) → c ≡ Some (value.Obj id) → r ≡ Some v
      → GivesSuperOf id v slots heap p new grown → GivesSuperBy c r slots heap p new grown
  unfolding GivesSuperOf GivesSuperBy
  by_class id v p new grown e f done =
      made_as heap (λ h st. super_of c r h st) slots (λ h st. super_by id (slice_get st.world.heap id.0) v h st) p new grown
      (λ h st at. ap (λ x. super_of x (Some v) h st) (sym e) ∙ ap (λ x. super_of c x h st) (sym f)) done

  nothing_by : (x y : Option Value) (h : Here Value) (st : Stores) → ((id : ObjId) (v : Value) → x ≡ Some (value.Obj id) → y ≡ Some v → ⊥)
      → ◌≡◌ {A = Tree Value} (raise_saying RUNTIME_ERROR (codes "bad argument") h st) (super_of x y h st)
  nothing_by None y h st n = refl
  nothing_by (Some value.None) y h st n = refl
  nothing_by (Some (value.Bool b)) y h st n = refl
  nothing_by (Some (value.Int z)) y h st n = refl
  nothing_by (Some value.Ellipsis) y h st n = refl
  nothing_by (Some value.NotImplemented) y h st n = refl
  nothing_by (Some (value.Obj id)) None h st n = refl
  nothing_by (Some (value.Obj id)) (Some v) h st n = absurd (n id v refl refl)

  pub nothing_above : (p : Progress) → ((id : ObjId) (v : Value) → c ≡ Some (value.Obj id) → r ≡ Some v → ⊥)
      → p ≡ progress.FailsSaying RUNTIME_ERROR (codes "bad argument") → GivesSuperBy c r slots heap p slots heap
  unfolding GivesSuperBy
  nothing_above p n q =
      fails_so heap (λ h st. super_of c r h st) slots RUNTIME_ERROR (codes "bad argument") p q (λ h st at. nothing_by c r h st n)

-- by the names of the block that runs

module _ (r : Running) (args : Args) (slots : List Slot) (cells : List (Option Value)) (heap : List Object) where
  pub super_called : (c v : Option Value) (p : Progress) (new : List Slot) (grown : List Object) → are_none (unnamed args) ≡ true
      → c ≡ class_around r cells → v ≡ first_value r cells → GivesSuperBy c v slots heap p new grown → GivesSuper r args slots cells heap p new grown
  unfolding GivesSuperBy Makes GivesSuper Calls
  super_called c v p new grown none around first done program code i h st runs =
      let same : Runs r program h (with_parts cells heap st) = record { facts = runs.facts; names = runs.names } in
      done cells program code i h st tt
      ∙ (ap (λ x. by_tree code i (giving code i (slots_view slots)) (slots_view slots) (super_of x v h (with_parts cells heap st)))
      (around ∙ sym (class_is r program h (with_parts cells heap st) same))
      ∙ (ap (λ x. by_tree code i (giving code i (slots_view slots)) (slots_view slots)
      (super_of (host_class (program.facts h.block) (with_parts cells heap st)) x h (with_parts cells heap st)))
      (first ∙ sym (parameter_is r program h (with_parts cells heap st) same))
      ∙ ap (λ o. by_tree code i (giving code i (slots_view slots)) (slots_view slots) (call_super program o h (with_parts cells heap st)))
      (only_none (unnamed args) none)))

  pub arguments_given : are_none (unnamed args) ≡ false → GivesSuper r args slots cells heap (progress.Outside Feature) slots heap
  unfolding GivesSuper Calls
  arguments_given some program code i h st runs =
      ap (λ (t : Tree Value). by_tree code i (giving code i (slots_view slots)) (slots_view slots) t) (other (unnamed args) some)
    where
      other : (o : Option (List Value)) → are_none o ≡ false → ◌≡◌ {A = Tree Value} (leave Feature) (call_super program o h (with_parts cells heap st))
      other None e = refl
      other (Some []) e = absurd (cc)
      other (Some (v ∷ vs)) e = refl
