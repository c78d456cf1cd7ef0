-- What calls of values come to.
use Rattle.std.proofs.Common.{◌≡◌, ◌∙◌, ◌-◌, ◌<◌, ℕ, zero, suc, Bool, true, false, List, ◌∷◌, Option, Some, None, refl, sym, ap, subst, arith}
use Rattle.std.specs.Prelude.{slice_get, codes, if◌then◌else◌}
use Rattle.pt_base.specs.declared.numbers.ObjId.{ObjId}
use Rattle.pt_base.specs.declared.what.What.TheVariants.{Feature}
use Rattle.pt_heap.specs.declared.value.Value.{Value}
use Rattle.pt_heap.specs.declared.value.Value.TheVariants as value
use Rattle.pt_heap.specs.declared.object.Object.{Object}
use Rattle.pt_heap.specs.declared.object.Object.TheVariants as object
use Rattle.pt_heap.specs.declared.object.Class.{Class as ClassObject}
use Rattle.pt_heap.specs.declared.object.Method.{Method}
use Rattle.pt_bind.specs.declared.arguments.Args.{Args}
use Rattle.pt_frames.specs.declared.slot.Slot.{Slot}
use Rattle.pt_content.specs.declared.function.Function.{Function as Builtin}
use Rattle.pt_content.specs.declared.method_name.MethodName.{MethodName}
use Rattle.pt_content.specs.Functions.{of_class, of_function}
use Rattle.pt_content.specs.declared.operand.Operand.{Operand}
use Rattle.pt_content.specs.Operands.{object_operand, operand_of}
use Rattle.pt_content.specs.pt_attrs.Look.{object_of}
use Rattle.pt_content.specs.pt_attrs.pt_dicts.Chain.{class_in}
use Rattle.pt_content.specs.pt_attrs.declared.look.Found.{Found}
use Rattle.pt_content.specs.pt_attrs.declared.look.Found.TheVariants as found
use Rattle.sem_run.specs.run.Host.{Here}
use Rattle.pt_block_calls.specs.pt_operators.pt_moves.sem_rows.pt_host.pt_methods.Names.{of_method_number}
use Rattle.pt_block_calls.specs.pt_operators.pt_prims.pt_special_methods.Instances.{class_asked, method_in as method_in_class}
use Rattle.pt_block_calls.specs.pt_operators.pt_prims.pt_special_methods.pt_reprs.Reached.{is_instance}
use Rattle.pt_block_calls.specs.pt_operators.pt_moves.sem_rows.pt_host.World.{Stores, Program}
use Rattle.pt_block_calls.specs.pt_operators.pt_moves.sem_rows.pt_host.Trees.{Tree}
use Rattle.pt_block_calls.specs.pt_operators.pt_moves.sem_rows.pt_host.declared.places.TheConstants.{RECURSION_ERROR}
use Rattle.pt_block_calls.specs.pt_operators.pt_moves.sem_rows.pt_host.Errors.{raise_saying}
use Rattle.pt_block_calls.specs.pt_operators.pt_moves.sem_rows.pt_host.Calls.{Called, call_builtin, call_builtin_object, call_by, call_class, call_function_at, call_limit, call_method, call_object, call_value, called_within, class_function, not_callable as host_not_callable, with_receiver}
use Rattle.pt_block_calls.specs.pt_operators.pt_moves.sem_rows.declared.heap_rows.progress.Progress.{Progress}
use Rattle.pt_block_calls.specs.pt_operators.pt_moves.sem_rows.declared.heap_rows.progress.Progress.TheVariants as progress
use Rattle.pt_block_calls.specs.pt_operators.pt_moves.sem_rows.heap_rows.Leads.{by_tree, giving}
use Rattle.pt_block_calls.specs.pt_operators.pt_moves.sem_rows.heap_rows.Told.{told}
use Rattle.pt_block_calls.specs.pt_operators.pt_moves.sem_rows.heap_rows.Views.{slots_view}
use Rattle.pt_block_calls.specs.pt_function_rows.pt_code_facts.declared.facts.Blocks.{Blocks}
use Rattle.pt_block_calls.specs.pt_class_rows.Calls.{Calls, Running, with_parts}
use Rattle.pt_block_calls.specs.declared.blocks.Given.TheVariants as gives
use Rattle.pt_block_calls.specs.BlockCalls.{CallsFunctionAt, function_in, function_of}
use Rattle.pt_block_calls.specs.pt_operators.pt_moves.sem_rows.pt_host.Attributes.{bound_in, bound_of}
use Rattle.pt_call_rows.specs.CallRows.{CallsAnyClass, CallsBuiltin, CallsMethod, CallsOnce, CallsValue, builtin_in, builtin_of, class_id_of, class_in_place, function_by, last_by, last_callee, method_by, method_in, method_of, next_callee, not_callable, plain_in, special_of, too_deep}

-- how many values may be called in turn

module _ (heap : List Object) (v : Value) where
  pub none_left : (n : ℕ) → n ≡ 0 → None ≡ last_callee n heap v
  unfolding last_callee
  none_left zero e = refl
  none_left (suc n) e = absurd (cc)

  pub one_less : (n : ℕ) (o : Option Value) (w : Value) (last : Option Value) → (n ≡ 0 → ⊥) → o ≡ next_callee heap v → o ≡ Some w → last ≡ last_callee (n - 1) heap w
      → last ≡ last_callee n heap v
  unfolding last_callee
  one_less zero o w last m has is so = absurd (m refl)
  one_less (suc n) o w last m has is so =
      let before : suc n - 1 ≡ n = omega (arith) in
      so ∙ (ap (λ k. last_callee k heap w) before ∙ ap (λ k. last_by v (last_callee n heap) k) (sym is ∙ has))

  pub last_here : (n : ℕ) (o : Option Value) → (n ≡ 0 → ⊥) → o ≡ next_callee heap v → o ≡ None → Some v ≡ last_callee n heap v
  unfolding last_callee
  last_here zero o m has is = absurd (m refl)
  last_here (suc n) o m has is = ap (λ k. last_by v (last_callee n heap) k) (sym is ∙ has)

-- by what an object is

module _ (program : Program) (next : Called) (v : Value) (args : Args) (h : Here Value) (st : Stores) where
  object_function_at : (o : Option Object) → (function_in o ≡ None → ⊥)
      → ◌≡◌ {A = Tree Value} (call_object program next o v args h st) (call_function_at program o args h st)
  object_function_at None n = absurd (n refl)
  object_function_at (Some (object.Str s)) n = absurd (n refl)
  object_function_at (Some (object.List l)) n = absurd (n refl)
  object_function_at (Some (object.Tuple l)) n = absurd (n refl)
  object_function_at (Some (object.Dict d)) n = absurd (n refl)
  object_function_at (Some (object.Set d)) n = absurd (n refl)
  object_function_at (Some (object.Range r)) n = absurd (n refl)
  object_function_at (Some (object.Slice r)) n = absurd (n refl)
  object_function_at (Some (object.Cursor r)) n = absurd (n refl)
  object_function_at (Some (object.View r)) n = absurd (n refl)
  object_function_at (Some (object.Function g)) n = refl
  object_function_at (Some (object.Method k)) n = absurd (n refl)
  object_function_at (Some (object.Builtin b)) n = absurd (n refl)
  object_function_at (Some (object.Class d)) n = absurd (n refl)
  object_function_at (Some (object.Instance x)) n = absurd (n refl)
  object_function_at (Some (object.Error x)) n = absurd (n refl)
  object_function_at (Some (object.Generator y)) n = absurd (n refl)
  object_function_at (Some (object.Frame y)) n = absurd (n refl)
  object_function_at (Some (object.CodeRef b hid)) n = absurd (n refl)
  object_function_at (Some (object.Module y)) n = absurd (n refl)
  object_function_at (Some (object.Super x)) n = absurd (n refl)

  object_builtin : (o : Option Object) (f : Option Builtin) → builtin_in o ≡ Some f
      → ◌≡◌ {A = Tree Value} (call_object program next o v args h st) (call_builtin program f args h st)
  object_builtin None f e = absurd (cc)
  object_builtin (Some (object.Str s)) f e = absurd (cc)
  object_builtin (Some (object.List l)) f e = absurd (cc)
  object_builtin (Some (object.Tuple l)) f e = absurd (cc)
  object_builtin (Some (object.Dict d)) f e = absurd (cc)
  object_builtin (Some (object.Set d)) f e = absurd (cc)
  object_builtin (Some (object.Range r)) f e = absurd (cc)
  object_builtin (Some (object.Slice r)) f e = absurd (cc)
  object_builtin (Some (object.Cursor r)) f e = absurd (cc)
  object_builtin (Some (object.View r)) f e = absurd (cc)
  object_builtin (Some (object.Function g)) f e = absurd (cc)
  object_builtin (Some (object.Method k)) f e = absurd (cc)
  object_builtin (Some (object.Builtin b)) f e = by b.receiver e
    where
      by : (r : Option Value) → function_by b.number r ≡ Some f → ◌≡◌ {A = Tree Value} (call_builtin_object program b r args h st) (call_builtin program f args h st)
      by None e = let q : of_function b.number ≡ f = cc in ap (λ x. call_builtin program x args h st) q
      by (Some u) e = absurd (cc)
  object_builtin (Some (object.Class d)) f e = absurd (cc)
  object_builtin (Some (object.Instance x)) f e = absurd (cc)
  object_builtin (Some (object.Error x)) f e = absurd (cc)
  object_builtin (Some (object.Generator y)) f e = absurd (cc)
  object_builtin (Some (object.Frame y)) f e = absurd (cc)
  object_builtin (Some (object.CodeRef b hid)) f e = absurd (cc)
  object_builtin (Some (object.Module y)) f e = absurd (cc)
  object_builtin (Some (object.Super x)) f e = absurd (cc)

  object_method : (o : Option Object) (m : Option MethodName) (u : Value) → method_in o ≡ Some (m, u)
      → ◌≡◌ {A = Tree Value} (call_object program next o v args h st) (call_method program m u args h st)
  object_method None m u e = absurd (cc)
  object_method (Some (object.Str s)) m u e = absurd (cc)
  object_method (Some (object.List l)) m u e = absurd (cc)
  object_method (Some (object.Tuple l)) m u e = absurd (cc)
  object_method (Some (object.Dict d)) m u e = absurd (cc)
  object_method (Some (object.Set d)) m u e = absurd (cc)
  object_method (Some (object.Range r)) m u e = absurd (cc)
  object_method (Some (object.Slice r)) m u e = absurd (cc)
  object_method (Some (object.Cursor r)) m u e = absurd (cc)
  object_method (Some (object.View r)) m u e = absurd (cc)
  object_method (Some (object.Function g)) m u e = absurd (cc)
  object_method (Some (object.Method k)) m u e = absurd (cc)
  object_method (Some (object.Builtin b)) m u e = by b.receiver e
    where
      by : (r : Option Value) → method_by b.number r ≡ Some (m, u) → ◌≡◌ {A = Tree Value} (call_builtin_object program b r args h st) (call_method program m u args h st)
      by None e = absurd (cc)
      by (Some w) e = let q : ◌≡◌ {A = Option MethodName × Value} (of_method_number b.number, w) (m, u) = cc in
          ap (λ (x : Option MethodName × Value). call_method program x.0 x.1 args h st) q
  object_method (Some (object.Class d)) m u e = absurd (cc)
  object_method (Some (object.Instance x)) m u e = absurd (cc)
  object_method (Some (object.Error x)) m u e = absurd (cc)
  object_method (Some (object.Generator y)) m u e = absurd (cc)
  object_method (Some (object.Frame y)) m u e = absurd (cc)
  object_method (Some (object.CodeRef b hid)) m u e = absurd (cc)
  object_method (Some (object.Module y)) m u e = absurd (cc)
  object_method (Some (object.Super x)) m u e = absurd (cc)

  object_class : (o : Option Object) (id place : ObjId) (c : ClassObject) → class_in_place place o ≡ Some id → class_in o ≡ Some c
      → ◌≡◌ {A = Tree Value} (call_object program next o v args h st) (call_class program (class_function v) c v args h st)
  object_class None id place c e is = absurd (cc)
  object_class (Some (object.Str s)) id place c e is = absurd (cc)
  object_class (Some (object.List l)) id place c e is = absurd (cc)
  object_class (Some (object.Tuple l)) id place c e is = absurd (cc)
  object_class (Some (object.Dict d)) id place c e is = absurd (cc)
  object_class (Some (object.Set d)) id place c e is = absurd (cc)
  object_class (Some (object.Range r)) id place c e is = absurd (cc)
  object_class (Some (object.Slice r)) id place c e is = absurd (cc)
  object_class (Some (object.Cursor r)) id place c e is = absurd (cc)
  object_class (Some (object.View r)) id place c e is = absurd (cc)
  object_class (Some (object.Function g)) id place c e is = absurd (cc)
  object_class (Some (object.Method k)) id place c e is = absurd (cc)
  object_class (Some (object.Builtin b)) id place c e is = absurd (cc)
  object_class (Some (object.Class d)) id place c e is = let q : d ≡ c = cc in ap (λ x. call_class program (class_function v) x v args h st) q
  object_class (Some (object.Instance x)) id place c e is = absurd (cc)
  object_class (Some (object.Error x)) id place c e is = absurd (cc)
  object_class (Some (object.Generator y)) id place c e is = absurd (cc)
  object_class (Some (object.Frame y)) id place c e is = absurd (cc)
  object_class (Some (object.CodeRef b hid)) id place c e is = absurd (cc)
  object_class (Some (object.Module y)) id place c e is = absurd (cc)
  object_class (Some (object.Super x)) id place c e is = absurd (cc)

  object_bound : (o : Option Object) (m : Method) → bound_in o ≡ Some m
      → ◌≡◌ {A = Tree Value} (call_object program next o v args h st)
      (call_function_at program (object_of st.world.heap m.function) (with_receiver m.receiver args) h st)
  object_bound None m e = absurd (cc)
  object_bound (Some (object.Str s)) m e = absurd (cc)
  object_bound (Some (object.List l)) m e = absurd (cc)
  object_bound (Some (object.Tuple l)) m e = absurd (cc)
  object_bound (Some (object.Dict d)) m e = absurd (cc)
  object_bound (Some (object.Set d)) m e = absurd (cc)
  object_bound (Some (object.Range r)) m e = absurd (cc)
  object_bound (Some (object.Slice r)) m e = absurd (cc)
  object_bound (Some (object.Cursor r)) m e = absurd (cc)
  object_bound (Some (object.View r)) m e = absurd (cc)
  object_bound (Some (object.Function g)) m e = absurd (cc)
  object_bound (Some (object.Method k)) m e = let q : k ≡ m = cc in ap (λ (x : Method). call_function_at program (object_of st.world.heap x.function) (with_receiver x.receiver args) h st) q
  object_bound (Some (object.Builtin b)) m e = absurd (cc)
  object_bound (Some (object.Class d)) m e = absurd (cc)
  object_bound (Some (object.Instance x)) m e = absurd (cc)
  object_bound (Some (object.Error x)) m e = absurd (cc)
  object_bound (Some (object.Generator y)) m e = absurd (cc)
  object_bound (Some (object.Frame y)) m e = absurd (cc)
  object_bound (Some (object.CodeRef b hid)) m e = absurd (cc)
  object_bound (Some (object.Module y)) m e = absurd (cc)
  object_bound (Some (object.Super x)) m e = absurd (cc)

  -- what is none of these is called by its method
  object_other : (o : Option Object) (place : ObjId) → function_in o ≡ None → bound_in o ≡ None → builtin_in o ≡ None → method_in o ≡ None → class_in_place place o ≡ None
      → ◌≡◌ {A = Tree Value} (call_object program next o v args h st) (call_by program next (special_of st.world.heap v) v args h st)
  object_other None place f w b m c = refl
  object_other (Some (object.Str s)) place f w b m c = refl
  object_other (Some (object.List l)) place f w b m c = refl
  object_other (Some (object.Tuple l)) place f w b m c = refl
  object_other (Some (object.Dict d)) place f w b m c = refl
  object_other (Some (object.Set d)) place f w b m c = refl
  object_other (Some (object.Range r)) place f w b m c = refl
  object_other (Some (object.Slice r)) place f w b m c = refl
  object_other (Some (object.Cursor r)) place f w b m c = refl
  object_other (Some (object.View r)) place f w b m c = refl
  object_other (Some (object.Function g)) place f w b m c = absurd (cc)
  object_other (Some (object.Method k)) place f w b m c = absurd (cc)
  object_other (Some (object.Builtin b1)) place f w b m c = by b1.receiver b m
    where
      by : (r : Option Value) → function_by b1.number r ≡ None → method_by b1.number r ≡ None
          → ◌≡◌ {A = Tree Value} (call_builtin_object program b1 r args h st) (call_by program next (special_of st.world.heap v) v args h st)
      by None b m = absurd (cc)
      by (Some u) b m = absurd (cc)
  object_other (Some (object.Class d)) place f w b m c = absurd (cc)
  object_other (Some (object.Instance x)) place f w b m c = refl
  object_other (Some (object.Error x)) place f w b m c = refl
  object_other (Some (object.Generator y)) place f w b m c = refl
  object_other (Some (object.Frame y)) place f w b m c = refl
  object_other (Some (object.CodeRef b2 hid)) place f w b m c = refl
  object_other (Some (object.Module y)) place f w b m c = refl
  object_other (Some (object.Super x)) place f w b m c = refl

-- once, whatever is called for instances

module _ (program : Program) (n : ℕ) (args : Args) (h : Here Value) (st : Stores) where
  abbrev once : Value → Tree Value
  once v = called_within program (suc n) v args h st

  value_function : (v : Value) → (function_of st.world.heap v ≡ None → ⊥) → ◌≡◌ {A = Tree Value} (once v) (call_function_at program (object_of st.world.heap v) args h st)
  unfolding called_within
  value_function value.None m = absurd (m refl)
  value_function (value.Bool b) m = absurd (m refl)
  value_function (value.Int z) m = absurd (m refl)
  value_function value.Ellipsis m = absurd (m refl)
  value_function value.NotImplemented m = absurd (m refl)
  value_function (value.Obj id) m = object_function_at program (called_within program n) (value.Obj id) args h st (slice_get st.world.heap id.0) m

  value_bound : (v : Value) (m : Method) → bound_of st.world.heap v ≡ Some m
      → ◌≡◌ {A = Tree Value} (once v) (call_function_at program (object_of st.world.heap m.function) (with_receiver m.receiver args) h st)
  unfolding called_within
  value_bound value.None m e = absurd (cc)
  value_bound (value.Bool b) m e = absurd (cc)
  value_bound (value.Int z) m e = absurd (cc)
  value_bound value.Ellipsis m e = absurd (cc)
  value_bound value.NotImplemented m e = absurd (cc)
  value_bound (value.Obj id) m e = object_bound program (called_within program n) (value.Obj id) args h st (slice_get st.world.heap id.0) m e

  value_builtin : (v : Value) (f : Option Builtin) → builtin_of st.world.heap v ≡ Some f → ◌≡◌ {A = Tree Value} (once v) (call_builtin program f args h st)
  unfolding called_within
  value_builtin value.None f e = absurd (cc)
  value_builtin (value.Bool b) f e = absurd (cc)
  value_builtin (value.Int z) f e = absurd (cc)
  value_builtin value.Ellipsis f e = absurd (cc)
  value_builtin value.NotImplemented f e = absurd (cc)
  value_builtin (value.Obj id) f e = object_builtin program (called_within program n) (value.Obj id) args h st (slice_get st.world.heap id.0) f e

  value_method : (v : Value) (m : Option MethodName) (u : Value) → method_of st.world.heap v ≡ Some (m, u) → ◌≡◌ {A = Tree Value} (once v) (call_method program m u args h st)
  unfolding called_within
  value_method value.None m u e = absurd (cc)
  value_method (value.Bool b) m u e = absurd (cc)
  value_method (value.Int z) m u e = absurd (cc)
  value_method value.Ellipsis m u e = absurd (cc)
  value_method value.NotImplemented m u e = absurd (cc)
  value_method (value.Obj id) m u e = object_method program (called_within program n) (value.Obj id) args h st (slice_get st.world.heap id.0) m u e

  -- a class stands at its place
  class_there : (o : Option Object) (id place : ObjId) → class_in_place place o ≡ Some id → (place ≡ id) × ((c : ClassObject) × (class_in o ≡ Some c))
  class_there None id place e = absurd (cc)
  class_there (Some (object.Str s)) id place e = absurd (cc)
  class_there (Some (object.List l)) id place e = absurd (cc)
  class_there (Some (object.Tuple l)) id place e = absurd (cc)
  class_there (Some (object.Dict d)) id place e = absurd (cc)
  class_there (Some (object.Set d)) id place e = absurd (cc)
  class_there (Some (object.Range r)) id place e = absurd (cc)
  class_there (Some (object.Slice r)) id place e = absurd (cc)
  class_there (Some (object.Cursor r)) id place e = absurd (cc)
  class_there (Some (object.View r)) id place e = absurd (cc)
  class_there (Some (object.Function g)) id place e = absurd (cc)
  class_there (Some (object.Method k)) id place e = absurd (cc)
  class_there (Some (object.Builtin b)) id place e = absurd (cc)
  class_there (Some (object.Class d)) id place e = ((let q : place ≡ id = cc in q), (d, refl))
  class_there (Some (object.Instance x)) id place e = absurd (cc)
  class_there (Some (object.Error x)) id place e = absurd (cc)
  class_there (Some (object.Generator y)) id place e = absurd (cc)
  class_there (Some (object.Frame y)) id place e = absurd (cc)
  class_there (Some (object.CodeRef b hid)) id place e = absurd (cc)
  class_there (Some (object.Module y)) id place e = absurd (cc)
  class_there (Some (object.Super x)) id place e = absurd (cc)

  value_class : (v : Value) (id : ObjId) → class_id_of st.world.heap v ≡ Some id
      → (c : ClassObject) × ((class_in (slice_get st.world.heap id.0) ≡ Some c)
      × ◌≡◌ {A = Tree Value} (once v) (call_class program (of_class id) c (value.Obj id) args h st))
  unfolding called_within
  value_class value.None id e = absurd (cc)
  value_class (value.Bool b) id e = absurd (cc)
  value_class (value.Int z) id e = absurd (cc)
  value_class value.Ellipsis id e = absurd (cc)
  value_class value.NotImplemented id e = absurd (cc)
  value_class (value.Obj place) id e =
      let there : (place ≡ id) × ((c : ClassObject) × (class_in (slice_get st.world.heap place.0) ≡ Some c)) = class_there (slice_get st.world.heap place.0) id place e in (
        there.1.0,
        (
          ap (λ (k : ObjId). class_in (slice_get st.world.heap k.0)) (sym there.0) ∙ there.1.1,
          object_class program (called_within program n) (value.Obj place) args h st (slice_get st.world.heap place.0) id place there.1.0 e there.1.1
              ∙ ap (λ k. call_class program (of_class k) there.1.0 (value.Obj k) args h st) there.0,
        ),
      )

  -- a value that is none of these; what is no object has no method
  value_other : (v : Value) → function_of st.world.heap v ≡ None → bound_of st.world.heap v ≡ None → builtin_of st.world.heap v ≡ None
      → method_of st.world.heap v ≡ None → class_id_of st.world.heap v ≡ None
      → ◌≡◌ {A = Tree Value} (once v) (call_by program (called_within program n) (special_of st.world.heap v) v args h st)
  unfolding called_within
  value_other value.None f w b1 m c = refl
  value_other (value.Bool b) f w b1 m c = refl
  value_other (value.Int z) f w b1 m c = refl
  value_other value.Ellipsis f w b1 m c = refl
  value_other value.NotImplemented f w b1 m c = refl
  value_other (value.Obj id) f w b1 m c = object_other program (called_within program n) (value.Obj id) args h st (slice_get st.world.heap id.0) id f w b1 m c

-- for code

module _ (blocks : Blocks) (r : Running) (v : Value) (args : Args) (slots : List Slot) (cells : List (Option Value)) (heap : List Object) where
  pub function_called : (p : Progress) (changed : List (Option Value)) (grown : List Object)
      → (function_of heap v ≡ None → ⊥) → CallsFunctionAt blocks v args gives.Itself slots cells heap p changed grown → CallsOnce blocks r v args slots cells heap p slots changed grown
  unfolding CallsFunctionAt CallsOnce Calls
  function_called p changed grown n done last program code i h st knows =
      done program code i h st knows.0
      ∙ ap (λ t. by_tree code i (giving code i (slots_view slots)) (slots_view slots) t) (sym (value_function program 0 args h (with_parts cells heap st) v n))

  pub bound_method_called : (m : Method) (all : Args) (p : Progress) (changed : List (Option Value)) (grown : List Object)
      → bound_of heap v ≡ Some m → all ≡ with_receiver m.receiver args → CallsFunctionAt blocks m.function all gives.Itself slots cells heap p changed grown
      → CallsOnce blocks r v args slots cells heap p slots changed grown
  unfolding CallsFunctionAt CallsOnce Calls
  bound_method_called m all p changed grown e is done last program code i h st knows =
      done program code i h st knows.0
      ∙ (ap (λ a. by_tree code i (giving code i (slots_view slots)) (slots_view slots)
      (call_function_at program (object_of heap m.function) a h (with_parts cells heap st))) is
      ∙ ap (λ t. by_tree code i (giving code i (slots_view slots)) (slots_view slots) t) (sym (value_bound program 0 args h (with_parts cells heap st) v m e)))

  pub builtin_called : (f : Option Builtin) (p : Progress) (new : List Slot) (changed : List (Option Value)) (grown : List Object) → builtin_of heap v ≡ Some f
      → CallsBuiltin f args blocks slots cells heap p new changed grown → CallsOnce blocks r v args slots cells heap p new changed grown
  unfolding CallsBuiltin CallsOnce Calls
  builtin_called f p new changed grown e done last program code i h st knows =
      done program code i h st knows.0
      ∙ ap (λ t. by_tree code i (giving code i (slots_view slots)) (slots_view slots) t) (sym (value_builtin program 0 args h (with_parts cells heap st) v f e))

  pub method_called : (q : Option MethodName × Value) (p : Progress) (new : List Slot) (changed : List (Option Value)) (grown : List Object)
      → method_of heap v ≡ Some q → CallsMethod blocks q.0 q.1 args slots cells heap p new changed grown
      → CallsOnce blocks r v args slots cells heap p new changed grown
  unfolding CallsMethod CallsOnce Calls
  method_called q p new changed grown e done last program code i h st knows =
      done program code i h st knows.0
      ∙ ap (λ t. by_tree code i (giving code i (slots_view slots)) (slots_view slots) t) (sym (value_method program 0 args h (with_parts cells heap st) v q.0 q.1 e))

  pub class_called : (id : ObjId) (p : Progress) (new : List Slot) (changed : List (Option Value)) (grown : List Object)
      → class_id_of heap v ≡ Some id → CallsAnyClass blocks r id args slots cells heap p new changed grown
      → CallsOnce blocks r v args slots cells heap p new changed grown
  unfolding CallsAnyClass CallsOnce Calls
  class_called id p new changed grown e done last program code i h st knows =
      done (value_class program 0 args h (with_parts cells heap st) v id e).0 (value_class program 0 args h (with_parts cells heap st) v id e).1.0 program code i h st knows
      ∙ ap (λ t. by_tree code i (giving code i (slots_view slots)) (slots_view slots) t) (sym (value_class program 0 args h (with_parts cells heap st) v id e).1.1)

  -- by its method, or it can't be called
  module _ (f : function_of heap v ≡ None) (w : bound_of heap v ≡ None) (b : builtin_of heap v ≡ None) (m : method_of heap v ≡ None) (c : class_id_of heap v ≡ None)
      (o : Option Found) (has : o ≡ special_of heap v) where
    leads_by : (program : Program) (h : Here Value) (st : Stores)
        → ◌≡◌ {A = Tree Value} (call_by program (called_within program 0) o v args h (with_parts cells heap st)) (called_within program 1 v args h (with_parts cells heap st))
    leads_by program h st =
        ap (λ k. call_by program (called_within program 0) k v args h (with_parts cells heap st)) has
        ∙ sym (value_other program 0 args h (with_parts cells heap st) v f w b m c)

    pub instance_called : (k : Value) (all : Args) (p : Progress) (changed : List (Option Value)) (grown : List Object)
        → o ≡ Some (found.Bound k) → all ≡ with_receiver v args → CallsFunctionAt blocks k all gives.Itself slots cells heap p changed grown
        → CallsOnce blocks r v args slots cells heap p slots changed grown
    unfolding CallsFunctionAt CallsOnce Calls
    instance_called k all p changed grown is so done last program code i h st knows =
        done program code i h st knows.0
        ∙ ap (λ (t : Tree Value). by_tree code i (giving code i (slots_view slots)) (slots_view slots) t)
        (ap (λ a. call_function_at program (object_of heap k) a h (with_parts cells heap st)) so
        ∙ (ap (λ q. call_by program (called_within program 0) q v args h (with_parts cells heap st)) (sym is) ∙ leads_by program h st))

    not_by : (program : Program) (h : Here Value) (st : Stores) (q : Option Found) → ((k : Value) → q ≡ Some (found.Bound k) → ⊥) → plain_in q ≡ None
        → ◌≡◌ {A = Tree Value} (host_not_callable v h (with_parts cells heap st)) (call_by program (called_within program 0) q v args h (with_parts cells heap st))
    not_by program h st None n l = refl
    not_by program h st (Some (found.Bound k)) n l = absurd (n k refl)
    not_by program h st (Some (found.Plain k)) n l = absurd (cc)
    not_by program h st (Some found.Unbuilt) n l = refl

    pub none_called : (p : Progress) → ((k : Value) → o ≡ Some (found.Bound k) → ⊥) → p ≡ not_callable heap v → CallsOnce blocks r v args slots cells heap p slots cells heap
    unfolding CallsOnce Calls
    none_called p n q last program code i h st knows =
        ap (λ x. told program code i h x (slots_view slots) (with_parts cells heap st)) q
        ∙ ap (λ (t : Tree Value). by_tree code i (giving code i (slots_view slots)) (slots_view slots) t)
        (not_by program h st o n (ap (λ k. plain_in k) has ∙ last) ∙ leads_by program h st)

-- an instance stands for what is called for it

module _ (program : Program) (args : Args) (h : Here Value) (st : Stores) (v : Value) where
  abbrev method_by_class : Option Found
  method_by_class = method_in_class st.world.heap (codes "__call__") (class_asked (object_of st.world.heap v))

  -- what is no instance of a script's class has none
  empty : (k : Operand) → operand_of st.world.heap v ≡ k → is_instance k ≡ false → next_callee st.world.heap v ≡ None
  empty k q f =
      ap (λ c. plain_in (if is_instance c then method_by_class else None)) q ∙ ap (λ b. plain_in (if b then method_by_class else None)) f

  none_next : (w : Value) (k : Operand) → operand_of st.world.heap v ≡ k → is_instance k ≡ false → next_callee st.world.heap v ≡ Some w → ⊥
  none_next w k q f e = let z : ◌≡◌ {A = Option Value} None (Some w) = sym (empty k q f) ∙ e in absurd (cc)

  by_found : (next : Called) (w : Value) (f : Option Found) → plain_in f ≡ Some w → ◌≡◌ {A = Tree Value} (call_by program next f v args h st) (next w args h st)
  by_found next w None e = absurd (cc)
  by_found next w (Some (found.Bound k)) e = absurd (cc)
  by_found next w (Some (found.Plain k)) e = let q : k ≡ w = cc in ap (λ x. next x args h st) q
  by_found next w (Some found.Unbuilt) e = absurd (cc)

  by_none : (next other : Called) (f : Option Found) → plain_in f ≡ None → ◌≡◌ {A = Tree Value} (call_by program next f v args h st) (call_by program other f v args h st)
  by_none next other None e = refl
  by_none next other (Some (found.Bound k)) e = refl
  by_none next other (Some (found.Plain k)) e = absurd (cc)
  by_none next other (Some found.Unbuilt) e = refl

  object_next : (next : Called) (w : Value) (o : Option Object) → operand_of st.world.heap v ≡ object_operand st.world.heap o → next_callee st.world.heap v ≡ Some w
      → ◌≡◌ {A = Tree Value} (call_object program next o v args h st) (next w args h st)
  object_next next w None k e = absurd (none_next w _ k refl e)
  object_next next w (Some (object.Str s)) k e = absurd (none_next w _ k refl e)
  object_next next w (Some (object.List l)) k e = absurd (none_next w _ k refl e)
  object_next next w (Some (object.Tuple l)) k e = absurd (none_next w _ k refl e)
  object_next next w (Some (object.Dict d)) k e = absurd (none_next w _ k refl e)
  object_next next w (Some (object.Set d)) k e = absurd (none_next w _ k refl e)
  object_next next w (Some (object.Range r)) k e = absurd (none_next w _ k refl e)
  object_next next w (Some (object.Slice r)) k e = absurd (none_next w _ k refl e)
  object_next next w (Some (object.Cursor r)) k e = absurd (none_next w _ k refl e)
  object_next next w (Some (object.View r)) k e = absurd (none_next w _ k refl e)
  object_next next w (Some (object.Function g)) k e = absurd (none_next w _ k refl e)
  object_next next w (Some (object.Method m)) k e = absurd (none_next w _ k refl e)
  object_next next w (Some (object.Builtin b)) k e = absurd (none_next w _ k refl e)
  object_next next w (Some (object.Class d)) k e = absurd (none_next w _ k refl e)
  object_next next w (Some (object.Instance x)) k e = by_found next w (special_of st.world.heap v) e
  object_next next w (Some (object.Error x)) k e = by_found next w (special_of st.world.heap v) e
  object_next next w (Some (object.Generator y)) k e = absurd (none_next w _ k refl e)
  object_next next w (Some (object.Frame y)) k e = absurd (none_next w _ k refl e)
  object_next next w (Some (object.CodeRef b hid)) k e = absurd (none_next w _ k refl e)
  object_next next w (Some (object.Module y)) k e = absurd (none_next w _ k refl e)
  object_next next w (Some (object.Super x)) k e = absurd (none_next w _ k refl e)

  object_once : (next other : Called) (o : Option Object) → next_callee st.world.heap v ≡ None
      → ◌≡◌ {A = Tree Value} (call_object program next o v args h st) (call_object program other o v args h st)
  object_once next other None e = by_none next other (special_of st.world.heap v) e
  object_once next other (Some (object.Str s)) e = by_none next other (special_of st.world.heap v) e
  object_once next other (Some (object.List l)) e = by_none next other (special_of st.world.heap v) e
  object_once next other (Some (object.Tuple l)) e = by_none next other (special_of st.world.heap v) e
  object_once next other (Some (object.Dict d)) e = by_none next other (special_of st.world.heap v) e
  object_once next other (Some (object.Set d)) e = by_none next other (special_of st.world.heap v) e
  object_once next other (Some (object.Range r)) e = by_none next other (special_of st.world.heap v) e
  object_once next other (Some (object.Slice r)) e = by_none next other (special_of st.world.heap v) e
  object_once next other (Some (object.Cursor r)) e = by_none next other (special_of st.world.heap v) e
  object_once next other (Some (object.View r)) e = by_none next other (special_of st.world.heap v) e
  object_once next other (Some (object.Function g)) e = refl
  object_once next other (Some (object.Method k)) e = refl
  object_once next other (Some (object.Builtin b)) e = refl
  object_once next other (Some (object.Class d)) e = refl
  object_once next other (Some (object.Instance x)) e = by_none next other (special_of st.world.heap v) e
  object_once next other (Some (object.Error x)) e = by_none next other (special_of st.world.heap v) e
  object_once next other (Some (object.Generator y)) e = by_none next other (special_of st.world.heap v) e
  object_once next other (Some (object.Frame y)) e = by_none next other (special_of st.world.heap v) e
  object_once next other (Some (object.CodeRef b hid)) e = by_none next other (special_of st.world.heap v) e
  object_once next other (Some (object.Module y)) e = by_none next other (special_of st.world.heap v) e
  object_once next other (Some (object.Super x)) e = by_none next other (special_of st.world.heap v) e

module _ (program : Program) (args : Args) (h : Here Value) (st : Stores) where
  by_next : (n : ℕ) (v w : Value) → next_callee st.world.heap v ≡ Some w → ◌≡◌ {A = Tree Value} (called_within program (suc n) v args h st) (called_within program n w args h st)
  unfolding called_within
  by_next n value.None w e = absurd (none_next program args h st value.None w _ refl refl e)
  by_next n (value.Bool b) w e = absurd (none_next program args h st (value.Bool b) w _ refl refl e)
  by_next n (value.Int z) w e = absurd (none_next program args h st (value.Int z) w _ refl refl e)
  by_next n value.Ellipsis w e = absurd (none_next program args h st value.Ellipsis w _ refl refl e)
  by_next n value.NotImplemented w e = absurd (none_next program args h st value.NotImplemented w _ refl refl e)
  by_next n (value.Obj id) w e = object_next program args h st (value.Obj id) (called_within program n) w (slice_get st.world.heap id.0) refl e

  by_once : (n : ℕ) (v : Value) → next_callee st.world.heap v ≡ None → ◌≡◌ {A = Tree Value} (called_within program 1 v args h st) (called_within program (suc n) v args h st)
  unfolding called_within
  by_once n value.None e = refl
  by_once n (value.Bool b) e = refl
  by_once n (value.Int z) e = refl
  by_once n value.Ellipsis e = refl
  by_once n value.NotImplemented e = refl
  by_once n (value.Obj id) e = object_once program args h st (value.Obj id) (called_within program 0) (called_within program n) (slice_get st.world.heap id.0) e

  abbrev Reaches : (n : ℕ) (v w : Value) → Type 0
  Reaches n v w = (next_callee st.world.heap w ≡ None) × ◌≡◌ {A = Tree Value} (called_within program 1 w args h st) (called_within program n v args h st)

  reaches_by : (n : ℕ) (v w : Value) (o : Option Value) → next_callee st.world.heap v ≡ o → ((u : Value) → last_callee n st.world.heap u ≡ Some w → Reaches n u w)
      → last_by v (last_callee n st.world.heap) o ≡ Some w → Reaches (suc n) v w
  reaches_by n v w None q rest f = let same : v ≡ w = cc in subst (λ x. Reaches (suc n) v x) same (q, by_once n v q)
  reaches_by n v w (Some u) q rest f = ((rest u f).0, (rest u f).1 ∙ sym (by_next n v u q))

  reaches : (n : ℕ) (v w : Value) → last_callee n st.world.heap v ≡ Some w → Reaches n v w
  unfolding last_callee
  reaches zero v w e = absurd (cc)
  reaches (suc n) v w e = reaches_by n v w (next_callee st.world.heap v) refl (λ u f. reaches n u w f) e

  abbrev Deepens : (n : ℕ) (v : Value) → Type 0
  Deepens n v = ◌≡◌ {A = Tree Value} (raise_saying RECURSION_ERROR (codes "too many activations") h st) (called_within program n v args h st)

  deepens_by : (n : ℕ) (v : Value) (o : Option Value) → next_callee st.world.heap v ≡ o → ((u : Value) → last_callee n st.world.heap u ≡ None → Deepens n u)
      → last_by v (last_callee n st.world.heap) o ≡ None → Deepens (suc n) v
  deepens_by n v None q rest f = absurd (cc)
  deepens_by n v (Some u) q rest f = rest u f ∙ sym (by_next n v u q)

  deepens : (n : ℕ) (v : Value) → last_callee n st.world.heap v ≡ None → Deepens n v
  unfolding last_callee called_within
  deepens zero v e = refl
  deepens (suc n) v e = deepens_by n v (next_callee st.world.heap v) refl (λ u f. deepens n u f) e

module _ (blocks : Blocks) (r : Running) (v : Value) (args : Args) (slots : List Slot) (cells : List (Option Value)) (heap : List Object) (o : Option Value)
    (has : o ≡ last_callee 1001 heap v) where
  pub last_called : (w : Value) (p : Progress) (new : List Slot) (changed : List (Option Value)) (grown : List Object) → o ≡ Some w
      → CallsOnce blocks r w args slots cells heap p new changed grown → CallsValue blocks r v args slots cells heap p new changed grown
  unfolding CallsOnce CallsValue Calls
  last_called w p new changed grown is done program code i h st knows =
      done (reaches program args h (with_parts cells heap st) 1001 v w (sym has ∙ is)).0 program code i h st knows
      ∙ ap (λ (t : Tree Value). by_tree code i (giving code i (slots_view slots)) (slots_view slots) t)
      (reaches program args h (with_parts cells heap st) 1001 v w (sym has ∙ is)).1

  pub too_deep_called : (p : Progress) → o ≡ None → p ≡ too_deep → CallsValue blocks r v args slots cells heap p slots cells heap
  unfolding CallsValue Calls
  too_deep_called p is q program code i h st knows =
      ap (λ x. told program code i h x (slots_view slots) (with_parts cells heap st)) q
      ∙ ap (λ (t : Tree Value). by_tree code i (giving code i (slots_view slots)) (slots_view slots) t)
      (deepens program args h (with_parts cells heap st) 1001 v (sym has ∙ is))
