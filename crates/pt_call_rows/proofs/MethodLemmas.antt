-- Calls of methods of builtin values, and of classes.
use Rattle.std.proofs.Common.{◌≡◌, ◌∙◌, Bool, true, false, List, [], ◌∷◌, Option, Some, None, refl, sym, ap, subst}
use Rattle.std.specs.Prelude.{◌&&◌, not, option_map, slice_get, if◌then◌else◌}
use Rattle.pt_base.specs.declared.numbers.ObjId.{ObjId}
use Rattle.pt_base.specs.declared.what.What.TheVariants.{Feature}
use Rattle.pt_heap.specs.declared.value.Value.{Value}
use Rattle.pt_heap.specs.declared.value.Value.TheVariants as value
use Rattle.pt_heap.specs.declared.object.Class.{Class}
use Rattle.pt_heap.specs.declared.object.Object.{Object}
use Rattle.pt_prelude.specs.declared.kinds.Helper.{Helper}
use Rattle.pt_content.specs.Functions.{of_class}
use Rattle.pt_content.specs.declared.function.Function.{Function as Builtin}
use Rattle.pt_content.specs.declared.function.Function.TheVariants as builtin
use Rattle.pt_content.specs.declared.op.Op.TheVariants as op
use Rattle.pt_content.specs.declared.method_name.MethodName.{MethodName}
use Rattle.pt_content.specs.pt_attrs.Look.{object_of}
use Rattle.pt_content.specs.pt_attrs.Store.{is_scripted}
use Rattle.pt_content.specs.pt_attrs.pt_dicts.Chain.{class_in}
use Rattle.pt_content.specs.pt_attrs.declared.look.Found.{Found}
use Rattle.pt_content.specs.pt_attrs.declared.look.Found.TheVariants as found
use Rattle.pt_block_calls.specs.pt_operators.pt_prims.Classes.{derives}
use Rattle.pt_bind.specs.declared.arguments.Args.{Args}
use Rattle.pt_frames.specs.declared.slot.Slot.{Slot}
use Rattle.sem_run.specs.run.Host.{Here, answer, made, beyond}
use Rattle.pt_block_calls.specs.pt_operators.pt_moves.sem_rows.pt_host.declared.places.TheConstants.{BASE_EXCEPTION}
use Rattle.pt_block_calls.specs.pt_operators.pt_moves.sem_rows.pt_host.World.{Allotted, IsAllotted, Program, Stores, allot}
use Rattle.pt_block_calls.specs.pt_operators.pt_moves.sem_rows.pt_host.Trees.{Tree, answer_with, then_with}
use Rattle.pt_block_calls.specs.pt_operators.pt_moves.sem_rows.pt_host.Calls.{call_class, call_function_at, call_method, method_operands, call_other_class, exception_class, helper_of_class, initialized, initializer, instance, instance_by, make_exception, make_instance, operate_or_ask, operands_of, unnamed_operands, with_receiver}
use Rattle.pt_block_calls.specs.pt_operators.pt_moves.sem_rows.declared.heap_rows.progress.Progress.{Progress}
use Rattle.pt_block_calls.specs.pt_operators.pt_moves.sem_rows.declared.heap_rows.progress.Progress.TheVariants as progress
use Rattle.pt_block_calls.specs.pt_operators.pt_moves.sem_rows.heap_rows.Leads.{by_tree, giving}
use Rattle.pt_block_calls.specs.pt_operators.pt_moves.sem_rows.heap_rows.Views.{slots_view}
use Rattle.pt_block_calls.specs.pt_function_rows.pt_code_facts.declared.facts.Blocks.{Blocks}
use Rattle.pt_block_calls.specs.pt_class_rows.Calls.{Calls, Makes, Running, with_parts}
use Rattle.pt_block_calls.specs.pt_class_rows.Instances.{CallsClass, GivesObject, IsInitialized}
use Rattle.pt_block_calls.specs.pt_class_rows.Supers.{GivesSuper}
use Rattle.pt_call_rows.specs.CallRows.{CallsAnyClass, CallsMethod, CallsOperation, CallsOtherClass, CallsScripted, MakesException, exception_at}
use Rattle.pt_block_calls.specs.declared.blocks.Given.TheVariants as gives
use Rattle.pt_block_calls.specs.BlockCalls.{AsksHelper, CallsFunctionAt, OperatesOrAsks}

-- of a method

module _ (blocks : Blocks) (r : Value) (args : Args) (old : List Slot) (cells : List (Option Value)) (heap : List Object) where
  pub method_operated : (o : Option MethodName) (m : MethodName) (operands : Option (List Value)) (vs : List Value) (p : Progress) (new : List Slot)
      (changed : List (Option Value)) (grown : List Object)
      → o ≡ Some m → operands ≡ option_map (λ us. r ∷ us) (method_operands m args) → operands ≡ Some vs
      → OperatesOrAsks (op.CallMethod m) vs blocks old cells heap p new changed grown → CallsMethod blocks o r args old cells heap p new changed grown
  unfolding CallsMethod OperatesOrAsks Calls
  method_operated o m operands vs p new changed grown is has e done program code i h st knows =
      done program code i h st knows
      ∙ (ap (λ q. by_tree code i (giving code i (slots_view old)) (slots_view old) (operate_or_ask program (op.CallMethod m) q h (with_parts cells heap st)))
      (sym e ∙ has)
      ∙ ap (λ q. by_tree code i (giving code i (slots_view old)) (slots_view old) (call_method program q r args h (with_parts cells heap st))) (sym is))

  pub method_misnamed : (o : Option MethodName) (m : MethodName) (operands : Option (List Value))
      → o ≡ Some m → operands ≡ option_map (λ us. r ∷ us) (method_operands m args) → operands ≡ None
      → CallsMethod blocks o r args old cells heap (progress.Outside Feature) old cells heap
  unfolding CallsMethod Calls
  method_misnamed o m operands is has e program code i h st knows =
      ap (λ q. by_tree code i (giving code i (slots_view old)) (slots_view old) (operate_or_ask program (op.CallMethod m) q h (with_parts cells heap st)))
      (sym e ∙ has)
      ∙ ap (λ q. by_tree code i (giving code i (slots_view old)) (slots_view old) (call_method program q r args h (with_parts cells heap st))) (sym is)

  pub no_method : (o : Option MethodName) → o ≡ None → CallsMethod blocks o r args old cells heap (progress.Outside Feature) old cells heap
  unfolding CallsMethod Calls
  no_method o is program code i h st knows =
      ap (λ q. by_tree code i (giving code i (slots_view old)) (slots_view old) (call_method program q r args h (with_parts cells heap st))) (sym is)

-- of a script

module _ (blocks : Blocks) (id : ObjId) (args : Args) (slots : List Slot) (cells : List (Option Value)) (heap : List Object) where
  pub scripted_done : (p : Progress) (new : List Slot) (grown : List Object) → CallsClass id args slots heap p new grown
      → CallsScripted blocks id args slots cells heap p new cells grown
  unfolding CallsClass CallsScripted Calls
  scripted_done p new grown done c at program code i h st knows = done c cells at program code i h st tt

  -- where the instance is there
  then-initialized : (a : Allotted) (f v : Value) (between : List Object) (program : Program) (h : Here Value) (st : Stores) → IsAllotted a (Some v) between
      → ◌≡◌ {A = Tree Value}
      (then_with (call_function_at program (object_of between f) (with_receiver v args) h (with_parts cells between st)) (λ r st1. answer v st1))
      (then_with (answer_with a (with_parts cells heap st)) (λ w st1. initialized program f w args h st1))
  unfolding then_with
  then-initialized (made w k) f v between program h st (e, g) =
      let one : v ≡ w = cc in
      ap (λ (x : List Object). then_with (call_function_at program (object_of x f) (with_receiver v args) h (with_parts cells x st)) (λ r st1. answer v st1)) g
      ∙ ap (λ u. then_with (call_function_at program (object_of k f) (with_receiver u args) h (with_parts cells k st)) (λ r st1. answer u st1)) one
  then-initialized (beyond what) f v between program h st e = absurd (cc)

  pub scripted_initialized : (f v : Value) (all : Args) (between : List Object) (p : Progress) (changed : List (Option Value)) (grown : List Object)
      → IsInitialized id args heap f v between → all ≡ with_receiver v args
      → CallsFunctionAt blocks f all (gives.Made v) slots cells between p changed grown → CallsScripted blocks id args slots cells heap p slots changed grown
  unfolding CallsFunctionAt CallsScripted Calls
  scripted_initialized f v all between p changed grown is receives done c at program code i h st knows =
      done program code i h st knows
      ∙ (ap (λ a. by_tree code i (giving code i (slots_view slots)) (slots_view slots)
      (then_with (call_function_at program (object_of between f) a h (with_parts cells between st)) (λ r st1. answer v st1))) receives
      ∙ (ap (λ (t : Tree Value). by_tree code i (giving code i (slots_view slots)) (slots_view slots) t)
      (then-initialized (allot (instance (derives heap BASE_EXCEPTION id) id args.plain) heap) f v between program h st is.made_so)
      ∙ ap (λ (o : Option Found). by_tree code i (giving code i (slots_view slots)) (slots_view slots)
      (instance_by program (derives heap BASE_EXCEPTION id) o id c args h (with_parts cells heap st))) (sym is.function)))

-- of any class that no operation makes instances of

module _ (blocks : Blocks) (id : ObjId) (args : Args) (slots : List Slot) (cells : List (Option Value)) (heap : List Object) (o : Option Helper)
    (is_so : o ≡ helper_of_class (value.Obj id)) where
  pub helper_called : (x : Helper) (p : Progress) (changed : List (Option Value)) (grown : List Object) → o ≡ Some x
      → AsksHelper x blocks args gives.Itself slots cells heap p changed grown → CallsOtherClass blocks id args slots cells heap p slots changed grown
  unfolding AsksHelper CallsOtherClass Calls
  helper_called x p changed grown e done c at program code i h st knows =
      done program code i h st knows
      ∙ ap (λ k. by_tree code i (giving code i (slots_view slots)) (slots_view slots) (call_other_class program k c (value.Obj id) args h (with_parts cells heap st)))
      (sym e ∙ is_so)

  scripted_is : (c : Class) → class_in (slice_get heap id.0) ≡ Some c → c.scripted ≡ is_scripted (class_in (slice_get heap id.0))
  scripted_is c at = sym (ap is_scripted at)

  by_kind : (b : Bool) (c : Class) (program : Program) (h : Here Value) (st : Stores) → b ≡ c.scripted → o ≡ None
      → ◌≡◌ {A = Tree Value} (if b then make_instance program id c args h st
      else make_exception (exception_class st.world.heap (value.Obj id) c) (unnamed_operands args.named args.plain) st)
      (call_other_class program (helper_of_class (value.Obj id)) c (value.Obj id) args h st)
  by_kind b c program h st e n =
      ap (λ d. if d then make_instance program id c args h st
      else make_exception (exception_class st.world.heap (value.Obj id) c) (unnamed_operands args.named args.plain) st) e
      ∙ ap (λ k. call_other_class program k c (value.Obj id) args h st) (sym n ∙ is_so)

  pub scripted_called : (p : Progress) (new : List Slot) (changed : List (Option Value)) (grown : List Object) → o ≡ None
      → is_scripted (class_in (slice_get heap id.0)) ≡ true
      → CallsScripted blocks id args slots cells heap p new changed grown → CallsOtherClass blocks id args slots cells heap p new changed grown
  unfolding CallsScripted CallsOtherClass Calls
  scripted_called p new changed grown n scripted done c at program code i h st knows =
      done c at program code i h st knows
      ∙ ap (λ (t : Tree Value). by_tree code i (giving code i (slots_view slots)) (slots_view slots) t)
      (by_kind true c program h (with_parts cells heap st) (sym (scripted_is c at ∙ scripted)) n)

  is_exception : (c : Class) → c.scripted ≡ false → exception_at heap id ≡ exception_class heap (value.Obj id) c
  is_exception c e = by (derives heap BASE_EXCEPTION id) ∙ ap (λ b. if derives heap BASE_EXCEPTION id && not b then Some id else None) (sym e)
    where
      by : (b : Bool) → (if b then Some id else None) ≡ (if b && not false then Some id else None)
      by true = refl
      by false = refl

  pub exception_called : (class : Option ObjId) (p : Progress) (new : List Slot) (grown : List Object) → o ≡ None
      → is_scripted (class_in (slice_get heap id.0)) ≡ false → class ≡ exception_at heap id
      → MakesException class args slots heap p new grown → CallsOtherClass blocks id args slots cells heap p new cells grown
  unfolding MakesException Makes CallsOtherClass Calls
  exception_called class p new grown n plain is done c at program code i h st knows =
      done cells program code i h st tt
      ∙ (ap (λ x. by_tree code i (giving code i (slots_view slots)) (slots_view slots)
      (make_exception x (unnamed_operands args.named args.plain) (with_parts cells heap st))) (is ∙ is_exception c (scripted_is c at ∙ plain))
      ∙ ap (λ (t : Tree Value). by_tree code i (giving code i (slots_view slots)) (slots_view slots) t)
      (by_kind false c program h (with_parts cells heap st) (sym (scripted_is c at ∙ plain)) n))

-- of any class

module _ (blocks : Blocks) (r : Running) (id : ObjId) (args : Args) (slots : List Slot) (cells : List (Option Value)) (heap : List Object) (o : Option Builtin)
    (is_so : o ≡ of_class id) where
  pub object_called : (p : Progress) (new : List Slot) (grown : List Object) → o ≡ Some builtin.Object → GivesObject args slots heap p new grown
      → CallsAnyClass blocks r id args slots cells heap p new cells grown
  unfolding GivesObject Makes CallsAnyClass Calls
  object_called p new grown e done c at program code i h st knows =
      done cells program code i h st tt
      ∙ ap (λ k. by_tree code i (giving code i (slots_view slots)) (slots_view slots) (call_class program k c (value.Obj id) args h (with_parts cells heap st))) (sym e ∙ is_so)

  pub super_called : (p : Progress) (new : List Slot) (grown : List Object) → o ≡ Some builtin.Super → GivesSuper r args slots cells heap p new grown
      → CallsAnyClass blocks r id args slots cells heap p new cells grown
  unfolding GivesSuper CallsAnyClass Calls
  super_called p new grown e done c at program code i h st knows =
      done program code i h st knows.1
      ∙ ap (λ k. by_tree code i (giving code i (slots_view slots)) (slots_view slots) (call_class program k c (value.Obj id) args h (with_parts cells heap st))) (sym e ∙ is_so)

  operated_by : (f : Builtin) (c : Class) (program : Program) (h : Here Value) (st : Stores) → (f ≡ builtin.Object → ⊥) → (f ≡ builtin.Super → ⊥)
      → ◌≡◌ {A = Tree Value} (operate_or_ask program (op.Call f) (operands_of f args) h st) (call_class program (Some f) c (value.Obj id) args h st)
  operated_by builtin.Print c program h st n m = refl
  operated_by builtin.Len c program h st n m = refl
  operated_by builtin.Repr c program h st n m = refl
  operated_by builtin.Isinstance c program h st n m = refl
  operated_by builtin.Issubclass c program h st n m = refl
  operated_by builtin.Iter c program h st n m = refl
  operated_by builtin.Next c program h st n m = refl
  operated_by builtin.Abs c program h st n m = refl
  operated_by builtin.Divmod c program h st n m = refl
  operated_by builtin.Ord c program h st n m = refl
  operated_by builtin.Chr c program h st n m = refl
  operated_by builtin.Hasattr c program h st n m = refl
  operated_by builtin.Getattr c program h st n m = refl
  operated_by builtin.Setattr c program h st n m = refl
  operated_by builtin.Callable c program h st n m = refl
  operated_by builtin.Exit c program h st n m = refl
  operated_by builtin.Object c program h st n m = absurd (n refl)
  operated_by builtin.Type c program h st n m = refl
  operated_by builtin.Int c program h st n m = refl
  operated_by builtin.Bool c program h st n m = refl
  operated_by builtin.Str c program h st n m = refl
  operated_by builtin.Range c program h st n m = refl
  operated_by builtin.Super c program h st n m = absurd (m refl)
  operated_by builtin.MakeTuple c program h st n m = refl
  operated_by builtin.MakeSet c program h st n m = refl
  operated_by builtin.IsOf c program h st n m = refl
  operated_by builtin.JoinItems c program h st n m = refl
  operated_by builtin.SortItems c program h st n m = refl
  operated_by builtin.Refill c program h st n m = refl
  operated_by builtin.HasName c program h st n m = refl
  operated_by builtin.GetName c program h st n m = refl
  operated_by builtin.Refuse c program h st n m = refl
  operated_by builtin.IsError c program h st n m = refl
  operated_by builtin.HoldsInstance c program h st n m = refl
  operated_by builtin.PlainRepr c program h st n m = refl
  operated_by builtin.Dots c program h st n m = refl
  operated_by builtin.Parts c program h st n m = refl
  operated_by builtin.Wrap c program h st n m = refl
  operated_by builtin.TextGiven c program h st n m = refl
  operated_by builtin.TruthGiven c program h st n m = refl
  operated_by builtin.LengthGiven c program h st n m = refl
  operated_by builtin.Write c program h st n m = refl

  pub class_operated : (f : Builtin) (p : Progress) (new : List Slot) (changed : List (Option Value)) (grown : List Object) → o ≡ Some f
      → (o ≡ Some builtin.Object → ⊥) → (o ≡ Some builtin.Super → ⊥)
      → CallsOperation f args blocks slots cells heap p new changed grown → CallsAnyClass blocks r id args slots cells heap p new changed grown
  unfolding CallsOperation CallsAnyClass Calls
  class_operated f p new changed grown e n m done c at program code i h st knows =
      done program code i h st knows.0
      ∙ (ap (λ (t : Tree Value). by_tree code i (giving code i (slots_view slots)) (slots_view slots) t)
      (operated_by f c program h (with_parts cells heap st) (λ k. n (e ∙ ap (λ x. Some x) k)) (λ k. m (e ∙ ap (λ x. Some x) k)))
      ∙ ap (λ k. by_tree code i (giving code i (slots_view slots)) (slots_view slots) (call_class program k c (value.Obj id) args h (with_parts cells heap st))) (sym e ∙ is_so))

  pub other_class_called : (p : Progress) (new : List Slot) (changed : List (Option Value)) (grown : List Object) → o ≡ None
      → CallsOtherClass blocks id args slots cells heap p new changed grown → CallsAnyClass blocks r id args slots cells heap p new changed grown
  unfolding CallsOtherClass CallsAnyClass Calls
  other_class_called p new changed grown e done c at program code i h st knows =
      done c at program code i h st knows.0
      ∙ ap (λ k. by_tree code i (giving code i (slots_view slots)) (slots_view slots) (call_class program k c (value.Obj id) args h (with_parts cells heap st))) (sym e ∙ is_so)
