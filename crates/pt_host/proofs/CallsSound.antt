-- Functions that are made and calls keep a store sound.
use Rattle.std.proofs.Common.{◌≡◌, ℕ, zero, suc, Bool, true, false, List, [], ◌∷◌, ◌++◌, length, Option, None, Some, Result, Ok, Err, slice_get, if◌then◌else◌, refl, not, ◌&&◌}
use Rattle.std.specs.Prelude.{codes, option_map}
use Rattle.std.proofs.lemmas.List.Elements.{Contains-append_right}
use Rattle.pt_base.specs.declared.numbers.ObjId.{ObjId}
use Rattle.pt_tree.specs.Syntax.{Name}
use Rattle.sem_control.specs.control.Turn.{Role}
use Rattle.pt_heap.specs.declared.value.Value.{Value}
use Rattle.pt_heap.specs.declared.value.Value.TheVariants as value
use Rattle.pt_heap.specs.declared.view.Binding.{Binding}
use Rattle.pt_heap.specs.declared.object.Builtin.{Builtin as BuiltinObject}
use Rattle.pt_heap.specs.declared.object.Class.{Class as ClassObject}
use Rattle.pt_heap.specs.declared.object.Function.{Function}
use Rattle.pt_heap.specs.declared.object.Object.{Object}
use Rattle.pt_heap.specs.declared.object.Object.TheVariants as object
use Rattle.pt_heap.specs.Sound.{place_of, receiver_place, Fits, IsClassAt, IsWithin}
use Rattle.pt_bind.specs.Binding.{binding_with, value_of}
use Rattle.pt_bind.specs.declared.arguments.Args.{Args}
use Rattle.pt_bind.specs.declared.arguments.BindErr.{BindErr}
use Rattle.pt_bind.specs.declared.arguments.Locals.{Locals}
use Rattle.pt_content.specs.Operands.{text_of}
use Rattle.pt_content.specs.pt_attrs.Look.{object_of}
use Rattle.pt_content.specs.pt_attrs.declared.look.Found.{Found}
use Rattle.pt_content.specs.pt_attrs.declared.look.Found.TheVariants as found
use Rattle.pt_content.specs.Functions.{of_function}
use Rattle.pt_content.specs.declared.function.Function.{Function as Builtin}
use Rattle.pt_content.specs.declared.function.Function.TheVariants as builtin
use Rattle.pt_content.specs.declared.method_name.MethodName.{MethodName}
use Rattle.pt_content.specs.declared.method_name.MethodName.TheVariants as method
use Rattle.pt_content.specs.declared.op.Op.{Op}
use Rattle.pt_content.specs.declared.op.Op.TheVariants as op
use Rattle.sem_run.specs.run.Host.{Here, answer}
use Rattle.pt_host.specs.declared.places.TheConstants.{BASE_EXCEPTION, RECURSION_ERROR}
use Rattle.pt_host.specs.World.{Stores, Program, allot}
use Rattle.pt_prims.specs.pt_methods.Names.{of_method_number}
use Rattle.pt_content.specs.Classes.{class_name}
use Rattle.pt_host.specs.Texts.{binding_text, not_callable_text}
use Rattle.pt_host.specs.Trees.{answer_with, Tree}
use Rattle.pt_host.specs.Attributes.{set_named}
use Rattle.pt_host.specs.Calls.{call_by, call_found, call_function_at, call_limit, call_special, called_within, Called, call_setattr, exception_class, initialized, initializer, instance, instance_by, made_unless, make_instance, parameters_without, with_receiver}
use Rattle.pt_host.specs.Calls.{defaults_of, function_object, make_function, are_arguments, arguments, block_of, are_print_names, or_none, print_operands, unnamed_operands, operands_of, are_sort_names, sort_operands, method_operands, call_builtin, call_method, call_builtin_object, class_function, not_callable, call_object, call_value, call, call_class, make_exception}
use Rattle.pt_host.specs.Errors.{error}
use Rattle.pt_prims.specs.Classes.{derives}
use Rattle.pt_host.specs.Sound.{IsWithinIf, AllWithin, IsSoundFrom, KeepsSound}
use Rattle.pt_prims.specs.pt_special_methods.Instances.{method_of}
use Rattle.pt_prims.proofs.AttributeLemmas.{FoundWithin}
use Rattle.pt_prims.proofs.InstanceLemmas.{method-of-within}
use Rattle.pt_prims.proofs.Places.{Below, all-grow, if-grows, object-below, within-grows}
use Rattle.pt_host.proofs.ArgumentsSound.{bindings-below, bindings-grow, below-bindings, named-args-within, plain-within, BindingsWithin}
use Rattle.pt_host.proofs.AttributesSound.{set-named-sound}
use Rattle.pt_host.proofs.ClassesSound.{call-super-sound, instance-fits, new-object-sound}
use Rattle.pt_host.proofs.TreesSound.{from-fewer, then-keeps}
use Rattle.pt_host.proofs.Within.{Anything, below-value, allot-sound, error-fits, from-here, given-sound, raise-text-sound}
use Rattle.pt_host.proofs.PrimsWithin.{IfGiven}
use Rattle.pt_helper_objects.specs.pt_prelude.declared.kinds.Helper.{Helper}
use Rattle.pt_host.specs.Calls.{operate_or_ask, helper_of_class, call_other_class}
use Rattle.pt_host.proofs.FunctionsSound.{value-within, type-error, function-sound, ask-sound, prim-or-helper-sound}

-- the object of a method
below-if : (h : List Object) (o : Option Value) → Below (length h) (receiver_place o) → IsWithinIf h o
below-if h None b = tt
below-if h (Some v) b = below-value h v b

defaults-within : (h : List Object) (xs : List Name) (vs : List Value) → AllWithin h vs → BindingsWithin h (defaults_of xs vs)
defaults-within h [] vs w = tt
defaults-within h (x ∷ xs) [] w = tt
defaults-within h (x ∷ xs) (v ∷ vs) w = (w.0, defaults-within h xs vs w.1)

-- what is a function is called; an instance has `__init__` called
module _ (n : ℕ) (st : Stores) (r : Here Value) (s : IsSoundFrom n st) (active : IsWithinIf st.world.heap r.active) (program : Program) where
  pub function-at-sound : (args : Args) → AllWithin st.world.heap args.plain → BindingsWithin st.world.heap args.named → (o : Option Object) (v : Value) → object_of st.world.heap v ≡ o
      → KeepsSound IsWithin n (call_function_at program o args r st)
  function-at-sound args plain named (Some (object.Function f)) v e =
      function-sound n st r s active args plain named (program.facts (block_of f)) f
      (below-bindings st.world.heap f.defaults (object-below st.world.heap v (object.Function f) s.heap e))
  function-at-sound args plain named o v e = tt

initialized-sound : (n : ℕ) (st : Stores) (r : Here Value) → IsSoundFrom n st → IsWithinIf st.world.heap r.active → (program : Program) (f v : Value) (args : Args)
    → IsWithin st.world.heap v → AllWithin st.world.heap args.plain → BindingsWithin st.world.heap args.named → KeepsSound IsWithin n (initialized program f v args r st)
initialized-sound n st r s active program f v args w plain named =
    let heap : List Object = st.world.heap in
    let m : ℕ = length heap in
    let here : IsSoundFrom m st = from-here n st s in
    from-fewer IsWithin n m s.objects (initialized program f v args r st)
    (then-keeps IsWithin IsWithin m (call_function_at program (object_of heap f) (with_receiver v args) r st) (λ u st1. answer v st1)
    (function-at-sound m st r here active program (with_receiver v args) (w, plain) named (object_of heap f) f refl)
    (λ u st1 s1 i. (s1, within-grows heap st1.world.heap v s1.objects w)))

module _ (n : ℕ) (st : Stores) (r : Here Value) (s : IsSoundFrom n st) (active : IsWithinIf st.world.heap r.active) (program : Program) (args : Args)
    (plain : AllWithin st.world.heap args.plain) (named : BindingsWithin st.world.heap args.named) where
  made-unless-sound : (x : Result Locals BindErr) (c : ClassObject) (o : Object) → Fits st.world.heap (length st.world.heap) o → KeepsSound IsWithin n (made_unless x c o r st)
  made-unless-sound (Ok ls) c o f = given-sound n st (allot o st.world.heap) s (allot-sound st.world.heap o s.heap f)
  made-unless-sound (Err e) c o f = type-error n st r s active (binding_text c.name e)

  instance-by-sound : (e : Bool) (o : Option Found) (id : ObjId) (c : ClassObject) → IsClassAt st.world.heap id.0 → KeepsSound IsWithin n (instance_by program e o id c args r st)
  instance-by-sound e None id c k =
      made-unless-sound (binding_with (parameters_without e) [] args) c (instance e id args.plain) (instance-fits st.world.heap e id args.plain k plain)
  instance-by-sound e (Some (found.Bound f)) id c k =
      let heap : List Object = st.world.heap in
      let m : ℕ = length heap in
      let made : Object = instance e id args.plain in
      let here : IsSoundFrom m st = from-here n st s in
      from-fewer IsWithin n m s.objects (instance_by program e (Some (found.Bound f)) id c args r st)
      (then-keeps IsWithin IsWithin m (answer_with (allot made heap) st) (λ v st1. initialized program f v args r st1)
      (given-sound m st (allot made heap) here (allot-sound heap made s.heap (instance-fits heap e id args.plain k plain)))
      (λ v st1 s1 w. initialized-sound m st1 r s1 (if-grows heap st1.world.heap r.active s1.objects active) program f v args w
      (all-grow heap st1.world.heap args.plain s1.objects plain) (bindings-grow heap st1.world.heap args.named s1.objects named)))
  instance-by-sound e o id c k = tt

module _ (n : ℕ) (st : Stores) (r : Here Value) (s : IsSoundFrom n st) (active : IsWithinIf st.world.heap r.active) where
  abbrev heap : List Object
  heap = st.world.heap

  pub make-sound : (b : ℕ) (xs : List Name) (vs : List Value) → AllWithin heap vs → KeepsSound IsWithin n (make_function b xs vs r st)
  make-sound b xs vs w =
      given-sound n st (allot (function_object b r.block.hidden xs vs) heap) s
      (allot-sound heap (function_object b r.block.hidden xs vs) s.heap
      (record { places = bindings-below heap (defaults_of xs vs) (defaults-within heap xs vs w); classes = tt }))

  module _ (args : Args) (plain : AllWithin heap args.plain) (named : BindingsWithin heap args.named) where
    print-within : (o : Option Value) → IsWithinIf heap o → IsWithin heap (or_none o)
    print-within None w = tt
    print-within (Some v) w = w

    printed-within : AllWithin heap (print_operands args)
    printed-within = (
      print-within (value_of (codes "sep") args.named) (value-within heap (codes "sep") args.named named),
      (print-within (value_of (codes "end") args.named) (value-within heap (codes "end") args.named named), plain),
    )

    unnamed-within : (bs : List Binding) → IfGiven (unnamed_operands bs args.plain) (AllWithin heap)
    unnamed-within [] = plain
    unnamed-within (b ∷ bs) = tt

    operands-within : (f : Builtin) → IfGiven (operands_of f args) (AllWithin heap)
    operands-within builtin.Print = by (are_print_names args.named)
      where
        by : (c : Bool) → IfGiven (if c then Some (print_operands args) else None) (AllWithin heap)
        by true = printed-within
        by false = tt
    operands-within f = unnamed-within args.named

    sorted-within : (vs : List Value) → IfGiven (sort_operands args.named vs) (AllWithin heap)
    sorted-within [] = by (are_sort_names args.named)
      where
        by : (c : Bool)
            → IfGiven (if c then Some (or_none (value_of (codes "key") args.named) ∷ or_none (value_of (codes "reverse") args.named) ∷ []) else None) (AllWithin heap)
        by true = (
          print-within (value_of (codes "key") args.named) (value-within heap (codes "key") args.named named),
          (print-within (value_of (codes "reverse") args.named) (value-within heap (codes "reverse") args.named named), tt),
        )
        by false = tt
    sorted-within (v ∷ vs) = tt

    method-operands-within : (m : MethodName) → IfGiven (method_operands m args) (AllWithin heap)
    method-operands-within method.Sort = sorted-within args.plain
    method-operands-within m = unnamed-within args.named

    setattr-sound : (o : Option (List Value)) → IfGiven o (AllWithin heap) → KeepsSound IsWithin n (call_setattr o r st)
    setattr-sound None w = tt
    setattr-sound (Some []) w = tt
    setattr-sound (Some (a ∷ [])) w = tt
    setattr-sound (Some (a ∷ x ∷ [])) w = tt
    setattr-sound (Some (a ∷ x ∷ v ∷ [])) w =
        then-keeps Anything IsWithin n (set_named (text_of heap x) a v r st) (λ u st1. answer value.None st1)
        (set-named-sound n st r s active (text_of heap x) a v w.1.1.0) (λ u st1 s1 i. (s1, tt))
    setattr-sound (Some (a ∷ x ∷ v ∷ u ∷ vs)) w = tt

    behind-receiver : (v : Value) (o : Option (List Value)) → IsWithin heap v → IfGiven o (AllWithin heap) → IfGiven (option_map (λ vs. v ∷ vs) o) (AllWithin heap)
    behind-receiver v None i w = tt
    behind-receiver v (Some vs) i w = (i, w)

    module _ (program : Program) where
      operate-or-ask-sound : (f : Op) (o : Option (List Value)) → IfGiven o (AllWithin heap) → KeepsSound IsWithin n (operate_or_ask program f o r st)
      operate-or-ask-sound f None w = tt
      operate-or-ask-sound f (Some vs) w = prim-or-helper-sound program r n f vs st w s active

      builtin-sound : (o : Option Builtin) → KeepsSound IsWithin n (call_builtin program o args r st)
      builtin-sound None = tt
      builtin-sound (Some builtin.Setattr) = setattr-sound (unnamed_operands args.named args.plain) (unnamed-within args.named)
      builtin-sound (Some f) = operate-or-ask-sound (op.Call f) (operands_of f args) (operands-within f)

      method-sound : (o : Option MethodName) (v : Value) → IsWithin heap v → KeepsSound IsWithin n (call_method program o v args r st)
      method-sound None v i = tt
      method-sound (Some m) v i =
          operate-or-ask-sound (op.CallMethod m) (option_map (λ vs. v ∷ vs) (method_operands m args)) (behind-receiver v (method_operands m args) i (method-operands-within m))

      builtin-object-sound : (b : BuiltinObject) (o : Option Value) → IsWithinIf heap o → KeepsSound IsWithin n (call_builtin_object program b o args r st)
      builtin-object-sound b None w = builtin-sound (of_function b.number)
      builtin-object-sound b (Some v) w = method-sound (of_method_number b.number) v w

    -- classes, and exceptions
    made-sound : (id : ObjId) (c : ClassObject) → slice_get heap id.0 ≡ Some (object.Class c) → (b : Bool) (o : Option (List Value)) → IfGiven o (AllWithin heap)
        → KeepsSound IsWithin n (make_exception (if b then Some id else None) o st)
    made-sound id c at true (Some vs) w =
        given-sound n st (allot (error id vs None None) heap) s (allot-sound heap (error id vs None None) s.heap (error-fits heap id vs None None (c, at) w tt tt))
    made-sound id c at true None w = tt
    made-sound id c at false o w = tt

    other-class-sound : (program : Program) (o : Option Helper) (id : ObjId) (c : ClassObject) → slice_get heap id.0 ≡ Some (object.Class c)
        → KeepsSound IsWithin n (call_other_class program o c (value.Obj id) args r st)
    other-class-sound program None id c at = by c.scripted
      where
        by : (b : Bool)
            → KeepsSound IsWithin n
            (if b then make_instance program id c args r st
            else make_exception (exception_class heap (value.Obj id) c) (unnamed_operands args.named args.plain) st)
        by true = instance-by-sound n st r s active program args plain named (derives heap BASE_EXCEPTION id) (initializer heap id) id c (c, at)
        by false = made-sound id c at (derives heap BASE_EXCEPTION id && not c.scripted) (unnamed_operands args.named args.plain) (unnamed-within args.named)
    other-class-sound program (Some f) id c at = ask-sound n st r s active args plain named program f

    class-sound : (program : Program) (o : Option Builtin) (id : ObjId) (c : ClassObject) → slice_get heap id.0 ≡ Some (object.Class c)
        → KeepsSound IsWithin n (call_class program o c (value.Obj id) args r st)
    class-sound program None id c at = other-class-sound program (helper_of_class (value.Obj id)) id c at
    class-sound program (Some builtin.Object) id c at = new-object-sound n st r s active (unnamed_operands args.named args.plain)
    class-sound program (Some builtin.Super) id c at = call-super-sound n st r s active program (unnamed_operands args.named args.plain)
    class-sound program (Some f) id c at = operate-or-ask-sound program (op.Call f) (operands_of f args) (operands-within f)

    uncallable-sound : (v : Value) → KeepsSound IsWithin n (not_callable v r st)
    uncallable-sound v = type-error n st r s active (not_callable_text (class_name heap v))

    -- what is called in the place of an instance
    abbrev NextSound : Called → Type 0
    NextSound next = (v : Value) → IsWithin heap v → KeepsSound IsWithin n (next v args r st)

    module _ (program : Program) where
      by-sound : (next : Called) → NextSound next → (o : Option Found) (v : Value) → FoundWithin heap o → IsWithin heap v → KeepsSound IsWithin n (call_by program next o v args r st)
      by-sound next more (Some (found.Bound f)) v i w = function-at-sound n st r s active program (with_receiver v args) (w, plain) named (object_of heap f) f refl
      by-sound next more (Some (found.Plain u)) v i w = more u i
      by-sound next more o v i w = uncallable-sound v

      object-sound : (next : Called) → NextSound next → (o : Option Object) (id : ObjId) → slice_get heap id.0 ≡ o → IsWithin heap (value.Obj id)
          → KeepsSound IsWithin n (call_object program next o (value.Obj id) args r st)
      object-sound next more (Some (object.Function f)) id e w =
          function-sound n st r s active args plain named (program.facts (block_of f)) f (below-bindings heap f.defaults (s.heap.fits id.0 (object.Function f) e).places)
      object-sound next more (Some (object.Builtin b)) id e w =
          builtin-object-sound program b b.receiver (below-if heap b.receiver (s.heap.fits id.0 (object.Builtin b) e).places)
      object-sound next more (Some (object.Class c)) id e w = class-sound program (class_function (value.Obj id)) id c e
      object-sound next more (Some (object.Method m)) id e w =
          let inside : Below (length heap) (place_of m.function ++ place_of m.receiver) = (s.heap.fits id.0 (object.Method m) e).places in
          let receiver : IsWithin heap m.receiver =
          below-value heap m.receiver (λ p c. inside p (Contains-append_right (place_of m.function) (place_of m.receiver) p c)) in
          function-at-sound n st r s active program (with_receiver m.receiver args) (receiver, plain) named (object_of heap m.function) m.function refl
      object-sound next more o id e w =
          by-sound next more (method_of heap (value.Obj id) (codes "__call__")) (value.Obj id) (method-of-within heap s.heap (value.Obj id) (codes "__call__")) w

      called-sound : (k : ℕ) → NextSound (called_within program k)
      unfolding called_within
      called-sound zero v w = raise-text-sound IsWithin n st RECURSION_ERROR (codes "too many activations") r s (_, refl) active
      called-sound (suc k) (value.Obj id) w = object-sound (called_within program k) (λ u i. called-sound k u i) (slice_get heap id.0) id refl w
      called-sound (suc k) v w = uncallable-sound v

      value-sound : (v : Value) → IsWithin heap v → KeepsSound IsWithin n (call_value program v args r st)
      value-sound v w = called-sound (suc call_limit) v w

  pub call-sound : (program : Program) (rs : List Role) (f : Value) (vs : List Value) → IsWithin heap f → AllWithin heap vs → KeepsSound IsWithin n (call program rs f vs r st)
  call-sound program rs f vs i w = by (are_arguments heap rs vs)
    where
      by : (b : Bool) → KeepsSound IsWithin n (if b then call_value program f (arguments heap rs vs) r st else Rattle.sem_run.specs.run.Host.leave Rattle.pt_base.specs.declared.what.What.TheVariants.Feature)
      by true = value-sound (arguments heap rs vs) (plain-within heap s.heap rs vs w) (named-args-within heap s.heap rs vs w) program f i
      by false = tt

  pub special-sound : (program : Program) (o : Option Found) (v : Value) (vs : List Value) (otherwise : Tree Value) → FoundWithin heap o → IsWithin heap v → AllWithin heap vs
      → KeepsSound IsWithin n otherwise → KeepsSound IsWithin n (call_special program o v vs otherwise r st)
  special-sound program (Some (found.Bound f)) v vs otherwise i w ws k =
      function-at-sound n st r s active program (record { plain = v ∷ vs; named = [] }) (w, ws) tt (object_of heap f) f refl
  special-sound program (Some (found.Plain u)) v vs otherwise i w ws k = value-sound (record { plain = vs; named = [] }) ws tt program u i
  special-sound program o v vs otherwise i w ws k = k

  pub found-sound : (program : Program) (o : Option Found) (v : Value) (vs : List Value) (otherwise : Tree Value) → FoundWithin heap o → IsWithin heap v → AllWithin heap vs
      → KeepsSound IsWithin n otherwise → KeepsSound IsWithin n (call_found program o v vs otherwise r st)
  found-sound program (Some (found.Bound f)) v vs otherwise i w ws k =
      function-at-sound n st r s active program (record { plain = v ∷ vs; named = [] }) (w, ws) tt (object_of heap f) f refl
  found-sound program (Some (found.Plain u)) v vs otherwise i w ws k = tt
  found-sound program (Some found.Unbuilt) v vs otherwise i w ws k = tt
  found-sound program None v vs otherwise i w ws k = k
