-- The host requests nothing but that blocks run.
use Rattle.std.proofs.Common.{ℕ, zero, suc, Bool, true, false, List, [], ◌∷◌, map, Option, Some, None, if◌then◌else◌}
use Rattle.std.specs.Prelude.{Result, Ok, Err, option_map, slice_get, codes}
use Rattle.std.specs.List.{list_all, list_any}
use Rattle.std.specs.Str.{bytes_eq}
use Rattle.pt_base.specs.declared.numbers.ObjId.{ObjId}
use Rattle.pt_base.specs.declared.what.What.TheVariants.{Feature, Special}
use Rattle.sem_control.specs.control.Turn as T
use Rattle.sem_control.specs.control.Turn.{Ask, Seek, Deed, Throw, Operation, Role, Scope, Variable, End, gave, left_by}
use Rattle.pt_tree.specs.Syntax.{Name}
use Rattle.pt_heap.specs.declared.value.Value.{Value}
use Rattle.pt_heap.specs.declared.value.Value.TheVariants as value
use Rattle.pt_heap.specs.declared.object.Builtin.{Builtin as BuiltinObject}
use Rattle.pt_heap.specs.declared.object.Class.{Class as ClassObject}
use Rattle.pt_heap.specs.declared.object.Function.{Function}
use Rattle.pt_heap.specs.declared.object.Method.{Method}
use Rattle.pt_heap.specs.declared.object.Object.{Object}
use Rattle.pt_heap.specs.declared.object.Object.TheVariants as object
use Rattle.pt_bind.specs.Binding.{binding_with}
use Rattle.pt_bind.specs.declared.arguments.Args.{Args}
use Rattle.pt_bind.specs.declared.arguments.BindErr.{BindErr}
use Rattle.pt_bind.specs.declared.arguments.Locals.{Locals}
use Rattle.pt_content.specs.Classes.{class_name}
use Rattle.pt_content.specs.Functions.{of_function}
use Rattle.pt_content.specs.Operands.{text_of}
use Rattle.pt_content.specs.declared.function.Function.{Function as BuiltinFunction}
use Rattle.pt_content.specs.declared.function.Function.TheVariants as builtin
use Rattle.pt_content.specs.declared.answer.Helper.{Helper as Asked}
use Rattle.pt_content.specs.declared.answer.PrimAns.{PrimAns}
use Rattle.pt_content.specs.declared.answer.PrimAns.TheVariants as prim
use Rattle.pt_content.specs.declared.method_name.MethodName.{MethodName}
use Rattle.pt_content.specs.declared.op.Op.{Op}
use Rattle.pt_content.specs.declared.op.Op.TheVariants as op
use Rattle.pt_prims.specs.Classes.{derives}
use Rattle.pt_prims.specs.pt_special_methods.Instances.{method_of}
use Rattle.pt_prims.specs.Operations.{prim_answer, prim_heap}
use Rattle.pt_host.specs.pt_helper_objects.Objects.{helper_place}
use Rattle.pt_host.specs.pt_helper_objects.pt_prelude.declared.kinds.Helper.{Helper}
use Rattle.pt_host.specs.pt_helper_objects.pt_prelude.Asked.{function_of}
use Rattle.pt_host.specs.pt_methods.declared.attribute.Attribute.{Attribute}
use Rattle.pt_host.specs.pt_methods.declared.attribute.Attribute.TheVariants as attribute
use Rattle.pt_host.specs.pt_methods.Attributes.{attribute_of, receiver_of}
use Rattle.pt_host.specs.pt_methods.Names.{of_method_number}
use Rattle.sem_run.specs.run.Machine.{BlockId}
use Rattle.sem_run.specs.run.Host.{Here, Item, an_item, no_item, answer, raise, print, leave, request, opens, made, beyond}
use Rattle.pt_bare_runs.specs.Laws.{RunsOnlyBlocks, OpensOnly}
use Rattle.pt_host.specs.World.{Stores, CodeFacts, Program, Allotted, with_objects, allot}
use Rattle.pt_host.specs.Trees.{Tree, answer_with, made_all, raise_with, then_with}
use Rattle.pt_host.specs.Builtins as B
use Rattle.pt_host.specs.Builtins.{meaning}
use Rattle.pt_host.specs.Errors.{error_saying, raise_saying, error}
use Rattle.pt_host.specs.declared.places.TheConstants.{ATTRIBUTE_ERROR, BASE_EXCEPTION, IMPORT_ERROR, MODULE_NOT_FOUND_ERROR, OBJECT, RECURSION_ERROR, SYS, TYPE_ERROR, ASSERTION_ERROR, RUNTIME_ERROR}
use Rattle.pt_host.specs.Texts.{unbound_text, unbound_class, binding_text, missing_text, no_module_text, no_name_text, not_callable_text}
use Rattle.pt_host.specs.Variables.{raise_unbound, by_builtin, unless_bound, readable_value, variable_value, load_by, delete_by, is_no_method, put}
use Rattle.pt_host.specs.Primitives.{Awaited, answer_if, of_prim, prim_asked, one_value, done, a_truth, so_many, item_or_end, arguments_of}
use Rattle.pt_host.specs.Calls.{number_of, not_callable, function_object, result_of, block_of, run_given, call_bound, call_function, Values, values_given, operands_of, method_operands, call_builtin, call_method, call_builtin_object, class_function, call_by, call_found, call_limit, call_object, call_special, called_within, Called, call_value, call, are_arguments, arguments, unnamed_operands, exception_class, make_exception, call_class, call_other_class, helper_of_class, call_hidden, call_at, ask, ask_with, asked_in_place, behind_helper, by_prim_or_helper, operate_or_ask, operated, helper_arguments, objects_for, standing_for}
use Rattle.pt_host.specs.Attributes.{method_object, bound_object, bound_of, name_of, arguments_in, raise_missing, by_attribute, is_fixed, by_changed, set_attribute, delete_attribute, set_named}
use Rattle.pt_host.specs.Calls.{call_function_at, call_setattr, call_super, initialized, initializer, instance, instance_by, made_unless, make_instance, new_object, parameters_without, with_receiver, takes_arguments}
use Rattle.pt_host.specs.Classes.{base_of, cell_if, class_block, class_by, class_from, class_made, class_object, class_on, make_class, next_cell}
use Rattle.pt_host.specs.declared.classes.Base.{Base}
use Rattle.pt_host.specs.declared.classes.Base.TheVariants.{On, Unavailable, NoBase}
use Rattle.pt_host.specs.Supers.{class_around, first_value, may_have_super, super_by, super_object, super_of}
use Rattle.pt_host.specs.Imports.{import_module, by_imported}
use Rattle.pt_content.specs.pt_attrs.Look.{object_of}
use Rattle.pt_content.specs.pt_attrs.Store.{assigned, unassigned}
use Rattle.pt_content.specs.pt_attrs.declared.look.Found.{Found}
use Rattle.pt_content.specs.pt_attrs.declared.look.Found.TheVariants as found
use Rattle.pt_host.specs.Leaving.{error_at, is_stop}
use Rattle.pt_host.specs.Raising.{Standing, raisable, standing, raise_neither, raise_from, raise_with_cause, raise_standing, raise_active, throws, handler_classes, is_exception_class, is_of_class, is_taken, matches}
use Rattle.pt_host.specs.declared.managers.Manager.{Manager}
use Rattle.pt_host.specs.declared.managers.Manager.TheVariants.{Methods, NoEnter, NoExit, Unavailable as NoCall}
use Rattle.pt_host.specs.Managers.{exit_arguments, manager_of}
use Rattle.pt_host.specs.Answers.{call_exit, change_by, change_of, change_or, changed_by, by_change, entered, exit, next_by, or_end, or_end_behind, swallows, unpacked_by, unpacking, deeds, operation_of, by_operation, named_method, operate, operate_by, seeks, special_name, special_or}
use Rattle.pt_host.specs.HeapHost.{heap_host}
use Rattle.pt_host.proofs.AskedEnds.{Ends, AllotsIn, answered-ends, asked-ends}

-- what requests nothing has no block run
ends-only : {A : Type 0} (S : Stores → Type 0) (t : Tree A) → Ends S t → RunsOnlyBlocks t
ends-only S (answer x st) e = tt
ends-only S (raise v st) e = tt
ends-only S (print t k) e = ends-only S k e
ends-only S (leave what) e = tt
ends-only S (request r st k) e = absurd e

either-tree : {A : Type 0} (b : Bool) (x y : Tree A) → RunsOnlyBlocks x → RunsOnlyBlocks y → RunsOnlyBlocks (if b then x else y)
either-tree true x y p q = p
either-tree false x y p q = q

-- nor does what is made of answers that request nothing else
then-only : {A B : Type 0} (t : Tree A) (f : A → Stores → Tree B) → RunsOnlyBlocks t → ((a : A) (st : Stores) → RunsOnlyBlocks (f a st)) → RunsOnlyBlocks (then_with t f)
unfolding then_with
then-only (answer a st) f k g = g a st
then-only (raise v st) f k g = tt
then-only (print t u) f k g = then-only u f k g
then-only (leave what) f k g = tt
then-only (request (opens o) st u) f k g = λ x st1. then-only (u x st1) f (k x st1) g
then-only (request r st u) f k g = absurd k

answered : (a : Allotted) (st : Stores) → RunsOnlyBlocks (answer_with a st)
answered (made v h) st = tt
answered (beyond what) st = tt

raised : (A : Type 0) (a : Allotted) (st : Stores) → RunsOnlyBlocks (raise_with {A = A} a st)
raised A (made v h) st = tt
raised A (beyond what) st = tt

saying-only : (A : Type 0) (c : ObjId) (t : List ℕ) (h : Here Value) (st : Stores) → RunsOnlyBlocks (raise_saying {A = A} c t h st)
saying-only A c t h st = raised A (error_saying c t None h.active st.world.heap) st

unbound-only : (A : Type 0) (s : Scope) (x : Name) (h : Here Value) (st : Stores) → RunsOnlyBlocks (raise_unbound {A = A} s x h st)
unbound-only A s x h st = saying-only A (unbound_class s) (unbound_text s x) h st

type-error-only : (h : Here Value) (st : Stores) → RunsOnlyBlocks (raise_saying {A = Value} TYPE_ERROR (codes "bad argument") h st)
type-error-only h st = saying-only Value TYPE_ERROR (codes "bad argument") h st

not-callable-only : (v : Value) (h : Here Value) (st : Stores) → RunsOnlyBlocks (not_callable v h st)
not-callable-only v h st = saying-only Value TYPE_ERROR (not_callable_text (class_name st.world.heap v)) h st

abbrev any-stores : Stores → Type 0
any-stores st = Unit {0}

allots-any : (a : Allotted) (st : Stores) → AllotsIn any-stores st a
allots-any (made v h) st = tt
allots-any (beyond what) st = tt

asked-only : {A : Type 0} (w : Awaited A) (o : Op) (vs : List Value) (h : Here Value) (st : Stores) → RunsOnlyBlocks (prim_asked w o vs h st)
asked-only w o vs h st = ends-only any-stores (prim_asked w o vs h st)
    (asked-ends any-stores w h o vs st tt (λ c args. allots-any _ (with_objects (prim_heap o vs st.world.heap) st)))

by-builtin-only : (b : B.Builtin) (s : Scope) (x : Name) (h : Here Value) (st : Stores) → RunsOnlyBlocks (by_builtin b s x h st)
by-builtin-only (B.is v) s x h st = tt
by-builtin-only B.unavailable s x h st = tt
by-builtin-only B.no_builtin s x h st = unbound-only Value s x h st

unless-bound-only : (s : Scope) (x : Name) (h : Here Value) (st : Stores) → RunsOnlyBlocks (unless_bound s x h st)
unless-bound-only T.global x h st = by-builtin-only (meaning h.block.hidden x) T.global x h st
unless-bound-only T.of_class x h st = by-builtin-only (meaning h.block.hidden x) T.of_class x h st
unless-bound-only s x h st = unbound-only Value s x h st

load-only : (o : Option Value) (s : Scope) (x : Name) (h : Here Value) (st : Stores) → RunsOnlyBlocks (load_by o s x h st)
load-only (Some v) s x h st = tt
load-only None s x h st = unless-bound-only s x h st

delete-only : (o : Option Value) (s : Scope) (x : Name) (h : Here Value) (st : Stores) → RunsOnlyBlocks (delete_by o s x h st)
delete-only (Some v) s x h st = tt
delete-only None s x h st = unbound-only (Unit {0}) s x h st

result-only : (e : End Value) (st : Stores) → RunsOnlyBlocks (result_of e st)
result-only (gave v) st = tt
result-only (left_by v) st = tt

given-only : (facts : CodeFacts) (f : Function) (v : Values) (st : Stores) → RunsOnlyBlocks (run_given facts f v st)
given-only facts f (made vs k) st = λ r st1. result-only r.end st1
given-only facts f (beyond what) st = tt

bound-only : (facts : CodeFacts) (f : Function) (r : Result Locals BindErr) (h : Here Value) (st : Stores) → RunsOnlyBlocks (call_bound facts f r h st)
bound-only facts f (Ok ls) h st = given-only facts f (values_given facts.params ls st.world.heap) st
bound-only facts f (Err e) h st =
    either-tree f.hidden (leave Feature) (raise_saying TYPE_ERROR (binding_text facts.name e) h st) tt (saying-only Value TYPE_ERROR (binding_text facts.name e) h st)

function-only : (facts : CodeFacts) (f : Function) (args : Args) (h : Here Value) (st : Stores) → RunsOnlyBlocks (call_function facts f args h st)
function-only facts f args h st =
    either-tree facts.yields (leave Feature) (call_bound facts f (binding_with facts.params f.defaults args) h st) tt
    (bound-only facts f (binding_with facts.params f.defaults args) h st)

-- attributes
missing-only : (A : Type 0) (x : Name) (v : Value) (h : Here Value) (st : Stores) → RunsOnlyBlocks (raise_missing {A = A} x v h st)
missing-only A x v h st = saying-only A ATTRIBUTE_ERROR (missing_text (class_name st.world.heap v) x) h st

attribute-only : (program : Program) (x : Name) (v : Value) (a : Attribute) (h : Here Value) (st : Stores) → RunsOnlyBlocks (by_attribute program x v a h st)
attribute-only program x v (attribute.Method m) h st = answered (allot (method_object m v) st.world.heap) st
attribute-only program x v (attribute.Held u) h st = tt
attribute-only program x v (attribute.Bound f) h st = answered (allot (bound_object f (receiver_of st.world.heap v)) st.world.heap) st
attribute-only program x v attribute.NameOf h st = answered (allot (object.Str (name_of program (object_of st.world.heap v))) st.world.heap) st
attribute-only program x v attribute.Arguments h st = answered (allot (object.Tuple (arguments_in (object_of st.world.heap v))) st.world.heap) st
attribute-only program x v attribute.Missing h st = missing-only Value x v h st
attribute-only program x v attribute.Unbuilt h st = tt

changed-only : (fixed : Bool) (x : Name) (a : Value) (o : Option (List Object)) (h : Here Value) (st : Stores) → RunsOnlyBlocks (by_changed fixed x a o h st)
changed-only true x a (Some k) h st = tt
changed-only false x a (Some k) h st = tt
changed-only fixed x a None h st = missing-only (Unit {0}) x a h st

set-only : (x : Name) (a v : Value) (h : Here Value) (st : Stores) → RunsOnlyBlocks (set_attribute x a v h st)
set-only x a v h st = changed-only (is_fixed (object_of st.world.heap a) x) x a (assigned st.world.heap a x v) h st

unset-only : (x : Name) (a : Value) (h : Here Value) (st : Stores) → RunsOnlyBlocks (delete_attribute x a h st)
unset-only x a h st = changed-only (is_fixed (object_of st.world.heap a) x) x a (unassigned st.world.heap a x) h st

set-named-only : (o : Option (List ℕ)) (a v : Value) (h : Here Value) (st : Stores) → RunsOnlyBlocks (set_named o a v h st)
set-named-only (Some x) a v h st = set-only x a v h st
set-named-only None a v h st = saying-only (Unit {0}) TYPE_ERROR (codes "bad argument") h st

setattr-only : (o : Option (List Value)) (h : Here Value) (st : Stores) → RunsOnlyBlocks (call_setattr o h st)
setattr-only None h st = tt
setattr-only (Some []) h st = tt
setattr-only (Some (a ∷ [])) h st = tt
setattr-only (Some (a ∷ x ∷ [])) h st = tt
setattr-only (Some (a ∷ x ∷ v ∷ [])) h st =
    then-only (set_named (text_of st.world.heap x) a v h st) (λ u st1. answer value.None st1) (set-named-only (text_of st.world.heap x) a v h st) (λ u st1. tt)
setattr-only (Some (a ∷ x ∷ v ∷ u ∷ vs)) h st = tt

-- new objects
made-all-only : (os : List Object) (st : Stores) → RunsOnlyBlocks (made_all os st)
made-all-only [] st = tt
made-all-only (o ∷ os) st =
    then-only (answer_with (allot o st.world.heap) st) (λ v st1. then_with (made_all os st1) (λ vs st2. answer (v ∷ vs) st2)) (answered (allot o st.world.heap) st)
    (λ v st1. then-only (made_all os st1) (λ vs st2. answer (v ∷ vs) st2) (made-all-only os st1) (λ vs st2. tt))

given-if-only : {A : Type 0} (o : Option A) (st : Stores) → RunsOnlyBlocks (answer_if o st)
given-if-only (Some a) st = tt
given-if-only None st = tt

behind-only : {A : Type 0} (w : Awaited A) (o : Op) (a : Asked) (vs : List Value) (inverted : Bool) (v : Value) (h : Here Value) (st : Stores)
    → RunsOnlyBlocks (behind_helper w o a vs inverted v h st)
behind-only w (op.Format c) a (x ∷ spec ∷ vs) inverted v h st = asked-only w (op.Format None) (v ∷ spec ∷ []) h st
behind-only w op.Truth a vs inverted v h st = given-if-only (w.value v) st
behind-only w op.Iter a vs inverted v h st = given-if-only (w.value v) st
behind-only w o a vs inverted v h st = given-if-only (w.value (standing_for o a vs inverted v)) st

answer-only : {A : Type 0} (w : Awaited A) (a : PrimAns) (h : Here Value) (st : Stores) → RunsOnlyBlocks (of_prim w a h st)
answer-only w a h st = ends-only any-stores (of_prim w a h st) (answered-ends any-stores w h a st tt (λ c args. allots-any _ st))

-- an iterator that ends
or-end-only : (t : Tree (Item Value)) → RunsOnlyBlocks t → RunsOnlyBlocks (or_end t)
unfolding or_end
or-end-only (answer x st) k = tt
or-end-only (raise e st) k = either-tree (is_stop e st.world) (answer (no_item (Some e)) st) (raise e st) tt tt
or-end-only (print t u) k = or-end-only u k
or-end-only (leave what) k = tt
or-end-only (request (opens o) st f) k = λ x st1. or-end-only (f x st1) (k x st1)
or-end-only (request q st f) k = absurd k

or-end-behind-only : (t : Tree (Item Value)) → RunsOnlyBlocks t → RunsOnlyBlocks (or_end_behind t)
or-end-behind-only (answer x st) k = tt
or-end-behind-only (raise e st) k = tt
or-end-behind-only (print t u) k = or-end-behind-only u k
or-end-behind-only (leave what) k = tt
or-end-behind-only (request (opens o) st f) k = λ x st1. or-end-only (f x st1) (k x st1)
or-end-behind-only (request q st f) k = absurd k

-- functions that are written in Python
module _ (program : Program) where
  hidden-only : (o : Option Object) (args : Args) (h : Here Value) (st : Stores) → RunsOnlyBlocks (call_hidden program o args h st)
  hidden-only (Some (object.Function f)) args h st = function-only (program.facts (block_of f)) f args h st
  hidden-only o args h st = tt

  at-only : (o : Option ℕ) (args : Args) (h : Here Value) (st : Stores) → RunsOnlyBlocks (call_at program o args h st)
  at-only (Some place) args h st = hidden-only (slice_get st.world.heap place) args h st
  at-only None args h st = tt

  ask-with-only : (a : Asked) (vs : List Value) (h : Here Value) (st : Stores) → RunsOnlyBlocks (ask_with program a vs h st)
  ask-with-only a vs h st =
      then-only (made_all (objects_for a vs) st) (λ ms st1. ask program (function_of a) (helper_arguments a vs ms) h st1) (made-all-only (objects_for a vs) st)
      (λ ms st1. at-only (helper_place (function_of a)) (helper_arguments a vs ms) h st1)

  in-place-only : {A : Type 0} (w : Awaited A) (o : Op) (a : PrimAns) (h : Here Value) (st : Stores) → RunsOnlyBlocks (asked_in_place program w o a h st)
  in-place-only w o (prim.Help a vs inverted) h st =
      then-only (ask_with program a vs h st) (λ v st1. behind_helper w o a vs inverted v h st1) (ask-with-only a vs h st) (λ v st1. behind-only w o a vs inverted v h st1)
  in-place-only w o a h st = answer-only w a h st

  operated-only : {A : Type 0} (w : Awaited A) (o : Op) (vs : List Value) (h : Here Value) (st : Stores) → RunsOnlyBlocks (operated program w o vs h st)
  unfolding operated
  operated-only w o vs h st = in-place-only w o (prim_answer o vs st.world.heap) h (with_objects (prim_heap o vs st.world.heap) st)

  prim-or-helper-only : (o : Op) (vs : List Value) (h : Here Value) (st : Stores) → RunsOnlyBlocks (by_prim_or_helper program o vs h st)
  prim-or-helper-only o vs h st = operated-only one_value o vs h st

  -- items of an iterator, and what is unpacked
  next-by-only : (a : PrimAns) (h : Here Value) (st : Stores) → RunsOnlyBlocks (next_by program a h st)
  next-by-only (prim.Help a vs inverted) h st =
      or-end-behind-only (then_with (ask_with program a vs h st) (λ v st1. answer (an_item v) st1))
      (then-only (ask_with program a vs h st) (λ v st1. answer (an_item v) st1) (ask-with-only a vs h st) (λ v st1. tt))
  next-by-only a h st = answer-only item_or_end a h st

  unpacked-by-only : (n : ℕ) (star : Option ℕ) (a : PrimAns) (h : Here Value) (st : Stores) → RunsOnlyBlocks (unpacked_by program n star a h st)
  unpacked-by-only n star (prim.Help a vs inverted) h st =
      then-only (ask_with program a vs h st) (λ v st1. prim_asked (so_many n) (unpacking n star) (v ∷ []) h st1) (ask-with-only a vs h st)
      (λ v st1. asked-only (so_many n) (unpacking n star) (v ∷ []) h st1)
  unpacked-by-only n star a h st = answer-only (so_many n) a h st

  operate-or-ask-only : (f : Op) (o : Option (List Value)) (h : Here Value) (st : Stores) → RunsOnlyBlocks (operate_or_ask program f o h st)
  operate-or-ask-only f (Some vs) h st = prim-or-helper-only f vs h st
  operate-or-ask-only f None h st = tt

  builtin-only : (o : Option BuiltinFunction) (args : Args) (h : Here Value) (st : Stores) → RunsOnlyBlocks (call_builtin program o args h st)
  builtin-only (Some builtin.Setattr) args h st = setattr-only (unnamed_operands args.named args.plain) h st
  builtin-only (Some f) args h st = operate-or-ask-only (op.Call f) (operands_of f args) h st
  builtin-only None args h st = tt

  method-only : (o : Option MethodName) (v : Value) (args : Args) (h : Here Value) (st : Stores) → RunsOnlyBlocks (call_method program o v args h st)
  method-only (Some m) v args h st = operate-or-ask-only (op.CallMethod m) (option_map (λ vs. v ∷ vs) (method_operands m args)) h st
  method-only None v args h st = tt

  builtin-object-only : (b : BuiltinObject) (o : Option Value) (args : Args) (h : Here Value) (st : Stores) → RunsOnlyBlocks (call_builtin_object program b o args h st)
  builtin-object-only b None args h st = builtin-only (of_function b.number) args h st
  builtin-object-only b (Some v) args h st = method-only (of_method_number b.number) v args h st

-- modules and their names
import-only : (x : Name) (h : Here Value) (st : Stores) → RunsOnlyBlocks (import_module x h st)
import-only x h st =
    either-tree (bytes_eq x (codes "sys")) (answer (value.Obj SYS) st) (raise_saying MODULE_NOT_FOUND_ERROR (no_module_text x) h st) tt
    (saying-only Value MODULE_NOT_FOUND_ERROR (no_module_text x) h st)

imported-only : (program : Program) (x : Name) (m : Value) (a : Attribute) (h : Here Value) (st : Stores) → RunsOnlyBlocks (by_imported program x m a h st)
imported-only program x m attribute.Missing h st = saying-only Value IMPORT_ERROR (no_name_text x) h st
imported-only program x m a h st = attribute-only program x m a h st

made-only : (o : Option ObjId) (vs : Option (List Value)) (st : Stores) → RunsOnlyBlocks (make_exception o vs st)
made-only (Some id) (Some vs) st = answered (allot (error id vs None None) st.world.heap) st
made-only (Some id) None st = tt
made-only None vs st = tt

-- what `super` gives
no-super-only : (h : Here Value) (st : Stores) → RunsOnlyBlocks (raise_saying {A = Value} RUNTIME_ERROR (codes "bad argument") h st)
no-super-only h st = saying-only Value RUNTIME_ERROR (codes "bad argument") h st

super-by-only : (id : ObjId) (o : Option Object) (v : Value) (h : Here Value) (st : Stores) → RunsOnlyBlocks (super_by id o v h st)
super-by-only id (Some (object.Class c)) v h st =
    either-tree (may_have_super st.world.heap (value.Obj id) v) (answer_with (allot (super_object id v) st.world.heap) st) (raise_saying TYPE_ERROR (codes "bad argument") h st)
    (answered (allot (super_object id v) st.world.heap) st) (type-error-only h st)
super-by-only id o v h st = no-super-only h st

super-of-only : (c v : Option Value) (h : Here Value) (st : Stores) → RunsOnlyBlocks (super_of c v h st)
super-of-only (Some (value.Obj id)) (Some v) h st = super-by-only id (slice_get st.world.heap id.0) v h st
super-of-only (Some (value.Obj id)) None h st = no-super-only h st
super-of-only c v h st = no-super-only h st

super-only : (program : Program) (o : Option (List Value)) (h : Here Value) (st : Stores) → RunsOnlyBlocks (call_super program o h st)
super-only program None h st = tt
super-only program (Some []) h st =
    let facts : CodeFacts = program.facts h.block in
    super-of-only (class_around facts st) (first_value facts st facts.params.plain) h st
super-only program (Some (v ∷ vs)) h st = tt

new-only : (o : Option (List Value)) (st : Stores) → RunsOnlyBlocks (new_object o st)
new-only None st = tt
new-only (Some []) st = answered (allot (instance false OBJECT []) st.world.heap) st
new-only (Some (v ∷ vs)) st = tt

made-unless-only : (r : Result Locals BindErr) (c : ClassObject) (o : Object) (h : Here Value) (st : Stores) → RunsOnlyBlocks (made_unless r c o h st)
made-unless-only (Ok ls) c o h st = answered (allot o st.world.heap) st
made-unless-only (Err e) c o h st = saying-only Value TYPE_ERROR (binding_text c.name e) h st

module _ (program : Program) where
  function-at-only : (o : Option Object) (args : Args) (h : Here Value) (st : Stores) → RunsOnlyBlocks (call_function_at program o args h st)
  function-at-only (Some (object.Function f)) args h st = function-only (program.facts (block_of f)) f args h st
  function-at-only o args h st = tt

  initialized-only : (f v : Value) (args : Args) (h : Here Value) (st : Stores) → RunsOnlyBlocks (initialized program f v args h st)
  initialized-only f v args h st =
      then-only (call_function_at program (object_of st.world.heap f) (with_receiver v args) h st) (λ u st1. answer v st1)
      (function-at-only (object_of st.world.heap f) (with_receiver v args) h st) (λ u st1. tt)

  instance-only : (e : Bool) (o : Option Found) (id : ObjId) (c : ClassObject) (args : Args) (h : Here Value) (st : Stores) → RunsOnlyBlocks (instance_by program e o id c args h st)
  instance-only e None id c args h st = made-unless-only (binding_with (parameters_without e) [] args) c (instance e id args.plain) h st
  instance-only e (Some (found.Bound f)) id c args h st =
      then-only (answer_with (allot (instance e id args.plain) st.world.heap) st) (λ v st1. initialized program f v args h st1)
      (answered (allot (instance e id args.plain) st.world.heap) st) (λ v st1. initialized-only f v args h st1)
  instance-only e o id c args h st = tt

  other-class-only : (o : Option Helper) (c : ClassObject) (v : Value) (args : Args) (h : Here Value) (st : Stores) → RunsOnlyBlocks (call_other_class program o c v args h st)
  other-class-only (Some f) c v args h st = at-only program (helper_place f) args h st
  other-class-only None c (value.Obj id) args h st =
      either-tree c.scripted (make_instance program id c args h st)
      (make_exception (exception_class st.world.heap (value.Obj id) c) (unnamed_operands args.named args.plain) st)
      (instance-only (derives st.world.heap BASE_EXCEPTION id) (initializer st.world.heap id) id c args h st)
      (made-only (exception_class st.world.heap (value.Obj id) c) (unnamed_operands args.named args.plain) st)
  other-class-only None c v args h st = tt

  class-only : (o : Option BuiltinFunction) (c : ClassObject) (v : Value) (args : Args) (h : Here Value) (st : Stores) → RunsOnlyBlocks (call_class program o c v args h st)
  class-only (Some builtin.Object) c v args h st = new-only (unnamed_operands args.named args.plain) st
  class-only (Some builtin.Super) c v args h st = super-only program (unnamed_operands args.named args.plain) h st
  class-only (Some f) c v args h st = operate-or-ask-only program (op.Call f) (operands_of f args) h st
  class-only None c v args h st = other-class-only (helper_of_class v) c v args h st

-- classes that are made
class-made-only : (c : Option ℕ) (a : Allotted) (st : Stores) → RunsOnlyBlocks (class_made c a st)
class-made-only c (made v k) st = tt
class-made-only c (beyond what) st = tt

class-on-only : (b : Base) (facts : CodeFacts) (c : Option ℕ) (ns : List (Name × Option Value)) (h : Here Value) (st : Stores) → RunsOnlyBlocks (class_on b facts c ns h st)
class-on-only (On base) facts c ns h st = class-made-only c (allot (class_object facts base ns) st.world.heap) st
class-on-only Unavailable facts c ns h st = tt
class-on-only NoBase facts c ns h st = type-error-only h st

class-by-only : (e : End Value) (base : Value) (facts : CodeFacts) (c : Option ℕ) (ns : List (Name × Option Value)) (h : Here Value) (st : Stores) → RunsOnlyBlocks (class_by e base facts c ns h st)
class-by-only (gave v) base facts c ns h st = class-on-only (base_of st.world.heap base) facts c ns h st
class-by-only (left_by v) base facts c ns h st = tt

class-from-only : (b : BlockId) (facts : CodeFacts) (base : Value) (ns : List ℕ) (h : Here Value) (st : Stores) → RunsOnlyBlocks (class_from b facts base ns h st)
class-from-only b facts base ns h st = λ r st1. class-by-only r.end base facts (cell_if facts (next_cell facts st.world)) r.names.values h st1

make-class-only : (program : Program) (b : ℕ) (vs : List Value) (h : Here Value) (st : Stores) → RunsOnlyBlocks (make_class program b vs h st)
make-class-only program b [] h st = tt
make-class-only program b (base ∷ vs) h st =
    class-from-only (class_block h.block.hidden b) (program.facts (class_block h.block.hidden b)) base (map number_of vs) h st

-- what is raised, and what handlers find
module _ (A : Type 0) (h : Here Value) (st : Stores) where
  neither-only : (k : List Object) → RunsOnlyBlocks (raise_neither {A = A} k h st)
  neither-only k = saying-only A TYPE_ERROR (codes "exceptions must derive from BaseException") h (with_objects k st)

  from-only : (id : ObjId) (t : Standing) → RunsOnlyBlocks (raise_from {A = A} id t h st)
  from-only id (made (Some c) k) = tt
  from-only id (made None k) = neither-only k
  from-only id (beyond what) = tt

  with-cause-only : (id : ObjId) (c : Option Value) (k : List Object) → RunsOnlyBlocks (raise_with_cause {A = A} id c k h st)
  with-cause-only id None k = tt
  with-cause-only id (Some value.None) k = tt
  with-cause-only id (Some (value.Obj c)) k = from-only id (standing (raisable k (value.Obj c)) k)
  with-cause-only id (Some (value.Bool b)) k = from-only id (standing (raisable k (value.Bool b)) k)
  with-cause-only id (Some (value.Int z)) k = from-only id (standing (raisable k (value.Int z)) k)
  with-cause-only id (Some value.Ellipsis) k = from-only id (standing (raisable k value.Ellipsis) k)
  with-cause-only id (Some value.NotImplemented) k = from-only id (standing (raisable k value.NotImplemented) k)

  standing-only : (t : Standing) (c : Option Value) → RunsOnlyBlocks (raise_standing {A = A} t c h st)
  standing-only (made (Some id) k) c = with-cause-only id c k
  standing-only (made None k) c = neither-only k
  standing-only (beyond what) c = tt

  again-only : (a : Option Value) → RunsOnlyBlocks (raise_active {A = A} a h st)
  again-only (Some v) = tt
  again-only None = saying-only A RUNTIME_ERROR (codes "no active exception") h st

  throws-only : (t : Throw Value) → RunsOnlyBlocks (throws {A = A} t h st)
  throws-only (T.raising v c) = standing-only (standing (raisable st.world.heap v) st.world.heap) c
  throws-only T.raising_again = again-only h.active
  throws-only (T.failing m) = raised A (allot (error ASSERTION_ERROR (arguments_of m) None h.active) st.world.heap) st

taken-only : (e : Value) (cs : List Value) (h : Here Value) (st : Stores) → RunsOnlyBlocks (is_taken e cs h st)
taken-only e cs h st =
    either-tree (list_all (is_exception_class st.world.heap) cs) (answer (list_any (is_of_class st.world.heap (error_at st.world.heap e)) cs) st)
    (raise_saying TYPE_ERROR (codes "bad argument") h st) tt (saying-only Bool TYPE_ERROR (codes "bad argument") h st)

matches-only : (e c : Value) (h : Here Value) (st : Stores) → RunsOnlyBlocks (matches e c h st)
matches-only e value.None h st = tt
matches-only e (value.Obj c) h st = taken-only e (handler_classes (value.Obj c) (object_of st.world.heap (value.Obj c))) h st
matches-only e (value.Bool b) h st = taken-only e (handler_classes (value.Bool b) None) h st
matches-only e (value.Int z) h st = taken-only e (handler_classes (value.Int z) None) h st
matches-only e value.Ellipsis h st = taken-only e (handler_classes value.Ellipsis None) h st
matches-only e value.NotImplemented h st = taken-only e (handler_classes value.NotImplemented None) h st

-- calls, also of what stands in the place of an instance
abbrev NextOnly : Called → Type 0
NextOnly next = (v : Value) (args : Args) (h : Here Value) (st : Stores) → RunsOnlyBlocks (next v args h st)

module _ (program : Program) where
  by-only : (next : Called) → NextOnly next → (o : Option Found) (v : Value) (args : Args) (h : Here Value) (st : Stores) → RunsOnlyBlocks (call_by program next o v args h st)
  by-only next more (Some (found.Bound f)) v args h st = function-at-only program (object_of st.world.heap f) (with_receiver v args) h st
  by-only next more (Some (found.Plain w)) v args h st = more w args h st
  by-only next more o v args h st = not-callable-only v h st

  object-only : (next : Called) → NextOnly next → (o : Option Object) (v : Value) (args : Args) (h : Here Value) (st : Stores) → RunsOnlyBlocks (call_object program next o v args h st)
  object-only next more (Some (object.Function f)) v args h st = function-only (program.facts (block_of f)) f args h st
  object-only next more (Some (object.Builtin b)) v args h st = builtin-object-only program b b.receiver args h st
  object-only next more (Some (object.Class c)) v args h st = class-only program (class_function v) c v args h st
  object-only next more (Some (object.Method m)) v args h st = function-at-only program (object_of st.world.heap m.function) (with_receiver m.receiver args) h st
  object-only next more o v args h st = by-only next more (method_of st.world.heap v (codes "__call__")) v args h st

  called-only : (n : ℕ) → NextOnly (called_within program n)
  unfolding called_within
  called-only zero v args h st = saying-only Value RECURSION_ERROR (codes "too many activations") h st
  called-only (suc n) (value.Obj id) args h st =
      object-only (called_within program n) (λ u more g st1. called-only n u more g st1) (slice_get st.world.heap id.0) (value.Obj id) args h st
  called-only (suc n) v args h st = not-callable-only v h st

  value-only : (v : Value) (args : Args) (h : Here Value) (st : Stores) → RunsOnlyBlocks (call_value program v args h st)
  value-only v args h st = called-only (suc call_limit) v args h st

  special-only : (o : Option Found) (v : Value) (vs : List Value) (otherwise : Tree Value) (h : Here Value) (st : Stores) → RunsOnlyBlocks otherwise
      → RunsOnlyBlocks (call_special program o v vs otherwise h st)
  special-only (Some (found.Bound f)) v vs otherwise h st k = function-at-only program (object_of st.world.heap f) (record { plain = v ∷ vs; named = [] }) h st
  special-only (Some (found.Plain w)) v vs otherwise h st k = value-only w (record { plain = vs; named = [] }) h st
  special-only o v vs otherwise h st k = k

  call-only : (rs : List Role) (f : Value) (vs : List Value) (h : Here Value) (st : Stores) → RunsOnlyBlocks (call program rs f vs h st)
  call-only rs f vs h st =
      let heap : List Object = st.world.heap in
      either-tree (are_arguments heap rs vs) (call_value program f (arguments heap rs vs) h st) (leave Feature) (value-only f (arguments heap rs vs) h st) tt

  special-or-only : (v : Value) (rest : List Value) (o : Op) (vs : List Value) (h : Here Value) (st : Stores) → RunsOnlyBlocks (special_or program v rest o vs h st)
  special-or-only v rest o vs h st =
      special-only (named_method st.world.heap (special_name o) v) v rest (by_prim_or_helper program o vs h st) h st (prim-or-helper-only program o vs h st)

  operate-by-only : (o : Op) (vs : List Value) (h : Here Value) (st : Stores) → RunsOnlyBlocks (operate_by program o vs h st)
  operate-by-only (op.Unary u) (v ∷ []) h st = special-or-only v [] (op.Unary u) (v ∷ []) h st
  operate-by-only op.Item (a ∷ i ∷ []) h st = special-or-only a (i ∷ []) op.Item (a ∷ i ∷ []) h st
  operate-by-only o vs h st = prim-or-helper-only program o vs h st

  operation-only : (o : Option Op) (vs : List Value) (h : Here Value) (st : Stores) → RunsOnlyBlocks (by_operation program o vs h st)
  operation-only (Some o) vs h st = operate-by-only o vs h st
  operation-only None vs h st = tt

  operate-only : (o : Operation) (vs : List Value) (h : Here Value) (st : Stores) → RunsOnlyBlocks (operate program o vs h st)
  operate-only (T.call rs) [] h st = tt
  operate-only (T.call rs) (f ∷ vs) h st = call-only rs f vs h st
  operate-only (T.function b xs) vs h st = answered (allot (function_object b h.block.hidden xs vs) st.world.heap) st
  operate-only (T.class b) vs h st = make-class-only program b vs h st
  operate-only (T.get x) [] h st = tt
  operate-only (T.get x) (v ∷ []) h st = attribute-only program x v (attribute_of st.world.heap v x) h st
  operate-only (T.get x) (v ∷ u ∷ vs) h st = tt
  operate-only (T.import x) [] h st = import-only x h st
  operate-only (T.import x) (v ∷ vs) h st = tt
  operate-only (T.import_name x) [] h st = tt
  operate-only (T.import_name x) (m ∷ []) h st = imported-only program x m (attribute_of st.world.heap m x) h st
  operate-only (T.import_name x) (m ∷ u ∷ vs) h st = tt
  operate-only o vs h st = operation-only (operation_of o) vs h st

  seeks-only : (a : Seek Value) (h : Here Value) (st : Stores) → RunsOnlyBlocks (seeks program a h st)
  seeks-only (T.const k) h st = tt
  seeks-only (T.load x) h st = load-only (readable_value h.block.hidden x.scope x.name st) x.scope x.name h st
  seeks-only (T.operate o vs) h st = operate-only o vs h st
  seeks-only (T.cell_of x) h st = tt
  seeks-only (T.yielding v) h st = tt

  found-only : (o : Option Found) (v : Value) (vs : List Value) (otherwise : Tree Value) (h : Here Value) (st : Stores) → RunsOnlyBlocks otherwise
      → RunsOnlyBlocks (call_found program o v vs otherwise h st)
  found-only (Some (found.Bound f)) v vs otherwise h st k = function-at-only program (object_of st.world.heap f) (record { plain = v ∷ vs; named = [] }) h st
  found-only (Some (found.Plain u)) v vs otherwise h st k = tt
  found-only (Some found.Unbuilt) v vs otherwise h st k = tt
  found-only None v vs otherwise h st k = k

  -- what changes an object
  changed-by-only : (o : Option Found) (v : Value) (vs : List Value) (otherwise : Tree (Unit {0})) (h : Here Value) (st : Stores) → RunsOnlyBlocks otherwise
      → RunsOnlyBlocks (changed_by program o v vs otherwise h st)
  changed-by-only (Some m) v vs otherwise h st k =
      then-only (call_found program (Some m) v vs (leave Feature) h st) (λ r st1. answer tt st1) (found-only (Some m) v vs (leave Feature) h st tt) (λ r st1. tt)
  changed-by-only None v vs otherwise h st k = k

  change-or-only : (v : Value) (rest : List Value) (o : Op) (vs : List Value) (h : Here Value) (st : Stores) → RunsOnlyBlocks (change_or program v rest o vs h st)
  change-or-only v rest o vs h st =
      changed-by-only (named_method st.world.heap (special_name o) v) v rest (operated program done o vs h st) h st (operated-only program done o vs h st)

  change-by-only : (o : Op) (vs : List Value) (h : Here Value) (st : Stores) → RunsOnlyBlocks (change_by program o vs h st)
  change-by-only op.SetItem (v ∷ a ∷ i ∷ []) h st = change-or-only a (i ∷ v ∷ []) op.SetItem (v ∷ a ∷ i ∷ []) h st
  change-by-only op.DelItem (a ∷ i ∷ []) h st = change-or-only a (i ∷ []) op.DelItem (a ∷ i ∷ []) h st
  change-by-only o vs h st = operated-only program done o vs h st

  change-only : (o : Option (Op × List Value)) (h : Here Value) (st : Stores) → RunsOnlyBlocks (by_change program o h st)
  change-only (Some p) h st = change-by-only p.0 p.1 h st
  change-only None h st = tt

  -- context managers
  entered-only : (m : Manager) (v : Value) (h : Here Value) (st : Stores) → RunsOnlyBlocks (entered program m v h st)
  entered-only (Methods e f) v h st =
      then-only (answer_with (allot (bound_object f v) st.world.heap) st)
      (λ w st1. then_with (call_found program (Some e) v [] (leave Feature) h st1) (λ given st2. answer (w, given) st2)) (answered (allot (bound_object f v) st.world.heap) st)
      (λ w st1. then-only (call_found program (Some e) v [] (leave Feature) h st1) (λ given st2. answer (w, given) st2)
      (found-only (Some e) v [] (leave Feature) h st1 tt) (λ given st2. tt))
  entered-only NoEnter v h st = missing-only (Value × Value) (codes "__enter__") v h st
  entered-only NoExit v h st = missing-only (Value × Value) (codes "__exit__") v h st
  entered-only NoCall v h st = tt

  exit-called-only : (o : Option Method) (vs : List Value) (h : Here Value) (st : Stores) → RunsOnlyBlocks (call_exit program o vs h st)
  exit-called-only (Some m) vs h st =
      let args : Args = record { plain = m.receiver ∷ vs; named = [] } in
      either-tree (takes_arguments program (object_of st.world.heap m.function) args)
      (call_function_at program (object_of st.world.heap m.function) args h st) (leave Feature)
      (function-at-only program (object_of st.world.heap m.function) args h st) tt
  exit-called-only None vs h st = tt

  swallows-only : (o : Option Value) (v : Value) (h : Here Value) (st : Stores) → RunsOnlyBlocks (swallows o v h st)
  swallows-only (Some e) v h st = asked-only a_truth op.Truth (v ∷ []) h st
  swallows-only None v h st = tt

  exit-only : (w : Value) (o : Option Value) (h : Here Value) (st : Stores) → RunsOnlyBlocks (exit program w o h st)
  exit-only w o h st =
      then-only (call_exit program (bound_of st.world.heap w) (exit_arguments st.world.heap o) h st) (λ v st1. swallows o v h st1)
      (exit-called-only (bound_of st.world.heap w) (exit_arguments st.world.heap o) h st) (λ v st1. swallows-only o v h st1)

  deeds-only : (d : Deed Value) (h : Here Value) (st : Stores) → RunsOnlyBlocks (deeds program d h st)
  deeds-only (T.delete x) h st = delete-only (variable_value x.scope x.name st) x.scope x.name h st
  deeds-only (T.store x v) h st = either-tree (is_no_method x.scope x.name) (leave Special) (answer tt (put x.scope x.name (Some v) st)) tt tt
  deeds-only (T.set_attribute x a v) h st = set-only x a v h st
  deeds-only (T.delete_attribute x a) h st = unset-only x a h st
  deeds-only (T.discard v) h st = tt
  deeds-only (T.fresh x) h st = tt
  deeds-only T.nothing h st = tt
  deeds-only d h st = change-only (change_of d) h st

  pub opens_only : OpensOnly (heap_host program)
  opens_only (T.seek a) h st = seeks-only a h st
  opens_only (T.deed d) h st = deeds-only d h st
  opens_only (T.leave l) h st = tt
  opens_only (T.throw t) h st = throws-only ⊥ h st t
  opens_only (T.test (T.matches e c)) h st = matches-only e c h st
  opens_only (T.test (T.branch v)) h st = operated-only program a_truth op.Truth (v ∷ []) h st
  opens_only (T.test (T.exit_of w o)) h st = exit-only w o h st
  opens_only (T.iter_of v) h st = prim-or-helper-only program op.Iter (v ∷ []) h st
  opens_only (T.next_of i) h st =
      next-by-only program (prim_answer op.Next (i ∷ []) st.world.heap) h (with_objects (prim_heap op.Next (i ∷ []) st.world.heap) st)
  opens_only (T.enter v) h st = entered-only (manager_of st.world.heap v) v h st
  opens_only (T.unpack v n star) h st =
      unpacked-by-only program n star (prim_answer (unpacking n star) (v ∷ []) st.world.heap) h
      (with_objects (prim_heap (unpacking n star) (v ∷ []) st.world.heap) st)
  opens_only (T.delegate i r) h st = tt
