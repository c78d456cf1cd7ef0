-- What `raise` and `assert` raise, and which exceptions a handler takes (Language Reference 7.3, 7.8,
-- 8.4.1).
use Rattle.std.specs.Prelude.{ℕ, Bool, true, false, List, [], ◌∷◌, Option, Some, None, codes}
use Rattle.std.specs.Prelude.{slice_get, slice_set, if◌then◌else◌}
use Rattle.std.specs.List.{list_all, list_any}
use Rattle.pt_base.specs.declared.numbers.ObjId.{ObjId}
use Rattle.pt_base.specs.declared.what.What.TheVariants.{Feature}
use Rattle.pt_heap.specs.declared.value.Value.{Value}
use Rattle.pt_heap.specs.declared.value.Value.TheVariants as value
use Rattle.pt_heap.specs.declared.object.Error.{Error as ErrorObject}
use Rattle.pt_heap.specs.declared.object.Object.{Object}
use Rattle.pt_heap.specs.declared.object.Object.TheVariants as object
use Rattle.pt_content.specs.pt_attrs.Look.{object_of}
use Rattle.pt_content.specs.pt_attrs.declared.look.Found.{Found}
use Rattle.pt_host.specs.Calls.{initializer}
use Rattle.sem_control.specs.control.Turn as T
use Rattle.sem_control.specs.control.Turn.{Throw}
use Rattle.sem_run.specs.run.Host.{Here, Made, made, beyond, answer, raise, leave}
use Rattle.pt_host.specs.declared.raising.Raisable.{Raisable}
use Rattle.pt_host.specs.declared.raising.Raisable.TheVariants.{Exception, Class, Neither}
use Rattle.pt_host.specs.declared.places.TheConstants.{ASSERTION_ERROR, BASE_EXCEPTION}
use Rattle.pt_host.specs.declared.places.TheConstants.{RUNTIME_ERROR, TYPE_ERROR}
use Rattle.pt_host.specs.World.{Stores, Allotted, allot, with_objects}
use Rattle.pt_host.specs.Trees.{Tree}
use Rattle.pt_host.specs.Errors.{arise_while, error, object_place, raise_error, raise_saying}
use Rattle.pt_prims.specs.Classes.{derives}
use Rattle.pt_host.specs.Leaving.{error_at, is_error_of}
use Rattle.pt_host.specs.Primitives.{arguments_of}

-- what a value is where an exception is asked for
abbrev pub object_raisable : List Object → ObjId → Option Object → Raisable
object_raisable h id (Some (object.Error x)) = Exception id
object_raisable h id (Some (object.Class c)) =
    if derives h BASE_EXCEPTION id then Class id c.scripted else Neither
object_raisable h id o = Neither

abbrev pub raisable : List Object → Value → Raisable
raisable h (value.Obj id) = object_raisable h id (slice_get h id.0)
raisable h v = Neither

-- the exception that it stands for, if it stands for one, and the heap then: a class is called
-- without arguments. That calls no `__init__` yet
abbrev pub Standing : Type 0
Standing = Made (Option ObjId) (List Object)

abbrev pub as_standing : Allotted → Standing
as_standing (made v h) = made (object_place (Some v)) h
as_standing (beyond what) = beyond what

abbrev pub is_found : Option Found → Bool
is_found (Some f) = true
is_found None = false

abbrev pub standing : Raisable → List Object → Standing
standing (Exception id) h = made (Some id) h
standing (Class id false) h = as_standing (allot (error id [] None None) h)
standing (Class id true) h =
    if is_found (initializer h id) then beyond Feature else as_standing (allot (error id [] None None) h)
standing Neither h = made None h

-- an exception arises in the context of the one that is active
abbrev pub raise_object : {A : Type 0} → ObjId → List Object → Here Value → Stores → Tree A
raise_object id k h st =
    raise (value.Obj id) (with_objects (arise_while (object_place h.active) id k) st)

abbrev pub raise_neither : {A : Type 0} → List Object → Here Value → Stores → Tree A
raise_neither k h st =
    raise_saying TYPE_ERROR (codes "exceptions must derive from BaseException") h
    (with_objects k st)

-- `from` gives it a cause, or None in place of one; either hides the context
abbrev pub with_cause : (cause : Option ObjId) → (id : ObjId) → Option Object → List Object →
    List Object
with_cause c id (Some (object.Error x)) h =
    slice_set h id.0 (object.Error (record x { cause = c; hides_context = true }))
with_cause c id o h = h

abbrev pub raise_caused : {A : Type 0} → (cause : Option ObjId) → ObjId → List Object →
    Here Value → Stores → Tree A
raise_caused c id k h st = raise_object id (with_cause c id (slice_get k id.0) k) h st

abbrev pub raise_from : {A : Type 0} → ObjId → (cause : Standing) → Here Value → Stores → Tree A
raise_from id (made (Some c) k) h st = raise_caused (Some c) id k h st
raise_from id (made None k) h st = raise_neither k h st
raise_from id (beyond what) h st = leave what

abbrev pub raise_with_cause : {A : Type 0} → ObjId → (cause : Option Value) → List Object →
    Here Value → Stores → Tree A
raise_with_cause id None k h st = raise_object id k h st
raise_with_cause id (Some value.None) k h st = raise_caused None id k h st
raise_with_cause id (Some c) k h st = raise_from id (standing (raisable k c) k) h st

abbrev pub raise_standing : {A : Type 0} → Standing → (cause : Option Value) → Here Value →
    Stores → Tree A
raise_standing (made (Some id) k) c h st = raise_with_cause id c k h st
raise_standing (made None k) c h st = raise_neither k h st
raise_standing (beyond what) c h st = leave what

-- `raise` alone
abbrev pub raise_active : {A : Type 0} → (active : Option Value) → Here Value → Stores → Tree A
raise_active (Some v) h st = raise v st
raise_active None h st = raise_saying RUNTIME_ERROR (codes "no active exception") h st

abbrev pub throws : {A : Type 0} → Throw Value → Here Value → Stores → Tree A
throws (T.raising v c) h st =
    raise_standing (standing (raisable st.world.heap v) st.world.heap) c h st
throws T.raising_again h st = raise_active h.active h st
throws (T.failing m) h st = raise_error ASSERTION_ERROR (arguments_of m) h st

-- the classes that a handler names: one, or those of a tuple
abbrev pub handler_classes : Value → Option Object → List Value
handler_classes v (Some (object.Tuple vs)) = vs
handler_classes v o = v ∷ []

abbrev pub is_class : List Object → ObjId → Option Object → Bool
is_class h id (Some (object.Class c)) = derives h BASE_EXCEPTION id
is_class h id o = false

abbrev pub is_exception_class : List Object → Value → Bool
is_exception_class h (value.Obj id) = is_class h id (slice_get h id.0)
is_exception_class h v = false

abbrev pub is_of_class : List Object → Option ErrorObject → Value → Bool
is_of_class h x (value.Obj id) = is_error_of h id x
is_of_class h x v = false

-- all of them are classes of exceptions, or the handler fails
abbrev pub is_taken : (exception : Value) → List Value → Here Value → Stores → Tree Bool
is_taken e cs h st =
    if list_all (is_exception_class st.world.heap) cs
    then answer (list_any (is_of_class st.world.heap (error_at st.world.heap e)) cs) st
    else raise_saying TYPE_ERROR (codes "bad argument") h st

-- a handler without a class takes each exception
abbrev pub matches : (exception class : Value) → Here Value → Stores → Tree Bool
matches e value.None h st = answer true st
matches e c h st = is_taken e (handler_classes c (object_of st.world.heap c)) h st
