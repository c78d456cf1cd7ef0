-- What an attribute of a value is (Language Reference 3.2.8.2, 3.3.2; Library Reference, `super`).
use Rattle.std.specs.Prelude.{◌≡◌, ℕ, Bool, true, false, List, Option, None, Some, Result, Ok, Err, slice_get, if◌then◌else◌}
use Rattle.pt_base.specs.declared.numbers.ObjId.{ObjId}
use Rattle.pt_base.specs.declared.failure.Failure.{Failure}
use Rattle.pt_base.specs.declared.failure.Failure.TheVariants.{Refused, Memory}
use Rattle.pt_heap.specs.declared.value.Value.{Value}
use Rattle.pt_heap.specs.declared.value.Value.TheVariants as value
use Rattle.pt_heap.specs.declared.object.Object.{Object}
use Rattle.pt_heap.specs.declared.object.Object.TheVariants as object
use Rattle.pt_heap.specs.declared.object.Class.{Class as ClassObject}
use Rattle.pt_heap.specs.Entries.{found}
use Rattle.pt_dicts.specs.Chain.{class_in, class_value}
use Rattle.pt_dicts.specs.Keys.{name_codes}
use Rattle.pt_attrs.specs.declared.look.Found.{Found}
use Rattle.pt_attrs.specs.declared.look.Found.TheVariants.{Plain, Bound, Unbuilt}
use Rattle.pt_attrs.specs.declared.look.NoAttr.{NoAttr}
use Rattle.pt_attrs.specs.Unbuilt.{is_unbuilt}

-- the object that a value is
abbrev pub object_of : List Object → Value → Option Object
object_of h (value.Obj id) = slice_get h id.0
object_of h _ = None

abbrev pub is_function_object : Option Object → Bool
is_function_object (Some (object.Function f)) = true
is_function_object _ = false

-- a function of a class is a method of its instances
abbrev pub as_method : List Object → Option Value → Option Found
as_method h None = None
as_method h (Some v) = if is_function_object (object_of h v) then Some (Bound v) else Some (Plain v)

abbrev pub as_found : Option Value → Option Found
as_found None = None
as_found (Some v) = Some (Plain v)

-- a name of its own, else one of its class and the bases of that
abbrev pub own_or : (own : Option Value) → (inherited : Option Found) → Option Found
own_or (Some v) inherited = Some (Plain v)
own_or None inherited = inherited

abbrev pub from_base : List Object → (key : List ℕ) → Option ObjId → Option Found
from_base h key None = None
from_base h key (Some base) = as_method h (class_value h key base)

abbrev pub above : List Object → (key : List ℕ) → Option ClassObject → Option Found
above h key None = None
above h key (Some c) = from_base h key c.base

-- what the bases of a class have
abbrev pub super_found : List Object → (key : List ℕ) → (class : ObjId) → Option Found
super_found h key class = above h key (class_in (slice_get h class.0))

abbrev pub object_found : List Object → (key : List ℕ) → ObjId → Option Object → Option Found
object_found h key id (Some (object.Class c)) = as_found (class_value h key id)
object_found h key id (Some (object.Instance x)) = own_or (found key x.names) (as_method h (class_value h key x.class))
object_found h key id (Some (object.Error x)) = own_or (found key x.names) (as_method h (class_value h key x.class))
object_found h key id (Some (object.Super s)) = super_found h key s.class
object_found h key id _ = None

abbrev pub value_found : List Object → (key : List ℕ) → Value → Option Found
value_found h key (value.Obj id) = object_found h key id (slice_get h id.0)
value_found h key _ = None

-- an attribute; what a run does not have comes first
abbrev pub looked_up : List Object → Value → (name : List ℕ) → Option Found
looked_up h v name = if is_unbuilt (object_of h v) name then Some Unbuilt else value_found h (name_codes name) v

-- the same in the bases of a class
abbrev pub looked_up_above : List Object → (class : ObjId) → (name : List ℕ) → Option Found
looked_up_above h class name = if is_unbuilt None name then Some Unbuilt else super_found h (name_codes name) class

-- what is answered is this, unless memory ran out
abbrev pub Answers : Result Found (Failure NoAttr) → Option Found → Type 0
Answers (Ok f) wanted = wanted ≡ Some f
Answers (Err Memory) wanted = Unit {0}
Answers (Err (Refused e)) wanted = wanted ≡ None
