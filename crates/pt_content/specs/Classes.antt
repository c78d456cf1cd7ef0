-- The names of the classes of values (Library Reference, "Built-in Types", `types`), and the places of the exceptions that
-- operations raise.
use Rattle.std.specs.Prelude.{ℕ, Bool, true, false, List, [], Option, Some, None, codes, slice_get}
use Rattle.pt_base.specs.declared.numbers.ObjId.{ObjId}
use Rattle.pt_heap.specs.declared.value.Value.{Value}
use Rattle.pt_heap.specs.declared.value.Value.TheVariants as value
use Rattle.pt_heap.specs.declared.object.Object.{Object}
use Rattle.pt_heap.specs.declared.object.Object.TheVariants as object
use Rattle.pt_heap.specs.declared.object.Class.{Class as ClassObject}
use Rattle.pt_heap.specs.declared.object.Part.{Part}
use Rattle.pt_heap.specs.declared.object.Part.TheVariants.{Keys, Values, Items}
use Rattle.pt_attrs.specs.pt_dicts.Chain.{class_in}

abbrev pub name_in : Option ClassObject → List ℕ
name_in (Some c) = c.name
name_in None = []

-- the name of the class that stands at a place
abbrev pub name_at : List Object → (class : ObjId) → List ℕ
name_at h id = name_in (class_in (slice_get h id.0))

abbrev pub view_name : Part → List ℕ
view_name Keys = codes "dict_keys"
view_name Values = codes "dict_values"
view_name Items = codes "dict_items"

-- a function that is written in Python is a builtin one
abbrev pub function_class : (hidden : Bool) → List ℕ
function_class true = codes "builtin_function_or_method"
function_class false = codes "function"

abbrev pub object_class : List Object → Option Object → List ℕ
object_class h (Some (object.Str t)) = codes "str"
object_class h (Some (object.List vs)) = codes "list"
object_class h (Some (object.Tuple vs)) = codes "tuple"
object_class h (Some (object.Dict d)) = codes "dict"
object_class h (Some (object.Set d)) = codes "set"
object_class h (Some (object.Range r)) = codes "range"
object_class h (Some (object.Slice s)) = codes "slice"
object_class h (Some (object.Cursor c)) = codes "iterator"
object_class h (Some (object.View v)) = view_name v.part
object_class h (Some (object.Function f)) = function_class f.hidden
object_class h (Some (object.Method m)) = codes "method"
object_class h (Some (object.Builtin b)) = codes "builtin_function_or_method"
object_class h (Some (object.Class c)) = codes "type"
object_class h (Some (object.Instance x)) = name_at h x.class
object_class h (Some (object.Error x)) = name_at h x.class
object_class h (Some (object.Generator n)) = codes "generator"
object_class h (Some (object.Frame f)) = codes "frame"
object_class h (Some (object.CodeRef b g)) = codes "code"
object_class h (Some (object.Module m)) = codes "module"
object_class h (Some (object.Super s)) = codes "super"
object_class h None = []

abbrev pub class_name : List Object → Value → List ℕ
class_name h value.None = codes "NoneType"
class_name h (value.Bool b) = codes "bool"
class_name h (value.Int z) = codes "int"
class_name h value.Ellipsis = codes "ellipsis"
class_name h value.NotImplemented = codes "NotImplementedType"
class_name h (value.Obj id) = object_class h (slice_get h id.0)
