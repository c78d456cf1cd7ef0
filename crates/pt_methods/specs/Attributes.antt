-- What an attribute of a value is (Language Reference 6.3.1; Library Reference, "Built-in Types", "Special Attributes").
use Rattle.std.specs.Prelude.{ℕ, Bool, true, false, List, [], ◌∷◌, Option, Some, None, codes, if◌then◌else◌}
use Rattle.std.specs.Str.{bytes_eq}
use Rattle.pt_base.specs.declared.numbers.ObjId.{ObjId}
use Rattle.pt_heap.specs.declared.value.Value.{Value}
use Rattle.pt_heap.specs.declared.value.Value.TheVariants as value
use Rattle.pt_heap.specs.declared.value.Value.TheVariants.{Obj}
use Rattle.pt_heap.specs.declared.object.Module.TheVariants.{Sys}
use Rattle.pt_heap.specs.declared.object.Object.{Object}
use Rattle.pt_heap.specs.declared.object.Object.TheVariants as object
use Rattle.pt_content.specs.pt_attrs.Look.{looked_up, object_of}
use Rattle.pt_content.specs.pt_attrs.Unbuilt.{is_listed}
use Rattle.pt_content.specs.pt_attrs.declared.look.Found.{Found}
use Rattle.pt_content.specs.pt_attrs.declared.look.Found.TheVariants as found
use Rattle.pt_content.specs.declared.method_name.MethodName.{MethodName}
use Rattle.pt_methods.specs.declared.attribute.Attribute.{Attribute}
use Rattle.pt_methods.specs.declared.attribute.Attribute.TheVariants.{Method, Held, Bound, NameOf, Arguments, Missing, Unbuilt}
use Rattle.pt_methods.specs.declared.attribute.TheConstants.{EXIT}
use Rattle.pt_methods.specs.Names.{listed}

-- code of functions, methods of generators, and what frames, code and modules of hooks have, aren't there yet
abbrev pub is_later : (name : List ℕ) → Option Object → Bool
is_later name (Some (object.Function f)) = bytes_eq name (codes "__code__")
is_later name (Some (object.Generator n)) =
    is_listed name (codes "send" ∷ codes "throw" ∷ codes "close" ∷ codes "__next__" ∷ codes "__iter__" ∷ [])
is_later name (Some (object.Frame f)) = true
is_later name (Some (object.CodeRef b g)) = true
is_later name (Some (object.Module Sys)) =
    is_listed name (codes "settrace" ∷ codes "gettrace" ∷ codes "_getframe" ∷ codes "monitoring" ∷ [])
is_later name (Some (object.Module m)) = true
is_later name o = false

abbrev pub object_or_none : Option ObjId → Value
object_or_none (Some id) = Obj id
object_or_none None = value.None

-- a function that is written in Python has no name of its own, as other builtin functions have none
abbrev pub function_name : (hidden : Bool) → Attribute
function_name true = Missing
function_name false = NameOf

-- the name of a function or a class (3.2.8.1, 3.2.10), and what an exception (Library Reference, "Built-in Exceptions") or a module (`sys`) holds
abbrev pub held_attribute : (name : List ℕ) → Option Object → Attribute
held_attribute name (Some (object.Error x)) =
    if bytes_eq name (codes "__cause__") then Held (object_or_none x.cause)
    else (if bytes_eq name (codes "__context__") then Held (object_or_none x.context) else (if bytes_eq name (codes "args") then Arguments else Missing))
held_attribute name (Some (object.Function f)) = if bytes_eq name (codes "__name__") then function_name f.hidden else Missing
held_attribute name (Some (object.Class c)) = if bytes_eq name (codes "__name__") then NameOf else Missing
held_attribute name (Some (object.Module Sys)) = if bytes_eq name (codes "exit") then Held (Obj EXIT) else Missing
held_attribute name o = Missing

abbrev pub own_attribute : (name : List ℕ) → Option Object → Option MethodName → Attribute
own_attribute name o (Some m) = Method m
own_attribute name o None = if is_later name o then Unbuilt else held_attribute name o

-- a function that `super` finds for a class stays what it is, as that of any attribute of a class does
abbrev pub is_class_object : Option Object → Bool
is_class_object (Some (object.Class c)) = true
is_class_object o = false

abbrev pub is_for_class : List Object → Option Object → Bool
is_for_class h (Some (object.Super s)) = is_class_object (object_of h s.receiver)
is_for_class h o = false

abbrev pub bound_unless : (for_class : Bool) → (function : Value) → Attribute
bound_unless true f = Held f
bound_unless false f = Bound f

-- what a value holds, or its class and the bases of that, comes before what the values of a builtin class have
abbrev pub attribute_by : List Object → (name : List ℕ) → Option Object → Option Found → Attribute
attribute_by h name o (Some (found.Plain v)) = Held v
attribute_by h name o (Some (found.Bound f)) = bound_unless (is_for_class h o) f
attribute_by h name o (Some found.Unbuilt) = Unbuilt
attribute_by h name o None = own_attribute name o (listed name o)

-- `a.name`
abbrev pub attribute_of : List Object → Value → (name : List ℕ) → Attribute
attribute_of h v name = attribute_by h name (object_of h v) (looked_up h v name)

-- what a function is bound to that is a method of a value (3.2.8.2): the value, or the instance that `super` is for
abbrev pub receiver_by : Value → Option Object → Value
receiver_by v (Some (object.Super s)) = s.receiver
receiver_by v o = v

abbrev pub receiver_of : List Object → Value → Value
receiver_of h v = receiver_by v (object_of h v)
