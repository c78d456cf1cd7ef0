-- What the functions that are written in Python ask of instances: their special methods, and whether a value is an exception or holds instances
-- (Language Reference 3.3).
use Rattle.std.specs.Prelude.{Bool, true, false, ◌&&◌, ℕ, List, [], ◌∷◌, Option, Some, None, is_some, if◌then◌else◌}
use Rattle.pt_base.specs.declared.numbers.ObjId.{ObjId}
use Rattle.pt_base.specs.declared.what.What.TheVariants.{Feature}
use Rattle.pt_heap.specs.declared.value.Value.{Value}
use Rattle.pt_heap.specs.declared.value.Value.TheVariants as value
use Rattle.pt_heap.specs.declared.object.Object.{Object}
use Rattle.pt_heap.specs.declared.object.Object.TheVariants as object
use Rattle.pt_content.specs.pt_attrs.Look.{as_method, object_of}
use Rattle.pt_content.specs.pt_attrs.declared.look.Found.{Found}
use Rattle.pt_content.specs.pt_attrs.declared.look.Found.TheVariants as found
use Rattle.pt_content.specs.pt_attrs.pt_dicts.Chain.{class_value}
use Rattle.pt_content.specs.pt_attrs.pt_dicts.Keys.{name_codes}
use Rattle.pt_content.specs.declared.content.Content.{Content}
use Rattle.pt_content.specs.declared.content.Content.TheVariants as content
use Rattle.pt_content.specs.declared.content.NewObject.TheVariants as new
use Rattle.pt_content.specs.Operands.{operand_of, text_of}
use Rattle.pt_reprs.specs.Marks.{is_container}
use Rattle.pt_reprs.specs.Reached.{is_instance, needs_help}

-- the class whose names are asked of an object
abbrev pub class_asked : Option Object → Option ObjId
class_asked (Some (object.Instance x)) = Some x.class
class_asked (Some (object.Error x)) = Some x.class
class_asked o = None

-- the method of a name that an instance of a script's class has (3.3.1)
abbrev pub method_in : List Object → (name : List ℕ) → Option ObjId → Option Found
method_in h name (Some class) = as_method h (class_value h (name_codes name) class)
method_in h name None = None

abbrev pub method_of : List Object → Value → (name : List ℕ) → Option Found
method_of h a name = if is_instance (operand_of h a) then method_in h name (class_asked (object_of h a)) else None

abbrev pub has_name_by : List Object → Value → (name : Option (List ℕ)) → Content
has_name_by h a (Some name) = content.Value (value.Bool (is_some (method_of h a name)))
has_name_by h a None = content.Outside Feature

abbrev pub has_name : List Value → List Object → Content
has_name (a ∷ name ∷ []) h = has_name_by h a (text_of h name)
has_name vs h = content.Outside Feature

-- a method is bound to its instance
abbrev pub bound_to : (receiver : Value) → Option Found → Content
bound_to a (Some (found.Bound f)) = content.New (new.Method (record { function = f; receiver = a }))
bound_to a (Some (found.Plain v)) = content.Value v
bound_to a o = content.Outside Feature

abbrev pub get_name_by : List Object → Value → (name : Option (List ℕ)) → Content
get_name_by h a (Some name) = bound_to a (method_of h a name)
get_name_by h a None = content.Outside Feature

abbrev pub get_name : List Value → List Object → Content
get_name (a ∷ name ∷ []) h = get_name_by h a (text_of h name)
get_name vs h = content.Outside Feature

abbrev pub is_error : Option Object → Bool
is_error (Some (object.Error x)) = true
is_error o = false

-- a container, view or exception from which an instance of a script's class is reached
abbrev pub holds_instance : List Object → Value → Bool
holds_instance h a = is_container (object_of h a) && needs_help h a
