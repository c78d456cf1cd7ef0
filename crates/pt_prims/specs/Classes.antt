-- Of which classes a value is (Language Reference 3.3.2; Library Reference, `isinstance`, `issubclass`).
use Rattle.std.specs.Prelude.{ℕ, zero, suc, ◌+◌, ◌==◌, Bool, true, false, ◌||◌, List, [], ◌∷◌, Option, Some, None, codes, slice_get, if◌then◌else◌}
use Rattle.pt_base.specs.declared.numbers.ObjId.{ObjId}
use Rattle.pt_heap.specs.declared.value.Value.{Value}
use Rattle.pt_heap.specs.declared.value.Value.TheVariants as value
use Rattle.pt_heap.specs.declared.object.Class.{Class as ClassObject}
use Rattle.pt_heap.specs.declared.object.Object.{Object}
use Rattle.pt_heap.specs.declared.object.Object.TheVariants as object
use Rattle.pt_content.specs.pt_attrs.Look.{object_of}
use Rattle.pt_content.specs.pt_attrs.pt_dicts.Chain.{class_in}
use Rattle.pt_content.specs.declared.class.TheConstants.{RECURSION_ERROR, TYPE_ERROR}
use Rattle.pt_content.specs.declared.content.Content.{Content}
use Rattle.pt_content.specs.declared.content.Content.TheVariants as content
use Rattle.pt_content.specs.TypeErrors.{bad_argument}
use Rattle.pt_methods.specs.pt_comparisons.Truths.{truth_value}
use Rattle.pt_methods.specs.pt_reprs.Reprs.{depth_limit}
use Rattle.pt_prims.specs.declared.classes.Kinship.{Kinship}
use Rattle.pt_prims.specs.declared.classes.Kinship.TheVariants.{Told, Deep, NoClass}

-- a class is another one or has it among its bases, of at most so many
abbrev pub base_of : Option ClassObject → Option ObjId
base_of (Some c) = c.base
base_of None = None

abbrev pub or_base : (ℕ → Bool) → Option ObjId → Bool
or_base above (Some id) = above id.0
or_base above None = false

abbrev pub derives_within : List Object → (most : ℕ) → (from place : ℕ) → Bool
derives_within h zero from p = false
derives_within h (suc most) from p =
    (p == from) || or_base (derives_within h most from) (base_of (class_in (slice_get h p)))

-- a base stands before its class, so a class has no more bases than its place says
abbrev pub derives : List Object → (from class : ObjId) → Bool
derives h from class = derives_within h (class.0 + 1) from.0 class.0

abbrev pub is_class_object : Option Object → Bool
is_class_object (Some (object.Class c)) = true
is_class_object o = false

abbrev pub is_class : List Object → Value → Bool
is_class h v = is_class_object (object_of h v)

abbrev pub is_of : List Object → (class from : Value) → Bool
is_of h (value.Obj class) (value.Obj from) = derives h from class
is_of h class from = false

abbrev pub or_of_next : Kinship → Kinship → Kinship
or_of_next (Told false) next = next
or_of_next found next = found

-- from left to right, up to the first that a class is of or that is no class
abbrev pub kinship_of_any : (Value → Kinship) → List Value → Kinship
kinship_of_any one [] = Told false
kinship_of_any one (v ∷ vs) = or_of_next (one v) (kinship_of_any one vs)

-- whether a class is of another one, or of one in a tuple of these
abbrev pub kinship_by : (List Value → Kinship) → List Object → (class : Value) → Value → Option Object → Kinship
kinship_by tuple h class v (Some (object.Tuple vs)) = tuple vs
kinship_by tuple h class v (Some (object.Class c)) = Told (is_of h class v)
kinship_by tuple h class v o = NoClass

abbrev pub kinship_of : (List Value → Kinship) → List Object → (class : Value) → Value → Kinship
kinship_of tuple h class v = kinship_by tuple h class v (object_of h v)

-- so many tuples may stand inside one another, that of these values among them
unfoldable pub tuple_kinship : List Object → (depth : ℕ) → (class : Value) → List Value → Kinship
tuple_kinship h zero class vs = Deep
tuple_kinship h (suc depth) class vs = kinship_of_any (kinship_of (tuple_kinship h depth class) h class) vs

abbrev pub kinship_answer : Kinship → Content
kinship_answer (Told b) = truth_value b
kinship_answer Deep = content.Raise RECURSION_ERROR (codes "too many activations")
kinship_answer NoClass = bad_argument TYPE_ERROR

-- `isinstance` of a value of this class
abbrev pub is_of_classes : List Object → (class : Value) → (classes : Value) → Content
is_of_classes h class v = kinship_answer (kinship_of (tuple_kinship h depth_limit class) h class v)

-- `issubclass`
abbrev pub subclass_by : List Object → (class classes : Value) → Content
subclass_by h class v = if is_class h class then is_of_classes h class v else bad_argument TYPE_ERROR
