-- Attributes that are asked for by a text (Library Reference, "Built-in Functions", `hasattr`, `getattr`).
use Rattle.std.specs.Prelude.{ℕ, true, false, List, [], ◌∷◌, Option, Some, None, codes}
use Rattle.pt_base.specs.declared.what.What.TheVariants.{Feature}
use Rattle.pt_heap.specs.declared.value.Value.{Value}
use Rattle.pt_heap.specs.declared.object.Object.{Object}
use Rattle.pt_heap.specs.declared.object.Object.TheVariants as object
use Rattle.pt_content.specs.declared.class.TheConstants.{TYPE_ERROR}
use Rattle.pt_content.specs.declared.content.Content.{Content}
use Rattle.pt_content.specs.declared.content.Content.TheVariants as content
use Rattle.pt_content.specs.declared.content.NewObject.TheVariants as new
use Rattle.pt_content.specs.pt_attrs.Look.{object_of}
use Rattle.pt_content.specs.declared.method_name.MethodName.{MethodName}
use Rattle.pt_content.specs.Classes.{class_name}
use Rattle.pt_content.specs.Operands.{text_of}
use Rattle.pt_content.specs.TypeErrors.{bad_argument, sentence}
use Rattle.pt_methods.specs.declared.attribute.Attribute.{Attribute}
use Rattle.pt_methods.specs.declared.attribute.Attribute.TheVariants.{Held, Method, Bound, NameOf, Arguments, Missing, Unbuilt}
use Rattle.pt_methods.specs.Attributes.{attribute_of, receiver_of}
use Rattle.pt_methods.specs.Names.{method_number}
use Rattle.pt_methods.specs.pt_comparisons.Truths.{truth_value}
use Rattle.pt_methods.specs.pt_reprs.Texts.{new_text}
use Rattle.pt_methods.specs.pt_sequences.Displays.{tuple_content}
use Rattle.pt_prims.specs.declared.attribute_calls.TheConstants.{ATTRIBUTE_ERROR}

abbrev pub has : Attribute → Content
has (Method m) = truth_value true
has (Held v) = truth_value true
has (Bound f) = truth_value true
has NameOf = truth_value true
has Arguments = truth_value true
has Missing = truth_value false
has Unbuilt = content.Outside Feature

-- `hasattr`
abbrev pub has_attribute : List Object → Value → (name : Option (List ℕ)) → Content
has_attribute h v (Some name) = has (attribute_of h v name)
has_attribute h v None = bad_argument TYPE_ERROR

-- a value has no attribute of this name
abbrev pub attribute_error : List Object → Value → (name : List ℕ) → Content
attribute_error h v name = content.Raise ATTRIBUTE_ERROR (sentence (codes "'" ∷ class_name h v ∷ codes "' object has no attribute '" ∷ name ∷ codes "'" ∷ []))

abbrev pub method_by : (function receiver : Value) → Content
method_by f r = content.New (new.Method (record { function = f; receiver = r }))

-- the name of a class; that of a function isn't known here
abbrev pub name_by : Option Object → Content
name_by (Some (object.Class c)) = new_text c.name
name_by o = content.Outside Feature

abbrev pub arguments_by : Option Object → Content
arguments_by (Some (object.Error x)) = tuple_content x.args
arguments_by o = content.Outside Feature

-- a method of a builtin value is bound to it, and is a new object each time (Language Reference 3.2.8.2)
abbrev pub bound_method : MethodName → (receiver : Value) → Content
bound_method m v = content.New (new.Builtin (record { number = method_number m; receiver = Some v }))

abbrev pub gotten : List Object → Value → Attribute → (otherwise : Content) → Content
gotten h v Missing otherwise = otherwise
gotten h v (Held w) otherwise = content.Value w
gotten h v (Method m) otherwise = bound_method m v
gotten h v (Bound f) otherwise = method_by f (receiver_of h v)
gotten h v NameOf otherwise = name_by (object_of h v)
gotten h v Arguments otherwise = arguments_by (object_of h v)
gotten h v Unbuilt otherwise = content.Outside Feature

-- `getattr`
abbrev pub get_attribute : List Object → Value → (name : Option (List ℕ)) → Content
get_attribute h v (Some name) = gotten h v (attribute_of h v name) (attribute_error h v name)
get_attribute h v None = bad_argument TYPE_ERROR

-- the same with a value for what has no such attribute
abbrev pub get_attribute_or : List Object → Value → (name : Option (List ℕ)) → (default : Value) → Content
get_attribute_or h v (Some name) default = gotten h v (attribute_of h v name) (content.Value default)
get_attribute_or h v None default = bad_argument TYPE_ERROR

abbrev pub call_getattr : List Value → List Object → Content
call_getattr (v ∷ name ∷ []) h = get_attribute h v (text_of h name)
call_getattr (v ∷ name ∷ default ∷ []) h = get_attribute_or h v (text_of h name) default
call_getattr vs h = content.Outside Feature
