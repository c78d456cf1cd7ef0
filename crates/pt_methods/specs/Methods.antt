-- What a call of a method of a builtin value gives (Library Reference, "Built-in Types").
use Rattle.std.specs.Prelude.{List, [], ◌∷◌, Option, Some, slice_get}
use Rattle.pt_base.specs.declared.numbers.ObjId.{ObjId}
use Rattle.pt_base.specs.declared.what.What.TheVariants.{Feature}
use Rattle.pt_heap.specs.declared.value.Value.{Value}
use Rattle.pt_heap.specs.declared.value.Value.TheVariants as value
use Rattle.pt_heap.specs.declared.object.Object.{Object}
use Rattle.pt_heap.specs.declared.object.Object.TheVariants as object
use Rattle.pt_content.specs.declared.content.Content.{Content}
use Rattle.pt_content.specs.declared.content.Content.TheVariants as content
use Rattle.pt_content.specs.declared.method_name.MethodName.{MethodName}
use Rattle.pt_comparisons.specs.pt_views.pt_mappings.Methods.{dict_method_content}
use Rattle.pt_comparisons.specs.pt_views.pt_sets.Methods.{set_method_content}
use Rattle.pt_fields.specs.pt_text_operations.Methods.{text_method_content}
use Rattle.pt_methods.specs.Lists.{list_method, tuple_method}

-- by the object that the method is one of; all else has none
abbrev pub object_method : MethodName → List Object → ObjId → (arguments : List Value) → Option Object → Content
object_method m h id given (Some (object.Str t)) = text_method_content m h t given
object_method m h id given (Some (object.List vs)) = list_method m h (value.Obj id) vs given
object_method m h id given (Some (object.Tuple vs)) = tuple_method m h (value.Obj id) vs given
object_method m h id given (Some (object.Dict es)) = dict_method_content m h id es given
object_method m h id given (Some (object.Set es)) = set_method_content m h id es given
object_method m h id given o = content.Outside Feature

abbrev pub method_of : MethodName → List Object → (receiver : Value) → (arguments : List Value) → Content
method_of m h (value.Obj id) given = object_method m h id given (slice_get h id.0)
method_of m h v given = content.Outside Feature

-- a call of a method, of its object and the arguments
abbrev pub method_content : MethodName → List Value → List Object → Content
method_content m (v ∷ given) h = method_of m h v given
method_content m [] h = content.Outside Feature
