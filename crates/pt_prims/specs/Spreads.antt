-- What `*a` and `**a` stand for among the arguments of a call (Language Reference 6.3.4).
use Rattle.std.specs.Prelude.{List, Bool, false, Option, Some, is_some, if◌then◌else◌}
use Rattle.std.specs.List.{list_all}
use Rattle.pt_heap.specs.declared.value.Value.{Value}
use Rattle.pt_heap.specs.declared.object.Object.{Object}
use Rattle.pt_heap.specs.declared.object.Object.TheVariants as object
use Rattle.pt_heap.specs.Entries.{Entry}
use Rattle.pt_content.specs.pt_attrs.Look.{object_of}
use Rattle.pt_content.specs.declared.answer.Helper.TheVariants.{TupleOf}
use Rattle.pt_content.specs.declared.class.TheConstants.{TYPE_ERROR}
use Rattle.pt_content.specs.declared.content.Content.{Content}
use Rattle.pt_content.specs.declared.content.Content.TheVariants as content
use Rattle.pt_content.specs.declared.content.NewObject.TheVariants as new
use Rattle.pt_content.specs.Operands.{text_of}
use Rattle.pt_content.specs.TypeErrors.{bad_argument}
use Rattle.pt_methods.specs.pt_sequences.Displays.{tuple_content}

-- `*a`: the items of a list or a tuple; the prelude goes through other values
abbrev pub spread_in : Option Object → Content
spread_in (Some (object.List vs)) = tuple_content vs
spread_in (Some (object.Tuple vs)) = tuple_content vs
spread_in o = content.Help TupleOf false

abbrev pub spread : List Object → Value → Content
spread h a = spread_in (object_of h a)

-- whether each key of a dictionary is a text
abbrev pub is_named : List Object → Entry → Bool
is_named h e = is_some (text_of h e.first)

abbrev pub are_named : List Object → List Entry → Bool
are_named h es = list_all (is_named h) es

-- `**a`: the entries of a dictionary whose keys are texts
abbrev pub spread_named_in : List Object → Option Object → Content
spread_named_in h (Some (object.Dict es)) =
    if are_named h es then content.New (new.Dict es) else bad_argument TYPE_ERROR
spread_named_in h o = bad_argument TYPE_ERROR

abbrev pub spread_named : List Object → Value → Content
spread_named h a = spread_named_in h (object_of h a)
