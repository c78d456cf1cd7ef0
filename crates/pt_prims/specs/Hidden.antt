-- What the functions that are written in Python ask of values: to make and fill containers, and which class a value is of.
use Rattle.std.specs.Prelude.{Bool, true, false, not, ◌&&◌, ℕ, List, [], ◌∷◌, Option, Some, None}
use Rattle.std.specs.Str.{bytes_eq}
use Rattle.pt_base.specs.declared.what.What.TheVariants.{Feature}
use Rattle.pt_heap.specs.declared.value.Value.{Value}
use Rattle.pt_heap.specs.declared.value.Value.TheVariants as value
use Rattle.pt_heap.specs.declared.object.Object.{Object}
use Rattle.pt_heap.specs.declared.object.Object.TheVariants as object
use Rattle.pt_content.specs.pt_attrs.Look.{object_of}
use Rattle.pt_content.specs.Classes.{class_name}
use Rattle.pt_content.specs.declared.content.Content.{Content}
use Rattle.pt_content.specs.declared.content.Content.TheVariants as content
use Rattle.pt_content.specs.declared.content.NewObject.TheVariants as new
use Rattle.pt_content.specs.declared.operand.Operand.{Operand}
use Rattle.pt_content.specs.declared.operand.Operand.TheVariants.{Instance}
use Rattle.pt_content.specs.Operands.{operand_of, text_of}
use Rattle.pt_methods.specs.pt_comparisons.Truths.{truth_value}
use Rattle.pt_methods.specs.pt_list_changes.Changed.{list_changed}
use Rattle.pt_methods.specs.pt_sequences.Displays.{tuple_content}
use Rattle.pt_methods.specs.pt_text_operations.Answers.{joined_content}
use Rattle.pt_sorting.specs.Sorting.{sorted_content}

-- a tuple of the items of a list
abbrev pub tuple_by : Option Object → Content
tuple_by (Some (object.List vs)) = tuple_content vs
tuple_by o = content.Outside Feature

abbrev pub make_tuple : List Value → List Object → Content
make_tuple (a ∷ []) h = tuple_by (object_of h a)
make_tuple vs h = content.Outside Feature

abbrev pub make_set : List Value → Content
make_set [] = content.New (new.Set [])
make_set vs = content.Outside Feature

-- an instance of a script's class is of no builtin class
abbrev pub is_instance : Operand → Bool
is_instance Instance = true
is_instance k = false

abbrev pub is_of_by : List Object → Value → (name : Option (List ℕ)) → Content
is_of_by h a (Some name) = truth_value (not (is_instance (operand_of h a)) && bytes_eq (class_name h a) name)
is_of_by h a None = content.Outside Feature

abbrev pub is_of : List Value → List Object → Content
is_of (a ∷ name ∷ []) h = is_of_by h a (text_of h name)
is_of vs h = content.Outside Feature

-- the texts of a list with a text between them
abbrev pub join_by : List Object → (sep : Option (List ℕ)) → Option Object → Content
join_by h (Some sep) (Some (object.List vs)) = joined_content h sep vs
join_by h sep o = content.Outside Feature

abbrev pub join_items : List Value → List Object → Content
join_items (sep ∷ list ∷ []) h = join_by h (text_of h sep) (object_of h list)
join_items vs h = content.Outside Feature

-- the items of a list by their keys
abbrev pub sort_by : List Object → Option Object → (keys : Option Object) → (falling : Value) → Content
sort_by h (Some (object.List vs)) (Some (object.List ks)) (value.Bool b) = sorted_content h b vs ks
sort_by h o p v = content.Outside Feature

abbrev pub sort_items : List Value → List Object → Content
sort_items (list ∷ keys ∷ falling ∷ []) h = sort_by h (object_of h list) (object_of h keys) falling
sort_items vs h = content.Outside Feature

-- a list gets the items of another
abbrev pub refill_by : (list : Value) → Option Object → Content
refill_by l (Some (object.List vs)) = list_changed l vs value.None
refill_by l o = content.Outside Feature

abbrev pub refill : List Value → List Object → Content
refill (list ∷ other ∷ []) h = refill_by list (object_of h other)
refill vs h = content.Outside Feature
