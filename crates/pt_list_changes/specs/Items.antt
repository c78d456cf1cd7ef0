-- Items of a list that are replaced, deleted or put behind the others by statements and displays (Language Reference 6.2.4, 7.2, 7.5;
-- Library Reference, "Mutable Sequence Types").
use Rattle.std.specs.Prelude.{ℕ, List, [], ◌∷◌, ◌++◌, Option, Some, None, length, slice_set}
use Rattle.std.specs.List.{remove}
use Rattle.pt_base.specs.declared.what.What.TheVariants.{Feature}
use Rattle.pt_heap.specs.declared.value.Value.{Value}
use Rattle.pt_heap.specs.declared.value.Value.TheVariants as value
use Rattle.pt_heap.specs.declared.object.Object.{Object}
use Rattle.pt_heap.specs.declared.object.Object.TheVariants as object
use Rattle.pt_content.specs.pt_attrs.Look.{object_of}
use Rattle.pt_content.specs.declared.class.TheConstants.{TYPE_ERROR}
use Rattle.pt_content.specs.declared.content.Content.{Content}
use Rattle.pt_content.specs.declared.content.Content.TheVariants as content
use Rattle.pt_content.specs.declared.operand.Operand.{Operand}
use Rattle.pt_content.specs.declared.operand.Operand.TheVariants.{Number}
use Rattle.pt_content.specs.Operands.{operand_of}
use Rattle.pt_content.specs.TypeErrors.{bad_argument}
use Rattle.pt_sequences.specs.Items.{item_or, not_subscriptable, place_of}
use Rattle.pt_list_changes.specs.Changed.{list_changed, list_grown}

abbrev pub set_at : (list : Value) → List Value → (new : Value) → Option ℕ → Content
set_at l vs x (Some i) = list_changed l (slice_set vs i x) value.None
set_at l vs x None = item_or None

abbrev pub deleted_at : (list : Value) → List Value → Option ℕ → Content
deleted_at l vs (Some i) = list_changed l (remove vs i) value.None
deleted_at l vs None = item_or None

-- what isn't an integer is a wrong index, a slice too
abbrev pub set_by : (list : Value) → List Value → (new : Value) → Operand → Content
set_by l vs x (Number z) = set_at l vs x (place_of (length vs) z)
set_by l vs x k = bad_argument TYPE_ERROR

abbrev pub deleted_by : (list : Value) → List Value → Operand → Content
deleted_by l vs (Number z) = deleted_at l vs (place_of (length vs) z)
deleted_by l vs k = bad_argument TYPE_ERROR

-- items of dictionaries aren't there yet
abbrev pub set_in : List Object → (new container : Value) → Operand → Option Object → Content
set_in h x v k (Some (object.List vs)) = set_by v vs x k
set_in h x v k (Some (object.Dict es)) = content.Outside Feature
set_in h x v k o = not_subscriptable h v

abbrev pub deleted_in : List Object → (container : Value) → Operand → Option Object → Content
deleted_in h v k (Some (object.List vs)) = deleted_by v vs k
deleted_in h v k (Some (object.Dict es)) = content.Outside Feature
deleted_in h v k o = not_subscriptable h v

-- `a[i] = x`
abbrev pub set_item_content : List Object → (new container index : Value) → Content
set_item_content h x v i = set_in h x v (operand_of h i) (object_of h v)

-- `del a[i]`
abbrev pub delete_item_content : List Object → (container index : Value) → Content
delete_item_content h v i = deleted_in h v (operand_of h i) (object_of h v)

abbrev pub added_to : (list new : Value) → Option Object → Content
added_to l x (Some (object.List vs)) = list_grown l (vs ++ x ∷ [])
added_to l x o = content.Outside Feature

-- a list gets an item more
abbrev pub list_add_content : List Object → (list new : Value) → Content
list_add_content h l x = added_to l x (object_of h l)
