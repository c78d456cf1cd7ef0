-- Methods of lists that put items in, take them out or turn them round (Library Reference, "Mutable Sequence Types").
use Rattle.std.specs.Prelude.{ℕ, suc, ℤ, pos, negsuc, ◌-◌, false, List, [], ◌∷◌, ◌++◌, Option, Some, None, length, reverse, codes, nat_lt, slice_get, if◌then◌else◌}
use Rattle.std.specs.List.{insert, remove}
use Rattle.pt_heap.specs.declared.value.Value.{Value}
use Rattle.pt_heap.specs.declared.value.Value.TheVariants as value
use Rattle.pt_heap.specs.declared.object.Object.{Object}
use Rattle.pt_heap.specs.declared.object.Object.TheVariants as object
use Rattle.pt_content.specs.pt_attrs.Look.{object_of}
use Rattle.pt_content.specs.declared.answer.Helper.TheVariants.{ExtendOf}
use Rattle.pt_content.specs.declared.class.TheConstants.{TYPE_ERROR}
use Rattle.pt_content.specs.declared.content.Content.{Content}
use Rattle.pt_content.specs.declared.content.Content.TheVariants as content
use Rattle.pt_content.specs.declared.content.NewObject.TheVariants as new
use Rattle.pt_content.specs.declared.operand.Operand.{Operand}
use Rattle.pt_content.specs.declared.operand.Operand.TheVariants.{Number}
use Rattle.pt_content.specs.Operands.{operand_of}
use Rattle.pt_content.specs.TypeErrors.{bad_argument}
use Rattle.pt_sequences.specs.Cursors.{asked_or}
use Rattle.pt_sequences.specs.Items.{item_or, place_of}
use Rattle.pt_list_changes.specs.Changed.{list_changed, list_grown}

-- `append`
abbrev pub append_content : (list : Value) → List Value → (new : Value) → Content
append_content l vs x = list_grown l (vs ++ x ∷ [])

-- of what has items in another form a helper makes a list first; all else has none
abbrev pub extended_by : List Object → (list : Value) → List Value → (other : Value) → Option Object → Content
extended_by h l vs v (Some (object.List ws)) = list_grown l (vs ++ ws)
extended_by h l vs v (Some (object.Tuple ws)) = list_grown l (vs ++ ws)
extended_by h l vs v (Some (object.Str t)) = content.Help ExtendOf false
extended_by h l vs v (Some (object.Dict es)) = content.Help ExtendOf false
extended_by h l vs v (Some (object.Set es)) = content.Help ExtendOf false
extended_by h l vs v (Some (object.Range r)) = content.Help ExtendOf false
extended_by h l vs v (Some (object.View w)) = content.Help ExtendOf false
extended_by h l vs v (Some (object.Cursor c)) = content.Help ExtendOf false
extended_by h l vs v (Some (object.Generator n)) = content.Help ExtendOf false
extended_by h l vs v o = asked_or ExtendOf (codes "iterable") h v (operand_of h v)

-- `extend`
abbrev pub extend_content : List Object → (list : Value) → List Value → (other : Value) → Content
extend_content h l vs v = extended_by h l vs v (object_of h v)

-- where an item is inserted: at an end, where the index lies beyond it
abbrev pub insertion_place : (count : ℕ) → ℤ → ℕ
insertion_place n (pos i) = if nat_lt i n then i else n
insertion_place n (negsuc i) = n - suc i

abbrev pub inserted_by : (list : Value) → List Value → (new : Value) → Operand → Content
inserted_by l vs x (Number z) = list_grown l (insert vs (insertion_place (length vs) z) x)
inserted_by l vs x k = bad_argument TYPE_ERROR

-- `insert`
abbrev pub insert_content : List Object → (list : Value) → List Value → (index new : Value) → Content
insert_content h l vs i x = inserted_by l vs x (operand_of h i)

abbrev pub taken_item : (list : Value) → List Value → (place : ℕ) → Option Value → Content
taken_item l vs i (Some x) = list_changed l (remove vs i) x
taken_item l vs i None = item_or None

-- the item at a place leaves the list
abbrev pub taken_at : (list : Value) → List Value → Option ℕ → Content
taken_at l vs (Some i) = taken_item l vs i (slice_get vs i)
taken_at l vs None = item_or None

abbrev pub taken_by : (list : Value) → List Value → Operand → Content
taken_by l vs (Number z) = taken_at l vs (place_of (length vs) z)
taken_by l vs k = bad_argument TYPE_ERROR

-- `pop` of the last item
abbrev pub pop_last_content : (list : Value) → List Value → Content
pop_last_content l vs = taken_by l vs (Number (negsuc 0))

-- `pop` of an index
abbrev pub pop_content : List Object → (list : Value) → List Value → (index : Value) → Content
pop_content h l vs i = taken_by l vs (operand_of h i)

-- `reverse`
abbrev pub reverse_content : (list : Value) → List Value → Content
reverse_content l vs = list_changed l (reverse vs) value.None

-- `clear`
abbrev pub clear_content : (list : Value) → Content
clear_content l = list_changed l [] value.None

-- `copy`
abbrev pub copy_content : List Value → Content
copy_content vs = content.New (new.List vs)
