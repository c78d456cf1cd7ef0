-- Items by their number (Language Reference 6.3.2; Library Reference, "Common Sequence Operations").
use Rattle.std.specs.Prelude.{ℕ, suc, ◌-◌, pos, negsuc, ℤ, Bool, List, [], ◌∷◌, Option, Some, None, length, codes, nat_lt, slice_get, if◌then◌else◌}
use Rattle.std.specs.Str.{chars}
use Rattle.std.specs.Char.{encode_utf8}
use Rattle.pt_base.specs.declared.numbers.ObjId.{ObjId}
use Rattle.pt_base.specs.declared.what.What.TheVariants.{Feature}
use Rattle.pt_heap.specs.declared.value.Value.{Value}
use Rattle.pt_heap.specs.declared.value.Value.TheVariants as value
use Rattle.pt_heap.specs.declared.object.Object.{Object}
use Rattle.pt_heap.specs.declared.object.Object.TheVariants as object
use Rattle.pt_heap.specs.declared.object.Range.{Range}
use Rattle.pt_content.specs.pt_attrs.Look.{object_of}
use Rattle.pt_content.specs.declared.class.TheConstants.{INDEX_ERROR, TYPE_ERROR}
use Rattle.pt_content.specs.declared.content.Content.{Content}
use Rattle.pt_content.specs.declared.content.Content.TheVariants as content
use Rattle.pt_content.specs.declared.content.NewObject.TheVariants as new
use Rattle.pt_content.specs.declared.operand.Operand.{Operand}
use Rattle.pt_content.specs.declared.operand.Operand.TheVariants as operand
use Rattle.pt_content.specs.Operands.{operand_of}
use Rattle.pt_content.specs.TypeErrors.{bad_argument, use_type_error}
use Rattle.pt_sequences.specs.declared.item.Index.{Index}
use Rattle.pt_sequences.specs.declared.item.Index.TheVariants as index
use Rattle.pt_sequences.specs.Ranges.{range_length, range_value}

-- an index is an integer or a slice
abbrev pub index_by : Operand → Option Object → Index
index_by (operand.Number z) o = index.Number z
index_by k (Some (object.Slice s)) = index.Slice
index_by k o = index.Other

abbrev pub index_of : List Object → Value → Index
index_of h v = index_by (operand_of h v) (object_of h v)

-- the place of an index among so many items; one below 0 counts from the end
abbrev pub place_of : (count : ℕ) → ℤ → Option ℕ
place_of n (pos i) = if nat_lt i n then Some i else None
place_of n (negsuc i) = if nat_lt i n then Some (n - suc i) else None

abbrev pub item_or : Option Value → Content
item_or (Some v) = content.Value v
item_or None = content.Raise INDEX_ERROR (codes "index out of range")

abbrev pub value_at : List Value → Option ℕ → Content
value_at vs (Some i) = item_or (slice_get vs i)
value_at vs None = item_or None

abbrev pub integer_at : Range → Option ℕ → Content
integer_at r (Some i) = item_or (range_value r i)
integer_at r None = item_or None

-- a character is a text of its own
abbrev pub char_or : Option ℕ → Content
char_or (Some c) = content.New (new.Text (encode_utf8 c))
char_or None = item_or None

abbrev pub char_at : List ℕ → Option ℕ → Content
char_at cs (Some i) = char_or (slice_get cs i)
char_at cs None = item_or None

abbrev pub not_subscriptable : List Object → Value → Content
not_subscriptable h v = use_type_error h v (codes "subscriptable")

-- an item of a dictionary isn't there yet
abbrev pub item_at : List Object → (container : Value) → ℤ → Option Object → Content
item_at h v z (Some (object.List vs)) = value_at vs (place_of (length vs) z)
item_at h v z (Some (object.Tuple vs)) = value_at vs (place_of (length vs) z)
item_at h v z (Some (object.Range r)) = integer_at r (place_of (range_length r) z)
item_at h v z (Some (object.Str t)) = char_at (chars t) (place_of (length (chars t)) z)
item_at h v z (Some (object.Dict es)) = content.Outside Feature
item_at h v z o = not_subscriptable h v

-- what is no index is a wrong one of a sequence
abbrev pub unindexed : List Object → (container : Value) → Option Object → Content
unindexed h v (Some (object.List vs)) = bad_argument TYPE_ERROR
unindexed h v (Some (object.Tuple vs)) = bad_argument TYPE_ERROR
unindexed h v (Some (object.Range r)) = bad_argument TYPE_ERROR
unindexed h v (Some (object.Str t)) = bad_argument TYPE_ERROR
unindexed h v (Some (object.Dict es)) = content.Outside Feature
unindexed h v o = not_subscriptable h v

-- slices aren't there yet
abbrev pub item_of : List Object → (container : Value) → Index → Option Object → Content
item_of h v (index.Number z) o = item_at h v z o
item_of h v index.Slice o = content.Outside Feature
item_of h v index.Other o = unindexed h v o

-- `a[b]`
abbrev pub item_content : List Object → (container index : Value) → Content
item_content h v i = item_of h v (index_of h i) (object_of h v)
