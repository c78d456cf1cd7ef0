-- Iterators over lists, tuples, ranges and texts (Language Reference 8.3; Library Reference, "Iterator Types").
use Rattle.std.specs.Prelude.{ℕ, ◌+◌, Bool, false, ◌||◌, List, [], ◌∷◌, Option, Some, None, length, drop, codes, nat_lt, nat_le, slice_get, if◌then◌else◌}
use Rattle.std.specs.Str.{chars}
use Rattle.std.specs.Char.{encode_utf8}
use Rattle.pt_base.specs.declared.numbers.ObjId.{ObjId}
use Rattle.pt_base.specs.declared.what.What.TheVariants.{Feature}
use Rattle.pt_heap.specs.declared.value.Value.{Value}
use Rattle.pt_heap.specs.declared.value.Value.TheVariants as value
use Rattle.pt_heap.specs.declared.object.Object.{Object}
use Rattle.pt_heap.specs.declared.object.Object.TheVariants as object
use Rattle.pt_heap.specs.declared.object.Cursor.{Cursor}
use Rattle.pt_strs.specs.Answer.{counted}
use Rattle.pt_content.specs.pt_attrs.Look.{object_of}
use Rattle.pt_content.specs.declared.answer.Helper.{Helper}
use Rattle.pt_content.specs.declared.answer.Helper.TheVariants.{IterOf, NextOf}
use Rattle.pt_content.specs.declared.answer.PrimAns.{PrimAns}
use Rattle.pt_content.specs.declared.answer.PrimAns.TheVariants as answer
use Rattle.pt_content.specs.declared.content.Change.{Change}
use Rattle.pt_content.specs.declared.content.Content.{Content}
use Rattle.pt_content.specs.declared.content.Content.TheVariants as content
use Rattle.pt_content.specs.declared.content.NewObject.{NewObject}
use Rattle.pt_content.specs.declared.content.NewObject.TheVariants as new
use Rattle.pt_content.specs.declared.content.Mutable.TheVariants as mutable
use Rattle.pt_content.specs.declared.operand.Operand.{Operand}
use Rattle.pt_content.specs.declared.operand.Operand.TheVariants.{Instance}
use Rattle.pt_content.specs.Changes.{next_object}
use Rattle.pt_content.specs.Operands.{operand_of}
use Rattle.pt_content.specs.TypeErrors.{use_type_error}
use Rattle.pt_sequences.specs.Ranges.{range_value}

-- a helper is asked of an instance of a script's class; another value isn't what it is used as
abbrev pub asked_or : Helper → (what : List ℕ) → List Object → Value → Operand → Content
asked_or helper what h v Instance = content.Help helper false
asked_or helper what h v k = use_type_error h v what

abbrev pub not_iterable : List Object → Value → Content
not_iterable h v = asked_or IterOf (codes "iterable") h v (operand_of h v)

abbrev pub not_iterator : List Object → Value → Content
not_iterator h v = asked_or NextOf (codes "an iterator") h v (operand_of h v)

-- a cursor at the first item of what stands at a place
abbrev pub started : ObjId → Content
started id = content.New (new.Cursor (record { over = Some id; place = 0; count = 0 }))

-- an iterator is its own; over dictionaries, sets and views there is none yet
abbrev pub iterator_over : List Object → ObjId → Option Object → Content
iterator_over h id (Some (object.Str t)) = started id
iterator_over h id (Some (object.List vs)) = started id
iterator_over h id (Some (object.Tuple vs)) = started id
iterator_over h id (Some (object.Range r)) = started id
iterator_over h id (Some (object.Cursor c)) = content.Value (value.Obj id)
iterator_over h id (Some (object.Generator n)) = content.Value (value.Obj id)
iterator_over h id (Some (object.Dict es)) = content.Outside Feature
iterator_over h id (Some (object.Set es)) = content.Outside Feature
iterator_over h id (Some (object.View v)) = content.Outside Feature
iterator_over h id o = not_iterable h (value.Obj id)

-- `iter`
abbrev pub iterator_content : List Object → Value → Content
iterator_content h (value.Obj id) = iterator_over h id (slice_get h id.0)
iterator_content h v = not_iterable h v

-- a cursor as it is from now on, an object that is made for its item, and an answer
abbrev pub with_cursor : ObjId → Cursor → List NewObject → PrimAns → Content
with_cursor id c os a =
    content.Changed (record { replacement = Some (record { id = id; object = mutable.Cursor c }); objects = os }) a

-- a cursor that has come to the end goes over nothing
abbrev pub ended : ObjId → Cursor → Content
ended id c = with_cursor id (record c { over = None }) [] answer.End

-- a cursor so much further; a place stands still at the greatest number of 64 bits
abbrev pub further : (by : ℕ) → Cursor → Cursor
further n c = record c { place = counted (c.place + n) }

abbrev pub at_item : ObjId → Cursor → Option Value → Content
at_item id c (Some v) = with_cursor id (further 1 c) [] (answer.Value v)
at_item id c None = ended id c

-- the characters of a text from one that begins at a byte
abbrev pub begins_char : Option ℕ → Bool
begins_char None = false
begins_char (Some b) = nat_lt b 128 || nat_le 192 b

abbrev pub chars_from : List ℕ → (place : ℕ) → List ℕ
chars_from t p = if begins_char (slice_get t p) then chars (drop p t) else []

-- a character is a text of its own
abbrev pub at_char : List Object → ObjId → Cursor → List ℕ → Content
at_char h id c [] = ended id c
at_char h id c (x ∷ xs) = with_cursor id (further (length (encode_utf8 x)) c) (new.Text (encode_utf8 x) ∷ []) (answer.Value (next_object h))

-- the item of a cursor over an object as that now is
abbrev pub item_of : List Object → ObjId → Cursor → Option Object → Content
item_of h id c (Some (object.List vs)) = at_item id c (slice_get vs c.place)
item_of h id c (Some (object.Tuple vs)) = at_item id c (slice_get vs c.place)
item_of h id c (Some (object.Range r)) = at_item id c (range_value r c.place)
item_of h id c (Some (object.Str t)) = at_char h id c (chars_from t c.place)
item_of h id c o = content.Outside Feature

abbrev pub next_over : List Object → ObjId → Cursor → Option ObjId → Content
next_over h id c None = ended id c
next_over h id c (Some over) = item_of h id c (slice_get h over.0)

abbrev pub next_in : List Object → ObjId → Option Object → Content
next_in h id (Some (object.Cursor c)) = next_over h id c c.over
next_in h id (Some (object.Generator n)) = content.Outside Feature
next_in h id o = not_iterator h (value.Obj id)

-- the next item of an iterator
abbrev pub next_content : List Object → Value → Content
next_content h (value.Obj id) = next_in h id (slice_get h id.0)
next_content h v = not_iterator h v
