-- Iterators over dictionaries, sets and views (Language Reference 8.3; Library Reference, "Iterator Types", "Dictionary view objects").
-- They give the entries that there now are, and raise where there are more or fewer than at the start.
use Rattle.std.specs.Prelude.{ℕ, List, [], ◌∷◌, Option, Some, None, length, codes, nat_eq, nat_lt, slice_get, if◌then◌else◌}
use Rattle.std.specs.Option.{option_map}
use Rattle.pt_base.specs.declared.numbers.ObjId.{ObjId}
use Rattle.pt_heap.specs.declared.value.Value.{Value}
use Rattle.pt_heap.specs.declared.value.Value.TheVariants as value
use Rattle.pt_heap.specs.declared.object.Object.{Object}
use Rattle.pt_heap.specs.declared.object.Object.TheVariants as object
use Rattle.pt_heap.specs.declared.object.Cursor.{Cursor}
use Rattle.pt_heap.specs.declared.object.Part.{Part}
use Rattle.pt_heap.specs.declared.object.Part.TheVariants.{Keys, Values, Items}
use Rattle.pt_heap.specs.Entries.{Entry}
use Rattle.pt_content.specs.declared.answer.PrimAns.TheVariants as answer
use Rattle.pt_content.specs.declared.content.Content.{Content}
use Rattle.pt_content.specs.declared.content.Content.TheVariants as content
use Rattle.pt_content.specs.declared.content.NewObject.TheVariants as new
use Rattle.pt_content.specs.Changes.{next_object}
use Rattle.pt_sequences.specs.Cursors as sequence
use Rattle.pt_sequences.specs.Cursors.{ended, further, with_cursor}
use Rattle.pt_views.specs.declared.cursor.TheConstants.{RUNTIME_ERROR}

abbrev pub dict_in : Option Object → Option (List Entry)
dict_in (Some (object.Dict es)) = Some es
dict_in o = None

-- the dictionary at a place
abbrev pub dict_at : List Object → ObjId → Option (List Entry)
dict_at h id = dict_in (slice_get h id.0)

abbrev pub count_of : Option (List Entry) → ℕ
count_of (Some es) = length es
count_of None = 0

-- a cursor at the first of so many entries
abbrev pub started : ObjId → (count : ℕ) → Content
started id n = content.New (new.Cursor (record { over = Some id; place = 0; count = n }))

abbrev pub iterator_over : List Object → ObjId → Option Object → Content
iterator_over h id (Some (object.Dict es)) = started id (length es)
iterator_over h id (Some (object.Set es)) = started id (length es)
iterator_over h id (Some (object.View v)) = started id (count_of (dict_at h v.dict))
iterator_over h id o = sequence.iterator_content h (value.Obj id)

-- `iter`, of any value
abbrev pub iterator_content : List Object → Value → Content
iterator_content h (value.Obj id) = iterator_over h id (slice_get h id.0)
iterator_content h v = sequence.iterator_content h v

-- what an entry gives; the tuple of a key and a value is a new one
abbrev pub given : List Object → ObjId → Cursor → Part → (first value : Value) → Content
given h id c Keys v w = with_cursor id (further 1 c) [] (answer.Value v)
given h id c Values v w = with_cursor id (further 1 c) [] (answer.Value w)
given h id c Items v w = with_cursor id (further 1 c) (new.Tuple (v ∷ w ∷ []) ∷ []) (answer.Value (next_object h))

abbrev pub at_entry : List Object → ObjId → Cursor → Part → Option (Value × Value) → Content
at_entry h id c p (Some (v, w)) = given h id c p v w
at_entry h id c p None = ended id c

-- the first form and the value of the entry at a place
abbrev pub entry_at : List Entry → (place : ℕ) → Option (Value × Value)
entry_at es i = if nat_lt i (length es) then option_map (λ e. (e.first, e.value)) (slice_get es i) else None

abbrev pub next_entry : List Object → ObjId → Cursor → Part → List Entry → Content
next_entry h id c p es =
    if nat_eq c.count (length es) then at_entry h id c p (entry_at es c.place)
    else content.Raise RUNTIME_ERROR (codes "container changed during iteration")

abbrev pub next_of_view : List Object → ObjId → Cursor → Part → Option (List Entry) → Content
next_of_view h id c p (Some es) = next_entry h id c p es
next_of_view h id c p None = ended id c

-- the item of a cursor over an object as that now is
abbrev pub next_of : List Object → ObjId → Cursor → Option Object → Content
next_of h id c (Some (object.Dict es)) = next_entry h id c Keys es
next_of h id c (Some (object.Set es)) = next_entry h id c Keys es
next_of h id c (Some (object.View v)) = next_of_view h id c v.part (dict_at h v.dict)
next_of h id c o = sequence.next_content h (value.Obj id)

abbrev pub next_over : List Object → ObjId → Cursor → Option ObjId → Content
next_over h id c (Some over) = next_of h id c (slice_get h over.0)
next_over h id c None = sequence.next_content h (value.Obj id)

abbrev pub next_in : List Object → ObjId → Option Object → Content
next_in h id (Some (object.Cursor c)) = next_over h id c c.over
next_in h id o = sequence.next_content h (value.Obj id)

-- the next item of any iterator
abbrev pub next_content : List Object → Value → Content
next_content h (value.Obj id) = next_in h id (slice_get h id.0)
next_content h v = sequence.next_content h v
