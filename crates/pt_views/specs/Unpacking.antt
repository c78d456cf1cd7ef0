-- Items of any iterable value for targets, of which one may have a star (Language Reference 7.2). An iterator stands behind them then.
use Rattle.std.specs.Prelude.{Bool, true, ℕ, ◌+◌, ◌-◌, List, [], ◌∷◌, ◌++◌, Option, Some, None, codes, drop, length, map, nat_eq, nat_lt, slice_get, take, if◌then◌else◌}
use Rattle.std.specs.Char.{encode_utf8}
use Rattle.pt_base.specs.declared.numbers.ObjId.{ObjId}
use Rattle.pt_base.specs.declared.what.What.TheVariants.{Length}
use Rattle.pt_heap.specs.Entries.{Entry}
use Rattle.pt_heap.specs.Limits.{entry_limit}
use Rattle.pt_heap.specs.declared.value.Value.{Value}
use Rattle.pt_heap.specs.declared.value.Value.TheVariants as value
use Rattle.pt_heap.specs.declared.object.Cursor.{Cursor}
use Rattle.pt_heap.specs.declared.object.Object.{Object}
use Rattle.pt_heap.specs.declared.object.Object.TheVariants as object
use Rattle.pt_heap.specs.declared.object.Part.{Part}
use Rattle.pt_heap.specs.declared.object.Part.TheVariants.{Keys, Values, Items}
use Rattle.pt_heap.specs.declared.object.Range.{Range}
use Rattle.pt_strs.specs.Answer.{counted}
use Rattle.pt_content.specs.declared.answer.PrimAns.TheVariants as answer
use Rattle.pt_content.specs.declared.class.TheConstants.{VALUE_ERROR}
use Rattle.pt_content.specs.declared.content.Content.{Content}
use Rattle.pt_content.specs.declared.content.Content.TheVariants as content
use Rattle.pt_content.specs.declared.content.Mutable.TheVariants as mutable
use Rattle.pt_content.specs.declared.content.NewObject.{NewObject}
use Rattle.pt_content.specs.declared.content.NewObject.TheVariants as new
use Rattle.pt_content.specs.declared.content.Replacement.{Replacement}
use Rattle.pt_content.specs.Changes.{next_object}
use Rattle.pt_sequences.specs.Cursors.{chars_from}
use Rattle.pt_sequences.specs.Ranges.{range_length}
use Rattle.pt_sequences.specs.Starred as stars
use Rattle.pt_sequences.specs.Unpacking as sequence
use Rattle.pt_sequences.specs.Unpacking.{integers_from}
use Rattle.pt_views.specs.declared.cursor.TheConstants.{RUNTIME_ERROR}
use Rattle.pt_views.specs.declared.items.Item.{Item}
use Rattle.pt_views.specs.declared.items.Item.TheVariants.{There, Char, Pair}
use Rattle.pt_views.specs.declared.unpacking.Wanted.{Wanted}
use Rattle.pt_views.specs.declared.unpacking.Wanted.TheVariants.{Count, Around}
use Rattle.pt_views.specs.declared.unpacking.Source.{Source}
use Rattle.pt_views.specs.Cursors.{dict_at}

-- values that are there
abbrev pub there : List Value → List Item
there vs = map (λ v. There v) vs

abbrev pub item_by : Part → (first value : Value) → Item
item_by Keys v w = There v
item_by Values v w = There w
item_by Items v w = Pair v w

abbrev pub entry_item : Part → Entry → Item
entry_item p e = item_by p e.first e.value

abbrev pub least : ℕ → ℕ → ℕ
least n m = if nat_lt n m then n else m

abbrev pub entry_items : (most place : ℕ) → Part → List Entry → List Item
entry_items n i p es = map (entry_item p) (take n (drop i es))

abbrev pub view_items : (most place : ℕ) → Part → Option (List Entry) → List Item
view_items n i p (Some es) = entry_items n i p es
view_items n i p None = []

-- the items of an object from a place on, which is that of a cursor, so many of them at most
abbrev pub items_from : List Object → (most place : ℕ) → Option Object → List Item
items_from h n i (Some (object.List vs)) = there (take n (drop i vs))
items_from h n i (Some (object.Tuple vs)) = there (take n (drop i vs))
items_from h n i (Some (object.Str t)) = map (λ c. Char c) (take n (chars_from t i))
items_from h n i (Some (object.Range r)) = there (integers_from r i (least n (range_length r - i)))
items_from h n i (Some (object.Dict es)) = entry_items n i Keys es
items_from h n i (Some (object.Set es)) = entry_items n i Keys es
items_from h n i (Some (object.View v)) = view_items n i v.part (dict_at h v.dict)
items_from h n i o = []

-- what is new among them: the text of a character, the tuple of a key and a value
abbrev pub new_of : Item → List NewObject
new_of (There v) = []
new_of (Char c) = new.Text (encode_utf8 c) ∷ []
new_of (Pair v w) = new.Tuple (v ∷ w ∷ []) ∷ []

abbrev pub new_in : List Item → List NewObject
new_in [] = []
new_in (i ∷ is) = new_of i ++ new_in is

-- each as a value, where what is new stands from a place on
abbrev pub new_value : (place : ℕ) → Value
new_value p = value.Obj (record { 0 = p })

abbrev pub value_of : (place : ℕ) → Item → Value
value_of p (There v) = v
value_of p i = new_value p

abbrev pub values_in : (place : ℕ) → List Item → List Value
values_in p [] = []
values_in p (i ∷ is) = value_of p i ∷ values_in (p + length (new_of i)) is

abbrev pub refused : List Object → Option Replacement → (text : List ℕ) → Content
refused h r t =
    content.Changed (record { replacement = r; objects = new.Text t ∷ [] }) (answer.Raise VALUE_ERROR (Some (next_object h)))

abbrev pub too_few : List ℕ
too_few = codes "not enough values to unpack"

abbrev pub given : List Object → Source → Content
given h s = content.Changed (record { replacement = s.ended; objects = new_in s.items }) (answer.Values (values_in (length h) s.items))

-- so many items
abbrev pub so_many : List Object → (count : ℕ) → Source → Content
so_many h n s =
    if nat_lt n (length s.items) then refused h s.moved (codes "too many values to unpack")
    else (if nat_lt (length s.items) n then refused h s.ended too_few else given h s)

-- the first values, a new list of those between, and so many last ones
abbrev pub around_list : List Object → (after : ℕ) → Source → (first behind : List Value) → Content
around_list h m s first behind =
    content.Changed (record { replacement = s.ended; objects = new_in s.items ++ new.List (take (length behind - m) behind) ∷ [] })
    (answer.Values (first ++ new_value (length h + length (new_in s.items)) ∷ drop (length behind - m) behind))

abbrev pub around : List Object → (before after : ℕ) → Source → List Value → Content
around h n m s vs = around_list h m s (take n vs) (drop n vs)

abbrev pub starred_in : List Object → (before after : ℕ) → Source → Content
starred_in h n m s =
    if nat_lt entry_limit (length s.items) then content.Outside Length
    else (if nat_lt (length s.items) (n + m) then refused h s.ended too_few else around h n m s (values_in (length h) s.items))

-- the place of a text counts bytes, each other one items
abbrev pub size_of : Item → ℕ
size_of (Char c) = length (encode_utf8 c)
size_of i = 1

-- a place behind items; it stands still at the greatest number of 64 bits
abbrev pub place_behind : List Item → (place : ℕ) → ℕ
place_behind [] p = p
place_behind (i ∷ is) p = place_behind is (counted (p + size_of i))

abbrev pub with_cursor : ObjId → Cursor → Option Replacement
with_cursor id c = Some (record { id = id; object = mutable.Cursor c })

abbrev pub of_items : ObjId → Cursor → List Item → Source
of_items id c is =
    record { items = is; moved = with_cursor id (record c { place = place_behind is c.place }); ended = with_cursor id (record c { over = None }) }

-- whether a dictionary, a set or what a view is of has as many entries as at the start
abbrev pub view_has_count : (count : ℕ) → Option (List Entry) → Bool
view_has_count n (Some es) = nat_eq n (length es)
view_has_count n None = true

abbrev pub has_count : List Object → (count : ℕ) → Option Object → Bool
has_count h n (Some (object.Dict es)) = nat_eq n (length es)
has_count h n (Some (object.Set es)) = nat_eq n (length es)
has_count h n (Some (object.View v)) = view_has_count n (dict_at h v.dict)
has_count h n o = true

-- how many items are looked for: one more than so many, or than a list may have
abbrev pub most : Wanted → ℕ
most (Count n) = n + 1
most (Around n m) = entry_limit + 1

abbrev pub unpacked_from : List Object → Wanted → Source → Content
unpacked_from h (Count n) s = so_many h n s
unpacked_from h (Around n m) s = starred_in h n m s

-- a value that is no iterator stays as it is
abbrev pub of_object : List Object → Wanted → Option Object → Content
of_object h w o = unpacked_from h w (record { items = items_from h (most w) 0 o; moved = None; ended = None })

abbrev pub of_over : List Object → Wanted → ObjId → Cursor → Option Object → Content
of_over h w id c o =
    if has_count h c.count o then unpacked_from h w (of_items id c (items_from h (most w) c.place o))
    else content.Raise RUNTIME_ERROR (codes "container changed during iteration")

abbrev pub of_cursor : List Object → Wanted → ObjId → Cursor → Option ObjId → Content
of_cursor h w id c (Some over) = of_over h w id c (slice_get h over.0)
of_cursor h w id c None = unpacked_from h w (of_items id c [])

-- as many items as there are targets
abbrev pub unpacked : List Object → (count : ℕ) → ObjId → Option Object → Content
unpacked h n id (Some (object.Dict es)) = of_object h (Count n) (Some (object.Dict es))
unpacked h n id (Some (object.Set es)) = of_object h (Count n) (Some (object.Set es))
unpacked h n id (Some (object.View v)) = of_object h (Count n) (Some (object.View v))
unpacked h n id (Some (object.Cursor c)) = of_cursor h (Count n) id c c.over
unpacked h n id o = sequence.unpack_content h n (value.Obj id)

abbrev pub unpack_content : List Object → (count : ℕ) → Value → Content
unpack_content h n (value.Obj id) = unpacked h n id (slice_get h id.0)
unpack_content h n v = sequence.unpack_content h n v

-- the same around a list
abbrev pub starred : List Object → (before after : ℕ) → ObjId → Option Object → Content
starred h n m id (Some (object.Str t)) = of_object h (Around n m) (Some (object.Str t))
starred h n m id (Some (object.Range r)) = of_object h (Around n m) (Some (object.Range r))
starred h n m id (Some (object.Dict es)) = of_object h (Around n m) (Some (object.Dict es))
starred h n m id (Some (object.Set es)) = of_object h (Around n m) (Some (object.Set es))
starred h n m id (Some (object.View v)) = of_object h (Around n m) (Some (object.View v))
starred h n m id (Some (object.Cursor c)) = of_cursor h (Around n m) id c c.over
starred h n m id o = stars.starred_content h n m (value.Obj id)

abbrev pub starred_content : List Object → (before after : ℕ) → Value → Content
starred_content h n m (value.Obj id) = starred h n m id (slice_get h id.0)
starred_content h n m v = stars.starred_content h n m v
