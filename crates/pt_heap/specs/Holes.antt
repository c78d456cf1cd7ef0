-- How a dictionary is kept: keys in order, each with an item, or without one where an entry was taken out.
use Rattle.std.specs.Prelude.{◌≡◌, ◌≤◌, ℕ, zero, suc, Bool, List, [], ◌∷◌, ◌++◌, Option, None, Some, is_some, length, drop, slice_get}
use Rattle.std.specs.List.{IsDistinct}
use Rattle.std.specs.Map.{keys_of}
use Rattle.std.specs.Str.{bytes_eq}
use Rattle.pt_heap.specs.declared.items.Item.{Item}
use Rattle.pt_heap.specs.Entries.{Entry}
use Rattle.pt_heap.specs.Limits.{entry_limit}

-- the entry of a key with an item
abbrev pub entry_of : List ℕ → Item → Entry
entry_of k item = record { key = k; first = item.first; value = item.value }

-- the entries of the places that have an item, in order
abbrev pub entries_of : List (List ℕ × Option Item) → List Entry
entries_of [] = []
entries_of ((k, None) ∷ es) = entries_of es
entries_of ((k, Some item) ∷ es) = entry_of k item ∷ entries_of es

-- those from a place on
abbrev pub entries_from : ℕ → List (List ℕ × Option Item) → List Entry
entries_from n es = entries_of (drop n es)

-- the first of them
abbrev pub first_from : ℕ → List (List ℕ × Option Item) → Option Entry
first_from n es = slice_get (entries_from n es) 0

-- with one more behind them
abbrev pub one_more : List (List ℕ × Option Item) → List ℕ → Item → List Entry
one_more es k item = entries_of es ++ entry_of k item ∷ []

-- the item of a place that there may be
abbrev pub joined : Option (Option Item) → Option Item
joined None = None
joined (Some item) = item

-- whether a place has an item
abbrev pub has_item : List ℕ × Option Item → Bool
has_item e = is_some e.1

-- the entry of a place that there may be
abbrev pub entry_in : Option (List ℕ × Option Item) → Option Entry
entry_in None = None
entry_in (Some (k, None)) = None
entry_in (Some (k, Some item)) = Some (entry_of k item)

-- the entry at a place
abbrev pub entry_at : List (List ℕ × Option Item) → ℕ → Option Entry
entry_at es i = entry_in (slice_get es i)

-- the first n places have no item
abbrev pub AreHoles : ℕ → List (List ℕ × Option Item) → Type 0
AreHoles zero es = Unit {0}
AreHoles (suc n) [] = ⊥
AreHoles (suc n) ((k, None) ∷ es) = AreHoles n es
AreHoles (suc n) ((k, Some item) ∷ es) = ⊥

-- a dictionary of so many entries, with at least so many holes in front of them
abbrev pub IsKept : (count start : ℕ) → List (List ℕ × Option Item) → Type 0
IsKept count start es = (count ≡ length (entries_of es)) × (count ≤ entry_limit) × AreHoles start es × IsDistinct bytes_eq (keys_of es)
