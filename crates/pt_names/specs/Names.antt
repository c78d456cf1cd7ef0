-- Names with their values (Language Reference 4.2.1): a name is unbound where it has none.
use Rattle.std.specs.Prelude.{◌≡◌, ℕ, List, [], ◌∷◌, ◌++◌, Option, None, Some, map, position, slice_get, String, string_bytes}
use Rattle.std.specs.Map.{lookup, keys_of}
use Rattle.std.specs.Option.{option_flatten}
use Rattle.std.specs.Str.{bytes_eq}
use Rattle.indexmap.specs.IndexMap.{insert_entry, set_value_at}
use Rattle.pt_heap.specs.declared.value.Value.{Value}
use Rattle.pt_heap.specs.declared.view.Binding.{Binding}

-- in the order in which each name was first bound or given a place
abbrev pub Named : Type 0
Named = List (List ℕ × Option Value)

-- the value of a name
abbrev pub name_value : List ℕ → Named → Option Value
name_value name names = option_flatten (lookup (bytes_eq name) names)

-- where a name stands among the others
abbrev pub place_of : List ℕ → Named → Option ℕ
place_of name names = position (bytes_eq name) (keys_of names)

abbrev pub entry_value : Option (List ℕ × Option Value) → Option Value
entry_value None = None
entry_value (Some entry) = entry.1

-- the value of the name at a place
abbrev pub value_in_place : ℕ → Named → Option Value
value_in_place place names = entry_value (slice_get names place)

abbrev pub unless_placed : Option ℕ → List ℕ → Named → Named
unless_placed (Some place) name names = names
unless_placed None name names = names ++ (name, None) ∷ []

-- a name that has no place goes behind the others, without a value
abbrev pub with_place : List ℕ → Named → Named
with_place name names = unless_placed (place_of name names) name names

abbrev pub bound_first : List ℕ → Option Value → List Binding → List Binding
bound_first name None bindings = bindings
bound_first name (Some value) bindings = record { name = name; value = value } ∷ bindings

-- the names that are bound
abbrev pub bindings_of : Named → List Binding
bindings_of [] = []
bindings_of (entry ∷ names) = bound_first entry.0 entry.1 (bindings_of names)

-- names by their texts
abbrev pub by_text : {A : Type 0} → List (String A × Option Value) → Named
by_text entries = map (λ e. (string_bytes e.0, e.1)) entries

-- the name at a place is bound and looked up there as by its text
abbrev pub StandsFor : (place : ℕ) → List ℕ → Named → Type 0
StandsFor place name names =
    (value_in_place place names ≡ name_value name names)
    × ((value : Option Value) → set_value_at names place value ≡ insert_entry bytes_eq names name value)

-- and keeps its place, whatever is bound
abbrev pub KeepsPlace : (place : ℕ) → List ℕ → Named → Type 0
KeepsPlace place name names =
    ((other : List ℕ) (value : Option Value) → place_of name (insert_entry bytes_eq names other value) ≡ Some place)
    × ((at : ℕ) (value : Option Value) → place_of name (set_value_at names at value) ≡ Some place)
    × ((other : List ℕ) → place_of name (with_place other names) ≡ Some place)
