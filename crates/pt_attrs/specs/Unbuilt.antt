-- Which names of attributes a run does not have (Library Reference, "Text Sequence Type", "Mapping Types", "Set Types").
use Rattle.std.specs.Prelude.{ℕ, Bool, false, ◌&&◌, ◌||◌, List, [], ◌∷◌, map, length, nat_lt, nat_eq, codes, Option, None, Some}
use Rattle.std.specs.List.{list_any, starts_with, ends_with}
use Rattle.std.specs.Str.{bytes_eq}
use Rattle.pt_heap.specs.declared.object.Object.{Object}
use Rattle.pt_heap.specs.declared.object.Object.TheVariants.{Str, List as ListOf, Dict, Set}
use Rattle.pt_attrs.specs.declared.unbuilt.TheConstants.{STR_NAMES, DICT_NAMES, SET_NAMES}

-- a name that begins and ends with two underscores
abbrev pub is_special : (name : List ℕ) → Bool
is_special name = nat_lt 4 (length name) && (starts_with nat_eq name (95 ∷ 95 ∷ []) && ends_with nat_eq name (95 ∷ 95 ∷ []))

abbrev pub is_listed : (name : List ℕ) → List (List ℕ) → Bool
is_listed name names = list_any (λ n. bytes_eq n name) names

abbrev pub is_unbuilt_on : Object → (name : List ℕ) → Bool
is_unbuilt_on (Str t) name = is_special name || is_listed name (map (λ n. n.now) STR_NAMES)
is_unbuilt_on (Dict d) name = is_special name || is_listed name (map (λ n. n.now) DICT_NAMES)
is_unbuilt_on (Set d) name = is_special name || is_listed name (map (λ n. n.now) SET_NAMES)
is_unbuilt_on (ListOf vs) name = is_special name
is_unbuilt_on _ name = false

abbrev pub is_unbuilt_at : Option Object → (name : List ℕ) → Bool
is_unbuilt_at None name = false
is_unbuilt_at (Some object) name = is_unbuilt_on object name

-- no value has a dictionary of its names
abbrev pub is_unbuilt : Option Object → (name : List ℕ) → Bool
is_unbuilt object name = bytes_eq name (codes "__dict__") || is_unbuilt_at object name
