-- Names among others, and in a set.
use Rattle.std.specs.Prelude.{◌≡◌, ℕ, Bool, List}
use Rattle.std.specs.BTreeSet.{contains_text}
use Rattle.std.specs.List.{list_any}
use Rattle.std.specs.Str.{bytes_eq}
use Rattle.pt_bind.specs.declared.name_set.NameSet.{NameSet}

abbrev pub is_among : List (List ℕ) → List ℕ → Bool
is_among names name = list_any (bytes_eq name) names

-- a name is in a set
abbrev pub has_name : NameSet → List ℕ → Bool
has_name set name = contains_text set.names name

-- a set has these names and no others
abbrev pub IsSetOf : List (List ℕ) → NameSet → Type 0
IsSetOf names set = (x : List ℕ) → has_name set x ≡ is_among names x
