-- What `new` is given, each once: lines in rising order, and names as they were first given.
use Rattle.std.specs.Prelude.{ℕ, List, [], ◌∷◌, ◌++◌, map, fold, if◌then◌else◌}
use Rattle.std.specs.List.{list_any}
use Rattle.std.specs.BTreeSet.{insert_key}
use Rattle.std.specs.Ordering.{nat_cmp}
use Rattle.std.specs.Str.{bytes_eq}
use Rattle.pt_base.specs.declared.numbers.Line.{Line}
use Rattle.pt_cover.specs.Pieces.{Text}

-- these lines, each once, in rising order
abbrev pub rising : (lines : List Line) → List ℕ
rising lines = fold (insert_key nat_cmp) [] (map (λ l. l.0) lines)

-- these names, each once, as it was first given
abbrev pub with_name : (names : List Text) → Text → List Text
with_name names name = if list_any (bytes_eq name) names then names else names ++ name ∷ []

abbrev pub first_given : (names : List Text) → List Text
first_given names = fold with_name [] names
