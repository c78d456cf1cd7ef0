-- Events whose lines are begun by blocks of these names.
use Rattle.std.specs.Prelude.{◌≡◌, true, false, List, [], ◌∷◌}
use Rattle.std.specs.List.{list_any, AllByRecursion}
use Rattle.std.specs.Str.{bytes_eq}
use Rattle.pt_base.specs.Taken.{Pieces}
use Rattle.pt_cover.specs.Pieces.{Text, is_line_end, kind_of, name_of, is_line}

abbrev pub AreNamed : (names : List Text) → (events : Pieces) → Type 0
AreNamed names [] = Unit {0}
AreNamed names (e ∷ es) = (is_line (kind_of e) ≡ true → list_any (bytes_eq (name_of e)) names ≡ true) × AreNamed names es

-- names that no line end parts
abbrev pub IsOneLine : Text → Type 0
IsOneLine name = AllByRecursion (λ c. is_line_end c ≡ false) name

abbrev pub AreOneLine : (names : List Text) → Type 0
AreOneLine names = AllByRecursion IsOneLine names
