-- The lines of a script, as a traceback shows them (Language Reference 2.1.2, "Physical lines"; Library Reference, "traceback", `FrameSummary.line`).
use Rattle.std.specs.Prelude.{ℕ, zero, suc, Bool, false, ◌==◌, ◌&&◌, List, [], ◌∷◌, Option, Some, None, slice_index_or, if◌then◌else◌}
use Rattle.pt_literals.specs.Source.{is_blank, ends_line}
use Rattle.pt_strs.specs.Strip.{without_front, without_end}

abbrev pub begins_with_feed : List ℕ → Bool
begins_with_feed [] = false
begins_with_feed (c ∷ cs) = c == 10

abbrev pub onto_first : ℕ → List (List ℕ) → List (List ℕ)
onto_first c [] = (c ∷ []) ∷ []
onto_first c (l ∷ ls) = (c ∷ l) ∷ ls

-- the lines of a text, without their ends; a carriage return and the line feed behind it are one end
abbrev pub lines : List ℕ → List (List ℕ)
lines [] = [] ∷ []
lines (c ∷ cs) =
    if (c == 13) && begins_with_feed cs then lines cs
    else if ends_line c then [] ∷ lines cs
    else onto_first c (lines cs)

-- those of a source that there may be: code that is read from a file has none
abbrev pub source_lines : Option (List ℕ) → List (List ℕ)
source_lines (Some text) = lines text
source_lines None = []

-- lines are numbered from 1; where there is no such line its text is empty
abbrev pub numbered : List (List ℕ) → (number : ℕ) → List ℕ
numbered ls zero = []
numbered ls (suc n) = slice_index_or ls n []

-- without the blanks before and behind it
abbrev pub without_blanks : List ℕ → List ℕ
without_blanks line = without_end is_blank (without_front is_blank line)
