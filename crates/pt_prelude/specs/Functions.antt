-- The functions of a text that stand at its first column: each line that begins with `def ` names one, up to the parenthesis
-- (Language Reference 8.7).
use Rattle.std.specs.Prelude.{◌==◌, ℕ, List, Bool, codes, filter, map, drop, nat_eq}
use Rattle.std.specs.List.{starts_with, before_first}
use Rattle.std.specs.Str.Lines.{lines}

abbrev pub is_definition : (line : List ℕ) → Bool
is_definition line = starts_with nat_eq line (codes "def ")

abbrev pub defined_name : (line : List ℕ) → List ℕ
defined_name line = before_first (λ c. c == 40) (drop 4 line)

abbrev pub function_names : (text : List ℕ) → List (List ℕ)
function_names text = map defined_name (filter is_definition (lines text))
