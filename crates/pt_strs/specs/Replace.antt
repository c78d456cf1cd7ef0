-- Each place of a part replaced (Library Reference, `str.replace`).
use Rattle.std.specs.Prelude.{ℕ, List, [], ◌∷◌}
use Rattle.pt_strs.specs.Cut.{all_pieces}
use Rattle.pt_strs.specs.Join.{joined}

-- each character as a text, and the empty text behind the last
abbrev pub apart : List ℕ → List (List ℕ)
apart [] = [] ∷ []
apart (c ∷ cs) = (c ∷ []) ∷ apart cs

-- what a part stands between; an empty part stands before each character and at the end
abbrev pub around : (part : List ℕ) → List ℕ → List (List ℕ)
around [] cs = [] ∷ apart cs
around (p ∷ ps) cs = all_pieces (p ∷ ps) cs

abbrev pub replaced : (old new : List ℕ) → List ℕ → List ℕ
replaced old new cs = joined new (around old cs)
