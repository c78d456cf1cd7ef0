-- Texts joined, and a text repeated (Library Reference, `str.join`, "Common Sequence Operations").
use Rattle.std.specs.Prelude.{ℕ, zero, suc, ℤ, pos, negsuc, List, [], ◌∷◌, ◌++◌}

-- each text behind a separator
abbrev pub followed : (sep : List ℕ) → List (List ℕ) → List ℕ
followed sep [] = []
followed sep (t ∷ ts) = sep ++ (t ++ followed sep ts)

-- the texts with a separator between them
abbrev pub joined : (sep : List ℕ) → List (List ℕ) → List ℕ
joined sep [] = []
joined sep (t ∷ ts) = t ++ followed sep ts

abbrev pub copies : ℕ → List ℕ → List ℕ
copies zero cs = []
copies (suc n) cs = cs ++ copies n cs

-- how many times; a count below 0 is one of 0
abbrev pub turns_of : ℤ → ℕ
turns_of (pos n) = n
turns_of (negsuc n) = 0

abbrev pub repeated : ℤ → List ℕ → List ℕ
repeated count cs = copies (turns_of count) cs
