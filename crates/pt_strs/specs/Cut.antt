-- Where a part stands in a text, and the pieces between its places (Library Reference, `str.find`, `str.split`).
use Rattle.std.specs.Prelude.{ℕ, zero, suc, Bool, true, false, ◌&&◌, ◌==◌, List, [], ◌∷◌, Option, None, Some, length, drop, if◌then◌else◌}
use Rattle.std.specs.Option.{option_map}

abbrev pub begins_with : List ℕ → (part : List ℕ) → Bool
begins_with cs [] = true
begins_with [] (p ∷ ps) = false
begins_with (c ∷ cs) (p ∷ ps) = c == p && begins_with cs ps

-- a character more at the front of what stands before a part
abbrev pub in_front : ℕ → List ℕ × List ℕ → List ℕ × List ℕ
in_front c (front, rest) = (c ∷ front, rest)

-- what stands before the first place of a part, and what stands behind it
abbrev pub cut : (part : List ℕ) → List ℕ → Option (List ℕ × List ℕ)
cut part [] = if begins_with [] part then Some ([], []) else None
cut part (c ∷ cs) = if begins_with (c ∷ cs) part then Some ([], drop (length part) (c ∷ cs)) else option_map (in_front c) (cut part cs)

-- the first place of a part
abbrev pub place_of : (part : List ℕ) → List ℕ → Option ℕ
place_of part cs = option_map (λ p. length p.0) (cut part cs)

-- a text without the part, or what stands before it and the pieces of the rest
abbrev pub pieces_at : (rest : List ℕ → List (List ℕ)) → List ℕ → Option (List ℕ × List ℕ) → List (List ℕ)
pieces_at rest cs None = cs ∷ []
pieces_at rest cs (Some p) = p.0 ∷ rest p.1

-- the pieces between the first places of a separator, at most so many of these, each behind the one before
abbrev pub pieces : (most : ℕ) (sep : List ℕ) → List ℕ → List (List ℕ)
pieces zero sep cs = cs ∷ []
pieces (suc most) sep cs = pieces_at (pieces most sep) cs (cut sep cs)

-- the pieces between all of them; a separator has a character, so there are no more than the text has characters
abbrev pub all_pieces : (sep : List ℕ) → List ℕ → List (List ℕ)
all_pieces sep cs = pieces (length cs) sep cs
