-- What a call on texts answers. A text is the list of its characters.
use Rattle.std.specs.Prelude.{◌≡◌, ℕ, ◌-◌, ◌^◌, min, Bool, true, ◌&&◌, List, [], ◌∷◌, map, length, nat_le, Result, Ok, Err, if◌then◌else◌}
use Rattle.std.specs.Str.{chars}
use Rattle.pt_strs.specs.declared.error.StrErr.{StrErr}
use Rattle.pt_strs.specs.declared.error.StrErr.TheVariants.{Length, Format, Empty, Memory}

-- the most characters that a text may have
abbrev pub length_limit : ℕ
length_limit = 16777216

-- a text of these characters, if it isn't too long
abbrev pub within : List ℕ → Result (List ℕ) StrErr
within cs = if nat_le (length cs) length_limit then Ok cs else Err Length

abbrev pub are_within : List (List ℕ) → Bool
are_within [] = true
are_within (cs ∷ css) = nat_le (length cs) length_limit && are_within css

-- texts of these characters, if none is too long
abbrev pub all_within : List (List ℕ) → Result (List (List ℕ)) StrErr
all_within css = if are_within css then Ok css else Err Length

-- what is answered is this, unless memory ran out
abbrev pub Answers : Result (List ℕ) StrErr → Result (List ℕ) StrErr → Type 0
Answers (Ok text) wanted = wanted ≡ Ok (chars text)
Answers (Err Memory) wanted = Unit {0}
Answers (Err Length) wanted = wanted ≡ Err Length
Answers (Err Format) wanted = wanted ≡ Err Format
Answers (Err Empty) wanted = wanted ≡ Err Empty

-- the same of a list of texts
abbrev pub AnswersAll : Result (List (List ℕ)) StrErr → Result (List (List ℕ)) StrErr → Type 0
AnswersAll (Ok texts) wanted = wanted ≡ Ok (map chars texts)
AnswersAll (Err Memory) wanted = Unit {0}
AnswersAll (Err Length) wanted = wanted ≡ Err Length
AnswersAll (Err Format) wanted = wanted ≡ Err Format
AnswersAll (Err Empty) wanted = wanted ≡ Err Empty

-- a count stands still at the greatest number of 64 bits
abbrev pub counted : ℕ → ℕ
counted n = min n (2 ^ 64 - 1)
