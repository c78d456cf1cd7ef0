-- The words of a text, between blanks (Library Reference, `str.split`).
use Rattle.std.specs.Prelude.{ℕ, Bool, true, List, [], ◌∷◌, Option, None, Some, Result, Err, if◌then◌else◌}
use Rattle.pt_strs.specs.declared.error.StrErr.{StrErr}
use Rattle.pt_strs.specs.declared.error.StrErr.TheVariants.{Empty}
use Rattle.pt_strs.specs.Answer.{all_within}
use Rattle.pt_strs.specs.Blank.{is_blank}
use Rattle.pt_strs.specs.Cut.{all_pieces}

-- whether no word goes on here
abbrev pub is_end : List ℕ → Bool
is_end [] = true
is_end (c ∷ cs) = is_blank c

-- a character more at the front of the first word
abbrev pub longer : ℕ → List (List ℕ) → List (List ℕ)
longer c [] = (c ∷ []) ∷ []
longer c (w ∷ ws) = (c ∷ w) ∷ ws

abbrev pub words : List ℕ → List (List ℕ)
words [] = []
words (c ∷ cs) = if is_blank c then words cs else (if is_end cs then (c ∷ []) ∷ words cs else longer c (words cs))

-- the parts of a text by its blanks, or by a separator
abbrev pub split_by : (sep : Option (List ℕ)) → List ℕ → Result (List (List ℕ)) StrErr
split_by None cs = all_within (words cs)
split_by (Some []) cs = Err Empty
split_by (Some (p ∷ ps)) cs = all_within (all_pieces (p ∷ ps) cs)
