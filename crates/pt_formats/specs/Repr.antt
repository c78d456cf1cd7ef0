-- What `repr` gives of a text (Library Reference, `repr`; Language Reference 2.4.1).
use Rattle.std.specs.Prelude.{ℕ, ◌+◌, ◌/◌, ◌%◌, Bool, not, ◌&&◌, ◌||◌, false, ◌==◌, nat_lt, List, [], ◌∷◌, ◌++◌, Option, None, Some, if◌then◌else◌}
use Rattle.std.specs.List.{list_any}
use Rattle.std.specs.Int.{is_in_range}

-- `'`, or `"` around a text that has `'` and no `"`
abbrev pub quote_of : List ℕ → ℕ
quote_of cs = if list_any (λ c. c == 39) cs && not (list_any (λ c. c == 34) cs) then 34 else 39

-- what stands behind the backslash for a backslash, a line feed, a carriage return, a tab and the quote
abbrev pub letter_of : (quote : ℕ) → ℕ → Option ℕ
letter_of quote c = if c == 92 then Some 92 else (if c == 10 then Some 110 else (if c == 13 then Some 114 else (if c == 9 then Some 116 else (if c == quote then Some quote else None))))

-- control characters, the blank that doesn't break and the soft hyphen
abbrev pub is_hidden : ℕ → Bool
is_hidden c = nat_lt c 32 || (is_in_range 127 160 c || c == 173)

-- a digit of a number in a base up to 16
abbrev pub digit_of : (upper : Bool) → ℕ → ℕ
digit_of upper d = if nat_lt d 10 then 48 + d else (if upper then 55 + d else 87 + d)

abbrev pub plain : ℕ → List ℕ
plain c = if is_hidden c then 92 ∷ 120 ∷ digit_of false (c / 16) ∷ digit_of false (c % 16) ∷ [] else c ∷ []

abbrev pub escape_by : Option ℕ → ℕ → List ℕ
escape_by None c = plain c
escape_by (Some letter) c = 92 ∷ letter ∷ []

abbrev pub escape : (quote : ℕ) → ℕ → List ℕ
escape quote c = escape_by (letter_of quote c) c

abbrev pub escapes : (quote : ℕ) → List ℕ → List ℕ
escapes quote [] = []
escapes quote (c ∷ cs) = escape quote c ++ escapes quote cs

abbrev pub quoted : (quote : ℕ) → List ℕ → List ℕ
quoted quote cs = quote ∷ escapes quote cs ++ quote ∷ []

abbrev pub represented : List ℕ → List ℕ
represented cs = quoted (quote_of cs) cs
