-- Integers, and what begins as another number (Language Reference 2.4.4 to 2.4.7).
use Rattle.std.specs.Prelude.{ℕ, ◌+◌, ◌*◌, List, [], ◌∷◌, Bool, true, false, not, ◌==◌, ◌&&◌, ◌||◌, if◌then◌else◌}
use Rattle.std.specs.Char.{digit_value, is_digit}
use Rattle.std.specs.List.{prefix_len, list_all}
use Rattle.pt_literals.specs.declared.source.Spot.{Spot}

-- digits with single underscores between them; the flag says whether one may come first
abbrev pub is_grouped : (radix : ℕ) (may_come : Bool) → List Spot → Bool
is_grouped radix b [] = b
is_grouped radix b (s ∷ ss) = if is_digit s.char radix then is_grouped radix true ss else (b && (s.char == 95)) && is_grouped radix false ss

abbrev pub are_zeros : List Spot → Bool
are_zeros ss = list_all (λ s. (s.char == 48) || (s.char == 95)) ss

-- no zero leads, unless there are zeros alone
abbrev pub leads_well : List Spot → Bool
leads_well [] = false
leads_well (s ∷ ss) = not (s.char == 48) || are_zeros ss

-- the digits of an integer, behind its prefix
abbrev pub are_digits : (radix : ℕ) → List Spot → Bool
are_digits radix [] = false
are_digits radix (s ∷ ss) = if radix == 10 then is_grouped 10 false (s ∷ ss) && leads_well (s ∷ ss) else is_grouped radix true (s ∷ ss)

-- the number that digits write, behind others that write n
abbrev pub value_from : (radix n : ℕ) → List Spot → ℕ
value_from radix n [] = n
value_from radix n (s ∷ ss) = value_from radix (if s.char == 95 then n else n * radix + digit_value s.char) ss

-- the prefix `0x`, `0o` or `0b`
abbrev pub radix_by : (letter : ℕ) → ℕ
radix_by c =
    if (c == 120) || (c == 88) then 16
    else if (c == 111) || (c == 79) then 8
    else if (c == 98) || (c == 66) then 2
    else 10

abbrev pub radix_of : List Spot → ℕ
radix_of [] = 10
radix_of (s ∷ []) = 10
radix_of (s ∷ (t ∷ ss)) = if s.char == 48 then radix_by t.char else 10

abbrev pub behind_one : List Spot → List Spot
behind_one [] = []
behind_one (s ∷ ss) = ss

abbrev pub behind_prefix : (radix : ℕ) → List Spot → List Spot
behind_prefix radix text = if radix == 10 then text else behind_one (behind_one text)

-- An integer takes all digits and underscores that stand there, also digits that its radix doesn't have.
abbrev pub may_follow : (radix : ℕ) → Spot → Bool
may_follow radix s = is_digit s.char radix || (is_digit s.char 10 || (s.char == 95))

abbrev pub digits_len : (radix : ℕ) → List Spot → ℕ
digits_len radix text = prefix_len (may_follow radix) text

abbrev pub begins_digit : List Spot → Bool
begins_digit [] = false
begins_digit (s ∷ ss) = is_digit s.char 10

-- digits behind the letter of an exponent, and maybe behind a sign
abbrev pub is_exponent : List Spot → Bool
is_exponent [] = false
is_exponent (s ∷ ss) = is_digit s.char 10 || (((s.char == 43) || (s.char == 45)) && begins_digit ss)

-- what makes decimal digits a floating point or an imaginary number: a point, an exponent, or a `j`
abbrev pub makes_float : List Spot → Bool
makes_float [] = false
makes_float (s ∷ ss) = (s.char == 46) || (((s.char == 106) || (s.char == 74)) || (((s.char == 101) || (s.char == 69)) && is_exponent ss))

-- a point, and digits
abbrev pub is_fraction : Spot → List Spot → Bool
is_fraction s ss = (s.char == 46) && begins_digit ss
