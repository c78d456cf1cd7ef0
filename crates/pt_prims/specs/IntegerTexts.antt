-- The integer that a text is (Library Reference, `int`; Language Reference 2.4.4): decimal digits with single underscores between
-- them, behind a sign if there is one, and between blanks.
use Rattle.std.specs.Prelude.{ℕ, ◌+◌, ◌-◌, ◌*◌, ◌^◌, min, ℤ, pos, neg_ℤ, Bool, true, false, ◌&&◌, List, [], ◌∷◌, Option, Some, None, nat_eq, if◌then◌else◌}
use Rattle.std.specs.Int.{is_in_range}
use Rattle.std.specs.Option.{option_map}
use Rattle.std.specs.Str.{chars}
use Rattle.pt_ints.specs.Answer.{ranged}
use Rattle.pt_strs.specs.Blank.{is_blank}
use Rattle.pt_strs.specs.Strip.{without_end, without_front}
use Rattle.pt_content.specs.declared.class.TheConstants.{VALUE_ERROR}
use Rattle.pt_content.specs.declared.content.Content.{Content}
use Rattle.pt_content.specs.TypeErrors.{bad_argument}
use Rattle.pt_prims.specs.Arithmetic.{integer_content}

-- the number of digits that stand behind a number; an underscore stands behind a digit, and a digit behind it
abbrev pub number_behind : (number : ℕ) → (behind_digit : Bool) → List ℕ → Option ℕ
number_behind n behind_digit [] = if behind_digit then Some n else None
number_behind n behind_digit (c ∷ cs) =
    if is_in_range 48 57 c then number_behind (10 * n + (c - 48)) true cs
    else (if behind_digit && nat_eq c 95 then number_behind n false cs else None)

abbrev pub number_of : List ℕ → Option ℕ
number_of cs = number_behind 0 false cs

abbrev pub signed : (negative : Bool) → ℕ → ℤ
signed negative n = if negative then neg_ℤ (pos n) else pos n

-- behind `-`, behind `+` or without a sign
abbrev pub signed_number : List ℕ → Option ℤ
signed_number [] = None
signed_number (c ∷ cs) =
    if nat_eq c 45 then option_map (signed true) (number_of cs)
    else option_map (signed false) (number_of (if nat_eq c 43 then cs else c ∷ cs))

abbrev pub without_blanks : List ℕ → List ℕ
without_blanks cs = without_end is_blank (without_front is_blank cs)

abbrev pub integer_or_error : Option ℤ → Content
integer_or_error (Some z) = integer_content (ranged z)
integer_or_error None = bad_argument VALUE_ERROR

-- `int` of a text
abbrev pub text_integer : List ℕ → Content
text_integer t = integer_or_error (signed_number (without_blanks (chars t)))

-- a number of 128 bits or more is beyond that of every integer
abbrev pub saturated : ℕ → ℕ
saturated n = min n (2 ^ 128 - 1)
