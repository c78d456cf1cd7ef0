-- The digits of a number (Library Reference, "Format Specification Mini-Language").
use Rattle.std.specs.Prelude.{ℕ, zero, suc, ◌/◌, ◌%◌, Bool, nat_lt, List, [], ◌∷◌, ◌++◌, ℤ, pos, negsuc, Option, None, Some, if◌then◌else◌}
use Rattle.pt_formats.specs.declared.spec.Sign.{Sign}
use Rattle.pt_formats.specs.declared.spec.Sign.TheVariants.{Plus, Minus, Blank}
use Rattle.pt_formats.specs.Repr.{digit_of}

-- the digits of a number in a base, at most so many
unfoldable pub digits : (most : ℕ) (base : ℕ) (upper : Bool) → ℕ → List ℕ
digits zero base upper n = []
digits (suc most) base upper n = if nat_lt n base then digit_of upper n ∷ [] else digits most base upper (n / base) ++ digit_of upper (n % base) ∷ []

-- a number without its sign
abbrev pub magnitude : ℤ → ℕ
magnitude (pos n) = n
magnitude (negsuc n) = suc n

-- a number of 128 bits has no more digits than that
abbrev pub digits_of : (base : ℕ) (upper : Bool) → ℤ → List ℕ
digits_of base upper z = digits 128 base upper (magnitude z)

abbrev pub mark_of : Option Sign → Option ℕ
mark_of None = None
mark_of (Some Plus) = Some 43
mark_of (Some Minus) = None
mark_of (Some Blank) = Some 32

-- what stands before the digits
abbrev pub sign_char : Option Sign → ℤ → Option ℕ
sign_char sign (pos n) = mark_of sign
sign_char sign (negsuc n) = Some 45
