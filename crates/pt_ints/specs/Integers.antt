-- Operations on integers without bound, as Python has them (Language Reference 6.5 to 6.9).
use Rattle.std.specs.Prelude.{ℕ, zero, suc, ◌-◌, ◌/◌, ◌%◌, ◌^◌, ℤ, pos, negsuc, ◌-ℤ◌, ◌*ℤ◌, bit_and, bit_or, bit_xor}

-- the quotient rounded towards minus infinity
abbrev pub floor_quotient : ℤ → ℤ → ℤ
floor_quotient (pos a) (pos b) = pos (a / b)
floor_quotient (negsuc a) (pos b) = negsuc (a / b)
floor_quotient (pos zero) (negsuc b) = pos 0
floor_quotient (pos (suc a)) (negsuc b) = negsuc (a / suc b)
floor_quotient (negsuc a) (negsuc b) = pos (suc a / suc b)

-- what that quotient leaves
abbrev pub floor_remainder : ℤ → ℤ → ℤ
floor_remainder a b = a -ℤ (floor_quotient a b *ℤ b)

abbrev pub power : ℤ → (exponent : ℕ) → ℤ
power a zero = pos 1
power a (suc e) = a *ℤ power a e

-- bit k in two's complement without end: of -(n + 1) it is the other bit of n
abbrev pub bit : ℤ → (k : ℕ) → ℕ
bit (pos n) k = n / 2 ^ k % 2
bit (negsuc n) k = 1 - n / 2 ^ k % 2

-- each bit turned round
abbrev pub inverted : ℤ → ℤ
inverted (pos n) = negsuc n
inverted (negsuc n) = pos n

-- the bits that are set in both; `a - bit_and a b` has those of a that b lacks
abbrev pub common_bits : ℤ → ℤ → ℤ
common_bits (pos a) (pos b) = pos (bit_and a b)
common_bits (pos a) (negsuc b) = pos (a - bit_and a b)
common_bits (negsuc a) (pos b) = pos (b - bit_and a b)
common_bits (negsuc a) (negsuc b) = negsuc (bit_or a b)

-- the bits that are set in one or both
abbrev pub joined_bits : ℤ → ℤ → ℤ
joined_bits a b = inverted (common_bits (inverted a) (inverted b))

-- the bits that are set in one of the two
abbrev pub differing_bits : ℤ → ℤ → ℤ
differing_bits (pos a) (pos b) = pos (bit_xor a b)
differing_bits (pos a) (negsuc b) = negsuc (bit_xor a b)
differing_bits (negsuc a) (pos b) = negsuc (bit_xor a b)
differing_bits (negsuc a) (negsuc b) = pos (bit_xor a b)
