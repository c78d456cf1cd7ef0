-- Bits in two's complement without end, and those of 128 bits.
use Rattle.std.proofs.Common.{◌≡◌, ℕ, zero, suc, ◌+◌, ◌-◌, ◌*◌, ◌/◌, ◌%◌, ◌^◌, ◌<◌, ◌≤◌, ℤ, pos, negsuc, refl, sym, ap, ◌∙◌, arith, inl, inr, to_z, of_z, bit_and, bit_or}
use Rattle.std.specs.Prelude.{FitsSigned, min, max, bit_xor}
use Rattle.std.specs.Int.{w128, bit_at, bit_not}
use Rattle.std.proofs.Math.Nat.{pow-suc, min_comm, add_comm}
use Rattle.std.proofs.Math.Facts.{sfits_to_z}
use Rattle.std.proofs.lemmas.Bool.{cases_lt}
use Rattle.std.proofs.lemmas.Int.{of_z-to_z}
use Rattle.std.proofs.lemmas.Nat.{and_comm, and_le_l, or_lt, xor_lt, and-not, pow_pos, pow_below}
use Rattle.std.proofs.lemmas.Nat.Bits.{and_pow, bit_at_and, bit_at_or, bit_at_xor, bit_at_not, bit_at_above, bit_at-lt, same_from_bits}
use Rattle.pt_ints.specs.declared.answer.IntAns.TheVariants.{Value}
use Rattle.pt_ints.specs.Answer.{ranged}
use Rattle.pt_ints.specs.Integers.{bit, inverted, common_bits, joined_bits, differing_bits}
use Rattle.pt_ints.proofs.RangeLemmas.{ranged_value}

-- each number is below the power of 2 to it
below_power : (n : ℕ) → n < 2 ^ n
below_power zero = omega arith
below_power (suc n) = omega (arith, pow-suc 2 n, below_power n)

bit_below : (z : ℤ) (k : ℕ) → bit z k < 2
bit_below (pos n) k = bit_at-lt n k
bit_below (negsuc n) k = omega arith

-- a number without bits from k on: its bits there are 0
no_bits : (n k : ℕ) → n ≤ k → n / 2 ^ k % 2 ≡ 0
no_bits n k h = bit_at_above n n k (below_power n) h

turned : (x y : ℕ) → x < 2 → y < 2 → 1 - x ≡ 1 - y → x ≡ y
turned x y h i e = omega arith

-- an integer is what its bits say
pub same_bits : (a b : ℤ) → ((k : ℕ) → bit a k ≡ bit b k) → a ≡ b
same_bits (pos a) (pos b) h = ap pos (same_from_bits a b h)
same_bits (negsuc a) (negsuc b) h = ap negsuc (same_from_bits a b (λ k. turned _ _ (bit_at-lt a k) (bit_at-lt b k) (h k)))
same_bits (pos a) (negsuc b) h = absurd (omega (arith, h (a + b), no_bits a (a + b) (omega arith), no_bits b (a + b) (omega arith)))
same_bits (negsuc a) (pos b) h = absurd (omega (arith, h (a + b), no_bits a (a + b) (omega arith), no_bits b (a + b) (omega arith)))

-- in a number of 128 bits the last bit goes on without end
high_bit : (n k : ℕ) → n < 2 ^ 127 → bit_at n (min k 127) ≡ bit_at n k
high_bit n k h = elim (cases_lt k 127) [
  | inl below ↦
      let same : min k 127 ≡ k = omega arith in
      ap (bit_at n) same
  | inr above ↦
      let last : min k 127 ≡ 127 = omega arith in
      ap (bit_at n) last ∙ bit_at_above n 127 127 h (omega arith) ∙ sym (bit_at_above n 127 k h above)
]

one_of_two : (x y p : ℕ) → x < 2 → y < 2 → 0 < p → x * p + y * p ≡ p → x ≡ 1 - y
one_of_two zero zero p i j h e = absurd (omega arith)
one_of_two zero (suc zero) p i j h e = refl
one_of_two (suc zero) zero p i j h e = refl
one_of_two (suc zero) (suc zero) p i j h e = absurd (omega arith)
one_of_two (suc (suc x)) y p i j h e = absurd (omega arith)
one_of_two x (suc (suc y)) p i j h e = absurd (omega arith)

-- the bits of a complement of w bits
complement_bit : (w m i : ℕ) → m < 2 ^ w → i < w → bit_at (2 ^ w - 1 - m) i ≡ 1 - bit_at m i
complement_bit w m i h below =
    one_of_two _ _ (2 ^ i) (bit_at-lt (2 ^ w - 1 - m) i) (bit_at-lt m i) (pow_pos i)
    (ap (λ x. x + bit_at m i * 2 ^ i) (sym (and_pow (2 ^ w - 1 - m) i)) ∙ ap (λ x. bit_and (2 ^ w - 1 - m) (2 ^ i) + x) (sym (and_pow m i))
    ∙ and-not w m (2 ^ i) h (pow_below i w below))

-- the bits of a that b lacks
lacking_bit : (a b k : ℕ) → bit_at (a - bit_and a b) k ≡ min (bit_at a k) (1 - bit_at b k)
lacking_bit a b k =
    let w = a + b + k + 1 in
    let below_a : a < 2 ^ w = omega (arith, below_power w) in
    let below_b : b < 2 ^ w = omega (arith, below_power w) in
    let rest : a - bit_and a b ≡ bit_and (2 ^ w - 1 - b) a = omega (arith, and-not w b a below_b below_a, and_comm a b) in
    ap (λ m. bit_at m k) rest ∙ bit_at_and (2 ^ w - 1 - b) a k ∙ ap (λ x. min x (bit_at a k)) (complement_bit w b k below_b (omega arith))
    ∙ min_comm (1 - bit_at b k) (bit_at a k)

pub bit-inverted : (z : ℤ) (k : ℕ) → bit (inverted z) k ≡ 1 - bit z k
bit-inverted (pos n) k = refl
bit-inverted (negsuc n) k = omega (arith, bit_at-lt n k)

pub bit-common : (a b : ℤ) (k : ℕ) → bit (common_bits a b) k ≡ min (bit a k) (bit b k)
bit-common (pos a) (pos b) k = bit_at_and a b k
bit-common (pos a) (negsuc b) k = lacking_bit a b k
bit-common (negsuc a) (pos b) k =
    ap (λ m. bit_at (b - m) k) (and_comm a b) ∙ lacking_bit b a k ∙ min_comm (bit_at b k) (1 - bit_at a k)
bit-common (negsuc a) (negsuc b) k = omega (arith, bit_at_or a b k)

pub bit-joined : (a b : ℤ) (k : ℕ) → bit (joined_bits a b) k ≡ max (bit a k) (bit b k)
bit-joined a b k =
    omega (arith, bit-inverted (common_bits (inverted a) (inverted b)) k, bit-common (inverted a) (inverted b) k, bit-inverted a k, bit-inverted b k, bit_below a k, bit_below b k)

odd_one : (x y : ℕ) → x < 2 → y < 2 → 1 - (x + y) % 2 ≡ (x + (1 - y)) % 2
odd_one x y i j = omega arith

odd_two : (x y : ℕ) → x < 2 → y < 2 → (x + y) % 2 ≡ (1 - x + (1 - y)) % 2
odd_two x y i j = omega arith

pub bit-differing : (a b : ℤ) (k : ℕ) → bit (differing_bits a b) k ≡ (bit a k + bit b k) % 2
bit-differing (pos a) (pos b) k = bit_at_xor a b k
bit-differing (pos a) (negsuc b) k = ap (λ x. 1 - x) (bit_at_xor a b k) ∙ odd_one (bit_at a k) (bit_at b k) (bit_at-lt a k) (bit_at-lt b k)
bit-differing (negsuc a) (pos b) k =
    ap (λ x. 1 - x) (bit_at_xor a b k) ∙ ap (λ x. 1 - x % 2) (add_comm (bit_at a k) (bit_at b k))
    ∙ odd_one (bit_at b k) (bit_at a k) (bit_at-lt b k) (bit_at-lt a k) ∙ ap (λ x. x % 2) (add_comm (bit_at b k) (1 - bit_at a k))
bit-differing (negsuc a) (negsuc b) k = bit_at_xor a b k ∙ odd_two (bit_at a k) (bit_at b k) (bit_at-lt a k) (bit_at-lt b k)

pub bit-of_z : (z : ℤ) (k : ℕ) → FitsSigned w128 z → bit_at (of_z w128 z) (min k 127) ≡ bit z k
bit-of_z (pos n) k f = high_bit n k f.sfits
bit-of_z (negsuc n) k f =
    let turned_round : 2 ^ 128 - suc n ≡ bit_not w128 n = omega arith in
    ap (λ m. bit_at m (min k 127)) turned_round
    ∙ bit_at_not w128 n (min k 127) (omega (arith, f.sfits)) (omega arith)
    ∙ ap (λ x. 1 - x) (high_bit n k f.sfits)

-- bits below 128 that are read as a signed number
module _ (m : ℕ) (small : m < 2 ^ 128) where
  signed : FitsSigned w128 (to_z w128 m)
  signed = sfits_to_z {w = w128} {n = m} record { fits = small }

  read : (k : ℕ) → bit (to_z w128 m) k ≡ bit_at m (min k 127)
  read k = sym (bit-of_z (to_z w128 m) k signed) ∙ ap (λ n. bit_at n (min k 127)) (of_z-to_z w128 m small)

  pub value_of_bits : (z : ℤ) → ((k : ℕ) → bit_at m (min k 127) ≡ bit z k) → Value (to_z w128 m) ≡ ranged z
  value_of_bits z h = ranged_value z (to_z w128 m) signed (same_bits (to_z w128 m) z (λ k. read k ∙ h k))

of_z_small : (z : ℤ) → FitsSigned w128 z → of_z w128 z < 2 ^ 128
of_z_small (pos n) f = omega (arith, f.sfits)
of_z_small (negsuc n) f = omega arith

-- what the code answers, from its own numbers
module _ (a b : ℤ) (fits_a : FitsSigned w128 a) (fits_b : FitsSigned w128 b) where
  pub common_value : Value (to_z w128 (bit_and (of_z w128 a) (of_z w128 b))) ≡ ranged (common_bits a b)
  common_value = value_of_bits (bit_and (of_z w128 a) (of_z w128 b)) (omega (arith, and_le_l (of_z w128 a) (of_z w128 b), of_z_small a fits_a)) (common_bits a b)
      (λ k. bit_at_and (of_z w128 a) (of_z w128 b) (min k 127) ∙ ap (λ x. min x (bit_at (of_z w128 b) (min k 127))) (bit-of_z a k fits_a) ∙ ap (λ x. min (bit a k) x) (bit-of_z b k fits_b) ∙ sym (bit-common a b k))

  pub joined_value : Value (to_z w128 (bit_or (of_z w128 a) (of_z w128 b))) ≡ ranged (joined_bits a b)
  joined_value = value_of_bits (bit_or (of_z w128 a) (of_z w128 b)) (or_lt 128 (of_z w128 a) (of_z w128 b) (of_z_small a fits_a) (of_z_small b fits_b)) (joined_bits a b)
      (λ k. bit_at_or (of_z w128 a) (of_z w128 b) (min k 127) ∙ ap (λ x. max x (bit_at (of_z w128 b) (min k 127))) (bit-of_z a k fits_a) ∙ ap (λ x. max (bit a k) x) (bit-of_z b k fits_b) ∙ sym (bit-joined a b k))

  pub differing_value : Value (to_z w128 (bit_xor (of_z w128 a) (of_z w128 b))) ≡ ranged (differing_bits a b)
  differing_value = value_of_bits (bit_xor (of_z w128 a) (of_z w128 b)) (xor_lt 128 (of_z w128 a) (of_z w128 b) (of_z_small a fits_a) (of_z_small b fits_b)) (differing_bits a b)
      (λ k. bit_at_xor (of_z w128 a) (of_z w128 b) (min k 127) ∙ ap (λ x. (x + bit_at (of_z w128 b) (min k 127)) % 2) (bit-of_z a k fits_a) ∙ ap (λ x. (bit a k + x) % 2) (bit-of_z b k fits_b) ∙ sym (bit-differing a b k))
