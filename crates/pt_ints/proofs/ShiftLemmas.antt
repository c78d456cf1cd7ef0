-- Shifts, as products with powers of 2 and quotients by them.
use Rattle.std.proofs.Common.{◌≡◌, ◌≢◌, ℕ, zero, suc, ◌-◌, ◌*◌, ◌/◌, ◌%◌, ◌^◌, ◌<◌, ◌≤◌, ℤ, pos, negsuc, refl, sym, ap, ◌∙◌, arith, inl, inr, to_z, of_z}
use Rattle.std.specs.Prelude.{◌*ℤ◌, FitsSigned, unsigned_abs, min}
use Rattle.std.specs.Int.{w128, int_shr}
use Rattle.std.proofs.Math.Nat.{pow-le-pow_right, div-eq_of_lt, div-le_self}
use Rattle.std.proofs.lemmas.Bool.{cases_lt, cases_eq}
use Rattle.std.proofs.lemmas.Int.{unsigned_abs-mul, to_z_pos}
use Rattle.std.proofs.lemmas.Nat.{mul-le, one_shl, pow_below}
use Rattle.pt_ints.specs.declared.answer.IntAns.{IntAns}
use Rattle.pt_ints.specs.declared.answer.IntAns.TheVariants.{Value, Range}
use Rattle.pt_ints.specs.Answer.{ranged}
use Rattle.pt_ints.specs.Integers.{floor_quotient}
use Rattle.pt_ints.proofs.PowerLemmas.{fits_size}
use Rattle.pt_ints.proofs.RangeLemmas.{kept, ranged_value, ranged_range, some_bits, not_minus_one}

grows : (i k : ℕ) → i ≤ k → 2 ^ i ≤ 2 ^ k
grows i k h = pow-le-pow_right {n = 2} (omega arith) {i = i} {j = k} h

-- a shift by 127 or more of any number but 0, and of -1 by 127, is out of range
shifted_out : (a : ℤ) (k : ℕ) → a ≢ pos 0 → 127 ≤ k → (k ≡ 127 → a ≢ negsuc 0) → FitsSigned w128 (a *ℤ pos (2 ^ k)) → ⊥
shifted_out (pos zero) k some many one f = some refl
shifted_out (pos (suc n)) k some many one f = omega (arith, f.sfits, mul-le 1 (2 ^ 127) (suc n) (2 ^ k) (omega arith) (grows 127 k many))
shifted_out (negsuc n) k some many one f =
    let size : unsigned_abs (negsuc n *ℤ pos (2 ^ k)) ≡ suc n * 2 ^ k = unsigned_abs-mul (negsuc n) (pos (2 ^ k)) in
    let small = fits_size (negsuc n *ℤ pos (2 ^ k)) f in
    elim (cases_eq k 127) [
      | inl is ↦ elim (cases_eq n 0) [
        | inl none ↦ one is (ap negsuc none)
        | inr more ↦ omega (arith, size, small, mul-le 2 (2 ^ 127) (suc n) (2 ^ k) (omega arith) (grows 127 k many))
      ]
      | inr other ↦ omega (arith, size, small, mul-le 1 (2 ^ 128) (suc n) (2 ^ k) (omega arith) (grows 128 k (omega arith)))
    ]

below_all : (n m k : ℕ) → n < 2 ^ 127 → m ≡ min k 127 → n / 2 ^ m ≡ n / 2 ^ k
below_all n m k h e = elim (cases_lt k 127) [
  | inl below ↦ ap (λ i. n / 2 ^ i) (omega (arith, e))
  | inr above ↦
      let at : m ≡ 127 = omega (arith, e) in
      ap (λ i. n / 2 ^ i) at ∙ div-eq_of_lt h ∙ sym (div-eq_of_lt (omega (arith, grows 127 k above)))
]

shr_is : (a : ℤ) (m k : ℕ) → FitsSigned w128 a → m ≡ min k 127 → int_shr a m ≡ floor_quotient a (pos (2 ^ k))
shr_is (pos n) m k f e = ap pos (below_all n m k f.sfits e)
shr_is (negsuc n) m k f e = ap negsuc (below_all n m k f.sfits e)

FitsSigned-int_shr : (a : ℤ) (m : ℕ) → FitsSigned w128 a → FitsSigned w128 (int_shr a m)
FitsSigned-int_shr (pos n) m f = record { sfits = omega (arith, f.sfits, div-le_self n (2 ^ m)) }
FitsSigned-int_shr (negsuc n) m f = record { sfits = omega (arith, f.sfits, div-le_self n (2 ^ m)) }

-- what the code answers, from its own numbers
module _ (a : ℤ) (fits : FitsSigned w128 a) (k : ℕ) where
  pub product_value : (r : IntAns) → k < 127 → r ≡ ranged (to_z w128 (of_z w128 a) *ℤ to_z w128 ((1 * 2 ^ k) % 2 ^ 128)) → r ≡ ranged (a *ℤ pos (2 ^ k))
  product_value r small is =
      let shifted : (1 * 2 ^ k) % 2 ^ 128 ≡ 2 ^ k = one_shl k 128 (omega arith) in
      let factor : to_z w128 ((1 * 2 ^ k) % 2 ^ 128) ≡ pos (2 ^ k) = ap (to_z w128) shifted ∙ to_z_pos w128 (2 ^ k) (pow_below k 127 small) in
      is ∙ ap (λ z. ranged (z *ℤ to_z w128 ((1 * 2 ^ k) % 2 ^ 128))) (kept a fits) ∙ ap (λ z. ranged (a *ℤ z)) factor

  pub shifted_range : (of_z w128 a ≡ 0 → ⊥) → 127 ≤ k → (k ≡ 127 → of_z w128 a ≡ 2 ^ 128 - 1 → ⊥) → Range ≡ ranged (a *ℤ pos (2 ^ k))
  shifted_range some many one = ranged_range _ (shifted_out a k (some_bits a some) many (λ e. not_minus_one a (one e)))

  pub shifted_value : (m : ℕ) → m ≡ min k 127 → Value (to_z w128 (of_z w128 (int_shr (to_z w128 (of_z w128 a)) m))) ≡ ranged (floor_quotient a (pos (2 ^ k)))
  shifted_value m e =
      let small = FitsSigned-int_shr a m fits in
      ap (λ z. Value (to_z w128 (of_z w128 (int_shr z m)))) (kept a fits) ∙ ap Value (kept (int_shr a m) small) ∙ ranged_value _ _ small (shr_is a m k fits e)
