-- Numbers that have no 128 bits are beyond the range of integers, whatever their sign.
use Rattle.std.proofs.Common.{◌≡◌, ◌∙◌, ◌-◌, ◌≤◌, ℕ, zero, suc, ℤ, Bool, true, false, Option, Some, None, nat_le, if◌then◌else◌, refl, sym, ap, arith}
use Rattle.std.specs.Prelude.{◌^◌, nat_lt}
use Rattle.std.proofs.lemmas.Bool.Decides.{nat_tests}
use Rattle.std.specs.Option.{option_map}
use Rattle.pt_ints.specs.declared.answer.IntAns.TheVariants.{Value, Range}
use Rattle.pt_ints.specs.Answer.{is_in_range, ranged}
use Rattle.pt_prims.specs.IntegerTexts.{saturated, signed}

not-below : (a b : ℕ) → b ≤ a → nat_lt a b ≡ false
not-below a b l = grind (arith, nat_tests)

beyond : (negative : Bool) (n : ℕ) → 2 ^ 128 - 1 ≤ n → is_in_range (signed negative n) ≡ false
beyond false n l = not-below n (2 ^ 127) (omega (arith, l))
beyond true zero l = absurd (omega (arith, l))
beyond true (suc n) l = not-below n (2 ^ 127) (omega (arith, l))

none-ranged : (a b : ℤ) → is_in_range a ≡ false → is_in_range b ≡ false → ranged a ≡ ranged b
none-ranged a b e f = ap (λ t. if t then Value a else Range) e ∙ sym (ap (λ t. if t then Value b else Range) f)

pub ranged-alike : (negative : Bool) (n : ℕ) → ranged (signed negative (saturated n)) ≡ ranged (signed negative n)
ranged-alike negative n = by (nat_le n (2 ^ 128 - 1)) refl
  where
    by : (t : Bool) → nat_le n (2 ^ 128 - 1) ≡ t → ranged (signed negative (saturated n)) ≡ ranged (signed negative n)
    by true e = let same : saturated n ≡ n = grind (arith, nat_tests, e) in ap (λ m. ranged (signed negative m)) same
    by false e =
        let more : 2 ^ 128 - 1 ≤ n = grind (arith, nat_tests, e) in
        let top : 2 ^ 128 - 1 ≤ saturated n = grind (arith, nat_tests, e) in
        none-ranged (signed negative (saturated n)) (signed negative n) (beyond negative (saturated n) top) (beyond negative n more)

pub signed-alike : (negative : Bool) (o : Option ℕ) → option_map (λ n. ranged (signed negative n)) (option_map saturated o) ≡ option_map ranged (option_map (signed negative) o)
signed-alike negative None = refl
signed-alike negative (Some n) = ap Some (ranged-alike negative n)
