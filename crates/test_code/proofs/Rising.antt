-- Numbers that rise up to a place rise past it, where the next one is greater.
use Rattle.std.proofs.Common.{◌≡◌, ◌<◌, ◌≤◌, ◌+◌, ◌-◌, ℕ, Bool, true, false, List, refl, sym, subst, arith}
use Rattle.std.specs.Prelude.{nat_lt, slice_index}
use Rattle.std.proofs.lemmas.Bool.Decides.{nat_tests}

pub one_more : (xs : List ℕ) (next k : ℕ) → 1 ≤ next → slice_index xs (next - 1) < slice_index xs next
    → ((j : ℕ) → j + 1 < next → slice_index xs j < slice_index xs (j + 1)) → k + 1 < next + 1 → slice_index xs k < slice_index xs (k + 1)
one_more xs next k some last before within = by_place (nat_lt (k + 1) next) refl
  where
    by_place : (b : Bool) → nat_lt (k + 1) next ≡ b → slice_index xs k < slice_index xs (k + 1)
    by_place true e = before k (grind (arith, nat_tests))
    by_place false e =
        let past : next ≡ k + 1 = grind (arith, nat_tests) in
        let here : next - 1 ≡ k = omega (arith, past) in
        subst (λ i. slice_index xs k < slice_index xs i) past (subst (λ i. slice_index xs i < slice_index xs next) here last)
