-- How the number of listed calls grows.
use Rattle.std.proofs.Common.{◌≡◌, ◌≤◌, ℕ, ◌+◌, List, [], ◌∷◌, length, Bool, true, cond, arith}
use Rattle.std.specs.Prelude.{nat_le, nat_eq, ◌||◌}
use Rattle.std.specs.List.{list_any}
use Rattle.std.proofs.lemmas.Bool.Decides.{nat_tests}
use Rattle.pt_base.specs.Calls.{faults_among}

counted_on : (k made : ℕ) → cond (nat_le k made) 1 0 ≤ cond (nat_le k (made + 1)) 1 0
counted_on k made = grind (arith, nat_tests)

-- one more call may be listed
pub grows : (fails : List ℕ) (made : ℕ) → faults_among fails made ≤ faults_among fails (made + 1)
grows [] made = omega arith
grows (k ∷ ks) made = omega (arith, grows ks made, counted_on k made)

one_step : (k made before now : ℕ) (listed : Bool) → (listed ≡ true → before + 1 ≤ now) → before ≤ now → (nat_eq k (made + 1) || listed) ≡ true
    → cond (nat_le k made) 1 0 + before + 1 ≤ cond (nat_le k (made + 1)) 1 0 + now
one_step k made before now listed up stay is = grind (arith, nat_tests)

-- the number goes up where the call is listed
pub rises : (fails : List ℕ) (made : ℕ) → list_any (λ k. nat_eq k (made + 1)) fails ≡ true → faults_among fails made + 1 ≤ faults_among fails (made + 1)
rises [] made is = cc
rises (k ∷ ks) made is = one_step k made (faults_among ks made) (faults_among ks (made + 1)) (list_any (λ k. nat_eq k (made + 1)) ks) (rises ks made) (grows ks made) is

one_at_most : (k made : ℕ) → cond (nat_le k made) 1 0 ≤ 1
one_at_most k made = grind (arith, nat_tests)

-- no more calls fail than are listed
pub at_most : (fails : List ℕ) (made : ℕ) → faults_among fails made ≤ length fails
at_most [] made = omega arith
at_most (k ∷ ks) made = omega (arith, at_most ks made, one_at_most k made)
