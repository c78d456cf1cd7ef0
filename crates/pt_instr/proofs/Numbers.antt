-- Numbers that are none of the first so many.
use Rattle.std.proofs.Common.{◌≡◌, ◌≤◌, ℕ, zero, suc, arith}

-- it is none of the first k numbers
abbrev pub IsNoneBelow : (k n : ℕ) → Type 0
IsNoneBelow zero n = Unit {0}
IsNoneBelow (suc k) n = IsNoneBelow k n × (n ≡ k → ⊥)

pub IsNoneBelow-≤ : (k n : ℕ) → IsNoneBelow k n → k ≤ n
IsNoneBelow-≤ zero n h = omega arith
IsNoneBelow-≤ (suc k) n h = let here : n ≡ k → ⊥ = h.1 in omega (arith, IsNoneBelow-≤ k n h.0)
