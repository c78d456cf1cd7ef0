-- The value of digits.
use Rattle.std.proofs.Common.{◌≡◌, ◌≢◌, ℕ, suc, ◌+◌, ◌*◌, ◌≤◌, ◌<◌, List, [], ◌∷◌, Bool, true, false, sym, ◌∙◌, ap, arith, length, drop, get_or}
use Rattle.std.specs.Prelude.{◌==◌, if◌then◌else◌}
use Rattle.std.specs.Char.{digit_value}
use Rattle.std.proofs.lemmas.Bool.{ne_eqb}
use Rattle.std.proofs.Math.Nat.{mul-le-mul_left}
use Rattle.std.proofs.Math.Seq.{drop-cons}
use Rattle.pt_literals.specs.declared.source.Spot.{Spot}
use Rattle.pt_literals.specs.Numbers.{value_from}

digit_grows : (radix n d : ℕ) → 0 < radix → n ≤ n * radix + d
digit_grows radix n d h = omega (arith, mul-le-mul_left n h)

step_grows : (b : Bool) (radix n d : ℕ) → 0 < radix → n ≤ (if b then n else n * radix + d)
step_grows true radix n d h = omega arith
step_grows false radix n d h = digit_grows radix n d h

-- more digits write no smaller number
pub value_grows : (radix n : ℕ) (ss : List Spot) → 0 < radix → n ≤ value_from radix n ss
value_grows radix n [] h = omega arith
value_grows radix n (s ∷ ss) h =
    let k = step_grows (s.char == 95) radix n (digit_value s.char) h in
    let l = value_grows radix (if s.char == 95 then n else n * radix + digit_value s.char) ss h in
    omega arith

value_step : (radix n : ℕ) (s : Spot) (ss : List Spot) → (s.char == 95) ≡ false → value_from radix n (s ∷ ss) ≡ value_from radix (n * radix + digit_value s.char) ss
value_step radix n s ss h = ap (λ b. value_from radix (if b then n else n * radix + digit_value s.char) ss) h

-- digits that write too large a number do so with all that follow
pub value_large : (radix n i bound all v : ℕ) (ss : List Spot) (d : Spot) → 0 < radix → i < length ss → (get_or ss i d).char ≢ 95 → value_from radix n (drop i ss) ≡ all
    → v ≡ digit_value (get_or ss i d).char → bound ≤ n * radix + v → bound ≤ all
value_large radix n i bound all v ss d r h k e is l =
    let s = get_or ss i d in
    let w : value_from radix (n * radix + digit_value s.char) (drop (suc i) ss) ≡ all =
    sym (value_step radix n s (drop (suc i) ss) (ne_eqb s.char 95 k)) ∙ (sym (ap (value_from radix n) (drop-cons ss i d h)) ∙ e) in
    let g = value_grows radix (n * radix + digit_value s.char) (drop (suc i) ss) r in
    omega arith
