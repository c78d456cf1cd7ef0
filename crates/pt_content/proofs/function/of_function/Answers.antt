use Rattle.std.proofs.Common.{◌≡◌, ◌∙◌, ◌-◌, ◌<◌, ◌≤◌, ℕ, zero, suc, Bool, true, false, List, [], ◌∷◌, length, Option, Some, None, Bor, nat_eq, nat_le, nat_lt, slice_get, if◌then◌else◌, refl, sym, ap, arith}
use Rattle.std.specs.Prelude.{IfSome, is_some, slice_index_or}
use Rattle.std.specs.Option.{option_copied}
use Rattle.std.proofs.lemmas.Bool.Decides.{nat_tests}
use Rattle.std.proofs.lemmas.Option.{slice_get_past}
use Rattle.pt_content.specs.declared.function.Function.{Function}
use Rattle.pt_content.specs.declared.function.Function.TheVariants.{Exit}
use Rattle.pt_content.specs.declared.function.TheConstants.{EXIT, FIRST_HIDDEN, FUNCTIONS, HIDDEN_FUNCTIONS}
use Rattle.pt_content.proofs.function.of_function.Goals as goal

not-less : (a b : ℕ) → false ≡ nat_lt a b → b ≤ a
not-less a b e = grind (arith, nat_tests)

is-less : (a b : ℕ) → true ≡ nat_lt a b → a < b
is-less a b e = grind (arith, nat_tests)

standing : (fs : List Function) (i : ℕ) (f : Function) → i < length fs → f ≡ slice_index_or fs i f → Some f ≡ slice_get fs i
standing [] i f l e = absurd (omega (arith, l))
standing (g ∷ fs) zero f l e = ap (λ z. Some z) e
standing (g ∷ fs) (suc i) f l e = standing fs i f (omega (arith, l)) e

-- what a table lends is what stands there
lent : (fs : List Function) (i : ℕ) (r : Option (Bor Function)) → is_some r ≡ nat_lt i (length fs) → IfSome r (λ x. x.now ≡ slice_index_or fs i x.now)
    → option_copied r ≡ slice_get fs i
lent fs i None e f = sym (slice_get_past fs i (not-less i (length fs) e))
lent fs i (Some x) e f = standing fs i x.now (is-less i (length fs) e) f

second : (n m k : ℕ) (x y z : Option Function) → (n ≡ m → ⊥) → k ≤ n → (if nat_eq n m then x else (if nat_le k n then y else z)) ≡ y
second n m k x y z d l = by (nat_eq n m) (nat_le k n) refl refl
  where
    by : (a b : Bool) → nat_eq n m ≡ a → nat_le k n ≡ b → (if a then x else (if b then y else z)) ≡ y
    by true b e f = absurd (d (grind (arith, nat_tests, e)))
    by false true e f = refl
    by false false e f = absurd (grind (arith, nat_tests, f, l))

third : (n m k : ℕ) (x y z : Option Function) → (n ≡ m → ⊥) → n < k → (if nat_eq n m then x else (if nat_le k n then y else z)) ≡ z
third n m k x y z d l = by (nat_eq n m) (nat_le k n) refl refl
  where
    by : (a b : Bool) → nat_eq n m ≡ a → nat_le k n ≡ b → (if a then x else (if b then y else z)) ≡ z
    by true b e f = absurd (d (grind (arith, nat_tests, e)))
    by false true e f = absurd (grind (arith, nat_tests, f, l))
    by false false e f = refl

pub returns-then-number-ge-FIRST_HIDDEN : goal.returns-then-number-ge-FIRST_HIDDEN
returns-then-number-ge-FIRST_HIDDEN c =
    let n = c.args.number in
    c.copied.ensures ∙ lent HIDDEN_FUNCTIONS (n - FIRST_HIDDEN) c.get.result c.get.ensures.lookup.0 c.get.ensures.lookup.1
    ∙ sym (second n EXIT FIRST_HIDDEN (Some Exit) (slice_get HIDDEN_FUNCTIONS (n - FIRST_HIDDEN)) (slice_get FUNCTIONS n) c.if-number-eq-EXIT.false c.if-number-ge-FIRST_HIDDEN.true)

pub returns : goal.returns
returns c =
    let n = c.args.number in
    c.copied-2.ensures ∙ lent FUNCTIONS n c.get-2.result c.get-2.ensures.lookup.0 c.get-2.ensures.lookup.1
    ∙ sym (third n EXIT FIRST_HIDDEN (Some Exit) (slice_get HIDDEN_FUNCTIONS (n - FIRST_HIDDEN)) (slice_get FUNCTIONS n) c.if-number-eq-EXIT.false c.if-number-ge-FIRST_HIDDEN.false)
