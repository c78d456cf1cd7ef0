-- Sets of events by their bits.
use Rattle.std.proofs.Common.{◌≡◌, ℕ, zero, suc, ◌==◌, ◌-◌, ◌*◌, ◌^◌, ◌<◌, ◌≤◌, min, max, Bool, true, false, cond, not, ◌&&◌, ◌||◌, List, [], ◌∷◌, ℤ, pos, negsuc, unsigned_abs, true≢false, Option, None, Some, is_some, refl, sym, ap, ◌∙◌, subst, arith, inl, inr, bit_and, bit_or, w32, pow_pos}
use Rattle.std.proofs.lemmas.Nat.Bits.{bit_at_and, bit_at_or, bit_at_not, bit_at-zero, bit_at-pow_same, bit_at-pow_other, bit_at-lt, and_pow}
use Rattle.std.proofs.lemmas.Bool.{cases_eq, cases_lt, eq-eqb, ne_eqb, lt-ltb, le-ltb, ltb-false, cond-true, cond-false}
use Rattle.std.specs.Int.{bit_at, FitsUnsignedBits}
use Rattle.std.specs.List.{AllByRecursion}
use Rattle.bitflags.specs.Sets.{without}
use Rattle.sem_run.specs.run.Tools as run
use Rattle.sem_run.specs.run.Tools.{has, gives, needs_call, are_listed, only_bit, unsigned}
use Rattle.pt_monitor.specs.declared.event.MonEvent.{MonEvent}
use Rattle.pt_monitor.specs.declared.event.MonEvent.TheVariants as event
use Rattle.pt_monitor.specs.Events.{bit_of, listed}

-- numbers below 2
is_one-times : (x k : ℕ) → x < 2 → 0 < k → (x * k == k) ≡ (x == 1)
is_one-times zero k h p = ne_eqb (zero * k) k (λ e. absurd (omega arith))
is_one-times (suc zero) k h p = eq-eqb (1 * k) k (omega arith)
is_one-times (suc (suc x)) k h p = absurd (omega arith)

is_one-max : (x y : ℕ) → x < 2 → y < 2 → (max x y == 1) ≡ ((x == 1) || (y == 1))
is_one-max zero zero h k = refl
is_one-max zero (suc zero) h k = refl
is_one-max (suc zero) zero h k = refl
is_one-max (suc zero) (suc zero) h k = refl
is_one-max (suc (suc x)) y h k = absurd (omega arith)
is_one-max zero (suc (suc y)) h k = absurd (omega arith)
is_one-max (suc zero) (suc (suc y)) h k = absurd (omega arith)

is_one-min : (x y : ℕ) → x < 2 → y < 2 → (min x y == 1) ≡ ((x == 1) && (y == 1))
is_one-min zero zero h k = refl
is_one-min zero (suc zero) h k = refl
is_one-min (suc zero) zero h k = refl
is_one-min (suc zero) (suc zero) h k = refl
is_one-min (suc (suc x)) y h k = absurd (omega arith)
is_one-min zero (suc (suc y)) h k = absurd (omega arith)
is_one-min (suc zero) (suc (suc y)) h k = absurd (omega arith)

is_one-less : (x : ℕ) → x < 2 → (1 - x == 1) ≡ not (x == 1)
is_one-less zero h = refl
is_one-less (suc zero) h = refl
is_one-less (suc (suc x)) h = absurd (omega arith)

-- a set has an event whose flag it contains
pub contains_flag : (s b : ℕ) → (bit_and s (2 ^ b) == 2 ^ b) ≡ has s b
contains_flag s b = ap (λ n. n == 2 ^ b) (and_pow s b) ∙ is_one-times (bit_at s b) (2 ^ b) (bit_at-lt s b) (pow_pos b)

pub has-union : (s t b : ℕ) → has (bit_or s t) b ≡ (has s b || has t b)
has-union s t b = ap (λ n. n == 1) (bit_at_or s t b) ∙ is_one-max (bit_at s b) (bit_at t b) (bit_at-lt s b) (bit_at-lt t b)

pub has-intersection : (s t b : ℕ) → has (bit_and s t) b ≡ (has s b && has t b)
has-intersection s t b = ap (λ n. n == 1) (bit_at_and s t b) ∙ is_one-min (bit_at s b) (bit_at t b) (bit_at-lt s b) (bit_at-lt t b)

pub has-without : (s t b : ℕ) → t < 2 ^ 32 → b < 32 → has (without 32 s t) b ≡ (has s b && not (has t b))
has-without s t b low below =
    has-intersection s (2 ^ 32 - 1 - t) b ∙ ap (λ x. has s b && x) (ap (λ n. n == 1) (bit_at_not w32 t b low below) ∙ is_one-less (bit_at t b) (bit_at-lt t b))

pub has-flag : (k b : ℕ) → has (2 ^ k) b ≡ (k == b)
has-flag k b = elim (cases_eq k b) [
  | inl same ↦ subst (λ n. has (2 ^ k) n ≡ (k == n)) same (ap (λ n. n == 1) (bit_at-pow_same k) ∙ sym (eq-eqb k k refl))
  | inr apart ↦ ap (λ n. n == 1) (bit_at-pow_other k b (λ e. apart (sym e))) ∙ sym (ne_eqb k b apart)
]

pub bit_below : (e : MonEvent) → bit_of e < 32
bit_below event.PyStart = omega arith
bit_below event.PyResume = omega arith
bit_below event.PyReturn = omega arith
bit_below event.PyYield = omega arith
bit_below event.PyThrow = omega arith
bit_below event.PyUnwind = omega arith
bit_below event.Call = omega arith
bit_below event.CReturn = omega arith
bit_below event.CRaise = omega arith
bit_below event.Line = omega arith
bit_below event.Jump = omega arith
bit_below event.Branch = omega arith
bit_below event.Raise = omega arith
bit_below event.Reraise = omega arith
bit_below event.ExceptionHandled = omega arith
bit_below event.StopIteration = omega arith

pub flag_below : (e : MonEvent) → 2 ^ bit_of e < 2 ^ 32
flag_below event.PyStart = omega arith
flag_below event.PyResume = omega arith
flag_below event.PyReturn = omega arith
flag_below event.PyYield = omega arith
flag_below event.PyThrow = omega arith
flag_below event.PyUnwind = omega arith
flag_below event.Call = omega arith
flag_below event.CReturn = omega arith
flag_below event.CRaise = omega arith
flag_below event.Line = omega arith
flag_below event.Jump = omega arith
flag_below event.Branch = omega arith
flag_below event.Raise = omega arith
flag_below event.Reraise = omega arith
flag_below event.ExceptionHandled = omega arith
flag_below event.StopIteration = omega arith

-- the set of all events but C_RETURN and C_RAISE
without_c : (e : MonEvent) (c : Bool) → c ≡ false → has 65151 (bit_of e) ≡ (not (needs_call (bit_of e)) || c)
without_c event.PyStart c h = refl
without_c event.PyResume c h = refl
without_c event.PyReturn c h = refl
without_c event.PyYield c h = refl
without_c event.PyThrow c h = refl
without_c event.PyUnwind c h = refl
without_c event.Call c h = refl
without_c event.CReturn c h = sym h
without_c event.CRaise c h = sym h
without_c event.Line c h = refl
without_c event.Jump c h = refl
without_c event.Branch c h = refl
without_c event.Raise c h = refl
without_c event.Reraise c h = refl
without_c event.ExceptionHandled c h = refl
without_c event.StopIteration c h = refl

pub given-no_call : (s : ℕ) (e : MonEvent) → has s 6 ≡ false → has (bit_and s 65151) (bit_of e) ≡ gives s (bit_of e)
given-no_call s e h = has-intersection s 65151 (bit_of e) ∙ ap (λ x. has s (bit_of e) && x) (without_c e (has s 6) h)

or_true : (x c : Bool) → c ≡ true → true ≡ (not x || c)
or_true true c h = sym h
or_true false c h = refl

and_true : (x : Bool) → x ≡ (x && true)
and_true true = refl
and_true false = refl

pub given-call : (s b : ℕ) → has s 6 ≡ true → has s b ≡ gives s b
given-call s b h = and_true (has s b) ∙ ap (λ x. has s b && x) (or_true (needs_call b) (has s 6) h)

-- a number beyond the sets is that of no event
pub none_of : (s : ℕ) (bs : List ℕ) → AllByRecursion (λ b. s ≡ 2 ^ b → ⊥) bs → only_bit s bs ≡ None
none_of s [] h = refl
none_of s (b ∷ bs) h = ap (λ t. cond t (Some b) (only_bit s bs)) (ne_eqb s (2 ^ b) h.0) ∙ none_of s bs h.1

only_bit-beyond : (s : ℕ) → are_listed s ≡ false → only_bit s run.bits ≡ None
only_bit-beyond s h = above (ltb-false s (2 ^ 16) h)
  where
    other : (b : ℕ) → b < 65536 → 65536 ≤ s → s ≡ b → ⊥
    other b low l e = omega arith

    above : 65536 ≤ s → only_bit s run.bits ≡ None
    above l = none_of s run.bits (
      other 1 (omega arith) l,
      (
        other 2 (omega arith) l,
        (
          other 4 (omega arith) l,
          (
            other 8 (omega arith) l,
            (
              other 16 (omega arith) l,
              (
                other 32 (omega arith) l,
                (
                  other 64 (omega arith) l,
                  (
                    other 128 (omega arith) l,
                    (
                      other 256 (omega arith) l,
                      (
                        other 512 (omega arith) l,
                        (
                          other 1024 (omega arith) l,
                          (
                            other 2048 (omega arith) l,
                            (other 4096 (omega arith) l, (other 8192 (omega arith) l, (other 16384 (omega arith) l, (other 32768 (omega arith) l, tt)))),
                          ),
                        ),
                      ),
                    ),
                  ),
                ),
              ),
            ),
          ),
        ),
      ),
    )

pub some_same : (a b : ℕ) → Some a ≡ Some b → a ≡ b
some_same a b e = cc

pub some_none : (a : ℕ) → Some a ≡ None → ⊥
some_none a e = true≢false (ap (λ (o : Option ℕ). is_some o) e)

-- numbers as sets
pub listed_within : (z : ℤ) (b : ℕ) → FitsUnsignedBits 32 z → b ≡ unsigned_abs z → b ≤ 65535 → Some b ≡ listed z
listed_within (pos n) b f e l = sym (cond-true (are_listed n) (Some n) None (lt-ltb n (2 ^ 16) (omega arith)) ∙ ap (λ (k : ℕ). Some k) (sym e))
listed_within (negsuc n) b f e l = absurd f

pub listed_beyond : (z : ℤ) (b : ℕ) → FitsUnsignedBits 32 z → b ≡ unsigned_abs z → 65535 < b → None ≡ listed z
listed_beyond (pos n) b f e l = sym (cond-false (are_listed n) (Some n) None (le-ltb n (2 ^ 16) (omega arith)))
listed_beyond (negsuc n) b f e l = absurd f

pub listed_far : (z : ℤ) → (FitsUnsignedBits 32 z → ⊥) → None ≡ listed z
listed_far (pos n) h = sym (cond-false (are_listed n) (Some n) None (le-ltb n (2 ^ 16) (elim (cases_lt n (2 ^ 32)) [ inl l ↦ absurd (h l) | inr g ↦ omega arith ])))
listed_far (negsuc n) h = refl

pub of_none : (z : ℤ) → None ≡ listed z → None ≡ only_bit (unsigned z) run.bits
of_none z e = by (are_listed (unsigned z)) refl e
  where
    by : (t : Bool) → are_listed (unsigned z) ≡ t → None ≡ cond t (Some (unsigned z)) None → None ≡ only_bit (unsigned z) run.bits
    by true h e = cc
    by false h e = sym (only_bit-beyond (unsigned z) h)

pub listed_is : (z : ℤ) (s : ℕ) → Some s ≡ listed z → (s ≡ unsigned z) × (are_listed (unsigned z) ≡ true)
listed_is z s e = by (are_listed (unsigned z)) refl e
  where
    by : (t : Bool) → are_listed (unsigned z) ≡ t → Some s ≡ cond t (Some (unsigned z)) None → (s ≡ unsigned z) × (are_listed (unsigned z) ≡ true)
    by true h e = (some_same s (unsigned z) e, h)
    by false h e = absurd (some_none s e)

pub of_listed : (z : ℤ) (s : ℕ) (o : Option ℕ) → Some s ≡ listed z → o ≡ only_bit s run.bits → o ≡ only_bit (unsigned z) run.bits
of_listed z s o e h = h ∙ ap (λ k. only_bit k run.bits) (listed_is z s e).0

pub none_listed : (z : ℤ) → None ≡ listed z → are_listed (unsigned z) ≡ false
none_listed z e = by (are_listed (unsigned z)) e
  where
    by : (t : Bool) → None ≡ cond t (Some (unsigned z)) None → t ≡ false
    by true e = absurd (some_none (unsigned z) (sym e))
    by false e = refl

pub has-none : (b : ℕ) → has 0 b ≡ false
has-none b = ap (λ n. n == 1) (bit_at-zero b)

-- one of seven
pub any_of_seven : (a b c d e f g : Bool) → ((((((a || b) || c) || d) || e) || f) || g) ≡ (a || (b || (c || (d || (e || (f || (g || false)))))))
any_of_seven true b c d e f g = refl
any_of_seven false true c d e f g = refl
any_of_seven false false true d e f g = refl
any_of_seven false false false true e f g = refl
any_of_seven false false false false true f g = refl
any_of_seven false false false false false true g = refl
any_of_seven false false false false false false true = refl
any_of_seven false false false false false false false = refl
