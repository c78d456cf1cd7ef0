-- What parse reads as a number, where no sign stands first.
use Rattle.std.proofs.Common.{◌≡◌, ◌<◌, ◌^◌, ◌==◌, ◌&&◌, ◌∙◌, ℕ, Bool, true, false, cond, List, [], ◌∷◌, length, drop, Option, Some, None, Result, Ok, Err, refl, sym, ap, subst, slice_index, nat_lt, if◌then◌else◌, arith}
use Rattle.std.proofs.lemmas.Bool.{ltb-true, eqb-true, lt-ltb, true≢false}
use Rattle.std.specs.List.{All, list_all}
use Rattle.std.specs.Str.{IsUtf8}
use Rattle.std.proofs.lemmas.Str.{IsUtf8-from_ascii}
use Rattle.std.proofs.lemmas.Str.Ascii.{IsAscii-cons, IsAscii-nil}
use Rattle.std.specs.Str.{IsAscii}
use Rattle.std.proofs.lemmas.Str.Parse.{digit_from_value}
use Rattle.std.specs.Int.{IsInRange}
use Rattle.std.specs.Result.{result_ok}
use Rattle.std.specs.Char.{digit_value}
use Rattle.std.specs.Str.Parse.{AllDigits, IsNumeral, ParsesUnsigned, digits_value, without_leading_plus}
use Rattle.pt_cover.specs.Numbers.{is_number, number_of}

both : (a b : Bool) → (a && b) ≡ true → (a ≡ true) × (b ≡ true)
both true true e = (refl, refl)
both true false e = absurd cc
both false b e = absurd cc

abbrev are_digits : List ℕ → Bool
are_digits = list_all (λ c. nat_lt (digit_value c) 10)

digits_are : (ds : List ℕ) → are_digits ds ≡ true → AllDigits 10 ds
digits_are [] e = tt
digits_are (d ∷ ds) e = (ltb-true _ _ (both _ _ e).0, digits_are ds (both _ _ e).1)

are_tested : (ds : List ℕ) → AllDigits 10 ds → are_digits ds ≡ true
are_tested [] h = refl
are_tested (d ∷ ds) h = rw (lt-ltb (digit_value d) 10 h.0) (are_tested ds h.1)

without_plus : (text : List ℕ) → (slice_index text 0 == 43) ≡ false → without_leading_plus text ≡ text
without_plus text e = ap (λ b. drop (cond b 1 0) text) e

is_tested : (text : List ℕ) → IsNumeral 10 text × (digits_value 10 text < 2 ^ 32) → is_number text ≡ true
is_tested text h = rw (lt-ltb 0 (length text) h.0.0, are_tested text h.0.1) (lt-ltb (digits_value 10 text) (2 ^ 32) h.1)

is_numeral : (text : List ℕ) → is_number text ≡ true → IsNumeral 10 text × (digits_value 10 text < 2 ^ 32)
is_numeral text e =
    let a = both _ _ e in
    let b = both _ _ a.1 in
    ((ltb-true _ _ a.0, digits_are text b.0), ltb-true _ _ b.1)

no_digit : (xs : List ℕ) → is_number (43 ∷ xs) ≡ true → ⊥
no_digit xs t = let digits : are_digits (43 ∷ xs) ≡ true =
    (both (are_digits (43 ∷ xs)) (nat_lt (digits_value 10 (43 ∷ xs)) (2 ^ 32)) (both _ _ t).1).0 in absurd (true≢false (sym digits))

by_test : (text : List ℕ) → (is_number text ≡ true → ⊥) → None ≡ number_of text
by_test text never = go (is_number text) never
  where
    go : (b : Bool) → (b ≡ true → ⊥) → None ≡ (if b then Some (digits_value 10 text) else None)
    go true = λ not_so. absurd (not_so refl)
    go false = λ not_so. refl

-- text that begins with a plus is no number
pub plus_is_none : (text : List ℕ) → (slice_index text 0 == 43) ≡ true → None ≡ number_of text
plus_is_none [] e = refl
plus_is_none (x ∷ xs) e = let is : x ≡ 43 = eqb-true x 43 e in subst (λ y. None ≡ number_of (y ∷ xs)) (sym is) (by_test (43 ∷ xs) (λ t. no_digit xs t))

pub number_is : {E : Type 0} (text : List ℕ) (r : Result ℕ E) (o : Option ℕ) → (slice_index text 0 == 43) ≡ false → ParsesUnsigned 32 10 text r
    → o ≡ result_ok r → o ≡ number_of text
number_is text (Ok n) o plain p is =
    let h = subst (λ t. (IsNumeral 10 t × (digits_value 10 t < 2 ^ 32)) × (n ≡ digits_value 10 t)) (without_plus text plain) p in
    is ∙ ap Some h.1 ∙ sym (rw (is_tested text h.0) refl)
number_is text (Err e) o plain p is =
    let h = subst (λ t. (IsNumeral 10 t × (digits_value 10 t < 2 ^ 32)) → ⊥) (without_plus text plain) p in
    is ∙ by_test text (λ t. h (is_numeral text t))

-- text that isn't UTF-8 is no number
digits_ascii : (ds : List ℕ) → are_digits ds ≡ true → IsAscii ds
digits_ascii [] e = IsAscii-nil
digits_ascii (d ∷ ds) e =
    let range : IsInRange 48 57 d = digit_from_value d (ltb-true _ _ (both _ _ e).0) in
    let small : d < 128 = omega (arith, range) in
    IsAscii-cons d ds small (digits_ascii ds (both _ _ e).1)

pub no_text_is_none : (text : List ℕ) → (IsUtf8 text → ⊥) → None ≡ number_of text
no_text_is_none text never = by_test text (λ t. never (IsUtf8-from_ascii text (digits_ascii text (both _ _ (both _ _ t).1).0)))
