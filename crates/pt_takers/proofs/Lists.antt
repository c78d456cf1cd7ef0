-- Lists that grow at their end, and the first element of which a test holds.
use Rattle.std.proofs.Common.{◌≡◌, ◌⊎◌, inl, inr, ℕ, zero, suc, ◌<◌, ◌≤◌, Bool, true, false, if◌then◌else◌, List, [], ◌∷◌, ◌++◌, length, Option, Some, None, refl, sym, ap, ◌∙◌, arith, Bor}
use Rattle.std.specs.Prelude.{Contains, IfSome, is_some, nat_lt, slice_get, slice_index_or, find}
use Rattle.std.specs.Option.{option_copied, option_or}
use Rattle.std.proofs.lemmas.Bool.{false≢true}
use Rattle.std.proofs.lemmas.Bool.Decides.{nat_tests}
use Rattle.std.proofs.lemmas.List.Folds.{find-append}
use Rattle.std.proofs.lemmas.Option.{same_Some}

pub not_less : (a b : ℕ) → false ≡ nat_lt a b → b ≤ a
not_less a b e = grind (arith, nat_tests)

pub is_less : (a b : ℕ) → true ≡ nat_lt a b → a < b
is_less a b e = grind (arith, nat_tests)

module _ {X : Type 0} where
  pub none_some : (x : X) → None ≡ Some x → ⊥
  none_some x e = cc

  pub none_in : (x : X) → Contains [] x → ⊥
  none_in x (k, l, e) = absurd (omega arith)

  pub got_in : (xs : List X) (i : ℕ) (x : X) → slice_get xs i ≡ Some x → Contains xs x
  got_in [] i x e = absurd (none_some x e)
  got_in (y ∷ xs) zero x e = (zero, omega arith, same_Some _ _ e)
  got_in (y ∷ xs) (suc i) x e = let (k, l, g) = got_in xs i x e in (suc k, omega (arith, l), g)

  pub in_got : (xs : List X) (x : X) → Contains xs x → (i : ℕ) × (slice_get xs i ≡ Some x)
  in_got [] x c = absurd (none_in x c)
  in_got (y ∷ xs) x (zero, l, e) = (zero, ap (λ z. Some z) e)
  in_got (y ∷ xs) x (suc k, l, e) = let (i, g) = in_got xs x (k, omega (arith, l), e) in (suc i, g)

  pub got_below : (xs : List X) (i : ℕ) (x : X) → slice_get xs i ≡ Some x → i < length xs
  got_below [] i x e = absurd (none_some x e)
  got_below (y ∷ xs) zero x e = omega arith
  got_below (y ∷ xs) (suc i) x e = let h = got_below xs i x e in omega (arith, h)

  pub got_left : (xs ys : List X) (i : ℕ) (x : X) → slice_get xs i ≡ Some x → slice_get (xs ++ ys) i ≡ Some x
  got_left [] ys i x e = absurd (none_some x e)
  got_left (y ∷ xs) ys zero x e = e
  got_left (y ∷ xs) ys (suc i) x e = got_left xs ys i x e

  pub got_last : (xs : List X) (x : X) → slice_get (xs ++ x ∷ []) (length xs) ≡ Some x
  got_last [] x = refl
  got_last (y ∷ xs) x = got_last xs x

  pub got_cases : (xs : List X) (x : X) (i : ℕ) (y : X) → slice_get (xs ++ x ∷ []) i ≡ Some y
      → (slice_get xs i ≡ Some y) ⊎ ((i ≡ length xs) × (x ≡ y))
  got_cases [] x zero y e = inr (refl, same_Some _ _ e)
  got_cases [] x (suc i) y e = absurd (none_some y e)
  got_cases (z ∷ xs) x zero y e = inl e
  got_cases (z ∷ xs) x (suc i) y e = elim (got_cases xs x i y e) [ inl a ↦ inl a | inr (a, c) ↦ inr (ap (λ n. suc n) a, c) ]

  none_got : (xs : List X) (i : ℕ) → length xs ≤ i → slice_get xs i ≡ None
  none_got [] i h = refl
  none_got (x ∷ xs) zero h = absurd (omega (arith, h))
  none_got (x ∷ xs) (suc i) h = none_got xs i (omega (arith, h))

  some_got : (xs : List X) (i : ℕ) (y : X) → i < length xs → y ≡ slice_index_or xs i y → Some y ≡ slice_get xs i
  some_got [] i y l e = absurd (omega (arith, l))
  some_got (x ∷ xs) zero y l e = ap (λ z. Some z) e
  some_got (x ∷ xs) (suc i) y l e = some_got xs i y (omega (arith, l)) e

  -- what a slice lends is what stands there
  pub lent : (xs : List X) (i : ℕ) (r : Option (Bor X)) → is_some r ≡ nat_lt i (length xs) → IfSome r (λ x. x.now ≡ slice_index_or xs i x.now)
      → option_copied r ≡ slice_get xs i
  lent xs i None e f = sym (none_got xs i (not_less i (length xs) e))
  lent xs i (Some x) e f = some_got xs i x.now (is_less i (length xs) e) f

  module _ (p : X → Bool) where
    pub find_here : (x : X) (xs : List X) → p x ≡ true → find p (x ∷ xs) ≡ Some x
    find_here x xs e = ap (λ t. if t then Some x else find p xs) e

    pub find_later : (x : X) (xs : List X) → p x ≡ false → find p (x ∷ xs) ≡ find p xs
    find_later x xs e = ap (λ t. if t then Some x else find p xs) e

    -- where none is found the test holds of none
    pub find_none : (xs : List X) (i : ℕ) (x : X) → find p xs ≡ None → slice_get xs i ≡ Some x → p x ≡ true → ⊥
    find_none [] i x none e t = none_some x e
    find_none (y ∷ xs) i x none e t = by_test (λ j n g. find_none xs j x n g t) (p y) refl i e
      where
        by_test : ((j : ℕ) → find p xs ≡ None → slice_get xs j ≡ Some x → ⊥) → (b : Bool) → p y ≡ b → (i : ℕ) → slice_get (y ∷ xs) i ≡ Some x → ⊥
        by_test more true h i e = none_some y (sym none ∙ find_here y xs h)
        by_test more false h zero e = false≢true (sym h ∙ (ap p (same_Some _ _ e) ∙ t))
        by_test more false h (suc i) e = more i (sym (find_later y xs h) ∙ none) e

    -- the first place from which the test holds
    pub find_at_point : (xs : List X) (n : ℕ) → ((i : ℕ) (x : X) → i < n → slice_get xs i ≡ Some x → p x ≡ false)
        → ((x : X) → slice_get xs n ≡ Some x → p x ≡ true) → find p xs ≡ slice_get xs n
    find_at_point [] n low here = refl
    find_at_point (x ∷ xs) zero low here = find_here x xs (here x refl)
    find_at_point (x ∷ xs) (suc n) low here = find_later x xs (low zero x (omega arith) refl)
        ∙ find_at_point xs n (λ i y lt e. low (suc i) y (omega (arith, lt)) e) here

    pub find_push : (xs ys : List X) (x : X) → find p xs ≡ find p ys → find p (xs ++ x ∷ []) ≡ find p (ys ++ x ∷ [])
    find_push xs ys x e = find-append p xs (x ∷ []) ∙ (ap (λ o. option_or o (find p (x ∷ []))) e ∙ sym (find-append p ys (x ∷ [])))

    -- what fails wherever none was found isn't found
    pub find_as_before : (xs : List X) (x : X) → (find p xs ≡ None → p x ≡ true → ⊥) → find p (xs ++ x ∷ []) ≡ find p xs
    find_as_before xs x fails = find-append p xs (x ∷ []) ∙ by_first (find p xs) refl
      where
        by_first : (o : Option X) → find p xs ≡ o → option_or o (find p (x ∷ [])) ≡ o
        by_first (Some y) e = refl
        by_first None e = by_test (p x) refl
          where
            by_test : (b : Bool) → p x ≡ b → find p (x ∷ []) ≡ None
            by_test true h = absurd (fails e h)
            by_test false h = find_later x [] h
