-- The last of a list is the first of the list that is turned round.
use Rattle.std.proofs.Common.{◌≡◌, ◌∙◌, ◌-◌, ◌<◌, ℕ, zero, suc, List, [], ◌∷◌, ◌++◌, length, set, reverse, Some, refl, ap, sym, arith}
use Rattle.std.specs.Prelude.{slice_get}
use Rattle.std.proofs.lemmas.List.{length-reverse, reverse-append}
use Rattle.pt_frames.specs.declared.activations.OpenActivation.{OpenActivation}
use Rattle.pt_frames.specs.Lending.{with_newest}

with_newest-append : (xs ys : List OpenActivation) (w : OpenActivation) → 0 < length xs → with_newest (xs ++ ys) w ≡ with_newest xs w ++ ys
with_newest-append [] ys w h = absurd (omega arith)
with_newest-append (x ∷ xs) ys w h = refl

first-append : (xs ys : List OpenActivation) → 0 < length xs → slice_get (xs ++ ys) 0 ≡ slice_get xs 0
first-append [] ys h = absurd (omega arith)
first-append (x ∷ xs) ys h = refl

set-last : (xs : List OpenActivation) (n : ℕ) (w : OpenActivation) → length xs ≡ suc n → reverse (set xs n w) ≡ with_newest (reverse xs) w
set-last [] n w h = absurd (omega arith)
set-last (x ∷ []) zero w h = refl
set-last (x ∷ []) (suc n) w h = absurd (omega arith)
set-last (x ∷ y ∷ ys) zero w h = absurd (omega arith)
set-last (x ∷ y ∷ ys) (suc n) w h =
    let some : 0 < length (reverse (y ∷ ys)) = omega (arith, length-reverse (y ∷ ys)) in
    reverse-append (x ∷ []) (set (y ∷ ys) n w)
    ∙ ap (λ l. l ++ x ∷ []) (set-last (y ∷ ys) n w (omega arith))
    ∙ sym (with_newest-append (reverse (y ∷ ys)) (x ∷ []) w some)
    ∙ ap (λ l. with_newest l w) (sym (reverse-append (x ∷ []) (y ∷ ys)))

get-last : (xs : List OpenActivation) (n : ℕ) (w : OpenActivation) → length xs ≡ suc n → slice_get xs n ≡ Some w → slice_get (reverse xs) 0 ≡ Some w
get-last [] n w h g = absurd (omega arith)
get-last (x ∷ []) zero w h g = g
get-last (x ∷ []) (suc n) w h g = absurd (omega arith)
get-last (x ∷ y ∷ ys) zero w h g = absurd (omega arith)
get-last (x ∷ y ∷ ys) (suc n) w h g =
    let some : 0 < length (reverse (y ∷ ys)) = omega (arith, length-reverse (y ∷ ys)) in
    ap (λ l. slice_get l 0) (reverse-append (x ∷ []) (y ∷ ys)) ∙ first-append (reverse (y ∷ ys)) (x ∷ []) some ∙ get-last (y ∷ ys) n w (omega arith) g

-- another in the last place is the newest
pub newest-set : (xs : List OpenActivation) (n : ℕ) (w : OpenActivation) → n ≡ length xs → 0 < n → reverse (set xs (n - 1) w) ≡ with_newest (reverse xs) w
newest-set xs n w e h = set-last xs (n - 1) w (omega arith)

-- the last is the newest
pub newest-get : (xs : List OpenActivation) (n : ℕ) (w : OpenActivation) → n ≡ length xs → 0 < n → slice_get xs (n - 1) ≡ Some w → slice_get (reverse xs) 0 ≡ Some w
newest-get xs n w e h g = get-last xs (n - 1) w (omega arith) g
