-- Slots and activations from the top, which are kept from the bottom.
use Rattle.std.proofs.Common.{◌≡◌, ◌∙◌, ◌-◌, ◌+◌, ◌<◌, ◌≤◌, ℕ, zero, suc, List, [], ◌∷◌, ◌++◌, length, take, drop, reverse, get_or, Option, None, Some, refl, ap, sym, arith, length-drop, add-one}
use Rattle.std.specs.Prelude.{slice_get}
use Rattle.std.specs.Option.{option_or}
use Rattle.std.proofs.lemmas.List.{length-reverse, reverse-append, get_or-reverse, take-append-drop}
use Rattle.std.proofs.lemmas.Option.{slice_get_read}
use Rattle.pt_heap.specs.declared.value.Value.{Value}
use Rattle.pt_frames.specs.declared.activations.OpenActivation.{OpenActivation}
use Rattle.pt_frames.specs.Activations.{OnNewest}
use Rattle.pt_frames.specs.Slots.{first_given}

-- where the newest activation has as many slots as this, and this is above 0, it has one
pub newest-some : (os : List OpenActivation) (n : ℕ) → OnNewest (λ a. n ≡ length a.slots) os → 0 < n → OnNewest (λ a. 0 < length a.slots) os
newest-some [] n h p = h
newest-some (o ∷ os) n h p = omega (arith, h)

drop-behind : {X : Type 0} (xs ys : List X) → drop (length xs) (xs ++ ys) ≡ ys
drop-behind [] ys = refl
drop-behind (x ∷ xs) ys = drop-behind xs ys

-- the lowest are the last from the top
pub cut-reverse : {X : Type 0} (xs : List X) (n : ℕ) → reverse (take n xs) ≡ drop (length (reverse xs) - n) (reverse xs)
cut-reverse xs n =
    let parts : reverse xs ≡ reverse (drop n xs) ++ reverse (take n xs) = ap reverse (sym (take-append-drop n xs)) ∙ reverse-append (take n xs) (drop n xs) in
    let above : length (reverse xs) - n ≡ length (reverse (drop n xs)) = omega (arith, length-reverse xs, length-reverse (drop n xs), length-drop n xs) in
    sym (drop-behind (reverse (drop n xs)) (reverse (take n xs))) ∙ (λ j. drop (sym above j) (sym parts j))

-- so many from the top on
pub get-reverse : {X : Type 0} (xs : List X) (k : ℕ) (x : X) → k < length xs → x ≡ get_or xs (length xs - 1 - k) x → slice_get (reverse xs) k ≡ Some x
get-reverse xs k x h is =
    slice_get_read (reverse xs) (length (reverse xs)) k x refl (omega (arith, length-reverse xs)) (is ∙ sym (get_or-reverse xs k x h))

given-suc : {A : Type 0} (f : A → Option Value) (xs : List A) (n : ℕ) (x : A) → slice_get xs n ≡ Some x
    → first_given f (drop n xs) ≡ option_or (f x) (first_given f (drop (suc n) xs))
given-suc f [] n x h = cc
given-suc f (y ∷ ys) zero x h = let same : y ≡ x = cc in ap (λ z. option_or (f z) (first_given f ys)) same
given-suc f (y ∷ ys) (suc n) x h = given-suc f ys n x h

-- the first of those that are left gives, or one behind it
pub given-next : {A : Type 0} (f : A → Option Value) (xs : List A) (n : ℕ) (x : A) → slice_get xs n ≡ Some x
    → first_given f (drop n xs) ≡ option_or (f x) (first_given f (drop (n + 1) xs))
given-next f xs n x h = given-suc f xs n x h ∙ ap (λ m. option_or (f x) (first_given f (drop m xs))) (sym (add-one n))

drop-all : {X : Type 0} (xs : List X) (n : ℕ) → length xs ≤ n → drop n xs ≡ []
drop-all [] zero h = refl
drop-all [] (suc n) h = refl
drop-all (x ∷ xs) zero h = absurd (omega arith)
drop-all (x ∷ xs) (suc n) h = drop-all xs n (omega arith)

pub given-none : {A : Type 0} (f : A → Option Value) (xs : List A) (n : ℕ) → length xs ≤ n → first_given f (drop n xs) ≡ None
given-none f xs n h = ap (first_given f) (drop-all xs n h)
