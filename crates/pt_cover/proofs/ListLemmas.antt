-- Lists with one item changed, and counts of lists with one item more.
use Rattle.std.proofs.Common.{◌≡◌, ◌+◌, ◌-◌, ◌<◌, ◌≤◌, ◌∙◌, ℕ, zero, suc, Bool, true, false, cond, List, [], ◌∷◌, ◌++◌, length, map, take, drop, set, get_or, fold, drop-cons, refl, sym, ap, inl, inr, arith, add-zero, zero-add, one-add, add-one}
use Rattle.std.specs.Prelude.{count_by, nat_lt, not, slice_get, slice_set, ◌||◌, Option, Some, None}
use Rattle.std.specs.List.{sum_by, list_any, position_or_len, AllByRecursion, IsDistinct}
use Rattle.std.proofs.lemmas.Bool.{cases_Bool, false≢true, lt-ltb}
use Rattle.std.proofs.lemmas.List.Sums.{sum_by-cons, sum_by_push}
use Rattle.std.proofs.Math.Seq.{take-append_seam, get_or-append_seam}
use Rattle.std.proofs.lemmas.Option.{slice_get-get_or}
use Rattle.pt_cover.specs.Tallies.{changed_at, more}
use Rattle.pt_cover.specs.Numbers.{limited}

-- a count of one item more
pub count-snoc : {X : Type 0} (p : X → Bool) (xs : List X) (x : X) → count_by p (xs ++ x ∷ []) ≡ count_by p xs + cond (p x) 1 0
count-snoc p xs x = sum_by_push (λ y. cond (p y) 1 0) xs x

pub limited-more : (n : ℕ) → limited (n + 1) ≡ more (limited n)
limited-more n = omega arith

pub limited-same : (n : ℕ) → limited (n + 0) ≡ limited n
limited-same n = ap limited (add-zero n)

pub map-same : {K X : Type 0} (f g : K → X) → ((k : K) → f k ≡ g k) → (ks : List K) → map f ks ≡ map g ks
map-same f g same [] = refl
map-same f g same (k ∷ ks) = ap (λ x. x ∷ map f ks) (same k) ∙ ap (λ xs. g k ∷ xs) (map-same f g same ks)

pub map-map : {K X Y : Type 0} (f : X → Y) (g : K → X) (ks : List K) → map f (map g ks) ≡ map (λ k. f (g k)) ks
map-map f g [] = refl
map-map f g (k ∷ ks) = ap (λ xs. f (g k) ∷ xs) (map-map f g ks)

pub map-id : {K X : Type 0} (f : X → K) (g : K → X) → ((k : K) → f (g k) ≡ k) → (ks : List K) → map f (map g ks) ≡ ks
map-id f g undone [] = refl
map-id f g undone (k ∷ ks) = ap (λ x. x ∷ map f (map g ks)) (undone k) ∙ ap (λ xs. k ∷ xs) (map-id f g undone ks)

-- what a change keeps of each item, it keeps of the list
pub map-changed : {X K : Type 0} (h : X → K) (f : X → X) → ((x : X) → h (f x) ≡ h x) → (xs : List X) (k : ℕ) → map h (changed_at xs k f) ≡ map h xs
map-changed h f kept [] k = refl
map-changed h f kept (x ∷ xs) zero = ap (λ y. y ∷ map h xs) (kept x)
map-changed h f kept (x ∷ xs) (suc k) = ap (λ ys. h x ∷ ys) (map-changed h f kept xs k)

pub sum-of_map : {X K : Type 0} (h : X → K) (w : K → ℕ) (xs : List X) → sum_by (λ x. w (h x)) xs ≡ sum_by w (map h xs)
sum-of_map h w [] = refl
sum-of_map h w (x ∷ xs) =
    sum_by-cons (λ y. w (h y)) x xs ∙ ap (λ n. w (h x) + n) (sum-of_map h w xs) ∙ sym (sum_by-cons w (h x) (map h xs))

pub length-of_map : {X K : Type 0} (h : X → K) (xs : List X) → length xs ≡ length (map h xs)
length-of_map h [] = refl
length-of_map h (x ∷ xs) = ap suc (length-of_map h xs)

module _ {K : Type 0} (same : K → K → Bool) (decides : (a b : K) → (same a b ≡ true → a ≡ b) × (a ≡ b → same a b ≡ true)) where
  unequal : (k m q : K) → same k m ≡ true → same k q ≡ false → same q m ≡ false
  unequal k m q e d = elim (cases_Bool (same q m)) [
    | inl t ↦ absurd (false≢true (sym d ∙ (decides k q).1 ((decides k m).0 e ∙ sym ((decides q m).0 t))))
    | inr f ↦ f
  ]

  -- later keys are other ones
  later-same : {X : Type 0} (g g' : K → X) (k m : K) → same k m ≡ true → ((q : K) → same q m ≡ false → g' q ≡ g q)
      → (ks : List K) → AllByRecursion (λ q. same k q ≡ false) ks → map g' ks ≡ map g ks
  later-same g g' k m e other [] d = refl
  later-same g g' k m e other (q ∷ qs) d = ap (λ x. x ∷ map g' qs) (other q (unequal k m q e d.0)) ∙ ap (λ xs. g q ∷ xs) (later-same g g' k m e other qs d.1)

  at_head : {Y : Type 0} (k m : K) (ks : List K) (P : ℕ → Y) → same k m ≡ true → P (position_or_len (λ q. same q m) (k ∷ ks)) ≡ P 0
  at_head k m ks P e = ap (λ b. P (cond (not b) (1 + position_or_len (λ q. same q m) ks) 0)) e

  past_head : {Y : Type 0} (k m : K) (ks : List K) (P : ℕ → Y) → same k m ≡ false
      → P (position_or_len (λ q. same q m) (k ∷ ks)) ≡ P (suc (position_or_len (λ q. same q m) ks))
  past_head k m ks P e = ap (λ b. P (cond (not b) (1 + position_or_len (λ q. same q m) ks) 0)) e ∙ ap P (one-add (position_or_len (λ q. same q m) ks))

  -- rows by keys that differ: where the row of one key alone changes, it is changed at that key's place
  pub row-changed : {X : Type 0} (g g' : K → X) (f : X → X) (m : K) → ((k : K) → same k m ≡ true → g' k ≡ f (g k)) → ((k : K) → same k m ≡ false → g' k ≡ g k)
      → (ks : List K) → IsDistinct same ks → changed_at (map g ks) (position_or_len (λ k. same k m) ks) f ≡ map g' ks
  unfolding IsDistinct
  row-changed g g' f m here other [] d = refl
  row-changed g g' f m here other (k ∷ ks) d = elim (cases_Bool (same k m)) [
    | inl e ↦ at_head k m ks (λ n. changed_at (g k ∷ map g ks) n f) e ∙ ap (λ x. x ∷ map g ks) (sym (here k e))
        ∙ ap (λ xs. g' k ∷ xs) (sym (later-same g g' k m e other ks d.0))
    | inr e ↦ past_head k m ks (λ n. changed_at (g k ∷ map g ks) n f) e ∙ ap (λ xs. g k ∷ xs) (row-changed g g' f m here other ks d.1)
        ∙ ap (λ x. x ∷ map g' ks) (sym (other k e))
  ]

-- a fold, one item after the other
pub fold_drop : {A X K : Type 0} (f : A → K → A) (h : X → K) (xs : List X) (k : ℕ) (d : X) (a : A) → k < length xs
    → fold f a (map h (drop k xs)) ≡ fold f (f a (h (get_or xs k d))) (map h (drop (k + 1) xs))
fold_drop f h xs k d a below = rw (add-one, drop-cons xs k d) refl

-- some item passes a test where their count isn't 0
pub some-counted : {X : Type 0} (p : X → Bool) (xs : List X) → nat_lt 0 (count_by p xs) ≡ list_any p xs
some-counted p [] = refl
some-counted p (x ∷ xs) = ap (nat_lt 0) (sum_by-cons (λ y. cond (p y) 1 0) x xs) ∙ go (p x) (some-counted p xs)
  where
    go : (b : Bool) → nat_lt 0 (count_by p xs) ≡ list_any p xs → nat_lt 0 (cond b 1 0 + count_by p xs) ≡ (b || list_any p xs)
    go true = λ e. lt-ltb 0 (1 + count_by p xs) (omega arith)
    go false = λ e. ap (nat_lt 0) (zero-add (count_by p xs)) ∙ e

pub take-long : {X : Type 0} (n : ℕ) (xs : List X) → length xs ≤ n → take n xs ≡ xs
take-long zero [] h = refl
take-long (suc n) [] h = refl
take-long zero (x ∷ xs) h = absurd (omega (arith, h))
take-long (suc n) (x ∷ xs) h = ap (λ ys. x ∷ ys) (take-long n xs (omega (arith, h)))

-- a list with an item has a last one
pub last-item : {X : Type 0} (x : X) (xs : List X) → (ys : List X) × (y : X) × (x ∷ xs ≡ ys ++ y ∷ [])
last-item x [] = ([], x, refl)
last-item x (z ∷ zs) = let before = last-item z zs in (x ∷ before.0, before.1, ap (λ ws. x ∷ ws) before.2)

pub length-snoc : {X : Type 0} (xs : List X) (x : X) → length (xs ++ x ∷ []) ≡ length xs + 1
length-snoc [] x = refl
length-snoc (y ∷ ys) x = omega (arith, length-snoc ys x)

pub take-but_last : {X : Type 0} (xs : List X) (x : X) → take (length (xs ++ x ∷ []) - 1) (xs ++ x ∷ []) ≡ xs
take-but_last xs x = let len : length (xs ++ x ∷ []) - 1 ≡ length xs = omega (arith, length-snoc xs x) in
    ap (λ n. take n (xs ++ x ∷ [])) len ∙ take-append_seam xs (x ∷ [])

pub get-last : {X : Type 0} (xs : List X) (x : X) → slice_get (xs ++ x ∷ []) (length (xs ++ x ∷ []) - 1) ≡ Some x
get-last xs x = let len : length (xs ++ x ∷ []) - 1 ≡ length xs = omega (arith, length-snoc xs x) in
    let within : length xs < length (xs ++ x ∷ []) = omega (arith, length-snoc xs x) in
    ap (λ n. slice_get (xs ++ x ∷ []) n) len ∙ slice_get-get_or (xs ++ x ∷ []) (length xs) x within ∙ ap Some (get_or-append_seam xs x [] x)

-- a change at a place, as a write makes it
pub changed-past : {X : Type 0} (xs : List X) (k : ℕ) (f : X → X) → length xs ≤ k → xs ≡ changed_at xs k f
changed-past [] k f past = refl
changed-past (x ∷ xs) zero f past = absurd (omega (arith, past))
changed-past (x ∷ xs) (suc k) f past = ap (λ ys. x ∷ ys) (changed-past xs k f (omega (arith, past)))

pub changed-set : {X : Type 0} (xs : List X) (k : ℕ) (f : X → X) (d : X) → k < length xs → set xs k (f (get_or xs k d)) ≡ changed_at xs k f
changed-set [] k f d below = absurd (omega (arith, below))
changed-set (x ∷ xs) zero f d below = refl
changed-set (x ∷ xs) (suc k) f d below = ap (λ ys. x ∷ ys) (changed-set xs k f d (omega (arith, below)))

-- a map, one item after the other
map-suc : {X : Type 0} (f : X → X) (xs : List X) (k : ℕ) (d : X) → k < length xs
    → set (map f (take k xs) ++ drop k xs) k (f (get_or (map f (take k xs) ++ drop k xs) k d)) ≡ map f (take (suc k) xs) ++ drop (suc k) xs
map-suc f [] k d below = absurd (omega (arith, below))
map-suc f (x ∷ xs) zero d below = refl
map-suc f (x ∷ xs) (suc k) d below = ap (λ ys. f x ∷ ys) (map-suc f xs k d (omega (arith, below)))

pub map-more : {X : Type 0} (f : X → X) (xs : List X) (k : ℕ) (d : X) → k < length xs
    → set (map f (take k xs) ++ drop k xs) k (f (get_or (map f (take k xs) ++ drop k xs) k d)) ≡ map f (take (k + 1) xs) ++ drop (k + 1) xs
map-more f xs k d below = map-suc f xs k d below ∙ ap (λ n. map f (take n xs) ++ drop n xs) (sym (add-one k))

pub map-further : {X : Type 0} (f : X → X) (xs ys : List X) (k : ℕ) (d : X) → k < length xs → ys ≡ map f (take k xs) ++ drop k xs
    → set ys k (f (get_or ys k d)) ≡ map f (take (k + 1) xs) ++ drop (k + 1) xs
map-further f xs ys k d below is = ap (λ zs. set zs k (f (get_or zs k d))) is ∙ map-more f xs k d below

pub changed-got : {X : Type 0} (xs : List X) (k : ℕ) (f : X → X) (y : X) → slice_get xs k ≡ Some y → slice_set xs k (f y) ≡ changed_at xs k f
changed-got [] k f y got = absurd cc
changed-got (x ∷ xs) zero f y got = let is : x ≡ y = cc in ap (λ z. f z ∷ xs) (sym is)
changed-got (x ∷ xs) (suc k) f y got = ap (λ ys. x ∷ ys) (changed-got xs k f y got)

pub changed-none : {X : Type 0} (xs : List X) (k : ℕ) (f : X → X) → slice_get xs k ≡ None → xs ≡ changed_at xs k f
changed-none [] k f none = refl
changed-none (x ∷ xs) zero f none = absurd cc
changed-none (x ∷ xs) (suc k) f none = ap (λ ys. x ∷ ys) (changed-none xs k f none)

-- the first item that passes a test, from a place on
pub place-here : {X K : Type 0} (h : X → K) (p : K → Bool) (xs : List X) (k : ℕ) (d : X) → k < length xs → p (h (get_or xs k d)) ≡ true
    → position_or_len p (map h (drop k xs)) ≡ 0
place-here h p [] k d below e = absurd (omega (arith, below))
place-here h p (x ∷ xs) zero d below e = ap (λ b. cond (not b) (1 + position_or_len p (map h xs)) 0) e
place-here h p (x ∷ xs) (suc k) d below e = place-here h p xs k d (omega (arith, below)) e

place-suc : {X K : Type 0} (h : X → K) (p : K → Bool) (xs : List X) (k : ℕ) (d : X) → k < length xs → p (h (get_or xs k d)) ≡ false
    → position_or_len p (map h (drop k xs)) ≡ 1 + position_or_len p (map h (drop (suc k) xs))
place-suc h p [] k d below e = absurd (omega (arith, below))
place-suc h p (x ∷ xs) zero d below e = ap (λ b. cond (not b) (1 + position_or_len p (map h xs)) 0) e
place-suc h p (x ∷ xs) (suc k) d below e = place-suc h p xs k d (omega (arith, below)) e

pub place-later : {X K : Type 0} (h : X → K) (p : K → Bool) (xs : List X) (k : ℕ) (d : X) → k < length xs → p (h (get_or xs k d)) ≡ false
    → position_or_len p (map h (drop k xs)) ≡ 1 + position_or_len p (map h (drop (k + 1) xs))
place-later h p xs k d below e = place-suc h p xs k d below e ∙ ap (λ n. 1 + position_or_len p (map h (drop n xs))) (sym (add-one k))
