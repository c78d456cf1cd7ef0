-- Counts of one name each, summed over different names.
use Rattle.std.proofs.Common.{◌≡◌, ◌+◌, ◌∙◌, ℕ, Bool, true, false, cond, List, [], ◌∷◌, ◌++◌, fold, refl, sym, ap, subst, inl, inr, arith}
use Rattle.std.specs.Prelude.{◌&&◌, ◌||◌}
use Rattle.std.specs.List.{sum_by, list_any, AllByRecursion, IsDistinct}
use Rattle.std.specs.Str.{bytes_eq}
use Rattle.std.proofs.lemmas.Bool.{cases_Bool, false≢true}
use Rattle.std.proofs.lemmas.List.Sums.{sum_by-cons}
use Rattle.std.proofs.lemmas.Slice.Eq.{bytes_eq-Decides}
use Rattle.pt_base.specs.Taken.{Pieces}
use Rattle.pt_cover.specs.Pieces.{Text, kind_of, name_of, is_line}
use Rattle.pt_cover.specs.Counts.{begins_own, lines_begun, own_lines}
use Rattle.pt_cover.specs.Given.{first_given, with_name}
use Rattle.pt_cover.proofs.GivenLemmas.{first_given-differ}
use Rattle.law_reports.specs.Named.{AreNamed}

sum-plus : (f g : Text → ℕ) (ns : List Text) → sum_by (λ n. f n + g n) ns ≡ sum_by f ns + sum_by g ns
sum-plus f g [] = refl
sum-plus f g (n ∷ ns) =
    let more : sum_by (λ k. f k + g k) ns ≡ sum_by f ns + sum_by g ns = sum-plus f g ns in
    let here : sum_by (λ k. f k + g k) (n ∷ ns) ≡ (f n + g n) + sum_by (λ k. f k + g k) ns = sum_by-cons (λ k. f k + g k) n ns in
    let one : sum_by f (n ∷ ns) ≡ f n + sum_by f ns = sum_by-cons f n ns in
    let other : sum_by g (n ∷ ns) ≡ g n + sum_by g ns = sum_by-cons g n ns in
    omega (arith, more, here, one, other)

sum-same : (f g : Text → ℕ) → ((n : Text) → f n ≡ g n) → (ns : List Text) → sum_by f ns ≡ sum_by g ns
sum-same f g same [] = refl
sum-same f g same (n ∷ ns) = sum_by-cons f n ns ∙ (λ i. same n i + sum-same f g same ns i) ∙ sym (sum_by-cons g n ns)

sum-none : (ns : List Text) → sum_by (λ n. 0) ns ≡ 0
sum-none [] = refl
sum-none (n ∷ ns) = sum_by-cons (λ k. 0) n ns ∙ ap (λ k. 0 + k) (sum-none ns)

abbrev is_it : Text → Text → ℕ
is_it m n = cond (bytes_eq n m) 1 0

flipped : (x y : Text) (b : Bool) → bytes_eq y x ≡ b → bytes_eq x y ≡ b
flipped x y true e = (bytes_eq-Decides x y).1 (sym ((bytes_eq-Decides y x).0 e))
flipped x y false e = elim (cases_Bool (bytes_eq x y)) [
  | inl t ↦ absurd (false≢true (sym e ∙ (bytes_eq-Decides y x).1 (sym ((bytes_eq-Decides x y).0 t))))
  | inr f ↦ f
]

-- a name among other ones
none-left : (m : Text) (ns : List Text) → AllByRecursion (λ n. bytes_eq m n ≡ false) ns → sum_by (is_it m) ns ≡ 0
none-left m [] all = refl
none-left m (n ∷ ns) all =
    sum_by-cons (is_it m) n ns ∙ (λ i. cond {A = ℕ} (flipped n m false all.0 i) 1 0 + none-left m ns all.1 i)

one-left : (m : Text) (ns : List Text) → IsDistinct bytes_eq ns → list_any (bytes_eq m) ns ≡ true → sum_by (is_it m) ns ≡ 1
unfolding IsDistinct
one-left m [] d some = absurd (false≢true some)
one-left m (n ∷ ns) d some = sum_by-cons (is_it m) n ns ∙ go (bytes_eq m n) refl some (one-left m ns d.1)
  where
    go : (b : Bool) → bytes_eq m n ≡ b → (b || list_any (bytes_eq m) ns) ≡ true → (list_any (bytes_eq m) ns ≡ true → sum_by (is_it m) ns ≡ 1)
        → is_it m n + sum_by (is_it m) ns ≡ 1
    go true e was more =
        let same : n ≡ m = sym ((bytes_eq-Decides m n).0 e) in
        (λ i. cond {A = ℕ} (flipped n m true e i) 1 0 + none-left m ns (subst (λ k. AllByRecursion (λ y. bytes_eq k y ≡ false) ns) same d.0) i)
    go false e was more = (λ i. cond {A = ℕ} (flipped n m false e i) 1 0 + more was i)

-- a name that is given is first given once
kept-among : (m : Text) (xs ns : List Text) → (list_any (bytes_eq m) xs || list_any (bytes_eq m) ns) ≡ true → list_any (bytes_eq m) (fold with_name xs ns) ≡ true
kept-among m xs [] some = right-none (list_any (bytes_eq m) xs) some
  where
    right-none : (b : Bool) → (b || false) ≡ true → b ≡ true
    right-none true e = refl
    right-none false e = e
kept-among m xs (n ∷ ns) some = kept-among m (with_name xs n) ns (step (list_any (bytes_eq n) xs) refl)
  where
    any-append : (ys : List Text) → list_any (bytes_eq m) (ys ++ n ∷ []) ≡ (list_any (bytes_eq m) ys || (bytes_eq m n || false))
    any-append [] = refl
    any-append (y ∷ ys) = go (bytes_eq m y) (any-append ys)
      where
        go : (b : Bool) → list_any (bytes_eq m) (ys ++ n ∷ []) ≡ (list_any (bytes_eq m) ys || (bytes_eq m n || false))
            → (b || list_any (bytes_eq m) (ys ++ n ∷ [])) ≡ ((b || list_any (bytes_eq m) ys) || (bytes_eq m n || false))
        go true e = refl
        go false e = e

    regroup : (a b c : Bool) → (a || (b || c)) ≡ true → ((a || (b || false)) || c) ≡ true
    regroup true b c e = refl
    regroup false true c e = refl
    regroup false false c e = e

    had : (ys : List Text) (b : Bool) → bytes_eq m n ≡ b → list_any (bytes_eq n) ys ≡ true → b ≡ true → list_any (bytes_eq m) ys ≡ true
    had ys b e any is = subst (λ k. list_any (bytes_eq k) ys ≡ true) (sym ((bytes_eq-Decides m n).0 (e ∙ is))) any

    drop-it : (a b c : Bool) → (a || (b || c)) ≡ true → (b ≡ true → a ≡ true) → (a || c) ≡ true
    drop-it true b c e f = refl
    drop-it false true c e f = absurd (false≢true (f refl))
    drop-it false false c e f = e

    step : (b : Bool) → list_any (bytes_eq n) xs ≡ b → (list_any (bytes_eq m) (with_name xs n) || list_any (bytes_eq m) ns) ≡ true
    step true e =
        subst (λ q. (list_any (bytes_eq m) (cond q xs (xs ++ n ∷ [])) || list_any (bytes_eq m) ns) ≡ true) (sym e)
        (drop-it (list_any (bytes_eq m) xs) (bytes_eq m n) (list_any (bytes_eq m) ns) some (had xs (bytes_eq m n) refl e))
    step false e =
        subst (λ q. (list_any (bytes_eq m) (cond q xs (xs ++ n ∷ [])) || list_any (bytes_eq m) ns) ≡ true) (sym e)
        (subst (λ q. (q || list_any (bytes_eq m) ns) ≡ true) (sym (any-append xs))
        (regroup (list_any (bytes_eq m) xs) (bytes_eq m n) (list_any (bytes_eq m) ns) some))

-- what one event adds
one_event : (e : Text) (ns : List Text) → IsDistinct bytes_eq ns → (is_line (kind_of e) ≡ true → list_any (bytes_eq (name_of e)) ns ≡ true)
    → sum_by (λ n. cond (begins_own n e) 1 0) ns ≡ cond {A = ℕ} (is_line (kind_of e)) 1 0
one_event e ns d named = go (is_line (kind_of e)) named
  where
    go : (b : Bool) → (b ≡ true → list_any (bytes_eq (name_of e)) ns ≡ true) → sum_by (λ n. cond (b && bytes_eq n (name_of e)) 1 0) ns ≡ cond {A = ℕ} b 1 0
    go true n = one-left (name_of e) ns d (n refl)
    go false n = sum-none ns

pub add_up : (ns : List Text) → IsDistinct bytes_eq ns → (es : Pieces) → AreNamed ns es → sum_by (λ n. own_lines n es) ns ≡ lines_begun es
add_up ns d [] named = sum-none ns
add_up ns d (e ∷ es) named =
    sum-same (λ n. own_lines n (e ∷ es)) (λ n. cond (begins_own n e) 1 0 + own_lines n es) (λ n. sum_by-cons (λ x. cond (begins_own n x) 1 0) e es) ns
    ∙ sum-plus (λ n. cond (begins_own n e) 1 0) (λ n. own_lines n es) ns
    ∙ (λ i. one_event e ns d named.0 i + add_up ns d es named.1 i)
    ∙ sym (sum_by-cons (λ x. cond (is_line (kind_of x)) 1 0) e es)

-- events of given names are events of the names as they are first given
still-named : (names : List Text) (es : Pieces) → AreNamed names es → AreNamed (first_given names) es
still-named names [] named = tt
still-named names (e ∷ es) named = (λ is. kept-among (name_of e) [] names (named.0 is), still-named names es named.1)

pub own_lines_are_all : (names : List Text) (es : Pieces) → AreNamed names es → sum_by (λ n. own_lines n es) (first_given names) ≡ lines_begun es
own_lines_are_all names es named = add_up (first_given names) (first_given-differ names) es (still-named names es named)
