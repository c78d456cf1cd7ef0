-- Lists of kinds by their runs.
use Rattle.std.proofs.Common.{◌≡◌, ℕ, zero, suc, ◌+◌, ◌<◌, ◌≤◌, List, [], ◌∷◌, ◌++◌, length, take, replicate, Some, refl, sym, ap, ◌∙◌, subst, arith, append_assoc, append-nil, ◌⊎◌, inl, inr, get_or}
use Rattle.std.specs.Prelude.{drop, slice_get}
use Rattle.std.proofs.lemmas.Option.{same_Some}
use Rattle.pt_instr.specs.declared.kinds.Kind.{Kind}
use Rattle.pt_instr.specs.Effects.{Kinds}
use Rattle.pt_kinds.specs.Forest.{IsApart}

module _ {X : Type 0} where
  nothing_is : (x : X) (xs : List X) → [] ≡ x ∷ xs → ⊥
  nothing_is x xs e = cc

  first_same : (x y : X) (xs ys : List X) → x ∷ xs ≡ y ∷ ys → x ≡ y
  first_same x y xs ys e = ap (λ l. get_or l 0 x) e

  rest_same : (x y : X) (xs ys : List X) → x ∷ xs ≡ y ∷ ys → xs ≡ ys
  rest_same x y xs ys e = ap (λ l. drop 1 l) e

  front_same : (x y : X) (xs ys : List X) → x ≡ y → xs ≡ ys → x ∷ xs ≡ y ∷ ys
  front_same x y xs ys e f = ap (λ z. z ∷ xs) e ∙ ap (λ l. y ∷ l) f

  pub last_same : (xs ys : List X) (x y : X) → xs ++ x ∷ [] ≡ ys ++ y ∷ [] → (xs ≡ ys) × (x ≡ y)
  last_same [] [] x y e = (refl, first_same x y [] [] e)
  last_same [] (b ∷ []) x y e = absurd (nothing_is y [] (rest_same x b [] (y ∷ []) e))
  last_same [] (b ∷ c ∷ ys) x y e = absurd (nothing_is c (ys ++ y ∷ []) (rest_same x b [] (c ∷ ys ++ y ∷ []) e))
  last_same (a ∷ []) [] x y e = absurd (nothing_is x [] (sym (rest_same a y (x ∷ []) [] e)))
  last_same (a ∷ c ∷ xs) [] x y e = absurd (nothing_is c (xs ++ x ∷ []) (sym (rest_same a y (c ∷ xs ++ x ∷ []) [] e)))
  last_same (a ∷ xs) (b ∷ ys) x y e =
      let r = last_same xs ys x y (rest_same a b (xs ++ x ∷ []) (ys ++ y ∷ []) e) in
      (front_same a b xs ys (first_same a b (xs ++ x ∷ []) (ys ++ y ∷ []) e) r.0, r.1)

  pub replicate_last : (n : ℕ) (x : X) → replicate (suc n) x ≡ replicate n x ++ x ∷ []
  replicate_last zero x = refl
  replicate_last (suc n) x = ap (λ l. x ∷ l) (replicate_last n x)

  -- a run is put on a run of the same
  pub replicate_more : (n m : ℕ) (x : X) → replicate (n + m) x ≡ replicate n x ++ replicate m x
  replicate_more zero m x = ap (λ k. replicate k x) (let z : 0 + m ≡ m = omega arith in z)
  replicate_more (suc n) m x = ap (λ k. replicate k x) (let z : suc n + m ≡ suc (n + m) = omega arith in z) ∙ ap (λ l. x ∷ l) (replicate_more n m x)

  pub take_all : (n : ℕ) (xs : List X) → length xs ≤ n → take n xs ≡ xs
  take_all zero [] h = refl
  take_all zero (x ∷ xs) h = absurd (omega arith)
  take_all (suc n) [] h = refl
  take_all (suc n) (x ∷ xs) h = ap (λ l. x ∷ l) (take_all n xs (omega arith))

  pub take_front : (xs more : List X) → take (length xs) (xs ++ more) ≡ xs
  take_front [] [] = refl
  take_front [] (y ∷ more) = refl
  take_front (x ∷ xs) more = ap (λ l. x ∷ l) (take_front xs more)

  take_replicate : (r c : ℕ) (x : X) (more : List X) → r ≤ c → take r (replicate c x ++ more) ≡ replicate r x
  take_replicate zero zero x [] h = refl
  take_replicate zero zero x (y ∷ more) h = refl
  take_replicate zero (suc c) x more h = refl
  take_replicate (suc r) zero x more h = absurd (omega arith)
  take_replicate (suc r) (suc c) x more h = ap (λ l. x ∷ l) (take_replicate r c x more (omega arith))

  pub take_run : (r c : ℕ) (xs more : List X) (x : X) → r ≤ c → take (length xs + r) ((xs ++ replicate c x) ++ more) ≡ xs ++ replicate r x
  take_run r c [] more x h = subst (λ n. take n (replicate c x ++ more) ≡ replicate r x) (let z : r ≡ 0 + r = omega arith in z) (take_replicate r c x more h)
  take_run r c (y ∷ xs) more x h = subst (λ n. take n (((y ∷ xs) ++ replicate c x) ++ more) ≡ (y ∷ xs) ++ replicate r x) (let z : suc (length xs + r) ≡ suc (length xs) + r = omega arith in z)
      (ap (λ l. y ∷ l) (take_run r c xs more x h))

  -- an element comes behind a list

  pub get_left : (xs ys : List X) (x : X) (i : ℕ) → slice_get xs i ≡ Some x → slice_get (xs ++ ys) i ≡ Some x
  get_left [] ys x i e = absurd (cc)
  get_left (z ∷ xs) ys x zero e = e
  get_left (z ∷ xs) ys x (suc i) e = get_left xs ys x i e

  pub get_last : (xs : List X) (x : X) → slice_get (xs ++ x ∷ []) (length xs) ≡ Some x
  get_last [] x = refl
  get_last (z ∷ xs) x = get_last xs x

  pub get_push : (xs : List X) (x y : X) (i : ℕ) → slice_get (xs ++ x ∷ []) i ≡ Some y → ((i < length xs) × (slice_get xs i ≡ Some y)) ⊎ ((i ≡ length xs) × (x ≡ y))
  get_push [] x y zero e = inr (refl, same_Some x y e)
  get_push [] x y (suc i) e = absurd (cc)
  get_push (z ∷ xs) x y zero e = inl (omega arith, e)
  get_push (z ∷ xs) x y (suc i) e = elim (get_push xs x y i e) [ inl (h, f) ↦ inl (omega (arith, h), f) | inr (h, f) ↦ inr (ap (λ n. suc n) h, f) ]

-- runs upon lists whose tops are of other kinds
strip : (a c : ℕ) (ps qs : Kinds) (k : Kind) → IsApart ps k → IsApart qs k → ps ++ replicate a k ≡ qs ++ replicate c k → (a ≡ c) × (ps ≡ qs)
strip zero zero ps qs k f g e = (refl, sym (append-nil ps) ∙ (e ∙ append-nil qs))
strip zero (suc c) ps qs k f g e = absurd (f (qs ++ replicate c k)
    (sym (append-nil ps) ∙ (e ∙ (ap (λ l. qs ++ l) (replicate_last c k) ∙ sym (append_assoc qs (replicate c k) (k ∷ []))))))
strip (suc a) zero ps qs k f g e = absurd (g (ps ++ replicate a k)
    (sym (append-nil qs) ∙ (sym e ∙ (ap (λ l. ps ++ l) (replicate_last a k) ∙ sym (append_assoc ps (replicate a k) (k ∷ []))))))
strip (suc a) (suc c) ps qs k f g e =
    let r = last_same (ps ++ replicate a k) (qs ++ replicate c k) k k
    (append_assoc ps (replicate a k) (k ∷ []) ∙ (sym (ap (λ l. ps ++ l) (replicate_last a k)) ∙ (e ∙ (ap (λ l. qs ++ l) (replicate_last c k) ∙ sym (append_assoc qs (replicate c k) (k ∷ [])))))) in
    let s = strip a c ps qs k f g r.0 in
    (ap (λ n. suc n) s.0, s.1)

pub same_runs : (a c : ℕ) (ps qs : Kinds) (k l : Kind) → 0 < a → 0 < c → IsApart ps k → IsApart qs l → ps ++ replicate a k ≡ qs ++ replicate c l
    → (ps ≡ qs) × ((a ≡ c) × (k ≡ l))
same_runs zero c ps qs k l h i f g e = absurd (omega (arith, h))
same_runs (suc a) zero ps qs k l h i f g e = absurd (omega (arith, i))
same_runs (suc a) (suc c) ps qs k l h i f g e =
    let r = last_same (ps ++ replicate a k) (qs ++ replicate c l) k l
    (append_assoc ps (replicate a k) (k ∷ []) ∙ (sym (ap (λ m. ps ++ m) (replicate_last a k)) ∙ (e ∙ (ap (λ m. qs ++ m) (replicate_last c l) ∙ sym (append_assoc qs (replicate c l) (l ∷ [])))))) in
    let s = strip a c ps qs k f (subst (λ m. IsApart qs m) (sym r.1) g) (r.0 ∙ ap (λ m. qs ++ replicate c m) (sym r.1)) in
    (s.1, (ap (λ n. suc n) s.0, r.1))
