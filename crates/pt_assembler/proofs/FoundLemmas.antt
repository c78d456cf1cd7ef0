-- Tables whose items are found by a function from items to numbers.
use Rattle.std.proofs.Common.{◌≡◌, ℕ, suc, Bool, true, false, cond, List, [], ◌∷◌, ◌++◌, length, Option, Some, None, option_map, Decides, refl, sym, ap, ◌∙◌, subst, arith, if◌then◌else◌, true≢false, is_eq, nat_cmp, nat_lt, nat_eq, Less, Equal, Greater, ltb-true, eqb-true, eq-eqb, lt_irrefl, ◌<◌}
use Rattle.pt_assembler.specs.Tables.{number_in, kept, found_in}

module _ {A : Type 0} (is : A → Bool) where
  some_is_some : (m n : ℕ) → Some m ≡ Some n → m ≡ n
  some_is_some m n e = cc

  one_later : (o : Option ℕ) (n : ℕ) → option_map suc o ≡ Some n → (m : ℕ) × (o ≡ Some m) × (n ≡ suc m)
  one_later None n e = absurd cc
  one_later (Some m) n e = (m, refl, sym (some_is_some (suc m) n e))

  none_later : (o : Option ℕ) → option_map suc o ≡ None → o ≡ None
  none_later None e = refl
  none_later (Some m) e = absurd cc

  -- what is there has its number, and stays
  pub number_of_found : (xs : List A) (n : ℕ) → found_in is xs ≡ Some n → number_in is xs ≡ n
  number_of_found [] n e = absurd cc
  number_of_found (x ∷ xs) n e = by (is x) e (number_of_found xs)
    where
      by : (b : Bool) → (if b then Some 0 else option_map suc (found_in is xs)) ≡ Some n → ((m : ℕ) → found_in is xs ≡ Some m → number_in is xs ≡ m)
          → (if b then 0 else suc (number_in is xs)) ≡ n
      by true e h = some_is_some 0 n e
      by false e h = let l = one_later (found_in is xs) n e in ap suc (h l.0 l.1) ∙ sym l.2

  pub kept_found : (a : A) (xs : List A) (n : ℕ) → found_in is xs ≡ Some n → kept is a xs ≡ xs
  kept_found a [] n e = absurd cc
  kept_found a (x ∷ xs) n e = by (is x) e (kept_found a xs)
    where
      by : (b : Bool) → (if b then Some 0 else option_map suc (found_in is xs)) ≡ Some n → ((m : ℕ) → found_in is xs ≡ Some m → kept is a xs ≡ xs)
          → (if b then x ∷ xs else x ∷ kept is a xs) ≡ x ∷ xs
      by true e h = refl
      by false e h = let l = one_later (found_in is xs) n e in ap (λ ys. x ∷ ys) (h l.0 l.1)

  -- what isn't there comes last
  pub number_of_new : (xs : List A) → found_in is xs ≡ None → number_in is xs ≡ length xs
  number_of_new [] e = refl
  number_of_new (x ∷ xs) e = by (is x) e (number_of_new xs)
    where
      by : (b : Bool) → (if b then Some 0 else option_map suc (found_in is xs)) ≡ None → (found_in is xs ≡ None → number_in is xs ≡ length xs)
          → (if b then 0 else suc (number_in is xs)) ≡ length (x ∷ xs)
      by true e h = absurd cc
      by false e h = let r = h (none_later (found_in is xs) e) in omega arith

  pub kept_new : (a : A) (xs : List A) → found_in is xs ≡ None → kept is a xs ≡ xs ++ a ∷ []
  kept_new a [] e = refl
  kept_new a (x ∷ xs) e = by (is x) e (kept_new a xs)
    where
      by : (b : Bool) → (if b then Some 0 else option_map suc (found_in is xs)) ≡ None → (found_in is xs ≡ None → kept is a xs ≡ xs ++ a ∷ [])
          → (if b then x ∷ xs else x ∷ kept is a xs) ≡ x ∷ xs ++ a ∷ []
      by true e h = absurd cc
      by false e h = ap (λ ys. x ∷ ys) (h (none_later (found_in is xs) e))

  pub found_more : (a : A) (xs : List A) → is a ≡ false → found_in is (xs ++ a ∷ []) ≡ found_in is xs
  found_more a [] e = ap (λ b. if b then Some 0 else None) e
  found_more a (x ∷ xs) e = ap (λ o. if is x then Some 0 else option_map suc o) (found_more a xs e)

  pub found_last : (a : A) (xs : List A) → is a ≡ true → found_in is xs ≡ None → found_in is (xs ++ a ∷ []) ≡ Some (length xs)
  found_last a [] e n = ap (λ b. if b then Some 0 else None) e
  found_last a (x ∷ xs) e n = by (is x) n (found_last a xs e)
    where
      by : (b : Bool) → (if b then Some 0 else option_map suc (found_in is xs)) ≡ None → (found_in is xs ≡ None → found_in is (xs ++ a ∷ []) ≡ Some (length xs))
          → (if b then Some 0 else option_map suc (found_in is (xs ++ a ∷ []))) ≡ Some (length (x ∷ xs))
      by true n h = absurd cc
      by false n h = let r = h (none_later (found_in is xs) n) in ap (option_map suc) r

not_same : {A : Type 0} (E : A → A → Bool) → ((x y : A) → Decides (E x y) (x ≡ y)) → (t : A → Bool) (a x : A) → Decides (t x) (a ≡ x) → (b : Bool)
    → E x a ≡ b → t x ≡ false → b ≡ false
not_same E d t a x dt false s e = refl
not_same E d t a x dt true s e = absurd (true≢false (sym (dt.1 (sym ((d x a).0 s))) ∙ e))

-- a function that finds each item goes on to find one more that is put last
pub finds_more : {A : Type 0} (E : A → A → Bool) → ((x y : A) → Decides (E x y) (x ≡ y)) → (f g : A → Option ℕ) (a : A) (xs : List A)
    → ((x : A) → f x ≡ found_in (E x) xs) → f a ≡ None → (t : A → Bool) → ((x : A) → Decides (t x) (a ≡ x))
    → ((x : A) → g x ≡ cond (t x) (Some (length xs)) (f x)) → (x : A) → g x ≡ found_in (E x) (xs ++ a ∷ [])
finds_more {A} E d f g a xs h n t dt u x = by (t x) refl
  where
    by : (b : Bool) → t x ≡ b → g x ≡ found_in (E x) (xs ++ a ∷ [])
    by true e =
        let same : a ≡ x = (dt x).0 e in
        let none : found_in (E x) xs ≡ None = sym (h x) ∙ ap f (sym same) ∙ n in
        u x ∙ ap (λ b. cond b (Some (length xs)) (f x)) e ∙ sym (found_last (E x) a xs ((d x a).1 (sym same)) none)
    by false e =
        let other : E x a ≡ false = not_same E d t a x (dt x) (E x a) refl e in
        u x ∙ ap (λ b. cond b (Some (length xs)) (f x)) e ∙ h x ∙ sym (found_more (E x) a xs other)

pub nat_cmp_decides : (m n : ℕ) → Decides (is_eq (nat_cmp m n)) (m ≡ n)
nat_cmp_decides m n = by (nat_lt m n) refl (nat_eq m n) refl
  where
    by : (l : Bool) → nat_lt m n ≡ l → (e : Bool) → nat_eq m n ≡ e → Decides (is_eq (cond l Less (cond e Equal Greater))) (m ≡ n)
    by true l e q = (λ x. absurd (true≢false (sym x)), λ x. absurd (lt_irrefl n (subst (λ k. k < n) x (ltb-true m n l))))
    by false l true q = (λ x. eqb-true m n q, λ x. refl)
    by false l false q = (λ x. absurd (true≢false (sym x)), λ x. absurd (true≢false (sym (eq-eqb m n x) ∙ q)))

pub there : {A : Type 0} (is : A → Bool) (a : A) (xs : List A) (n : ℕ) → Some n ≡ found_in is xs → (n ≡ number_in is xs) × (xs ≡ kept is a xs)
there is a xs n e = (sym (number_of_found is xs n (sym e)), sym (kept_found is a xs n (sym e)))

pub new_one : {A : Type 0} (is : A → Bool) (a : A) (xs ys : List A) (n : ℕ) → None ≡ found_in is xs → n ≡ length xs → ys ≡ xs ++ a ∷ []
    → (n ≡ number_in is xs) × (ys ≡ kept is a xs)
new_one is a xs ys n e l h = (l ∙ sym (number_of_new is xs (sym e)), h ∙ sym (kept_new is a xs (sym e)))

pub not_there : {A : Type 0} (is : A → Bool) (xs : List A) → None ≡ found_in is xs → found_in is xs ≡ None
not_there is xs e = sym e
