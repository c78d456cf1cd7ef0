-- Leads in lists, rows by their numbers, and what comes along a lead.
use Rattle.std.proofs.Common.{◌≡◌, ℕ, ◌+◌, ◌<◌, ◌≤◌, zero, suc, Bool, true, false, List, [], ◌∷◌, ◌++◌, length, map, filter, take, drop, Some, None, refl, sym, ap, ◌∙◌, subst, arith, ◌⊎◌, inl, inr}
use Rattle.std.specs.Prelude.{nat_lt, cond, Contains, slice_get}
use Rattle.std.proofs.lemmas.Option.{same_Some}
use Rattle.pt_instr.specs.declared.kinds.Kind.TheVariants.{Value}
use Rattle.pt_instr.specs.Effects.{Kinds}
use Rattle.pt_ranges.specs.declared.handlers.Handler.{Handler}
use Rattle.pt_kind_flow.specs.Flow.{led_by}
use Rattle.pt_step_graph.proofs.Numbers.{lt_true, lt_false, none_in}
use Rattle.sem_fits.specs.fits.Steps.{swapped}
use Rattle.pt_block_kinds.specs.Leads.{Lead, inside, numbered}

pub later : {X : Type 0} (x : X) (xs : List X) (y : X) → Contains xs y → Contains (x ∷ xs) y
later x xs y (k, lt, e) = (suc k, omega (arith, lt), e)

pub earlier : {X : Type 0} (x : X) (xs : List X) (y : X) → Contains (x ∷ xs) y → (x ≡ y) ⊎ Contains xs y
earlier x xs y (zero, lt, e) = inl e
earlier x xs y (suc k, lt, e) = inr (k, omega (arith, lt), e)

pub below_or : (a b : ℕ) → (a < b) ⊎ (b ≤ a)
below_or zero zero = inr (omega arith)
below_or zero (suc b) = inl (omega arith)
below_or (suc a) zero = inr (omega arith)
below_or (suc a) (suc b) = elim (below_or a b) [ inl h ↦ inl (omega arith) | inr h ↦ inr (omega arith) ]

module _ {X Y : Type 0} (f : X → Y) where
  pub map_has : (xs : List X) (x : X) → Contains xs x → Contains (map f xs) (f x)
  map_has [] x c = absurd (none_in x c)
  map_has (y ∷ ys) x c = elim (earlier y ys x c) [
    | inl e ↦ (zero, omega arith, ap f e)
    | inr d ↦ later (f y) (map f ys) (f x) (map_has ys x d)
  ]

  pub in_map : (xs : List X) (y : Y) → Contains (map f xs) y → (x : X) × (Contains xs x × (f x ≡ y))
  in_map [] y c = absurd (none_in y c)
  in_map (x ∷ xs) y c = elim (earlier (f x) (map f xs) y c) [
    | inl e ↦ (x, ((zero, omega arith, refl), e))
    | inr d ↦ (let (z, (k, e)) = in_map xs y d in (z, (later x xs z k, e)))
  ]

module _ {X : Type 0} (test : X → Bool) where
  pub in_filter : (xs : List X) (x : X) → Contains (filter test xs) x → Contains xs x × (test x ≡ true)
  in_filter [] x c = absurd (none_in x c)
  in_filter (y ∷ ys) x c = by_test (λ d. in_filter ys x d) (test y) refl c
    where
      by_test : (Contains (filter test ys) x → Contains ys x × (test x ≡ true)) → (t : Bool) → test y ≡ t
          → Contains (cond t (y ∷ filter test ys) (filter test ys)) x → Contains (y ∷ ys) x × (test x ≡ true)
      by_test rest true e d = elim (earlier y (filter test ys) x d) [
        | inl f ↦ ((zero, omega arith, f), sym (ap test f) ∙ e)
        | inr k ↦ (let r = rest k in (later y ys x r.0, r.1))
      ]
      by_test rest false e d = let r = rest d in (later y ys x r.0, r.1)

  pub filter_has : (xs : List X) (x : X) → Contains xs x → test x ≡ true → Contains (filter test xs) x
  filter_has [] x c t = absurd (none_in x c)
  filter_has (y ∷ ys) x c t = elim (earlier y ys x c) [
    | inl e ↦ subst (λ b. Contains (cond b (y ∷ filter test ys) (filter test ys)) x) (sym (ap test e ∙ t)) (zero, omega arith, e)
    | inr d ↦ kept (test y) (filter_has ys x d t)
  ]
    where
      kept : (b : Bool) → Contains (filter test ys) x → Contains (cond b (y ∷ filter test ys) (filter test ys)) x
      kept true k = later y (filter test ys) x k
      kept false k = k

pub in_inside : (n : ℕ) (ls : List Lead) (l : Lead) → Contains (inside n ls) l → (l.to < n) × Contains ls l
in_inside n [] l c = absurd (none_in l c)
in_inside n (m ∷ ls) l c = elim (below_or m.to n) [
  | inl h ↦ elim (earlier m (inside n ls) l (subst (λ t. Contains (cond t (m ∷ inside n ls) (inside n ls)) l) (lt_true m.to n h) c)) [
    | inl e ↦ (subst (λ x. x.to < n) e h, (zero, omega arith, e))
    | inr k ↦ (let r = in_inside n ls l k in (r.0, later m ls l r.1))
  ]
  | inr h ↦ (let r = in_inside n ls l (subst (λ t. Contains (cond t (m ∷ inside n ls) (inside n ls)) l) (lt_false m.to n h) c) in (r.0, later m ls l r.1))
]

pub inside_has : (n : ℕ) (ls : List Lead) (l : Lead) → Contains ls l → l.to < n → Contains (inside n ls) l
inside_has n [] l c lt = absurd (none_in l c)
inside_has n (m ∷ ls) l c lt = elim (earlier m ls l c) [
  | inl e ↦ subst (λ t. Contains (cond t (m ∷ inside n ls) (inside n ls)) l) (sym (lt_true m.to n (subst (λ x. x.to < n) (sym e) lt))) (zero, omega arith, e)
  | inr k ↦ kept (nat_lt m.to n) (inside_has n ls l k lt)
]
  where
    kept : (t : Bool) → Contains (inside n ls) l → Contains (cond t (m ∷ inside n ls) (inside n ls)) l
    kept true k = later m (inside n ls) l k
    kept false k = k

-- rows by their numbers

abbrev pub with_number : ℕ → Handler → Handler
with_number k row = record row { target = record { 0 = k } }

pub in_numbered : (k : ℕ) (rows : List Handler) (r : Handler) → Contains (numbered k rows) r
    → (j : ℕ) × ((row : Handler) × ((slice_get rows j ≡ Some row) × (with_number (k + j) row ≡ r)))
in_numbered k [] r c = absurd (none_in r c)
in_numbered k (row ∷ rows) r c = elim (earlier (with_number k row) (numbered (k + 1) rows) r c) [
  | inl e ↦ (zero, (row, (refl, ap (λ i. with_number i row) (let z : k + 0 ≡ k = omega arith in z) ∙ e)))
  | inr d ↦ (let (j, (s, (a, e))) = in_numbered (k + 1) rows r d in
      (suc j, (s, (a, ap (λ i. with_number i s) (let z : k + suc j ≡ (k + 1) + j = omega arith in z) ∙ e))))
]

pub numbered_has : (k : ℕ) (rows : List Handler) (j : ℕ) (row : Handler) → slice_get rows j ≡ Some row
    → Contains (numbered k rows) (with_number (k + j) row)
numbered_has k [] j row e = absurd (none_some row e)
  where
    none_some : (x : Handler) → None ≡ Some x → ⊥
    none_some x e = cc
numbered_has k (r ∷ rows) zero row e = (zero, omega arith, ap (λ i. with_number i r) (let z : k ≡ k + 0 = omega arith in z) ∙ ap (with_number (k + 0)) (same_Some r row e))
numbered_has k (r ∷ rows) (suc j) row e = later (with_number k r) (numbered (k + 1) rows) (with_number (k + suc j) row)
    (subst (λ i. Contains (numbered (k + 1) rows) (with_number i row)) (let z : (k + 1) + j ≡ k + suc j = omega arith in z) (numbered_has (k + 1) rows j row e))

pub got_in : {X : Type 0} (xs : List X) (j : ℕ) (x : X) → slice_get xs j ≡ Some x → Contains xs x
got_in [] j x e = absurd (let h : None ≡ Some x = e in cc)
got_in (y ∷ ys) zero x e = (zero, omega arith, same_Some y x e)
got_in (y ∷ ys) (suc j) x e = later y ys x (got_in ys j x e)

pub got_below : {X : Type 0} (xs : List X) (j : ℕ) (x : X) → slice_get xs j ≡ Some x → j < length xs
got_below [] j x e = absurd (let h : None ≡ Some x = e in cc)
got_below (y ∷ ys) zero x e = omega arith
got_below (y ∷ ys) (suc j) x e = let h = got_below ys j x e in omega (arith, h)

pub has_number : {X : Type 0} (xs : List X) (x : X) → Contains xs x → (j : ℕ) × (slice_get xs j ≡ Some x)
has_number [] x c = absurd (none_in x c)
has_number (y ∷ ys) x c = elim (earlier y ys x c) [
  | inl e ↦ (zero, ap (λ z. Some z) e)
  | inr d ↦ (let (j, e) = has_number ys x d in (suc j, e))
]

-- what comes along

pub led_cut : (n : ℕ) (ks : Kinds) → led_by n [] false ks ≡ take n ks
led_cut zero ks = refl
led_cut (suc n) [] = refl
led_cut (suc n) (k ∷ ks) = ap (λ xs. k ∷ xs) (led_cut n ks)

pub led_given : (n : ℕ) (given ks : Kinds) → n ≤ length ks → led_by n given false ks ≡ take n ks ++ given
led_given zero given ks h = given_nil given
  where
    given_nil : (xs : Kinds) → xs ++ [] ≡ xs
    given_nil [] = refl
    given_nil (x ∷ xs) = ap (λ ys. x ∷ ys) (given_nil xs)
led_given (suc n) given [] h = absurd (omega (arith, h))
led_given (suc n) given (k ∷ ks) h = ap (λ xs. k ∷ xs) (led_given n given ks (omega (arith, h)))

-- the lower of two comes to the top
pub led_swapped : (n : ℕ) (given ks : Kinds) → length ks ≡ n + 2 → led_by n (Value ∷ []) true ks ≡ take n ks ++ swapped (drop n ks) given
led_swapped zero given [] h = absurd (omega (arith, h))
led_swapped zero given (k ∷ []) h = absurd (omega (arith, h))
led_swapped zero given (k ∷ l ∷ []) h = refl
led_swapped zero given (k ∷ l ∷ m ∷ ks) h = absurd (omega (arith, h))
led_swapped (suc n) given [] h = absurd (omega (arith, h))
led_swapped (suc n) given (k ∷ ks) h = ap (λ xs. k ∷ xs) (led_swapped n given ks (omega (arith, h)))

pub take_shorter : (d n : ℕ) (ks : Kinds) → d ≤ n → take d (take n ks) ≡ take d ks
take_shorter zero n ks h = refl
take_shorter (suc d) zero ks h = absurd (omega (arith, h))
take_shorter (suc d) (suc n) [] h = refl
take_shorter (suc d) (suc n) (k ∷ ks) h = ap (λ xs. k ∷ xs) (take_shorter d n ks (omega (arith, h)))

pub take_long : (d n : ℕ) (ks : Kinds) → d ≤ n → d ≤ length ks → d ≤ length (take n ks)
take_long zero n ks h l = omega arith
take_long (suc d) zero ks h l = absurd (omega (arith, h))
take_long (suc d) (suc n) [] h l = absurd (omega (arith, l))
take_long (suc d) (suc n) (k ∷ ks) h l = let r = take_long d n ks (omega (arith, h)) (omega (arith, l)) in omega (arith, r)
