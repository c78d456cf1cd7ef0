-- Stretches by their numbers, and what they lead to.
use Rattle.std.proofs.Common.{◌≡◌, ℕ, ◌+◌, ◌-◌, ◌/◌, ◌<◌, ◌≤◌, Bool, true, false, List, [], ◌∷◌, ◌++◌, length, map, refl, sym, ap, subst, zero, suc, arith, ◌⊎◌, inl, inr}
use Rattle.std.specs.Prelude.{nat_lt, cond, Contains, slice_index_or}
use Rattle.std.proofs.lemmas.List.Elements.{Contains-append_left, Contains-append_right, Contains-append_cases}
use Rattle.std.proofs.lemmas.Bool.Decides.{nat_tests}
use Rattle.pt_ranges.specs.declared.handlers.Handler.{Handler}
use Rattle.pt_sizes.specs.Waiting.{Level, up, stretch_of, stretch}
use Rattle.pt_step_graph.specs.Graph.{within, targets, above_next, stretch_next, width}

pub lt_true : (a b : ℕ) → a < b → nat_lt a b ≡ true
lt_true a b h = grind (arith, nat_tests)

pub lt_false : (a b : ℕ) → b ≤ a → nat_lt a b ≡ false
lt_false a b h = grind (arith, nat_tests)

pub is_lt : (a b : ℕ) → nat_lt a b ≡ true → a < b
is_lt a b h = grind (arith, nat_tests)

pub none_in : {X : Type 0} (x : X) → Contains [] x → ⊥
none_in x (k, lt, is) = absurd (omega arith)

pub only_one : {X : Type 0} (x y : X) → Contains (x ∷ []) y → x ≡ y
only_one x y (zero, lt, e) = e
only_one x y (suc k, lt, e) = absurd (omega arith)

pub the_one : {X : Type 0} (x : X) → Contains (x ∷ []) x
the_one x = (zero, omega arith, refl)

pub later : {X : Type 0} (x : X) (xs : List X) (y : X) → Contains xs y → Contains (x ∷ xs) y
later x xs y (k, lt, e) = (suc k, omega (arith, lt), e)

earlier : {X : Type 0} (x : X) (xs : List X) (y : X) → Contains (x ∷ xs) y → (x ≡ y) ⊎ Contains xs y
earlier x xs y (zero, lt, e) = inl e
earlier x xs y (suc k, lt, e) = inr (k, omega (arith, lt), e)

below_or : (a b : ℕ) → (a < b) ⊎ (b ≤ a)
below_or zero zero = inr (omega arith)
below_or zero (suc b) = inl (omega arith)
below_or (suc a) zero = inr (omega arith)
below_or (suc a) (suc b) = elim (below_or a b) [ inl h ↦ inl (omega arith) | inr h ↦ inr (omega arith) ]

pub in_within : (n : ℕ) (xs : List ℕ) (y : ℕ) → Contains (within n xs) y → (y < n) × Contains xs y
in_within n [] y c = absurd (none_in y c)
in_within n (x ∷ xs) y c = elim (below_or x n) [
  | inl h ↦ elim (earlier x (within n xs) y (subst (λ t. Contains (cond t (x ∷ within n xs) (within n xs)) y) (lt_true x n h) c)) [
    | inl e ↦ (subst (λ z. z < n) e h, subst (λ z. Contains (x ∷ xs) z) e (zero, omega arith, refl))
    | inr k ↦ (let r = in_within n xs y k in (r.0, later x xs y r.1))
  ]
  | inr h ↦ (let r = in_within n xs y (subst (λ t. Contains (cond t (x ∷ within n xs) (within n xs)) y) (lt_false x n h) c) in (r.0, later x xs y r.1))
]

pub is_within : (n : ℕ) (xs : List ℕ) (y : ℕ) → Contains xs y → y < n → Contains (within n xs) y
is_within n [] y c lt = absurd (none_in y c)
is_within n (x ∷ xs) y c lt = elim (earlier x xs y c) [
  | inl e ↦ subst (λ t. Contains (cond t (x ∷ within n xs) (within n xs)) y) (sym (lt_true x n (subst (λ z. z < n) (sym e) lt))) (zero, omega arith, e)
  | inr k ↦ kept (nat_lt x n) (is_within n xs y k lt)
]
  where
    kept : (t : Bool) → Contains (within n xs) y → Contains (cond t (x ∷ within n xs) (within n xs)) y
    kept true k = later x (within n xs) y k
    kept false k = k

in_map : (rows : List Handler) (y : ℕ) → Contains (map (λ row. row.target.0) rows) y → (row : Handler) × (Contains rows row × (row.target.0 ≡ y))
in_map [] y c = absurd (none_in y c)
in_map (row ∷ rows) y (zero, lt, e) = (row, ((zero, omega arith, refl), e))
in_map (row ∷ rows) y (suc k, lt, e) = let (r, (c, f)) = in_map rows y (k, omega (arith, lt), e) in (r, (later row rows r c, f))

is_mapped : (rows : List Handler) (row : Handler) → Contains rows row → Contains (map (λ r. r.target.0) rows) row.target.0
is_mapped [] row c = absurd (none_in row c)
is_mapped (r ∷ rows) row (zero, lt, e) = (zero, omega arith, ap (λ x. x.target.0) e)
is_mapped (r ∷ rows) row (suc k, lt, e) = later r.target.0 (map (λ x. x.target.0) rows) row.target.0 (is_mapped rows row (k, omega (arith, lt), e))

pub in_targets : (n : ℕ) (rows : List Handler) (y : ℕ) → Contains (targets n rows) y → (y < n) × ((row : Handler) × (Contains rows row × (row.target.0 ≡ y)))
in_targets n rows y c = let r = in_within n (map (λ row. row.target.0) rows) y c in (r.0, in_map rows y r.1)

pub is_target : (n : ℕ) (rows : List Handler) (row : Handler) → Contains rows row → row.target.0 < n → Contains (targets n rows) row.target.0
is_target n rows row c lt = is_within n (map (λ r. r.target.0) rows) row.target.0 (is_mapped rows row c) lt

-- the number of a stretch, through the levels
abbrev pub number : List Level → (level stretch : ℕ) → ℕ
number [] k v = v
number (l ∷ ls) zero v = v
number (l ∷ ls) (suc k) v = length l + number ls k v

abbrev pub level_at : List Level → ℕ → Level
level_at ls k = slice_index_or ls k []

pub number_first : (ls : List Level) (v : ℕ) → number ls 0 v ≡ v
number_first [] v = refl
number_first (l ∷ ls) v = refl

pub number_in : (ls : List Level) (k v : ℕ) → k < length ls → v < length (level_at ls k) → number ls k v < width ls
number_in [] k v h lt = absurd (omega arith)
number_in (l ∷ ls) zero v h lt = omega arith
number_in (l ∷ ls) (suc k) v h lt = omega (arith, number_in ls k v (omega arith) lt)

module _ (n : ℕ) where
  abbrev Leads : ℕ → List Level → (k v y : ℕ) → Type 0
  Leads at ls k v y = Contains (targets n (stretch ls k v)) y ⊎ ((suc k < length ls) × (y ≡ at + number ls (suc k) (v / 2)))

  first_leads : (at : ℕ) (l : Level) (ls : List Level) (v y : ℕ) → Contains (targets n (stretch_of l v) ++ above_next (at + length l) ls v) y
      → Leads at (l ∷ ls) zero v y
  first_leads at l [] v y c = elim (Contains-append_cases (targets n (stretch_of l v)) [] y c) [ inl k ↦ inl k | inr k ↦ absurd (none_in y k) ]
  first_leads at l (m ∷ ls) v y c = elim (Contains-append_cases (targets n (stretch_of l v)) ((at + length l + v / 2) ∷ []) y c) [
    | inl k ↦ inl k
    | inr k ↦ inr (omega arith, (let e : at + length l + v / 2 ≡ y = only_one (at + length l + v / 2) y k in omega (arith, e)))
  ]

  pub stretch_leads : (at : ℕ) (ls : List Level) (k v i y : ℕ) → k < length ls → v < length (level_at ls k) → i ≡ number ls k v
      → Contains (stretch_next n at ls i) y → Leads at ls k v y
  stretch_leads at [] k v i y h lt e c = absurd (omega arith)
  stretch_leads at (l ∷ ls) zero v i y h lt e c =
      let e' : i ≡ v = e in
      first_leads at l ls v y (subst (λ j. Contains (targets n (stretch_of l j) ++ above_next (at + length l) ls j) y) e'
      (subst (λ t. Contains (cond t (targets n (stretch_of l i) ++ above_next (at + length l) ls i) (stretch_next n (at + length l) ls (i - length l))) y)
      (lt_true i (length l) (let q : v < length l = lt in omega (arith, e', q))) c))
  stretch_leads at (l ∷ ls) (suc k) v i y h lt e c =
      let e' : i ≡ length l + number ls k v = e in
      let c' = subst (λ t. Contains (cond t (targets n (stretch_of l i) ++ above_next (at + length l) ls i)
      (stretch_next n (at + length l) ls (i - length l))) y)
      (lt_false i (length l) (omega (arith, e'))) c in
      elim (stretch_leads (at + length l) ls k v (i - length l) y (omega arith) lt (omega (arith, e')) c') [
        | inl a ↦ inl a
        | inr (a, b) ↦ inr (omega (arith, a), omega (arith, b))
      ]

  pub stretch_has : (at : ℕ) (ls : List Level) (k v i y : ℕ) → k < length ls → v < length (level_at ls k) → i ≡ number ls k v → Leads at ls k v y
      → Contains (stretch_next n at ls i) y
  stretch_has at [] k v i y h lt e d = absurd (omega arith)
  stretch_has at (l ∷ ls) zero v i y h lt e d =
      let e' : i ≡ v = e in
      subst (λ t. Contains (cond t (targets n (stretch_of l i) ++ above_next (at + length l) ls i) (stretch_next n (at + length l) ls (i - length l))) y)
      (sym (lt_true i (length l) (let q : v < length l = lt in omega (arith, e', q))))
      (subst (λ j. Contains (targets n (stretch_of l j) ++ above_next (at + length l) ls j) y) (sym e') (has ls d))
    where
      has : (ls : List Level) → Leads at (l ∷ ls) zero v y → Contains (targets n (stretch_of l v) ++ above_next (at + length l) ls v) y
      has ls (inl a) = Contains-append_left (targets n (stretch_of l v)) (above_next (at + length l) ls v) y a
      has [] (inr (a, b)) = absurd (omega arith)
      has (m ∷ ls) (inr (a, b)) = Contains-append_right (targets n (stretch_of l v)) ((at + length l + v / 2) ∷ []) y
          (let f : at + length l + v / 2 ≡ y = omega (arith, b) in subst (λ z. Contains ((at + length l + v / 2) ∷ []) z) f (the_one (at + length l + v / 2)))
  stretch_has at (l ∷ ls) (suc k) v i y h lt e d =
      let e' : i ≡ length l + number ls k v = e in
      subst (λ t. Contains (cond t (targets n (stretch_of l i) ++ above_next (at + length l) ls i) (stretch_next n (at + length l) ls (i - length l))) y)
      (sym (lt_false i (length l) (omega (arith, e'))))
      (stretch_has (at + length l) ls k v (i - length l) y (omega arith) lt (omega (arith, e')) (on d))
    where
      on : Leads at (l ∷ ls) (suc k) v y → Leads (at + length l) ls k v y
      on (inl a) = inl a
      on (inr (a, b)) = inr (omega (arith, a), omega (arith, b))

pub up_le : (k q p : ℕ) → q ≤ p → up k q ≤ up k p
up_le zero q p h = h
up_le (suc k) q p h = let r = up_le k q p h in omega (arith, r)
