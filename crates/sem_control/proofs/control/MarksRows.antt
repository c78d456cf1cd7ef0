-- What is said of each row of a list, numbered from a number on: that it is the row of another list with its number, or whatever is asserted of the
-- number alone.
use Rattle.std.proofs.Common.{◌≡◌, ℕ, ◌+◌, ◌<◌, ◌≤◌, zero, suc, List, [], ◌∷◌, ◌++◌, length, true, false, Some, refl, ap, ◌∙◌, subst, arith, append_assoc}
use Rattle.std.specs.Prelude.{slice_get}
use Rattle.pt_tree.specs.declared.act.ActRow.{ActRow}
use Rattle.pt_tree.specs.declared.act.ActKind.{ActKind}
use Rattle.pt_tree.specs.Acts.{act, again}
use Rattle.sem_control.proofs.control.MarksTree.{Numbering}

-- a row has the kind and the line of another, and its re-test mark
pub record Like (r x : ActRow) : Type 0 where
  pub same_kind : r.kind ≡ x.kind
  pub same_line : r.line.0 ≡ x.line.0
  pub keeps_again : x.again ≡ true → r.again ≡ true

-- what is said of a row with its number, and of a number with which a re-test begins
pub record Saying : Type 1 where
  pub of_row : ℕ → ActRow → Type 0
  pub of_test : ℕ → Type 0
  pub plain : (n : ℕ) (x : ActRow) → of_row n (record { kind = x.kind; line = x.line; again = true }) → of_row n x
  pub tests : (n : ℕ) (x : ActRow) → of_row n (record { kind = x.kind; line = x.line; again = true }) → of_test n

-- it is the row of a list with its number
abbrev pub is_row : List ActRow → Saying
is_row rows = record {
  of_row = λ n x. (r : ActRow) × (slice_get rows n ≡ Some r) × Like r x;
  of_test = λ n. (r : ActRow) × (slice_get rows n ≡ Some r) × (r.again ≡ true);
  plain = λ n x u. (
    u.0,
    u.1,
    record { same_kind = u.2.same_kind; same_line = u.2.same_line; keeps_again = λ t. u.2.keeps_again refl },
  );
  tests = λ n x u. (u.0, u.1, u.2.keeps_again refl);
}

-- whatever is asserted of its number
abbrev pub is_said : (ℕ → Type 0) → Saying
is_said P = record { of_row = λ n x. P n; of_test = λ n. Unit {0}; plain = λ n x h. h; tests = λ n x h. tt }

module _ (H : Saying) where
  pub Holds : ℕ → List ActRow → Type 0
  Holds n xs = (i : ℕ) (x : ActRow) → slice_get xs i ≡ Some x → H.of_row (n + i) x

  abbrev pub numbering : Numbering
  numbering = record { is = λ k l n. Holds n (act k l); again = H.of_test }

  front : (xs ys : List ActRow) (i : ℕ) (x : ActRow) → slice_get xs i ≡ Some x → slice_get (xs ++ ys) i ≡ Some x
  front [] ys i x e = absurd (apart i e)
    where
      apart : (i : ℕ) → slice_get [] i ≡ Some x → ⊥
      apart i e = cc
  front (y ∷ xs) ys zero x e = e
  front (y ∷ xs) ys (suc i) x e = front xs ys i x e

  back : (xs ys : List ActRow) (i : ℕ) → slice_get (xs ++ ys) (length xs + i) ≡ slice_get ys i
  back [] ys i = ap (slice_get ys) (omega arith)
  back (x ∷ xs) ys i = let e : suc (length xs) + i ≡ suc (length xs + i) = omega arith in ap (slice_get (x ∷ xs ++ ys)) e ∙ back xs ys i

  pub cut : (xs ys : List ActRow) (m n : ℕ) → length xs ≡ m → Holds n (xs ++ ys) → Holds n xs × Holds (n + m) ys
  unfolding Holds
  cut xs ys m n e h = (
    λ i x g. h i x (front xs ys i x g),
    λ i x g.
        let at : n + (length xs + i) ≡ n + m + i = omega (arith, e) in
        subst (λ j. H.of_row j x) at (h (length xs + i) x (back xs ys i ∙ g)),
  )

  -- lists in a row are grouped from the left
  pub regroup : (xs ys zs : List ActRow) (n : ℕ) → Holds n (xs ++ ys ++ zs) → Holds n (xs ++ (ys ++ zs))
  regroup xs ys zs n h = subst (λ u. Holds n u) (append_assoc xs ys zs) h

  pub cut₃ : (xs ys zs : List ActRow) (a b n : ℕ) → length xs ≡ a → length ys ≡ b → Holds n (xs ++ ys ++ zs)
      → Holds n xs × Holds (n + a) ys × Holds (n + a + b) zs
  cut₃ xs ys zs a b n ea eb h =
      let f = cut xs (ys ++ zs) a n ea (regroup xs ys zs n h) in
      let g = cut ys zs b (n + a) eb f.1 in (f.0, g.0, g.1)

  pub cut₄ : (xs ys zs us : List ActRow) (a b c n : ℕ) → length xs ≡ a → length ys ≡ b → length zs ≡ c → Holds n (xs ++ ys ++ zs ++ us)
      → Holds n xs × Holds (n + a) ys × Holds (n + a + b) zs × Holds (n + a + b + c) us
  cut₄ xs ys zs us a b c n ea eb ec h =
      let f = cut₃ xs ys (zs ++ us) a b n ea eb (regroup (xs ++ ys) zs us n h) in
      let g = cut zs us c (n + a + b) ec f.2 in (f.0, f.1, g.0, g.1)

  pub cut₅ : (xs ys zs us vs : List ActRow) (a b c d n : ℕ) → length xs ≡ a → length ys ≡ b → length zs ≡ c → length us ≡ d
      → Holds n (xs ++ ys ++ zs ++ us ++ vs)
      → Holds n xs × Holds (n + a) ys × Holds (n + a + b) zs × Holds (n + a + b + c) us × Holds (n + a + b + c + d) vs
  cut₅ xs ys zs us vs a b c d n ea eb ec ed h =
      let f = cut₄ xs ys zs (us ++ vs) a b c n ea eb ec (regroup (xs ++ ys ++ zs) us vs n h) in
      let g = cut us vs d (n + a + b + c) ed f.3 in (f.0, f.1, f.2, g.0, g.1)

  pub cut₆ : (xs ys zs us vs ws : List ActRow) (a b c d e n : ℕ) → length xs ≡ a → length ys ≡ b → length zs ≡ c → length us ≡ d → length vs ≡ e
      → Holds n (xs ++ ys ++ zs ++ us ++ vs ++ ws)
      → Holds n xs × Holds (n + a) ys × Holds (n + a + b) zs × Holds (n + a + b + c) us × Holds (n + a + b + c + d) vs × Holds (n + a + b + c + d + e) ws
  cut₆ xs ys zs us vs ws a b c d e n ea eb ec ed ee h =
      let f = cut₅ xs ys zs us (vs ++ ws) a b c d n ea eb ec ed (regroup (xs ++ ys ++ zs ++ us) vs ws n h) in
      let g = cut vs ws e (n + a + b + c + d) ee f.4 in (f.0, f.1, f.2, f.3, g.0, g.1)

  -- also without the mark of a re-test
  pub plainly : (xs : List ActRow) (n : ℕ) → Holds n (again xs) → Holds n xs
  unfolding Holds
  plainly xs n h = λ i x e. one xs i x h e
    where
      one : (ys : List ActRow) (i : ℕ) (x : ActRow) → Holds n (again ys) → slice_get ys i ≡ Some x → H.of_row (n + i) x
      one [] i x g e = g i x e
      one (y ∷ ys) zero x g e =
          let same : y ≡ x = cc in
          subst (λ z. H.of_row (n + 0) z) same
          (H.plain (n + 0) y (g 0 (record { kind = y.kind; line = y.line; again = true }) refl))
      one (y ∷ ys) (suc i) x g e = g (suc i) x e

  pub tested : (xs : List ActRow) (n : ℕ) → 1 ≤ length xs → Holds n (again xs) → H.of_test n
  unfolding Holds
  tested [] n h g = absurd (omega arith)
  tested (y ∷ ys) n h g =
      let at : n + 0 ≡ n = omega arith in
      subst (λ j. H.of_test j) at (H.tests (n + 0) y (g 0 (record { kind = y.kind; line = y.line; again = true }) refl))

-- the rows of a list are those with their numbers
pub whole : (rows : List ActRow) → Holds (is_row rows) 0 rows
unfolding Holds
whole rows i x e =
    let at : i ≡ 0 + i = omega arith in
    (x, subst (λ j. slice_get rows j ≡ Some x) at e, record { same_kind = refl; same_line = refl; keeps_again = λ t. t })

-- the row of a single act
pub single_row : (rows : List ActRow) (k : ActKind) (l n : ℕ) → Holds (is_row rows) n (act k l)
    → (r : ActRow) × (slice_get rows n ≡ Some r) × (r.kind ≡ k) × (r.line.0 ≡ l)
unfolding Holds
single_row rows k l n h =
    let u = h 0 (record { kind = k; line = record { 0 = l }; again = false }) refl in
    let at : n + 0 ≡ n = omega arith in
    (u.0, subst (λ j. slice_get rows j ≡ Some u.0) at u.1, u.2.same_kind, u.2.same_line)

-- what is asserted of the number of a single act, and of each of several
pub single_said : (P : ℕ → Type 0) (k : ActKind) (l n : ℕ) → Holds (is_said P) n (act k l) → P n
unfolding Holds
single_said P k l n h =
    let u = h 0 (record { kind = k; line = record { 0 = l }; again = false }) refl in
    let at : n + 0 ≡ n = omega arith in subst P at u

in_list : (xs : List ActRow) (i : ℕ) (x : ActRow) → slice_get xs i ≡ Some x → i < length xs
in_list [] i x e = absurd (apart i e)
  where
    apart : (i : ℕ) → slice_get [] i ≡ Some x → ⊥
    apart i e = cc
in_list (y ∷ xs) zero x e = omega arith
in_list (y ∷ xs) (suc i) x e = let h = in_list xs i x e in omega (arith, h)

pub each_said : (P : ℕ → Type 0) (xs : List ActRow) (n m : ℕ) → n + length xs ≡ m
    → ((k : ℕ) → n ≤ k → k < m → P k) → Holds (is_said P) n xs
unfolding Holds
each_said P xs n m many h i x e =
    let low : n ≤ n + i = omega arith in
    let below = in_list xs i x e in
    let high : n + i < m = omega (arith, many, below) in h (n + i) low high
