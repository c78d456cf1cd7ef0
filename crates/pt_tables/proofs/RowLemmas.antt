-- What stands behind a name in a table whose names differ.
use Rattle.std.proofs.Common.{◌≡◌, ℕ, zero, suc, List, [], ◌∷◌, ◌⊎◌, Option, Some, Bool, true, false, IsTrue, refl, sym, ap, ◌∙◌, subst, inl, inr, arith}
use Rattle.std.specs.Prelude.{Contains, not, ◌↔◌}
use Rattle.std.specs.List.{list_any}
use Rattle.std.specs.Str.{bytes_eq}
use Rattle.std.proofs.lemmas.Bool.{and_parts, or_left, or_right, cases_Bool, false≢true}
use Rattle.std.proofs.lemmas.Slice.Eq.{bytes_eq-Decides}
use Rattle.pt_tables.specs.Rows.{names_of, value_of, are_different}

pub contains_first : {X : Type 0} (y : X) (ys : List X) (x : X) → y ≡ x → Contains (y ∷ ys) x
contains_first y ys x e = (0, omega arith, e)

pub contains_later : {X : Type 0} (y : X) (ys : List X) (x : X) → Contains ys x → Contains (y ∷ ys) x
contains_later y ys x (k, below, e) = (suc k, omega arith, e)

contains_cases : {X : Type 0} (y : X) (ys : List X) (x : X) → Contains (y ∷ ys) x → (y ≡ x) ⊎ Contains ys x
contains_cases y ys x (zero, below, e) = inl e
contains_cases y ys x (suc k, below, e) = inr (k, omega arith, e)

contains_none : {X : Type 0} (x : X) → Contains [] x → ⊥
contains_none x (k, below, e) = omega arith

-- a listed value has a name that is listed
listed_name : {V : Type 0} (rows : List (List ℕ × V)) (x : List ℕ) (v : V) → Contains rows (x, v) → list_any (bytes_eq x) (names_of rows) ≡ true
listed_name [] x v h = absurd (contains_none _ h)
listed_name (r ∷ rs) x v h = elim (contains_cases r rs (x, v) h) [
  | inl e ↦ or_left _ _ ((bytes_eq-Decides x r.0).1 (ap (λ p. p.0) (sym e)))
  | inr later ↦ or_right _ _ (listed_name rs x v later)
]

pub at_first : {V : Type 0} (r : List ℕ × V) (rs : List (List ℕ × V)) (x : List ℕ) → r.0 ≡ x → value_of (r ∷ rs) x ≡ Some r.1
at_first r rs x e = rw ((bytes_eq-Decides r.0 x).1 e) refl

pub past_first : {V : Type 0} (r : List ℕ × V) (rs : List (List ℕ × V)) (x : List ℕ) → bytes_eq r.0 x ≡ false → value_of (r ∷ rs) x ≡ value_of rs x
past_first r rs x e = rw e refl

not_true : (b : Bool) → not b ≡ true → b ≡ false
not_true true h = sym h
not_true false h = refl

pair_same : {V : Type 0} (r : List ℕ × V) (x : List ℕ) (v : V) → r.0 ≡ x → r.1 ≡ v → r ≡ (x, v)
pair_same {V} r x v e f =
    let first : (r.0, r.1) ≡ (x, r.1) = ap (λ (a : List ℕ). (a, r.1)) e in
    let second : (x, r.1) ≡ (x, v) = ap (λ (b : V). (x, b)) f in
    first ∙ second

different_first : (x : List ℕ) (xs : List (List ℕ)) → IsTrue (are_different (x ∷ xs)) → list_any (bytes_eq x) xs ≡ false
different_first x xs d = not_true _ (and_parts _ _ d).0

different_rest : (x : List ℕ) (xs : List (List ℕ)) → IsTrue (are_different (x ∷ xs)) → IsTrue (are_different xs)
different_rest x xs d = (and_parts _ _ d).1

pub value_of-listed : {V : Type 0} (rows : List (List ℕ × V)) (x : List ℕ) (v : V) → IsTrue (are_different (names_of rows)) → Contains rows (x, v) → value_of rows x ≡ Some v
value_of-listed [] x v d h = absurd (contains_none _ h)
value_of-listed (r ∷ rs) x v d h = elim (contains_cases r rs (x, v) h) [
  | inl e ↦ at_first r rs x (ap (λ p. p.0) e) ∙ ap (λ p. Some p.1) e
  | inr later ↦ elim (cases_Bool (bytes_eq r.0 x)) [
    | inl same ↦ absurd (false≢true (sym (different_first r.0 (names_of rs) d) ∙ subst (λ y. list_any (bytes_eq y) (names_of rs) ≡ true) (sym ((bytes_eq-Decides r.0 x).0 same)) (listed_name rs x v later)))
    | inr other ↦ past_first r rs x other ∙ value_of-listed rs x v (different_rest r.0 (names_of rs) d) later
  ]
]

pub some_same : {V : Type 0} (a b : V) → Some a ≡ Some b → a ≡ b
some_same a b e = cc

pub value_of-only : {V : Type 0} (rows : List (List ℕ × V)) (x : List ℕ) (v : V) → value_of rows x ≡ Some v → Contains rows (x, v)
value_of-only [] x v h = cc
value_of-only (r ∷ rs) x v h = elim (cases_Bool (bytes_eq r.0 x)) [
  | inl same ↦ let name = (bytes_eq-Decides r.0 x).0 same in
      contains_first r rs (x, v) (pair_same r x v name (some_same r.1 v (sym (at_first r rs x name) ∙ h)))
  | inr other ↦ contains_later r rs (x, v) (value_of-only rs x v (sym (past_first r rs x other) ∙ h))
]

-- an answer is a value exactly where a row has the name and that value
pub looked_up : {V : Type 0} (rows : List (List ℕ × V)) (x : List ℕ) (answer : Option V) → IsTrue (are_different (names_of rows)) → answer ≡ value_of rows x → (v : V) → (Contains rows (x, v)) ↔ (answer ≡ Some v)
looked_up rows x answer different is v = (λ h. is ∙ value_of-listed rows x v different h, λ h. value_of-only rows x v (sym is ∙ h))
