-- The place of a name in a list of names that differ.
use Rattle.std.proofs.Common.{◌≡◌, ◌+◌, ℕ, zero, suc, List, [], ◌∷◌, None, Some, IsTrue, refl, sym, ap, ◌∙◌, subst, inl, inr, arith}
use Rattle.std.specs.Prelude.{Contains, slice_get}
use Rattle.std.specs.Str.{bytes_eq}
use Rattle.std.proofs.lemmas.Bool.{cases_Bool}
use Rattle.std.proofs.lemmas.Slice.Eq.{bytes_eq-Decides}
use Rattle.pt_tables.specs.Names.{keyword_names, builtin_names, method_names, special_names, event_names, command_names}
use Rattle.pt_tables.specs.Rows.{names_of, value_of, are_different, numbered}
use Rattle.pt_tables.proofs.RowLemmas.{value_of-listed, contains_first, contains_later, at_first, past_first, some_same}

none_some : {V : Type 0} (v : V) → None ≡ Some v → ⊥
none_some v e = cc

paired : (x y : List ℕ) (m n : ℕ) → x ≡ y → m ≡ n → ◌≡◌ {A = List ℕ × ℕ} (x, m) (y, n)
paired x y m n e f = cc

pub names_of-numbered : (n : ℕ) (xs : List (List ℕ)) → names_of (numbered n xs) ≡ xs
names_of-numbered n [] = refl
names_of-numbered n (x ∷ xs) = ap (λ ys. x ∷ ys) (names_of-numbered (n + 1) xs)

-- at each name of a list stands its place
pub numbered-listed : (n : ℕ) (xs : List (List ℕ)) (k : ℕ) (x : List ℕ) → slice_get xs k ≡ Some x → Contains (numbered n xs) (x, n + k)
numbered-listed n [] k x h = absurd (none_some x h)
numbered-listed n (y ∷ ys) zero x h = contains_first (y, n) (numbered (n + 1) ys) (x, n + 0) (paired y x n (n + 0) (some_same y x h) (omega arith))
numbered-listed n (y ∷ ys) (suc k) x h = contains_later (y, n) (numbered (n + 1) ys) (x, n + suc k) (subst (λ j. Contains (numbered (n + 1) ys) (x, j)) (omega arith) (numbered-listed (n + 1) ys k x h))

-- each name of a list of names that differ is found at its place
pub value_of-place : (xs : List (List ℕ)) (k : ℕ) (x : List ℕ) → IsTrue (are_different xs) → slice_get xs k ≡ Some x → value_of (numbered 0 xs) x ≡ Some k
value_of-place xs k x d h = value_of-listed (numbered 0 xs) x k (subst (λ ys. IsTrue (are_different ys)) (sym (names_of-numbered 0 xs)) d) (subst (λ j. Contains (numbered 0 xs) (x, j)) (omega arith) (numbered-listed 0 xs k x h))

-- what is found is the place of that name
pub place_of-value : (n : ℕ) (xs : List (List ℕ)) (k : ℕ) (x : List ℕ) → value_of (numbered n xs) x ≡ Some k → (i : ℕ) × (k ≡ n + i) × (slice_get xs i ≡ Some x)
place_of-value n [] k x h = absurd (none_some k h)
place_of-value n (y ∷ ys) k x h = elim (cases_Bool (bytes_eq y x)) [
  | inl same ↦
      let name = (bytes_eq-Decides y x).0 same in
      let first : n ≡ k = some_same n k (sym (at_first (y, n) (numbered (n + 1) ys) x name) ∙ h) in
      (0, omega arith, ap (λ (z : List ℕ). Some z) name)
  | inr other ↦
      let later = place_of-value (n + 1) ys k x (sym (past_first (y, n) (numbered (n + 1) ys) x other) ∙ h) in
      (suc later.0, omega (arith, later.1), later.2)
]

-- no name stands twice in these lists
pub keywords_differ : IsTrue (are_different keyword_names)
keywords_differ = refl

pub builtins_differ : IsTrue (are_different builtin_names)
builtins_differ = refl

pub methods_differ : IsTrue (are_different method_names)
methods_differ = refl

pub specials_differ : IsTrue (are_different special_names)
specials_differ = refl

pub events_differ : IsTrue (are_different event_names)
events_differ = refl

pub commands_differ : IsTrue (are_different command_names)
commands_differ = refl
