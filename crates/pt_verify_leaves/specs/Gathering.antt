-- Items of pairs, gathered by the numbers that the pairs begin with.
use Rattle.std.specs.Prelude.{◌≡◌, ℕ, ◌<◌, List, [], ◌∷◌, ◌++◌, length, Contains, slice_index_or, slice_set, nat_lt, if◌then◌else◌}
use Rattle.pt_closure.specs.Closure.{Pair}

abbrev pub list_at : List (List ℕ) → (number : ℕ) → List ℕ
list_at lists n = slice_index_or lists n []

abbrev pub put : List (List ℕ) → (number item : ℕ) → List (List ℕ)
put lists n x = if nat_lt n (length lists) then slice_set lists n (list_at lists n ++ x ∷ []) else lists

pub record AreGathered (count : ℕ) (pairs : List Pair) (lists : List (List ℕ)) : Type 0 where
  pub long : length lists ≡ count
  pub only : (n x : ℕ) → Contains (list_at lists n) x → Contains pairs (n, x)
  pub all : (n x : ℕ) → n < count → Contains pairs (n, x) → Contains (list_at lists n) x
