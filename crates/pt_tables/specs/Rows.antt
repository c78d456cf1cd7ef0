-- The rows of a table: a name, and the value that stands behind it.
use Rattle.std.specs.Prelude.{ℕ, ◌+◌, List, [], ◌∷◌, map, Bool, true, not, ◌&&◌, if◌then◌else◌, Option, None, Some}
use Rattle.std.specs.Borrow.{Bor}
use Rattle.std.specs.List.{list_any}
use Rattle.std.specs.Str.{bytes_eq}

-- rows as the code has them, with each name behind a reference
abbrev pub listed : {V : Type 0} → List (Bor (List ℕ) × V) → List (List ℕ × V)
listed rows = map (λ r. (r.0.now, r.1)) rows

abbrev pub names_of : {V : Type 0} → List (List ℕ × V) → List (List ℕ)
names_of rows = map (λ r. r.0) rows

-- the value of the first row with that name
abbrev pub value_of : {V : Type 0} → List (List ℕ × V) → (name : List ℕ) → Option V
value_of [] name = None
value_of (r ∷ rs) name = if bytes_eq r.0 name then Some r.1 else value_of rs name

-- no name stands there twice
abbrev pub are_different : (names : List (List ℕ)) → Bool
are_different [] = true
are_different (x ∷ xs) = not (list_any (bytes_eq x) xs) && are_different xs

-- each name with its place, where the first has that place
abbrev pub numbered : (first : ℕ) → (names : List (List ℕ)) → List (List ℕ × ℕ)
numbered n [] = []
numbered n (x ∷ xs) = (x, n) ∷ numbered (n + 1) xs
