-- Rows that are kept by number.
use Rattle.std.specs.Prelude.{ℕ, zero, suc, List, [], ◌∷◌, Option, Some, None}

-- the row with a number
abbrev pub row_at : {X : Type 0} → (n : ℕ) → List X → Option X
row_at n [] = None
row_at zero (x ∷ xs) = Some x
row_at (suc n) (x ∷ xs) = row_at n xs

-- another row in its place
abbrev pub put_at : {X : Type 0} → (n : ℕ) → X → List X → List X
put_at n x [] = []
put_at zero x (y ∷ ys) = x ∷ ys
put_at (suc n) x (y ∷ ys) = y ∷ put_at n x ys
