-- What a sink takes. A sink's meaning is a test on two lists of pieces: whether it has taken,
-- behind the first, the second. A sink that doesn't tell has taken nothing behind anything.
use Rattle.std.specs.Prelude.{ℕ, List, [], ◌∷◌, ◌++◌, take, ◌⊎◌}

abbrev pub Pieces : Type 0
Pieces = List (List ℕ)

-- from old to new, these pieces were taken whole, behind all that was taken before
abbrev pub Takes : (old new : Pieces → Pieces → Type 0) → Pieces → Type 0
Takes old new pieces = (g h : Pieces) → old g h → new g (h ++ pieces)

-- behind h, a front of these pieces was taken, the last piece of it perhaps in part
abbrev pub TookFront : (Pieces → Type 0) → (h pieces : Pieces) → Type 0
TookFront Took h [] = Took h
TookFront Took h (piece ∷ pieces) = Took h ⊎ (((k : ℕ) × Took (h ++ take k piece ∷ [])) ⊎ TookFront Took (h ++ piece ∷ []) pieces)

-- from old to new, a front of these pieces was taken
pub record TakesFront (old new : Pieces → Pieces → Type 0) (pieces : Pieces) : Type 0 where
  pub front : (g h : Pieces) → old g h → TookFront (new g) h pieces
