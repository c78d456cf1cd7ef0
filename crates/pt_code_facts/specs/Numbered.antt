-- The blocks of a code by their numbers: the module has number 0, and stands for a number that the code doesn't have.
use Rattle.std.specs.Prelude.{ℕ, List, ◌∷◌, slice_index_or}

abbrev pub by_number : {A : Type 0} → (first : A) → (others : List A) → ℕ → A
by_number first others n = slice_index_or (first ∷ others) n first
