-- The tables of a block, as far as places alone decide. Rows are counted through marks, handlers and starts.
use Rattle.std.specs.Prelude.{◌≡◌, ℕ, ◌+◌, List, [], ◌∷◌, ◌++◌, length, map, slice_get, Bool, true, false, ◌&&◌, ◌||◌, nat_eq, nat_lt, is_some, Option, Some, None}
use Rattle.pt_ranges.specs.declared.handlers.Handler.{Handler}
use Rattle.sem_fits.specs.fits.Block.{Block}

abbrev pub is_place : Block → ℕ → Bool
is_place b pc = is_some (b.at pc)

abbrev rises : Option ℕ → ℕ → Bool
rises None pc = true
rises (Some q) pc = nat_lt q pc

-- each is a place, and stands behind the one before
abbrev pub in_order : Block → (before : Option ℕ) → List ℕ → List Bool
in_order b before [] = []
in_order b before (pc ∷ pcs) = (is_place b pc && rises before pc) ∷ in_order b (Some pc) pcs

-- a row goes from a place to a place or the end, and has a place as its target
abbrev pub is_laid : Block → Handler → Bool
is_laid b row = is_place b row.from.0 && ((is_place b row.to.0 || nat_eq row.to.0 b.size) && is_place b row.target.0)

-- of each row whether it holds
abbrev pub rows_hold : Block → List Bool
rows_hold b = in_order b None (map (λ m. m.pc.0) b.marks) ++ (map (is_laid b) b.handlers ++ in_order b None (map (λ s. s.pc.0) b.starts))

abbrev pub RowFails : Block → (row : ℕ) → Type 0
RowFails b n = slice_get (rows_hold b) n ≡ Some false

-- the number of a handler row
pub record IsRow (b : Block) (row : Handler) (n : ℕ) : Type 0 where
  pub among : ℕ
  pub is : slice_get b.handlers among ≡ Some row
  pub counted : n ≡ length b.marks + among
