-- The always rows, each with its number.
use Rattle.std.specs.Prelude.{◌≡◌, ℕ, ◌-◌, ◌<◌, List, [], ◌∷◌, ◌++◌, Contains, slice_get, true, if◌then◌else◌, Some}
use Rattle.pt_ranges.specs.declared.handlers.Handler.{Handler}

-- the first rows are the deepest: the greatest number is 2^32 - 1
abbrev pub GREATEST_NUMBER : ℕ
GREATEST_NUMBER = 4294967295

abbrev pub numbered : (number : ℕ) → Handler → Handler
numbered n row = record row { target = record { 0 = n }; depth = GREATEST_NUMBER - n }

abbrev pub add_numbered : List Handler → (number : ℕ) → Handler → List Handler
add_numbered found n row = if row.always then found ++ numbered n row ∷ [] else found

pub record IsNumbered (rows : List Handler) (h : Handler) : Type 0 where
  pub number : ℕ
  pub row : Handler
  pub stands : slice_get rows number ≡ Some row
  pub always : row.always ≡ true
  pub low : number < 4294967296
  pub is : h ≡ numbered number row

pub record AreNumbered (rows found : List Handler) : Type 0 where
  pub only : (h : Handler) → Contains found h → IsNumbered rows h
  pub all : (n : ℕ) (row : Handler) → slice_get rows n ≡ Some row → row.always ≡ true
      → Contains found (numbered n row)
