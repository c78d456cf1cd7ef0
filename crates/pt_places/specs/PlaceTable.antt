-- The table of what stands at the places of a block (Library Reference, "dis").
use Rattle.std.specs.Prelude.{◌≡◌, ℕ, ◌<◌, List, length, nat_eq, find, slice_index_or, Option, Some, None}
use Rattle.pt_instr.specs.declared.Instr.{Instr}
use Rattle.pt_ranges.specs.declared.lines.ActMark.{ActMark}
use Rattle.pt_code.specs.View.{Ins}
use Rattle.pt_places.specs.declared.places.Place.{Place}

-- what a table has for a place; none past its end
abbrev pub entry : {X : Type 0} → List (Option X) → (pc : ℕ) → Option X
entry table pc = slice_index_or table pc None

abbrev pub mark_at : List ActMark → (pc : ℕ) → Option ActMark
mark_at marks pc = find (λ m. nat_eq m.pc.0 pc) marks

-- the marks of the places below a count
pub record HasMarks (marks : List ActMark) (count : ℕ) (table : List (Option ActMark)) : Type 0 where
  pub long : length table ≡ count
  pub each : (pc : ℕ) → pc < count → entry table pc ≡ mark_at marks pc

abbrev pub place_of : Instr → Option ActMark → (next : ℕ) → Place
place_of i m next = record { instr = i; mark = m; next = record { 0 = next } }

abbrev pub place_at : Option Ins → Option Place
place_at (Some i) = Some (place_of i.instr i.mark i.next)
place_at None = None

-- the table has what stands at each place
abbrev pub HasPlaces : (view : ℕ → Option Ins) → List (Option Place) → Type 0
HasPlaces view table = (pc : ℕ) → entry table pc ≡ place_at (view pc)
