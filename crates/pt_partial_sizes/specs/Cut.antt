-- How many slots places get through the instructions below a limit: those of a body whose other instructions go on to nothing.
use Rattle.std.specs.Prelude.{◌≡◌, ℕ, min, List, length, nat_lt, if◌then◌else◌, false, Option, Some, None}
use Rattle.pt_ranges.specs.declared.handlers.Handler.{Handler}
use Rattle.pt_sizes.specs.declared.places.Place.{Place}
use Rattle.pt_sizes.specs.declared.flow.Sizes.{Sizes}
use Rattle.pt_sizes.specs.declared.flow.Sizes.TheVariants as sizes
use Rattle.pt_sizes.specs.Flow.{Agrees, Body, Disagrees, Gets, entry}

-- an instruction that takes nothing and from which nothing goes on
abbrev pub stop : Place
stop = record {
  takes = 0;
  needs = 0;
  onward = None;
  next = 0;
  aside = None;
  target = 0;
  again = false;
}

abbrev pub cut_place : (limit pc : ℕ) → Option Place → Option Place
cut_place limit pc None = None
cut_place limit pc (Some place) = Some (if nat_lt pc limit then place else stop)

pub record AreCut (limit : ℕ) (old new : List (Option Place)) : Type 0 where
  pub long : length new ≡ length old
  pub each : (pc : ℕ) → entry new pc ≡ cut_place limit pc (entry old pc)

-- a row, as far as it covers places below the limit
abbrev pub cut_row : (limit : ℕ) → Handler → Handler
cut_row limit row = record row { to = record { 0 = min row.to.0 limit } }

-- the sizes that places get, where they agree
pub record AreSizesBelow (b : Body) (limit : ℕ) (table : List (Option ℕ)) : Type 0 where
  pub sound : (pc n : ℕ) → entry table pc ≡ Some n → Gets b limit pc n
  pub whole : (pc n : ℕ) → Gets b limit pc n → entry table pc ≡ Some n
  pub agrees : Agrees b limit

-- what an answer tells: these sizes, or that they disagree
abbrev pub TellsBelow : Body → (limit : ℕ) → Sizes → Type 0
TellsBelow b limit (sizes.Agree table) = AreSizesBelow b limit table.items
TellsBelow b limit (sizes.Meet pc) = Disagrees b limit
TellsBelow b limit (sizes.TooDeep pc row) = Disagrees b limit
TellsBelow b limit (sizes.TooFew pc) = Disagrees b limit
