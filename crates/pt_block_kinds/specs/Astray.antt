-- Where an instruction goes on to where none stands.
use Rattle.std.specs.Prelude.{◌≡◌, ℕ, ◌≤◌, List, Contains, Bool, true, false, not, ◌&&◌, ◌||◌, is_some, Option, Some, None}
use Rattle.pt_instr.specs.declared.Instr.{Instr}
use Rattle.pt_instr.specs.declared.Instr.TheVariants.{Leave}
use Rattle.pt_ranges.specs.declared.handlers.Handler.{Handler}
use Rattle.pt_places.specs.declared.places.Place.{Place}
use Rattle.pt_places.specs.PlaceTable.{entry}
use Rattle.sem_fits.specs.fits.Block.{Links, Block, effect}
use Rattle.sem_fits.specs.fits.Steps.{target_of}
use Rattle.pt_verify_depths.specs.Sizes.{is_enough}
use Rattle.pt_kind_flow.specs.declared.flow.Flow.{Flow}

-- no instruction stands there
abbrev pub misses : List (Option Place) → (pc : ℕ) → Bool
misses places pc = not (is_some (entry places pc))

abbrev pub leave_misses : List (Option Place) → Instr → Bool
leave_misses places (Leave t) = misses places t.0
leave_misses places i = false

abbrev pub aside_misses : List (Option Place) → (target : Option ℕ) → (gives : Bool) → Bool
aside_misses places (Some t) gives = gives && misses places t
aside_misses places None gives = false

-- what is given behind an instruction and at its target decides where it goes
abbrev pub goes_astray : Links → List (Option Place) → Place → (size : ℕ) → Bool
goes_astray links places p n =
    leave_misses places p.instr
    || (is_enough (effect links p.instr) n
    && ((is_some (effect links p.instr).gives && misses places p.next.0)
    || aside_misses places (target_of p.instr) (is_some (effect links p.instr).aside)))

-- of a place to which kinds come
abbrev pub astray_of : Links → List (Option Place) → (list : Option ℕ) → Option Place
    → (size : Option ℕ) → Bool
astray_of links places (Some l) (Some p) (Some n) = goes_astray links places p n
astray_of links places l p n = false

abbrev pub is_astray : Flow → Links → List (Option Place) → (sizes : List (Option ℕ)) → (pc : ℕ)
    → Bool
is_astray f links places T pc =
    astray_of links places (entry f.table.items pc) (entry places pc) (entry T pc)

pub record AnyAstray (f : Flow) (links : Links) (places : List (Option Place))
    (sizes : List (Option ℕ)) (p : ℕ) : Type 0 where
  pub pc : ℕ
  pub low : pc ≤ p
  pub here : is_astray f links places sizes pc ≡ true

-- the targets of handler rows are places
abbrev pub RowsLandOnPlaces : Block → Type 0
RowsLandOnPlaces b = (row : Handler) → Contains b.handlers row → b.at row.target.0 ≡ None → ⊥
