-- How many slots places get, whatever their kinds (Library Reference, "dis"), and how a block may
-- fail by these sizes alone.
use Rattle.std.specs.Prelude.{◌≡◌, ℕ, ◌+◌, ◌-◌, ◌<◌, ◌≤◌, List, [], ◌∷◌, ◌++◌, length, Contains, slice_get, slice_index_or, Bool, true, nat_le, if◌then◌else◌, Option, Some, None}
use Rattle.pt_ranges.specs.declared.handlers.Handler.{Handler}
use Rattle.pt_ranges.specs.Rows.{covers}
use Rattle.pt_sizes.specs.declared.places.Place.{Place}
use Rattle.pt_sizes.specs.declared.places.SizeStep.{SizeStep}
use Rattle.pt_sizes.specs.declared.flow.Sizes.{Sizes}
use Rattle.pt_sizes.specs.declared.flow.Sizes.TheVariants as sizes

abbrev pub sized : (to size : ℕ) → SizeStep
sized to n = record { to = to; size = n }

-- how many slots lie below those that are taken
abbrev pub left : Place → ℕ → ℕ
left place n = n - place.takes

abbrev pub step_to : (to below : ℕ) → Option ℕ → List SizeStep
step_to to below (Some given) = sized to (below + given) ∷ []
step_to to below None = []

abbrev pub step_again : Bool → (pc n : ℕ) → List SizeStep
step_again again pc n = if again then sized pc n ∷ [] else []

-- the ways on of an instruction itself; none where it has too few slots
abbrev pub own_steps : Place → (pc n : ℕ) → List SizeStep
own_steps place pc n =
    if nat_le place.needs n
    then step_to place.next (left place n) place.onward
    ++ (step_to place.target (left place n) place.aside ++ step_again place.again pc n)
    else []

-- a handler gets as many slots from each place
abbrev pub landing : Handler → SizeStep
landing row = sized row.target.0 (row.depth + 1)

abbrev pub is_under : Handler → (pc : ℕ) → Bool
is_under row pc = covers row (record { 0 = pc })

-- what a table has at a place; None where no instruction starts
abbrev pub entry : {X : Type 0} → List (Option X) → (pc : ℕ) → Option X
entry table pc = slice_index_or table pc None

-- instructions at their places, the handler rows, and how many slots the first place gets
pub record Body : Type 0 where
  pub places : List (Option Place)
  pub rows : List Handler
  pub first : ℕ

-- a row covers a place, and leaves no more slots than lie below those that its instruction takes
pub record Lands (b : Body) (pc n : ℕ) (place : Place) (row : Handler) : Type 0 where
  pub among : Contains b.rows row
  pub under : is_under row pc ≡ true
  pub within : row.depth ≤ left place n

pub data Leads (b : Body) (pc n : ℕ) (place : Place) : SizeStep → Type 0 where
  own : {s : SizeStep} → Contains (own_steps place pc n) s → Leads b pc n place s
  lands : {row : Handler} → Lands b pc n place row → Leads b pc n place (landing row)

-- how many slots a place gets through the instructions below a limit
pub data Gets (b : Body) (limit : ℕ) : (pc n : ℕ) → Type 0 where
  start : (place : Place) → entry b.places 0 ≡ Some place → Gets b limit 0 b.first
  goes : {q n : ℕ} {s : SizeStep} {place there : Place} → Gets b limit q n → q < limit
      → entry b.places q ≡ Some place → Leads b q n place s
      → entry b.places s.to ≡ Some there → Gets b limit s.to s.size

-- an instruction below the limit whose place gets so many
pub record Stands (b : Body) (limit pc n : ℕ) (place : Place) : Type 0 where
  pub gets : Gets b limit pc n
  pub low : pc < limit
  pub is : entry b.places pc ≡ Some place

pub data SizesMeet (b : Body) (limit : ℕ) : Type 0 where
  two : {q n m : ℕ} → Gets b limit q n → Gets b limit q m → (n ≡ m → ⊥) → SizesMeet b limit

-- a row is to leave more slots than lie below those that an instruction under it takes
pub data TooDeep (b : Body) (limit : ℕ) (row : Handler) : Type 0 where
  deep : {q n : ℕ} {place : Place} → Stands b limit q n place → Contains b.rows row
      → is_under row q ≡ true → left place n < row.depth → TooDeep b limit row

pub data Lacks (b : Body) (limit : ℕ) : Type 0 where
  lacks : {q n : ℕ} {place : Place} → Stands b limit q n place → n < place.needs → Lacks b limit

pub data Disagrees (b : Body) (limit : ℕ) : Type 0 where
  meet : SizesMeet b limit → Disagrees b limit
  too_deep : (row : Handler) → TooDeep b limit row → Disagrees b limit
  few : Lacks b limit → Disagrees b limit

abbrev pub Agrees : Body → (limit : ℕ) → Type 0
Agrees b limit = Disagrees b limit → ⊥

-- the row with this number
pub record RowTooDeep (b : Body) (limit n : ℕ) : Type 0 where
  pub row : Handler
  pub is : slice_get b.rows n ≡ Some row
  pub deep : TooDeep b limit row

-- no place below disagrees, and the one does
pub record IsFirst (b : Body) (pc : ℕ) : Type 0 where
  pub inside : pc < length b.places
  pub below : Agrees b pc
  pub here : Disagrees b (pc + 1)

pub record IsTable (b : Body) (table : List (Option ℕ)) : Type 0 where
  pub sound : (pc n : ℕ) → entry table pc ≡ Some n → Gets b (length b.places) pc n
  pub whole : (pc n : ℕ) → Gets b (length b.places) pc n → entry table pc ≡ Some n
  pub agrees : Agrees b (length b.places)

-- two sizes come before a row, and a row before too few slots
pub record IsMeeting (b : Body) (pc : ℕ) : Type 0 where
  pub first : IsFirst b pc
  pub meet : SizesMeet b (pc + 1)

pub record IsDeepRow (b : Body) (pc row : ℕ) : Type 0 where
  pub first : IsFirst b pc
  pub none : SizesMeet b (pc + 1) → ⊥
  pub deep : RowTooDeep b (pc + 1) row
  pub least : (n : ℕ) → n < row → RowTooDeep b (pc + 1) n → ⊥

pub record IsLack (b : Body) (pc : ℕ) : Type 0 where
  pub first : IsFirst b pc
  pub none : SizesMeet b (pc + 1) → ⊥
  pub shallow : (row : Handler) → TooDeep b (pc + 1) row → ⊥
  pub few : Lacks b (pc + 1)

-- what an answer tells
abbrev pub Tells : Body → Sizes → Type 0
Tells b (sizes.Agree table) = IsTable b table.items
Tells b (sizes.Meet pc) = IsMeeting b pc
Tells b (sizes.TooDeep pc row) = IsDeepRow b pc row
Tells b (sizes.TooFew pc) = IsLack b pc
