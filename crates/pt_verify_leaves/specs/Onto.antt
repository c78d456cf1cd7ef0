-- Where a Leave goes that a topmost slot holds, or that stands at a place: to the class of the slot that holds it next.
use Rattle.std.specs.Prelude.{◌≡◌, ℕ, ◌<◌, List, [], ◌∷◌, filter, Contains, Option, Some, None}
use Rattle.std.specs.List.{flat_map}
use Rattle.pt_instr.specs.declared.Instr.{Instr}
use Rattle.pt_instr.specs.declared.Instr.TheVariants.{Leave, EndFinally, Exit}
use Rattle.pt_ranges.specs.declared.handlers.Handler.{Handler}
use Rattle.pt_ranges.specs.Rows.{covers}
use Rattle.pt_places.specs.declared.places.Place.{Place}
use Rattle.pt_sizes.specs.Flow.{entry}
use Rattle.sem_fits.specs.fits.Leaves.{taker}
use Rattle.pt_takers.specs.declared.takers.Takers.{Takers}
use Rattle.pt_takers.specs.Takers.{TellsTakers}
use Rattle.pt_closure.specs.Closure.{Pair}
use Rattle.pt_verify_leaves.specs.Gathering.{list_at}

abbrev pub rows_at : List Handler → (pc : ℕ) → List Handler
rows_at rows pc = filter (λ row. covers row (record { 0 = pc })) rows

-- the class of the slot that a row makes
abbrev pub made_by : (classes : List (Option ℕ)) → Option Handler → Option ℕ
made_by classes None = None
made_by classes (Some row) = entry classes row.target.0

abbrev pub onto_by : List Handler → (classes : List (Option ℕ)) → (target pc : ℕ) → Instr → (next : ℕ) → Option ℕ
onto_by rows classes t pc EndFinally next = made_by classes (taker (rows_at rows pc) t)
onto_by rows classes t pc Exit next = entry classes next
onto_by rows classes t pc i next = None

-- from the topmost slot of a place
abbrev pub onto : List Handler → (classes : List (Option ℕ)) → (target pc : ℕ) → Option Place → Option ℕ
onto rows classes t pc (Some p) = onto_by rows classes t pc p.instr p.next.0
onto rows classes t pc None = None

-- a class with a number: that of a target, or of a place
abbrev pub with_number : (number : ℕ) → (class : Option ℕ) → List Pair
with_number n (Some c) = (c, n) ∷ []
with_number n None = []

-- what follows from a class that holds a Leave for a target, by the places whose topmost slots are in it
abbrev pub next_of : List Handler → (classes : List (Option ℕ)) → List (Option Place) → (members : List (List ℕ)) → Pair → List Pair
next_of rows classes places members x =
    flat_map (λ pc. with_number x.1 (onto rows classes x.1 pc (entry places pc))) (list_at members x.0)

-- the always rows are told of a place, and of each
pub record KnowsAt (pc : ℕ) (place : Option Place) (rows : List Handler) (takers : Takers) : Type 0 where
  pub count : ℕ
  pub tells : TellsTakers rows count takers
  pub below : (p : Place) → place ≡ Some p → pc < count

pub record Knows (places : List (Option Place)) (rows : List Handler) (takers : Takers) : Type 0 where
  pub count : ℕ
  pub tells : TellsTakers rows count takers
  pub below : (pc : ℕ) (p : Place) → entry places pc ≡ Some p → pc < count

-- Leaves that rows take from their own places
abbrev pub seed_by : List Handler → (classes : List (Option ℕ)) → (pc : ℕ) → Instr → List Pair
seed_by rows classes pc (Leave t) = with_number t.0 (made_by classes (taker (rows_at rows pc) t.0))
seed_by rows classes pc i = []

abbrev pub seed_at : List Handler → (classes : List (Option ℕ)) → (pc : ℕ) → Option Place → (size : Option ℕ) → List Pair
seed_at rows classes pc (Some p) (Some n) = seed_by rows classes pc p.instr
seed_at rows classes pc (Some p) None = []
seed_at rows classes pc None size = []

-- a place from whose topmost slot a Leave may go on
abbrev pub member_by : (class : Option ℕ) → (pc : ℕ) → Instr → List Pair
member_by class pc EndFinally = with_number pc class
member_by class pc Exit = with_number pc class
member_by class pc i = []

abbrev pub member_at : (class : Option ℕ) → (pc : ℕ) → Option Place → List Pair
member_at class pc (Some p) = member_by class pc p.instr
member_at class pc None = []

-- the class of what an EndFinally takes
abbrev pub ended_by : (class : Option ℕ) → Instr → Option ℕ
ended_by class EndFinally = class
ended_by class i = None

abbrev pub ended_at : (class : Option ℕ) → Option Place → Option ℕ
ended_at class (Some p) = ended_by class p.instr
ended_at class None = None

-- of the places below one
pub record IsBelow (f : ℕ → List Pair) (end : ℕ) (x : Pair) : Type 0 where
  pub pc : ℕ
  pub low : pc < end
  pub among : Contains (f pc) x

pub record ListsBelow (f : ℕ → List Pair) (end : ℕ) (pairs : List Pair) : Type 0 where
  pub only : (x : Pair) → Contains pairs x → IsBelow f end x
  pub all : (x : Pair) → IsBelow f end x → Contains pairs x
