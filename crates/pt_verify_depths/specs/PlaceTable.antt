-- The table of a block's places of which the sizes are sought, and what is told of them.
use Rattle.std.specs.Prelude.{◌≡◌, ℕ, ◌+◌, ◌≤◌, List, length, filter, slice_get, Option, Some, None, option_map}
use Rattle.pt_instr.specs.declared.effects.Effect.{Effect}
use Rattle.pt_instr.specs.Effects.{Kinds}
use Rattle.pt_ranges.specs.declared.handlers.Handler.{Handler}
use Rattle.pt_ranges.specs.Rows.{covers}
use Rattle.pt_code.specs.View.{Ins}
use Rattle.pt_sizes.specs.declared.places.Place.{Place}
use Rattle.pt_sizes.specs.declared.flow.Sizes.{Sizes}
use Rattle.pt_sizes.specs.declared.flow.Sizes.TheVariants as sizes
use Rattle.pt_sizes.specs.Flow.{Body, entry, Tells}
use Rattle.sem_fits.specs.fits.Block.{Links, Block, effect, kinds_at_start}
use Rattle.sem_fits.specs.fits.Steps.{reads, target_of}
use Rattle.sem_fits.specs.fits.Fits.{IsLeast}
use Rattle.pt_verify_depths.specs.Sizes.{Sized, SizesMeet, RowTooDeep, Lacks}

abbrev pub aside_given : (target : Option ℕ) → Option Kinds → Option ℕ
aside_given (Some t) (Some given) = Some (length given)
aside_given t given = None

-- 0 where an instruction names no place
abbrev pub target_or : Option ℕ → ℕ
target_or (Some t) = t
target_or None = 0

-- an instruction as sizes see it
abbrev pub place_of : Effect → (target : Option ℕ) → (next : ℕ) → Place
place_of e t next = record {
  takes = length e.takes;
  needs = length e.takes + reads e.above;
  onward = option_map length e.gives;
  next = next;
  aside = aside_given t e.aside;
  target = target_or t;
  again = e.again;
}

abbrev pub place_at : Links → Option Ins → Option Place
place_at links (Some i) = Some (place_of (effect links i.instr) (target_of i.instr) i.next)
place_at links None = None

-- the table has the places of the block, and the rows of a place are those that cover it
pub record HasPlaces (b : Block) (table : List (Option Place)) : Type 0 where
  pub each : (pc : ℕ) → entry table pc ≡ place_at b.links (b.at pc)
  pub long : length table ≤ b.size + 1
  pub rows : (pc : ℕ) (i : Ins) → b.at pc ≡ Some i
      → i.rows ≡ filter (λ row. covers row (record { 0 = pc })) b.handlers

abbrev pub body : Block → List (Option Place) → Body
body b table = record { places = table; rows = b.handlers; first = length (kinds_at_start b.kind) }

-- the sizes of a block disagree up to a place
pub data SizesDisagree (b : Block) (p : ℕ) : Type 0 where
  meet : SizesMeet b p → SizesDisagree b p
  deep : (row : Handler) → RowTooDeep b p row → SizesDisagree b p
  few : Lacks b p → SizesDisagree b p

pub record AreSizes (b : Block) (table : List (Option ℕ)) : Type 0 where
  pub sound : (pc n : ℕ) → entry table pc ≡ Some n → Sized b b.size pc n
  pub whole : (p pc n : ℕ) → Sized b p pc n → entry table pc ≡ Some n
  pub agree : (p : ℕ) → SizesDisagree b p → ⊥

pub record MeetFirst (b : Block) (p : ℕ) : Type 0 where
  pub first : IsLeast (SizesDisagree b) p
  pub meet : SizesMeet b p

-- the handler row with this number is to leave too many slots
pub record NumberTooDeep (b : Block) (p n : ℕ) : Type 0 where
  pub row : Handler
  pub is : slice_get b.handlers n ≡ Some row
  pub deep : RowTooDeep b p row

pub record DeepFirst (b : Block) (p n : ℕ) : Type 0 where
  pub first : IsLeast (SizesDisagree b) p
  pub apart : SizesMeet b p → ⊥
  pub deep : IsLeast (NumberTooDeep b p) n

pub record FewFirst (b : Block) (p : ℕ) : Type 0 where
  pub first : IsLeast (SizesDisagree b) p
  pub apart : SizesMeet b p → ⊥
  pub shallow : (row : Handler) → RowTooDeep b p row → ⊥
  pub few : Lacks b p

-- what an answer tells of a block: the sizes of its places, or the least place up to which they
-- disagree, and how
abbrev pub TellsSizes : Block → Sizes → Type 0
TellsSizes b (sizes.Agree table) = AreSizes b table.items
TellsSizes b (sizes.Meet pc) = MeetFirst b pc
TellsSizes b (sizes.TooDeep pc row) = DeepFirst b pc row
TellsSizes b (sizes.TooFew pc) = FewFirst b pc

-- the sizes that places get through the instructions at a place and below
pub record AreSizesUpTo (b : Block) (p : ℕ) (table : List (Option ℕ)) : Type 0 where
  pub sound : (pc n : ℕ) → entry table pc ≡ Some n → Sized b p pc n
  pub whole : (pc n : ℕ) → Sized b p pc n → entry table pc ≡ Some n
  pub agree : SizesDisagree b p → ⊥

-- what an answer tells of a block up to a place: these sizes, or that they disagree
abbrev pub TellsSizesUpTo : Block → (p : ℕ) → Sizes → Type 0
TellsSizesUpTo b p (sizes.Agree table) = AreSizesUpTo b p table.items
TellsSizesUpTo b p (sizes.Meet pc) = SizesDisagree b p
TellsSizesUpTo b p (sizes.TooDeep pc row) = SizesDisagree b p
TellsSizesUpTo b p (sizes.TooFew pc) = SizesDisagree b p

abbrev pub TablesTell : Block → Type 0
TablesTell b = (table : List (Option Place)) → HasPlaces b table → (s : Sizes)
    → Tells (body b table) s → TellsSizes b s
