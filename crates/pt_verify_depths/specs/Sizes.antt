-- How many slots places get. No kind decides it: these are the lengths of the lists of kinds.
use Rattle.std.specs.Prelude.{◌≡◌, ℕ, ◌+◌, ◌-◌, ◌≤◌, List, [], ◌∷◌, ◌++◌, length, map, filter, Contains, Bool, nat_eq, nat_le, if◌then◌else◌, false, Option, Some, None}
use Rattle.pt_instr.specs.declared.effects.Effect.{Effect}
use Rattle.pt_instr.specs.Effects.{Kinds}
use Rattle.pt_ranges.specs.declared.handlers.Handler.{Handler}
use Rattle.pt_code.specs.View.{Ins}
pub use Rattle.pt_sizes.specs.declared.places.SizeStep.{SizeStep}
use Rattle.sem_fits.specs.fits.Block.{Links, Block, effect, kinds_at_start}
use Rattle.sem_fits.specs.fits.Steps.{reads, target_of}

abbrev pub sized : (to size : ℕ) → SizeStep
sized to n = record { to = to; size = n }

abbrev pub left : Effect → ℕ → ℕ
left e n = n - length e.takes

abbrev pub is_enough : Effect → ℕ → Bool
is_enough e n = nat_le (length e.takes + reads e.above) n

abbrev pub gives_onward : Effect → ℕ → (next : ℕ) → Option Kinds → List SizeStep
gives_onward e n next (Some given) = sized next (left e n + length given) ∷ []
gives_onward e n next None = []

abbrev pub gives_aside : Effect → ℕ → (target : Option ℕ) → Option Kinds → List SizeStep
gives_aside e n (Some t) (Some given) = sized t (left e n + length given) ∷ []
gives_aside e n t given = []

abbrev pub gives_again : Effect → ℕ → (pc : ℕ) → List SizeStep
gives_again e n pc = if e.again then sized pc n ∷ [] else []

abbrev pub own_sizes : Effect → ℕ → (pc : ℕ) → Ins → List SizeStep
own_sizes e n pc i = if is_enough e n then gives_onward e n i.next e.gives ++ (gives_aside e n (target_of i.instr) e.aside ++ gives_again e n pc) else []

-- a row leaves no more slots than are left
abbrev pub leaves_enough : Effect → ℕ → Handler → Bool
leaves_enough e n row = nat_le row.depth (left e n)

abbrev pub landing_size : Handler → SizeStep
landing_size row = sized row.target.0 (row.depth + 1)

-- a handler gets as many from each place
abbrev pub handler_sizes : Effect → ℕ → List Handler → List SizeStep
handler_sizes e n rows = map landing_size (filter (leaves_enough e n) rows)

abbrev pub size_steps_of : Links → (pc n : ℕ) → Option Ins → List SizeStep
size_steps_of links pc n None = []
size_steps_of links pc n (Some i) = own_sizes (effect links i.instr) n pc i ++ handler_sizes (effect links i.instr) n i.rows

abbrev pub size_steps : Block → (pc n : ℕ) → List SizeStep
size_steps b pc n = size_steps_of b.links pc n (b.at pc)

-- how many slots a place gets through the instructions at p and below
pub data Sized (b : Block) (p : ℕ) : (pc n : ℕ) → Type 0 where
  start : (i : Ins) → b.at 0 ≡ Some i → Sized b p 0 (length (kinds_at_start b.kind))
  onward : {q r n m : ℕ} → Sized b p q n → q ≤ p → Contains (size_steps b q n) (sized r m) → (i : Ins) → b.at r ≡ Some i → Sized b p r m

-- how a block fails by sizes alone: two at a place, a row that is to leave too many, an instruction with too few
pub data SizesMeet (b : Block) (p : ℕ) : Type 0 where
  two : {q n m : ℕ} → Sized b p q n → Sized b p q m → nat_eq n m ≡ false → SizesMeet b p

pub data RowTooDeep (b : Block) (p : ℕ) (row : Handler) : Type 0 where
  deep : {q n : ℕ} {i : Ins} → Sized b p q n → q ≤ p → b.at q ≡ Some i → Contains i.rows row → leaves_enough (effect b.links i.instr) n row ≡ false → RowTooDeep b p row

pub data Lacks (b : Block) (p : ℕ) : Type 0 where
  lacks : {q n : ℕ} {i : Ins} → Sized b p q n → q ≤ p → b.at q ≡ Some i → is_enough (effect b.links i.instr) n ≡ false → Lacks b p
