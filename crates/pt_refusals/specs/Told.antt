-- What is told of how a block fails up to a place by kinds, of which its refusal follows.
use Rattle.std.specs.Prelude.{◌≡◌, ℕ, ◌<◌, false, Option, Some, None}
use Rattle.std.specs.Bool.{Decides}
use Rattle.pt_instr.specs.Effects.{Kinds}
use Rattle.pt_ranges.specs.declared.handlers.Handler.{Handler}
use Rattle.pt_code.specs.View.{Ins}
use Rattle.sem_fits.specs.fits.Block.{Block, effect}
use Rattle.sem_fits.specs.fits.Steps.{are_kinds, finds, is_prefix}
use Rattle.sem_fits.specs.fits.Places.{Gets, Reached}
use Rattle.sem_fits.specs.fits.Leaves.{Leaving}
use Rattle.sem_fits.specs.fits.Standing.{may_stand}
use Rattle.sem_fits.specs.fits.Tables.{IsRow}
use Rattle.sem_fits.specs.fits.Agreement.{Strays}
use Rattle.sem_fits.specs.fits.Fits.{IsLeast}
use Rattle.pt_verify_depths.specs.Sizes.{Lacks, RowTooDeep, SizesMeet}
use Rattle.pt_verify_depths.specs.PlaceTable.{SizesDisagree}
use Rattle.pt_verify_depths.specs.Refusals.{CutsOf, LeaveLacks}
use Rattle.pt_refusals.specs.declared.failures.Failures.{Failures}
use Rattle.pt_refusals.specs.declared.failures.Failures.TheVariants as failures
use Rattle.pt_refusals.specs.declared.failures.KindFailures.{KindFailures}
use Rattle.pt_refusals.specs.declared.failures.LeaveFailures.{LeaveFailures}

-- a place gets two lists, or an instruction finds another kind or may not stand there
pub data Clashes (b : Block) (p : ℕ) : Type 0 where
  two : {q : ℕ} {ks ls : Kinds} → Gets b p q ks → Gets b p q ls → are_kinds ks ls ≡ false
      → Clashes b p
  lacks : {q : ℕ} {i : Ins} {ks : Kinds} → Reached b p q i ks
      → finds (effect b.links i.instr) ks ≡ false → Clashes b p
  misplaced : {q : ℕ} {i : Ins} {ks : Kinds} → Reached b p q i ks
      → may_stand b.kind b.links i.instr ≡ false → Clashes b p

-- a Leave leaves other kinds than its target has
pub data LeaveClashes (b : Block) (p : ℕ) : Type 0 where
  leaves : {t : ℕ} {ks ls : Kinds} → Leaving b p t ks → Gets b p t ls → is_prefix ls ks ≡ false
      → LeaveClashes b p

-- the least number with a property, or that none has it
abbrev pub TellsLeast : (ℕ → Type 0) → Option ℕ → Type 0
TellsLeast P (Some n) = IsLeast P n
TellsLeast P None = (n : ℕ) → P n → ⊥

-- of the numbers below a bound
abbrev pub TellsLeastBelow : (ℕ → Type 0) → (bound : ℕ) → Option ℕ → Type 0
TellsLeastBelow P bound = TellsLeast (λ n. (n < bound) × P n)

pub record TellsKinds (b : Block) (p : ℕ) (told : KindFailures) : Type 0 where
  pub clash : Decides told.clash (Clashes b p)
  pub strays : Decides told.strays (Strays b p)

-- other kinds matter only where nothing else clashes, so that each place gets one list, and no Leave
-- leaves too few slots
pub record TellsLeaves (b : Block) (p : ℕ) (told : LeaveFailures) : Type 0 where
  pub lacks : Decides told.lacks (LeaveLacks b p)
  pub clash : (Clashes b p → ⊥) → (LeaveLacks b p → ⊥) → Decides told.clash (LeaveClashes b p)

-- the row with this number is to leave too many slots
pub record DeepOf (b : Block) (p n : ℕ) : Type 0 where
  pub row : Handler
  pub number : IsRow b row n
  pub deep : RowTooDeep b p row

pub record TellsDeep (b : Block) (p row : ℕ) (cuts : Option ℕ) : Type 0 where
  pub apart : SizesMeet b p → ⊥
  pub deep : IsLeast (DeepOf b p) row
  pub before : TellsLeastBelow (CutsOf b p) row cuts

pub record TellsFew (b : Block) (p : ℕ) (cuts : Option ℕ) : Type 0 where
  pub apart : SizesMeet b p → ⊥
  pub shallow : (row : Handler) → RowTooDeep b p row → ⊥
  pub few : Lacks b p
  pub rows : TellsLeast (CutsOf b p) cuts

pub record TellsRow (b : Block) (p row : ℕ) : Type 0 where
  pub agree : SizesDisagree b p → ⊥
  pub cut : IsLeast (CutsOf b p) row

pub record TellsAgreeing (b : Block) (p : ℕ) (k : KindFailures) (l : LeaveFailures) : Type 0 where
  pub agree : SizesDisagree b p → ⊥
  pub uncut : (n : ℕ) → CutsOf b p n → ⊥
  pub kinds : TellsKinds b p k
  pub leaves : TellsLeaves b p l

-- what is told of how a block fails up to a place
abbrev pub TellsFailures : (b : Block) (p : ℕ) → Failures → Type 0
TellsFailures b p failures.Meet = SizesMeet b p
TellsFailures b p (failures.TooDeep row cuts) = TellsDeep b p row cuts
TellsFailures b p (failures.TooFew cuts) = TellsFew b p cuts
TellsFailures b p (failures.Cut row) = TellsRow b p row
TellsFailures b p (failures.Agree k l) = TellsAgreeing b p k l
