-- What the sizes of places tell of how a block fails to agree, and so of its refusal.
use Rattle.std.specs.Prelude.{◌≡◌, ℕ, ◌+◌, ◌<◌, length, Contains, false, nat_le}
use Rattle.pt_instr.specs.Effects.{Kinds}
use Rattle.pt_ranges.specs.declared.handlers.Handler.{Handler}
use Rattle.pt_code.specs.View.{Ins}
use Rattle.pt_sizes.specs.declared.flow.Sizes.{Sizes}
use Rattle.pt_sizes.specs.declared.flow.Sizes.TheVariants as sizes
use Rattle.sem_fits.specs.fits.Block.{Block}
use Rattle.sem_fits.specs.fits.Steps.{are_kinds, cut}
use Rattle.sem_fits.specs.fits.Places.{Gets, Reached}
use Rattle.sem_fits.specs.fits.Leaves.{Leaving}
use Rattle.sem_fits.specs.fits.Tables.{IsRow}
use Rattle.sem_fits.specs.fits.Agreement.{LengthsMeet, KindsClash, Strays}
use Rattle.sem_fits.specs.fits.Fits.{IsLeast, Disagrees, RefusedAt, Refused, TablesHold, Misfit, stack, table}
use Rattle.pt_verify_depths.specs.PlaceTable.{TellsSizes}
use Rattle.pt_verify_depths.specs.Laws.{Deep, Few}

-- under a handler row slots of two kinds would stay
pub data CutsDiffer (b : Block) (p : ℕ) (row : Handler) : Type 0 where
  differs : {q r : ℕ} {i j : Ins} {ks ls : Kinds} → Reached b p q i ks → Contains i.rows row
      → Reached b p r j ls → Contains j.rows row → are_kinds (cut row ks) (cut row ls) ≡ false
      → CutsDiffer b p row

-- a Leave has fewer slots than its target
pub data LeaveLacks (b : Block) (p : ℕ) : Type 0 where
  leaves : {t : ℕ} {ks ls : Kinds} → Leaving b p t ks → Gets b p t ls
      → nat_le (length ls) (length ks) ≡ false → LeaveLacks b p

-- a failure that sizes don't decide
pub data NeedsKinds (b : Block) (p : ℕ) : Type 0 where
  cuts : (row : Handler) → CutsDiffer b p row → NeedsKinds b p
  leaves : LeaveLacks b p → NeedsKinds b p
  kinds : KindsClash b p → NeedsKinds b p
  inside : Strays b p → NeedsKinds b p

-- the cuts under the row with this number, counted through the tables of a block
pub record CutsOf (b : Block) (p n : ℕ) : Type 0 where
  pub row : Handler
  pub number : IsRow b row n
  pub differ : CutsDiffer b p row

-- below a place a block fails by nothing but what needs kinds
abbrev pub NeedsKindsBelow : Block → (p : ℕ) → Type 0
NeedsKindsBelow b p = (q : ℕ) → q < p → Disagrees b q → NeedsKinds b q

-- two lengths are told whatever the kinds are
pub record RefusesMeeting (b : Block) (p : ℕ) : Type 0 where
  pub below : NeedsKindsBelow b p
  pub here : RefusedAt b p (stack p)

-- a row that is too deep is told, unless the cuts under a row before it differ
pub record RefusesRow (b : Block) (p n : ℕ) : Type 0 where
  pub below : NeedsKindsBelow b p
  pub here : ((m : ℕ) → m < n → CutsOf b p m → ⊥) → RefusedAt b p (table n)
  pub cuts : (m : ℕ) → m < n → IsLeast (CutsOf b p) m → RefusedAt b p (table m)

-- too few slots are told, unless the cuts under a row differ
pub record RefusesFew (b : Block) (p : ℕ) : Type 0 where
  pub below : NeedsKindsBelow b p
  pub here : ((row : Handler) → CutsDiffer b p row → ⊥) → RefusedAt b p (stack p)
  pub cuts : (m : ℕ) → IsLeast (CutsOf b p) m → RefusedAt b p (table m)

-- what is told of sizes, said of the refusals of a block
abbrev pub Refuses : Block → Sizes → Type 0
Refuses b (sizes.Agree t) = (p : ℕ) → Disagrees b p → NeedsKinds b p
Refuses b (sizes.Meet p) = RefusesMeeting b p
Refuses b (sizes.TooDeep p n) = RefusesRow b p (length b.marks + n)
Refuses b (sizes.TooFew p) = RefusesFew b p

pub record IsDeepAt (p : ℕ) (s : Sizes) : Type 0 where
  pub row : ℕ
  pub is : s ≡ sizes.TooDeep p row

-- what fails by lengths at the first place up to which the block doesn't agree is told
pub record TellsFirst (b : Block) (s : Sizes) (p : ℕ) : Type 0 where
  pub meet : LengthsMeet b p → s ≡ sizes.Meet p
  pub deep : (LengthsMeet b p → ⊥) → (row : Handler) → Deep b p row → IsDeepAt p s
  pub few : (LengthsMeet b p → ⊥) → ((row : Handler) → Deep b p row → ⊥) → Few b p
      → s ≡ sizes.TooFew p

-- sizes tell exactly how lengths refuse a block
pub record AsRefused (b : Block) (s : Sizes) : Type 0 where
  pub refuses : Refuses b s
  pub first : (p : ℕ) → IsLeast (Disagrees b) p → TellsFirst b s p

abbrev pub SizesRefuse : Block → Type 0
SizesRefuse b = (s : Sizes) → TellsSizes b s → AsRefused b s

-- what is refused at a place is the block's refusal, where nothing fails below and the tables hold
abbrev pub RefusedFirst : Block → Type 0
RefusedFirst b = (p : ℕ) → NeedsKindsBelow b p → ((q : ℕ) → q < p → NeedsKinds b q → ⊥)
    → TablesHold b → (m : Misfit) → RefusedAt b p m → Refused b m
