-- Slots in common, as classes on levels: each level is one slot, counted from the lowest. All of it is said of the instructions at p and below.
use Rattle.std.specs.Prelude.{◌≡◌, ◌↔◌, ℕ, ◌<◌, min, List, length, Contains, Some, None}
use Rattle.pt_instr.specs.declared.Instr.TheVariants.{Leave}
use Rattle.pt_instr.specs.Effects.{Kinds}
use Rattle.pt_ranges.specs.declared.handlers.Handler.{Handler}
use Rattle.pt_code.specs.View.{Ins}
use Rattle.sem_fits.specs.fits.Block.{Block}
use Rattle.sem_fits.specs.fits.Steps.{step, steps}
use Rattle.sem_fits.specs.fits.Places.{Gets, Reached}
use Rattle.sem_fits.specs.fits.Leaves.{Common}
use Rattle.pt_joins.specs.declared.joins.Join.{Join}
use Rattle.pt_joins.specs.declared.joins.Node.{Node}
use Rattle.pt_joins.specs.Joins.{Joined, Least, TellsJoins}

-- a step that keeps slots, but for those by which an EndFinally lets a Leave go on
pub data Keeps (b : Block) (p : ℕ) : (from to kept : ℕ) → Type 0 where
  by_row : {q r k : ℕ} {i j : Ins} {ks ls : Kinds} → Reached b p q i ks → Contains (steps b q ks) (step r ls k)
      → b.at r ≡ Some j → Keeps b p q r k
  by_leave : {q t : ℕ} {i : Ins} {ks ls : Kinds} → Reached b p q i ks → i.instr ≡ Leave (record { 0 = t }) → Gets b p t ls
      → Keeps b p q t (min (length ls) (length ks))

-- a step that keeps a slot
pub data KeepsSlot (b : Block) (p slot : ℕ) : (one other : ℕ) → Type 0 where
  one_step : {q r k : ℕ} → Keeps b p q r k → slot < k → KeepsSlot b p slot q r

abbrev pub IsKept : Block → (p slot one other : ℕ) → Type 0
IsKept b p slot one other = Least (KeepsSlot b p slot) one other

-- the handler rows over places lead to places
abbrev pub RowsLead : Block → Type 0
RowsLead b = (pc : ℕ) (i : Ins) → b.at pc ≡ Some i → (row : Handler) → Contains i.rows row
    → b.at row.target.0 ≡ None → ⊥

-- pairs of places that join just what is in common
pub record AreCommon (b : Block) (p : ℕ) (joins : List Join) : Type 0 where
  pub exact : (slot q r : ℕ) → Joined joins slot q r ↔ Common b p slot q r

pub record TellsCommon (b : Block) (p : ℕ) (nodes : List Node) : Type 0 where
  pub joins : List Join
  pub count : ℕ
  pub tells : TellsJoins joins count nodes
  pub common : AreCommon b p joins
