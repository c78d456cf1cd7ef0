-- Which blocks fit, so that code from anyone can run, and why one is refused.
use Rattle.std.specs.Prelude.{◌≡◌, ℕ, ◌<◌, length, slice_get, Option, Some, None}
use Rattle.pt_instr.specs.declared.Instr.TheVariants.{Leave}
use Rattle.pt_instr.specs.Effects.{Kinds}
use Rattle.pt_ranges.specs.declared.handlers.Handler.{Handler}
use Rattle.pt_code.specs.declared.CodeBlock.{CodeBlock}
use Rattle.pt_code.specs.declared.Code.{Code}
use Rattle.pt_code.specs.View.{Ins, IsView}
use Rattle.sem_fits.specs.fits.Block.{Block, block_of}
use Rattle.sem_fits.specs.fits.Places.{Gets, Reached}
use Rattle.sem_fits.specs.fits.Leaves.{Goes}
use Rattle.sem_fits.specs.fits.Tables.{RowFails, IsRow}
use Rattle.sem_fits.specs.fits.Agreement.{LengthsMeet, HandlerFails, TooFew, KindsClash, Strays, Agrees}

-- the least number with a property
pub record IsLeast (P : ℕ → Type 0) (n : ℕ) : Type 0 where
  pub holds : P n
  pub least : (m : ℕ) → m < n → P m → ⊥

-- a Leave whose place has kinds and whose target gets none
pub record IsLost (b : Block) (pc : ℕ) : Type 0 where
  pub ins : Ins
  pub kinds : Kinds
  pub reached : Reached b b.size pc ins kinds
  pub target : ℕ
  pub leaves : ins.instr ≡ Leave (record { 0 = target })
  pub lost : (ls : Kinds) → Gets b b.size target ls → ⊥

-- the target of a Leave gets kinds
pub record Arrives (b : Block) (target : ℕ) : Type 0 where
  pub kinds : Kinds
  pub gets : Gets b b.size target kinds

abbrev pub AllArrive : Block → Type 0
AllArrive b = (pc : ℕ) (i : Ins) (ks : Kinds) → Reached b b.size pc i ks → (t : ℕ) → i.instr ≡ Leave (record { 0 = t }) → Arrives b t

-- an activation holds at most 16,777,216 slots
abbrev pub MOST : ℕ
MOST = 16777216

pub record TooDeep (b : Block) : Type 0 where
  pub pc : ℕ
  pub kinds : Kinds
  pub gets : Gets b b.size pc kinds
  pub more : MOST < length kinds

pub record Unmarked (b : Block) (pc : ℕ) : Type 0 where
  pub ins : Ins
  pub stands : b.at pc ≡ Some ins
  pub silent : ins.mark ≡ None

-- a walk on which no act begins, until it is done
pub data Silent (b : Block) : (from to : ℕ) → Type 0 where
  once : {q r k : ℕ} → Unmarked b q → Goes b b.size q r k → Silent b q r
  more : {q r s k : ℕ} → Silent b q r → Unmarked b r → Goes b b.size r s k → Silent b q s

abbrev pub SilentLoop : Block → (pc : ℕ) → Type 0
SilentLoop b pc = Silent b pc pc

abbrev pub TablesHold : Block → Type 0
TablesHold b = (n : ℕ) → RowFails b n → ⊥

pub record Fits (b : Block) : Type 0 where
  pub tables : TablesHold b
  pub agrees : Agrees b b.size
  pub arrives : AllArrive b
  pub shallow : TooDeep b → ⊥
  pub loops : (pc : ℕ) → SilentLoop b pc → ⊥

-- a block of a code fits by each view that its bytes have
abbrev pub BlockFits : Code → CodeBlock → Type 0
BlockFits c b = (view : ℕ → Option Ins) → IsView b view → Fits (block_of c b view)

abbrev pub AllFit : Code → Type 0
AllFit c = (n : ℕ) (b : CodeBlock) → slice_get c.blocks n ≡ Some b → BlockFits c b

-- why a block is refused, and where
pub data Misfit : Type 0 where
  stack : (pc : ℕ) → Misfit
  kind : (pc : ℕ) → Misfit
  target : (pc : ℕ) → Misfit
  table : (row : ℕ) → Misfit
  silent_loop : (pc : ℕ) → Misfit
  depth : Misfit

pub data Disagrees (b : Block) (p : ℕ) : Type 0 where
  lengths : LengthsMeet b p → Disagrees b p
  handlers : (row : Handler) → HandlerFails b p row → Disagrees b p
  enough : TooFew b p → Disagrees b p
  kinds : KindsClash b p → Disagrees b p
  inside : Strays b p → Disagrees b p

pub record NumberFails (b : Block) (p n : ℕ) : Type 0 where
  pub row : Handler
  pub number : IsRow b row n
  pub fails : HandlerFails b p row

abbrev NoHandlerFails : Block → ℕ → Type 0
NoHandlerFails b p = (row : Handler) → HandlerFails b p row → ⊥

-- the refusal at the least place up to which a block doesn't agree: two lengths before a row, that before too few slots, these before another kind,
-- that before a target
pub data RefusedAt (b : Block) (p : ℕ) : Misfit → Type 0 where
  lengths : LengthsMeet b p → RefusedAt b p (stack p)
  handlers : (LengthsMeet b p → ⊥) → (n : ℕ) → IsLeast (NumberFails b p) n → RefusedAt b p (table n)
  enough : (LengthsMeet b p → ⊥) → NoHandlerFails b p → TooFew b p → RefusedAt b p (stack p)
  kinds : (LengthsMeet b p → ⊥) → NoHandlerFails b p → (TooFew b p → ⊥) → KindsClash b p → RefusedAt b p (kind p)
  inside : (LengthsMeet b p → ⊥) → NoHandlerFails b p → (TooFew b p → ⊥) → (KindsClash b p → ⊥) → Strays b p → RefusedAt b p (target p)

-- tables come first, then the least place, Leaves that come to nothing, the depth, and loops
pub data Refused (b : Block) : Misfit → Type 0 where
  tables : (n : ℕ) → IsLeast (RowFails b) n → Refused b (table n)
  disagrees : {m : Misfit} → TablesHold b → (p : ℕ) → IsLeast (Disagrees b) p → RefusedAt b p m → Refused b m
  lost : TablesHold b → Agrees b b.size → (pc : ℕ) → IsLeast (IsLost b) pc → Refused b (target pc)
  too_deep : TablesHold b → Agrees b b.size → AllArrive b → TooDeep b → Refused b depth
  loops : TablesHold b → Agrees b b.size → AllArrive b → (TooDeep b → ⊥) → (pc : ℕ) → IsLeast (SilentLoop b) pc → Refused b (silent_loop pc)
