-- What an answer tells of a block: whether a place of it is too deep, and of the cycles on which no act begins.
use Rattle.std.specs.Prelude.{◌≡◌, ℕ, ◌-◌, ◌<◌, List, [], length, Contains, slice_index_or, Bool, true, false, Option, Some}
use Rattle.pt_instr.specs.declared.Instr.TheVariants.{EndFinally}
use Rattle.pt_instr.specs.Effects.{Kinds}
use Rattle.pt_code.specs.View.{Ins}
use Rattle.pt_sizes.specs.Flow.{entry}
use Rattle.sem_fits.specs.fits.Block.{Block}
use Rattle.sem_fits.specs.fits.Places.{Reached}
use Rattle.sem_fits.specs.fits.Leaves.{Holds}
use Rattle.sem_fits.specs.fits.Fits.{IsLeast, Silent, SilentLoop, TooDeep}
use Rattle.pt_cycles.specs.declared.cycles.Cycles.{Cycles}
use Rattle.pt_cycles.specs.declared.cycles.Cycles.TheVariants as cycles
use Rattle.pt_cycles.specs.Graphs.{number_of}

abbrev pub TellsDepth : Block → Bool → Type 0
TellsDepth b true = TooDeep b
TellsDepth b false = TooDeep b → ⊥

-- an EndFinally whose slot may hold a Leave for the target lets it go on (8.4.4)
pub record LetsGo (b : Block) (pc target : ℕ) : Type 0 where
  pub ins : Ins
  pub kinds : Kinds
  pub reached : Reached b b.size pc ins kinds
  pub ends : ins.instr ≡ EndFinally
  pub holds : Holds b b.size target pc (length kinds - 1)

pub record IsBundled (bundles : List (List ℕ)) (held : List (Option ℕ)) (pc target : ℕ) : Type 0 where
  pub bundle : ℕ
  pub is : entry held pc ≡ Some bundle
  pub among : Contains (slice_index_or bundles bundle []) target

-- tables have for each place the bundle of the places to which it lets Leaves go on
pub record HasHeld (b : Block) (bundles : List (List ℕ)) (held : List (Option ℕ)) : Type 0 where
  pub sound : (pc target : ℕ) → IsBundled bundles held pc target → LetsGo b pc target
  pub whole : (pc target : ℕ) → LetsGo b pc target → IsBundled bundles held pc target

-- numbers that fall along each walk on which no act begins, or the least place of a silent loop
abbrev pub TellsLoops : Block → Cycles → Type 0
TellsLoops b (cycles.Ranks table) = (q r : ℕ) → Silent b q r → number_of table.items r < number_of table.items q
TellsLoops b (cycles.Least pc) = IsLeast (SilentLoop b) pc
