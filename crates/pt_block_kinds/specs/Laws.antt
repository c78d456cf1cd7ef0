-- What comes to the vertices of a block's graph.
use Rattle.std.specs.Prelude.{◌≡◌, ℕ, ◌+◌, ◌<◌, List, length, slice_get, Contains, Option, Some}
use Rattle.pt_instr.specs.Effects.{Kinds}
use Rattle.pt_ranges.specs.declared.handlers.Handler.{Handler}
use Rattle.pt_code.specs.View.{Ins}
use Rattle.pt_sizes.specs.Waiting.{Level}
use Rattle.sem_fits.specs.fits.Block.{Block}
use Rattle.sem_fits.specs.fits.Steps.{cut}
use Rattle.sem_fits.specs.fits.Places.{Gets, Reached}
use Rattle.pt_kind_flow.specs.Flow.{Graph, Comes}
use Rattle.pt_block_kinds.specs.Graph.{HasSizes, IsSeen, rows_from, IsGraph}

-- the lowest slots of a place that a row covers, as many as the row leaves
pub record IsCut (b : Block) (p : ℕ) (row : Handler) (ks : Kinds) : Type 0 where
  pub pc : ℕ
  pub ins : Ins
  pub kinds : Kinds
  pub reached : Reached b p pc ins kinds
  pub under : Contains ins.rows row
  pub is : ks ≡ cut row kinds

pub record ComesAsGotten (b : Block) (p count base : ℕ) (g : Graph) : Type 0 where
  pub gets : (q : ℕ) (ks : Kinds) → Gets b p q ks → Comes g q ks
  pub comes : (q : ℕ) (i : Ins) (ks : Kinds) → b.at q ≡ Some i → Comes g q ks → Gets b p q ks
  pub cuts : (n : ℕ) (row : Handler) (ks : Kinds) → slice_get b.handlers n ≡ Some row
      → IsCut b p row ks → Comes g (base + n) ks
  pub are_cuts : (n : ℕ) (row : Handler) (ks : Kinds) → 0 < count
      → slice_get b.handlers n ≡ Some row → Comes g (base + n) ks → IsCut b p row ks

-- to a place come the kinds that it gets, and to a row the cuts under it
abbrev pub ComeAsGotten : Type 0
ComeAsGotten = (b : Block) (p : ℕ) (T : List (Option ℕ)) (levels : List Level) (g : Graph)
    → IsGraph b p T levels g → IsSeen b (length T) → HasSizes b p T
    → ComesAsGotten b p (length T) (rows_from T levels) g
