-- What the making of a block's graph knows.
use Rattle.std.specs.Prelude.{◌≡◌, ℕ, ◌+◌, ◌<◌, ◌≤◌, List, [], length, Contains, Option}
use Rattle.pt_instr.specs.Effects.{Kinds}
use Rattle.pt_ranges.specs.declared.handlers.Handler.{Handler}
use Rattle.pt_sizes.specs.Waiting.{Level, levels_of}
use Rattle.pt_step_graph.specs.Graph.{width}
use Rattle.sem_fits.specs.fits.Block.{Block}
use Rattle.pt_kind_flow.specs.declared.flow.Flow.{Flow}
use Rattle.pt_kind_flow.specs.Flow.{graph, edges_at}
use Rattle.pt_kind_flow.specs.Search.{IsFlow}
use Rattle.pt_block_kinds.specs.declared.graph.BlockKinds.{BlockKinds}
use Rattle.pt_block_kinds.specs.declared.graph.Plan.{Plan}
use Rattle.pt_block_kinds.specs.Leads.{Lead, leads_of}
use Rattle.pt_block_kinds.specs.Graph.{AreLaid, rows_from, IsGraph}

-- where rows lie over a count of places
pub record IsPlan (rows : List Handler) (count : ℕ) (plan : Plan) : Type 0 where
  pub laid : AreLaid rows count (levels_of plan.waiting.levels)
  pub deep : (row : Handler) → Contains rows row → row.depth ≤ plan.deepest
  pub first : plan.rows_from ≡ count + width (levels_of plan.waiting.levels)
  pub size : plan.size ≡ plan.rows_from + length rows

-- the vertices from one on have their edges
pub record DrawnFrom (first : Kinds) (size : ℕ) (leads : ℕ → List Lead) (from : ℕ) (f : Flow)
    : Type 0 where
  pub flow : IsFlow f
  pub long : length (graph f).edges ≡ size
  pub starts : (graph f).first ≡ first
  pub low : from ≤ size
  pub drawn : (v : ℕ) → from ≤ v → v < size → leads_of (edges_at (graph f).edges v) ≡ leads v
  pub rest : (v : ℕ) → v < from → edges_at (graph f).edges v ≡ []

-- the flow of the graph of a block up to a place
pub record Draws (b : Block) (p : ℕ) (T : List (Option ℕ)) (kinds : BlockKinds) : Type 0 where
  pub levels : List Level
  pub is : IsGraph b p T levels (graph kinds.flow)
  pub flow : IsFlow kinds.flow
  pub rows : kinds.rows_from ≡ rows_from T levels
