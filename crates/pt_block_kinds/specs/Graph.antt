-- The graph of a block up to a place, and what has to be known of the sizes there.
use Rattle.std.specs.Prelude.{◌≡◌, ℕ, ◌+◌, ◌<◌, ◌≤◌, List, [], length, filter, slice_index_or, Contains, Option, Some, None}
use Rattle.pt_ranges.specs.declared.handlers.Handler.{Handler}
use Rattle.pt_ranges.specs.Rows.{covers}
use Rattle.pt_code.specs.View.{Ins}
use Rattle.pt_sizes.specs.Flow.{entry}
use Rattle.pt_sizes.specs.Waiting.{Level, AllWait, up}
use Rattle.pt_step_graph.specs.Graph.{width}
use Rattle.sem_fits.specs.fits.Block.{Block, kinds_at_start}
use Rattle.pt_verify_depths.specs.Sizes.{Sized, RowTooDeep}
use Rattle.pt_kind_flow.specs.Flow.{Graph, edges_at}
use Rattle.pt_block_kinds.specs.Leads.{leads_of, leads_at, numbered}

-- the table has the size of each place that gets one through the instructions at p and below, and
-- no handler row is to leave more slots than lie there
pub record HasSizes (b : Block) (p : ℕ) (T : List (Option ℕ)) : Type 0 where
  pub whole : (q n : ℕ) → Sized b p q n → entry T q ≡ Some n
  pub stands : (q n : ℕ) → entry T q ≡ Some n → b.at q ≡ None → ⊥
  pub within : (row : Handler) → RowTooDeep b p row → ⊥

-- the instructions of a block stand before a count, each under the rows that cover it
pub record IsSeen (b : Block) (count : ℕ) : Type 0 where
  pub below : (pc : ℕ) (i : Ins) → b.at pc ≡ Some i → pc < count
  pub rows : (pc : ℕ) (i : Ins) → b.at pc ≡ Some i
      → i.rows ≡ filter (λ row. covers row (record { 0 = pc })) b.handlers

-- the rows wait on levels, each of which has a stretch for each place
pub record AreLaid (rows : List Handler) (count : ℕ) (levels : List Level) : Type 0 where
  pub wait : AllWait (numbered 0 rows) count levels
  pub wide : (k : ℕ) → k < length levels → up k count < length (slice_index_or levels k [])

-- the first vertex of the rows
abbrev pub rows_from : List (Option ℕ) → List Level → ℕ
rows_from T levels = length T + width levels

pub record IsGraph (b : Block) (p : ℕ) (T : List (Option ℕ)) (levels : List Level) (g : Graph)
    : Type 0 where
  pub deepest : ℕ
  pub laid : AreLaid b.handlers (length T) levels
  pub deep : (row : Handler) → Contains b.handlers row → row.depth ≤ deepest
  pub first : g.first ≡ kinds_at_start b.kind
  pub long : length g.edges ≡ rows_from T levels + length b.handlers
  pub leads : (v : ℕ) → leads_of (edges_at g.edges v) ≡ leads_at b p T levels deepest v
