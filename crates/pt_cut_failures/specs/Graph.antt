-- The graph of a block up to a place, and the cuts that come to a row.
use Rattle.std.specs.Prelude.{◌≡◌, ℕ, ◌+◌, length, List, Contains, Option, ◌≤◌}
use Rattle.pt_instr.specs.Effects.{Kinds}
use Rattle.pt_ranges.specs.declared.handlers.Handler.{Handler}
use Rattle.pt_code.specs.View.{Ins}
use Rattle.sem_fits.specs.fits.Block.{Block, effect, kinds_at_start}
use Rattle.sem_fits.specs.fits.Steps.{cut, spared}
use Rattle.sem_fits.specs.fits.Places.{Reached}
use Rattle.pt_kind_flow.specs.declared.flow.Flow.{Flow}
use Rattle.pt_kind_flow.specs.Flow.{Graph, edges_at, graph}
use Rattle.pt_kind_flow.specs.Search.{IsFlow}
use Rattle.pt_block_kinds.specs.Leads.{leads_of}
use Rattle.pt_cut_failures.specs.declared.chains.Chains.{Chains}
use Rattle.pt_cut_failures.specs.Chains.{AreRowChains}
use Rattle.pt_cut_failures.specs.Leads.{leads_at}

pub record IsGraph (b : Block) (p : ℕ) (T : List (Option ℕ)) (c : Chains) (g : Graph)
    : Type 0 where
  pub chains : AreRowChains b.handlers (length T) c
  pub first : g.first ≡ kinds_at_start b.kind
  pub long : length g.edges ≡ (length T + length b.handlers) + length c.links.items
  pub leads : (v : ℕ) → leads_of (edges_at g.edges v) ≡ leads_at b p T c v

-- the flow of such a graph
pub record DrawsCuts (b : Block) (p : ℕ) (T : List (Option ℕ)) (f : Flow) : Type 0 where
  pub chains : Chains
  pub is : IsGraph b p T chains (graph f)
  pub flow : IsFlow f

-- the lowest slots of a place that a row covers, as many as the row leaves and no more than lie
-- below those that the instruction takes
pub record IsLanding (b : Block) (p : ℕ) (row : Handler) (ks : Kinds) : Type 0 where
  pub pc : ℕ
  pub ins : Ins
  pub kinds : Kinds
  pub reached : Reached b p pc ins kinds
  pub under : Contains ins.rows row
  pub within : row.depth ≤ spared (effect b.links ins.instr) kinds
  pub is : ks ≡ cut row kinds
