use Rattle.pt_places.specs.PlaceTable.{entry}
use Rattle.pt_sizes.specs.Waiting.{levels_of}
use Rattle.sem_fits.specs.fits.Block.{kinds_at_start, links_of}
use Rattle.pt_block_kinds.specs.Leads.{vertex_leads}
use Rattle.pt_block_kinds.specs.Drawing.{DrawnFrom}
use Rattle.pt_block_kinds.proofs.graph.kinds_up_to.Given as goal

abbrev pub invariant-loop-vertex : goal.invariant-loop-vertex
invariant-loop-vertex l = DrawnFrom (kinds_at_start l.block.kind) l.plan.size
    (λ v. vertex_leads (links_of l.code) l.block.handlers (entry l.places v) l.limit l.sizes (levels_of l.plan.waiting.levels) l.plan.deepest v)
    l.vertex l.flow

abbrev pub decreases-loop-vertex : goal.decreases-loop-vertex
decreases-loop-vertex l = l.vertex
