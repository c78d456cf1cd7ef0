use Rattle.std.proofs.Common.{◌≡◌, subst, arith}
use Rattle.std.specs.Prelude.{IfOk}
use Rattle.pt_places.specs.PlaceTable.{entry}
use Rattle.sem_fits.specs.fits.Block.{links_of}
use Rattle.pt_block_kinds.specs.Leads.{leads_of}
use Rattle.pt_block_kinds.proofs.Opening.{row_leads}
use Rattle.pt_block_kinds.proofs.graph.edges_of_vertex.Goals as goal

pub returns : goal.returns
returns c =
    subst (λ xs. IfOk c.edges_of_row.result (λ edges. leads_of edges.items ≡ xs))
    (row_leads (links_of c.args.code.now) c.args.rows.now (entry c.args.places.now c.args.vertex) c.args.limit c.args.sizes.now c.args.plan.now c.requires c.args.vertex
    (λ h. absurd (let k = c.if-vertex-plan.false in omega (arith, h, k))) c.get.result c.get.ensures.lookup.0 c.get.ensures.lookup.1)
    c.edges_of_row.ensures
