use Rattle.std.proofs.Common.{◌≡◌, ◌+◌, ◌-◌, ◌<◌, ◌≤◌, length, refl, sym, ap, ◌∙◌, subst, arith}
use Rattle.std.specs.Prelude.{IfOk, slice_get}
use Rattle.std.proofs.lemmas.Option.{slice_get_read}
use Rattle.pt_places.specs.PlaceTable.{entry}
use Rattle.sem_fits.specs.fits.Block.{links_of}
use Rattle.pt_block_kinds.specs.Leads.{leads_of}
use Rattle.pt_cut_failures.specs.Leads.{link_leads}
use Rattle.pt_cut_failures.proofs.Drawing.{at_link}
use Rattle.pt_cut_failures.proofs.graph.edges_of_vertex.Goals as goal

pub edges_from-requires : goal.edges_from-requires
edges_from-requires c = (c.args.rows.now, c.requires)

pub returns : goal.returns
returns c =
    let count = length c.args.sizes.now in
    let base = count + length c.args.rows.now in
    let v = c.args.vertex in
    let links = c.args.chains.now.links.items in
    let from : c.in_ok-links_from.links_from ≡ base = omega (arith, c.in_ok-links_from.ensures) in
    let behind : base ≤ v = omega (arith, from, c.if-vertex-links_from.false) in
    let lt : v - base < length links = omega (arith, from, c.if-number-len.false, c.len.ensures) in
    let link = c.index.result.now in
    let is = slice_get_read links (length links) (v - c.in_ok-links_from.links_from) link refl (omega (arith, from, lt)) c.index.ensures in
    subst (λ xs. IfOk c.edges_of_link.result (λ edges. leads_of edges.items ≡ xs))
    (ap (link_leads count c.in_ok-links_from.links_from (v - c.in_ok-links_from.links_from)) (sym is)
    ∙ (ap (λ n. link_leads count n (v - n) (slice_get links (v - n))) from
    ∙ at_link (links_of c.args.code.now) c.args.rows.now (entry c.args.places.now v) c.args.limit c.args.sizes.now c.args.chains.now v behind))
    c.edges_of_link.ensures
