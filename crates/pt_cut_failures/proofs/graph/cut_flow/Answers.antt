use Rattle.std.proofs.Common.{◌≡◌, ℕ, ◌+◌, ◌-◌, length, ap, subst, arith}
use Rattle.pt_places.specs.PlaceTable.{entry}
use Rattle.sem_fits.specs.fits.Block.{kinds_at_start, links_of}
use Rattle.pt_block_kinds.specs.Leads.{leads_of}
use Rattle.pt_block_kinds.specs.Drawing.{DrawnFrom}
use Rattle.pt_block_kinds.proofs.Opening.{drawn_more, room, none_yet}
use Rattle.pt_cut_failures.specs.Chains.{AreRowChains}
use Rattle.pt_cut_failures.specs.Leads.{vertex_leads}
use Rattle.pt_cut_failures.proofs.Drawing.{edges_descend, draws}
use Rattle.pt_cut_failures.proofs.graph.cut_flow.Goals as goal

pub open-requires-clause-sorted : goal.open-requires-clause-sorted
open-requires-clause-sorted c =
    let links = links_of c.args.code.now in
    let chains = c.in_ok-chains.chains in
    let v = c.loop-vertex.vertex - 1 in
    let place = entry c.args.places.now v in
    edges_descend links c.args.block.now.handlers place c.args.limit c.args.sizes.now chains v c.in_ok-edges.edges.items
    (subst (λ rs. leads_of c.in_ok-edges.edges.items ≡ vertex_leads links rs place c.args.limit c.args.sizes.now chains v) c.as_slice-rows.ensures c.in_ok-edges.ensures)

pub open-requires-clause-inside : goal.open-requires-clause-inside
open-requires-clause-inside c =
    let links = links_of c.args.code.now in
    let chains = c.in_ok-chains.chains in
    let v = c.loop-vertex.vertex - 1 in
    let leads = λ (u : ℕ). vertex_leads links c.args.block.now.handlers (entry c.args.places.now u) c.args.limit c.args.sizes.now chains u in
    let one : c.loop-vertex.vertex ≡ v + 1 = omega arith in
    let drawn = subst (λ n. DrawnFrom (kinds_at_start c.args.block.now.kind) c.in_ok-size.size leads n c.loop-vertex.flow) one c.loop-vertex.invariant in
    room (kinds_at_start c.args.block.now.kind) c.in_ok-size.size leads v c.loop-vertex.flow drawn

pub open-requires-clause-none : goal.open-requires-clause-none
open-requires-clause-none c =
    let links = links_of c.args.code.now in
    let chains = c.in_ok-chains.chains in
    let v = c.loop-vertex.vertex - 1 in
    let leads = λ (u : ℕ). vertex_leads links c.args.block.now.handlers (entry c.args.places.now u) c.args.limit c.args.sizes.now chains u in
    let one : c.loop-vertex.vertex ≡ v + 1 = omega arith in
    let drawn = subst (λ n. DrawnFrom (kinds_at_start c.args.block.now.kind) c.in_ok-size.size leads n c.loop-vertex.flow) one c.loop-vertex.invariant in
    none_yet (kinds_at_start c.args.block.now.kind) c.in_ok-size.size leads v c.loop-vertex.flow drawn

pub loop-vertex-preserved : goal.loop-vertex-preserved
loop-vertex-preserved c =
    let links = links_of c.args.code.now in
    let chains = c.in_ok-chains.chains in
    let v = c.loop-vertex.vertex - 1 in
    let leads = λ (u : ℕ). vertex_leads links c.args.block.now.handlers (entry c.args.places.now u) c.args.limit c.args.sizes.now chains u in
    let one : c.loop-vertex.vertex ≡ v + 1 = omega arith in
    let drawn = subst (λ n. DrawnFrom (kinds_at_start c.args.block.now.kind) c.in_ok-size.size leads n c.loop-vertex.flow) one c.loop-vertex.invariant in
    drawn_more (kinds_at_start c.args.block.now.kind) c.in_ok-size.size leads v c.loop-vertex.flow drawn c.open.new.self c.in_ok-edges.edges.items c.in_ok-open.ensures
    (subst (λ rs. leads_of c.in_ok-edges.edges.items ≡ vertex_leads links rs (entry c.args.places.now v) c.args.limit c.args.sizes.now chains v) c.as_slice-rows.ensures
    c.in_ok-edges.ensures)

pub returns-clause-draws : goal.returns-clause-draws
returns-clause-draws c = λ view has. let chains = c.in_ok-chains.chains in
    draws c.args.code.now c.args.block.now view c.args.places.now has c.args.limit c.args.sizes.now chains
    (subst (λ rs. AreRowChains rs (length c.args.sizes.now) chains) c.as_slice-rows.ensures c.in_ok-chains.ensures) c.loop-vertex.flow c.in_ok-size.size c.loop-vertex.vertex
    (let rows = ap length c.as_slice-rows.ensures in omega (arith, c.in_ok-size.ensures, c.in_ok-sum.ensures, c.len.ensures, rows))
    (omega (arith, c.loop-vertex-test.false)) c.loop-vertex.invariant
