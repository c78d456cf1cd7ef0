use Rattle.std.proofs.Common.{◌≡◌, ℕ, ◌+◌, ◌-◌, length, refl, subst, arith}
use Rattle.pt_places.specs.PlaceTable.{entry}
use Rattle.pt_sizes.specs.Waiting.{levels_of}
use Rattle.sem_fits.specs.fits.Block.{kinds_at_start, links_of}
use Rattle.pt_block_kinds.specs.Leads.{leads_of, vertex_leads}
use Rattle.pt_block_kinds.specs.Drawing.{IsPlan, DrawnFrom}
use Rattle.pt_block_kinds.proofs.Opening.{edges_descend, drawn_more, draws, room, none_yet}
use Rattle.pt_block_kinds.proofs.graph.kinds_up_to.Goals as goal

pub open-requires-clause-sorted : goal.open-requires-clause-sorted
open-requires-clause-sorted c =
    let v = c.loop-vertex.vertex - 1 in
    edges_descend (links_of c.args.code.now) c.args.block.now.handlers (entry c.args.places.now v) c.args.limit c.args.sizes.now c.in_ok-plan.plan v
    c.in_ok-edges.edges.items (subst (λ rs. IsPlan rs (length c.args.sizes.now) c.in_ok-plan.plan) c.as_slice-rows.ensures c.in_ok-plan.ensures)
    (subst (λ rs. leads_of c.in_ok-edges.edges.items ≡ vertex_leads (links_of c.args.code.now) rs (entry c.args.places.now v) c.args.limit c.args.sizes.now
    (levels_of c.in_ok-plan.plan.waiting.levels) c.in_ok-plan.plan.deepest v) c.as_slice-rows.ensures c.in_ok-edges.ensures)

pub open-requires-clause-inside : goal.open-requires-clause-inside
open-requires-clause-inside c =
    let v = c.loop-vertex.vertex - 1 in
    let plan = c.in_ok-plan.plan in
    let leads = λ (u : ℕ). vertex_leads (links_of c.args.code.now) c.args.block.now.handlers (entry c.args.places.now u) c.args.limit c.args.sizes.now (levels_of plan.waiting.levels) plan.deepest u in
    let one : c.loop-vertex.vertex ≡ v + 1 = omega arith in
    let drawn = subst (λ n. DrawnFrom (kinds_at_start c.args.block.now.kind) plan.size leads n c.loop-vertex.flow) one c.loop-vertex.invariant in
    room (kinds_at_start c.args.block.now.kind) plan.size leads v c.loop-vertex.flow drawn

pub open-requires-clause-none : goal.open-requires-clause-none
open-requires-clause-none c =
    let v = c.loop-vertex.vertex - 1 in
    let plan = c.in_ok-plan.plan in
    let leads = λ (u : ℕ). vertex_leads (links_of c.args.code.now) c.args.block.now.handlers (entry c.args.places.now u) c.args.limit c.args.sizes.now (levels_of plan.waiting.levels) plan.deepest u in
    let one : c.loop-vertex.vertex ≡ v + 1 = omega arith in
    let drawn = subst (λ n. DrawnFrom (kinds_at_start c.args.block.now.kind) plan.size leads n c.loop-vertex.flow) one c.loop-vertex.invariant in
    none_yet (kinds_at_start c.args.block.now.kind) plan.size leads v c.loop-vertex.flow drawn

pub loop-vertex-preserved : goal.loop-vertex-preserved
loop-vertex-preserved c =
    let v = c.loop-vertex.vertex - 1 in
    let plan = c.in_ok-plan.plan in
    let leads = λ (u : ℕ). vertex_leads (links_of c.args.code.now) c.args.block.now.handlers (entry c.args.places.now u) c.args.limit c.args.sizes.now (levels_of plan.waiting.levels) plan.deepest u in
    let one : c.loop-vertex.vertex ≡ v + 1 = omega arith in
    let drawn = subst (λ n. DrawnFrom (kinds_at_start c.args.block.now.kind) plan.size leads n c.loop-vertex.flow) one c.loop-vertex.invariant in
    drawn_more (kinds_at_start c.args.block.now.kind) plan.size leads v c.loop-vertex.flow drawn c.open.new.self c.in_ok-edges.edges.items c.in_ok-open.ensures
    (subst (λ rs. leads_of c.in_ok-edges.edges.items ≡ vertex_leads (links_of c.args.code.now) rs (entry c.args.places.now v) c.args.limit c.args.sizes.now
    (levels_of plan.waiting.levels) plan.deepest v) c.as_slice-rows.ensures c.in_ok-edges.ensures)

pub returns : goal.returns
returns c = λ view has.
    draws c.args.code.now c.args.block.now view c.args.places.now has c.args.limit c.args.sizes.now c.in_ok-plan.plan (subst (λ rs. IsPlan rs (length c.args.sizes.now) c.in_ok-plan.plan) c.as_slice-rows.ensures c.in_ok-plan.ensures) c.loop-vertex.flow _ refl refl
    c.loop-vertex.vertex (omega (arith, c.loop-vertex-test.false)) c.loop-vertex.invariant
