use Rattle.std.proofs.Common.{arith, rules, ◌≡◌, ◌∙◌, ap, subst, replicate}
use Rattle.std.proofs.lemmas.Result.{IfOk-weaker}
use Rattle.pt_cycles.specs.declared.search.State.{State}
use Rattle.pt_cycles.specs.declared.search.State.TheVariants.{New}
use Rattle.pt_cycles.specs.Search.{HasNumbers}
use Rattle.pt_cycles.proofs.Stepping.{begins, all_numbered}
use Rattle.pt_cycles.proofs.search.components.Goals as goal

pub loop-vertex-init : goal.loop-vertex-init
loop-vertex-init g c =
    let d = g.G.Graph.edges c.args.graph.now in
    let new : c.in_ok-vec.field-0.items ≡ replicate {A = State} c.size-size.result New = c.in_ok-vec.ensures.items_if_clones_equal (search rules) in
    begins d c.in_ok-vec.field-0 c.new.result c.new-2.result c.new-3.result
    (new ∙ ap (λ n. replicate {A = State} n New) c.size-size.ensures) c.new.ensures.items c.new-2.ensures.items c.new-3.ensures.items

pub returns : goal.returns
returns g c =
    let d = g.G.Graph.edges c.args.graph.now in let s = c.loop-vertex.search in
    IfOk-weaker c.numbers.result _ _
    (λ table is. all_numbered d c.loop-vertex.vertex s
    (omega (arith, c.loop-vertex-test.false, c.loop-vertex.auto.vertex-end, c.size-size.ensures)) c.loop-vertex.invariant
    table.items (subst (λ xs. HasNumbers xs table.items) c.deref.ensures.value is))
    c.numbers.ensures
