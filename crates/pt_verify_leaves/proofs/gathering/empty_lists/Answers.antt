use Rattle.std.proofs.Common.{◌≡◌, [], ap, subst, sym, map, arith}
use Rattle.pt_step_graph.specs.Graph.{bundles_of}
use Rattle.pt_verify_leaves.specs.Gathering.{AreGathered}
use Rattle.pt_verify_leaves.proofs.Gathers.{gathered_none, empty_more}
use Rattle.pt_verify_leaves.proofs.gathering.empty_lists.Goals as goal

pub loop-counter-init : goal.loop-counter-init
loop-counter-init c = subst (λ ls. AreGathered 0 [] ls) (sym (ap (λ ys. map (λ b. b.items) ys) c.new-lists.ensures.items)) gathered_none

pub loop-counter-preserved : goal.loop-counter-preserved
loop-counter-preserved c = empty_more c.loop-counter.counter c.loop-counter.lists c.push.new.self c.new.result c.loop-counter.invariant
    c.new.ensures.items c.in_ok-push.ensures.items

pub returns : goal.returns
returns c =
    let e : c.loop-counter.counter ≡ c.args.count = omega (arith, c.loop-counter-test.false, c.loop-counter.auto.counter-end) in
    subst (λ n. AreGathered n [] (bundles_of c.loop-counter.lists)) e c.loop-counter.invariant
