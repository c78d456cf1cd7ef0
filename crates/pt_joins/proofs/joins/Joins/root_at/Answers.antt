use Rattle.std.proofs.Common.{◌<◌, ◌≤◌, arith, length, sym, subst}
use Rattle.pt_joins.specs.Joins.{Root, top, link, node_at}
use Rattle.pt_joins.proofs.Roots.{node_is}
use Rattle.pt_joins.proofs.joins.Joins.root_at.Goals as goal

pub loop-node-preserved : goal.loop-node-preserved
loop-node-preserved c =
    let e = node_is c.args.self.now.nodes.items c.loop-node.node c.index.result.now c.loop-node.invariant.0 c.index.ensures in
    let g = node_is c.args.self.now.nodes.items c.loop-node.node c.index-in-loop-node.result.now c.loop-node.invariant.0 c.index-in-loop-node.ensures in
    let lt : c.args.level < (node_at c.args.self.now.nodes.items c.loop-node.node).levels = subst (λ n. c.args.level < n.levels) e c.loop-node-test.true in
    let some : 0 < (node_at c.args.self.now.nodes.items c.loop-node.node).levels = omega (arith, lt) in (
      subst (λ n. n.parent < length c.args.self.now.nodes.items) (sym g) (c.requires.forest.inside c.loop-node.node some),
      λ r k. c.loop-node.invariant.1 r (link c.loop-node.invariant.0 lt (subst (λ n. Root c.args.self.now.nodes.items c.args.level n.parent r) g k)),
    )

pub returns : goal.returns
returns c =
    let e = node_is c.args.self.now.nodes.items c.loop-node.node c.index.result.now c.loop-node.invariant.0 c.index.ensures in
    c.loop-node.invariant.1 c.loop-node.node (top c.loop-node.invariant.0 (subst (λ n. n.levels ≤ c.args.level) e c.loop-node-test.false))
