use Rattle.std.proofs.Common.{sym, arith}
use Rattle.pt_grammar.specs.Nodes.{any_next}
use Rattle.pt_grammar.specs.CallViews.{argument_in, argument_read, arguments_in}
use Rattle.pt_grammar.proofs.Depths.{map_snoc}
use Rattle.pt_grammar.proofs.CallLemmas.{depth_args_snoc, order_snoc}
use Rattle.pt_grammar.proofs.call_nodes.Ordered.with.Goals as goal

pub invariant_of-result : goal.invariant_of-result
invariant_of-result c = record {
  exact = rw (c.in_ok-push.ensures.ok, map_snoc argument_in c.args.self.items c.into_node.result, c.into_node.ensures)
      (omega (arith, c.max-depth.ensures, c.depth.ensures, c.args.self.exact, depth_args_snoc (arguments_in c.args.self.items) (argument_read c.args.next)));
  ordered = rw (c.in_ok-push.ensures.ok, map_snoc argument_in c.args.self.items c.into_node.result, c.into_node.ensures, order_snoc any_next (arguments_in c.args.self.items) (argument_read c.args.next), sym c.args.self.ordered)
      c.behind-order.ensures;
}
