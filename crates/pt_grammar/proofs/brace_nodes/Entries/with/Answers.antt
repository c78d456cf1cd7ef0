use Rattle.std.proofs.Common.{map, arith}
use Rattle.pt_wide.specs.Fold.{entry_of}
use Rattle.pt_grammar.proofs.Depths.{map_snoc}
use Rattle.pt_grammar.proofs.Displays.{depth_entries_snoc}
use Rattle.pt_grammar.proofs.brace_nodes.Entries.with.Goals as goal

pub invariant_of-result : goal.invariant_of-result
invariant_of-result c = record {
  exact = rw (c.in_ok-push.ensures.ok, map_snoc entry_of c.args.self.items c.args.next.tree)
      (omega (arith, c.max.ensures, c.args.self.exact, c.args.next.exact, depth_entries_snoc (map entry_of c.args.self.items) (entry_of c.args.next.tree)));
}
