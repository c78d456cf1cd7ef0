use Rattle.std.proofs.Common.{arith}
use Rattle.pt_grammar.specs.Views.{clause_in, clauses_in}
use Rattle.pt_grammar.proofs.Depths.{map_snoc}
use Rattle.pt_grammar.proofs.Displays.{depth_clauses_snoc}
use Rattle.pt_grammar.proofs.deep.Clauses.with.Goals as goal

pub invariant_of-result : goal.invariant_of-result
invariant_of-result c = record {
  exact = rw (c.in_ok-push.ensures.ok, map_snoc clause_in c.args.self.items c.args.next.tree)
      (omega (arith, c.max.ensures, c.args.self.exact, c.args.next.exact, depth_clauses_snoc (clauses_in c.args.self.items) (clause_in c.args.next.tree)));
}
