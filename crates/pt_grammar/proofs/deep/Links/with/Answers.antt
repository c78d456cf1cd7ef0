use Rattle.std.proofs.Common.{ap, arith}
use Rattle.pt_wide.specs.Fold.{exp_of}
use Rattle.pt_wide.specs.Measure.{depth_exp}
use Rattle.pt_grammar.specs.Views.{link_in, links_in}
use Rattle.pt_grammar.proofs.Depths.{depth_links_snoc, map_snoc}
use Rattle.pt_grammar.proofs.deep.Links.with.Goals as goal

pub invariant_of-result : goal.invariant_of-result
invariant_of-result c = record {
  exact = rw (c.in_ok-push.ensures.ok, map_snoc link_in c.args.self.items record { operator = c.args.next.operator; right = c.into_inner.result })
      (omega (
        arith,
        c.max-depth.ensures,
        c.args.self.exact,
        c.args.next.right.exact,
        depth_links_snoc (links_in c.args.self.items) record { operator = c.args.next.operator; right = exp_of c.into_inner.result },
        ap (λ e. depth_exp (exp_of e)) c.into_inner.ensures,
      ));
}
