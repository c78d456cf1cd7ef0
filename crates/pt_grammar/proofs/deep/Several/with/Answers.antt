use Rattle.std.proofs.Common.{map, ap, arith}
use Rattle.pt_wide.specs.Fold.{exp_of}
use Rattle.pt_wide.specs.Measure.{depth_exp}
use Rattle.pt_grammar.proofs.Depths.{depth_snoc, map_snoc}
use Rattle.pt_grammar.proofs.deep.Several.with.Goals as goal

pub invariant_of-result : goal.invariant_of-result
invariant_of-result c = record {
  exact = rw (c.in_ok-push.ensures.ok, map_snoc exp_of c.args.self.items c.into_inner.result)
      (omega (arith, c.max.ensures, c.args.self.exact, c.args.next.exact, depth_snoc (map exp_of c.args.self.items) (exp_of c.into_inner.result), ap (λ e. depth_exp (exp_of e)) c.into_inner.ensures));
}
