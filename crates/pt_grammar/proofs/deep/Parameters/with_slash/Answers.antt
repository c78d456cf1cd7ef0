use Rattle.std.proofs.Common.{◌∙◌, ap, arith}
use Rattle.pt_wide.specs.Measure.{depth_params, depth_formals}
use Rattle.pt_grammar.specs.Nodes.{Gathered, plain, formals_of, params_of}
use Rattle.pt_grammar.specs.ReadViews.{stage_read}
use Rattle.pt_grammar.proofs.Gathering.{exact_of, parameters_same}
use Rattle.pt_grammar.proofs.deep.Parameters.with_slash.Goals as goal

pub invariant_of-result : goal.invariant_of-result
invariant_of-result c = record {
  exact = exact_of plain c.and_slash-tree.result c.args.self.depth (omega (
    arith,
    c.args.self.exact ∙ ap depth_params (parameters_same c.args.self),
    ap (λ fs. depth_formals (formals_of fs)) c.requires,
    ap (λ (g : Gathered). depth_params (params_of g)) (c.and_slash-tree.ensures plain),
  ));
}

pub returns : goal.returns
returns c = c.and_slash-tree.ensures (stage_read c.args.self.stage)
