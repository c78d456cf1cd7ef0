use Rattle.std.proofs.Common.{◌∙◌, sym, ap}
use Rattle.pt_wide.specs.Measure.{depth_params}
use Rattle.pt_grammar.specs.Nodes.{Gathered, keyword_only, params_of}
use Rattle.pt_grammar.proofs.Gathering.{exact_of, parameters_same}
use Rattle.pt_grammar.proofs.deep.Parameters.with_star.Goals as goal

pub invariant_of-result : goal.invariant_of-result
invariant_of-result c = record {
  exact = exact_of keyword_only c.and_star-tree.result c.args.self.depth
      (c.args.self.exact ∙ ap depth_params (parameters_same c.args.self) ∙ sym (ap (λ (g : Gathered). depth_params (params_of g)) (c.and_star-tree.ensures keyword_only)));
}

pub returns : goal.returns
returns c = c.and_star-tree.ensures keyword_only
