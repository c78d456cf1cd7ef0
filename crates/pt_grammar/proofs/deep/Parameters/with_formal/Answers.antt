use Rattle.std.proofs.Common.{arith, ap}
use Rattle.pt_wide.specs.Measure.{depth_opt}
use Rattle.pt_grammar.specs.Nodes.{Formal}
use Rattle.pt_grammar.specs.Views.{formal_in}
use Rattle.pt_grammar.specs.ReadViews.{stage_read}
use Rattle.pt_grammar.specs.ParameterViews.{formal_read}
use Rattle.pt_grammar.proofs.Gathering.{formal_exact, formal_gathered}
use Rattle.pt_grammar.proofs.deep.Parameters.with_formal.Goals as goal

pub invariant_of-result : goal.invariant_of-result
invariant_of-result c = record {
  exact = formal_exact c.args.self c.in_ok-tree.tree (stage_read c.args.self.stage) (formal_in c.parameter_of-one.result) c.in_ok-tree.ensures c.max-depth.result (omega (
    arith,
    c.max-depth.ensures,
    c.max.ensures,
    c.depth_of.ensures,
    c.depth_of-2.ensures,
    ap (λ (f : Formal). depth_opt f.annotation) c.parameter_of-one.ensures,
    ap (λ (f : Formal). depth_opt f.default) c.parameter_of-one.ensures,
  ));
}

pub returns : goal.returns
returns c = formal_gathered c.args.self c.in_ok-tree.tree (stage_read c.stage_behind-stage.result) c.is_given.result (formal_in c.parameter_of-one.result) (formal_read c.args.parameter c.args.annotation c.args.default)
    c.in_ok-tree.ensures c.stage_behind-stage.ensures c.is_given.ensures c.parameter_of-one.ensures
