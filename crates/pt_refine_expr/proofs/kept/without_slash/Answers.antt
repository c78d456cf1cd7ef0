use Rattle.std.proofs.Common.{◌≡◌, ◌∙◌, ap, Some}
use Rattle.pt_wide.proofs.Folds.{parameters_of-parts}
use Rattle.pt_wide.specs.declared.expression.WideParameters.{out-WideParameters}
use Rattle.pt_wide.specs.Fold.{line_of, parameters_of}
use Rattle.pt_wide.specs.Syntax as W
use Rattle.pt_refine_expr.specs.Narrow.{narrow_params}
use Rattle.pt_refine_expr.specs.Narrowed.{wide_formals}
use Rattle.pt_refine_expr.proofs.Building.{is_not}
use Rattle.pt_refine_expr.proofs.Others.{params-before, params-slash}
use Rattle.pt_refine_expr.proofs.kept.without_slash.Goals as goal

pub returns-in-Some-clause-err : goal.returns-in-Some-clause-err
returns-in-Some-clause-err c =
    let names = out-WideParameters c.args.names.now in
    let parts : parameters_of c.args.names.now ≡ W.parameters (wide_formals names.positional_only) (Some c.in-Some.field-0.0) (wide_formals names.positional) names.star (wide_formals names.keyword_only) names.double_star = parameters_of-parts c.args.names.now ∙ rw c.in-Some.is in
    λ before. ap (narrow_params before) parts ∙ params-slash before c.in-Some.field-0.0 (wide_formals names.positional_only) (wide_formals names.positional) (wide_formals names.keyword_only) names.star names.double_star

pub returns-else-is_empty-clause-err : goal.returns-else-is_empty-clause-err
returns-else-is_empty-clause-err c =
    let names = out-WideParameters c.args.names.now in
    λ before. ap (narrow_params before) (parameters_of-parts c.args.names.now) ∙ params-before before names.positional_only (line_of names.slash) (wide_formals names.positional) (wide_formals names.keyword_only) names.star names.double_star (is_not c.is_empty.ensures c.if-is_empty.false)
