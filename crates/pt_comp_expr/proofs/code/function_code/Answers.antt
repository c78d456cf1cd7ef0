use Rattle.std.proofs.Common.{◌≡◌, ◌∙◌, ◌+◌, ap, arith}
use Rattle.std.proofs.lemmas.Result.{on_ok_weaker}
use Rattle.pt_tree.specs.declared.expression.Constant.TheVariants as constant
use Rattle.pt_tree.specs.Syntax as S
use Rattle.pt_tree.specs.Syntax.{Exp}
use Rattle.pt_tree.specs.Fold.{parameters_of}
use Rattle.pt_tree.specs.Sizes.{params_size}
use Rattle.pt_assembler.specs.Layout.{Written}
use Rattle.pt_write_leaves.proofs.pt_expr_forms.Forms.{exp-laid, acts-exp}
use Rattle.pt_comp_expr.proofs.code.function_code.Goals as goal

pub returns-clause-code : goal.returns-clause-code
returns-clause-code c =
    let made : Exp → Exp = λ e. S.lambda c.args.line.0 c.args.block.0 (parameters_of c.args.parameters.now) e in
    on_ok_weaker c.function.result (λ is e. is e ∙ exp-laid c.args.at.now.names.now c.args.at.now.within.now (made e) c.args.again c.args.w.now) c.function.ensures

-- (whatever the body is)
pub returns-clause-act : goal.returns-clause-act
returns-clause-act c =
    let ps = parameters_of c.args.parameters.now in
    let some : Exp = S.constant 0 constant.None in
    let made : Exp = S.lambda c.args.line.0 c.args.block.0 ps some in
    let more : c.args.w.now.act + (params_size ps + 1) ≡ c.args.w.now.act + params_size ps + 1 = omega arith in
    on_ok_weaker c.function.result (λ is. ap (λ (u : Written). u.act) (is some)
    ∙ acts-exp c.args.at.now.names.now c.args.at.now.within.now made c.args.again c.args.w.now ∙ more) c.function.ensures
