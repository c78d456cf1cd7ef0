use Rattle.std.proofs.Common.{◌≡◌, ◌∙◌, ap, arith, refl, Bool, true, false, None, option_map}
use Rattle.std.specs.Prelude.{if◌then◌else◌}
use Rattle.pt_tree.specs.Syntax as P
use Rattle.pt_wide.proofs.Folds.{argument_of-Named, argument_of-Spread, argument_of-SpreadNamed}
use Rattle.pt_wide.specs.Fold as V
use Rattle.pt_wide.specs.Syntax as W
use Rattle.pt_refine_expr.specs.Blocks.{blocks_args, blocks_exp}
use Rattle.pt_refine_expr.specs.Narrow.{narrow_exp}
use Rattle.pt_refine_expr.specs.Narrowed.{wide_args}
use Rattle.pt_refine_expr.specs.StatementFaults.{is_base}
use Rattle.pt_refine_expr.specs.StatementNarrow.{narrow_base}
use Rattle.pt_refine_expr.proofs.Building.{made-is, made-one}
use Rattle.pt_refine.proofs.StatementBuilding.{base-is, base-left, many-bases, none-behind, one-argument}
use Rattle.pt_refine.proofs.statement_trees.base.Goals as goal

pub returns-in_ok-value-in-Positional : goal.returns-in_ok-value-in-Positional
returns-in_ok-value-in-Positional c =
    let value = V.exp_of c.in-Positional.value in
    let one : wide_args c.args.values.now ≡ W.positional value W.no_args = base-is c.args.values.now c.in-Some.first.now c.in-Positional.value c.in-Some.ensures.value c.in-Positional.is c.in_ok-only_one-in-Some.ensures.ok in
    made-is (ap (λ as'. narrow_base c.args.n.now as' c.args.trailing_comma) one ∙ ap (narrow_base c.args.n.now (W.positional value W.no_args)) c.in_ok-without_comma-in-Positional.ensures ∙ ap (λ (b : Bool). if (if b then false else true) then option_map P.given (narrow_exp c.args.n.now value) else None) c.in_ok-no_generator-in-Positional.ensures) refl (ap blocks_args one ∙ none-behind (blocks_exp value)) (made-one P.given c.in_ok-value-in-Positional.ensures)

pub returns-in_err-only_one-in-Some : goal.returns-in_err-only_one-in-Some
returns-in_err-only_one-in-Some c =
    let none : narrow_base c.args.n.now (wide_args c.args.values.now) c.args.trailing_comma ≡ None = base-left c.args.n.now (wide_args c.args.values.now) c.args.trailing_comma (many-bases c.args.values.now c.args.trailing_comma c.in_err-only_one-in-Some.ensures.err) in
    grind (arith, none)

pub returns-in_err-no_generator-in-Positional : goal.returns-in_err-no_generator-in-Positional
returns-in_err-no_generator-in-Positional c =
    let value = V.exp_of c.in-Positional.value in
    let one : wide_args c.args.values.now ≡ W.positional value W.no_args = base-is c.args.values.now c.in-Some.first.now c.in-Positional.value c.in-Some.ensures.value c.in-Positional.is c.in_ok-only_one-in-Some.ensures.ok in
    let none : narrow_base c.args.n.now (wide_args c.args.values.now) c.args.trailing_comma ≡ None = ap (λ as'. narrow_base c.args.n.now as' c.args.trailing_comma) one ∙ ap (narrow_base c.args.n.now (W.positional value W.no_args)) c.in_ok-without_comma-in-Positional.ensures ∙ ap (λ (b : Bool). if (if b then false else true) then option_map P.given (narrow_exp c.args.n.now value) else None) c.in_err-no_generator-in-Positional.ensures in
    grind (arith, none)

pub returns-in_err-value-in-Positional : goal.returns-in_err-value-in-Positional
returns-in_err-value-in-Positional c =
    let value = V.exp_of c.in-Positional.value in
    let one : wide_args c.args.values.now ≡ W.positional value W.no_args = base-is c.args.values.now c.in-Some.first.now c.in-Positional.value c.in-Some.ensures.value c.in-Positional.is c.in_ok-only_one-in-Some.ensures.ok in
    let narrowed : narrow_base c.args.n.now (wide_args c.args.values.now) c.args.trailing_comma ≡ option_map P.given (narrow_exp c.args.n.now value) = ap (λ as'. narrow_base c.args.n.now as' c.args.trailing_comma) one ∙ ap (narrow_base c.args.n.now (W.positional value W.no_args)) c.in_ok-without_comma-in-Positional.ensures ∙ ap (λ (b : Bool). if (if b then false else true) then option_map P.given (narrow_exp c.args.n.now value) else None) c.in_ok-no_generator-in-Positional.ensures in
    grind (arith, narrowed)

pub returns-in-Named : goal.returns-in-Named
returns-in-Named c = λ out. base-left c.args.n.now (wide_args c.args.values.now) c.args.trailing_comma (ap (λ as'. is_base as' c.args.trailing_comma) (one-argument c.args.values.now c.in-Some.first.now c.in-Some.ensures.value c.in_ok-only_one-in-Some.ensures.ok ∙ argument_of-Named c.in-Some.first.now W.no_args _ _ _ c.in-Named.is))

pub returns-in-Spread : goal.returns-in-Spread
returns-in-Spread c = λ out. base-left c.args.n.now (wide_args c.args.values.now) c.args.trailing_comma (ap (λ as'. is_base as' c.args.trailing_comma) (one-argument c.args.values.now c.in-Some.first.now c.in-Some.ensures.value c.in_ok-only_one-in-Some.ensures.ok ∙ argument_of-Spread c.in-Some.first.now W.no_args _ _ c.in-Spread.is))

pub returns-in-SpreadNamed : goal.returns-in-SpreadNamed
returns-in-SpreadNamed c = λ out. base-left c.args.n.now (wide_args c.args.values.now) c.args.trailing_comma (ap (λ as'. is_base as' c.args.trailing_comma) (one-argument c.args.values.now c.in-Some.first.now c.in-Some.ensures.value c.in_ok-only_one-in-Some.ensures.ok ∙ argument_of-SpreadNamed c.in-Some.first.now W.no_args _ _ c.in-SpreadNamed.is))

pub returns-in_err-without_comma-in-Positional : goal.returns-in_err-without_comma-in-Positional
returns-in_err-without_comma-in-Positional c =
    let value = V.exp_of c.in-Positional.value in
    let one : wide_args c.args.values.now ≡ W.positional value W.no_args = base-is c.args.values.now c.in-Some.first.now c.in-Positional.value c.in-Some.ensures.value c.in-Positional.is c.in_ok-only_one-in-Some.ensures.ok in
    let none : narrow_base c.args.n.now (wide_args c.args.values.now) c.args.trailing_comma ≡ None = ap (λ as'. narrow_base c.args.n.now as' c.args.trailing_comma) one ∙ ap (narrow_base c.args.n.now (W.positional value W.no_args)) c.in_err-without_comma-in-Positional.ensures in
    grind (arith, none)
