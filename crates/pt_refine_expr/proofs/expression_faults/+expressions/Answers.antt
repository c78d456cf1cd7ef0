use Rattle.std.proofs.Common.{sym, ap, ◌∙◌, arith}
use Rattle.std.proofs.lemmas.Grind.{common_steps}
use Rattle.pt_wide.proofs.Folds.{argument_of-Named, argument_of-Positional, argument_of-Spread, argument_of-SpreadNamed, clause_of-parts, entry_of-Pair, entry_of-Spread, exp_of-And, exp_of-Attribute, exp_of-Binary, exp_of-Call, exp_of-Compare, exp_of-Comprehension, exp_of-Conditional, exp_of-Constant, exp_of-Dict, exp_of-DictComprehension, exp_of-Item, exp_of-Joined, exp_of-Lambda, exp_of-List, exp_of-Name, exp_of-Not, exp_of-Or, exp_of-Parenthesized, exp_of-Set, exp_of-Slice, exp_of-Starred, exp_of-Tuple, exp_of-Unary, exp_of-Yield, exp_of-YieldFrom, formal_of-parts, link_of-parts, parameters_of-parts, piece_of-Field, piece_of-Literal}
use Rattle.pt_wide.specs.Fold.{exp_of}
use Rattle.pt_wide.specs.Syntax.{Args, Entry}
use Rattle.pt_refine_expr.specs.Faults.{faults_args, faults_entry, faults_exp}
use Rattle.pt_refine_expr.specs.First.{first_of}
use Rattle.pt_refine_expr.proofs.Others.{target-other}
use Rattle.pt_refine_expr.proofs.Stops.{first-behind, first-both, first-then}
use Rattle.pt_refine_expr.proofs.expression_faults.+expressions.Goals as goal

pub check_expression-returns-in-Constant : goal.check_expression-returns-in-Constant
check_expression-returns-in-Constant t c = grind (arith, first-both, exp_of-Constant c.args.e.now _ c.in-Constant.is)

pub check_expression-returns-in-Name : goal.check_expression-returns-in-Name
check_expression-returns-in-Name t c = grind (arith, first-both, exp_of-Name c.args.e.now _ c.in-Name.is)

pub check_expression-returns-in-Joined : goal.check_expression-returns-in-Joined
check_expression-returns-in-Joined t c = grind (arith, first-both, exp_of-Joined c.args.e.now _ c.in-Joined.is)

pub check_expression-returns-in-Parenthesized : goal.check_expression-returns-in-Parenthesized
check_expression-returns-in-Parenthesized t c = grind (arith, first-both, exp_of-Parenthesized c.args.e.now _ c.in-Parenthesized.is)

pub check_expression-returns-in-Starred : goal.check_expression-returns-in-Starred
check_expression-returns-in-Starred t c = grind (arith, first-both, exp_of-Starred c.args.e.now _ c.in-Starred.is)

pub check_expression-returns-in-Tuple : goal.check_expression-returns-in-Tuple
check_expression-returns-in-Tuple t c = grind (arith, first-both, exp_of-Tuple c.args.e.now _ c.in-Tuple.is)

pub check_expression-returns-in-List : goal.check_expression-returns-in-List
check_expression-returns-in-List t c = grind (arith, first-both, exp_of-List c.args.e.now _ c.in-List.is)

pub check_expression-returns-in-Set : goal.check_expression-returns-in-Set
check_expression-returns-in-Set t c = grind (arith, first-both, exp_of-Set c.args.e.now _ c.in-Set.is)

pub check_expression-returns-in-Dict : goal.check_expression-returns-in-Dict
check_expression-returns-in-Dict t c = grind (arith, first-both, exp_of-Dict c.args.e.now _ c.in-Dict.is)

pub check_expression-returns-in-Attribute : goal.check_expression-returns-in-Attribute
check_expression-returns-in-Attribute t c = grind (arith, first-both, exp_of-Attribute c.args.e.now _ _ c.in-Attribute.is)

pub check_expression-returns-in-Unary : goal.check_expression-returns-in-Unary
check_expression-returns-in-Unary t c = grind (arith, first-both, exp_of-Unary c.args.e.now _ _ c.in-Unary.is)

pub check_expression-returns-in-Not : goal.check_expression-returns-in-Not
check_expression-returns-in-Not t c = grind (arith, first-both, exp_of-Not c.args.e.now _ c.in-Not.is)

pub check_expression-returns-in-Yield : goal.check_expression-returns-in-Yield
check_expression-returns-in-Yield t c = grind (arith, first-both, exp_of-Yield c.args.e.now _ c.in-Yield.is)

pub check_expression-returns-in-YieldFrom : goal.check_expression-returns-in-YieldFrom
check_expression-returns-in-YieldFrom t c = grind (arith, first-both, exp_of-YieldFrom c.args.e.now _ c.in-YieldFrom.is)

pub check_expression-returns-in_err-check_expression-in-Item : goal.check_expression-returns-in_err-check_expression-in-Item
check_expression-returns-in_err-check_expression-in-Item t c = grind (arith, first-both, exp_of-Item c.args.e.now _ _ c.in-Item.is)

pub check_expression-returns-in_ok-check_expression-in-Item : goal.check_expression-returns-in_ok-check_expression-in-Item
check_expression-returns-in_ok-check_expression-in-Item t c = grind (arith, first-both, exp_of-Item c.args.e.now _ _ c.in-Item.is)

pub check_expression-returns-in_err-check_optional-in-Slice : goal.check_expression-returns-in_err-check_optional-in-Slice
check_expression-returns-in_err-check_optional-in-Slice t c = grind (arith, first-both, exp_of-Slice c.args.e.now _ _ _ c.in-Slice.is)

pub check_expression-returns-in_err-check_optional-in-Slice-2 : goal.check_expression-returns-in_err-check_optional-in-Slice-2
check_expression-returns-in_err-check_optional-in-Slice-2 t c = grind (arith, first-both, exp_of-Slice c.args.e.now _ _ _ c.in-Slice.is)

pub check_expression-returns-in_ok-check_optional-in-Slice-2 : goal.check_expression-returns-in_ok-check_optional-in-Slice-2
check_expression-returns-in_ok-check_optional-in-Slice-2 t c = grind (arith, first-both, exp_of-Slice c.args.e.now _ _ _ c.in-Slice.is)

pub check_expression-returns-in_err-check_operator-in-Binary : goal.check_expression-returns-in_err-check_operator-in-Binary
check_expression-returns-in_err-check_operator-in-Binary t c = grind (arith, first-both, exp_of-Binary c.args.e.now _ _ _ c.in-Binary.is)

pub check_expression-returns-in_err-check_expression-in-Binary : goal.check_expression-returns-in_err-check_expression-in-Binary
check_expression-returns-in_err-check_expression-in-Binary t c = grind (arith, first-both, exp_of-Binary c.args.e.now _ _ _ c.in-Binary.is)

pub check_expression-returns-in_ok-check_expression-in-Binary : goal.check_expression-returns-in_ok-check_expression-in-Binary
check_expression-returns-in_ok-check_expression-in-Binary t c = grind (arith, first-both, exp_of-Binary c.args.e.now _ _ _ c.in-Binary.is)

pub check_expression-returns-in_err-check_expression-in-Compare : goal.check_expression-returns-in_err-check_expression-in-Compare
check_expression-returns-in_err-check_expression-in-Compare t c = grind (arith, first-both, exp_of-Compare c.args.e.now _ _ _ _ c.in-Compare.is)

pub check_expression-returns-in_err-check_expression-in-Compare-2 : goal.check_expression-returns-in_err-check_expression-in-Compare-2
check_expression-returns-in_err-check_expression-in-Compare-2 t c = grind (arith, first-both, exp_of-Compare c.args.e.now _ _ _ _ c.in-Compare.is)

pub check_expression-returns-in_ok-check_expression-in-Compare-2 : goal.check_expression-returns-in_ok-check_expression-in-Compare-2
check_expression-returns-in_ok-check_expression-in-Compare-2 t c = grind (arith, first-both, exp_of-Compare c.args.e.now _ _ _ _ c.in-Compare.is)

pub check_expression-returns-in_err-check_expression-in-And : goal.check_expression-returns-in_err-check_expression-in-And
check_expression-returns-in_err-check_expression-in-And t c = grind (arith, first-both, exp_of-And c.args.e.now _ _ c.in-And.is)

pub check_expression-returns-in_ok-check_expression-in-And : goal.check_expression-returns-in_ok-check_expression-in-And
check_expression-returns-in_ok-check_expression-in-And t c = grind (arith, first-both, exp_of-And c.args.e.now _ _ c.in-And.is)

pub check_expression-returns-in_err-check_expression-in-Or : goal.check_expression-returns-in_err-check_expression-in-Or
check_expression-returns-in_err-check_expression-in-Or t c = grind (arith, first-both, exp_of-Or c.args.e.now _ _ c.in-Or.is)

pub check_expression-returns-in_ok-check_expression-in-Or : goal.check_expression-returns-in_ok-check_expression-in-Or
check_expression-returns-in_ok-check_expression-in-Or t c = grind (arith, first-both, exp_of-Or c.args.e.now _ _ c.in-Or.is)

pub check_expression-returns-in_err-check_expression-in-Conditional : goal.check_expression-returns-in_err-check_expression-in-Conditional
check_expression-returns-in_err-check_expression-in-Conditional t c = grind (arith, first-both, exp_of-Conditional c.args.e.now _ _ _ c.in-Conditional.is)

pub check_expression-returns-in_err-check_expression-in-Conditional-2 : goal.check_expression-returns-in_err-check_expression-in-Conditional-2
check_expression-returns-in_err-check_expression-in-Conditional-2 t c = grind (arith, first-both, exp_of-Conditional c.args.e.now _ _ _ c.in-Conditional.is)

pub check_expression-returns-in_ok-check_expression-in-Conditional-2 : goal.check_expression-returns-in_ok-check_expression-in-Conditional-2
check_expression-returns-in_ok-check_expression-in-Conditional-2 t c = grind (arith, first-both, exp_of-Conditional c.args.e.now _ _ _ c.in-Conditional.is)

pub check_expression-returns-in_err-check_expression-in-Call : goal.check_expression-returns-in_err-check_expression-in-Call
check_expression-returns-in_err-check_expression-in-Call t c = grind (arith, first-both, exp_of-Call c.args.e.now _ _ c.in-Call.is)

pub check_expression-returns-in_ok-check_expression-in-Call : goal.check_expression-returns-in_ok-check_expression-in-Call
check_expression-returns-in_ok-check_expression-in-Call t c = grind (arith, first-both, exp_of-Call c.args.e.now _ _ c.in-Call.is)

pub check_expression-returns-in_err-check_parameters-in-Lambda : goal.check_expression-returns-in_err-check_parameters-in-Lambda
check_expression-returns-in_err-check_parameters-in-Lambda t c = grind (arith, first-both, exp_of-Lambda c.args.e.now _ _ c.in-Lambda.is)

pub check_expression-returns-in_ok-check_parameters-in-Lambda : goal.check_expression-returns-in_ok-check_parameters-in-Lambda
check_expression-returns-in_ok-check_parameters-in-Lambda t c = grind (arith, first-both, exp_of-Lambda c.args.e.now _ _ c.in-Lambda.is)

pub check_expression-returns-in_err-check_expression-in-Comprehension : goal.check_expression-returns-in_err-check_expression-in-Comprehension
check_expression-returns-in_err-check_expression-in-Comprehension t c = grind (arith, first-both, exp_of-Comprehension c.args.e.now _ _ _ _ c.in-Comprehension.is, clause_of-parts)

pub check_expression-returns-in_err-check_clause-in-Comprehension : goal.check_expression-returns-in_err-check_clause-in-Comprehension
check_expression-returns-in_err-check_clause-in-Comprehension t c = grind (arith, first-both, exp_of-Comprehension c.args.e.now _ _ _ _ c.in-Comprehension.is, clause_of-parts)

pub check_expression-returns-in_ok-check_clause-in-Comprehension : goal.check_expression-returns-in_ok-check_clause-in-Comprehension
check_expression-returns-in_ok-check_clause-in-Comprehension t c = grind (arith, first-both, exp_of-Comprehension c.args.e.now _ _ _ _ c.in-Comprehension.is, clause_of-parts)

pub check_expression-returns-in_err-check_entry-in-DictComprehension : goal.check_expression-returns-in_err-check_entry-in-DictComprehension
check_expression-returns-in_err-check_entry-in-DictComprehension t c = grind (arith, first-both, exp_of-DictComprehension c.args.e.now _ _ _ c.in-DictComprehension.is, clause_of-parts)

pub check_expression-returns-in_err-check_clause-in-DictComprehension : goal.check_expression-returns-in_err-check_clause-in-DictComprehension
check_expression-returns-in_err-check_clause-in-DictComprehension t c = grind (arith, first-both, exp_of-DictComprehension c.args.e.now _ _ _ c.in-DictComprehension.is, clause_of-parts)

pub check_expression-returns-in_ok-check_clause-in-DictComprehension : goal.check_expression-returns-in_ok-check_clause-in-DictComprehension
check_expression-returns-in_ok-check_clause-in-DictComprehension t c = grind (arith, first-both, exp_of-DictComprehension c.args.e.now _ _ _ c.in-DictComprehension.is, clause_of-parts)

pub check_argument-returns-in-Positional : goal.check_argument-returns-in-Positional
check_argument-returns-in-Positional t c = λ r. ap (λ (args : Args). first_of (faults_args args)) (argument_of-Positional c.args.argument.now r _ c.in-Positional.is) ∙ first-then _ (faults_exp (exp_of c.in-Positional.value)) (faults_args r) c.check_expression.ensures

pub check_argument-returns-in-Named : goal.check_argument-returns-in-Named
check_argument-returns-in-Named t c = λ r. ap (λ (args : Args). first_of (faults_args args)) (argument_of-Named c.args.argument.now r _ _ _ c.in-Named.is) ∙ first-then _ (faults_exp (exp_of c.in-Named.value)) (faults_args r) c.check_expression-in-Named.ensures

pub check_argument-returns-in-Spread : goal.check_argument-returns-in-Spread
check_argument-returns-in-Spread t c = λ r. ap (λ (args : Args). first_of (faults_args args)) (argument_of-Spread c.args.argument.now r _ _ c.in-Spread.is) ∙ first-then _ (faults_exp (exp_of c.in-Spread.value)) (faults_args r) c.check_expression-in-Spread.ensures

pub check_argument-returns-in-SpreadNamed : goal.check_argument-returns-in-SpreadNamed
check_argument-returns-in-SpreadNamed t c = λ r. ap (λ (args : Args). first_of (faults_args args)) (argument_of-SpreadNamed c.args.argument.now r _ _ c.in-SpreadNamed.is) ∙ first-then _ (faults_exp (exp_of c.in-SpreadNamed.value)) (faults_args r) c.check_expression-in-SpreadNamed.ensures

pub check_piece-returns-in-Literal : goal.check_piece-returns-in-Literal
check_piece-returns-in-Literal t c = λ r. grind (arith, first-both, piece_of-Literal c.args.piece.now r _ _ c.in-Literal.is)

pub check_piece-returns-in_err-check_expression-in-Field : goal.check_piece-returns-in_err-check_expression-in-Field
check_piece-returns-in_err-check_expression-in-Field t c = λ r. grind (arith, first-both, piece_of-Field c.args.piece.now r _ _ _ _ c.in-Field.is)

pub check_piece-returns-in_ok-check_expression-in-Field : goal.check_piece-returns-in_ok-check_expression-in-Field
check_piece-returns-in_ok-check_expression-in-Field t c = λ r. grind (arith, first-both, piece_of-Field c.args.piece.now r _ _ _ _ c.in-Field.is)

pub check_clause-returns-in_err-check_target : goal.check_clause-returns-in_err-check_target
check_clause-returns-in_err-check_target t c = λ r. grind (arith, first-both, clause_of-parts c.args.clause.now r)

pub check_clause-returns-in_err-check_expression : goal.check_clause-returns-in_err-check_expression
check_clause-returns-in_err-check_expression t c = λ r. grind (arith, first-both, clause_of-parts c.args.clause.now r)

pub check_clause-returns : goal.check_clause-returns
check_clause-returns t c = λ r. grind (arith, first-both, clause_of-parts c.args.clause.now r)

pub check_entry-returns-in_err-check_expression-in-Pair : goal.check_entry-returns-in_err-check_expression-in-Pair
check_entry-returns-in_err-check_expression-in-Pair t c = grind (arith, first-both, entry_of-Pair c.args.entry.now _ _ c.in-Pair.is)

pub check_entry-returns-in_ok-check_expression-in-Pair : goal.check_entry-returns-in_ok-check_expression-in-Pair
check_entry-returns-in_ok-check_expression-in-Pair t c =
    first-behind _ (faults_exp (exp_of c.in-Pair.key)) (faults_exp (exp_of c.in-Pair.value)) c.in_ok-check_expression-in-Pair.ensures c.check_expression-in-Pair.ensures ∙
    sym (ap (λ (g : Entry). first_of (faults_entry g)) (entry_of-Pair c.args.entry.now _ _ c.in-Pair.is))

pub check_all-returns-in_err-check_expression : goal.check_all-returns-in_err-check_expression
check_all-returns-in_err-check_expression t c = grind (arith, first-both, common_steps)

pub check_all-loop-item-preserved : goal.check_all-loop-item-preserved
check_all-loop-item-preserved t c = grind (arith, first-both, common_steps)

pub check_entries-returns-in_err-check_entry : goal.check_entries-returns-in_err-check_entry
check_entries-returns-in_err-check_entry t c = grind (arith, first-both, common_steps)

pub check_entries-loop-entry-preserved : goal.check_entries-loop-entry-preserved
check_entries-loop-entry-preserved t c = grind (arith, first-both, common_steps)

pub check_formals-returns-in_err-check_optional : goal.check_formals-returns-in_err-check_optional
check_formals-returns-in_err-check_optional t c = grind (arith, first-both, common_steps, formal_of-parts c.parameter-item.result)

pub check_formals-returns-in_err-check_optional-2 : goal.check_formals-returns-in_err-check_optional-2
check_formals-returns-in_err-check_optional-2 t c = grind (arith, first-both, common_steps, formal_of-parts c.parameter-item.result)

pub check_formals-loop-parameter-preserved : goal.check_formals-loop-parameter-preserved
check_formals-loop-parameter-preserved t c = grind (arith, first-both, common_steps, formal_of-parts c.parameter-item.result)

pub check_links-returns-in_err-check_expression : goal.check_links-returns-in_err-check_expression
check_links-returns-in_err-check_expression t c = grind (arith, first-both, common_steps, link_of-parts c.link-item.result)

pub check_links-loop-link-preserved : goal.check_links-loop-link-preserved
check_links-loop-link-preserved t c = grind (arith, first-both, common_steps, link_of-parts c.link-item.result)

pub check_targets-returns-in_err-check_target : goal.check_targets-returns-in_err-check_target
check_targets-returns-in_err-check_target t c = grind (arith, first-both, common_steps)

pub check_targets-loop-item-preserved : goal.check_targets-loop-item-preserved
check_targets-loop-item-preserved t c = grind (arith, first-both, common_steps)

pub check_entry-returns-in-Spread : goal.check_entry-returns-in-Spread
check_entry-returns-in-Spread t c = grind (arith, first-both, entry_of-Spread c.args.entry.now _ _ c.in-Spread.is)

pub check_parameters-returns-in_err-check_formals : goal.check_parameters-returns-in_err-check_formals
check_parameters-returns-in_err-check_formals t c = grind (arith, first-both, parameters_of-parts c.args.parameters.now)

pub check_parameters-returns-in_err-check_slash : goal.check_parameters-returns-in_err-check_slash
check_parameters-returns-in_err-check_slash t c = grind (arith, first-both, parameters_of-parts c.args.parameters.now)

pub check_parameters-returns-in_err-check_formals-2 : goal.check_parameters-returns-in_err-check_formals-2
check_parameters-returns-in_err-check_formals-2 t c = grind (arith, first-both, parameters_of-parts c.args.parameters.now)

pub check_parameters-returns : goal.check_parameters-returns
check_parameters-returns t c = grind (arith, first-both, parameters_of-parts c.args.parameters.now)

pub check_target-returns-in-Name : goal.check_target-returns-in-Name
check_target-returns-in-Name t c = grind (arith, first-both, exp_of-Name c.args.e.now _ c.in-Name.is)

pub check_target-returns-in-Attribute : goal.check_target-returns-in-Attribute
check_target-returns-in-Attribute t c = grind (arith, first-both, exp_of-Attribute c.args.e.now _ _ c.in-Attribute.is)

pub check_target-returns-in-Tuple : goal.check_target-returns-in-Tuple
check_target-returns-in-Tuple t c = grind (arith, first-both, exp_of-Tuple c.args.e.now _ c.in-Tuple.is)

pub check_target-returns-in-List : goal.check_target-returns-in-List
check_target-returns-in-List t c = grind (arith, first-both, exp_of-List c.args.e.now _ c.in-List.is)

pub check_target-returns-in_err-check_expression-in-Item : goal.check_target-returns-in_err-check_expression-in-Item
check_target-returns-in_err-check_expression-in-Item t c = grind (arith, first-both, exp_of-Item c.args.e.now _ _ c.in-Item.is)

pub check_target-returns-in_ok-check_expression-in-Item : goal.check_target-returns-in_ok-check_expression-in-Item
check_target-returns-in_ok-check_expression-in-Item t c = grind (arith, first-both, exp_of-Item c.args.e.now _ _ c.in-Item.is)

pub check_target-returns-in_err-check_star-in-Starred : goal.check_target-returns-in_err-check_star-in-Starred
check_target-returns-in_err-check_star-in-Starred t c = grind (arith, first-both, exp_of-Starred c.args.e.now _ c.in-Starred.is)

pub check_target-returns-in_ok-check_star-in-Starred : goal.check_target-returns-in_ok-check_star-in-Starred
check_target-returns-in_ok-check_star-in-Starred t c = grind (arith, first-both, exp_of-Starred c.args.e.now _ c.in-Starred.is)

pub check_target-returns-then-is_inside_target : goal.check_target-returns-then-is_inside_target
check_target-returns-then-is_inside_target t c = grind (arith, first-both, exp_of-Parenthesized c.args.e.now _ c.in-Parenthesized.is)

pub check_target-returns-else-is_inside_target : goal.check_target-returns-else-is_inside_target
check_target-returns-else-is_inside_target t c = grind (arith, first-both, exp_of-Parenthesized c.args.e.now _ c.in-Parenthesized.is)

pub check_target-returns-in_default : goal.check_target-returns-in_default
check_target-returns-in_default t c = sym (ap first_of (target-other c.args.stars c.args.e.now (c.in_default.not-Name, c.in_default.not-Attribute, c.in_default.not-Item, c.in_default.not-Tuple, c.in_default.not-List, c.in_default.not-Parenthesized, c.in_default.not-Starred)))
