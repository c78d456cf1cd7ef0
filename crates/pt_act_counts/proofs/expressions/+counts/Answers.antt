use Rattle.std.proofs.Common.{◌+◌, ◌∙◌, ap, sym, arith}
use Rattle.std.proofs.lemmas.Grind.{common_steps}
use Rattle.std.proofs.lemmas.Result.{on_ok_weaker}
use Rattle.pt_tree.proofs.Folds.{exp_of-Slice, exp_of-Lambda, exp_of-ListComprehension, exp_of-SetComprehension, exp_of-DictComprehension, exp_of-Generator, entry_of-parts, formal_of-parts, link_of-parts, target_of-Place}
use Rattle.pt_tree.specs.Fold.{clause_of}
use Rattle.pt_tree.specs.Sizes.{target_size}
use Rattle.pt_act_counts.proofs.Sums.{argument-first, conditions-first, piece-first}
use Rattle.pt_act_counts.proofs.expressions.+counts.Goals as goal

pub count_links-loop-link-preserved : goal.count_links-loop-link-preserved
count_links-loop-link-preserved t c = grind (arith, common_steps, link_of-parts c.link-item.result)

pub count_entries-loop-entry-preserved : goal.count_entries-loop-entry-preserved
count_entries-loop-entry-preserved t c = grind (arith, common_steps, entry_of-parts c.entry-item.result)

pub count_pieces-loop-piece-preserved : goal.count_pieces-loop-piece-preserved
count_pieces-loop-piece-preserved t c = grind (arith, common_steps, piece-first c.piece-item.result)

pub count_arguments-loop-argument-preserved : goal.count_arguments-loop-argument-preserved
count_arguments-loop-argument-preserved t c = grind (arith, common_steps, argument-first c.argument-item.result)

pub count_defaults-loop-parameter-preserved : goal.count_defaults-loop-parameter-preserved
count_defaults-loop-parameter-preserved t c = grind (arith, common_steps, formal_of-parts c.parameter-item.result)

pub count_clauses-loop-clause-preserved : goal.count_clauses-loop-clause-preserved
count_clauses-loop-clause-preserved t c =
    grind (arith, common_steps, conditions-first (clause_of c.clause-item.result).conditions)

pub count_expression-returns-in_ok-count_optional-in-Slice-3 : goal.count_expression-returns-in_ok-count_optional-in-Slice-3
count_expression-returns-in_ok-count_optional-in-Slice-3 t c = grind (arith, exp_of-Slice c.args.e.now _ _ _ c.in-Slice.is)

pub count_expression-returns-in_ok-count_parameters-in-Lambda : goal.count_expression-returns-in_ok-count_parameters-in-Lambda
count_expression-returns-in_ok-count_parameters-in-Lambda t c = grind (arith, exp_of-Lambda c.args.e.now _ _ _ c.in-Lambda.is)

pub count_expression-returns-in_ok-count_expression-in-ListComprehension : goal.count_expression-returns-in_ok-count_expression-in-ListComprehension
count_expression-returns-in_ok-count_expression-in-ListComprehension t c = grind (arith, exp_of-ListComprehension c.args.e.now _ _ _ c.in-ListComprehension.is, conditions-first)

pub count_expression-returns-in_ok-count_expression-in-SetComprehension : goal.count_expression-returns-in_ok-count_expression-in-SetComprehension
count_expression-returns-in_ok-count_expression-in-SetComprehension t c = grind (arith, exp_of-SetComprehension c.args.e.now _ _ _ c.in-SetComprehension.is, conditions-first)

pub count_expression-returns-in_ok-count_expression-in-DictComprehension-2 : goal.count_expression-returns-in_ok-count_expression-in-DictComprehension-2
count_expression-returns-in_ok-count_expression-in-DictComprehension-2 t c = grind (arith, exp_of-DictComprehension c.args.e.now _ _ _ _ c.in-DictComprehension.is, conditions-first)

pub count_expression-returns-in_ok-count_iterator-in-Generator : goal.count_expression-returns-in_ok-count_iterator-in-Generator
count_expression-returns-in_ok-count_iterator-in-Generator t c = grind (arith, exp_of-Generator c.args.e.now _ _ _ _ c.in-Generator.is)

pub count_target-returns-in-Place : goal.count_target-returns-in-Place
count_target-returns-in-Place t c =
    on_ok_weaker c.count_place.result (λ h. h c.args.target.now.line.0
    ∙ ap (λ u. c.args.acts.now + target_size u) (sym (target_of-Place c.args.target.now _ c.in-Place.is))) c.count_place.ensures
