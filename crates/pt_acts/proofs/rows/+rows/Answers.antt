use Rattle.pt_tree.specs.Fold.{clause_of}
use Rattle.std.proofs.Common.{arith, append_assoc}
use Rattle.std.proofs.lemmas.Grind.{common_steps}
use Rattle.pt_tree.proofs.Folds.{formal_of-parts, entry_of-parts, link_of-parts, exp_of-Slice, exp_of-Compare, exp_of-Lambda, exp_of-ListComprehension, exp_of-SetComprehension, exp_of-DictComprehension, exp_of-Generator}
use Rattle.pt_acts.proofs.Behind.{acts_args-first, acts_clauses-conditions, acts_pieces-first}
use Rattle.pt_acts.proofs.rows.+rows.Goals as goal

-- src/rows.rt:253:5
pub push_arguments-loop-argument-preserved : goal.push_arguments-loop-argument-preserved
push_arguments-loop-argument-preserved t c =
    grind (arith, common_steps, append_assoc, acts_args-first c.args.line.0 c.argument-item.result)

-- src/rows.rt:329:5
pub push_clauses-loop-clause-preserved : goal.push_clauses-loop-clause-preserved
push_clauses-loop-clause-preserved t c =
    grind (arith, common_steps, append_assoc, acts_clauses-conditions c.args.line.0 (clause_of c.clause-item.result).conditions)

-- src/rows.rt:400:5
pub push_defaults-loop-parameter-preserved : goal.push_defaults-loop-parameter-preserved
push_defaults-loop-parameter-preserved t c =
    grind (arith, common_steps, append_assoc, formal_of-parts c.parameter-item.result)

-- src/rows.rt:211:5
pub push_entries-loop-entry-preserved : goal.push_entries-loop-entry-preserved
push_entries-loop-entry-preserved t c =
    grind (arith, common_steps, append_assoc, entry_of-parts c.entry-item.result)

-- src/rows.rt:22:1
pub push_expression-returns-in_ok-push_boxed-in-Slice-3 :
    goal.push_expression-returns-in_ok-push_boxed-in-Slice-3
push_expression-returns-in_ok-push_boxed-in-Slice-3 t c =
    grind (arith, append_assoc, exp_of-Slice c.args.e.now _ _ _ c.in-Slice.is)

-- src/rows.rt:22:1
pub push_expression-returns-in_ok-push_act-in-Compare :
    goal.push_expression-returns-in_ok-push_act-in-Compare
push_expression-returns-in_ok-push_act-in-Compare t c =
    grind (arith, append_assoc, exp_of-Compare c.args.e.now _ _ _ _ c.in-Compare.is)

-- src/rows.rt:22:1
pub push_expression-returns-in_ok-push_parameters-in-Lambda :
    goal.push_expression-returns-in_ok-push_parameters-in-Lambda
push_expression-returns-in_ok-push_parameters-in-Lambda t c =
    grind (arith, append_assoc, exp_of-Lambda c.args.e.now _ _ _ c.in-Lambda.is)

-- src/rows.rt:22:1
pub push_expression-returns-in_ok-push_expression-in-ListComprehension :
    goal.push_expression-returns-in_ok-push_expression-in-ListComprehension
push_expression-returns-in_ok-push_expression-in-ListComprehension t c =
    grind (arith, append_assoc, exp_of-ListComprehension c.args.e.now _ _ _ c.in-ListComprehension.is, acts_clauses-conditions)

-- src/rows.rt:22:1
pub push_expression-returns-in_ok-push_expression-in-SetComprehension :
    goal.push_expression-returns-in_ok-push_expression-in-SetComprehension
push_expression-returns-in_ok-push_expression-in-SetComprehension t c =
    grind (arith, append_assoc, exp_of-SetComprehension c.args.e.now _ _ _ c.in-SetComprehension.is, acts_clauses-conditions)

-- src/rows.rt:22:1
pub push_expression-returns-in_ok-push_expression-in-DictComprehension-2 :
    goal.push_expression-returns-in_ok-push_expression-in-DictComprehension-2
push_expression-returns-in_ok-push_expression-in-DictComprehension-2 t c =
    grind (arith, append_assoc, exp_of-DictComprehension c.args.e.now _ _ _ _ c.in-DictComprehension.is, acts_clauses-conditions)

-- src/rows.rt:22:1
pub push_expression-returns-in_ok-push_iterator-in-Generator :
    goal.push_expression-returns-in_ok-push_iterator-in-Generator
push_expression-returns-in_ok-push_iterator-in-Generator t c =
    grind (arith, append_assoc, exp_of-Generator c.args.e.now _ _ _ _ c.in-Generator.is)

-- src/rows.rt:198:5
pub push_links-loop-link-preserved : goal.push_links-loop-link-preserved
push_links-loop-link-preserved t c =
    grind (arith, common_steps, append_assoc, link_of-parts c.link-item.result)

-- src/rows.rt:224:5
pub push_pieces-loop-piece-preserved : goal.push_pieces-loop-piece-preserved
push_pieces-loop-piece-preserved t c =
    grind (arith, common_steps, append_assoc, acts_pieces-first c.piece-item.result)
