use Rattle.std.proofs.Common.{arith}
use Rattle.std.proofs.lemmas.Grind.{common_steps}
use Rattle.pt_tree.specs.Fold.{clause_of}
use Rattle.pt_tree.proofs.Folds.{exp_of-Binary, exp_of-Compare, exp_of-Slice, exp_of-Conditional, exp_of-ListComprehension, exp_of-SetComprehension, exp_of-DictComprehension, exp_of-Generator, formal_of-parts, entry_of-parts, link_of-parts}
use Rattle.pt_blocks.proofs.Walk.{behind_blocks-append, blocks_args-first, blocks_clauses-conditions, blocks_pieces-first}
use Rattle.pt_blocks.proofs.expressions.+blocks.Goals as goal

pub visit_arguments-loop-argument-preserved : goal.visit_arguments-loop-argument-preserved
visit_arguments-loop-argument-preserved g t c =
    grind (arith, common_steps, behind_blocks-append, blocks_args-first c.argument-item.result)

pub visit_clauses-loop-clause-preserved : goal.visit_clauses-loop-clause-preserved
visit_clauses-loop-clause-preserved g t c =
    grind (arith, common_steps, behind_blocks-append, blocks_clauses-conditions (clause_of c.clause-item.result).conditions)

pub visit_defaults-loop-parameter-preserved : goal.visit_defaults-loop-parameter-preserved
visit_defaults-loop-parameter-preserved g t c =
    grind (arith, common_steps, behind_blocks-append, formal_of-parts c.parameter-item.result)

pub visit_entries-loop-entry-preserved : goal.visit_entries-loop-entry-preserved
visit_entries-loop-entry-preserved g t c =
    grind (arith, common_steps, behind_blocks-append, entry_of-parts c.entry-item.result)

pub visit_links-loop-link-preserved : goal.visit_links-loop-link-preserved
visit_links-loop-link-preserved g t c =
    grind (arith, common_steps, behind_blocks-append, link_of-parts c.link-item.result)

pub visit_pieces-loop-piece-preserved : goal.visit_pieces-loop-piece-preserved
visit_pieces-loop-piece-preserved g t c =
    grind (arith, common_steps, behind_blocks-append, blocks_pieces-first c.piece-item.result)

pub visit_expression-returns-in_ok-visit_boxed-in-Slice-2 : goal.visit_expression-returns-in_ok-visit_boxed-in-Slice-2
visit_expression-returns-in_ok-visit_boxed-in-Slice-2 g t c =
    grind (arith, behind_blocks-append, exp_of-Slice c.args.e.now _ _ _ c.in-Slice.is)

pub visit_expression-returns-in_ok-visit_expression-in-Conditional-2 : goal.visit_expression-returns-in_ok-visit_expression-in-Conditional-2
visit_expression-returns-in_ok-visit_expression-in-Conditional-2 g t c =
    grind (arith, behind_blocks-append, exp_of-Conditional c.args.e.now _ _ _ c.in-Conditional.is)

pub visit_expression-returns-in_ok-visit_clause-in-ListComprehension : goal.visit_expression-returns-in_ok-visit_clause-in-ListComprehension
visit_expression-returns-in_ok-visit_clause-in-ListComprehension g t c =
    grind (arith, behind_blocks-append, blocks_clauses-conditions, exp_of-ListComprehension c.args.e.now _ _ _ c.in-ListComprehension.is)

pub visit_expression-returns-in_ok-visit_clause-in-SetComprehension : goal.visit_expression-returns-in_ok-visit_clause-in-SetComprehension
visit_expression-returns-in_ok-visit_clause-in-SetComprehension g t c =
    grind (arith, behind_blocks-append, blocks_clauses-conditions, exp_of-SetComprehension c.args.e.now _ _ _ c.in-SetComprehension.is)

pub visit_expression-returns-in_ok-visit_clause-in-DictComprehension : goal.visit_expression-returns-in_ok-visit_clause-in-DictComprehension
visit_expression-returns-in_ok-visit_clause-in-DictComprehension g t c =
    grind (arith, behind_blocks-append, blocks_clauses-conditions, exp_of-DictComprehension c.args.e.now _ _ _ _ c.in-DictComprehension.is)

pub visit_expression-returns-in_ok-visit_clause-in-Generator : goal.visit_expression-returns-in_ok-visit_clause-in-Generator
visit_expression-returns-in_ok-visit_clause-in-Generator g t c =
    grind (arith, behind_blocks-append, blocks_clauses-conditions, exp_of-Generator c.args.e.now _ _ _ _ c.in-Generator.is)

pub visit_all-loop-item-preserved : goal.visit_all-loop-item-preserved
visit_all-loop-item-preserved g t c =
    grind (arith, common_steps, behind_blocks-append)

pub visit_targets-loop-target-preserved : goal.visit_targets-loop-target-preserved
visit_targets-loop-target-preserved g t c =
    grind (arith, common_steps, behind_blocks-append)

pub visit_expression-returns-in_ok-visit_expression-in-Binary : goal.visit_expression-returns-in_ok-visit_expression-in-Binary
visit_expression-returns-in_ok-visit_expression-in-Binary g t c =
    grind (arith, behind_blocks-append, exp_of-Binary c.args.e.now _ _ _ c.in-Binary.is)

pub visit_expression-returns-in_ok-visit_expression-in-Compare-2 : goal.visit_expression-returns-in_ok-visit_expression-in-Compare-2
visit_expression-returns-in_ok-visit_expression-in-Compare-2 g t c =
    grind (arith, behind_blocks-append, exp_of-Compare c.args.e.now _ _ _ _ c.in-Compare.is)
