use Rattle.std.proofs.Common.{arith, append_assoc}
use Rattle.std.proofs.lemmas.Grind.{common_steps}
use Rattle.std.proofs.lemmas.List.{map-append}
use Rattle.pt_tree.specs.Fold.{clause_of}
use Rattle.pt_tree.proofs.Folds.{exp_of-Slice, exp_of-Conditional, exp_of-ListComprehension, exp_of-SetComprehension, exp_of-DictComprehension, exp_of-Generator, formal_of-parts, entry_of-parts, link_of-parts}
use Rattle.pt_acts.proofs.Walk.{blocks_args-first, blocks_clauses-conditions, blocks_pieces-first}
use Rattle.pt_acts.proofs.blocks.+blocks.Goals as goal

pub collect_arguments-loop-argument-preserved : goal.collect_arguments-loop-argument-preserved
collect_arguments-loop-argument-preserved t c =
    grind (arith, common_steps, append_assoc, map-append, blocks_args-first c.argument-item.result)

pub collect_clauses-loop-clause-preserved : goal.collect_clauses-loop-clause-preserved
collect_clauses-loop-clause-preserved t c =
    grind (arith, common_steps, append_assoc, map-append, blocks_clauses-conditions (clause_of c.clause-item.result).conditions)

pub collect_defaults-loop-parameter-preserved : goal.collect_defaults-loop-parameter-preserved
collect_defaults-loop-parameter-preserved t c =
    grind (arith, common_steps, append_assoc, map-append, formal_of-parts c.parameter-item.result)

pub collect_entries-loop-entry-preserved : goal.collect_entries-loop-entry-preserved
collect_entries-loop-entry-preserved t c =
    grind (arith, common_steps, append_assoc, map-append, entry_of-parts c.entry-item.result)

pub collect_links-loop-link-preserved : goal.collect_links-loop-link-preserved
collect_links-loop-link-preserved t c =
    grind (arith, common_steps, append_assoc, map-append, link_of-parts c.link-item.result)

pub collect_pieces-loop-piece-preserved : goal.collect_pieces-loop-piece-preserved
collect_pieces-loop-piece-preserved t c =
    grind (arith, common_steps, append_assoc, map-append, blocks_pieces-first c.piece-item.result)

pub collect_expression-returns-in_ok-collect_boxed-in-Slice-2 : goal.collect_expression-returns-in_ok-collect_boxed-in-Slice-2
collect_expression-returns-in_ok-collect_boxed-in-Slice-2 t c =
    grind (arith, append_assoc, map-append, exp_of-Slice c.args.e.now _ _ _ c.in-Slice.is)

pub collect_expression-returns-in_ok-collect_expression-in-Conditional-2 : goal.collect_expression-returns-in_ok-collect_expression-in-Conditional-2
collect_expression-returns-in_ok-collect_expression-in-Conditional-2 t c =
    grind (arith, append_assoc, map-append, exp_of-Conditional c.args.e.now _ _ _ c.in-Conditional.is)

pub collect_expression-returns-in_ok-collect_clause-in-ListComprehension : goal.collect_expression-returns-in_ok-collect_clause-in-ListComprehension
collect_expression-returns-in_ok-collect_clause-in-ListComprehension t c =
    grind (arith, append_assoc, map-append, blocks_clauses-conditions, exp_of-ListComprehension c.args.e.now _ _ _ c.in-ListComprehension.is)

pub collect_expression-returns-in_ok-collect_clause-in-SetComprehension : goal.collect_expression-returns-in_ok-collect_clause-in-SetComprehension
collect_expression-returns-in_ok-collect_clause-in-SetComprehension t c =
    grind (arith, append_assoc, map-append, blocks_clauses-conditions, exp_of-SetComprehension c.args.e.now _ _ _ c.in-SetComprehension.is)

pub collect_expression-returns-in_ok-collect_clause-in-DictComprehension : goal.collect_expression-returns-in_ok-collect_clause-in-DictComprehension
collect_expression-returns-in_ok-collect_clause-in-DictComprehension t c =
    grind (arith, append_assoc, map-append, blocks_clauses-conditions, exp_of-DictComprehension c.args.e.now _ _ _ _ c.in-DictComprehension.is)

pub collect_expression-returns-in_ok-collect_clause-in-Generator : goal.collect_expression-returns-in_ok-collect_clause-in-Generator
collect_expression-returns-in_ok-collect_clause-in-Generator t c =
    grind (arith, append_assoc, map-append, blocks_clauses-conditions, exp_of-Generator c.args.e.now _ _ _ _ c.in-Generator.is)
