use Rattle.std.proofs.Common.{sym, ap, inl, inr, arith}
use Rattle.std.proofs.lemmas.Grind.{common_steps}
use Rattle.pt_tree.proofs.Folds.{exp_of-DictComprehension, exp_of-Generator, exp_of-ListComprehension, exp_of-SetComprehension, exp_of-Slice, exp_of-Yield, exp_of-YieldFrom, clause_of-parts}
use Rattle.pt_supported.specs.Built.{unbuilt_exp}
use Rattle.pt_supported.proofs.Walk.{or-assoc, arguments-first, clause-is, clauses-first, entries-first, formals-first, links-first, pieces-first}
use Rattle.pt_supported.proofs.expressions.+expressions.Goals as goal

pub unbuilt_expression-returns-in-Generator : goal.unbuilt_expression-returns-in-Generator
unbuilt_expression-returns-in-Generator t c = let e = c.args.e.now in elim c.in-Generator.is [
  | inl (x0, x1, x2, x3, is) ↦ sym (ap unbuilt_exp (exp_of-Generator e x0 x1 x2 x3 is))
  | inr (inl (x0, is)) ↦ sym (ap unbuilt_exp (exp_of-Yield e x0 is))
  | inr (inr (x0, is)) ↦ sym (ap unbuilt_exp (exp_of-YieldFrom e x0 is))
]

pub unbuilt_expression-returns-in-Slice : goal.unbuilt_expression-returns-in-Slice
unbuilt_expression-returns-in-Slice t c = grind (arith, exp_of-Slice c.args.e.now _ _ _ c.in-Slice.is)

pub unbuilt_expression-returns-in-ListComprehension : goal.unbuilt_expression-returns-in-ListComprehension
unbuilt_expression-returns-in-ListComprehension t c =
    grind (arith, common_steps, or-assoc, exp_of-ListComprehension c.args.e.now _ _ _ c.in-ListComprehension.is, clauses-first)

pub unbuilt_expression-returns-in-SetComprehension : goal.unbuilt_expression-returns-in-SetComprehension
unbuilt_expression-returns-in-SetComprehension t c =
    grind (arith, common_steps, or-assoc, exp_of-SetComprehension c.args.e.now _ _ _ c.in-SetComprehension.is, clauses-first)

pub unbuilt_expression-returns-in-DictComprehension : goal.unbuilt_expression-returns-in-DictComprehension
unbuilt_expression-returns-in-DictComprehension t c =
    grind (arith, common_steps, or-assoc, exp_of-DictComprehension c.args.e.now _ _ _ _ c.in-DictComprehension.is, clauses-first)

pub unbuilt_pieces-returns-then-is_some : goal.unbuilt_pieces-returns-then-is_some
unbuilt_pieces-returns-then-is_some t c = grind (arith, common_steps, or-assoc, pieces-first c.piece-item.result)

pub unbuilt_pieces-loop-piece-preserved : goal.unbuilt_pieces-loop-piece-preserved
unbuilt_pieces-loop-piece-preserved t c = grind (arith, common_steps, or-assoc, pieces-first c.piece-item.result)

pub unbuilt_entries-returns-then-is_some : goal.unbuilt_entries-returns-then-is_some
unbuilt_entries-returns-then-is_some t c = grind (arith, common_steps, or-assoc, entries-first c.entry-item.result)

pub unbuilt_entries-loop-entry-preserved : goal.unbuilt_entries-loop-entry-preserved
unbuilt_entries-loop-entry-preserved t c = grind (arith, common_steps, or-assoc, entries-first c.entry-item.result)

pub unbuilt_arguments-returns-then-is_some : goal.unbuilt_arguments-returns-then-is_some
unbuilt_arguments-returns-then-is_some t c = grind (arith, common_steps, or-assoc, arguments-first c.argument-item.result)

pub unbuilt_arguments-loop-argument-preserved : goal.unbuilt_arguments-loop-argument-preserved
unbuilt_arguments-loop-argument-preserved t c = grind (arith, common_steps, or-assoc, arguments-first c.argument-item.result)

pub unbuilt_formals-returns-then-is_some : goal.unbuilt_formals-returns-then-is_some
unbuilt_formals-returns-then-is_some t c = grind (arith, common_steps, or-assoc, formals-first c.parameter-item.result)

pub unbuilt_formals-loop-parameter-preserved : goal.unbuilt_formals-loop-parameter-preserved
unbuilt_formals-loop-parameter-preserved t c = grind (arith, common_steps, or-assoc, formals-first c.parameter-item.result)

pub unbuilt_links-returns-then-is_some : goal.unbuilt_links-returns-then-is_some
unbuilt_links-returns-then-is_some t c = grind (arith, common_steps, or-assoc, links-first c.link-item.result)

pub unbuilt_links-loop-link-preserved : goal.unbuilt_links-loop-link-preserved
unbuilt_links-loop-link-preserved t c = grind (arith, common_steps, or-assoc, links-first c.link-item.result)

pub unbuilt_clauses-returns-then-is_some : goal.unbuilt_clauses-returns-then-is_some
unbuilt_clauses-returns-then-is_some t c = grind (arith, common_steps, or-assoc, clauses-first)

pub unbuilt_clauses-loop-clause-preserved : goal.unbuilt_clauses-loop-clause-preserved
unbuilt_clauses-loop-clause-preserved t c = grind (arith, common_steps, or-assoc, clauses-first)

pub unbuilt_clause-returns : goal.unbuilt_clause-returns
unbuilt_clause-returns t c = grind (arith, common_steps, clause_of-parts, clause-is)
