use Rattle.std.proofs.Common.{arith}
use Rattle.std.proofs.lemmas.Grind.{common_steps}
use Rattle.pt_scopes.proofs.Behind.{behind-both, behind-comprehension, behind-conditions, behind-generator, behind-nothing}
use Rattle.pt_tree.proofs.Folds.{entry_of-parts, exp_of-Conditional, exp_of-DictComprehension, exp_of-Generator, exp_of-ListComprehension, exp_of-SetComprehension, exp_of-Slice, formal_of-parts, link_of-parts}
use Rattle.pt_tree.specs.Fold.{clause_of}
use Rattle.pt_scopes.proofs.expressions.+expressions.Goals as goal

pub all-loop-item-preserved : goal.all-loop-item-preserved
all-loop-item-preserved t c = grind (arith, common_steps, behind-both)

pub all-returns : goal.all-returns
all-returns t c = grind (arith, common_steps, behind-nothing)

pub arguments-returns : goal.arguments-returns
arguments-returns t c = grind (arith, common_steps, behind-nothing)

pub clauses-loop-clause-preserved : goal.clauses-loop-clause-preserved
clauses-loop-clause-preserved t c = grind (arith, common_steps, behind-both, behind-conditions c.args.at c.args.class.now (clause_of c.clause-item.result).conditions)

pub clauses-returns : goal.clauses-returns
clauses-returns t c = grind (arith, common_steps, behind-nothing)

pub conditions-loop-test-preserved : goal.conditions-loop-test-preserved
conditions-loop-test-preserved t c = grind (arith, common_steps, behind-both)

pub conditions-returns : goal.conditions-returns
conditions-returns t c = grind (arith, common_steps, behind-nothing)

pub entries-loop-entry-preserved : goal.entries-loop-entry-preserved
entries-loop-entry-preserved t c = grind (arith, common_steps, behind-both, entry_of-parts c.entry-item.result)

pub entries-returns : goal.entries-returns
entries-returns t c = grind (arith, common_steps, behind-nothing)

pub formals-loop-p-preserved : goal.formals-loop-p-preserved
formals-loop-p-preserved t c = grind (arith, common_steps, behind-both, formal_of-parts c.p-item.result)

pub formals-returns : goal.formals-returns
formals-returns t c = grind (arith, common_steps, behind-nothing)

pub links-loop-link-preserved : goal.links-loop-link-preserved
links-loop-link-preserved t c = grind (arith, common_steps, behind-both, link_of-parts c.link-item.result)

pub links-returns : goal.links-returns
links-returns t c = grind (arith, common_steps, behind-nothing)

pub pieces-returns : goal.pieces-returns
pieces-returns t c = grind (arith, common_steps, behind-nothing)

pub targets-loop-part-preserved : goal.targets-loop-part-preserved
targets-loop-part-preserved t c = grind (arith, common_steps, behind-both)

pub targets-returns : goal.targets-returns
targets-returns t c = grind (arith, common_steps, behind-nothing)

pub expression-returns-in_ok-boxed-in-Slice-2 : goal.expression-returns-in_ok-boxed-in-Slice-2
expression-returns-in_ok-boxed-in-Slice-2 t c = grind (arith, exp_of-Slice c.args.e.now _ _ _ c.in-Slice.is, behind-both)

pub expression-returns-in_ok-expression-in-Conditional-2 : goal.expression-returns-in_ok-expression-in-Conditional-2
expression-returns-in_ok-expression-in-Conditional-2 t c = grind (arith, exp_of-Conditional c.args.e.now _ _ _ c.in-Conditional.is, behind-both)

pub expression-returns-in_ok-first_clause-in-ListComprehension : goal.expression-returns-in_ok-first_clause-in-ListComprehension
expression-returns-in_ok-first_clause-in-ListComprehension t c = grind (arith, exp_of-ListComprehension c.args.e.now _ _ _ c.in-ListComprehension.is, behind-comprehension, behind-both, behind-conditions)

pub expression-returns-in_ok-first_clause-in-SetComprehension : goal.expression-returns-in_ok-first_clause-in-SetComprehension
expression-returns-in_ok-first_clause-in-SetComprehension t c = grind (arith, exp_of-SetComprehension c.args.e.now _ _ _ c.in-SetComprehension.is, behind-comprehension, behind-both, behind-conditions)

pub expression-returns-in_ok-first_clause-in-DictComprehension : goal.expression-returns-in_ok-first_clause-in-DictComprehension
expression-returns-in_ok-first_clause-in-DictComprehension t c = grind (arith, exp_of-DictComprehension c.args.e.now _ _ _ _ c.in-DictComprehension.is, behind-comprehension, behind-both, behind-conditions)

pub expression-returns-in_ok-first_clause-in-Generator : goal.expression-returns-in_ok-first_clause-in-Generator
expression-returns-in_ok-first_clause-in-Generator t c = grind (arith, exp_of-Generator c.args.e.now _ _ _ _ c.in-Generator.is, behind-generator, behind-both, behind-conditions)
