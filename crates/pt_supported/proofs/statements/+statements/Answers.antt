use Rattle.std.proofs.Common.{sym, ap, arith}
use Rattle.std.proofs.lemmas.Grind.{common_steps}
use Rattle.pt_tree.proofs.StatementFolds.{branch_of-parts, stm_of-Annotated, stm_of-With, handler_of-parts}
use Rattle.pt_supported.specs.Built.{unbuilt_stm}
use Rattle.pt_supported.proofs.Walk.{or-assoc}
use Rattle.pt_supported.proofs.statements.+statements.Goals as goal

pub unbuilt_branches-returns-then-is_some : goal.unbuilt_branches-returns-then-is_some
unbuilt_branches-returns-then-is_some t c = grind (arith, common_steps, or-assoc, branch_of-parts c.branch-item.result)

pub unbuilt_branches-loop-branch-preserved : goal.unbuilt_branches-loop-branch-preserved
unbuilt_branches-loop-branch-preserved t c = grind (arith, common_steps, or-assoc, branch_of-parts c.branch-item.result)

pub unbuilt_statement-returns-in-Annotated : goal.unbuilt_statement-returns-in-Annotated
unbuilt_statement-returns-in-Annotated t c = grind (arith, stm_of-Annotated c.args.s.now _ _ _ c.in-Annotated.is)

pub unbuilt_handlers-returns-then-is_some : goal.unbuilt_handlers-returns-then-is_some
unbuilt_handlers-returns-then-is_some t c = grind (arith, common_steps, or-assoc, handler_of-parts c.handler-item.result)

pub unbuilt_handlers-loop-handler-preserved : goal.unbuilt_handlers-loop-handler-preserved
unbuilt_handlers-loop-handler-preserved t c = grind (arith, common_steps, or-assoc, handler_of-parts c.handler-item.result)

pub unbuilt_statement-returns-in-With : goal.unbuilt_statement-returns-in-With
unbuilt_statement-returns-in-With t c = grind (arith, stm_of-With c.args.s.now _ _ c.in-With.is)
