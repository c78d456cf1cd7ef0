use Rattle.std.proofs.Common.{arith}
use Rattle.std.proofs.lemmas.Grind.{common_steps}
use Rattle.pt_tree.proofs.StatementFolds.{branch_of-parts, handler_of-parts, stm_of-Annotated, stm_of-Class, stm_of-Def}
use Rattle.pt_blocks.proofs.Walk.{behind_blocks-append, behind_blocks-inside_class}
use Rattle.pt_blocks.proofs.statements.+blocks.Goals as goal

pub visit_branches-loop-branch-preserved : goal.visit_branches-loop-branch-preserved
visit_branches-loop-branch-preserved g t c =
    grind (arith, common_steps, behind_blocks-append, branch_of-parts c.branch-item.result)

pub visit_handlers-loop-handler-preserved : goal.visit_handlers-loop-handler-preserved
visit_handlers-loop-handler-preserved g t c =
    grind (arith, common_steps, behind_blocks-append, handler_of-parts c.handler-item.result)

pub visit_statement-returns-in_ok-visit_place-in-Annotated : goal.visit_statement-returns-in_ok-visit_place-in-Annotated
visit_statement-returns-in_ok-visit_place-in-Annotated g t c =
    grind (arith, behind_blocks-append, stm_of-Annotated c.args.s.now _ _ _ c.in-Annotated.is)

pub visit_statement-returns-in_ok-visit_parameters-in-Def : goal.visit_statement-returns-in_ok-visit_parameters-in-Def
visit_statement-returns-in_ok-visit_parameters-in-Def g t c =
    grind (arith, behind_blocks-append, stm_of-Def c.args.s.now _ _ _ _ _ _ _ c.in-Def.is)

pub visit_statement-returns-in_ok-visit_optional-in-Class : goal.visit_statement-returns-in_ok-visit_optional-in-Class
visit_statement-returns-in_ok-visit_optional-in-Class g t c =
    grind (arith, behind_blocks-append, behind_blocks-inside_class, stm_of-Class c.args.s.now _ _ _ _ _ _ c.in-Class.is)

pub visit_statements-loop-s-preserved : goal.visit_statements-loop-s-preserved
visit_statements-loop-s-preserved g t c =
    grind (arith, common_steps, behind_blocks-append)
