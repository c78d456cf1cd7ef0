use Rattle.std.proofs.Common.{arith, append_assoc}
use Rattle.std.proofs.lemmas.Grind.{common_steps}
use Rattle.std.proofs.lemmas.List.{map-append}
use Rattle.pt_tree.proofs.StatementFolds.{branch_of-parts, handler_of-parts, stm_of-Annotated, stm_of-Class, stm_of-Def}
use Rattle.pt_acts.proofs.Walk.{acts-inside_class}
use Rattle.pt_acts.proofs.statement_blocks.+blocks.Goals as goal

pub collect_branches-loop-branch-preserved : goal.collect_branches-loop-branch-preserved
collect_branches-loop-branch-preserved t c =
    grind (arith, common_steps, append_assoc, map-append, branch_of-parts c.branch-item.result)

pub collect_handlers-loop-handler-preserved : goal.collect_handlers-loop-handler-preserved
collect_handlers-loop-handler-preserved t c =
    grind (arith, common_steps, append_assoc, map-append, handler_of-parts c.handler-item.result)

pub collect_statement-returns-in_ok-collect_place-in-Annotated : goal.collect_statement-returns-in_ok-collect_place-in-Annotated
collect_statement-returns-in_ok-collect_place-in-Annotated t c =
    grind (arith, append_assoc, map-append, stm_of-Annotated c.args.s.now _ _ _ c.in-Annotated.is)

pub collect_statement-returns-in_ok-collect_parameters-in-Def : goal.collect_statement-returns-in_ok-collect_parameters-in-Def
collect_statement-returns-in_ok-collect_parameters-in-Def t c =
    grind (arith, append_assoc, map-append, stm_of-Def c.args.s.now _ _ _ _ _ _ _ c.in-Def.is)

pub collect_statement-returns-in_ok-collect_optional-in-Class : goal.collect_statement-returns-in_ok-collect_optional-in-Class
collect_statement-returns-in_ok-collect_optional-in-Class t c =
    grind (arith, append_assoc, map-append, acts-inside_class, stm_of-Class c.args.s.now _ _ _ _ _ _ c.in-Class.is)
