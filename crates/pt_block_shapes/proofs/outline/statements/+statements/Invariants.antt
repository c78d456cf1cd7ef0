use Rattle.std.proofs.Common.{◌≡◌, drop, map}
use Rattle.pt_block_shapes.specs.outliner.Outline.{behind}
use Rattle.pt_block_shapes.specs.outliner.Parts.{outline_branches, outline_handlers, outline_stms}
use Rattle.pt_tree.specs.Fold.{chained}
use Rattle.pt_tree.specs.StatementFold.{branch_of, handler_of, stms_of}
use Rattle.pt_tree.specs.Syntax as S
use Rattle.pt_block_shapes.proofs.outline.statements.+statements.Given as goal

abbrev pub invariant-statements-loop-s : goal.invariant-statements-loop-s
invariant-statements-loop-s l = behind l.o (outline_stms l.class (stms_of (drop l.s-index l.list))) ≡ behind l.fn.o (outline_stms l.class (stms_of l.list))

abbrev pub invariant-branches-loop-branch : goal.invariant-branches-loop-branch
invariant-branches-loop-branch l = behind l.o (outline_branches l.class (chained S.no_branches (map branch_of (drop l.branch-index l.list)))) ≡ behind l.fn.o (outline_branches l.class (chained S.no_branches (map branch_of l.list)))

abbrev pub invariant-handlers-loop-handler : goal.invariant-handlers-loop-handler
invariant-handlers-loop-handler l = behind l.o (outline_handlers l.class (chained S.no_handlers (map handler_of (drop l.handler-index l.list)))) ≡ behind l.fn.o (outline_handlers l.class (chained S.no_handlers (map handler_of l.list)))
