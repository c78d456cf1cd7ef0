use Rattle.std.proofs.Common.{◌≡◌, drop}
use Rattle.pt_block_shapes.specs.outliner.Outline.{behind}
use Rattle.pt_block_shapes.specs.outliner.Parts.{outline_decorators}
use Rattle.pt_tree.specs.StatementFold.{decorators_of}
use Rattle.pt_block_shapes.proofs.outline.statements.decorators.Given as goal

abbrev pub invariant-loop-decorator : goal.invariant-loop-decorator
invariant-loop-decorator l = behind l.o (outline_decorators l.class (decorators_of (drop l.decorator-index l.list))) ≡ behind l.fn.o (outline_decorators l.class (decorators_of l.list))
