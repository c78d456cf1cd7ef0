use Rattle.std.proofs.Common.{◌≡◌, drop}
use Rattle.pt_block_shapes.specs.outliner.Outline.{behind}
use Rattle.pt_block_shapes.specs.outliner.Parts.{outline_items}
use Rattle.pt_tree.specs.StatementFold.{items_of}
use Rattle.pt_block_shapes.proofs.outline.statements.items.Given as goal

abbrev pub invariant-loop-item : goal.invariant-loop-item
invariant-loop-item l = behind l.o (outline_items l.class (items_of (drop l.item-index l.list))) ≡ behind l.fn.o (outline_items l.class (items_of l.list))
