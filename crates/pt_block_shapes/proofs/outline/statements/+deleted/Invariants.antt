use Rattle.std.proofs.Common.{◌≡◌, drop, map}
use Rattle.pt_block_shapes.specs.outliner.Outline.{behind}
use Rattle.pt_block_shapes.specs.outliner.Parts.{outline_all_deleted}
use Rattle.pt_tree.specs.Fold.{target_of, targets_of}
use Rattle.pt_block_shapes.proofs.outline.statements.+deleted.Given as goal

abbrev pub invariant-all_deleted-loop-part : goal.invariant-all_deleted-loop-part
invariant-all_deleted-loop-part l = behind l.o (outline_all_deleted l.class (targets_of (map target_of (drop l.part-index l.parts)))) ≡ behind l.fn.o (outline_all_deleted l.class (targets_of (map target_of l.parts)))
