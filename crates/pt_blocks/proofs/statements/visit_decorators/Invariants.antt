use Rattle.std.proofs.Common.{◌≡◌, drop}
use Rattle.pt_tree.specs.StatementFold.{decorators_of}
use Rattle.pt_tree.specs.Blocks.{blocks_decorators}
use Rattle.pt_blocks.specs.Visits.{behind_blocks}
use Rattle.pt_blocks.proofs.statements.visit_decorators.Given as goal

abbrev pub invariant-loop-decorator : goal.invariant-loop-decorator
invariant-loop-decorator g l = behind_blocks g.V.BlockVisitor.behind (blocks_decorators (decorators_of (drop l.decorator-index l.decorators))) l.visitor ≡ behind_blocks g.V.BlockVisitor.behind (blocks_decorators (decorators_of l.decorators)) l.fn.visitor
