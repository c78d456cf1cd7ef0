use Rattle.std.proofs.Common.{◌≡◌, ◌++◌, drop, map}
use Rattle.pt_tree.specs.StatementFold.{decorators_of}
use Rattle.pt_tree.specs.Blocks.{acts_of, blocks_decorators}
use Rattle.pt_acts.proofs.statement_blocks.collect_decorators.Given as goal

abbrev pub invariant-loop-decorator : goal.invariant-loop-decorator
invariant-loop-decorator l = l.table ++ map acts_of (blocks_decorators (decorators_of (drop l.decorator-index l.decorators))) ≡ l.fn.table ++ map acts_of (blocks_decorators (decorators_of l.decorators))
