use Rattle.std.proofs.Common.{◌≡◌, ◌++◌, drop, map}
use Rattle.pt_tree.specs.StatementFold.{items_of}
use Rattle.pt_tree.specs.Blocks.{acts_of, blocks_items}
use Rattle.pt_acts.proofs.statement_blocks.collect_items.Given as goal

abbrev pub invariant-loop-item : goal.invariant-loop-item
invariant-loop-item l = l.table ++ map acts_of (blocks_items (items_of (drop l.item-index l.items))) ≡ l.fn.table ++ map acts_of (blocks_items (items_of l.items))
