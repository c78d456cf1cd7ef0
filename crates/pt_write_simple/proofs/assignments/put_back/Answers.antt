use Rattle.std.proofs.Common.{arith}
use Rattle.pt_tree.proofs.Folds.{place_node_of-Attribute, place_node_of-Item}
use Rattle.pt_write_simple.proofs.assignments.put_back.Goals as goal

pub returns-in_ok-step-in-Attribute : goal.returns-in_ok-step-in-Attribute
returns-in_ok-step-in-Attribute c = grind (arith, place_node_of-Attribute c.args.target.now.node c.args.target.now.line.0 _ _ c.in-Attribute.is)

pub returns-in_ok-step-in-Item : goal.returns-in_ok-step-in-Item
returns-in_ok-step-in-Item c = grind (arith, place_node_of-Item c.args.target.now.node c.args.target.now.line.0 _ _ c.in-Item.is)
