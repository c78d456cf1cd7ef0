use Rattle.std.proofs.Common.{arith}
use Rattle.pt_tree.proofs.Folds.{place_node_of-Attribute, place_node_of-Item}
use Rattle.pt_acts.proofs.statement_rows.push_put.Goals as goal

pub returns-in-Attribute : goal.returns-in-Attribute
returns-in-Attribute c = grind (arith, place_node_of-Attribute c.args.target.now.node c.args.target.now.line.0 _ _ c.in-Attribute.is)

pub returns-in-Item : goal.returns-in-Item
returns-in-Item c = grind (arith, place_node_of-Item c.args.target.now.node c.args.target.now.line.0 _ _ c.in-Item.is)
