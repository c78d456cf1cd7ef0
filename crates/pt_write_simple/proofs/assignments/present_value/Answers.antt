use Rattle.std.proofs.Common.{arith}
use Rattle.pt_tree.proofs.Folds.{place_node_of-Attribute}
use Rattle.pt_write_simple.proofs.assignments.present_value.Goals as goal

pub returns-in_ok-step-in-Attribute : goal.returns-in_ok-step-in-Attribute
returns-in_ok-step-in-Attribute c = grind (arith, place_node_of-Attribute c.args.target.now.node c.args.target.now.line.0 _ _ c.in-Attribute.is)
