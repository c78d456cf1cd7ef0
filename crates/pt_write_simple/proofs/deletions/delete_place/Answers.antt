use Rattle.std.proofs.Common.{arith}
use Rattle.pt_tree.proofs.Folds.{place_node_of-Attribute}
use Rattle.pt_write_simple.proofs.deletions.delete_place.Goals as goal

pub returns-in_ok-value_code-in-Attribute : goal.returns-in_ok-value_code-in-Attribute
returns-in_ok-value_code-in-Attribute c = grind (arith, place_node_of-Attribute c.args.place.now c.args.line.0 _ _ c.in-Attribute.is)
