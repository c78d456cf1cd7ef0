use Rattle.std.proofs.Common.{ap, sym}
use Rattle.pt_tree.proofs.Folds.{target_of-Place, target_of-Tuple, target_of-List, target_of-Starred}
use Rattle.pt_write_ops.specs.Written.{is_starred}
use Rattle.pt_write_ops.proofs.trees.is_starred.Goals as goal

pub returns-in-Place : goal.returns-in-Place
returns-in-Place c = sym (ap (λ t. is_starred t) (target_of-Place c.args.target.now _ c.in-Place.is))

pub returns-in-Tuple : goal.returns-in-Tuple
returns-in-Tuple c = sym (ap (λ t. is_starred t) (target_of-Tuple c.args.target.now _ c.in-Tuple.is))

pub returns-in-List : goal.returns-in-List
returns-in-List c = sym (ap (λ t. is_starred t) (target_of-List c.args.target.now _ c.in-List.is))

pub returns-in-Starred : goal.returns-in-Starred
returns-in-Starred c = sym (ap (λ t. is_starred t) (target_of-Starred c.args.target.now _ c.in-Starred.is))
