use Rattle.pt_kinds.specs.Forest.{list_at}
use Rattle.pt_leave_clashes.proofs.Beginnings.{begins_is}
use Rattle.pt_leave_clashes.proofs.clashes.begins.Goals as goal

pub returns : goal.returns
returns c = begins_is (list_at c.args.forest.now c.args.beginning) (list_at c.args.forest.now c.args.list) c.len.result c.len.ensures c.agrees.result c.agrees.ensures
