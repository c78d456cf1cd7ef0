use Rattle.pt_leave_clashes.proofs.Deciding.{decides_clash}
use Rattle.pt_leave_clashes.proofs.clashes.leaves_clash.Goals as goal

pub returns : goal.returns
returns c b has draws seen are lead fine enough =
    decides_clash b c.args.limit.0 c.args.places.now has c.args.sizes.now c.args.kinds.now draws seen are fine c.any_differs.result c.any_differs.ensures lead enough
