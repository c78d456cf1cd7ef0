use Rattle.pt_common_slots.proofs.Assembly.{decided}
use Rattle.pt_common_slots.proofs.common.in_common.Goals as goal

pub returns : goal.returns
returns c b p t = decided b p c.args.joins.now.nodes.items t c.args.slot c.args.one.0 c.args.other.0 c.is_joined.result (c.is_joined.ensures t.joins t.count t.tells)
