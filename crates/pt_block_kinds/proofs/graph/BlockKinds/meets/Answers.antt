use Rattle.pt_block_kinds.proofs.Failing.{decides_meeting}
use Rattle.pt_block_kinds.proofs.graph.BlockKinds.meets.Goals as goal

pub returns : goal.returns
returns c = λ b p d seen sizes. decides_meeting b p c.args.sizes.now c.args.self.now d seen sizes c.has_short_place.result c.has_short_place.ensures
