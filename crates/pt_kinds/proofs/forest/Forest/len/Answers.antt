use Rattle.pt_kinds.proofs.WayLemmas.{length_is}
use Rattle.pt_kinds.proofs.forest.Forest.len.Goals as goal

pub returns : goal.returns
returns c = length_is c.args.self.now c.requires.forest c.args.list c.at.result c.at.ensures
