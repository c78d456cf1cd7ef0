use Rattle.std.proofs.Common.{refl, nat_eq}
use Rattle.pt_kinds.proofs.WayLemmas.{told_same}
use Rattle.pt_kinds.proofs.forest.Forest.same.Goals as goal

pub returns : goal.returns
returns c = told_same c.args.self.now c.requires.forest c.args.one c.args.other c.requires.one c.requires.other (nat_eq c.args.one c.args.other) refl
