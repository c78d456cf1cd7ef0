use Rattle.std.proofs.Common.{refl, nat_eq}
use Rattle.pt_kinds.proofs.KnownLemmas.{told_kind}
use Rattle.pt_kinds.proofs.known.is_kind.Goals as goal

pub returns : goal.returns
returns c = told_kind c.args.one c.args.other c.rank.result c.rank-2.result c.rank.ensures c.rank-2.ensures (nat_eq c.rank.result c.rank-2.result) refl
