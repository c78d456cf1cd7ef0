use Rattle.pt_ints.proofs.BitLemmas.{joined_value}
use Rattle.pt_ints.proofs.bits.joined.Goals as goal

pub returns : goal.returns
returns c = joined_value c.args.a c.args.b c.ranges.a c.ranges.b
