use Rattle.pt_ints.proofs.BitLemmas.{differing_value}
use Rattle.pt_ints.proofs.bits.differing.Goals as goal

pub returns : goal.returns
returns c = differing_value c.args.a c.args.b c.ranges.a c.ranges.b
