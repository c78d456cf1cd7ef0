use Rattle.pt_ints.proofs.BitLemmas.{common_value}
use Rattle.pt_ints.proofs.bits.common.Goals as goal

pub returns : goal.returns
returns c = common_value c.args.a c.args.b c.ranges.a c.ranges.b
