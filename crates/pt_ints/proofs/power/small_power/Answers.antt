use Rattle.std.proofs.Common.{rules}
use Rattle.pt_ints.proofs.PowerLemmas.{small_value, small_range}
use Rattle.pt_ints.proofs.power.small_power.Goals as goal

pub returns-in-Some : goal.returns-in-Some
returns-in-Some c = small_value c.args.base c.ranges.base c.args.exponent c.in-Some.power (search rules) c.in-Some.ensures.1

pub returns-in-None : goal.returns-in-None
returns-in-None c = small_range c.args.base c.ranges.base c.args.exponent c.in-None.ensures
