use Rattle.pt_ints.proofs.PowerLemmas.{of_zero, of_one, of_minus_one_even, of_minus_one_odd, of_others}
use Rattle.pt_ints.proofs.power.raise.Goals as goal

pub returns-then-base-eq0 : goal.returns-then-base-eq0
returns-then-base-eq0 c = of_zero c.args.base c.ranges.base c.args.exponent c.if-exponent-lt-LARGE_EXPONENT.false c.if-base-eq0.true

pub returns-then-base-eq1 : goal.returns-then-base-eq1
returns-then-base-eq1 c = of_one c.args.base c.ranges.base c.args.exponent c.if-exponent-lt-LARGE_EXPONENT.false c.if-base-eq1.true

pub returns-then-exponent-eq0 : goal.returns-then-exponent-eq0
returns-then-exponent-eq0 c = of_minus_one_even c.args.base c.ranges.base c.args.exponent c.if-exponent-lt-LARGE_EXPONENT.false c.if-base-eqminus1.true c.if-exponent-eq0.true

pub returns-else-exponent-eq0 : goal.returns-else-exponent-eq0
returns-else-exponent-eq0 c = of_minus_one_odd c.args.base c.ranges.base c.args.exponent c.if-exponent-lt-LARGE_EXPONENT.false c.if-base-eqminus1.true c.if-exponent-eq0.false

pub returns-else-base-eqminus1 : goal.returns-else-base-eqminus1
returns-else-base-eqminus1 c = of_others c.args.base c.ranges.base c.args.exponent c.if-exponent-lt-LARGE_EXPONENT.false c.if-base-eq0.false c.if-base-eq1.false c.if-base-eqminus1.false
