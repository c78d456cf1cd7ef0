use Rattle.pt_literals.proofs.NumberLemmas.{value_large}
use Rattle.pt_literals.proofs.numbers.value.Goals as goal

pub returns-in_default : goal.returns-in_default
returns-in_default c =
    value_large c.args.radix c.loop-spot.sum c.loop-spot.spot-index _ _ _ c.args.digits.now _ c.requires c.loop-spot-test.true c.if-spot-ne95.true c.loop-spot.invariant.value c.digit.ensures c.in_default.ensures
