use Rattle.pt_ints.proofs.ShiftLemmas.{product_value, shifted_range}
use Rattle.pt_ints.proofs.shift.shift_left.Goals as goal
use Rattle.pt_ints.proofs.shift.shift_left.Goals.{else-count-eq127-via-then-count-eq127+else-a-eqminus1, else-count-eq127-via-else-count-eq127}

pub returns-then-count-lt127 : goal.returns-then-count-lt127
returns-then-count-lt127 c = product_value c.args.a c.ranges.a c.args.count c.product.result c.if-count-lt127.true c.product.ensures

pub returns-else-count-eq127 : goal.returns-else-count-eq127
returns-else-count-eq127 c = shifted_range c.args.a c.ranges.a c.args.count c.if-a-eq0.false c.if-count-lt127.false
    (elim c.else-count-eq127.branch [
      | else-count-eq127-via-then-count-eq127+else-a-eqminus1 w ↦ λ _. w.if-a-eqminus1.false
      | else-count-eq127-via-else-count-eq127 w ↦ λ e _. w.if-count-eq127.false e
    ])
