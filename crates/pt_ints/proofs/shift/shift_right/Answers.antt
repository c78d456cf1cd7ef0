use Rattle.pt_ints.proofs.ShiftLemmas.{shifted_value}
use Rattle.pt_ints.proofs.shift.shift_right.Goals as goal

pub returns : goal.returns
returns c = shifted_value c.args.a c.ranges.a c.args.count c.min.result c.min.ensures
