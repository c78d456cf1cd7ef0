use Rattle.std.proofs.Common.{rules}
use Rattle.pt_fast_rows.proofs.IntegerLemmas.{compared}
use Rattle.pt_fast_rows.proofs.integers.fast_compare.Goals as goal

pub returns : goal.returns
returns c =
    compared c.in-Some.pair c.args.next c.args.slots.now c.replace_two.new.slots c.in-Some.ensures c.args.op c.in-Some-integers_compare.truth (search rules)
    c.in_ok-replace_two.ensures
