use Rattle.pt_fast_rows.proofs.ValueLemmas.{popped_one}
use Rattle.pt_fast_rows.proofs.values.fast_pop.Goals as goal

pub returns-in-Some : goal.returns-in-Some
returns-in-Some c = popped_one c.take_value.result c.in-Some.field-0 c.args.next c.args.slots.now c.take_value.new.slots c.take_value.ensures c.in-Some.is
