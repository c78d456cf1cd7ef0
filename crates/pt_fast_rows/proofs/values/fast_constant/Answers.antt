use Rattle.pt_fast_rows.proofs.ValueLemmas.{constant_given}
use Rattle.pt_fast_rows.proofs.values.fast_constant.Goals as goal

pub returns : goal.returns
returns c = constant_given c.args.value c.args.next c.args.slots.now c.push.new.self c.in_ok-push.ensures.ok
