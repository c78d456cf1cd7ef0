use Rattle.pt_attribute_rows.proofs.AttributeLemmas.{held_given}
use Rattle.pt_attribute_rows.proofs.attributes.give.Goals as goal

pub returns-in_ok-push-in-Held-clause-answer : goal.returns-in_ok-push-in-Held-clause-answer
returns-in_ok-push-in-Held-clause-answer c = held_given c.args.blocks.now c.args.name.now c.args.value c.args.attribute c.args.slots.now c.args.heap.now
    c.in-Held.held c.push.new.self c.in-Held.is (c.in_ok-push-in-Held.ensures.ok)
