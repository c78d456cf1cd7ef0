use Rattle.std.proofs.Common.{◌∙◌, Some, ap}
use Rattle.pt_fast_rows.proofs.BranchLemmas.{jumped_if, passed_if}
use Rattle.pt_fast_rows.proofs.branches.fast_jump_if.Goals as goal

pub returns-in-Some-true : goal.returns-in-Some-true
returns-in-Some-true c =
    jumped_if c.args.to c.args.next c.args.slots.now c.take_truth.new.slots c.take_truth.result
    c.take_truth.ensures (c.in-Some-true.is ∙ ap Some c.in-Some-true.field-0-test)

pub returns-in-Some-false : goal.returns-in-Some-false
returns-in-Some-false c =
    passed_if c.args.to c.args.next c.args.slots.now c.take_truth.new.slots c.take_truth.result
    c.take_truth.ensures (c.in-Some-false.is ∙ ap Some c.in-Some-false.field-0-test)
