use Rattle.std.proofs.Common.{sym}
use Rattle.std.proofs.lemmas.Result.{IfOk-weaker}
use Rattle.pt_manager_rows.proofs.EnterLemmas.{enter_row}
use Rattle.pt_manager_rows.proofs.entering.enter.Goals as goal

pub returns-in-Some-clause-row : goal.returns-in-Some-clause-row
returns-in-Some-clause-row c = IfOk-weaker c.enter_by.result _ _
    (λ p done. enter_row c.args.blocks.now c.args.cells.now c.args.heap.now p c.enter_by.new.cells c.enter_by.new.heap c.args.slots.now c.in-Some.manager
    c.take_one.new.slots (sym c.in-Some.ensures.value) c.in-Some.ensures.below (done c.take_one.new.slots))
    c.enter_by.ensures
