use Rattle.std.proofs.Common.{sym}
use Rattle.std.proofs.lemmas.Result.{IfOk-weaker}
use Rattle.pt_manager_rows.proofs.LeaveLemmas.{exit_row}
use Rattle.pt_manager_rows.proofs.leaving.exit.Goals as goal

pub returns-in-Some-clause-row : goal.returns-in-Some-clause-row
returns-in-Some-clause-row c = IfOk-weaker c.leave_by.result _ _
    (λ p done. exit_row c.args.blocks.now c.args.cells.now c.args.heap.now p c.leave_by.new.cells c.leave_by.new.heap c.args.slots.now c.in-Some.held
    (sym c.in-Some.ensures) (done c.args.slots.now))
    c.leave_by.ensures
