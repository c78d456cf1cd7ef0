use Rattle.std.proofs.Common.{sym}
use Rattle.std.proofs.lemmas.Result.{IfOk-weaker}
use Rattle.pt_manager_rows.proofs.LeaveLemmas.{method_called}
use Rattle.pt_manager_rows.proofs.leaving.leave_by.Goals as goal

pub returns-in_ok-args-in-Some : goal.returns-in_ok-args-in-Some
returns-in_ok-args-in-Some c = IfOk-weaker c.call_exit.result _ _
    (λ p done slots. method_called c.args.blocks.now c.args.exit c.args.how slots c.args.cells.now c.args.heap.now c.in-Some.method c.raise_of.result
    c.in_ok-args-in-Some.args p c.call_exit.new.cells c.call_exit.new.heap (sym c.in-Some.ensures) c.raise_of.ensures c.in_ok-args-in-Some.ensures (done slots))
    c.call_exit.ensures
