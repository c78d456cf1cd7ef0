use Rattle.std.proofs.Common.{sym}
use Rattle.std.proofs.lemmas.Result.{IfOk-weaker}
use Rattle.pt_manager_rows.proofs.LeaveLemmas.{function_runs}
use Rattle.pt_manager_rows.proofs.leaving.call_exit.Goals as goal

pub returns-in-Ok : goal.returns-in-Ok
returns-in-Ok c = IfOk-weaker c.run.result _ _
    (λ p done slots. function_runs c.args.blocks.now c.args.callee c.args.args.now c.args.how slots c.args.cells.now c.args.heap.now c.in-Some.function.now
    c.in_ok-bare.bare c.get-facts.result.now (sym c.in-Some.ensures) c.in_ok-bare.ensures c.get-facts.ensures c.in-Ok.bound p c.run.new.cells c.run.new.heap
    c.in-Ok.ensures.ok (done slots))
    c.run.ensures
