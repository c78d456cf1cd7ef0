use Rattle.std.proofs.lemmas.Result.{IfOk-weaker}
use Rattle.pt_manager_rows.proofs.EnterLemmas.{function_called}
use Rattle.pt_manager_rows.proofs.entering.call_enter.Goals as goal

pub returns-in_ok-args-in-Bound : goal.returns-in_ok-args-in-Bound
returns-in_ok-args-in-Bound c = IfOk-weaker c.call_function.result _ _
    (λ p done slots. function_called c.args.manager c.args.blocks.now slots c.args.cells.now c.args.heap.now c.args.enter c.args.exit c.in-Bound.function
    c.in_ok-args-in-Bound.args p c.call_function.new.cells c.call_function.new.heap c.in-Bound.is c.in_ok-args-in-Bound.ensures (done slots))
    c.call_function.ensures
