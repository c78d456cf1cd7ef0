use Rattle.std.proofs.lemmas.Result.{IfOk-weaker}
use Rattle.pt_call_rows.proofs.MethodLemmas.{helper_called}
use Rattle.pt_call_rows.proofs.calls.call_other_class.Goals as goal

pub returns-in-Some-clause-row : goal.returns-in-Some-clause-row
returns-in-Some-clause-row c = IfOk-weaker c.ask.result _ _
    (λ p done. helper_called c.args.blocks.now c.args.class c.args.args.now c.args.slots.now c.args.cells.now c.args.heap.now c.helper_of_class.result
    c.helper_of_class.ensures c.in-Some.helper p c.ask.new.cells c.ask.new.heap c.in-Some.is (done c.args.slots.now))
    c.ask.ensures
