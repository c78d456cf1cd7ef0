use Rattle.std.proofs.Common.{sym}
use Rattle.std.proofs.lemmas.Result.{IfOk-weaker}
use Rattle.pt_block_calls.specs.pt_class_rows.Calls.{running}
use Rattle.pt_call_rows.proofs.ValueLemmas.{method_called}
use Rattle.pt_call_rows.proofs.calls.call_other.Goals as goal

pub returns-in-Some-method_of-clause-row : goal.returns-in-Some-method_of-clause-row
returns-in-Some-method_of-clause-row c = IfOk-weaker c.call_method.result _ _
    (λ p done. method_called c.args.blocks.now (running c.args.facts.now c.args.locals.now c.args.numbers.now c.args.own.now)
    c.args.callee c.args.args.now c.args.slots.now c.args.cells.now c.args.heap.now
    (c.in-Some-method_of.method, c.in-Some-method_of.receiver) p _ _ _ (sym c.in-Some-method_of.ensures) done)
    c.call_method.ensures.row
