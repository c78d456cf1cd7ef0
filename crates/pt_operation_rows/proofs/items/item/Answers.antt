use Rattle.std.proofs.Common.{sym}
use Rattle.std.proofs.lemmas.Result.{IfOk-weaker}
use Rattle.pt_call_rows.specs.pt_class_rows.Calls.{running}
use Rattle.pt_operation_rows.proofs.RowLemmas.{item_row}
use Rattle.pt_operation_rows.proofs.items.item.Goals as goal

pub returns-clause-row : goal.returns-clause-row
returns-clause-row c = IfOk-weaker c.special_or.result _ _
    (λ p done. item_row c.args.blocks.now (running c.args.facts.now c.args.locals.now c.args.numbers.now c.args.own.now) c.args.slots.now c.args.cells.now
    c.args.heap.now c.special_or.new.slots c.special_or.new.cells c.special_or.new.heap p c.in-Some.pair c.take_two.new.slots
    (sym c.in-Some.ensures.values) c.in-Some.ensures.below done)
    c.special_or.ensures.row
