use Rattle.std.proofs.Common.{sym}
use Rattle.std.proofs.lemmas.Result.{IfOk-weaker}
use Rattle.pt_container_rows.proofs.ChangeLemmas.{set_item_row}
use Rattle.pt_container_rows.proofs.changes.set_item.Goals as goal

pub returns-clause-row : goal.returns-clause-row
returns-clause-row c = IfOk-weaker c.change_or.result _ _
    (λ p done. set_item_row c.args.blocks.now c.args.slots.now c.args.cells.now c.args.heap.now c.take_three.new.slots c.change_or.new.cells c.change_or.new.heap
    p c.in-Some.parts (sym c.in-Some.ensures.values) c.in-Some.ensures.below done)
    c.change_or.ensures
