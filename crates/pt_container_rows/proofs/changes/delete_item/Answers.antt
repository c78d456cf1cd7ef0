use Rattle.std.proofs.Common.{sym}
use Rattle.std.proofs.lemmas.Result.{IfOk-weaker}
use Rattle.pt_container_rows.proofs.ChangeLemmas.{delete_item_row}
use Rattle.pt_container_rows.proofs.changes.delete_item.Goals as goal

pub returns-clause-row : goal.returns-clause-row
returns-clause-row c = IfOk-weaker c.change_or.result _ _
    (λ p done. delete_item_row c.args.blocks.now c.args.slots.now c.args.cells.now c.args.heap.now c.take_two.new.slots c.change_or.new.cells
    c.change_or.new.heap p c.in-Some.pair (sym c.in-Some.ensures.values) c.in-Some.ensures.below done)
    c.change_or.ensures
