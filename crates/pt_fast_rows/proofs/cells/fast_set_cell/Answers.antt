use Rattle.pt_fast_rows.proofs.NameLemmas.{cell_stored}
use Rattle.pt_fast_rows.proofs.cells.fast_set_cell.Goals as goal

pub returns-in-Some : goal.returns-in-Some
returns-in-Some c =
    cell_stored c.args.slot c.args.next c.args.own.now c.args.slots.now c.args.cells.now c.take_value.result c.in-Some.value c.take_value.new.slots
    c.put_through.new.cells c.take_value.ensures c.in-Some.is c.put_through.ensures
