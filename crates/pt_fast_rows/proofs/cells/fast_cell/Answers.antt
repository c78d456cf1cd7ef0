use Rattle.std.proofs.Common.{sym}
use Rattle.pt_fast_rows.proofs.NameLemmas.{cell_given}
use Rattle.pt_fast_rows.proofs.cells.fast_cell.Goals as goal

pub returns-in_ok-push-in-Some : goal.returns-in_ok-push-in-Some
returns-in_ok-push-in-Some c =
    cell_given c.args.slot c.args.next c.args.own.now c.args.slots.now c.args.cells.now c.in-Some.value c.push.new.self
    (sym c.in-Some.ensures) c.in_ok-push-in-Some.ensures.ok
