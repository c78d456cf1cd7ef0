use Rattle.std.proofs.Common.{sym}
use Rattle.pt_fast_rows.proofs.NameLemmas.{global_given}
use Rattle.pt_fast_rows.proofs.names.fast_global.Goals as goal

pub returns-in_ok-push-in-Some : goal.returns-in_ok-push-in-Some
returns-in_ok-push-in-Some c =
    global_given c.args.text c.args.name.now c.args.next c.args.slots.now c.args.globals.now c.in-Some.value c.push.new.self (sym c.in-Some.ensures)
    c.in_ok-push-in-Some.ensures.ok
