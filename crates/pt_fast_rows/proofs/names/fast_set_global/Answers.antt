use Rattle.pt_fast_rows.proofs.NameLemmas.{global_stored}
use Rattle.pt_fast_rows.proofs.names.fast_set_global.Goals as goal

pub returns-in_ok-set_numbered-in-Some : goal.returns-in_ok-set_numbered-in-Some
returns-in_ok-set_numbered-in-Some c =
    global_stored c.args.text c.args.name.now c.args.next c.args.slots.now c.args.globals.now c.take_value.result c.in-Some.value c.take_value.new.slots
    c.set_numbered.new.self c.take_value.ensures c.in-Some.is c.in_ok-set_numbered-in-Some.ensures.ok
