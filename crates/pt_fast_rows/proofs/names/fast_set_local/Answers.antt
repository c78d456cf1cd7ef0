use Rattle.pt_fast_rows.proofs.NameLemmas.{local_stored}
use Rattle.pt_fast_rows.proofs.names.fast_set_local.Goals as goal

pub returns-in-Some-clause-leads : goal.returns-in-Some-clause-leads
returns-in-Some-clause-leads c =
    local_stored c.args.slot c.args.next c.args.slots.now c.args.locals.now c.take_value.result c.in-Some.value c.take_value.new.slots c.put_at.new.values
    c.take_value.ensures c.in-Some.is c.put_at.ensures
