use Rattle.pt_class_rows.proofs.SettingLemmas.{fixed_here}
use Rattle.pt_class_rows.proofs.setting.set_here.Goals as goal

pub returns-then-fixed-clause-row : goal.returns-then-fixed-clause-row
returns-then-fixed-clause-row c =
    fixed_here c.args.name.now c.args.to c.args.value c.args.slots.now c.args.heap.now c.store.new.heap c.is_fixed-fixed.result c.is_fixed-fixed.ensures
    c.store.result c.store.ensures.change c.in-Ok.field-0 c.in-Ok.is c.if-fixed.true
