use Rattle.std.proofs.Common.{refl}
use Rattle.pt_instr.specs.declared.Instr.TheVariants as instr
use Rattle.pt_machine.proofs.RowLemmas.{both_ok, of_instr}
use Rattle.pt_machine.proofs.NameRows.{local_row, set_local, deleted_local, fresh_local}
use Rattle.pt_machine.proofs.locals.perform_local.Goals as goal

pub returns-in-Local : goal.returns-in-Local
returns-in-Local c =
    both_ok c.local.result c.local.ensures.row c.local.ensures.active (λ p row same. of_instr c.in-Local.is (local_row c.args.tables.now (instr.Local c.in-Local.slot) p c.args.machine.now c.get-facts.result.now c.get-facts.ensures c.in-Local.slot.0
    c.local.new.slots c.args.machine.now.here.locals (λ locals cells defaults h. h) row same refl))

pub returns-in-SetLocal : goal.returns-in-SetLocal
returns-in-SetLocal c =
    of_instr c.in-SetLocal.is (set_local c.args.tables.now (instr.SetLocal c.in-SetLocal.slot) c.set_local.result c.args.machine.now c.get-facts.result.now c.get-facts.ensures c.in-SetLocal.slot.0
    c.set_local.new.slots c.set_local.new.locals (λ locals cells defaults h. h) c.set_local.ensures.row c.set_local.ensures.active c.set_local.ensures.places)

pub returns-in-DelLocal : goal.returns-in-DelLocal
returns-in-DelLocal c =
    both_ok c.delete_local.result c.delete_local.ensures.row c.delete_local.ensures.places (λ p row counted. of_instr c.in-DelLocal.is (deleted_local c.args.tables.now (instr.DelLocal c.in-DelLocal.slot) p c.args.machine.now c.get-facts.result.now c.get-facts.ensures c.in-DelLocal.slot.0
    c.delete_local.new.locals (λ locals cells defaults h. h) row counted))

pub returns-in-FreshLocal : goal.returns-in-FreshLocal
returns-in-FreshLocal c =
    of_instr c.in-FreshLocal.is (fresh_local c.args.tables.now (instr.FreshLocal c.in-FreshLocal.slot) c.fresh_local.result c.args.machine.now c.get-facts.result.now c.get-facts.ensures c.in-FreshLocal.slot.0
    c.fresh_local.new.locals (λ locals cells defaults h. h) c.fresh_local.ensures.row c.fresh_local.ensures.places)
