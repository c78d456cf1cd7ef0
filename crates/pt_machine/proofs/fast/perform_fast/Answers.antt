use Rattle.std.proofs.Common.{◌∙◌, ap, rules}
use Rattle.pt_code_tables.specs.declared.tables.PoolTables.{PoolTables}
use Rattle.pt_code_tables.specs.Tables.{constant_in, text_in}
use Rattle.pt_instr.specs.declared.Instr.TheVariants as instr
use Rattle.pt_machine.proofs.RowLemmas.{row_ok}
use Rattle.pt_machine.proofs.FastRows.{fast_row, fast_constant, fast_jump, fast_load, fast_store, fast_local, fast_set_local, fast_cell, fast_set_cell}
use Rattle.pt_machine.proofs.fast.perform_fast.Goals as goal

pub returns-in-Const : goal.returns-in-Const
returns-in-Const c =
    row_ok c.fast_constant.result c.fast_constant.ensures (λ o led. fast_constant c.args.tables.now c.args.next c.args.machine.now c.args.instr
    c.in-Const.number c.in-Const.is c.constant.result o c.fast_constant.new.slots led
    (c.constant.ensures ∙ ap (λ (k : PoolTables). constant_in k c.in-Const.number.0) c.pool-pool.ensures))

pub returns-in-Pop : goal.returns-in-Pop
returns-in-Pop c =
    fast_row c.args.tables.now c.args.next c.args.machine.now c.args.instr
    instr.Pop c.in-Pop.is c.fast_pop.result c.fast_pop.new.slots c.fast_pop.ensures

pub returns-in-Jump : goal.returns-in-Jump
returns-in-Jump c = fast_jump c.args.tables.now c.args.next c.args.machine.now c.args.instr c.in-Jump.to c.in-Jump.is

pub returns-in-JumpIf : goal.returns-in-JumpIf
returns-in-JumpIf c =
    fast_row c.args.tables.now c.args.next c.args.machine.now c.args.instr
    (instr.JumpIf c.in-JumpIf.to) c.in-JumpIf.is c.fast_jump_if.result c.fast_jump_if.new.slots c.fast_jump_if.ensures

pub returns-in-JumpUnless : goal.returns-in-JumpUnless
returns-in-JumpUnless c =
    fast_row c.args.tables.now c.args.next c.args.machine.now c.args.instr
    (instr.JumpUnless c.in-JumpUnless.to) c.in-JumpUnless.is c.fast_jump_unless.result c.fast_jump_unless.new.slots c.fast_jump_unless.ensures

pub returns-in-Compare : goal.returns-in-Compare
returns-in-Compare c =
    row_ok c.fast_compare.result c.fast_compare.ensures (λ o led. fast_row c.args.tables.now c.args.next c.args.machine.now c.args.instr
    (instr.Compare c.in-Compare.op) c.in-Compare.is o c.fast_compare.new.slots led)

pub returns-in-Binary : goal.returns-in-Binary
returns-in-Binary c =
    row_ok c.fast_binary.result c.fast_binary.ensures (λ o led. fast_row c.args.tables.now c.args.next c.args.machine.now c.args.instr
    (instr.Binary c.in-Binary.op) c.in-Binary.is o c.fast_binary.new.slots led)

pub returns-in-InPlace : goal.returns-in-InPlace
returns-in-InPlace c =
    row_ok c.fast_in_place.result c.fast_in_place.ensures (λ o led. fast_row c.args.tables.now c.args.next c.args.machine.now c.args.instr
    (instr.InPlace c.in-InPlace.op) c.in-InPlace.is o c.fast_in_place.new.slots led)

pub returns-in-Global : goal.returns-in-Global
returns-in-Global c =
    row_ok c.fast_global.result c.fast_global.ensures (λ o led. fast_load c.args.tables.now c.args.next c.args.machine.now c.args.instr
    c.in-Global.text (search rules) c.in-Global.is c.text.result.now o c.fast_global.new.slots led
    (c.text.ensures ∙ ap (λ (k : PoolTables). text_in k c.in-Global.text.0) c.pool-pool.ensures))

pub returns-in-SetGlobal : goal.returns-in-SetGlobal
returns-in-SetGlobal c =
    row_ok c.fast_set_global.result c.fast_set_global.ensures (λ o led. fast_store c.args.tables.now c.args.next c.args.machine.now c.args.instr
    c.in-SetGlobal.text c.in-SetGlobal.is c.text-in-SetGlobal.result.now o c.fast_set_global.new.slots c.fast_set_global.new.globals led
    (c.text-in-SetGlobal.ensures ∙ ap (λ (k : PoolTables). text_in k c.in-SetGlobal.text.0) c.pool-pool.ensures))

pub returns-in-Local : goal.returns-in-Local
returns-in-Local c =
    row_ok c.fast_local.result c.fast_local.ensures (λ o led. fast_local c.args.tables.now c.args.next c.args.machine.now c.args.instr
    (instr.Local c.in-Local.slot) c.in-Local.is c.in-Local.slot.0 (λ locals cells defaults h. h) o c.fast_local.new.slots led)

pub returns-in-SetLocal : goal.returns-in-SetLocal
returns-in-SetLocal c =
    fast_set_local c.args.tables.now c.args.next c.args.machine.now c.args.instr
    (instr.SetLocal c.in-SetLocal.slot) c.in-SetLocal.is c.in-SetLocal.slot.0 (λ locals cells defaults h. h)
    c.fast_set_local.result c.fast_set_local.new.slots c.fast_set_local.new.locals c.fast_set_local.ensures.leads c.fast_set_local.ensures.places

pub returns-in-Cell : goal.returns-in-Cell
returns-in-Cell c =
    row_ok c.fast_cell.result c.fast_cell.ensures (λ o led. fast_cell c.args.tables.now c.args.next c.args.machine.now c.args.instr
    (instr.Cell c.in-Cell.slot) c.in-Cell.is c.in-Cell.slot.0 (λ locals cells defaults h. h) o c.fast_cell.new.slots led)

pub returns-in-SetCell : goal.returns-in-SetCell
returns-in-SetCell c =
    fast_set_cell c.args.tables.now c.args.next c.args.machine.now c.args.instr
    (instr.SetCell c.in-SetCell.slot) c.in-SetCell.is c.in-SetCell.slot.0 (λ locals cells defaults h. h)
    c.fast_set_cell.result c.fast_set_cell.new.slots c.fast_set_cell.new.cells c.fast_set_cell.ensures
