use Rattle.pt_instr.specs.declared.Instr.TheVariants as instr
use Rattle.pt_machine.proofs.RowLemmas.{both_ok, row_ok, of_instr}
use Rattle.pt_machine.proofs.NameRows.{loaded_cell, set_cell, deleted_cell, pushed_cell}
use Rattle.pt_machine.proofs.cells.perform_cell.Goals as goal

pub returns-in-Cell : goal.returns-in-Cell
returns-in-Cell c =
    both_ok c.cell.result c.cell.ensures.row c.cell.ensures.active (λ p row same. of_instr c.in-Cell.is (loaded_cell c.args.tables.now (instr.Cell c.in-Cell.slot) p c.args.machine.now c.get-facts.result.now c.get-facts.ensures c.in-Cell.slot.0
    (λ locals cells defaults h. h) c.cell.new.slots row same))

pub returns-in-SetCell : goal.returns-in-SetCell
returns-in-SetCell c =
    of_instr c.in-SetCell.is (set_cell c.args.tables.now (instr.SetCell c.in-SetCell.slot) c.set_cell.result c.args.machine.now c.get-facts.result.now c.get-facts.ensures c.in-SetCell.slot.0
    (λ locals cells defaults h. h) c.set_cell.new.slots c.set_cell.new.cells c.set_cell.ensures.row c.set_cell.ensures.active)

pub returns-in-DelCell : goal.returns-in-DelCell
returns-in-DelCell c =
    row_ok c.delete_cell.result c.delete_cell.ensures (λ p row. of_instr c.in-DelCell.is (deleted_cell c.args.tables.now (instr.DelCell c.in-DelCell.slot) p c.args.machine.now c.get-facts.result.now c.get-facts.ensures c.in-DelCell.slot.0
    (λ locals cells defaults h. h) c.delete_cell.new.cells row))

pub returns-in-PushCell : goal.returns-in-PushCell
returns-in-PushCell c =
    both_ok c.push_cell.result c.push_cell.ensures.row c.push_cell.ensures.active (λ p row same. of_instr c.in-PushCell.is (pushed_cell c.args.tables.now (instr.PushCell c.in-PushCell.slot) p c.args.machine.now c.get-facts.result.now c.get-facts.ensures c.in-PushCell.slot.0
    (λ locals cells defaults h. h) c.push_cell.new.slots row same))
