use Rattle.std.proofs.Common.{◌∙◌, ap}
use Rattle.pt_code_tables.specs.declared.tables.PoolTables.{PoolTables}
use Rattle.pt_code_tables.specs.Tables.{is_class_in, text_in}
use Rattle.pt_instr.specs.declared.Instr.TheVariants as instr
use Rattle.pt_machine.proofs.RowLemmas.{both_ok, of_instr}
use Rattle.pt_machine.proofs.BodyRows.{deleted_by}
use Rattle.pt_machine.proofs.bodies.perform_body.Goals as goal

pub returns-in-DelName : goal.returns-in-DelName
returns-in-DelName c =
    both_ok c.delete_name.result c.delete_name.ensures.row c.delete_name.ensures.places (λ p row counted. of_instr c.in-DelName.is
    (deleted_by c.args.tables.now (instr.DelName c.in-DelName.text) p c.args.machine.now c.get-facts.result.now c.get-facts.ensures c.in-DelName.text.0
    c.text-x-in-DelName.result.now c.is_class-in_class.result (c.text-x-in-DelName.ensures ∙ ap (λ (k : PoolTables). text_in k c.in-DelName.text.0) c.pool-pool.ensures)
    (c.is_class-in_class.ensures ∙ ap (λ (k : PoolTables). is_class_in k c.args.machine.now.here.block.0) c.pool-pool.ensures)
    c.delete_name.new.locals c.delete_name.new.own c.delete_name.new.globals row counted))
