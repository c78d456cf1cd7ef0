use Rattle.std.proofs.Common.{◌∙◌, ap}
use Rattle.pt_code_tables.specs.declared.tables.PoolTables.{PoolTables}
use Rattle.pt_code_tables.specs.Tables.{text_in}
use Rattle.pt_instr.specs.declared.Instr.TheVariants as instr
use Rattle.pt_machine.proofs.RowLemmas.{row_ok, of_instr}
use Rattle.pt_machine.proofs.NameRows.{deleted_by}
use Rattle.pt_machine.proofs.globals.perform_global.Goals as goal

pub returns-in-DelGlobal : goal.returns-in-DelGlobal
returns-in-DelGlobal c =
    row_ok c.delete_global.result c.delete_global.ensures (λ p row. of_instr c.in-DelGlobal.is
    (deleted_by c.args.tables.now (instr.DelGlobal c.in-DelGlobal.text) p c.args.machine.now c.in-DelGlobal.text.0
    c.text-in-DelGlobal.result.now (c.text-in-DelGlobal.ensures ∙ ap (λ (k : PoolTables). text_in k c.in-DelGlobal.text.0) c.pool-pool.ensures) c.delete_global.new.globals row))
