use Rattle.std.proofs.Common.{◌∙◌, ap}
use Rattle.pt_code_tables.specs.declared.tables.PoolTables.{PoolTables}
use Rattle.pt_code_tables.specs.Tables.{capture_in, list_in}
use Rattle.pt_machine.proofs.RowLemmas.{both_ok, of_instr}
use Rattle.pt_machine.proofs.CallRows.{class_by, made_by}
use Rattle.pt_machine.proofs.calls.perform_call.Goals as goal

pub returns-in-MakeFunction : goal.returns-in-MakeFunction
returns-in-MakeFunction c =
    both_ok c.make_function.result c.make_function.ensures.row c.make_function.ensures.active (λ p row same. of_instr c.in-MakeFunction.is
    (made_by c.args.tables.now p c.args.machine.now c.in-MakeFunction.block c.in-MakeFunction.list c.make_function.new.slots c.make_function.new.heap
    c.in-MakeFunction._count c.list-names-in-MakeFunction.result.now c.captures-captures.result
    (c.list-names-in-MakeFunction.ensures ∙ ap (λ (k : PoolTables). list_in k c.in-MakeFunction.list.0) c.pool-pool.ensures)
    (c.captures-captures.ensures ∙ ap (λ (k : PoolTables). capture_in k c.in-MakeFunction.block.0) c.pool-pool.ensures) row same))

pub returns-in-MakeClass : goal.returns-in-MakeClass
returns-in-MakeClass c =
    both_ok c.make_class.result c.make_class.ensures.row c.make_class.ensures.active (λ p row same. of_instr c.in-MakeClass.is
    (class_by c.args.tables.now p c.args.machine.now c.in-MakeClass.block c.make_class.new.slots c.make_class.new.cells
    c.captures-captures-in-MakeClass.result
    (c.captures-captures-in-MakeClass.ensures ∙ ap (λ (k : PoolTables). capture_in k c.in-MakeClass.block.0) c.pool-pool.ensures) row same))
