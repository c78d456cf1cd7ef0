use Rattle.std.proofs.Common.{ap}
use Rattle.pt_instr.specs.declared.Instr.TheVariants as instr
use Rattle.pt_assembler.specs.declared.operation.FreeUse.TheVariants as use_of
use Rattle.pt_block_names.specs.Named.{scope_of}
use Rattle.sem_compile.specs.emitter.Ops.{cell_in}
use Rattle.pt_write_ops.proofs.SlotLemmas.{on_cell, on_free}
use Rattle.pt_write_ops.proofs.names.cell_operation.Goals as goal

pub returns-in_ok-cell-in-Cell : goal.returns-in_ok-cell-in-Cell
returns-in_ok-cell-in-Cell c = on_cell instr.PushCell _ c.as_str-name.result.now c.args.variable.now.name c.in_ok-cell-in-Cell.field-0 _ _
    (ap (λ s. cell_in (scope_of s) c.args.variable.now.name) c.in-Cell.is) c.as_str-name.ensures c.in_ok-cell-in-Cell.ensures

pub returns-in_ok-free-in-Free : goal.returns-in_ok-free-in-Free
returns-in_ok-free-in-Free c = on_free use_of.Push _ c.as_str-name.result.now c.args.variable.now.name c.in_ok-free-in-Free.field-0 _ _
    (ap (λ s. cell_in (scope_of s) c.args.variable.now.name) c.in-Free.is) c.as_str-name.ensures c.in_ok-free-in-Free.ensures
