use Rattle.std.proofs.Common.{ap}
use Rattle.pt_instr.specs.declared.Instr.TheVariants as instr
use Rattle.pt_block_names.specs.Named.{scope_of}
use Rattle.sem_compile.specs.emitter.Ops.{renew_in}
use Rattle.pt_write_ops.proofs.SlotLemmas.{on_cell, on_local}
use Rattle.pt_write_ops.proofs.names.renew_operation.Goals as goal

pub returns-in_ok-local-in-Local : goal.returns-in_ok-local-in-Local
returns-in_ok-local-in-Local c = on_local instr.FreshLocal _ c.as_str-name.result.now c.args.variable.now.name c.in_ok-local-in-Local.field-0 _ _
    (ap (λ s. renew_in (scope_of s) c.args.variable.now.name) c.in-Local.is) c.as_str-name.ensures c.in_ok-local-in-Local.ensures

pub returns-in_ok-cell-in-Cell : goal.returns-in_ok-cell-in-Cell
returns-in_ok-cell-in-Cell c = on_cell instr.FreshCell _ c.as_str-name.result.now c.args.variable.now.name c.in_ok-cell-in-Cell.field-0 _ _
    (ap (λ s. renew_in (scope_of s) c.args.variable.now.name) c.in-Cell.is) c.as_str-name.ensures c.in_ok-cell-in-Cell.ensures
