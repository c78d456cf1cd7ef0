use Rattle.std.proofs.Common.{ap}
use Rattle.pt_instr.specs.declared.Instr.TheVariants as instr
use Rattle.pt_assembler.specs.declared.operation.FreeUse.TheVariants as use_of
use Rattle.pt_block_names.specs.Named.{scope_of}
use Rattle.pt_write_ops.specs.sem_compile.stm_pieces.StmPiece.{delete_in}
use Rattle.pt_write_ops.proofs.SlotLemmas.{on_cell, on_free, on_local}
use Rattle.pt_write_simple.proofs.names.delete_operation.Goals as goal

pub returns-in_ok-local-in-Local : goal.returns-in_ok-local-in-Local
returns-in_ok-local-in-Local c = on_local instr.DelLocal _ c.as_str-name.result.now c.args.variable.now.name c.in_ok-local-in-Local.field-0 _ _
    (ap (λ s. delete_in (scope_of s) c.args.variable.now.name) c.in-Local.is) c.as_str-name.ensures c.in_ok-local-in-Local.ensures

pub returns-in_ok-cell-in-Cell : goal.returns-in_ok-cell-in-Cell
returns-in_ok-cell-in-Cell c = on_cell instr.DelCell _ c.as_str-name.result.now c.args.variable.now.name c.in_ok-cell-in-Cell.field-0 _ _
    (ap (λ s. delete_in (scope_of s) c.args.variable.now.name) c.in-Cell.is) c.as_str-name.ensures c.in_ok-cell-in-Cell.ensures

pub returns-in_ok-free-in-Free : goal.returns-in_ok-free-in-Free
returns-in_ok-free-in-Free c = on_free use_of.Delete _ c.as_str-name.result.now c.args.variable.now.name c.in_ok-free-in-Free.field-0 _ _
    (ap (λ s. delete_in (scope_of s) c.args.variable.now.name) c.in-Free.is) c.as_str-name.ensures c.in_ok-free-in-Free.ensures
