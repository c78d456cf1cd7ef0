use Rattle.std.proofs.Common.{◌≡◌, [], drop, map}
use Rattle.pt_assembler.specs.Layout.{layout}
use Rattle.pt_block_names.specs.Named.{variable_of}
use Rattle.pt_write_ops.specs.Written.{cells_piece}
use Rattle.pt_write_ops.proofs.names.push_cells.Given as goal

abbrev pub invariant-loop-variable : goal.invariant-loop-variable
invariant-loop-variable l = record {
  code : layout (cells_piece (map variable_of (drop l.variable-index l.variables))) [] l.w ≡ layout (cells_piece (map variable_of l.variables)) [] l.fn.w;
  act : l.w.act ≡ l.fn.w.act;
}
