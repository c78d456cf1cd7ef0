use Rattle.std.proofs.Common.{◌≡◌, ◌-◌, drop}
use Rattle.std.specs.Prelude.{reverse}
use Rattle.pt_frames.specs.Slots.{active_in}
use Rattle.pt_function_rows.specs.Operands.{cells_before, many_cells}
use Rattle.pt_function_rows.proofs.values.take_cells.Given as goal

abbrev pub invariant-loop-taken : goal.invariant-loop-taken
invariant-loop-taken l = record {
  taken : cells_before (reverse l.cells.items) (l.count - l._taken) l.slots ≡ many_cells l.count l.fn.slots;
  below : drop l._taken l.fn.slots ≡ l.slots;
  active : active_in l.slots ≡ active_in l.fn.slots;
}
