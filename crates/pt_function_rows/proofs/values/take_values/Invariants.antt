use Rattle.std.proofs.Common.{◌≡◌, ◌-◌, drop}
use Rattle.std.specs.Prelude.{reverse}
use Rattle.pt_frames.specs.Slots.{active_in}
use Rattle.pt_function_rows.specs.Operands.{values_before, many_values}
use Rattle.pt_function_rows.proofs.values.take_values.Given as goal

abbrev pub invariant-loop-taken : goal.invariant-loop-taken
invariant-loop-taken l = record {
  taken : values_before (reverse l.values.items) (l.count - l._taken) l.slots ≡ many_values l.count l.fn.slots;
  below : drop l._taken l.fn.slots ≡ l.slots;
  active : active_in l.slots ≡ active_in l.fn.slots;
}
