use Rattle.std.proofs.Common.{◌-◌, List, length}
use Rattle.std.specs.Prelude.{◌≡◌}
use Rattle.std.specs.List.{flat_map, AllByRecursion}
use Rattle.pt_instr.specs.declared.Instr.{Instr}
use Rattle.pt_instr.specs.Encoding.{encoding, Fits}
use Rattle.pt_places.specs.PlacesUpTo.{PlacesUpTo}
use Rattle.pt_places.proofs.places.table_of.Given as goal

abbrev pub invariant-loop-at : goal.invariant-loop-at
invariant-loop-at l = record {
  long : length l.table.items ≡ length l.block.instructions;
  places : (instrs : List Instr) → AllByRecursion Fits instrs → l.block.instructions ≡ flat_map encoding instrs → PlacesUpTo l.block instrs l.at l.table.items;
}

abbrev pub decreases-loop-at : goal.decreases-loop-at
decreases-loop-at l = length l.bytes - l.at
