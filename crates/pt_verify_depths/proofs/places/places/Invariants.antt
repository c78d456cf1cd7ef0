use Rattle.std.proofs.Common.{◌-◌, List, length}
use Rattle.std.specs.Prelude.{◌≡◌}
use Rattle.std.specs.List.{flat_map, AllByRecursion}
use Rattle.pt_instr.specs.declared.Instr.{Instr}
use Rattle.pt_instr.specs.Encoding.{encoding, Fits}
use Rattle.sem_fits.specs.fits.Block.{links_of}
use Rattle.pt_verify_depths.specs.PlacesUpTo.{PlacesUpTo}
use Rattle.pt_verify_depths.proofs.places.places.Given as goal

abbrev pub invariant-loop-at : goal.invariant-loop-at
invariant-loop-at l = record {
  long : length l.table.items ≡ length l.block.instructions;
  places : (instrs : List Instr) → AllByRecursion Fits instrs → l.block.instructions ≡ flat_map encoding instrs → PlacesUpTo (links_of l.code) l.block instrs l.at l.table.items;
}

abbrev pub decreases-loop-at : goal.decreases-loop-at
decreases-loop-at l = length l.bytes - l.at
