use Rattle.std.proofs.Common.{◌≡◌, ◌<◌, ℕ, Some}
use Rattle.pt_places.specs.declared.places.Place.{Place}
use Rattle.pt_places.specs.PlaceTable.{entry}
use Rattle.pt_supported_code.specs.Built.{TakesAsListed}
use Rattle.pt_supported_code.proofs.defaults.all_take_up_to.Given as goal

abbrev pub invariant-loop-pc : goal.invariant-loop-pc
invariant-loop-pc l = (pc : ℕ) (p : Place) → pc < l.pc → entry l.places pc ≡ Some p → TakesAsListed l.lists p.instr
