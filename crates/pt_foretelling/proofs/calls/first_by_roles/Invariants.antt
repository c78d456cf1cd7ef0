use Rattle.std.proofs.Common.{◌≡◌, drop}
use Rattle.pt_foretelling.specs.Calls.{first_by}
use Rattle.pt_foretelling.proofs.calls.first_by_roles.Given as goal

abbrev pub invariant-loop-text : goal.invariant-loop-text
invariant-loop-text l = first_by l.heap (drop l.text-index l.texts) l.left l.slots ≡ first_by l.heap l.texts l.count l.slots
