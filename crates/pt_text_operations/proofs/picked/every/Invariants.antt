use Rattle.std.proofs.Common.{◌≡◌, ◌++◌, drop}
use Rattle.pt_text_operations.specs.Picked.{every}
use Rattle.pt_text_operations.proofs.picked.every.Given as goal

abbrev pub invariant-loop-item : goal.invariant-loop-item
invariant-loop-item l = l.picked ++ every l.between l.pass (drop l.item-index l.items) ≡ every l.between 0 l.items
