use Rattle.std.proofs.Common.{◌≡◌, take}
use Rattle.pt_names.specs.Names.{bindings_of, by_text}
use Rattle.pt_names.proofs.names.bindings_in.Given as goal

abbrev pub invariant-loop-at : goal.invariant-loop-at
invariant-loop-at l = l.bindings ≡ bindings_of (by_text (take l.at l.map.entries))
