use Rattle.std.proofs.Common.{◌≡◌, ◌++◌, take}
use Rattle.pt_kind_flow.proofs.packed.add_packed.Given as goal

abbrev pub invariant-loop-edge : goal.invariant-loop-edge
invariant-loop-edge l = l.packed.items ≡ l.initial.packed.items ++ take l.edge-index l.edges
