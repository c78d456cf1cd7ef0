use Rattle.std.proofs.Common.{◌≡◌, None, map, take}
use Rattle.pt_code_loader.proofs.starting.no_values.Given as goal

abbrev pub invariant-loop-name : goal.invariant-loop-name
invariant-loop-name l = l.values ≡ map (λ x. None) (take l._name-index l.names)
