use Rattle.std.proofs.Common.{◌≡◌, ◌++◌, drop, map}
use Rattle.pt_helper_objects.specs.Objects.{bindings}
use Rattle.pt_helper_objects.proofs.bindings.Given as goal

abbrev pub invariant-loop-name : goal.invariant-loop-name
invariant-loop-name l = bindings (map (λ name. name.now) l.names) l.presets ≡ l.defaults ++ bindings (map (λ name. name.now) (drop l.name-index l.names)) l.others
