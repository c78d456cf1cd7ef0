use Rattle.std.proofs.Common.{◌≡◌, ◌++◌, take, map}
use Rattle.pt_bind.specs.Binding.{by_name}
use Rattle.pt_bind.proofs.binding.fill_by_name.Given as goal

abbrev pub invariant-loop-name : goal.invariant-loop-name
invariant-loop-name l = l.values ≡ l.initial.values ++ map (by_name l.defaults l.args) (take l.name-index l.names)
