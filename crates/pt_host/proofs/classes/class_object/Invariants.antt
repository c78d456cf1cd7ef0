use Rattle.std.proofs.Common.{◌≡◌, [], drop}
use Rattle.pt_host.specs.Classes.{bound_entries}
use Rattle.pt_host.proofs.classes.class_object.Given as goal

abbrev pub invariant-loop-binding : goal.invariant-loop-binding
invariant-loop-binding l = bound_entries l.names (drop l.binding-index l.bound) ≡ bound_entries [] l.bound
