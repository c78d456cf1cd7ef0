use Rattle.std.proofs.Common.{◌≡◌, drop, map}
use Rattle.sem_compile.specs.emitter.Ops.{last_names}
use Rattle.pt_write_ops.specs.Roles.{role_of}
use Rattle.pt_write_ops.proofs.calls.positional.Given as goal

abbrev pub invariant-loop-i : goal.invariant-loop-i
invariant-loop-i l = last_names (map role_of l.roles) ≡ last_names (map role_of (drop l.i l.roles))
