use Rattle.std.proofs.Common.{◌≡◌, drop, map}
use Rattle.sem_compile.specs.emitter.Ops.{are_plain}
use Rattle.pt_write_ops.specs.Roles.{role_of}
use Rattle.pt_write_ops.proofs.calls.are_plain.Given as goal

abbrev pub invariant-loop-role : goal.invariant-loop-role
invariant-loop-role l = are_plain (map role_of l.roles) ≡ are_plain (map role_of (drop l.role-index l.roles))
