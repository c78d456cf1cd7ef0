use Rattle.std.proofs.Common.{◌≡◌, ◌++◌, drop, map}
use Rattle.sem_compile.specs.emitter.Ops.{text_of}
use Rattle.pt_write_ops.specs.Roles.{role_of}
use Rattle.pt_write_ops.proofs.calls.texts_of.Given as goal

abbrev pub invariant-loop-role : goal.invariant-loop-role
invariant-loop-role l = l.texts ++ map text_of (map role_of (drop l.role-index l.roles)) ≡ map text_of (map role_of l.roles)
