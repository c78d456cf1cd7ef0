use Rattle.std.proofs.Common.{◌≡◌, ◌++◌, drop, map}
use Rattle.std.specs.Prelude.{option_map}
use Rattle.sem_compile.specs.emitter.Ops.{names_alone}
use Rattle.pt_write_ops.specs.Roles.{role_of}
use Rattle.pt_write_ops.proofs.calls.names_alone.Given as goal

abbrev pub invariant-loop-role : goal.invariant-loop-role
invariant-loop-role l = names_alone (map role_of l.roles) ≡ option_map (λ ys. l.names ++ ys) (names_alone (map role_of (drop l.role-index l.roles)))
