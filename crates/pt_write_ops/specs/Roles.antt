-- How arguments are passed, as control has it.
use Rattle.std.specs.Prelude.{Bool, true}
use Rattle.sem_control.specs.control.Turn as T
use Rattle.sem_compile.specs.emitter.Ops.{is_plain}
use Rattle.pt_write_ops.specs.declared.role.Role.{Role}
use Rattle.pt_write_ops.specs.declared.role.Role.TheVariants as role

abbrev pub role_of : Role → T.Role
role_of role.Positional = T.positional
role_of (role.Named x) = T.named x
role_of role.Spread = T.spread
role_of role.SpreadNamed = T.spread_named

abbrev pub is_plain_argument : T.Role → Bool
is_plain_argument (T.named x) = is_plain x
is_plain_argument r = true
