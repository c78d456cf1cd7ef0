-- The roles of arguments by their texts (Language Reference 6.3.4).
use Rattle.pt_tree.specs.Syntax.{Name}
use Rattle.sem_control.specs.control.Turn as T
use Rattle.pt_call_rows.specs.declared.roles.Role.{Role}
use Rattle.pt_call_rows.specs.declared.roles.Role.TheVariants as role

-- the role of an argument of this text
abbrev pub as_role : Role → Name → T.Role
as_role role.Positional x = T.positional
as_role role.Spread x = T.spread
as_role role.SpreadNamed x = T.spread_named
as_role role.Named x = T.named x
