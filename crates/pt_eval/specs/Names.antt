-- What a name means in a frame: what it is bound to there, else in the module, else by itself (Language Reference 4.2.2).
use Rattle.std.specs.Prelude.{List, [], ◌∷◌, Option, Some, None, if◌then◌else◌}
use Rattle.std.specs.Str.{bytes_eq}
use Rattle.pt_tree.specs.Syntax.{Name}
use Rattle.pt_heap.specs.declared.value.Value.{Value}
use Rattle.pt_heap.specs.declared.view.Binding.{Binding}
use Rattle.pt_builtins.specs.pt_host.Builtins.{Builtin, is, builtin}

abbrev pub value_in : List Binding → Name → Option Value
value_in [] x = None
value_in (b ∷ bs) x = if bytes_eq b.name x then Some b.value else value_in bs x

abbrev pub or_else : Option Value → Builtin → Builtin
or_else (Some v) otherwise = is v
or_else None otherwise = otherwise

abbrev pub meaning : (locals globals : List Binding) → Name → Builtin
meaning locals globals x = or_else (value_in locals x) (or_else (value_in globals x) (builtin x))
