-- What code answers of a builtin's name, as a host has it.
use Rattle.std.specs.Prelude.{◌≡◌, ◌++◌, Bool, true, false, codes, Option, Some, None}
use Rattle.pt_tables.specs.Names.{builtin_names, unbuilt_names}
use Rattle.pt_tree.specs.Syntax.{Name}
use Rattle.pt_bind.specs.NameSets.{is_among}
use Rattle.pt_host.specs.Builtins.{Builtin, is, unavailable, no_builtin, written_names}
use Rattle.pt_builtins.specs.declared.BuiltinLookup.{BuiltinLookup}
use Rattle.pt_builtins.specs.declared.BuiltinLookup.TheVariants as lookup

abbrev pub builtin_view : BuiltinLookup → Builtin
builtin_view (lookup.Found v) = is v
builtin_view lookup.Unavailable = unavailable
builtin_view lookup.Unbound = no_builtin

abbrev pub is_builtin_name : Name → Bool
is_builtin_name x = is_among builtin_names x

-- one of the Library Reference that runs don't have
abbrev pub is_unbuilt_name : Name → Bool
is_unbuilt_name x = is_among unbuilt_names x

-- the name of the function that a builtin is which is written in Python, if it is one
abbrev pub IsWrittenAs : Name → Option Name → Type 0
IsWrittenAs x (Some f) = (is_among written_names x ≡ true) × (f ≡ x ++ codes "_of")
IsWrittenAs x None = is_among written_names x ≡ false
