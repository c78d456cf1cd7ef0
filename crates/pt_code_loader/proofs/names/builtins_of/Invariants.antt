use Rattle.std.proofs.Common.{◌≡◌, map, take}
use Rattle.pt_code_tables.specs.pt_builtins.pt_host.Builtins.{meaning}
use Rattle.pt_code_tables.specs.pt_builtins.Lookups.{builtin_view}
use Rattle.pt_code_loader.proofs.names.builtins_of.Given as goal

abbrev pub invariant-loop-text : goal.invariant-loop-text
invariant-loop-text l = map builtin_view l.found ≡ map (meaning l.hidden) (take l.text-index l.texts)
