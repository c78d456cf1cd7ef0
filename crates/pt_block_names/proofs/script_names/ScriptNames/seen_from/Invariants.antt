use Rattle.std.proofs.Common.{◌≡◌, map, take}
use Rattle.pt_symbols.specs.sem_names.Naming.{seen}
use Rattle.pt_block_names.specs.Named.{variable_of}
use Rattle.pt_block_names.proofs.script_names.ScriptNames.seen_from.Given as goal

abbrev pub invariant-loop-name : goal.invariant-loop-name
invariant-loop-name l = map variable_of l.variables ≡ map (seen l.self.places l.region) (take l.name-index l.names)
