-- The arguments of a call whose last ones have names (Language Reference 6.3.4).
use Rattle.std.specs.Prelude.{◌-◌, List, length, take, drop}
use Rattle.pt_tree.specs.Syntax.{Name}
use Rattle.pt_heap.specs.declared.value.Value.{Value}
use Rattle.pt_bind.specs.declared.arguments.Args.{Args}
use Rattle.pt_moves.specs.sem_rows.pt_host.Calls.{defaults_of}

abbrev pub named_last : List Name → List Value → Args
named_last xs vs = record { plain = take (length vs - length xs) vs; named = defaults_of xs (drop (length vs - length xs) vs) }
