use Rattle.std.proofs.Common.{◌≡◌, map, drop}
use Rattle.pt_symbols.specs.sem_names.BlockNames.{distinct_behind, formal_names}
use Rattle.pt_symbols.specs.sem_names.Script.{spelled_in}
use Rattle.pt_tree.specs.Fold.{chained, formal_of}
use Rattle.pt_tree.specs.Syntax.{no_formals}
use Rattle.pt_block_names.proofs.script_names.ScriptNames.add_formals.Given as goal

abbrev pub invariant-loop-parameter : goal.invariant-loop-parameter
invariant-loop-parameter l =
    distinct_behind l.names (map (spelled_in l.self l.block.0) (formal_names (chained no_formals (map formal_of (drop l.parameter-index l.parameters)))))
    ≡ distinct_behind l.fn.names (map (spelled_in l.self l.block.0) (formal_names (chained no_formals (map formal_of l.parameters))))
