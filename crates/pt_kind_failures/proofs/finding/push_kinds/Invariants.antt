use Rattle.std.proofs.Common.{◌++◌, take}
use Rattle.std.specs.List.{flat_map}
use Rattle.pt_instr.specs.Runs.{kinds_of}
use Rattle.pt_kinds.specs.Forest.{Has, list_at}
use Rattle.pt_kind_failures.proofs.finding.push_kinds.Given as goal

abbrev pub invariant-loop-run : goal.invariant-loop-run
invariant-loop-run l = Has l.initial.forest l.forest l.top (list_at l.initial.forest l.list ++ flat_map kinds_of (take l.run-index l.run-items))
