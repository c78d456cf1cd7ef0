use Rattle.std.proofs.Common.{drop}
use Rattle.std.specs.List.{AllByRecursion}
use Rattle.pt_code.specs.File.{IsStart}
use Rattle.pt_compile.proofs.numbers.check_starts.Given as goal

abbrev pub invariant-loop-start : goal.invariant-loop-start
invariant-loop-start l = AllByRecursion IsStart (drop l.start-index l.starts) → AllByRecursion IsStart l.starts
