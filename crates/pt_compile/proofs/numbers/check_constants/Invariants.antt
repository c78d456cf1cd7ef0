use Rattle.std.proofs.Common.{drop}
use Rattle.std.specs.List.{AllByRecursion}
use Rattle.law_files.specs.code_files.Numbers.{IntegerFits}
use Rattle.pt_compile.proofs.numbers.check_constants.Given as goal

abbrev pub invariant-loop-constant : goal.invariant-loop-constant
invariant-loop-constant l = AllByRecursion IntegerFits (drop l.constant-index l.constants) → AllByRecursion IntegerFits l.constants
