use Rattle.std.proofs.Common.{drop}
use Rattle.std.specs.List.{AllByRecursion}
use Rattle.law_files.specs.code_files.Numbers.{IsCounted}
use Rattle.pt_compile.proofs.numbers.check_lists.Given as goal

abbrev pub invariant-loop-list : goal.invariant-loop-list
invariant-loop-list l = AllByRecursion IsCounted (drop l.list-index l.lists) → AllByRecursion IsCounted l.lists
