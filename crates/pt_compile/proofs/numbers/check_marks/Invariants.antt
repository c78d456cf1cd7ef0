use Rattle.std.proofs.Common.{drop}
use Rattle.std.specs.List.{AllByRecursion}
use Rattle.pt_code.specs.File.{IsMark}
use Rattle.pt_compile.proofs.numbers.check_marks.Given as goal

abbrev pub invariant-loop-mark : goal.invariant-loop-mark
invariant-loop-mark l = AllByRecursion IsMark (drop l.mark-index l.marks) → AllByRecursion IsMark l.marks
