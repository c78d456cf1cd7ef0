use Rattle.std.proofs.Common.{drop}
use Rattle.std.specs.List.{AllByRecursion}
use Rattle.pt_code.specs.File.{IsText}
use Rattle.pt_compile.proofs.numbers.check_texts.Given as goal

abbrev pub invariant-loop-text : goal.invariant-loop-text
invariant-loop-text l = AllByRecursion IsText (drop l.text-index l.texts) → AllByRecursion IsText l.texts
