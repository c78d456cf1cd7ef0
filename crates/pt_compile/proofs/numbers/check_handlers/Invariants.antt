use Rattle.std.proofs.Common.{drop}
use Rattle.std.specs.List.{AllByRecursion}
use Rattle.pt_code.specs.File.{IsHandler}
use Rattle.pt_compile.proofs.numbers.check_handlers.Given as goal

abbrev pub invariant-loop-handler : goal.invariant-loop-handler
invariant-loop-handler l = AllByRecursion IsHandler (drop l.handler-index l.handlers) → AllByRecursion IsHandler l.handlers
