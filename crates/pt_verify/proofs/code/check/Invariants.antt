use Rattle.pt_verify.proofs.ErrorLemmas.{FitBelow}
use Rattle.pt_verify.proofs.code.check.Given as goal

abbrev pub invariant-loop-number : goal.invariant-loop-number
invariant-loop-number l = FitBelow l.code l.number
