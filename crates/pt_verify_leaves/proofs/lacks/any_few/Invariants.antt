use Rattle.std.proofs.Common.{◌≡◌, ◌<◌, ℕ, List, false, get_or}
use Rattle.pt_ranges.specs.declared.handlers.Handler.{Handler}
use Rattle.pt_takers.specs.Takers.{TellsTakers}
use Rattle.pt_verify_leaves.specs.Lacks.{few_for}
use Rattle.pt_verify_leaves.proofs.lacks.any_few.Given as goal

abbrev pub invariant-loop-number : goal.invariant-loop-number
invariant-loop-number l = (rows : List Handler) (count : ℕ) → TellsTakers rows count l.takers → l.pc.0 < count
    → (k : ℕ) → k < l.number → few_for rows l.sizes l.pc.0 l.low (get_or l.targets k 0) ≡ false
