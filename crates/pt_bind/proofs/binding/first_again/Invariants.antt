use Rattle.std.proofs.Common.{◌≡◌, ℕ, List, drop}
use Rattle.pt_bind.specs.Binding.{first_again}
use Rattle.pt_bind.specs.NameSets.{IsSetOf}
use Rattle.pt_bind.proofs.binding.first_again.Given as goal

-- whatever the set had, it has names before which the search goes on
abbrev pub invariant-loop-binding : goal.invariant-loop-binding
invariant-loop-binding l = (names : List (List ℕ)) → IsSetOf names l.initial.given → (now : List (List ℕ)) × IsSetOf now l.given × (first_again names l.named ≡ first_again now (drop l.binding-index l.named))
