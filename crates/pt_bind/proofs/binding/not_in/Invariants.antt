use Rattle.std.proofs.Common.{◌≡◌, take, not, filter}
use Rattle.pt_bind.specs.NameSets.{has_name}
use Rattle.pt_bind.proofs.binding.not_in.Given as goal

abbrev pub invariant-loop-binding : goal.invariant-loop-binding
invariant-loop-binding l = l.others ≡ filter (λ b. not (has_name l.names b.name)) (take l.binding-index l.named)
