use Rattle.std.proofs.Common.{◌≡◌, length}
use Rattle.pt_literals.specs.Source.{is_blank}
use Rattle.pt_strs.specs.Strip.{without_end}
use Rattle.pt_commands.proofs.parts.kept.Given as goal

abbrev pub invariant-loop-rest : goal.invariant-loop-rest
invariant-loop-rest l = without_end is_blank l.rest ≡ without_end is_blank l.text

abbrev pub decreases-loop-rest : goal.decreases-loop-rest
decreases-loop-rest l = length l.rest
