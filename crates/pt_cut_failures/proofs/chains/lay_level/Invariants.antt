use Rattle.std.proofs.Common.{map}
use Rattle.pt_cut_failures.proofs.Chaining.{Laying, InLevel}
use Rattle.pt_cut_failures.proofs.chains.lay_level.Given as goal

abbrev pub invariant-loop-stretch : goal.invariant-loop-stretch
invariant-loop-stretch l = Laying 0 (InLevel (map (λ rows. rows.items) l.level)) l.initial.links.items l.links.items l.starts.items l.stretch
