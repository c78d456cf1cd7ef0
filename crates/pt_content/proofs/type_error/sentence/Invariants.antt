use Rattle.std.proofs.Common.{◌≡◌, ◌++◌, drop, map}
use Rattle.pt_content.specs.TypeErrors.{sentence}
use Rattle.pt_content.proofs.type_error.sentence.Given as goal

abbrev pub invariant-loop-part : goal.invariant-loop-part
invariant-loop-part l = l.text ++ sentence (map (λ p. p.now) (drop l.part-index l.parts)) ≡ sentence (map (λ p. p.now) l.parts)
