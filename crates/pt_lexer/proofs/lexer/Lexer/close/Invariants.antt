use Rattle.std.proofs.Common.{◌≡◌, ◌∷◌, ◌++◌, length}
use Rattle.pt_lexer.specs.Lines.{closing}
use Rattle.pt_lexer.proofs.lexer.Lexer.close.Given as goal

abbrev pub invariant-loop-self : goal.invariant-loop-self
invariant-loop-self l =
    l.self.tokens ++ closing l.end (l.self.columns.inner ∷ l.self.columns.outer) ≡ l.initial.self.tokens ++ closing l.end (l.initial.self.columns.inner ∷ l.initial.self.columns.outer)

abbrev pub decreases-loop-self : goal.decreases-loop-self
decreases-loop-self l = length l.self.columns.outer
