use Rattle.std.proofs.Common.{◌≡◌, ◌∷◌, ◌++◌, List, length}
use Rattle.pt_lexer.specs.Lines.{marks}
use Rattle.pt_literals.specs.declared.token.TokenKind.{TokenKind}
use Rattle.pt_lexer.proofs.ColumnLemmas.{Left}
use Rattle.pt_lexer.proofs.columns.Columns.close.Given as goal

abbrev pub invariant-loop-self : goal.invariant-loop-self
invariant-loop-self l =
    (ks : List TokenKind) × Left l.column (l.initial.self.inner ∷ l.initial.self.outer) (l.self.inner ∷ l.self.outer) ks × (l.tokens ≡ l.initial.tokens ++ marks l.spot.at l.spot.line ks)

abbrev pub decreases-loop-self : goal.decreases-loop-self
decreases-loop-self l = length l.self.outer
