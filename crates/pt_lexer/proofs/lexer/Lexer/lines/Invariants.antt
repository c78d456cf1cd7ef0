use Rattle.std.proofs.Common.{◌≡◌, ◌∷◌, length}
use Rattle.pt_lexer.specs.Progress.{GoesOn}
use Rattle.pt_lexer.proofs.lexer.Lexer.lines.Given as goal

abbrev pub invariant-loop-rest : goal.invariant-loop-rest
invariant-loop-rest l = record {
  going : GoesOn l.end (l.initial.self.columns.inner ∷ l.initial.self.columns.outer) (l.self.columns.inner ∷ l.self.columns.outer) l.text l.rest l.initial.self.tokens l.self.tokens;
  end : l.self.end ≡ l.end;
}

abbrev pub decreases-loop-rest : goal.decreases-loop-rest
decreases-loop-rest l = length l.rest
