use Rattle.std.proofs.Common.{◌≡◌, length}
use Rattle.pt_lexer.specs.Lines.{nest}
use Rattle.pt_lexer.specs.Progress.{Going}
use Rattle.pt_lexer.proofs.lexer.Lexer.words.Given as goal

abbrev pub invariant-loop-behind : goal.invariant-loop-behind
invariant-loop-behind l = record {
  going : Going l.end l.text l.initial.self.tokens l.self.tokens (nest l.mode l.opened) l.rest;
  columns : l.self.columns ≡ l.initial.self.columns;
  end : l.self.end ≡ l.end;
}

abbrev pub decreases-loop-behind : goal.decreases-loop-behind
decreases-loop-behind l = length l.rest
