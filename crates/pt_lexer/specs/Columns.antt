-- Open columns.
use Rattle.std.specs.Prelude.{◌≡◌, ℕ, ◌<◌, List, [], ◌∷◌, ◌++◌, true}
use Rattle.pt_base.specs.declared.numbers.Line.{Line}
use Rattle.pt_lexer.specs.declared.token.Column.{Column}
use Rattle.pt_literals.specs.declared.token.Token.{Token}
use Rattle.pt_literals.specs.declared.token.TokenKind.{TokenKind}
use Rattle.pt_lexer.specs.Lines.{agrees, Turn, marks}

-- each column lies behind the next one, by both computations
abbrev pub AreRising : List Column → Type 0
AreRising [] = Unit {0}
AreRising (k ∷ []) = Unit {0}
AreRising (k ∷ (l ∷ cols)) = (l.wide < k.wide) × (l.narrow < k.narrow) × AreRising (l ∷ cols)

-- A line of this column has opened or closed blocks, and has their tokens.
pub record Indented (old new : List Column) (k : Column) (at : ℕ) (line : Line) (before after : List Token) : Type 0 where
  pub kinds : List TokenKind
  pub kept : after ≡ before ++ marks at line kinds
  pub turns : Turn old k new kinds
  pub agreed : agrees k old ≡ true
  pub rising : AreRising new
