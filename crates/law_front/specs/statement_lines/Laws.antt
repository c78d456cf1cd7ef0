-- What the law says of the lines of statements.
use Rattle.std.specs.Prelude.{ℕ, List, []}
use Rattle.pt_wide.specs.Syntax.{Stm}
use Rattle.pt_wide.specs.StatementFold.{stms_from}
use Rattle.pt_readers.specs.Whole.{Are}
use Rattle.pt_grammar.specs.declared.sign.Sign.TheVariants.{Layout as layout}
use Rattle.pt_grammar.specs.declared.sign.Layout.TheVariants.{End}
use Rattle.pt_grammar.specs.Lexemes.{Lexeme}
use Rattle.pt_parser.specs.Parts.{some_stmts}
use Rattle.law_front.specs.token_lines.Rising.{LinesRise}
use Rattle.law_front.specs.statement_lines.OnLines.{StmsOnLines}

-- from a line on, and before some other
abbrev pub StatementsAreOnLines : Type 0
StatementsAreOnLines = (from : ℕ) (ts : List Lexeme) (ss : List Stm) → LinesRise from ts → Are (some_stmts (layout End) []) ts ss
    → (to : ℕ) × StmsOnLines from to (stms_from ss)
