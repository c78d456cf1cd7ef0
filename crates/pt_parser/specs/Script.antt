-- What is answered of the script that tokens are.
use Rattle.std.specs.Prelude.{◌≡◌, ◌≢◌, ◌⊎◌, ℕ, List, [], length, map, Result, Ok, Err}
use Rattle.pt_base.specs.declared.failure.Failure.{Failure}
use Rattle.pt_base.specs.Failures.{IfRefused}
use Rattle.pt_literals.specs.declared.token.Token.{Token}
use Rattle.pt_wide.specs.declared.statement.WideScript.{WideScript}
use Rattle.pt_wide.specs.Syntax.{Stm}
use Rattle.pt_wide.specs.StatementFold.{stm_of}
use Rattle.pt_readers.specs.Reading.{next_of, Part}
use Rattle.pt_readers.specs.Whole.{Tells}
use Rattle.pt_readers.specs.declared.halt.Halt.TheVariants as cause
use Rattle.pt_expr.specs.declared.front.ParseErr.{ParseErr}
use Rattle.pt_expr.specs.declared.front.ParseErr.TheVariants.{Unexpected, Limit}
use Rattle.pt_grammar.specs.declared.sign.Sign.TheVariants.{Layout as layout}
use Rattle.pt_grammar.specs.declared.sign.Layout.TheVariants.{End}
use Rattle.pt_grammar.specs.Lexemes.{Lexeme, lexemes, line_at}
use Rattle.pt_expr.specs.Answers.{place_at}
use Rattle.pt_parser.specs.Parts.{some_stmts}

-- script = { stmt } END
abbrev pub a_script : Part Lexeme (List Stm)
a_script = some_stmts (layout End) []

-- The tokens before the rest are no script with which its first token goes on; or they are one, and the rest is too many.
abbrev pub IsNone : List Lexeme → List Lexeme → Type 0
IsNone ts rest = Tells a_script ts rest (Err cause.Unexpected) ⊎ ((ss : List Stm) × Tells a_script ts rest (Ok ss) × (rest ≢ []))

abbrev pub ScriptRefuses : List Token → ParseErr → Type 0
ScriptRefuses ts (Unexpected place) = (rest : List Lexeme) × IsNone (lexemes ts) rest × (place ≡ place_at ts (length rest))
ScriptRefuses ts (Limit line) = (rest : List Lexeme) × Tells a_script (lexemes ts) rest (Err cause.Limit) × (line.0 ≡ line_at (next_of rest))

abbrev pub ScriptAnswers : List Token → Result WideScript (Failure ParseErr) → Type 0
ScriptAnswers ts (Ok s) = Tells a_script (lexemes ts) [] (Ok (map stm_of s.body))
ScriptAnswers ts (Err failure) = IfRefused (ScriptRefuses ts) failure
