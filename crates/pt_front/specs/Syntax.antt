-- What tokens are in the language: what they are in the wide grammar, of which the language leaves out nothing (Language Reference 6 to 8).
use Rattle.std.specs.Prelude.{◌≡◌, ℕ, ◌+◌, ◌-◌, List, [], length, drop, Some, Ok}
use Rattle.pt_base.specs.declared.failure.Failure.{Failure}
use Rattle.pt_base.specs.declared.failure.Failure.TheVariants.{Refused, Memory}
use Rattle.pt_literals.specs.declared.token.Token.{Token}
use Rattle.pt_tree.specs.Syntax as T
use Rattle.pt_wide.specs.Syntax as W
use Rattle.pt_wide.specs.StatementFold.{stms_from}
use Rattle.pt_readers.specs.Whole.{Tells}
use Rattle.pt_grammar.specs.Lexemes.{Lexeme, lexemes}
use Rattle.pt_grammar.specs.declared.part.Part.TheVariants.{Whole}
use Rattle.pt_expr.specs.Answers.{part_of, Refuses}
use Rattle.pt_expr.specs.declared.front.ParseErr.{ParseErr}
use Rattle.pt_expr.specs.declared.front.ParseErr.TheVariants as parse
use Rattle.pt_parser.specs.Script.{a_script, ScriptRefuses}
use Rattle.pt_refine_expr.specs.Faults.{faults_exp}
use Rattle.pt_refine_expr.specs.StatementFaults.{faults_stms}
use Rattle.pt_refine_expr.specs.Narrow.{narrow_exp}
use Rattle.pt_refine_expr.specs.StatementNarrow.{narrow_script}
use Rattle.pt_refine_expr.specs.Told.{IsTold}
use Rattle.pt_refine_expr.specs.declared.narrowing.Narrowing.{Narrowing}
use Rattle.pt_refine_expr.specs.declared.narrowing.Narrowing.TheVariants as narrowing
use Rattle.pt_front.specs.declared.syntax.SyntaxErr.{SyntaxErr}
use Rattle.pt_front.specs.declared.syntax.SyntaxErr.TheVariants.{Unexpected, BadTarget, Excluded, Limit}

abbrev pub of_parse : ParseErr → SyntaxErr
of_parse (parse.Unexpected at) = Unexpected at
of_parse (parse.Limit line) = Limit line

abbrev pub of_narrowing : Narrowing → Failure SyntaxErr
of_narrowing (narrowing.BadTarget line) = Refused (BadTarget line)
of_narrowing (narrowing.Excluded line) = Refused (Excluded line)
of_narrowing narrowing.Memory = Memory

-- the tokens, all of them, are these statements of the wide grammar
abbrev pub AreWide : List Token → List W.Stm → Type 0
AreWide ts ss = Tells a_script (lexemes ts) [] (Ok ss)

-- the tokens, all of them, are this script
pub record AreScript (ts : List Token) (script : T.Stms) : Type 0 where
  pub wide : List W.Stm
  pub are_wide : AreWide ts wide
  pub is_narrow : narrow_script (stms_from wide) ≡ Some script

-- they are statements of the wide grammar, and this is told of the first node that the language leaves out
pub record HaveFault (ts : List Token) (fault : Narrowing) : Type 0 where
  pub wide : List W.Stm
  pub are_wide : AreWide ts wide
  pub is_told : IsTold (faults_stms (stms_from wide)) fault

-- why tokens are no script
abbrev pub AreNoScript : List Token → SyntaxErr → Type 0
AreNoScript ts (Unexpected at) = ScriptRefuses ts (parse.Unexpected at)
AreNoScript ts (BadTarget line) = HaveFault ts (narrowing.BadTarget line)
AreNoScript ts (Excluded line) = HaveFault ts (narrowing.Excluded line)
AreNoScript ts (Limit line) = ScriptRefuses ts (parse.Limit line)

-- the tokens from a place on begin with this expression of the wide grammar, and the next place is behind it
pub record BeginWide (ts : List Token) (at : ℕ) (e : W.Exp) (next : ℕ) : Type 0 where
  pub rest : List Lexeme
  pub tells : Tells (part_of Whole) (lexemes (drop at ts)) rest (Ok e)
  pub behind : next ≡ at + (length (drop at ts) - length rest)

-- the tokens from a place on begin with this expression, and the next place is behind it
pub record IsExpr (ts : List Token) (at : ℕ) (e : T.Exp) (next : ℕ) : Type 0 where
  pub wide : W.Exp
  pub begins : BeginWide ts at wide next
  pub is_narrow : narrow_exp 1 wide ≡ Some e

-- they begin with an expression of the wide grammar, and this is told of the first node that the language leaves out
pub record HasFault (ts : List Token) (at : ℕ) (fault : Narrowing) : Type 0 where
  pub wide : W.Exp
  pub next : ℕ
  pub begins : BeginWide ts at wide next
  pub is_told : IsTold (faults_exp wide) fault

abbrev pub IsNoExpr : List Token → (at : ℕ) → SyntaxErr → Type 0
IsNoExpr ts at (Unexpected place) = Refuses Whole ts at (parse.Unexpected place)
IsNoExpr ts at (BadTarget line) = HasFault ts at (narrowing.BadTarget line)
IsNoExpr ts at (Excluded line) = HasFault ts at (narrowing.Excluded line)
IsNoExpr ts at (Limit line) = Refuses Whole ts at (parse.Limit line)
