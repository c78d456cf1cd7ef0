-- What is answered of the expression with which tokens begin.
use Rattle.std.specs.Prelude.{◌≡◌, ℕ, ◌+◌, ◌-◌, List, length, drop, Option, Some, None, slice_get, Result, Ok, Err}
use Rattle.pt_base.specs.declared.failure.Failure.{Failure}
use Rattle.pt_base.specs.Failures.{IfRefused}
use Rattle.pt_literals.specs.declared.token.Token.{Token}
use Rattle.pt_wide.specs.declared.expression.WideExpr.{WideExpr}
use Rattle.pt_wide.specs.Syntax.{Exp}
use Rattle.pt_wide.specs.Fold.{exp_of}
use Rattle.pt_readers.specs.Reading as R
use Rattle.pt_readers.specs.Reading.{next_of}
use Rattle.pt_readers.specs.Whole.{Tells}
use Rattle.pt_readers.specs.declared.halt.Halt.TheVariants as cause
use Rattle.pt_grammar.specs.declared.part.Part.{Part}
use Rattle.pt_grammar.specs.declared.part.Part.TheVariants.{Whole, Target}
use Rattle.pt_expr.specs.declared.front.ParseErr.{ParseErr}
use Rattle.pt_expr.specs.declared.front.ParseErr.TheVariants.{Unexpected, Limit}
use Rattle.pt_grammar.specs.Lexemes.{Lexeme, lexemes, line_at}
use Rattle.pt_grammar.specs.Parts.{an_expr, a_bor}

-- how many nodes may stand inside one another
abbrev pub max_depth : ℕ
max_depth = 500

abbrev pub part_of : Part → R.Part Lexeme Exp
part_of Whole = an_expr max_depth
part_of Target = a_bor max_depth

abbrev pub place_of : Option Token → ℕ
place_of None = 0
place_of (Some t) = t.at

abbrev pub or_of : Option Token → Option Token → Option Token
or_of None b = b
or_of (Some t) b = Some t

-- The byte place of the token to which so many are left, of the last one where none is left, and 0 where there are no tokens.
abbrev pub place_at : List Token → (left : ℕ) → ℕ
place_at ts left = place_of (or_of (slice_get ts (length ts - left)) (slice_get ts (length ts - 1)))

-- The tokens from a place on are refused for this at the rest, which is not read.
abbrev pub RefusedFrom : Part → List Token → List Lexeme → ParseErr → Type 0
RefusedFrom p ts rest (Unexpected place) = Tells (part_of p) (lexemes ts) rest (Err cause.Unexpected) × (place ≡ place_at ts (length rest))
RefusedFrom p ts rest (Limit line) = Tells (part_of p) (lexemes ts) rest (Err cause.Limit) × (line.0 ≡ line_at (next_of rest))

-- The tokens from a place on begin with this, and the rest is not read.
abbrev pub BeginsWith : Part → List Token → ℕ → List Lexeme → WideExpr × ℕ → Type 0
BeginsWith p ts at rest x = Tells (part_of p) (lexemes ts) rest (Ok (exp_of x.0)) × (x.1 ≡ at + (length ts - length rest))

abbrev pub Refuses : Part → List Token → (at : ℕ) → ParseErr → Type 0
Refuses p ts at e = (rest : List Lexeme) × RefusedFrom p (drop at ts) rest e

abbrev pub Answers : Part → List Token → ℕ → Result (WideExpr × ℕ) (Failure ParseErr) → Type 0
Answers p ts at (Ok x) = (rest : List Lexeme) × BeginsWith p (drop at ts) at rest x
Answers p ts at (Err failure) = IfRefused (Refuses p ts at) failure
