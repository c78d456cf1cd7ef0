-- Refusals of the layers as one list: their numbers, and the place or line that each tells.
use Rattle.std.specs.Prelude.{ℕ}
use Rattle.pt_literals.specs.declared.token.LexErr.{LexErr}
use Rattle.pt_literals.specs.declared.token.LexErr.TheVariants as lex
use Rattle.pt_scopes.specs.declared.scope.ScopeErr.{ScopeErr}
use Rattle.pt_scopes.specs.declared.scope.ScopeErr.TheVariants as scope
use Rattle.pt_front.specs.declared.syntax.SyntaxErr.{SyntaxErr}
use Rattle.pt_front.specs.declared.syntax.SyntaxErr.TheVariants as syntax_err
use Rattle.pt_front.specs.declared.refusal.Refusal.{Refusal}
use Rattle.pt_front.specs.declared.refusal.Refusal.TheVariants.{NotUtf8, BadIndent, MixedTabs, BadChar, OpenString, BadNumber, OpenBracket, ExcludedToken, TokenLimit, Unexpected, BadTarget, ExcludedForm, TreeLimit, NoBinding, Twice, LateDecl, Outside}

abbrev pub number_of : Refusal → ℕ
number_of (NotUtf8 at) = 1
number_of (BadIndent line) = 2
number_of (MixedTabs line) = 3
number_of (BadChar at) = 4
number_of (OpenString line) = 5
number_of (BadNumber at) = 6
number_of (OpenBracket line) = 7
number_of (ExcludedToken line) = 8
number_of (TokenLimit line) = 9
number_of (Unexpected at) = 10
number_of (BadTarget line) = 11
number_of (ExcludedForm line) = 12
number_of (TreeLimit line) = 13
number_of (NoBinding name line) = 14
number_of (Twice name line) = 15
number_of (LateDecl name line) = 16
number_of (Outside line) = 17

-- a place in bytes, or a line
abbrev pub place_of : Refusal → ℕ
place_of (NotUtf8 at) = at
place_of (BadIndent line) = line.0
place_of (MixedTabs line) = line.0
place_of (BadChar at) = at
place_of (OpenString line) = line.0
place_of (BadNumber at) = at
place_of (OpenBracket line) = line.0
place_of (ExcludedToken line) = line.0
place_of (TokenLimit line) = line.0
place_of (Unexpected at) = at
place_of (BadTarget line) = line.0
place_of (ExcludedForm line) = line.0
place_of (TreeLimit line) = line.0
place_of (NoBinding name line) = line.0
place_of (Twice name line) = line.0
place_of (LateDecl name line) = line.0
place_of (Outside line) = line.0

abbrev pub of_lexer : LexErr → Refusal
of_lexer (lex.NotUtf8 at) = NotUtf8 at
of_lexer (lex.BadIndent line) = BadIndent line
of_lexer (lex.MixedTabs line) = MixedTabs line
of_lexer (lex.BadChar at) = BadChar at
of_lexer (lex.OpenString line) = OpenString line
of_lexer (lex.BadNumber at) = BadNumber at
of_lexer (lex.OpenBracket line) = OpenBracket line
of_lexer (lex.Excluded line) = ExcludedToken line
of_lexer (lex.Limit line) = TokenLimit line

abbrev pub of_syntax : SyntaxErr → Refusal
of_syntax (syntax_err.Unexpected at) = Unexpected at
of_syntax (syntax_err.BadTarget line) = BadTarget line
of_syntax (syntax_err.Excluded line) = ExcludedForm line
of_syntax (syntax_err.Limit line) = TreeLimit line

abbrev pub of_scopes : ScopeErr → Refusal
of_scopes (scope.NoBinding name line) = NoBinding name line
of_scopes (scope.Twice name line) = Twice name line
of_scopes (scope.LateDecl name line) = LateDecl name line
of_scopes (scope.Outside line) = Outside line
