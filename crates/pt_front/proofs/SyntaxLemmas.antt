-- From the refusal of the wide grammar, and from what the language leaves out, to why tokens are nothing of the language.
use Rattle.std.proofs.Common.{◌≡◌, ℕ, List, sym, subst}
use Rattle.pt_base.specs.declared.failure.Failure.{Failure}
use Rattle.pt_base.specs.declared.failure.Failure.TheVariants.{Refused, Memory}
use Rattle.pt_base.specs.Failures.{IfRefused, IsSameFailure}
use Rattle.pt_literals.specs.declared.token.Token.{Token}
use Rattle.pt_grammar.specs.declared.part.Part.TheVariants.{Whole}
use Rattle.pt_expr.specs.Answers.{Refuses}
use Rattle.pt_expr.specs.declared.front.ParseErr.{ParseErr}
use Rattle.pt_expr.specs.declared.front.ParseErr.TheVariants as parse
use Rattle.pt_parser.specs.Script.{ScriptRefuses}
use Rattle.pt_refine_expr.specs.declared.narrowing.Narrowing.{Narrowing}
use Rattle.pt_refine_expr.specs.declared.narrowing.Narrowing.TheVariants as narrowing
use Rattle.pt_front.specs.declared.syntax.SyntaxErr.{SyntaxErr}
use Rattle.pt_front.specs.Syntax.{of_parse, of_narrowing, HaveFault, AreNoScript, HasFault, IsNoExpr}

module _ (P : SyntaxErr → Type 0) where
  not_read : (Q : ParseErr → Type 0) (d : Failure ParseErr) (f : Failure SyntaxErr) → ((e : ParseErr) → Q e → P (of_parse e)) → IsSameFailure (λ p e. e ≡ of_parse p) d f → IfRefused Q d → IfRefused P f
  not_read Q (Refused p) (Refused e) into same is = subst P (sym same) (into p is)
  not_read Q (Refused p) Memory into same is = absurd same
  not_read Q Memory (Refused e) into same is = absurd same
  not_read Q Memory Memory into same is = tt

module _ (ts : List Token) where
  script_refused : (e : ParseErr) → ScriptRefuses ts e → AreNoScript ts (of_parse e)
  script_refused (parse.Unexpected at) is = is
  script_refused (parse.Limit line) is = is

  pub no_wide_script : (d : Failure ParseErr) (f : Failure SyntaxErr) → IsSameFailure (λ p e. e ≡ of_parse p) d f → IfRefused (ScriptRefuses ts) d → IfRefused (AreNoScript ts) f
  no_wide_script d f same is = not_read (AreNoScript ts) (ScriptRefuses ts) d f script_refused same is

  script_left_out : (n : Narrowing) → HaveFault ts n → IfRefused (AreNoScript ts) (of_narrowing n)
  script_left_out (narrowing.BadTarget line) h = h
  script_left_out (narrowing.Excluded line) h = h
  script_left_out narrowing.Memory h = tt

  pub no_narrow_script : (n : Narrowing) (f : Failure SyntaxErr) → f ≡ of_narrowing n → HaveFault ts n → IfRefused (AreNoScript ts) f
  no_narrow_script n f is h = subst (IfRefused (AreNoScript ts)) (sym is) (script_left_out n h)

module _ (ts : List Token) (at : ℕ) where
  expr_refused : (e : ParseErr) → Refuses Whole ts at e → IsNoExpr ts at (of_parse e)
  expr_refused (parse.Unexpected place) is = is
  expr_refused (parse.Limit line) is = is

  pub no_wide_expr : (d : Failure ParseErr) (f : Failure SyntaxErr) → IsSameFailure (λ p e. e ≡ of_parse p) d f → IfRefused (Refuses Whole ts at) d → IfRefused (IsNoExpr ts at) f
  no_wide_expr d f same is = not_read (IsNoExpr ts at) (Refuses Whole ts at) d f expr_refused same is

  expr_left_out : (n : Narrowing) → HasFault ts at n → IfRefused (IsNoExpr ts at) (of_narrowing n)
  expr_left_out (narrowing.BadTarget line) h = h
  expr_left_out (narrowing.Excluded line) h = h
  expr_left_out narrowing.Memory h = tt

  pub no_narrow_expr : (n : Narrowing) (f : Failure SyntaxErr) → f ≡ of_narrowing n → HasFault ts at n → IfRefused (IsNoExpr ts at) f
  no_narrow_expr n f is h = subst (IfRefused (IsNoExpr ts at)) (sym is) (expr_left_out n h)
