-- From the refusal of a layer to that of the text.
use Rattle.std.proofs.Common.{◌≡◌, ℕ, List, refl, sym, subst}
use Rattle.pt_base.specs.declared.failure.Failure.{Failure}
use Rattle.pt_base.specs.declared.failure.Failure.TheVariants.{Refused, Memory}
use Rattle.pt_base.specs.Failures.{IfRefused, IsSameFailure}
use Rattle.pt_literals.specs.declared.token.LexErr.{LexErr}
use Rattle.pt_literals.specs.declared.token.Token.{Token}
use Rattle.pt_lexer.specs.Faults.{IsTokens, IsRefused as HasNoTokens}
use Rattle.pt_tree.specs.Syntax.{Stms}
use Rattle.pt_scopes.specs.Mentions.{places_script}
use Rattle.pt_scopes.specs.Resolved.{IsRefused as HasNoScopes}
use Rattle.pt_scopes.specs.declared.scope.ScopeErr.{ScopeErr}
use Rattle.pt_front.specs.Refusals.{of_lexer, of_syntax, of_scopes}
use Rattle.pt_front.specs.Syntax.{AreScript, AreNoScript}
use Rattle.pt_front.specs.Text.{IsRefused, no_tokens, no_script, no_scopes}
use Rattle.pt_front.specs.declared.refusal.Refusal.{Refusal}
use Rattle.pt_front.specs.declared.syntax.SyntaxErr.{SyntaxErr}

-- the failure of a layer, whose reasons refuse the text
refused_by : {E : Type 0} {P : E → Type 0} (text : List ℕ) (of : E → Refusal) (d : Failure E) (f : Failure Refusal) → ((e : E) → P e → IsRefused text (of e))
    → IsSameFailure (λ e r. r ≡ of e) d f → IfRefused P d → IfRefused (IsRefused text) f
refused_by text of (Refused e) (Refused r) into same is = subst (IsRefused text) (sym same) (into e is)
refused_by text of (Refused e) Memory into same is = absurd same
refused_by text of Memory (Refused r) into same is = absurd same
refused_by text of Memory Memory into same is = tt

module _ (text : List ℕ) where
  pub of_tokens : (d : Failure LexErr) (f : Failure Refusal) → IsSameFailure (λ e r. r ≡ of_lexer e) d f → IfRefused (HasNoTokens text) d → IfRefused (IsRefused text) f
  of_tokens d f same is = refused_by {P = HasNoTokens text} text of_lexer d f (λ e a. no_tokens e (of_lexer e) a refl) same is

  module _ (ts : List Token) (are : IsTokens text ts) where
    pub of_script : (d : Failure SyntaxErr) (f : Failure Refusal) → IsSameFailure (λ e r. r ≡ of_syntax e) d f → IfRefused (AreNoScript ts) d → IfRefused (IsRefused text) f
    of_script d f same is = refused_by {P = AreNoScript ts} text of_syntax d f (λ e a. no_script ts e (of_syntax e) are a refl) same is

    pub of_declarations : (script : Stms) → AreScript ts script → (d : Failure ScopeErr) (f : Failure Refusal) → IsSameFailure (λ e r. r ≡ of_scopes e) d f → IfRefused (HasNoScopes (places_script script)) d → IfRefused (IsRefused text) f
    of_declarations script are_script d f same is = refused_by {P = HasNoScopes (places_script script)} text of_scopes d f (λ e a. no_scopes ts script e (of_scopes e) are are_script a refl) same is
