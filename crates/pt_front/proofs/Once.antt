-- No text is two scripts, or refused for two reasons, or a script and refused.
use Rattle.std.proofs.Common.{◌≡◌, ℕ, List, Some, None, refl, sym, ap, ◌∙◌, subst}
use Rattle.pt_literals.specs.declared.token.LexErr.{LexErr}
use Rattle.pt_literals.specs.declared.token.Token.{Token}
use Rattle.pt_lexer.specs.Faults.{IsTokens, IsRefused as HasNoTokens}
use Rattle.pt_lexer.proofs.Once.{lines_once, lines_or_fault}
use Rattle.pt_lexer.proofs.LineLemmas.{refused_once}
use Rattle.pt_tree.specs.Syntax.{Stms}
use Rattle.pt_scopes.specs.Mentions.{places_script}
use Rattle.pt_scopes.specs.Refusals.{fault_of}
use Rattle.pt_scopes.specs.declared.scope.ScopeErr.{ScopeErr}
use Rattle.pt_front.specs.Refusals.{of_lexer, of_syntax, of_scopes}
use Rattle.pt_front.specs.Syntax.{AreScript, AreNoScript}
use Rattle.pt_front.specs.Text.{IsScript, IsRefused, no_tokens, no_script, no_scopes}
use Rattle.pt_front.specs.declared.refusal.Refusal.{Refusal}
use Rattle.pt_front.specs.declared.syntax.SyntaxErr.{SyntaxErr}
use Rattle.pt_front.proofs.SyntaxOnce.{one_reason, one_script as tokens_once, script_or_none}

module _ (text : List ℕ) where
  tokens_same : (ts us : List Token) → IsTokens text ts → IsTokens text us → ts ≡ us
  tokens_same ts us a b = lines_once a b

  tokens_or_none : (ts : List Token) (e : LexErr) → IsTokens text ts → HasNoTokens text e → ⊥
  tokens_or_none ts e a b = lines_or_fault a b.found

  pub one_script : (s t : Stms) → IsScript text s → IsScript text t → s ≡ t
  one_script s t a b = tokens_once b.tokens s t (subst (λ ts. AreScript ts s) (tokens_same a.tokens b.tokens a.are_tokens b.are_tokens) a.are_script) b.are_script

  script_or_none_of : (ts us : List Token) (s : Stms) (e : SyntaxErr) → IsTokens text ts → IsTokens text us → AreScript ts s → AreNoScript us e → ⊥
  script_or_none_of ts us s e a b c d = script_or_none us s e (subst (λ ts. AreScript ts s) (tokens_same ts us a b) c) d

  fault_same : (ts us : List Token) (s t : Stms) → IsTokens text ts → IsTokens text us → AreScript ts s → AreScript us t → fault_of (places_script s) ≡ fault_of (places_script t)
  fault_same ts us s t a b c d = ap (λ x. fault_of (places_script x)) (tokens_once us s t (subst (λ ts. AreScript ts s) (tokens_same ts us a b) c) d)

  -- one refusal, of one layer
  pub one_refusal : (q r : Refusal) → IsRefused text q → IsRefused text r → q ≡ r
  one_refusal q r (no_tokens e _ a i) (no_tokens f _ b j) = (sym i ∙ ap of_lexer (refused_once text e f a b) ∙ j)
  one_refusal q r (no_tokens e _ a i) (no_script us f _ b d j) = absurd (tokens_or_none us e b a)
  one_refusal q r (no_tokens e _ a i) (no_scopes us t f _ b d k j) = absurd (tokens_or_none us e b a)
  one_refusal q r (no_script ts e _ a c i) (no_tokens f _ b j) = absurd (tokens_or_none ts f a b)
  one_refusal q r (no_script ts e _ a c i) (no_script us f _ b d j) =
      (sym i ∙ ap of_syntax (one_reason us e f (subst (λ ts. AreNoScript ts e) (tokens_same ts us a b) c) d) ∙ j)
  one_refusal q r (no_script ts e _ a c i) (no_scopes us t f _ b d k j) = absurd (script_or_none_of us ts t e b a d c)
  one_refusal q r (no_scopes ts s e _ a c h i) (no_tokens f _ b j) = absurd (tokens_or_none ts f a b)
  one_refusal q r (no_scopes ts s e _ a c h i) (no_script us f _ b d j) = absurd (script_or_none_of ts us s f a b c d)
  one_refusal q r (no_scopes ts s e _ a c h i) (no_scopes us t f _ b d k j) =
      let faults : Some e ≡ Some f = sym h ∙ fault_same ts us s t a b c d ∙ k in
      let one : e ≡ f = cc in (sym i ∙ ap of_scopes one ∙ j)

  pub never_both : (s : Stms) (r : Refusal) → IsScript text s → IsRefused text r → ⊥
  never_both s r a (no_tokens e _ b i) = tokens_or_none a.tokens e a.are_tokens b
  never_both s r a (no_script us f _ b d i) = script_or_none_of a.tokens us s f a.are_tokens b a.are_script d
  never_both s r a (no_scopes us t f _ b d k i) =
      let faults : None ≡ Some f = sym a.no_fault ∙ fault_same a.tokens us s t a.are_tokens b a.are_script d ∙ k in cc
