-- The script that a text is, and why a text is refused (Language Reference 2, 4.2, 6 to 8).
use Rattle.std.specs.Prelude.{◌≡◌, ℕ, List, Some, None}
use Rattle.pt_literals.specs.declared.token.LexErr.{LexErr}
use Rattle.pt_literals.specs.declared.token.Token.{Token}
use Rattle.pt_lexer.specs.Faults.{IsTokens, IsRefused as HasNoTokens}
use Rattle.pt_tree.specs.Syntax.{Stms}
use Rattle.pt_tree.specs.StatementFold.{script_of}
use Rattle.pt_tree.specs.declared.statement.Script.{Script}
use Rattle.pt_scopes.specs.Mentions.{places_script}
use Rattle.pt_scopes.specs.Refusals.{fault_of}
use Rattle.pt_scopes.specs.Resolved.{IsResolved}
use Rattle.pt_scopes.specs.declared.scope.ScopeErr.{ScopeErr}
use Rattle.pt_scopes.specs.declared.scopes.Scopes.{Scopes}
use Rattle.pt_front.specs.Refusals.{of_lexer, of_syntax, of_scopes}
use Rattle.pt_front.specs.Syntax.{AreScript, AreNoScript}
use Rattle.pt_front.specs.declared.refusal.Refusal.{Refusal}
use Rattle.pt_front.specs.declared.syntax.SyntaxErr.{SyntaxErr}

-- the text has tokens that are this script, and nothing is at fault in its declarations
pub record IsScript (text : List ℕ) (script : Stms) : Type 0 where
  pub tokens : List Token
  pub are_tokens : IsTokens text tokens
  pub are_script : AreScript tokens script
  pub no_fault : fault_of (places_script script) ≡ None

-- the text is refused: it has no tokens, they are no script, or its names have no scopes
pub data IsRefused (text : List ℕ) : Refusal → Type 0 where
  no_tokens : (e : LexErr) (r : Refusal) → HasNoTokens text e → of_lexer e ≡ r → IsRefused text r
  no_script : (ts : List Token) (e : SyntaxErr) (r : Refusal) → IsTokens text ts → AreNoScript ts e → of_syntax e ≡ r → IsRefused text r
  no_scopes : (ts : List Token) (script : Stms) (e : ScopeErr) (r : Refusal) → IsTokens text ts → AreScript ts script
      → fault_of (places_script script) ≡ Some e → of_scopes e ≡ r → IsRefused text r

-- the tree of the text's script, and the scopes of its names
pub record IsFront (text : List ℕ) (tree : Script) (scopes : Scopes) : Type 0 where
  pub is_script : IsScript text (script_of tree)
  pub is_resolved : IsResolved (places_script (script_of tree)) scopes
