-- What `resolve` answers, and what its answer tells.
use Rattle.std.specs.Prelude.{◌≡◌, ℕ, slice_get, Option, Some, None}
use Rattle.pt_scopes.specs.declared.scope.Scope.{Scope}
use Rattle.pt_scopes.specs.declared.scope.ScopeErr.{ScopeErr}
use Rattle.pt_scopes.specs.declared.scopes.Scopes.{Scopes}
use Rattle.pt_scopes.specs.Places.{Places}
use Rattle.pt_scopes.specs.NameSets.{is_in}
use Rattle.pt_scopes.specs.Refusals.{fault_of}
use Rattle.pt_scopes.specs.Scope.{scope_at, scope_of}
use Rattle.pt_scopes.specs.Tables.{facts_in}
use Rattle.pt_tree.specs.Syntax.{Name}

abbrev pub scope_told : Scopes → (block : ℕ) → Name → Option Scope
scope_told s b x = scope_at s.table.regions (facts_in s.table.names) (is_in s.captured) x (slice_get s.blocks b)

-- a script without a fault, and the scopes of all names in all blocks
pub record IsResolved (g : Places) (s : Scopes) : Type 0 where
  pub no_fault : fault_of g ≡ None
  pub scopes : (b : ℕ) (x : Name) → scope_told s b x ≡ scope_of g b x

-- a script with this fault as its first
abbrev pub IsRefused : Places → ScopeErr → Type 0
IsRefused g e = fault_of g ≡ Some e
