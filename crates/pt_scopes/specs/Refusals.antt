-- The first fault in the declarations of a script, in source order (Language Reference 7.6, 7.9, 7.10, 7.12, 7.13, 8.7).
use Rattle.std.specs.Prelude.{ℕ, zero, suc, Bool, true, false, ◌&&◌, ◌||◌, ◌==◌, List, [], ◌∷◌, ◌++◌, length, slice_get, Option, Some, None, is_some, bytes_eq, if◌then◌else◌}
use Rattle.std.specs.List.{list_any}
use Rattle.pt_scopes.specs.declared.region.Earlier.{Earlier}
use Rattle.pt_scopes.specs.declared.region.Facts.{Facts}
use Rattle.pt_scopes.specs.declared.region.Kind.{Kind}
use Rattle.pt_scopes.specs.declared.region.Kind.TheVariants as kind
use Rattle.pt_scopes.specs.declared.region.Mention.{Mention}
use Rattle.pt_scopes.specs.declared.region.Region.{Region}
use Rattle.pt_scopes.specs.declared.region.Role.{Role}
use Rattle.pt_scopes.specs.declared.region.Role.TheVariants.{Read, Bind, Parameter, Global, Nonlocal, Misplaced}
use Rattle.pt_scopes.specs.declared.region.Verdict.{Verdict}
use Rattle.pt_scopes.specs.declared.region.Verdict.TheVariants.{Own, Outwards}
use Rattle.pt_scopes.specs.declared.scope.ScopeErr.{ScopeErr}
use Rattle.pt_scopes.specs.declared.scope.ScopeErr.TheVariants.{NoBinding, Twice, LateDecl, Outside}
use Rattle.pt_scopes.specs.Places.{Places}
use Rattle.pt_scopes.specs.Scope.{has, facts, owner_from, settled, is_global, is_nonlocal}
use Rattle.pt_tree.specs.Syntax.{Name}

abbrev pub is_parameter : Role → Bool
is_parameter Read = false
is_parameter Bind = false
is_parameter Parameter = true
is_parameter Global = false
is_parameter Nonlocal = false
is_parameter Misplaced = false

abbrev pub is_use : Role → Bool
is_use Read = true
is_use Bind = true
is_use Parameter = false
is_use Global = false
is_use Nonlocal = false
is_use Misplaced = false

-- a comprehension keeps the names that it binds, and hands the others to the region in which it stands
abbrev pub handed : Facts → Region → Kind → Verdict
handed f here kind.Module = Own
handed f here kind.Function = Own
handed f here kind.Class = Own
handed f here kind.Comprehension = if f.binds then Own else Outwards here.around

abbrev pub handed_at : Facts → Option Region → Verdict
handed_at f None = Own
handed_at f (Some here) = handed f here here.kind

-- the region in which a name that is mentioned in a region is read or bound
abbrev pub seat : (steps : ℕ) → List Region → (ℕ → Facts) → (region : ℕ) → Option ℕ
seat zero rs look r = None
seat (suc n) rs look r = settled (handed_at (look r) (slice_get rs r)) r (λ q. seat n rs look q)

abbrev pub seat_from : List Region → (ℕ → Facts) → (region : ℕ) → Option ℕ
seat_from rs look r = seat (length rs) rs look r

abbrev pub is_seat : Option ℕ → ℕ → Bool
is_seat None r = false
is_seat (Some q) r = q == r

-- the name was read or bound in the region
abbrev pub is_used : List Region → (Name → ℕ → Facts) → (region : ℕ) → Name → Mention → Bool
is_used rs look r x m = bytes_eq m.name x && is_use m.role && is_seat (seat_from rs (look x) m.region) r

-- what was said of a name in a region
abbrev pub earlier : List Region → (Name → ℕ → Facts) → List Mention → Name → (region : ℕ) → Earlier
earlier rs look before x r = record { parameter = has is_parameter before r x; global = has is_global before r x; nonlocal = has is_nonlocal before r x; used = list_any (λ m. is_used rs look r x m) before }

-- the region outside of one
abbrev pub around_at : (region : ℕ) → Option Region → ℕ
around_at r None = r
around_at r (Some here) = here.around

abbrev pub is_offered : List Region → (ℕ → Facts) → (region : ℕ) → Bool
is_offered rs look r = is_some (owner_from rs look (around_at r (slice_get rs r)))

-- a declaration beside a parameter or the other declaration, or behind a use
abbrev pub declaration_fault : Earlier → (other : Bool) → Mention → Option ScopeErr
declaration_fault e other m = if e.parameter || other then Some (Twice m.name m.line) else if e.used then Some (LateDecl m.name m.line) else None

-- the fault of a mention behind those before it; of several the first in the list of refusals
abbrev pub fault : (offered : Bool) → Earlier → Mention → Role → Option ScopeErr
fault o e m Read = None
fault o e m Bind = None
fault o e m Parameter = if e.parameter then Some (Twice m.name m.line) else None
fault o e m Global = declaration_fault e e.nonlocal m
fault o e m Nonlocal = if o then declaration_fault e e.global m else Some (NoBinding m.name m.line)
fault o e m Misplaced = Some (Outside m.line)

abbrev pub fault_at : List Region → (Name → ℕ → Facts) → (before : List Mention) → Mention → Option ScopeErr
fault_at rs look before m = fault (is_offered rs (look m.name) m.region) (earlier rs look before m.name m.region) m m.role

abbrev pub or_else : Option ScopeErr → Option ScopeErr → Option ScopeErr
or_else None o = o
or_else (Some e) o = Some e

-- the fault of the first mention that has one
abbrev pub first_fault : List Region → (Name → ℕ → Facts) → (before : List Mention) → List Mention → Option ScopeErr
first_fault rs look before [] = None
first_fault rs look before (m ∷ ms) = or_else (fault_at rs look before m) (first_fault rs look (before ++ m ∷ []) ms)

abbrev pub fault_of : Places → Option ScopeErr
fault_of g = first_fault g.regions (facts g.mentions) [] g.mentions
