-- The scope of a name in a block, by the set of the places that bind, declare and read it (Language Reference 4.2.2).
use Rattle.std.specs.Prelude.{ℕ, zero, suc, Bool, true, false, not, ◌&&◌, ◌||◌, ◌==◌, List, length, slice_get, Option, Some, None, bytes_eq, if◌then◌else◌}
use Rattle.std.specs.List.{list_any}
use Rattle.pt_scopes.specs.declared.region.Facts.{Facts}
use Rattle.pt_scopes.specs.declared.region.Kind.{Kind}
use Rattle.pt_scopes.specs.declared.region.Kind.TheVariants as kind
use Rattle.pt_scopes.specs.declared.region.Mention.{Mention}
use Rattle.pt_scopes.specs.declared.region.Region.{Region}
use Rattle.pt_scopes.specs.declared.region.Role.{Role}
use Rattle.pt_scopes.specs.declared.region.Role.TheVariants.{Read, Bind, Parameter, Global, Nonlocal, Misplaced}
use Rattle.pt_scopes.specs.declared.region.Verdict.{Verdict}
use Rattle.pt_scopes.specs.declared.region.Verdict.TheVariants.{Own, Nobody, Outwards}
use Rattle.pt_scopes.specs.declared.scope.Scope.{Scope}
use Rattle.pt_scopes.specs.declared.scope.Scope.TheVariants as scope
use Rattle.pt_scopes.specs.Places.{Places}
use Rattle.pt_tree.specs.Syntax.{Name}

abbrev pub is_binding : Role → Bool
is_binding Read = false
is_binding Bind = true
is_binding Parameter = true
is_binding Global = false
is_binding Nonlocal = false
is_binding Misplaced = false

abbrev pub is_global : Role → Bool
is_global Read = false
is_global Bind = false
is_global Parameter = false
is_global Global = true
is_global Nonlocal = false
is_global Misplaced = false

abbrev pub is_nonlocal : Role → Bool
is_nonlocal Read = false
is_nonlocal Bind = false
is_nonlocal Parameter = false
is_nonlocal Global = false
is_nonlocal Nonlocal = true
is_nonlocal Misplaced = false

-- a mention of the name in the region
abbrev pub is_of : (region : ℕ) → Name → Mention → Bool
is_of r x m = (m.region == r) && bytes_eq m.name x

-- some mention of the name in the region has such a role
abbrev pub has : (Role → Bool) → List Mention → (region : ℕ) → Name → Bool
has p ms r x = list_any (λ m. is_of r x m && p m.role) ms

-- whether a region binds the name, and how it declares it
abbrev pub facts : List Mention → Name → (region : ℕ) → Facts
facts ms x r = record { binds = has is_binding ms r x; global = has is_global ms r x; nonlocal = has is_nonlocal ms r x }

-- it binds the name without declaring it
abbrev pub owns : Facts → Bool
owns f = f.binds && not f.global && not f.nonlocal

-- A function or comprehension that owns the name has it, and a function that declares it global gives it to the module. Classes
-- are passed by.
abbrev pub verdict : Facts → Region → Kind → Verdict
verdict f here kind.Module = Nobody
verdict f here kind.Class = Outwards here.around
verdict f here kind.Function = if owns f then Own else if f.global then Nobody else Outwards here.around
verdict f here kind.Comprehension = if owns f then Own else Outwards here.around

abbrev pub verdict_at : Facts → Option Region → Verdict
verdict_at f None = Nobody
verdict_at f (Some here) = verdict f here here.kind

abbrev pub settled : Verdict → (region : ℕ) → (outwards : ℕ → Option ℕ) → Option ℕ
settled Own r outwards = Some r
settled Nobody r outwards = None
settled (Outwards q) r outwards = outwards q

-- the function or comprehension whose name it is, seen from a region outwards; each region stands in one that starts before it,
-- so that there are no more steps than regions
abbrev pub owner : (steps : ℕ) → List Region → (ℕ → Facts) → (region : ℕ) → Option ℕ
owner zero rs look r = None
owner (suc n) rs look r = settled (verdict_at (look r) (slice_get rs r)) r (λ q. owner n rs look q)

abbrev pub owner_from : List Region → (ℕ → Facts) → (region : ℕ) → Option ℕ
owner_from rs look r = owner (length rs) rs look r

abbrev pub is_class : Kind → Bool
is_class kind.Module = false
is_class kind.Function = false
is_class kind.Class = true
is_class kind.Comprehension = false

-- whose name is meant in a region: a class has names of its own
abbrev pub meant_at : List Region → (ℕ → Facts) → (region : ℕ) → Option Region → Option ℕ
meant_at rs look r None = None
meant_at rs look r (Some here) = if is_class here.kind && (owns (look r) || (look r).global) then None else owner_from rs look r

abbrev pub meant : List Region → (ℕ → Facts) → (region : ℕ) → Option ℕ
meant rs look r = meant_at rs look r (slice_get rs r)

abbrev pub is_just : Option ℕ → ℕ → Bool
is_just None r = false
is_just (Some q) r = q == r

abbrev pub home_at : (region : ℕ) → Option Region → ℕ
home_at r None = r
home_at r (Some here) = here.home

-- the block to which a region belongs
abbrev pub home_of : List Region → (region : ℕ) → ℕ
home_of rs r = home_at r (slice_get rs r)

-- a mention in another block than the function that owns the name
abbrev pub is_free_use : List Region → (Name → ℕ → Facts) → (region : ℕ) → Name → Mention → Bool
is_free_use rs look r x m = bytes_eq m.name x && is_just (meant rs (look x) m.region) r && not (home_of rs m.region == r)

abbrev pub is_captured : List Region → (Name → ℕ → Facts) → List Mention → (region : ℕ) → Name → Bool
is_captured rs look ms r x = list_any (λ m. is_free_use rs look r x m) ms

-- a name that isn't bound in the block
abbrev pub unbound_scope : (owner : Option ℕ) → Scope
unbound_scope None = scope.Global
unbound_scope (Some q) = scope.Free

abbrev pub function_scope : (captured : Bool) → Scope
function_scope captured = if captured then scope.Cell else scope.Local

abbrev pub bound_scope : (captured : Bool) → Kind → Scope
bound_scope captured kind.Module = scope.Global
bound_scope captured kind.Function = function_scope captured
bound_scope captured kind.Class = scope.Class
-- no block
bound_scope captured kind.Comprehension = function_scope captured

abbrev pub declared_scope : Facts → (captured : Bool) → Kind → (owner : Option ℕ) → Scope
declared_scope f captured k o = if f.global then scope.Global else if f.nonlocal then scope.Free else if f.binds then bound_scope captured k else unbound_scope o

abbrev pub scope_in : List Region → (Name → ℕ → Facts) → (captured : ℕ → Name → Bool) → (region : ℕ) → Name → Option Region → Option Scope
scope_in rs look captured r x None = None
scope_in rs look captured r x (Some here) = Some (declared_scope (look x r) (captured r x) here.kind (owner_from rs (look x) here.around))

abbrev pub scope_at : List Region → (Name → ℕ → Facts) → (captured : ℕ → Name → Bool) → Name → Option ℕ → Option Scope
scope_at rs look captured x None = None
scope_at rs look captured x (Some r) = scope_in rs look captured r x (slice_get rs r)

-- the scope of a name in the block with this number; none behind the last block
abbrev pub scope_of : Places → (block : ℕ) → Name → Option Scope
scope_of g b x = scope_at g.regions (facts g.mentions) (is_captured g.regions (facts g.mentions) g.mentions) x (slice_get g.blocks b)
