-- Which blocks have names of a class.
use Rattle.std.proofs.Common.{◌≡◌, ℕ, Bool, true, false, if◌then◌else◌, List, [], ◌∷◌, Option, Some, None, refl, ap}
use Rattle.std.specs.Prelude.{slice_get}
use Rattle.pt_scopes.specs.declared.region.Facts.{Facts}
use Rattle.pt_scopes.specs.declared.region.Kind.{Kind}
use Rattle.pt_scopes.specs.declared.region.Kind.TheVariants as kind
use Rattle.pt_scopes.specs.declared.region.Region.{Region}
use Rattle.pt_scopes.specs.declared.scope.Scope.TheVariants as scope
use Rattle.pt_scopes.specs.Places.{Places}
use Rattle.pt_scopes.specs.Scope.{bound_scope, facts, function_scope, is_captured as is_captured_in, scope_at, scope_in, unbound_scope}
use Rattle.pt_tree.specs.Syntax.{Name}
use Rattle.sem_control.specs.control.Turn as T
use Rattle.sem_names.specs.Around.{around_by}
use Rattle.sem_names.specs.Laws.{IsClassBody, kind_at, kind_of}
use Rattle.sem_names.specs.Naming.{as_control, cell_or_local, comprehension_in, is_captured, of_owner, owned, scope_or_global, seen_if, variable, variable_in}
use Rattle.sem_names.specs.Script.{Naming, spelled_in}

not_global : {X : Type 0} → T.global ≡ T.of_class → X
not_global is = absurd (let same : T.global ≡ T.of_class = is in cc)

not_free : {X : Type 0} → T.free ≡ T.of_class → X
not_free is = absurd (let same : T.free ≡ T.of_class = is in cc)

not_kept : {X : Type 0} (b : Bool) → cell_or_local b ≡ T.of_class → X
not_kept true is = absurd (let same : T.cell ≡ T.of_class = is in cc)
not_kept false is = absurd (let same : T.local ≡ T.of_class = is in cc)

not_of_function : {X : Type 0} (b : Bool) → as_control (function_scope b) ≡ T.of_class → X
not_of_function true is = absurd (let same : T.cell ≡ T.of_class = is in cc)
not_of_function false is = absurd (let same : T.local ≡ T.of_class = is in cc)

bound : (captured : Bool) (k : Kind) → as_control (bound_scope captured k) ≡ T.of_class → k ≡ kind.Class
bound c kind.Module is = not_global is
bound c kind.Function is = not_of_function c is
bound c kind.Class is = refl
bound c kind.Comprehension is = not_of_function c is

unbound : {X : Type 0} (o : Option ℕ) → as_control (unbound_scope o) ≡ T.of_class → X
unbound None is = not_global is
unbound (Some q) is = not_free is

declared : (g n b captured : Bool) (k : Kind) (o : Option ℕ)
    → as_control (if g then scope.Global else if n then scope.Free else if b then bound_scope captured k else unbound_scope o) ≡ T.of_class → k ≡ kind.Class
declared true n b c k o is = not_global is
declared false true b c k o is = not_free is
declared false false true c k o is = bound c k is
declared false false false c k o is = unbound o is

module _ (rs : List Region) (look : Name → ℕ → Facts) (captured : ℕ → Name → Bool) (x : Name) where
  in_region : (h : ℕ) (o : Option Region) → scope_or_global (scope_in rs look captured h x o) ≡ T.of_class → kind_of o ≡ Some kind.Class
  in_region h None is = not_global is
  in_region h (Some here) is = ap (λ (k : Kind). Some k) (declared (look x h).global (look x h).nonlocal (look x h).binds (captured h x) here.kind _ is)

  in_block : (o : Option ℕ) → scope_or_global (scope_at rs look captured x o) ≡ T.of_class → kind_at rs o ≡ Some kind.Class
  in_block None is = not_global is
  in_block (Some h) is = in_region h (slice_get rs h) is

not_owned : {X : Type 0} (g : Places) (q : ℕ) (x : Name) (b : Bool) → (if b then owned g q x else variable T.free x).scope ≡ T.of_class → X
not_owned g q x true is = not_kept (is_captured g q x) is
not_owned g q x false is = not_free is

not_seen : {X : Type 0} (g : Places) (h : ℕ) (x : Name) (o : Option ℕ) → (of_owner g h x o).scope ≡ T.of_class → X
not_seen g h x None is = not_global is
not_seen g h x (Some q) is = not_owned g q x _ is

not_seen_if : {X : Type 0} (g : Places) (r : Option ℕ) (x : Name) → (seen_if g r x).scope ≡ T.of_class → X
not_seen_if g None x is = not_global is
not_seen_if g (Some r) x is = not_seen g _ x _ is

of_variable : (g : Naming) (b : ℕ) (within : List ℕ) (x : Name) → (variable_in g b within x).scope ≡ T.of_class → (within ≡ []) × IsClassBody g.places b
of_variable g b [] x is =
    let p = g.places in
    (refl, in_block p.regions (facts p.mentions) (is_captured_in p.regions (facts p.mentions) p.mentions) x (slice_get p.blocks b) is)
of_variable g b (n ∷ ns) x is = not_seen_if g.places (comprehension_in g (slice_get g.places.blocks b) n) x is

pub names_of_class : {V : Type 0} (v : V) (g : Naming) (b : ℕ) (within : List ℕ) (x : Name)
    → ((around_by v g b).variable within x).scope ≡ T.of_class → (within ≡ []) × IsClassBody g.places b
names_of_class v g b within x is = of_variable g b within (spelled_in g b x) is
