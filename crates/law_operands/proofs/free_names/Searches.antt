-- The searches outwards for the owner of a name and for a class.
use Rattle.std.proofs.Common.{◌≡◌, ℕ, zero, suc, ◌≤◌, Bool, true, false, if◌then◌else◌, List, Option, Some, None, refl, sym, ap, ◌∙◌, subst, arith, eq-eqb}
use Rattle.std.specs.Prelude.{◌==◌, ◌&&◌, ◌||◌, slice_get}
use Rattle.pt_scopes.specs.declared.region.Facts.{Facts}
use Rattle.pt_scopes.specs.declared.region.Kind.{Kind}
use Rattle.pt_scopes.specs.declared.region.Kind.TheVariants as kind
use Rattle.pt_scopes.specs.declared.region.Region.{Region}
use Rattle.pt_scopes.specs.declared.region.Verdict.{Verdict}
use Rattle.pt_scopes.specs.declared.region.Verdict.TheVariants.{Own, Nobody, Outwards}
use Rattle.pt_scopes.specs.Places.{Places}
use Rattle.pt_scopes.specs.Scope.{home_of, is_class, meant_at, owner, owner_from, owns, settled, verdict, verdict_at}
use Rattle.pt_tree.specs.Syntax.{Name}
use Rattle.sem_control.specs.control.Turn as T
use Rattle.sem_names.specs.Naming.{cell_or_local, is_captured, of_owner, owned, variable}
use Rattle.sem_names.specs.Regions.{around_in, class_around, class_at, class_or}
use Rattle.law_operands.proofs.free_names.Outwards.{Found, never, nothing_is}

apart_is : {X : Type 0} (r q : ℕ) → (r == q) ≡ false → Some r ≡ Some q → X
apart_is r q apart is = let same : r ≡ q = (let there : Some r ≡ Some q = is in cc) in never (sym apart ∙ eq-eqb r q same)

function_step : (own global : Bool) (a r q : ℕ) (f : ℕ → Option ℕ) → (r == q) ≡ false
    → settled (if own then Own else if global then Nobody else Outwards a) r f ≡ Some q → f a ≡ Some q
function_step true global a r q f apart is = apart_is r q apart is
function_step false true a r q f apart is = nothing_is q is
function_step false false a r q f apart is = is

comprehension_step : (own : Bool) (a r q : ℕ) (f : ℕ → Option ℕ) → (r == q) ≡ false → settled (if own then Own else Outwards a) r f ≡ Some q → f a ≡ Some q
comprehension_step true a r q f apart is = apart_is r q apart is
comprehension_step false a r q f apart is = is

owner_step : (t : Facts) (here : Region) (k : Kind) (r q : ℕ) (f : ℕ → Option ℕ) → (r == q) ≡ false → settled (verdict t here k) r f ≡ Some q
    → (around_in here.around k ≡ Some here.around) × (f here.around ≡ Some q)
owner_step t here kind.Module r q f apart is = nothing_is q is
owner_step t here kind.Function r q f apart is = (refl, function_step (owns t) t.global here.around r q f apart is)
owner_step t here kind.Class r q f apart is = (refl, is)
owner_step t here kind.Comprehension r q f apart is = (refl, comprehension_step (owns t) here.around r q f apart is)

pub owner_found : (rs : List Region) (look : ℕ → Facts) (q : ℕ) → Found rs q (λ n r. owner n rs look r)
owner_found rs look q = record {
  none = λ r is. nothing_is q is;
  missing = λ n r at is. nothing_is q (sym (ap (λ o. settled (verdict_at (look r) o) r (λ p. owner n rs look p)) at) ∙ is);
  step = λ n r here at apart is.
      owner_step (look r) here here.kind r q (λ p. owner n rs look p) apart (sym (ap (λ o. settled (verdict_at (look r) o) r (λ p. owner n rs look p)) at) ∙ is);
}

-- more steps find no less

settled_more : (v : Verdict) (r q : ℕ) (f g : ℕ → Option ℕ) → ((p : ℕ) → f p ≡ Some q → g p ≡ Some q) → settled v r f ≡ Some q → settled v r g ≡ Some q
settled_more Own r q f g le is = is
settled_more Nobody r q f g le is = is
settled_more (Outwards p) r q f g le is = le p is

pub owner_more : (rs : List Region) (look : ℕ → Facts) (q n m r : ℕ) → n ≤ m → owner n rs look r ≡ Some q → owner m rs look r ≡ Some q
owner_more rs look q zero m r le is = nothing_is q is
owner_more rs look q (suc n) zero r le is = absurd (omega (arith, le))
owner_more rs look q (suc n) (suc m) r le is =
    settled_more (verdict_at (look r) (slice_get rs r)) r q (λ p. owner n rs look p) (λ p. owner m rs look p)
    (λ p there. owner_more rs look q n m p (omega (arith, le)) there) is

class_step : (here : Region) (k : Kind) (r q : ℕ) (f : ℕ → Option ℕ) → (r == q) ≡ false → class_or r here.around k f ≡ Some q
    → (around_in here.around k ≡ Some here.around) × (f here.around ≡ Some q)
class_step here kind.Module r q f apart is = nothing_is q is
class_step here kind.Function r q f apart is = (refl, is)
class_step here kind.Class r q f apart is = apart_is r q apart is
class_step here kind.Comprehension r q f apart is = (refl, is)

pub class_found : (rs : List Region) (q : ℕ) → Found rs q (λ n r. class_around n rs r)
class_found rs q = record {
  none = λ r is. nothing_is q is;
  missing = λ n r at is. nothing_is q (sym (ap (λ o. class_at r o (λ p. class_around n rs p)) at) ∙ is);
  step = λ n r here at apart is.
      class_step here here.kind r q (λ p. class_around n rs p) apart (sym (ap (λ o. class_at r o (λ p. class_around n rs p)) at) ∙ is);
}

-- what is found is a class

abbrev pub ClassAt : List Region → ℕ → Type 0
ClassAt rs q = (here : Region) × (slice_get rs q ≡ Some here) × (here.kind ≡ kind.Class)

class_by : (rs : List Region) (here : Region) (k : Kind) (r q : ℕ) (f : ℕ → Option ℕ) → here.kind ≡ k → slice_get rs r ≡ Some here
    → class_or r here.around k f ≡ Some q → (f here.around ≡ Some q → ClassAt rs q) → ClassAt rs q
class_by rs here kind.Module r q f e at is rest = nothing_is q is
class_by rs here kind.Function r q f e at is rest = rest is
class_by rs here kind.Class r q f e at is rest =
    let same : r ≡ q = (let there : Some r ≡ Some q = is in cc) in
    (here, subst (λ p. slice_get rs p ≡ Some here) same at, e)
class_by rs here kind.Comprehension r q f e at is rest = rest is

class_in : (rs : List Region) (o : Option Region) (r q : ℕ) (f : ℕ → Option ℕ) → slice_get rs r ≡ o → class_at r o f ≡ Some q
    → ((p : ℕ) → f p ≡ Some q → ClassAt rs q) → ClassAt rs q
class_in rs None r q f at is rest = nothing_is q is
class_in rs (Some here) r q f at is rest = class_by rs here here.kind r q f refl at is (rest here.around)

pub class_is : (rs : List Region) (n r q : ℕ) → class_around n rs r ≡ Some q → ClassAt rs q
class_is rs zero r q is = nothing_is q is
class_is rs (suc n) r q is = class_in rs (slice_get rs r) r q (λ p. class_around n rs p) refl is (λ p there. class_is rs n p q there)

-- whose name is meant in a region is seen from there

unless : (b : Bool) (o : Option ℕ) (q : ℕ) → (if b then None else o) ≡ Some q → o ≡ Some q
unless true o q is = nothing_is q is
unless false o q is = is

pub seen_too : (rs : List Region) (look : ℕ → Facts) (r q : ℕ) (o : Option Region) → meant_at rs look r o ≡ Some q → owner_from rs look r ≡ Some q
seen_too rs look r q None is = nothing_is q is
seen_too rs look r q (Some here) is = unless (is_class here.kind && (owns (look r) || (look r).global)) (owner_from rs look r) q is

-- a free variable has an owner in another block, and its own name
pub record HasOwner (g : Places) (h : ℕ) (x : Name) (o : Option ℕ) : Type 0 where
  pub owner : ℕ
  pub is : o ≡ Some owner
  pub apart : (home_of g.regions owner == h) ≡ false
  pub name : (of_owner g h x o).name ≡ x

not_kept : {X : Type 0} (b : Bool) → cell_or_local b ≡ T.free → X
not_kept true is = absurd (let same : T.cell ≡ T.free = is in cc)
not_kept false is = absurd (let same : T.local ≡ T.free = is in cc)

pub free_owner : (g : Places) (h : ℕ) (x : Name) (o : Option ℕ) → (of_owner g h x o).scope ≡ T.free → HasOwner g h x o
free_owner g h x None free = absurd (let same : T.global ≡ T.free = free in cc)
free_owner g h x (Some q) free =
    let parts = by (home_of g.regions q == h) refl free in
    record { owner = q; is = refl; apart = parts.0; name = parts.1 }
  where
    by : (b : Bool) → (home_of g.regions q == h) ≡ b → (if b then owned g q x else variable T.free x).scope ≡ T.free
        → ((home_of g.regions q == h) ≡ false) × ((if b then owned g q x else variable T.free x).name ≡ x)
    by true e f = not_kept (is_captured g q x) f
    by false e f = (e, refl)
