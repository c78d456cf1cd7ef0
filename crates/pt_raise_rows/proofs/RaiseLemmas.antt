-- What a value stands for, and what raising it leads to.
use Rattle.std.proofs.Common.{◌≡◌, ◌∙◌, Bool, true, false, List, [], ◌∷◌, ◌++◌, length, nat_eq, slice_get, Option, Some, None, refl, sym, ap, subst, if◌then◌else◌}
use Rattle.pt_base.specs.declared.numbers.ObjId.{ObjId}
use Rattle.pt_base.specs.declared.what.What.{What}
use Rattle.pt_base.specs.declared.what.What.TheVariants.{Feature, Heap}
use Rattle.pt_heap.specs.declared.value.Value.{Value}
use Rattle.pt_heap.specs.declared.value.Value.TheVariants as value
use Rattle.pt_heap.specs.declared.object.Object.{Object}
use Rattle.pt_heap.specs.Limits.{object_limit}
use Rattle.pt_content.specs.Changes.{next_object}
use Rattle.pt_content.specs.pt_attrs.declared.look.Found.{Found}
use Rattle.pt_code.specs.View.{Ins}
use Rattle.sem_code.specs.slots.CodeObject.{CodeObject}
use Rattle.sem_code.specs.slots.Slots.{Slots}
use Rattle.sem_run.specs.run.Host.{Here, made, beyond}
use Rattle.sem_run.specs.transitions.Successors.{outside}
use Rattle.pt_moves.specs.sem_rows.pt_host.World.{Program, Stores, Allotted, IsAllotted, allot, with_objects}
use Rattle.pt_moves.specs.sem_rows.pt_host.Trees.{Tree}
use Rattle.pt_moves.specs.sem_rows.pt_host.Calls.{initializer}
use Rattle.pt_moves.specs.sem_rows.pt_host.Errors.{error, object_place}
use Rattle.pt_moves.specs.sem_rows.pt_host.Raising.{Standing as HostStanding, as_standing, is_found, raisable, standing, with_cause, raise_from, raise_standing, raise_with_cause}
use Rattle.pt_moves.specs.sem_rows.pt_host.declared.raising.Raisable.TheVariants.{Class}
use Rattle.pt_moves.specs.sem_rows.declared.heap_rows.progress.Progress.{Progress}
use Rattle.pt_moves.specs.sem_rows.declared.heap_rows.progress.Progress.TheVariants as progress
use Rattle.pt_moves.specs.sem_rows.heap_rows.Leads.{by_tree, giving}
use Rattle.pt_moves.specs.sem_rows.heap_rows.Told.{told}
use Rattle.pt_raise_rows.specs.declared.raising.Standing.{Standing}
use Rattle.pt_raise_rows.specs.declared.raising.Standing.TheVariants as standings
use Rattle.pt_raise_rows.specs.Raised.{CausedBy, IsStanding, RaisedBy, Throws, neither_raised}

-- a heap that is full takes none
only-heap : (o : Object) (h : List Object) (what : What) → allot o h ≡ beyond what → what ≡ Heap
only-heap o h what e = by (nat_eq (length h) object_limit) (next_object h) (h ++ o ∷ []) e
  where
    by : (b : Bool) (v : Value) (k : List Object) → ◌≡◌ {A = Allotted} (if b then beyond Heap else made v k) (beyond what) → what ≡ Heap
    by true v k e = cc
    by false v k e = absurd (cc)

module _ (h k : List Object) (c : ObjId) where
  abbrev exception : Object
  exception = error c [] None None

  pub made_standing : (id : ObjId) → IsAllotted (allot exception h) (Some (value.Obj id)) k → IsStanding (standing (Class c false) h) (standings.Exception id) k
  made_standing id given = by (allot exception h) given
    where
      by : (a : Allotted) → IsAllotted a (Some (value.Obj id)) k → IsStanding (as_standing a) (standings.Exception id) k
      by (made v g) (e, f) =
          let same : v ≡ value.Obj id = cc in
          subst (λ x. IsStanding (made (object_place (Some x)) g) (standings.Exception id) k) (sym same) (refl, f)
      by (beyond what) e = absurd (cc)

  pub no_room : IsAllotted (allot exception h) None k → IsStanding (standing (Class c false) h) (standings.Outside Heap) k
  no_room given = by (allot exception h) given (λ what. only-heap exception h what)
    where
      by : (a : Allotted) → IsAllotted a None k → ((what : What) → a ≡ beyond what → what ≡ Heap) → IsStanding (as_standing a) (standings.Outside Heap) k
      by (made v g) (e, f) only = absurd (cc)
      by (beyond what) e only = ap standings.Outside (sym (only what refl))

  -- a script's class, by what begins its instances
  abbrev standing_unless : Option Found → HostStanding
  standing_unless f = if is_found f then beyond Feature else standing (Class c false) h

  pub made_scripted : (f : Option Found) (s : Standing) → f ≡ initializer h c → f ≡ None → IsStanding (standing (Class c false) h) s k → IsStanding (standing (Class c true) h) s k
  made_scripted f s is none stands = subst (λ t. IsStanding t s k) (ap standing_unless (sym none ∙ is)) stands

  pub has_initializer : (f : Option Found) (g : Found) → f ≡ initializer h c → f ≡ Some g → IsStanding (standing (Class c true) h) (standings.Outside Feature) k
  has_initializer f g is some = subst (λ t. IsStanding t (standings.Outside Feature) k) (ap standing_unless (sym some ∙ is)) refl

-- where it leads, by what the host finds
module _ (id : ObjId) (h k : List Object) where
  pub without_cause : CausedBy id None h (progress.Raises id) h
  unfolding CausedBy Throws
  without_cause program code i ss here st = refl

  pub without_context : k ≡ with_cause None id (slice_get h id.0) h → CausedBy id (Some value.None) h (progress.Raises id) k
  unfolding CausedBy Throws
  without_context e = subst (λ g. CausedBy id (Some value.None) h (progress.Raises id) g) (sym e) (λ program code i ss here st. refl)

-- a cause that isn't None
module _ (id : ObjId) (h : List Object) (c : Value) (given : c ≡ value.None → ⊥) where
  from-cause : {A : Type 0} (here : Here Value) (st : Stores) → raise_with_cause {A = A} id (Some c) h here st ≡ raise_from id (standing (raisable h c) h) here st
  from-cause here st = by c given
    where
      by : {A : Type 0} (v : Value) → (v ≡ value.None → ⊥) → raise_with_cause {A = A} id (Some v) h here st ≡ raise_from id (standing (raisable h v) h) here st
      by value.None other = absurd (other refl)
      by (value.Bool b) other = refl
      by (value.Int z) other = refl
      by value.Ellipsis other = refl
      by value.NotImplemented other = refl
      by (value.Obj x) other = refl

  -- by what the cause stands for
  led : (t : HostStanding) (p : Progress) (k : List Object)
      → ((program : Program) (code : CodeObject Value) (i : Ins) (ss : Slots Value) (here : Here Value) (st : Stores)
      → told program code i here p ss (with_objects k st) ≡ by_tree code i (giving code i ss) ss (raise_from id t here (with_objects h st)))
      → t ≡ standing (raisable h c) h → CausedBy id (Some c) h p k
  unfolding CausedBy Throws
  led t p k leads is program code i ss here st =
      leads program code i ss here st
      ∙ ap (λ x. by_tree code i (giving code i ss) ss (raise_from id x here (with_objects h st))) is
      ∙ ap (λ x. by_tree code i (giving code i ss) ss x) (sym (from-cause here (with_objects h st)))

  pub caused : (d : ObjId) (g k : List Object) → IsStanding (standing (raisable h c) h) (standings.Exception d) g → k ≡ with_cause (Some d) id (slice_get g id.0) g
      → CausedBy id (Some c) h (progress.Raises id) k
  caused d g k stands is = by (standing (raisable h c) h) stands refl
    where
      by : (t : HostStanding) → IsStanding t (standings.Exception d) g → t ≡ standing (raisable h c) h → CausedBy id (Some c) h (progress.Raises id) k
      by (made (Some x) y) (e, f) same =
          let one : d ≡ x = cc in
          subst (λ z. CausedBy id (Some c) h (progress.Raises id) z) (sym (is ∙ ap (λ z. with_cause (Some d) id (slice_get z id.0) z) f ∙ ap (λ z. with_cause (Some z) id (slice_get y id.0) y) one))
          (led (made (Some x) y) (progress.Raises id) (with_cause (Some x) id (slice_get y id.0) y) (λ program code i ss here st. refl) same)
      by (made None y) (e, f) same = absurd (cc)
      by (beyond what) e same = absurd (cc)

  pub no_cause : (k : List Object) → IsStanding (standing (raisable h c) h) standings.Neither k → CausedBy id (Some c) h neither_raised k
  no_cause k stands = by (standing (raisable h c) h) stands refl
    where
      by : (t : HostStanding) → IsStanding t standings.Neither k → t ≡ standing (raisable h c) h → CausedBy id (Some c) h neither_raised k
      by (made (Some x) y) (e, f) same = absurd (cc)
      by (made None y) (e, f) same =
          subst (λ z. CausedBy id (Some c) h neither_raised z) (sym f) (led (made None y) neither_raised y (λ program code i ss here st. refl) same)
      by (beyond what) e same = absurd (cc)

  pub cause_outside : (what : What) (k : List Object) → IsStanding (standing (raisable h c) h) (standings.Outside what) k → CausedBy id (Some c) h (progress.Outside what) k
  cause_outside what k stands = by (standing (raisable h c) h) stands refl
    where
      by : (t : HostStanding) → IsStanding t (standings.Outside what) k → t ≡ standing (raisable h c) h → CausedBy id (Some c) h (progress.Outside what) k
      by (made (Some x) y) (e, f) same = absurd (cc)
      by (made None y) (e, f) same = absurd (cc)
      by (beyond w) e same =
          let one : what ≡ w = cc in
          led (beyond w) (progress.Outside what) k (λ program code i ss here st. ap outside one) same

-- what is raised stands in the heap that was found last
from_old : (id : ObjId) (t : HostStanding) (g h : List Object) (here : Here Value) (st : Stores)
    → ◌≡◌ {A = Tree Value} (raise_from id t here (with_objects g st)) (raise_from id t here (with_objects h st))
from_old id (made (Some c) k) g h here st = refl
from_old id (made None k) g h here st = refl
from_old id (beyond what) g h here st = refl

with_cause_old : (id : ObjId) (c : Option Value) (k g h : List Object) (here : Here Value) (st : Stores)
    → ◌≡◌ {A = Tree Value} (raise_with_cause id c k here (with_objects g st)) (raise_with_cause id c k here (with_objects h st))
with_cause_old id None k g h here st = refl
with_cause_old id (Some value.None) k g h here st = refl
with_cause_old id (Some (value.Obj c)) k g h here st = from_old id (standing (raisable k (value.Obj c)) k) g h here st
with_cause_old id (Some (value.Bool b)) k g h here st = from_old id (standing (raisable k (value.Bool b)) k) g h here st
with_cause_old id (Some (value.Int z)) k g h here st = from_old id (standing (raisable k (value.Int z)) k) g h here st
with_cause_old id (Some value.Ellipsis) k g h here st = from_old id (standing (raisable k value.Ellipsis) k) g h here st
with_cause_old id (Some value.NotImplemented) k g h here st = from_old id (standing (raisable k value.NotImplemented) k) g h here st

-- a value that is raised
module _ (v : Value) (c : Option Value) (h : List Object) where
  value-led : (t : HostStanding) (p : Progress) (k : List Object)
      → ((program : Program) (code : CodeObject Value) (i : Ins) (ss : Slots Value) (here : Here Value) (st : Stores)
      → told program code i here p ss (with_objects k st) ≡ by_tree code i (giving code i ss) ss (raise_standing t c here (with_objects h st)))
      → t ≡ standing (raisable h v) h → RaisedBy v c h p k
  unfolding RaisedBy Throws
  value-led t p k leads is program code i ss here st =
      leads program code i ss here st ∙ ap (λ x. by_tree code i (giving code i ss) ss (raise_standing x c here (with_objects h st))) is

  pub raised : (id : ObjId) (g : List Object) (p : Progress) (k : List Object) → IsStanding (standing (raisable h v) h) (standings.Exception id) g → CausedBy id c g p k → RaisedBy v c h p k
  unfolding CausedBy Throws
  raised id g p k stands caused_so = by (standing (raisable h v) h) stands refl
    where
      by : (t : HostStanding) → IsStanding t (standings.Exception id) g → t ≡ standing (raisable h v) h → RaisedBy v c h p k
      by (made (Some x) y) (e, f) same =
          let one : id ≡ x = cc in
          value-led (made (Some x) y) p k
          (λ program code i ss here st. caused_so program code i ss here st
          ∙ ap (λ z. by_tree code i (giving code i ss) ss (raise_with_cause z c g here (with_objects g st))) one
          ∙ ap (λ z. by_tree code i (giving code i ss) ss (raise_with_cause x c z here (with_objects z st))) f
          ∙ ap (λ t. by_tree code i (giving code i ss) ss t) (with_cause_old x c y y h here st)) same
      by (made None y) (e, f) same = absurd (cc)
      by (beyond what) e same = absurd (cc)

  pub not_raised : (k : List Object) → IsStanding (standing (raisable h v) h) standings.Neither k → RaisedBy v c h neither_raised k
  not_raised k stands = by (standing (raisable h v) h) stands refl
    where
      by : (t : HostStanding) → IsStanding t standings.Neither k → t ≡ standing (raisable h v) h → RaisedBy v c h neither_raised k
      by (made (Some x) y) (e, f) same = absurd (cc)
      by (made None y) (e, f) same =
          subst (λ z. RaisedBy v c h neither_raised z) (sym f) (value-led (made None y) neither_raised y (λ program code i ss here st. refl) same)
      by (beyond what) e same = absurd (cc)

  pub raised_outside : (what : What) (k : List Object) → IsStanding (standing (raisable h v) h) (standings.Outside what) k → RaisedBy v c h (progress.Outside what) k
  raised_outside what k stands = by (standing (raisable h v) h) stands refl
    where
      by : (t : HostStanding) → IsStanding t (standings.Outside what) k → t ≡ standing (raisable h v) h → RaisedBy v c h (progress.Outside what) k
      by (made (Some x) y) (e, f) same = absurd (cc)
      by (made None y) (e, f) same = absurd (cc)
      by (beyond w) e same =
          let one : what ≡ w = cc in
          value-led (beyond w) (progress.Outside what) k (λ program code i ss here st. ap outside one) same
