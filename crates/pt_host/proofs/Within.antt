-- What names objects of a heap does so in a greater one, and what is put behind its objects.
use Rattle.std.proofs.Common.{◌≤◌, ℕ, Bool, true, false, List, [], ◌∷◌, ◌++◌, length, Option, None, Some, slice_get, nat_eq, if◌then◌else◌, refl, ap, ◌∙◌, arith, inl, inr}
use Rattle.std.specs.Prelude.{codes}
use Rattle.std.proofs.lemmas.List.{length-append}
use Rattle.std.proofs.lemmas.List.Elements.{Contains-append_cases}
use Rattle.pt_base.specs.declared.numbers.ObjId.{ObjId}
use Rattle.pt_base.specs.declared.what.What.TheVariants.{Heap}
use Rattle.pt_heap.specs.declared.value.Value.{Value}
use Rattle.pt_heap.specs.declared.value.Value.TheVariants as value
use Rattle.pt_heap.specs.declared.object.Object.{Object}
use Rattle.pt_heap.specs.declared.object.Object.TheVariants.{Str, Class}
use Rattle.pt_heap.specs.Sound.{place_of, place_in, places_in, IsClassAt, Fits, IsSound, IsWithin}
use Rattle.pt_heap.proofs.SoundLemmas.{sound-add}
use Rattle.pt_builtin_objects.specs.Start.{start_objects}
use Rattle.pt_names.specs.Names.{Named}
use Rattle.pt_heap.specs.Limits.{object_limit}
use Rattle.pt_content.specs.Changes.{next_object}
use Rattle.pt_prims.proofs.Places.{Below, none-below, one-below, values-below, of-take, class-within, if-grows}
use Rattle.sem_run.specs.run.Host as H
use Rattle.sem_run.specs.run.Host.{Here, made, beyond}
use Rattle.pt_host.specs.declared.places.TheConstants.{GENERATOR_EXIT, RECURSION_ERROR, RUNTIME_ERROR, VALUE_ERROR}
use Rattle.pt_host.specs.World.{Stores, Allotted, with_objects, allot, allot_then}
use Rattle.pt_host.specs.Trees.{answer_with, raise_with}
use Rattle.pt_host.specs.Errors.{object_place, error, error_saying, raise_error, raise_saying}
use Rattle.pt_host.specs.Sound.{IsWithinIf, AllWithin, CellsWithin, NamesWithin, IsSoundFrom, KeepsSound, AllotsSound, MakesSoundFailures}

abbrev pub Anything : {A : Type 0} → List Object → A → Type 0
Anything h a = Unit {0}

pub cells-grow : (h k : List Object) (os : List (Option Value)) → length h ≤ length k → CellsWithin h os → CellsWithin k os
cells-grow h k [] l w = tt
cells-grow h k (o ∷ os) l w = (if-grows h k o l w.0, cells-grow h k os l w.1)

names-grow : (h k : List Object) (es : Named) → length h ≤ length k → NamesWithin h es → NamesWithin k es
names-grow h k [] l w = tt
names-grow h k (e ∷ es) l w = (if-grows h k e.1 l w.0, names-grow h k es l w.1)

-- another heap that is sound and no smaller
pub heap-grows : (n m : ℕ) (st : Stores) (k : List Object) → IsSoundFrom n st → IsSound start_objects k → length st.world.heap ≤ length k → m ≤ length k
    → IsSoundFrom m (with_objects k st)
heap-grows n m st k s sound l e = record {
  objects = e;
  heap = sound;
  globals = names-grow st.world.heap k st.world.globals l s.globals;
  cells = cells-grow st.world.heap k st.world.cells l s.cells;
  names = names-grow st.world.heap k st.names.values l s.names;
}

-- a store that is sound has the objects that it has
pub from-here : (n : ℕ) (st : Stores) → IsSoundFrom n st → IsSoundFrom (length st.world.heap) st
from-here n st s = record { objects = omega arith; heap = s.heap; globals = s.globals; cells = s.cells; names = s.names }

pub at-least : (n m : ℕ) (st : Stores) → n ≤ m → IsSoundFrom m st → IsSoundFrom n st
at-least n m st l s = record { objects = omega (arith, l, s.objects); heap = s.heap; globals = s.globals; cells = s.cells; names = s.names }

pub both-below : (n : ℕ) (xs ys : List ℕ) → Below n xs → Below n ys → Below n (xs ++ ys)
both-below n xs ys a b p c = elim (Contains-append_cases xs ys p c) [ inl h ↦ a p h | inr h ↦ b p h ]

pub value-below : (h : List Object) (v : Value) → IsWithin h v → Below (length h) (place_of v)
value-below h value.None w = none-below (length h)
value-below h (value.Bool b) w = none-below (length h)
value-below h (value.Int z) w = none-below (length h)
value-below h value.Ellipsis w = none-below (length h)
value-below h value.NotImplemented w = none-below (length h)
value-below h (value.Obj id) w = one-below (length h) id.0 w

pub object-below : (h : List Object) (o : Option Value) → IsWithinIf h o → Below (length h) (place_in (object_place o))
object-below h None w = none-below (length h)
object-below h (Some value.None) w = none-below (length h)
object-below h (Some (value.Bool b)) w = none-below (length h)
object-below h (Some (value.Int z)) w = none-below (length h)
object-below h (Some value.Ellipsis) w = none-below (length h)
object-below h (Some value.NotImplemented) w = none-below (length h)
object-below h (Some (value.Obj id)) w = one-below (length h) id.0 w

pub below-value : (h : List Object) (v : Value) → Below (length h) (place_of v) → IsWithin h v
below-value h value.None b = tt
below-value h (value.Bool x) b = tt
below-value h (value.Int z) b = tt
below-value h value.Ellipsis b = tt
below-value h value.NotImplemented b = tt
below-value h (value.Obj id) b = b id.0 (0, omega arith, refl)

-- the classes of the start stand where they stood
pub class-stays : (h : List Object) (p : ℕ) → IsSound start_objects h → IsClassAt start_objects p → IsClassAt h p
class-stays h p s c = (c.0, of-take (length start_objects) h p (Class c.0) (ap (λ l. slice_get l p) s.begins ∙ c.1))

pub error-fits : (h : List Object) (c : ObjId) (args : List Value) (cause active : Option Value) → IsClassAt h c.0 → AllWithin h args → IsWithinIf h cause → IsWithinIf h active
    → Fits h (length h) (error c args cause active)
error-fits h c args cause active k a w x =
    let n : ℕ = length h in
    record {
      places =
          both-below n (c.0 ∷ []) (places_in args ++ place_in (object_place cause) ++ place_in (object_place active) ++ []) (one-below n c.0 (class-within h c.0 k))
          (both-below n (places_in args ++ place_in (object_place cause) ++ place_in (object_place active)) []
          (both-below n (places_in args ++ place_in (object_place cause)) (place_in (object_place active))
          (both-below n (places_in args) (place_in (object_place cause)) (values-below h args a) (object-below h cause w)) (object-below h active x))
          (none-below n));
      classes = k;
    }

pub text-fits : (h : List Object) (t : List ℕ) → Fits h (length h) (Str t)
text-fits h t = record { places = none-below (length h); classes = tt }

pub next-within : (h : List Object) (o : Object) → IsWithin (h ++ o ∷ []) (next_object h)
next-within h o = omega (arith, length-append h (o ∷ []))

pub more-sound : (h : List Object) (o : Object) → IsSound start_objects h → Fits h (length h) o → IsSound start_objects (h ++ o ∷ [])
more-sound h o s f = sound-add h o start_objects s f

pub one-more : (n m : ℕ) (st : Stores) (o : Object) → IsSoundFrom n st → m ≤ length st.world.heap → Fits st.world.heap (length st.world.heap) o
    → IsSoundFrom m (with_objects (st.world.heap ++ o ∷ []) st)
one-more n m st o s l f =
    let h : List Object = st.world.heap in
    heap-grows n m st (h ++ o ∷ []) s (more-sound h o s.heap f) (omega (arith, length-append h (o ∷ []))) (omega (arith, length-append h (o ∷ []), l))

pub allot-sound : (h : List Object) (o : Object) → IsSound start_objects h → Fits h (length h) o → AllotsSound h (allot o h)
allot-sound h o s f = by (nat_eq (length h) object_limit)
  where
    by : (b : Bool) → AllotsSound h (if b then beyond Heap else made (next_object h) (h ++ o ∷ []))
    by true = tt
    by false = (omega (arith, length-append h (o ∷ [])), more-sound h o s f, next-within h o)

from-smaller : (h k : List Object) (a : Allotted) → length h ≤ length k → AllotsSound k a → AllotsSound h a
from-smaller h k (made v g) l s = (omega (arith, l, s.0), s.1, s.2)
from-smaller h k (beyond what) l s = tt

then-sound : (h : List Object) (a : Allotted) (f : Value → List Object → Allotted) → AllotsSound h a
    → ((v : Value) (k : List Object) → length h ≤ length k → IsSound start_objects k → IsWithin k v → AllotsSound k (f v k)) → AllotsSound h (allot_then a f)
then-sound h (made v k) f s c = from-smaller h k (f v k) s.0 (c v k s.0 s.1 s.2)
then-sound h (beyond what) f s c = tt

pub thrown-sound : {A : Type 0} (P : List Object → A → Type 0) (n : ℕ) (st : Stores) (a : Allotted) → IsSoundFrom n st → AllotsSound st.world.heap a → KeepsSound P n (raise_with a st)
thrown-sound P n st (made v k) s m = (heap-grows n n st k s m.1 m.0 (omega (arith, s.objects, m.0)), m.2)
thrown-sound P n st (beyond what) s m = tt

pub given-sound : (n : ℕ) (st : Stores) (a : Allotted) → IsSoundFrom n st → AllotsSound st.world.heap a → KeepsSound IsWithin n (answer_with a st)
given-sound n st (made v k) s m = (heap-grows n n st k s m.1 m.0 (omega (arith, s.objects, m.0)), m.2)
given-sound n st (beyond what) s m = tt

-- exceptions of classes of the start
pub error-sound : (h : List Object) (c : ObjId) (args : List Value) (cause active : Option Value) → IsSound start_objects h → IsClassAt start_objects c.0 → AllWithin h args
    → IsWithinIf h cause → IsWithinIf h active → AllotsSound h (allot (error c args cause active) h)
error-sound h c args cause active s k a w x = allot-sound h (error c args cause active) s (error-fits h c args cause active (class-stays h c.0 s k) a w x)

pub saying-sound : (h : List Object) (c : ObjId) (t : List ℕ) (cause active : Option Value) → IsSound start_objects h → IsClassAt start_objects c.0 → IsWithinIf h cause
    → IsWithinIf h active → AllotsSound h (error_saying c t cause active h)
saying-sound h c t cause active s k w x =
    then-sound h (allot (Str t) h) (λ v g. allot (error c (v ∷ []) cause active) g) (allot-sound h (Str t) s (text-fits h t))
    (λ v g l r y. error-sound g c (v ∷ []) cause active r k (y, tt) (if-grows h g cause l w) (if-grows h g active l x))

pub raise-sound : {A : Type 0} (P : List Object → A → Type 0) (n : ℕ) (st : Stores) (c : ObjId) (args : List Value) (h : Here Value)
    → IsSoundFrom n st → IsClassAt start_objects c.0 → AllWithin st.world.heap args → IsWithinIf st.world.heap h.active → KeepsSound P n (raise_error c args h st)
raise-sound P n st c args h s k a w =
    thrown-sound P n st (allot (error c args None h.active) st.world.heap) s (error-sound st.world.heap c args None h.active s.heap k a tt w)

pub raise-text-sound : {A : Type 0} (P : List Object → A → Type 0) (n : ℕ) (st : Stores) (c : ObjId) (t : List ℕ) (h : Here Value)
    → IsSoundFrom n st → IsClassAt start_objects c.0 → IsWithinIf st.world.heap h.active → KeepsSound P n (raise_saying c t h st)
raise-text-sound P n st c t h s k w =
    thrown-sound P n st (error_saying c t None h.active st.world.heap) s (saying-sound st.world.heap c t None h.active s.heap k tt w)

pub failures_sound : MakesSoundFailures
failures_sound H.too_deep x h s u w = saying-sound h RECURSION_ERROR (codes "too many activations") None x s (_, refl) tt w
failures_sound H.generator_exit x h s u w = error-sound h GENERATOR_EXIT [] None None s (_, refl) tt tt tt
failures_sound (H.stop_iteration v) x h s u w = saying-sound h RUNTIME_ERROR (codes "generator raised StopIteration") (Some v) (Some v) s (_, refl) u u
failures_sound H.not_local x h s u w = saying-sound h VALUE_ERROR (codes "event is not local") None x s (_, refl) tt w
