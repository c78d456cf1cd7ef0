-- What is raised, and what handlers find, keeps a store sound.
use Rattle.std.proofs.Common.{◌≡◌, ◌<◌, ◌≤◌, ℕ, Bool, true, false, List, [], ◌∷◌, length, Option, None, Some, slice_get, if◌then◌else◌, refl, sym, subst, ap, arith}
use Rattle.std.specs.Prelude.{codes}
use Rattle.std.specs.List.{list_all, list_any}
use Rattle.pt_base.specs.declared.numbers.ObjId.{ObjId}
use Rattle.pt_base.specs.declared.what.What.TheVariants.{Feature}
use Rattle.sem_control.specs.control.Turn as T
use Rattle.sem_control.specs.control.Turn.{Throw}
use Rattle.pt_heap.specs.declared.value.Value.{Value}
use Rattle.pt_heap.specs.declared.value.Value.TheVariants as value
use Rattle.pt_heap.specs.declared.object.Object.{Object}
use Rattle.pt_heap.specs.declared.object.Object.TheVariants as object
use Rattle.pt_heap.specs.Sound.{IsClassAt, IsSound, IsWithin, place_in}
use Rattle.pt_content.specs.pt_attrs.Look.{object_of}
use Rattle.pt_builtin_objects.specs.Start.{start_objects}
use Rattle.sem_run.specs.run.Host.{Here, made, beyond, answer}
use Rattle.pt_host.specs.declared.places.TheConstants.{ASSERTION_ERROR, BASE_EXCEPTION, RUNTIME_ERROR, TYPE_ERROR}
use Rattle.pt_host.specs.declared.raising.Raisable.{Raisable}
use Rattle.pt_host.specs.declared.raising.Raisable.TheVariants.{Exception, Class, Neither}
use Rattle.pt_host.specs.World.{Stores, Allotted, allot, with_objects}
use Rattle.pt_host.specs.Primitives.{arguments_of}
use Rattle.pt_host.specs.Errors.{arise_while, error, object_place, raise_saying}
use Rattle.pt_prims.specs.Classes.{derives}
use Rattle.pt_host.specs.Leaving.{error_at}
use Rattle.pt_host.specs.Calls.{initializer}
use Rattle.pt_host.specs.Raising.{object_raisable, raisable, Standing, as_standing, is_found, standing, raise_object, raise_neither, with_cause, raise_caused, raise_from, raise_with_cause, raise_standing, raise_active, throws, handler_classes, is_exception_class, is_of_class, is_taken, matches}
use Rattle.pt_host.specs.Sound.{AllWithin, AllotsSound, IsSoundFrom, IsWithinIf, KeepsSound, ThrowWithin}
use Rattle.pt_prims.proofs.Places.{Below, if-grows, none-below, one-below, within-grows}
use Rattle.pt_host.proofs.Within.{Anything, allot-sound, error-fits, heap-grows, raise-sound, raise-text-sound}
use Rattle.pt_host.proofs.EntriesSound.{arise-length, arise-sound, cause-length, cause-sound}

-- what a value stands for lies in the heap
abbrev RaisableWithin : List Object → Raisable → Type 0
RaisableWithin h (Exception id) = id.0 < length h
RaisableWithin h (Class id scripted) = IsClassAt h id.0
RaisableWithin h Neither = Unit {0}

abbrev StandsSound : List Object → Standing → Type 0
StandsSound h (made (Some id) k) = (length h ≤ length k) × IsSound start_objects k × (id.0 < length k)
StandsSound h (made None k) = (length h ≤ length k) × IsSound start_objects k
StandsSound h (beyond what) = Unit {0}

object-raisable : (h : List Object) (id : ObjId) (o : Option Object) → slice_get h id.0 ≡ o → id.0 < length h → RaisableWithin h (object_raisable h id o)
object-raisable h id (Some (object.Error x)) at l = l
object-raisable h id (Some (object.Class c)) at l = by (derives h BASE_EXCEPTION id)
  where
    by : (b : Bool) → RaisableWithin h (if b then Class id c.scripted else Neither)
    by true = (c, at)
    by false = tt
object-raisable h id o at l = tt

value-raisable : (h : List Object) (v : Value) → IsWithin h v → RaisableWithin h (raisable h v)
value-raisable h (value.Obj id) l = object-raisable h id (slice_get h id.0) refl l
value-raisable h v l = tt

value-standing : (h k : List Object) (v : Value) → length h ≤ length k → IsSound start_objects k → IsWithin k v → StandsSound h (made (object_place (Some v)) k)
value-standing h k (value.Obj id) l s w = (l, s, w)
value-standing h k value.None l s w = (l, s)
value-standing h k (value.Bool b) l s w = (l, s)
value-standing h k (value.Int z) l s w = (l, s)
value-standing h k value.Ellipsis l s w = (l, s)
value-standing h k value.NotImplemented l s w = (l, s)

allotted-standing : (h : List Object) (a : Allotted) → AllotsSound h a → StandsSound h (as_standing a)
allotted-standing h (made v k) s = value-standing h k v s.0 s.1 s.2
allotted-standing h (beyond what) s = tt

new-standing : (h : List Object) (id : ObjId) → IsSound start_objects h → IsClassAt h id.0 → StandsSound h (as_standing (allot (error id [] None None) h))
new-standing h id s w =
    allotted-standing h (allot (error id [] None None) h) (allot-sound h (error id [] None None) s (error-fits h id [] None None w tt tt tt))

standing-sound : (h : List Object) (r : Raisable) → IsSound start_objects h → RaisableWithin h r → StandsSound h (standing r h)
standing-sound h (Exception id) s w = (omega arith, s, w)
standing-sound h (Class id false) s w = new-standing h id s w
standing-sound h (Class id true) s w = by (is_found (initializer h id))
  where
    by : (b : Bool) → StandsSound h (if b then beyond Feature else as_standing (allot (error id [] None None) h))
    by true = tt
    by false = new-standing h id s w
standing-sound h Neither s w = (omega arith, s)

module _ {A : Type 0} (P : List Object → A → Type 0) (n : ℕ) (st : Stores) (r : Here Value) (s : IsSoundFrom n st) (active : IsWithinIf st.world.heap r.active) where
  abbrev heap : List Object
  heap = st.world.heap

  grown : (k : List Object) → length heap ≤ length k → IsSound start_objects k → IsSoundFrom n (with_objects k st)
  grown k l sound = heap-grows n n st k s sound l (omega (arith, s.objects, l))

  object-raised : (id : ObjId) (k : List Object) → length heap ≤ length k → IsSound start_objects k → id.0 < length k → KeepsSound P n (raise_object {A = A} id k r st)
  object-raised id k l sound w =
      let same : length (arise_while (object_place r.active) id k) ≡ length k = arise-length (object_place r.active) id k in (
        grown (arise_while (object_place r.active) id k) (omega (arith, same, l)) (arise-sound r.active id k (if-grows heap k r.active l active) sound),
        omega (arith, same, w),
      )

  neither-raised : (k : List Object) → length heap ≤ length k → IsSound start_objects k → KeepsSound P n (raise_neither {A = A} k r st)
  neither-raised k l sound =
      raise-text-sound P n (with_objects k st) TYPE_ERROR (codes "exceptions must derive from BaseException") r (grown k l sound) (_, refl) (if-grows heap k r.active l active)

  caused-raised : (c : Option ObjId) (id : ObjId) (k : List Object) → length heap ≤ length k → IsSound start_objects k → id.0 < length k → Below (length k) (place_in c)
      → KeepsSound P n (raise_caused {A = A} c id k r st)
  caused-raised c id k l sound w below =
      let g : List Object = with_cause c id (slice_get k id.0) k in
      let same : length g ≡ length k = cause-length c id (slice_get k id.0) k in
      object-raised id g (omega (arith, same, l)) (cause-sound c id (slice_get k id.0) k refl below sound) (omega (arith, same, w))

  from-raised : (id : ObjId) (k : List Object) (t : Standing) → length heap ≤ length k → id.0 < length k → StandsSound k t → KeepsSound P n (raise_from {A = A} id t r st)
  from-raised id k (made (Some c) g) l w t = caused-raised (Some c) id g (omega (arith, l, t.0)) t.1 (omega (arith, w, t.0)) (one-below (length g) c.0 t.2)
  from-raised id k (made None g) l w t = neither-raised g (omega (arith, l, t.0)) t.1
  from-raised id k (beyond what) l w t = tt

  given-raised : (id : ObjId) (c : Value) (k : List Object) → length heap ≤ length k → IsSound start_objects k → id.0 < length k → IsWithin heap c
      → KeepsSound P n (raise_from {A = A} id (standing (raisable k c) k) r st)
  given-raised id c k l sound w inside =
      from-raised id k (standing (raisable k c) k) l w (standing-sound k (raisable k c) sound (value-raisable k c (within-grows heap k c l inside)))

  with-cause-raised : (id : ObjId) (c : Option Value) (k : List Object) → length heap ≤ length k → IsSound start_objects k → id.0 < length k → IsWithinIf heap c
      → KeepsSound P n (raise_with_cause {A = A} id c k r st)
  with-cause-raised id None k l sound w inside = object-raised id k l sound w
  with-cause-raised id (Some value.None) k l sound w inside = caused-raised None id k l sound w (none-below (length k))
  with-cause-raised id (Some (value.Obj c)) k l sound w inside = given-raised id (value.Obj c) k l sound w inside
  with-cause-raised id (Some (value.Bool b)) k l sound w inside = given-raised id (value.Bool b) k l sound w inside
  with-cause-raised id (Some (value.Int z)) k l sound w inside = given-raised id (value.Int z) k l sound w inside
  with-cause-raised id (Some value.Ellipsis) k l sound w inside = given-raised id value.Ellipsis k l sound w inside
  with-cause-raised id (Some value.NotImplemented) k l sound w inside = given-raised id value.NotImplemented k l sound w inside

  standing-raised : (t : Standing) (c : Option Value) → StandsSound heap t → IsWithinIf heap c → KeepsSound P n (raise_standing {A = A} t c r st)
  standing-raised (made (Some id) k) c t inside = with-cause-raised id c k t.0 t.1 t.2 inside
  standing-raised (made None k) c t inside = neither-raised k t.0 t.1
  standing-raised (beyond what) c t inside = tt

  active-raised : (a : Option Value) → IsWithinIf heap a → KeepsSound P n (raise_active {A = A} a r st)
  active-raised (Some v) w = (s, w)
  active-raised None w = raise-text-sound P n st RUNTIME_ERROR (codes "no active exception") r s (_, refl) active

  message-within : (m : Option Value) → IsWithinIf heap m → AllWithin heap (arguments_of m)
  message-within None w = tt
  message-within (Some m) w = (w, tt)

  pub throws-sound : (t : Throw Value) → ThrowWithin heap t → KeepsSound P n (throws {A = A} t r st)
  throws-sound (T.raising v c) w = standing-raised (standing (raisable heap v) heap) c (standing-sound heap (raisable heap v) s.heap (value-raisable heap v w.0)) w.1
  throws-sound T.raising_again w = active-raised r.active active
  throws-sound (T.failing m) w = raise-sound P n st ASSERTION_ERROR (arguments_of m) r s (_, refl) (message-within m w) active

module _ (n : ℕ) (st : Stores) (r : Here Value) (s : IsSoundFrom n st) (active : IsWithinIf st.world.heap r.active) where
  taken-sound : (e : Value) (cs : List Value) → KeepsSound Anything n (is_taken e cs r st)
  taken-sound e cs = by (list_all (is_exception_class st.world.heap) cs) (list_any (is_of_class st.world.heap (error_at st.world.heap e)) cs)
    where
      by : (b c : Bool) → KeepsSound Anything n (if b then answer c st else raise_saying TYPE_ERROR (codes "bad argument") r st)
      by true c = (s, tt)
      by false c = raise-text-sound Anything n st TYPE_ERROR (codes "bad argument") r s (_, refl) active

  pub matches-sound : (e c : Value) → KeepsSound Anything n (matches e c r st)
  matches-sound e value.None = (s, tt)
  matches-sound e (value.Obj c) = taken-sound e (handler_classes (value.Obj c) (object_of st.world.heap (value.Obj c)))
  matches-sound e (value.Bool b) = taken-sound e (handler_classes (value.Bool b) None)
  matches-sound e (value.Int z) = taken-sound e (handler_classes (value.Int z) None)
  matches-sound e value.Ellipsis = taken-sound e (handler_classes value.Ellipsis None)
  matches-sound e value.NotImplemented = taken-sound e (handler_classes value.NotImplemented None)
