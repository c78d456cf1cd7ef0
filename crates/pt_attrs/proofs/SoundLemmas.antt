-- Names that are given and taken leave a sound heap sound.
use Rattle.std.proofs.Common.{◌≡◌, ◌∙◌, ◌<◌, ◌≤◌, ◌⊎◌, inl, inr, ℕ, zero, suc, Bool, true, false, not, ◌&&◌, ◌==◌, List, [], ◌∷◌, ◌++◌, Option, None, Some, Contains, length, take, set, slice_get, refl, sym, ap, subst, arith, true≢false, nat_lt, slice_index_or, OnOk, OnErr, Result, Ok, Err, eqb-true, if◌then◌else◌}
use Rattle.std.specs.Str.{bytes_eq}
use Rattle.std.proofs.lemmas.List.Elements.{Contains-append_left, Contains-append_right, Contains-append_cases}
use Rattle.std.proofs.lemmas.Bool.{ltb-true, ltb-false}
use Rattle.pt_base.specs.declared.numbers.ObjId.{ObjId}
use Rattle.pt_base.specs.declared.memory.Memory.{Memory as OutOfMemory}
use Rattle.pt_heap.specs.declared.value.Value.{Value}
use Rattle.pt_heap.specs.declared.value.Value.TheVariants as value
use Rattle.pt_heap.specs.declared.object.Object.{Object}
use Rattle.pt_heap.specs.declared.object.Object.TheVariants as object
use Rattle.pt_heap.specs.declared.object.Class.{Class as ClassObject}
use Rattle.pt_heap.specs.Entries.{Entry, found, put, without}
use Rattle.pt_heap.specs.Sound.{place_of, place_in, places_in, entry_places, places_of, IsClassAt, HasClasses, Fits, IsSound, IsWithin}
use Rattle.pt_heap.proofs.SoundLemmas.{sound-set}
use Rattle.pt_builtin_objects.specs.Start.{start_objects}
use Rattle.pt_dicts.specs.Chain.{class_in}
use Rattle.pt_attrs.specs.Store.{held, is_scripted, names_in, with_names, stored, stored_at, stored_in, deleted, deleted_at, deleted_in, without_name, StaysSound, TakesAt}
use Rattle.pt_attrs.proofs.StoreLemmas.{held-names}

-- the places in the names after one was given
put-places : (k : List ℕ) (v : Value) (es : List Entry) (p : ℕ) → Contains (entry_places (put k value.None v es)) p → Contains (entry_places es) p ⊎ Contains (place_of v) p
put-places k v [] p c = elim (Contains-append_cases (place_of v) [] p c) [ inl h ↦ inr h | inr h ↦ inl h ]
put-places k v (e ∷ es) p c = by (bytes_eq k e.key) c (put-places k v es p)
  where
    by : (b : Bool) → Contains (entry_places (if b then record { key = e.key; first = e.first; value = v } ∷ es else e ∷ put k value.None v es)) p
        → (Contains (entry_places (put k value.None v es)) p → Contains (entry_places es) p ⊎ Contains (place_of v) p)
        → Contains (entry_places (e ∷ es)) p ⊎ Contains (place_of v) p
    by true c rest =
        elim (Contains-append_cases (place_of e.first ++ place_of v) (entry_places es) p c) [
          | inl h ↦ elim (Contains-append_cases (place_of e.first) (place_of v) p h) [
            | inl i ↦ inl (Contains-append_left (place_of e.first ++ place_of e.value) (entry_places es) p (Contains-append_left (place_of e.first) (place_of e.value) p i))
            | inr i ↦ inr i
          ]
          | inr h ↦ inl (Contains-append_right (place_of e.first ++ place_of e.value) (entry_places es) p h)
        ]
    by false c rest =
        elim (Contains-append_cases (place_of e.first ++ place_of e.value) (entry_places (put k value.None v es)) p c) [
          | inl h ↦ inl (Contains-append_left (place_of e.first ++ place_of e.value) (entry_places es) p h)
          | inr h ↦ elim (rest h) [
            | inl i ↦ inl (Contains-append_right (place_of e.first ++ place_of e.value) (entry_places es) p i)
            | inr i ↦ inr i
          ]
        ]

-- and after one was taken
without-places : (k : List ℕ) (es : List Entry) (p : ℕ) → Contains (entry_places (without k es)) p → Contains (entry_places es) p
without-places k [] p c = c
without-places k (e ∷ es) p c = by (bytes_eq k e.key) c (without-places k es p)
  where
    by : (b : Bool) → Contains (entry_places (if b then es else e ∷ without k es)) p
        → (Contains (entry_places (without k es)) p → Contains (entry_places es) p)
        → Contains (entry_places (e ∷ es)) p
    by true c rest = Contains-append_right (place_of e.first ++ place_of e.value) (entry_places es) p c
    by false c rest =
        elim (Contains-append_cases (place_of e.first ++ place_of e.value) (entry_places (without k es)) p c) [
          | inl h ↦ Contains-append_left (place_of e.first ++ place_of e.value) (entry_places es) p h
          | inr h ↦ Contains-append_right (place_of e.first ++ place_of e.value) (entry_places es) p (rest h)
        ]

-- the places of an object are those of its names and others, which stay
other-or-name : (xs ms ns : List ℕ) (p : ℕ) → Contains (xs ++ ns) p → Contains (xs ++ ms) p ⊎ Contains ns p
other-or-name xs ms ns p c = elim (Contains-append_cases xs ns p c) [ inl h ↦ inl (Contains-append_left xs ms p h) | inr h ↦ inr h ]

places-with : (o : Object) (ns : List Entry) (p : ℕ) → Contains (places_of (with_names o ns)) p → Contains (places_of o) p ⊎ Contains (entry_places ns) p
places-with (object.Class c) ns p h = other-or-name (place_in c.base) (entry_places c.names) (entry_places ns) p h
places-with (object.Instance x) ns p h = other-or-name (x.class.0 ∷ []) (entry_places x.names) (entry_places ns) p h
places-with (object.Error x) ns p h = other-or-name (x.class.0 ∷ places_in x.args ++ place_in x.cause ++ place_in x.context) (entry_places x.names) (entry_places ns) p h
places-with _ ns p h = inl h

names-places : (o : Object) (p : ℕ) → Contains (entry_places (names_in o)) p → Contains (places_of o) p
names-places (object.Class c) p h = Contains-append_right (place_in c.base) (entry_places c.names) p h
names-places (object.Instance x) p h = Contains-append_right (x.class.0 ∷ []) (entry_places x.names) p h
names-places (object.Error x) p h = Contains-append_right (x.class.0 ∷ places_in x.args ++ place_in x.cause ++ place_in x.context) (entry_places x.names) p h
names-places _ p h = absurd (omega (arith, h.1))

classes-with : (h : List Object) (i : ℕ) (o : Object) (ns : List Entry) → HasClasses h i o → HasClasses h i (with_names o ns)
classes-with h i (object.Class c) ns k = k
classes-with h i (object.Instance x) ns k = k
classes-with h i (object.Error x) ns k = k
classes-with h i _ ns k = k

fits-with : (h : List Object) (i : ℕ) (o : Object) (ns : List Entry) → Fits h i o → ((p : ℕ) → Contains (entry_places ns) p → p < length h) → Fits h i (with_names o ns)
fits-with h i o ns f within =
    record {
      places = λ p c. elim (places-with o ns p c) [ inl k ↦ f.places p k | inr k ↦ within p k ];
      classes = classes-with h i o ns f.classes;
    }

-- a class stays one
class-with : (h : List Object) (i : ℕ) (o : Object) (ns : List Entry) → slice_get h i ≡ Some o → IsClassAt h i → (c : ClassObject) × (with_names o ns ≡ object.Class c)
class-with h i o ns at k = by o (let same : o ≡ object.Class k.0 = (let both : Some o ≡ Some (object.Class k.0) = sym at ∙ k.1 in cc) in same)
  where
    by : (o : Object) → o ≡ object.Class k.0 → (c : ClassObject) × (with_names o ns ≡ object.Class c)
    by o e = (record k.0 { names = ns }, ap (λ x. with_names x ns) e)

-- whether no script may give an object names
abbrev is_bare : Object → Bool
is_bare (object.Class c) = not c.scripted
is_bare (object.Instance x) = x.class.0 == 0
is_bare (object.Error x) = false
is_bare _ = true

abbrev are_bare : List Object → Bool
are_bare [] = true
are_bare (o ∷ os) = is_bare o && are_bare os

start-bare : are_bare start_objects ≡ true
start-bare = refl

and-left : (a b : Bool) → (a && b) ≡ true → a ≡ true
and-left true b h = refl
and-left false b h = h

and-right : (a b : Bool) → (a && b) ≡ true → b ≡ true
and-right true b h = h
and-right false b h = absurd (true≢false (sym h))

bare-at : (os : List Object) (i : ℕ) (o : Object) → are_bare os ≡ true → slice_get os i ≡ Some o → is_bare o ≡ true
bare-at [] i o h at = cc
bare-at (x ∷ os) zero o h at = let same : x ≡ o = cc in subst (λ y. is_bare y ≡ true) same (and-left _ _ h)
bare-at (x ∷ os) (suc i) o h at = bare-at os i o (and-right _ _ h) at

take-get : {X : Type 0} (n : ℕ) (xs : List X) (i : ℕ) (o : X) → slice_get xs i ≡ Some o → i < n → slice_get (take n xs) i ≡ Some o
take-get zero xs i o h l = absurd (omega arith)
take-get (suc n) [] i o h l = cc
take-get (suc n) (x ∷ xs) zero o h l = h
take-get (suc n) (x ∷ xs) (suc i) o h l = take-get n xs i o h (omega arith)

get-take : {X : Type 0} (n : ℕ) (xs : List X) (i : ℕ) (o : X) → slice_get (take n xs) i ≡ Some o → slice_get xs i ≡ Some o
get-take zero xs i o h = cc
get-take (suc n) [] i o h = cc
get-take (suc n) (x ∷ xs) zero o h = h
get-take (suc n) (x ∷ xs) (suc i) o h = get-take n xs i o h

abbrev Begins : List Object → Type 0
Begins h = take (length start_objects) h ≡ start_objects

-- what a run starts with holds no names
bare-class : (b : Bool) (ns : List Entry) → not b ≡ true → (if b then Some ns else None) ≡ None
bare-class true ns h = absurd (true≢false (sym h))
bare-class false ns h = refl

object-unscripted : (h : List Object) → Begins h → is_scripted (class_in (slice_get h 0)) ≡ false
object-unscripted h begins = ap (λ o. is_scripted (class_in o)) (get-take (length start_objects) h 0 _ (ap (λ l. slice_get l 0) begins))

bare-holds : (h : List Object) (o : Object) → Begins h → is_bare o ≡ true → held h o ≡ None
bare-holds h (object.Class c) begins b = bare-class c.scripted c.names b
bare-holds h (object.Instance x) begins b =
    let zeroth : x.class.0 ≡ 0 = (eqb-true x.class.0 0 b) in
    ap (λ s. if s then Some x.names else None) (ap (λ p. is_scripted (class_in (slice_get h p))) zeroth ∙ object-unscripted h begins)
bare-holds h (object.Error x) begins b = absurd (true≢false (sym b))
bare-holds h _ begins b = refl

behind-start : (h : List Object) (i : ℕ) (o : Object) (ns : List Entry) → Begins h → slice_get h i ≡ Some o → held h o ≡ Some ns → length start_objects ≤ i
behind-start h i o ns begins at holds = by (nat_lt i (length start_objects)) refl
  where
    by : (b : Bool) → nat_lt i (length start_objects) ≡ b → length start_objects ≤ i
    by false e = ltb-false i (length start_objects) e
    by true e =
        let there = take-get (length start_objects) h i o at (ltb-true i (length start_objects) e) in
        let bare = bare-at start_objects i o start-bare (sym (ap (λ l. slice_get l i) begins) ∙ there) in
        let none = bare-holds h o begins bare in
        absurd (let no : None ≡ Some ns = sym none ∙ holds in cc)

-- other names in an object that holds some
sound-with : (h : List Object) (i : ℕ) (o : Object) (ms ns : List Entry) → slice_get h i ≡ Some o → held h o ≡ Some ms → ((p : ℕ) → Contains (entry_places ns) p → p < length h) → IsSound start_objects h → IsSound start_objects (set h i (with_names o ns))
sound-with h i o ms ns at holds within s =
    sound-set h i (with_names o ns) start_objects s (record {
      fits = fits-with h i o ns (s.fits i o at) within;
      class = class-with h i o ns at;
      keeps_builtins = behind-start h i o ms s.begins at holds;
    })

-- the names that an object has lie in a sound heap
names-within : (h : List Object) (i : ℕ) (o : Object) (ms : List Entry) → slice_get h i ≡ Some o → held h o ≡ Some ms → IsSound start_objects h → (p : ℕ) → Contains (entry_places ms) p → p < length h
names-within h i o ms at holds s p c = (s.fits i o at).places p (names-places o p (subst (λ ns. Contains (entry_places ns) p) (held-names h o ms holds) c))

value-within : (h : List Object) (v : Value) → IsWithin h v → (p : ℕ) → Contains (place_of v) p → p < length h
value-within h (value.Obj id) w p c = by c.0 c.1 c.2
  where
    by : (k : ℕ) → k < 1 → slice_index_or (id.0 ∷ []) k p ≡ p → p < length h
    by zero l e = subst (λ q. q < length h) e w
    by (suc k) l e = absurd (omega arith)
value-within h _ w p c = absurd (omega (arith, c.1))

pub stored-sound : (h : List Object) (to : Value) (key : List ℕ) (v : Value) (new : List Object) → stored h to key v ≡ Some new → IsSound start_objects h → IsWithin h v → IsSound start_objects new
stored-sound h (value.Obj id) key v new is s w = by (slice_get h id.0) refl is
  where
    inside : (o : Object) → slice_get h id.0 ≡ Some o → (n : Option (List Entry)) → held h o ≡ n → stored_in h id.0 key v o n ≡ Some new → IsSound start_objects new
    inside o at None e k = absurd cc
    inside o at (Some ns) e k =
        let same : set h id.0 (with_names o (put key value.None v ns)) ≡ new = cc in
        subst (IsSound start_objects) same (sound-with h id.0 o ns (put key value.None v ns) at e (λ p c. elim (put-places key v ns p c) [ inl m ↦ names-within h id.0 o ns at e s p m | inr m ↦ value-within h v w p m ]) s)

    by : (o : Option Object) → slice_get h id.0 ≡ o → stored_at h id.0 key v o ≡ Some new → IsSound start_objects new
    by None e k = absurd cc
    by (Some o) e k = inside o e (held h o) refl k
stored-sound h _ key v new is s w = absurd cc

pub deleted-sound : (h : List Object) (from : Value) (key : List ℕ) (new : List Object) → deleted h from key ≡ Some new → IsSound start_objects h → IsSound start_objects new
deleted-sound h (value.Obj id) key new is s = by (slice_get h id.0) refl is
  where
    taken : (o : Object) → slice_get h id.0 ≡ Some o → (ns : List Entry) → held h o ≡ Some ns → (f : Option Value) → without_name h id.0 key o ns f ≡ Some new → IsSound start_objects new
    taken o at ns e None k = absurd cc
    taken o at ns e (Some f) k =
        let same : set h id.0 (with_names o (without key ns)) ≡ new = cc in
        subst (IsSound start_objects) same (sound-with h id.0 o ns (without key ns) at e (λ p c. names-within h id.0 o ns at e s p (without-places key ns p c)) s)

    inside : (o : Object) → slice_get h id.0 ≡ Some o → (n : Option (List Entry)) → held h o ≡ n → deleted_in h id.0 key o n ≡ Some new → IsSound start_objects new
    inside o at None e k = absurd cc
    inside o at (Some ns) e k = taken o at ns e (found key ns) k

    by : (o : Option Object) → slice_get h id.0 ≡ o → deleted_at h id.0 key o ≡ Some new → IsSound start_objects new
    by None e k = absurd cc
    by (Some o) e k = inside o e (held h o) refl k
deleted-sound h _ key new is s = absurd cc

-- what is changed as the definitions say
pub put-sound : (h : List Object) (to : Value) (key : List ℕ) (v : Value) (new : List Object) (r : Result (Unit {0}) OutOfMemory) → OnOk r (stored h to key v ≡ Some new) → OnErr r (new ≡ h) → IsWithin h v → StaysSound h new
put-sound h to key v new (Ok u) ok err w s = stored-sound h to key v new ok s w
put-sound h to key v new (Err e) ok err w s = subst (IsSound start_objects) (sym err) s

pub take-sound : (h : List Object) (id : ObjId) (key : List ℕ) (new : List Object) (had : Bool) → TakesAt h new id key had → StaysSound h new
take-sound h id key new true t s = deleted-sound h (value.Obj id) key new t s
take-sound h id key new false t s = subst (IsSound start_objects) (sym t.1) s
