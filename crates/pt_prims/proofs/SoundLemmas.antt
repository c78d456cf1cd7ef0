-- What a content makes of a sound heap is sound, and what it answers lies there.
use Rattle.std.proofs.Common.{◌≡◌, ◌∙◌, ◌+◌, ◌<◌, ◌≤◌, ℕ, zero, suc, Bool, true, false, List, [], ◌∷◌, ◌++◌, Option, None, Some, Result, Ok, Err, OnOk, OnErr, length, map, nat_le, slice_get, set, if◌then◌else◌, refl, sym, ap, subst, arith, append_assoc}
use Rattle.std.proofs.lemmas.Bool.{false≢true}
use Rattle.std.proofs.lemmas.Bool.Decides.{nat_tests}
use Rattle.std.proofs.lemmas.List.{append-nil, length-append, length-map, length-set}
use Rattle.pt_base.specs.declared.memory.Memory.{Memory}
use Rattle.pt_heap.specs.declared.value.Value.{Value}
use Rattle.pt_heap.specs.declared.object.Class.{Class as ClassObject}
use Rattle.pt_heap.specs.declared.object.Object.{Object}
use Rattle.pt_heap.specs.declared.object.Object.TheVariants as object
use Rattle.pt_heap.specs.Sound.{places_of, HasClasses, IsClassAt, IsSound}
use Rattle.pt_heap.proofs.SoundLemmas.{sound-add, sound-set}
use Rattle.pt_builtin_objects.specs.declared.Kind.{Kind}
use Rattle.pt_builtin_objects.specs.declared.Kind.TheVariants as kind
use Rattle.pt_builtin_objects.specs.Start.{object_of, objects_of, start_objects, start_rows}
use Rattle.pt_content.specs.declared.answer.PrimAns.{PrimAns}
use Rattle.pt_content.specs.declared.answer.PrimAns.TheVariants as answer
use Rattle.pt_content.specs.declared.content.Change.{Change}
use Rattle.pt_content.specs.declared.content.Content.{Content}
use Rattle.pt_content.specs.declared.content.Content.TheVariants as content
use Rattle.pt_content.specs.declared.content.Mutable.{Mutable}
use Rattle.pt_content.specs.declared.content.Mutable.TheVariants as mutable
use Rattle.pt_content.specs.declared.content.NewObject.{NewObject}
use Rattle.pt_content.specs.declared.content.NewObject.TheVariants as new
use Rattle.pt_content.specs.declared.content.Replacement.{Replacement}
use Rattle.pt_content.specs.Changes.{added, changed, has_kind, has_room, holding, made, next_object, places_from, replaced, replaced_by}
use Rattle.pt_prims.specs.Laws.{AllWithin, AnswerIsWithin}
use Rattle.pt_prims.specs.Operations.{grown, if_room, placed}
use Rattle.pt_prims.proofs.Places.{all-grow, from-start, if-grows, none-below, within-grows, Below}

-- what a content names lies in a heap; a new object may name those before it
abbrev pub NewIsWithin : List Object → NewObject → Type 0
NewIsWithin h o = Below (length h) (places_of (made o))

abbrev pub NewAreWithin : List Object → List NewObject → Type 0
NewAreWithin h [] = Unit {0}
NewAreWithin h (o ∷ os) = NewIsWithin h o × NewAreWithin (h ++ made o ∷ []) os

abbrev pub ReplacementIsWithin : List Object → Option Replacement → Type 0
ReplacementIsWithin h None = Unit {0}
ReplacementIsWithin h (Some r) = Below (length h) (places_of (holding r.object))

abbrev pub IsWithinHeap : List Object → Content → Type 0
IsWithinHeap h (content.Value v) = AnswerIsWithin h (answer.Value v)
IsWithinHeap h (content.New o) = NewIsWithin h o
IsWithinHeap h (content.NewValues os) = NewAreWithin h os
IsWithinHeap h (content.Raise class t) = IsClassAt start_objects class.0
IsWithinHeap h (content.Changed c a) = ReplacementIsWithin h c.replacement × NewAreWithin h c.objects × AnswerIsWithin (h ++ map made c.objects) a
IsWithinHeap h c = Unit {0}

-- new objects
new-classes : (h : List Object) (i : ℕ) (o : NewObject) → HasClasses h i (made o)
new-classes h i (new.Text t) = tt
new-classes h i (new.List vs) = tt
new-classes h i (new.Tuple vs) = tt
new-classes h i (new.Dict es) = tt
new-classes h i (new.Set es) = tt
new-classes h i (new.Range r) = tt
new-classes h i (new.Slice s) = tt
new-classes h i (new.Cursor c) = tt
new-classes h i (new.View v) = tt
new-classes h i (new.Method m) = tt
new-classes h i (new.Builtin b) = tt

one-sound : (h : List Object) (o : NewObject) → IsSound start_objects h → NewIsWithin h o → IsSound start_objects (h ++ made o ∷ [])
one-sound h o s w = sound-add h (made o) start_objects s (record { places = w; classes = new-classes h (length h) o })

all-sound : (h : List Object) (os : List NewObject) → IsSound start_objects h → NewAreWithin h os → IsSound start_objects (h ++ map made os)
all-sound h [] s w = subst (λ l. IsSound start_objects l) (sym (append-nil h)) s
all-sound h (o ∷ os) s w =
    let more : List Object = h ++ made o ∷ [] in
    subst (λ l. IsSound start_objects l) (append_assoc h (made o ∷ []) (map made os))
    (all-sound more os (one-sound h o s w.0) w.1)

-- no object of the start is one that changes
abbrev is_changing : Object → Bool
is_changing (object.List vs) = true
is_changing (object.Dict es) = true
is_changing (object.Set es) = true
is_changing (object.Cursor c) = true
is_changing o = false

kind-changes : (m : Mutable) (o : Object) → has_kind m (Some o) ≡ true → is_changing o ≡ true
kind-changes (mutable.List vs) (object.List ws) e = refl
kind-changes (mutable.Dict es) (object.Dict fs) e = refl
kind-changes (mutable.Set es) (object.Set fs) e = refl
kind-changes (mutable.Cursor c) (object.Cursor d) e = refl
kind-changes m o e = absurd (false≢true e)

start-stays : (name : List ℕ) (k : Kind) → is_changing (object_of name k) ≡ false
start-stays name (kind.Class base) = refl
start-stays name (kind.Function number) = refl
start-stays name kind.Mark = refl
start-stays name (kind.Module m) = refl
start-stays name kind.Text = refl

all-stay : (rs : List (List ℕ × Kind)) (i : ℕ) (o : Object) → slice_get (objects_of rs) i ≡ Some o → is_changing o ≡ false
all-stay [] i o e = absurd cc
all-stay (r ∷ rs) zero o e = let same : object_of r.0 r.1 ≡ o = cc in subst (λ x. is_changing x ≡ false) same (start-stays r.0 r.1)
all-stay (r ∷ rs) (suc i) o e = all-stay rs i o e

-- an object that may change stands behind those of the start
in-start : (i : ℕ) → i < length start_objects → (o : Object) × (slice_get start_objects i ≡ Some o)
in-start i l = get start_objects i l
  where
    get : (h : List Object) (i : ℕ) → i < length h → (o : Object) × (slice_get h i ≡ Some o)
    get [] i l = absurd (omega (arith, l))
    get (x ∷ h) zero l = (x, refl)
    get (x ∷ h) (suc i) l = get h i (omega (arith, l))

behind-start : (h : List Object) (m : Mutable) (i : ℕ) → IsSound start_objects h → has_kind m (slice_get h i) ≡ true → length start_objects ≤ i
behind-start h m i s e = by (nat_le (length start_objects) i) refl
  where
    inside : i < length start_objects → ⊥
    inside l =
        let found = in-start i l in
        let at : slice_get h i ≡ Some found.0 = from-start h i found.0 s found.1 in
        false≢true (sym (all-stay start_rows i found.0 found.1) ∙ kind-changes m found.0 (ap (has_kind m) (sym at) ∙ e))

    by : (b : Bool) → nat_le (length start_objects) i ≡ b → length start_objects ≤ i
    by true t = grind (arith, nat_tests, t)
    by false t = absurd (inside (grind (arith, nat_tests, t)))

-- an object that holds something else
class-kind : (m : Mutable) (o : Object) → has_kind m (Some o) ≡ true → (c : ClassObject) → o ≡ object.Class c → ⊥
class-kind m o e c f = false≢true (sym (ap is_changing f) ∙ kind-changes m o e)

held-classes : (h : List Object) (i : ℕ) (m : Mutable) → HasClasses h i (holding m)
held-classes h i (mutable.List vs) = tt
held-classes h i (mutable.Dict es) = tt
held-classes h i (mutable.Set es) = tt
held-classes h i (mutable.Cursor c) = tt

replaced-sound : (r : Replacement) (h : List Object) → IsSound start_objects h → Below (length h) (places_of (holding r.object)) → IsSound start_objects (replaced_by r h)
replaced-sound r h s w = by (has_kind r.object (slice_get h r.id.0)) refl
  where
    by : (b : Bool) → has_kind r.object (slice_get h r.id.0) ≡ b → IsSound start_objects (if b then set h r.id.0 (holding r.object) else h)
    by false e = s
    by true e = sound-set h r.id.0 (holding r.object) start_objects s (record {
      fits = record { places = w; classes = held-classes h r.id.0 r.object };
      class = λ c. absurd (class-kind r.object (object.Class c.0) (ap (has_kind r.object) (sym c.1) ∙ e) c.0 refl);
      keeps_builtins = behind-start h r.object r.id.0 s e;
    })

maybe-replaced : (r : Option Replacement) (h : List Object) → IsSound start_objects h → ReplacementIsWithin h r → IsSound start_objects (replaced r h)
maybe-replaced None h s w = s
maybe-replaced (Some r) h s w = replaced-sound r h s w

replacement-grows : (h k : List Object) (r : Option Replacement) → length h ≤ length k → ReplacementIsWithin h r → ReplacementIsWithin k r
replacement-grows h k None l w = tt
replacement-grows h k (Some r) l w = λ p c. let b : p < length h = w p c in omega (arith, l, b)

change-sound : (c : Change) (h : List Object) → IsSound start_objects h → ReplacementIsWithin h c.replacement → NewAreWithin h c.objects → IsSound start_objects (changed c h)
change-sound c h s r w = by (has_room c.objects h)
  where
    by : (b : Bool) → IsSound start_objects (if b then replaced c.replacement (h ++ map made c.objects) else h)
    by true =
        let more : List Object = h ++ map made c.objects in
        maybe-replaced c.replacement more (all-sound h c.objects s w) (replacement-grows h more c.replacement (omega (arith, length-append h (map made c.objects))) r)
    by false = s

pub heap-sound : (c : Content) (h : List Object) → IsSound start_objects h → IsWithinHeap h c → IsSound start_objects (grown c h)
heap-sound (content.New o) h s w = change-sound (added (o ∷ [])) h s tt (w, tt)
heap-sound (content.NewValues os) h s w = change-sound (added os) h s tt w
heap-sound (content.Raise class t) h s w = change-sound (added (new.Text t ∷ [])) h s tt (none-below (length h), tt)
heap-sound (content.Changed c a) h s w = change-sound c h s w.0 w.1
heap-sound (content.Value v) h s w = s
heap-sound (content.Help helper inverted) h s w = s
heap-sound (content.Print t) h s w = s
heap-sound (content.Outside what) h s w = s

-- answers
answer-grows : (h k : List Object) (a : PrimAns) → length h ≤ length k → AnswerIsWithin h a → AnswerIsWithin k a
answer-grows h k (answer.Value v) l w = within-grows h k v l w
answer-grows h k (answer.Values vs) l w = all-grow h k vs l w
answer-grows h k answer.End l w = tt
answer-grows h k (answer.Raise class v) l w = (w.0, if-grows h k v l w.1)
answer-grows h k (answer.Help helper vs inverted) l w = all-grow h k vs l w
answer-grows h k (answer.Print t) l w = tt
answer-grows h k (answer.Outside what) l w = tt

replaced-length : (r : Option Replacement) (h : List Object) → length (replaced r h) ≡ length h
replaced-length None h = refl
replaced-length (Some r) h = by (has_kind r.object (slice_get h r.id.0))
  where
    by : (b : Bool) → length (if b then set h r.id.0 (holding r.object) else h) ≡ length h
    by true = length-set h r.id.0 (holding r.object)
    by false = refl

-- an answer that lies in the heap with the new objects does so behind the change
room-within : (c : Change) (h : List Object) (a : PrimAns) → AnswerIsWithin (h ++ map made c.objects) a → AnswerIsWithin (changed c h) (if_room c.objects h a)
room-within c h a w = by (has_room c.objects h)
  where
    by : (b : Bool) → AnswerIsWithin (if b then replaced c.replacement (h ++ map made c.objects) else h) (if b then a else answer.Outside Rattle.pt_base.specs.declared.what.What.TheVariants.Heap)
    by true =
        let more : List Object = h ++ map made c.objects in
        answer-grows more (replaced c.replacement more) a (omega (arith, replaced-length c.replacement more)) w
    by false = tt

pub places-within : (k : List Object) (p n : ℕ) → p + n ≤ length k → AllWithin k (places_from p n)
places-within k p zero l = tt
places-within k p (suc n) l = (omega (arith, l), places-within k (p + 1) n (omega (arith, l)))

next-within : (h : List Object) (o : Object) → AnswerIsWithin (h ++ o ∷ []) (answer.Value (next_object h))
next-within h o = omega (arith, length-append h (o ∷ []))

pub answer-within : (c : Content) (vs : List Value) (h : List Object) → IsSound start_objects h → AllWithin h vs → IsWithinHeap h c → AnswerIsWithin (grown c h) (placed c vs h)
answer-within (content.New o) vs h s v w = room-within (added (o ∷ [])) h (answer.Value (next_object h)) (next-within h (made o))
answer-within (content.NewValues os) vs h s v w =
    room-within (added os) h (answer.Values (places_from (length h) (length os)))
    (places-within (h ++ map made os) (length h) (length os) (omega (arith, length-append h (map made os), length-map os made)))
answer-within (content.Raise class t) vs h s v w = room-within (added (new.Text t ∷ [])) h (answer.Raise class (Some (next_object h))) (w, next-within h (object.Str t))
answer-within (content.Changed c a) vs h s v w = room-within c h a w.2
answer-within (content.Value x) vs h s v w = w
answer-within (content.Help helper inverted) vs h s v w = v
answer-within (content.Print t) vs h s v w = tt
answer-within (content.Outside what) vs h s v w = tt

-- so is what the placing of a content makes, or leaves as it is
pub place-sound : (r : Result PrimAns Memory) (c : Content) (old new : List Object) → OnOk r (new ≡ grown c old) → OnErr r (new ≡ old) → IsSound start_objects old
    → IsWithinHeap old c → IsSound start_objects new
place-sound (Ok a) c old new ok err s w = subst (λ h. IsSound start_objects h) (sym ok) (heap-sound c old s w)
place-sound (Err e) c old new ok err s w = subst (λ h. IsSound start_objects h) (sym err) s
