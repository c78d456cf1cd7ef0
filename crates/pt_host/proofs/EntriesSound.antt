-- A context and an entry of a traceback leave a heap sound.
use Rattle.std.proofs.Common.{◌≡◌, ◌<◌, ◌≤◌, ℕ, zero, suc, Bool, true, false, nat_lt, List, [], ◌∷◌, length, take, Option, None, Some, slice_get, refl, sym, ap, subst, ◌∙◌, arith, ◌++◌, if◌then◌else◌}
use Rattle.std.specs.Prelude.{◌==◌, slice_set}
use Rattle.std.proofs.lemmas.List.{length-set}
use Rattle.std.proofs.lemmas.List.Elements.{Contains-append_left, Contains-append_right}
use Rattle.std.specs.Option.{option_map}
use Rattle.std.proofs.lemmas.Bool.{ltb-true, ltb-false}
use Rattle.std.proofs.lemmas.Option.{slice_get-map}
use Rattle.pt_base.specs.declared.numbers.ObjId.{ObjId}
use Rattle.pt_heap.specs.declared.value.Value.TheVariants as value
use Rattle.pt_heap.specs.declared.object.Object.{Object}
use Rattle.pt_heap.specs.declared.object.Object.TheVariants as object
use Rattle.pt_heap.specs.declared.object.Error.{Error as ErrorObject}
use Rattle.pt_heap.specs.Sound.{IsClassAt, IsSound, places_of, places_in, place_in, entry_places}
use Rattle.pt_heap.specs.declared.value.Value.{Value}
use Rattle.pt_heap.proofs.SoundLemmas.{sound-set}
use Rattle.pt_builtin_objects.specs.declared.Kind.{Kind}
use Rattle.pt_builtin_objects.specs.declared.Kind.TheVariants.{Class, Function, Mark, Module, Text}
use Rattle.pt_builtin_objects.specs.Start.{object_of, start_rows, start_objects}
use Rattle.sem_run.specs.run.Host.{Entry}
use Rattle.pt_host.specs.Errors.{object_place, with_context, context_in, cut_at, cut_within, cut, in_context, arise_while, with_entry}
use Rattle.pt_host.specs.Raising.{with_cause}
use Rattle.pt_host.specs.Sound.{IsWithinIf, ArisesSoundly, TakesEntries}
use Rattle.pt_prims.proofs.Places.{Below, none-below, one-below}
use Rattle.pt_host.proofs.Within.{both-below, object-below}

-- no object of the start is an exception
not-error : (name : List ℕ) (k : Kind) (x : ErrorObject) → object_of name k ≡ object.Error x → ⊥
not-error name (Class base) x e = cc
not-error name (Function number) x e = cc
not-error name Mark x e = cc
not-error name (Module m) x e = cc
not-error name Text x e = cc

start-has-none : (i : ℕ) (x : ErrorObject) → slice_get start_objects i ≡ Some (object.Error x) → ⊥
start-has-none i x at = by (slice_get start_rows i) refl
  where
    by : (r : Option (List ℕ × Kind)) → slice_get start_rows i ≡ r → ⊥
    by None e =
        let none : slice_get start_objects i ≡ None = slice_get-map (λ r. object_of r.0 r.1) start_rows i ∙ ap (option_map (λ r. object_of r.0 r.1)) e in
        cc
    by (Some r) e =
        let made : slice_get start_objects i ≡ Some (object_of r.0 r.1) = slice_get-map (λ r. object_of r.0 r.1) start_rows i ∙ ap (option_map (λ r. object_of r.0 r.1)) e in
        let same : object_of r.0 r.1 ≡ object.Error x = cc in
        not-error r.0 r.1 x same

into-take : {X : Type 0} (n : ℕ) (xs : List X) (i : ℕ) (o : X) → slice_get xs i ≡ Some o → i < n → slice_get (take n xs) i ≡ Some o
into-take zero xs i o h l = absurd (omega arith)
into-take (suc n) [] i o h l = cc
into-take (suc n) (x ∷ xs) zero o h l = h
into-take (suc n) (x ∷ xs) (suc i) o h l = into-take n xs i o h (omega arith)

behind-start : (h : List Object) (i : ℕ) (x : ErrorObject) → IsSound start_objects h → slice_get h i ≡ Some (object.Error x) → length start_objects ≤ i
behind-start h i x s at = by (nat_lt i (length start_objects)) refl
  where
    by : (b : Bool) → nat_lt i (length start_objects) ≡ b → length start_objects ≤ i
    by true e =
        let there : slice_get (take (length start_objects) h) i ≡ Some (object.Error x) = into-take (length start_objects) h i (object.Error x) at (ltb-true i (length start_objects) e) in
        absurd (start-has-none i x (sym (ap (λ l. slice_get l i) s.begins) ∙ there))
    by false e = ltb-false i (length start_objects) e

entry-sound : (e : Entry) (id : ObjId) (o : Option Object) (h : List Object) → slice_get h id.0 ≡ o → IsSound start_objects h → IsSound start_objects (with_entry e id o h)
entry-sound e id (Some (object.Error x)) h at s =
    let f = s.fits id.0 (object.Error x) at in
    sound-set h id.0 _ start_objects s
    (record {
      fits = record { places = f.places; classes = f.classes };
      class = λ c. let both : Some (object.Class c.0) ≡ Some (object.Error x) = sym c.1 ∙ at in absurd cc;
      keeps_builtins = behind-start h id.0 x s at;
    })
entry-sound e id o h at s = s

-- with another context it names what it named, and that
with-context-below : (n : ℕ) (x : ErrorObject) (c : Option ObjId) → Below n (places_of (object.Error x)) → Below n (place_in c) → Below n (places_of (object.Error (record x { context = c })))
with-context-below n x c b l =
    let front : Below n (x.class.0 ∷ places_in x.args ++ place_in x.cause) =
    λ p k. b p (Contains-append_left (x.class.0 ∷ places_in x.args ++ place_in x.cause ++ place_in x.context) (entry_places x.names) p
    (Contains-append_left (x.class.0 ∷ places_in x.args ++ place_in x.cause) (place_in x.context) p k)) in
    let back : Below n (entry_places x.names) =
    λ p k. b p (Contains-append_right (x.class.0 ∷ places_in x.args ++ place_in x.cause ++ place_in x.context) (entry_places x.names) p k) in
    both-below n (x.class.0 ∷ places_in x.args ++ place_in x.cause ++ place_in c) (entry_places x.names)
    (both-below n (x.class.0 ∷ places_in x.args ++ place_in x.cause) (place_in c) front l) back

-- another exception at its place
error-replaced : (id : ObjId) (x y : ErrorObject) (h : List Object) → slice_get h id.0 ≡ Some (object.Error x) → y.class ≡ x.class → Below (length h) (places_of (object.Error y))
    → IsSound start_objects h → IsSound start_objects (slice_set h id.0 (object.Error y))
error-replaced id x y h at same places s =
    let f = s.fits id.0 (object.Error x) at in
    sound-set h id.0 (object.Error y) start_objects s
    (record {
      fits = record { places = places; classes = subst (λ c. IsClassAt h c.0) (sym same) f.classes };
      class = λ k. let both : Some (object.Class k.0) ≡ Some (object.Error x) = sym k.1 ∙ at in absurd cc;
      keeps_builtins = behind-start h id.0 x s at;
    })

context-sound : (c : Option ObjId) (id : ObjId) (o : Option Object) (h : List Object) → slice_get h id.0 ≡ o → Below (length h) (place_in c) → IsSound start_objects h
    → IsSound start_objects (with_context c id o h)
context-sound c id (Some (object.Error x)) h at l s =
    error-replaced id x (record x { context = c }) h at refl (with-context-below (length h) x c (s.fits id.0 (object.Error x) at).places l) s
context-sound c id o h at l s = s

context-length : (c : Option ObjId) (id : ObjId) (o : Option Object) (h : List Object) → length (with_context c id o h) ≡ length h
context-length c id (Some (object.Error x)) h = length-set h id.0 (object.Error (record x { context = c }))
context-length c id o h = refl

unless-same : (b : Bool) (h k : List Object) → IsSound start_objects h → IsSound start_objects k → IsSound start_objects (if b then h else k)
unless-same true h k s t = s
unless-same false h k s t = t

either-length : (b : Bool) (h k : List Object) (n : ℕ) → length h ≡ n → length k ≡ n → length (if b then h else k) ≡ n
either-length true h k n e f = e
either-length false h k n e f = f

-- a chain that is cut
cut-at-sound : (further : ObjId → List Object) (back id : ObjId) (o : Option ObjId) (h : List Object) → ((c : ObjId) → IsSound start_objects (further c)) → IsSound start_objects h
    → IsSound start_objects (cut_at further back id o h)
cut-at-sound further back id None h f s = s
cut-at-sound further back id (Some c) h f s =
    unless-same (c.0 == back.0) (with_context None id (slice_get h id.0) h) (further c) (context-sound None id (slice_get h id.0) h refl (none-below (length h)) s) (f c)

cut-sound : (h : List Object) (most : ℕ) (back id : ObjId) → IsSound start_objects h → IsSound start_objects (cut_within h most back id)
unfolding cut_within
cut-sound h zero back id s = s
cut-sound h (suc most) back id s = cut-at-sound (cut_within h most back) back id (context_in (slice_get h id.0)) h (λ c. cut-sound h most back c s) s

cut-at-length : (further : ObjId → List Object) (back id : ObjId) (o : Option ObjId) (h : List Object) → ((c : ObjId) → length (further c) ≡ length h) → length (cut_at further back id o h) ≡ length h
cut-at-length further back id None h f = refl
cut-at-length further back id (Some c) h f =
    either-length (c.0 == back.0) (with_context None id (slice_get h id.0) h) (further c) (length h) (context-length None id (slice_get h id.0) h) (f c)

cut-length : (h : List Object) (most : ℕ) (back id : ObjId) → length (cut_within h most back id) ≡ length h
unfolding cut_within
cut-length h zero back id = refl
cut-length h (suc most) back id = cut-at-length (cut_within h most back) back id (context_in (slice_get h id.0)) h (λ c. cut-length h most back c)

within-cut : (h k : List Object) (c : ℕ) → length k ≡ length h → c < length h → c < length k
within-cut h k c e l = omega (arith, e, l)

while-sound : (c : Option ObjId) (id : ObjId) (h : List Object) → Below (length h) (place_in c) → IsSound start_objects h → IsSound start_objects (arise_while c id h)
while-sound None id h l s = s
while-sound (Some c) id h l s =
    let k : List Object = cut id c h in
    let same : length k ≡ length h = cut-length h (length h) id c in
    unless-same (c.0 == id.0) h (in_context c id k) s
    (context-sound (Some c) id (slice_get k id.0) k refl (one-below (length k) c.0 (within-cut h k c.0 same (l c.0 (0, omega arith, refl)))) (cut-sound h (length h) id c s))

pub arise-length : (c : Option ObjId) (id : ObjId) (h : List Object) → length (arise_while c id h) ≡ length h
arise-length None id h = refl
arise-length (Some c) id h =
    let k : List Object = cut id c h in
    either-length (c.0 == id.0) h (in_context c id k) (length h) refl (context-length (Some c) id (slice_get k id.0) k ∙ cut-length h (length h) id c)

pub arise-sound : (active : Option Value) (id : ObjId) (h : List Object) → IsWithinIf h active → IsSound start_objects h → IsSound start_objects (arise_while (object_place active) id h)
arise-sound active id h l s = while-sound (object_place active) id h (object-below h active l) s

-- a cause, which hides the context
with-cause-below : (n : ℕ) (x : ErrorObject) (c : Option ObjId) → Below n (places_of (object.Error x)) → Below n (place_in c)
    → Below n (places_of (object.Error (record x { cause = c; hides_context = true })))
with-cause-below n x c b l =
    let front : Below n (x.class.0 ∷ places_in x.args) =
    λ p k. b p (Contains-append_left (x.class.0 ∷ places_in x.args ++ place_in x.cause ++ place_in x.context) (entry_places x.names) p
    (Contains-append_left (x.class.0 ∷ places_in x.args ++ place_in x.cause) (place_in x.context) p (Contains-append_left (x.class.0 ∷ places_in x.args) (place_in x.cause) p k))) in
    let middle : Below n (place_in x.context) =
    λ p k. b p (Contains-append_left (x.class.0 ∷ places_in x.args ++ place_in x.cause ++ place_in x.context) (entry_places x.names) p
    (Contains-append_right (x.class.0 ∷ places_in x.args ++ place_in x.cause) (place_in x.context) p k)) in
    let back : Below n (entry_places x.names) =
    λ p k. b p (Contains-append_right (x.class.0 ∷ places_in x.args ++ place_in x.cause ++ place_in x.context) (entry_places x.names) p k) in
    both-below n (x.class.0 ∷ places_in x.args ++ place_in c ++ place_in x.context) (entry_places x.names)
    (both-below n (x.class.0 ∷ places_in x.args ++ place_in c) (place_in x.context) (both-below n (x.class.0 ∷ places_in x.args) (place_in c) front l) middle) back

pub cause-sound : (c : Option ObjId) (id : ObjId) (o : Option Object) (h : List Object) → slice_get h id.0 ≡ o → Below (length h) (place_in c) → IsSound start_objects h
    → IsSound start_objects (with_cause c id o h)
cause-sound c id (Some (object.Error x)) h at l s =
    error-replaced id x (record x { cause = c; hides_context = true }) h at refl (with-cause-below (length h) x c (s.fits id.0 (object.Error x) at).places l) s
cause-sound c id o h at l s = s

pub cause-length : (c : Option ObjId) (id : ObjId) (o : Option Object) (h : List Object) → length (with_cause c id o h) ≡ length h
cause-length c id (Some (object.Error x)) h = length-set h id.0 (object.Error (record x { cause = c; hides_context = true }))
cause-length c id o h = refl

pub arises_soundly : ArisesSoundly
arises_soundly (value.Obj id) here w s l = arise-sound here.active id w.heap l s
arises_soundly v here w s l = s

pub takes_entries : TakesEntries
takes_entries (value.Obj id) e w s = entry-sound e id (slice_get w.heap id.0) w.heap refl s
takes_entries v e w s = s
