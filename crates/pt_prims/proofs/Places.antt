-- What values and objects name lies in a heap.
use Rattle.std.proofs.Common.{◌≡◌, ◌∙◌, ◌<◌, ◌≤◌, ℕ, zero, suc, List, [], ◌∷◌, ◌++◌, Option, None, Some, length, take, slice_get, Contains, refl, ap, subst, arith, inl, inr}
use Rattle.std.specs.Prelude.{slice_index_or}
use Rattle.std.proofs.lemmas.List.Elements.{Contains-append_cases, Contains-append_left, Contains-append_right}
use Rattle.std.proofs.lemmas.Option.{slice_get_within}
use Rattle.pt_heap.specs.declared.value.Value.{Value}
use Rattle.pt_heap.specs.declared.value.Value.TheVariants as value
use Rattle.pt_heap.specs.declared.object.Object.{Object}
use Rattle.pt_heap.specs.declared.object.Object.TheVariants.{Class}
use Rattle.pt_heap.specs.Sound.{place_of, places_in, places_of, IsClassAt, IsSound, IsWithin}
use Rattle.pt_builtin_objects.specs.Start.{start_objects}
use Rattle.pt_content.specs.pt_attrs.Look.{object_of}
use Rattle.pt_methods.specs.pt_sequences.Displays.{repeated}
use Rattle.pt_prims.specs.Laws.{AllWithin, IsWithinIf}

-- places below a number
abbrev pub Below : ℕ → List ℕ → Type 0
Below n xs = (p : ℕ) → Contains xs p → p < n

pub none-below : (n : ℕ) → Below n []
none-below n p c = absurd (omega (arith, c.1))

pub one-below : (n x : ℕ) → x < n → Below n (x ∷ [])
one-below n x l p c = by c.0 c.1 c.2
  where
    by : (k : ℕ) → k < 1 → slice_index_or (x ∷ []) k p ≡ p → p < n
    by zero b e = omega (arith, l, e)
    by (suc k) b e = absurd (omega arith)

pub both-below : (n : ℕ) (xs ys : List ℕ) → Below n xs → Below n ys → Below n (xs ++ ys)
both-below n xs ys a b p c = elim (Contains-append_cases xs ys p c) [ inl h ↦ a p h | inr h ↦ b p h ]

pub value-below : (h : List Object) (v : Value) → IsWithin h v → Below (length h) (place_of v)
value-below h value.None w = none-below (length h)
value-below h (value.Bool b) w = none-below (length h)
value-below h (value.Int z) w = none-below (length h)
value-below h value.Ellipsis w = none-below (length h)
value-below h value.NotImplemented w = none-below (length h)
value-below h (value.Obj id) w = one-below (length h) id.0 w

pub values-below : (h : List Object) (vs : List Value) → AllWithin h vs → Below (length h) (places_in vs)
values-below h [] w = none-below (length h)
values-below h (v ∷ vs) w = both-below (length h) (place_of v) (places_in vs) (value-below h v w.0) (values-below h vs w.1)

pub below-value : (h : List Object) (v : Value) → Below (length h) (place_of v) → IsWithin h v
below-value h value.None b = tt
below-value h (value.Bool x) b = tt
below-value h (value.Int z) b = tt
below-value h value.Ellipsis b = tt
below-value h value.NotImplemented b = tt
below-value h (value.Obj id) b = b id.0 (0, omega arith, refl)

pub below-values : (h : List Object) (vs : List Value) → Below (length h) (places_in vs) → AllWithin h vs
below-values h [] b = tt
below-values h (v ∷ vs) b =
    (below-value h v (λ p c. b p (Contains-append_left (place_of v) (places_in vs) p c)), below-values h vs (λ p c. b p (Contains-append_right (place_of v) (places_in vs) p c)))

-- what an object of a sound heap names
pub object-below : (h : List Object) (v : Value) (o : Object) → IsSound start_objects h → object_of h v ≡ Some o → Below (length h) (places_of o)
object-below h (value.Obj id) o s e = (s.fits id.0 o e).places
object-below h v o s e = absurd cc

-- in a greater heap
pub within-grows : (h k : List Object) (v : Value) → length h ≤ length k → IsWithin h v → IsWithin k v
within-grows h k value.None l w = tt
within-grows h k (value.Bool b) l w = tt
within-grows h k (value.Int z) l w = tt
within-grows h k value.Ellipsis l w = tt
within-grows h k value.NotImplemented l w = tt
within-grows h k (value.Obj id) l w = omega (arith, l, w)

pub if-grows : (h k : List Object) (o : Option Value) → length h ≤ length k → IsWithinIf h o → IsWithinIf k o
if-grows h k None l w = tt
if-grows h k (Some v) l w = within-grows h k v l w

pub all-grow : (h k : List Object) (vs : List Value) → length h ≤ length k → AllWithin h vs → AllWithin k vs
all-grow h k [] l w = tt
all-grow h k (v ∷ vs) l w = (within-grows h k v l w.0, all-grow h k vs l w.1)

-- lists of values
pub all-append : (h : List Object) (vs ws : List Value) → AllWithin h vs → AllWithin h ws → AllWithin h (vs ++ ws)
all-append h [] ws a b = b
all-append h (v ∷ vs) ws a b = (a.0, all-append h vs ws a.1 b)

pub all-repeated : (h : List Object) (n : ℕ) (vs : List Value) → AllWithin h vs → AllWithin h (repeated n vs)
all-repeated h zero vs w = tt
all-repeated h (suc n) vs w = all-append h vs (repeated n vs) w (all-repeated h n vs w)

pub one-within : (h : List Object) (vs : List Value) (i : ℕ) (v : Value) → slice_get vs i ≡ Some v → AllWithin h vs → IsWithin h v
one-within h [] i v e w = absurd cc
one-within h (x ∷ vs) zero v e w = let same : x ≡ v = cc in subst (λ y. IsWithin h y) same w.0
one-within h (x ∷ vs) (suc i) v e w = one-within h vs i v e w.1

-- objects at their places
pub get-left : (h more : List Object) (i : ℕ) (o : Object) → slice_get h i ≡ Some o → slice_get (h ++ more) i ≡ Some o
get-left [] more i o e = absurd cc
get-left (x ∷ h) more zero o e = e
get-left (x ∷ h) more (suc i) o e = get-left h more i o e

pub of-take : (n : ℕ) (h : List Object) (i : ℕ) (o : Object) → slice_get (take n h) i ≡ Some o → slice_get h i ≡ Some o
of-take zero h i o e = absurd cc
of-take (suc n) [] i o e = absurd cc
of-take (suc n) (x ∷ h) zero o e = e
of-take (suc n) (x ∷ h) (suc i) o e = of-take n h i o e

-- an object that stands there as a run starts stands there in each sound heap
pub from-start : (h : List Object) (i : ℕ) (o : Object) → IsSound start_objects h → slice_get start_objects i ≡ Some o → slice_get h i ≡ Some o
from-start h i o s e = of-take (length start_objects) h i o (ap (λ l. slice_get l i) s.begins ∙ e)

pub class-within : (h : List Object) (p : ℕ) → IsClassAt h p → p < length h
class-within h p c = slice_get_within h p (Class c.0) c.1

pub start-within : (h : List Object) (p : ℕ) (o : Object) → IsSound start_objects h → slice_get start_objects p ≡ Some o → p < length h
start-within h p o s e = slice_get_within h p o (from-start h p o s e)

pub start-class : (h : List Object) (p : ℕ) → IsSound start_objects h → IsClassAt start_objects p → p < length h
start-class h p s c = start-within h p (Class c.0) s c.1
