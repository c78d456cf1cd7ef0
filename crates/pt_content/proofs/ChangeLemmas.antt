-- New objects that are put into a heap one after the other.
use Rattle.std.proofs.Common.{◌≡◌, ◌∙◌, ◌+◌, ◌<◌, ◌≤◌, ℕ, zero, suc, Bool, true, false, List, [], ◌∷◌, ◌++◌, Option, Some, None, length, map, nat_eq, reverse, slice_get, take, if◌then◌else◌, refl, sym, ap, subst, arith, append_assoc, add-one}
use Rattle.pt_heap.specs.Limits.{object_limit}
use Rattle.pt_heap.specs.declared.object.Object.{Object}
use Rattle.pt_content.specs.declared.content.NewObject.{NewObject}
use Rattle.pt_content.specs.declared.content.Mutable.{Mutable}
use Rattle.pt_content.specs.declared.content.Mutable.TheVariants as mutable
use Rattle.pt_heap.specs.declared.value.Value.TheVariants.{Obj}
use Rattle.pt_content.specs.Changes.{has_kind, made, places_from, room_from}
use Rattle.std.proofs.lemmas.Bool.{eq-eqb, eqb-true, false≢true}
use Rattle.std.proofs.lemmas.List.{reverse-append, length-append, length-map, length-reverse, length-take, take-append-le}

pub get-within : (h : List Object) (p : ℕ) (o : Object) → slice_get h p ≡ Some o → p < length h
get-within [] p o at = absurd cc
get-within (x ∷ h) zero o at = omega arith
get-within (x ∷ h) (suc p) o at = let l : p < length h = get-within h p o at in omega (arith, l)

pub reverse-last : (xs : List NewObject) (x : NewObject) → reverse (xs ++ x ∷ []) ≡ x ∷ reverse xs
reverse-last xs x = reverse-append xs (x ∷ [])

-- one of the objects that are left is put behind the others
pub one-pushed : (h : List Object) (left xs : List NewObject) (x : NewObject) → left ≡ xs ++ x ∷ [] → (h ++ made x ∷ []) ++ map made (reverse xs) ≡ h ++ map made (reverse left)
one-pushed h left xs x e =
    append_assoc h (made x ∷ []) (map made (reverse xs)) ∙ ap (λ l. h ++ map made l) (sym (ap reverse e ∙ reverse-last xs x))

pub one-reversed : (all done left xs : List NewObject) (x : NewObject) → left ≡ xs ++ x ∷ [] → reverse all ≡ done ++ reverse left → reverse all ≡ (done ++ x ∷ []) ++ reverse xs
one-reversed all done left xs x e whole =
    whole ∙ ap (λ l. done ++ l) (ap reverse e ∙ reverse-last xs x) ∙ sym (append_assoc done (x ∷ []) (reverse xs))

-- what stood in the heap stands there still
pub still : (h now more : List Object) → take (length h) now ≡ h → take (length h) (now ++ more) ≡ h
still h now more e =
    let l : length (take (length h) now) ≡ length h = ap length e in
    let k : length h ≤ length now = grind (arith, length-take) in
    take-append-le (length h) now more k ∙ e

-- whether there is room for what is left
pub one-room : (n : ℕ) (left xs : List NewObject) (x : NewObject) → left ≡ xs ++ x ∷ [] → (n ≡ object_limit → ⊥) → room_from n (reverse left) ≡ room_from (n + 1) (reverse xs)
one-room n left xs x e some = ap (room_from n) (ap reverse e ∙ reverse-last xs x) ∙ by (nat_eq n object_limit) refl
  where
    by : (b : Bool) → nat_eq n object_limit ≡ b → (if b then false else room_from (n + 1) (reverse xs)) ≡ room_from (n + 1) (reverse xs)
    by true f = absurd (some (eqb-true n object_limit f))
    by false f = refl

pub no-room : (n : ℕ) (left xs : List NewObject) (x : NewObject) → left ≡ xs ++ x ∷ [] → n ≡ object_limit → room_from n (reverse left) ≡ false
no-room n left xs x e full = ap (room_from n) (ap reverse e ∙ reverse-last xs x) ∙ ap (λ b. if b then false else room_from (n + 1) (reverse xs)) (eq-eqb n object_limit full)

-- an object of a kind stands in the heap
pub kind-within : (h : List Object) (i : ℕ) (m : Mutable) → has_kind m (slice_get h i) ≡ true → i < length h
kind-within h i m e = by (slice_get h i) refl e
  where
    none : (m : Mutable) → has_kind m None ≡ false
    none (mutable.List vs) = refl
    none (mutable.Dict es) = refl
    none (mutable.Set es) = refl
    none (mutable.Cursor c) = refl

    by : (o : Option Object) → slice_get h i ≡ o → has_kind m o ≡ true → i < length h
    by None f k = absurd (false≢true (sym (none m) ∙ k))
    by (Some o) f k = get-within h i o f

-- the first of some places, and the others
pub places-more : (p n m : ℕ) → n ≡ m + 1 → places_from p n ≡ Obj (record { 0 = p }) ∷ places_from (p + 1) m
places-more p n m e = ap (places_from p) (e ∙ add-one m)
