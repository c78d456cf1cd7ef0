-- Names in the object at a place.
use Rattle.std.proofs.Common.{◌≡◌, ℕ, zero, suc, Bool, true, false, List, [], ◌∷◌, Option, None, Some, IsSome, set, slice_get, refl, sym, ap, subst, if◌then◌else◌}
use Rattle.std.specs.Str.{bytes_eq}
use Rattle.pt_base.specs.declared.numbers.ObjId.{ObjId}
use Rattle.pt_heap.specs.declared.value.Value.{Value}
use Rattle.pt_heap.specs.declared.value.Value.TheVariants as value
use Rattle.pt_heap.specs.declared.object.Object.{Object}
use Rattle.pt_heap.specs.declared.object.Object.TheVariants as object
use Rattle.pt_heap.specs.Entries.{Entry, found, put, without}
use Rattle.pt_dicts.specs.Chain.{class_in}
use Rattle.pt_attrs.specs.Store.{held, is_scripted, names_in, with_names, stored, stored_in, deleted, deleted_in, without_name, Holds}

one-of : (b : Bool) (ns ms : List Entry) → (if b then Some ns else None) ≡ Some ms → ms ≡ ns
one-of true ns ms e = cc
one-of false ns ms e = absurd cc

pub held-names : (h : List Object) (o : Object) (ns : List Entry) → held h o ≡ Some ns → ns ≡ names_in o
held-names h (object.Class c) ns e = one-of c.scripted c.names ns e
held-names h (object.Instance x) ns e = one-of (is_scripted (class_in (slice_get h x.class.0))) x.names ns e
held-names h (object.Error x) ns e = one-of (is_scripted (class_in (slice_get h x.class.0))) x.names ns e
held-names h _ ns e = absurd cc

pub with-own : (o : Object) → with_names o (names_in o) ≡ o
with-own (object.Class c) = refl
with-own (object.Instance x) = refl
with-own (object.Error x) = refl
with-own _ = refl

pub without-none : (k : List ℕ) (es : List Entry) → found k es ≡ None → without k es ≡ es
without-none k [] e = refl
without-none k (x ∷ es) e = by (bytes_eq k x.key) e (without-none k es)
  where
    by : (b : Bool) → (if b then Some x.value else found k es) ≡ None → (found k es ≡ None → without k es ≡ es) → (if b then es else x ∷ without k es) ≡ x ∷ es
    by true e ih = absurd cc
    by false e ih = ap (λ l. x ∷ l) (ih e)

pub set-back : (h : List Object) (i : ℕ) (o : Object) → slice_get h i ≡ Some o → set h i o ≡ h
set-back [] i o e = refl
set-back (x ∷ xs) zero o e = let same : x ≡ o = cc in ap (λ y. y ∷ xs) (sym same)
set-back (x ∷ xs) (suc i) o e = ap (λ l. x ∷ l) (set-back xs i o e)

module _ (h : List Object) (id : ObjId) (o : Object) (at : slice_get h id.0 ≡ Some o) (holds : Holds h (slice_get h id.0)) where
  holds-some : IsSome (held h o)
  holds-some = subst (Holds h) at holds

  pub stored-is : (key : List ℕ) (v : Value) → stored h (value.Obj id) key v ≡ Some (set h id.0 (with_names o (put key value.None v (names_in o))))
  stored-is key v = rw at (by (held h o) refl holds-some)
    where
      by : (names : Option (List Entry)) → held h o ≡ names → IsSome names → stored_in h id.0 key v o names ≡ Some (set h id.0 (with_names o (put key value.None v (names_in o))))
      by None e s = absurd cc
      by (Some ns) e s = ap (λ ms. Some (set h id.0 (with_names o (put key value.None v ms)))) (held-names h o ns e)

  pub deleted-is : (key : List ℕ) → deleted h (value.Obj id) key ≡ without_name h id.0 key o (names_in o) (found key (names_in o))
  deleted-is key = rw at (by (held h o) refl holds-some)
    where
      by : (names : Option (List Entry)) → held h o ≡ names → IsSome names → deleted_in h id.0 key o names ≡ without_name h id.0 key o (names_in o) (found key (names_in o))
      by None e s = absurd cc
      by (Some ns) e s = ap (λ ms. without_name h id.0 key o ms (found key ms)) (held-names h o ns e)
