-- What a heap keeps as objects are added, replaced and taken off.
use Rattle.std.proofs.Common.{◌≡◌, ◌<◌, ◌≤◌, ◌⊎◌, inl, inr, ℕ, zero, suc, List, [], ◌∷◌, ◌++◌, length, take, set, Option, None, Some, slice_get, Contains, refl, sym, ap, ◌∙◌, subst, arith}
use Rattle.std.proofs.lemmas.List.{take-append-le, length-append, length-take, length-set}
use Rattle.pt_heap.specs.declared.object.Object.{Object}
use Rattle.pt_heap.specs.declared.object.Object.TheVariants.{Str, List as ListOf, Tuple, Dict, Set, Range, Slice, Cursor, View, Function, Method, Builtin, Class, Instance, Error, Generator, Frame, CodeRef, Module, Super}
use Rattle.pt_heap.specs.declared.object.Class.{Class as ClassObject}
use Rattle.pt_base.specs.declared.numbers.ObjId.{ObjId}
use Rattle.pt_heap.specs.Sound.{place_in, entry_places, places_of, IsClassAt, IsBase, HasClasses, Fits, IsSound, MayReplace, IsClosedBelow, StaysSound}

module _ {X : Type 0} where
  get-left : (xs ys : List X) (i : ℕ) (o : X) → slice_get xs i ≡ Some o → slice_get (xs ++ ys) i ≡ Some o
  get-left [] ys i o h = cc
  get-left (x ∷ xs) ys zero o h = h
  get-left (x ∷ xs) ys (suc i) o h = get-left xs ys i o h

  get-push : (xs : List X) (x : X) (i : ℕ) (o : X) → slice_get (xs ++ x ∷ []) i ≡ Some o → (slice_get xs i ≡ Some o) ⊎ ((i ≡ length xs) × (x ≡ o))
  get-push [] x zero o h = let same : x ≡ o = cc in inr (refl, same)
  get-push [] x (suc i) o h = cc
  get-push (y ∷ ys) x zero o h = inl h
  get-push (y ∷ ys) x (suc i) o h = elim (get-push ys x i o h) [ inl p ↦ inl p | inr p ↦ inr (ap suc p.0, p.1) ]

  get-set : (xs : List X) (i : ℕ) (x : X) (j : ℕ) (o : X) → slice_get (set xs i x) j ≡ Some o → (slice_get xs j ≡ Some o) ⊎ ((j ≡ i) × (x ≡ o))
  get-set [] i x j o h = cc
  get-set (y ∷ ys) zero x zero o h = let same : x ≡ o = cc in inr (refl, same)
  get-set (y ∷ ys) zero x (suc j) o h = inl h
  get-set (y ∷ ys) (suc i) x zero o h = inl h
  get-set (y ∷ ys) (suc i) x (suc j) o h = elim (get-set ys i x j o h) [ inl p ↦ inl p | inr p ↦ inr (ap suc p.0, p.1) ]

  set-get : (xs : List X) (i : ℕ) (x : X) (j : ℕ) (o : X) → slice_get xs j ≡ Some o → (slice_get (set xs i x) j ≡ Some o) ⊎ ((j ≡ i) × (slice_get (set xs i x) j ≡ Some x))
  set-get [] i x j o h = cc
  set-get (y ∷ ys) zero x zero o h = inr (refl, refl)
  set-get (y ∷ ys) zero x (suc j) o h = inl h
  set-get (y ∷ ys) (suc i) x zero o h = inl h
  set-get (y ∷ ys) (suc i) x (suc j) o h = elim (set-get ys i x j o h) [ inl p ↦ inl p | inr p ↦ inr (ap suc p.0, p.1) ]

  take-set : (xs : List X) (n i : ℕ) (x : X) → n ≤ i → take n (set xs i x) ≡ take n xs
  take-set xs zero i x h = refl
  take-set [] (suc n) i x h = refl
  take-set (y ∷ ys) (suc n) zero x h = absurd (omega arith)
  take-set (y ∷ ys) (suc n) (suc i) x h = ap (λ l. y ∷ l) (take-set ys n i x (omega arith))

  get-take : (n : ℕ) (xs : List X) (i : ℕ) (o : X) → slice_get (take n xs) i ≡ Some o → (i < n) × (slice_get xs i ≡ Some o)
  get-take zero xs i o h = cc
  get-take (suc n) [] i o h = cc
  get-take (suc n) (x ∷ xs) zero o h = (omega arith, h)
  get-take (suc n) (x ∷ xs) (suc i) o h = let p = get-take n xs i o h in (omega (arith, p.0), p.1)

  take-get : (n : ℕ) (xs : List X) (i : ℕ) (o : X) → slice_get xs i ≡ Some o → i < n → slice_get (take n xs) i ≡ Some o
  take-get zero xs i o h l = absurd (omega arith)
  take-get (suc n) [] i o h l = cc
  take-get (suc n) (x ∷ xs) zero o h l = h
  take-get (suc n) (x ∷ xs) (suc i) o h l = take-get n xs i o h (omega arith)

  take-take : (n m : ℕ) (xs : List X) → n ≤ m → take n (take m xs) ≡ take n xs
  take-take zero m xs h = refl
  take-take (suc n) zero xs h = absurd (omega arith)
  take-take (suc n) (suc m) [] h = refl
  take-take (suc n) (suc m) (x ∷ xs) h = ap (λ l. x ∷ l) (take-take n m xs (omega arith))

-- where classes stay classes, what an object asks for stays there
HasClasses-keeps : (h k : List Object) (i : ℕ) (o : Object) → ((p : ℕ) → IsClassAt h p → IsClassAt k p) → HasClasses h i o → HasClasses k i o
HasClasses-keeps h k i (Str x) keeps c = tt
HasClasses-keeps h k i (ListOf x) keeps c = tt
HasClasses-keeps h k i (Tuple x) keeps c = tt
HasClasses-keeps h k i (Dict x) keeps c = tt
HasClasses-keeps h k i (Set x) keeps c = tt
HasClasses-keeps h k i (Range x) keeps c = tt
HasClasses-keeps h k i (Slice x) keeps c = tt
HasClasses-keeps h k i (Cursor x) keeps c = tt
HasClasses-keeps h k i (View x) keeps c = tt
HasClasses-keeps h k i (Function x) keeps c = tt
HasClasses-keeps h k i (Method x) keeps c = tt
HasClasses-keeps h k i (Builtin x) keeps c = tt
HasClasses-keeps h k i (Class x) keeps c = by x.base c
  where
    by : (b : Option ObjId) → IsBase h i b → IsBase k i b
    by None b = tt
    by (Some id) b = (b.0, keeps id.0 b.1)
HasClasses-keeps h k i (Instance x) keeps c = keeps x.class.0 c
HasClasses-keeps h k i (Error x) keeps c = keeps x.class.0 c
HasClasses-keeps h k i (Generator x) keeps c = tt
HasClasses-keeps h k i (Frame x) keeps c = tt
HasClasses-keeps h k i (CodeRef x y) keeps c = tt
HasClasses-keeps h k i (Module x) keeps c = tt
HasClasses-keeps h k i (Super x) keeps c = keeps x.class.0 c

-- the builtin objects lie in the heap
builtins-within : (builtins h : List Object) → IsSound builtins h → length builtins ≤ length h
builtins-within builtins h s = omega (arith, ap length s.begins, length-take (length builtins) h)

IsClassAt-left : (h ys : List Object) (p : ℕ) → IsClassAt h p → IsClassAt (h ++ ys) p
IsClassAt-left h ys p c = (c.0, get-left h ys p (Class c.0) c.1)

fits-left : (h : List Object) (o : Object) (i : ℕ) (x : Object) → Fits h i x → Fits (h ++ o ∷ []) i x
fits-left h o i x f =
    record {
      places = λ p c. omega (arith, f.places p c, length-append h (o ∷ []));
      classes = HasClasses-keeps h (h ++ o ∷ []) i x (IsClassAt-left h (o ∷ [])) f.classes;
    }

pub sound-add : (h : List Object) (o : Object) → StaysSound h (h ++ o ∷ []) (λ _. Fits h (length h) o)
sound-add h o builtins s f =
    record {
      begins = take-append-le (length builtins) h (o ∷ []) (builtins-within builtins h s) ∙ s.begins;
      fits = λ i x at. elim (get-push h o i x at) [
        | inl p ↦ fits-left h o i x (s.fits i x p)
        | inr p ↦ subst (λ y. Fits (h ++ o ∷ []) i y) p.1 (subst (λ n. Fits (h ++ o ∷ []) n o) (sym p.0) (fits-left h o (length h) o f))
      ];
    }

IsClassAt-set : (h : List Object) (i : ℕ) (o : Object) → (IsClassAt h i → (c : ClassObject) × (o ≡ Class c)) → (p : ℕ) → IsClassAt h p → IsClassAt (set h i o) p
IsClassAt-set h i o stays p c =
    elim (set-get h i o p (Class c.0) c.1) [
      | inl q ↦ (c.0, q)
      | inr q ↦ let d = stays (subst (λ n. IsClassAt h n) q.0 c) in (d.0, q.1 ∙ ap Some d.1)
    ]

fits-set : (h : List Object) (i : ℕ) (o : Object) → (IsClassAt h i → (c : ClassObject) × (o ≡ Class c)) → (j : ℕ) (x : Object) → Fits h j x → Fits (set h i o) j x
fits-set h i o stays j x f =
    record {
      places = λ p c. omega (arith, f.places p c, length-set h i o);
      classes = HasClasses-keeps h (set h i o) j x (IsClassAt-set h i o stays) f.classes;
    }

pub sound-set : (h : List Object) (i : ℕ) (o : Object) → StaysSound h (set h i o) (λ builtins. MayReplace builtins h i o)
sound-set h i o builtins s m =
    record {
      begins = take-set h (length builtins) i o m.keeps_builtins ∙ s.begins;
      fits = λ j x at. elim (get-set h i o j x at) [
        | inl p ↦ fits-set h i o m.class j x (s.fits j x p)
        | inr p ↦ subst (λ y. Fits (set h i o) j y) p.1 (subst (λ n. Fits (set h i o) n o) (sym p.0) (fits-set h i o m.class i o m.fits))
      ];
    }

first-there : (x : ℕ) (xs : List ℕ) → Contains (x ∷ xs) x
first-there x xs = (0, omega arith, refl)

IsClassAt-take : (n : ℕ) (h : List Object) (p : ℕ) → p < n → IsClassAt h p → IsClassAt (take n h) p
IsClassAt-take n h p l c = (c.0, take-get n h p (Class c.0) c.1 l)

-- what an object asks for stays where the places that it names do
HasClasses-take : (n : ℕ) (h : List Object) (i : ℕ) (o : Object) → ((p : ℕ) → Contains (places_of o) p → p < n) → HasClasses h i o → HasClasses (take n h) i o
HasClasses-take n h i (Str x) below c = tt
HasClasses-take n h i (ListOf x) below c = tt
HasClasses-take n h i (Tuple x) below c = tt
HasClasses-take n h i (Dict x) below c = tt
HasClasses-take n h i (Set x) below c = tt
HasClasses-take n h i (Range x) below c = tt
HasClasses-take n h i (Slice x) below c = tt
HasClasses-take n h i (Cursor x) below c = tt
HasClasses-take n h i (View x) below c = tt
HasClasses-take n h i (Function x) below c = tt
HasClasses-take n h i (Method x) below c = tt
HasClasses-take n h i (Builtin x) below c = tt
HasClasses-take n h i (Class x) below c = by x.base below c
  where
    by : (b : Option ObjId) → ((p : ℕ) → Contains (place_in b ++ entry_places x.names) p → p < n) → IsBase h i b → IsBase (take n h) i b
    by None below b = tt
    by (Some id) below b = (b.0, IsClassAt-take n h id.0 (below id.0 (first-there id.0 (entry_places x.names))) b.1)
HasClasses-take n h i (Instance x) below c = IsClassAt-take n h x.class.0 (below x.class.0 (first-there x.class.0 _)) c
HasClasses-take n h i (Error x) below c = IsClassAt-take n h x.class.0 (below x.class.0 (first-there x.class.0 _)) c
HasClasses-take n h i (Generator x) below c = tt
HasClasses-take n h i (Frame x) below c = tt
HasClasses-take n h i (CodeRef x y) below c = tt
HasClasses-take n h i (Module x) below c = tt
HasClasses-take n h i (Super x) below c = IsClassAt-take n h x.class.0 (below x.class.0 (first-there x.class.0 _)) c

fits-take : (n : ℕ) (h : List Object) (i : ℕ) (x : Object) → ((p : ℕ) → Contains (places_of x) p → p < n) → Fits h i x → Fits (take n h) i x
fits-take n h i x below f =
    record {
      places = λ p c. omega (arith, f.places p c, below p c, length-take n h);
      classes = HasClasses-take n h i x below f.classes;
    }

pub sound-back : (h : List Object) (n : ℕ) → StaysSound h (take n h) (λ builtins. IsClosedBelow builtins h n)
sound-back h n builtins s m =
    record {
      begins = take-take (length builtins) n h m.keeps_builtins ∙ s.begins;
      fits = λ i x at.
          let q = get-take n h i x at in
          fits-take n h i x (m.closed i x q.0 q.1) (s.fits i x q.1);
    }
