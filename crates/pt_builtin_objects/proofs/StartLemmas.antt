-- The objects that a run starts with are a sound heap.
use Rattle.std.proofs.Common.{◌≡◌, ◌+◌, ◌<◌, ℕ, zero, suc, Bool, true, false, ◌&&◌, nat_lt, List, [], ◌∷◌, length, map, Option, None, Some, slice_get, Contains, refl, sym, ap, ◌∙◌, subst, arith, true≢false}
use Rattle.std.proofs.Math.Seq.{take-length}
use Rattle.std.proofs.lemmas.Bool.{ltb-true}
use Rattle.std.proofs.lemmas.Option.{slice_get-map, slice_get_within}
use Rattle.std.specs.Option.{option_map}
use Rattle.pt_heap.specs.declared.object.Object.{Object}
use Rattle.pt_heap.specs.declared.object.Object.TheVariants.{Class as ClassOf}
use Rattle.pt_heap.specs.declared.object.Class.{Class as ClassObject}
use Rattle.pt_heap.specs.Sound.{IsClassAt, Fits, IsSound}
use Rattle.pt_builtin_objects.specs.declared.Kind.{Kind}
use Rattle.pt_builtin_objects.specs.declared.Kind.TheVariants.{Class, Function, Mark, Module, Text}
use Rattle.pt_builtin_objects.specs.Start.{object_of, start_rows, start_objects}

-- the kinds of the objects, in order
abbrev kinds : List Kind
kinds = map (λ r. r.1) start_rows

abbrev is_class : Option Kind → Bool
is_class None = false
is_class (Some (Class base)) = true
is_class (Some (Function number)) = false
is_class (Some Mark) = false
is_class (Some (Module m)) = false
is_class (Some Text) = false

-- what a kind at i asks for stands there
abbrev is_placed : List Kind → ℕ → Kind → Bool
is_placed ks i (Class None) = true
is_placed ks i (Class (Some base)) = nat_lt base.0 i && is_class (slice_get ks base.0)
is_placed ks i (Function number) = true
is_placed ks i Mark = is_class (slice_get ks 0)
is_placed ks i (Module m) = true
is_placed ks i Text = true

abbrev are_placed : List Kind → ℕ → List Kind → Bool
are_placed ks i [] = true
are_placed ks i (r ∷ rs) = is_placed ks i r && are_placed ks (suc i) rs

all-placed : are_placed kinds 0 kinds ≡ true
all-placed = refl

and-left : (a b : Bool) → (a && b) ≡ true → a ≡ true
and-left true b h = refl
and-left false b h = h

and-right : (a b : Bool) → (a && b) ≡ true → b ≡ true
and-right true b h = h
and-right false b h = absurd (true≢false (sym h))

placed-at : (ks : List Kind) (i : ℕ) (rs : List Kind) (n : ℕ) (r : Kind) (m : ℕ) → are_placed ks i rs ≡ true → slice_get rs n ≡ Some r → m ≡ i + n → is_placed ks m r ≡ true
placed-at ks i [] n r m h at e = cc
placed-at ks i (x ∷ rs) zero r m h at e =
    let same : x ≡ r = cc in
    let here : i ≡ m = omega arith in
    subst (λ k. is_placed ks m k ≡ true) same (subst (λ j. is_placed ks j x ≡ true) here (and-left _ _ h))
placed-at ks i (x ∷ rs) (suc n) r m h at e = placed-at ks (suc i) rs n r m (and-right _ _ h) at (omega arith)

class-of : (name : List ℕ) (k : Kind) → is_class (Some k) ≡ true → (c : ClassObject) × (object_of name k ≡ ClassOf c)
class-of name (Class base) h = (_, refl)
class-of name (Function number) h = absurd (true≢false (sym h))
class-of name Mark h = absurd (true≢false (sym h))
class-of name (Module m) h = absurd (true≢false (sym h))
class-of name Text h = absurd (true≢false (sym h))

class-at : (p : ℕ) → is_class (slice_get kinds p) ≡ true → IsClassAt start_objects p
class-at p h = by (slice_get start_rows p) refl
  where
    by : (o : Option (List ℕ × Kind)) → slice_get start_rows p ≡ o → IsClassAt start_objects p
    by None e = absurd (true≢false (sym h ∙ ap is_class (slice_get-map (λ r. r.1) start_rows p ∙ ap (option_map (λ r. r.1)) e)))
    by (Some r) e =
        let there : is_class (Some r.1) ≡ true = sym (ap is_class (slice_get-map (λ r. r.1) start_rows p ∙ ap (option_map (λ r. r.1)) e)) ∙ h in
        let c = class-of r.0 r.1 there in
        (c.0, slice_get-map (λ r. object_of r.0 r.1) start_rows p ∙ ap (option_map (λ r. object_of r.0 r.1)) e ∙ ap Some c.1)

single : (x p : ℕ) → Contains (x ∷ []) p → p ≡ x
single x p c = by c.0 c.1 c.2
  where
    by : (k : ℕ) → k < 1 → Rattle.std.specs.List.slice_index_or (x ∷ []) k p ≡ p → p ≡ x
    by zero l e = sym e
    by (suc k) l e = absurd (omega arith)

fits-kind : (i : ℕ) (name : List ℕ) (k : Kind) → i < length start_objects → is_placed kinds i k ≡ true → Fits start_objects i (object_of name k)
fits-kind i name (Class None) l h = record { places = λ p c. absurd (omega (arith, c.1)); classes = tt }
fits-kind i name (Class (Some base)) l h =
    let below : base.0 < i = ltb-true base.0 i (and-left _ _ h) in
    record {
      places = λ p c. omega (arith, single base.0 p c, below, l);
      classes = (below, class-at base.0 (and-right _ _ h));
    }
fits-kind i name (Function number) l h = record { places = λ p c. absurd (omega (arith, c.1)); classes = tt }
fits-kind i name Mark l h = record { places = λ p c. omega (arith, single 0 p c, l); classes = class-at 0 h }
fits-kind i name (Module m) l h = record { places = λ p c. absurd (omega (arith, c.1)); classes = tt }
fits-kind i name Text l h = record { places = λ p c. absurd (omega (arith, c.1)); classes = tt }

pub start-is-sound : IsSound start_objects start_objects
start-is-sound =
    record {
      begins = take-length start_objects;
      fits = λ i o at. by i o at (slice_get start_rows i) refl;
    }
  where
    by : (i : ℕ) (o : Object) → slice_get start_objects i ≡ Some o → (r : Option (List ℕ × Kind)) → slice_get start_rows i ≡ r → Fits start_objects i o
    by i o at None e =
        let none : slice_get start_objects i ≡ None = slice_get-map (λ r. object_of r.0 r.1) start_rows i ∙ ap (option_map (λ r. object_of r.0 r.1)) e in
        absurd cc
    by i o at (Some r) e =
        let made : slice_get start_objects i ≡ Some (object_of r.0 r.1) = slice_get-map (λ r. object_of r.0 r.1) start_rows i ∙ ap (option_map (λ r. object_of r.0 r.1)) e in
        let same : object_of r.0 r.1 ≡ o = cc in
        let kind : slice_get kinds i ≡ Some r.1 = slice_get-map (λ r. r.1) start_rows i ∙ ap (option_map (λ r. r.1)) e in
        subst (Fits start_objects i) same (fits-kind i r.0 r.1 (slice_get_within start_objects i _ made) (placed-at kinds 0 kinds i r.1 i all-placed kind (omega arith)))
