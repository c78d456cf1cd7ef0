-- Names that are written keep their places, and functions their cells.
use Rattle.std.proofs.Common.{◌≡◌, ◌∙◌, ◌<◌, ℕ, zero, suc, Bool, true, false, List, [], ◌∷◌, ◌++◌, length, Option, Some, refl, sym, ap, subst, arith, if◌then◌else◌, nat_eq, append_assoc, inl, inr}
use Rattle.std.specs.Prelude.{◌⊎◌, ◌||◌, slice_get, slice_set, slice_index_or}
use Rattle.std.specs.List.{AllByRecursion, list_any}
use Rattle.std.specs.Map.{keys_of}
use Rattle.std.specs.Str.{bytes_eq}
use Rattle.std.proofs.lemmas.Bool.{false≢true}
use Rattle.std.proofs.lemmas.Slice.Eq.{bytes_eq-Decides}
use Rattle.indexmap.specs.IndexMap.{insert_entry}
use Rattle.pt_base.specs.declared.numbers.ObjId.{ObjId}
use Rattle.pt_base.specs.declared.what.What.TheVariants.{Heap}
use Rattle.pt_tree.specs.Syntax.{Name}
use Rattle.pt_heap.specs.Limits.{object_limit}
use Rattle.pt_heap.specs.declared.value.Value.{Value}
use Rattle.pt_heap.specs.declared.object.Object.{Object}
use Rattle.pt_heap.specs.declared.object.Object.TheVariants as object
use Rattle.pt_bind.specs.NameSets.{is_among}
use Rattle.pt_content.specs.Changes.{next_object}
use Rattle.sem_run.specs.run.Machine.{BlockId}
use Rattle.sem_run.specs.run.Host.{made, beyond}
use Rattle.sem_rows.specs.pt_host.World.{Names, Stores, CodeFacts, Program, Allotted, allot, allot_then, with_objects}
use Rattle.sem_rows.specs.pt_host.Errors.{error, error_saying}
use Rattle.law_frames.specs.RunNames.{HasItsNames, TakesCells, AllTakeCells, StoresHaveNames}

-- a name of a list
abbrev pub IsOneOf : List Name → Name → Type 0
IsOneOf xs x = (n : ℕ) × ((n < length xs) × (x ≡ slice_index_or xs n []))

same : (x : Name) → bytes_eq x x ≡ true
same x = (bytes_eq-Decides x x).1 refl

module _ {A : Type 0} where
  put-at : (es : List (Name × A)) (n : ℕ) (v : A) → n < length (keys_of es)
      → keys_of (insert_entry bytes_eq es (slice_index_or (keys_of es) n []) v) ≡ keys_of es
  put-at [] n v h = absurd (omega (arith, h))
  put-at (e ∷ es) zero v h = by (bytes_eq e.0 e.0) (same e.0)
    where
      by : (b : Bool) → b ≡ true → keys_of (if b then (e.0, v) ∷ es else e ∷ insert_entry bytes_eq es e.0 v) ≡ e.0 ∷ keys_of es
      by true r = refl
      by false r = absurd (false≢true r)
  put-at (e ∷ es) (suc n) v h = by (put-at es n v (omega (arith, h))) (bytes_eq (slice_index_or (keys_of es) n []) e.0)
    where
      by : keys_of (insert_entry bytes_eq es (slice_index_or (keys_of es) n []) v) ≡ keys_of es → (b : Bool)
          → keys_of (if b then (e.0, v) ∷ es else e ∷ insert_entry bytes_eq es (slice_index_or (keys_of es) n []) v) ≡ e.0 ∷ keys_of es
      by rest true = refl
      by rest false = ap (λ ks. e.0 ∷ ks) rest

  -- what is put at a name that is there keeps the names
  pub put-keeps : (xs : List Name) (es : List (Name × A)) (x : Name) (v : A) → keys_of es ≡ xs → IsOneOf xs x → keys_of (insert_entry bytes_eq es x v) ≡ xs
  put-keeps xs es x v e i =
      subst (λ y. keys_of (insert_entry bytes_eq es y v) ≡ xs) (ap (λ ks. slice_index_or ks i.0 []) e ∙ sym i.1.1)
      (put-at es i.0 v (subst (λ ks. i.0 < length ks) (sym e) i.1.0) ∙ e)

  -- what is put at any name stands there, or behind the others if that is none of them
  abbrev pub StandsBehind : (es : List (Name × A)) → Name → A → Type 0
  StandsBehind es x v = (keys_of (insert_entry bytes_eq es x v) ≡ keys_of es)
      ⊎ ((is_among (keys_of es) x ≡ false) × (keys_of (insert_entry bytes_eq es x v) ≡ keys_of es ++ x ∷ []))

  pub put-behind : (es : List (Name × A)) (x : Name) (v : A) → StandsBehind es x v
  put-behind [] x v = inr (refl, refl)
  put-behind (e ∷ es) x v = by (put-behind es x v) (bytes_eq x e.0)
    where
      by : StandsBehind es x v → (b : Bool) → (keys_of (if b then (e.0, v) ∷ es else e ∷ insert_entry bytes_eq es x v) ≡ e.0 ∷ keys_of es)
          ⊎ (((b || is_among (keys_of es) x) ≡ false) × (keys_of (if b then (e.0, v) ∷ es else e ∷ insert_entry bytes_eq es x v) ≡ (e.0 ∷ keys_of es) ++ x ∷ []))
      by r true = inl refl
      by (inl same) false = inl (ap (λ ks. e.0 ∷ ks) same)
      by (inr new) false = inr (new.0, ap (λ ks. e.0 ∷ ks) new.1)

none-first : (p : Name → Bool) (xs ys : List Name) → list_any p (xs ++ ys) ≡ false → list_any p xs ≡ false
none-first p [] ys e = refl
none-first p (x ∷ xs) ys e = by (p x) e (none-first p xs ys)
  where
    by : (c : Bool) → (c || list_any p (xs ++ ys)) ≡ false → (list_any p (xs ++ ys) ≡ false → list_any p xs ≡ false) → (c || list_any p xs) ≡ false
    by true e f = e
    by false e f = f e

pub all-both : {A : Type 0} (P : A → Type 0) (xs ys : List A) → AllByRecursion P xs → AllByRecursion P ys → AllByRecursion P (xs ++ ys)
all-both P [] ys all more = more
all-both P (x ∷ xs) ys all more = (all.0, all-both P xs ys all.1 more)

-- whatever name is bound, those of the block keep their places
module _ (facts : CodeFacts) (ns : Names) (x : Name) (v : Option Value) (has : HasItsNames facts ns) where
  abbrev bound : Names
  bound = record ns { values = insert_entry bytes_eq ns.values x v }

  pub bound-names : HasItsNames facts bound
  bound-names = by (put-behind ns.values x v)
    where
      by : StandsBehind ns.values x v → HasItsNames facts bound
      by (inl same) = record { of_class = has.of_class; values = same ∙ has.values; apart = has.apart; cells = has.cells }
      by (inr new) = record {
        of_class = has.of_class ++ x ∷ [];
        values = new.1 ∙ (ap (λ ks. ks ++ x ∷ []) has.values ∙ append_assoc facts.locals has.of_class (x ∷ []));
        apart = all-both (λ y. is_among facts.locals y ≡ false) has.of_class (x ∷ []) has.apart
            (none-first (bytes_eq x) facts.locals has.of_class (subst (λ ks. is_among ks x ≡ false) has.values new.0), tt);
        cells = has.cells;
      }

pub all-set : {A : Type 0} (P : A → Type 0) (xs : List A) (i : ℕ) (x : A) → AllByRecursion P xs → P x → AllByRecursion P (slice_set xs i x)
all-set P [] i x all p = tt
all-set P (y ∷ xs) zero x all p = (p, all.1)
all-set P (y ∷ xs) (suc i) x all p = (all.0, all-set P xs i x all.1 p)

pub all-get : {A : Type 0} (P : A → Type 0) (xs : List A) (i : ℕ) (x : A) → AllByRecursion P xs → slice_get xs i ≡ Some x → P x
all-get P [] i x all e = absurd (cc)
all-get P (y ∷ xs) zero x all e = let is : y ≡ x = cc in subst P is all.0
all-get P (y ∷ xs) (suc i) x all e = all-get P xs i x all.1 e

module _ (program : Program) where
  -- what is put behind the objects
  abbrev pub AllotsCells : Allotted → Type 0
  AllotsCells (made v h) = AllTakeCells program h
  AllotsCells (beyond what) = Unit {0}

  pub allotted : (o : Object) (h : List Object) → AllTakeCells program h → TakesCells program o → AllotsCells (allot o h)
  allotted o h all t = by (nat_eq (length h) object_limit)
    where
      by : (b : Bool) → AllotsCells (if b then beyond Heap else made (next_object h) (h ++ o ∷ []))
      by true = tt
      by false = all-both (TakesCells program) h (o ∷ []) all (t, tt)

  pub error-allotted : (c : ObjId) (args : List Value) (cause active : Option Value) (h : List Object) → AllTakeCells program h
      → AllotsCells (allot (error c args cause active) h)
  error-allotted c args cause active h all = allotted (error c args cause active) h all tt

  then-allotted : (a : Allotted) (f : Value → List Object → Allotted) → AllotsCells a → ((v : Value) (k : List Object) → AllTakeCells program k
      → AllotsCells (f v k))
      → AllotsCells (allot_then a f)
  then-allotted (made v k) f s c = c v k s
  then-allotted (beyond what) f s c = tt

  pub saying-allotted : (c : ObjId) (t : List ℕ) (cause active : Option Value) (h : List Object) → AllTakeCells program h
      → AllotsCells (error_saying c t cause active h)
  saying-allotted c t cause active h all =
      then-allotted (allot (object.Str t) h) (λ v k. allot (error c (v ∷ []) cause active) k) (allotted (object.Str t) h all tt)
      (λ v k s. error-allotted c (v ∷ []) cause active k s)

  pub other-objects : (b : BlockId) (st : Stores) (h : List Object) → StoresHaveNames program b st → AllTakeCells program h
      → StoresHaveNames program b (with_objects h st)
  other-objects b st h s all = record { names = s.names; functions = all }
