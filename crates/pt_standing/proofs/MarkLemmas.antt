-- Marks on texts are marks on their numbers.
use Rattle.std.proofs.Common.{◌≡◌, inl, inr, ℕ, ◌+◌, ◌<◌, Bool, true, false, not, ◌&&◌, ◌||◌, nat_eq, List, [], ◌∷◌, ◌++◌, length, map, take, drop, get_or, refl, sym, ap, ◌∙◌, subst, arith, eqb-true, eq-eqb, true≢false, get_or-set_same, get_or-set_other}
use Rattle.std.specs.Prelude.{slice_set, slice_index_or}
use Rattle.std.specs.List.{list_all}
use Rattle.std.specs.Str.{bytes_eq}
use Rattle.std.proofs.lemmas.Bool.{and_cases, and_left, and_right, ne_eqb, not-false, not_from_true, or_from, or_left, or_right}
use Rattle.std.proofs.lemmas.Cmp.{nat_list_eq_equiv}
use Rattle.std.proofs.lemmas.List.{length-set, map-append, map_more, take-append-drop}
use Rattle.std.proofs.lemmas.List.Folds.{list_any-append, list_all-map, list_all_at, list_all_more}
use Rattle.pt_tree.specs.Syntax.{Name}
use Rattle.sem_fits.specs.fits.Standing.{are_distinct, is_among}
use Rattle.pt_standing.specs.Texts.{AreFresh, HasMarks, MarkIs, Marked, MarksOne, id_at, mark_on, text_at}

or_none : (x y : Bool) → y ≡ false → (x || (y || false)) ≡ x
or_none true y e = refl
or_none false y e = or_from y false e refl

among_last : (names : List Name) (x y : Name) → is_among (names ++ x ∷ []) y ≡ (is_among names y || (bytes_eq y x || false))
among_last names x y = list_any-append (bytes_eq y) names (x ∷ [])

-- a mark is set on a number
set_here : (old new : List ℕ) (k j by : ℕ) → k < length old → new ≡ slice_set old k by → j ≡ k → slice_index_or new j 0 ≡ by
set_here old new k j by lt e s = ap (λ xs. slice_index_or xs j 0) e ∙ (ap (λ i. slice_index_or (slice_set old k by) i 0) s ∙ get_or-set_same old k by 0 lt)

set_apart : (old new : List ℕ) (k j by : ℕ) → new ≡ slice_set old k by → (j ≡ k → ⊥) → slice_index_or new j 0 ≡ slice_index_or old j 0
set_apart old new k j by e s = ap (λ xs. slice_index_or xs j 0) e ∙ get_or-set_other old k j by 0 s

module _ (all : List Name) (ids : List ℕ) where
  pub no_names : (marks : List ℕ) (by : ℕ) → AreFresh all ids marks by → HasMarks all ids marks by []
  no_names marks by f = record {
    ids_are = f.ids_are;
    long = f.long;
    each = λ t lt. ne_eqb (mark_on ids marks t) by (λ e. let h = f.low (id_at ids t) in omega (arith, h, e));
  }

  pub fresh_up : (marks : List ℕ) (by : ℕ) → AreFresh all ids marks by → AreFresh all ids marks (by + 1)
  fresh_up marks by f = record { ids_are = f.ids_are; long = f.long; low = λ k. let h = f.low k in omega (arith, h) }

  pub one_more : (old new : List ℕ) (by t : ℕ) (names : List Name) → HasMarks all ids old by names → MarksOne ids old new t by
      → HasMarks all ids new by (names ++ text_at all t ∷ [])
  one_more old new by t names h m = record {
    ids_are = h.ids_are;
    long = ap length m.is ∙ (length-set old (id_at ids t) by ∙ h.long);
    each = λ u lt. each u lt (nat_eq (id_at ids u) (id_at ids t)) refl;
  }
    where
      within : t < length all
      within = let a = m.within in let b = h.ids_are.long in omega (arith, a, b)

      each : (u : ℕ) → u < length all → (same : Bool) → nat_eq (id_at ids u) (id_at ids t) ≡ same
          → nat_eq (mark_on ids new u) by ≡ is_among (names ++ text_at all t ∷ []) (text_at all u)
      each u lt true e =
          eq-eqb (mark_on ids new u) by (set_here old new (id_at ids t) (id_at ids u) by m.low m.is (eqb-true (id_at ids u) (id_at ids t) e))
          ∙ sym (among_last names (text_at all t) (text_at all u) ∙ or_right (is_among names (text_at all u)) _
          (or_left (bytes_eq (text_at all u) (text_at all t)) false (sym (h.ids_are.same u t lt within) ∙ e)))
      each u lt false e =
          ap (λ k. nat_eq k by) (set_apart old new (id_at ids t) (id_at ids u) by m.is (λ s. true≢false (sym (eq-eqb (id_at ids u) (id_at ids t) s) ∙ e)))
          ∙ (h.each u lt ∙ sym (among_last names (text_at all t) (text_at all u) ∙ or_none (is_among names (text_at all u)) (bytes_eq (text_at all u) (text_at all t))
          (sym (h.ids_are.same u t lt within) ∙ e)))

  pub fresh_more : (old new : List ℕ) (by t : ℕ) → AreFresh all ids old (by + 1) → MarksOne ids old new t by → AreFresh all ids new (by + 1)
  fresh_more old new by t f m = record {
    ids_are = f.ids_are;
    long = ap length m.is ∙ (length-set old (id_at ids t) by ∙ f.long);
    low = λ k. low k (nat_eq k (id_at ids t)) refl;
  }
    where
      low : (k : ℕ) → (same : Bool) → nat_eq k (id_at ids t) ≡ same → slice_index_or new k 0 < by + 1
      low k true e = let h = set_here old new (id_at ids t) k by m.low m.is (eqb-true k (id_at ids t) e) in omega (arith, h)
      low k false e = let h = set_apart old new (id_at ids t) k by m.is (λ s. true≢false (sym (eq-eqb k (id_at ids t) s) ∙ e)) in let g = f.low k in omega (arith, h, g)

  pub marked_more : (old new : List ℕ) (by t : ℕ) (names more : List Name) → Marked all ids old by names → MarksOne ids old new t by
      → more ≡ names ++ text_at all t ∷ [] → Marked all ids new by more
  marked_more old new by t names more h m e = record {
    has = subst (HasMarks all ids new by) (sym e) (one_more old new by t names h.has m);
    fresh = fresh_more old new by t h.fresh m;
  }

  pub none_marked : (marks : List ℕ) (by : ℕ) → AreFresh all ids marks by → Marked all ids marks by []
  none_marked marks by f = record { has = no_names marks by f; fresh = fresh_up marks by f }

  -- the mark on a text tells whether it is among the names
  pub told_by_mark : (marks : List ℕ) (by t mark : ℕ) (names : List Name) → HasMarks all ids marks by names → MarkIs ids marks t mark
      → nat_eq mark by ≡ is_among names (text_at all t)
  told_by_mark marks by t mark names h m = ap (λ k. nat_eq k by) m.is
      ∙ h.each t (let a = m.within in let b = h.ids_are.long in omega (arith, a, b))

-- one more name of a list
pub all_more : (all names : List Name) (list : List ℕ) (i d : ℕ) → i < length list → list_all (is_among names) (map (text_at all) (take i list)) ≡ true
    → is_among names (text_at all (get_or list i d)) ≡ true → list_all (is_among names) (map (text_at all) (take (i + 1) list)) ≡ true
all_more all names list i d lt e f =
    list_all-map (is_among names) (text_at all) (take (i + 1) list)
    ∙ (list_all_more (λ t. is_among names (text_at all t)) list i d lt
    ∙ (ap (λ b. b && is_among names (text_at all (get_or list i d))) (sym (list_all-map (is_among names) (text_at all) (take i list)) ∙ e) ∙ f))

pub not_all : (all names : List Name) (list : List ℕ) (i d : ℕ) → i < length list
    → is_among names (text_at all (get_or list i d)) ≡ false → false ≡ list_all (is_among names) (map (text_at all) list)
not_all all names list i d lt f = sym (list_all-map (is_among names) (text_at all) list ∙ list_all_at (λ t. is_among names (text_at all t)) list i d lt f)

shuffle : (a b d i : Bool) → (not (a || (b || false)) && (d && not i)) ≡ ((not a && d) && not (b || i))
shuffle true true d i = refl
shuffle true false d i = refl
shuffle false true true i = refl
shuffle false true false i = refl
shuffle false false true i = refl
shuffle false false false i = refl

-- texts are different just where none is among those before it
distinct_last : (xs : List Name) (y : Name) → are_distinct (xs ++ y ∷ []) ≡ (are_distinct xs && not (is_among xs y))
distinct_last [] y = refl
distinct_last (x ∷ xs) y =
    ap (λ b. not b && are_distinct (xs ++ y ∷ [])) (among_last xs y x)
    ∙ (ap (λ b. not (is_among xs x || (bytes_eq x y || false)) && b) (distinct_last xs y)
    ∙ (shuffle (is_among xs x) (bytes_eq x y) (are_distinct xs) (is_among xs y)
    ∙ ap (λ b. (not (is_among xs x) && are_distinct xs) && not (b || is_among xs y)) (nat_list_eq_equiv.symm x y)))

pub distinct_more : (all : List Name) (list : List ℕ) (i d : ℕ) → i < length list → are_distinct (map (text_at all) (take i list)) ≡ true
    → is_among (map (text_at all) (take i list)) (text_at all (get_or list i d)) ≡ false → are_distinct (map (text_at all) (take (i + 1) list)) ≡ true
distinct_more all list i d lt e f =
    ap are_distinct (map_more (text_at all) list i d lt)
    ∙ (distinct_last (map (text_at all) (take i list)) (text_at all (get_or list i d))
    ∙ (ap (λ b. b && not (is_among (map (text_at all) (take i list)) (text_at all (get_or list i d)))) e ∙ ap not f))

-- what isn't different stays so, whatever comes behind
same_behind : (xs ys : List Name) → are_distinct xs ≡ false → are_distinct (xs ++ ys) ≡ false
same_behind [] ys e = absurd (true≢false e)
same_behind (x ∷ xs) ys e = elim (and_cases (not (is_among xs x)) (are_distinct xs) e) [
  | inl f ↦ and_left _ (are_distinct (xs ++ ys)) (not_from_true _ (list_any-append (bytes_eq x) xs ys ∙ or_left _ (is_among ys x) (not-false _ f)))
  | inr f ↦ and_right (not (is_among (xs ++ ys) x)) _ (same_behind xs ys f)
]

pub not_distinct : (all : List Name) (list : List ℕ) (i d : ℕ) → i < length list
    → is_among (map (text_at all) (take i list)) (text_at all (get_or list i d)) ≡ true → false ≡ are_distinct (map (text_at all) list)
not_distinct all list i d lt f = sym (ap (λ xs. are_distinct (map (text_at all) xs)) (sym (take-append-drop (i + 1) list))
    ∙ (ap are_distinct (map-append (text_at all) (take (i + 1) list) (drop (i + 1) list))
    ∙ same_behind (map (text_at all) (take (i + 1) list)) (map (text_at all) (drop (i + 1) list))
    (ap are_distinct (map_more (text_at all) list i d lt) ∙ (distinct_last (map (text_at all) (take i list)) (text_at all (get_or list i d))
    ∙ (ap (λ b. are_distinct (map (text_at all) (take i list)) && not b) f ∙ and_right (are_distinct (map (text_at all) (take i list))) false refl)))))

-- so far the texts of a list are different, and have a mark
pub record DistinctSoFar (all : List Name) (ids marks : List ℕ) (by : ℕ) (list : List ℕ) (i : ℕ) : Type 0 where
  pub marked : Marked all ids marks by (map (text_at all) (take i list))
  pub distinct : are_distinct (map (text_at all) (take i list)) ≡ true
