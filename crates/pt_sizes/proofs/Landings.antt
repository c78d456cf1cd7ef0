-- Rows that land from the stretches in which a place lies.
use Rattle.std.proofs.Common.{◌≡◌, ℕ, ◌+◌, ◌/◌, ◌<◌, ◌≤◌, List, [], ◌∷◌, ◌++◌, length, map, Some, refl, sym, ap, ◌∙◌, subst, arith, zero, suc, ◌⊎◌, inl, inr, get_or, set, length-append}
use Rattle.std.specs.Prelude.{Vec, Contains, slice_get}
use Rattle.std.proofs.lemmas.List.{get_or-set_same, get_or-set_other, length-set, length-map, get_or-map}
use Rattle.std.proofs.lemmas.List.Elements.{Contains-push, Contains-push_cases, Contains-append_left}
use Rattle.pt_ranges.specs.declared.handlers.Handler.{Handler}
use Rattle.pt_sizes.specs.declared.places.SizeStep.{SizeStep}
use Rattle.pt_sizes.specs.Flow.{landing}
use Rattle.pt_sizes.specs.Search.{SearchLanding}
use Rattle.pt_sizes.specs.Waiting.{Level, level_of, up, stretch_of, stretch, Descends, AllDescend, level_size, levels_size, StretchLanding, StretchLandingSoFar, LevelLanding, LevelsLandingSoFar}
use Rattle.pt_sizes.proofs.Tables.{below_or, none_in_empty}

pub contains_get : {X : Type 0} (xs : List X) (x : X) → Contains xs x → (i : ℕ) × ((i < length xs) × (slice_get xs i ≡ Some x))
contains_get [] x c = absurd (none_in_empty x c)
contains_get (y ∷ ys) x (zero, l, e) = (zero, (omega arith, ap (λ z. Some z) e))
contains_get (y ∷ ys) x (suc k, l, e) = let (i, (m, g)) = contains_get ys x (k, (omega (arith, l)), e) in (suc i, (omega (arith, m), g))

pub get_left : {X : Type 0} (xs ys : List X) (i : ℕ) (x : X) → slice_get xs i ≡ Some x → slice_get (xs ++ ys) i ≡ Some x
get_left [] ys i x e = absurd (cc)
get_left (y ∷ xs) ys zero x e = e
get_left (y ∷ xs) ys (suc i) x e = get_left xs ys i x e

pub get_last : {X : Type 0} (xs : List X) (x : X) → slice_get (xs ++ x ∷ []) (length xs) ≡ Some x
get_last [] x = refl
get_last (y ∷ xs) x = get_last xs x

descends_front : (rows more : List Handler) → Descends (rows ++ more) → Descends rows
descends_front rows more d i j r s le e g = d i j r s le (get_left rows more i r e) (get_left rows more j s g)

descends_none : Descends []
descends_none i j r s le e g = absurd (cc)

module _ (rows0 rows : List Handler) (row : Handler) (below : ℕ) (work0 work : List SizeStep) where
  pub some_start : Descends rows0 → StretchLandingSoFar rows0 rows0 below work0 work0
  some_start d = record { kept = λ s c. c; came = λ s c. inl c; fewer = λ r c. c; on = λ r c. inl c; sorted = d; lighter = omega arith }

  module _ (l : StretchLandingSoFar rows0 (rows ++ row ∷ []) below work0 work) where
    pub some_more : row.depth ≤ below → StretchLandingSoFar rows0 rows below work0 (work ++ landing row ∷ [])
    some_more le = record {
      kept = λ s c. Contains-append_left work (landing row ∷ []) s (l.kept s c);
      came = λ s c. elim (Contains-push_cases work (landing row) s c) [ inl a ↦ l.came s a | inr e ↦ inr (row, (l.fewer row (Contains-push rows row), (le, e))) ];
      fewer = λ r c. l.fewer r (Contains-append_left rows (row ∷ []) r c);
      on = λ r c. elim (l.on r c) [ inl a ↦ by_row r (Contains-push_cases rows row r a) | inr a ↦ inr (Contains-append_left work (landing row ∷ []) (landing r) a) ];
      sorted = descends_front rows (row ∷ []) l.sorted;
      lighter = (let h = l.lighter in let a : length (rows ++ row ∷ []) ≡ length rows + 1 = length-append rows (row ∷ []) in
          let c : length (work ++ landing row ∷ []) ≡ length work + 1 = length-append work (landing row ∷ []) in omega (arith, a, c, h));
    }
      where
        by_row : (r : Handler) → Contains rows r ⊎ (row ≡ r) → Contains rows r ⊎ Contains (work ++ landing row ∷ []) (landing r)
        by_row r (inl a) = inl a
        by_row r (inr e) = inr (subst (λ x. Contains (work ++ landing row ∷ []) (landing x)) e (Contains-push work (landing row)))

    pub some_end : below < row.depth → StretchLanding rows0 (rows ++ row ∷ []) below work0 work
    some_end lt = record { kept = l.kept; came = l.came; fewer = l.fewer; on = l.on; sorted = l.sorted; lighter = l.lighter; clear = λ r c le. deeper r (contains_get (rows ++ row ∷ []) r c) le }
      where
        deeper : (r : Handler) → (i : ℕ) × ((i < length (rows ++ row ∷ [])) × (slice_get (rows ++ row ∷ []) i ≡ Some r)) → r.depth ≤ below → ⊥
        deeper r (i, (m, g)) le = let a : length (rows ++ row ∷ []) ≡ length rows + 1 = length-append rows (row ∷ []) in
            let h : row.depth ≤ r.depth = l.sorted i (length rows) r row (omega (arith, m, a)) g (get_last rows row) in omega (arith, h, lt, le)

pub no_more : {X : Type 0} (xs ys : List X) → xs ≡ ys ++ [] → length ys ≡ 0 → xs ≡ []
no_more xs [] e h = e
no_more xs (y ∷ ys) e h = absurd (omega arith)

pub is_empty : {X : Type 0} (xs : List X) → length xs ≡ 0 → xs ≡ []
is_empty [] h = refl
is_empty (x ∷ xs) h = absurd (omega arith)

pub some_none : (rows0 rows rows' : List Handler) (below : ℕ) (work0 work : List SizeStep) → StretchLandingSoFar rows0 rows below work0 work → rows ≡ rows' ++ [] → length rows' ≡ 0
    → StretchLanding rows0 rows' below work0 work
some_none rows0 rows rows' below work0 work l e h = subst (λ r. StretchLanding rows0 r below work0 work) (sym (is_empty rows' h))
    (none (subst (λ r. StretchLandingSoFar rows0 r below work0 work) (no_more rows rows' e h) l))
  where
    none : StretchLandingSoFar rows0 [] below work0 work → StretchLanding rows0 [] below work0 work
    none l = record { kept = l.kept; came = l.came; fewer = l.fewer; on = l.on; sorted = l.sorted; lighter = l.lighter; clear = λ r c le. none_in_empty r c }

pub in_map : {X Y : Type 0} (f : X → Y) (xs : List X) (i : ℕ) → i < length xs → i < length (map f xs)
in_map f xs i h = simp length-map h

pub out_map : {X Y : Type 0} (f : X → Y) (xs : List X) (i : ℕ) → length xs ≤ i → length (map f xs) ≤ i
out_map f xs i h = simp length-map h

pub in_level : {Y Z : Type 0} (level : Vec (Vec Handler Y) Z) (node : ℕ) → node < length level.items → node < length (level_of level)
in_level level node h = in_map (λ rows. rows.items) level.items node h

-- the stretch that an index read
pub read_items : {Y Z : Type 0} (level : Vec (Vec Handler Y) Z) (node : ℕ) (rows : Vec Handler Y) → node < length level.items → rows ≡ get_or level.items node rows
    → stretch_of (level_of level) node ≡ rows.items
read_items level node rows lt e = get_or-map (λ rows. rows.items) level.items node rows [] lt ∙ ap (λ x. x.items) (sym e)

-- one element of a list changes

level_size-set : (level : Level) (v : ℕ) (rows : List Handler) → v < length level → level_size (set level v rows) + length (stretch_of level v) ≡ level_size level + length rows
level_size-set [] v rows h = absurd (omega arith)
level_size-set (r ∷ level) zero rows h = omega arith
level_size-set (r ∷ level) (suc v) rows h = let e = level_size-set level v rows (omega arith) in omega (arith, e)

levels_size-set : (levels : List Level) (k : ℕ) (level : Level) → k < length levels → levels_size (set levels k level) + level_size (get_or levels k []) ≡ levels_size levels + level_size level
levels_size-set [] k level h = absurd (omega arith)
levels_size-set (l ∷ levels) zero level h = omega arith
levels_size-set (l ∷ levels) (suc k) level h = let e = levels_size-set levels k level (omega arith) in omega (arith, e)

pub same_or : (a c : ℕ) → (a ≡ c) ⊎ (a ≡ c → ⊥)
same_or zero zero = inl refl
same_or zero (suc c) = inr (λ e. omega (arith, e))
same_or (suc a) zero = inr (λ e. omega (arith, e))
same_or (suc a) (suc c) = elim (same_or a c) [ inl e ↦ inl (ap (λ n. suc n) e) | inr ne ↦ inr (λ e. ne (omega (arith, e))) ]

-- what holds of an element and of the one in its place holds at each place
pub set_relates : {X : Type 0} (P : X → X → Type 0) (xs : List X) (i : ℕ) (y d : X) → ((x : X) → P x x) → P (get_or xs i d) y → i < length xs → (j : ℕ) → P (get_or xs j d) (get_or (set xs i y) j d)
set_relates P xs i y d same here lt j = elim (same_or j i) [
  | inl e ↦ subst (λ n. P (get_or xs n d) (get_or (set xs i y) n d)) (sym e) (subst (λ z. P (get_or xs i d) z) (sym (get_or-set_same xs i y d lt)) here)
  | inr ne ↦ subst (λ z. P (get_or xs j d) z) (sym (get_or-set_other xs i j y d ne)) (same (get_or xs j d))
]

module _ (level : Level) (node below : ℕ) (work : List SizeStep) (sorted : (v : ℕ) → Descends (stretch_of level v)) where
  pub on_set : (rows : List Handler) (work' : List SizeStep) → node < length level → StretchLanding (stretch_of level node) rows below work work' → LevelLanding level (set level node rows) node below work work'
  on_set rows work' lt l = record {
    kept = l.kept;
    came = l.came;
    fewer = set_relates (λ x y. (row : Handler) → Contains y row → Contains x row) level node rows [] (λ x row c. c) l.fewer lt;
    on = set_relates (λ x y. (row : Handler) → Contains x row → Contains y row ⊎ Contains work' (landing row)) level node rows [] (λ x row c. inl c) l.on lt;
    clear = subst (λ y. (row : Handler) → Contains y row → row.depth ≤ below → ⊥) (sym (get_or-set_same level node rows [] lt)) l.clear;
    sorted = λ v. set_relates (λ x y. Descends x → Descends y) level node rows [] (λ x d. d) (λ d. l.sorted) lt v (sorted v);
    lighter = (let e = level_size-set level node rows lt in let h = l.lighter in omega (arith, e, h));
  }

  pub on_same : length level ≤ node → LevelLanding level level node below work work
  on_same le = record {
    kept = λ s c. c;
    came = λ s c. inl c;
    fewer = λ v row c. c;
    on = λ v row c. inl c;
    sorted = sorted;
    lighter = omega arith;
    clear = λ row c d. none_in_empty row (subst (λ y. Contains y row) (beyond level node le) c);
  }
    where
      beyond : (xs : Level) (i : ℕ) → length xs ≤ i → get_or xs i [] ≡ []
      beyond [] i h = refl
      beyond (x ∷ xs) zero h = absurd (omega arith)
      beyond (x ∷ xs) (suc i) h = beyond xs i (omega arith)

module _ (levels : List Level) (q below : ℕ) (work : List SizeStep) where
  pub all_start : AllDescend levels → LevelsLandingSoFar levels levels 0 q below work work
  all_start d = record { kept = λ s c. c; came = λ s c. inl c; fewer = λ k v row c. c; on = λ k v row c. inl c; clear = λ k row lt. absurd (omega arith); sorted = d; long = refl; lighter = omega arith }

  module _ (levels1 : List Level) (k : ℕ) (work1 : List SizeStep) (l : LevelsLandingSoFar levels levels1 k q below work work1) where
    pub all_more : (level : Level) (work2 : List SizeStep) → k < length levels1 → LevelLanding (get_or levels1 k []) level (up k q) below work1 work2
        → LevelsLandingSoFar levels (set levels1 k level) (k + 1) q below work work2
    all_more level work2 lt o = record {
      kept = λ s c. o.kept s (l.kept s c);
      came = λ s c. elim (o.came s c) [
        | inl a ↦ l.came s a
        | inr (row, (a, r)) ↦ inr (row, (record { level = k; among = l.fewer k (up k q) row a }, r))
      ];
      fewer = λ j v row c. l.fewer j v row (fewer_here j v row c);
      on = λ j v row c. elim (l.on j v row c) [ inl a ↦ on_here j v row a | inr a ↦ inr (o.kept (landing row) a) ];
      clear = λ j row h c. elim (below_or j k h) [ inl a ↦ l.clear j row a (fewer_here j (up j q) row c) | inr e ↦ clear_here j row e c ];
      sorted = λ j. set_relates (λ x y. ((v : ℕ) → Descends (stretch_of x v)) → (v : ℕ) → Descends (stretch_of y v)) levels1 k level [] (λ x d. d) (λ d. o.sorted) lt j (l.sorted j);
      long = length-set levels1 k level ∙ l.long;
      lighter = (let e = levels_size-set levels1 k level lt in let h = l.lighter in let g = o.lighter in omega (arith, e, h, g));
    }
      where
        fewer_here : (j v : ℕ) (row : Handler) → Contains (stretch (set levels1 k level) j v) row → Contains (stretch levels1 j v) row
        fewer_here j = set_relates (λ x y. (v : ℕ) (row : Handler) → Contains (stretch_of y v) row → Contains (stretch_of x v) row) levels1 k level [] (λ x v row c. c) o.fewer lt j

        on_here : (j v : ℕ) (row : Handler) → Contains (stretch levels1 j v) row → Contains (stretch (set levels1 k level) j v) row ⊎ Contains work2 (landing row)
        on_here j = set_relates (λ x y. (v : ℕ) (row : Handler) → Contains (stretch_of x v) row → Contains (stretch_of y v) row ⊎ Contains work2 (landing row)) levels1 k level []
            (λ x v row c. inl c) o.on lt j

        clear_here : (j : ℕ) (row : Handler) → j ≡ k → Contains (stretch (set levels1 k level) j (up j q)) row → row.depth ≤ below → ⊥
        clear_here j row e c = o.clear row (subst (λ y. Contains (stretch_of y (up k q)) row) (get_or-set_same levels1 k level [] lt) (subst (λ n. Contains (stretch (set levels1 k level) n (up n q)) row) e c))

    pub all_end : length levels1 ≤ k → SearchLanding levels levels1 q below work work1
    all_end le = record {
      landed = record {
        kept = l.kept;
        came = l.came;
        fewer = λ pc row w. record { level = w.level; among = l.fewer w.level (up w.level pc) row w.among };
        on = λ pc row w. elim (l.on w.level (up w.level pc) row w.among) [ inl a ↦ inl (record { level = w.level; among = a }) | inr a ↦ inr a ];
        clear = λ row w. l.clear w.level row (inside w.level (up w.level q) row w.among) w.among;
      };
      sorted = l.sorted;
      lighter = l.lighter;
    }
      where
        in_levels : (xs : List Level) (i v : ℕ) (row : Handler) → Contains (stretch xs i v) row → i < length xs
        in_levels [] i v row c = absurd (none_in_empty row c)
        in_levels (y ∷ xs) zero v row c = omega arith
        in_levels (y ∷ xs) (suc i) v row c = let h = in_levels xs i v row c in omega (arith, h)

        inside : (j v : ℕ) (row : Handler) → Contains (stretch levels1 j v) row → j < k
        inside j v row c = let h = in_levels levels1 j v row c in omega (arith, h, le)

pub same_long : {X Y : Type 0} (f : X → Y) (xs ys : List X) → length (map f xs) ≡ length (map f ys) → length xs ≡ length ys
same_long f xs ys e = simp length-map at e

pub up_next : (k q : ℕ) → up (k + 1) q ≡ up k q / 2
up_next k q = let e : k + 1 ≡ suc k = omega arith in ap (λ n. up n q) e
