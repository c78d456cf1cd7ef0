-- Rows in chains, stretch by stretch.
use Rattle.std.proofs.Common.{◌≡◌, ℕ, ◌+◌, ◌<◌, ◌≤◌, zero, suc, Bool, true, false, List, [], ◌∷◌, ◌++◌, length, map, Some, refl, sym, ap, ◌∙◌, subst, arith, inl, inr, length-append, get_or}
use Rattle.std.specs.Prelude.{nat_eq, nat_lt, cond, slice_get, slice_index_or}
use Rattle.std.specs.List.{AllWithin}
use Rattle.std.specs.List.Sorted.{IsPartitionedBy}
use Rattle.std.proofs.Math.Seq.{get_or-append_seam}
use Rattle.std.proofs.lemmas.Bool.Decides.{nat_tests}
use Rattle.std.proofs.lemmas.List.{get_or_append_left, get_or-map}
use Rattle.std.proofs.lemmas.Option.{same_Some, slice_get-get_or, slice_get_within}
use Rattle.pt_ranges.specs.declared.handlers.Handler.{Handler}
use Rattle.pt_sizes.specs.Waiting.{Level, Descends, stretch_of, stretch}
use Rattle.pt_sizes.proofs.Tables.{below_or, some_or_none}
use Rattle.pt_step_graph.proofs.Numbers.{is_lt}
use Rattle.pt_block_kinds.proofs.Lists as Lists
use Rattle.pt_cut_failures.specs.declared.chains.Link.{Link}
use Rattle.pt_cut_failures.specs.Chains.{link_of, start_at, StandsFrom, Kept, Chained, LaidLevel, LaidLevels, first_within}

got_kept : {X : Type 0} (xs ys : List X) (c : ℕ) (x : X) → slice_get xs c ≡ Some x → slice_get (xs ++ ys) c ≡ Some x
got_kept [] ys c x e = absurd (some_or_none x (sym e))
got_kept (y ∷ xs) ys zero x e = e
got_kept (y ∷ xs) ys (suc c) x e = got_kept xs ys c x e

got_last : {X : Type 0} (xs : List X) (x : X) → slice_get (xs ++ x ∷ []) (length xs) ≡ Some x
got_last [] x = refl
got_last (y ∷ xs) x = got_last xs x

pub kept_all : (links : List Link) → Kept links links
kept_all links c l e = e

kept_then : (one other last : List Link) → Kept one other → Kept other last → Kept one last
kept_then one other last h k c l e = k c l (h c l e)

stands_kept : (old new : List Link) (start : ℕ) (rows : List Handler) → Kept old new → StandsFrom old start rows → StandsFrom new start rows
stands_kept old new start rows h s j row e = h (start + j) (link_of row (nat_eq (j + 1) (length rows))) (s j row e)

-- a chain up to a row
pub record Chaining (old new : List Link) (rows : List Handler) (at : ℕ) : Type 0 where
  pub kept : Kept old new
  pub long : length new ≡ length old + at
  pub stands : (j : ℕ) (row : Handler) → j < at → slice_get rows j ≡ Some row
      → slice_get new (length old + j) ≡ Some (link_of row (nat_eq (j + 1) (length rows)))

module _ (old : List Link) (rows : List Handler) where
  pub chain_starts : Chaining old old rows 0
  chain_starts = record { kept = kept_all old; long = omega arith; stands = λ j row lt. absurd (omega (arith, lt)) }

  pub chain_more : (new new' : List Link) (at : ℕ) (row : Handler) → Chaining old new rows at → slice_get rows at ≡ Some row
      → new' ≡ new ++ link_of row (nat_eq (at + 1) (length rows)) ∷ [] → Chaining old new' rows (at + 1)
  chain_more new new' at row c s e = record {
    kept = λ m l f. subst (λ xs. slice_get xs m ≡ Some l) (sym e) (got_kept new (link ∷ []) m l (c.kept m l f));
    long = ap length e ∙ (length-append new (link ∷ []) ∙ (let l = c.long in omega (arith, l)));
    stands = λ j found lt f. subst (λ xs. slice_get xs (length old + j) ≡ Some (link_of found (nat_eq (j + 1) (length rows)))) (sym e) (elim (below_or j at lt) [
      | inl h ↦ got_kept new (link ∷ []) (length old + j) (link_of found (nat_eq (j + 1) (length rows))) (c.stands j found h f)
      | inr same ↦ here j found same f
    ]);
  }
    where
      link : Link
      link = link_of row (nat_eq (at + 1) (length rows))

      here : (j : ℕ) (found : Handler) → j ≡ at → slice_get rows j ≡ Some found → slice_get (new ++ link ∷ []) (length old + j) ≡ Some (link_of found (nat_eq (j + 1) (length rows)))
      here j found same f =
          let one : row ≡ found = same_Some row found (sym s ∙ subst (λ m. slice_get rows m ≡ Some found) same f) in
          subst (λ m. slice_get (new ++ link ∷ []) (length old + m) ≡ Some (link_of found (nat_eq (m + 1) (length rows)))) (sym same)
          (subst (λ m. slice_get (new ++ link ∷ []) m ≡ Some (link_of found (nat_eq (at + 1) (length rows)))) c.long
          (got_last new link ∙ ap (λ r. Some (link_of r (nat_eq (at + 1) (length rows)))) one))

  pub chained : (new : List Link) (at : ℕ) → length rows ≤ at → Chaining old new rows at → Chained old new rows
  chained new at end c = record { kept = c.kept; stands = λ j row e. c.stands j row (let l = slice_get_within rows j row e in omega (arith, l, end)) e }

-- what is told of each part up to one, and stays where links are added
pub record Laying {X : Type 0} (d : X) (P : List Link → ℕ → X → Type 0) (old new : List Link) (xs : List X) (v : ℕ) : Type 0 where
  pub kept : Kept old new
  pub long : length xs ≡ v
  pub each : (u : ℕ) → u < v → P new u (slice_index_or xs u d)

module _ {X : Type 0} (d : X) (P : List Link → ℕ → X → Type 0) (stays : (one other : List Link) → Kept one other → (u : ℕ) (x : X) → P one u x → P other u x) where
  pub laying_starts : (old : List Link) → Laying d P old old [] 0
  laying_starts old = record { kept = kept_all old; long = refl; each = λ u lt. absurd (omega (arith, lt)) }

  pub laying_more : (old new new' : List Link) (xs : List X) (v : ℕ) (x : X) → Laying d P old new xs v → Kept new new' → P new' v x → Laying d P old new' (xs ++ x ∷ []) (v + 1)
  laying_more old new new' xs v x l k p = record {
    kept = kept_then old new new' l.kept k;
    long = length-append xs (x ∷ []) ∙ (let h = l.long in omega (arith, h));
    each = λ u lt. elim (below_or u v lt) [
      | inl h ↦ subst (P new' u) (sym (get_or_append_left xs (x ∷ []) d u (let e = l.long in omega (arith, h, e)))) (stays new new' k u (slice_index_or xs u d) (l.each u h))
      | inr same ↦ subst (λ w. P new' w (slice_index_or (xs ++ x ∷ []) w d)) (sym same)
          (subst (P new' v) (sym (ap (λ w. slice_index_or (xs ++ x ∷ []) w d) (sym l.long) ∙ get_or-append_seam xs x [] d)) p)
    ];
  }

-- the stretches of a level

abbrev pub InLevel : Level → List Link → (v start : ℕ) → Type 0
InLevel level links v start = StandsFrom links start (stretch_of level v)

pub level_stays : (level : Level) (one other : List Link) → Kept one other → (u x : ℕ) → InLevel level one u x → InLevel level other u x
level_stays level one other k u x s = stands_kept one other x (stretch_of level u) k s

pub past : {X : Type 0} (xs : List X) (v : ℕ) (d : X) → length xs ≤ v → slice_index_or xs v d ≡ d
past [] v d h = refl
past (x ∷ xs) zero d h = absurd (omega (arith, h))
past (x ∷ xs) (suc v) d h = past xs v d (omega (arith, h))

none_stand : (links : List Link) (start : ℕ) (rows : List Handler) → rows ≡ [] → StandsFrom links start rows
none_stand links start rows e j row f = absurd (some_or_none row (sym (subst (λ xs. slice_get xs j ≡ Some row) e f)))

-- in those behind the last there are no rows
pub level_laid : (old new : List Link) (level : Level) (starts : List ℕ) (v : ℕ) → length level ≤ v → Laying 0 (InLevel level) old new starts v → LaidLevel old new level starts
level_laid old new level starts v end l = record {
  kept = l.kept;
  stands = λ u. elim (Lists.below_or u v) [
    | inl h ↦ l.each u h
    | inr h ↦ none_stand new (slice_index_or starts u 0) (stretch_of level u) (past level u [] (omega (arith, h, end)))
  ];
}

-- the levels

abbrev pub InLevels : List Level → List Link → (k : ℕ) → List ℕ → Type 0
InLevels levels links k starts = (v : ℕ) → StandsFrom links (slice_index_or starts v 0) (stretch levels k v)

pub levels_stay : (levels : List Level) (one other : List Link) → Kept one other → (k : ℕ) (x : List ℕ) → InLevels levels one k x → InLevels levels other k x
levels_stay levels one other h k x s v = stands_kept one other (slice_index_or x v 0) (stretch levels k v) h (s v)

pub levels_laid : (old new : List Link) (levels : List Level) (starts : List (List ℕ)) (k : ℕ) → length levels ≤ k → Laying [] (InLevels levels) old new starts k
    → LaidLevels old new levels starts
levels_laid old new levels starts k end l = record {
  kept = l.kept;
  stands = λ j v. elim (Lists.below_or j k) [
    | inl h ↦ l.each j h v
    | inr h ↦ none_stand new (start_at starts j v) (stretch levels j v) (ap (λ level. stretch_of level v) (past levels j [] (omega (arith, h, end))))
  ];
}

-- the rows that leave no more slots

abbrev pub is_deeper : (below : ℕ) → Handler → Bool
is_deeper below row = nat_lt below row.depth

pub parted : (rows : List Handler) (below : ℕ) → Descends rows → IsPartitionedBy (is_deeper below) rows
parted rows below descends i j d before within is =
    let h : (get_or rows j d).depth ≤ (get_or rows i d).depth = descends i j (get_or rows i d) (get_or rows j d) before (slice_get-get_or rows i d (omega (arith, before, within))) (slice_get-get_or rows j d within) in
    grind (arith, nat_tests)

pub first_is : (rows : List Handler) (below i : ℕ) → i ≤ length rows → AllWithin (λ row. is_deeper below row ≡ true) rows 0 i
    → AllWithin (λ row. is_deeper below row ≡ false) rows i (length rows) → i ≡ first_within rows below
first_is [] below zero h a b = refl
first_is [] below (suc i) h a b = absurd (omega arith)
first_is (row ∷ rows) below zero h a b =
    let off : nat_lt below row.depth ≡ false = b zero row (omega arith) (omega arith) in
    ap (λ t. cond t (suc (first_within rows below)) 0) (sym off)
first_is (row ∷ rows) below (suc i) h a b =
    let on : nat_lt below row.depth ≡ true = a zero row (omega arith) (omega arith) in
    let rest : i ≡ first_within rows below = first_is rows below i (omega arith) (λ k e low high. a (suc k) e (omega arith) (omega arith)) (λ k e low high. b (suc k) e (omega arith) (omega arith)) in
    ap (λ n. suc n) rest ∙ ap (λ t. cond t (suc (first_within rows below)) 0) (sym on)

-- none before it leaves as few
pub first_before : (rows : List Handler) (below j : ℕ) (row : Handler) → slice_get rows j ≡ Some row → row.depth ≤ below → first_within rows below ≤ j
first_before [] below j row e h = absurd (some_or_none row (sym e))
first_before (x ∷ rows) below zero row e h = by (nat_lt below x.depth) refl
  where
    by : (t : Bool) → nat_lt below x.depth ≡ t → cond t (suc (first_within rows below)) 0 ≤ 0
    by true f = absurd (let d : below < x.depth = is_lt below x.depth f in let same = ap (λ r. r.depth) (same_Some x row e) in omega (arith, d, same, h))
    by false f = omega arith
first_before (x ∷ rows) below (suc j) row e h = by (first_before rows below j row e h) (nat_lt below x.depth)
  where
    by : first_within rows below ≤ j → (t : Bool) → cond t (suc (first_within rows below)) 0 ≤ suc j
    by rest true = omega (arith, rest)
    by rest false = omega arith

pub record StandsFirst (rows : List Handler) (below : ℕ) : Type 0 where
  pub row : Handler
  pub is : slice_get rows (first_within rows below) ≡ Some row
  pub within : row.depth ≤ below

pub stands_first : (rows : List Handler) (below : ℕ) → first_within rows below < length rows → StandsFirst rows below
stands_first [] below h = absurd (omega (arith, h))
stands_first (x ∷ rows) below h = by (stands_first rows below) (nat_lt below x.depth) refl h
  where
    at_first : (m : ℕ) → m ≡ first_within (x ∷ rows) below → (row : Handler) → slice_get (x ∷ rows) m ≡ Some row → row.depth ≤ below → StandsFirst (x ∷ rows) below
    at_first m e row s w = record { row = row; is = subst (λ k. slice_get (x ∷ rows) k ≡ Some row) e s; within = w }

    by : (first_within rows below < length rows → StandsFirst rows below) → (t : Bool) → nat_lt below x.depth ≡ t
        → cond t (suc (first_within rows below)) 0 < suc (length rows) → StandsFirst (x ∷ rows) below
    by ih true f lt = let r = ih (omega (arith, lt)) in at_first (suc (first_within rows below)) (ap (λ t. cond t (suc (first_within rows below)) 0) (sym f)) r.row r.is r.within
    by ih false f lt = at_first 0 (ap (λ t. cond t (suc (first_within rows below)) 0) (sym f)) x refl (let k : x.depth ≤ below = grind (arith, nat_tests) in k)

-- nor more where it comes later
pub later_within : (rows : List Handler) (below j : ℕ) (row : Handler) → Descends rows → first_within rows below ≤ j → slice_get rows j ≡ Some row → row.depth ≤ below
later_within rows below j row sorted h e =
    let l = slice_get_within rows j row e in
    let first = stands_first rows below (omega (arith, l, h)) in
    let k : row.depth ≤ first.row.depth = sorted (first_within rows below) j first.row row h first.is e in
    let w = first.within in
    omega (arith, k, w)

-- what an index reads of a list that is seen otherwise
pub read_map : {A B : Type 0} (f : A → B) (xs : List A) (i : ℕ) (x : A) (d : B) → i < length xs → x ≡ get_or xs i x → slice_index_or (map f xs) i d ≡ f x
read_map f xs i x d lt e = get_or-map f xs i x d lt ∙ ap f (sym e)
