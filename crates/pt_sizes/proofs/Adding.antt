-- Rows are put where they wait.
use Rattle.std.proofs.Common.{◌≡◌, ℕ, ◌+◌, ◌-◌, ◌/◌, ◌%◌, ◌<◌, ◌≤◌, Bool, true, false, List, [], ◌∷◌, ◌++◌, length, map, Some, refl, sym, ap, ◌∙◌, subst, arith, zero, suc, ◌⊎◌, inl, inr, get_or, set, length-append}
use Rattle.std.specs.Prelude.{Vec, min, max, Contains, slice_get}
use Rattle.std.proofs.lemmas.List.{get_or-map, get_or-set_same, get_or-set_other, length-set, map-set, map-append}
use Rattle.std.proofs.lemmas.List.Elements.{Contains-push, Contains-push_cases, Contains-append_left}
use Rattle.std.proofs.lemmas.Bool.Decides.{nat_tests}
use Rattle.std.proofs.lemmas.Bool.{false≢true}
use Rattle.std.proofs.lemmas.Option.{same_Some}
use Rattle.std.proofs.Math.Nat.{le-max_left, le-max_right, max-eq_left, max-eq_right, min-le_left, min-le_right, le-min}
use Rattle.pt_ranges.specs.declared.handlers.Handler.{Handler}
use Rattle.pt_sizes.specs.Flow.{is_under}
use Rattle.pt_sizes.specs.Waiting.{Level, up, stretch_of, stretch, Waits, Descends, Rises, AllUnder, put, at_low, at_high, placed, first_depth, DeepestBelow, Empty, Adding, Added, Ready, WaitingSoFar, Index, AllWait, IsDeepest, AreDeepest, BareTo, level_of, levels_of}
use Rattle.pt_sizes.proofs.Tables.{below_or, none_in_empty}
use Rattle.pt_sizes.proofs.Landings.{contains_get, get_left, get_last, set_relates, same_or, read_items, no_more}

get_cases : (xs : List Handler) (x : Handler) (i : ℕ) (y : Handler) → slice_get (xs ++ x ∷ []) i ≡ Some y → (slice_get xs i ≡ Some y) ⊎ ((i ≡ length xs) × (x ≡ y))
get_cases [] x zero y e = inr (refl, same_Some _ _ e)
get_cases [] x (suc i) y e = absurd (cc)
get_cases (z ∷ xs) x zero y e = inl e
get_cases (z ∷ xs) x (suc i) y e = elim (get_cases xs x i y e) [ inl a ↦ inl a | inr (a, c) ↦ inr (ap (λ n. suc n) a, c) ]

pub get_in : {X : Type 0} (xs : List X) (i : ℕ) (x : X) → slice_get xs i ≡ Some x → Contains xs x
get_in [] i x e = absurd (cc)
get_in (y ∷ xs) zero x e = (zero, (omega arith), same_Some _ _ e)
get_in (y ∷ xs) (suc i) x e = let (k, l, g) = get_in xs i x e in (suc k, (omega (arith, l)), g)

get_below : {X : Type 0} (xs : List X) (i : ℕ) (x : X) → slice_get xs i ≡ Some x → i < length xs
get_below [] i x e = absurd (cc)
get_below (y ∷ xs) zero x e = omega arith
get_below (y ∷ xs) (suc i) x e = let h = get_below xs i x e in omega (arith, h)

-- no row of a stretch is less deep than one that comes behind it
descends_push : (rows : List Handler) (row : Handler) → Descends rows → ((r : Handler) → Contains rows r → row.depth ≤ r.depth) → Descends (rows ++ row ∷ [])
descends_push rows row d lower i j r s le e g = by_cases (get_cases rows row i r e) (get_cases rows row j s g)
  where
    by_cases : (slice_get rows i ≡ Some r) ⊎ ((i ≡ length rows) × (row ≡ r)) → (slice_get rows j ≡ Some s) ⊎ ((j ≡ length rows) × (row ≡ s)) → s.depth ≤ r.depth
    by_cases (inl a) (inl c) = d i j r s le a c
    by_cases (inl a) (inr (c, f)) = subst (λ x. x.depth ≤ r.depth) f (lower r (get_in rows i r a))
    by_cases (inr (a, f)) (inl c) = absurd (let h = get_below rows j s c in omega (arith, h, a, le))
    by_cases (inr (a, f)) (inr (c, h)) = subst (λ x. s.depth ≤ x.depth) f (subst (λ x. x.depth ≤ row.depth) h (omega arith))

rises_front : (rows more : List Handler) → Rises (rows ++ more) → Rises rows
rises_front rows more d i j r s le e g = d i j r s le (get_left rows more i r e) (get_left rows more j s g)

rises_last : (rows : List Handler) (row : Handler) → Rises (rows ++ row ∷ []) → (r : Handler) → Contains rows r → r.depth ≤ row.depth
rises_last rows row d r c = let (i, (m, g)) = contains_get rows r c in d i (length rows) r row (omega (arith, m)) (get_left rows (row ∷ []) i r g) (get_last rows row)

-- a row is put into one stretch
module _ (level : Level) (node : ℕ) (row : Handler) where
  put_old : (t : Bool) → (t ≡ true → node < length level) → (v : ℕ) (r : Handler) → Contains (stretch_of level v) r → Contains (stretch_of (put t level node row) v) r
  put_old false h v r c = c
  put_old true h v r c = set_relates (λ x y. (r : Handler) → Contains x r → Contains y r) level node (stretch_of level node ++ row ∷ []) [] (λ x r c. c)
      (λ r c. Contains-append_left (stretch_of level node) (row ∷ []) r c) (h refl) v r c

  put_new : (t : Bool) → (t ≡ true → node < length level) → (v : ℕ) (r : Handler) → Contains (stretch_of (put t level node row) v) r → Contains (stretch_of level v) r ⊎ ((r ≡ row) × ((v ≡ node) × (t ≡ true)))
  put_new false h v r c = inl c
  put_new true h v r c = elim (same_or v node) [
    | inl e ↦ elim (Contains-push_cases (stretch_of level node) row r (subst (λ x. Contains x r) (get_or-set_same level node (stretch_of level node ++ row ∷ []) [] (h refl))
        (subst (λ n. Contains (stretch_of (put true level node row) n) r) e c)))
        [ inl a ↦ inl (subst (λ n. Contains (stretch_of level n) r) (sym e) a) | inr same ↦ inr (sym same, (e, refl)) ]
    | inr ne ↦ inl (subst (λ x. Contains x r) (get_or-set_other level node v (stretch_of level node ++ row ∷ []) [] ne) c)
  ]

  put_here : (t : Bool) → (t ≡ true → node < length level) → t ≡ true → Contains (stretch_of (put t level node row) node) row
  put_here true h e = subst (λ x. Contains x row) (sym (get_or-set_same level node (stretch_of level node ++ row ∷ []) [] (h refl))) (Contains-push (stretch_of level node) row)
  put_here false h e = absurd (false≢true e)

  put_sorted : (t : Bool) → (t ≡ true → node < length level) → ((v : ℕ) → Descends (stretch_of level v)) → ((v : ℕ) (r : Handler) → Contains (stretch_of level v) r → row.depth ≤ r.depth)
      → (v : ℕ) → Descends (stretch_of (put t level node row) v)
  put_sorted false h d lower v = d v
  put_sorted true h d lower v = set_relates (λ x y. Descends x → Descends y) level node (stretch_of level node ++ row ∷ []) [] (λ x k. k)
      (λ k. descends_push (stretch_of level node) row k (lower node)) (h refl) v (d v)

  put_long : (t : Bool) → length (put t level node row) ≡ length level
  put_long true = length-set level node (stretch_of level node ++ row ∷ [])
  put_long false = refl

  put_deeper : (t : Bool) → (t ≡ true → node < length level) → ((v : ℕ) (r : Handler) → Contains (stretch_of level v) r → row.depth ≤ r.depth)
      → (v : ℕ) (r : Handler) → Contains (stretch_of (put t level node row) v) r → row.depth ≤ r.depth
  put_deeper t h lower v r c = elim (put_new t h v r c) [ inl a ↦ lower v r a | inr (e, x) ↦ subst (λ z. row.depth ≤ z.depth) (sym e) (omega arith) ]

pub low_is : (low high : ℕ) → at_low low high ≡ true → (low < high) × (low % 2 ≡ 1)
low_is low high h = grind (arith, nat_tests)

pub high_is : (low high : ℕ) → at_high low high ≡ true → (low < high) × (high % 2 ≡ 1)
high_is low high h = grind (arith, nat_tests)

pub is_low : (low high : ℕ) → low < high → low % 2 ≡ 1 → at_low low high ≡ true
is_low low high h k = grind (arith, nat_tests)

pub is_high : (low high : ℕ) → low < high → high % 2 ≡ 1 → at_high low high ≡ true
is_high low high h k = grind (arith, nat_tests)

-- a number within is one of the ends, or its half is within the halves
pub data Half (x low high : ℕ) : Type 0 where
  lowest : x ≡ low → low < high → low % 2 ≡ 1 → Half x low high
  highest : x ≡ high - 1 → low < high → high % 2 ≡ 1 → Half x low high
  within : (low + 1) / 2 ≤ x / 2 → x / 2 < high / 2 → Half x low high

odd_or : (n : ℕ) → (n % 2 ≡ 1) ⊎ (n % 2 ≡ 0)
odd_or n = by_rest (n % 2) (omega arith)
  where
    by_rest : (r : ℕ) → r < 2 → (r ≡ 1) ⊎ (r ≡ 0)
    by_rest zero h = inr refl
    by_rest (suc zero) h = inl refl
    by_rest (suc (suc r)) h = absurd (omega arith)

pub halve : (x low high : ℕ) → low ≤ x → x < high → Half x low high
halve x low high h k = by_low (odd_or low) (same_or x low)
  where
    by_high : (low + 1) / 2 ≤ x / 2 → (high % 2 ≡ 1) ⊎ (high % 2 ≡ 0) → (x ≡ high - 1) ⊎ (x ≡ high - 1 → ⊥) → Half x low high
    by_high g (inl o) (inl e) = highest e (omega (arith, h, k)) o
    by_high g (inl o) (inr ne) = within g (let m : x + 1 < high = not_last ne in omega (arith, o, m))
      where
        not_last : (x ≡ high - 1 → ⊥) → x + 1 < high
        not_last ne = elim (below_or (x + 1) high (omega (arith, k))) [ inl a ↦ a | inr e ↦ absurd (ne (omega (arith, e))) ]
    by_high g (inr o) e = within g (omega (arith, o, k))

    by_low : (low % 2 ≡ 1) ⊎ (low % 2 ≡ 0) → (x ≡ low) ⊎ (x ≡ low → ⊥) → Half x low high
    by_low (inl o) (inl e) = lowest e (omega (arith, h, k)) o
    by_low (inl o) (inr ne) = by_high (let m : low < x = not_first ne in omega (arith, o, m)) (odd_or high) (same_or x (high - 1))
      where
        not_first : (x ≡ low → ⊥) → low < x
        not_first ne = elim (below_or low x (omega (arith, h))) [ inl a ↦ a | inr e ↦ absurd (ne (sym e)) ]
    by_low (inr o) e = by_high (omega (arith, o, h)) (odd_or high) (same_or x (high - 1))

-- what halves are within is within
pub unhalve : (x low high : ℕ) → (low + 1) / 2 ≤ x / 2 → x / 2 < high / 2 → (low ≤ x) × (x < high)
unhalve x low high h k = (omega (arith, h), omega (arith, k))

module _ (level : Level) (low high : ℕ) (row : Handler) (room : high < length level + 1) where
  low_room : at_low low high ≡ true → low < length level
  low_room t = let h = (low_is low high t).0 in omega (arith, h, room)

  abbrev first : Level
  first = put (at_low low high) level low row

  high_room : at_high low high ≡ true → high - 1 < length first
  high_room t = let h = (high_is low high t).0 in let e = put_long level low row (at_low low high) in omega (arith, h, e, room)

  placed_old : (v : ℕ) (r : Handler) → Contains (stretch_of level v) r → Contains (stretch_of (placed level low high row) v) r
  placed_old v r c = put_old first (high - 1) row (at_high low high) high_room v r (put_old level low row (at_low low high) low_room v r c)

  placed_new : (v : ℕ) (r : Handler) → Contains (stretch_of (placed level low high row) v) r → Contains (stretch_of level v) r ⊎ ((r ≡ row) × ((low ≤ v) × (v < high)))
  placed_new v r c = elim (put_new first (high - 1) row (at_high low high) high_room v r c) [
    | inl a ↦ elim (put_new level low row (at_low low high) low_room v r a) [
      | inl x ↦ inl x
      | inr (e, (g, t)) ↦ (let h = (low_is low high t).0 in inr (e, ((omega (arith, g)), (omega (arith, g, h)))))
    ]
    | inr (e, (g, t)) ↦ (let h = (high_is low high t).0 in inr (e, ((omega (arith, g, h)), (omega (arith, g, h)))))
  ]

  placed_low : low < high → low % 2 ≡ 1 → Contains (stretch_of (placed level low high row) low) row
  placed_low h k = put_old first (high - 1) row (at_high low high) high_room low row (put_here level low row (at_low low high) low_room (is_low low high h k))

  placed_high : low < high → high % 2 ≡ 1 → Contains (stretch_of (placed level low high row) (high - 1)) row
  placed_high h k = put_here first (high - 1) row (at_high low high) high_room (is_high low high h k)

  placed_sorted : ((v : ℕ) → Descends (stretch_of level v)) → ((v : ℕ) (r : Handler) → Contains (stretch_of level v) r → row.depth ≤ r.depth) → (v : ℕ) → Descends (stretch_of (placed level low high row) v)
  placed_sorted d lower = put_sorted first (high - 1) row (at_high low high) high_room (put_sorted level low row (at_low low high) low_room d lower)
      (put_deeper level low row (at_low low high) low_room lower)

  placed_deeper : ((v : ℕ) (r : Handler) → Contains (stretch_of level v) r → row.depth ≤ r.depth) → (v : ℕ) (r : Handler) → Contains (stretch_of (placed level low high row) v) r → row.depth ≤ r.depth
  placed_deeper lower = put_deeper first (high - 1) row (at_high low high) high_room (put_deeper level low row (at_low low high) low_room lower)

  placed_long : length (placed level low high row) ≡ length level
  placed_long = put_long first (high - 1) row (at_high low high) ∙ put_long level low row (at_low low high)

-- above a level with one stretch there is one
pub up_zero : (m k n : ℕ) → k ≤ m → up k n ≡ 0 → up m n ≡ 0
up_zero zero k n h e = subst (λ j. up j n ≡ 0) (let z : k ≡ 0 = omega (arith, h) in z) e
up_zero (suc m) k n h e = elim (below_or k (suc m) (omega (arith, h)))
    [ inl a ↦ ap (λ x. x / 2) (up_zero m k n (omega (arith, a)) e) | inr a ↦ subst (λ j. up j n ≡ 0) a e ]

up_next : (k q : ℕ) → up (k + 1) q ≡ up k q / 2
up_next k q = let e : k + 1 ≡ suc k = omega arith in ap (λ n. up n q) e

module _ (count : ℕ) (row : Handler) (levels : List Level) where
  pub adding_start : (low high : ℕ) → Ready count row levels → ((q : ℕ) → low ≤ q → q < high → is_under row q ≡ true)
      → ((q : ℕ) → q < count → is_under row q ≡ true → (low ≤ q) × (q < high)) → high ≤ count → Adding count row levels levels 0 low high
  adding_start low high s sound whole small = record {
    old = λ k v r c. c;
    new = λ k v r c. inl c;
    sound = sound;
    whole = λ q lt u. inr (whole q lt u);
    sorted = s.sorted;
    deeper = s.deeper;
    small = small;
    tall = s.tall;
    long = refl;
  }

  module _ (levels1 : List Level) (k low high : ℕ) (a : Adding count row levels levels1 k low high) (lt : k < length levels1) where
    abbrev Here : Level
    Here = get_or levels1 k []

    abbrev Next : Level
    Next = placed Here low high row

    abbrev L2 : List Level
    L2 = set levels1 k Next

    pub room : high < length Here + 1
    room = let h = a.small in let w = a.tall.wide k lt in omega (arith, h, w)

    is_next : get_or L2 k [] ≡ Next
    is_next = get_or-set_same levels1 k Next [] lt

    old_here : (j v : ℕ) (r : Handler) → Contains (stretch levels1 j v) r → Contains (stretch L2 j v) r
    old_here j = set_relates (λ x y. (v : ℕ) (r : Handler) → Contains (stretch_of x v) r → Contains (stretch_of y v) r) levels1 k Next [] (λ x v r c. c) (placed_old Here low high row room) lt j

    in_next : (v : ℕ) (r : Handler) → Contains (stretch_of Next v) r → Contains (stretch L2 k v) r
    in_next v r c = subst (λ x. Contains (stretch_of x v) r) (sym is_next) c

    new_here : (j v : ℕ) (r : Handler) → Contains (stretch L2 j v) r → Contains (stretch levels1 j v) r ⊎ ((r ≡ row) × AllUnder j v row)
    new_here j v r c = elim (same_or j k) [
      | inl e ↦ at_k e (subst (λ n. Contains (stretch L2 n v) r) e c)
      | inr ne ↦ inl (subst (λ x. Contains (stretch_of x v) r) (get_or-set_other levels1 k j Next [] ne) c)
    ]
      where
        at_k : j ≡ k → Contains (stretch L2 k v) r → Contains (stretch levels1 j v) r ⊎ ((r ≡ row) × AllUnder j v row)
        at_k e c = elim (placed_new Here low high row room v r (subst (λ x. Contains (stretch_of x v) r) is_next c)) [
          | inl x ↦ inl (subst (λ n. Contains (stretch levels1 n v) r) (sym e) x)
          | inr (same, (g, h)) ↦ inr (same, λ q u. let u' : up k q ≡ v = subst (λ n. up n q ≡ v) e u in a.sound q (omega (arith, g, u')) (omega (arith, h, u')))
        ]

    pub adding_more : Adding count row levels L2 (k + 1) ((low + 1) / 2) (high / 2)
    adding_more = record {
      old = λ j v r c. old_here j v r (a.old j v r c);
      new = λ j v r c. elim (new_here j v r c) [ inl x ↦ a.new j v r x | inr x ↦ inr x ];
      sound = λ q g h. let e = up_next k q in let (m, n) = unhalve (up k q) low high (subst (λ x. (low + 1) / 2 ≤ x) e g) (subst (λ x. x < high / 2) e h) in a.sound q m n;
      whole = λ q g u. elim (a.whole q g u) [ inl w ↦ inl (record { level = w.level; among = old_here w.level (up w.level q) row w.among }) | inr (m, n) ↦ by_half q (halve (up k q) low high m n) ];
      sorted = λ j. set_relates (λ x y. ((v : ℕ) → Descends (stretch_of x v)) → (v : ℕ) → Descends (stretch_of y v)) levels1 k Next [] (λ x d. d)
          (λ d. placed_sorted Here low high row room d (a.deeper k)) lt j (a.sorted j);
      deeper = λ j. set_relates (λ x y. ((v : ℕ) (r : Handler) → Contains (stretch_of x v) r → row.depth ≤ r.depth) → (v : ℕ) (r : Handler) → Contains (stretch_of y v) r → row.depth ≤ r.depth)
          levels1 k Next [] (λ x d. d) (placed_deeper Here low high row room) lt j (a.deeper j);
      small = (let h = a.small in let e = up_next k count in omega (arith, h, e));
      long = length-set levels1 k Next ∙ a.long;
      tall = record {
        tall = subst (λ n. up n count ≡ 0) (sym (length-set levels1 k Next)) a.tall.tall;
        wide = λ j l. set_relates (λ x y. up j count < length x → up j count < length y) levels1 k Next [] (λ x h. h)
            (λ h. let e = placed_long Here low high row room in omega (arith, e, h)) lt j (a.tall.wide j (let e = length-set levels1 k Next in omega (arith, e, l)));
      };
    }
      where
        by_half : (q : ℕ) → Half (up k q) low high → Waits L2 q row ⊎ (((low + 1) / 2 ≤ up (k + 1) q) × (up (k + 1) q < high / 2))
        by_half q (lowest e h o) = inl (record { level = k; among = subst (λ v. Contains (stretch L2 k v) row) (sym e) (in_next low row (placed_low Here low high row room h o)) })
        by_half q (highest e h o) = inl (record { level = k; among = subst (λ v. Contains (stretch L2 k v) row) (sym e) (in_next (high - 1) row (placed_high Here low high row room h o)) })
        by_half q (within g h) = let e = sym (up_next k q) in inr (subst (λ x. (low + 1) / 2 ≤ x) e g, subst (λ x. x < high / 2) e h)

  pub adding_end : (levels1 : List Level) (k low high : ℕ) → Adding count row levels levels1 k low high → length levels1 ≤ k → Added count row levels levels1
  adding_end levels1 k low high a e = record {
    old = a.old;
    new = a.new;
    whole = λ q lt u. elim (a.whole q lt u) [ inl w ↦ w | inr (g, h) ↦ absurd (nothing q g h) ];
    sorted = a.sorted;
    deeper = a.deeper;
    tall = a.tall;
  }
    where
      nothing : (q : ℕ) → low ≤ up k q → up k q < high → ⊥
      nothing q g h = let s = a.small in let t : up k count ≡ 0 = up_zero k (length levels1) count e a.tall.tall in omega (arith, s, t, h)

module _ (rows : List Handler) (count : ℕ) where
  pub building_start : (left : List Handler) (levels : List Level) → Rises left → ((r : Handler) → Contains rows r → Contains left r) → ((r : Handler) → Contains left r → Contains rows r)
      → Empty count 0 levels → WaitingSoFar rows left count levels
  building_start left levels rises into from e = record {
    known = λ k v r c. absurd (e.none k v r c);
    whole = λ r c. inl (into r c);
    from = from;
    sorted = λ k v i j r s le g h. absurd (e.none k v r (get_in (stretch levels k v) i r g));
    deeper = λ k v r s c d. absurd (e.none k v r c);
    rises = rises;
    tall = record { tall = sym e.size_is; wide = e.wide };
  }

  module _ (left : List Handler) (row : Handler) (levels : List Level) (b : WaitingSoFar rows (left ++ row ∷ []) count levels) where
    pub building_ready : Ready count row levels
    building_ready = record { sorted = b.sorted; deeper = λ k v r c. b.deeper k v r row c (Contains-push left row); tall = b.tall }

    pub building_more : (levels' : List Level) → Added count row levels levels' → WaitingSoFar rows left count levels'
    building_more levels' a = record {
      known = λ k v r c. elim (a.new k v r c) [ inl x ↦ b.known k v r x | inr (e, u) ↦ (subst (λ x. Contains rows x) (sym e) (b.from row (Contains-push left row)), subst (λ x. AllUnder k v x) (sym e) u) ];
      whole = λ r c. elim (b.whole r c) [
        | inl x ↦ elim (Contains-push_cases left row r x) [ inl y ↦ inl y | inr e ↦ inr (subst (λ z. (q : ℕ) → q < count → is_under z q ≡ true → Waits levels' q z) e a.whole) ]
        | inr w ↦ inr (λ q lt u. let x = w q lt u in record { level = x.level; among = a.old x.level (up x.level q) r x.among })
      ];
      from = λ r c. b.from r (Contains-append_left left (row ∷ []) r c);
      sorted = a.sorted;
      deeper = λ k v r s c d. elim (a.new k v r c) [
        | inl x ↦ b.deeper k v r s x (Contains-append_left left (row ∷ []) s d)
        | inr (e, u) ↦ subst (λ z. s.depth ≤ z.depth) (sym e) (rises_last left row b.rises s d)
      ];
      rises = rises_front left (row ∷ []) b.rises;
      tall = a.tall;
    }

  pub building_end : (levels : List Level) → WaitingSoFar rows [] count levels → Index rows count levels
  building_end levels b = record {
    known = λ pc row w. let x = b.known w.level (up w.level pc) row w.among in (x.0, x.1 pc refl);
    whole = λ pc row lt c u. elim (b.whole row c) [ inl x ↦ absurd (none_in_empty row x) | inr w ↦ w pc lt u ];
    sorted = b.sorted;
    tall = b.tall;
  }

pub all_wait : (rows : List Handler) (count : ℕ) (levels : List Level) → Index rows count levels → AllWait rows count levels
all_wait rows count levels ix = record { known = ix.known; whole = ix.whole; sorted = ix.sorted }

-- the deepest row that covers a place
module _ (levels : List Level) (q : ℕ) where
  pub deepest_start : DeepestBelow levels 0 q 0
  deepest_start = record { all = λ k lt. absurd (omega arith); one = λ h. absurd (omega arith) }

  pub deepest_more : (k most next : ℕ) → DeepestBelow levels k q most → (most ≤ next) → (first_depth (stretch levels k (up k q)) ≤ next)
      → ((next ≡ most) ⊎ (next ≡ first_depth (stretch levels k (up k q)))) → DeepestBelow levels (k + 1) q next
  deepest_more k most next d le here is = record {
    all = λ j lt. elim (below_or j k lt) [ inl a ↦ (let h = d.all j a in omega (arith, h, le)) | inr e ↦ subst (λ n. first_depth (stretch levels n (up n q)) ≤ next) (sym e) here ];
    one = λ h. elim is [ inl e ↦ (let (j, g) = d.one (omega (arith, h, e)) in (j, g ∙ sym e)) | inr e ↦ (k, sym e) ];
  }

  first_most : (rows : List Handler) (row : Handler) → Descends rows → Contains rows row → row.depth ≤ first_depth rows
  first_most [] row d c = absurd (none_in_empty row c)
  first_most (r ∷ rows) row d c = let (i, (m, g)) = contains_get (r ∷ rows) row c in d 0 i r row (omega arith) refl g

  first_is : (rows : List Handler) → 0 < first_depth rows → (row : Handler) × (Contains rows row × (row.depth ≡ first_depth rows))
  first_is [] h = absurd (omega arith)
  first_is (r ∷ rows) h = (r, ((zero, (omega arith), refl), refl))

  in_levels : (xs : List Level) (i v : ℕ) (row : Handler) → Contains (stretch xs i v) row → i < length xs
  in_levels [] i v row c = absurd (none_in_empty row c)
  in_levels (y ∷ xs) zero v row c = omega arith
  in_levels (y ∷ xs) (suc i) v row c = let h = in_levels xs i v row c in omega (arith, h)

  pub deepest_end : (rows : List Handler) (count k most : ℕ) → AllWait rows count levels → q < count → DeepestBelow levels k q most → length levels ≤ k → IsDeepest rows q most
  deepest_end rows count k most x lt d le = record {
    most = λ row c u. let w = x.whole q row lt c u in let h = in_levels levels w.level (up w.level q) row w.among in
        let a = d.all w.level (omega (arith, h, le)) in let m = first_most (stretch levels w.level (up w.level q)) row (x.sorted w.level (up w.level q)) w.among in omega (arith, a, m);
    one = λ h. let (j, e) = d.one h in let (row, (c, g)) = first_is (stretch levels j (up j q)) (omega (arith, h, e)) in
        let n = x.known q row (record { level = j; among = c }) in (row, (n.0, (n.1, g ∙ e)));
  }

-- an element comes behind a list

pub push_last : {X : Type 0} (xs : List X) (x d : X) → get_or (xs ++ x ∷ []) (length xs) d ≡ x
push_last [] x d = refl
push_last (y ∷ xs) x d = push_last xs x d

pub push_left : {X : Type 0} (xs : List X) (x d : X) (j : ℕ) → j < length xs → get_or (xs ++ x ∷ []) j d ≡ get_or xs j d
push_left [] x d j h = absurd (omega arith)
push_left (y ∷ xs) x d zero h = refl
push_left (y ∷ xs) x d (suc j) h = push_left xs x d j (omega arith)

pub push_cases : {X : Type 0} (xs : List X) (x d : X) (j : ℕ) → (get_or (xs ++ x ∷ []) j d ≡ x) ⊎ (get_or (xs ++ x ∷ []) j d ≡ get_or xs j d)
push_cases [] x d zero = inl refl
push_cases [] x d (suc j) = inr refl
push_cases (y ∷ xs) x d zero = inr refl
push_cases (y ∷ xs) x d (suc j) = push_cases xs x d j

pub bare_none : BareTo 0 []
bare_none = record { long = refl; none = λ v r c. none_in_empty r c }

pub bare_more : (size : ℕ) (level : Level) (rows : List Handler) → BareTo size level → rows ≡ [] → BareTo (size + 1) (level ++ rows ∷ [])
bare_more size level rows b e = record {
  long = length-append level (rows ∷ []) ∙ ap (λ n. n + 1) b.long;
  none = λ v r c. elim (push_cases level rows [] v)
      [ inl g ↦ none_in_empty r (subst (λ x. Contains x r) (g ∙ e) c) | inr g ↦ b.none v r (subst (λ x. Contains x r) g c) ];
}

pub empty_none : (count : ℕ) → Empty count count []
empty_none count = record { size_is = refl; wide = λ k lt. absurd (omega arith); none = λ k v r c. none_in_empty r c }

pub empty_more : (count size : ℕ) (levels : List Level) (level : Level) → Empty count size levels → BareTo (size + 1) level → Empty count (size / 2) (levels ++ level ∷ [])
empty_more count size levels level e b = record {
  size_is = (let a : length (levels ++ level ∷ []) ≡ length levels + 1 = length-append levels (level ∷ []) in
      ap (λ n. n / 2) e.size_is ∙ (sym (up_next (length levels) count) ∙ sym (ap (λ n. up n count) a)));
  wide = λ k lt. elim (below_or k (length levels) (let a : length (levels ++ level ∷ []) ≡ length levels + 1 = length-append levels (level ∷ []) in omega (arith, a, lt))) [
    | inl h ↦ subst (λ x. up k count < length x) (sym (push_left levels level [] k h)) (e.wide k h)
    | inr h ↦ subst (λ n. up n count < length (get_or (levels ++ level ∷ []) n [])) (sym h)
        (subst (λ x. up (length levels) count < length x) (sym (push_last levels level [])) (let l = b.long in let s = e.size_is in omega (arith, l, s)))
  ];
  none = λ k v r c. elim (push_cases levels level [] k)
      [ inl g ↦ b.none v r (subst (λ x. Contains (stretch_of x v) r) g c) | inr g ↦ e.none k v r (subst (λ x. Contains (stretch_of x v) r) g c) ];
}

get_is : {X : Type 0} (xs : List X) (i : ℕ) (x d : X) → slice_get xs i ≡ Some x → get_or xs i d ≡ x
get_is [] i x d e = absurd (cc)
get_is (y ∷ xs) zero x d e = same_Some _ _ e
get_is (y ∷ xs) (suc i) x d e = get_is xs i x d e

pub rises_by : (rows : List Handler) → ((i j : ℕ) (d : Handler) → i ≤ j → j < length rows → (get_or rows i d).depth ≤ (get_or rows j d).depth) → Rises rows
rises_by rows f i j r s le e g = subst (λ x. r.depth ≤ x.depth) (get_is rows j s r g) (subst (λ x. x.depth ≤ (get_or rows j r).depth) (get_is rows i r r e) (f i j r le (get_below rows j s g)))

pub put_is : {Y Z : Type 0} (level : Vec (Vec Handler Y) Z) (test : Bool) (node : ℕ) (row : Handler) (rows rows' : Vec Handler Y) → test ≡ true → node < length level.items
    → rows ≡ get_or level.items node rows → rows'.items ≡ rows.items ++ row ∷ [] → map (λ x. x.items) (set level.items node rows') ≡ put test (level_of level) node row
put_is level test node row rows rows' t lt e more = map-set (λ x. x.items) level.items node rows'
    ∙ (ap (λ x. set (level_of level) node x) (more ∙ ap (λ x. x ++ row ∷ []) (sym (read_items level node rows lt e)))
    ∙ ap (λ x. put x (level_of level) node row) (sym t))

pub put_not : (level : Level) (test : Bool) (node : ℕ) (row : Handler) → test ≡ false → level ≡ put test level node row
put_not level test node row t = ap (λ x. put x level node row) (sym t)

pub bare_push : {Y Z : Type 0} (size : ℕ) (level : Vec (Vec Handler Y) Z) (level' : Vec (Vec Handler Y) Z) (rows : Vec Handler Y) → BareTo size (level_of level) → rows.items ≡ []
    → level'.items ≡ level.items ++ rows ∷ [] → BareTo (size + 1) (level_of level')
bare_push size level level' rows b none e = subst (λ xs. BareTo (size + 1) xs) (sym (ap (λ xs. map (λ x. x.items) xs) e ∙ map-append (λ x. x.items) level.items (rows ∷ [])))
    (bare_more size (level_of level) rows.items b none)

pub empty_push : {X Y Z : Type 0} (count size : ℕ) (levels levels' : Vec (Vec (Vec Handler X) Y) Z) (level : Vec (Vec Handler X) Y) → Empty count size (levels_of levels) → BareTo (size + 1) (level_of level)
    → levels'.items ≡ levels.items ++ level ∷ [] → Empty count (size / 2) (levels_of levels')
empty_push count size levels levels' level e b same = subst (λ xs. Empty count (size / 2) xs) (sym (ap (λ xs. map level_of xs) same ∙ map-append level_of levels.items (level ∷ [])))
    (empty_more count size (levels_of levels) (level_of level) e b)

pub order : (x y : ℕ) → (x < y) ⊎ (y ≤ x)
order zero zero = inr (omega arith)
order zero (suc y) = inl (omega arith)
order (suc x) zero = inr (omega arith)
order (suc x) (suc y) = elim (order x y) [ inl a ↦ inl (omega arith) | inr a ↦ inr (omega arith) ]

-- the greater of two
pub deepest_max : (levels : List Level) (q k most next depth : ℕ) → DeepestBelow levels k q most → depth ≡ first_depth (stretch levels k (up k q)) → next ≡ max depth most → DeepestBelow levels (k + 1) q next
deepest_max levels q k most next depth d e m = deepest_more levels q k most next d
    (let h : most ≤ max depth most = le-max_right depth most in omega (arith, h, m)) (let h : depth ≤ max depth most = le-max_left depth most in omega (arith, h, m, e))
    (elim (order depth most) [
      | inl a ↦ inl (m ∙ (let h : max depth most ≡ most = max-eq_right (let l : depth ≤ most = omega (arith, a) in l) in h))
      | inr a ↦ inr (m ∙ ((let h : max depth most ≡ depth = max-eq_left a in h) ∙ e))
    ])

-- the stretch of a level that an iteration has
pub depth_here : {X Y : Type 0} (items : List (Vec (Vec Handler X) Y)) (level : Vec (Vec Handler X) Y) (k node depth : ℕ) → k < length items → level ≡ get_or items k level
    → depth ≡ first_depth (stretch_of (level_of level) node) → depth ≡ first_depth (stretch (map level_of items) k node)
depth_here items level k node depth lt is e = e ∙ ap (λ x. first_depth (stretch_of x node)) (ap level_of is ∙ sym (get_or-map level_of items k level [] lt))

pub deepest_push : (levels : List Level) (count at k : ℕ) (table : List ℕ) (depth : ℕ) → length table ≡ at → ((rows : List Handler) → AllWait rows count levels → AreDeepest rows table at) → at < count
    → DeepestBelow levels k at depth → length levels ≤ k → (rows : List Handler) → AllWait rows count levels → AreDeepest rows (table ++ depth ∷ []) (at + 1)
deepest_push levels count at k table depth long all lt d le rows x pc h = elim (below_or pc at h) [
  | inl a ↦ subst (λ y. IsDeepest rows pc y) (sym (push_left table depth 0 pc (omega (arith, a, long)))) (all rows x pc a)
  | inr e ↦ subst (λ n. IsDeepest rows n (get_or (table ++ depth ∷ []) n 0)) (sym (e ∙ sym long))
      (subst (λ y. IsDeepest rows (length table) y) (sym (push_last table depth 0)) (subst (λ n. IsDeepest rows n depth) (sym long) (deepest_end levels at rows count k depth x lt d le)))
]

pub add_start : (count high : ℕ) (row : Handler) (levels : List Level) → Ready count row levels → high ≡ min count row.to.0 → Adding count row levels levels 0 row.from.0 high
add_start count high row levels r e = adding_start count row levels row.from.0 high r
    (λ q g h. let k : q < row.to.0 = (let m : min count row.to.0 ≤ row.to.0 = min-le_right count row.to.0 in omega (arith, m, e, h)) in under q g k)
    (λ q lt u. let (g, k) = is_over q u in (g, (let m : suc q ≤ min count row.to.0 = le-min (let a : suc q ≤ count = omega (arith, lt) in a) (let a : suc q ≤ row.to.0 = omega (arith, k) in a) in omega (arith, m, e))))
    (let m : min count row.to.0 ≤ count = min-le_left count row.to.0 in omega (arith, m, e))
  where
    under : (q : ℕ) → row.from.0 ≤ q → q < row.to.0 → is_under row q ≡ true
    under q g h = grind (arith, nat_tests)

    is_over : (q : ℕ) → is_under row q ≡ true → (row.from.0 ≤ q) × (q < row.to.0)
    is_over q u = grind (arith, nat_tests)

pub building_none : (rows : List Handler) (count : ℕ) (left left' : List Handler) (levels : List Level) → WaitingSoFar rows left count levels → left ≡ left' ++ [] → length left' ≡ 0 → Index rows count levels
building_none rows count left left' levels b e h = building_end rows count levels (subst (λ xs. WaitingSoFar rows xs count levels) (no_more left left' e h) b)

pub half_up : (n : ℕ) → (n + 1) / 2 ≡ n / 2 + n % 2
half_up n = omega arith
