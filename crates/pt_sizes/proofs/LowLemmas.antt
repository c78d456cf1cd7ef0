-- The least number of places is found on levels.
use Rattle.std.proofs.Common.{◌≡◌, ℕ, ◌+◌, ◌-◌, ◌*◌, ◌/◌, ◌%◌, ◌<◌, ◌≤◌, Bool, true, false, if◌then◌else◌, List, [], ◌∷◌, ◌++◌, length, map, Option, Some, None, refl, sym, ap, ◌∙◌, subst, arith, zero, suc, ◌⊎◌, inl, inr, get_or, length-append}
use Rattle.std.specs.Prelude.{Vec, MatchBool, min, nat_lt, slice_index_or}
use Rattle.std.proofs.Math.Nat.{min-le_left, min-le_right, le-min, min-eq_left, min-eq_right}
use Rattle.std.proofs.lemmas.List.{map-append, get_or-map}
use Rattle.std.proofs.lemmas.Bool.{false≢true}
use Rattle.std.proofs.lemmas.Bool.Decides.{nat_tests}
use Rattle.pt_sizes.specs.declared.places.Place.{Place}
use Rattle.pt_ranges.specs.declared.handlers.Handler.{Handler}
use Rattle.pt_sizes.specs.Flow.{entry, left, is_under}
use Rattle.pt_sizes.specs.Waiting.{up, at_low, at_high}
use Rattle.pt_sizes.specs.Search.{DeepHere, DeepBelow}
use Rattle.pt_sizes.specs.Lows.{no_place, below_at, below, low_at, IsLowLevel, AreLows, LowsSoFar, AreAllLows, IsFewest, FewestSoFar}
use Rattle.pt_sizes.proofs.Tables.{below_or, some_or_none}
use Rattle.pt_sizes.proofs.Landings.{up_next}
use Rattle.pt_sizes.proofs.Adding.{order, push_last, push_left, push_cases, halve, unhalve, Half, lowest, highest, within, is_low, is_high, low_is, high_is, up_zero}

-- the less of two
min_cases : (a c : ℕ) → (min a c ≡ a) ⊎ (min a c ≡ c)
min_cases a c = elim (order a c) [ inl lt ↦ inl (min-eq_left (let h : a ≤ c = omega (arith, lt) in h)) | inr le ↦ inr (min-eq_right le) ]

low_beyond : (level : List ℕ) (v : ℕ) → length level ≤ v → low_at level v ≡ no_place
low_beyond [] v h = refl
low_beyond (x ∷ level) zero h = absurd (omega arith)
low_beyond (x ∷ level) (suc v) h = low_beyond level v (omega arith)

-- the numbers of a level that is made number by number

pub low_push : (made : List ℕ) (x : ℕ) (number : ℕ → ℕ) → ((v : ℕ) → v < length made → low_at made v ≡ number v) → x ≡ number (length made)
    → (v : ℕ) → v < length made + 1 → low_at (made ++ x ∷ []) v ≡ number v
low_push made x number all e v h = elim (below_or v (length made) h) [
  | inl a ↦ push_left made x no_place v a ∙ all v a
  | inr a ↦ subst (λ n. low_at (made ++ x ∷ []) n ≡ number n) (sym a) (push_last made x no_place ∙ e)
]

-- a number that is pushed is that of the next place
pub level_push : (made made' : List ℕ) (x : ℕ) (number : ℕ → ℕ) (at : ℕ) → (length made ≡ at) × ((v : ℕ) → v < length made → low_at made v ≡ number v) → x ≡ number at → made' ≡ made ++ x ∷ []
    → (length made' ≡ at + 1) × ((v : ℕ) → v < length made' → low_at made' v ≡ number v)
level_push made made' x number at inv e same = subst (λ xs. (length xs ≡ at + 1) × ((v : ℕ) → v < length xs → low_at xs v ≡ number v)) (sym same) (
  long ∙ ap (λ n. n + 1) inv.0,
  λ v h. low_push made x number inv.1 (e ∙ ap number (sym inv.0)) v (omega (arith, h, long)),
)
  where
    long : length (made ++ x ∷ []) ≡ length made + 1
    long = length-append made (x ∷ [])

pub low_all : (made : List ℕ) (number : ℕ → ℕ) → ((v : ℕ) → v < length made → low_at made v ≡ number v) → ((v : ℕ) → length made ≤ v → number v ≡ no_place)
    → (v : ℕ) → low_at made v ≡ number v
low_all made number all beyond v = elim (order v (length made)) [ inl a ↦ all v a | inr a ↦ low_beyond made v a ∙ sym (beyond v a) ]

pub above_beyond : (level : List ℕ) (n : ℕ) → n ≡ length level / 2 + length level % 2 → (v : ℕ) → n ≤ v → min (low_at level (2 * v)) (low_at level (2 * v + 1)) ≡ no_place
above_beyond level n e v h = ap (λ x. min x (low_at level (2 * v + 1))) (low_beyond level (2 * v) (omega (arith, e, h)))
    ∙ (ap (λ x. min no_place x) (low_beyond level (2 * v + 1) (omega (arith, e, h))) ∙ min-eq_left (let k : no_place ≤ no_place = omega arith in k))

pub below_beyond : (places : List (Option Place)) (table : List (Option ℕ)) (limit v : ℕ) → limit ≤ v → below places table limit v ≡ no_place
below_beyond places table limit v h = ap (λ t. if t then below_at (entry places v) (entry table v) else no_place) (let e : nat_lt v limit ≡ false = grind (arith, nat_tests) in e)

pub below_within : (places : List (Option Place)) (table : List (Option ℕ)) (limit v : ℕ) → v < limit → below places table limit v ≡ below_at (entry places v) (entry table v)
below_within places table limit v h = ap (λ t. if t then below_at (entry places v) (entry table v) else no_place) (let e : nat_lt v limit ≡ true = grind (arith, nat_tests) in e)

module _ (numbers : ℕ → ℕ) where
  first_level : (level : List ℕ) → ((q : ℕ) → low_at level q ≡ numbers q) → IsLowLevel numbers 0 level
  first_level level e = record { all = λ q. (let h = e q in omega (arith, h)); one = λ v. inr (v, (refl, sym (e v))) }

  level_over : (k : ℕ) (level above : List ℕ) → IsLowLevel numbers k level → ((v : ℕ) → low_at above v ≡ min (low_at level (2 * v)) (low_at level (2 * v + 1))) → IsLowLevel numbers (k + 1) above
  level_over k level above l e = record { all = all; one = one }
    where
      halves : (x : ℕ) → (x ≡ 2 * (x / 2)) ⊎ (x ≡ 2 * (x / 2) + 1)
      halves x = elim (below_or (x % 2) 1 (omega arith)) [ inl a ↦ inl (omega (arith, a)) | inr a ↦ inr (omega (arith, a)) ]

      all_at : (q v : ℕ) → v ≡ up k q / 2 → low_at above v ≤ numbers q
      all_at q v h = let a = l.all q in
          let m : low_at above v ≤ low_at level (up k q) = elim (halves (up k q)) [
            | inl x ↦ (let n = min-le_left (low_at level (2 * v)) (low_at level (2 * v + 1)) in let g = e v in
                subst (λ y. low_at above v ≤ low_at level y) (let z : 2 * v ≡ up k q = omega (arith, x, h) in z) (omega (arith, g, n)))
            | inr x ↦ (let n = min-le_right (low_at level (2 * v)) (low_at level (2 * v + 1)) in let g = e v in
                subst (λ y. low_at above v ≤ low_at level y) (let z : 2 * v + 1 ≡ up k q = omega (arith, x, h) in z) (omega (arith, g, n)))
          ] in
          omega (arith, a, m)

      all : (q : ℕ) → low_at above (up (k + 1) q) ≤ numbers q
      all q = all_at q (up (k + 1) q) (up_next k q)

      from : (v w : ℕ) → w / 2 ≡ v → low_at above v ≡ low_at level w → (low_at above v ≡ no_place) ⊎ ((q : ℕ) × ((up (k + 1) q ≡ v) × (numbers q ≡ low_at above v)))
      from v w h g = elim (l.one w) [ inl a ↦ inl (g ∙ a) | inr (q, (a, c)) ↦ inr (q, (up_next k q ∙ (ap (λ n. n / 2) a ∙ h), c ∙ sym g)) ]

      one : (v : ℕ) → (low_at above v ≡ no_place) ⊎ ((q : ℕ) × ((up (k + 1) q ≡ v) × (numbers q ≡ low_at above v)))
      one v = elim (min_cases (low_at level (2 * v)) (low_at level (2 * v + 1)))
          [ inl a ↦ from v (2 * v) (let h : 2 * v / 2 ≡ v = omega arith in h) (e v ∙ a) | inr a ↦ from v (2 * v + 1) (let h : (2 * v + 1) / 2 ≡ v = omega arith in h) (e v ∙ a) ]

  pub lowering_start : (count : ℕ) (level : List ℕ) → ((q : ℕ) → low_at level q ≡ numbers q) → LowsSoFar numbers count count [] level
  lowering_start count level e = record { size_is = refl; lows = record { each = λ k lt. absurd (omega arith) }; last = first_level level e }

  pub lowering_more : (count size : ℕ) (levels levels' : List (List ℕ)) (level above : List ℕ) → LowsSoFar numbers count size levels level
      → ((v : ℕ) → low_at above v ≡ min (low_at level (2 * v)) (low_at level (2 * v + 1))) → levels' ≡ levels ++ level ∷ [] → LowsSoFar numbers count (size / 2) levels' above
  lowering_more count size levels levels' level above l e same = subst (λ xs. LowsSoFar numbers count (size / 2) xs above) (sym same) (record {
    size_is = ap (λ n. n / 2) l.size_is ∙ (sym (up_next (length levels) count) ∙ sym (ap (λ n. up n count) long));
    lows = record {
      each = λ k lt. elim (below_or k (length levels) (omega (arith, lt, long))) [
        | inl a ↦ subst (λ x. IsLowLevel numbers k x) (sym (push_left levels level [] k a)) (l.lows.each k a)
        | inr a ↦ subst (λ n. IsLowLevel numbers n (get_or (levels ++ level ∷ []) n [])) (sym a) (subst (λ x. IsLowLevel numbers (length levels) x) (sym (push_last levels level [])) l.last)
      ];
    };
    last = subst (λ n. IsLowLevel numbers n above) (sym long) (level_over (length levels) level above l.last e);
  })
    where
      long : length (levels ++ level ∷ []) ≡ length levels + 1
      long = length-append levels (level ∷ [])

  pub lowering_end : (count : ℕ) (levels : List (List ℕ)) (level : List ℕ) → LowsSoFar numbers count 0 levels level → AreAllLows numbers count levels
  lowering_end count levels level l = record { tall = sym l.size_is; lows = l.lows }

  pub seeking_start : (count from to : ℕ) → to ≤ count → FewestSoFar numbers count from to 0 from to no_place
  seeking_start count from to h = record { sound = λ q a c. (a, c); all = λ q a c. inr (a, c); one = inl refl; small = h }

  module _ (count from to : ℕ) (levels : List (List ℕ)) (lows : AreAllLows numbers count levels) (k low high fewest : ℕ) (s : FewestSoFar numbers count from to k low high fewest) where
    -- a stretch that is looked at
    looked : (node : ℕ) (test : Bool) → k < length levels → (test ≡ true → (low ≤ node) × (node < high)) → (before after : ℕ)
        → ((before ≡ no_place) ⊎ ((q : ℕ) × ((from ≤ q) × ((q < to) × (numbers q ≡ before)))))
        → after ≡ min before (if test then low_at (get_or levels k []) node else no_place)
        → (after ≡ no_place) ⊎ ((q : ℕ) × ((from ≤ q) × ((q < to) × (numbers q ≡ after))))
    looked node test lt inside before after b e = elim (min_cases before (if test then low_at (get_or levels k []) node else no_place)) [
      | inl a ↦ subst (λ x. (x ≡ no_place) ⊎ ((q : ℕ) × ((from ≤ q) × ((q < to) × (numbers q ≡ x))))) (sym (e ∙ a)) b
      | inr a ↦ by_test test inside (e ∙ a)
    ]
      where
        by_test : (t : Bool) → (t ≡ true → (low ≤ node) × (node < high)) → after ≡ (if t then low_at (get_or levels k []) node else no_place)
            → (after ≡ no_place) ⊎ ((q : ℕ) × ((from ≤ q) × ((q < to) × (numbers q ≡ after))))
        by_test false i g = inl g
        by_test true i g = elim ((lows.lows.each k lt).one node) [
          | inl a ↦ inl (g ∙ a)
          | inr (q, (a, c)) ↦ (let n = i refl in let r = s.sound q (let x = n.0 in omega (arith, x, a)) (let x = n.1 in omega (arith, x, a)) in inr (q, (r.0, (r.1, c ∙ sym g))))
        ]

    pub seeking_more : k < length levels → (middle next : ℕ) → middle ≡ min fewest (if at_low low high then low_at (get_or levels k []) low else no_place)
        → next ≡ min middle (if at_high low high then low_at (get_or levels k []) (high - 1) else no_place) → FewestSoFar numbers count from to (k + 1) ((low + 1) / 2) (high / 2) next
    seeking_more lt middle next e g = record {
      sound = λ q a c. let u = up_next k q in let (m, n) = unhalve (up k q) low high (subst (λ x. (low + 1) / 2 ≤ x) u a) (subst (λ x. x < high / 2) u c) in s.sound q m n;
      all = λ q a c. elim (s.all q a c) [ inl x ↦ inl (omega (arith, x, less)) | inr (m, n) ↦ by_half q (halve (up k q) low high m n) ];
      one = looked (high - 1) (at_high low high) lt (λ t. let x = high_is low high t in (let h = x.0 in omega (arith, h), let h = x.0 in omega (arith, h))) middle next
          (looked low (at_low low high) lt (λ t. let x = low_is low high t in (let h = x.0 in omega (arith, h), x.0)) fewest middle s.one e) g;
      small = (let h = s.small in let u = up_next k count in omega (arith, h, u));
    }
      where
        less_middle : middle ≤ fewest
        less_middle = let h = min-le_left fewest (if at_low low high then low_at (get_or levels k []) low else no_place) in omega (arith, e, h)

        less_next : next ≤ middle
        less_next = let h = min-le_left middle (if at_high low high then low_at (get_or levels k []) (high - 1) else no_place) in omega (arith, g, h)

        less : next ≤ fewest
        less = let a = less_middle in let c = less_next in omega (arith, a, c)

        at_lowest : at_low low high ≡ true → middle ≤ low_at (get_or levels k []) low
        at_lowest t = let h = min-le_right fewest (if at_low low high then low_at (get_or levels k []) low else no_place) in
            subst (λ x. middle ≤ (if x then low_at (get_or levels k []) low else no_place)) t (omega (arith, e, h))

        at_highest : at_high low high ≡ true → next ≤ low_at (get_or levels k []) (high - 1)
        at_highest t = let h = min-le_right middle (if at_high low high then low_at (get_or levels k []) (high - 1) else no_place) in
            subst (λ x. next ≤ (if x then low_at (get_or levels k []) (high - 1) else no_place)) t (omega (arith, g, h))

        by_half : (q : ℕ) → Half (up k q) low high → (next ≤ numbers q) ⊎ (((low + 1) / 2 ≤ up (k + 1) q) × (up (k + 1) q < high / 2))
        by_half q (lowest x h o) = inl (let a = subst (λ v. low_at (get_or levels k []) v ≤ numbers q) x ((lows.lows.each k lt).all q) in let c = at_lowest (is_low low high h o) in let n = less_next in omega (arith, a, c, n))
        by_half q (highest x h o) = inl (let a = subst (λ v. low_at (get_or levels k []) v ≤ numbers q) x ((lows.lows.each k lt).all q) in let c = at_highest (is_high low high h o) in omega (arith, a, c))
        by_half q (within h n) = let u = sym (up_next k q) in inr (subst (λ x. (low + 1) / 2 ≤ x) u h, subst (λ x. x < high / 2) u n)

    pub seeking_end : length levels ≤ k → IsFewest numbers from to fewest
    seeking_end le = record { all = λ q a c. elim (s.all q a c) [ inl x ↦ x | inr (m, n) ↦ absurd (nothing q n) ]; one = s.one }
      where
        nothing : (q : ℕ) → up k q < high → ⊥
        nothing q n = let h = s.small in let t : up k count ≡ 0 = up_zero k (length levels) count le lows.tall in omega (arith, h, t, n)

-- a row is to leave too many slots exactly where it leaves more than lie at some place that it covers
module _ (places : List (Option Place)) (table : List (Option ℕ)) (limit : ℕ) (row : Handler) (fewest : ℕ) (f : IsFewest (below places table limit) row.from.0 (min limit row.to.0) fewest) where
  is_deep : (q : ℕ) → q < limit → below places table limit q < row.depth → row.depth < no_place → DeepHere places table q row
  is_deep q lt h small = by_entries (entry places q) (entry table q) refl refl (subst (λ x. x < row.depth) (below_within places table limit q lt) h)
    where
      by_entries : (p : Option Place) (o : Option ℕ) → entry places q ≡ p → entry table q ≡ o → below_at p o < row.depth → DeepHere places table q row
      by_entries None None a c d = absurd (omega (arith, d, small))
      by_entries None (Some n) a c d = absurd (omega (arith, d, small))
      by_entries (Some p) None a c d = absurd (omega (arith, d, small))
      by_entries (Some p) (Some n) a c d = record { size = n; place = p; has = c; stands = a; deep = d }

  under : (q : ℕ) → row.from.0 ≤ q → q < row.to.0 → is_under row q ≡ true
  under q g h = grind (arith, nat_tests)

  is_over : (q : ℕ) → is_under row q ≡ true → (row.from.0 ≤ q) × (q < row.to.0)
  is_over q u = grind (arith, nat_tests)

  pub deep_by : row.depth < no_place → fewest < row.depth → DeepBelow places table limit row
  deep_by small h = elim f.one [
    | inl e ↦ absurd (omega (arith, e, h, small))
    | inr (q, (a, (c, e))) ↦ (let m = min-le_left limit row.to.0 in let n = min-le_right limit row.to.0 in record {
      at = q;
      low = omega (arith, c, m);
      under = under q a (omega (arith, c, n));
      here = is_deep q (omega (arith, c, m)) (omega (arith, e, h)) small;
    })
  ]

  pub not_deep_by : row.depth ≤ fewest → DeepBelow places table limit row → ⊥
  not_deep_by h d = let x = is_over d.at d.under in
      let m : suc d.at ≤ min limit row.to.0 = le-min (let a = d.low in let r : suc d.at ≤ limit = omega (arith, a) in r) (let a = x.1 in let r : suc d.at ≤ row.to.0 = omega (arith, a) in r) in
      let k = f.all d.at x.0 (omega (arith, m)) in
      let e : below places table limit d.at ≡ left d.here.place d.here.size = below_within places table limit d.at d.low
      ∙ (ap (λ p. below_at p (entry table d.at)) d.here.stands ∙ ap (λ o. below_at (Some d.here.place) o) d.here.has) in
      let g = d.here.deep in omega (arith, h, k, e, g)

-- what the numbers of levels are as lists

pub levels_push : {Y Z : Type 0} (levels levels' : Vec (Vec ℕ Y) Z) (level : Vec ℕ Y) → levels'.items ≡ levels.items ++ level ∷ []
    → map (λ x. x.items) levels'.items ≡ map (λ x. x.items) levels.items ++ level.items ∷ []
levels_push levels levels' level e = ap (λ xs. map (λ x. x.items) xs) e ∙ map-append (λ x. x.items) levels.items (level ∷ [])

-- the level that an iteration has
pub level_here : {Y : Type 0} (items : List (Vec ℕ Y)) (level : Vec ℕ Y) (k : ℕ) → k < length items → level ≡ get_or items k level → get_or (map (λ x. x.items) items) k [] ≡ level.items
level_here items level k lt e = get_or-map (λ x. x.items) items k level [] lt ∙ ap (λ x. x.items) (sym e)

pub told_deep : (places : List (Option Place)) (table : List (Option ℕ)) (limit : ℕ) (row : Handler) (fewest : ℕ) → IsFewest (below places table limit) row.from.0 (min limit row.to.0) fewest
    → row.depth < no_place → (t : Bool) → nat_lt fewest row.depth ≡ t → MatchBool t (DeepBelow places table limit row) (DeepBelow places table limit row → ⊥)
told_deep places table limit row fewest f small true e = deep_by places table limit row fewest f small (let h : fewest < row.depth = grind (arith, nat_tests) in h)
told_deep places table limit row fewest f small false e = not_deep_by places table limit row fewest f (let h : row.depth ≤ fewest = grind (arith, nat_tests) in h)
