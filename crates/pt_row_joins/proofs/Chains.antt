-- The pairs of neighbours and of first places join what rows join.
use Rattle.std.proofs.Common.{◌≡◌, ℕ, ◌+◌, ◌-◌, ◌<◌, ◌≤◌, zero, suc, Bool, true, false, if◌then◌else◌, List, ◌++◌, length, Option, Some, None, refl, sym, ap, ◌∙◌, subst, arith, ◌⊎◌, inl, inr}
use Rattle.std.specs.Prelude.{Contains, nat_lt, ◌↔◌}
use Rattle.std.proofs.lemmas.Bool.{leb-true, le-leb}
use Rattle.std.proofs.lemmas.Bool.Decides.{nat_tests}
use Rattle.std.proofs.lemmas.Option.{same_Some}
use Rattle.pt_ranges.specs.declared.handlers.Handler.{Handler}
use Rattle.pt_sizes.specs.Flow.{entry, is_under}
use Rattle.pt_sizes.specs.Waiting.{AreDeepest}
use Rattle.pt_sizes.proofs.Tables.{entry_in}
use Rattle.pt_joins.specs.declared.joins.Join.{Join}
use Rattle.pt_joins.specs.Joins.{AreWithin, Joined}
use Rattle.pt_joins.specs.Joins as J
use Rattle.pt_joins.proofs.Joining.{least_in}
use Rattle.pt_row_joins.specs.Rows.{Under, lands, join, Lists, sized_below, rank, nth, narrowed, IsOver, AreNarrowed, IsChain, landing_join, IsLanding}
use Rattle.pt_row_joins.specs.Rows as R
use Rattle.pt_row_joins.proofs.Lists.{some_none, both_list}
use Rattle.pt_row_joins.proofs.Ranks.{rank_rises, rank_below, nth_rank, numbered, between_from, between_to}

under : (row : Handler) (q : ℕ) → row.from.0 ≤ q → q < row.to.0 → is_under row q ≡ true
under row q g h = grind (arith, nat_tests)

is_over : (row : Handler) (q : ℕ) → is_under row q ≡ true → (row.from.0 ≤ q) × (q < row.to.0)
is_over row q u = grind (arith, nat_tests)

from_landing : (places : List ℕ) (h : Handler) (j : Join) → landing_join places h ≡ Some j
    → (h.from.0 < length places) × (join (nth places h.from.0) h.target.0 h.depth ≡ j)
from_landing places h j e = by (nat_lt h.from.0 (length places)) refl e
  where
    by : (t : Bool) → nat_lt h.from.0 (length places) ≡ t
        → (if t then Some (join (nth places h.from.0) h.target.0 h.depth) else None) ≡ Some j
        → (h.from.0 < length places) × (join (nth places h.from.0) h.target.0 h.depth ≡ j)
    by false f g = absurd (some_none j g)
    by true f g = (leb-true (suc h.from.0) (length places) f, same_Some _ _ g)

to_landing : (places : List ℕ) (h : Handler) → h.from.0 < length places
    → landing_join places h ≡ Some (join (nth places h.from.0) h.target.0 h.depth)
to_landing places h lt = ap (λ t. if t then Some (join (nth places h.from.0) h.target.0 h.depth) else None) (le-leb (suc h.from.0) (length places) lt)

module _ (sizes : List (Option ℕ)) (rows narrow : List Handler) (nar : AreNarrowed sizes rows narrow) (deepest : List ℕ)
    (deep : AreDeepest narrow deepest (length (sized_below sizes (length sizes)))) where
  abbrev N : ℕ
  N = length sizes

  abbrev S : List ℕ
  S = sized_below sizes (length sizes)

  -- the place with a number, under a row between whose ends the number lies
  at_number : (i d : ℕ) → i < rank sizes N → (row : Handler) → Contains rows row → row.target.0 < length sizes
      → rank sizes row.from.0 ≤ i → i < rank sizes row.to.0
      → d < row.depth → Under sizes rows d (nth S i) row.target.0
  at_number i d lt row c inside le lt' deeper = let m = numbered sizes N i lt in
      J.related (lands m.sized.is c (under row (nth S i) (between_from sizes N i row.from.0 lt le) (between_to sizes N i row.to.0 lt lt')) deeper inside)

  chain_at : (i d : ℕ) → i + 1 < rank sizes N → d < nth deepest i → Under sizes rows d (nth S i) (nth S (i + 1))
  chain_at i d low lt =
      let k = deep i (omega (arith, low)) in
      let (h, (among, (u, e))) = k.one (omega (arith, lt)) in
      let m = nar.only h among in
      let (lo, hi) = is_over (narrowed sizes m.row) i (subst (λ r. is_under r i ≡ true) m.is u) in
      let deep_is : m.row.depth ≡ nth deepest i = sym (ap (λ r. r.depth) m.is) ∙ e in
      J.along (at_number i d (omega (arith, low)) m.row m.among m.over.inside lo (omega (arith, hi)) (omega (arith, lt, deep_is)))
      (J.back (at_number (i + 1) d low m.row m.among m.over.inside (omega (arith, lo)) (omega (arith, hi)) (omega (arith, lt, deep_is))))

  chain_under : (j : Join) (d : ℕ) → IsChain (sized_below sizes (length sizes)) deepest j → d < j.levels → Under sizes rows d j.one j.other
  chain_under j d c lt = subst (λ j. d < j.levels → Under sizes rows d j.one j.other) (sym c.is) (λ lt. chain_at c.number d c.low lt) lt

  landing_under : (j : Join) (d : ℕ) → IsLanding (sized_below sizes (length sizes)) narrow j → d < j.levels
      → Under sizes rows d j.one j.other
  landing_under j d l lt =
      let m = nar.only l.row l.among in
      let (counted, is) = from_landing S (narrowed sizes m.row) j (subst (λ h. landing_join S h ≡ Some j) m.is l.is) in
      subst (λ j. d < j.levels → Under sizes rows d j.one j.other) is
      (λ lt. at_number (rank sizes m.row.from.0) d counted m.row m.among m.over.inside (omega arith) m.over.some lt) lt

  module _ (joins : List Join) (lists : Lists (λ j. IsChain (sized_below sizes (length sizes)) deepest j ⊎ IsLanding (sized_below sizes (length sizes)) narrow j) joins) where
    pair_under : (j : Join) (d : ℕ) → Contains joins j → d < j.levels → Under sizes rows d j.one j.other
    pair_under j d c lt = elim (lists.only j c) [ inl x ↦ chain_under j d x lt | inr y ↦ landing_under j d y lt ]

    pair_in : (d a b : ℕ) → J.IsPair joins d a b → Under sizes rows d a b
    pair_in d _ _ (J.paired {j = j} c lt) = pair_under j d c lt

    module _ (row : Handler) (among : Contains rows row) (d : ℕ) (lt : d < row.depth) (inside : row.target.0 < length sizes) where
      link : (i : ℕ) → rank sizes row.from.0 ≤ i → i + 1 < rank sizes row.to.0 → i + 1 < rank sizes N
          → Joined joins d (nth S i) (nth S (i + 1))
      link i lo hi low =
          let k = deep i (omega (arith, low)) in
          let over : IsOver sizes row = record { some = omega (arith, lo, hi); inside = inside } in
          let most = k.most (narrowed sizes row) (nar.all row among over) (under (narrowed sizes row) i lo (omega (arith, hi))) in
          J.related (J.paired (lists.all (join (nth S i) (nth S (i + 1)) (nth deepest i)) (inl (record { number = i; low = low; is = refl }))) (omega (arith, lt, most)))

      chain : (m last : ℕ) → rank sizes row.from.0 + m ≡ last → last < rank sizes row.to.0 → last < rank sizes N
          → Joined joins d (nth S (rank sizes row.from.0)) (nth S last)
      chain zero last e hi low = let f : rank sizes row.from.0 ≡ last = omega (arith, e) in
          subst (λ x. Joined joins d (nth S (rank sizes row.from.0)) (nth S x)) f J.same
      chain (suc m) last e hi low =
          let f : (rank sizes row.from.0 + m) + 1 ≡ last = omega (arith, e) in
          J.along (chain m (rank sizes row.from.0 + m) refl (omega (arith, f, hi)) (omega (arith, f, low)))
          (subst (λ x. Joined joins d (nth S (rank sizes row.from.0 + m)) (nth S x)) f
          (link (rank sizes row.from.0 + m) (omega arith) (omega (arith, f, hi)) (omega (arith, f, low))))

      landed : (q n : ℕ) → entry sizes q ≡ Some n → is_under row q ≡ true → Joined joins d q row.target.0
      landed q n e u =
          let (lo, hi) = is_over row q u in
          let low : q < length sizes = entry_in sizes q n e in
          let a = rank_rises sizes row.from.0 q lo in
          let z = rank_below sizes row.to.0 q n hi e in
          let y = rank_below sizes N q n low e in
          let over : IsOver sizes row = record { some = omega (arith, a, z); inside = inside } in
          let first : Joined joins d (nth S (rank sizes row.from.0)) row.target.0 =
          J.related (J.paired (lists.all (join (nth S (rank sizes row.from.0)) row.target.0 row.depth)
          (inr (record { row = narrowed sizes row; among = nar.all row among over; is = to_landing S (narrowed sizes row) (omega (arith, a, y)) }))) lt) in
          let up = chain (rank sizes q - rank sizes row.from.0) (rank sizes q) (omega (arith, a)) z y in
          J.along (J.back (subst (λ x. Joined joins d (nth S (rank sizes row.from.0)) x) (nth_rank sizes N q n low e) up)) first

    landing_in : (d a b : ℕ) → R.LandsOn sizes rows d a b → Joined joins d a b
    landing_in d _ _ (lands {q = q} {n = n} {row = row} e among u lt inside) = landed row among d lt inside q n e u

    pub exact : (d a b : ℕ) → Joined joins d a b ↔ Under sizes rows d a b
    exact d a b = ((λ h. least_in (pair_in d) a b h), (λ h. least_in (landing_in d) a b h))

    pub within : AreWithin (length sizes) joins
    within j c = elim (lists.only j c) [
      | inl y ↦ (let low = y.low in
          let one = numbered sizes N y.number (omega (arith, low)) in
          let other = numbered sizes N (y.number + 1) low in
          subst (λ j. (j.one < length sizes) × (j.other < length sizes)) (sym y.is) (one.low, other.low))
      | inr l ↦ (let m = nar.only l.row l.among in
          let (counted, is) = from_landing S (narrowed sizes m.row) j (subst (λ h. landing_join S h ≡ Some j) m.is l.is) in
          let one = numbered sizes N (rank sizes m.row.from.0) counted in
          subst (λ j. (j.one < length sizes) × (j.other < length sizes)) is (one.low, m.over.inside))
    ]

pub all_listed : (sizes : List (Option ℕ)) (deepest : List ℕ) (narrow : List Handler) (chain landings all : List Join)
    → Lists (IsChain (sized_below sizes (length sizes)) deepest) chain → Lists (IsLanding (sized_below sizes (length sizes)) narrow) landings → all ≡ chain ++ landings
    → Lists (λ j. IsChain (sized_below sizes (length sizes)) deepest j ⊎ IsLanding (sized_below sizes (length sizes)) narrow j) all
all_listed sizes deepest narrow chain landings all c l e =
    subst (λ xs. Lists (λ j. IsChain (sized_below sizes (length sizes)) deepest j ⊎ IsLanding (sized_below sizes (length sizes)) narrow j) xs) (sym e)
    (both_list (IsChain (sized_below sizes (length sizes)) deepest) (IsLanding (sized_below sizes (length sizes)) narrow) chain landings c l)
