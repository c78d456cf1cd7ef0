-- What the loops know that list rows and pairs.
use Rattle.std.proofs.Common.{◌≡◌, ℕ, ◌+◌, ◌-◌, ◌<◌, ◌≤◌, suc, Bool, true, false, if◌then◌else◌, List, [], ◌∷◌, ◌++◌, length, take, Option, Some, None, refl, sym, ap, ◌∙◌, subst, arith, ◌⊎◌, inl, inr, get_or}
use Rattle.std.specs.Prelude.{Contains, nat_lt, ◌&&◌, option_to_list}
use Rattle.std.proofs.lemmas.List.{take_more}
use Rattle.std.proofs.lemmas.List.Elements.{Contains-append_left, Contains-append_right, Contains-append_cases, Contains-push, Contains-push_cases}
use Rattle.std.proofs.lemmas.Bool.{le-leb}
use Rattle.std.proofs.lemmas.Bool.Decides.{nat_tests}
use Rattle.std.proofs.lemmas.Option.{same_Some}
use Rattle.pt_ranges.specs.declared.handlers.Handler.{Handler}
use Rattle.pt_joins.specs.declared.joins.Join.{Join}
use Rattle.pt_row_joins.specs.declared.sized.SizedPlaces.{SizedPlaces}
use Rattle.pt_row_joins.specs.Rows.{join, Lists, IsChainBelow, IsChain, AreSizedPlaces, nth, rank, narrowed, narrow_row, IsOver, AreNarrowed, landing_join, IsLanding}
use Rattle.pt_row_joins.proofs.Lists.{some_none, in_option, option_in}
use Rattle.pt_row_joins.proofs.Ranks.{below_or, last_or, rank_behind}

pub not_less : (a b : ℕ) → nat_lt a b ≡ false → b ≤ a
not_less a b e = grind (arith, nat_tests)

pub rank_end : (sizes : List (Option ℕ)) (r : SizedPlaces) (at : ℕ) → AreSizedPlaces sizes r → length r.before.items ≤ at
    → length r.places.items ≡ rank sizes at
rank_end sizes r at i le = ap length i.places ∙ sym (rank_behind sizes at (let h = i.long in omega (arith, h, le)))

-- neighbours, number by number
module _ (places deepest : List ℕ) (n : ℕ) (xs ys : List Join) (some : 1 ≤ n) (a : Lists (IsChainBelow places deepest n) xs)
    (e : ys ≡ xs ++ join (nth places (n - 1)) (nth places n) (nth deepest (n - 1)) ∷ []) where
  before : (n - 1) + 1 ≡ n
  before = omega (arith, some)

  chain_only : (j : Join) → Contains ys j → IsChainBelow places deepest (n + 1) j
  chain_only j c = elim (Contains-push_cases xs (join (nth places (n - 1)) (nth places n) (nth deepest (n - 1))) j (subst (λ zs. Contains zs j) e c)) [
    | inl x ↦ (let o = a.only j x in record { number = o.number; low = (let h = o.low in omega (arith, h)); is = o.is })
    | inr y ↦ record { number = n - 1; low = omega (arith, some); is = sym y ∙ ap (λ k. join (nth places (n - 1)) (nth places k) (nth deepest (n - 1))) (sym before) }
  ]

  chain_all : (j : Join) → IsChainBelow places deepest (n + 1) j → Contains ys j
  chain_all j o = subst (λ zs. Contains zs j) (sym e) (elim (last_or (o.number + 1) n o.low) [
    | inl h ↦ Contains-append_left xs (join (nth places (n - 1)) (nth places n) (nth deepest (n - 1)) ∷ []) j (a.all j (record { number = o.number; low = h; is = o.is }))
    | inr h ↦ (let same : n - 1 ≡ o.number = omega (arith, h) in
        let is : join (nth places (n - 1)) (nth places n) (nth deepest (n - 1)) ≡ j =
        ap (λ k. join (nth places k) (nth places n) (nth deepest k)) same
        ∙ (ap (λ k. join (nth places o.number) (nth places k) (nth deepest o.number)) (sym h) ∙ sym o.is) in
        subst (λ z. Contains (xs ++ join (nth places (n - 1)) (nth places n) (nth deepest (n - 1)) ∷ []) z) is
        (Contains-push xs (join (nth places (n - 1)) (nth places n) (nth deepest (n - 1)))))
  ])

  pub chain_more : Lists (IsChainBelow places deepest (n + 1)) ys
  chain_more = record { only = chain_only; all = chain_all }

pub chain_ends : (places deepest : List ℕ) (n : ℕ) (xs : List Join) → length places ≤ n
    → (1 ≤ length places → n ≤ length places) → (length places ≡ 0 → n ≤ 1)
    → Lists (IsChainBelow places deepest n) xs → Lists (IsChain places deepest) xs
chain_ends places deepest n xs le most few a = record {
  only = λ j c. let o = a.only j c in record { number = o.number; low = below o.number o.low; is = o.is };
  all = λ j o. a.all j (record { number = o.number; low = (let h = o.low in omega (arith, h, le)); is = o.is });
} where
  below : (k : ℕ) → k + 1 < n → k + 1 < length places
  below k lt = elim (below_or 0 (length places)) [
    | inl h ↦ (let f = most (omega (arith, h)) in omega (arith, f, lt))
    | inr h ↦ (let f = few (omega (arith, h)) in absurd (omega (arith, f, lt)))
  ]

-- rows, one by one
module _ (rows : List Handler) (i : ℕ) (d : Handler) (inside : i < length rows) where
  taken : take (i + 1) rows ≡ take i rows ++ get_or rows i d ∷ []
  taken = take_more rows i d inside

  earlier : (h : Handler) → Contains (take i rows) h → Contains (take (i + 1) rows) h
  earlier h c = subst (λ zs. Contains zs h) (sym taken) (Contains-append_left (take i rows) (get_or rows i d ∷ []) h c)

  latest : Contains (take (i + 1) rows) (get_or rows i d)
  latest = subst (λ zs. Contains zs (get_or rows i d)) (sym taken) (Contains-push (take i rows) (get_or rows i d))

  cases : (h : Handler) → Contains (take (i + 1) rows) h → Contains (take i rows) h ⊎ (get_or rows i d ≡ h)
  cases h c = Contains-push_cases (take i rows) (get_or rows i d) h (subst (λ zs. Contains zs h) taken c)

pub landing_more : (places : List ℕ) (rows : List Handler) (i : ℕ) (d : Handler) → i < length rows → (xs ys : List Join) (o : Option Join)
    → Lists (IsLanding places (take i rows)) xs → o ≡ landing_join places (get_or rows i d)
    → ys ≡ xs ++ option_to_list o → Lists (IsLanding places (take (i + 1) rows)) ys
landing_more places rows i d inside xs ys o a is e = record {
  only = λ j c. elim (Contains-append_cases xs (option_to_list o) j (subst (λ zs. Contains zs j) e c)) [
    | inl x ↦ (let r = a.only j x in record { row = r.row; among = earlier rows i d inside r.row r.among; is = r.is })
    | inr y ↦ record { row = get_or rows i d; among = latest rows i d inside; is = sym is ∙ in_option o j y }
  ];
  all = λ j r. subst (λ zs. Contains zs j) (sym e) (elim (cases rows i d inside r.row r.among) [
    | inl x ↦ Contains-append_left xs (option_to_list o) j (a.all j (record { row = r.row; among = x; is = r.is }))
    | inr x ↦ Contains-append_right xs (option_to_list o) j (option_in o j (is ∙ (ap (λ h. landing_join places h) x ∙ r.is)))
  ]);
}

narrow_is : (sizes : List (Option ℕ)) (row : Handler) (t : Bool)
    → (nat_lt (rank sizes row.from.0) (rank sizes row.to.0) && nat_lt row.target.0 (length sizes)) ≡ t
    → narrow_row sizes row ≡ (if t then Some (narrowed sizes row) else None)
narrow_is sizes row t e = ap (λ t. if t then Some (narrowed sizes row) else None) e

from_narrow : (sizes : List (Option ℕ)) (row h : Handler) → narrow_row sizes row ≡ Some h → IsOver sizes row × (h ≡ narrowed sizes row)
from_narrow sizes row h e = by (nat_lt (rank sizes row.from.0) (rank sizes row.to.0) && nat_lt row.target.0 (length sizes)) refl e
  where
    by : (t : Bool) → (nat_lt (rank sizes row.from.0) (rank sizes row.to.0) && nat_lt row.target.0 (length sizes)) ≡ t
        → (if t then Some (narrowed sizes row) else None) ≡ Some h → IsOver sizes row × (h ≡ narrowed sizes row)
    by false f g = absurd (some_none h g)
    by true f g = (
      record {
        some = (let x : rank sizes row.from.0 < rank sizes row.to.0 = grind (arith, nat_tests) in x);
        inside = (let x : row.target.0 < length sizes = grind (arith, nat_tests) in x);
      },
      sym (same_Some _ _ g),
    )

to_narrow : (sizes : List (Option ℕ)) (row : Handler) → IsOver sizes row → narrow_row sizes row ≡ Some (narrowed sizes row)
to_narrow sizes row over = narrow_is sizes row true
    (ap (λ t. t && nat_lt row.target.0 (length sizes)) (le-leb (suc (rank sizes row.from.0)) (rank sizes row.to.0) over.some)
    ∙ le-leb (suc row.target.0) (length sizes) over.inside)

pub narrow_more : (sizes : List (Option ℕ)) (rows : List Handler) (i : ℕ) (d : Handler) → i < length rows
    → (xs ys : List Handler) (o : Option Handler)
    → AreNarrowed sizes (take i rows) xs → o ≡ narrow_row sizes (get_or rows i d)
    → ys ≡ xs ++ option_to_list o → AreNarrowed sizes (take (i + 1) rows) ys
narrow_more sizes rows i d inside xs ys o a is e = record {
  only = λ h c. elim (Contains-append_cases xs (option_to_list o) h (subst (λ zs. Contains zs h) e c)) [
    | inl x ↦ (let r = a.only h x in record { row = r.row; among = earlier rows i d inside r.row r.among; over = r.over; is = r.is })
    | inr y ↦ (let (over, n) = from_narrow sizes (get_or rows i d) h (sym is ∙ in_option o h y) in
        record { row = get_or rows i d; among = latest rows i d inside; over = over; is = n })
  ];
  all = λ row c over. subst (λ zs. Contains zs (narrowed sizes row)) (sym e) (elim (cases rows i d inside row c) [
    | inl x ↦ Contains-append_left xs (option_to_list o) (narrowed sizes row) (a.all row x over)
    | inr x ↦ Contains-append_right xs (option_to_list o) (narrowed sizes row)
        (option_in o (narrowed sizes row) (is ∙ (ap (λ h. narrow_row sizes h) x ∙ to_narrow sizes row over)))
  ]);
}

pub narrow_none : (sizes : List (Option ℕ)) (row : Handler) (from to count : ℕ) → from ≡ rank sizes row.from.0
    → to ≡ rank sizes row.to.0 → length sizes ≡ count
    → (to ≤ from) ⊎ (count ≤ row.target.0) → None ≡ narrow_row sizes row
narrow_none sizes row from to count e f g h = sym (narrow_is sizes row false (by h))
  where
    by : (to ≤ from) ⊎ (count ≤ row.target.0)
        → (nat_lt (rank sizes row.from.0) (rank sizes row.to.0) && nat_lt row.target.0 (length sizes)) ≡ false
    by (inl le) = (let x : rank sizes row.to.0 ≤ rank sizes row.from.0 = omega (arith, e, f, le) in grind (arith, nat_tests))
    by (inr le) = (let x : length sizes ≤ row.target.0 = omega (arith, g, le) in grind (arith, nat_tests))

pub narrow_some : (sizes : List (Option ℕ)) (row h : Handler) (from to count : ℕ) → from ≡ rank sizes row.from.0
    → to ≡ rank sizes row.to.0 → length sizes ≡ count
    → from < to → row.target.0 < count
    → h ≡ record row { from = record { 0 = from }; to = record { 0 = to - 1 } } → Some h ≡ narrow_row sizes row
narrow_some sizes row h from to count e f g lt inside is = ap (λ z. Some z) (is ∙ (ap (λ k. record row { from = record { 0 = k }; to = record { 0 = to - 1 } }) e
    ∙ ap (λ k. record row { from = record { 0 = rank sizes row.from.0 }; to = record { 0 = k - 1 } }) f))
    ∙ sym (to_narrow sizes row (record { some = omega (arith, e, f, lt); inside = omega (arith, g, inside) }))
