-- The first row that takes a Leave is found on either side.
use Rattle.std.proofs.Common.{◌≡◌, ◌⊎◌, inl, inr, ℕ, zero, suc, ◌+◌, ◌-◌, ◌<◌, ◌≤◌, Bool, true, false, not, ◌&&◌, if◌then◌else◌, List, [], ◌∷◌, Option, Some, None, refl, sym, ap, ◌∙◌, subst, arith}
use Rattle.std.specs.Prelude.{Contains, slice_get, find, filter, nat_lt}
use Rattle.std.proofs.lemmas.Bool.{false≢true}
use Rattle.std.proofs.lemmas.Bool.Decides.{nat_tests}
use Rattle.std.proofs.lemmas.Option.{same_Some}
use Rattle.pt_ranges.specs.declared.handlers.Handler.{Handler}
use Rattle.pt_ranges.specs.Rows.{covers}
use Rattle.pt_sizes.specs.Flow.{is_under}
use Rattle.pt_sizes.specs.Waiting.{Level, AllWait, up, stretch, levels_of}
use Rattle.sem_fits.specs.fits.Leaves.{takes_leave, taker}
use Rattle.pt_takers.specs.declared.sides.Side.TheVariants.{Behind, Before}
use Rattle.pt_takers.specs.declared.takers.Takers.{Takers}
use Rattle.pt_takers.specs.Sides.{PLACES, bound, is_below}
use Rattle.pt_takers.specs.Numbers.{numbered, IsNumbered, AreNumbered}
use Rattle.pt_takers.specs.Stretches.{AreChains, sooner, first_up}
use Rattle.pt_takers.specs.Takers.{TellsTakers}
use Rattle.pt_takers.proofs.Lists.{none_some, got_in, find_here, find_later}
use Rattle.pt_takers.proofs.Soonest.{IsSoonest, soonest_both, RisesByNumber, Around, soonest_up}

-- of the rows that one test has kept the first of which another holds
module _ (q p : Handler → Bool) where
  filter_in : (x : Handler) (rows : List Handler) → q x ≡ true → filter q (x ∷ rows) ≡ x ∷ filter q rows
  filter_in x rows e = ap (λ t. if t then x ∷ filter q rows else filter q rows) e

  filter_out : (x : Handler) (rows : List Handler) → q x ≡ false → filter q (x ∷ rows) ≡ filter q rows
  filter_out x rows e = ap (λ t. if t then x ∷ filter q rows else filter q rows) e

  passed : (x : Handler) (rows : List Handler) → (q x ≡ true → p x ≡ true → ⊥) → find p (filter q (x ∷ rows)) ≡ find p (filter q rows)
  passed x rows fails = by_test (q x) refl
    where
      by_other : q x ≡ true → (t : Bool) → p x ≡ t → find p (x ∷ filter q rows) ≡ find p (filter q rows)
      by_other e true f = absurd (fails e f)
      by_other e false f = find_later p x (filter q rows) f

      by_test : (t : Bool) → q x ≡ t → find p (filter q (x ∷ rows)) ≡ find p (filter q rows)
      by_test true e = ap (find p) (filter_in x rows e) ∙ by_other e (p x) refl
      by_test false e = ap (find p) (filter_out x rows e)

  pub first_kept : (rows : List Handler) (n : ℕ) (row : Handler) → slice_get rows n ≡ Some row → q row ≡ true → p row ≡ true
      → ((m : ℕ) (x : Handler) → m < n → slice_get rows m ≡ Some x → q x ≡ true → p x ≡ true → ⊥) → find p (filter q rows) ≡ Some row
  first_kept [] n row e t u least = absurd (none_some row e)
  first_kept (x ∷ rows) zero row e t u least = let same : x ≡ row = same_Some x row e in
      ap (find p) (filter_in x rows (ap q same ∙ t)) ∙ (find_here p x (filter q rows) (ap p same ∙ u) ∙ e)
  first_kept (x ∷ rows) (suc n) row e t u least = passed x rows (λ f g. least zero x (omega arith) refl f g)
      ∙ first_kept rows n row e t u (λ m y lt. least (suc m) y (omega (arith, lt)))

  pub none_kept : (rows : List Handler) → ((m : ℕ) (x : Handler) → slice_get rows m ≡ Some x → q x ≡ true → p x ≡ true → ⊥)
      → find p (filter q rows) ≡ None
  none_kept [] none = refl
  none_kept (x ∷ rows) none = passed x rows (λ f g. none zero x refl f g) ∙ none_kept rows (λ m y. none (suc m) y)

-- a place that a row doesn't cover lies behind it or before it
covers_behind : (row : Handler) (t : ℕ) → nat_lt row.to.0 (t + 1) ≡ true → covers row (record { 0 = t }) ≡ false
covers_behind row t e = grind (arith, nat_tests)

covers_before : (row : Handler) (t : ℕ) → nat_lt (PLACES - row.from.0) (PLACES - t) ≡ true → covers row (record { 0 = t }) ≡ false
covers_before row t e = grind (arith, nat_tests)

on_a_side : (row : Handler) (t : ℕ) → t < PLACES → covers row (record { 0 = t }) ≡ false
    → (nat_lt row.to.0 (t + 1) ≡ true) ⊎ (nat_lt (PLACES - row.from.0) (PLACES - t) ≡ true)
on_a_side row t low e = by_test (nat_lt row.to.0 (t + 1)) refl
  where
    before : nat_lt row.to.0 (t + 1) ≡ false → nat_lt (PLACES - row.from.0) (PLACES - t) ≡ true
    before f = grind (arith, nat_tests)

    by_test : (b : Bool) → nat_lt row.to.0 (t + 1) ≡ b → (nat_lt row.to.0 (t + 1) ≡ true) ⊎ (nat_lt (PLACES - row.from.0) (PLACES - t) ≡ true)
    by_test true f = inl f
    by_test false f = inr (before f)

both : (x y : Bool) → (x && not y) ≡ true → (x ≡ true) × (y ≡ false)
both true false e = (refl, refl)
both true true e = absurd (false≢true e)
both false y e = absurd (false≢true e)

and_not : (x y : Bool) → x ≡ true → y ≡ false → (x && not y) ≡ true
and_not x y e f = ap (λ b. b && not y) e ∙ ap (λ b. not b) f

module _ (rows always : List Handler) (count : ℕ) (levels : List Level) (num : AreNumbered rows always) (wait : AllWait always count levels)
    (pc t : ℕ) (inside : pc < count) (low : t < PLACES) where
  -- a row in a stretch around the place
  known : (k : ℕ) (h : Handler) → Contains (stretch levels k (up k pc)) h → IsNumbered rows h × (is_under h pc ≡ true)
  known k h c = let w = wait.known pc h (record { level = k; among = c }) in (num.only h w.0, w.1)

  rises : (k : ℕ) → RisesByNumber (stretch levels k (up k pc))
  rises k i j r s le e g =
      let d = wait.sorted k (up k pc) i j r s le e g in
      let a = (known k r (got_in (stretch levels k (up k pc)) i r e)).0 in
      let b = (known k s (got_in (stretch levels k (up k pc)) j s g)).0 in
      let ra : r.target.0 ≡ a.number = ap (λ x. x.target.0) a.is in
      let rb : s.target.0 ≡ b.number = ap (λ x. x.target.0) b.is in
      let da : r.depth ≡ 4294967295 - a.number = ap (λ x. x.depth) a.is in
      let db : s.depth ≡ 4294967295 - b.number = ap (λ x. x.depth) b.is in
      let la = a.low in let lb = b.low in omega (arith, d, ra, rb, da, db, la, lb)

  abbrev Found : Handler → Type 0
  Found x = Around (is_below Behind (bound Behind t)) levels pc x ⊎ Around (is_below Before (bound Before t)) levels pc x

  -- a row that is found takes a Leave
  takes : (h : Handler) → Found h → (i : IsNumbered rows h) × ((covers i.row (record { 0 = pc }) ≡ true) × (takes_leave t i.row ≡ true))
  takes h f = elim f [
    | inl a ↦ by_side a.level a.among (λ i. covers_behind i.row t (subst (λ x. is_below Behind (bound Behind t) x ≡ true) i.is a.passes))
    | inr a ↦ by_side a.level a.among (λ i. covers_before i.row t (subst (λ x. is_below Before (bound Before t) x ≡ true) i.is a.passes))
  ]
    where
      by_side : (k : ℕ) → Contains (stretch levels k (up k pc)) h → ((i : IsNumbered rows h) → covers i.row (record { 0 = t }) ≡ false)
          → (i : IsNumbered rows h) × ((covers i.row (record { 0 = pc }) ≡ true) × (takes_leave t i.row ≡ true))
      by_side k c apart = let (i, u) = known k h c in
          (i, (subst (λ x. is_under x pc ≡ true) i.is u, and_not i.row.always (covers i.row (record { 0 = t })) i.always (apart i)))

  -- and a row that takes one is found
  finds : (n : ℕ) (row : Handler) → slice_get rows n ≡ Some row → covers row (record { 0 = pc }) ≡ true → takes_leave t row ≡ true
      → Found (numbered n row)
  finds n row e c l =
      let (always_is, apart) = both row.always (covers row (record { 0 = t })) l in
      let w = wait.whole pc (numbered n row) inside (num.all n row e always_is) c in
      elim (on_a_side row t low apart) [
        | inl s ↦ inl (record { level = w.level; among = w.among; passes = s })
        | inr s ↦ inr (record { level = w.level; among = w.among; passes = s })
      ]

  soonest : IsSoonest Found (sooner (first_up Behind (bound Behind t) levels pc) (first_up Before (bound Before t) levels pc))
  soonest = soonest_both (Around (is_below Behind (bound Behind t)) levels pc) (Around (is_below Before (bound Before t)) levels pc)
      (first_up Behind (bound Behind t) levels pc) (first_up Before (bound Before t) levels pc)
      (soonest_up Behind (bound Behind t) levels pc rises) (soonest_up Before (bound Before t) levels pc rises)

  pub none_takes : sooner (first_up Behind (bound Behind t) levels pc) (first_up Before (bound Before t) levels pc) ≡ None
      → None ≡ taker (filter (λ row. covers row (record { 0 = pc })) rows) t
  none_takes e = let none = subst (IsSoonest Found) e soonest in
      sym (none_kept (λ row. covers row (record { 0 = pc })) (takes_leave t) rows (λ m x s c l. none (numbered m x) (finds m x s c l)))

  pub some_takes : (h : Handler) → sooner (first_up Behind (bound Behind t) levels pc) (first_up Before (bound Before t) levels pc) ≡ Some h
      → slice_get rows h.target.0 ≡ taker (filter (λ row. covers row (record { 0 = pc })) rows) t
  some_takes h e =
      let (f, least) = subst (IsSoonest Found) e soonest in
      let (i, (c, l)) = takes h f in
      let number : h.target.0 ≡ i.number = ap (λ x. x.target.0) i.is in
      ap (λ n. slice_get rows n) number ∙ (i.stands
      ∙ sym (first_kept (λ row. covers row (record { 0 = pc })) (takes_leave t) rows i.number i.row i.stands c l
      (λ m x lt s d u. let b = least (numbered m x) (finds m x s d u) in
      let le : h.target.0 ≤ m = b in omega (arith, lt, le, number))))

-- what is told of the rows of a block
module _ (rows : List Handler) (count pc t : ℕ) (takers : Takers) (told : TellsTakers rows count takers) (inside : pc < count) (low : t < PLACES)
    (behind before : Option Handler) (one : (levels : List Level) → AreChains Behind levels (levels_of takers.behind) → behind ≡ first_up Behind (bound Behind t) levels pc)
    (other : (levels : List Level) → AreChains Before levels (levels_of takers.before) → before ≡ first_up Before (bound Before t) levels pc) where
  found : sooner behind before ≡ sooner (first_up Behind (bound Behind t) told.levels pc) (first_up Before (bound Before t) told.levels pc)
  found = ap (λ o. sooner o before) (one told.levels told.behind) ∙ ap (sooner (first_up Behind (bound Behind t) told.levels pc)) (other told.levels told.before)

  pub none_first : sooner behind before ≡ None → None ≡ taker (filter (λ row. covers row (record { 0 = pc })) rows) t
  none_first e = none_takes rows told.always count told.levels told.numbered told.wait pc t inside low (sym found ∙ e)

  pub some_first : (h : Handler) → sooner behind before ≡ Some h
      → slice_get takers.rows.items h.target.0 ≡ taker (filter (λ row. covers row (record { 0 = pc })) rows) t
  some_first h e = ap (λ xs. slice_get xs h.target.0) told.same
      ∙ some_takes rows told.always count told.levels told.numbered told.wait pc t inside low h (sym found ∙ e)
