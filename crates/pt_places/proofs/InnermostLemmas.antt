-- Rows are put in one after the other, and places that have one are skipped.
use Rattle.std.proofs.Common.{◌≡◌, ℕ, ◌+◌, ◌<◌, ◌≤◌, length-append, zero, suc, Bool, true, false, if◌then◌else◌, List, [], ◌∷◌, ◌++◌, length, Option, Some, None, refl, sym, ap, ◌∙◌, subst, arith, ◌⊎◌, inl, inr, set, take, replicate}
use Rattle.std.specs.Prelude.{is_some, not, nat_le, nat_lt, ◌&&◌, slice_index_or}
use Rattle.std.specs.Option.{option_or}
use Rattle.std.proofs.lemmas.Bool.{false≢true, true≢false}
use Rattle.std.proofs.lemmas.Bool.Decides.{nat_tests}
use Rattle.std.proofs.lemmas.List.{get_or-set_other, get_or-set_same, length-set}
use Rattle.pt_base.specs.declared.numbers.Pc.{Pc}
use Rattle.pt_ranges.specs.declared.handlers.Handler.{Handler}
use Rattle.pt_ranges.specs.Rows.{covers, first_over}
use Rattle.pt_places.specs.PlaceTable.{entry}
use Rattle.pt_places.specs.Innermost.{first_left, given, HasFirst, IsPut, Putting, AllFilled, HasSkips}
use Rattle.pt_places.specs.Innermost as I
use Rattle.pt_places.proofs.TableLemmas.{trichotomy, entry_none}

below_or : (x y : ℕ) → (x < y) ⊎ (y ≤ x)
below_or x y = elim (trichotomy x y) [ inl a ↦ inl a | inr z ↦ elim z [ inl e ↦ inr (omega (arith, e)) | inr a ↦ inr (omega (arith, a)) ] ]

same_or : (x y : ℕ) → (x ≡ y) ⊎ (x ≡ y → ⊥)
same_or x y = elim (trichotomy x y) [ inl a ↦ inr (λ e. omega (arith, a, e)) | inr z ↦ elim z [ inl e ↦ inl e | inr a ↦ inr (λ e. omega (arith, a, e)) ] ]

-- which places a row covers

both : (x y : Bool) → x ≡ true → y ≡ true → (x && y) ≡ true
both true y e f = f
both false y e f = absurd (false≢true e)

not_left : (x y : Bool) → x ≡ false → (x && y) ≡ false
not_left true y e = absurd (true≢false e)
not_left false y e = refl

not_right : (x y : Bool) → y ≡ false → (x && y) ≡ false
not_right true y e = e
not_right false y e = refl

module _ (row : Handler) (pc : Pc) where
  given_in : row.from.0 ≤ pc.0 → pc.0 < row.to.0 → given row pc ≡ Some row
  given_in h k = ap (λ t. if t then Some row else None)
      (both (nat_le row.from.0 pc.0) (nat_lt pc.0 row.to.0) (let e : nat_le row.from.0 pc.0 ≡ true = grind (arith, nat_tests) in e) (let e : nat_lt pc.0 row.to.0 ≡ true = grind (arith, nat_tests) in e))

  given_before : pc.0 < row.from.0 → given row pc ≡ None
  given_before h = ap (λ t. if t then Some row else None) (not_left (nat_le row.from.0 pc.0) (nat_lt pc.0 row.to.0) (let e : nat_le row.from.0 pc.0 ≡ false = grind (arith, nat_tests) in e))

  given_behind : row.to.0 ≤ pc.0 → given row pc ≡ None
  given_behind h = ap (λ t. if t then Some row else None) (not_right (nat_le row.from.0 pc.0) (nat_lt pc.0 row.to.0) (let e : nat_lt pc.0 row.to.0 ≡ false = grind (arith, nat_tests) in e))

or_none : (o : Option Handler) → option_or o None ≡ o
or_none None = refl
or_none (Some x) = refl

kept : (o p : Option Handler) → is_some o ≡ true → option_or o p ≡ o
kept None p h = absurd (false≢true h)
kept (Some x) p h = refl

or_given : (o : Option Handler) (row : Handler) → is_some (option_or o (Some row)) ≡ true
or_given None row = refl
or_given (Some x) row = refl

-- one more row

first_behind : (rows : List Handler) (row : Handler) (pc : Pc) → first_over (rows ++ row ∷ []) pc ≡ option_or (first_over rows pc) (given row pc)
first_behind [] row pc = refl
first_behind (r ∷ rows) row pc = by (covers r pc) (first_behind rows row pc)
  where
    by : (t : Bool) → first_over (rows ++ row ∷ []) pc ≡ option_or (first_over rows pc) (given row pc)
        → (if t then Some r else first_over (rows ++ row ∷ []) pc) ≡ option_or (if t then Some r else first_over rows pc) (given row pc)
    by true e = refl
    by false e = e

pub no_rows_yet : (n : ℕ) (table : List (Option Handler)) → table ≡ replicate {A = Option Handler} n None → HasFirst [] table
no_rows_yet n table e pc h = ap (λ xs. entry xs pc.0) e ∙ entry_none n pc.0

pub rows_more : (rows : List Handler) (row : Handler) (old new : List (Option Handler)) → HasFirst rows old → IsPut row old new → HasFirst (rows ++ row ∷ []) new
rows_more rows row old new has put pc h = put.each pc low ∙ (ap (λ o. option_or o (given row pc)) (has pc low) ∙ sym (first_behind rows row pc))
  where
    low : pc.0 < length old
    low = let l = put.long in omega (arith, l, h)

module _ (row : Handler) (old : List (Option Handler)) where
  -- it covers no place of the table
  pub put_nowhere : length old ≤ row.from.0 → IsPut row old old
  put_nowhere h = record { long = refl; each = λ pc l. sym (ap (λ o. option_or (entry old pc.0) o) (given_before row pc (omega (arith, h, l))) ∙ or_none (entry old pc.0)) }

  pub put_begins : (at : ℕ) → AllFilled old row.from.0 at → Putting row at old old
  put_begins at full = record { long = refl; done = λ pc l m. sym (kept (entry old pc.0) (given row pc) (full pc.0 l m)); before = λ pc l. refl; ahead = λ pc l. refl }

  module _ (at : ℕ) (new : List (Option Handler)) (p : Putting row at old new) where
    pub put_goes_on : (to : ℕ) → at < length old → row.from.0 ≤ at → at < row.to.0 → at + 1 ≤ to → AllFilled (I.filled new at row) (at + 1) to
        → Putting row to old (I.filled new at row)
    put_goes_on to lt from below more full = record {
      long = length-set new at (option_or (entry new at) (Some row)) ∙ p.long;
      done = λ pc l m. by_place pc l m (trichotomy pc.0 at);
      before = λ pc l. get_or-set_other new at pc.0 (option_or (entry new at) (Some row)) None (λ e. omega (arith, e, l, from)) ∙ p.before pc l;
      ahead = λ pc l. get_or-set_other new at pc.0 (option_or (entry new at) (Some row)) None (λ e. omega (arith, e, l, more)) ∙ p.ahead pc (omega (arith, l, more));
    }
      where
        here : entry (I.filled new at row) at ≡ option_or (entry old at) (given row (record { 0 = at }))
        here = get_or-set_same new at (option_or (entry new at) (Some row)) None (let l = p.long in omega (arith, l, lt))
            ∙ (ap (λ o. option_or o (Some row)) (p.ahead (record { 0 = at }) (omega arith)) ∙ ap (λ o. option_or (entry old at) o) (sym (given_in row (record { 0 = at }) from below)))

        beyond : (pc : Pc) → at < pc.0 → pc.0 < to → entry (I.filled new at row) pc.0 ≡ option_or (entry old pc.0) (given row pc)
        beyond pc l m = same ∙ sym (kept (entry old pc.0) (given row pc) (subst (λ o. is_some o ≡ true) same (full pc.0 (omega (arith, l)) m)))
          where
            same : entry (I.filled new at row) pc.0 ≡ entry old pc.0
            same = get_or-set_other new at pc.0 (option_or (entry new at) (Some row)) None (λ e. omega (arith, e, l)) ∙ p.ahead pc (omega (arith, l))

        by_place : (pc : Pc) → row.from.0 ≤ pc.0 → pc.0 < to → (pc.0 < at) ⊎ ((pc.0 ≡ at) ⊎ (at < pc.0))
            → entry (I.filled new at row) pc.0 ≡ option_or (entry old pc.0) (given row pc)
        by_place pc l m (inl a) = get_or-set_other new at pc.0 (option_or (entry new at) (Some row)) None (λ e. omega (arith, e, a)) ∙ p.done pc l a
        by_place pc l m (inr (inl e)) = subst (λ q. entry (I.filled new at row) q ≡ option_or (entry old q) (given row (record { 0 = q }))) (sym e) here
        by_place pc l m (inr (inr a)) = beyond pc a m

    -- behind the last place that it covers
    pub put_ends : (at < length old → row.to.0 ≤ at) → IsPut row old new
    put_ends ends = record { long = p.long; each = λ pc h. by_place pc h (below_or pc.0 row.from.0) (below_or pc.0 at) }
      where
        untouched : (pc : Pc) → entry new pc.0 ≡ entry old pc.0 → given row pc ≡ None → entry new pc.0 ≡ option_or (entry old pc.0) (given row pc)
        untouched pc e f = e ∙ sym (ap (λ o. option_or (entry old pc.0) o) f ∙ or_none (entry old pc.0))

        by_place : (pc : Pc) → pc.0 < length old → (pc.0 < row.from.0) ⊎ (row.from.0 ≤ pc.0) → (pc.0 < at) ⊎ (at ≤ pc.0)
            → entry new pc.0 ≡ option_or (entry old pc.0) (given row pc)
        by_place pc h (inl a) b = untouched pc (p.before pc a) (given_before row pc a)
        by_place pc h (inr a) (inl b) = p.done pc a b
        by_place pc h (inr a) (inr b) = untouched pc (p.ahead pc b) (given_behind row pc (let e = ends (omega (arith, b, h)) in omega (arith, e, b)))

-- skips

pub fills_none : (table : List (Option Handler)) (at : ℕ) → AllFilled table at at
fills_none table at pc l m = absurd (omega (arith, l, m))

pub fills_join : (table : List (Option Handler)) (a b c : ℕ) → AllFilled table a b → AllFilled table b c → AllFilled table a c
fills_join table a b c f g pc l m = by (below_or pc b)
  where
    by : (pc < b) ⊎ (b ≤ pc) → is_some (entry table pc) ≡ true
    by (inl h) = f pc l h
    by (inr h) = g pc h m

module _ (table : List (Option Handler)) (skips : List ℕ) (s : HasSkips table skips) (at to : ℕ) (le : at ≤ length table) where
  -- a longer skip over places with rows
  pub skip_further : at ≤ to → to ≤ length table → AllFilled table at to → HasSkips table (set skips at to)
  skip_further up low full = record {
    long = length-set skips at to ∙ s.long;
    ahead = λ pc h. by pc (λ x y. x ≤ y) up (s.ahead pc h);
    within = λ pc h. by pc (λ x y. y ≤ length table) low (s.within pc h);
    filled = λ pc h. by pc (λ x y. AllFilled table x y) full (s.filled pc h);
  }
    where
      by : (pc : ℕ) (P : ℕ → ℕ → Type 0) → P at to → P pc (slice_index_or skips pc 0) → P pc (slice_index_or (set skips at to) pc 0)
      by pc P a b = by_place (same_or pc at)
        where
          by_place : (pc ≡ at) ⊎ (pc ≡ at → ⊥) → P pc (slice_index_or (set skips at to) pc 0)
          by_place (inl e) = subst (λ q. P q (slice_index_or (set skips at to) q 0)) (sym e) (subst (λ x. P at x) (sym (get_or-set_same skips at to 0 (let l = s.long in omega (arith, l, le)))) a)
          by_place (inr d) = subst (λ x. P pc x) (sym (get_or-set_other skips at pc to 0 d)) b

-- a place gets a row, and its skip
module _ (table : List (Option Handler)) (skips : List ℕ) (s : HasSkips table skips) (at : ℕ) (row : Handler) (lt : at < length table) where
  more_filled : (pc : ℕ) → is_some (entry table pc) ≡ true → is_some (entry (I.filled table at row) pc) ≡ true
  more_filled pc h = by (same_or pc at)
    where
      by : (pc ≡ at) ⊎ (pc ≡ at → ⊥) → is_some (entry (I.filled table at row) pc) ≡ true
      by (inl e) = subst (λ q. is_some (entry (I.filled table at row) q) ≡ true) (sym e)
          (subst (λ o. is_some o ≡ true) (sym (get_or-set_same table at (option_or (entry table at) (Some row)) None lt)) (or_given (entry table at) row))
      by (inr d) = subst (λ o. is_some o ≡ true) (sym (get_or-set_other table at pc (option_or (entry table at) (Some row)) None d)) h

  fills_at : AllFilled (I.filled table at row) at (at + 1)
  fills_at pc l m = subst (λ q. is_some (entry (I.filled table at row) q) ≡ true) (let e : at ≡ pc = omega (arith, l, m) in e)
      (subst (λ o. is_some o ≡ true) (sym (get_or-set_same table at (option_or (entry table at) (Some row)) None lt)) (or_given (entry table at) row))

  same_length : length (I.filled table at row) ≡ length table
  same_length = length-set table at (option_or (entry table at) (Some row))

  pub skips_filled : HasSkips (I.filled table at row) (set skips at (at + 1))
  skips_filled = skip_further (I.filled table at row) skips
      (record {
        long = s.long ∙ ap (λ n. n + 1) (sym same_length);
        ahead = λ pc h. s.ahead pc (let l = same_length in omega (arith, l, h));
        within = λ pc h. let l = same_length in let w = s.within pc (omega (arith, l, h)) in omega (arith, l, w);
        filled = λ pc h q l m. more_filled q (s.filled pc (let e = same_length in omega (arith, e, h)) q l m);
      })
      at (at + 1) (let l = same_length in omega (arith, l, lt)) (omega arith) (let l = same_length in omega (arith, l, lt)) fills_at

-- the first row that doesn't cover a target is the first one, where that doesn't cover it; without a row there is none

pub left_first : (rows : List Handler) (pc target : Pc) (row : Handler) → first_over rows pc ≡ Some row → covers row target ≡ false → first_left rows pc target ≡ Some row
left_first [] pc target row e f = absurd (cc)
left_first (r ∷ rows) pc target row e f = by (covers r pc) e (λ h. left_first rows pc target row h f)
  where
    by : (t : Bool) → (if t then Some r else first_over rows pc) ≡ Some row → (first_over rows pc ≡ Some row → first_left rows pc target ≡ Some row)
        → (if t && not (covers r target) then Some r else first_left rows pc target) ≡ Some row
    by true h further = subst (λ x. (if not (covers x target) then Some r else first_left rows pc target) ≡ Some row) (let q : row ≡ r = cc in q)
        (subst (λ t. (if not t then Some r else first_left rows pc target) ≡ Some row) (sym f) h)
    by false h further = further h

pub left_none : (rows : List Handler) (pc target : Pc) → first_over rows pc ≡ None → first_left rows pc target ≡ None
left_none [] pc target e = refl
left_none (r ∷ rows) pc target e = by (covers r pc) e (left_none rows pc target)
  where
    by : (t : Bool) → (if t then Some r else first_over rows pc) ≡ None → (first_over rows pc ≡ None → first_left rows pc target ≡ None)
        → (if t && not (covers r target) then Some r else first_left rows pc target) ≡ None
    by true h further = absurd (cc)
    by false h further = further h

-- a table of skips is made

pub counted_more : (items : List ℕ) (n : ℕ) → length items ≡ n → ((pc : ℕ) → pc < n → slice_index_or items pc 0 ≡ pc)
    → (pc : ℕ) → pc < n + 1 → slice_index_or (items ++ n ∷ []) pc 0 ≡ pc
counted_more items n long each pc h = by (same_or pc n)
  where
    last : (xs : List ℕ) (x : ℕ) → slice_index_or (xs ++ x ∷ []) (length xs) 0 ≡ x
    last [] x = refl
    last (y ∷ xs) x = last xs x

    before : (xs : List ℕ) (x q : ℕ) → q < length xs → slice_index_or (xs ++ x ∷ []) q 0 ≡ slice_index_or xs q 0
    before [] x q l = absurd (omega arith)
    before (y ∷ xs) x zero l = refl
    before (y ∷ xs) x (suc q) l = before xs x q (omega arith)

    by : (pc ≡ n) ⊎ (pc ≡ n → ⊥) → slice_index_or (items ++ n ∷ []) pc 0 ≡ pc
    by (inl e) = ap (λ q. slice_index_or (items ++ n ∷ []) q 0) (e ∙ sym long) ∙ (last items n ∙ sym e)
    by (inr d) = let l : pc < n = below (below_or pc n) in before items n pc (omega (arith, l, long)) ∙ each pc l
      where
        below : (pc < n) ⊎ (n ≤ pc) → pc < n
        below (inl l) = l
        below (inr g) = absurd (d (omega (arith, g, h)))

pub skips_over_none : (items : List ℕ) (n : ℕ) → length items ≡ n → ((pc : ℕ) → pc < n → slice_index_or items pc 0 ≡ pc)
    → (table : List (Option Handler)) → length table ≡ n → HasSkips table (items ++ n ∷ [])
skips_over_none items n long each table e = record {
  long = let l : length (items ++ n ∷ []) ≡ length items + 1 = length-append items (n ∷ []) in l ∙ (ap (λ k. k + 1) long ∙ ap (λ k. k + 1) (sym e));
  ahead = λ pc h. let s = here pc (omega (arith, e, h)) in omega (arith, s);
  within = λ pc h. let s = here pc (omega (arith, e, h)) in omega (arith, s, h);
  filled = λ pc h q l m. let s = here pc (omega (arith, e, h)) in absurd (omega (arith, s, l, m));
}
  where
    here : (pc : ℕ) → pc < n + 1 → slice_index_or (items ++ n ∷ []) pc 0 ≡ pc
    here = counted_more items n long each

-- one step over places with rows
pub record Passed (table : List (Option Handler)) (from behind : ℕ) (skips : List ℕ) : Type 0 where
  pub sound : HasSkips table skips
  pub within : behind ≤ length table
  pub filled : AllFilled table from behind

pub passes : (table : List (Option Handler)) (skips : List ℕ) (from at next behind : ℕ) → HasSkips table skips → at ≤ length table → AllFilled table from at
    → next ≡ slice_index_or skips at 0 → at < next → behind ≡ slice_index_or skips next 0 → Passed table from behind (set skips at behind)
passes table skips from at next behind s le full is up there = record {
  sound = skip_further table skips s at behind le (let a = s.ahead next below in omega (arith, a, there, up)) inside joined;
  within = inside;
  filled = fills_join table from at behind full joined;
}
  where
    below : next ≤ length table
    below = let w = s.within at le in omega (arith, is, w)

    inside : behind ≤ length table
    inside = let w = s.within next below in omega (arith, there, w)

    joined : AllFilled table at behind
    joined = fills_join table at next behind (subst (λ n. AllFilled table at n) (sym is) (s.filled at le)) (subst (λ n. AllFilled table next n) (sym there) (s.filled next below))

pub rows_taken : (rows : List Handler) (n : ℕ) (row : Handler) (old new : List (Option Handler)) → HasFirst (take n rows) old → IsPut row old new → take (n + 1) rows ≡ take n rows ++ row ∷ []
    → HasFirst (take (n + 1) rows) new
rows_taken rows n row old new has put e = subst (λ rs. HasFirst rs new) (sym e) (rows_more (take n rows) row old new has put)
