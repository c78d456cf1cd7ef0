-- Breakpoints found by number, and the order of their numbers.
use Rattle.std.proofs.Common.{◌≡◌, ◌==◌, ◌+◌, ◌<◌, ◌≤◌, ◌&&◌, ℕ, suc, Bool, true, false, cond, List, [], ◌∷◌, ◌++◌, nat_le, nat_lt, length, take, drop, set, get_or, remove, Option, None, Some, Result, Ok, Err, IfErr, IsErrAnd, refl, sym, ap, ◌∙◌, subst, arith, eq-eqb}
use Rattle.std.proofs.lemmas.List.{set_split, take_more, take_all, take-append-drop}
use Rattle.std.proofs.Math.Seq.{drop-cons}
use Rattle.std.proofs.lemmas.Bool.Decides.{nat_tests}
use Rattle.pt_base.specs.declared.numbers.Line.{Line}
use Rattle.pt_bdb.specs.declared.breaks.BreakErr.{BreakErr}
use Rattle.pt_bdb.specs.declared.breaks.BreakErr.TheVariants.{NoBreak, NoCode, Memory}
use Rattle.pt_bdb.specs.declared.row.BreakRow.{BreakRow}
use Rattle.pt_bdb.specs.declared.row.Breakpoint.{Breakpoint}
use Rattle.pt_bdb.specs.Breakpoints.{Table, IsOrdered, IsSetError, row_of, answer_at, with_row, with_rows, without, rises, IsPlace}

-- behind rows of which none has the number
behind : (n : ℕ) (front rows : List Breakpoint) → row_of n front ≡ None → row_of n (front ++ rows) ≡ row_of n rows
behind n [] rows e = refl
behind n (b ∷ front) rows e = by (b.number == n) e (behind n front rows)
  where
    by : (t : Bool) → cond t (Some b.row) (row_of n front) ≡ None → (row_of n front ≡ None → row_of n (front ++ rows) ≡ row_of n rows)
        → cond t (Some b.row) (row_of n (front ++ rows)) ≡ row_of n rows
    by true e ih = cc
    by false e ih = ih e

with-behind : (n : ℕ) (f : BreakRow → BreakRow) (front rows : List Breakpoint) → row_of n front ≡ None
    → with_row n f (front ++ rows) ≡ front ++ with_row n f rows
with-behind n f [] rows e = refl
with-behind n f (b ∷ front) rows e = by (b.number == n) e (with-behind n f front rows)
  where
    by : (t : Bool) → cond t (Some b.row) (row_of n front) ≡ None
        → (row_of n front ≡ None → with_row n f (front ++ rows) ≡ front ++ with_row n f rows)
        → cond t (record b { row = f b.row } ∷ (front ++ rows)) (b ∷ with_row n f (front ++ rows)) ≡ b ∷ (front ++ with_row n f rows)
    by true e ih = cc
    by false e ih = ap (λ rest. b ∷ rest) (ih e)

without-behind : (n : ℕ) (front rows : List Breakpoint) → row_of n front ≡ None → without n (front ++ rows) ≡ front ++ without n rows
without-behind n [] rows e = refl
without-behind n (b ∷ front) rows e = by (b.number == n) e (without-behind n front rows)
  where
    by : (t : Bool) → cond t (Some b.row) (row_of n front) ≡ None
        → (row_of n front ≡ None → without n (front ++ rows) ≡ front ++ without n rows)
        → cond t (front ++ rows) (b ∷ without n (front ++ rows)) ≡ b ∷ (front ++ without n rows)
    by true e ih = cc
    by false e ih = ap (λ rest. b ∷ rest) (ih e)

lacks-with : (n : ℕ) (f : BreakRow → BreakRow) (rows : List Breakpoint) → row_of n rows ≡ None → with_row n f rows ≡ rows
lacks-with n f [] e = refl
lacks-with n f (b ∷ rows) e = by (b.number == n) e (lacks-with n f rows)
  where
    by : (t : Bool) → cond t (Some b.row) (row_of n rows) ≡ None → (row_of n rows ≡ None → with_row n f rows ≡ rows)
        → cond t (record b { row = f b.row } ∷ rows) (b ∷ with_row n f rows) ≡ b ∷ rows
    by true e ih = cc
    by false e ih = ap (λ rest. b ∷ rest) (ih e)

lacks-without : (n : ℕ) (rows : List Breakpoint) → row_of n rows ≡ None → without n rows ≡ rows
lacks-without n [] e = refl
lacks-without n (b ∷ rows) e = by (b.number == n) e (lacks-without n rows)
  where
    by : (t : Bool) → cond t (Some b.row) (row_of n rows) ≡ None → (row_of n rows ≡ None → without n rows ≡ rows)
        → cond t rows (b ∷ without n rows) ≡ b ∷ rows
    by true e ih = cc
    by false e ih = ap (λ rest. b ∷ rest) (ih e)

-- where no breakpoint has the number
pub record Lacks (n : ℕ) (rows : List Breakpoint) : Type 0 where
  pub answer : answer_at n rows ≡ Err (NoBreak n)
  pub with_none : (f : BreakRow → BreakRow) → with_row n f rows ≡ rows
  pub without_none : without n rows ≡ rows

pub no_place : (n : ℕ) (rows : List Breakpoint) → row_of n rows ≡ None → Lacks n rows
no_place n rows e = record {
  answer = rw e refl;
  with_none = λ f. lacks-with n f rows e;
  without_none = lacks-without n rows e;
}

same_number : (n : ℕ) (x : Breakpoint) (rest : List Breakpoint) → x.number ≡ n → row_of n (x ∷ rest) ≡ Some x.row
same_number n x rest e = let t = eq-eqb x.number n e in rw t refl

same_number-with : (n : ℕ) (f : BreakRow → BreakRow) (x : Breakpoint) (rest : List Breakpoint) → x.number ≡ n
    → with_row n f (x ∷ rest) ≡ record x { row = f x.row } ∷ rest
same_number-with n f x rest e = let t = eq-eqb x.number n e in rw t refl

same_number-without : (n : ℕ) (x : Breakpoint) (rest : List Breakpoint) → x.number ≡ n → without n (x ∷ rest) ≡ rest
same_number-without n x rest e = let t = eq-eqb x.number n e in rw t refl

pub parts : (rows : List Breakpoint) (at : ℕ) (x : Breakpoint) → at < length rows → x ≡ get_or rows at x
    → rows ≡ take at rows ++ x ∷ drop (suc at) rows
parts rows at x within is =
    sym (take-append-drop at rows) ∙ ap (λ r. take at rows ++ r) (drop-cons rows at x within ∙ ap (λ b. b ∷ drop (suc at) rows) (sym is))

-- where x stands, which has it
pub record Stands (n : ℕ) (rows : List Breakpoint) (at : ℕ) (x : Breakpoint) : Type 0 where
  pub row : row_of n rows ≡ Some x.row
  pub answer : answer_at n rows ≡ Ok tt
  pub with_place : (f : BreakRow → BreakRow) → set rows at (record x { row = f x.row }) ≡ with_row n f rows
  pub without_place : remove rows at ≡ without n rows

answer_of : (n : ℕ) (rows : List Breakpoint) (r : BreakRow) → row_of n rows ≡ Some r → answer_at n rows ≡ Ok tt
answer_of n rows r e = rw e refl

pub at_place : (n : ℕ) (rows : List Breakpoint) (at : ℕ) (x : Breakpoint) → IsPlace n rows (Some at) → x ≡ get_or rows at x → Stands n rows at x
at_place n rows at x place is = record {
  row = found;
  answer = answer_of n rows x.row found;
  with_place = λ f. set_split rows at (record x { row = f x.row }) place.0
      ∙ sym (ap (with_row n f) whole ∙ with-behind n f (take at rows) (x ∷ drop (suc at) rows) place.1 ∙ ap (λ r. take at rows ++ r) (same_number-with n f x (drop (suc at) rows) number));
  without_place = sym (ap (without n) whole ∙ without-behind n (take at rows) (x ∷ drop (suc at) rows) place.1 ∙ ap (λ r. take at rows ++ r) (same_number-without n x (drop (suc at) rows) number));
}
  where
    whole : rows ≡ take at rows ++ x ∷ drop (suc at) rows
    whole = parts rows at x place.0 is

    number : x.number ≡ n
    number = ap (λ b. b.number) is ∙ place.2 x

    found : row_of n rows ≡ Some x.row
    found = ap (row_of n) whole ∙ behind n (take at rows) (x ∷ drop (suc at) rows) place.1 ∙ same_number n x (drop (suc at) rows) number

-- none of the rows in front has the number
pub none_more : (n : ℕ) (rows : List Breakpoint) (at : ℕ) (x : Breakpoint) → at < length rows → x ≡ get_or rows at x
    → (x.number == n) ≡ false → row_of n (take at rows) ≡ None → row_of n (take (at + 1) rows) ≡ None
none_more n rows at x within is other none =
    ap (row_of n) (take_more rows at x within ∙ ap (λ b. take at rows ++ b ∷ []) (sym is))
    ∙ behind n (take at rows) (x ∷ []) none ∙ (rw other refl)

pub none_at_all : (n : ℕ) (rows : List Breakpoint) (at : ℕ) → length rows ≤ at → row_of n (take at rows) ≡ None → row_of n rows ≡ None
none_at_all n rows at past none = ap (row_of n) (sym (take_all at rows past)) ∙ none

-- the order of numbers
pub and_parts : (s t : Bool) → (s && t) ≡ true → (s ≡ true) × (t ≡ true)
and_parts true t e = (refl, e)
and_parts false t e = cc

pub and_both : (s t : Bool) → s ≡ true → t ≡ true → (s && t) ≡ true
and_both true t e f = f
and_both false t e f = cc

pub rises-with : (n : ℕ) (f : BreakRow → BreakRow) (above last : ℕ) (rows : List Breakpoint)
    → rises above last (with_row n f rows) ≡ rises above last rows
rises-with n f above last [] = refl
rises-with n f above last (b ∷ rows) = by (b.number == n) (rises-with n f b.number last rows)
  where
    by : (t : Bool) → rises b.number last (with_row n f rows) ≡ rises b.number last rows
        → rises above last (cond t (record b { row = f b.row } ∷ rows) (b ∷ with_row n f rows)) ≡ (nat_lt above b.number && rises b.number last rows)
    by true ih = refl
    by false ih = ap (λ r. nat_lt above b.number && r) ih

pub rises-lower : (a b last : ℕ) (rows : List Breakpoint) → a ≤ b → rises b last rows ≡ true → rises a last rows ≡ true
rises-lower a b last [] le e = grind (arith, nat_tests)
rises-lower a b last (x ∷ rows) le e =
    let p = and_parts (nat_lt b x.number) (rises x.number last rows) e in
    let first : nat_lt b x.number ≡ true = p.0 in
    let below : nat_lt a x.number ≡ true = grind (arith, nat_tests) in
    and_both (nat_lt a x.number) (rises x.number last rows) below p.1

pub lt_le : (a b : ℕ) → nat_lt a b ≡ true → a ≤ b
lt_le a b e = grind (arith, nat_tests)

pub rises-without : (n above last : ℕ) (rows : List Breakpoint) → rises above last rows ≡ true → rises above last (without n rows) ≡ true
rises-without n above last [] e = e
rises-without n above last (b ∷ rows) e = by (b.number == n) (and_parts (nat_lt above b.number) (rises b.number last rows) e) (rises-without n b.number last rows)
  where
    by : (t : Bool) → (nat_lt above b.number ≡ true) × (rises b.number last rows ≡ true)
        → (rises b.number last rows ≡ true → rises b.number last (without n rows) ≡ true)
        → rises above last (cond t rows (b ∷ without n rows)) ≡ true
    by true p ih = rises-lower above b.number last rows (lt_le above b.number p.0) p.1
    by false p ih = and_both (nat_lt above b.number) (rises b.number last (without n rows)) p.0 (ih p.1)

pub rises-new : (above last : ℕ) (rows : List Breakpoint) (r : BreakRow) → rises above last rows ≡ true
    → rises above (last + 1) (rows ++ record { number = last + 1; row = r } ∷ []) ≡ true
rises-new above last [] r e = grind (arith, nat_tests)
rises-new above last (b ∷ rows) r e =
    let p = and_parts (nat_lt above b.number) (rises b.number last rows) e in
    and_both (nat_lt above b.number) (rises b.number (last + 1) (rows ++ record { number = last + 1; row = r } ∷ [])) p.0 (rises-new b.number last rows r p.1)

other_number : (a b : ℕ) → (a ≡ b → ⊥) → (a == b) ≡ false
other_number a b h = grind (arith, nat_tests)

pub none_beyond : (n : ℕ) (rows : List Breakpoint) (at : ℕ) (x : Breakpoint) → at < length rows → x ≡ get_or rows at x
    → (x.number ≡ n → ⊥) → row_of n (take at rows) ≡ None → row_of n (take (at + 1) rows) ≡ None
none_beyond n rows at x within is other none = none_more n rows at x within is (other_number x.number n other) none

-- a table of which a slice was searched
pub none_with : (n : ℕ) (f : BreakRow → BreakRow) (slice : List Breakpoint) (t u : Table) → u ≡ t → slice ≡ u.rows → IsPlace n slice None
    → t ≡ with_rows (with_row n f t.rows) t
none_with n f slice t u e s none =
    let all : row_of n t.rows ≡ None = ap (row_of n) (sym (ap (λ v. v.rows) e)) ∙ ap (row_of n) (sym s) ∙ none in
    ap (λ rows. with_rows rows t) (sym (lacks-with n f t.rows all))

pub none_without : (n : ℕ) (slice : List Breakpoint) (t u : Table) → u ≡ t → slice ≡ u.rows → IsPlace n slice None
    → t ≡ with_rows (without n t.rows) t
none_without n slice t u e s none =
    let all : row_of n t.rows ≡ None = ap (row_of n) (sym (ap (λ v. v.rows) e)) ∙ ap (row_of n) (sym s) ∙ none in
    ap (λ rows. with_rows rows t) (sym (lacks-without n t.rows all))

stands_in : (n : ℕ) (slice : List Breakpoint) (u : Table) (at : ℕ) (x : Breakpoint) → slice ≡ u.rows → IsPlace n slice (Some at)
    → x ≡ get_or u.rows at x → Stands n u.rows at x
stands_in n slice u at x s place is = at_place n u.rows at x (subst (λ rows. IsPlace n rows (Some at)) s place) is

pub some_answer : (n : ℕ) (slice : List Breakpoint) (t u : Table) (at : ℕ) (x : Breakpoint) → u ≡ t → slice ≡ u.rows → IsPlace n slice (Some at)
    → x ≡ get_or u.rows at x → Ok tt ≡ answer_at n t.rows
some_answer n slice t u at x e s place is = sym (stands_in n slice u at x s place is).answer ∙ ap (λ v. answer_at n v.rows) e

pub some_with : (n : ℕ) (f : BreakRow → BreakRow) (slice : List Breakpoint) (t u : Table) (at : ℕ) (x : Breakpoint) → u ≡ t → slice ≡ u.rows
    → IsPlace n slice (Some at) → x ≡ get_or u.rows at x
    → with_rows (set u.rows at (record x { row = f x.row })) u ≡ with_rows (with_row n f t.rows) t
some_with n f slice t u at x e s place is =
    ap (λ rows. with_rows rows u) ((stands_in n slice u at x s place is).with_place f) ∙ ap (λ v. with_rows (with_row n f v.rows) v) e

pub ordered_with : (n : ℕ) (f : BreakRow → BreakRow) (slice : List Breakpoint) (u : Table) (at : ℕ) (x : Breakpoint) → slice ≡ u.rows
    → IsPlace n slice (Some at) → x ≡ get_or u.rows at x → IsOrdered u → IsOrdered (with_rows (set u.rows at (record x { row = f x.row })) u)
ordered_with n f slice u at x s place is e =
    ap (rises 0 u.last) ((stands_in n slice u at x s place is).with_place f) ∙ rises-with n f 0 u.last u.rows ∙ e

pub some_without : (n : ℕ) (slice rest : List Breakpoint) (t u : Table) (at : ℕ) (x : Breakpoint) → u ≡ t → slice ≡ u.rows
    → IsPlace n slice (Some at) → x ≡ get_or u.rows at x → rest ≡ remove u.rows at → with_rows rest u ≡ with_rows (without n t.rows) t
some_without n slice rest t u at x e s place is left =
    ap (λ rows. with_rows rows u) (left ∙ (stands_in n slice u at x s place is).without_place) ∙ ap (λ v. with_rows (without n v.rows) v) e

pub ordered_without : (n : ℕ) (slice rest : List Breakpoint) (u : Table) (at : ℕ) (x : Breakpoint) → slice ≡ u.rows
    → IsPlace n slice (Some at) → x ≡ get_or u.rows at x → rest ≡ remove u.rows at → IsOrdered u → IsOrdered (with_rows rest u)
ordered_without n slice rest u at x s place is left e =
    ap (rises 0 u.last) (left ∙ (stands_in n slice u at x s place is).without_place) ∙ rises-without n 0 u.last u.rows e

pub some_row : (n : ℕ) (slice : List Breakpoint) (t u : Table) (at : ℕ) (x : Breakpoint) → u ≡ t → slice ≡ u.rows → IsPlace n slice (Some at)
    → x ≡ get_or u.rows at x → Some x.row ≡ row_of n t.rows
some_row n slice t u at x e s place is = sym (stands_in n slice u at x s place is).row ∙ ap (λ v. row_of n v.rows) e

-- where memory ran out that is the answer, and an act stands on the line
pub only_memory : (r : Result ℕ BreakErr) (line : Line) (t : Bool) → IsErrAnd r (λ e. e ≡ Memory) → t ≡ true
    → (r ≡ Err (NoCode line) → t ≡ false) × (t ≡ false → r ≡ Err (NoCode line))
only_memory (Ok n) line t h there = absurd h
only_memory (Err e) line t h there = (λ is. cc, λ none. cc)

pub set_error : (r : Result ℕ BreakErr) (line : Line) → IsErrAnd r (λ e. e ≡ Memory) → IfErr r (IsSetError line)
set_error (Ok n) line h = tt
set_error (Err e) line h = subst (IsSetError line) (sym h) tt
