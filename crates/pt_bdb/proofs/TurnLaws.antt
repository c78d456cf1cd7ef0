-- What follows from the turns of breakpoints.
use Rattle.std.proofs.Common.{◌≡◌, ◌==◌, ◌+◌, ◌<◌, ◌≤◌, ◌&&◌, ℕ, Bool, true, false, cond, nat_lt, List, [], ◌∷◌, ◌++◌, map, find, Option, None, Some, refl, sym, ap, ◌∙◌, subst, arith, eq-eqb}
use Rattle.std.specs.List.{AllByRecursion}
use Rattle.std.specs.Option.{option_map}
use Rattle.std.proofs.lemmas.Bool.Decides.{nat_tests}
use Rattle.std.proofs.lemmas.Bool.{eqb-true}
use Rattle.pt_base.specs.declared.numbers.Line.{Line}
use Rattle.pt_bdb.specs.declared.judge.Verdict.{Verdict}
use Rattle.pt_bdb.specs.declared.judge.Verdict.TheVariants.{True, False, Broken}
use Rattle.pt_bdb.specs.declared.row.BreakRow.{BreakRow}
use Rattle.pt_bdb.specs.declared.row.Breakpoint.{Breakpoint}
use Rattle.pt_bdb.specs.declared.row.Hit.{Hit}
use Rattle.pt_bdb.specs.Breakpoints.{Table, IsOrdered, row_of, rises}
use Rattle.pt_bdb.specs.Effective.{Judgment, goes, hit_in, hit_of, is_tried, passed, rows_behind, stops, stops_by, tried, verdict_on, with_hit}
use Rattle.pt_bdb.specs.Laws.{OthersStay, Pass, FalseCounts, BrokenStays, IsLeast}
use Rattle.pt_bdb.proofs.Rows.{and_parts}
use Rattle.pt_bdb.proofs.Turns.{rows-behind, find-behind}

-- a turn keeps the number
passed-number : (judge : Judgment) (line : Line) (b : Breakpoint) → (passed judge line b).number ≡ b.number
passed-number judge line b = by (is_tried line b)
  where
    by : (t : Bool) → (cond t (record b { row = tried judge b.row }) b).number ≡ b.number
    by true = refl
    by false = refl

other_row : (n : ℕ) (b : Breakpoint) (rows : List Breakpoint) → (b.number == n) ≡ false → row_of n (b ∷ rows) ≡ row_of n rows
other_row n b rows e = rw e refl

passed_other : (judge : Judgment) (line : Line) (n : ℕ) (b : Breakpoint) (rows : List Breakpoint) → (b.number == n) ≡ false
    → row_of n (passed judge line b ∷ rows) ≡ row_of n rows
passed_other judge line n b rows e = other_row n (passed judge line b) rows (ap (λ k. k == n) (passed-number judge line b) ∙ e)

others : (judge : Judgment) (line : Line) (rows : List Breakpoint) (n : ℕ) (r : BreakRow) → row_of n rows ≡ Some r
    → is_tried line (record { number = n; row = r }) ≡ false → row_of n (rows_behind judge line rows) ≡ Some r
others judge line [] n r e quiet = cc
others judge line (b ∷ rows) n r e quiet = by (b.number == n) refl e (λ is. others judge line rows n r is quiet)
  where
    here : (b.number == n) ≡ true → b.row ≡ r → row_of n (rows_behind judge line (b ∷ rows)) ≡ Some r
    here same is =
        let all : is_tried line b ≡ false = ap (λ q. is_tried line (record { number = n; row = q })) is ∙ quiet in
        rw (all, same) (ap (λ x. Some x) is)

    turn : (s g : Bool) → (b.number == n) ≡ false → row_of n rows ≡ Some r → row_of n (rows_behind judge line rows) ≡ Some r
        → row_of n (cond s (cond g rows (passed judge line b ∷ rows)) (passed judge line b ∷ rows_behind judge line rows)) ≡ Some r
    turn true true other is later = is
    turn true false other is later = passed_other judge line n b rows other ∙ is
    turn false g other is later = passed_other judge line n b (rows_behind judge line rows) other ∙ later

    by : (t : Bool) → (b.number == n) ≡ t → cond t (Some b.row) (row_of n rows) ≡ Some r
        → (row_of n rows ≡ Some r → row_of n (rows_behind judge line rows) ≡ Some r)
        → row_of n (rows_behind judge line (b ∷ rows)) ≡ Some r
    by true same is later = here same (cc)
    by false other is later = turn (stops judge line b) (goes judge b) other is (later is)

pub others_stay : OthersStay
others_stay = others

pub false_counts : FalseCounts
false_counts judge line front rest b pass tries false_is =
    rows-behind judge line front (b ∷ rest) pass
    ∙ ap (λ r. map (passed judge line) front ++ r) (rw (tries, false_is) refl)

stops_broken : (judge : Judgment) (line : Line) (b : Breakpoint) (rest : List Breakpoint) → is_tried line b ≡ true
    → verdict_on judge b.row.condition ≡ Broken → find (stops judge line) (b ∷ rest) ≡ Some b
stops_broken judge line b rest tries broken = rw (tries, broken) refl

keeps_broken : (judge : Judgment) (b : Breakpoint) → verdict_on judge b.row.condition ≡ Broken → goes judge b ≡ false
keeps_broken judge b broken = rw broken refl

abbrev some_hit : Hit → Option Hit
some_hit h = Some h

pub broken_stays : BrokenStays
broken_stays judge line front rest b pass tries broken = (
  ap (option_map (hit_of judge)) (find-behind judge line front (b ∷ rest) pass ∙ stops_broken judge line b rest tries broken)
      ∙ ap (λ (g : Bool). some_hit (record { number = b.number; removed = g })) (keeps_broken judge b broken),
  rows-behind judge line front (b ∷ rest) pass ∙ ap (λ r. map (passed judge line) front ++ r) (rw (tries, broken) refl),
)

some_same : (h k : Hit) → Some h ≡ Some k → h ≡ k
some_same h k e = cc

-- all numbers are above
above_all : (judge : Judgment) (line : Line) (k above last : ℕ) (rows : List Breakpoint) → k ≤ above → rises above last rows ≡ true
    → AllByRecursion (λ b. stops judge line b ≡ true → k ≤ b.number) rows
above_all judge line k above last [] le e = tt
above_all judge line k above last (b ∷ rows) le e =
    let p = and_parts (nat_lt above b.number) (rises b.number last rows) e in
    let first : nat_lt above b.number ≡ true = p.0 in
    let more : k ≤ b.number = grind (arith, nat_tests) in
    (λ _. more, above_all judge line k b.number last rows more p.1)

least_from : (judge : Judgment) (line : Line) (above last : ℕ) (rows : List Breakpoint) (hit : Hit) → rises above last rows ≡ true
    → hit_in judge line rows ≡ Some hit → AllByRecursion (λ b. stops judge line b ≡ true → hit.number ≤ b.number) rows
least_from judge line above last [] hit e found = tt
least_from judge line above last (b ∷ rows) hit e found =
    let p = and_parts (nat_lt above b.number) (rises b.number last rows) e in
    by (stops judge line b) refl found p.1 (λ is. least_from judge line b.number last rows hit p.1 is)
  where
    by : (s : Bool) → stops judge line b ≡ s → option_map (hit_of judge) (cond s (Some b) (find (stops judge line) rows)) ≡ Some hit
        → rises b.number last rows ≡ true
        → (hit_in judge line rows ≡ Some hit → AllByRecursion (λ b. stops judge line b ≡ true → hit.number ≤ b.number) rows)
        → AllByRecursion (λ b. stops judge line b ≡ true → hit.number ≤ b.number) (b ∷ rows)
    by true halts is more later =
        let number : b.number ≡ hit.number = ap (λ h. h.number) (some_same (hit_of judge b) hit is) in
        let least : hit.number ≤ b.number = omega arith in
        (λ _. least, above_all judge line hit.number b.number last rows least more)
    by false passes is more later = (λ halts. absurd (cc), later is)

pub is_least : IsLeast
is_least judge line t hit e found = least_from judge line 0 t.last t.rows hit e found
