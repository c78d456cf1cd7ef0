-- Breakpoints that have had their turns.
use Rattle.std.proofs.Common.{◌≡◌, ◌+◌, ◌<◌, ◌≤◌, ℕ, suc, add-one, Bool, true, false, cond, ◌&&◌, nat_lt, List, [], ◌∷◌, ◌++◌, map, find, length, take, drop, set, get_or, remove, Option, None, Some, Result, Ok, Err, OnOk, OnErr, refl, sym, ap, ◌∙◌, subst, arith}
use Rattle.std.specs.List.{AllByRecursion}
use Rattle.std.specs.Option.{option_map}
use Rattle.std.proofs.lemmas.List.{set_split, take_more, take_more_set, take-set, drop_more, drop-set-lt, take_all, map_push, append-nil, length-set}
use Rattle.std.proofs.Math.Seq.{drop-cons}
use Rattle.pt_base.specs.declared.numbers.Line.{Line}
use Rattle.pt_bdb.specs.declared.row.Hit.{Hit}
use Rattle.pt_bdb.specs.declared.row.Breakpoint.{Breakpoint}
use Rattle.pt_bdb.specs.Breakpoints.{rises}
use Rattle.pt_bdb.proofs.Rows.{parts, and_parts, and_both, rises-lower, lt_le}
use Rattle.pt_bdb.specs.Effective.{Judgment, stops, goes, hit_of, hit_in, rows_behind, passed, with_hit, is_tried, tried, BreaksOff, HasTurns}
use Rattle.pt_bdb.specs.Laws.{Pass}

pub rows-behind : (judge : Judgment) (line : Line) (front rows : List Breakpoint) → Pass judge line front
    → rows_behind judge line (front ++ rows) ≡ map (passed judge line) front ++ rows_behind judge line rows
rows-behind judge line [] rows p = refl
rows-behind judge line (b ∷ front) rows p = rw p.0 (ap (λ rest. passed judge line b ∷ rest) (rows-behind judge line front rows p.1))

pub find-behind : (judge : Judgment) (line : Line) (front rows : List Breakpoint) → Pass judge line front
    → find (stops judge line) (front ++ rows) ≡ find (stops judge line) rows
find-behind judge line [] rows p = refl
find-behind judge line (b ∷ front) rows p = rw p.0 (find-behind judge line front rows p.1)

pass-more : (judge : Judgment) (line : Line) (front : List Breakpoint) (b : Breakpoint) → Pass judge line front → stops judge line b ≡ false
    → Pass judge line (front ++ b ∷ [])
pass-more judge line [] b p e = (e, tt)
pass-more judge line (a ∷ front) b p e = (p.0, pass-more judge line front b p.1 e)

-- behind so many turns
pub record Turned (judge : Judgment) (line : Line) (old new : List Breakpoint) (at : ℕ) : Type 0 where
  pub pass : Pass judge line (take at old)
  pub front : take at new ≡ map (passed judge line) (take at old)
  pub rest : drop at new ≡ drop at old

pub no_turn : (judge : Judgment) (line : Line) (old : List Breakpoint) → Turned judge line old old 0
no_turn judge line old = record { pass = tt; front = refl; rest = refl }

-- what stands at the place is what stood there
same_item : (old new : List Breakpoint) (at : ℕ) (x : Breakpoint) → at < length old → at < length new → drop at new ≡ drop at old
    → x ≡ get_or new at x → (x ≡ get_or old at x) × (drop (suc at) new ≡ drop (suc at) old)
same_item old new at x within within' rest is =
    let e = drop-cons old at x within in
    let f = drop-cons new at x within' in
    (cc, cc)

pub one_more : (judge : Judgment) (line : Line) (old new : List Breakpoint) (at : ℕ) (x y : Breakpoint) → at < length old → at < length new
    → Turned judge line old new at → x ≡ get_or new at x → stops judge line x ≡ false → y ≡ passed judge line x
    → Turned judge line old (set new at y) (at + 1)
one_more judge line old new at x y within within' t is quiet by = record {
  pass = subst (Pass judge line) (sym taken) (pass-more judge line (take at old) x t.pass quiet);
  front = take_more_set new at y within' ∙ ap (λ r. r ++ y ∷ []) t.front ∙ ap (λ b. map (passed judge line) (take at old) ++ b ∷ []) by
      ∙ sym (ap (map (passed judge line)) taken ∙ map_push (passed judge line) (take at old) x);
  rest = rw add-one (drop-set-lt (suc at) new at y (omega arith) ∙ same.1);
}
  where
    same : (x ≡ get_or old at x) × (drop (suc at) new ≡ drop (suc at) old)
    same = same_item old new at x within within' t.rest is

    taken : take (at + 1) old ≡ take at old ++ x ∷ []
    taken = take_more old at x within ∙ ap (λ b. take at old ++ b ∷ []) (sym same.0)

behind_hit : (judge : Judgment) (line : Line) (old new : List Breakpoint) (at : ℕ) (x y : Breakpoint) (g : Bool) → g ≡ goes judge x → at < length new
    → take at new ≡ map (passed judge line) (take at old) → drop (suc at) new ≡ drop (suc at) old → y ≡ passed judge line x
    → cond g (remove (set new at y) at) (set new at y)
    ≡ map (passed judge line) (take at old) ++ cond (goes judge x) (drop (suc at) old) (passed judge line x ∷ drop (suc at) old)
behind_hit judge line old new at x y true e within front rest by =
    rw (← e) (ap (λ r. r ++ drop (suc at) (set new at y)) (take-set new at y ∙ front)
    ∙ ap (λ r. map (passed judge line) (take at old) ++ r) (drop-set-lt (suc at) new at y (omega arith) ∙ rest))
behind_hit judge line old new at x y false e within front rest by =
    rw (← e) (set_split new at y within ∙ ap (λ r. r ++ y ∷ drop (suc at) new) front
    ∙ ap (λ r. map (passed judge line) (take at old) ++ r) (ap (λ b. b ∷ drop (suc at) new) by ∙ ap (λ r. passed judge line x ∷ r) rest))

pub stop_here : (judge : Judgment) (line : Line) (old new : List Breakpoint) (at : ℕ) (x y : Breakpoint) (hit : Hit) → at < length old → at < length new
    → Turned judge line old new at → x ≡ get_or new at x → stops judge line x ≡ true → hit ≡ hit_of judge x → y ≡ passed judge line x
    → at < length (set new at y) → HasTurns judge line old (set new at y) (Some (at, hit))
stop_here judge line old new at x y hit within within' t is halts hits by within'' = (
  ap (option_map (hit_of judge)) (ap (find (stops judge line)) whole ∙ find-behind judge line (take at old) (x ∷ drop (suc at) old) t.pass ∙ first)
      ∙ ap (λ h. Some h) (sym hits),
  within'',
  behind_hit judge line old new at x y hit.removed (ap (λ h. h.removed) hits) within' t.front same.1 by ∙ sym turned,
)
  where
    same : (x ≡ get_or old at x) × (drop (suc at) new ≡ drop (suc at) old)
    same = same_item old new at x within within' t.rest is

    whole : old ≡ take at old ++ x ∷ drop (suc at) old
    whole = parts old at x within same.0

    first : find (stops judge line) (x ∷ drop (suc at) old) ≡ Some x
    first = rw halts refl

    last : rows_behind judge line (x ∷ drop (suc at) old) ≡ cond (goes judge x) (drop (suc at) old) (passed judge line x ∷ drop (suc at) old)
    last = rw halts refl

    turned : rows_behind judge line old
        ≡ map (passed judge line) (take at old) ++ cond (goes judge x) (drop (suc at) old) (passed judge line x ∷ drop (suc at) old)
    turned = ap (rows_behind judge line) whole ∙ rows-behind judge line (take at old) (x ∷ drop (suc at) old) t.pass
        ∙ ap (λ r. map (passed judge line) (take at old) ++ r) last

pub break_off : (judge : Judgment) (line : Line) (old new : List Breakpoint) (at : ℕ) (x y : Breakpoint) → at < length old → at < length new
    → Turned judge line old new at → x ≡ get_or new at x → is_tried line x ≡ true → y ≡ record x { row = with_hit x.row }
    → BreaksOff judge line old (set new at y)
break_off judge line old new at x y within within' t is tried by = record {
  front = take at old;
  one = x;
  rest = drop (suc at) old;
  parts = parts old at x within same.0;
  pass = t.pass;
  is_tried = tried;
  left = set_split new at y within' ∙ ap (λ r. r ++ y ∷ drop (suc at) new) t.front
      ∙ ap (λ r. map (passed judge line) (take at old) ++ r) (ap (λ b. b ∷ drop (suc at) new) by ∙ ap (λ r. record x { row = with_hit x.row } ∷ r) same.1);
}
  where
    same : (x ≡ get_or old at x) × (drop (suc at) new ≡ drop (suc at) old)
    same = same_item old new at x within within' t.rest is

pub none_stops : (judge : Judgment) (line : Line) (old new : List Breakpoint) (at : ℕ) → length old ≤ at → length new ≤ at
    → Turned judge line old new at → HasTurns judge line old new None
none_stops judge line old new at past past' t = (
  ap (option_map (hit_of judge)) (ap (find (stops judge line)) (sym (append-nil old)) ∙ find-behind judge line old [] pass),
  sym (take_all at new past') ∙ t.front ∙ ap (map (passed judge line)) (take_all at old past)
      ∙ sym (ap (rows_behind judge line) (sym (append-nil old)) ∙ rows-behind judge line old [] pass ∙ append-nil (map (passed judge line) old)),
)
  where
    pass : Pass judge line old
    pass = subst (Pass judge line) (take_all at old past) t.pass

-- what a turn answers
no_hit : (t : Bool) (h : Hit) → None ≡ cond t (Some h) None → t ≡ false
no_hit true h e = cc
no_hit false h e = refl

a_hit : (t : Bool) (h k : Hit) → Some h ≡ cond t (Some k) None → (t ≡ true) × (h ≡ k)
a_hit true h k e = (refl, cc)
a_hit false h k e = cc

-- a turn was judged by what was held then, which is what was held at first
pub stop_at : (first judge : Judgment) → first ≡ judge → (line : Line) (old new : List Breakpoint) (at : ℕ) (x y : Breakpoint) (hit : Hit)
    → at < length old → at < length new → Turned judge line old new at → x ≡ get_or new at x
    → Some hit ≡ cond (stops first line x) (Some (hit_of first x)) None → y ≡ passed first line x → HasTurns judge line old (set new at y) (Some (at, hit))
stop_at first judge e line old new at x y hit within within' t is told by =
    let h = a_hit (stops judge line x) hit (hit_of judge x) (subst (λ j. Some hit ≡ cond (stops j line x) (Some (hit_of j x)) None) e told) in
    stop_here judge line old new at x y hit within within' t is h.0 h.1 (subst (λ j. y ≡ passed j line x) e by) (omega (arith, length-set new at y))

pub go_on : (first judge : Judgment) → first ≡ judge → (line : Line) (old new : List Breakpoint) (at : ℕ) (x y : Breakpoint)
    → at < length old → at < length new → Turned judge line old new at → x ≡ get_or new at x
    → None ≡ cond (stops first line x) (Some (hit_of first x)) None → y ≡ passed first line x → Turned judge line old (set new at y) (at + 1)
go_on first judge e line old new at x y within within' t is told by =
    one_more judge line old new at x y within within' t is
    (no_hit (stops judge line x) (hit_of judge x) (subst (λ j. None ≡ cond (stops j line x) (Some (hit_of j x)) None) e told))
    (subst (λ j. y ≡ passed j line x) e by)

pub on_err : {A E P : Type 0} → (r : Result A E) → P → OnErr r P
on_err (Ok x) p = tt
on_err (Err e) p = p

-- turns keep the numbers
passed-rises : (judge : Judgment) (line : Line) (above last : ℕ) (b : Breakpoint) (rest : List Breakpoint)
    → rises above last (passed judge line b ∷ rest) ≡ (nat_lt above b.number && rises b.number last rest)
passed-rises judge line above last b rest = by (is_tried line b)
  where
    by : (t : Bool) → rises above last (cond t (record b { row = tried judge b.row }) b ∷ rest) ≡ (nat_lt above b.number && rises b.number last rest)
    by true = refl
    by false = refl

pub rises-turns : (judge : Judgment) (line : Line) (above last : ℕ) (rows : List Breakpoint) → rises above last rows ≡ true
    → rises above last (rows_behind judge line rows) ≡ true
rises-turns judge line above last [] e = e
rises-turns judge line above last (b ∷ rows) e =
    by (stops judge line b) (goes judge b) (and_parts (nat_lt above b.number) (rises b.number last rows) e) (rises-turns judge line b.number last rows)
  where
    by : (s g : Bool) → (nat_lt above b.number ≡ true) × (rises b.number last rows ≡ true)
        → (rises b.number last rows ≡ true → rises b.number last (rows_behind judge line rows) ≡ true)
        → rises above last (cond s (cond g rows (passed judge line b ∷ rows)) (passed judge line b ∷ rows_behind judge line rows)) ≡ true
    by true true p ih = rises-lower above b.number last rows (lt_le above b.number p.0) p.1
    by true false p ih = passed-rises judge line above last b rows ∙ and_both (nat_lt above b.number) (rises b.number last rows) p.0 p.1
    by false g p ih = passed-rises judge line above last b (rows_behind judge line rows)
        ∙ and_both (nat_lt above b.number) (rises b.number last (rows_behind judge line rows)) p.0 (ih p.1)

rises-front : (judge : Judgment) (line : Line) (above last : ℕ) (front rest : List Breakpoint) (one : Breakpoint)
    → rises above last (map (passed judge line) front ++ record one { row = with_hit one.row } ∷ rest) ≡ rises above last (front ++ one ∷ rest)
rises-front judge line above last [] rest one = refl
rises-front judge line above last (b ∷ front) rest one =
    passed-rises judge line above last b (map (passed judge line) front ++ record one { row = with_hit one.row } ∷ rest)
    ∙ ap (λ r. nat_lt above b.number && r) (rises-front judge line b.number last front rest one)

pub rises-broken : (judge : Judgment) (line : Line) (above last : ℕ) (old new : List Breakpoint) → BreaksOff judge line old new
    → rises above last old ≡ true → rises above last new ≡ true
rises-broken judge line above last old new b e =
    ap (rises above last) b.left ∙ rises-front judge line above last b.front b.rest b.one ∙ ap (rises above last) (sym b.parts) ∙ e

pub rises-taken : {A E : Type 0} (r : Result A E) (judge : Judgment) (line : Line) (last : ℕ) (old new : List Breakpoint)
    → OnOk r (new ≡ rows_behind judge line old) → OnErr r (BreaksOff judge line old new) → rises 0 last old ≡ true → rises 0 last new ≡ true
rises-taken (Ok x) judge line last old new done off e = ap (rises 0 last) done ∙ rises-turns judge line 0 last old e
rises-taken (Err x) judge line last old new done off e = rises-broken judge line 0 last old new off e
