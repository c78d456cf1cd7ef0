-- What the instruction of each place finds there, under which handler rows, and in which loop.
use Rattle.std.proofs.Common.{◌≡◌, ◌⊎◌, ⊎_elim, ℕ, ◌+◌, ◌≤◌, ◌<◌, zero, suc, Bool, true, false, if◌then◌else◌, nat_eq, List, [], ◌∷◌, ◌++◌, length, Contains, Option, Some, None, refl, sym, ap, ◌∙◌, subst, arith, eqb-true}
use Rattle.std.proofs.lemmas.Bool.{false≢true, true≢false, cases_lt}
use Rattle.pt_instr.specs.declared.Instr.{Instr}
use Rattle.pt_instr.specs.declared.Instr.TheVariants as instr
use Rattle.pt_instr.specs.declared.kinds.Kind.TheVariants as kinds
use Rattle.pt_instr.specs.Effects.{effect_of}
use Rattle.pt_ranges.specs.declared.lines.ActMark.{ActMark}
use Rattle.pt_ranges.specs.declared.handlers.Handler.{Handler}
use Rattle.pt_code.specs.declared.Start.{Start}
use Rattle.pt_code.specs.View.{Ins}
use Rattle.sem_code.specs.slots.CodeObject.{Pool, CodeObject}
use Rattle.sem_code.specs.slots.Stretches.{Stands, ins, act_mark}
use Rattle.pt_assembler.specs.declared.operation.Jump.{Jump}
use Rattle.pt_assembler.specs.declared.operation.Jump.TheVariants.{AtEnd, Always, IfTrue, IfFalse, IfTrueKeep, IfFalseKeep, Leave}
use Rattle.pt_assembler.specs.declared.operation.FreeUse.{FreeUse}
use Rattle.pt_assembler.specs.declared.operation.FreeUse.TheVariants.{Load, Store, Delete, Renew, Push}
use Rattle.pt_assembler.specs.declared.operation.Target.{Target}
use Rattle.pt_assembler.specs.declared.operation.Exit.{Exit}
use Rattle.pt_assembler.specs.declared.operation.Exit.TheVariants.{Break, Continue}
use Rattle.pt_assembler.specs.Piece as P
use Rattle.pt_assembler.specs.Piece.{Op, Piece, pick}
use Rattle.pt_assembler.specs.PieceAt.{instr_to, instr_of_free, target, start_of, Is, Exits, exit_of, Context, in_loop, under, over, row_of, Passes, Exit_at, Piece_at}
use Rattle.sem_fits.specs.fits.Block.{Block, effect}
use Rattle.sem_fits.specs.fits.Steps.{held_by}
use Rattle.sem_fits.specs.fits.Leaves.{takes_leave}
use Rattle.law_pieces.specs.piece_kinds.Walk.{Loop, StackMap, made, lowest, instr_of, onward, behind_op, is_empty, deepened, Setting, with_label, with_none, with_loop, end_of, behind}
use Rattle.law_pieces.specs.piece_kinds.Typed.{Over, EndsAt, Takes, plainly, HasValue, AllHoldIn, Fires}
use Rattle.law_pieces.specs.piece_kinds.Table.{next_of, Rises, Table}
use Rattle.law_pieces.specs.piece_kinds.Exits.{exit_in, depth_of, is_leave, NeverLeaves, ExitsAre}
use Rattle.law_pieces.proofs.piece_kinds.ListLemmas.{over_itself, over_over, over_length, lowest_of_over, lowest_all}
use Rattle.law_pieces.proofs.piece_kinds.StepLemmas.{RowRight}
use Rattle.law_pieces.proofs.piece_kinds.PieceLaw.{same_effect, not_both, is_some_of, nothing_at, stands_at, next_is, ends, Laid, first, second, in_block, in_head, in_closed, in_a_loop, deep, at_start, in_count, target_there, normal_alone, under_row, behind_row, except_right, under_except, not_empty, begins}

abbrev leave_of : Instr → ℕ
leave_of (instr.Leave t) = t.0
leave_of i = 0

free_stays : (u : FreeUse) (i : ℕ) → is_leave (instr_of_free u i) ≡ false
free_stays Load i = refl
free_stays Store i = refl
free_stays Delete i = refl
free_stays Renew i = refl
free_stays Push i = refl

to_stays : (k : Jump) (p : ℕ) → is_leave (instr_to k 0) ≡ false → is_leave (instr_to k p) ≡ false
to_stays AtEnd p h = refl
to_stays Always p h = refl
to_stays IfTrue p h = refl
to_stays IfFalse p h = refl
to_stays IfTrueKeep p h = refl
to_stays IfFalseKeep p h = refl
to_stays Leave p h = absurd (true≢false h)

never_leaves : (pool : Pool) (L : List Target) (op : Op) (j : Instr) → Is pool L op j → NeverLeaves op → is_leave j ≡ false
never_leaves pool L (P.plain i) j e n = ap is_leave e ∙ n
never_leaves pool L P.never j e n = absurd e
never_leaves pool L (P.const k) j (c, e, f) n = ap is_leave e
never_leaves pool L (P.with_local g x) j (i, e, f) n = ap is_leave e ∙ n i
never_leaves pool L (P.with_cell g x) j (i, e, f) n = ap is_leave e ∙ n i
never_leaves pool L (P.with_free w x) j (i, e, f) n = ap is_leave e ∙ free_stays w i
never_leaves pool L (P.with_text g x) j (t, e, f) n = ap is_leave e ∙ n t
never_leaves pool L (P.with_list g xs) j (l, e, f) n = ap is_leave e ∙ n l
never_leaves pool L (P.to k l) j e n = ap is_leave e ∙ to_stays k (pick start_of L l).pc.0 n

-- a place is that of an exit of this loop
abbrev pub IsExit : (place : ℕ) → Option Loop → Type 0
IsExit t None = ⊥
IsExit t (Some x) = (e : Exit) × (t ≡ exit_in e (Some x))

-- a row over places in a loop, whose lowest slots are these
pub record RowFits (at : Table) (base : StackMap) (x : Option Loop) (row : Handler) : Type 0 where
  pub loop : Option Loop
  pub there : at row.target.0 ≡ Some (made row.target.0 loop (held_by row) ∷ lowest row.depth base)
  pub within : row.depth ≤ length base
  pub takes : (t : ℕ) → IsExit t x → takes_leave t row ≡ true → (loop ≡ x) × (depth_of x ≤ row.depth)

abbrev pub RowsFit : Table → (base : StackMap) → Option Loop → List Handler → Type 0
RowsFit at base x [] = Unit {0}
RowsFit at base x (row ∷ rows) = RowFits at base x row × RowsFit at base x rows

pub rows_fit_over : (at : Table) {base more : StackMap} (x : Option Loop) (rows : List Handler) → Over base more → RowsFit at base x rows → RowsFit at more x rows
rows_fit_over at x [] o h = tt
rows_fit_over at {base = base} {more = more} x (row ∷ rows) o (h, hs) = (
  record {
    loop = h.loop;
    there = h.there ∙ ap (λ zs. Some (made row.target.0 h.loop (held_by row) ∷ zs)) (sym (lowest_of_over row.depth o h.within));
    within = let l = over_length o in let w = h.within in omega (arith, l, w);
    takes = h.takes;
  },
  rows_fit_over at x rows o hs,
)

pub row_fits : (at : Table) (base : StackMap) (x : Option Loop) (rows : List Handler) → RowsFit at base x rows → (row : Handler) → Contains rows row → RowFits at base x row
row_fits at base x [] h row (k, l, e) = absurd (let f : ⊥ = omega (arith, l) in f)
row_fits at base x (r ∷ rows) (h, hs) row (zero, l, e) = subst (RowFits at base x) e h
row_fits at base x (r ∷ rows) (h, hs) row (suc k, l, e) = row_fits at base x rows hs row (k, omega (arith, l), e)

-- in a loop that a row doesn't take a jump out of
rows_pass : (at : Table) (base : StackMap) (x : Option Loop) (y : Loop) (rows : List Handler) → ((e : Exit) → Passes rows (exit_in e (Some y)))
    → RowsFit at base x rows → RowsFit at base (Some y) rows
rows_pass at base x y [] f h = tt
rows_pass at base x y (row ∷ rows) f (h, hs) = (
  record {
    loop = h.loop;
    there = h.there;
    within = h.within;
    takes = λ t u s. absurd (false≢true (sym ((f u.0).0) ∙ (ap (λ p. takes_leave p row) (sym u.1) ∙ s)));
  },
  rows_pass at base x y rows (λ e. (f e).1) hs,
)

-- the exits of the loop are those around the code
abbrev pub LoopIs : Option Loop → Option Exits → Type 0
LoopIs None None = Unit {0}
LoopIs (Some x) (Some y) = (e : Exit) → exit_in e (Some x) ≡ (exit_of e y).pc.0
LoopIs x y = ⊥

-- what the instruction of a place with these slots finds there; outer rows cover it, and it lies above the outer slots
pub record Finds (b : Block) (at : Table) (W : Option Loop → StackMap → Exit → Type 0) (outer : List Handler) (floor : StackMap) (q : ℕ) (ks : StackMap) : Type 0 where
  pub here : Ins
  pub stands : b.at q ≡ Some here
  pub taken : StackMap
  pub rest : StackMap
  pub base : StackMap
  pub loop : Option Loop
  pub is : ks ≡ taken ++ rest
  pub over : Over base rest
  pub takes : Takes (effect b.links here.instr) taken
  pub value : HasValue (let e = effect b.links here.instr in e.above) rest
  pub holds : AllHoldIn loop taken
  pub fit : RowsFit at base loop here.rows
  pub deep : depth_of loop ≤ length base
  pub leaves : (t : ℕ) → here.instr ≡ instr.Leave (record { 0 = t }) → (e : Exit) × IsExit t loop × (t ≡ exit_in e loop) × W loop base e
  pub covered : (row : Handler) → Contains outer row → Contains here.rows row
  pub above : Over floor base
  pub after : (ls : StackMap) → (let e = effect b.links here.instr in onward e here.next loop ks e.gives) ≡ Some ls → at here.next ≡ Some ls

module _ {V : Type 0} (code : CodeObject V) (starts : List Start) (b : Block) (same : (pc : ℕ) → code.at pc ≡ b.at pc) (rises : Rises b) (at : Table)
    (W : Option Loop → StackMap → Exit → Type 0) where
  -- what lies around a piece
  pub record Fit (L : List Target) (x : Context) (c : Setting) (base : StackMap) : Type 0 where
    pub places : (k : ℕ) → pick 0 c.labels k ≡ (pick start_of L k).pc.0
    pub rows : RowsFit at base c.loop x.rows
    pub depth : x.depth ≡ length base
    pub deep : depth_of c.loop ≤ length base
    pub around : LoopIs c.loop x.around

  more_rows : {rows outer : List Handler} {floor base : StackMap} {q : ℕ} {ks : StackMap} → ((row : Handler) → Contains outer row → Contains rows row) → Over floor base
      → Finds b at W rows base q ks → Finds b at W outer floor q ks
  more_rows f o u = record {
    here = u.here;
    stands = u.stands;
    taken = u.taken;
    rest = u.rest;
    base = u.base;
    loop = u.loop;
    is = u.is;
    over = u.over;
    takes = u.takes;
    value = u.value;
    holds = u.holds;
    fit = u.fit;
    deep = u.deep;
    leaves = u.leaves;
    covered = λ row h. u.covered row (f row h);
    above = over_over o u.above;
    after = u.after;
  }

  pub at_only : (q from : ℕ) (o : Option StackMap) (ks : StackMap) → at q ≡ (if nat_eq q from then o else None) → at q ≡ Some ks → (q ≡ from) × (o ≡ Some ks)
  at_only q from o ks f h = by (nat_eq q from) refl
    where
      by : (t : Bool) → nat_eq q from ≡ t → (q ≡ from) × (o ≡ Some ks)
      by true e = (eqb-true q from e, sym (f ∙ ap (λ t. if t then o else None) e) ∙ h)
      by false e = not_both (sym h ∙ (f ∙ ap (λ t. if t then o else None) e))

  pub found : (op : Op) (L : List Target) (x : Context) (c : Setting) (Ls : List (Option StackMap)) (base : StackMap) (from to : ℕ) (m : Option ActMark) (j : Instr) (ks : StackMap)
      → Is code.pool L op j → Stands code x.rows j m from to → Fires b.links op c.loop Ls base ks → NeverLeaves op → Fit L x c base
      → ((ls : StackMap) → behind_op b.links op (next_of b from) c.loop (Some ks) ≡ Some ls → at to ≡ Some ls) → Finds b at W x.rows base from ks
  found op L x c Ls base from to m j ks i h f n v g = record {
    here = ins j m to x.rows;
    stands = stands_at code starts b same rises x.rows j m from to h;
    taken = f.taken;
    rest = f.rest;
    base = base;
    loop = c.loop;
    is = f.is;
    over = f.over;
    takes = subst (λ e. Takes e f.taken) (sym row) f.takes;
    value = subst (λ e. HasValue e.above f.rest) (sym row) f.above;
    holds = f.holds;
    fit = v.rows;
    deep = v.deep;
    leaves = λ t e. absurd (false≢true (sym (never_leaves code.pool L op j i n) ∙ ap is_leave e));
    covered = λ row k. k;
    above = over_itself base;
    after = λ ls e. g ls (ap (λ p. behind_op b.links op p c.loop (Some ks)) (next_is code starts b same rises x.rows j m from to h)
        ∙ (ap (λ e. onward e to c.loop ks e.gives) (sym row) ∙ e));
  }
    where
      row : effect b.links j ≡ effect b.links (instr_of op)
      row = same_effect b.links code.pool L op j i f.uniform

  -- the exit of the loop around
  left : (o : Option Loop) (a : Option Exits) (e : Exit) (n l : ℕ) (rows : List Handler) (from to : ℕ) → LoopIs o a → Exit_at code starts a e n l rows from to
      → IsExit (exit_in e o) o × Stands code rows (instr.Leave (record { 0 = exit_in e o })) (act_mark from n l false) from to
  left None None e n l rows from to f h = absurd h
  left None (Some y) e n l rows from to f h = absurd f
  left (Some x) None e n l rows from to f h = absurd f
  left (Some x) (Some y) e n l rows from to f h = (
    (e, refl),
    subst (λ t. Stands code rows (instr.Leave (record { 0 = t })) (act_mark from n l false) from to) (sym (f e)) h.1,
  )

  leave_found : (L : List Target) (x : Context) (c : Setting) (base : StackMap) (e : Exit) (n l from to : ℕ) (ks : StackMap) → Exit_at code starts x.around e n l x.rows from to
      → Over base ks → W c.loop base e → Fit L x c base → Finds b at W x.rows base from ks
  unfolding effect_of
  leave_found L x c base e n l from to ks h o p v =
      let g = left c.loop x.around e n l x.rows from to v.around h in record {
        here = ins (instr.Leave (record { 0 = exit_in e c.loop })) (act_mark from n l false) to x.rows;
        stands = stands_at code starts b same rises x.rows (instr.Leave (record { 0 = exit_in e c.loop })) (act_mark from n l false) from to g.1;
        taken = [];
        rest = ks;
        base = base;
        loop = c.loop;
        is = refl;
        over = o;
        takes = plainly refl;
        value = tt;
        holds = tt;
        fit = v.rows;
        deep = v.deep;
        leaves = λ t is. let same_place : exit_in e c.loop ≡ t = ap leave_of is in (e, subst (λ z. IsExit z c.loop) same_place g.0, sym same_place, p);
        covered = λ row k. k;
        above = over_itself base;
        after = λ ls g. not_both (sym g);
      }

  pub normal_found : (rows : List Handler) (x : Option Loop) (base : StackMap) (from to : ℕ) → Stands code rows instr.Normal None from to
      → RowsFit at base x rows → depth_of x ≤ length base → at to ≡ Some (made to x kinds.Pending ∷ base) → Finds b at W rows base from base
  unfolding effect_of
  normal_found rows x base from to h f d g = record {
    here = ins instr.Normal None to rows;
    stands = stands_at code starts b same rises rows instr.Normal None from to h;
    taken = [];
    rest = base;
    base = base;
    loop = x;
    is = refl;
    over = over_itself base;
    takes = plainly refl;
    value = tt;
    holds = tt;
    fit = f;
    deep = d;
    leaves = λ t e. absurd (false≢true (ap is_leave e));
    covered = λ row k. k;
    above = over_itself base;
    after = λ ls e. g ∙ e;
  }

  pub fit_label : (L : List Target) (x : Context) (c : Setting) (base : StackMap) (t : Target) (p : ℕ) → p ≡ t.pc.0 → Fit L x c base → Fit (t ∷ L) x (with_label p c) base
  fit_label L x c base t p e v = record { places = places; rows = v.rows; depth = v.depth; deep = v.deep; around = v.around }
    where
      places : (k : ℕ) → pick 0 (p ∷ c.labels) k ≡ (pick start_of (t ∷ L) k).pc.0
      places zero = e
      places (suc k) = v.places k

  pub fit_none : (L : List Target) (x : Context) (c : Setting) (base : StackMap) → Fit L x c base → Fit [] x (with_none c) base
  fit_none L x c base v = record { places = λ k. refl; rows = v.rows; depth = v.depth; deep = v.deep; around = v.around }

  pub fit_loop : (L : List Target) (x : Context) (c : Setting) (base : StackMap) (k : ℕ) (q : Piece) (from to : ℕ) → Piece_at code starts (P.looped k q) L x from to
      → Fit L x c base → Fit [] (in_loop (pick start_of L k) to x) (with_loop k (end_of (next_of b) q from) (length base) c) base
  fit_loop L x c base k q from to h v = record {
    places = λ j. refl;
    rows = rows_pass at base c.loop y x.rows passes v.rows;
    depth = v.depth;
    deep = omega arith;
    around = around;
  }
    where
      y : Loop
      y = record { break_to = pick 0 c.labels k; continue_to = end_of (next_of b) q from; depth = length base }

      end : end_of (next_of b) q from ≡ to
      end = ends code starts b same rises q [] (in_loop (pick start_of L k) to x) from to h.2

      passes : (e : Exit) → Passes x.rows (exit_in e (Some y))
      passes Break = subst (Passes x.rows) (sym (v.places k)) h.0
      passes Continue = subst (Passes x.rows) (sym end) h.1

      around : (e : Exit) → exit_in e (Some y) ≡ (exit_of e (record { break_to = pick start_of L k; continue_to = target to x.depth })).pc.0
      around Break = v.places k
      around Continue = end

  pub fit_deeper : (L : List Target) (x : Context) (c : Setting) (base : StackMap) (k : ℕ) (more : StackMap) → Over base more → length more ≡ length base + k
      → Fit L x c base → Fit L (over k x) c more
  fit_deeper L x c base k more o n v = record {
    places = v.places;
    rows = rows_fit_over at c.loop x.rows o v.rows;
    depth = ap (λ m. m + k) v.depth ∙ sym n;
    deep = let i = over_length o in let d = v.deep in omega (arith, i, d);
    around = v.around;
  }

  abbrev laid : (p : Piece) (L : List Target) (x : Context) (c : Setting) (Ls : List (Option StackMap)) (base : StackMap) (from to : ℕ) (s : Option StackMap) → Type 0
  laid p L x c Ls base from to s = Laid code starts b same rises at p L x c Ls base from to s

  abbrev exits_are : (p : Piece) (c : Setting) (base : StackMap) (from : ℕ) (s : Option StackMap) → Type 0
  exits_are p c base from s = ExitsAre b.links (next_of b) W p c base from s

  pub fit_always : (L : List Target) (x : Context) (c : Setting) (Ls : List (Option StackMap)) (base : StackMap) (from to : ℕ) (ks : StackMap) (q : Piece)
      → laid (P.ensured q) L x c Ls base from to (Some ks) → Fit L x c base → Fit [] (under (row_of from to to x.depth true) x) (with_none c) base
  fit_always L x c Ls base from to ks q l v = record {
    places = λ k. refl;
    rows = (
      record {
        loop = c.loop;
        there = target_there code starts b same rises at L x c Ls base from to ks q l
            ∙ ap (λ zs. Some (made to c.loop kinds.Pending ∷ zs)) (sym (lowest_all x.depth base v.depth));
        within = let d = v.depth in omega (arith, d);
        takes = λ t u s. (refl, (let d = v.depth in let e = v.deep in omega (arith, d, e)));
      },
      v.rows,
    );
    depth = v.depth;
    deep = v.deep;
    around = v.around;
  }

  pub fit_except : (L : List Target) (x : Context) (c : Setting) (Ls : List (Option StackMap)) (base : StackMap) (from to : ℕ) (ks : StackMap) (q r : Piece)
      (l : laid (P.caught q r) L x c Ls base from to (Some ks)) → is_empty q ≡ false → Fit L x c base
      → Fit [] (under (row_of from (l.stands).0 to x.depth false) x) (with_none c) base
  fit_except L x c Ls base from to ks q r l e v =
      let f : RowRight at base (row_of from (l.stands).0 to x.depth false) = except_right code starts b same rises at L x c Ls base from to ks q r l v.depth e in record {
        places = λ k. refl;
        rows = (record { loop = f.loop; there = f.there; within = f.within; takes = λ t u s. absurd (false≢true s) }, v.rows);
        depth = v.depth;
        deep = v.deep;
        around = v.around;
      }

  -- the end of what an always row covers
  pub normal_there_found : (L : List Target) (x : Context) (c : Setting) (Ls : List (Option StackMap)) (base : StackMap) (from to : ℕ) (zs : StackMap) (p : Piece)
      (l : laid (P.ensured p) L x c Ls base from to (Some zs)) → Fit L x c base → (q : ℕ) → ((l.stands).1).0 ≤ q → q < to → (ks : StackMap) → at q ≡ Some ks
      → Finds b at W (row_of from to to x.depth true ∷ x.rows) base q ks
  normal_there_found L x c Ls base from to zs p l v q u z ks h =
      let w = fit_always L x c Ls base from to zs p l v in
      let i = at_only q ((l.stands).1).0 (behind b.links (next_of b) p (with_none c) base from (Some zs)) ks (normal_alone code starts b same rises at L x c Ls base from to zs p l q u z) h in
      let e : ks ≡ base = subst (EndsAt base) i.1 (l.typed).2 in
      subst (λ r. Finds b at W (row_of from to to x.depth true ∷ x.rows) base r ks) (sym i.0) (subst (Finds b at W (row_of from to to x.depth true ∷ x.rows) base ((l.stands).1).0) (sym e)
      (normal_found (row_of from to to x.depth true ∷ x.rows) c.loop base ((l.stands).1).0 to ((l.stands).1).2 w.rows v.deep (target_there code starts b same rises at L x c Ls base from to zs p l)))

  -- each place of a piece to which some way comes
  pub finds : (p : Piece) (L : List Target) (x : Context) (c : Setting) (Ls : List (Option StackMap)) (base : StackMap) (from to : ℕ) (s : Option StackMap)
      → laid p L x c Ls base from to s → exits_are p c base from s → Fit L x c base → (q : ℕ) → from ≤ q → q < to → (ks : StackMap) → at q ≡ Some ks
      → Finds b at W x.rows base q ks
  finds p L x c Ls base from to None l n v q y z ks h = not_both (sym h ∙ (l.agrees q y z ∙ nothing_at b.links (next_of b) p c base from q))
  finds P.empty L x c Ls base from to (Some zs) l n v q y z ks h = absurd (let g : from ≡ to = l.stands in let e : ⊥ = omega (arith, g, y, z) in e)
  finds (P.act op m k g) L x c Ls base from to (Some zs) l n v q y z ks h =
      let i = l.stands in
      let u = at_only q from (Some zs) ks (l.agrees q y z) h in
      subst (λ r. Finds b at W x.rows base r ks) (sym u.0)
      (found op L x c Ls base from to _ i.0 ks i.1 i.2 (subst (Fires b.links op c.loop Ls base) (is_some_of u.1) l.typed) n v
      (subst (λ w. (ls : StackMap) → behind_op b.links op (next_of b from) c.loop (Some w) ≡ Some ls → at to ≡ Some ls) (is_some_of u.1) l.after))
  finds (P.move op) L x c Ls base from to (Some zs) l n v q y z ks h =
      let i = l.stands in
      let u = at_only q from (Some zs) ks (l.agrees q y z) h in
      subst (λ r. Finds b at W x.rows base r ks) (sym u.0)
      (found op L x c Ls base from to _ i.0 ks i.1 i.2 (subst (Fires b.links op c.loop Ls base) (is_some_of u.1) l.typed) n v
      (subst (λ w. (ls : StackMap) → behind_op b.links op (next_of b from) c.loop (Some w) ≡ Some ls → at to ≡ Some ls) (is_some_of u.1) l.after))
  finds (P.seq a d) L x c Ls base from to (Some zs) l n v q y z ks h =
      let later = second code starts b same rises at L x c Ls base from to zs a d l in
      ⊎_elim (λ u. finds a L x c Ls base from (l.stands).0 (Some zs) (first code starts b same rises at L x c Ls base from to zs a d l
      (λ ls e. begins code starts b same rises at d L x c Ls base (l.stands).0 to ls (subst (λ s. laid d L x c Ls base (l.stands).0 to s) e later))) n.0 v q y u ks h)
      (λ u. finds d L x c Ls base (l.stands).0 to (behind b.links (next_of b) a c base from (Some zs)) later
      (subst (λ m. exits_are d c base m (behind b.links (next_of b) a c base from (Some zs))) (ends code starts b same rises a L x from (l.stands).0 (l.stands).1) n.1)
      v q u z ks h) (cases_lt q (l.stands).0)
  finds (P.block p) L x c Ls base from to (Some zs) l n v q y z ks h =
      finds p (target to x.depth ∷ L) x (with_label (end_of (next_of b) p from) c) (behind b.links (next_of b) (P.block p) c base from (Some zs) ∷ Ls) base from to (Some zs)
      (in_block code starts b same rises at L x c Ls base from to zs p l) n
      (fit_label L x c base (target to x.depth) (end_of (next_of b) p from) (ends code starts b same rises p (target to x.depth ∷ L) x from to l.stands) v) q y z ks h
  finds (P.headed p) L x c Ls base from to (Some zs) l n v q y z ks h =
      finds p (target from x.depth ∷ L) x (with_label from c) (Some zs ∷ Ls) base from to (Some zs) (in_head code starts b same rises at L x c Ls base from to zs p l) n
      (fit_label L x c base (target from x.depth) from refl v) q y z ks h
  finds (P.closed p) L x c Ls base from to (Some zs) l n v q y z ks h =
      finds p [] x (with_none c) [] base from to (Some zs) (in_closed code starts b same rises at L x c Ls base from to zs p l) n (fit_none L x c base v) q y z ks h
  finds (P.looped k p) L x c Ls base from to (Some zs) l n v q y z ks h =
      finds p [] (in_loop (pick start_of L k) to x) (with_loop k (end_of (next_of b) p from) (length base) c) [] base from to (Some zs)
      (in_a_loop code starts b same rises at L x c Ls base from to zs k p l) n (fit_loop L x c base k p from to l.stands v) q y z ks h
  finds (P.leave e m k) L x c Ls base from to (Some zs) l n v q y z ks h =
      let u = at_only q from (Some zs) ks (l.agrees q y z) h in
      subst (λ r. Finds b at W x.rows base r ks) (sym u.0)
      (leave_found L x c base e m k from to ks l.stands (subst (Over base) (is_some_of u.1) l.typed) n v)
  finds (P.ensured p) L x c Ls base from to (Some zs) l n v q y z ks h =
      let w = fit_always L x c Ls base from to zs p l v in
      more_rows (λ r g. (suc g.0, (let i = g.1 in omega (arith, i)), g.2)) (over_itself base)
      (⊎_elim (λ u. finds p [] (under (row_of from to to x.depth true) x) (with_none c) [] base from ((l.stands).1).0 (Some zs)
      (under_row code starts b same rises at L x c Ls base from to zs p l) n w q y u ks h)
      (λ u. normal_there_found L x c Ls base from to zs p l v q u z ks h) (cases_lt q ((l.stands).1).0))
  finds (P.caught p r) L x c Ls base from to (Some zs) l n v q y z ks h =
      let later = behind_row code starts b same rises at L x c Ls base from to zs p r l in
      ⊎_elim (λ u. more_rows (λ r g. (suc g.0, (let i = g.1 in omega (arith, i)), g.2)) (over_itself base)
      (finds p [] (under (row_of from (l.stands).0 to x.depth false) x) (with_none c) [] base from (l.stands).0 (Some zs)
      (under_except code starts b same rises at L x c Ls base from to zs p r l
      (λ ls f. begins code starts b same rises at r L x c Ls base (l.stands).0 to ls (subst (λ s. laid r L x c Ls base (l.stands).0 to s) f later))) n.0
      (fit_except L x c Ls base from to zs p r l (not_empty code starts b same rises p [] (under (row_of from (l.stands).0 to x.depth false) x) from (l.stands).0 (l.stands).1 q y u) v)
      q y u ks h))
      (λ u. finds r L x c Ls base (l.stands).0 to (behind b.links (next_of b) p (with_none c) base from (Some zs)) later
      (subst (λ m. exits_are r c base m (behind b.links (next_of b) p (with_none c) base from (Some zs)))
      (ends code starts b same rises p [] (under (row_of from (l.stands).0 to x.depth false) x) from (l.stands).0 (l.stands).1) n.1)
      v q u z ks h) (cases_lt q (l.stands).0)
  finds (P.deeper k p) L x c Ls base from to (Some zs) l n v q y z ks h =
      let o : Over base (deepened k base (Some zs)) = (l.typed).0 in
      more_rows (λ r g. g) o
      (finds p L (over k x) c Ls (deepened k base (Some zs)) from to (Some zs) (deep code starts b same rises at L x c Ls base from to zs k p l) n
      (fit_deeper L x c base k (deepened k base (Some zs)) o (l.typed).2 v) q y z ks h)
  finds (P.started k p) L x c Ls base from to (Some zs) l n v q y z ks h =
      finds p L x c Ls base from to (Some zs) (at_start code starts b same rises at L x c Ls base from to zs k p l) n v q y z ks h
  finds (P.numbered k p) L x c Ls base from to (Some zs) l n v q y z ks h =
      finds p L x c Ls base from to (Some zs) (in_count code starts b same rises at L x c Ls base from to zs k p l) n v q y z ks h
