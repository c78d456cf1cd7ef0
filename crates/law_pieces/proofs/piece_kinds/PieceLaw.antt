-- The walk over a piece that is laid out is right: each step from a place in it leads to the slots of its place.
use Rattle.std.proofs.Common.{◌≡◌, ◌⊎◌, inl, inr, ⊎_elim, ℕ, ◌+◌, ◌-◌, ◌≤◌, ◌<◌, zero, suc, Bool, true, false, ◌&&◌, if◌then◌else◌, nat_eq, nat_lt, List, [], ◌∷◌, ◌++◌, length, Contains, Option, Some, None, refl, sym, ap, ◌∙◌, subst, arith, eq-eqb, eqb-true, lt-ltb, le-ltb}
use Rattle.std.proofs.lemmas.Bool.{false≢true, true≢false, cases_lt}
use Rattle.pt_instr.specs.declared.Instr.{Instr}
use Rattle.pt_instr.specs.declared.Instr.TheVariants as instr
use Rattle.pt_instr.specs.declared.kinds.Kind.TheVariants as kinds
use Rattle.pt_instr.specs.Effects.{effect_of}
use Rattle.pt_ranges.specs.declared.lines.ActMark.{ActMark}
use Rattle.pt_ranges.specs.declared.handlers.Handler.{Handler}
use Rattle.pt_code.specs.declared.Start.{Start}
use Rattle.sem_code.specs.slots.CodeObject.{Pool, CodeObject}
use Rattle.sem_code.specs.slots.Stretches.{Stands, ins, act_mark}
use Rattle.pt_assembler.specs.declared.operation.Jump.{Jump}
use Rattle.pt_assembler.specs.declared.operation.Jump.TheVariants.{AtEnd, Always, IfTrue, IfFalse, IfTrueKeep, IfFalseKeep, Leave}
use Rattle.pt_assembler.specs.declared.operation.FreeUse.{FreeUse}
use Rattle.pt_assembler.specs.declared.operation.FreeUse.TheVariants.{Load, Store, Delete, Renew, Push}
use Rattle.pt_assembler.specs.declared.operation.Target.{Target}
use Rattle.pt_assembler.specs.declared.operation.Exit.{Exit}
use Rattle.pt_assembler.specs.Piece as P
use Rattle.pt_assembler.specs.Piece.{Op, Piece, pick}
use Rattle.pt_assembler.specs.PieceAt.{instr_to, instr_of_free, target, start_of, Is, Exits, Context, in_loop, under, over, row_of, Exit_at, Piece_at}
use Rattle.sem_fits.specs.fits.Block.{Links, Block, effect}
use Rattle.sem_fits.specs.fits.Steps.{Step, steps, target_of}
use Rattle.sem_code.specs.slots.Slots.{or_else}
use Rattle.law_pieces.specs.piece_kinds.Walk.{StackMap, kinds_of, made, instr_of, given_at, onward, behind_op, aside_op, to_one, is_empty, deepened, Setting, with_label, with_none, with_loop, end_of, flow, behind, slots_at}
use Rattle.law_pieces.specs.piece_kinds.Typed.{Over, Takes, IsUniform, Lands, Fires, Typed}
use Rattle.law_pieces.specs.piece_kinds.Typed as typed
use Rattle.law_pieces.specs.piece_kinds.Table.{next_in, next_of, Rises, Table, Follows}
use Rattle.law_pieces.specs.piece_kinds.Laws.{outermost, table_of, WalkIsRight}
use Rattle.law_pieces.proofs.piece_kinds.ListLemmas.{over_itself, lowest_all}
use Rattle.law_pieces.proofs.piece_kinds.StepLemmas.{RowRight, RowsRight, rows_over, each_right}

-- an operand doesn't matter

free_same : (links : Links) (u : FreeUse) (i : ℕ) → effect links (instr_of_free u i) ≡ effect links (instr_of_free u 0)
unfolding effect_of
free_same links Load i = refl
free_same links Store i = refl
free_same links Delete i = refl
free_same links Renew i = refl
free_same links Push i = refl

to_same : (links : Links) (k : Jump) (p : ℕ) → effect links (instr_to k p) ≡ effect links (instr_to k 0)
unfolding effect_of
to_same links AtEnd p = refl
to_same links Always p = refl
to_same links IfTrue p = refl
to_same links IfFalse p = refl
to_same links IfTrueKeep p = refl
to_same links IfFalseKeep p = refl
to_same links Leave p = refl

pub same_effect : (links : Links) (pool : Pool) (L : List Target) (op : Op) (j : Instr) → Is pool L op j → IsUniform links op → effect links j ≡ effect links (instr_of op)
unfolding effect_of
same_effect links pool L (P.plain i) j e u = ap (effect links) e
same_effect links pool L P.never j e u = absurd e
same_effect links pool L (P.const k) j (c, e, f) u = ap (effect links) e
same_effect links pool L (P.with_local g x) j (i, e, f) u = ap (effect links) e ∙ u i
same_effect links pool L (P.with_cell g x) j (i, e, f) u = ap (effect links) e ∙ u i
same_effect links pool L (P.with_free w x) j (i, e, f) u = ap (effect links) e ∙ free_same links w i
same_effect links pool L (P.with_text g x) j (t, e, f) u = ap (effect links) e ∙ u t
same_effect links pool L (P.with_list g xs) j (l, e, f) u = ap (effect links) e ∙ u l
same_effect links pool L (P.to k l) j e u = ap (effect links) e ∙ to_same links k (pick start_of L l).pc.0

pub not_both : {A : Type 0} {C : Type 0} {a : A} → Some a ≡ None → C
not_both e = absurd (let h : ⊥ = cc in h)

pub is_some_of : {A : Type 0} {a c : A} → Some a ≡ Some c → a ≡ c
is_some_of e = cc

pub target_to : (k : Jump) (p t : ℕ) → target_of (instr_to k p) ≡ Some t → t ≡ p
target_to AtEnd p t e = sym (is_some_of e)
target_to Always p t e = sym (is_some_of e)
target_to IfTrue p t e = sym (is_some_of e)
target_to IfFalse p t e = sym (is_some_of e)
target_to IfTrueKeep p t e = sym (is_some_of e)
target_to IfFalseKeep p t e = sym (is_some_of e)
target_to Leave p t e = absurd (let h : ⊥ = cc in h)

landed_label : (at : Table) (pool : Pool) (L : List Target) (Ls : List (Option StackMap)) (op : Op) (j : Instr) (t : ℕ) (slots : StackMap)
    → ((l : ℕ) (ks : StackMap) → pick None Ls l ≡ Some ks → at (pick start_of L l).pc.0 ≡ Some ks)
    → Is pool L op j → Lands op Ls (Some slots) → target_of j ≡ Some t → at t ≡ Some slots
landed_label at pool L Ls (P.to k l) j t slots f e h tg = ap at (target_to k (pick start_of L l).pc.0 t (ap target_of (sym e) ∙ tg)) ∙ f l slots h
landed_label at pool L Ls (P.plain i) j t slots f e h tg = absurd h
landed_label at pool L Ls P.never j t slots f e h tg = absurd h
landed_label at pool L Ls (P.const k) j t slots f e h tg = absurd h
landed_label at pool L Ls (P.with_local g x) j t slots f e h tg = absurd h
landed_label at pool L Ls (P.with_cell g x) j t slots f e h tg = absurd h
landed_label at pool L Ls (P.with_free w x) j t slots f e h tg = absurd h
landed_label at pool L Ls (P.with_text g x) j t slots f e h tg = absurd h
landed_label at pool L Ls (P.with_list g xs) j t slots f e h tg = absurd h

pub if_lt : {A : Type 0} (q e m : ℕ) (u v : A) → e ≡ m → q < m → (if nat_lt q e then u else v) ≡ u
if_lt q e m u v same l = ap (λ t. if t then u else v) (ap (nat_lt q) same ∙ lt-ltb q m l)

pub if_ge : {A : Type 0} (q e m : ℕ) (u v : A) → e ≡ m → m ≤ q → (if nat_lt q e then u else v) ≡ v
if_ge q e m u v same l = ap (λ t. if t then u else v) (ap (nat_lt q) same ∙ le-ltb q m l)

pub if_eq : {A : Type 0} (q e m : ℕ) (u v : A) → e ≡ m → q ≡ m → (if nat_eq q e then u else v) ≡ u
if_eq q e m u v same l = ap (λ t. if t then u else v) (ap (nat_eq q) same ∙ eq-eqb q m l)

pub if_none : (t : Bool) (u v : Option StackMap) → u ≡ None → v ≡ None → (if t then u else v) ≡ None
if_none true u v e f = e
if_none false u v e f = f

pub one_none : (op : Op) (k : ℕ) → to_one op None k ≡ None
one_none (P.to j l) k = if_none (nat_eq l k) None None refl refl
one_none (P.plain i) k = refl
one_none P.never k = refl
one_none (P.const c) k = refl
one_none (P.with_local g x) k = refl
one_none (P.with_cell g x) k = refl
one_none (P.with_free w x) k = refl
one_none (P.with_text g x) k = refl
one_none (P.with_list g xs) k = refl

module _ (links : Links) (next : ℕ → ℕ) where
  -- where no way comes, none goes on
  pub record Nothing (q : Piece) (c : Setting) (base : StackMap) (from : ℕ) : Type 0 where
    pub behind : behind links next q c base from None ≡ None
    pub sent : (k : ℕ) → (let f = flow links next q c base from None in f.sent k) ≡ None

  pub nothing : (q : Piece) (c : Setting) (base : StackMap) (from : ℕ) → Nothing q c base from
  nothing P.empty c base p = record { behind = refl; sent = λ k. refl }
  nothing (P.act op n l g) c base p = record { behind = refl; sent = one_none op }
  nothing (P.move op) c base p = record { behind = refl; sent = one_none op }
  nothing (P.seq a d) c base p =
      let u = nothing a c base p in
      let v = nothing d c base (end_of next a p) in record {
        behind = ap (λ s. behind links next d c base (end_of next a p) s) u.behind ∙ v.behind;
        sent = λ k. ap (λ s. or_else (let f = flow links next a c base p None in f.sent k) (let f = flow links next d c base (end_of next a p) s in f.sent k)) u.behind
            ∙ (ap (λ o. or_else o (let f = flow links next d c base (end_of next a p) None in f.sent k)) (u.sent k) ∙ v.sent k);
      }
  nothing (P.block q) c base p =
      let u = nothing q (with_label (end_of next q p) c) base p in
      record {
        behind = ap (λ o. or_else o (let f = flow links next q (with_label (end_of next q p) c) base p None in f.sent 0)) u.behind ∙ u.sent 0;
        sent = λ k. u.sent (suc k);
      }
  nothing (P.headed q) c base p = let u = nothing q (with_label p c) base p in record { behind = u.behind; sent = λ k. u.sent (suc k) }
  nothing (P.closed q) c base p = let u = nothing q (with_none c) base p in record { behind = u.behind; sent = λ k. refl }
  nothing (P.looped b q) c base p = let u = nothing q (with_loop b (end_of next q p) (length base) c) base p in record { behind = u.behind; sent = λ k. refl }
  nothing (P.leave e n l) c base p = record { behind = refl; sent = λ k. refl }
  nothing (P.ensured q) c base p = record { behind = refl; sent = λ k. refl }
  nothing (P.caught q r) c base p =
      let u = nothing q (with_none c) base p in
      let v = nothing r c base (end_of next q p) in record {
        behind = if_none (is_empty q) None None refl refl;
        sent = λ k. ap (λ s. let f = flow links next r c base (end_of next q p) s in f.sent k) u.behind ∙ v.sent k;
      }
  nothing (P.deeper k q) c base p = let u = nothing q c base p in record { behind = u.behind; sent = u.sent }
  nothing (P.started l q) c base p = let u = nothing q c base p in record { behind = u.behind; sent = u.sent }
  nothing (P.numbered n q) c base p = let u = nothing q c base p in record { behind = u.behind; sent = u.sent }

  pub nothing_at : (q : Piece) (c : Setting) (base : StackMap) (from pc : ℕ) → slots_at links next q c base from None pc ≡ None
  nothing_at P.empty c base p pc = refl
  nothing_at (P.act op n l g) c base p pc = if_none (nat_eq pc p) None None refl refl
  nothing_at (P.move op) c base p pc = if_none (nat_eq pc p) None None refl refl
  nothing_at (P.seq a d) c base p pc =
      let u = nothing a c base p in
      if_none (nat_lt pc (end_of next a p)) _ _ (nothing_at a c base p pc)
      (ap (λ s. slots_at links next d c base (end_of next a p) s pc) u.behind ∙ nothing_at d c base (end_of next a p) pc)
  nothing_at (P.block q) c base p pc = nothing_at q (with_label (end_of next q p) c) base p pc
  nothing_at (P.headed q) c base p pc = nothing_at q (with_label p c) base p pc
  nothing_at (P.closed q) c base p pc = nothing_at q (with_none c) base p pc
  nothing_at (P.looped b q) c base p pc = nothing_at q (with_loop b (end_of next q p) (length base) c) base p pc
  nothing_at (P.leave e n l) c base p pc = if_none (nat_eq pc p) None None refl refl
  nothing_at (P.ensured q) c base p pc =
      let u = nothing q (with_none c) base p in
      if_none (nat_lt pc (end_of next q p)) _ _ (nothing_at q (with_none c) base p pc) (if_none (nat_eq pc (end_of next q p)) _ None u.behind refl)
  nothing_at (P.caught q r) c base p pc =
      let u = nothing q (with_none c) base p in
      if_none (nat_lt pc (end_of next q p)) _ _ (nothing_at q (with_none c) base p pc)
      (ap (λ s. slots_at links next r c base (end_of next q p) s pc) u.behind ∙ nothing_at r c base (end_of next q p) pc)
  nothing_at (P.deeper k q) c base p pc = nothing_at q c base p pc
  nothing_at (P.started l q) c base p pc = nothing_at q c base p pc
  nothing_at (P.numbered n q) c base p pc = nothing_at q c base p pc

module _ {V : Type 0} (code : CodeObject V) (starts : List Start) (b : Block) (same : (pc : ℕ) → code.at pc ≡ b.at pc) (rises : Rises b) where
  abbrev next : ℕ → ℕ
  next = next_of b

  pub stands_at : (rows : List Handler) (j : Instr) (m : Option ActMark) (from to : ℕ) → Stands code rows j m from to → b.at from ≡ Some (ins j m to rows)
  stands_at rows j m from to h = sym (same from) ∙ h

  pub next_is : (rows : List Handler) (j : Instr) (m : Option ActMark) (from to : ℕ) → Stands code rows j m from to → next_of b from ≡ to
  next_is rows j m from to h = ap (λ o. next_in o from) (stands_at rows j m from to h)

  pub rises_to : (rows : List Handler) (j : Instr) (m : Option ActMark) (from to : ℕ) → Stands code rows j m from to → from < to
  rises_to rows j m from to h = rises from (ins j m to rows) (stands_at rows j m from to h)

  pub leave_stands : (o : Option Exits) (e : Exit) (n l : ℕ) (rows : List Handler) (from to : ℕ) → Exit_at code starts o e n l rows from to
      → (t : ℕ) × Stands code rows (instr.Leave (record { 0 = t })) (act_mark from n l false) from to
  leave_stands None e n l rows from to h = absurd h
  leave_stands (Some x) e n l rows from to h = (_, h.1)

  pub ends : (p : Piece) (L : List Target) (x : Context) (from to : ℕ) → Piece_at code starts p L x from to → end_of next p from ≡ to
  ends P.empty L x from to h = h
  ends (P.act op n l g) L x from to (j, i, h) = next_is x.rows j _ from to h
  ends (P.move op) L x from to (j, i, h) = next_is x.rows j _ from to h
  ends (P.seq a d) L x from to (m, ha, hd) = ap (end_of next d) (ends a L x from m ha) ∙ ends d L x m to hd
  ends (P.block q) L x from to h = ends q (target to x.depth ∷ L) x from to h
  ends (P.headed q) L x from to h = ends q (target from x.depth ∷ L) x from to h
  ends (P.closed q) L x from to h = ends q [] x from to h
  ends (P.looped k q) L x from to (u, v, h) = ends q [] (in_loop (pick start_of L k) to x) from to h
  ends (P.leave e n l) L x from to h = let (t, s) = leave_stands x.around e n l x.rows from to h in next_is x.rows _ _ from to s
  ends (P.ensured q) L x from to (u, (m, h, s)) =
      ap next (ends q [] (under (row_of from to to x.depth true) x) from m h) ∙ next_is (row_of from to to x.depth true ∷ x.rows) instr.Normal None m to s
  ends (P.caught q r) L x from to (m, h, g) = ap (end_of next r) (ends q [] (under (row_of from m to x.depth false) x) from m h) ∙ ends r L x m to g
  ends (P.deeper k q) L x from to h = ends q L (over k x) from to h
  ends (P.started l q) L x from to (u, h) = ends q L x from to h
  ends (P.numbered n q) L x from to h = ends q L x from to h

  pub ordered : (p : Piece) (L : List Target) (x : Context) (from to : ℕ) → Piece_at code starts p L x from to → from ≤ to
  ordered P.empty L x from to h = subst (λ t. from ≤ t) h (omega arith)
  ordered (P.act op n l g) L x from to (j, i, h) = let r = rises_to x.rows j _ from to h in omega (arith, r)
  ordered (P.move op) L x from to (j, i, h) = let r = rises_to x.rows j _ from to h in omega (arith, r)
  ordered (P.seq a d) L x from to (m, ha, hd) = let r = ordered a L x from m ha in let s = ordered d L x m to hd in omega (arith, r, s)
  ordered (P.block q) L x from to h = ordered q (target to x.depth ∷ L) x from to h
  ordered (P.headed q) L x from to h = ordered q (target from x.depth ∷ L) x from to h
  ordered (P.closed q) L x from to h = ordered q [] x from to h
  ordered (P.looped k q) L x from to (u, v, h) = ordered q [] (in_loop (pick start_of L k) to x) from to h
  ordered (P.leave e n l) L x from to h = let (t, s) = leave_stands x.around e n l x.rows from to h in let r = rises_to x.rows _ _ from to s in omega (arith, r)
  ordered (P.ensured q) L x from to (u, (m, h, s)) =
      let r = ordered q [] (under (row_of from to to x.depth true) x) from m h in
      let t = rises_to (row_of from to to x.depth true ∷ x.rows) instr.Normal None m to s in omega (arith, r, t)
  ordered (P.caught q r) L x from to (m, h, g) =
      let s = ordered q [] (under (row_of from m to x.depth false) x) from m h in
      let t = ordered r L x m to g in omega (arith, s, t)
  ordered (P.deeper k q) L x from to h = ordered q L (over k x) from to h
  ordered (P.started l q) L x from to (u, h) = ordered q L x from to h
  ordered (P.numbered n q) L x from to h = ordered q L x from to h

  both_true : (s t : Bool) → (s && t) ≡ true → (s ≡ true) × (t ≡ true)
  both_true true t e = (refl, e)
  both_true false t e = absurd (false≢true e)

  -- a piece without instructions has no place
  pub empty_is : (p : Piece) (L : List Target) (x : Context) (from to : ℕ) → Piece_at code starts p L x from to → is_empty p ≡ true → from ≡ to
  empty_is P.empty L x from to h e = h
  empty_is (P.act op n l g) L x from to h e = absurd (false≢true e)
  empty_is (P.move op) L x from to h e = absurd (false≢true e)
  empty_is (P.seq a d) L x from to (m, ha, hd) e = let (f, g) = both_true (is_empty a) (is_empty d) e in empty_is a L x from m ha f ∙ empty_is d L x m to hd g
  empty_is (P.block q) L x from to h e = empty_is q (target to x.depth ∷ L) x from to h e
  empty_is (P.headed q) L x from to h e = empty_is q (target from x.depth ∷ L) x from to h e
  empty_is (P.closed q) L x from to h e = empty_is q [] x from to h e
  empty_is (P.looped k q) L x from to (u, v, h) e = empty_is q [] (in_loop (pick start_of L k) to x) from to h e
  empty_is (P.leave y n l) L x from to h e = absurd (false≢true e)
  empty_is (P.ensured q) L x from to h e = absurd (false≢true e)
  empty_is (P.caught q r) L x from to (m, h, g) e =
      let (f, k) = both_true (is_empty q) (is_empty r) e in empty_is q [] (under (row_of from m to x.depth false) x) from m h f ∙ empty_is r L x m to g k
  empty_is (P.deeper k q) L x from to h e = empty_is q L (over k x) from to h e
  empty_is (P.started l q) L x from to (u, h) e = empty_is q L x from to h e
  empty_is (P.numbered n q) L x from to h e = empty_is q L x from to h e

  -- a piece in which a place lies has instructions
  pub not_empty : (p : Piece) (L : List Target) (x : Context) (from to : ℕ) → Piece_at code starts p L x from to → (q : ℕ) → from ≤ q → q < to → is_empty p ≡ false
  not_empty p L x from to h q u v = by (is_empty p) refl
    where
      by : (t : Bool) → is_empty p ≡ t → t ≡ false
      by true e = absurd (let f = empty_is p L x from to h e in let g : ⊥ = omega (arith, f, u, v) in g)
      by false e = refl

  -- a piece that isn't empty has a place
  pub has_place : (p : Piece) (L : List Target) (x : Context) (from to : ℕ) → Piece_at code starts p L x from to → is_empty p ≡ false → from < to
  has_place P.empty L x from to h e = absurd (true≢false e)
  has_place (P.act op n l g) L x from to (j, i, h) e = rises_to x.rows j _ from to h
  has_place (P.move op) L x from to (j, i, h) e = rises_to x.rows j _ from to h
  has_place (P.seq a d) L x from to (m, ha, hd) e = by (λ f. has_place a L x from m ha f) (λ f. has_place d L x m to hd f) (is_empty a) refl
    where
      by : (is_empty a ≡ false → from < m) → (is_empty d ≡ false → m < to) → (t : Bool) → is_empty a ≡ t → from < to
      by u w true f = let g = w (ap (λ t. t && is_empty d) (sym f) ∙ e) in let r = ordered a L x from m ha in omega (arith, g, r)
      by u w false f = let g = u f in let r = ordered d L x m to hd in omega (arith, g, r)
  has_place (P.block q) L x from to h e = has_place q (target to x.depth ∷ L) x from to h e
  has_place (P.headed q) L x from to h e = has_place q (target from x.depth ∷ L) x from to h e
  has_place (P.closed q) L x from to h e = has_place q [] x from to h e
  has_place (P.looped k q) L x from to (u, v, h) e = has_place q [] (in_loop (pick start_of L k) to x) from to h e
  has_place (P.leave y n l) L x from to h e =
      let (t, s) = leave_stands x.around y n l x.rows from to h in rises_to x.rows _ _ from to s
  has_place (P.ensured q) L x from to (u, (m, h, s)) e =
      let r = ordered q [] (under (row_of from to to x.depth true) x) from m h in
      let t = rises_to (row_of from to to x.depth true ∷ x.rows) _ None m to s in omega (arith, r, t)
  has_place (P.caught q r) L x from to (m, h, g) e =
      by (λ f. has_place q [] (under (row_of from m to x.depth false) x) from m h f) (λ f. has_place r L x m to g f) (is_empty q) refl
    where
      by : (is_empty q ≡ false → from < m) → (is_empty r ≡ false → m < to) → (t : Bool) → is_empty q ≡ t → from < to
      by u w true f =
          let z = w (ap (λ t. t && is_empty r) (sym f) ∙ e) in
          let y = ordered q [] (under (row_of from m to x.depth false) x) from m h in omega (arith, z, y)
      by u w false f = let z = u f in let y = ordered r L x m to g in omega (arith, z, y)
  has_place (P.deeper k q) L x from to h e = has_place q L (over k x) from to h e
  has_place (P.started l q) L x from to (u, h) e = has_place q L x from to h e
  has_place (P.numbered n q) L x from to h e = has_place q L x from to h e

  away : (q from to : ℕ) (o : Option StackMap) → from < to → to ≤ q → (if nat_eq q from then o else None) ≡ None
  away q from to o u v = by (nat_eq q from) refl
    where
      by : (t : Bool) → nat_eq q from ≡ t → (if t then o else None) ≡ None
      by true e = absurd (let h = eqb-true q from e in let f : ⊥ = omega (arith, h, u, v) in f)
      by false e = refl

  -- behind its end a piece has no slots
  pub nowhere : (p : Piece) (L : List Target) (x : Context) (c : Setting) (base : StackMap) (from to : ℕ) (s : Option StackMap)
      → Piece_at code starts p L x from to → (q : ℕ) → to ≤ q → slots_at b.links next p c base from s q ≡ None
  nowhere P.empty L x c base from to s h q v = refl
  nowhere (P.act op n l g) L x c base from to s (j, i, h) q v = away q from to s (rises_to x.rows j _ from to h) v
  nowhere (P.move op) L x c base from to s (j, i, h) q v = away q from to s (rises_to x.rows j _ from to h) v
  nowhere (P.seq a d) L x c base from to s (m, ha, hd) q v =
      let e = ends a L x from m ha in
      if_ge q (end_of next a from) m _ _ e (let r = ordered d L x m to hd in omega (arith, r, v))
      ∙ (ap (λ z. slots_at b.links next d c base z (behind b.links next a c base from s) q) e ∙ nowhere d L x c base m to (behind b.links next a c base from s) hd q v)
  nowhere (P.block p) L x c base from to s h q v = nowhere p (target to x.depth ∷ L) x (with_label (end_of next p from) c) base from to s h q v
  nowhere (P.headed p) L x c base from to s h q v = nowhere p (target from x.depth ∷ L) x (with_label from c) base from to s h q v
  nowhere (P.closed p) L x c base from to s h q v = nowhere p [] x (with_none c) base from to s h q v
  nowhere (P.looped k p) L x c base from to s (u, w, h) q v =
      nowhere p [] (in_loop (pick start_of L k) to x) (with_loop k (end_of next p from) (length base) c) base from to s h q v
  nowhere (P.leave e n l) L x c base from to s h q v =
      let (t, g) = leave_stands x.around e n l x.rows from to h in away q from to s (rises_to x.rows _ _ from to g) v
  nowhere (P.ensured p) L x c base from to s (u, (m, h, g)) q v =
      let row : Handler = row_of from to to x.depth true in
      let e = ends p [] (under row x) from m h in
      let r = rises_to (row ∷ x.rows) instr.Normal None m to g in
      if_ge q (end_of next p from) m _ _ e (omega (arith, r, v))
      ∙ (ap (λ z. if nat_eq q z then behind b.links next p (with_none c) base from s else None) e ∙ away q m to (behind b.links next p (with_none c) base from s) r v)
  nowhere (P.caught p r) L x c base from to s (m, h, g) q v =
      let e = ends p [] (under (row_of from m to x.depth false) x) from m h in
      if_ge q (end_of next p from) m _ _ e (let o = ordered r L x m to g in omega (arith, o, v))
      ∙ (ap (λ z. slots_at b.links next r c base z (behind b.links next p (with_none c) base from s) q) e
      ∙ nowhere r L x c base m to (behind b.links next p (with_none c) base from s) g q v)
  nowhere (P.deeper k p) L x c base from to s h q v = nowhere p L (over k x) c (deepened k base s) from to s h q v
  nowhere (P.started k p) L x c base from to s (u, h) q v = nowhere p L x c base from to s h q v
  nowhere (P.numbered k p) L x c base from to s h q v = nowhere p L x c base from to s h q v

  module _ (at : Table) where
    -- a piece that is laid out and typed, of which the table has the slots
    pub record Laid (p : Piece) (L : List Target) (x : Context) (c : Setting) (Ls : List (Option StackMap)) (base : StackMap) (from to : ℕ) (s : Option StackMap)
        : Type 0 where
      pub stands : Piece_at code starts p L x from to
      pub typed : Typed b.links next p c Ls base from s
      pub agrees : (q : ℕ) → from ≤ q → q < to → at q ≡ slots_at b.links next p c base from s q
      pub after : (ks : StackMap) → behind b.links next p c base from s ≡ Some ks → at to ≡ Some ks

    module _ (L : List Target) (x : Context) (c : Setting) (Ls : List (Option StackMap)) (base : StackMap) (from to : ℕ) (ks : StackMap) where
      abbrev pub After : ℕ → Option StackMap → Type 0
      After m o = (ls : StackMap) → o ≡ Some ls → at m ≡ Some ls

      pub first : (a d : Piece) (l : Laid (P.seq a d) L x c Ls base from to (Some ks))
          → After (l.stands).0 (behind b.links next a c base from (Some ks)) → Laid a L x c Ls base from (l.stands).0 (Some ks)
      first a d l f =
          let h = l.stands in record {
            stands = h.1;
            typed = (l.typed).0;
            agrees = λ q u v. l.agrees q u (let r = ordered d L x h.0 to h.2 in omega (arith, v, r)) ∙ if_lt q (end_of next a from) h.0 _ _ (ends a L x from h.0 h.1) v;
            after = f;
          }

      pub second : (a d : Piece) (l : Laid (P.seq a d) L x c Ls base from to (Some ks))
          → Laid d L x c Ls base (l.stands).0 to (behind b.links next a c base from (Some ks))
      second a d l =
          let h = l.stands in
          let e = ends a L x from h.0 h.1 in record {
            stands = h.2;
            typed = subst (λ m. Typed b.links next d c Ls base m (behind b.links next a c base from (Some ks))) e (l.typed).1;
            agrees = λ q u v. l.agrees q (let r = ordered a L x from h.0 h.1 in omega (arith, u, r)) v
                ∙ (if_ge q (end_of next a from) h.0 _ _ e u ∙ ap (λ m. slots_at b.links next d c base m (behind b.links next a c base from (Some ks)) q) e);
            after = λ ls g. l.after ls (ap (λ m. behind b.links next d c base m (behind b.links next a c base from (Some ks))) e ∙ g);
          }

      pub in_block : (q : Piece) → Laid (P.block q) L x c Ls base from to (Some ks)
          → Laid q (target to x.depth ∷ L) x (with_label (end_of next q from) c) (behind b.links next (P.block q) c base from (Some ks) ∷ Ls) base from to (Some ks)
      in_block q l = record {
        stands = l.stands;
        typed = l.typed;
        agrees = l.agrees;
        after = λ ls e. l.after ls (ap (λ o. or_else o (let f = flow b.links next q (with_label (end_of next q from) c) base from (Some ks) in f.sent 0)) e);
      }

      pub in_head : (q : Piece) → Laid (P.headed q) L x c Ls base from to (Some ks)
          → Laid q (target from x.depth ∷ L) x (with_label from c) (Some ks ∷ Ls) base from to (Some ks)
      in_head q l = record { stands = l.stands; typed = l.typed; agrees = l.agrees; after = l.after }

      pub in_closed : (q : Piece) → Laid (P.closed q) L x c Ls base from to (Some ks) → Laid q [] x (with_none c) [] base from to (Some ks)
      in_closed q l = record { stands = l.stands; typed = l.typed; agrees = l.agrees; after = l.after }

      pub in_a_loop : (k : ℕ) (q : Piece) → Laid (P.looped k q) L x c Ls base from to (Some ks)
          → Laid q [] (in_loop (pick start_of L k) to x) (with_loop k (end_of next q from) (length base) c) [] base from to (Some ks)
      in_a_loop k q l = record { stands = (l.stands).2; typed = l.typed; agrees = l.agrees; after = l.after }

      pub deep : (k : ℕ) (q : Piece) → Laid (P.deeper k q) L x c Ls base from to (Some ks)
          → Laid q L (over k x) c Ls (deepened k base (Some ks)) from to (Some ks)
      deep k q l = record { stands = l.stands; typed = (l.typed).3; agrees = l.agrees; after = l.after }

      pub at_start : (k : ℕ) (q : Piece) → Laid (P.started k q) L x c Ls base from to (Some ks) → Laid q L x c Ls base from to (Some ks)
      at_start k q l = record { stands = (l.stands).1; typed = l.typed; agrees = l.agrees; after = l.after }

      pub in_count : (k : ℕ) (q : Piece) → Laid (P.numbered k q) L x c Ls base from to (Some ks) → Laid q L x c Ls base from to (Some ks)
      in_count k q l = record { stands = l.stands; typed = l.typed; agrees = l.agrees; after = l.after }

      -- under an always row
      module _ (q : Piece) (l : Laid (P.ensured q) L x c Ls base from to (Some ks)) where
        abbrev pub normal : ℕ
        normal = ((l.stands).1).0

        abbrev pub row : Handler
        row = row_of from to to x.depth true

        pub end_is : end_of next q from ≡ normal
        end_is = ends q [] (under row x) from normal ((l.stands).1).1

        pub normal_next : next normal ≡ to
        normal_next = next_is (row ∷ x.rows) instr.Normal None normal to ((l.stands).1).2

        pub normal_less : normal < to
        normal_less = rises_to (row ∷ x.rows) instr.Normal None normal to ((l.stands).1).2

        pub target_there : at to ≡ Some (made to c.loop kinds.Pending ∷ base)
        target_there = l.after (made to c.loop kinds.Pending ∷ base)
            (ap (λ m. Some (made m c.loop kinds.Pending ∷ base)) (ap next end_is ∙ normal_next))

        pub row_right : x.depth ≡ length base → RowRight at base row
        row_right d = record {
          loop = c.loop;
          there = target_there ∙ ap (λ zs. Some (made to c.loop kinds.Pending ∷ zs)) (sym (lowest_all x.depth base d));
          within = omega (arith, d);
        }

        pub normal_there : at normal ≡ behind b.links next q (with_none c) base from (Some ks)
        normal_there = l.agrees normal (ordered q [] (under row x) from normal ((l.stands).1).1) normal_less
            ∙ (if_ge normal (end_of next q from) normal _ _ end_is (omega arith) ∙ if_eq normal (end_of next q from) normal _ _ end_is refl)

        -- no other place stands behind it
        pub normal_alone : (p : ℕ) → normal ≤ p → p < to → at p ≡ (if nat_eq p normal then behind b.links next q (with_none c) base from (Some ks) else None)
        normal_alone p u v = l.agrees p (let r = ordered q [] (under row x) from normal ((l.stands).1).1 in omega (arith, u, r)) v
            ∙ (if_ge p (end_of next q from) normal _ _ end_is u
            ∙ ap (λ m. if nat_eq p m then behind b.links next q (with_none c) base from (Some ks) else None) end_is)

        pub under_row : Laid q [] (under row x) (with_none c) [] base from normal (Some ks)
        under_row = record {
          stands = ((l.stands).1).1;
          typed = (l.typed).1;
          agrees = λ p u v. l.agrees p u (let r = normal_less in omega (arith, v, r)) ∙ if_lt p (end_of next q from) normal _ _ end_is v;
          after = λ ls e. normal_there ∙ e;
        }

      -- under an except row
      module _ (q r : Piece) (l : Laid (P.caught q r) L x c Ls base from to (Some ks)) where
        abbrev pub mid : ℕ
        mid = (l.stands).0

        abbrev pub except : Handler
        except = row_of from mid to x.depth false

        pub mid_is : end_of next q from ≡ mid
        mid_is = ends q [] (under except x) from mid (l.stands).1

        pub behind_row : Laid r L x c Ls base mid to (behind b.links next q (with_none c) base from (Some ks))
        behind_row = record {
          stands = (l.stands).2;
          typed = subst (λ m. Typed b.links next r c Ls base m (behind b.links next q (with_none c) base from (Some ks))) mid_is (l.typed).2;
          agrees = λ p u v. l.agrees p (let s = ordered q [] (under except x) from mid (l.stands).1 in omega (arith, u, s)) v
              ∙ (if_ge p (end_of next q from) mid _ _ mid_is u ∙ ap (λ m. slots_at b.links next r c base m (behind b.links next q (with_none c) base from (Some ks)) p) mid_is);
          after = λ ls e. not_both (sym e ∙ (ap (λ m. behind b.links next r c base m (behind b.links next q (with_none c) base from (Some ks))) (sym mid_is) ∙ (l.typed).3));
        }

        pub except_right : x.depth ≡ length base → is_empty q ≡ false → RowRight at base except
        except_right d e =
            let end : end_of next r (end_of next q from) ≡ to = ap (end_of next r) mid_is ∙ ends r L x mid to (l.stands).2 in record {
              loop = c.loop;
              there = l.after (made to c.loop kinds.Exc ∷ base) (ap (λ t. if t then None else Some (made (end_of next r (end_of next q from)) c.loop kinds.Exc ∷ base)) e
                  ∙ ap (λ m. Some (made m c.loop kinds.Exc ∷ base)) end) ∙ ap (λ zs. Some (made to c.loop kinds.Exc ∷ zs)) (sym (lowest_all x.depth base d));
              within = omega (arith, d);
            }

        pub under_except : After mid (behind b.links next q (with_none c) base from (Some ks)) → Laid q [] (under except x) (with_none c) [] base from mid (Some ks)
        under_except f = record {
          stands = (l.stands).1;
          typed = (l.typed).1;
          agrees = λ p u v. l.agrees p u (let s = ordered r L x mid to (l.stands).2 in omega (arith, v, s)) ∙ if_lt p (end_of next q from) mid _ _ mid_is v;
          after = f;
        }

    -- the slots at its first place are those with which it begins
    at_first : (from to : ℕ) (ks : StackMap) → from < to → ((q : ℕ) → from ≤ q → q < to → at q ≡ (if nat_eq q from then Some ks else None)) → at from ≡ Some ks
    at_first from to ks l f = f from (omega arith) l ∙ if_eq from from from (Some ks) None refl refl

    pub begins : (p : Piece) (L : List Target) (x : Context) (c : Setting) (Ls : List (Option StackMap)) (base : StackMap) (from to : ℕ) (ks : StackMap)
        → Laid p L x c Ls base from to (Some ks) → at from ≡ Some ks
    begins P.empty L x c Ls base from to ks l = ap at l.stands ∙ l.after ks refl
    begins (P.act op n k g) L x c Ls base from to ks l = at_first from to ks (rises_to x.rows (l.stands).0 _ from to (l.stands).2) l.agrees
    begins (P.move op) L x c Ls base from to ks l = at_first from to ks (rises_to x.rows (l.stands).0 _ from to (l.stands).2) l.agrees
    begins (P.seq a d) L x c Ls base from to ks l =
        begins a L x c Ls base from (l.stands).0 ks (first L x c Ls base from to ks a d l
        (λ ls e. begins d L x c Ls base (l.stands).0 to ls (subst (λ s. Laid d L x c Ls base (l.stands).0 to s) e (second L x c Ls base from to ks a d l))))
    begins (P.block q) L x c Ls base from to ks l =
        begins q (target to x.depth ∷ L) x (with_label (end_of next q from) c) (behind b.links next (P.block q) c base from (Some ks) ∷ Ls) base from to ks
        (in_block L x c Ls base from to ks q l)
    begins (P.headed q) L x c Ls base from to ks l =
        begins q (target from x.depth ∷ L) x (with_label from c) (Some ks ∷ Ls) base from to ks (in_head L x c Ls base from to ks q l)
    begins (P.closed q) L x c Ls base from to ks l = begins q [] x (with_none c) [] base from to ks (in_closed L x c Ls base from to ks q l)
    begins (P.looped k q) L x c Ls base from to ks l =
        begins q [] (in_loop (pick start_of L k) to x) (with_loop k (end_of next q from) (length base) c) [] base from to ks
        (in_a_loop L x c Ls base from to ks k q l)
    begins (P.leave e n k) L x c Ls base from to ks l =
        let (t, s) = leave_stands x.around e n k x.rows from to l.stands in at_first from to ks (rises_to x.rows _ _ from to s) l.agrees
    begins (P.ensured q) L x c Ls base from to ks l =
        begins q [] (under (row_of from to to x.depth true) x) (with_none c) [] base from ((l.stands).1).0 ks (under_row L x c Ls base from to ks q l)
    begins (P.caught q r) L x c Ls base from to ks l =
        begins q [] (under (row_of from (l.stands).0 to x.depth false) x) (with_none c) [] base from (l.stands).0 ks (under_except L x c Ls base from to ks q r l
        (λ ls e. begins r L x c Ls base (l.stands).0 to ls (subst (λ s. Laid r L x c Ls base (l.stands).0 to s) e (behind_row L x c Ls base from to ks q r l))))
    begins (P.deeper k q) L x c Ls base from to ks l = begins q L (over k x) c Ls (deepened k base (Some ks)) from to ks (deep L x c Ls base from to ks k q l)
    begins (P.started k q) L x c Ls base from to ks l = begins q L x c Ls base from to ks (at_start L x c Ls base from to ks k q l)
    begins (P.numbered k q) L x c Ls base from to ks l = begins q L x c Ls base from to ks (in_count L x c Ls base from to ks k q l)

    -- what the table has around a piece
    pub record Env (L : List Target) (Ls : List (Option StackMap)) (x : Context) (base : StackMap) : Type 0 where
      pub labels : (l : ℕ) (ks : StackMap) → pick None Ls l ≡ Some ks → at (pick start_of L l).pc.0 ≡ Some ks
      pub rows : RowsRight at base x.rows
      pub depth : x.depth ≡ length base

    pub no_labels : (y : Context) (base : StackMap) → RowsRight at base y.rows → y.depth ≡ length base → Env [] [] y base
    no_labels y base r d = record { labels = λ k ls e. not_both (sym e); rows = r; depth = d }

    pub one_label : (L : List Target) (Ls : List (Option StackMap)) (x : Context) (base : StackMap) (t : Target) (o : Option StackMap) → Env L Ls x base
        → ((ls : StackMap) → o ≡ Some ls → at t.pc.0 ≡ Some ls) → Env (t ∷ L) (o ∷ Ls) x base
    one_label L Ls x base t o v f = record { labels = labels; rows = v.rows; depth = v.depth }
      where
        labels : (k : ℕ) (ls : StackMap) → pick None (o ∷ Ls) k ≡ Some ls → at (pick start_of (t ∷ L) k).pc.0 ≡ Some ls
        labels zero ls e = f ls e
        labels (suc k) ls e = v.labels k ls e

    abbrev pub Right : ℕ → Type 0
    Right q = (ks : StackMap) → at q ≡ Some ks → (s : Step) → Contains (steps b q (kinds_of ks)) s → Follows at ks s

    abbrev pub Each : ℕ → StackMap → Type 0
    Each q ks = (s : Step) → Contains (steps b q (kinds_of ks)) s → Follows at ks s

    right_here : (q : ℕ) (ks : StackMap) → at q ≡ Some ks → Each q ks → Right q
    right_here q ks h f ls g = subst (Each q) (is_some_of (sym h ∙ g)) f

    -- an instruction is the only one in its place
    only_here : (from to : ℕ) (o : Option StackMap) → ((q : ℕ) → from ≤ q → q < to → at q ≡ (if nat_eq q from then o else None)) → Right from
        → (q : ℕ) → from ≤ q → q < to → Right q
    only_here from to o f r q u v = by (nat_eq q from) refl
      where
        by : (t : Bool) → nat_eq q from ≡ t → Right q
        by true e = subst Right (sym (eqb-true q from e)) r
        by false e = λ ks h. not_both (sym h ∙ (f q u v ∙ ap (λ t. if t then o else None) e))

    -- an instruction that finds what it takes
    fired : (op : Op) (L : List Target) (x : Context) (c : Setting) (Ls : List (Option StackMap)) (base : StackMap) (from to : ℕ) (m : Option ActMark) (j : Instr) (ks : StackMap)
        → Is code.pool L op j → Stands code x.rows j m from to → Fires b.links op c.loop Ls base ks → Env L Ls x base → at from ≡ Some ks
        → ((ls : StackMap) → behind_op b.links op (next from) c.loop (Some ks) ≡ Some ls → at to ≡ Some ls) → Each from ks
    fired op L x c Ls base from to m j ks i h f v itself after =
        subst (Each from) (sym f.is) (each_right b at from (ins j m to x.rows) (stands_at x.rows j m from to h) f.taken f.rest base
        (subst (λ e. Takes e f.taken) (sym same_row) f.takes) f.over v.rows c.loop goes_behind goes_aside (itself ∙ ap Some f.is))
      where
        same_row : effect b.links j ≡ effect b.links (instr_of op)
        same_row = same_effect b.links code.pool L op j i f.uniform

        goes_behind : (ls : StackMap) → onward (effect b.links j) to c.loop (f.taken ++ f.rest) (let e = effect b.links j in e.gives) ≡ Some ls → at to ≡ Some ls
        goes_behind ls g = after ls (ap (λ n. behind_op b.links op n c.loop (Some ks)) (next_is x.rows j m from to h)
            ∙ (ap (λ z. behind_op b.links op to c.loop (Some z)) f.is ∙ (ap (λ e. onward e to c.loop (f.taken ++ f.rest) e.gives) (sym same_row) ∙ g)))

        goes_aside : (t : ℕ) (ls : StackMap) → target_of j ≡ Some t → given_at (effect b.links j) 0 None (f.taken ++ f.rest) (let e = effect b.links j in e.aside) ≡ Some ls
            → at t ≡ Some ls
        goes_aside t ls tg g = landed_label at code.pool L Ls op j t ls v.labels i
            (subst (Lands op Ls) (ap (λ z. aside_op b.links op (Some z)) f.is ∙ (ap (λ e. given_at e 0 None (f.taken ++ f.rest) e.aside) (sym same_row) ∙ g)) f.lands) tg

    left : (x : Context) (base : StackMap) (from to t : ℕ) (m : Option ActMark) (ks : StackMap) → Stands code x.rows (instr.Leave (record { 0 = t })) m from to → Over base ks
        → RowsRight at base x.rows → at from ≡ Some ks → Each from ks
    unfolding effect_of
    left x base from to t m ks h o v itself =
        each_right b at from (ins (instr.Leave (record { 0 = t })) m to x.rows) (stands_at x.rows _ m from to h) [] ks base (typed.plainly refl) o v None
        (λ ls g. not_both (sym g)) (λ t ls tg g. not_both (sym tg)) itself

    normally : (rows : List Handler) (c : Setting) (base : StackMap) (from to : ℕ) → Stands code rows instr.Normal None from to
        → RowsRight at base rows → at to ≡ Some (made to c.loop kinds.Pending ∷ base) → at from ≡ Some base → Each from base
    unfolding effect_of
    normally rows c base from to h v f itself =
        each_right b at from (ins instr.Normal None to rows) (stands_at rows _ None from to h) [] base base (typed.plainly refl) (over_itself base) v c.loop
        (λ ls g. f ∙ g) (λ t ls tg g. not_both (sym tg)) itself

    -- the end of what an always row covers
    normal_right : (L : List Target) (x : Context) (c : Setting) (Ls : List (Option StackMap)) (base : StackMap) (from to : ℕ) (ks : StackMap) (q : Piece)
        (l : Laid (P.ensured q) L x c Ls base from to (Some ks)) → Env L Ls x base → (o : Option StackMap)
        → behind b.links next q (with_none c) base from (Some ks) ≡ o → typed.EndsAt base o → Right ((l.stands).1).0
    normal_right L x c Ls base from to ks q l v None e h = λ ls g. not_both (sym g ∙ (normal_there L x c Ls base from to ks q l ∙ e))
    normal_right L x c Ls base from to ks q l v (Some ls) e h =
        let there = normal_there L x c Ls base from to ks q l ∙ (e ∙ ap Some h) in
        right_here ((l.stands).1).0 base there (normally (row_of from to to x.depth true ∷ x.rows) c base ((l.stands).1).0 to ((l.stands).1).2
        (row_right L x c Ls base from to ks q l v.depth, v.rows) (target_there L x c Ls base from to ks q l) there)

    pub right : (p : Piece) (L : List Target) (x : Context) (c : Setting) (Ls : List (Option StackMap)) (base : StackMap) (from to : ℕ) (s : Option StackMap)
        → Laid p L x c Ls base from to s → Env L Ls x base → (q : ℕ) → from ≤ q → q < to → Right q
    right p L x c Ls base from to None l v q y z = λ ks h. not_both (sym h ∙ (l.agrees q y z ∙ nothing_at b.links next p c base from q))
    right P.empty L x c Ls base from to (Some ks) l v q y z = absurd (let h : from ≡ to = l.stands in let e : ⊥ = omega (arith, h, y, z) in e)
    right (P.act op n k g) L x c Ls base from to (Some ks) l v q y z =
        let h = l.stands in
        let itself = begins (P.act op n k g) L x c Ls base from to ks l in
        only_here from to (Some ks) l.agrees (right_here from ks itself (fired op L x c Ls base from to _ h.0 ks h.1 h.2 l.typed v itself l.after)) q y z
    right (P.move op) L x c Ls base from to (Some ks) l v q y z =
        let h = l.stands in
        let itself = begins (P.move op) L x c Ls base from to ks l in
        only_here from to (Some ks) l.agrees (right_here from ks itself (fired op L x c Ls base from to None h.0 ks h.1 h.2 l.typed v itself l.after)) q y z
    right (P.seq a d) L x c Ls base from to (Some ks) l v q y z =
        let later = second L x c Ls base from to ks a d l in
        ⊎_elim (λ u. right a L x c Ls base from (l.stands).0 (Some ks) (first L x c Ls base from to ks a d l
        (λ ls e. begins d L x c Ls base (l.stands).0 to ls (subst (λ s. Laid d L x c Ls base (l.stands).0 to s) e later))) v q y u)
        (λ u. right d L x c Ls base (l.stands).0 to (behind b.links next a c base from (Some ks)) later v q u z) (cases_lt q (l.stands).0)
    right (P.block q) L x c Ls base from to (Some ks) l v p y z =
        right q (target to x.depth ∷ L) x (with_label (end_of next q from) c) (behind b.links next (P.block q) c base from (Some ks) ∷ Ls) base from to (Some ks)
        (in_block L x c Ls base from to ks q l)
        (one_label L Ls x base (target to x.depth) (behind b.links next (P.block q) c base from (Some ks)) v l.after) p y z
    right (P.headed q) L x c Ls base from to (Some ks) l v p y z =
        right q (target from x.depth ∷ L) x (with_label from c) (Some ks ∷ Ls) base from to (Some ks) (in_head L x c Ls base from to ks q l)
        (one_label L Ls x base (target from x.depth) (Some ks) v (λ ls e. begins (P.headed q) L x c Ls base from to ks l ∙ e)) p y z
    right (P.closed q) L x c Ls base from to (Some ks) l v p y z =
        right q [] x (with_none c) [] base from to (Some ks) (in_closed L x c Ls base from to ks q l) (no_labels x base v.rows v.depth) p y z
    right (P.looped k q) L x c Ls base from to (Some ks) l v p y z =
        right q [] (in_loop (pick start_of L k) to x) (with_loop k (end_of next q from) (length base) c) [] base from to (Some ks)
        (in_a_loop L x c Ls base from to ks k q l) (no_labels (in_loop (pick start_of L k) to x) base v.rows v.depth) p y z
    right (P.leave e n k) L x c Ls base from to (Some ks) l v q y z =
        let (t, s) = leave_stands x.around e n k x.rows from to l.stands in
        let itself = begins (P.leave e n k) L x c Ls base from to ks l in
        only_here from to (Some ks) l.agrees (right_here from ks itself (left x base from to t _ ks s l.typed v.rows itself)) q y z
    right (P.ensured q) L x c Ls base from to (Some ks) l v p y z =
        let rows : RowsRight at base (row_of from to to x.depth true ∷ x.rows) = (row_right L x c Ls base from to ks q l v.depth, v.rows) in
        ⊎_elim (λ u. right q [] (under (row_of from to to x.depth true) x) (with_none c) [] base from ((l.stands).1).0 (Some ks)
        (under_row L x c Ls base from to ks q l) (no_labels (under (row_of from to to x.depth true) x) base rows v.depth) p y u)
        (λ u. only_here ((l.stands).1).0 to (behind b.links next q (with_none c) base from (Some ks)) (normal_alone L x c Ls base from to ks q l)
        (normal_right L x c Ls base from to ks q l v (behind b.links next q (with_none c) base from (Some ks)) refl (l.typed).2) p u z) (cases_lt p ((l.stands).1).0)
    right (P.caught q r) L x c Ls base from to (Some ks) l v p y z =
        let later = behind_row L x c Ls base from to ks q r l in
        ⊎_elim (λ u. right q [] (under (row_of from (l.stands).0 to x.depth false) x) (with_none c) [] base from (l.stands).0 (Some ks)
        (under_except L x c Ls base from to ks q r l (λ ls f. begins r L x c Ls base (l.stands).0 to ls (subst (λ s. Laid r L x c Ls base (l.stands).0 to s) f later)))
        (no_labels (under (row_of from (l.stands).0 to x.depth false) x) base
        (except_right L x c Ls base from to ks q r l v.depth (not_empty q [] (under (row_of from (l.stands).0 to x.depth false) x) from (l.stands).0 (l.stands).1 p y u), v.rows)
        v.depth) p y u)
        (λ u. right r L x c Ls base (l.stands).0 to (behind b.links next q (with_none c) base from (Some ks)) later v p u z) (cases_lt p (l.stands).0)
    right (P.deeper k q) L x c Ls base from to (Some ks) l v p y z =
        right q L (over k x) c Ls (deepened k base (Some ks)) from to (Some ks) (deep L x c Ls base from to ks k q l)
        (record { labels = v.labels; rows = rows_over at x.rows (l.typed).0 v.rows; depth = ap (λ n. n + k) v.depth ∙ sym (l.typed).2 }) p y z
    right (P.started k q) L x c Ls base from to (Some ks) l v p y z =
        right q L x c Ls base from to (Some ks) (at_start L x c Ls base from to ks k q l) v p y z
    right (P.numbered k q) L x c Ls base from to (Some ks) l v p y z =
        right q L x c Ls base from to (Some ks) (in_count L x c Ls base from to ks k q l) v p y z

pub walk_is_right : {V : Type 0} → WalkIsRight V
walk_is_right {V} code b starts p ks same rises stands typed ends_none q ls h s c = by (cases_lt q b.size)
  where
    at : Table
    at = table_of b p ks

    whole : Laid code starts b same rises at p [] (record { rows = []; depth = 0; around = None }) outermost [] [] 0 b.size (Some ks)
    whole = record { stands = stands; typed = typed; agrees = λ r u v. refl; after = λ ms e. not_both (sym e ∙ ends_none) }

    by : (q < b.size) ⊎ (b.size ≤ q) → Follows at ls s
    by (inl u) = right code starts b same rises at p [] (record { rows = []; depth = 0; around = None }) outermost [] [] 0 b.size (Some ks) whole
        (no_labels code starts b same rises at (record { rows = []; depth = 0; around = None }) [] tt refl) q (omega arith) u ls h s c
    by (inr u) = not_both (sym h ∙ nowhere code starts b same rises p [] (record { rows = []; depth = 0; around = None }) outermost [] 0 b.size (Some ks) stands q u)
