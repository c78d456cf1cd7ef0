-- Where a piece stands that goes forward, each instruction in it without a mark goes ahead.
use Rattle.std.proofs.Common.{◌≡◌, ◌≤◌, ◌<◌, inl, inr, ⊎_elim, ℕ, zero, suc, true, false, List, [], ◌∷◌, Option, Some, None, refl, sym, ap, ◌∙◌, subst, arith}
use Rattle.std.proofs.lemmas.Bool.{cases_lt}
use Rattle.pt_base.specs.declared.numbers.Pc.{Pc}
use Rattle.pt_ranges.specs.declared.lines.ActMark.{ActMark}
use Rattle.pt_ranges.specs.declared.handlers.Handler.{Handler}
use Rattle.pt_instr.specs.declared.ConstNo.{ConstNo}
use Rattle.pt_instr.specs.declared.Instr.{Instr}
use Rattle.pt_instr.specs.declared.Instr.TheVariants as instr
use Rattle.pt_code.specs.View.{Ins}
use Rattle.pt_code.specs.declared.Start.{Start}
use Rattle.sem_code.specs.slots.CodeObject.{CodeObject, Pool}
use Rattle.sem_code.specs.slots.Stretches.{ins, Stands}
use Rattle.pt_assembler.specs.declared.operation.Exit.{Exit}
use Rattle.pt_assembler.specs.declared.operation.Jump.{Jump}
use Rattle.pt_assembler.specs.declared.operation.Jump.TheVariants as jump
use Rattle.pt_assembler.specs.declared.operation.Target.{Target}
use Rattle.pt_assembler.specs.Piece as P
use Rattle.pt_assembler.specs.Piece.{Op, Piece, pick}
use Rattle.pt_assembler.specs.PieceAt.{instr_to, target, start_of, Is, Exits, Context, in_loop, under, over, row_of, Exit_at, Piece_at}
use Rattle.sem_compile.specs.stm_pieces.Laws.{outermost}
use Rattle.sem_code.specs.silent_turns.Ahead as A
use Rattle.sem_code.specs.silent_turns.Ahead.{IsStraight, IsSilent, AllTargets, AllAhead, NearAct, LeadsOn, Onward}
use Rattle.law_pieces.specs.forward_pieces.Forward as F
use Rattle.law_pieces.specs.forward_pieces.Forward.{IsOpOf, Near, Lies, Begins, Goes, Silent, Forward}
use Rattle.law_pieces.specs.forward_pieces.Laws.{InOrder, PiecesGoAhead}

none_is_some : {A B : Type 0} (a : A) → None ≡ Some a → B
none_is_some a e = absurd cc

some_is : {A : Type 0} (a b : A) → Some a ≡ Some b → a ≡ b
some_is a b e = ap (λ o. elim o [ None ↦ a | Some x ↦ x ]) e

-- what is said of an instruction, whatever it names, is said of the one that stands there
op_is : (Q : Instr → Type 0) → ((c : ConstNo) → Q (instr.Const c)) → (pool : Pool) (L : List Target) (op : Op) (j : Instr) → IsOpOf Q op → Is pool L op j → Q j
op_is Q c pool L (P.plain i) j h e = subst Q (sym e) h
op_is Q c pool L P.never j h e = absurd e
op_is Q c pool L (P.const k) j h (n, e, u) = subst Q (sym e) (c n)
op_is Q c pool L (P.with_local f x) j h (i, e, u) = subst Q (sym e) (h i)
op_is Q c pool L (P.with_cell f x) j h (i, e, u) = subst Q (sym e) (h i)
op_is Q c pool L (P.with_free f x) j h (i, e, u) = subst Q (sym e) (h i)
op_is Q c pool L (P.with_text f x) j h (t, e, u) = subst Q (sym e) (h t)
op_is Q c pool L (P.with_list f xs) j h (l, e, u) = subst Q (sym e) (h l)
op_is Q c pool L (P.to k l) j h e = absurd h

module _ {V : Type 0} (code : CodeObject V) (starts : List Start) (size : ℕ) (order : InOrder code size) where
  -- a place with an instruction is the first of a stretch of one, or lies outside of it
  stands_behind : (rows : List Handler) (j : Instr) (m : Option ActMark) (from to : ℕ) → Stands code rows j m from to → from < to
  stands_behind rows j m from to s = order.rises from (ins j m to rows) s

  leave_behind : (o : Option Exits) (e : Exit) (n l : ℕ) (rows : List Handler) (from to : ℕ) → Exit_at code starts o e n l rows from to → from < to
  leave_behind None e n l rows from to s = absurd s
  leave_behind (Some y) e n l rows from to s = stands_behind rows _ _ from to s.1

  pub behind : (p : Piece) (L : List Target) (x : Context) (from to : ℕ) → Piece_at code starts p L x from to → from ≤ to
  behind P.empty L x from to s = subst (λ n. from ≤ n) s (omega arith)
  behind (P.act op n l g) L x from to (j, i, s) = let h = stands_behind x.rows j _ from to s in omega (arith, h)
  behind (P.move op) L x from to (j, i, s) = let h = stands_behind x.rows j _ from to s in omega (arith, h)
  behind (P.seq a b) L x from to (m, s, t) = let h = behind a L x from m s in let k = behind b L x m to t in omega (arith, h, k)
  behind (P.block p) L x from to s = behind p (target to x.depth ∷ L) x from to s
  behind (P.headed p) L x from to s = behind p (target from x.depth ∷ L) x from to s
  behind (P.closed p) L x from to s = behind p [] x from to s
  behind (P.looped b p) L x from to (u, v, s) = behind p [] (in_loop (pick start_of L b) to x) from to s
  behind (P.leave e n l) L x from to s = let h = leave_behind x.around e n l x.rows from to s in omega (arith, h)
  behind (P.ensured p) L x from to (u, (m, s, t)) =
      let h = behind p [] (under (row_of from to to x.depth true) x) from m s in
      let k = stands_behind _ instr.Normal None m to t in omega (arith, h, k)
  behind (P.caught p q) L x from to (m, s, t) =
      let h = behind p [] (under (row_of from m to x.depth false) x) from m s in let k = behind q L x m to t in omega (arith, h, k)
  behind (P.deeper k p) L x from to s = behind p L (over k x) from to s
  behind (P.started l p) L x from to (u, s) = behind p L x from to s
  behind (P.numbered n p) L x from to s = behind p L x from to s

  -- where an act is near in a piece or behind it, one is near at its beginning
  leave_near : (o : Option Exits) (e : Exit) (n l : ℕ) (rows : List Handler) (from to : ℕ) → Exit_at code starts o e n l rows from to → NearAct code rows from
  leave_near None e n l rows from to s = absurd s
  leave_near (Some y) e n l rows from to s = A.there from _ _ s.1 refl

  nears : (p : Piece) (L : List Target) (x : Context) (B : Type 0) (from to : ℕ) → Piece_at code starts p L x from to → Near p B
      → (B → NearAct code x.rows to) → NearAct code x.rows from
  nears P.empty L x B from to s h f = subst (NearAct code x.rows) (sym s) (f h)
  nears (P.act op n l g) L x B from to (j, i, s) h f = A.there from _ _ s refl
  nears (P.move op) L x B from to (j, i, s) (u, h) f =
      A.behind from _ s refl (op_is IsStraight (λ c. tt) code.pool L op j u i) refl (stands_behind x.rows j None from to s) (f h)
  nears (P.seq a b) L x B from to (m, s, t) h f = nears a L x (Near b B) from m s h (λ k. nears b L x B m to t k f)
  nears (P.block p) L x B from to s h f = nears p (target to x.depth ∷ L) x B from to s h f
  nears (P.headed p) L x B from to s h f = nears p (target from x.depth ∷ L) x B from to s h f
  nears (P.closed p) L x B from to s h f = nears p [] x B from to s h f
  nears (P.looped b p) L x B from to (u, v, s) h f = nears p [] (in_loop (pick start_of L b) to x) B from to s h f
  nears (P.leave e n l) L x B from to s h f = leave_near x.around e n l x.rows from to s
  nears (P.ensured p) L x B from to s h f = absurd h
  nears (P.caught p q) L x B from to s h f = absurd h
  nears (P.deeper k p) L x B from to s h f = nears p L (over k x) B from to s h f
  nears (P.started l p) L x B from to (u, s) h f = nears p L x B from to s h f
  nears (P.numbered n p) L x B from to s h f = nears p L x B from to s h f

  -- where the labels around lie, from a piece that ends at a place
  abbrev LiesAt : List Handler → (end : ℕ) → Lies → (place : ℕ) → Type 0
  LiesAt rows e F.ahead q = e ≤ q
  LiesAt rows e F.near q = NearAct code rows q
  LiesAt rows e F.elsewhere q = Unit {0}

  abbrev AllLie : List Handler → (end : ℕ) → List Lies → List Target → Type 0
  AllLie rows e ls L = (k : ℕ) → LiesAt rows e (pick F.elsewhere ls k) (pick start_of L k).pc.0

  -- rows around lead to its end at least
  abbrev RowsLead : (end : ℕ) → List Handler → Type 0
  RowsLead e rows = AllTargets (λ q. e ≤ q) rows

  earlier : (rows : List Handler) (d e : ℕ) (l : Lies) (q : ℕ) → d ≤ e → LiesAt rows e l q → LiesAt rows d l q
  earlier rows d e F.ahead q h i = omega (arith, h, i)
  earlier rows d e F.near q h i = i
  earlier rows d e F.elsewhere q h i = tt

  all_earlier : (rows : List Handler) (d e : ℕ) (ls : List Lies) (L : List Target) → d ≤ e → AllLie rows e ls L → AllLie rows d ls L
  all_earlier rows d e ls L h f k = earlier rows d e (pick F.elsewhere ls k) _ h (f k)

  rows_earlier : (d e : ℕ) (rows : List Handler) → d ≤ e → RowsLead e rows → RowsLead d rows
  rows_earlier d e [] h i = tt
  rows_earlier d e (row ∷ rows) h i = (let j = i.0 in omega (arith, h, j), rows_earlier d e rows h i.1)

  rows_ahead : (q e : ℕ) (rows : List Handler) → q < e → RowsLead e rows → AllAhead q rows
  rows_ahead q e [] h i = tt
  rows_ahead q e (row ∷ rows) h i = (let j = i.0 in omega (arith, h, j), rows_ahead q e rows h i.1)

  one_more : (rows : List Handler) (e : ℕ) (l : Lies) (t : Target) (ls : List Lies) (L : List Target) → LiesAt rows e l t.pc.0 → AllLie rows e ls L
      → AllLie rows e (l ∷ ls) (t ∷ L)
  one_more rows e l t ls L h f zero = h
  one_more rows e l t ls L h f (suc k) = f k

  none_around : (rows : List Handler) (e : ℕ) → AllLie rows e [] []
  none_around rows e k = tt

  -- what an instruction without an act leads to
  goes_to : (rows : List Handler) (q e : ℕ) (j : Jump) (l : Lies) (t : Pc) → q < e → Goes j l → LiesAt rows e l t.0 → LeadsOn code q rows (instr_to j t.0)
  goes_to rows q e jump.Always F.ahead t h g i = inl (omega (arith, h, i))
  goes_to rows q e jump.Always F.near t h g i = inr i
  goes_to rows q e jump.Always F.elsewhere t h g i = absurd g
  goes_to rows q e jump.IfFalse F.ahead t h g i = omega (arith, h, i)
  goes_to rows q e jump.IfFalse F.near t h g i = absurd g
  goes_to rows q e jump.IfFalse F.elsewhere t h g i = absurd g
  goes_to rows q e j l t h g i = absurd g

  silent_leads : (rows : List Handler) (q : ℕ) (j : Instr) → IsSilent j → LeadsOn code q rows j
  silent_leads rows q (instr.Jump t) h = absurd h
  silent_leads rows q (instr.JumpUnless t) h = absurd h
  silent_leads rows q j h = h

  op_leads : (rows : List Handler) (q e : ℕ) (op : Op) (ls : List Lies) (L : List Target) (j : Instr) → q < e → Silent op ls → AllLie rows e ls L → Is code.pool L op j → LeadsOn code q rows j
  op_leads rows q e (P.to k l) ls L j h g f i = subst (LeadsOn code q rows) (sym i) (goes_to rows q e k (pick F.elsewhere ls l) (pick start_of L l).pc h g (f l))
  op_leads rows q e (P.plain o) ls L j h g f i = silent_leads rows q j (op_is IsSilent (λ c. tt) code.pool L (P.plain o) j g i)
  op_leads rows q e P.never ls L j h g f i = absurd i
  op_leads rows q e (P.const o) ls L j h g f i = silent_leads rows q j (op_is IsSilent (λ c. tt) code.pool L (P.const o) j g i)
  op_leads rows q e (P.with_local o x) ls L j h g f i = silent_leads rows q j (op_is IsSilent (λ c. tt) code.pool L (P.with_local o x) j g i)
  op_leads rows q e (P.with_cell o x) ls L j h g f i = silent_leads rows q j (op_is IsSilent (λ c. tt) code.pool L (P.with_cell o x) j g i)
  op_leads rows q e (P.with_free o x) ls L j h g f i = silent_leads rows q j (op_is IsSilent (λ c. tt) code.pool L (P.with_free o x) j g i)
  op_leads rows q e (P.with_text o x) ls L j h g f i = silent_leads rows q j (op_is IsSilent (λ c. tt) code.pool L (P.with_text o x) j g i)
  op_leads rows q e (P.with_list o x) ls L j h g f i = silent_leads rows q j (op_is IsSilent (λ c. tt) code.pool L (P.with_list o x) j g i)

  -- a place in a stretch of one instruction
  module _ (q : ℕ) (i : Ins) (there : code.at q ≡ Some i) (unmarked : i.mark ≡ None) where
    pub first : (rows : List Handler) (j : Instr) (m : Option ActMark) (from to : ℕ) → Stands code rows j m from to → from ≤ q → q < to → q ≡ from
    first rows j m from to s h l = ⊎_elim
        (λ u. none_is_some i (sym (order.apart from q (ins j m to rows) s u l) ∙ there)) (λ u. omega (arith, h, u)) (cases_lt from q)

    pub stands_there : (rows : List Handler) (j : Instr) (m : Option ActMark) (from to : ℕ) → Stands code rows j m from to → q ≡ from → i ≡ ins j m to rows
    stands_there rows j m from to s e = some_is _ _ (sym there ∙ (ap (λ n. code.at n) e ∙ s))

    pub has_mark : {A : Type 0} (rows : List Handler) (j : Instr) (m : ActMark) (from to : ℕ) → Stands code rows j (Some m) from to → from ≤ q → q < to → A
    has_mark rows j m from to s h l =
        none_is_some m (sym unmarked ∙ ap (λ (k : Ins). k.mark) (stands_there rows j (Some m) from to s (first rows j (Some m) from to s h l)))

    pub leave_marked : {A : Type 0} (o : Option Exits) (e : Exit) (n l : ℕ) (rows : List Handler) (from to : ℕ) → Exit_at code starts o e n l rows from to
        → from ≤ q → q < to → A
    leave_marked None e n l rows from to s h g = absurd s
    leave_marked (Some y) e n l rows from to s h g = has_mark rows _ _ from to s.1 h g

    silently : (rows : List Handler) (j : Instr) (from to : ℕ) → Stands code rows j None from to → from ≤ q → q < to → RowsLead to rows
        → (from < to → LeadsOn code from rows j) → Onward code q i
    silently rows j from to s h l r g =
        let e = first rows j None from to s h l in
        let lt = stands_behind rows j None from to s in
        subst (λ n. Onward code n i) (sym e) (subst (λ k. Onward code from k) (sym (stands_there rows j None from to s e))
        (record { next = lt; rows = rows_ahead from to rows lt r; leads = g lt }))

    onward : (p : Piece) (L : List Target) (ls : List Lies) (x : Context) (from to : ℕ) → Piece_at code starts p L x from to → Forward p ls → AllLie x.rows to ls L
        → RowsLead to x.rows → from ≤ q → q < to → Onward code q i
    onward P.empty L ls x from to s g f r h l = let n : from ≡ to = s in absurd (omega (arith, h, l, n))
    onward (P.act op n k a) L ls x from to (j, o, s) g f r h l = has_mark x.rows j _ from to s h l
    onward (P.move op) L ls x from to (j, o, s) g f r h l =
        silently x.rows j from to s h l r (λ lt. op_leads x.rows from to op ls L j lt g f o)
    onward (P.seq a b) L ls x from to (m, s, t) g f r h l =
        let n = behind b L x m to t in ⊎_elim
        (λ u. onward a L ls x from m s g.0 (all_earlier x.rows m to ls L n f) (rows_earlier m to x.rows n r) h u)
        (λ u. onward b L ls x m to t g.1 f r u l) (cases_lt q m)
    onward (P.block p) L ls x from to s g f r h l =
        onward p (target to x.depth ∷ L) (F.ahead ∷ ls) x from to s g (one_more x.rows to F.ahead (target to x.depth) ls L (omega arith) f) r h l
    onward (P.headed p) L ls x from to s (w, b, g) f r h l =
        onward p (target from x.depth ∷ L) (w ∷ ls) x from to s g (one_more x.rows to w (target from x.depth) ls L (head_lies w b) f) r h l
      where
        head_lies : (w : Lies) → Begins w p → LiesAt x.rows to w from
        head_lies F.ahead b = absurd b
        head_lies F.near b = nears p (target from x.depth ∷ L) x ⊥ from to s b (λ e. absurd e)
        head_lies F.elsewhere b = tt
    onward (P.closed p) L ls x from to s g f r h l = onward p [] [] x from to s g (none_around x.rows to) r h l
    onward (P.looped b p) L ls x from to (u, v, s) g f r h l = onward p [] [] (in_loop (pick start_of L b) to x) from to s g.1 (none_around x.rows to) r h l
    onward (P.leave e n k) L ls x from to s g f r h l = leave_marked x.around e n k x.rows from to s h l
    onward (P.ensured p) L ls x from to (u, (m, s, t)) g f r h l =
        let n = stands_behind _ instr.Normal None m to t in ⊎_elim
        (λ v. onward p [] [] (under (row_of from to to x.depth true) x) from m s g (none_around (row_of from to to x.depth true ∷ x.rows) m) (omega (arith, n), rows_earlier m to x.rows (omega (arith, n)) r) h v)
        (λ v. silently (row_of from to to x.depth true ∷ x.rows) instr.Normal m to t v l (omega arith, r) (λ lt. tt)) (cases_lt q m)
    onward (P.caught p c) L ls x from to (m, s, t) g f r h l =
        let n = behind c L x m to t in ⊎_elim
        (λ v. onward p [] [] (under (row_of from m to x.depth false) x) from m s g.0 (none_around (row_of from m to x.depth false ∷ x.rows) m) (n, rows_earlier m to x.rows n r) h v)
        (λ v. onward c L ls x m to t g.1 f r v l) (cases_lt q m)
    onward (P.deeper k p) L ls x from to s g f r h l = onward p L ls (over k x) from to s g f r h l
    onward (P.started k p) L ls x from to (u, s) g f r h l = onward p L ls x from to s g f r h l
    onward (P.numbered n p) L ls x from to s g f r h l = onward p L ls x from to s g f r h l

pub pieces_go_ahead : {V : Type 0} → PiecesGoAhead V
pieces_go_ahead code starts p depth size g order s = record {
  inside = order.inside;
  onward = λ pc i e f. onward code starts size order pc i e f p [] [] (outermost depth) 0 size s g (none_around code starts size order [] size) tt (omega arith) (order.inside pc i e);
}
