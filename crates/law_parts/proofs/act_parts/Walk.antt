-- A place of an act in the code of a block: in which piece it stands, and which slots of parts may
-- be made on the way to it.
use Rattle.std.proofs.Common.{◌≡◌, ◌⊎◌, inl, inr, ⊎_elim, ℕ, ◌+◌, ◌≤◌, ◌<◌, suc, max, Bool, true, false, ◌&&◌, if◌then◌else◌, nat_eq, nat_lt, List, [], ◌∷◌, ◌++◌, length, Option, Some, None, refl, sym, ap, ◌∙◌, subst, arith, eqb-true}
use Rattle.std.proofs.lemmas.Bool.{cases_lt}
use Rattle.pt_ranges.specs.declared.handlers.Handler.{Handler}
use Rattle.pt_ranges.specs.declared.lines.ActMark.{ActMark}
use Rattle.pt_instr.specs.declared.Instr.{Instr}
use Rattle.pt_instr.specs.declared.Instr.TheVariants as instr
use Rattle.pt_code.specs.View.{Ins}
use Rattle.pt_code.specs.declared.Start.{Start}
use Rattle.sem_control.specs.control.Jump.{Part}
use Rattle.sem_code.specs.slots.CodeObject.{CodeObject}
use Rattle.sem_code.specs.slots.Stretches.{ins, act_mark}
use Rattle.pt_assembler.specs.declared.operation.Target.{Target}
use Rattle.pt_assembler.specs.Piece as P
use Rattle.pt_assembler.specs.Piece.{Op, Piece, pick}
use Rattle.pt_assembler.specs.PieceAt.{target, start_of, Context, in_loop, under, over, row_of, Piece_at}
use Rattle.sem_fits.specs.fits.Block.{Block}
use Rattle.law_pieces.specs.piece_kinds.Walk.{Loop, Known, StackMap, behind_op, is_empty, Setting, with_label, with_none, with_loop, end_of, behind, slots_at}
use Rattle.law_pieces.specs.piece_kinds.Typed.{Typed}
use Rattle.law_pieces.specs.piece_kinds.Table.{next_of, Rises, Table}
use Rattle.law_pieces.proofs.piece_kinds.PieceLaw.{not_both, is_some_of, nothing_at, stands_at, leave_stands, ends, ordered, Laid, first, second, in_block as laid_block, in_head as laid_head, in_closed as laid_closed, in_a_loop, deep, at_start, in_count as laid_count, under_row, normal_alone, behind_row, under_except, begins}
use Rattle.law_typed_pieces.proofs.typed_pieces.Combine.{goes_if, deepened_is, value}
use Rattle.law_pieces.proofs.piece_acts.Above.{above}
use Rattle.pt_tree.specs.declared.expression.Constant.TheVariants as constant
use Rattle.pt_tree.specs.Syntax as S
use Rattle.pt_tree.specs.Syntax.{Name, Exp, Tgt, Stm, Stms, Branches, Handlers, Items, none, more}
use Rattle.pt_tree.specs.Sizes.{size, target_size, items_size, stm_size, stms_size, branches_size, handlers_size}
use Rattle.pt_instr.specs.Effects.{effect_of}
use Rattle.sem_control.specs.control.Turn.{Around}
use Rattle.sem_control.specs.control.Frames.{normal, rest, looping, iterating, guarded, testing, handling, naming, ensuring, ending, withing, exiting}
use Rattle.sem_control.specs.control.Numbers.{tested_body, behind_body as behind_tested, for_body, for_else, try_handlers, try_else, try_finally, handler_body}
use Rattle.sem_control.specs.control.Jump as J
use Rattle.sem_control.specs.control.Jump.{for_part, with_part, tests_part, handler_part, finally_part, exit_part, parts, Shape, with_name}
use Rattle.pt_assembler.specs.declared.operation.Exit.TheVariants.{Break, Continue}
use Rattle.pt_assembler.specs.declared.operation.Jump.TheVariants.{AtEnd, Always as Jumps, IfTrue, IfFalse}
use Rattle.sem_compile.specs.emitter.ExpPiece.{null_piece, exp_piece, target_piece}
use Rattle.sem_compile.specs.stm_pieces.Needed.{some_exits, some_branch_goes_on, all_go_on, Behind, needed, free, is_needed, needed_if, in_front, behind_branches, behind_loop, behind_tried}
use Rattle.sem_compile.specs.emitter.Ops.{store as store_op}
use Rattle.sem_compile.specs.stm_pieces.StmPiece.{delete as delete_op, begun_piece, value_piece, store_piece, guarded_piece, ensured_piece, handled_piece, taken_piece, behind_taken, items_piece, stm_piece, all_piece, branches_piece, handlers_piece}
use Rattle.sem_compile.specs.stm_pieces.Names.{TakesCells, Value_named, Items_named, Target_named, Stm_named, All_named, Branches_named, Handlers_named}
use Rattle.law_pieces.specs.piece_kinds.Typed.{Over}
use Rattle.law_pieces.proofs.piece_kinds.ListLemmas.{over_itself, over_more}
use Rattle.law_typed_pieces.proofs.typed_pieces.Expressions as expressions
use Rattle.law_typed_pieces.proofs.typed_pieces.Expressions.{iterator, null}
use Rattle.law_typed_pieces.proofs.typed_pieces.Statements as statements
use Rattle.law_typed_pieces.proofs.typed_pieces.Statements.{exception, exit, pending, HoldsNone, Out, Outs, Tested, while_tested, while_test, for_tested, for_test, val, to_target, stored, taken_so, Taken_named}
use Rattle.law_pieces.proofs.piece_acts.Expressions.{exp_tops, target_tops}
use Rattle.law_pieces.proofs.piece_acts.Statements.{all_tops, stm_tops, items_tops, begun_tops}
use Rattle.law_parts.specs.part_slots.Slots.{PartSlot, part_slot, tests_slot, finally_slot, slots_of_items, begun_at, behind_tests, slots_in, slots_of_all, slots_of_branches, slots_of_handlers}
use Rattle.law_parts.specs.part_slots.Text.{Grammatical, All_grammatical, Branches_grammatical, Handlers_grammatical}
use Rattle.law_parts.proofs.part_slots.On.{Ons, Branch, branch_of, branch, Handler', handler_of, handler, GivesClass, body_some, stm_on, all_on}
use Rattle.law_parts.proofs.part_slots.Walks.{Told, told_front, told_back, must}
use Rattle.law_parts.specs.part_slots.Parts.{AreOf, AreOthers}
use Rattle.law_parts.proofs.part_slots.Apart as apart
use Rattle.law_parts.proofs.part_slots.Apart.{Spreads}
use Rattle.law_parts.specs.plain_slots.Plain.{Each, Numbers}
use Rattle.law_parts.specs.plain_slots.Laws.{Between, AllWithin}
use Rattle.law_parts.proofs.plain_slots.Forms as forms
use Rattle.law_parts.proofs.plain_slots.Simple as simple
use Rattle.law_parts.proofs.plain_slots.Grows.{plain_grown}
use Rattle.sem_control.specs.control.Nests.{Each_says, Stm_says, Stms_say, Branches_say, Handlers_say, Items_say}
use Rattle.law_parts.specs.act_parts.Laws.{placed_in}

-- one of these slots
abbrev pub In : PartSlot → List PartSlot → Type 0
In s [] = ⊥
In s (t ∷ ts) = (s ≡ t) ⊎ In s ts

pub in_either : (s : PartSlot) (f g : List PartSlot) → In s (f ++ g) → In s f ⊎ In s g
in_either s [] g i = inr i
in_either s (t ∷ f) g (inl e) = inl (inl e)
in_either s (t ∷ f) g (inr i) = ⊎_elim (λ j. inl (inr j)) (λ j. inr j) (in_either s f g i)

pub in_left : (s : PartSlot) (f g : List PartSlot) → In s f → In s (f ++ g)
in_left s [] g i = absurd i
in_left s (t ∷ f) g (inl e) = inl e
in_left s (t ∷ f) g (inr i) = inr (in_left s f g i)

pub in_right : (s : PartSlot) (f g : List PartSlot) → In s g → In s (f ++ g)
in_right s [] g i = i
in_right s (t ∷ f) g i = inr (in_right s f g i)

of_within : (a z : ℕ) (s : PartSlot) (ss : List PartSlot) → apart.Within a z ss → In s ss
    → (a < s.origin) × (s.origin < z)
of_within a z s [] w i = absurd i
of_within a z s (t ∷ ss) (l, h, w) (inl e) = (
  subst (λ (u : PartSlot). a < u.origin) (sym e) l,
  subst (λ (u : PartSlot). u.origin < z) (sym e) h,
)
of_within a z s (t ∷ ss) (l, h, w) (inr i) = of_within a z s ss w i

origin_of : (s : PartSlot) (q : Part) (j o : ℕ) → s ≡ part_slot q j o → s.origin ≡ o
origin_of s q j o e = ap (λ (u : PartSlot). u.origin) e

below_above : (q : Piece) (z : ℕ) → above q ≤ z → Numbers (λ j. j < z) q
below_above P.empty z h = tt
below_above (P.act op n l g) z h = omega (arith, h)
below_above (P.move op) z h = tt
below_above (P.seq a d) z h = (
  below_above a z (omega (arith, h)),
  below_above d z
      (omega (arith, h)),
)
below_above (P.block q) z h = below_above q z h
below_above (P.headed q) z h = below_above q z h
below_above (P.closed q) z h = below_above q z h
below_above (P.looped k q) z h = below_above q z h
below_above (P.leave e n l) z h = omega (arith, h)
below_above (P.ensured q) z h = below_above q z h
below_above (P.caught q r) z h = (
  below_above q z (omega (arith, h)),
  below_above r z
      (omega (arith, h)),
)
below_above (P.deeper k q) z h = below_above q z h
below_above (P.started l q) z h = below_above q z h
below_above (P.numbered n q) z h = below_above q z h

numbers_of : (R U : ℕ → Type 0) → ((j : ℕ) → R j → U j) → (q : Piece) → Numbers R q → Numbers U q
numbers_of R U f P.empty h = tt
numbers_of R U f (P.act op n l g) h = f n h
numbers_of R U f (P.move op) h = tt
numbers_of R U f (P.seq a d) h = (numbers_of R U f a h.0, numbers_of R U f d h.1)
numbers_of R U f (P.block q) h = numbers_of R U f q h
numbers_of R U f (P.headed q) h = numbers_of R U f q h
numbers_of R U f (P.closed q) h = numbers_of R U f q h
numbers_of R U f (P.looped k q) h = numbers_of R U f q h
numbers_of R U f (P.leave e n l) h = f n h
numbers_of R U f (P.ensured q) h = numbers_of R U f q h
numbers_of R U f (P.caught q r) h = (numbers_of R U f q h.0, numbers_of R U f r h.1)
numbers_of R U f (P.deeper k q) h = numbers_of R U f q h
numbers_of R U f (P.started l q) h = numbers_of R U f q h
numbers_of R U f (P.numbered n q) h = numbers_of R U f q h

and_last : (s t : Bool) → t ≡ false → (s && t) ≡ false
and_last true t e = e
and_last false t e = refl

module _ {V : Type 0} (code : CodeObject V) (table : List Start) (b : Block) (same : (pc : ℕ)
    → code.at pc ≡ b.at pc) (rises : Rises b) (at : Table)
    (slots : Part → Option PartSlot) (pc : ℕ) (i : Ins) (here : b.at pc ≡ Some i) (m : ActMark)
    (marked : i.mark ≡ Some m) (found : StackMap)
    (there : at pc ≡ Some found) where
  abbrev next : ℕ → ℕ
  next = next_of b

  abbrev number : ℕ
  number = m.act.0

  abbrev laid : (p : Piece) (L : List Target) (x : Context) (c : Setting)
      (Ls : List (Option StackMap)) (base : StackMap) (from to : ℕ) (s : Option StackMap) → Type 0
  laid p L x c Ls base from to s = Laid code table b same rises at p L x c Ls base from to s

  -- if the act's number is one of these
  abbrev pub Within : (n z : ℕ) → Type 0 → Type 0
  Within n z X = n ≤ number → number < z → X

  -- the place stands there, and no slot of a part but these is made on the way to it
  pub record Placed (from to : ℕ) (f : List PartSlot) : Type 0 where
    pub low : from ≤ pc
    pub high : pc < to
    pub out : (q : Part) (s : PartSlot) → slots q ≡ Some s → (s.origin ≤ from) ⊎ ((pc < s.origin)
        ⊎ In s f)

  pub record Has (q : Piece) (c : Setting) (base : StackMap) (from : ℕ) (ks : StackMap) (n z : ℕ)
      (f : List PartSlot) (T : Type 0) : Type 0 where
    pub has : (L : List Target) (x : Context) (Ls : List (Option StackMap)) (to : ℕ) → laid q L x c
        Ls base from to (Some ks) → Within n z (Placed from to f) → T

  -- an instruction with the place

  is_same : (p : ℕ) (j : Ins) → b.at p ≡ Some j → pc ≡ p → i ≡ j
  is_same p j e f = is_some_of (sym here ∙ (ap b.at f ∙ e))

  number_is : (p n l : ℕ) (g : Bool) (to : ℕ) (rows : List Handler) (j : Instr) → b.at p
      ≡ Some (ins j (act_mark p n l g) to rows) → pc ≡ p → n ≡ number
  number_is p n l g to rows j e f =
      ap (λ (a : ActMark). a.act.0) (is_some_of (sym (sym marked ∙ ap (λ (u : Ins). u.mark)
      (is_same p (ins j (act_mark p n l g) to rows) e f))))

  unmarked : (p to : ℕ) (rows : List Handler) (j : Instr) → b.at p ≡ Some (ins j None to rows) → pc
      ≡ p → ⊥
  unmarked p to rows j e f = not_both (sym marked ∙ ap (λ (u : Ins). u.mark)
      (is_same p (ins j None to rows) e f))

  only_at : (p : ℕ) (s : Option StackMap) → (if nat_eq pc p then s else None) ≡ Some found → pc ≡ p
  only_at p s e = by (nat_eq pc p) refl e
    where
      by : (t : Bool) → nat_eq pc p ≡ t → (if t then s else None) ≡ Some found → pc ≡ p
      by true f e = eqb-true pc p f
      by false f e = not_both (sym e)

  either_of : {X : Type 0} (t : Bool) (u v : Option StackMap) → (u ≡ Some found → X)
      → (v ≡ Some found → X) → (if t then u else v) ≡ Some found → X
  either_of true u v f g e = f e
  either_of false u v f g e = g e

  module _ (R : ℕ → Type 0) where
    numbers_hold : (q : Piece) → Numbers R q → (L : List Target) (x : Context) (c : Setting)
        (base : StackMap) (from to : ℕ) (s : Option StackMap)
        → Piece_at code table q L x from to → slots_at b.links next q c base from s pc ≡ Some found
        → R number
    numbers_hold P.empty h L x c base from to s l e = not_both (sym e)
    numbers_hold (P.act op n k g) h L x c base from to s (j, y, l) e =
        subst R (number_is from n k g to x.rows j (stands_at code table b same rises x.rows j
        (act_mark from n k g) from to l) (only_at from s e)) h
    numbers_hold (P.move op) h L x c base from to s (j, y, l) e =
        absurd (unmarked from to x.rows j (stands_at code table b same rises x.rows j None from to
        l) (only_at from s e))
    numbers_hold (P.seq a d) h L x c base from to s (y, l, r) e =
        let o = ends code table b same rises a L x from y l in
        either_of (nat_lt pc (end_of next a from)) _ _ (numbers_hold a h.0 L x c base from y s l)
        (numbers_hold d h.1 L x c base (end_of next a from) to (behind b.links next a c base from s)
        (subst (λ p. Piece_at code table d L x p to) (sym o) r)) e
    numbers_hold (P.block q) h L x c base from to s l e = numbers_hold q h (target to x.depth ∷ L) x
        (with_label (end_of next q from) c) base from to s l e
    numbers_hold (P.headed q) h L x c base from to s l e = numbers_hold q h (target from x.depth
        ∷ L) x (with_label from c) base from to s l e
    numbers_hold (P.closed q) h L x c base from to s l e = numbers_hold q h [] x (with_none c) base
        from to s l e
    numbers_hold (P.looped k q) h L x c base from to s (u, v, l) e =
        numbers_hold q h [] (in_loop (pick start_of L k) to x) (with_loop k (end_of next q from)
        (length base) c) base from to s l e
    numbers_hold (P.leave y n k) h L x c base from to s l e =
        let (t, r) = leave_stands code table b same rises x.around y n k x.rows from to l in
        subst R (number_is from n k false to x.rows (instr.Leave (record { 0 = t }))
        (stands_at code table b same rises x.rows (instr.Leave (record { 0 = t })) (act_mark from n
        k false) from to r) (only_at from s e)) h
    numbers_hold (P.ensured q) h L x c base from to s (u, (y, l, r)) e =
        let row = row_of from to to x.depth true in
        let o = ends code table b same rises q [] (under row x) from y l in
        either_of (nat_lt pc (end_of next q from)) _ _ (numbers_hold q h [] (under row x)
        (with_none c) base from y s l)
        (λ g. absurd (unmarked y to (row ∷ x.rows) instr.Normal (stands_at code table b same rises
        (row ∷ x.rows) instr.Normal None y to r)
        (only_at (end_of next q from) (behind b.links next q (with_none c) base from s) g ∙ o))) e
    numbers_hold (P.caught q r) h L x c base from to s (y, l, u) e =
        let o = ends code table b same rises q [] (under (row_of from y to x.depth false) x) from y
        l in
        either_of (nat_lt pc (end_of next q from)) _ _ (numbers_hold q h.0 []
        (under (row_of from y to x.depth false) x) (with_none c) base from y s l)
        (numbers_hold r h.1 L x c base (end_of next q from) to (behind b.links next q (with_none c)
        base from s) (subst (λ p. Piece_at code table r L x p to) (sym o) u)) e
    numbers_hold (P.deeper k q) h L x c base from to s l e = numbers_hold q h L (over k x) c _ from
        to s l e
    numbers_hold (P.started k q) h L x c base from to s (u, l) e = numbers_hold q h L x c base from
        to s l e
    numbers_hold (P.numbered k q) h L x c base from to s l e = numbers_hold q h L x c base from to s
        l e

  -- the place doesn't stand in a piece
  pub record Shuns (q : Piece) : Type 0 where
    pub not : (L : List Target) (x : Context) (c : Setting) (Ls : List (Option StackMap))
        (base : StackMap) (from to : ℕ) (s : Option StackMap)
        → laid q L x c Ls base from to s → from ≤ pc → pc < to → ⊥

  pub by_numbers : (R : ℕ → Type 0) → (R number → ⊥) → (q : Piece) → Numbers R q → Shuns q
  by_numbers R refuted q h = record {
    not = λ L x c Ls base from to s l u v. refuted (numbers_hold R q h L x c base from to s l.stands
        (sym (l.agrees pc u v) ∙ there));
  }

  pub higher : (q : Piece) → Numbers (λ j. number < j) q → Shuns q
  higher q h = by_numbers (λ j. number < j) (λ l. omega (arith, l)) q h

  pub lower : (q : Piece) → above q ≤ number → Shuns q
  lower q h = by_numbers (λ j. j < number) (λ l. omega (arith, l)) q (below_above q number h)

  -- in a plain piece, and at an instruction

  others : (from to high : ℕ) → Placed from to [] → high ≤ pc → (ks : StackMap) → AllWithin from
      high ks → AreOthers slots ks
  others from to high p l [] h = tt
  others from to high p l (k ∷ ks) ((f, g), hs) = (f, apart_from, others from to high p l ks hs)
    where
      apart_from : (q : Part) (s : PartSlot) → slots q ≡ Some s → k.origin ≡ Some s.origin → ⊥
      apart_from q s e o =
          let w : Between from high (Some s.origin) = subst (Between from high) o g in
          let a : from < s.origin = w.0 in
          let z : s.origin ≤ high = w.1 in
          ⊎_elim (λ u. omega (arith, u, a)) (λ u. ⊎_elim (λ v. omega (arith, v, z, l)) (λ v. v) u)
          (p.out q s e)

  module _ (Q : List Part → Type 0)
      (shown : (ps : List Part) (above base : StackMap) → found ≡ above ++ base → AreOf slots ps
      base → AreOthers slots above → Q ps) where
    pub leaf : (R : ℕ → Type 0) {q : Piece} {c : Setting} {base : StackMap} {from n z : ℕ}
        (Ls : List (Option StackMap)) (ps : List Part) (F up : StackMap) → Each R q
        → Typed b.links next q c Ls F from (Some (up ++ F)) → AllWithin from from up → AreOf slots
        ps F → Has q c base from (up ++ F) n z [] (Within n z (Q ps))
    leaf R {q} {c} {base} {from} Ls ps F up h t w a = record {
      has = λ L x Ms to l place u v.
          let p = place u v in
          let g = plain_grown R code table b same rises q h L x c Ls base F from to l.stands
          (up ++ F) t (record { above = up; is = refl; made = w }) pc found
          (sym (l.agrees pc p.low p.high) ∙ there) in
          shown ps g.above F g.is a (others from to pc p (omega arith) g.above g.made);
    }

    pub one : {op : Op} {k l : ℕ} {g : Bool} {c : Setting} {base : StackMap} {from n z : ℕ}
        (ps : List Part) (F up : StackMap) → AllWithin from from up → AreOf slots ps F
        → Has (P.act op k l g) c base from (up ++ F) n z [] (Within n z (Q ps))
    one {from = from} ps F up w a = record {
      has = λ L x Ms to l place u v.
          let p = place u v in
          let e = sym (l.agrees pc p.low p.high) ∙ there in
          shown ps up F (whole e) a (others from to from p p.low up w);
    }
      where
        whole : (if nat_eq pc from then Some (up ++ F) else None) ≡ Some found → found ≡ up ++ F
        whole e = by (nat_eq pc from) e
          where
            by : (t : Bool) → (if t then Some (up ++ F) else None) ≡ Some found → found ≡ up ++ F
            by true e = sym (is_some_of e)
            by false e = not_both (sym e)

  -- several things, in fewer numbers, of more slots

  pub both : {q : Piece} {c : Setting} {base : StackMap} {from : ℕ} {ks : StackMap} {n z : ℕ}
      {f : List PartSlot} {T U : Type 0} → Has q c base from ks n z f T
      → Has q c base from ks n z f U → Has q c base from ks n z f (T × U)
  both u v = record { has = λ L x Ls to l p. (u.has L x Ls to l p, v.has L x Ls to l p) }

  pub to : {q : Piece} {c : Setting} {base : StackMap} {from : ℕ} {ks : StackMap} {n z : ℕ}
      {f : List PartSlot} {T U : Type 0} → (T → U) → Has q c base from ks n z f T
      → Has q c base from ks n z f U
  to g u = record { has = λ L x Ls to l p. g (u.has L x Ls to l p) }

  pub known : {q : Piece} {c : Setting} {base : StackMap} {from : ℕ} {ks : StackMap} {n z : ℕ}
      {f : List PartSlot} {T : Type 0} → T → Has q c base from ks n z f T
  known t = record { has = λ L x Ls to l p. t }

  pub narrow : {q : Piece} {c : Setting} {base : StackMap} {from : ℕ} {ks : StackMap} {n z j w : ℕ}
      {f : List PartSlot} {T : Type 0} → n ≤ j → w ≤ z
      → Has q c base from ks j w f T → Has q c base from ks n z f T
  narrow l h u = record {
    has = λ L x Ls to d p. u.has L x Ls to d (λ y v. p (omega (arith, l, y))
        (omega (arith, h, v)));
  }

  listed : {from to : ℕ} {f g : List PartSlot} → ((s : PartSlot) → In s f → In s g) → Placed from to
      f → Placed from to g
  listed h p = record {
    low = p.low;
    high = p.high;
    out = λ q s e. ⊎_elim inl
        (λ u. inr (⊎_elim inl (λ v. inr (h s v)) u)) (p.out q s e);
  }

  pub relist : {q : Piece} {c : Setting} {base : StackMap} {from : ℕ} {ks : StackMap} {n z : ℕ}
      {f g : List PartSlot} {T : Type 0} → ((s : PartSlot) → In s f → In s g)
      → Has q c base from ks n z g T → Has q c base from ks n z f T
  relist h u = record { has = λ L x Ls to l p. u.has L x Ls to l (λ y v. listed h (p y v)) }

  -- in the first or the second of a sequence

  front_laid : {a d : Piece} {L : List Target} {x : Context} {c : Setting}
      {Ls : List (Option StackMap)} {base : StackMap} {from to : ℕ} {ks : StackMap}
      (l : laid (P.seq a d) L x c Ls base from to (Some ks)) → laid a L x c Ls base from
      (l.stands).0 (Some ks)
  front_laid {a} {d} {L} {x} {c} {Ls} {base} {from} {to} {ks} l =
      first code table b same rises at L x c Ls base from to ks a d l
      (λ ls g. begins code table b same rises at d L x c Ls base (l.stands).0 to ls
      (subst (λ z. laid d L x c Ls base (l.stands).0 to z) g (second code table b same rises at L x
      c Ls base from to ks a d l)))

  -- which slots of the whole are those of the first, and of the second, where the place is in it
  abbrev ToFront : (d : Piece) (mid : ℕ) (f g : List PartSlot) → Type 0
  ToFront d mid f g = (L : List Target) (x : Context) (to : ℕ) → Piece_at code table d L x mid to
      → pc < mid → (s : PartSlot) → In s f → (pc < s.origin) ⊎ In s g

  abbrev ToBack : (a : Piece) (from mid : ℕ) (f g : List PartSlot) → Type 0
  ToBack a from mid f g = (L : List Target) (x : Context) → Piece_at code table a L x from mid
      → mid ≤ pc → (s : PartSlot) → In s f → (s.origin ≤ mid) ⊎ ((pc < s.origin) ⊎ In s g)

  in_front_of : (d : Piece) (L : List Target) (x : Context) {from to mid : ℕ} {f g : List PartSlot}
      → Piece_at code table d L x mid to → ToFront d mid f g → pc < mid
      → Placed from to f → Placed from mid g
  in_front_of d L x {from} {to} {mid} {f} {g} st h l p = record {
    low = p.low;
    high = l;
    out = λ q s e. ⊎_elim inl (λ u. inr (⊎_elim inl (λ v. h L x to st l s v) u)) (p.out q s e);
  }

  in_back_of : (a : Piece) (L : List Target) (x : Context) {from to mid : ℕ} {f g : List PartSlot}
      → Piece_at code table a L x from mid → ToBack a from mid f g → from ≤ mid
      → mid ≤ pc → Placed from to f → Placed mid to g
  in_back_of a L x {from} {to} {mid} {f} {g} st h o l p = record {
    low = l;
    high = p.high;
    out = λ q s e. ⊎_elim (λ u. inl (omega (arith, u, o))) (⊎_elim (λ u. inr (inl u)) (λ u. h L x st
        l s u)) (p.out q s e);
  }

  before : {a d : Piece} {c : Setting} {base : StackMap} {from : ℕ} {ks : StackMap} {n z : ℕ}
      {f g : List PartSlot} {T : Type 0} → Has a c base from ks n z g T
      → Within n z (Shuns d) → ((mid : ℕ) → end_of next a from ≡ mid → ToFront d mid f g)
      → Has (P.seq a d) c base from ks n z f T
  before {a} {d} {c} {base} {from} {ks} w sh h = record {
    has = λ L x Ls to l p.
        let e = ends code table b same rises a L x from (l.stands).0 (l.stands).1 in
        w.has L x Ls (l.stands).0 (front_laid l)
        (λ u v. ⊎_elim (λ y. in_front_of d L x (l.stands).2 (h (l.stands).0 e) y (p u v))
        (λ y. absurd ((sh u v).not L x c Ls base (l.stands).0 to (behind b.links next a c base from
        (Some ks)) (second code table b same rises at L x c Ls base from to ks a d l) y
        (p u v).high))
        (cases_lt pc (l.stands).0));
  }

  back_laid : {a d : Piece} {L : List Target} {x : Context} {c : Setting}
      {Ls : List (Option StackMap)} {base : StackMap} {from to : ℕ} {ks ms : StackMap}
      → behind b.links next a c base from (Some ks) ≡ Some ms → laid (P.seq a d) L x c Ls base from
      to (Some ks) → laid d L x c Ls base (end_of next a from) to (Some ms)
  back_laid {a} {d} {L} {x} {c} {Ls} {base} {from} {to} {ks} {ms} e l =
      subst (λ m. laid d L x c Ls base m to (Some ms)) (sym (ends code table b same rises a L x from
      (l.stands).0 (l.stands).1))
      (subst (λ z. laid d L x c Ls base (l.stands).0 to z) e (second code table b same rises at L x
      c Ls base from to ks a d l))

  after : {a d : Piece} {c : Setting} {base : StackMap} {from : ℕ} {ks : StackMap} {n z : ℕ}
      {f g : List PartSlot} {T : Type 0} (ms : StackMap)
      → behind b.links next a c base from (Some ks) ≡ Some ms → Has d c base (end_of next a from) ms
      n z g T → Within n z (Shuns a)
      → ((mid : ℕ) → end_of next a from ≡ mid → ToBack a from mid f g) → Has (P.seq a d) c base from
      ks n z f T
  after {a} {d} {c} {base} {from} {ks} {n} {z} {f} {g} ms e w sh h = record {
    has = λ L x Ls to l p. w.has L x Ls to (back_laid e l)
        (λ u v. subst (λ o. Placed o to g) (sym (ends code table b same rises a L x from
        (l.stands).0 (l.stands).1)) (placed L x Ls to l (sh u v) (p u v)));
  }
    where
      placed : (L : List Target) (x : Context) (Ls : List (Option StackMap)) (to : ℕ)
          (l : laid (P.seq a d) L x c Ls base from to (Some ks)) → Shuns a → Placed from to f
          → Placed (l.stands).0 to g
      placed L x Ls to l sh p =
          ⊎_elim (λ y. absurd (sh.not L x c Ls base from (l.stands).0 (Some ks) (front_laid l) p.low
          y))
          (λ y. in_back_of a L x (l.stands).1 (h (l.stands).0 (ends code table b same rises a L x
          from (l.stands).0 (l.stands).1)) (in_order L x from (l.stands).0 (l.stands).1) y p)
          (cases_lt pc (l.stands).0)
        where
          in_order : (L : List Target) (x : Context) (from to : ℕ) → Piece_at code table a L x from
              to → from ≤ to
          in_order L x from to s = ordered code table b same rises a L x from to s

  -- where nothing may go on to the second
  after_if : {a d : Piece} {c : Setting} {base : StackMap} {from : ℕ} {ks : StackMap} {n z : ℕ}
      {f g : List PartSlot} {X : Type 0} (t : Bool) (ms : StackMap)
      → behind b.links next a c base from (Some ks) ≡ goes_if t ms → Has d c base (end_of next a
      from) ms n z g (Within n z X) → Within n z (Shuns a)
      → ((mid : ℕ) → end_of next a from ≡ mid → ToBack a from mid f g) → Has (P.seq a d) c base from
      ks n z f (Within n z X)
  after_if true ms e w sh h = after ms e w sh h
  after_if {a} {d} {c} {base} {from} {ks} {n} {z} {f} false ms e w sh h = record {
    has = λ L x Ls to l p u v. absurd (nowhere L x Ls to l (sh u v) (p u v));
  }
    where
      nowhere : (L : List Target) (x : Context) (Ls : List (Option StackMap)) (to : ℕ)
          → laid (P.seq a d) L x c Ls base from to (Some ks) → Shuns a → Placed from to f → ⊥
      nowhere L x Ls to l sh p =
          let u = subst (λ z. laid d L x c Ls base (l.stands).0 to z) e (second code table b same
          rises at L x c Ls base from to ks a d l) in
          ⊎_elim (λ y. sh.not L x c Ls base from (l.stands).0 (Some ks) (front_laid l) p.low y)
          (λ y. not_both (sym there ∙ (u.agrees pc y p.high ∙ nothing_at b.links next d c base
          (l.stands).0 pc))) (cases_lt pc (l.stands).0)

  in_one : {a d : Piece} {c : Setting} {base : StackMap} {from : ℕ} {ks : StackMap} {n z : ℕ}
      {f g h : List PartSlot} {X : Type 0} (ms : StackMap)
      → behind b.links next a c base from (Some ks) ≡ Some ms → Has a c base from ks n z g
      (Within n z X) → Has d c base (end_of next a from) ms n z h (Within n z X)
      → ((mid : ℕ) → end_of next a from ≡ mid → ToFront d mid f g) → ((mid : ℕ) → end_of next a from
      ≡ mid → ToBack a from mid f h)
      → Has (P.seq a d) c base from ks n z f (Within n z X)
  in_one {a} {d} {c} {base} {from} {ks} {n} {z} {f} {g} {h} ms e w y front back = record {
    has = λ L x Ls to l p u v.
        let o = ends code table b same rises a L x from (l.stands).0 (l.stands).1 in
        ⊎_elim (λ t. w.has L x Ls (l.stands).0 (front_laid l) (λ u v. in_front_of d L x (l.stands).2
        (front (l.stands).0 o) t (p u v)) u v)
        (λ t. y.has L x Ls to (back_laid e l)
        (λ u v. subst (λ o. Placed o to h) (sym o) (in_back_of a L x (l.stands).1 (back (l.stands).0
        o) (ordered code table b same rises a L x from (l.stands).0 (l.stands).1) t (p u v))) u v)
        (cases_lt pc (l.stands).0);
  }

  -- what is made in the second is made behind the place in the first, and the other way round

  made_behind : {d : Piece} {f : (from : ℕ) → List PartSlot} {mid : ℕ} (to : ℕ) (L : List Target)
      (x : Context) → Spreads code table b same rises d f → Piece_at code table d L x mid to
      → pc < mid → (s : PartSlot) → In s (f mid) → pc < s.origin
  made_behind {d} {f} {mid} to L x sp st l s i = let r = sp.spread L x mid to st
      in let w = of_within mid to s (f mid) r.within i in omega (arith, l, w.0)

  made_before : {a : Piece} {f : (from : ℕ) → List PartSlot} {mid : ℕ} (from : ℕ) (L : List Target)
      (x : Context) → Spreads code table b same rises a f → Piece_at code table a L x from mid
      → (s : PartSlot) → In s (f from) → s.origin ≤ mid
  made_before {a} {f} {mid} from L x sp st s i = let r = sp.spread L x from mid st
      in let w = of_within from mid s (f from) r.within i in omega (arith, w.1)

  module _ {a d : Piece} {c : Setting} {base : StackMap} {from : ℕ} {ks : StackMap} {n z : ℕ}
      {T : Type 0} where
    -- the slots are all those of the first
    pub front_all : {f : List PartSlot} → Has a c base from ks n z f T → Within n z (Shuns d)
        → Has (P.seq a d) c base from ks n z f T
    front_all w sh = before w sh (λ mid e L x to st l s i. inr i)

    pub front : {f : List PartSlot} (g : (from : ℕ) → List PartSlot) → Has a c base from ks n z f T
        → Spreads code table b same rises d g → Within n z (Shuns d)
        → Has (P.seq a d) c base from ks n z (f ++ g (end_of next a from)) T
    front {f} g w sp sh = before w sh
        (λ mid e L x to st l s i. ⊎_elim (λ j. inr j) (λ j. inl (made_behind to L x sp st l s
        (subst (λ o. In s (g o)) e j))) (in_either s f (g (end_of next a from)) i))

    -- of the second
    pub front_none : (g : (from : ℕ) → List PartSlot) → Has a c base from ks n z [] T → Spreads code
        table b same rises d g → Within n z (Shuns d)
        → Has (P.seq a d) c base from ks n z (g (end_of next a from)) T
    front_none g w sp sh = before w sh (λ mid e L x to st l s i. inl (made_behind to L x sp st l s
        (subst (λ o. In s (g o)) e i)))

    -- of the second, but for one that is made between the two
    pub front_made : (q : Part) (j : ℕ) (g : (from : ℕ) → List PartSlot) → Has a c base from ks n z
        [] T → Spreads code table b same rises d g → Within n z (Shuns d)
        → Has (P.seq a d) c base from ks n z (part_slot q j (end_of next a from)
        ∷ g (end_of next a from)) T
    front_made q j g w sp sh = before w sh
        (λ mid e L x to st l s i. inl (⊎_elim (λ f. let o = origin_of s q j (end_of next a from) f
        in omega (arith, l, e, o))
        (λ y. made_behind to L x sp st l s (subst (λ o. In s (g o)) e y)) i))

    pub front_more : {f : List PartSlot} (q : Part) (j : ℕ) (g : (from : ℕ) → List PartSlot)
        → Has a c base from ks n z f T → Spreads code table b same rises d g
        → Within n z (Shuns d) → Has (P.seq a d) c base from ks n z (part_slot q j (end_of next a
        from) ∷ (f ++ g (end_of next a from))) T
    front_more {f} q j g w sp sh = before w sh
        (λ mid e L x to st l s i. ⊎_elim (λ y. inl (let o = origin_of s q j (end_of next a from) y
        in omega (arith, l, e, o)))
        (λ y. ⊎_elim (λ v. inr v) (λ v. inl (made_behind to L x sp st l s (subst (λ o. In s (g o)) e
        v))) (in_either s f (g (end_of next a from)) y)) i)

    -- of the first, but for that one
    pub front_last : {f : List PartSlot} (q : Part) (j : ℕ) → Has a c base from ks n z f T
        → Within n z (Shuns d)
        → Has (P.seq a d) c base from ks n z (part_slot q j (end_of next a from) ∷ f) T
    front_last q j w sh = before w sh (λ mid e L x to st l s i. ⊎_elim (λ f. inl (let o = origin_of
        s q j (end_of next a from) f in omega (arith, l, e, o))) (λ y. inr y) i)

    module _ (ms : StackMap) (e : behind b.links next a c base from (Some ks) ≡ Some ms) where
      pub back_all : {g : List PartSlot} → Has d c base (end_of next a from) ms n z g T → Within n z
          (Shuns a) → Has (P.seq a d) c base from ks n z g T
      back_all w sh = after ms e w sh (λ mid o L x st l s i. inr (inr i))

      pub back : {g : List PartSlot} (f : (from : ℕ) → List PartSlot) → Has d c base (end_of next a
          from) ms n z g T → Spreads code table b same rises a f → Within n z (Shuns a)
          → Has (P.seq a d) c base from ks n z (f from ++ g) T
      back {g} f w sp sh = after ms e w sh (λ mid o L x st l s i. ⊎_elim
          (λ j. inl (made_before from L x sp st s j)) (λ j. inr (inr j)) (in_either s (f from) g i))

      pub back_made : {g : List PartSlot} (q : Part) (j : ℕ) → Has d c base (end_of next a from) ms
          n z g T → Within n z (Shuns a)
          → Has (P.seq a d) c base from ks n z (part_slot q j (end_of next a from) ∷ g) T
      back_made q j w sh = after ms e w sh
          (λ mid o L x st l s i. ⊎_elim (λ f. inl (let y = origin_of s q j (end_of next a from) f
          in omega (arith, o, y))) (λ y. inr (inr y)) i)

      pub back_more : {g : List PartSlot} (q : Part) (j : ℕ) (f : (from : ℕ) → List PartSlot)
          → Has d c base (end_of next a from) ms n z g T
          → Spreads code table b same rises a f → Within n z (Shuns a) → Has (P.seq a d) c base from
          ks n z (part_slot q j (end_of next a from) ∷ (f from ++ g)) T
      back_more {g} q j f w sp sh = after ms e w sh
          (λ mid o L x st l s i. ⊎_elim (λ y. inl (let v = origin_of s q j (end_of next a from) y
          in omega (arith, o, v)))
          (λ y. ⊎_elim (λ v. inl (made_before from L x sp st s v)) (λ v. inr (inr v))
          (in_either s (f from) g y)) i)

      pub back_last : (q : Part) (j : ℕ) (f : (from : ℕ) → List PartSlot) → Has d c base
          (end_of next a from) ms n z [] T → Spreads code table b same rises a f
          → Within n z (Shuns a) → Has (P.seq a d) c base from ks n z (part_slot q j (end_of next a
          from) ∷ f from) T
      back_last q j f w sp sh = after ms e w sh
          (λ mid o L x st l s i. ⊎_elim (λ f. inl (let y = origin_of s q j (end_of next a from) f
          in omega (arith, o, y))) (λ y. inl (made_before from L x sp st s y)) i)

  -- an act of either, the slots being those of the second
  pub either : {a d : Piece} {c : Setting} {base : StackMap} {from : ℕ} {ks : StackMap} {n z : ℕ}
      {X : Type 0} (g : (from : ℕ) → List PartSlot) (ms : StackMap)
      → behind b.links next a c base from (Some ks) ≡ Some ms → Has a c base from ks n z []
      (Within n z X)
      → Has d c base (end_of next a from) ms n z (g (end_of next a from)) (Within n z X)
      → Spreads code table b same rises d g
      → Has (P.seq a d) c base from ks n z (g (end_of next a from)) (Within n z X)
  either g ms e u v sp = in_one ms e u v (λ mid o L x to st l s i. inl (made_behind to L x sp st l s
      (subst (λ p. In s (g p)) o i))) (λ mid o L x st l s i. inr (inr i))

  -- behind the body of a loop, from which nothing may go on
  pub behind_body : {a d : Piece} {c : Setting} {base : StackMap} {from : ℕ} {ks : StackMap}
      {n z : ℕ} {X : Type 0} (f : (from : ℕ) → List PartSlot) (t : Bool) (ms : StackMap)
      → behind b.links next a c base from (Some ks) ≡ goes_if t ms → Has d c base (end_of next a
      from) ms n z [] (Within n z X) → Spreads code table b same rises a f
      → Within n z (Shuns a) → Has (P.seq a d) c base from ks n z (f from) (Within n z X)
  behind_body {from = from} f t ms e w sp sh = after_if t ms e w sh (λ mid o L x st l s i. inl
      (made_before from L x sp st s i))

  -- what stands around

  pub closed : {q : Piece} {c : Setting} {base : StackMap} {from : ℕ} {ks : StackMap} {n z : ℕ}
      {f : List PartSlot} {T : Type 0} → Has q (with_none c) base from ks n z f T
      → Has (P.closed q) c base from ks n z f T
  closed {q} {c} {base} {from} {ks} w = record {
    has = λ L x Ls to l. w.has [] x [] to
        (laid_closed code table b same rises at L x c Ls base from to ks q l);
  }

  pub blocked : {q : Piece} {c : Setting} {base : StackMap} {from : ℕ} {ks : StackMap} {n z : ℕ}
      {f : List PartSlot} {T : Type 0}
      → Has q (with_label (end_of next q from) c) base from ks n z f T → Has (P.block q) c base from
      ks n z f T
  blocked {q} {c} {base} {from} {ks} w = record {
    has = λ L x Ls to l. w.has (target to x.depth ∷ L) x (behind b.links next (P.block q) c base
        from (Some ks) ∷ Ls) to
        (laid_block code table b same rises at L x c Ls base from to ks q l);
  }

  pub headed : {q : Piece} {c : Setting} {base : StackMap} {from : ℕ} {ks : StackMap} {n z : ℕ}
      {f : List PartSlot} {T : Type 0} → Has q (with_label from c) base from ks n z f T
      → Has (P.headed q) c base from ks n z f T
  headed {q} {c} {base} {from} {ks} w = record {
    has = λ L x Ls to l. w.has (target from x.depth ∷ L) x (Some ks ∷ Ls) to (laid_head code table b
        same rises at L x c Ls base from to ks q l);
  }

  pub counted : {k : ℕ} {q : Piece} {c : Setting} {base : StackMap} {from : ℕ} {ks : StackMap}
      {n z : ℕ} {f : List PartSlot} {T : Type 0} → Has q c base from ks n z f T
      → Has (P.numbered k q) c base from ks n z f T
  counted {k} {q} {c} {base} {from} {ks} w = record {
    has = λ L x Ls to l. w.has L x Ls to
        (laid_count code table b same rises at L x c Ls base from to ks k q l);
  }

  pub started : {k : ℕ} {q : Piece} {c : Setting} {base : StackMap} {from : ℕ} {ks : StackMap}
      {n z : ℕ} {f : List PartSlot} {T : Type 0} → Has q c base from ks n z f T
      → Has (P.started k q) c base from ks n z f T
  started {k} {q} {c} {base} {from} {ks} w = record {
    has = λ L x Ls to l. w.has L x Ls to
        (at_start code table b same rises at L x c Ls base from to ks k q l);
  }

  pub deeper : {q : Piece} {c : Setting} {base : StackMap} {from n z : ℕ} {f : List PartSlot}
      {T : Type 0} (up : StackMap) (k : Known)
      → Has q c (k ∷ base) from (up ++ k ∷ base) n z f T → Has (P.deeper 1 q) c base from (up ++ k
      ∷ base) n z f T
  deeper {q} {c} {base} {from} up k w = record {
    has = λ L x Ls to l. w.has L (over 1 x) Ls to (subst (λ z. laid q L (over 1 x) c Ls z from to
        (Some (up ++ k ∷ base))) (deepened_is up k base)
        (deep code table b same rises at L x c Ls base from to (up ++ k ∷ base) 1 q l));
  }

  pub looped : {q : Piece} {c : Setting} {base : StackMap} {from : ℕ} {ks : StackMap} {n z : ℕ}
      {f : List PartSlot} {T : Type 0} (k : ℕ)
      → Has q (with_loop k (end_of next q from) (length base) c) base from ks n z f T
      → Has (P.looped k q) c base from ks n z f T
  looped {q} {c} {base} {from} {ks} k w = record {
    has = λ L x Ls to l. w.has [] (in_loop (pick start_of L k) to x) [] to (in_a_loop code table b
        same rises at L x c Ls base from to ks k q l);
  }

  pub ensured : {q : Piece} {c : Setting} {base : StackMap} {from : ℕ} {ks : StackMap} {n z : ℕ}
      {f : List PartSlot} {T : Type 0} → Has q (with_none c) base from ks n z f T
      → Has (P.ensured q) c base from ks n z f T
  ensured {q} {c} {base} {from} {ks} {n} {z} {f} w = record {
    has = λ L x Ls to l p.
        w.has [] (under (row_of from to to x.depth true) x) [] ((l.stands).1).0 (under_row code
        table b same rises at L x c Ls base from to ks q l)
        (λ u v. let y = p u v in record { low = y.low; high = inside L x Ls to l y; out = y.out });
  }
    where
      inside : (L : List Target) (x : Context) (Ls : List (Option StackMap)) (to : ℕ)
          (l : laid (P.ensured q) L x c Ls base from to (Some ks)) → Placed from to f
          → pc < ((l.stands).1).0
      inside L x Ls to l p =
          ⊎_elim (λ y. y) (λ y. absurd (unmarked ((l.stands).1).0 to (row_of from to to x.depth true
          ∷ x.rows) instr.Normal
          (stands_at code table b same rises (row_of from to to x.depth true ∷ x.rows) instr.Normal
          None ((l.stands).1).0 to ((l.stands).1).2)
          (only_at ((l.stands).1).0 (behind b.links next q (with_none c) base from (Some ks))
          (sym (normal_alone code table b same rises at L x c Ls base from to ks q l pc y p.high)
          ∙ there))))
          (cases_lt pc ((l.stands).1).0)

  -- what is caught, and what is skipped
  pub caught_first : {q r : Piece} {c : Setting} {base : StackMap} {from : ℕ} {ks : StackMap}
      {n z : ℕ} {f : List PartSlot} {T : Type 0} (g : (from : ℕ) → List PartSlot)
      → Has q (with_none c) base from ks n z f T → Spreads code table b same rises r g → Within n z
      (Shuns r)
      → Has (P.caught q r) c base from ks n z (f ++ g (end_of next q from)) T
  caught_first {q} {r} {c} {base} {from} {ks} {n} {z} {f} g w sp sh = record {
    has = λ L x Ls to l p. w.has [] (under (row_of from (l.stands).0 to x.depth false) x) []
        (l.stands).0
        (under_except code table b same rises at L x c Ls base from to ks q r l (λ ls y. begins code
        table b same rises at r L x c Ls base (l.stands).0 to ls
        (subst (λ s. laid r L x c Ls base (l.stands).0 to s) y (behind_row code table b same rises
        at L x c Ls base from to ks q r l))))
        (λ u v. ⊎_elim (λ y. in_front_of r L x (l.stands).2 (narrows L x to (l.stands).0
        (l.stands).1) y (p u v))
        (λ y. absurd ((sh u v).not L x c Ls base (l.stands).0 to (behind b.links next q
        (with_none c) base from (Some ks))
        (behind_row code table b same rises at L x c Ls base from to ks q r l) y (p u v).high))
        (cases_lt pc (l.stands).0));
  }
    where
      narrows : (L : List Target) (x : Context) (to mid : ℕ) → Piece_at code table q []
          (under (row_of from mid to x.depth false) x) from mid → ToFront r mid
          (f ++ g (end_of next q from)) f
      narrows L x to mid h M y end st l s i =
          ⊎_elim (λ j. inr j) (λ j. inl (made_behind end M y sp st l s
          (subst (λ o. In s (g o)) (ends code table b same rises q []
          (under (row_of from mid to x.depth false) x) from mid h) j))) (in_either s f
          (g (end_of next q from)) i)

  pub caught_second : {q r : Piece} {c : Setting} {base : StackMap} {from : ℕ} {ks : StackMap}
      {n z : ℕ} {g : List PartSlot} {T : Type 0} (f : (from : ℕ) → List PartSlot) (ms : StackMap)
      → behind b.links next q (with_none c) base from (Some ks) ≡ Some ms → Has r c base
      (end_of next q from) ms n z g T → Spreads code table b same rises q f → Within n z (Shuns q)
      → Has (P.caught q r) c base from ks n z (f from ++ g) T
  caught_second {q} {r} {c} {base} {from} {ks} {n} {z} {g} f ms e w sp sh = record {
    has = λ L x Ls to l p.
        let o = ends code table b same rises q [] (under (row_of from (l.stands).0 to x.depth false)
        x) from (l.stands).0 (l.stands).1 in
        w.has L x Ls to (subst (λ m. laid r L x c Ls base m to (Some ms)) (sym o)
        (subst (λ s. laid r L x c Ls base (l.stands).0 to s) e (behind_row code table b same rises
        at L x c Ls base from to ks q r l)))
        (λ u v. subst (λ o. Placed o to g) (sym o) (placed L x Ls to l (sh u v) (p u v)));
  }
    where
      tried : (L : List Target) (x : Context) (Ls : List (Option StackMap)) (to : ℕ)
          (l : laid (P.caught q r) L x c Ls base from to (Some ks))
          → laid q [] (under (row_of from (l.stands).0 to x.depth false) x) (with_none c) [] base
          from (l.stands).0 (Some ks)
      tried L x Ls to l = under_except code table b same rises at L x c Ls base from to ks q r l
          (λ ls y. begins code table b same rises at r L x c Ls base (l.stands).0 to ls
          (subst (λ s. laid r L x c Ls base (l.stands).0 to s) y (behind_row code table b same rises
          at L x c Ls base from to ks q r l)))

      placed : (L : List Target) (x : Context) (Ls : List (Option StackMap)) (to : ℕ)
          (l : laid (P.caught q r) L x c Ls base from to (Some ks)) → Shuns q → Placed from to
          (f from ++ g)
          → Placed (l.stands).0 to g
      placed L x Ls to l sh p =
          ⊎_elim (λ y. absurd (sh.not [] (under (row_of from (l.stands).0 to x.depth false) x)
          (with_none c) [] base from (l.stands).0 (Some ks) (tried L x Ls to l) p.low y))
          (λ y. in_back_of q [] (under (row_of from (l.stands).0 to x.depth false) x) (l.stands).1
          (λ M v st h s i. ⊎_elim (λ j. inl (made_before from M v sp st s j)) (λ j. inr (inr j))
          (in_either s (f from) g i))
          (ordered code table b same rises q [] (under (row_of from (l.stands).0 to x.depth false)
          x) from (l.stands).0 (l.stands).1) y p)
          (cases_lt pc (l.stands).0)

  module _ {A : Type 0} (around : Around A) (cells : TakesCells around) (captures : (n : ℕ)
      → b.links.captures n ≡ length (around.captured n)) (Q : List Part → Type 0)
      (shown : (ps : List Part) (above base : StackMap) → found ≡ above ++ base → AreOf slots ps
      base → AreOthers slots above → Q ps) where
    abbrev outs : Piece → Type 0
    outs q = Outs around b.links next cells captures q

    abbrev spreads : Piece → ((from : ℕ) → List PartSlot) → Type 0
    spreads q f = Spreads code table b same rises q f

    -- of acts with the number of the place
    abbrev pub Says : Shape → (act : ℕ) → Type 0
    Says s j = j ≡ number → Q (placed_in s)

    each : (s : Shape) (n z : ℕ) (ps : List Part) → placed_in s ≡ ps → Within n z (Q ps) → Each_says
        Says s n z
    each s n z ps e w j u v f = subst Q (sym e) (w (subst (λ k. n ≤ k) f u) (subst (λ k. k < z) f
        v))

    single : (s : Shape) (n : ℕ) (ps : List Part) → placed_in s ≡ ps → Within n (n + 1) (Q ps)
        → Says s n
    single s n ps e w f = subst Q (sym e) (w (omega (arith, f)) (omega (arith, f)))

    value_up : AllWithin 0 0 (value ∷ [])
    value_up = (((λ f. (let g : ⊥ = cc in g)), tt), tt)

    -- numbers

    max_le : (a c z : ℕ) → a ≤ z → c ≤ z → max a c ≤ z
    max_le a c z l h = omega (arith, l, h)

    none_le : (z : ℕ) → 0 ≤ z
    none_le z = omega arith

    tops_le : (n a z w : ℕ) → max n a ≡ z → z ≤ w → a ≤ w
    tops_le n a z w e l = omega (arith, e, l)

    up : (n k : ℕ) → number < n → number < n + k
    up n k l = omega (arith, l)

    val_le : (e : Exp) (n w : ℕ) → n + size e ≤ w → above (value_piece around e n) ≤ w
    val_le e n w l = tops_le n _ (n + size e) w (exp_tops around e n false []) l

    all_le : (ss : Stms) (n : ℕ) (u : Behind) (w : ℕ) → n + stms_size ss ≤ w
        → above (all_piece around ss n u) ≤ w
    all_le ss n u w l = tops_le n _ (n + stms_size ss) w (all_tops around ss n u) l

    silent : (op : Op) → Shuns (P.move op)
    silent op = higher (P.move op) tt

    later : (ss : Stms) (n : ℕ) (w : Behind) → number < n → Numbers (λ j. number < j)
        (all_piece around ss n w)
    later ss n w l = simple.all (λ j. number < j) up around ss n w l

    -- what is behind single instructions

    behind_nop : (p : ℕ) (x : Option Loop) (ks : StackMap) → behind_op b.links (P.plain instr.Nop) p
        x (Some ks) ≡ Some ks
    unfolding effect_of
    behind_nop p x ks = refl

    behind_pop : (p : ℕ) (x : Option Loop) (ks : StackMap) → behind_op b.links (P.plain instr.Pop) p
        x (Some (value ∷ ks)) ≡ Some ks
    unfolding effect_of
    behind_pop p x ks = refl

    behind_test : (p : ℕ) (x : Option Loop) (ks : StackMap) → behind_op b.links (P.to IfFalse 0) p x
        (Some (value ∷ ks)) ≡ Some ks
    unfolding effect_of
    behind_test p x ks = refl

    behind_iter : (p : ℕ) (x : Option Loop) (ks : StackMap) → behind_op b.links (P.plain instr.Iter)
        p x (Some (value ∷ ks)) ≡ Some (iterator p ∷ ks)
    unfolding effect_of
    behind_iter p x ks = refl

    behind_next : (l i p : ℕ) (x : Option Loop) (ks : StackMap) → behind_op b.links (P.to AtEnd l) p
        x (Some (iterator i ∷ ks)) ≡ Some (value ∷ iterator i ∷ ks)
    unfolding effect_of
    behind_next l i p x ks = refl

    behind_enter : (p : ℕ) (x : Option Loop) (ks : StackMap) → behind_op b.links
        (P.plain instr.Enter) p x (Some (value ∷ ks)) ≡ Some (value ∷ exit p ∷ ks)
    unfolding effect_of
    behind_enter p x ks = refl

    behind_match : (e p : ℕ) (x : Option Loop) (ks : StackMap) → behind_op b.links
        (P.plain instr.Match) p x (Some (value ∷ exception e ∷ ks)) ≡ Some (value ∷ exception e
        ∷ ks)
    unfolding effect_of
    behind_match e p x ks = refl

    behind_caught : (e p : ℕ) (x : Option Loop) (ks : StackMap) → behind_op b.links
        (P.plain instr.Caught) p x (Some (exception e ∷ ks)) ≡ Some (value ∷ exception p ∷ ks)
    unfolding effect_of
    behind_caught e p x ks = refl

    behind_val : (e : Exp) (n : ℕ) → Value_named around e n → (c : Setting) (base F : StackMap)
        (from : ℕ) → Over base F
        → behind b.links next (value_piece around e n) c base from (Some F) ≡ Some (value ∷ F)
    behind_val e n h c base F from o = (val around b.links next cells captures e n h F {c = c}
        {Ls = []} {base = base} {from = from} o).behind

    behind_deeper : (q : Piece) (c : Setting) (us : StackMap) (k : Known) (base : StackMap)
        (from : ℕ) (t : Option StackMap)
        → behind b.links next q c (k ∷ base) from (Some (us ++ k ∷ base)) ≡ t → behind b.links next
        (P.deeper 1 q) c base from (Some (us ++ k ∷ base)) ≡ t
    behind_deeper q c us k base from t e = ap (λ z. behind b.links next q c z from
        (Some (us ++ k ∷ base))) (deepened_is us k base) ∙ e

    -- values, targets and statements that hold no other

    any : ℕ → Type 0
    any j = Unit {0}

    at_value : {c : Setting} {base : StackMap} {from n z : ℕ} (ps : List Part) (F : StackMap)
        (e : Exp) (k : ℕ) → Value_named around e k → AreOf slots ps F
        → Has (value_piece around e k) c base from F n z [] (Within n z (Q ps))
    unfolding any
    at_value {c} {base} {from} ps F e k h a =
        leaf Q shown any [] ps F [] (simple.val any (λ n k r. tt) around e k tt)
        (val around b.links next cells captures e k h F {c = c} {Ls = []} {base = F} {from = from}
        (over_itself F)).typed tt a

    again : {c : Setting} {base : StackMap} {from n z : ℕ} (ps : List Part) (F : StackMap) (e : Exp)
        (k : ℕ) → Value_named around e k → AreOf slots ps F
        → Has (P.closed (exp_piece around e k true [])) c base from F n z [] (Within n z (Q ps))
    unfolding any
    again {c} {base} {from} ps F e k h a =
        leaf Q shown any [] ps F [] (forms.exp any (λ n k r. tt) around e k true [] tt)
        (expressions.exp around b.links next cells captures e k true [] h F {c = c} {Ls = []}
        {base = F} {from = from} (over_itself F)).typed tt a

    at_target : {c : Setting} {base : StackMap} {from n z : ℕ} (ps : List Part) (F : StackMap)
        (t : Tgt) (k : ℕ) → Target_named around t k [] → AreOf slots ps F
        → Has (P.closed (target_piece around t k [])) c base from (value ∷ F) n z []
        (Within n z (Q ps))
    unfolding any
    at_target {c} {base} {from} ps F t k h a =
        leaf Q shown any [] ps F (value ∷ []) (simple.to_target any (λ n k r. tt) around t k tt)
        (to_target around b.links next cells captures t k h F {c = c} {Ls = []} {base = F}
        {from = from} (over_itself F)).typed value_up a

    alone : {c : Setting} {from n z : ℕ} (ps : List Part) (F : StackMap) (st : Stm) (k : ℕ)
        (w : Behind) → HoldsNone st → Stm_named around st k → AreOf slots ps F
        → Has (begun_piece st w (stm_piece around st k w)) c F from F n z [] (Within n z (Q ps))
    unfolding any
    alone {c} {from} ps F st k w o h a =
        leaf Q shown any [] ps F [] (simple.begun_each any st w (stm_piece around st k w)
        (simple.alone any (λ n k r. tt) around st k w o tt)) (goes.goes).typed tt a
      where
        goes : Out b.links next (begun_piece st w (stm_piece around st k w)) c [] F from
        goes = statements.begun around b.links next cells captures st w (stm_piece around st k w)
            (statements.stm around b.links next cells captures st k w h)

    at_taken : {c : Setting} {base : StackMap} {from n z : ℕ} (ps : List Part) (F : StackMap)
        (t : Option Tgt) (k : ℕ) → Taken_named around b.links next cells captures t k
        → AreOf slots ps F → Has (taken_piece around t k) c base from (value ∷ F) n z []
        (Within n z (Q ps))
    unfolding any
    at_taken {c} {base} {from} ps F t k h a =
        leaf Q shown any [] ps F (value ∷ []) (simple.taken any (λ n k r. tt) around t k tt)
        (taken_so around b.links next cells captures t k h F {c = c} {Ls = []} {base = F}
        {from = from} (over_itself F)).typed value_up a

    -- where slots are made

    block_spreads : {q : Piece} {f : (from : ℕ) → List PartSlot} → spreads q f → spreads (P.block q)
        f
    block_spreads u = apart.in_block code table b same rises u

    head_spreads : {q : Piece} {f : (from : ℕ) → List PartSlot} → spreads q f → spreads (P.headed q)
        f
    head_spreads u = apart.in_head code table b same rises u

    closed_spreads : {q : Piece} {f : (from : ℕ) → List PartSlot} → spreads q f
        → spreads (P.closed q) f
    closed_spreads u = apart.in_closed code table b same rises u

    loop_spreads : {q : Piece} {f : (from : ℕ) → List PartSlot} → spreads q f
        → spreads (P.looped 2 q) f
    loop_spreads u = apart.in_loop_of code table b same rises 2 u

    row_spreads : {q : Piece} {f : (from : ℕ) → List PartSlot} → spreads q f → spreads (P.ensured q)
        f
    row_spreads u = apart.in_row code table b same rises u

    deep_spreads : {q : Piece} {f : (from : ℕ) → List PartSlot} → spreads q f
        → spreads (P.deeper 1 q) f
    deep_spreads u = apart.in_depth code table b same rises 1 u

    start_spreads : {q : Piece} {f : (from : ℕ) → List PartSlot} {l : ℕ} → spreads q f
        → spreads (P.started l q) f
    start_spreads u = apart.in_start code table b same rises u

    count_spreads : {q : Piece} {f : (from : ℕ) → List PartSlot} {n : ℕ} → spreads q f
        → spreads (P.numbered n q) f
    count_spreads u = apart.in_count code table b same rises u

    first_spreads : {a d : Piece} {f : (from : ℕ) → List PartSlot} → spreads a f
        → spreads (P.seq a d) f
    first_spreads u = apart.first_in code table b same rises u

    second_spreads : {a d : Piece} {f : (from : ℕ) → List PartSlot} → spreads d f
        → spreads (P.seq a d) (λ p. f (end_of next a p))
    second_spreads u = apart.second_in code table b same rises u

    none_spread : {q : Piece} → spreads q (λ p. [])
    none_spread = apart.none_in code table b same rises

    between_spread : {a d : Piece} {f g : (from : ℕ) → List PartSlot} (q : Part) (k : ℕ) → is_empty
        a ≡ false → is_empty d ≡ false → spreads a f → spreads d g
        → spreads (P.seq a d) (λ p. part_slot q k (end_of next a p) ∷ (f p ++ g (end_of next a p)))
    between_spread q k e i u v = apart.between_in code table b same rises q k e i u v

    caught_spreads : {q r : Piece} {f g : (from : ℕ) → List PartSlot} → spreads q f → spreads r g
        → spreads (P.caught q r) (λ p. f p ++ g (end_of next q p))
    caught_spreads {q} {r} {f} {g} u v = record {
      spread = λ L x from to h.
          let row = under (row_of from h.0 to x.depth false) x in
          apart.in_order from h.0 to (f from) (g (end_of next q from)) (ordered code table b same
          rises q [] row from h.0 h.1) (ordered code table b same rises r L x h.0 to h.2)
          (u.spread [] row from h.0 h.1)
          (subst (λ k. apart.Spread h.0 to (g k)) (sym (ends code table b same rises q [] row from
          h.0 h.1)) (v.spread L x h.0 to h.2));
    }

    -- statements, from the slots of the parts around

    abbrev Standing : (q : Piece) → (told : (depth from : ℕ) → List PartSlot) → Shape → (n z : ℕ)
        → Type 0 → Type 0
    Standing q f s n z T = (c : Setting) (base : StackMap) (from : ℕ) → AreOf slots (parts s) base
        → Told slots (f (length base) from)
        → Has q c base from base n z (f (length base) from) T

    behind_looped : {B d : Piece} {c : Setting} {base : StackMap} {from n z : ℕ} {X : Type 0}
        (f : (from : ℕ) → List PartSlot) → outs B
        → Has d c base (end_of next (P.looped 2 B) from) base n z [] (Within n z X)
        → spreads (P.looped 2 B) f → Within n z (Shuns (P.looped 2 B))
        → Has (P.seq (P.looped 2 B) d) c base from base n z (f from) (Within n z X)
    behind_looped {B} {d} {c} {base} {from} f o w sp sh = behind_body f u.goes_on base
        (u.goes).behind w sp sh
      where
        u : Out b.links next B (with_loop 2 (end_of next B from) (length base) c) [] base from
        u = o _ _ _ _

    behind_looped_deep : {B d : Piece} {c : Setting} {k : Known} {base : StackMap} {from n z : ℕ}
        {X : Type 0} (f : (from : ℕ) → List PartSlot) → outs B
        → Has d c base (end_of next (P.looped 2 B) from) (k ∷ base) n z [] (Within n z X)
        → spreads (P.deeper 1 (P.looped 2 B)) f
        → Within n z (Shuns (P.deeper 1 (P.looped 2 B))) → Has (P.seq (P.deeper 1 (P.looped 2 B)) d)
        c base from (k ∷ base) n z (f from) (Within n z X)
    behind_looped_deep {B} {d} {c} {k} {base} {from} f o w sp sh =
        behind_body f u.goes_on (k ∷ base) (behind_deeper (P.looped 2 B) c [] k base from
        (goes_if u.goes_on (k ∷ base)) (u.goes).behind) w sp sh
      where
        u : Out b.links next B (with_loop 2 (end_of next B from) (length (k ∷ base)) c) []
            (k ∷ base) from
        u = o _ _ _ _

    -- 8.1

    branch_stands : (l n : ℕ) (x : Exp) (body : Stms) (last : Piece) (s : Shape) (z : ℕ)
        (T : Type 0) (g : (from : ℕ) → List PartSlot) → placed_in s ≡ parts s → Value_named around x
        n
        → outs (all_piece around body (tested_body n x) free)
        → ((d : ℕ) → spreads (all_piece around body (tested_body n x) free) (slots_of_all around
        next body (tested_body n x) free d))
        → Standing (all_piece around body (tested_body n x) free) (slots_of_all around next body
        (tested_body n x) free) s (tested_body n x) (behind_tested n x body)
        (Stms_say Says body (tested_body n x) s)
        → spreads last g → (number < behind_tested n x body → Numbers (λ j. number < j) last)
        → behind_tested n x body ≤ z → (c : Setting) (base : StackMap) (from : ℕ)
        → AreOf slots (parts s) base
        → Told slots (slots_of_all around next body (tested_body n x) free (length base)
        (next (end_of next (value_piece around x n) from)))
        → Has last c base (end_of next (P.block (branch_of around b.links next cells captures l n x
        (all_piece around body (tested_body n x) free))) from) base
        (behind_tested n x body) z (g (end_of next (P.block (branch_of around b.links next cells
        captures l n x (all_piece around body (tested_body n x) free))) from)) T
        → Has (P.seq (P.block (branch_of around b.links next cells captures l n x (all_piece around
        body (tested_body n x) free))) last) c base from base n z
        (slots_of_all around next body (tested_body n x) free (length base)
        (next (end_of next (value_piece around x n) from))
        ++ g (end_of next (P.block (branch_of around b.links next cells captures l n x
        (all_piece around body (tested_body n x) free))) from))
        ((Each_says Says s n (tested_body n x) × Stms_say Says body (tested_body n x) s) × T)
    branch_stands l n x body last s z T g ps h o sb f so lo le c base from a t k =
        both (both (narrow (omega arith) (omega (arith, le)) test) (narrow (omega arith)
        (omega (arith, le)) inside)) (narrow (omega arith) (omega arith) rest_of)
      where
        B : Piece
        B = all_piece around body (tested_body n x) free

        in_body : (from : ℕ) → List PartSlot
        in_body p = slots_of_all around next body (tested_body n x) free (length base) p

        whole : Piece
        whole = P.seq (P.block (branch_of around b.links next cells captures l n x B)) last

        behind_it : P.Piece
        behind_it = P.seq (P.closed B) (P.move (P.to Jumps 1))

        body_spreads : spreads behind_it (slots_of_all around next body (tested_body n x) free
            (length base))
        body_spreads = first_spreads (closed_spreads (sb (length base)))

        test : Has whole c base from base n (tested_body n x)
            (slots_of_all around next body (tested_body n x) free (length base)
            (next (end_of next (value_piece around x n) from))
            ++ g (end_of next (P.block (branch_of around b.links next cells captures l n x B))
            from)) (Each_says Says s n (tested_body n x))
        test = to (each s n (tested_body n x) (parts s) ps)
            (front g (blocked (either (λ p. slots_of_all around next body (tested_body n x) free
            (length base) (next p)) (value ∷ base) (behind_val x n h c base base from
            (over_itself base))
            (at_value (parts s) base x n h a)
            (front_none (slots_of_all around next body (tested_body n x) free (length base))
            (one Q shown (parts s) base (value ∷ []) value_up a) body_spreads
            (λ u v. higher behind_it (later body (tested_body n x) free v, tt)))
            (second_spreads body_spreads))) so
            (λ u v. higher last (lo (omega (arith, v)))))

        inside : Has whole c base from base (tested_body n x) (behind_tested n x body)
            (slots_of_all around next body (tested_body n x) free (length base)
            (next (end_of next (value_piece around x n) from))
            ++ g (end_of next (P.block (branch_of around b.links next cells captures l n x B))
            from)) (Stms_say Says body (tested_body n x) s)
        inside = front g (blocked (back_all (value ∷ base) (behind_val x n h c base base from
            (over_itself base))
            (back_all base (behind_test _ _ base) (front_all (closed (f _ base _ a t))
            (λ u v. silent (P.to Jumps 1)))
            (λ u v. lower (P.act (P.to IfFalse 0) (n + size x) l false) (omega (arith, u))))
            (λ u v. lower (value_piece around x n) (val_le x n number (omega (arith, u)))))) so
            (λ u v. higher last (lo v))

        rest_of : Has whole c base from base (behind_tested n x body) z
            (slots_of_all around next body (tested_body n x) free (length base)
            (next (end_of next (value_piece around x n) from))
            ++ g (end_of next (P.block (branch_of around b.links next cells captures l n x B))
            from)) T
        rest_of =
            let r : Branch around b.links next cells captures l n x B c base from = branch around
            b.links next cells captures l n x B h o c base from in
            back base r.on (λ p. slots_of_all around next body (tested_body n x) free (length base)
            (next (end_of next (value_piece around x n) p))) k
            (block_spreads (second_spreads (second_spreads body_spreads)))
            (λ u v. lower (P.block (branch_of around b.links next cells captures l n x B))
            (max_le _ _ number (val_le x n number (omega (arith, u)))
            (max_le _ _ number (omega (arith, u)) (max_le _ _ number (all_le body (tested_body n x)
            free number (omega (arith, u))) (none_le number)))))

    -- 8.2

    while_stands : (l n : ℕ) (e : Exp) (body els : Stms) (w : Behind) (s : Shape) → placed_in s
        ≡ parts s → Value_named around e n
        → outs (all_piece around body (tested_body n e) (needed_if (some_exits Continue body)))
        → ((d : ℕ) → spreads (all_piece around body (tested_body n e)
        (needed_if (some_exits Continue body)))
        (slots_of_all around next body (tested_body n e) (needed_if (some_exits Continue body)) d))
        → ((d : ℕ) → spreads (all_piece around els (behind_tested n e body)
        (behind_loop (some_exits Break body) w))
        (slots_of_all around next els (behind_tested n e body) (behind_loop (some_exits Break body)
        w) d))
        → Standing (all_piece around body (tested_body n e) (needed_if (some_exits Continue body)))
        (slots_of_all around next body (tested_body n e) (needed_if (some_exits Continue body)))
        (looping l n e body els ∷ s) (tested_body n e) (behind_tested n e body)
        (Stms_say Says body (tested_body n e) (looping l n e body els ∷ s))
        → Standing (all_piece around els (behind_tested n e body) (behind_loop (some_exits Break
        body) w))
        (slots_of_all around next els (behind_tested n e body) (behind_loop (some_exits Break body)
        w)) s (behind_tested n e body) (behind_tested n e body + stms_size els)
        (Stms_say Says els (behind_tested n e body) s)
        → Standing (stm_piece around (S.while l e body els) n w) (slots_in around next
        (S.while l e body els) n w) s n (n + stm_size (S.while l e body els))
        (Stm_says Says (S.while l e body els) n s)
    while_stands l n e body els w s ps h o sb se f g c base from a t =
        to (λ p. (p.0, (p.1).0, (p.1).1)) (both (narrow (omega arith) (omega arith) test)
        (both (narrow (omega arith) (omega arith) inside) (narrow (omega arith) (omega arith)
        otherwise)))
      where
        B : Piece
        B = all_piece around body (tested_body n e) (needed_if (some_exits Continue body))

        E : Piece
        E = all_piece around els (behind_tested n e body) (behind_loop (some_exits Break body) w)

        first_place : ℕ
        first_place = next (end_of next (value_piece around e n) from)

        tested : Piece
        tested = P.block (while_tested around b.links next cells captures l n e B)

        again_piece : Piece
        again_piece = P.numbered n (P.seq (P.closed (exp_piece around e n true []))
            (P.act (P.to IfTrue 0) (n + size e) l false))

        slots_there : List PartSlot
        slots_there = slots_of_all around next body (tested_body n e)
            (needed_if (some_exits Continue body)) (length base) first_place
            ++ slots_of_all around next els (behind_tested n e body) (behind_loop (some_exits Break
            body) w) (length base) (end_of next tested from)

        body_spreads : spreads (P.seq (P.looped 2 B) again_piece) (slots_of_all around next body
            (tested_body n e) (needed_if (some_exits Continue body)) (length base))
        body_spreads = first_spreads (loop_spreads (sb (length base)))

        other_spreads : spreads (P.numbered (behind_tested n e body) (P.closed E))
            (slots_of_all around next els (behind_tested n e body) (behind_loop (some_exits Break
            body) w) (length base))
        other_spreads = count_spreads (closed_spreads (se (length base)))

        behind_again : (d : Setting) (p : ℕ) → behind b.links next (P.closed (exp_piece around e n
            true [])) d base p (Some base) ≡ Some (value ∷ base)
        behind_again d p = (expressions.exp around b.links next cells captures e n true [] h base
            {c = d} {Ls = []} {base = base} {from = p} (over_itself base)).behind

        test : Has (stm_piece around (S.while l e body els) n w) c base from base n (tested_body n
            e) slots_there (Each_says Says s n (tested_body n e))
        test = to (each s n (tested_body n e) (parts s) ps)
            (blocked (front (slots_of_all around next els (behind_tested n e body)
            (behind_loop (some_exits Break body) w) (length base))
            (blocked (either (λ p. slots_of_all around next body (tested_body n e)
            (needed_if (some_exits Continue body)) (length base) (next p)) (value ∷ base)
            (behind_val e n h c base base from (over_itself base)) (at_value (parts s) base e n h a)
            (either (slots_of_all around next body (tested_body n e) (needed_if (some_exits Continue
            body)) (length base)) base (behind_test _ _ base)
            (one Q shown (parts s) base (value ∷ []) value_up a)
            (headed (behind_looped (slots_of_all around next body (tested_body n e)
            (needed_if (some_exits Continue body)) (length base)) o
            (counted (either (λ p. []) (value ∷ base) (behind_again c _) (again (parts s) base e n h
            a) (one Q shown (parts s) base (value ∷ []) value_up a) none_spread))
            (loop_spreads (sb (length base))) (λ u v. higher (P.looped 2 B)
            (later body (tested_body n e) (needed_if (some_exits Continue body)) v))))
            (head_spreads body_spreads))
            (second_spreads (head_spreads body_spreads))))
            other_spreads (λ u v. higher (P.numbered (behind_tested n e body) (P.closed E))
            (later els (behind_tested n e body) (behind_loop (some_exits Break body) w)
            (omega (arith, v))))))

        inside : Has (stm_piece around (S.while l e body els) n w) c base from base (tested_body n
            e) (behind_tested n e body) slots_there
            (Stms_say Says body (tested_body n e) (looping l n e body els ∷ s))
        inside = blocked (front (slots_of_all around next els (behind_tested n e body)
            (behind_loop (some_exits Break body) w) (length base))
            (blocked (back_all (value ∷ base) (behind_val e n h c base base from (over_itself base))
            (back_all base (behind_test _ _ base)
            (headed (front_all (looped 2 (f _ base _ a (told_front slots _ _ t)))
            (λ u v. lower again_piece (max_le _ _ number (tops_le n _ (n + size e) number
            (exp_tops around e n true []) (omega (arith, u))) (omega (arith, u))))))
            (λ u v. lower (P.act (P.to IfFalse 0) (n + size e) l false) (omega (arith, u))))
            (λ u v. lower (value_piece around e n) (val_le e n number (omega (arith, u))))))
            other_spreads (λ u v. higher (P.numbered (behind_tested n e body) (P.closed E))
            (later els (behind_tested n e body) (behind_loop (some_exits Break body) w) v)))

        inner : Setting
        inner = with_label (end_of next (P.seq tested (P.numbered (behind_tested n e body)
            (P.closed E))) from) c

        tests : Tested around b.links next cells captures tested inner [] base from (Some base)
        tests = while_test around b.links next cells captures l n e B h o inner [] base from

        otherwise : Has (stm_piece around (S.while l e body els) n w) c base from base
            (behind_tested n e body) (behind_tested n e body + stms_size els) slots_there
            (Stms_say Says els (behind_tested n e body) s)
        otherwise = blocked (back base (tests.goes).behind
            (λ p. slots_of_all around next body (tested_body n e) (needed_if (some_exits Continue
            body)) (length base) (next (end_of next (value_piece around e n) p)))
            (counted (closed (g _ base _ a
            (told_back slots (slots_of_all around next body (tested_body n e)
            (needed_if (some_exits Continue body)) (length base) first_place)
            (slots_of_all around next els (behind_tested n e body) (behind_loop (some_exits Break
            body) w) (length base) (end_of next tested from)) t))))
            (block_spreads (second_spreads (second_spreads (head_spreads body_spreads))))
            (λ u v. lower tested (max_le _ _ number (val_le e n number (omega (arith, u)))
            (max_le _ _ number (omega (arith, u))
            (max_le _ _ number (all_le body (tested_body n e) (needed_if (some_exits Continue body))
            number (omega (arith, u)))
            (max_le _ _ number (tops_le n _ (n + size e) number (exp_tops around e n true [])
            (omega (arith, u))) (omega (arith, u))))))))

    -- 8.3

    for_stands : (l n : ℕ) (t : Tgt) (it : Exp) (body els : Stms) (w : Behind) (s : Shape)
        → placed_in s ≡ parts s → Value_named around it n
        → Target_named around t (n + size it + 1 + 1) [] → outs (all_piece around body
        (for_body (n + size it + 1) t) (needed_if (some_exits Continue body)))
        → ((d : ℕ) → spreads (all_piece around body (for_body (n + size it + 1) t)
        (needed_if (some_exits Continue body)))
        (slots_of_all around next body (for_body (n + size it + 1) t)
        (needed_if (some_exits Continue body)) d))
        → ((d : ℕ) → spreads (all_piece around els (for_else (n + size it + 1) t body)
        (behind_loop (some_exits Break body) w))
        (slots_of_all around next els (for_else (n + size it + 1) t body)
        (behind_loop (some_exits Break body) w) d))
        → Standing (all_piece around body (for_body (n + size it + 1) t)
        (needed_if (some_exits Continue body)))
        (slots_of_all around next body (for_body (n + size it + 1) t)
        (needed_if (some_exits Continue body))) (iterating l (n + size it + 1) tt t body els ∷ s)
        (for_body (n + size it + 1) t) (for_else (n + size it + 1) t body)
        (Stms_say Says body (for_body (n + size it + 1) t) (iterating l (n + size it + 1) tt t body
        els ∷ s))
        → Standing (all_piece around els (for_else (n + size it + 1) t body)
        (behind_loop (some_exits Break body) w))
        (slots_of_all around next els (for_else (n + size it + 1) t body)
        (behind_loop (some_exits Break body) w)) s (for_else (n + size it + 1) t body)
        (for_else (n + size it + 1) t body + stms_size els) (Stms_say Says els
        (for_else (n + size it + 1) t body) s)
        → Standing (stm_piece around (S.for l t it body els) n w) (slots_in around next
        (S.for l t it body els) n w) s n (n + stm_size (S.for l t it body els))
        (Stm_says Says (S.for l t it body els) n s)
    for_stands l n t it body els w s ps h i o sb se f g c base from a y =
        to (λ p. (p.0, (p.1).0, ((p.1).1).0, ((p.1).1).1)) (both (narrow (omega arith) (omega arith)
        iterable)
        (both (narrow (omega arith) (omega arith) items_taken)
        (both (narrow (omega arith) (omega arith) inside) (narrow (omega arith) (omega arith)
        otherwise))))
      where
        k : ℕ
        k = n + size it + 1

        B : Piece
        B = all_piece around body (for_body k t) (needed_if (some_exits Continue body))

        E : Piece
        E = all_piece around els (for_else k t body) (behind_loop (some_exits Break body) w)

        taken : ℕ
        taken = next (end_of next (value_piece around it n) from)

        slot : Known
        slot = iterator taken

        tgt : Piece
        tgt = P.closed (target_piece around t (k + 1) [])

        tested : Piece
        tested = P.block (for_tested around b.links next cells captures l n t it B)

        again_piece : Piece
        again_piece = P.seq (P.numbered k (P.act (P.to AtEnd 1) k l true)) (P.move (P.to Jumps 0))

        round_piece : Piece
        round_piece = P.headed (P.seq tgt (P.seq (P.deeper 1 (P.looped 2 B)) again_piece))

        in_body : (from : ℕ) → List PartSlot
        in_body p = slots_of_all around next body (for_body k t) (needed_if (some_exits Continue
            body)) (suc (length base)) p

        in_else : (from : ℕ) → List PartSlot
        in_else p = slots_of_all around next els (for_else k t body) (behind_loop (some_exits Break
            body) w) (length base) p

        slots_there : List PartSlot
        slots_there = part_slot (for_part k) (length base) taken
            ∷ (in_body (end_of next tgt (next taken)) ++ in_else (end_of next tested from))

        spread_5 : spreads (P.seq (P.deeper 1 (P.looped 2 B)) again_piece) in_body
        spread_5 = first_spreads (deep_spreads (loop_spreads (sb (suc (length base)))))

        spread_3 : spreads round_piece (λ p. in_body (end_of next tgt p))
        spread_3 = head_spreads (second_spreads spread_5)

        spread_2 : spreads (P.seq (P.act (P.to AtEnd 0) k l false) round_piece)
            (λ p. in_body (end_of next tgt (next p)))
        spread_2 = second_spreads spread_3

        spread_1 : spreads (P.seq (P.act (P.plain instr.Iter) (n + size it) l false)
            (P.seq (P.act (P.to AtEnd 0) k l false) round_piece))
            (λ p. part_slot (for_part k) (length base) (next p) ∷ in_body (end_of next tgt
            (next (next p))))
        spread_1 = between_spread (for_part k) (length base) refl refl none_spread spread_2

        other_spreads : spreads (P.numbered (for_else k t body) (P.closed E)) in_else
        other_spreads = count_spreads (closed_spreads (se (length base)))

        later_else : number < for_else k t body → Shuns (P.numbered (for_else k t body)
            (P.closed E))
        later_else v = higher (P.numbered (for_else k t body) (P.closed E))
            (later els (for_else k t body) (behind_loop (some_exits Break body) w) v)

        earlier_value : k ≤ number → Shuns (value_piece around it n)
        earlier_value u = lower (value_piece around it n) (val_le it n number (omega (arith, u)))

        earlier_iter : k ≤ number → Shuns (P.act (P.plain instr.Iter) (n + size it) l false)
        earlier_iter u = lower (P.act (P.plain instr.Iter) (n + size it) l false) (omega (arith, u))

        later_body : number < for_body k t → Numbers (λ j. number < j) B
        later_body v = later body (for_body k t) (needed_if (some_exits Continue body)) v

        iterable : Has (stm_piece around (S.for l t it body els) n w) c base from base n k
            slots_there (Each_says Says s n k)
        iterable = to (each s n k (parts s) ps)
            (blocked (front in_else (blocked (either (λ p. part_slot (for_part k) (length base)
            (next p) ∷ in_body (end_of next tgt (next (next p)))) (value ∷ base)
            (behind_val it n h c base base from (over_itself base)) (at_value (parts s) base it n h
            a)
            (front_made (for_part k) (length base) (λ p. in_body (end_of next tgt (next p)))
            (one Q shown (parts s) base (value ∷ []) value_up a) spread_2
            (λ u v. higher (P.seq (P.act (P.to AtEnd 0) k l false) round_piece) (
              v,
              (
                simple.each_number (λ j. number < j) tgt (simple.to_target (λ j. number < j) up
                    around t (k + 1) (omega (arith, v))),
                (later_body (omega (arith, v)), (v, tt)),
              ),
            )))
            spread_1))
            other_spreads (λ u v. later_else (omega (arith, v)))))

        are : AreOf slots (for_part k ∷ parts s) (slot ∷ base)
        are = (refl, (taken, refl, y.0), a)

        behind_tgt : (p : ℕ) → behind b.links next tgt c base p (Some (value ∷ slot ∷ base))
            ≡ Some (slot ∷ base)
        behind_tgt p = (to_target around b.links next cells captures t (k + 1) i (slot ∷ base)
            {c = c} {Ls = []} {base = base} {from = p} (over_more slot (over_itself base))).behind

        items_taken : Has (stm_piece around (S.for l t it body els) n w) c base from base k
            (for_body k t) slots_there
            (Each_says Says (iterating l k tt t body els ∷ s) k (for_body k t))
        items_taken = to (each (iterating l k tt t body els ∷ s) k (for_body k t) (for_part k
            ∷ parts s) refl)
            (blocked (front in_else (blocked (back_all (value ∷ base) (behind_val it n h c base base
            from (over_itself base))
            (back_made (slot ∷ base) (behind_iter taken c.loop base) (for_part k) (length base)
            (either (λ p. in_body (end_of next tgt p)) (value ∷ slot ∷ base) (behind_next 0 taken
            (next taken) c.loop base)
            (one Q shown (for_part k ∷ parts s) (slot ∷ base) [] tt are)
            (headed (either in_body (slot ∷ base) (behind_tgt (next taken)) (at_target (for_part k
            ∷ parts s) (slot ∷ base) t (k + 1) i are)
            (behind_looped_deep in_body o
            (front_all (counted (one Q shown (for_part k ∷ parts s) (slot ∷ base) [] tt are))
            (λ u v. silent (P.to Jumps 0)))
            (deep_spreads (loop_spreads (sb (suc (length base))))) (λ u v. higher
            (P.deeper 1 (P.looped 2 B)) (later_body v)))
            spread_5))
            spread_3)
            (λ u v. earlier_iter u))
            (λ u v. earlier_value u)))
            other_spreads (λ u v. later_else (omega (arith, v)))))

        inside : Has (stm_piece around (S.for l t it body els) n w) c base from base (for_body k t)
            (for_else k t body) slots_there
            (Stms_say Says body (for_body k t) (iterating l k tt t body els ∷ s))
        inside = blocked (front in_else (blocked (back_all (value ∷ base) (behind_val it n h c base
            base from (over_itself base))
            (back_made (slot ∷ base) (behind_iter taken c.loop base) (for_part k) (length base)
            (back_all (value ∷ slot ∷ base) (behind_next 0 taken (next taken) c.loop base)
            (headed (back_all (slot ∷ base) (behind_tgt (next taken))
            (front_all (deeper [] slot (looped 2 (f _ (slot ∷ base) _ are (told_front slots
            (in_body (end_of next tgt (next taken))) (in_else (end_of next tested from)) y.1))))
            (λ u v. lower again_piece (max_le _ _ number (omega (arith, u)) (none_le number))))
            (λ u v. lower tgt (tops_le (k + 1) _ (k + 1 + target_size t) number (target_tops around
            t (k + 1) []) (omega (arith, u))))))
            (λ u v. lower (P.act (P.to AtEnd 0) k l false) (omega (arith, u))))
            (λ u v. earlier_iter (omega (arith, u))))
            (λ u v. earlier_value (omega (arith, u)))))
            other_spreads (λ u v. later_else v))

        inner : Setting
        inner = with_label (end_of next (P.seq tested (P.numbered (for_else k t body) (P.closed E)))
            from) c

        tests : Tested around b.links next cells captures tested inner [] base from (Some base)
        tests = for_test around b.links next cells captures l n t it B h i o inner [] base from

        otherwise : Has (stm_piece around (S.for l t it body els) n w) c base from base
            (for_else k t body) (for_else k t body + stms_size els) slots_there
            (Stms_say Says els (for_else k t body) s)
        otherwise = blocked (back base (tests.goes).behind
            (λ p. part_slot (for_part k) (length base) (next (end_of next (value_piece around it n)
            p)) ∷ in_body (end_of next tgt (next (next (end_of next (value_piece around it n) p)))))
            (counted (closed (g _ base _ a (told_back slots (in_body (end_of next tgt (next taken)))
            (in_else (end_of next tested from)) y.1))))
            (block_spreads (second_spreads spread_1))
            (λ u v. lower tested (max_le _ _ number (val_le it n number (omega (arith, u)))
            (max_le _ _ number (omega (arith, u)) (max_le _ _ number (omega (arith, u))
            (max_le _ _ number (tops_le (k + 1) _ (k + 1 + target_size t) number (target_tops around
            t (k + 1) []) (omega (arith, u)))
            (max_le _ _ number (all_le body (for_body k t) (needed_if (some_exits Continue body))
            number (omega (arith, u)))
            (max_le _ _ number (omega (arith, u)) (none_le number)))))))))

    -- 8.5

    item_stands : (l : ℕ) (e : Exp) (t : Option Tgt) (r : Items) (body : ℕ → Piece) (k n : ℕ)
        (fr : (depth from : ℕ) → List PartSlot) (s : Shape) (T : Type 0) → placed_in s ≡ parts s
        → Value_named around e n → Taken_named around b.links next cells captures t (n + size e + 1)
        → ((d : ℕ) → spreads (items_piece around r body k (behind_taken around t (n + size e + 1)))
        (fr d))
        → (number < behind_taken around t (n + size e + 1) → Numbers (λ j. number < j)
        (items_piece around r body k (behind_taken around t (n + size e + 1))))
        → above (items_piece around r body k (behind_taken around t (n + size e + 1))) ≤
        behind_taken around t (n + size e + 1) + items_size r k
        → (n + size e + 1 ≤ behind_taken around t (n + size e + 1))
        → (above (taken_piece around t (n + size e + 1)) ≤ behind_taken around t (n + size e + 1))
        → Standing (items_piece around r body k (behind_taken around t (n + size e + 1))) fr
        (withing l (behind_taken around t (n + size e + 1) + items_size r k) tt ∷ s)
        (behind_taken around t (n + size e + 1)) (behind_taken around t (n + size e + 1) +
        items_size r k) T
        → (c : Setting) (base : StackMap) (from : ℕ) → AreOf slots (parts s) base
        → Told slots (part_slot (with_part (behind_taken around t (n + size e + 1) + items_size r
        k)) (length base) (next (end_of next (value_piece around e n) from))
        ∷ part_slot (exit_part (behind_taken around t (n + size e + 1) + items_size r k))
        (suc (length base))
        (next (end_of next (items_piece around r body k (behind_taken around t (n + size e + 1)))
        (end_of next (taken_piece around t (n + size e + 1))
        (next (end_of next (value_piece around e n) from)))))
        ∷ fr (suc (length base)) (end_of next (taken_piece around t (n + size e + 1))
        (next (end_of next (value_piece around e n) from))))
        → Has (items_piece around (S.with_item l e t r) body k n) c base from base n
        (behind_taken around t (n + size e + 1) + items_size r k + 1)
        (part_slot (with_part (behind_taken around t (n + size e + 1) + items_size r k))
        (length base) (next (end_of next (value_piece around e n) from))
        ∷ part_slot (exit_part (behind_taken around t (n + size e + 1) + items_size r k))
        (suc (length base))
        (next (end_of next (items_piece around r body k (behind_taken around t (n + size e + 1)))
        (end_of next (taken_piece around t (n + size e + 1))
        (next (end_of next (value_piece around e n) from)))))
        ∷ fr (suc (length base)) (end_of next (taken_piece around t (n + size e + 1))
        (next (end_of next (value_piece around e n) from))))
        ((Each_says Says s n (n + size e + 1)
        × Each_says Says (withing l (behind_taken around t (n + size e + 1) + items_size r k) tt
        ∷ s) (n + size e + 1) (behind_taken around t (n + size e + 1)))
        × (T × Says (exiting (behind_taken around t (n + size e + 1) + items_size r k) tt normal
        ∷ s) (behind_taken around t (n + size e + 1) + items_size r k)))
    item_stands l e t r body k n fr s T ps h o sr lr hr up_to tr g c base from a y =
        both (both (narrow (omega arith) (omega (arith, up_to)) entry) (narrow (omega arith)
        (omega (arith, up_to)) taking))
        (both (narrow (omega (arith, up_to)) (omega arith) inside) (narrow (omega (arith, up_to))
        (omega arith) at_exit))
      where
        behind_it : ℕ
        behind_it = behind_taken around t (n + size e + 1)

        x : ℕ
        x = behind_it + items_size r k

        R : Piece
        R = items_piece around r body k behind_it

        taken : Piece
        taken = taken_piece around t (n + size e + 1)

        start : ℕ
        start = next (end_of next (value_piece around e n) from)

        slot : Known
        slot = exit start

        D : Piece
        D = P.deeper 1 (P.ensured (P.seq taken R))

        ended : ℕ
        ended = next (end_of next R (end_of next taken start))

        exit_piece : Piece
        exit_piece = P.seq (P.act (P.plain instr.Exit) x l false)
            (P.move (P.plain instr.EndFinally))

        within_slots : (from : ℕ) → List PartSlot
        within_slots p = fr (suc (length base)) (end_of next taken p)

        slots_there : List PartSlot
        slots_there = part_slot (with_part x) (length base) start ∷ part_slot (exit_part x)
            (suc (length base)) ended ∷ within_slots start

        within_spreads : spreads D within_slots
        within_spreads = deep_spreads (row_spreads (second_spreads (sr (suc (length base)))))

        exit_spreads : spreads (P.seq D exit_piece) (λ p. part_slot (exit_part x)
            (suc (length base)) (next (end_of next R (end_of next taken p))) ∷ within_slots p)
        exit_spreads = apart.told_so code table b same rises
            (λ p. ap (λ ss. part_slot (exit_part x) (suc (length base))
            (next (end_of next R (end_of next taken p))) ∷ ss) (apart.nothing_behind
            (within_slots p)))
            (between_spread (exit_part x) (suc (length base)) refl refl within_spreads none_spread)

        entry_spreads : spreads (P.seq (P.act (P.plain instr.Enter) (n + size e) l false)
            (P.seq D exit_piece))
            (λ p. part_slot (with_part x) (length base) (next p) ∷ part_slot (exit_part x)
            (suc (length base)) (next (end_of next R (end_of next taken (next p)))) ∷ within_slots
            (next p))
        entry_spreads = between_spread (with_part x) (length base) refl refl none_spread
            exit_spreads

        are : AreOf slots (with_part x ∷ parts s) (slot ∷ base)
        are = (refl, (start, refl, y.0), a)

        later_exit : number < x → Shuns exit_piece
        later_exit v = higher exit_piece (v, tt)

        earlier_value : n + size e + 1 ≤ number → Shuns (value_piece around e n)
        earlier_value u = lower (value_piece around e n) (val_le e n number (omega (arith, u)))

        earlier_entry : n + size e + 1 ≤ number → Shuns (P.act (P.plain instr.Enter) (n + size e) l
            false)
        earlier_entry u = lower (P.act (P.plain instr.Enter) (n + size e) l false)
            (omega (arith, u))

        entry : Has (items_piece around (S.with_item l e t r) body k n) c base from base n
            (n + size e + 1) slots_there (Each_says Says s n (n + size e + 1))
        entry = to (each s n (n + size e + 1) (parts s) ps)
            (either (λ p. part_slot (with_part x) (length base) (next p) ∷ part_slot (exit_part x)
            (suc (length base)) (next (end_of next R (end_of next taken (next p)))) ∷ within_slots
            (next p))
            (value ∷ base) (behind_val e n h c base base from (over_itself base))
            (at_value (parts s) base e n h a)
            (front_made (with_part x) (length base) (λ p. part_slot (exit_part x)
            (suc (length base)) (next (end_of next R (end_of next taken p))) ∷ within_slots p)
            (one Q shown (parts s) base (value ∷ []) value_up a) exit_spreads
            (λ u v. higher (P.seq D exit_piece) (
              (
                simple.each_number (λ j. number < j) taken (simple.taken (λ j. number < j) up around t
                    (n + size e + 1) v),
                lr (omega (arith, v, up_to)),
              ),
              (omega (arith, v, up_to), tt),
            )))
            entry_spreads)

        taking : Has (items_piece around (S.with_item l e t r) body k n) c base from base
            (n + size e + 1) behind_it slots_there
            (Each_says Says (withing l x tt ∷ s) (n + size e + 1) behind_it)
        taking = to (each (withing l x tt ∷ s) (n + size e + 1) behind_it (with_part x ∷ parts s)
            refl)
            (back_all (value ∷ base) (behind_val e n h c base base from (over_itself base))
            (back_made (value ∷ slot ∷ base) (behind_enter start c.loop base) (with_part x)
            (length base)
            (front_last (exit_part x) (suc (length base))
            (deeper (value ∷ []) slot (ensured (front_none (fr (suc (length base)))
            (at_taken (with_part x ∷ parts s) (slot ∷ base) t (n + size e + 1) o are)
            (sr (suc (length base))) (λ u v. higher R (lr v)))))
            (λ u v. later_exit (omega (arith, v))))
            (λ u v. earlier_entry u)) (λ u v. earlier_value u))

        inside : Has (items_piece around (S.with_item l e t r) body k n) c base from base behind_it
            x slots_there T
        inside = back_all (value ∷ base) (behind_val e n h c base base from (over_itself base))
            (back_made (value ∷ slot ∷ base) (behind_enter start c.loop base) (with_part x)
            (length base)
            (front_last (exit_part x) (suc (length base))
            (deeper (value ∷ []) slot (ensured (back_all (slot ∷ base)
            (taken_so around b.links next cells captures t (n + size e + 1) o (slot ∷ base)
            {c = with_none c} {Ls = []} {base = slot ∷ base} {from = start} (over_itself (slot
            ∷ base))).behind
            (g (with_none c) (slot ∷ base) _ are (y.1).1) (λ u v. lower taken
            (omega (arith, u, tr))))))
            (λ u v. later_exit v))
            (λ u v. earlier_entry (omega (arith, u, up_to)))) (λ u v. earlier_value
            (omega (arith, u, up_to)))

        held : Known
        held = pending ended c.loop

        at_exit : Has (items_piece around (S.with_item l e t r) body k n) c base from base x (x + 1)
            slots_there (Says (exiting x tt normal ∷ s) x)
        at_exit = to (single (exiting x tt normal ∷ s) x (exit_part x ∷ with_part x ∷ parts s) refl)
            (back_all (value ∷ base) (behind_val e n h c base base from (over_itself base))
            (back_made (value ∷ slot ∷ base) (behind_enter start c.loop base) (with_part x)
            (length base)
            (back_last (held ∷ slot ∷ base) (behind_deeper (P.ensured (P.seq taken R)) c (value
            ∷ []) slot base start (Some (held ∷ slot ∷ base)) refl) (exit_part x)
            (suc (length base)) within_slots
            (front_all (one Q shown (exit_part x ∷ with_part x ∷ parts s) (held ∷ slot ∷ base) [] tt
            (refl, (ended, refl, (y.1).0), are)) (λ u v. silent (P.plain instr.EndFinally)))
            within_spreads (λ u v. lower D (max_le _ _ number (omega (arith, u, tr))
            (omega (arith, u, hr)))))
            (λ u v. earlier_entry (omega (arith, u, up_to)))) (λ u v. earlier_value
            (omega (arith, u, up_to))))

    items_spreads : (is : Items) (body : Stms)
        → ((m d : ℕ) → All_named around body m → spreads (all_piece around body m free)
        (slots_of_all around next body m free d)) → (n d : ℕ)
        → Items_named around is (λ m. All_named around body m) n
        → spreads (items_piece around is (λ m. all_piece around body m free) (stms_size body) n)
        (λ p. slots_of_items around next is (λ m. all_piece around body m free) (stms_size body) n d
        p (slots_of_all around next body (J.body_at is n) free))
    items_spreads is body sb n d h =
        apart.items_spread code table b same rises around is (λ m. all_piece around body m free)
        (stms_size body) n d (slots_of_all around next body (J.body_at is n) free)
        (λ m d z. subst (λ m. spreads (all_piece around body m free) (slots_of_all around next body
        (J.body_at is n) free d)) (sym z)
        (sb (J.body_at is n) d (apart.named_body code table b same rises around is (λ m. All_named
        around body m) n h)))

    items_stand : (is : Items) (body : Stms)
        → ((m : ℕ) → All_named around body m → (s : Shape) → placed_in s ≡ parts s
        → Standing (all_piece around body m free) (slots_of_all around next body m free) s m
        (m + stms_size body) (Stms_say Says body m s))
        → ((m d : ℕ) → All_named around body m → spreads (all_piece around body m free)
        (slots_of_all around next body m free d)) → (n : ℕ) (s : Shape) → placed_in s ≡ parts s
        → Items_named around is (λ m. All_named around body m) n
        → Standing (items_piece around is (λ m. all_piece around body m free) (stms_size body) n)
        (λ d p. slots_of_items around next is (λ m. all_piece around body m free) (stms_size body) n
        d p (slots_of_all around next body (J.body_at is n) free)) s n
        (n + items_size is (stms_size body)) (Items_say Says is (stms_size body) (λ m u. Stms_say
        Says body m u) n s)
    items_stand S.no_items body f sb n s ps h c base from a y = closed (f n h s ps (with_none c)
        base from a y)
    items_stand (S.with_item l e None r) body f sb n s ps (h, i) c base from a y =
        narrow (omega arith) (omega arith) (to (λ p. ((p.0).0, (p.1).0, (p.1).1))
        (item_stands l e None r (λ m. all_piece around body m free) (stms_size body) n
        (λ d p. slots_of_items around next r (λ m. all_piece around body m free) (stms_size body)
        (n + size e + 1) d p (slots_of_all around next body (J.body_at r (n + size e + 1)) free)) s
        (Items_say Says r (stms_size body) (λ m u. Stms_say Says body m u) (n + size e + 1)
        (withing l (n + size e + 1 + items_size r (stms_size body)) tt ∷ s)) ps h tt
        (λ d. items_spreads r body sb (n + size e + 1) d i) (λ v. simple.in_items (λ j. number < j)
        up around r (λ m. all_piece around body m free) (stms_size body) (n + size e + 1)
        (λ m q. later body m free q) v)
        (tops_le (n + size e + 1) _ (n + size e + 1 + items_size r (stms_size body)) _
        (items_tops around r (λ m. all_piece around body m free) (stms_size body) (n + size e + 1)
        (λ m. all_tops around body m free)) (omega arith)) (omega arith) (omega arith)
        (items_stand r body f sb (n + size e + 1) (withing l (n + size e + 1 + items_size r
        (stms_size body)) tt ∷ s) refl i) c base from a y))
    items_stand (S.with_item l e (Some t) r) body f sb n s ps (h, j, i) c base from a y =
        narrow (omega arith) (omega arith) (to (λ p. ((p.0).0, (p.0).1, (p.1).0, (p.1).1))
        (item_stands l e (Some t) r (λ m. all_piece around body m free) (stms_size body) n
        (λ d p. slots_of_items around next r (λ m. all_piece around body m free) (stms_size body)
        (n + size e + 1 + target_size t) d p
        (slots_of_all around next body (J.body_at r (n + size e + 1 + target_size t)) free)) s
        (Items_say Says r (stms_size body) (λ m u. Stms_say Says body m u) (n + size e + 1 +
        target_size t) (withing l (n + size e + 1 + target_size t + items_size r (stms_size body))
        tt ∷ s)) ps h j
        (λ d. items_spreads r body sb (n + size e + 1 + target_size t) d i)
        (λ v. simple.in_items (λ j. number < j) up around r (λ m. all_piece around body m free)
        (stms_size body) (n + size e + 1 + target_size t) (λ m q. later body m free q) v)
        (tops_le (n + size e + 1 + target_size t) _ (n + size e + 1 + target_size t + items_size r
        (stms_size body)) _
        (items_tops around r (λ m. all_piece around body m free) (stms_size body) (n + size e + 1 +
        target_size t) (λ m. all_tops around body m free)) (omega arith)) (omega arith)
        (tops_le (n + size e + 1) _ (n + size e + 1 + target_size t) _ (target_tops around t
        (n + size e + 1) []) (omega arith))
        (items_stand r body f sb (n + size e + 1 + target_size t) (withing l (n + size e + 1 +
        target_size t + items_size r (stms_size body)) tt ∷ s) refl i) c base from a y))

    -- 8.4: handlers, from the slot of their tests

    abbrev Handlers_stand : (q : Piece) → (told : (depth from : ℕ) → List PartSlot) → (f : ℕ)
        → Shape → (n z : ℕ) → Type 0 → Type 0
    Handlers_stand q g f s n z T = (c : Setting) (base : StackMap) (from e : ℕ) → AreOf slots
        (tests_part f ∷ parts s) (exception e ∷ base)
        → AreOf slots (parts s) base → Told slots (g (length base) from) → Has q c base from
        (exception e ∷ base) n z (g (length base) from) T

    -- a handler behind its test
    handled_stands : (l n : ℕ) (y : Option Name) (body : Stms) (s : Shape)
        → ((d : ℕ) → spreads (all_piece around body (handler_body n y) free) (slots_of_all around
        next body (handler_body n y) free d))
        → Standing (all_piece around body (handler_body n y) free) (slots_of_all around next body
        (handler_body n y) free) (with_name y (handling n tt ∷ s)) (handler_body n y)
        (handler_body n y + stms_size body) (Stms_say Says body (handler_body n y)
        (with_name y (handling n tt ∷ s)))
        → (c : Setting) (base : StackMap) (from e : ℕ) → AreOf slots (parts s) base
        → slots (handler_part n) ≡ Some (part_slot (handler_part n) (length base) (next from))
        → Told slots (slots_of_all around next body (handler_body n y) free (suc (length base))
        (next (next from)))
        → Has (handled_piece around l n y (λ m. all_piece around body m free)) c base from
        (exception e ∷ base) (n + 1) (handler_body n y + stms_size body)
        (part_slot (handler_part n) (length base) (next from) ∷ slots_of_all around next body
        (handler_body n y) free (suc (length base)) (next (next from)))
        (Each_says Says (handling n tt ∷ s) (n + 1) (handler_body n y) × Stms_say Says body
        (handler_body n y) (with_name y (handling n tt ∷ s)))
    handled_stands l n None body s sb f c base from e a u t =
        both (known (each (handling n tt ∷ s) (n + 1) (n + 1) (handler_part n ∷ parts s) refl
        (λ y v. absurd (let g : ⊥ = omega (arith, y, v) in g))))
        (back_made (value ∷ slot ∷ base) (behind_caught e (next from) c.loop base) (handler_part n)
        (length base)
        (back_all (slot ∷ base) (behind_pop (next (next from)) c.loop (slot ∷ base))
        (front_all (deeper [] slot (closed (f (with_none c) (slot ∷ base) (next (next from)) are
        t)))
        (λ y v. higher (P.seq (P.move (P.plain instr.EndHandler)) (P.move (P.to Jumps 1)))
        (tt, tt)))
        (λ y v. silent (P.plain instr.Pop))) (λ y v. silent (P.plain instr.Caught)))
      where
        slot : Known
        slot = exception (next from)

        are : AreOf slots (handler_part n ∷ parts s) (slot ∷ base)
        are = (refl, (next from, refl, u), a)
    handled_stands l n (Some x) body s sb f c base from e a u t =
        both (narrow (omega arith) (omega arith) bound) (narrow (omega arith) (omega arith) inside)
      where
        slot : Known
        slot = exception (next from)

        are : AreOf slots (handler_part n ∷ parts s) (slot ∷ base)
        are = (refl, (next from, refl, u), a)

        B : Piece
        B = all_piece around body (n + 1 + 1) free

        last : Piece
        last = P.seq null_piece (P.seq (P.move (store_op (around.variable [] x)))
            (P.seq (P.move (delete_op (around.variable [] x)))
            (P.seq (P.move (P.plain instr.EndFinally)) (P.seq (P.move (P.plain instr.EndHandler))
            (P.move (P.to Jumps 1))))))

        slots_there : List PartSlot
        slots_there = part_slot (handler_part n) (length base) (next from) ∷ slots_of_all around
            next body (n + 1 + 1) free (suc (length base)) (next (next from))

        body_spreads : spreads (P.seq (P.deeper 1 (P.ensured B)) last) (slots_of_all around next
            body (n + 1 + 1) free (suc (length base)))
        body_spreads = first_spreads (deep_spreads (row_spreads (sb (suc (length base)))))

        bound : Has (handled_piece around l n (Some x) (λ m. all_piece around body m free)) c base
            from (exception e ∷ base) (n + 1) (n + 1 + 1) slots_there
            (Each_says Says (handling n tt ∷ s) (n + 1) (n + 1 + 1))
        bound = to (each (handling n tt ∷ s) (n + 1) (n + 1 + 1) (handler_part n ∷ parts s) refl)
            (back_made (value ∷ slot ∷ base) (behind_caught e (next from) c.loop base)
            (handler_part n) (length base)
            (front_none (slots_of_all around next body (n + 1 + 1) free (suc (length base)))
            (one Q shown (handler_part n ∷ parts s) (slot ∷ base) (value ∷ []) value_up are)
            body_spreads
            (λ y v. higher (P.seq (P.deeper 1 (P.ensured B)) last) (
              later body (n + 1 + 1) free v,
              (tt, (tt, (tt, (tt, (tt, tt))))),
            )))
            (λ y v. silent (P.plain instr.Caught)))

        inside : Has (handled_piece around l n (Some x) (λ m. all_piece around body m free)) c base
            from (exception e ∷ base) (n + 1 + 1) (n + 1 + 1 + stms_size body) slots_there
            (Stms_say Says body (n + 1 + 1) (naming x ∷ handling n tt ∷ s))
        inside = back_made (value ∷ slot ∷ base) (behind_caught e (next from) c.loop base)
            (handler_part n) (length base)
            (back_all (slot ∷ base) (stored around b.links next cells captures x (n + 1) l (slot
            ∷ base) {c = c} {Ls = []} {base = base} {from = next from} (over_more slot
            (over_itself base))).behind
            (front_all (deeper [] slot (ensured (f (with_none c) (slot ∷ base) (next (next from))
            are t))) (λ y v. higher last (tt, (tt, (tt, (tt, (tt, tt)))))))
            (λ y v. lower (store_piece around x (n + 1) l) (omega (arith, y))))
            (λ y v. silent (P.plain instr.Caught))

    handled_le : (l n : ℕ) (y : Option Name) (body : Stms) (w : ℕ) → handler_body n y + stms_size
        body ≤ w → above (handled_piece around l n y (λ m. all_piece around body m free)) ≤ w
    handled_le l n None body w h =
        max_le _ _ w (none_le w) (max_le _ _ w (none_le w) (max_le _ _ w (all_le body (n + 1) free w
        h) (max_le _ _ w (none_le w) (none_le w))))
    handled_le l n (Some x) body w h =
        max_le _ _ w (none_le w) (max_le _ _ w (omega (arith, h))
        (max_le _ _ w (all_le body (n + 1 + 1) free w h) (max_le _ _ w (none_le w)
        (max_le _ _ w (none_le w)
        (max_le _ _ w (none_le w) (max_le _ _ w (none_le w) (max_le _ _ w (none_le w)
        (none_le w))))))))

    body_above : (n : ℕ) (y : Option Name) → n + 1 ≤ handler_body n y
    body_above n None = omega arith
    body_above n (Some x) = omega arith

    -- a handler, whose test follows what gives the class
    handler_stands : (class : Piece) (l f i n : ℕ) (y : Option Name) (body : Stms) (last : Piece)
        (g : (depth from : ℕ) → List PartSlot) (s : Shape) (z : ℕ) (T : Type 0)
        → ((c : Setting) (base F : StackMap) (from : ℕ) → AreOf slots (tests_part f ∷ parts s) F
        → Has class c base from F i (n + 1) [] (Within i (n + 1) (Q (tests_part f ∷ parts s))))
        → above class ≤ n → i ≤ n → GivesClass around b.links next cells captures class
        → ((m : ℕ) → m ≡ handler_body n y → outs (all_piece around body m free))
        → ((d : ℕ) → spreads (all_piece around body (handler_body n y) free) (slots_of_all around
        next body (handler_body n y) free d))
        → Standing (all_piece around body (handler_body n y) free) (slots_of_all around next body
        (handler_body n y) free) (with_name y (handling n tt ∷ s)) (handler_body n y)
        (handler_body n y + stms_size body) (Stms_say Says body (handler_body n y)
        (with_name y (handling n tt ∷ s)))
        → ((d : ℕ) → spreads last (g d)) → (number < handler_body n y + stms_size body
        → Numbers (λ j. number < j) last) → handler_body n y + stms_size body ≤ z
        → Handlers_stand last g f s (handler_body n y + stms_size body) z T
        → (c : Setting) (base : StackMap) (from e : ℕ) → AreOf slots (tests_part f ∷ parts s)
        (exception e ∷ base) → AreOf slots (parts s) base
        → slots (handler_part n) ≡ Some (part_slot (handler_part n) (length base)
        (next (next (next (end_of next class from)))))
        → Told slots (slots_of_all around next body (handler_body n y) free (suc (length base))
        (next (next (next (next (end_of next class from))))))
        → Told slots (g (length base) (end_of next (handled_piece around l n y (λ m. all_piece
        around body m free)) (next (next (end_of next class from)))))
        → Has (P.seq (P.block (handler_of around b.links next cells captures class l n y
        (λ m. all_piece around body m free))) last) c base from (exception e ∷ base) i z
        (part_slot (handler_part n) (length base) (next (next (next (end_of next class from))))
        ∷ (slots_of_all around next body (handler_body n y) free (suc (length base))
        (next (next (next (next (end_of next class from)))))
        ++ g (length base) (end_of next (handled_piece around l n y (λ m. all_piece around body m
        free)) (next (next (end_of next class from))))))
        ((Each_says Says (testing f tt ∷ s) i (n + 1) × (Each_says Says (handling n tt ∷ s) (n + 1)
        (handler_body n y)
        × Stms_say Says body (handler_body n y) (with_name y (handling n tt ∷ s)))) × T)
    handler_stands class l f i n y body last g s z T leaf_of cl il k out sb st sg lg le j c base
        from e tests a u t v =
        both (both (narrow (omega arith) (let h = body_above n y in omega (arith, le, h)) test)
        (narrow (omega (arith, il)) (omega (arith, le)) inside))
        (narrow (let h = body_above n y in omega (arith, il, h)) (omega arith) behind_it)
      where
        exc : Known
        exc = exception e

        whole : Piece
        whole = P.seq (P.block (handler_of around b.links next cells captures class l n y
            (λ m. all_piece around body m free))) last

        handled : Piece
        handled = handled_piece around l n y (λ m. all_piece around body m free)

        tested : ℕ
        tested = next (next (end_of next class from))

        in_body : (from : ℕ) → List PartSlot
        in_body p = slots_of_all around next body (handler_body n y) free (suc (length base)) p

        slots_there : List PartSlot
        slots_there = part_slot (handler_part n) (length base) (next tested)
            ∷ (in_body (next (next tested)) ++ g (length base) (end_of next handled tested))

        handled_spreads : spreads handled (λ p. part_slot (handler_part n) (length base) (next p)
            ∷ in_body (next (next p)))
        handled_spreads = apart.handled_spreads code table b same rises around l n (length base) y
            (λ m. all_piece around body m free) (handler_part n)
            (slots_of_all around next body (handler_body n y) free (suc (length base)))
            (λ m q. subst (λ m. spreads (all_piece around body m free) (slots_of_all around next
            body (handler_body n y) free (suc (length base)))) (sym q) (sb (suc (length base))))

        test_spreads : spreads (P.seq (P.move (P.to IfFalse 0)) handled) (λ p. part_slot
            (handler_part n) (length base) (next (next p)) ∷ in_body (next (next (next p))))
        test_spreads = second_spreads handled_spreads

        numbers_behind : number < n + 1 → Numbers (λ j. number < j) handled
        numbers_behind v = simple.in_handler (λ j. number < j) up around l n y (λ m. all_piece
            around body m free) (λ m h. later body m free h) v

        test : Has whole c base from (exc ∷ base) i (n + 1) slots_there (Each_says Says
            (testing f tt ∷ s) i (n + 1))
        test = to (each (testing f tt ∷ s) i (n + 1) (tests_part f ∷ parts s) refl)
            (front (g (length base)) (blocked (either (λ p. part_slot (handler_part n) (length base)
            (next (next (next p))) ∷ in_body (next (next (next (next p))))) (value ∷ exc ∷ base)
            (k (exc ∷ base) _ [] base from (over_more exc (over_itself base))).behind
            (leaf_of _ base (exc ∷ base) from tests)
            (front_none (λ p. part_slot (handler_part n) (length base) (next (next p))
            ∷ in_body (next (next (next p))))
            (one Q shown (tests_part f ∷ parts s) (exc ∷ base) (value ∷ []) value_up tests)
            test_spreads
            (λ w v. higher (P.seq (P.move (P.to IfFalse 0)) handled) (tt, numbers_behind v)))
            (second_spreads test_spreads))) (sg (length base))
            (λ w v. higher last (lg (let h = body_above n y in omega (arith, v, h)))))

        inside : Has whole c base from (exc ∷ base) (n + 1) (handler_body n y + stms_size body)
            slots_there
            (Each_says Says (handling n tt ∷ s) (n + 1) (handler_body n y) × Stms_say Says body
            (handler_body n y) (with_name y (handling n tt ∷ s)))
        inside = front (g (length base)) (blocked (back_all (value ∷ exc ∷ base) (k (exc ∷ base) _
            [] base from (over_more exc (over_itself base))).behind
            (back_all (value ∷ exc ∷ base) (behind_match e _ c.loop base) (back_all (exc ∷ base)
            (behind_test _ c.loop (exc ∷ base))
            (handled_stands l n y body s sb st _ base tested e a u t) (λ w v. silent
            (P.to IfFalse 0)))
            (λ w v. lower (P.act (P.plain instr.Match) n l false) (omega (arith, w))))
            (λ w v. lower class (omega (arith, w, cl))))) (sg (length base))
            (λ w v. higher last (lg v))

        behind_it : Has whole c base from (exc ∷ base) (handler_body n y + stms_size body) z
            slots_there T
        behind_it =
            let r : Handler' around b.links next cells captures class l n y (λ m. all_piece around
            body m free) c base from e =
            handler around b.links next cells captures class l n y (λ m. all_piece around body m
            free) k out c base from e in
            back (exc ∷ base) r.on (λ p. part_slot (handler_part n) (length base)
            (next (next (next (end_of next class p))))
            ∷ in_body (next (next (next (next (end_of next class p))))))
            (j c base _ e tests a v) (block_spreads (second_spreads (second_spreads test_spreads)))
            (λ w v. let h = body_above n y in lower (P.block (handler_of around b.links next cells
            captures class l n y (λ m. all_piece around body m free)))
            (max_le _ _ number (omega (arith, w, cl, h)) (max_le _ _ number (omega (arith, w, h))
            (max_le _ _ number (none_le number) (handled_le l n y body number w)))))

    -- the body of a `try`, its `else` part, which stands behind it, and its handlers

    abbrev with_tests : Handlers → PartSlot → (both handlers : List PartSlot) → List PartSlot
    with_tests S.no_handlers x ss us = ss
    with_tests (S.handler l c y body r) x ss us = x ∷ (ss ++ us)

    abbrev with_finally : Stms → PartSlot → (tried last : List PartSlot) → List PartSlot
    with_finally none x ss us = ss
    with_finally (more st rs) x ss us = x ∷ (ss ++ us)

    guarded_spreads : (hs : Handlers) (B E H : Piece) (k j n d : ℕ) (f g h : (from : ℕ)
        → List PartSlot) → is_empty H ≡ false → spreads B f → spreads E g → spreads H h
        → spreads (guarded_piece hs (P.closed B) (P.numbered k (P.closed E)) (P.numbered j H))
        (λ p. with_tests hs (part_slot (tests_part n) d (next (end_of next E (end_of next B p))))
        (f p ++ g (end_of next B p)) (h (next (end_of next E (end_of next B p)))))
    guarded_spreads S.no_handlers B E H k j n d f g h i u v w = apart.both_in code table b same
        rises (closed_spreads u) (count_spreads (closed_spreads v))
    guarded_spreads (S.handler l x y q r) B E H k j n d f g h i u v w =
        block_spreads (between_spread (tests_part n) d (and_last (is_empty B) (is_empty E && false)
        (and_last (is_empty E) false refl)) i
        (caught_spreads (closed_spreads u) (first_spreads (count_spreads (closed_spreads v))))
        (count_spreads w))

    no_number : (q : Piece) → Numbers (λ j. j ≡ number → ⊥) q → Shuns q
    no_number q h = by_numbers (λ j. j ≡ number → ⊥) (λ f. f refl) q h

    in_tried : (hs : Handlers) (st : Stm) (ss els : Stms) (n : ℕ) (v : Behind) (s u : Shape)
        → (hs ≡ S.no_handlers → Handlers_say Says (n + stms_size (more st ss)) hs (n + stms_size
        (more st ss)) u)
        → is_empty (all_piece around (more st ss) n (in_front els v)) ≡ false
        → (is_needed (in_front els v) ≡ true → Ons around b.links next cells captures
        (all_piece around (more st ss) n (in_front els v)))
        → ((d : ℕ) → spreads (all_piece around (more st ss) n (in_front els v)) (slots_of_all around
        next (more st ss) n (in_front els v) d))
        → ((d : ℕ) → spreads (all_piece around els (n + stms_size (more st ss) + handlers_size hs)
        v) (slots_of_all around next els (n + stms_size (more st ss) + handlers_size hs) v d))
        → ((d : ℕ) → spreads (handlers_piece around hs (n + stms_size (more st ss)))
        (slots_of_handlers around next hs (n + stms_size (more st ss)) d))
        → is_empty (handlers_piece around hs (n + stms_size (more st ss))) ≡ false
        → above (handlers_piece around hs (n + stms_size (more st ss))) ≤ n + stms_size (more st ss)
        + handlers_size hs
        → Standing (all_piece around (more st ss) n (in_front els v)) (slots_of_all around next
        (more st ss) n (in_front els v)) s n (n + stms_size (more st ss))
        (Stms_say Says (more st ss) n (guarded (n + stms_size (more st ss)) hs els ∷ u))
        → Standing (all_piece around els (n + stms_size (more st ss) + handlers_size hs) v)
        (slots_of_all around next els (n + stms_size (more st ss) + handlers_size hs) v) s
        (n + stms_size (more st ss) + handlers_size hs) (n + stms_size (more st ss) + handlers_size
        hs + stms_size els)
        (Stms_say Says els (n + stms_size (more st ss) + handlers_size hs) u)
        → Handlers_stand (handlers_piece around hs (n + stms_size (more st ss))) (slots_of_handlers
        around next hs (n + stms_size (more st ss))) (n + stms_size (more st ss)) s
        (n + stms_size (more st ss)) (n + stms_size (more st ss) + handlers_size hs)
        (Handlers_say Says (n + stms_size (more st ss)) hs (n + stms_size (more st ss)) u)
        → (c : Setting) (base : StackMap) (from : ℕ) → AreOf slots (parts s) base
        → Told slots (slots_of_all around next (more st ss) n (in_front els v) (length base) from)
        → Told slots (tests_slot hs (n + stms_size (more st ss)) (length base)
        (next (end_of next (all_piece around els (n + stms_size (more st ss) + handlers_size hs) v)
        (end_of next (all_piece around (more st ss) n (in_front els v)) from))))
        → Told slots (slots_of_handlers around next hs (n + stms_size (more st ss)) (length base)
        (next (end_of next (all_piece around els (n + stms_size (more st ss) + handlers_size hs) v)
        (end_of next (all_piece around (more st ss) n (in_front els v)) from))))
        → Told slots (slots_of_all around next els (n + stms_size (more st ss) + handlers_size hs) v
        (length base) (end_of next (all_piece around (more st ss) n (in_front els v)) from))
        → Has (guarded_piece hs (P.closed (all_piece around (more st ss) n (in_front els v)))
        (P.numbered (n + stms_size (more st ss) + handlers_size hs) (P.closed (all_piece around els
        (n + stms_size (more st ss) + handlers_size hs) v)))
        (P.numbered (n + stms_size (more st ss)) (handlers_piece around hs (n + stms_size
        (more st ss))))) c base from base n
        (n + stms_size (more st ss) + handlers_size hs + stms_size els)
        (with_tests hs (part_slot (tests_part (n + stms_size (more st ss))) (length base)
        (next (end_of next (all_piece around els (n + stms_size (more st ss) + handlers_size hs) v)
        (end_of next (all_piece around (more st ss) n (in_front els v)) from))))
        (slots_of_all around next (more st ss) n (in_front els v) (length base) from
        ++ slots_of_all around next els (n + stms_size (more st ss) + handlers_size hs) v
        (length base) (end_of next (all_piece around (more st ss) n (in_front els v)) from))
        (slots_of_handlers around next hs (n + stms_size (more st ss)) (length base)
        (next (end_of next (all_piece around els (n + stms_size (more st ss) + handlers_size hs) v)
        (end_of next (all_piece around (more st ss) n (in_front els v)) from)))))
        (Stms_say Says (more st ss) n (guarded (n + stms_size (more st ss)) hs els ∷ u)
        × (Handlers_say Says (n + stms_size (more st ss)) hs (n + stms_size (more st ss)) u
        × Stms_say Says els (n + stms_size (more st ss) + handlers_size hs) u))
    in_tried S.no_handlers st ss els n v s u none_left some on sb se sh hsome hle f g h c base from
        a t1 t2 t3 t4 =
        both (narrow (omega arith) (omega arith) in_body) (both (known (none_left refl))
        (narrow (omega arith) (omega arith) (in_else els on se sb g t4)))
      where
        first_test : ℕ
        first_test = n + stms_size (more st ss)

        B : Piece
        B = all_piece around (more st ss) n (in_front els v)

        in_body : Has (P.seq (P.closed B) (P.numbered (first_test + 0)
            (P.closed (all_piece around els (first_test + 0) v)))) c base from base n first_test
            (slots_of_all around next (more st ss) n (in_front els v) (length base) from
            ++ slots_of_all around next els (first_test + 0) v (length base) (end_of next B from))
            (Stms_say Says (more st ss) n (guarded first_test S.no_handlers els ∷ u))
        in_body = front (slots_of_all around next els (first_test + 0) v (length base))
            (closed (f (with_none c) base from a t1)) (count_spreads (closed_spreads
            (se (length base))))
            (λ y w. higher (P.numbered (first_test + 0) (P.closed (all_piece around els
            (first_test + 0) v))) (later els (first_test + 0) v (omega (arith, w))))

        in_else : (els : Stms) → (is_needed (in_front els v) ≡ true → Ons around b.links next cells
            captures (all_piece around (more st ss) n (in_front els v)))
            → ((d : ℕ) → spreads (all_piece around els (first_test + 0) v) (slots_of_all around next
            els (first_test + 0) v d))
            → ((d : ℕ) → spreads (all_piece around (more st ss) n (in_front els v))
            (slots_of_all around next (more st ss) n (in_front els v) d))
            → Standing (all_piece around els (first_test + 0) v) (slots_of_all around next els
            (first_test + 0) v) s (first_test + 0) (first_test + 0 + stms_size els) (Stms_say Says
            els (first_test + 0) u)
            → Told slots (slots_of_all around next els (first_test + 0) v (length base)
            (end_of next (all_piece around (more st ss) n (in_front els v)) from))
            → Has (P.seq (P.closed (all_piece around (more st ss) n (in_front els v)))
            (P.numbered (first_test + 0) (P.closed (all_piece around els (first_test + 0) v)))) c
            base from base (first_test + 0)
            (first_test + 0 + stms_size els) (slots_of_all around next (more st ss) n
            (in_front els v) (length base) from
            ++ slots_of_all around next els (first_test + 0) v (length base)
            (end_of next (all_piece around (more st ss) n (in_front els v)) from)) (Stms_say Says
            els (first_test + 0) u)
        in_else none on se sb g t4 = known tt
        in_else (more su us) on se sb g t4 = back base (on refl (with_none c) base from)
            (slots_of_all around next (more st ss) n needed (length base))
            (counted (closed (g (with_none c) base _ a t4)))
            (closed_spreads (sb (length base)))
            (λ y w. lower (P.closed (all_piece around (more st ss) n needed)) (all_le (more st ss) n
            needed number (omega (arith, y))))
    in_tried (S.handler l x y q r) st ss els n v s u none_left some on sb se sh hsome hle f g h c
        base from a t1 t2 t3 t4 =
        both (narrow (omega arith) (omega arith) in_body) (both (narrow (omega arith) (omega arith)
        in_handlers) (narrow (omega arith) (omega arith) (in_else els on se sb some g t4)))
      where
        hs : Handlers
        hs = S.handler l x y q r

        first_test : ℕ
        first_test = n + stms_size (more st ss)

        o : ℕ
        o = first_test + handlers_size (S.handler l x y q r)

        B : Piece
        B = all_piece around (more st ss) n (in_front els v)

        H : Piece
        H = handlers_piece around (S.handler l x y q r) first_test

        skipped : Piece
        skipped = P.seq (P.numbered o (P.closed (all_piece around els o v))) (P.move (P.to Jumps 0))

        tests : ℕ
        tests = next (end_of next (all_piece around els o v) (end_of next B from))

        guard : Piece
        guard = P.block (P.seq (P.caught (P.closed B) skipped) (P.numbered first_test H))

        slots_there : List PartSlot
        slots_there = part_slot (tests_part first_test) (length base) tests
            ∷ ((slots_of_all around next (more st ss) n (in_front els v) (length base) from
            ++ slots_of_all around next els o v (length base) (end_of next B from))
            ++ slots_of_handlers around next (S.handler l x y q r) first_test (length base) tests)

        skipped_spreads : spreads skipped (slots_of_all around next els o v (length base))
        skipped_spreads = first_spreads (count_spreads (closed_spreads (se (length base))))

        later_handlers : number < first_test → Shuns (P.numbered first_test H)
        later_handlers w = higher (P.numbered first_test H) (simple.handlers (λ j. number < j) up
            around (S.handler l x y q r) first_test w)

        in_body : Has guard c base from base n first_test slots_there (Stms_say Says (more st ss) n
            (guarded first_test (S.handler l x y q r) els ∷ u))
        in_body = blocked (front_more (tests_part first_test) (length base) (slots_of_handlers
            around next (S.handler l x y q r) first_test (length base))
            (caught_first (slots_of_all around next els o v (length base))
            (closed (f _ base from a t1)) skipped_spreads (λ y w. higher skipped (
              later els o v
                  (omega (arith, w)),
              tt,
            )))
            (count_spreads (sh (length base))) (λ y w. later_handlers w))

        in_handlers : Has guard c base from base first_test o slots_there (Handlers_say Says
            first_test (S.handler l x y q r) first_test u)
        in_handlers = blocked (back_more (exception tests ∷ base) (ap (λ z. if z then None else Some
            (exception tests ∷ base)) some) (tests_part first_test) (length base)
            (λ p. slots_of_all around next (more st ss) n (in_front els v) (length base) p
            ++ slots_of_all around next els o v (length base) (end_of next B p))
            (counted (h _ base tests tests (refl, (tests, refl, t2.0), a) a t3)) (caught_spreads
            (closed_spreads (sb (length base))) skipped_spreads)
            (λ y w. no_number (P.caught (P.closed B) skipped) (
              numbers_of (λ j. j < number) (λ j. j ≡ number → ⊥) (λ j l e. (let k : ⊥ = omega
                  (arith, l, e) in k)) B
                  (below_above B number (all_le (more st ss) n (in_front els v) number y)),
              (
                numbers_of (λ j. number < j) (λ j. j ≡ number → ⊥) (λ j l e. (let k : ⊥ = omega
                    (arith, l, e) in k)) (all_piece around els o v) (later els o v w),
                tt,
              ),
            )))

        in_else : (els : Stms) → (is_needed (in_front els v) ≡ true → Ons around b.links next cells
            captures (all_piece around (more st ss) n (in_front els v)))
            → ((d : ℕ) → spreads (all_piece around els o v) (slots_of_all around next els o v d))
            → ((d : ℕ) → spreads (all_piece around (more st ss) n (in_front els v))
            (slots_of_all around next (more st ss) n (in_front els v) d))
            → is_empty (all_piece around (more st ss) n (in_front els v)) ≡ false
            → Standing (all_piece around els o v) (slots_of_all around next els o v) s o
            (o + stms_size els) (Stms_say Says els o u)
            → Told slots (slots_of_all around next els o v (length base)
            (end_of next (all_piece around (more st ss) n (in_front els v)) from))
            → Has (P.block (P.seq (P.caught (P.closed (all_piece around (more st ss) n
            (in_front els v))) (P.seq (P.numbered o (P.closed (all_piece around els o v)))
            (P.move (P.to Jumps 0))))
            (P.numbered first_test (handlers_piece around (S.handler l x y q r) first_test)))) c
            base from base o (o + stms_size els)
            (part_slot (tests_part first_test) (length base)
            (next (end_of next (all_piece around els o v) (end_of next (all_piece around
            (more st ss) n (in_front els v)) from)))
            ∷ ((slots_of_all around next (more st ss) n (in_front els v) (length base) from
            ++ slots_of_all around next els o v (length base) (end_of next (all_piece around
            (more st ss) n (in_front els v)) from))
            ++ slots_of_handlers around next (S.handler l x y q r) first_test (length base)
            (next (end_of next (all_piece around els o v) (end_of next (all_piece around
            (more st ss) n (in_front els v)) from))))) (Stms_say Says els o u)
        in_else none on se sb some g t4 = known tt
        in_else (more su us) on se sb some g t4 =
            blocked (front_more (tests_part first_test) (length base) (slots_of_handlers around next
            (S.handler l x y q r) first_test (length base))
            (caught_second (slots_of_all around next (more st ss) n needed (length base)) base
            (on refl (with_none c) base from)
            (front_all (counted (closed (g _ base _ a t4))) (λ y w. silent (P.to Jumps 0)))
            (closed_spreads (sb (length base)))
            (λ y w. lower (P.closed (all_piece around (more st ss) n needed)) (all_le (more st ss) n
            needed number (omega (arith, y)))))
            (count_spreads (sh (length base))) (λ d w. lower (P.numbered first_test (handlers_piece
            around (S.handler l x y q r) first_test)) (omega (arith, d, hle))))

    -- under the row of a `finally` part, if there is one, and that part
    ensured_spreads : (fin : Stms) (tried : Piece) (k n m d : ℕ) (v : Behind) (f : (from : ℕ)
        → List PartSlot) → spreads tried f
        → ((d : ℕ) → spreads (all_piece around fin m v) (slots_of_all around next fin m v d))
        → spreads (ensured_piece fin tried (P.numbered k (P.closed (all_piece around fin m v))))
        (λ p. with_finally fin (part_slot (finally_part n) d (next (end_of next tried p))) (f p)
        (slots_of_all around next fin m v (suc d) (next (end_of next tried p))))
    ensured_spreads none tried k n m d v f sf sl = first_spreads sf
    ensured_spreads (more st ss) tried k n m d v f sf sl =
        between_spread (finally_part n) d refl (and_last (is_empty (all_piece around (more st ss) m
        v)) false refl) (row_spreads sf)
        (first_spreads (deep_spreads (count_spreads (closed_spreads (sl (suc d))))))

    ensured_stands : (fin : Stms) (tried : Piece) (k n i m : ℕ) (v : Behind) (s : Shape)
        (T : Type 0) (f : (from : ℕ) → List PartSlot) → spreads tried f → above tried ≤ m → i ≤ m
        → ((d : ℕ) → spreads (all_piece around fin m v) (slots_of_all around next fin m v d))
        → Standing (all_piece around fin m v) (slots_of_all around next fin m v) (ending n normal
        ∷ s) m (m + stms_size fin) (Stms_say Says fin m (ending n normal ∷ s))
        → (c : Setting) (base : StackMap) (from : ℕ) → ((c : Setting) → Has tried c base from base i
        m (f from) T) → AreOf slots (parts s) base
        → Told slots (finally_slot fin n (length base) (next (end_of next tried from)))
        → Told slots (slots_of_all around next fin m v (suc (length base))
        (next (end_of next tried from)))
        → Has (ensured_piece fin tried (P.numbered k (P.closed (all_piece around fin m v)))) c base
        from base i (m + stms_size fin)
        (with_finally fin (part_slot (finally_part n) (length base) (next (end_of next tried from)))
        (f from)
        (slots_of_all around next fin m v (suc (length base)) (next (end_of next tried from))))
        (T × Stms_say Says fin m (ending n normal ∷ s))
    ensured_stands none tried k n i m v s T f sf le il sl g c base from w a t y =
        both (narrow (omega arith) (omega arith) (front_all (w c) (λ y v. higher
        (P.numbered k (P.closed P.empty)) tt))) (known tt)
    ensured_stands (more st ss) tried k n i m v s T f sf le il sl g c base from w a t y =
        both (narrow (omega arith) (omega arith) (front_more (finally_part n) (length base)
        (slots_of_all around next (more st ss) m v (suc (length base))) (ensured (w (with_none c)))
        (first_spreads (deep_spreads (count_spreads (closed_spreads (sl (suc (length base)))))))
        (λ y z. higher (P.seq (P.deeper 1 (P.numbered k (P.closed (all_piece around (more st ss) m
        v)))) (P.move (P.plain instr.EndFinally))) (later (more st ss) m v z, tt))))
        (narrow (omega (arith, il)) (omega arith) (back_more (held ∷ base) refl (finally_part n)
        (length base) f
        (front_all (deeper [] held (counted (closed (g (with_none c) (held ∷ base) begins
        (refl, (begins, refl, t.0), a) y)))) (λ y z. silent (P.plain instr.EndFinally)))
        (row_spreads sf) (λ y z. lower (P.ensured tried) (omega (arith, y, le)))))
      where
        begins : ℕ
        begins = next (end_of next tried from)

        held : Known
        held = pending begins c.loop

    sorted : (hs : Handlers) (fin : Stms) (n d p q : ℕ) (bs es us ls : List PartSlot) (k : ℕ)
        → (hs ≡ S.no_handlers → us ≡ []) → (fin ≡ none → ls ≡ []) → (s : PartSlot)
        → In s (finally_slot fin n d p ++ (bs ++ (tests_slot hs k d q ++ (us ++ (es ++ ls)))))
        → In s (with_finally fin (part_slot (finally_part n) d p) (with_tests hs
        (part_slot (tests_part k) d q) (bs ++ es) us) ls)
    sorted hs fin n d p q bs es us ls k eh ef s i =
        ⊎_elim (λ j. of_finally fin j) (λ j. in_rest fin ef (⊎_elim (λ y. inl (of_body hs y))
        (λ y. ⊎_elim (λ v. inl (of_tests hs v)) (λ v. ⊎_elim (λ w. inl (of_handlers hs eh w))
        (λ w. ⊎_elim (λ z. inl (of_else hs z)) (λ z. inr z) (in_either s es ls w)) (in_either s us
        (es ++ ls) v)) (in_either s (tests_slot hs k d q) (us ++ (es ++ ls)) y))
        (in_either s bs (tests_slot hs k d q ++ (us ++ (es ++ ls))) j)))
        (in_either s (finally_slot fin n d p) (bs ++ (tests_slot hs k d q ++ (us ++ (es ++ ls)))) i)
      where
        of_finally : (fin : Stms) → In s (finally_slot fin n d p)
            → In s (with_finally fin (part_slot (finally_part n) d p) (with_tests hs
            (part_slot (tests_part k) d q) (bs ++ es) us) ls)
        of_finally none i = absurd i
        of_finally (more st ss) (inl e) = inl e
        of_finally (more st ss) (inr i) = absurd i

        in_rest : (fin : Stms) → (fin ≡ none → ls ≡ [])
            → In s (with_tests hs (part_slot (tests_part k) d q) (bs ++ es) us) ⊎ In s ls
            → In s (with_finally fin (part_slot (finally_part n) d p) (with_tests hs
            (part_slot (tests_part k) d q) (bs ++ es) us) ls)
        in_rest none ef (inl i) = i
        in_rest none ef (inr i) = absurd (subst (In s) (ef refl) i)
        in_rest (more st ss) ef (inl i) = inr (in_left s (with_tests hs (part_slot (tests_part k) d
            q) (bs ++ es) us) ls i)
        in_rest (more st ss) ef (inr i) = inr (in_right s (with_tests hs (part_slot (tests_part k) d
            q) (bs ++ es) us) ls i)

        of_body : (hs : Handlers) → In s bs → In s (with_tests hs (part_slot (tests_part k) d q)
            (bs ++ es) us)
        of_body S.no_handlers i = in_left s bs es i
        of_body (S.handler l c y body r) i = inr (in_left s (bs ++ es) us (in_left s bs es i))

        of_else : (hs : Handlers) → In s es → In s (with_tests hs (part_slot (tests_part k) d q)
            (bs ++ es) us)
        of_else S.no_handlers i = in_right s bs es i
        of_else (S.handler l c y body r) i = inr (in_left s (bs ++ es) us (in_right s bs es i))

        of_tests : (hs : Handlers) → In s (tests_slot hs k d q)
            → In s (with_tests hs (part_slot (tests_part k) d q) (bs ++ es) us)
        of_tests S.no_handlers i = absurd i
        of_tests (S.handler l c y body r) (inl e) = inl e
        of_tests (S.handler l c y body r) (inr i) = absurd i

        of_handlers : (hs : Handlers) → (hs ≡ S.no_handlers → us ≡ []) → In s us
            → In s (with_tests hs (part_slot (tests_part k) d q) (bs ++ es) us)
        of_handlers S.no_handlers eh i = absurd (subst (In s) (eh refl) i)
        of_handlers (S.handler l c y body r) eh i = inr (in_right s (bs ++ es) us i)

    handlers_le : (hs : Handlers) (n : ℕ) → above (handlers_piece around hs n) ≤ n + handlers_size
        hs
    handlers_le S.no_handlers n = omega arith
    handlers_le (S.handler l S.absent None body r) n =
        let w = handlers_le r (n + 1 + stms_size body) in
        max_le _ _ (n + handlers_size (S.handler l S.absent None body r))
        (max_le _ _ (n + handlers_size (S.handler l S.absent None body r)) (omega arith)
        (max_le _ _ (n + handlers_size (S.handler l S.absent None body r)) (omega arith)
        (max_le _ _ (n + handlers_size (S.handler l S.absent None body r)) (omega arith)
        (handled_le l n None body (n + handlers_size (S.handler l S.absent None body r))
        (omega arith)))))
        (omega (arith, w))
    handlers_le (S.handler l S.absent (Some x) body r) n =
        let w = handlers_le r (n + 1 + 1 + stms_size body) in
        max_le _ _ (n + handlers_size (S.handler l S.absent (Some x) body r))
        (max_le _ _ (n + handlers_size (S.handler l S.absent (Some x) body r)) (omega arith)
        (max_le _ _ (n + handlers_size (S.handler l S.absent (Some x) body r)) (omega arith)
        (max_le _ _ (n + handlers_size (S.handler l S.absent (Some x) body r)) (omega arith)
        (handled_le l n (Some x) body (n + handlers_size (S.handler l S.absent (Some x) body r))
        (omega arith)))))
        (omega (arith, w))
    handlers_le (S.handler l (S.given e) None body r) n =
        let w = handlers_le r (n + size e + 1 + stms_size body) in
        max_le _ _ (n + handlers_size (S.handler l (S.given e) None body r))
        (max_le _ _ (n + handlers_size (S.handler l (S.given e) None body r))
        (val_le e n (n + handlers_size (S.handler l (S.given e) None body r)) (omega arith))
        (max_le _ _ (n + handlers_size (S.handler l (S.given e) None body r)) (omega arith)
        (max_le _ _ (n + handlers_size (S.handler l (S.given e) None body r)) (omega arith)
        (handled_le l (n + size e) None body (n + handlers_size (S.handler l (S.given e) None body
        r)) (omega arith)))))
        (omega (arith, w))
    handlers_le (S.handler l (S.given e) (Some x) body r) n =
        let w = handlers_le r (n + size e + 1 + 1 + stms_size body) in
        max_le _ _ (n + handlers_size (S.handler l (S.given e) (Some x) body r))
        (max_le _ _ (n + handlers_size (S.handler l (S.given e) (Some x) body r))
        (val_le e n (n + handlers_size (S.handler l (S.given e) (Some x) body r)) (omega arith))
        (max_le _ _ (n + handlers_size (S.handler l (S.given e) (Some x) body r)) (omega arith)
        (max_le _ _ (n + handlers_size (S.handler l (S.given e) (Some x) body r)) (omega arith)
        (handled_le l (n + size e) (Some x) body (n + handlers_size (S.handler l (S.given e)
        (Some x) body r)) (omega arith)))))
        (omega (arith, w))

    guarded_le : (hs : Handlers) (B E H : Piece) (k j w : ℕ) → above B ≤ w → above E ≤ w → above H ≤
        w
        → above (guarded_piece hs (P.closed B) (P.numbered k (P.closed E)) (P.numbered j H)) ≤ w
    guarded_le S.no_handlers B E H k j w l h g = max_le _ _ w l h
    guarded_le (S.handler a x y q r) B E H k j w l h g = max_le _ _ w (max_le _ _ w l
        (max_le _ _ w h (none_le w))) g

    -- no other than those of handlers, where there are some
    no_handlers_say : (f n : ℕ) (s : Shape) (hs : Handlers) → hs ≡ S.no_handlers → Handlers_say Says
        f hs n s
    no_handlers_say f n s hs e = subst (λ hs. Handlers_say Says f hs n s) (sym e) tt

    try_stands : (l n : ℕ) (st : Stm) (ss : Stms) (hs : Handlers) (els fin : Stms) (w : Behind)
        (s : Shape) → placed_in s ≡ parts s
        → Stm_named around (S.try l (more st ss) hs els fin) n → Grammatical (S.try l (more st ss)
        hs els fin)
        → ((d : ℕ) → spreads (all_piece around (more st ss) (n + 1) (in_front els (behind_tried hs
        fin w))) (slots_of_all around next (more st ss) (n + 1) (in_front els (behind_tried hs fin
        w)) d))
        → ((d : ℕ) → spreads (all_piece around els (try_else n (more st ss) hs) (behind_tried hs fin
        w)) (slots_of_all around next els (try_else n (more st ss) hs) (behind_tried hs fin w) d))
        → ((d : ℕ) → spreads (handlers_piece around hs (try_handlers n (more st ss)))
        (slots_of_handlers around next hs (try_handlers n (more st ss)) d))
        → ((d : ℕ) → spreads (all_piece around fin (try_finally n (more st ss) hs els)
        (needed_if (is_needed w)))
        (slots_of_all around next fin (try_finally n (more st ss) hs els) (needed_if (is_needed w))
        d))
        → Standing (all_piece around (more st ss) (n + 1) (in_front els (behind_tried hs fin w)))
        (slots_of_all around next (more st ss) (n + 1) (in_front els (behind_tried hs fin w))) s
        (n + 1)
        (try_handlers n (more st ss)) (Stms_say Says (more st ss) (n + 1)
        (guarded (try_handlers n (more st ss)) hs els ∷ ensuring n (try_finally n (more st ss) hs
        els) fin ∷ s))
        → Standing (all_piece around els (try_else n (more st ss) hs) (behind_tried hs fin w))
        (slots_of_all around next els (try_else n (more st ss) hs) (behind_tried hs fin w)) s
        (try_else n (more st ss) hs) (try_finally n (more st ss) hs els) (Stms_say Says els
        (try_else n (more st ss) hs) (ensuring n (try_finally n (more st ss) hs els) fin ∷ s))
        → Handlers_stand (handlers_piece around hs (try_handlers n (more st ss))) (slots_of_handlers
        around next hs (try_handlers n (more st ss))) (try_handlers n (more st ss)) s
        (try_handlers n (more st ss)) (try_else n (more st ss) hs)
        (Handlers_say Says (try_handlers n (more st ss)) hs (try_handlers n (more st ss))
        (ensuring n (try_finally n (more st ss) hs els) fin ∷ s))
        → Standing (all_piece around fin (try_finally n (more st ss) hs els)
        (needed_if (is_needed w)))
        (slots_of_all around next fin (try_finally n (more st ss) hs els) (needed_if (is_needed w)))
        (ending n normal ∷ s) (try_finally n (more st ss) hs els)
        (try_finally n (more st ss) hs els + stms_size fin) (Stms_say Says fin (try_finally n
        (more st ss) hs els) (ending n normal ∷ s))
        → Standing (stm_piece around (S.try l (more st ss) hs els fin) n w) (slots_in around next
        (S.try l (more st ss) hs els fin) n w) s n
        (n + stm_size (S.try l (more st ss) hs els fin)) (Stm_says Says (S.try l (more st ss) hs els
        fin) n s)
    try_stands l n st ss hs els fin w s ps h gr sb se sh sf f g j k c base from a t =
        relist (sorted hs fin n (length base) last tests in_body in_else in_handlers in_last
        (try_handlers n (more st ss))
        (λ e. apart.no_handler_slots code table b same rises around hs (try_handlers n (more st ss))
        (length base) tests e)
        (λ e. ap (λ z. slots_of_all around next z (try_finally n (more st ss) hs els)
        (needed_if (is_needed w)) (suc (length base)) last) e))
        (to (λ p. (p.0, ((p.1).0).0, (((p.1).0).1).0, (((p.1).0).1).1, (p.1).1))
        (both (narrow (omega arith) (omega arith) begun)
        (narrow (omega arith) (omega arith) (back_all base (behind_nop (next from) c.loop base)
        (ensured_stands fin whole f_no n (n + 1) f_no (needed_if (is_needed w)) s _ tried_slots
        (whole_spreads (length base)) whole_le (omega arith) sf k c base (next from)
        (λ c. in_tried hs st ss els (n + 1) (behind_tried hs fin w) s around_it (no_handlers_say
        (try_handlers n (more st ss)) (try_handlers n (more st ss)) around_it hs)
        (body_some around b.links next cells captures st ss (n + 1) (in_front els (behind_tried hs
        fin w)) gr.0 h.0) on sb se sh
        (apart.handlers_some code table b same rises around hs (try_handlers n (more st ss)))
        (handlers_le hs (try_handlers n (more st ss))) f g j c base (next from) a
        (told_front slots in_body (in_tests ++ (in_handlers ++ (in_else ++ in_last))) t1)
        (told_front slots in_tests (in_handlers ++ (in_else ++ in_last)) t2) (told_front slots
        in_handlers (in_else ++ in_last) t3) (told_front slots in_else in_last t4)) a
        (told_front slots in_finally (in_body ++ (in_tests ++ (in_handlers
        ++ (in_else ++ in_last)))) t) (told_back slots in_else in_last t4))
        (λ y z. lower (P.act (P.plain instr.Nop) n l false) (omega (arith, y)))))))
      where
        f_no : ℕ
        f_no = try_finally n (more st ss) hs els

        around_it : Shape
        around_it = ensuring n f_no fin ∷ s

        B : Piece
        B = all_piece around (more st ss) (n + 1) (in_front els (behind_tried hs fin w))

        E : Piece
        E = all_piece around els (try_else n (more st ss) hs) (behind_tried hs fin w)

        H : Piece
        H = handlers_piece around hs (try_handlers n (more st ss))

        whole : Piece
        whole = guarded_piece hs (P.closed B) (P.numbered (try_else n (more st ss) hs) (P.closed E))
            (P.numbered (try_handlers n (more st ss)) H)

        tests : ℕ
        tests = next (end_of next E (end_of next B (next from)))

        last : ℕ
        last = next (end_of next whole (next from))

        in_finally : List PartSlot
        in_finally = finally_slot fin n (length base) last

        in_body : List PartSlot
        in_body = slots_of_all around next (more st ss) (n + 1) (in_front els (behind_tried hs fin
            w)) (length base) (next from)

        in_tests : List PartSlot
        in_tests = tests_slot hs (try_handlers n (more st ss)) (length base) tests

        in_handlers : List PartSlot
        in_handlers = slots_of_handlers around next hs (try_handlers n (more st ss)) (length base)
            tests

        in_else : List PartSlot
        in_else = slots_of_all around next els (try_else n (more st ss) hs) (behind_tried hs fin w)
            (length base) (end_of next B (next from))

        in_last : List PartSlot
        in_last = slots_of_all around next fin f_no (needed_if (is_needed w)) (suc (length base))
            last

        t1 : Told slots (in_body ++ (in_tests ++ (in_handlers ++ (in_else ++ in_last))))
        t1 = told_back slots in_finally (in_body ++ (in_tests ++ (in_handlers
            ++ (in_else ++ in_last)))) t

        t2 : Told slots (in_tests ++ (in_handlers ++ (in_else ++ in_last)))
        t2 = told_back slots in_body (in_tests ++ (in_handlers ++ (in_else ++ in_last))) t1

        t3 : Told slots (in_handlers ++ (in_else ++ in_last))
        t3 = told_back slots in_tests (in_handlers ++ (in_else ++ in_last)) t2

        t4 : Told slots (in_else ++ in_last)
        t4 = told_back slots in_handlers (in_else ++ in_last) t3

        tried_slots : (from : ℕ) → List PartSlot
        tried_slots p = with_tests hs (part_slot (tests_part (try_handlers n (more st ss)))
            (length base) (next (end_of next E (end_of next B p))))
            (slots_of_all around next (more st ss) (n + 1) (in_front els (behind_tried hs fin w))
            (length base) p
            ++ slots_of_all around next els (try_else n (more st ss) hs) (behind_tried hs fin w)
            (length base) (end_of next B p))
            (slots_of_handlers around next hs (try_handlers n (more st ss)) (length base)
            (next (end_of next E (end_of next B p))))

        whole_spreads : (d : ℕ) → spreads whole (λ p. with_tests hs
            (part_slot (tests_part (try_handlers n (more st ss))) d
            (next (end_of next E (end_of next B p))))
            (slots_of_all around next (more st ss) (n + 1) (in_front els (behind_tried hs fin w)) d
            p
            ++ slots_of_all around next els (try_else n (more st ss) hs) (behind_tried hs fin w) d
            (end_of next B p))
            (slots_of_handlers around next hs (try_handlers n (more st ss)) d
            (next (end_of next E (end_of next B p)))))
        whole_spreads d = guarded_spreads hs B E H (try_else n (more st ss) hs) (try_handlers n
            (more st ss)) (try_handlers n (more st ss)) d _ _ _
            (apart.handlers_some code table b same rises around hs (try_handlers n (more st ss)))
            (sb d) (se d) (sh d)

        whole_le : above whole ≤ f_no
        whole_le = guarded_le hs B E H (try_else n (more st ss) hs) (try_handlers n (more st ss))
            f_no (all_le (more st ss) (n + 1) (in_front els (behind_tried hs fin w)) f_no
            (omega arith))
            (all_le els (try_else n (more st ss) hs) (behind_tried hs fin w) f_no (omega arith))
            (let z = handlers_le hs (try_handlers n (more st ss)) in omega (arith, z))

        on : is_needed (in_front els (behind_tried hs fin w)) ≡ true → Ons around b.links next cells
            captures B
        on z = all_on around b.links next cells captures (more st ss) (n + 1)
            (in_front els (behind_tried hs fin w)) h.0 (gr.0, gr.1)
            (must (in_front els (behind_tried hs fin w)) z (all_go_on (more st ss)))

        begun : Has (stm_piece around (S.try l (more st ss) hs els fin) n w) c base from base n
            (n + 1)
            (with_finally fin (part_slot (finally_part n) (length base) last)
            (tried_slots (next from)) in_last) (Says s n)
        begun = to (single s n (parts s) ps) (front_none
            (λ p. with_finally fin (part_slot (finally_part n) (length base)
            (next (end_of next whole p))) (tried_slots p)
            (slots_of_all around next fin f_no (needed_if (is_needed w)) (suc (length base))
            (next (end_of next whole p))))
            (one Q shown (parts s) base [] tt a)
            (ensured_spreads fin whole f_no n f_no (length base) (needed_if (is_needed w))
            tried_slots (whole_spreads (length base)) sf)
            (λ y z. higher (ensured_piece fin whole (P.numbered f_no (P.closed (all_piece around fin
            f_no (needed_if (is_needed w))))))
            (simple.in_finally (λ j. number < j) fin whole (P.numbered f_no
            (P.closed (all_piece around fin f_no (needed_if (is_needed w)))))
            (simple.in_guard (λ j. number < j) hs (P.closed B) (P.numbered (try_else n (more st ss)
            hs) (P.closed E)) (P.numbered (try_handlers n (more st ss)) H)
            (later (more st ss) (n + 1) (in_front els (behind_tried hs fin w)) z)
            (later els (try_else n (more st ss) hs) (behind_tried hs fin w) (omega (arith, z)))
            (simple.handlers (λ j. number < j) up around hs (try_handlers n (more st ss))
            (omega (arith, z))))
            (later fin f_no (needed_if (is_needed w)) (omega (arith, z))))))

    -- all statements

    all_spread : (ss : Stms) (n : ℕ) (w : Behind) → All_named around ss n → All_grammatical ss
        → (d : ℕ) → spreads (all_piece around ss n w) (slots_of_all around next ss n w d)
    all_spread ss n w h g d = apart.all_spread code table b same rises around (body_some around
        b.links next cells captures) ss n d w h g

    handlers_spread : (hs : Handlers) (n : ℕ) → Handlers_named around hs n → Handlers_grammatical hs
        → (d : ℕ) → spreads (handlers_piece around hs n) (slots_of_handlers around next hs n d)
    handlers_spread hs n h g d = apart.handlers_spread code table b same rises around
        (body_some around b.links next cells captures) hs n d h g

    grouped : (s : PartSlot) (as' bs cs : List PartSlot) → In s ((as' ++ bs) ++ cs)
        → In s (as' ++ (bs ++ cs))
    grouped s as' bs cs i =
        ⊎_elim (λ j. ⊎_elim (λ y. in_left s as' (bs ++ cs) y) (λ y. in_right s as' (bs ++ cs)
        (in_left s bs cs y)) (in_either s as' bs j))
        (λ j. in_right s as' (bs ++ cs) (in_right s bs cs j)) (in_either s (as' ++ bs) cs i)

    named_shape : (y : Option Name) (s : Shape) → placed_in s ≡ parts s → placed_in (with_name y s)
        ≡ parts (with_name y s)
    named_shape None s e = e
    named_shape (Some x) s e = refl

    no_class : (c : Setting) (base F : StackMap) (from n z : ℕ) (X : Type 0) → Has null_piece c base
        from F n z [] (Within n z X)
    no_class c base F from n z X = record {
      has = λ L x Ls to l p u v. (let y = p u v in let r = silent (P.const constant.None) in absurd
          (r.not L x c Ls base from to (Some F) l y.low y.high));
    }

    absent_size : (l : ℕ) (y : Option Name) (body : Stms) (r : Handlers) (n : ℕ) → handler_body n y
        + stms_size body + handlers_size r ≤ n + handlers_size (S.handler l S.absent y body r)
    absent_size l None body r n = omega arith
    absent_size l (Some x) body r n = omega arith

    given_size : (l : ℕ) (e : Exp) (y : Option Name) (body : Stms) (r : Handlers) (n : ℕ)
        → handler_body (n + size e) y + stms_size body + handlers_size r ≤ n + handlers_size
        (S.handler l (S.given e) y body r)
    given_size l e None body r n = omega arith
    given_size l e (Some x) body r n = omega arith

    mutual
      stm_stands : (st : Stm) (n : ℕ) (w : Behind) (s : Shape) → placed_in s ≡ parts s → Stm_named
          around st n → Grammatical st
          → Standing (begun_piece st w (stm_piece around st n w)) (λ d p. slots_in around next st n
          w d (begun_at around next st p)) s n (n + stm_size st) (Stm_says Says st n s)
      stm_stands (S.choice l S.no_branches els) n w s ps h g = absurd g
      stm_stands (S.choice l (S.branch k x body r) els) n w s ps h g = λ c base from a t.
          narrow (omega arith) (omega arith) (blocked (branches_stand (S.branch k x body r) els
          (behind_branches (some_branch_goes_on (S.branch k x body r)) w) n s ps h (g.0, g.1) g.2
          (λ m i. all_stand els m (behind_branches (some_branch_goes_on (S.branch k x body r)) w) s
          ps i g.2) _ base from a (told_front slots _ _ t) (told_back slots _ _ t)))
      stm_stands (S.while l x body els) n w s ps h g =
          while_stands l n x body els w s ps h.0 (statements.all around b.links next cells captures
          body (tested_body n x) (needed_if (some_exits Continue body)) h.1)
          (all_spread body (tested_body n x) (needed_if (some_exits Continue body)) h.1 g.0)
          (all_spread els (behind_tested n x body) (behind_loop (some_exits Break body) w) h.2 g.1)
          (all_stand body (tested_body n x) (needed_if (some_exits Continue body)) (looping l n x
          body els ∷ s) refl h.1 g.0)
          (all_stand els (behind_tested n x body) (behind_loop (some_exits Break body) w) s ps h.2
          g.1)
      stm_stands (S.for l t it body els) n w s ps h g =
          for_stands l n t it body els w s ps h.0 h.1 (statements.all around b.links next cells
          captures body (for_body (n + size it + 1) t) (needed_if (some_exits Continue body)) h.2)
          (all_spread body (for_body (n + size it + 1) t) (needed_if (some_exits Continue body)) h.2
          g.0)
          (all_spread els (for_else (n + size it + 1) t body) (behind_loop (some_exits Break body)
          w) h.3 g.1)
          (all_stand body (for_body (n + size it + 1) t) (needed_if (some_exits Continue body))
          (iterating l (n + size it + 1) tt t body els ∷ s) refl h.2 g.0)
          (all_stand els (for_else (n + size it + 1) t body) (behind_loop (some_exits Break body) w)
          s ps h.3 g.1)
      stm_stands (S.try l none hs els fin) n w s ps h g = absurd g
      stm_stands (S.try l (more st ss) hs els fin) n w s ps h g =
          try_stands l n st ss hs els fin w s ps h g (all_spread (more st ss) (n + 1)
          (in_front els (behind_tried hs fin w)) h.0 (g.0, g.1))
          (all_spread els (try_else n (more st ss) hs) (behind_tried hs fin w) h.2 g.3)
          (handlers_spread hs (try_handlers n (more st ss)) h.1 g.2)
          (all_spread fin (try_finally n (more st ss) hs els) (needed_if (is_needed w)) h.3 g.4)
          (all_stand (more st ss) (n + 1) (in_front els (behind_tried hs fin w))
          (guarded (try_handlers n (more st ss)) hs els ∷ ensuring n (try_finally n (more st ss) hs
          els) fin ∷ s) refl h.0 (g.0, g.1))
          (all_stand els (try_else n (more st ss) hs) (behind_tried hs fin w)
          (ensuring n (try_finally n (more st ss) hs els) fin ∷ s) refl h.2 g.3)
          (handlers_stand hs (try_handlers n (more st ss)) (try_handlers n (more st ss))
          (ensuring n (try_finally n (more st ss) hs els) fin ∷ s) h.1 g.2)
          (all_stand fin (try_finally n (more st ss) hs els) (needed_if (is_needed w))
          (ending n normal ∷ s) refl h.3 g.4)
      stm_stands (S.with l S.no_items body) n w s ps h g = absurd g
      stm_stands (S.with l (S.with_item k x t r) body) n w s ps h g = λ c base from a y.
          narrow (omega arith) (omega arith) (items_stand (S.with_item k x t r) body
          (λ m i s ps. all_stand body m free s ps i g) (λ m d i. all_spread body m free i g d) n s
          ps h c base from a y)
      stm_stands st n w s ps h g = λ c base from a t. to (each s n (n + stm_size st) (parts s) ps)
          (alone (parts s) base st n w tt h a)

      pub all_stand : (ss : Stms) (n : ℕ) (w : Behind) (s : Shape) → placed_in s ≡ parts s
          → All_named around ss n → All_grammatical ss
          → Standing (all_piece around ss n w) (slots_of_all around next ss n w) s n (n + stms_size
          ss) (Stms_say Says ss n s)
      all_stand none n w s ps h g = λ c base from a t. known tt
      all_stand (more st none) n w s ps h g = λ c base from a t.
          both (narrow (omega arith) (omega arith) (front (λ p. [])
          (started (stm_stands st n w (rest (n + stm_size st) none ∷ s) refl h.0 g.0 c base from a
          (told_front slots _ _ t))) none_spread
          (λ u v. higher P.empty tt))) (known tt)
      all_stand (more st (more u us)) n w s ps h g = λ c base from a t.
          both (narrow (omega arith) (omega arith) (front (slots_of_all around next (more u us)
          (n + stm_size st) w (length base))
          (started (stm_stands st n needed (rest (n + stm_size st) (more u us) ∷ s) refl h.0 g.0 c
          base from a (told_front slots _ _ t)))
          (all_spread (more u us) (n + stm_size st) w h.1 g.1 (length base)) (λ y v. higher
          (all_piece around (more u us) (n + stm_size st) w) (later (more u us) (n + stm_size st) w
          v))))
          (narrow (omega arith) (omega arith) (back base (stm_on around b.links next cells captures
          st n needed h.0 g.0 tt c base from)
          (λ p. slots_in around next st n needed (length base) (begun_at around next st p))
          (all_stand (more u us) (n + stm_size st) w s ps h.1 g.1 c base _ a (told_back slots _ _
          t))
          (start_spreads (apart.stm_spreads code table b same rises around (body_some around b.links
          next cells captures) st n (length base) needed h.0 g.0))
          (λ y v. lower (P.started (J.starts_on st) (begun_piece st needed (stm_piece around st n
          needed)))
          (tops_le n _ (n + stm_size st) number (begun_tops st needed n (n + stm_size st)
          (stm_piece around st n needed) (stm_tops around st n needed)) y))))

      branches_stand : (bs : Branches) (els : Stms) (v : Behind) (n : ℕ) (s : Shape) → placed_in s
          ≡ parts s → Branches_named around bs (λ m. All_named around els m) n
          → Branches_grammatical bs → All_grammatical els
          → ((m : ℕ) → All_named around els m → Standing (all_piece around els m v)
          (slots_of_all around next els m v) s m (m + stms_size els) (Stms_say Says els m s))
          → (c : Setting) (base : StackMap) (from : ℕ) → AreOf slots (parts s) base → Told slots
          (slots_of_branches around next bs n (length base) from)
          → Told slots (slots_of_all around next els (J.behind_branches bs n) v (length base)
          (behind_tests around next bs n from))
          → Has (branches_piece around bs n (λ m. P.closed (all_piece around els m v))) c base from
          base n (n + branches_size bs + stms_size els)
          (slots_of_branches around next bs n (length base) from ++ slots_of_all around next els
          (J.behind_branches bs n) v (length base) (behind_tests around next bs n from))
          (Branches_say Says bs n s × Stms_say Says els (J.behind_branches bs n) s)
      branches_stand S.no_branches els v n s ps h g ge f c base from a t u = both (known tt)
          (narrow (omega arith) (omega arith) (closed (f n h (with_none c) base from a u)))
      branches_stand (S.branch l x body r) els v n s ps h g ge f c base from a t u =
          relist (λ y. grouped y (slots_of_all around next body (tested_body n x) free (length base)
          (next (end_of next (value_piece around x n) from)))
          (slots_of_branches around next r (behind_tested n x body) (length base) _)
          (slots_of_all around next els (J.behind_branches r (behind_tested n x body)) v
          (length base) _))
          (to (λ p. (((p.0).0, (p.0).1, (p.1).0), (p.1).1))
          (narrow (omega arith) (omega arith) (branch_stands l n x body (branches_piece around r
          (behind_tested n x body) (λ m. P.closed (all_piece around els m v))) s (n + branches_size
          (S.branch l x body r) + stms_size els)
          (Branches_say Says r (behind_tested n x body) s × Stms_say Says els (J.behind_branches r
          (behind_tested n x body)) s)
          (λ p. slots_of_branches around next r (behind_tested n x body) (length base) p
          ++ slots_of_all around next els (J.behind_branches r (behind_tested n x body)) v
          (length base) (behind_tests around next r (behind_tested n x body) p)) ps h.0
          (statements.all around b.links next cells captures body (tested_body n x) free h.1)
          (all_spread body (tested_body n x) free h.1 g.0) (all_stand body (tested_body n x) free s
          ps h.1 g.0)
          (apart.branches_spread code table b same rises around (body_some around b.links next cells
          captures) r els (behind_tested n x body) (length base) v h.2 g.1 (λ m i. all_spread els m
          v i ge (length base)))
          (λ q. simple.branches (λ j. number < j) up around r (behind_tested n x body)
          (λ m. P.closed (all_piece around els m v)) (λ m q. later els m v q) q) (omega arith) c
          base from a (told_front slots _ _ t)
          (narrow (omega arith) (omega arith) (branches_stand r els v (behind_tested n x body) s ps
          h.2 g.1 ge f c base _ a (told_back slots _ _ t) u)))))

      handlers_stand : (hs : Handlers) (f n : ℕ) (s : Shape) → Handlers_named around hs n
          → Handlers_grammatical hs
          → Handlers_stand (handlers_piece around hs n) (slots_of_handlers around next hs n) f s n
          (n + handlers_size hs) (Handlers_say Says f hs n s)
      handlers_stand S.no_handlers f n s h g = λ c base from e tests a t. known tt
      handlers_stand (S.handler l S.absent y body r) f n s h g = λ c base from e tests a t.
          let same_number : n ≡ n + 0 = omega arith in
          to (λ p. subst (λ k. Each_says Says (testing f tt ∷ s) n (k + 1) × Each_says Says
          (handling k tt ∷ s) (k + 1) (handler_body k y)
          × Stms_say Says body (handler_body k y) (with_name y (handling k tt ∷ s)) × Handlers_say
          Says f r (handler_body k y + stms_size body) s) same_number
          ((p.0).0, ((p.0).1).0, ((p.0).1).1, p.1))
          (narrow (omega arith) (absent_size l y body r n)
          (handler_stands null_piece l f n n y body (handlers_piece around r (handler_body n y +
          stms_size body)) (slots_of_handlers around next r (handler_body n y + stms_size body)) s
          (handler_body n y + stms_size body + handlers_size r) (Handlers_say Says f r
          (handler_body n y + stms_size body) s)
          (λ c base F from a. no_class c base F from n (n + 1) (Q (tests_part f ∷ parts s)))
          (none_le n) (omega arith)
          (λ F c Ls base from o. null around b.links next cells captures F o)
          (λ m z. statements.all around b.links next cells captures body m free
          (subst (λ k. All_named around body k) (sym z) h.0))
          (all_spread body (handler_body n y) free h.0 g.0) (all_stand body (handler_body n y) free
          (with_name y (handling n tt ∷ s)) (named_shape y (handling n tt ∷ s) refl) h.0 g.0)
          (handlers_spread r (handler_body n y + stms_size body) h.1 g.1) (λ q. simple.handlers
          (λ j. number < j) up around r (handler_body n y + stms_size body) q) (omega arith)
          (handlers_stand r f (handler_body n y + stms_size body) s h.1 g.1) c base from e tests a
          t.0 (told_front slots _ _ t.1) (told_back slots _ _ t.1)))
      handlers_stand (S.handler l (S.given q) y body r) f n s h g = λ c base from e tests a t.
          to (λ p. ((p.0).0, ((p.0).1).0, ((p.0).1).1, p.1))
          (narrow (omega arith) (given_size l q y body r n)
          (handler_stands (value_piece around q n) l f n (n + size q) y body (handlers_piece around
          r (handler_body (n + size q) y + stms_size body))
          (slots_of_handlers around next r (handler_body (n + size q) y + stms_size body)) s
          (handler_body (n + size q) y + stms_size body + handlers_size r)
          (Handlers_say Says f r (handler_body (n + size q) y + stms_size body) s)
          (λ c base F from a. at_value (tests_part f ∷ parts s) F q n h.0 a)
          (val_le q n (n + size q) (omega arith)) (omega arith)
          (λ F c Ls base from o. val around b.links next cells captures q n h.0 F o)
          (λ m z. statements.all around b.links next cells captures body m free
          (subst (λ k. All_named around body k) (sym z) h.1))
          (all_spread body (handler_body (n + size q) y) free h.1 g.0)
          (all_stand body (handler_body (n + size q) y) free (with_name y (handling (n + size q) tt
          ∷ s)) (named_shape y (handling (n + size q) tt ∷ s) refl) h.1 g.0)
          (handlers_spread r (handler_body (n + size q) y + stms_size body) h.2 g.1)
          (λ z. simple.handlers (λ j. number < j) up around r (handler_body (n + size q) y +
          stms_size body) z) (omega arith)
          (handlers_stand r f (handler_body (n + size q) y + stms_size body) s h.2 g.1) c base from
          e tests a t.0 (told_front slots _ _ t.1) (told_back slots _ _ t.1)))
