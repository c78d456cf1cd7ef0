-- The rows of a block's tables: each mark and each start stands at an instruction behind the one before, and handler rows go from an instruction to another.
use Rattle.std.proofs.Common.{◌≡◌, ℕ, ◌+◌, ◌<◌, Bool, true, false, ◌&&◌, ◌||◌, List, [], ◌∷◌, ◌++◌, map, Option, Some, None, refl, sym, ap, ◌∙◌, subst, arith, append_assoc}
use Rattle.std.specs.Prelude.{is_some, nat_eq, nat_lt}
use Rattle.std.specs.List.{AllByRecursion}
use Rattle.std.proofs.lemmas.Bool.{false≢true}
use Rattle.std.proofs.lemmas.Bool.Decides.{nat_tests}
use Rattle.pt_tree.specs.Blocks as B
use Rattle.pt_tree.specs.Blocks.{Code}
use Rattle.pt_ranges.specs.declared.handlers.Handler.{Handler}
use Rattle.pt_ranges.specs.declared.lines.ActMark.{ActMark}
use Rattle.pt_instr.specs.declared.Instr.TheVariants as instr
use Rattle.pt_code.specs.declared.CodeBlock.{CodeBlock}
use Rattle.pt_code.specs.declared.Start.{Start}
use Rattle.pt_code.specs.View.{Ins, laid_from}
use Rattle.sem_control.specs.control.Turn.{Around}
use Rattle.pt_assembler.specs.declared.operation.Act.{Act}
use Rattle.pt_assembler.specs.declared.operation.Label.{Label}
use Rattle.pt_assembler.specs.declared.operation.Operation.TheVariants.{Plain}
use Rattle.pt_assembler.specs.declared.operation.Placed.{Placed}
use Rattle.pt_assembler.specs.Piece as P
use Rattle.pt_assembler.specs.Piece.{Op, Piece, pick}
use Rattle.pt_assembler.specs.PieceAt.{row_of}
use Rattle.pt_assembler.specs.Layout.{Written, act_of, at, bind, deeper_in, instrs_of, layout, listed, loop_in, mark_at, marks_from, new_label, next_label, numbered_from, operation_of, placed, put, put_act, put_row, put_start, wide, width, with_operand}
use Rattle.pt_assembler.proofs.Growth.{Grows, grows, operand_only, put_grows}
use Rattle.pt_assembler.proofs.Shown.{shown, wide_end, width_some}
use Rattle.sem_fits.specs.fits.Block.{Block}
use Rattle.sem_fits.specs.fits.Fits.{TablesHold}
use Rattle.sem_fits.specs.fits.Tables.{in_order, is_laid, is_place, rows_hold}
use Rattle.pt_tree.specs.Blocks.{function_body}
use Rattle.pt_tree.specs.Sizes.{size, target_size}
use Rattle.pt_assembler.specs.declared.operation.Jump.TheVariants.{AtEnd}
use Rattle.law_typed_pieces.specs.law_operands.law_files.sem_compile.emitter.ExpPiece.{clauses_piece, null_piece, target_piece}
use Rattle.law_typed_pieces.specs.law_operands.law_files.sem_compile.stm_pieces.Needed.{free}
use Rattle.law_typed_pieces.specs.law_operands.law_files.sem_compile.stm_pieces.Laws.{AllBehind, Rise}
use Rattle.law_typed_pieces.specs.law_operands.law_files.sem_compile.stm_pieces.StmPiece.{all_piece, code_piece, value_piece, yielded_piece}
use Rattle.law_typed_pieces.proofs.law_operands.law_files.code_files.Each.{both, each_at, mapped, weaken}

both_true : (a b : Bool) → a ≡ true → b ≡ true → (a && b) ≡ true
both_true a b e f = ap (λ x. x && b) e ∙ f

-- places that rise from one on

abbrev Rising : Option ℕ → List ℕ → Type 0
Rising o [] = Unit {0}
Rising None (n ∷ ns) = Rising (Some n) ns
Rising (Some q) (n ∷ ns) = (q < n) × Rising (Some n) ns

abbrev Above : Option ℕ → ℕ → Type 0
Above None n = Unit {0}
Above (Some q) n = q < n

above_more : (o : Option ℕ) (n m : ℕ) → n < m → Above o n → Above o m
above_more None n m h a = tt
above_more (Some q) n m h a = omega (arith, h, a)

one_above : (o : Option ℕ) (n : ℕ) (ns : List ℕ) → Above o n → Rising (Some n) ns → Rising o (n ∷ ns)
one_above None n ns a h = h
one_above (Some q) n ns a h = (a, h)

marks_rise : (o : Option ℕ) (n : ℕ) (ps : List Placed) → Above o n → Rising o (map (λ (m : ActMark). m.pc.0) (marks_from n ps))
marks_rise None n [] a = tt
marks_rise (Some q) n [] a = tt
marks_rise o n (p ∷ ps) a = by p.act (marks_rise o (n + width p.operation) ps) (marks_rise (Some n) (n + width p.operation) ps)
  where
    less : n < n + width p.operation
    less = let w = width_some p.operation in omega (arith, w)

    by : (x : Option Act) → (Above o (n + width p.operation) → Rising o (map (λ (m : ActMark). m.pc.0) (marks_from (n + width p.operation) ps)))
        → (n < n + width p.operation → Rising (Some n) (map (λ (m : ActMark). m.pc.0) (marks_from (n + width p.operation) ps)))
        → Rising o (map (λ (m : ActMark). m.pc.0) (listed (mark_at n x) ++ marks_from (n + width p.operation) ps))
    by None f g = f (above_more o n (n + width p.operation) less a)
    by (Some x) f g = one_above o n (map (λ (m : ActMark). m.pc.0) (marks_from (n + width p.operation) ps)) a (g less)

starts_rise : (q : ℕ) (ss : List Start) → AllBehind q ss → Rise ss → Rising (Some q) (map (λ (s : Start). s.pc.0) ss)
starts_rise q [] a h = tt
starts_rise q (s ∷ ss) a h = (a.0, starts_rise s.pc.0 ss h.0 h.1)

all_starts_rise : (ss : List Start) → Rise ss → Rising None (map (λ (s : Start). s.pc.0) ss)
all_starts_rise [] h = tt
all_starts_rise (s ∷ ss) h = starts_rise s.pc.0 ss h.0 h.1

abbrev AllTrue : List Bool → Type 0
AllTrue ts = AllByRecursion (λ t. t ≡ true) ts

in_order_holds : (b : Block) (o : Option ℕ) (ns : List ℕ) → AllByRecursion (λ n. is_place b n ≡ true) ns → Rising o ns → AllTrue (in_order b o ns)
in_order_holds b o [] h r = tt
in_order_holds b None (n ∷ ns) h r = (both_true (is_place b n) true h.0 refl, in_order_holds b (Some n) ns h.1 r)
in_order_holds b (Some q) (n ∷ ns) h r =
    (both_true (is_place b n) (nat_lt q n) h.0 (let l = r.0 in grind (arith, nat_tests)), in_order_holds b (Some n) ns h.1 r.1)

module _ (F : Written) (blk : CodeBlock) (view : ℕ → Option Ins) (seen : view ≡ laid_from blk 0 (instrs_of F)) (marks : blk.marks ≡ marks_from 0 F.instrs)
    (handlers : blk.handlers ≡ F.rows) where
  abbrev pub IsPlace : ℕ → Type 0
  IsPlace n = is_some (view n) ≡ true

  place_of : (before later : List Placed) (p : Placed) → F.instrs ≡ before ++ p ∷ later → IsPlace (wide before)
  place_of before later p e = ap is_some (ap (λ f. f (wide before)) seen ∙ shown blk F before later p marks handlers e)

  -- an instruction stands behind what was written up to here
  pub record GoesOn (w : Written) : Type 0 where
    next : Placed
    later : List Placed
    is : F.instrs ≡ w.instrs ++ next ∷ later

  place_behind : (w : Written) → GoesOn w → IsPlace (at w)
  place_behind w g = place_of w.instrs g.later g.next g.is

  same_instrs : (v w : Written) → v.instrs ≡ w.instrs → GoesOn w → GoesOn v
  same_instrs v w e g = record { next = g.next; later = g.later; is = g.is ∙ ap (λ ps. ps ++ g.next ∷ g.later) (sym e) }

  earlier : (v w : Written) → Grows v w → GoesOn w → GoesOn v
  earlier v w g h = by g.more (h.is ∙ (ap (λ ps. ps ++ h.next ∷ h.later) g.code ∙ append_assoc v.instrs g.more (h.next ∷ h.later)))
    where
      by : (more : List Placed) → F.instrs ≡ v.instrs ++ (more ++ h.next ∷ h.later) → GoesOn v
      by [] e = record { next = h.next; later = h.later; is = e }
      by (p ∷ ps) e = record { next = p; later = ps ++ h.next ∷ h.later; is = e }

  abbrev pub RowLaid : Handler → Type 0
  RowLaid row = IsPlace row.from.0 × (IsPlace row.to.0 × IsPlace row.target.0)

  abbrev pub StartLaid : Start → Type 0
  StartLaid s = IsPlace s.pc.0

  pub record AllLaid (w : Written) : Type 0 where
    pub rows : AllByRecursion RowLaid w.rows
    pub starts : AllByRecursion StartLaid w.starts

  same_laid : (v w : Written) → v.rows ≡ w.rows → v.starts ≡ w.starts → AllLaid w → AllLaid v
  same_laid v w e f h = record { rows = subst (AllByRecursion RowLaid) (sym e) h.rows; starts = subst (AllByRecursion StartLaid) (sym f) h.starts }

  of_operand : (op : Op) (v w : Written) → v.rows ≡ (with_operand op w).rows → v.starts ≡ (with_operand op w).starts → AllLaid w → AllLaid v
  of_operand op v w e f h = let only = operand_only op w in same_laid v w (e ∙ only.rows) (f ∙ only.starts) h

  with_row : (row : Handler) (v : Written) → RowLaid row → AllLaid v → AllLaid (put_row row v)
  unfolding put_row
  with_row row v r h = record { rows = both RowLaid v.rows (row ∷ []) h.rows (r, tt); starts = h.starts }

  with_start : (l : ℕ) (v : Written) → IsPlace (at v) → AllLaid v → AllLaid (put_start l v)
  unfolding put_start
  with_start l v r h =
      record { rows = h.rows; starts = both StartLaid v.starts (record { pc = record { 0 = at v }; line = record { 0 = l } } ∷ []) h.starts (r, tt) }

  all_laid : (p : Piece) (L : List Label) (w : Written) → GoesOn (layout p L w) → AllLaid w → AllLaid (layout p L w)
  unfolding put put_act put_row put_start new_label bind placed numbered_from
  all_laid P.empty L w g h = h
  all_laid (P.act op k l again) L w g h = of_operand op (layout (P.act op k l again) L w) w refl refl h
  all_laid (P.move op) L w g h = of_operand op (layout (P.move op) L w) w refl refl h
  all_laid (P.seq p q) L w g h =
      let v = layout p L w in
      all_laid q L v g (all_laid p L w (earlier v (layout q L v) (grows q L v) g) h)
  all_laid (P.block p) L w g h =
      let v = layout p (next_label w ∷ L) (new_label w) in
      same_laid (layout (P.block p) L w) v refl refl
      (all_laid p (next_label w ∷ L) (new_label w) (same_instrs v (layout (P.block p) L w) refl g) (same_laid (new_label w) w refl refl h))
  all_laid (P.headed p) L w g h = all_laid p (next_label w ∷ L) (new_label w) g (same_laid (new_label w) w refl refl h)
  all_laid (P.closed p) L w g h = all_laid p [] w g h
  all_laid (P.looped i p) L w g h =
      let u = placed (loop_in (pick (record { 0 = 0 }) L i) (next_label w) w.place) (new_label w) in
      let v = layout p [] u in
      same_laid (layout (P.looped i p) L w) v refl refl (all_laid p [] u (same_instrs v (layout (P.looped i p) L w) refl g) (same_laid u w refl refl h))
  all_laid (P.leave e k l) L w g h = same_laid (layout (P.leave e k l) L w) w refl refl h
  all_laid (P.ensured p) L w g h =
      let u = layout p [] w in
      let v = put (Plain instr.Normal) u in
      let row = row_of (at w) (at v) (at v) w.place.depth true in
      let behind : GoesOn v = same_instrs v (put_row row v) refl g in
      let there : GoesOn u = earlier u v (put_grows (Plain instr.Normal) u) behind in
      with_row row v (place_behind w (earlier w u (grows p [] w) there), (place_behind v behind, place_behind v behind))
      (same_laid v u refl refl (all_laid p [] w there h))
  all_laid (P.caught p q) L w g h =
      let u = layout p [] w in
      let v = layout q L u in
      let row = row_of (at w) (at u) (at v) w.place.depth false in
      let behind : GoesOn v = same_instrs v (put_row row v) refl g in
      let there : GoesOn u = earlier u v (grows q L u) behind in
      with_row row v (place_behind w (earlier w u (grows p [] w) there), (place_behind u there, place_behind v behind))
      (all_laid q L u behind (all_laid p [] w there h))
  all_laid (P.deeper k p) L w g h =
      let u = placed (deeper_in k w.place) w in
      let v = layout p L u in
      same_laid (layout (P.deeper k p) L w) v refl refl (all_laid p L u (same_instrs v (layout (P.deeper k p) L w) refl g) (same_laid u w refl refl h))
  all_laid (P.started l p) L w g h =
      let u = put_start l w in
      let before : GoesOn w = same_instrs w u refl (earlier u (layout p L u) (grows p L u) g) in
      all_laid p L u g (with_start l w (place_behind w before) h)
  all_laid (P.numbered k p) L w g h = all_laid p L (numbered_from k w) g (same_laid (numbered_from k w) w refl refl h)

  -- a piece in front of an instruction at which the whole ends

  behind_act : (p : Piece) (op : Op) (k l : ℕ) (again : Bool) (w : Written) → F ≡ layout (P.seq p (P.act op k l again)) [] w → AllLaid w → AllLaid F
  unfolding put_act
  behind_act p op k l again w e h =
      let v = layout p [] w in
      let last : Placed = record { operation = operation_of op [] v; act = Some (act_of k l again) } in
      let goes : GoesOn v = record {
        next = last;
        later = [];
        is = ap (λ (z : Written). z.instrs) e ∙ ap (λ ps. ps ++ last ∷ []) (operand_only op v).instrs;
      } in
      subst AllLaid (sym e) (of_operand op (layout (P.act op k l again) [] v) v refl refl (all_laid p [] w goes h))

  behind_move : (p : Piece) (op : Op) (w : Written) → F ≡ layout (P.seq p (P.move op)) [] w → AllLaid w → AllLaid F
  unfolding put
  behind_move p op w e h =
      let v = layout p [] w in
      let last : Placed = record { operation = operation_of op [] v; act = None } in
      let goes : GoesOn v = record {
        next = last;
        later = [];
        is = ap (λ (z : Written). z.instrs) e ∙ ap (λ ps. ps ++ last ∷ []) (operand_only op v).instrs;
      } in
      subst AllLaid (sym e) (of_operand op (layout (P.move op) [] v) v refl refl (all_laid p [] w goes h))

  pub code_laid : {V : Type 0} (around : Around V) (c : Code) (w : Written) → F ≡ layout (code_piece around c) [] w → AllLaid w → AllLaid F
  code_laid around (B.of_module ss) w e h = behind_move (P.seq (all_piece around ss 0 free) null_piece) (P.plain instr.Return) w e h
  code_laid around (B.of_function ss) w e h = behind_move (P.seq (all_piece around (function_body ss) 0 free) null_piece) (P.plain instr.Return) w e h
  code_laid around (B.of_class ss) w e h = behind_move (P.seq (all_piece around ss 0 free) null_piece) (P.plain instr.Return) w e h
  code_laid around (B.of_lambda l x) w e h = behind_act (value_piece around x 0) (P.plain instr.Return) (size x) l false w e h
  code_laid around (B.of_generator l x k t cs) w e h = behind_move (P.seq (P.block (P.headed (P.seq (P.act (P.to AtEnd 1) 0 k false)
      (P.seq (P.closed (target_piece around t (0 + 1) [])) (clauses_piece around cs l (0 + 1 + target_size t) 1 []
      (λ n d. yielded_piece around l x n)))))) null_piece)
      (P.plain instr.Return) w e h

  -- marks

  marks_laid : (before ps : List Placed) → F.instrs ≡ before ++ ps → AllByRecursion (λ (m : ActMark). IsPlace m.pc.0) (marks_from (wide before) ps)
  marks_laid before [] e = tt
  marks_laid before (p ∷ ps) e =
      by p.act (subst (λ n. AllByRecursion (λ (m : ActMark). IsPlace m.pc.0) (marks_from n ps)) (wide_end before p)
      (marks_laid (before ++ p ∷ []) ps (e ∙ sym (append_assoc before (p ∷ []) ps))))
    where
      by : (x : Option Act) → AllByRecursion (λ (m : ActMark). IsPlace m.pc.0) (marks_from (wide before + width p.operation) ps)
          → AllByRecursion (λ (m : ActMark). IsPlace m.pc.0) (listed (mark_at (wide before) x) ++ marks_from (wide before + width p.operation) ps)
      by None h = h
      by (Some x) h = (place_of before ps p e, h)

  -- all tables

  pub tables_hold : (b : Block) → b.at ≡ view → b.marks ≡ blk.marks → b.handlers ≡ blk.handlers → b.starts ≡ F.starts → Rise F.starts → AllLaid F → TablesHold b
  tables_hold b ats ms hs ss rise h n fails =
      false≢true (each_at (λ t. t ≡ true) (rows_hold b) n false fails all)
    where
      place : (m : ℕ) → IsPlace m → is_place b m ≡ true
      place m e = ap (λ f. is_some (f m)) ats ∙ e

      of_marks : AllTrue (in_order b None (map (λ m. m.pc.0) b.marks))
      of_marks = subst (λ l. AllTrue (in_order b None (map (λ m. m.pc.0) l))) (sym (ms ∙ marks))
          (in_order_holds b None (map (λ m. m.pc.0) (marks_from 0 F.instrs))
          (mapped (λ m. is_place b m ≡ true) (λ (m : ActMark). m.pc.0) (marks_from 0 F.instrs)
          (weaken (λ (m : ActMark). IsPlace m.pc.0) (λ (m : ActMark). is_place b m.pc.0 ≡ true)
          (λ m e. place m.pc.0 e) (marks_from 0 F.instrs) (marks_laid [] F.instrs refl)))
          (marks_rise None 0 F.instrs tt))

      row_laid : (row : Handler) → RowLaid row → is_laid b row ≡ true
      row_laid row r =
          both_true (is_place b row.from.0) ((is_place b row.to.0 || nat_eq row.to.0 b.size) && is_place b row.target.0) (place row.from.0 r.0)
          (both_true (is_place b row.to.0 || nat_eq row.to.0 b.size) (is_place b row.target.0)
          (ap (λ t. t || nat_eq row.to.0 b.size) (place row.to.0 r.1.0)) (place row.target.0 r.1.1))

      of_handlers : AllTrue (map (is_laid b) b.handlers)
      of_handlers = subst (λ l. AllTrue (map (is_laid b) l)) (sym (hs ∙ handlers))
          (mapped (λ t. t ≡ true) (is_laid b) F.rows (weaken RowLaid (λ row. is_laid b row ≡ true) row_laid F.rows h.rows))

      of_starts : AllTrue (in_order b None (map (λ s. s.pc.0) b.starts))
      of_starts = subst (λ l. AllTrue (in_order b None (map (λ s. s.pc.0) l))) (sym ss)
          (in_order_holds b None (map (λ s. s.pc.0) F.starts)
          (mapped (λ m. is_place b m ≡ true) (λ (s : Start). s.pc.0) F.starts
          (weaken StartLaid (λ (s : Start). is_place b s.pc.0 ≡ true) (λ s e. place s.pc.0 e) F.starts h.starts)) (all_starts_rise F.starts rise))

      all : AllTrue (rows_hold b)
      all = both (λ t. t ≡ true) (in_order b None (map (λ m. m.pc.0) b.marks)) (map (is_laid b) b.handlers ++ in_order b None (map
          (λ s. s.pc.0) b.starts)) of_marks
          (both (λ t. t ≡ true) (map (is_laid b) b.handlers) (in_order b None (map (λ s. s.pc.0) b.starts)) of_handlers of_starts)
