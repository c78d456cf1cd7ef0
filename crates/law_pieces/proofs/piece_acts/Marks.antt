-- The marks of a block that is laid out have the numbers of its piece.
use Rattle.std.proofs.Common.{◌≡◌, ℕ, ◌+◌, suc, max, false, List, [], ◌∷◌, ◌++◌, length, Option, Some, None, refl, ap, ◌∙◌, arith, length-append}
use Rattle.pt_tree.specs.Syntax.{Exp, Clauses, Tgt, Stms}
use Rattle.pt_tree.specs.declared.act.ActKind.TheVariants as K
use Rattle.pt_tree.specs.Acts.{act, acts_exp, acts_stms}
use Rattle.pt_tree.specs.Sizes.{size, stms_size, target_size, clauses_size}
use Rattle.pt_tree.specs.Blocks as B
use Rattle.pt_tree.specs.Blocks.{Code, function_body, acts_of_code}
use Rattle.pt_tree.proofs.Counts.{count_exp, count_stms, count_target, count_clauses}
use Rattle.pt_ranges.specs.declared.lines.ActMark.{ActMark}
use Rattle.pt_ranges.specs.declared.handlers.Handler.{Handler}
use Rattle.sem_control.specs.control.Turn.{Around}
use Rattle.pt_assembler.specs.declared.operation.Label.{Label}
use Rattle.pt_assembler.specs.declared.operation.Act.{Act}
use Rattle.pt_assembler.specs.declared.operation.Operation.{Operation}
use Rattle.pt_assembler.specs.declared.operation.Placed.{Placed}
use Rattle.pt_assembler.specs.declared.operation.Place.{Place}
use Rattle.pt_assembler.specs.Piece as P
use Rattle.pt_assembler.specs.Piece.{Piece}
use Rattle.pt_assembler.specs.Layout.{Written, width, layout, begun, put, put_act, put_row, put_start, new_label, next_label, bind, placed, numbered_from, with_operand, mark_at, listed, marks_from}
use Rattle.pt_assembler.proofs.Growth.{operand_only}
use Rattle.sem_compile.specs.stm_pieces.Needed.{free}
use Rattle.sem_compile.specs.stm_pieces.StmPiece.{block_piece, code_piece, yielded_piece}
use Rattle.law_pieces.specs.piece_acts.Counting.{acts_in}
use Rattle.law_pieces.specs.piece_acts.Laws.{MarksTellActs}
use Rattle.law_pieces.proofs.piece_acts.Above.{above, Tops, act_tops, no_tops, and_tops, ends}
use Rattle.law_pieces.proofs.piece_acts.Expressions.{exp_tops, target_tops, clauses_tops}
use Rattle.law_pieces.proofs.piece_acts.Statements.{all_tops}

-- above the acts of instructions
abbrev above_act : Option Act → ℕ
above_act None = 0
above_act (Some a) = suc a.number.0

abbrev above_all : List Placed → ℕ
above_all [] = 0
above_all (p ∷ ps) = max (above_act p.act) (above_all ps)

one_marked : (pc : ℕ) (a : Option Act) (ms : List ActMark) → acts_in (listed (mark_at pc a) ++ ms) ≡ max (above_act a) (acts_in ms)
one_marked pc None ms = omega arith
one_marked pc (Some a) ms = refl

all_marked : (pc : ℕ) (ps : List Placed) → acts_in (marks_from pc ps) ≡ above_all ps
all_marked pc [] = refl
all_marked pc (p ∷ ps) =
    one_marked pc p.act (marks_from (pc + width p.operation) ps)
    ∙ ap (λ n. max (above_act p.act) n) (all_marked (pc + width p.operation) ps)

above_last : (ps : List Placed) (p : Placed) → above_all (ps ++ p ∷ []) ≡ max (above_all ps) (above_act p.act)
above_last [] p = omega arith
above_last (q ∷ qs) p = ap (λ n. max (above_act q.act) n) (above_last qs p) ∙ omega arith

-- What a writer has put.

abbrev put_so_far : Written → ℕ
put_so_far w = above_all w.instrs

put_above : (o : Operation) (w : Written) → put_so_far (put o w) ≡ put_so_far w
unfolding put
put_above o w = above_last w.instrs _ ∙ omega arith

put_act_above : (o : Operation) (a : Act) (w : Written) → put_so_far (put_act o a w) ≡ max (put_so_far w) (suc a.number.0)
unfolding put_act
put_act_above o a w = above_last w.instrs _

put_row_above : (r : Handler) (w : Written) → put_so_far (put_row r w) ≡ put_so_far w
unfolding put_row
put_row_above r w = refl

put_start_above : (l : ℕ) (w : Written) → put_so_far (put_start l w) ≡ put_so_far w
unfolding put_start
put_start_above l w = refl

new_label_above : (w : Written) → put_so_far (new_label w) ≡ put_so_far w
unfolding new_label
new_label_above w = refl

bind_above : (k : Label) (w : Written) → put_so_far (bind k w) ≡ put_so_far w
unfolding bind
bind_above k w = refl

placed_above : (p : Place) (w : Written) → put_so_far (placed p w) ≡ put_so_far w
unfolding placed
placed_above p w = refl

numbered_above : (n : ℕ) (w : Written) → put_so_far (numbered_from n w) ≡ put_so_far w
unfolding numbered_from
numbered_above n w = refl

operand_above : (op : P.Op) (w : Written) → put_so_far (with_operand op w) ≡ put_so_far w
operand_above op w = ap above_all (operand_only op w).instrs

-- one piece behind another
both : (x y z a b : ℕ) → y ≡ max x a → z ≡ max y b → z ≡ max x (max a b)
both x y z a b e f = omega (arith, e, f)

laid : (p : Piece) (L : List Label) (w : Written) → put_so_far (layout p L w) ≡ max (put_so_far w) (above p)
laid P.empty L w = omega arith
laid (P.act op n l g) L w = put_act_above _ _ _ ∙ ap (λ m. max m (suc n)) (operand_above op w)
laid (P.move op) L w = put_above _ _ ∙ (operand_above op w ∙ omega arith)
laid (P.seq a b) L w = both _ _ _ _ _ (laid a L w) (laid b L (layout a L w))
laid (P.block p) L w = bind_above _ _ ∙ (laid p (next_label w ∷ L) (new_label w) ∙ ap (λ m. max m (above p)) (new_label_above w))
laid (P.headed p) L w = laid p (next_label w ∷ L) (new_label w) ∙ ap (λ m. max m (above p)) (new_label_above w)
laid (P.closed p) L w = laid p [] w
laid (P.looped b p) L w = bind_above _ _ ∙ (placed_above _ _ ∙ (laid p [] _ ∙ ap (λ m. max m (above p)) (placed_above _ _ ∙ new_label_above w)))
laid (P.leave e n l) L w = put_act_above _ _ _
laid (P.ensured p) L w = put_row_above _ _ ∙ (put_above _ _ ∙ laid p [] w)
laid (P.caught p q) L w = put_row_above _ _ ∙ both _ _ _ _ _ (laid p [] w) (laid q L (layout p [] w))
laid (P.deeper k p) L w = placed_above _ _ ∙ (laid p L _ ∙ ap (λ m. max m (above p)) (placed_above _ _))
laid (P.started l p) L w = laid p L (put_start l w) ∙ ap (λ m. max m (above p)) (put_start_above l w)
laid (P.numbered n p) L w = laid p L (numbered_from n w) ∙ ap (λ m. max m (above p)) (numbered_above n w)

module _ {V : Type 0} (around : Around V) where
  of_statements : (ss : Stms) → max 0 (above (block_piece around ss)) ≡ length (acts_stms ss)
  of_statements ss =
      let n = count_stms ss in
      ends _ _ _ (and_tops 0 (0 + stms_size ss) _ _ _ (all_tops around ss 0 free) (and_tops _ _ _ _ _ (no_tops _) (no_tops _))) (omega (arith, n))

  yielded : (l : ℕ) (e : Exp) (m : ℕ) → Tops (yielded_piece around l e m) m (m + (size e + 2))
  yielded l e m = ends _ _ _ (and_tops _ (m + size e) _ _ _ (exp_tops around e m false [])
      (and_tops _ (m + size e + 1) _ _ _ (act_tops (m + size e)) (and_tops _ (m + size e + 1 + 1) _ _ _ (act_tops (m + size e + 1)) (no_tops _)))) (omega arith)

  many : (l : ℕ) (e : Exp) (k : ℕ) (t : Tgt) (cs : Clauses)
      → length (acts_of_code (B.of_generator l e k t cs)) ≡ 0 + 1 + target_size t + (clauses_size cs + (size e + 2))
  many l e k t cs = simp (length-append, count_target t, count_clauses l cs, count_exp e) (omega arith)

  of_code : (c : Code) → max 0 (above (code_piece around c)) ≡ length (acts_of_code c)
  of_code (B.of_module ss) = of_statements ss
  of_code (B.of_function ss) = of_statements (function_body ss)
  of_code (B.of_class ss) = of_statements ss
  of_code (B.of_lambda l e) =
      let n = count_exp e in
      let k = length-append (acts_exp e) (act K.Return l) in
      ends _ _ _ (and_tops 0 (size e) _ _ _ (ends _ _ _ (exp_tops around e 0 false []) (omega arith)) (act_tops (size e))) (omega (arith, n, k))
  of_code (B.of_generator l e k t cs) =
      let n = many l e k t cs in
      ends _ _ _ (and_tops 0 (0 + 1 + target_size t + (clauses_size cs + (size e + 2))) _ _ _
      (and_tops 0 (0 + 1) _ _ _ (act_tops 0) (and_tops _ (0 + 1 + target_size t) _ _ _ (target_tops around t (0 + 1) [])
      (clauses_tops around cs l (0 + 1 + target_size t) 1 [] _ (size e + 2) (λ m d. yielded l e m))))
      (and_tops _ _ _ _ _ (no_tops _) (no_tops _))) (omega (arith, n))

pub marks_tell_acts : {V : Type 0} → MarksTellActs V
marks_tell_acts around c texts constants lists locals cells frees depth =
    all_marked 0 _ ∙ (laid (code_piece around c) [] (begun texts constants lists locals cells frees depth) ∙ of_code around c)
