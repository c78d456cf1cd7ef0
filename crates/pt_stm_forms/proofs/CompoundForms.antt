-- What the writer has behind each form of compound statements, given what it has behind their parts.
use Rattle.std.proofs.Common.{◌≡◌, ℕ, ◌+◌, List, [], ◌∷◌, Bool, true, false, refl, ap, sym, ◌∙◌, add-zero}
use Rattle.std.specs.Prelude.{if◌then◌else◌, ◌&&◌}
use Rattle.pt_tree.specs.Syntax as S
use Rattle.pt_tree.specs.Syntax.{Exp, Tgt, Stm, Stms, Branches, none, more}
use Rattle.pt_tree.specs.declared.expression.Constant.TheVariants as constant
use Rattle.pt_tree.specs.Sizes.{size, target_size, stm_size, stms_size}
use Rattle.pt_instr.specs.declared.Instr.TheVariants as instr
use Rattle.sem_control.specs.control.Numbers.{tested_body, behind_body, for_body, for_else}
use Rattle.sem_control.specs.control.Jump.{starts_on}
use Rattle.pt_block_names.specs.declared.block_names.BlockNames.{BlockNames}
use Rattle.pt_assembler.specs.declared.operation.Label.{Label}
use Rattle.pt_assembler.specs.declared.operation.Exit.TheVariants.{Break, Continue}
use Rattle.pt_assembler.specs.declared.operation.Jump.TheVariants.{AtEnd, Always, IfTrue, IfFalse}
use Rattle.pt_assembler.specs.declared.operation.Operation.TheVariants.{Plain, To}
use Rattle.pt_assembler.specs.Piece.{Piece, plain, const, to, act, move, block, closed, looped, started, ◌▸◌}
use Rattle.pt_assembler.specs.Layout.{Written, layout, put, put_act, act_of, put_start, new_label, next_label, bind, placed, loop_in, numbered_from}
use Rattle.pt_write_ops.specs.sem_compile.emitter.ExpPiece.{exp_piece, target_piece}
use Rattle.pt_expr_forms.specs.Behind.{known, jump_act, behind_exp, behind_target}
use Rattle.pt_expr_forms.proofs.Acts.{put-act, new_label-act, bind-act, move_has}
use Rattle.pt_expr_forms.proofs.Forms.{acted, acts-exp}
use Rattle.pt_write_ops.specs.sem_compile.stm_pieces.Needed as needed
use Rattle.pt_write_ops.specs.sem_compile.stm_pieces.Needed.{Behind, free, in_front, is_needed, is_silent, leaves, needed_if, some_exits}
use Rattle.pt_write_ops.specs.sem_compile.stm_pieces.StmPiece.{value_piece, all_piece, branches_piece, stm_piece}
use Rattle.pt_stm_forms.specs.Simple.{behind_stm, behind_value}
use Rattle.pt_stm_forms.specs.Compound.{behind_suite, behind_start, behind_untaken, behind_branch, behind_branches, behind_choice, behind_loop_body, behind_loop_else, tested_again, behind_tested, behind_while_body, behind_while, next_again, behind_iterator, behind_first, over_more, behind_deep_body, behind_for_body, behind_for}
use Rattle.pt_stm_forms.proofs.StatementActs.{placed-act, put_start-act, numbered-act, begun_ends, stm_ends, all_ends}
use Rattle.pt_stm_forms.proofs.SimpleForms.{jump-at, jump-act, plain-act, value-act, value-at, target-act, target-at}

module _ (b : BlockNames) where
  pub suite-at : (ss : Stms) (q : Behind) (n : ℕ) (w : Written) → w.act ≡ n → layout (all_piece (known b) ss n q) [] w ≡ behind_suite b ss q w
  unfolding behind_suite
  suite-at ss q n w is = ap (λ m. layout (all_piece (known b) ss m q) [] w) (sym is)

  pub suite-act : (ss : Stms) (q : Behind) (w : Written) → (behind_suite b ss q w).act ≡ w.act + stms_size ss
  unfolding behind_suite
  suite-act ss q w = (all_ends (known b) ss w.act q).acts [] w refl

  pub start-act : (st : Stm) (q : Behind) (w : Written) → (behind_start b st q w).act ≡ w.act + stm_size st
  unfolding behind_start
  start-act st q w = (begun_ends st q w.act (w.act + stm_size st) (stm_piece (known b) st w.act q) (stm_ends (known b) st w.act q)).acts [] w refl

  -- Statements one after the other, each with its start.

  pub suite-none : (q : Behind) (w : Written) → behind_suite b none q w ≡ w
  unfolding behind_suite
  suite-none q w = refl

  pub suite-more : (st : Stm) (ss : Stms) (q : Behind) (w : Written) → behind_suite b (more st ss) q w ≡ behind_suite b ss q (behind_start b st (in_front ss q) w)
  unfolding behind_suite behind_start
  suite-more st ss q w = ap (λ n. layout (all_piece (known b) ss n q) [] (behind_start b st (in_front ss q) w)) (sym (start-act st (in_front ss q) w))

  stm-at : (st : Stm) (q : Behind) (n : ℕ) (w : Written) → w.act ≡ n → layout (stm_piece (known b) st n q) [] w ≡ behind_stm b st q w
  unfolding behind_stm
  stm-at st q n w is = ap (λ m. layout (stm_piece (known b) st m q) [] w) (sym is)

  abbrev begun : (silent untaken : Bool) → Piece → Piece
  begun c d p = if c then move (plain instr.Nop) ▸ p else if d then block (move (const (constant.Bool true)) ▸ move (to IfFalse 0) ▸ closed p) else p

  pub start-silent : (st : Stm) (q : Behind) (w : Written) → is_silent st ≡ true
      → behind_start b st q w ≡ behind_stm b st q (put (Plain instr.Nop) (put_start (starts_on st) w))
  unfolding behind_start
  start-silent st q w silent =
      ap (λ c. layout (started (starts_on st) (begun c (leaves st && is_needed q) (stm_piece (known b) st w.act q))) [] w) silent
      ∙ stm-at st q w.act (put (Plain instr.Nop) (put_start (starts_on st) w)) (put-act _ _ ∙ put_start-act (starts_on st) w)

  pub start-untaken : (st : Stm) (q : Behind) (w : Written) → is_silent st ≡ false → (leaves st && is_needed q) ≡ true
      → behind_start b st q w ≡ behind_untaken b st q (put_start (starts_on st) w)
  unfolding behind_start
  start-untaken st q w silent needed =
      let there : Written = put_start (starts_on st) w in
      let truth : Written = layout (move (const (constant.Bool true))) [] (new_label there) in
      let acts : truth.act ≡ w.act = (move_has (const (constant.Bool true))).acts [] (new_label there) ∙ add-zero _ ∙ new_label-act there ∙ put_start-act (starts_on st) w in
      ap (λ c. layout (started (starts_on st) (begun c (leaves st && is_needed q) (stm_piece (known b) st w.act q))) [] w) silent
      ∙ ap (λ d. layout (started (starts_on st) (begun false d (stm_piece (known b) st w.act q))) [] w) needed
      ∙ ap (λ u. bind (next_label there) u) (stm-at st q w.act (put (To IfFalse (next_label there)) truth) (put-act _ _ ∙ acts))

  pub start-plain : (st : Stm) (q : Behind) (w : Written) → is_silent st ≡ false → (leaves st && is_needed q) ≡ false
      → behind_start b st q w ≡ behind_stm b st q (put_start (starts_on st) w)
  unfolding behind_start
  start-plain st q w silent needed =
      ap (λ c. layout (started (starts_on st) (begun c (leaves st && is_needed q) (stm_piece (known b) st w.act q))) [] w) silent
      ∙ ap (λ d. layout (started (starts_on st) (begun false d (stm_piece (known b) st w.act q))) [] w) needed
      ∙ stm-at st q w.act (put_start (starts_on st) w) (put_start-act (starts_on st) w)

  -- Choices.

  labelled-act : (e : Exp) (n : ℕ) (w : Written) → w.act ≡ n → (behind_value b e (new_label w)).act ≡ n + size e
  labelled-act e n w is = value-act b e (new_label w) ∙ ap (λ m. m + size e) (new_label-act w ∙ is)

  branch-laid : (l : ℕ) (c : Exp) (body : Stms) (end : Label) (L : List Label) (n : ℕ) (w : Written) → w.act ≡ n
      → layout (block (value_piece (known b) c n ▸ act (to IfFalse 0) (n + size c) l false ▸ closed (all_piece (known b) body (tested_body n c) free)
      ▸ move (to Always 1))) (end ∷ L) w ≡ behind_branch b c body end l w
  branch-laid l c body end L n w is =
      let next : Label = next_label w in
      let test : Written = behind_value b c (new_label w) in
      let jumped : Written = jump_act IfFalse next l test in
      let one : test.act ≡ n + size c = labelled-act c n w is in
      let two : jumped.act ≡ n + size c + 1 = jump-act IfFalse next l test ∙ ap (λ m. m + 1) one in
      let rest : Written → Written = λ u. bind next (put (To Always end) (layout (all_piece (known b) body (tested_body n c) free) [] u)) in
      ap (λ u. rest (put_act (To IfFalse next) (act_of (n + size c) l false) u)) (value-at b c n (new_label w) (new_label-act w ∙ is))
      ∙ ap rest (jump-at IfFalse next (n + size c) l test one)
      ∙ ap (λ u. bind next (put (To Always end) u)) (suite-at body free (tested_body n c) jumped two)

  branch-act : (l : ℕ) (c : Exp) (body : Stms) (end : Label) (w : Written) → (behind_branch b c body end l w).act ≡ behind_body w.act c body
  branch-act l c body end w =
      let test : Written = behind_value b c (new_label w) in
      bind-act _ _ ∙ put-act _ _ ∙ suite-act body free (jump_act IfFalse (next_label w) l test)
      ∙ ap (λ m. m + stms_size body) (jump-act IfFalse (next_label w) l test ∙ ap (λ m. m + 1) (labelled-act c w.act w refl))

  branches-laid : (bs : Branches) (els : ℕ → Piece) (end : Label) (L : List Label) (w : Written) → layout (branches_piece (known b) bs w.act els) (end ∷ L) w
      ≡ (let u = behind_branches b bs end w in layout (els u.act) (end ∷ L) u)
  branches-laid S.no_branches els end L w = refl
  branches-laid (S.branch l c body r) els end L w =
      let there : Written = behind_branch b c body end l w in
      ap (λ u. layout (branches_piece (known b) r (behind_body w.act c body) els) (end ∷ L) u) (branch-laid l c body end L w.act w refl)
      ∙ ap (λ n. layout (branches_piece (known b) r n els) (end ∷ L) there) (sym (branch-act l c body end w)) ∙ branches-laid r els end L there

  pub choice-form : (l : ℕ) (bs : Branches) (els : Stms) (q : Behind) (w : Written) → behind_stm b (S.choice l bs els) q w ≡ behind_choice b bs els q w
  unfolding behind_stm behind_suite
  choice-form l bs els q w =
      let otherwise : ℕ → Piece = λ m. closed (all_piece (known b) els m (needed.behind_branches (needed.some_branch_goes_on bs) q)) in
      ap (λ n. bind (next_label w) (layout (branches_piece (known b) bs n otherwise) (next_label w ∷ []) (new_label w))) (sym (new_label-act w))
      ∙ ap (λ u. bind (next_label w) u) (branches-laid bs otherwise (next_label w) [] (new_label w))

  -- Loops.

  loop_body-laid : (body : Stms) (head over end : Label) (L : List Label) (n : ℕ) (w : Written) → w.act ≡ n
      → layout (looped 2 (all_piece (known b) body n (needed_if (some_exits Continue body)))) (head ∷ over ∷ end ∷ L) w ≡ behind_loop_body b body end w
  unfolding behind_loop_body
  loop_body-laid body head over end L n w is =
      ap (λ u. bind (next_label w) (placed w.place u))
      (suite-at body (needed_if (some_exits Continue body)) n (placed (loop_in end (next_label w) w.place) (new_label w)) (placed-act _ _ ∙ new_label-act w ∙ is))

  loop_body-act : (body : Stms) (end : Label) (w : Written) → (behind_loop_body b body end w).act ≡ w.act + stms_size body
  unfolding behind_loop_body
  loop_body-act body end w =
      bind-act _ _ ∙ placed-act _ _ ∙ suite-act body _ (placed (loop_in end (next_label w) w.place) (new_label w))
      ∙ ap (λ n. n + stms_size body) (placed-act _ _ ∙ new_label-act w)

  -- the `else` part of a loop, whose acts have their numbers
  else-laid : (els : Stms) (q : Behind) (n m : ℕ) (w : Written) → m ≡ n
      → layout (all_piece (known b) els n q) [] (numbered_from n w) ≡ behind_suite b els q (numbered_from m w)
  else-laid els q n m w is =
      ap (λ i. layout (all_piece (known b) els i q) [] (numbered_from i w)) (sym is) ∙ suite-at els q m (numbered_from m w) (numbered-act m w)

  again-at : (c : Exp) (n : ℕ) (w : Written) → layout (exp_piece (known b) c n true []) [] (numbered_from n w) ≡ behind_exp b [] c true (numbered_from n w)
  unfolding behind_exp
  again-at c n w = ap (λ m. layout (exp_piece (known b) c m true []) [] (numbered_from n w)) (sym (numbered-act n w))

  tested_again-laid : (c : Exp) (n : ℕ) (head : Label) (l : ℕ) (w : Written)
      → put_act (To IfTrue head) (act_of (n + size c) l false) (layout (exp_piece (known b) c n true []) [] (numbered_from n w)) ≡ tested_again b c n head l w
  tested_again-laid c n head l w =
      ap (λ u. put_act (To IfTrue head) (act_of (n + size c) l false) u) (again-at c n w)
      ∙ jump-at IfTrue head (n + size c) l (behind_exp b [] c true (numbered_from n w)) (acts-exp b [] c true (numbered_from n w) ∙ ap (λ m. m + size c) (numbered-act n w))

  pub while-form : (l : ℕ) (c : Exp) (body els : Stms) (q : Behind) (w : Written)
      → behind_stm b (S.while l c body els) q w ≡ behind_loop_else b body els q (next_label w) (behind_while b c body l w)
  unfolding behind_stm behind_while
  while-form l c body els q w =
      let n : ℕ = w.act in
      let k : Behind = needed.behind_loop (some_exits Break body) q in
      let end : Label = next_label w in
      let over : Label = next_label (new_label w) in
      let test : Written = behind_value b c (new_label (new_label w)) in
      let jumped : Written = behind_tested b c l w in
      let head : Label = next_label jumped in
      let body_there : Written = behind_while_body b c body l w in
      let one : test.act ≡ n + size c = labelled-act c n (new_label w) (new_label-act w) in
      let two : (new_label jumped).act ≡ tested_body n c = new_label-act jumped ∙ jump-act IfFalse over l test ∙ ap (λ m. m + 1) one in
      let three : body_there.act ≡ behind_body n c body = loop_body-act body end (new_label jumped) ∙ ap (λ m. m + stms_size body) two in
      let behind : Written → Written
      = λ u. bind end (layout (all_piece (known b) els (behind_body n c body) k) [] (numbered_from (behind_body n c body) (bind over u))) in
      let tail : (h : Label) → Written → Written
      = λ h u. behind (put_act (To IfTrue h) (act_of (n + size c) l false) (layout (exp_piece (known b) c n true []) [] (numbered_from n u))) in
      let from : Written → Written = λ u. tail (next_label u) (layout (looped 2 (all_piece (known b) body (tested_body n c) (needed_if (some_exits Continue body))))
      (next_label u ∷ over ∷ end ∷ []) (new_label u)) in
      ap (λ u. from (put_act (To IfFalse over) (act_of (n + size c) l false) u))
      (value-at b c n (new_label (new_label w)) (new_label-act (new_label w) ∙ new_label-act w))
      ∙ ap from (jump-at IfFalse over (n + size c) l test one)
      ∙ ap (λ u. tail head u) (loop_body-laid body head over end [] (tested_body n c) (new_label jumped) two)
      ∙ ap behind (tested_again-laid c n head l body_there)
      ∙ ap (λ u. bind end u) (else-laid els k (behind_body n c body) body_there.act (bind over (tested_again b c n head l body_there)) three)

  deep_body-laid : (body : Stms) (head over end : Label) (L : List Label) (n : ℕ) (w : Written) → w.act ≡ n
      → placed w.place (layout (looped 2 (all_piece (known b) body n (needed_if (some_exits Continue body)))) (head ∷ over ∷ end ∷ L) (over_more 1 w))
      ≡ behind_deep_body b body end w
  deep_body-laid body head over end L n w is =
      ap (λ u. placed w.place u) (loop_body-laid body head over end L n (over_more 1 w) (placed-act _ _ ∙ is))

  deep_body-act : (body : Stms) (end : Label) (w : Written) → (behind_deep_body b body end w).act ≡ w.act + stms_size body
  deep_body-act body end w = placed-act _ _ ∙ loop_body-act body end (over_more 1 w) ∙ ap (λ n. n + stms_size body) (placed-act _ _)

  pub for-form : (l : ℕ) (t : Tgt) (it : Exp) (body els : Stms) (q : Behind) (w : Written)
      → behind_stm b (S.for l t it body els) q w ≡ behind_loop_else b body els q (next_label w) (behind_for b t it body l w)
  unfolding behind_stm behind_for
  for-form l t it body els q w =
      let n : ℕ = w.act + size it + 1 in
      let k : Behind = needed.behind_loop (some_exits Break body) q in
      let end : Label = next_label w in
      let over : Label = next_label (new_label w) in
      let value : Written = behind_value b it (new_label (new_label w)) in
      let iterator : Written = behind_iterator b it l w in
      let first : Written = behind_first b it l w in
      let head : Label = next_label first in
      let bound : Written = behind_target b [] t (new_label first) in
      let body_there : Written = behind_for_body b t it body l w in
      let one : value.act ≡ w.act + size it = labelled-act it w.act (new_label w) (new_label-act w) in
      let two : iterator.act ≡ n = plain-act instr.Iter l value ∙ ap (λ m. m + 1) one in
      let three : (new_label first).act ≡ n + 1 = new_label-act first ∙ jump-act AtEnd over l iterator ∙ ap (λ m. m + 1) two in
      let four : bound.act ≡ for_body n t = target-act b t (new_label first) ∙ ap (λ m. m + target_size t) three in
      let five : body_there.act ≡ for_else n t body = deep_body-act body end bound ∙ ap (λ m. m + stms_size body) four in
      let behind : (i : ℕ) → Written → Written
      = λ i u. bind end (layout (all_piece (known b) els (for_else n t body) k) [] (numbered_from (for_else n t body) (bind over (next_again i head over l u)))) in
      let deep : (h : Label) → Written → Written
      = λ h u. placed u.place (layout (looped 2 (all_piece (known b) body (for_body n t) (needed_if (some_exits Continue body)))) (h ∷ over ∷ end ∷ []) (over_more 1 u)) in
      let from : Written → Written
      = λ u. bind end (layout (all_piece (known b) els (for_else n t body) k) [] (numbered_from (for_else n t body) (bind over (next_again n (next_label u) over l
      (deep (next_label u) (layout (target_piece (known b) t (n + 1) []) [] (new_label u))))))) in
      let first_at : Written → Written = λ u. from (put_act (To AtEnd over) (act_of n l false) u) in
      ap (λ u. first_at (put_act (Plain instr.Iter) (act_of (w.act + size it) l false) u))
      (value-at b it w.act (new_label (new_label w)) (new_label-act (new_label w) ∙ new_label-act w))
      ∙ ap first_at (acted instr.Iter l (w.act + size it) false value one)
      ∙ ap from (jump-at AtEnd over n l iterator two)
      ∙ ap (λ u. behind n (deep head u)) (target-at b t (n + 1) (new_label first) three)
      ∙ ap (λ u. behind n u) (deep_body-laid body head over end [] (for_body n t) bound four)
      ∙ ap (λ i. behind i body_there) (sym two)
      ∙ ap (λ u. bind end u) (else-laid els k (for_else n t body) body_there.act (bind over (next_again iterator.act head over l body_there)) five)
