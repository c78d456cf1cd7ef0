-- What the writer has behind each form of expressions, given what it has behind its parts.
use Rattle.std.proofs.Common.{◌≡◌, ℕ, ◌+◌, zero, suc, List, [], ◌∷◌, ◌++◌, map, Bool, false, Option, refl, ap, sym, ◌∙◌, arith, add-zero}
use Rattle.pt_base.specs.declared.numbers.ActNo.{ActNo}
use Rattle.pt_base.specs.declared.operators.BinOp.{BinOp}
use Rattle.pt_base.specs.declared.operators.UnOp.{UnOp}
use Rattle.pt_base.specs.declared.operators.CompareOp.{CompareOp}
use Rattle.pt_tree.specs.declared.expression.Constant.{Constant}
use Rattle.pt_tree.specs.declared.expression.Constant.TheVariants as constant
use Rattle.pt_tree.specs.declared.expression.Conversion.{Conversion}
use Rattle.pt_tree.specs.declared.expression.NamedParameter.{NamedParameter}
use Rattle.pt_tree.specs.Syntax as S
use Rattle.pt_tree.specs.Syntax.{Name, Exp, Exps, Opt, Pieces, Entries, Links, Args, Tgt, Tgts, Form, Clauses, Formals}
use Rattle.pt_tree.specs.Fold.{ClauseOf}
use Rattle.pt_tree.specs.Sizes.{size, pieces_size, joins, target_size}
use Rattle.pt_instr.specs.declared.Instr.{Instr}
use Rattle.pt_instr.specs.declared.Instr.TheVariants as instr
use Rattle.sem_control.specs.control.Turn as T
use Rattle.sem_control.specs.control.Turn.{Variable, Role, Operation}
use Rattle.sem_control.specs.control.Expressions.{roles, making, defaulted}
use Rattle.sem_control.specs.control.Statements as statements
use Rattle.sem_control.specs.control.Statements.{star_of}
use Rattle.pt_block_names.specs.declared.block_names.BlockNames.{BlockNames}
use Rattle.pt_assembler.specs.declared.operation.Label.{Label}
use Rattle.pt_assembler.specs.declared.operation.Operation.TheVariants.{Plain, To}
use Rattle.pt_assembler.specs.declared.operation.Jump.TheVariants.{Always, IfFalse, IfTrueKeep, IfFalseKeep}
use Rattle.pt_assembler.specs.Piece.{Piece, act, const, with_text}
use Rattle.pt_assembler.specs.Layout.{Written, layout, put, put_act, act_of, new_label, next_label, bind}
use Rattle.pt_write_ops.specs.sem_compile.emitter.Ops.{call, formatting_of, operation, load, store, push_cell}
use Rattle.pt_write_ops.specs.sem_compile.emitter.ExpPiece.{unpack_op, exp_piece, part_piece, exps_piece, entries_piece, args_piece, pieces_piece, spec_piece, links_piece, ands_piece, ors_piece, formals_piece, first_piece, made_piece, op_piece, target_piece, targets_piece}
use Rattle.pt_write_ops.specs.Written.{cells_piece}
use Rattle.pt_expr_forms.specs.declared.display.Display.{Display}
use Rattle.pt_expr_forms.specs.declared.display.Display.TheVariants as display
use Rattle.pt_expr_forms.specs.Behind.{known, numbers, plain_act, jump_act, no_value, still, behind_exp, behind_target, behind_targets, display_of, display_instr, exps_count, behind_all, entries_count, behind_entries, pieces_count, joined, behind_literal, behind_pieces, opt_count, behind_opt, ends_of, link_begun, link_ended, behind_links, behind_operands, behind_args, defaults_count, behind_defaults}
use Rattle.pt_expr_forms.specs.Loops.{behind_iterator}
use Rattle.pt_expr_forms.proofs.Acts.{put-act, put_act-act, new_label-act, bind-act, move_has, act_has, null_has, exp_has, pieces_has, spec_has, target_has}

one-more : (c : ℕ) → 1 + c ≡ suc c
one-more c = omega arith

-- an act that is numbered as the writer is
pub acted : (i : Instr) (l n : ℕ) (g : Bool) (w : Written) → w.act ≡ n → put_act (Plain i) (act_of n l g) w ≡ plain_act i l g w
acted i l n g w is = ap (λ m. put_act (Plain i) (act_of m l g) w) (sym is)

pub null-act : (w : Written) → (no_value w).act ≡ w.act
null-act w = null_has.acts [] w ∙ add-zero w.act

module _ (b : BlockNames) (ns : List ActNo) where
  known_exp : Exp → (n : ℕ) → (g : Bool) → Written → Written
  known_exp e n g w = layout (exp_piece (known b) e n g (numbers ns)) [] w

  pub acts-exp : (e : Exp) (g : Bool) (w : Written) → (behind_exp b ns e g w).act ≡ w.act + size e
  unfolding behind_exp
  acts-exp e g w = (exp_has (known b) e w.act g (numbers ns)).acts [] w

  pub acts-target : (t : Tgt) (w : Written) → (behind_target b ns t w).act ≡ w.act + target_size t
  unfolding behind_target
  acts-target t w = (target_has (known b) t w.act (numbers ns)).acts [] w

  literal-act : (l : ℕ) (t : Name) (g : Bool) (w : Written) → (behind_literal l t g w).act ≡ w.act + 1
  literal-act l t g w = (act_has (const (constant.Str t)) w.act l g).acts [] w

  -- two operands
  pub pair-acts : (x y : Exp) (g : Bool) (w : Written) → (behind_exp b ns y false (behind_exp b ns x g w)).act ≡ w.act + size x + size y
  pair-acts x y g w = acts-exp y false (behind_exp b ns x g w) ∙ ap (λ n. n + size y) (acts-exp x g w)

  pub pair-laid : (x y : Exp) (g : Bool) (w : Written)
      → layout (exp_piece (known b) y (w.act + size x) false (numbers ns)) [] (layout (exp_piece (known b) x w.act g (numbers ns)) [] w)
      ≡ behind_exp b ns y false (behind_exp b ns x g w)
  unfolding behind_exp
  pair-laid x y g w = ap (λ n. layout (exp_piece (known b) y n false (numbers ns)) [] (behind_exp b ns x g w)) (sym (acts-exp x g w))

  -- an instruction behind two operands
  behind-pair : (i : Instr) (l : ℕ) (x y : Exp) (g : Bool) (w : Written) → put_act (Plain i) (act_of (w.act + size x + size y) l false)
      (layout (exp_piece (known b) y (w.act + size x) false (numbers ns)) [] (layout (exp_piece (known b) x w.act g (numbers ns)) [] w))
      ≡ plain_act i l false (behind_exp b ns y false (behind_exp b ns x g w))
  behind-pair i l x y g w =
      ap (λ u. put_act (Plain i) (act_of (w.act + size x + size y) l false) u) (pair-laid x y g w)
      ∙ acted i l (w.act + size x + size y) false (behind_exp b ns y false (behind_exp b ns x g w)) (pair-acts x y g w)

  -- Leaves.

  pub constant-form : (l : ℕ) (k : Constant) (g : Bool) (w : Written) → behind_exp b ns (S.constant l k) g w ≡ layout (act (const k) w.act l g) [] w
  unfolding behind_exp
  constant-form l k g w = refl

  pub name-form : (l : ℕ) (x : Name) (g : Bool) (w : Written)
      → behind_exp b ns (S.name l x) g w ≡ layout (act (load ((known b).variable (numbers ns) x)) w.act l g) [] w
  unfolding behind_exp
  name-form l x g w = refl

  -- One operand or two.

  pub unary-form : (l : ℕ) (o : UnOp) (e : Exp) (g : Bool) (w : Written)
      → behind_exp b ns (S.unary l o e) g w ≡ plain_act (instr.Unary o) l false (behind_exp b ns e g w)
  unfolding behind_exp
  unary-form l o e g w = acted (instr.Unary o) l (w.act + size e) false (behind_exp b ns e g w) (acts-exp e g w)

  pub not-form : (l : ℕ) (e : Exp) (g : Bool) (w : Written) → behind_exp b ns (S.not_of l e) g w ≡ plain_act instr.Not l false (behind_exp b ns e g w)
  unfolding behind_exp
  not-form l e g w = acted instr.Not l (w.act + size e) false (behind_exp b ns e g w) (acts-exp e g w)

  pub attribute-form : (l : ℕ) (e : Exp) (x : Name) (g : Bool) (w : Written) → behind_exp b ns (S.attribute l e x) g w
      ≡ layout (act (with_text instr.Attr ((known b).spelled x)) (behind_exp b ns e g w).act l false) [] (behind_exp b ns e g w)
  unfolding behind_exp
  attribute-form l e x g w =
      ap (λ n. layout (act (with_text instr.Attr ((known b).spelled x)) n l false) [] (behind_exp b ns e g w)) (sym (acts-exp e g w))

  pub item-form : (l : ℕ) (a i : Exp) (g : Bool) (w : Written)
      → behind_exp b ns (S.item l a i) g w ≡ plain_act instr.Item l false (behind_exp b ns i false (behind_exp b ns a g w))
  unfolding behind_exp
  item-form l a i g w = behind-pair instr.Item l a i g w

  pub binary-form : (l : ℕ) (o : BinOp) (x y : Exp) (g : Bool) (w : Written)
      → behind_exp b ns (S.binary l o x y) g w ≡ plain_act (instr.Binary o) l false (behind_exp b ns y false (behind_exp b ns x g w))
  unfolding behind_exp
  binary-form l o x y g w = behind-pair (instr.Binary o) l x y g w

  pub yield-form : (l : ℕ) (o : Opt) (g : Bool) (w : Written)
      → behind_exp b ns (S.yield l o) g w ≡ plain_act instr.Yield l (still g (opt_count o)) (behind_opt b ns o g w)
  unfolding behind_exp
  yield-form l S.absent g w = rw (null-act w)
  yield-form l (S.given e) g w = acted instr.Yield l (w.act + size e) false (behind_exp b ns e g w) (acts-exp e g w)

  pub yield_from-form : (l : ℕ) (e : Exp) (g : Bool) (w : Written) → behind_exp b ns (S.yield_from l e) g w
      ≡ plain_act instr.Delegate l false (no_value (plain_act instr.Iter l false (behind_exp b ns e g w)))
  unfolding behind_exp
  yield_from-form l e g w =
      let value : Written = behind_exp b ns e g w in
      let iterator : Written = plain_act instr.Iter l false value in
      let one : iterator.act ≡ w.act + size e + 1 = put_act-act (Plain instr.Iter) (act_of value.act l false) value ∙ ap (λ n. n + 1) (acts-exp e g w) in
      ap (λ u. put_act (Plain instr.Delegate) (act_of (w.act + size e + 1) l false) (no_value u)) (acted instr.Iter l (w.act + size e) false value (acts-exp e g w))
      ∙ acted instr.Delegate l (w.act + size e + 1) false (no_value iterator) (null-act iterator ∙ one)

  -- Slices.

  part-laid : (o : Opt) (rest : ℕ → Piece) (w : Written) → layout (part_piece (known b) o w.act (numbers ns) rest) [] w
      ≡ layout (rest (behind_opt b ns o false w).act) [] (behind_opt b ns o false w)
  unfolding behind_exp
  part-laid S.absent rest w = ap (λ n. layout (rest n) [] (no_value w)) (sym (null-act w))
  part-laid (S.given e) rest w = ap (λ n. layout (rest n) [] (behind_exp b ns e false w)) (sym (acts-exp e false w))

  -- behind the first operand that is there, given the other parts
  from_start : (l : ℕ) (x : Exp) (y z : Opt) (g : Bool) (w : Written) → layout (exp_piece (known b) (S.slice l (S.given x) y z) w.act g (numbers ns)) [] w
      ≡ plain_act instr.Slice l false (behind_opt b ns z false (behind_opt b ns y false (behind_exp b ns x g w)))
  unfolding behind_exp
  from_start l x y z g w =
      let end : ℕ → Piece = λ m. op_piece (known b) T.slice l m false 3 in
      let rest : ℕ → Piece = λ m. part_piece (known b) z m (numbers ns) end in
      let value : Written = behind_exp b ns x g w in
      ap (λ n. layout (part_piece (known b) y n (numbers ns) rest) [] value) (sym (acts-exp x g w))
      ∙ part-laid y rest value ∙ part-laid z end (behind_opt b ns y false value)

  from_stop : (l : ℕ) (y : Exp) (z : Opt) (g : Bool) (w : Written) → layout (exp_piece (known b) (S.slice l S.absent (S.given y) z) w.act g (numbers ns)) [] w
      ≡ plain_act instr.Slice l false (behind_opt b ns z false (behind_exp b ns y g (no_value w)))
  unfolding behind_exp
  from_stop l y z g w =
      let end : ℕ → Piece = λ m. op_piece (known b) T.slice l m false 3 in
      let none : Written = no_value w in
      ap (λ n. layout (part_piece (known b) z (n + size y) (numbers ns) end) [] (layout (exp_piece (known b) y n g (numbers ns)) [] none)) (sym (null-act w))
      ∙ ap (λ n. layout (part_piece (known b) z n (numbers ns) end) [] (behind_exp b ns y g none)) (sym (acts-exp y g none))
      ∙ part-laid z end (behind_exp b ns y g none)

  from_step : (l : ℕ) (z : Exp) (g : Bool) (w : Written) → layout (exp_piece (known b) (S.slice l S.absent S.absent (S.given z)) w.act g (numbers ns)) [] w
      ≡ plain_act instr.Slice l false (behind_exp b ns z g (no_value (no_value w)))
  unfolding behind_exp
  from_step l z g w =
      let end : ℕ → Piece = λ m. op_piece (known b) T.slice l m false 3 in
      let none : Written = no_value (no_value w) in
      let same : none.act ≡ w.act = null-act (no_value w) ∙ null-act w in
      ap (λ n. layout (end (n + size z)) [] (layout (exp_piece (known b) z n g (numbers ns)) [] none)) (sym same)
      ∙ ap (λ n. layout (end n) [] (behind_exp b ns z g none)) (sym (acts-exp z g none))

  pub slice-form : (l : ℕ) (x y z : Opt) (g : Bool) (w : Written) → behind_exp b ns (S.slice l x y z) g w
      ≡ plain_act instr.Slice l (still (still (still g (opt_count x)) (opt_count y)) (opt_count z))
      (behind_opt b ns z (still (still g (opt_count x)) (opt_count y)) (behind_opt b ns y (still g (opt_count x)) (behind_opt b ns x g w)))
  unfolding behind_exp
  slice-form l S.absent S.absent S.absent g w =
      acted instr.Slice l w.act g (no_value (no_value (no_value w))) (null-act (no_value (no_value w)) ∙ null-act (no_value w) ∙ null-act w)
  slice-form l S.absent S.absent (S.given z) g w = from_step l z g w
  slice-form l S.absent (S.given y) S.absent g w = from_stop l y S.absent g w
  slice-form l S.absent (S.given y) (S.given z) g w = from_stop l y (S.given z) g w
  slice-form l (S.given x) S.absent S.absent g w = from_start l x S.absent S.absent g w
  slice-form l (S.given x) S.absent (S.given z) g w = from_start l x S.absent (S.given z) g w
  slice-form l (S.given x) (S.given y) S.absent g w = from_start l x (S.given y) S.absent g w
  slice-form l (S.given x) (S.given y) (S.given z) g w = from_start l x (S.given y) (S.given z) g w

  -- Displays.

  exps-behind : (es : Exps) (op : Operation) (l k : ℕ) (w : Written) → layout (exps_piece (known b) es op l w.act k (numbers ns)) [] w
      ≡ layout (op_piece (known b) op l (behind_all b ns es false w).act false (k + exps_count es)) [] (behind_all b ns es false w)
  unfolding behind_exp
  exps-behind S.no_exps op l k w = rw (add-zero k)
  exps-behind (S.more_exps e es) op l k w =
      let there : Written = behind_exp b ns e false w in
      let many : suc k + exps_count es ≡ k + suc (exps_count es) = omega arith in
      ap (λ n. layout (exps_piece (known b) es op l n (suc k) (numbers ns)) [] there) (sym (acts-exp e false w)) ∙ exps-behind es op l (suc k) there ∙ rw many

  pub display-form : (d : Display) (l : ℕ) (es : Exps) (g : Bool) (w : Written) → behind_exp b ns (display_of d l es) g w
      ≡ plain_act (display_instr d (exps_count es)) l (still g (exps_count es)) (behind_all b ns es g w)
  unfolding behind_exp
  display-form display.Tuple l S.no_exps g w = refl
  display-form display.Tuple l (S.more_exps e es) g w =
      ap (λ n. layout (exps_piece (known b) es T.tuple l n 1 (numbers ns)) [] (behind_exp b ns e g w)) (sym (acts-exp e g w))
      ∙ exps-behind es T.tuple l 1 (behind_exp b ns e g w) ∙ rw (one-more (exps_count es))
  display-form display.List l S.no_exps g w = refl
  display-form display.List l (S.more_exps e es) g w =
      ap (λ n. layout (exps_piece (known b) es T.list l n 1 (numbers ns)) [] (behind_exp b ns e g w)) (sym (acts-exp e g w))
      ∙ exps-behind es T.list l 1 (behind_exp b ns e g w) ∙ rw (one-more (exps_count es))
  display-form display.Set l S.no_exps g w = refl
  display-form display.Set l (S.more_exps e es) g w =
      ap (λ n. layout (exps_piece (known b) es T.set l n 1 (numbers ns)) [] (behind_exp b ns e g w)) (sym (acts-exp e g w))
      ∙ exps-behind es T.set l 1 (behind_exp b ns e g w) ∙ rw (one-more (exps_count es))

  entries-behind : (es : Entries) (l k : ℕ) (w : Written) → layout (entries_piece (known b) es l w.act k (numbers ns)) [] w
      ≡ plain_act (instr.Dict (k + entries_count es)) l false (behind_entries b ns es false w)
  unfolding behind_exp known_exp
  entries-behind S.no_entries l k w = rw (add-zero k)
  entries-behind (S.entry x y r) l k w =
      let many : suc k + entries_count r ≡ k + suc (entries_count r) = omega arith in
      ap (λ u. layout (entries_piece (known b) r l (w.act + size x + size y) (suc k) (numbers ns)) [] u) (pair-laid x y false w)
      ∙ ap (λ n. layout (entries_piece (known b) r l n (suc k) (numbers ns)) [] (behind_exp b ns y false (behind_exp b ns x false w))) (sym (pair-acts x y false w))
      ∙ entries-behind r l (suc k) (behind_exp b ns y false (behind_exp b ns x false w)) ∙ rw many

  pub dict-form : (l : ℕ) (es : Entries) (g : Bool) (w : Written)
      → behind_exp b ns (S.dict l es) g w ≡ plain_act (instr.Dict (entries_count es)) l (still g (entries_count es)) (behind_entries b ns es g w)
  unfolding behind_exp known_exp
  dict-form l S.no_entries g w = refl
  dict-form l (S.entry x y r) g w =
      ap (λ u. layout (entries_piece (known b) r l (w.act + size x + size y) 1 (numbers ns)) [] u) (pair-laid x y g w)
      ∙ ap (λ n. layout (entries_piece (known b) r l n 1 (numbers ns)) [] (behind_exp b ns y false (behind_exp b ns x g w))) (sym (pair-acts x y g w))
      ∙ entries-behind r l 1 (behind_exp b ns y false (behind_exp b ns x g w)) ∙ rw (one-more (entries_count r))

  -- F-strings.

  field : (l : ℕ) (c : Option Conversion) (sp : Pieces) (w : Written) → Written
  field l c sp w = plain_act (instr.Format (formatting_of c)) l false (joined (pieces_count sp) l (behind_pieces b ns sp false w))

  abbrev SpecAt : Pieces → Type 0
  SpecAt sp = (l : ℕ) (c : Option Conversion) (L : List Label) (w : Written) → layout (spec_piece (known b) sp l w.act c (numbers ns)) L w ≡ field l c sp w

  abbrev PiecesAt : Pieces → Type 0
  PiecesAt ps = (l k : ℕ) (L : List Label) (w : Written) → layout (pieces_piece (known b) ps l w.act k (numbers ns)) L w
      ≡ plain_act (instr.Join (k + pieces_count ps)) l false (behind_pieces b ns ps false w)

  -- a value with its spec
  field-laid : (sp : Pieces) (l : ℕ) (e : Exp) (c : Option Conversion) (g : Bool) (L : List Label) (w : Written) → SpecAt sp
      → layout (spec_piece (known b) sp l (w.act + size e) c (numbers ns)) L (known_exp e w.act g w) ≡ field l c sp (behind_exp b ns e g w)
  unfolding behind_exp known_exp
  field-laid sp l e c g L w h =
      ap (λ n. layout (spec_piece (known b) sp l n c (numbers ns)) L (behind_exp b ns e g w)) (sym (acts-exp e g w)) ∙ h l c L (behind_exp b ns e g w)

  field-acts : (sp : Pieces) (l : ℕ) (e : Exp) (c : Option Conversion) (g : Bool) (w : Written) → SpecAt sp
      → (field l c sp (behind_exp b ns e g w)).act ≡ w.act + size e + pieces_size sp + joins sp + 1
  field-acts sp l e c g w h =
      let value : Written = behind_exp b ns e g w in
      let spec : (layout (spec_piece (known b) sp l value.act c (numbers ns)) [] value).act ≡ value.act + (pieces_size sp + joins sp + 1)
      = (spec_has (known b) sp l value.act c (numbers ns)).acts [] value in
      let more : w.act + size e + (pieces_size sp + joins sp + 1) ≡ w.act + size e + pieces_size sp + joins sp + 1 = omega arith in
      ap (λ (u : Written). u.act) (sym (h l c [] value)) ∙ spec ∙ ap (λ n. n + (pieces_size sp + joins sp + 1)) (acts-exp e g w) ∙ more

  -- what stands behind a value with its spec
  behind_field : (sp r : Pieces) (a : ℕ) (e : Exp) (c : Option Conversion) (g : Bool) (L : List Label) (w : Written) → SpecAt sp → PiecesAt r → (l k : ℕ)
      → layout (pieces_piece (known b) r l (w.act + size e + pieces_size sp + joins sp + 1) k (numbers ns)) L
      (layout (spec_piece (known b) sp a (w.act + size e) c (numbers ns)) L (known_exp e w.act g w))
      ≡ plain_act (instr.Join (k + pieces_count r)) l false (behind_pieces b ns r false (field a c sp (behind_exp b ns e g w)))
  behind_field sp r a e c g L w h i l k =
      ap (λ u. layout (pieces_piece (known b) r l (w.act + size e + pieces_size sp + joins sp + 1) k (numbers ns)) L u) (field-laid sp a e c g L w h)
      ∙ ap (λ n. layout (pieces_piece (known b) r l n k (numbers ns)) L (field a c sp (behind_exp b ns e g w))) (sym (field-acts sp a e c g w h))
      ∙ i l k L (field a c sp (behind_exp b ns e g w))

  behind_text : (a : ℕ) (t : Name) (r : Pieces) (g : Bool) (L : List Label) (w : Written) → PiecesAt r → (l k : ℕ)
      → layout (pieces_piece (known b) r l (w.act + 1) k (numbers ns)) L (behind_literal a t g w)
      ≡ plain_act (instr.Join (k + pieces_count r)) l false (behind_pieces b ns r false (behind_literal a t g w))
  behind_text a t r g L w i l k =
      ap (λ n. layout (pieces_piece (known b) r l n k (numbers ns)) L (behind_literal a t g w)) (sym (literal-act a t g w)) ∙ i l k L (behind_literal a t g w)

  -- several parts of a spec are joined, and the format stands behind them
  formatted : (laid behind : Written) (k n l : ℕ) (c : Option Conversion) → laid ≡ plain_act (instr.Join (1 + k)) l false behind → laid.act ≡ n
      → put_act (Plain (instr.Format (formatting_of c))) (act_of n l false) laid
      ≡ plain_act (instr.Format (formatting_of c)) l false (plain_act (instr.Join (suc k)) l false behind)
  formatted laid behind k n l c is acts =
      ap (λ m. put_act (Plain (instr.Format (formatting_of c))) (act_of m l false) laid) (sym acts)
      ∙ ap (λ u. plain_act (instr.Format (formatting_of c)) l false u) (is ∙ ap (λ m. plain_act (instr.Join m) l false behind) (one-more k))

  several_texts : (a : ℕ) (t : Name) (r : Pieces) (l : ℕ) (c : Option Conversion) (L : List Label) (w : Written) → PiecesAt r
      → put_act (Plain (instr.Format (formatting_of c))) (act_of (w.act + 1 + pieces_size r + 1) l false)
      (layout (pieces_piece (known b) r l (w.act + 1) 1 (numbers ns)) L (behind_literal a t false w))
      ≡ plain_act (instr.Format (formatting_of c)) l false
      (plain_act (instr.Join (suc (pieces_count r))) l false (behind_pieces b ns r false (behind_literal a t false w)))
  several_texts a t r l c L w i =
      let more : w.act + 1 + (pieces_size r + 1) ≡ w.act + 1 + pieces_size r + 1 = omega arith in
      formatted _ _ (pieces_count r) (w.act + 1 + pieces_size r + 1) l c (behind_text a t r false L w i l 1)
      ((pieces_has (known b) r l (w.act + 1) 1 (numbers ns)).acts L (behind_literal a t false w)
      ∙ ap (λ n. n + (pieces_size r + 1)) (literal-act a t false w) ∙ more)

  several_fields : (a : ℕ) (e : Exp) (d : Option Conversion) (sp r : Pieces) (l : ℕ) (c : Option Conversion) (L : List Label) (w : Written) → SpecAt sp
      → PiecesAt r → put_act (Plain (instr.Format (formatting_of c))) (act_of (w.act + (size e + pieces_size sp + joins sp + 1 + pieces_size r) + 1) l false)
      (layout (pieces_piece (known b) r l (w.act + size e + pieces_size sp + joins sp + 1) 1 (numbers ns)) L
      (layout (spec_piece (known b) sp a (w.act + size e) d (numbers ns)) L (known_exp e w.act false w)))
      ≡ plain_act (instr.Format (formatting_of c)) l false
      (plain_act (instr.Join (suc (pieces_count r))) l false (behind_pieces b ns r false (field a d sp (behind_exp b ns e false w))))
  several_fields a e d sp r l c L w h i =
      let from : ℕ = w.act + size e + pieces_size sp + joins sp + 1 in
      let more : from + (pieces_size r + 1) ≡ w.act + (size e + pieces_size sp + joins sp + 1 + pieces_size r) + 1 = omega arith in
      let spec : Written = layout (spec_piece (known b) sp a (w.act + size e) d (numbers ns)) L (known_exp e w.act false w) in
      formatted _ _ (pieces_count r) (w.act + (size e + pieces_size sp + joins sp + 1 + pieces_size r) + 1) l c (behind_field sp r a e d false L w h i l 1)
      ((pieces_has (known b) r l from 1 (numbers ns)).acts L spec
      ∙ ap (λ (u : Written). u.act + (pieces_size r + 1)) (field-laid sp a e d false L w h)
      ∙ ap (λ n. n + (pieces_size r + 1)) (field-acts sp a e d false w h) ∙ more)

  mutual
    unfolding behind_exp known_exp field

    pieces-behind : (ps : Pieces) → PiecesAt ps
    pieces-behind S.no_pieces l k L w = rw (add-zero k)
    pieces-behind (S.literal a t r) l k L w =
        let many : suc k + pieces_count r ≡ k + suc (pieces_count r) = omega arith in
        behind_text a t r false L w (pieces-behind r) l (suc k) ∙ rw many
    pieces-behind (S.field a e c sp r) l k L w =
        let many : suc k + pieces_count r ≡ k + suc (pieces_count r) = omega arith in
        behind_field sp r a e c false L w (spec-behind sp) (pieces-behind r) l (suc k) ∙ rw many

    spec-behind : (sp : Pieces) → SpecAt sp
    spec-behind S.no_pieces l c L w = acted (instr.Format (formatting_of c)) l w.act false (no_value w) (null-act w)
    spec-behind (S.literal a t S.no_pieces) l c L w =
        acted (instr.Format (formatting_of c)) l (w.act + 1) false (behind_literal a t false w) (literal-act a t false w)
    spec-behind (S.field a e d sp S.no_pieces) l c L w =
        ap (λ u. put_act (Plain (instr.Format (formatting_of c))) (act_of (w.act + size e + pieces_size sp + joins sp + 1) l false) u)
        (field-laid sp a e d false L w (spec-behind sp))
        ∙ ap (λ n. put_act (Plain (instr.Format (formatting_of c))) (act_of n l false) (field a d sp (behind_exp b ns e false w)))
        (sym (field-acts sp a e d false w (spec-behind sp)))
    spec-behind (S.literal a t (S.literal i u r)) l c L w = several_texts a t (S.literal i u r) l c L w (pieces-behind (S.literal i u r))
    spec-behind (S.literal a t (S.field i e d sp r)) l c L w = several_texts a t (S.field i e d sp r) l c L w (pieces-behind (S.field i e d sp r))
    spec-behind (S.field a e d sp (S.literal i u r)) l c L w =
        several_fields a e d sp (S.literal i u r) l c L w (spec-behind sp) (pieces-behind (S.literal i u r))
    spec-behind (S.field a e d sp (S.field i f o sq r)) l c L w =
        several_fields a e d sp (S.field i f o sq r) l c L w (spec-behind sp) (pieces-behind (S.field i f o sq r))

  pub joined-form : (l : ℕ) (ps : Pieces) (g : Bool) (w : Written)
      → behind_exp b ns (S.joined l ps) g w ≡ plain_act (instr.Join (pieces_count ps)) l (still g (pieces_count ps)) (behind_pieces b ns ps g w)
  unfolding behind_exp known_exp field
  joined-form l S.no_pieces g w = refl
  joined-form l (S.literal a t r) g w = behind_text a t r g [] w (pieces-behind r) l 1 ∙ rw (one-more (pieces_count r))
  joined-form l (S.field a e c sp r) g w = behind_field sp r a e c g [] w (spec-behind sp) (pieces-behind r) l 1 ∙ rw (one-more (pieces_count r))

  -- Comparisons.

  -- the beginning of a link, before its comparison
  compared : Written → Written
  compared w = put (Plain instr.Rot3) (put (Plain instr.Copy) (new_label (new_label w)))

  compared-act : (w : Written) → (compared w).act ≡ w.act
  unfolding compared
  compared-act w = put-act _ _ ∙ put-act _ _ ∙ new_label-act (new_label w) ∙ new_label-act w

  begun-laid : (o : CompareOp) (l : ℕ) (w : Written) → link_begun o l w
      ≡ put_act (To IfFalseKeep (ends_of w).dropping) (act_of (w.act + 1) l false) (put_act (Plain (instr.Compare o)) (act_of w.act l false) (compared w))
  unfolding compared
  begun-laid o l w =
      let there : Written = plain_act (instr.Compare o) l false (compared w) in
      let acts : there.act ≡ w.act + 1 = put_act-act (Plain (instr.Compare o)) (act_of (compared w).act l false) (compared w) ∙ ap (λ n. n + 1) (compared-act w) in
      sym (ap (λ u. put_act (To IfFalseKeep (ends_of w).dropping) (act_of (w.act + 1) l false) u) (acted (instr.Compare o) l w.act false (compared w) (compared-act w))
      ∙ ap (λ n. put_act (To IfFalseKeep (ends_of w).dropping) (act_of n l false) there) (sym acts))

  begun-act : (o : CompareOp) (l : ℕ) (w : Written) → (link_begun o l w).act ≡ w.act + 1 + 1
  unfolding compared
  begun-act o l w = put_act-act _ _ _ ∙ ap (λ n. n + 1) (put_act-act _ _ _ ∙ ap (λ n. n + 1) (compared-act w))

  links-behind : (ls : Links) (o : CompareOp) (l : ℕ) (w : Written) → layout (links_piece (known b) ls o l w.act (numbers ns)) [] w ≡ behind_links b ns ls o l w
  unfolding behind_exp compared
  links-behind S.no_links o l w = refl
  links-behind (S.link p e r) o l w =
      let begun : Written = link_begun o l w in
      let right : Written = behind_exp b ns e false begun in
      let ended : Written → Written = λ u. link_ended (ends_of w) u in
      ap (λ u. ended (layout (links_piece (known b) r p l (w.act + 1 + 1 + size e) (numbers ns)) [] (layout (exp_piece (known b) e (w.act + 1 + 1) false (numbers ns)) [] u)))
      (sym (begun-laid o l w))
      ∙ ap (λ n. ended (layout (links_piece (known b) r p l (n + size e) (numbers ns)) [] (layout (exp_piece (known b) e n false (numbers ns)) [] begun))) (sym (begun-act o l w))
      ∙ ap (λ n. ended (layout (links_piece (known b) r p l n (numbers ns)) [] right)) (sym (acts-exp e false begun))
      ∙ ap ended (links-behind r p l right)

  pub compare-form : (l : ℕ) (x : Exp) (o : CompareOp) (y : Exp) (ls : Links) (g : Bool) (w : Written)
      → behind_exp b ns (S.compare l x o y ls) g w ≡ behind_links b ns ls o l (behind_exp b ns y false (behind_exp b ns x g w))
  unfolding behind_exp known_exp
  compare-form l x o y ls g w =
      ap (λ u. layout (links_piece (known b) ls o l (w.act + size x + size y) (numbers ns)) [] u) (pair-laid x y g w)
      ∙ ap (λ n. layout (links_piece (known b) ls o l n (numbers ns)) [] (behind_exp b ns y false (behind_exp b ns x g w))) (sym (pair-acts x y g w))
      ∙ links-behind ls o l (behind_exp b ns y false (behind_exp b ns x g w))

  -- `and`, `or` and conditional expressions.

  ands-behind : (es : Exps) (end : Label) (l : ℕ) (w : Written)
      → layout (ands_piece (known b) es l w.act (numbers ns)) (end ∷ []) w ≡ behind_operands b ns IfFalseKeep es end l w
  unfolding behind_exp
  ands-behind S.no_exps end l w = refl
  ands-behind (S.more_exps e es) end l w =
      let jumped : Written = jump_act IfFalseKeep end l w in
      let there : Written = behind_exp b ns e false jumped in
      ap (λ n. layout (ands_piece (known b) es l (n + size e) (numbers ns)) (end ∷ []) (layout (exp_piece (known b) e n false (numbers ns)) [] jumped))
      (sym (put_act-act (To IfFalseKeep end) (act_of w.act l false) w))
      ∙ ap (λ n. layout (ands_piece (known b) es l n (numbers ns)) (end ∷ []) there) (sym (acts-exp e false jumped))
      ∙ ands-behind es end l there

  ors-behind : (es : Exps) (end : Label) (l : ℕ) (w : Written)
      → layout (ors_piece (known b) es l w.act (numbers ns)) (end ∷ []) w ≡ behind_operands b ns IfTrueKeep es end l w
  unfolding behind_exp
  ors-behind S.no_exps end l w = refl
  ors-behind (S.more_exps e es) end l w =
      let jumped : Written = jump_act IfTrueKeep end l w in
      let there : Written = behind_exp b ns e false jumped in
      ap (λ n. layout (ors_piece (known b) es l (n + size e) (numbers ns)) (end ∷ []) (layout (exp_piece (known b) e n false (numbers ns)) [] jumped))
      (sym (put_act-act (To IfTrueKeep end) (act_of w.act l false) w))
      ∙ ap (λ n. layout (ors_piece (known b) es l n (numbers ns)) (end ∷ []) there) (sym (acts-exp e false jumped))
      ∙ ors-behind es end l there

  -- an expression behind a new label
  pub labelled : (e : Exp) (g : Bool) (w : Written) → layout (exp_piece (known b) e w.act g (numbers ns)) [] (new_label w) ≡ behind_exp b ns e g (new_label w)
  unfolding behind_exp
  labelled e g w = ap (λ n. layout (exp_piece (known b) e n g (numbers ns)) [] (new_label w)) (sym (new_label-act w))

  labelled-act : (e : Exp) (g : Bool) (w : Written) → (behind_exp b ns e g (new_label w)).act ≡ w.act + size e
  labelled-act e g w = acts-exp e g (new_label w) ∙ ap (λ n. n + size e) (new_label-act w)

  pub and-form : (l : ℕ) (x : Exp) (es : Exps) (g : Bool) (w : Written) → behind_exp b ns (S.and l x es) g w
      ≡ bind (next_label w) (behind_operands b ns IfFalseKeep es (next_label w) l (behind_exp b ns x g (new_label w)))
  unfolding behind_exp
  and-form l x es g w =
      let end : Label = next_label w in
      ap (λ u. bind end (layout (ands_piece (known b) es l (w.act + size x) (numbers ns)) (end ∷ []) u)) (labelled x g w)
      ∙ ap (λ n. bind end (layout (ands_piece (known b) es l n (numbers ns)) (end ∷ []) (behind_exp b ns x g (new_label w)))) (sym (labelled-act x g w))
      ∙ ap (λ u. bind end u) (ands-behind es end l (behind_exp b ns x g (new_label w)))

  pub or-form : (l : ℕ) (x : Exp) (es : Exps) (g : Bool) (w : Written) → behind_exp b ns (S.or l x es) g w
      ≡ bind (next_label w) (behind_operands b ns IfTrueKeep es (next_label w) l (behind_exp b ns x g (new_label w)))
  unfolding behind_exp
  or-form l x es g w =
      let end : Label = next_label w in
      ap (λ u. bind end (layout (ors_piece (known b) es l (w.act + size x) (numbers ns)) (end ∷ []) u)) (labelled x g w)
      ∙ ap (λ n. bind end (layout (ors_piece (known b) es l n (numbers ns)) (end ∷ []) (behind_exp b ns x g (new_label w)))) (sym (labelled-act x g w))
      ∙ ap (λ u. bind end u) (ors-behind es end l (behind_exp b ns x g (new_label w)))

  pub conditional-form : (l : ℕ) (c x y : Exp) (g : Bool) (w : Written) → behind_exp b ns (S.conditional l c x y) g w
      ≡ bind (next_label w) (behind_exp b ns y false (bind (next_label (new_label w)) (put (To Always (next_label w))
      (behind_exp b ns x false (jump_act IfFalse (next_label (new_label w)) l (behind_exp b ns c g (new_label (new_label w))))))))
  unfolding behind_exp
  conditional-form l c x y g w =
      let labels : Written = new_label (new_label w) in
      let end : Label = next_label w in
      let other : Label = next_label (new_label w) in
      let test : Written = behind_exp b ns c g labels in
      let jumped : Written = jump_act IfFalse other l test in
      let body : Written = behind_exp b ns x false jumped in
      let bound : Written = bind other (put (To Always end) body) in
      let one : labels.act ≡ w.act = new_label-act (new_label w) ∙ new_label-act w in
      let two : test.act ≡ w.act + size c = acts-exp c g labels ∙ ap (λ n. n + size c) one in
      let three : jumped.act ≡ w.act + size c + 1 = put_act-act (To IfFalse other) (act_of test.act l false) test ∙ ap (λ n. n + 1) two in
      let four : bound.act ≡ w.act + size c + 1 + size x
      = bind-act other (put (To Always end) body) ∙ put-act (To Always end) body ∙ acts-exp x false jumped ∙ ap (λ n. n + size x) three in
      let is_one : layout (exp_piece (known b) c w.act g (numbers ns)) [] labels ≡ test = ap (λ n. layout (exp_piece (known b) c n g (numbers ns)) [] labels) (sym one) in
      let is_two : put_act (To IfFalse other) (act_of (w.act + size c) l false) (layout (exp_piece (known b) c w.act g (numbers ns)) [] labels) ≡ jumped
      = ap (λ u. put_act (To IfFalse other) (act_of (w.act + size c) l false) u) is_one ∙ ap (λ n. put_act (To IfFalse other) (act_of n l false) test) (sym two) in
      let body_at : (n : ℕ) → Written → Written = λ n u. bind other (put (To Always end) (layout (exp_piece (known b) x n false (numbers ns)) [] u)) in
      let rest_at : (n : ℕ) → Written → Written = λ n u. bind end (layout (exp_piece (known b) y n false (numbers ns)) [] u) in
      ap (λ u. rest_at (w.act + size c + 1 + size x) (body_at (w.act + size c + 1) u)) is_two
      ∙ ap (λ n. rest_at (w.act + size c + 1 + size x) (body_at n jumped)) (sym three)
      ∙ ap (λ n. rest_at n bound) (sym four)

  -- Calls.

  args-behind : (as' : Args) (rs : List Role) (l k : ℕ) (w : Written) → layout (args_piece (known b) as' (T.call rs) l w.act k (numbers ns)) [] w
      ≡ layout (act (call rs) (behind_args b ns as' l w).act l false) [] (behind_args b ns as' l w)
  unfolding behind_exp
  args-behind S.no_args rs l k w = refl
  args-behind (S.positional e r) rs l k w =
      ap (λ n. layout (args_piece (known b) r (T.call rs) l n (suc k) (numbers ns)) [] (behind_exp b ns e false w)) (sym (acts-exp e false w))
      ∙ args-behind r rs l (suc k) (behind_exp b ns e false w)
  args-behind (S.named x e r) rs l k w =
      ap (λ n. layout (args_piece (known b) r (T.call rs) l n (suc k) (numbers ns)) [] (behind_exp b ns e false w)) (sym (acts-exp e false w))
      ∙ args-behind r rs l (suc k) (behind_exp b ns e false w)
  args-behind (S.spread e r) rs l k w =
      let there : Written = plain_act instr.Spread l false (behind_exp b ns e false w) in
      ap (λ n. layout (args_piece (known b) r (T.call rs) l (n + 1) (suc k) (numbers ns)) []
      (put_act (Plain instr.Spread) (act_of n l false) (behind_exp b ns e false w))) (sym (acts-exp e false w))
      ∙ ap (λ n. layout (args_piece (known b) r (T.call rs) l n (suc k) (numbers ns)) [] there)
      (sym (put_act-act (Plain instr.Spread) (act_of (behind_exp b ns e false w).act l false) (behind_exp b ns e false w)))
      ∙ args-behind r rs l (suc k) there
  args-behind (S.spread_named e r) rs l k w =
      let there : Written = plain_act instr.SpreadMap l false (behind_exp b ns e false w) in
      ap (λ n. layout (args_piece (known b) r (T.call rs) l (n + 1) (suc k) (numbers ns)) []
      (put_act (Plain instr.SpreadMap) (act_of n l false) (behind_exp b ns e false w))) (sym (acts-exp e false w))
      ∙ ap (λ n. layout (args_piece (known b) r (T.call rs) l n (suc k) (numbers ns)) [] there)
      (sym (put_act-act (Plain instr.SpreadMap) (act_of (behind_exp b ns e false w).act l false) (behind_exp b ns e false w)))
      ∙ args-behind r rs l (suc k) there

  pub call-form : (l : ℕ) (f : Exp) (as' : Args) (g : Bool) (w : Written) → behind_exp b ns (S.call l f as') g w
      ≡ layout (act (call (roles (known b).spelled as')) (behind_args b ns as' l (behind_exp b ns f g w)).act l false) []
      (behind_args b ns as' l (behind_exp b ns f g w))
  unfolding behind_exp
  call-form l f as' g w =
      ap (λ n. layout (args_piece (known b) as' (T.call (roles (known b).spelled as')) l n 1 (numbers ns)) [] (behind_exp b ns f g w)) (sym (acts-exp f g w))
      ∙ args-behind as' (roles (known b).spelled as') l 1 (behind_exp b ns f g w)

  -- Functions and generators.

  formals-behind : (ps : Formals) (k : ℕ) (behind : (n k : ℕ) → Piece) (L : List Label) (w : Written) → layout (formals_piece (known b) ps w.act k (numbers ns) behind) L w
      ≡ layout (behind (behind_defaults b ns ps false w).act (k + defaults_count ps)) L (behind_defaults b ns ps false w)
  unfolding behind_exp
  formals-behind S.no_formals k behind L w = rw (add-zero k)
  formals-behind (S.formal a x t S.absent r) k behind L w = formals-behind r k behind L w
  formals-behind (S.formal a x t (S.given d) r) k behind L w =
      let many : suc k + defaults_count r ≡ k + suc (defaults_count r) = omega arith in
      ap (λ n. layout (formals_piece (known b) r n (suc k) (numbers ns) behind) L (behind_exp b ns d false w)) (sym (acts-exp d false w))
      ∙ formals-behind r (suc k) behind L (behind_exp b ns d false w) ∙ rw many

  still-false : (k : ℕ) → still false k ≡ false
  still-false zero = refl
  still-false (suc k) = refl

  module _ (op : Operation) (l : ℕ) (ks : Formals) where
    made : (n : ℕ) → (g : Bool) → (k : ℕ) → Piece
    made n g k = op_piece (known b) op l n g k

    last-behind : (ps : Formals) (g : Bool) (w : Written) → layout (first_piece (known b) ps w.act g (numbers ns) (made w.act g 0) (λ m k. made m false k)) [] w
        ≡ layout (made (behind_defaults b ns ps g w).act (still g (defaults_count ps)) (defaults_count ps)) [] (behind_defaults b ns ps g w)
    unfolding behind_exp
    last-behind S.no_formals g w = refl
    last-behind (S.formal a x t S.absent r) g w = last-behind r g w
    last-behind (S.formal a x t (S.given d) r) g w =
        ap (λ n. layout (formals_piece (known b) r n 1 (numbers ns) (λ m k. made m false k)) [] (behind_exp b ns d g w)) (sym (acts-exp d g w))
        ∙ formals-behind r 1 (λ m k. made m false k) [] (behind_exp b ns d g w) ∙ rw (one-more (defaults_count r))

    both-behind : (ps : Formals) (g : Bool) (w : Written)
        → layout (first_piece (known b) ps w.act g (numbers ns) (first_piece (known b) ks w.act g (numbers ns) (made w.act g 0) (λ m k. made m false k))
        (λ m k. formals_piece (known b) ks m k (numbers ns) (λ m k. made m false k))) [] w
        ≡ (let both = behind_defaults b ns ks (still g (defaults_count ps)) (behind_defaults b ns ps g w) in
        layout (made both.act (still (still g (defaults_count ps)) (defaults_count ks)) (defaults_count ps + defaults_count ks)) [] both)
    unfolding behind_exp
    both-behind S.no_formals g w =
        let none : 0 + defaults_count ks ≡ defaults_count ks = omega arith in
        last-behind ks g w ∙ rw none
    both-behind (S.formal a x t S.absent r) g w = both-behind r g w
    both-behind (S.formal a x t (S.given d) r) g w =
        let first : Written = behind_defaults b ns r false (behind_exp b ns d g w) in
        let rest : (n k : ℕ) → Piece = λ m k. formals_piece (known b) ks m k (numbers ns) (λ m k. made m false k) in
        ap (λ n. layout (formals_piece (known b) r n 1 (numbers ns) rest) [] (behind_exp b ns d g w)) (sym (acts-exp d g w))
        ∙ formals-behind r 1 rest [] (behind_exp b ns d g w)
        ∙ formals-behind ks (1 + defaults_count r) (λ m k. made m false k) [] first
        ∙ rw (one-more (defaults_count r), still-false (defaults_count ks))

  made-laid : (xs : List Variable) (op : Operation) (l n : ℕ) (g : Bool) (k : ℕ) (w : Written)
      → layout (made_piece (known b) xs op l n g k) [] w ≡ layout (act (operation op k) n l g) [] (layout (cells_piece xs) [] w)
  made-laid [] op l n g k w = refl
  made-laid (x ∷ xs) op l n g k w = made-laid xs op l n g k (layout (cells_piece (x ∷ [])) [] w)

  cells-act : (xs : List Variable) (w : Written) → (layout (cells_piece xs) [] w).act ≡ w.act
  cells-act [] w = refl
  cells-act (x ∷ xs) w = cells-act xs (layout (cells_piece (x ∷ [])) [] w) ∙ ((move_has (push_cell x)).acts [] w ∙ add-zero w.act)

  pub lambda-form : (l n : ℕ) (ps : Formals) (s : Option NamedParameter) (ks : Formals) (d : Option NamedParameter) (e : Exp) (g : Bool) (w : Written)
      → behind_exp b ns (S.lambda l n (S.parameters ps s ks d) e) g w
      ≡ (let both = behind_defaults b ns ks (still g (defaults_count ps)) (behind_defaults b ns ps g w) in
      let cells = layout (cells_piece ((known b).captured n)) [] both in
      layout (act (operation (T.function n (map (known b).spelled (defaulted ps ++ defaulted ks))) (defaults_count ps + defaults_count ks)) cells.act l
      (still (still g (defaults_count ps)) (defaults_count ks))) [] cells)
  unfolding behind_exp made
  lambda-form l n ps s ks d e g w =
      let both = behind_defaults b ns ks (still g (defaults_count ps)) (behind_defaults b ns ps g w) in
      both-behind (making (known b) n ps ks) l ks ps g w
      ∙ made-laid ((known b).captured n) (making (known b) n ps ks) l both.act (still (still g (defaults_count ps)) (defaults_count ks))
      (defaults_count ps + defaults_count ks) both
      ∙ ap (λ m. layout (act (operation (making (known b) n ps ks) (defaults_count ps + defaults_count ks)) m l (still (still g (defaults_count ps)) (defaults_count ks))) []
      (layout (cells_piece ((known b).captured n)) [] both)) (sym (cells-act ((known b).captured n) both))

  -- what was written of a function step by step
  pub function-written : (l n : ℕ) (ps : Formals) (s : Option NamedParameter) (ks : Formals) (d : Option NamedParameter) (g due last : Bool) (xs : List Name)
      (old first both cells : Written) (plain named count : ℕ) → plain ≡ defaults_count ps → first ≡ behind_defaults b ns ps g old → due ≡ still g plain
      → named ≡ defaults_count ks → both ≡ behind_defaults b ns ks due first → count ≡ plain + named → xs ≡ map (known b).spelled (defaulted ps ++ defaulted ks)
      → cells ≡ layout (cells_piece ((known b).captured n)) [] both → last ≡ still due named → (e : Exp)
      → layout (act (operation (T.function n xs) count) cells.act l last) [] cells ≡ behind_exp b ns (S.lambda l n (S.parameters ps s ks d) e) g old
  function-written l n ps s ks d g due last xs old first both cells plain named count is_plain is_first is_due is_named is_both is_count are is_cells is_last e =
      let made : (ys : List Name) → (k : ℕ) → Bool → Written → Written = λ ys k h x. layout (act (operation (T.function n ys) k) x.act l h) [] x in
      let ys : List Name = map (known b).spelled (defaulted ps ++ defaulted ks) in
      let one : Written = behind_defaults b ns ps g old in
      let dues : due ≡ still g (defaults_count ps) = is_due ∙ ap (λ k. still g k) is_plain in
      let two : both ≡ behind_defaults b ns ks (still g (defaults_count ps)) one
      = is_both ∙ ap (λ h. behind_defaults b ns ks h first) dues ∙ ap (λ u. behind_defaults b ns ks (still g (defaults_count ps)) u) is_first in
      let three : cells ≡ layout (cells_piece ((known b).captured n)) [] (behind_defaults b ns ks (still g (defaults_count ps)) one)
      = is_cells ∙ ap (λ u. layout (cells_piece ((known b).captured n)) [] u) two in
      let lasts : last ≡ still (still g (defaults_count ps)) (defaults_count ks) = is_last ∙ ap (λ h. still h named) dues ∙ ap (λ k. still (still g (defaults_count ps)) k) is_named in
      let all : count ≡ defaults_count ps + defaults_count ks = is_count ∙ ap (λ k. k + named) is_plain ∙ ap (λ k. defaults_count ps + k) is_named in
      ap (λ zs. made zs count last cells) are ∙ ap (λ k. made ys k last cells) all ∙ ap (λ h. made ys (defaults_count ps + defaults_count ks) h cells) lasts
      ∙ ap (λ u. made ys (defaults_count ps + defaults_count ks) (still (still g (defaults_count ps)) (defaults_count ks)) u) three
      ∙ sym (lambda-form l n ps s ks d e g old)

  pub generator-form : (l n : ℕ) (e : Exp) (c : ClauseOf) (cs : Clauses) (g : Bool) (w : Written) → behind_exp b ns (S.generator l n e c.line c.target c.iterable cs) g w
      ≡ plain_act (instr.MakeGenerator (record { 0 = n })) l false (layout (cells_piece ((known b).captured n)) [] (behind_iterator b ns c g w))
  unfolding behind_exp behind_iterator
  generator-form l n e c cs g w =
      let value : Written = behind_exp b ns c.iterable g w in
      let iterator : Written = plain_act instr.Iter c.line false value in
      let xs : List Variable = (known b).captured n in
      ap (λ m. layout (made_piece (known b) xs (T.generator n) l (m + 1) false 1) [] (put_act (Plain instr.Iter) (act_of m c.line false) value)) (sym (acts-exp c.iterable g w))
      ∙ ap (λ m. layout (made_piece (known b) xs (T.generator n) l m false 1) [] iterator) (sym (put_act-act (Plain instr.Iter) (act_of value.act c.line false) value))
      ∙ made-laid xs (T.generator n) l iterator.act false 1 iterator
      ∙ ap (λ m. put_act (Plain (instr.MakeGenerator (record { 0 = n }))) (act_of m l false) (layout (cells_piece xs) [] iterator)) (sym (cells-act xs iterator))

  -- Targets.

  targets-behind : (ts : Tgts) (w : Written) → layout (targets_piece (known b) ts w.act (numbers ns)) [] w ≡ behind_targets b ns ts w
  unfolding behind_target
  targets-behind S.no_targets w = refl
  targets-behind (S.more_targets t ts) w =
      ap (λ n. layout (targets_piece (known b) ts n (numbers ns)) [] (behind_target b ns t w)) (sym (acts-target t w)) ∙ targets-behind ts (behind_target b ns t w)

  pub several-form : (l : ℕ) (f : Form) (ts : Tgts) (w : Written) → behind_target b ns (S.several l f ts) w
      ≡ behind_targets b ns ts (layout (act (unpack_op (statements.count ts) (star_of ts)) w.act l false) [] w)
  unfolding behind_target
  several-form l f ts w =
      let unpacked : Written = layout (act (unpack_op (statements.count ts) (star_of ts)) w.act l false) [] w in
      ap (λ n. layout (targets_piece (known b) ts n (numbers ns)) [] unpacked)
      (sym ((act_has (unpack_op (statements.count ts) (star_of ts)) w.act l false).acts [] w))
      ∙ targets-behind ts unpacked

  pub starred-form : (l : ℕ) (t : Tgt) (w : Written) → behind_target b ns (S.starred l t) w ≡ behind_target b ns t w
  unfolding behind_target
  starred-form l t w = refl

  pub name_at-form : (l : ℕ) (x : Name) (w : Written)
      → behind_target b ns (S.single (S.name_at l x)) w ≡ layout (act (store ((known b).variable (numbers ns) x)) w.act l false) [] w
  unfolding behind_target
  name_at-form l x w = refl

  pub attribute_at-form : (l : ℕ) (e : Exp) (x : Name) (w : Written) → behind_target b ns (S.single (S.attribute_at l e x)) w
      ≡ layout (act (with_text instr.SetAttr ((known b).spelled x)) (behind_exp b ns e false w).act l false) [] (behind_exp b ns e false w)
  unfolding behind_target behind_exp
  attribute_at-form l e x w =
      ap (λ n. layout (act (with_text instr.SetAttr ((known b).spelled x)) n l false) [] (behind_exp b ns e false w)) (sym (acts-exp e false w))

  pub item_at-form : (l : ℕ) (a i : Exp) (w : Written) → behind_target b ns (S.single (S.item_at l a i)) w
      ≡ plain_act instr.SetItem l false (behind_exp b ns i false (behind_exp b ns a false w))
  unfolding behind_target behind_exp
  item_at-form l a i w = behind-pair instr.SetItem l a i false w

  -- What statements are told.

  pub exp-laid : (e : Exp) (g : Bool) (w : Written) → behind_exp b ns e g w ≡ layout (exp_piece (known b) e w.act g (numbers ns)) [] w
  unfolding behind_exp
  exp-laid e g w = refl

  pub target-laid : (t : Tgt) (w : Written) → behind_target b ns t w ≡ layout (target_piece (known b) t w.act (numbers ns)) [] w
  unfolding behind_target
  target-laid t w = refl
