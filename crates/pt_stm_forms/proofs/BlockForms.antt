-- What the writer has behind all of a block, given what it has behind its parts.
use Rattle.std.proofs.Common.{◌≡◌, ℕ, ◌+◌, Bool, List, [], ◌∷◌, true, false, refl, ap, sym, ◌∙◌, arith}
use Rattle.std.specs.Prelude.{cond}
use Rattle.pt_tree.specs.Syntax as S
use Rattle.pt_tree.specs.Syntax.{Exp, Stm, Stms, more}
use Rattle.pt_tree.specs.Blocks as B
use Rattle.pt_tree.specs.Blocks.{function_body, is_string}
use Rattle.pt_tree.specs.Fold.{ClauseOf, behind, clauses_of}
use Rattle.pt_tree.specs.Sizes.{size}
use Rattle.pt_instr.specs.declared.Instr.TheVariants as instr
use Rattle.sem_control.specs.control.Jump.{starts_on}
use Rattle.pt_block_names.specs.declared.block_names.BlockNames.{BlockNames}
use Rattle.pt_assembler.specs.declared.operation.Label.{Label}
use Rattle.pt_assembler.specs.declared.operation.Jump.TheVariants.{Always}
use Rattle.pt_assembler.specs.declared.operation.Operation.TheVariants.{Plain, To}
use Rattle.pt_assembler.specs.Piece.{Piece}
use Rattle.pt_assembler.specs.Layout.{Written, layout, put, put_act, act_of, put_start, new_label, next_label, bind}
use Rattle.pt_expr_forms.specs.Behind.{known, plain_act}
use Rattle.pt_expr_forms.specs.Loops.{behind_clauses, last_loop}
use Rattle.pt_expr_forms.specs.declared.comprehension.Innermost.{Innermost}
use Rattle.pt_expr_forms.proofs.Acts.{new_label-act}
use Rattle.pt_expr_forms.proofs.Forms.{acted}
use Rattle.pt_expr_forms.proofs.LoopForms.{turn-laid, clauses-laid}
use Rattle.pt_write_ops.specs.sem_compile.stm_pieces.Needed.{Behind, free, in_front}
use Rattle.pt_write_ops.specs.sem_compile.stm_pieces.StmPiece.{block_piece, yielded_piece}
use Rattle.pt_stm_forms.specs.Simple.{behind_value}
use Rattle.pt_stm_forms.specs.Compound.{behind_suite}
use Rattle.pt_stm_forms.specs.Blocks.{behind_code, returned_none, behind_statements, behind_lambda, behind_yielded, outermost, behind_outermost, behind_generator, is_docstring}
use Rattle.pt_stm_forms.proofs.SimpleForms.{plain-act, value-act, value-at, docstring-form}
use Rattle.pt_stm_forms.proofs.CompoundForms.{suite-at, suite-more, start-silent}

docstring-first : (t : Bool) (l : ℕ) (e : Exp) (ss : Stms) → t ≡ true → more (cond t (S.docstring l) (S.expr l e)) ss ≡ more (S.docstring l) ss
docstring-first t l e ss is = ap (λ c. more (cond c (S.docstring l) (S.expr l e)) ss) is

other-first : (t : Bool) (l : ℕ) (e : Exp) (ss : Stms) → t ≡ false → more (cond t (S.docstring l) (S.expr l e)) ss ≡ more (S.expr l e) ss
other-first t l e ss is = ap (λ c. more (cond c (S.docstring l) (S.expr l e)) ss) is

pub body-other : (st : Stm) (ss : Stms) → is_docstring st ≡ false → function_body (more st ss) ≡ more st ss
body-other (S.expr l e) ss is = other-first (is_string e) l e ss is
body-other (S.assign l ts e) ss is = refl
body-other (S.augmented l p o e) ss is = refl
body-other (S.annotated l p a v) ss is = refl
body-other (S.assert l c m) ss is = refl
body-other (S.pass l) ss is = refl
body-other (S.del l ts) ss is = refl
body-other (S.return l v) ss is = refl
body-other (S.raise l e c) ss is = refl
body-other (S.raise_again l) ss is = refl
body-other (S.break l) ss is = refl
body-other (S.continue l) ss is = refl
body-other (S.import l xs) ss is = refl
body-other (S.import_from l m xs) ss is = refl
body-other (S.global l xs) ss is = refl
body-other (S.nonlocal l xs) ss is = refl
body-other (S.choice l bs els) ss is = refl
body-other (S.while l c body els) ss is = refl
body-other (S.for l t it body els) ss is = refl
body-other (S.try l body hs els fin) ss is = refl
body-other (S.with l ws body) ss is = refl
body-other (S.def l ds k c y ps r body) ss is = refl
body-other (S.class l ds k c y base body) ss is = refl
body-other (S.docstring l) ss is = refl

body-docstring : (st : Stm) (ss : Stms) → is_docstring st ≡ true → function_body (more st ss) ≡ more (S.docstring (starts_on st)) ss
body-docstring (S.expr l e) ss is = docstring-first (is_string e) l e ss is
body-docstring (S.assign l ts e) ss is = absurd (cc)
body-docstring (S.augmented l p o e) ss is = absurd (cc)
body-docstring (S.annotated l p a v) ss is = absurd (cc)
body-docstring (S.assert l c m) ss is = absurd (cc)
body-docstring (S.pass l) ss is = absurd (cc)
body-docstring (S.del l ts) ss is = absurd (cc)
body-docstring (S.return l v) ss is = absurd (cc)
body-docstring (S.raise l e c) ss is = absurd (cc)
body-docstring (S.raise_again l) ss is = absurd (cc)
body-docstring (S.break l) ss is = absurd (cc)
body-docstring (S.continue l) ss is = absurd (cc)
body-docstring (S.import l xs) ss is = absurd (cc)
body-docstring (S.import_from l m xs) ss is = absurd (cc)
body-docstring (S.global l xs) ss is = absurd (cc)
body-docstring (S.nonlocal l xs) ss is = absurd (cc)
body-docstring (S.choice l bs els) ss is = absurd (cc)
body-docstring (S.while l c body els) ss is = absurd (cc)
body-docstring (S.for l t it body els) ss is = absurd (cc)
body-docstring (S.try l body hs els fin) ss is = absurd (cc)
body-docstring (S.with l ws body) ss is = absurd (cc)
body-docstring (S.def l ds k c y ps r body) ss is = absurd (cc)
body-docstring (S.class l ds k c y base body) ss is = absurd (cc)
body-docstring (S.docstring l) ss is = absurd (cc)

module _ (b : BlockNames) where
  -- a documentation string has a place alone
  pub docstring-body : (st : Stm) (ss : Stms) (q : Behind) (w : Written) → is_docstring st ≡ true
      → behind_suite b (function_body (more st ss)) q w ≡ behind_suite b ss q (put (Plain instr.Nop) (put_start (starts_on st) w))
  docstring-body st ss q w is =
      let l : ℕ = starts_on st in
      ap (λ us. behind_suite b us q w) (body-docstring st ss is) ∙ suite-more b (S.docstring l) ss q w
      ∙ ap (λ u. behind_suite b ss q u)
      (start-silent b (S.docstring l) (in_front ss q) w refl ∙ docstring-form b l (in_front ss q) (put (Plain instr.Nop) (put_start l w)))

  statements-laid : (ss : Stms) (w : Written) → w.act ≡ 0 → layout (block_piece (known b) ss) [] w ≡ behind_statements b ss w
  statements-laid ss w is = ap (λ u. returned_none u) (suite-at b ss free 0 w is)

  pub module-form : (ss : Stms) (w : Written) → w.act ≡ 0 → behind_code b (B.of_module ss) w ≡ behind_statements b ss w
  unfolding behind_code
  module-form ss w is = statements-laid ss w is

  pub class_body-form : (ss : Stms) (w : Written) → w.act ≡ 0 → behind_code b (B.of_class ss) w ≡ behind_statements b ss w
  unfolding behind_code
  class_body-form ss w is = statements-laid ss w is

  pub function-form : (ss : Stms) (w : Written) → w.act ≡ 0 → behind_code b (B.of_function ss) w ≡ behind_statements b (function_body ss) w
  unfolding behind_code
  function-form ss w is = statements-laid (function_body ss) w is

  pub lambda-form : (l : ℕ) (e : Exp) (w : Written) → w.act ≡ 0 → behind_code b (B.of_lambda l e) w ≡ behind_lambda b e l w
  unfolding behind_code
  lambda-form l e w is =
      let none : 0 + size e ≡ size e = omega arith in
      ap (λ u. put_act (Plain instr.Return) (act_of (size e) l false) u) (value-at b e 0 w is)
      ∙ acted instr.Return l (size e) false (behind_value b e w) (value-act b e w ∙ ap (λ n. n + size e) is ∙ none)

  yielded-laid : (l : ℕ) (e : Exp) (head : Label) (w : Written) → layout (yielded_piece (known b) l e w.act) (head ∷ []) w ≡ behind_yielded b e head l w
  yielded-laid l e head w =
      let value : Written = behind_value b e w in
      let sent : Written = plain_act instr.Yield l false value in
      let one : value.act ≡ w.act + size e = value-act b e w in
      let two : sent.act ≡ w.act + size e + 1 = plain-act instr.Yield l value ∙ ap (λ n. n + 1) one in
      let dropped : Written → Written = λ u. put (To Always head) (put_act (Plain instr.Pop) (act_of (w.act + size e + 1) l false) u) in
      ap (λ u. dropped (put_act (Plain instr.Yield) (act_of (w.act + size e) l false) u)) (value-at b e w.act w refl)
      ∙ ap dropped (acted instr.Yield l (w.act + size e) false value one)
      ∙ ap (λ u. put (To Always head) u) (acted instr.Pop l (w.act + size e + 1) false sent two)

  pub generator-form : (l : ℕ) (e : Exp) (c : ClauseOf) (cs : List ClauseOf) (w : Written) → w.act ≡ 0
      → behind_code b (B.of_generator l e c.line c.target (behind c cs)) w ≡ behind_generator b e c cs l w
  unfolding behind_code
  generator-form l e c cs w is =
      let end : Label = next_label w in
      let head : Label = next_label (new_label w) in
      let item : (n d : ℕ) → Piece = λ n d. yielded_piece (known b) l e n in
      let turned : Written = behind_outermost b c l w in
      let i : Innermost = last_loop b [] cs l (outermost head) turned in
      let there : Written = behind_clauses b [] cs l (outermost head) turned in
      let ended : Written → Written = λ u. returned_none (bind end u) in
      ap ended (turn-laid b [] c (clauses_of cs) item l 1 0 end [] (new_label w) (sym (new_label-act w ∙ is)))
      ∙ ap ended (clauses-laid b [] cs item l 1 head (end ∷ []) turned (λ n d h L u. refl))
      ∙ ap ended (yielded-laid l e i.head there)
