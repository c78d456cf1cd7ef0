-- What the writer has behind a comprehension, given what it has behind its clauses and its item.
use Rattle.std.proofs.Common.{◌≡◌, ℕ, ◌+◌, suc, List, [], ◌∷◌, ◌++◌, map, Bool, false, refl, ap, sym, ◌∙◌, add-zero}
use Rattle.pt_base.specs.declared.numbers.ActNo.{ActNo}
use Rattle.pt_tree.specs.Syntax as S
use Rattle.pt_tree.specs.Syntax.{Name, Exp, Made, Clauses}
use Rattle.pt_tree.specs.Fold.{ClauseOf, behind, conditions_of, clauses_of}
use Rattle.pt_tree.specs.Sizes.{size, target_size}
use Rattle.pt_instr.specs.declared.Instr.TheVariants as instr
use Rattle.sem_control.specs.control.Turn as T
use Rattle.sem_control.specs.control.Turn.{Variable}
use Rattle.sem_control.specs.control.Expressions.{built_as, target_names, clause_names}
use Rattle.pt_block_names.specs.declared.block_names.BlockNames.{BlockNames}
use Rattle.pt_assembler.specs.declared.operation.Label.{Label}
use Rattle.pt_assembler.specs.declared.operation.Jump.TheVariants.{AtEnd, Always, IfFalse}
use Rattle.pt_assembler.specs.declared.operation.Operation.TheVariants.{Plain, To}
use Rattle.pt_assembler.specs.Piece.{Piece, act, move, closed, plain, to, ◌▸◌}
use Rattle.pt_assembler.specs.Layout.{Written, layout, put, put_act, act_of, new_label, next_label, bind, operation_of, with_operand}
use Rattle.pt_write_ops.specs.sem_compile.emitter.Ops.{operation, renew}
use Rattle.pt_write_ops.specs.sem_compile.emitter.ExpPiece.{exp_piece, target_piece, clauses_piece, item_piece, renewed_piece}
use Rattle.pt_expr_forms.specs.declared.comprehension.Built.{Built}
use Rattle.pt_expr_forms.specs.declared.comprehension.Built.TheVariants as built
use Rattle.pt_expr_forms.specs.declared.comprehension.Innermost.{Innermost}
use Rattle.pt_expr_forms.specs.Behind.{known, numbers, jump_act, behind_exp, behind_target}
use Rattle.pt_expr_forms.specs.Loops.{whole, empty_instr, behind_renewal, behind_iterator, behind_conditions, behind_turn, last_loop, behind_clauses, behind_beginning, inner, with_new_names, begun, behind_begun, ended}
use Rattle.pt_expr_forms.proofs.Acts.{put-act, put_act-act, new_label-act, move_has}
use Rattle.pt_expr_forms.proofs.Forms.{acted, acts-exp, acts-target, pair-acts, pair-laid, labelled}

-- Names are made anew without a label.

renew-label : (x : Variable) (L : List Label) (w : Written) → operation_of (renew x) L w ≡ operation_of (renew x) [] w
renew-label x L w =
    elim x.scope as (λ s. operation_of (renew (record { scope = s; name = x.name })) L w ≡ operation_of (renew (record { scope = s; name = x.name })) [] w)
    [ T.local ↦ refl | T.cell ↦ refl | T.free ↦ refl | T.global ↦ refl | T.of_class ↦ refl ]

module _ (b : BlockNames) (ns : List ActNo) where
  pub renewal-laid : (xs : List Name) (L : List Label) (w : Written)
      → layout (renewed_piece (known b) (map ((known b).variable (numbers ns)) xs)) L w ≡ behind_renewal b ns xs w
  renewal-laid [] L w = refl
  renewal-laid (x ∷ xs) L w =
      let rest : Written → Written = λ u. layout (renewed_piece (known b) (map ((known b).variable (numbers ns)) xs)) L u in
      ap (λ o. rest (put o (with_operand (renew ((known b).variable (numbers ns) x)) w))) (renew-label ((known b).variable (numbers ns) x) L w)
      ∙ renewal-laid xs L (layout (move (renew ((known b).variable (numbers ns) x))) [] w)

  pub renewal-act : (xs : List Name) (w : Written) → (behind_renewal b ns xs w).act ≡ w.act
  renewal-act [] w = refl
  renewal-act (x ∷ xs) w =
      renewal-act xs (layout (move (renew ((known b).variable (numbers ns) x))) [] w)
      ∙ (move_has (renew ((known b).variable (numbers ns) x))).acts [] w ∙ add-zero w.act

  -- Clauses, over any item. One that goes only to where the next is taken stands alone.

  pub conditions-laid : (es : List Exp) (cs : Clauses) (item : (n d : ℕ) → Piece) (l d : ℕ) (h : Label) (L : List Label) (w : Written)
      → layout (clauses_piece (known b) (conditions_of es cs) l w.act d (numbers ns) item) (h ∷ L) w
      ≡ layout (clauses_piece (known b) cs l (behind_conditions b ns es h l w).act d (numbers ns) item) (h ∷ L)
      (behind_conditions b ns es h l w)
  unfolding behind_exp
  conditions-laid [] cs item l d h L w = refl
  conditions-laid (e ∷ es) cs item l d h L w =
      let test : Written = behind_exp b ns e false w in
      let jumped : Written = jump_act IfFalse h l test in
      let rest : (n : ℕ) → Written → Written
      = λ n u. layout (clauses_piece (known b) (conditions_of es cs) l n d (numbers ns) item) (h ∷ L) u in
      ap (λ n. rest (n + 1) (put_act (To IfFalse h) (act_of n l false) test)) (sym (acts-exp b ns e false w))
      ∙ ap (λ n. rest n jumped) (sym (put_act-act (To IfFalse h) (act_of test.act l false) test))
      ∙ conditions-laid es cs item l d h L jumped

  -- a turn, and what stands in it
  pub turn-laid : (c : ClauseOf) (cs : Clauses) (item : (n d : ℕ) → Piece) (l d n : ℕ) (end : Label) (L : List Label) (w : Written) → n ≡ w.act
      → layout (act (to AtEnd 1) n c.line false ▸ closed (target_piece (known b) c.target (n + 1) (numbers ns))
      ▸ clauses_piece (known b) (conditions_of c.conditions cs) l (n + 1 + target_size c.target) d (numbers ns) item)
      (next_label w ∷ end ∷ L) (new_label w)
      ≡ layout (clauses_piece (known b) cs l (behind_turn b ns c end l w).act d (numbers ns) item)
      (next_label w ∷ end ∷ L) (behind_turn b ns c end l w)
  unfolding behind_target behind_turn
  turn-laid c cs item l d n end L w at =
      let head : Label = next_label w in
      let jumped : Written = jump_act AtEnd end c.line (new_label w) in
      let bound : Written = behind_target b ns c.target jumped in
      let one : n ≡ (new_label w).act = at ∙ sym (new_label-act w) in
      let two : n + 1 ≡ jumped.act = ap (λ k. k + 1) one ∙ sym (put_act-act (To AtEnd end) (act_of (new_label w).act c.line false) (new_label w)) in
      let three : n + 1 + target_size c.target ≡ bound.act = ap (λ k. k + target_size c.target) two ∙ sym (acts-target b ns c.target jumped) in
      let rest : (n : ℕ) → Written → Written
      = λ n u. layout (clauses_piece (known b) (conditions_of c.conditions cs) l n d (numbers ns) item) (head ∷ end ∷ L) u in
      ap (λ k. rest (n + 1 + target_size c.target) (layout (target_piece (known b) c.target (n + 1) (numbers ns)) [] (put_act (To AtEnd end) (act_of k c.line false) (new_label w)))) one
      ∙ ap (λ k. rest (n + 1 + target_size c.target) (layout (target_piece (known b) c.target k (numbers ns)) [] jumped)) two
      ∙ ap (λ k. rest k bound) three
      ∙ conditions-laid c.conditions cs item l d head (end ∷ L) bound

  pub clauses-laid : (cs : List ClauseOf) (item : (n d : ℕ) → Piece) (l d : ℕ) (h : Label) (L : List Label) (w : Written)
      → ((n d : ℕ) (h : Label) (L : List Label) (w : Written) → layout (item n d) (h ∷ L) w ≡ layout (item n d) (h ∷ []) w)
      → layout (clauses_piece (known b) (clauses_of cs) l w.act d (numbers ns) item) (h ∷ L) w
      ≡ (let i = last_loop b ns cs l (record { head = h; loops = d }) w in
      let u = behind_clauses b ns cs l (record { head = h; loops = d }) w in
      layout (item u.act i.loops) (i.head ∷ []) u)
  unfolding behind_exp behind_iterator
  clauses-laid [] item l d h L w alone = alone w.act d h L w
  clauses-laid (c ∷ cs) item l d h L w alone =
      let value : Written = behind_exp b ns c.iterable false w in
      let over : Written = behind_iterator b ns c false w in
      let turned : (n : ℕ) → Written → Written = λ n u. layout (act (to AtEnd 1) n c.line false ▸ closed (target_piece (known b) c.target (n + 1) (numbers ns))
      ▸ clauses_piece (known b) (conditions_of c.conditions (clauses_of cs)) l (n + 1 + target_size c.target) (suc d) (numbers ns)
      item) (next_label u ∷ h ∷ L) (new_label u) in
      ap (λ n. turned (n + 1) (put_act (Plain instr.Iter) (act_of n c.line false) value)) (sym (acts-exp b ns c.iterable false w))
      ∙ turn-laid c (clauses_of cs) item l (suc d) (value.act + 1) h L over (sym (put_act-act (Plain instr.Iter) (act_of value.act c.line false) value))
      ∙ clauses-laid cs item l (suc d) (next_label over) (h ∷ L) (behind_turn b ns c h l over) alone

  item-label : (m : Made) (l n d : ℕ) (h : Label) (L : List Label) (w : Written)
      → layout (item_piece (known b) m l n d (numbers ns)) (h ∷ L) w ≡ layout (item_piece (known b) m l n d (numbers ns)) (h ∷ []) w
  item-label (S.a_list e) l n d h L w = refl
  item-label (S.a_set e) l n d h L w = refl
  item-label (S.a_dict k e) l n d h L w = refl

module _ (b : BlockNames) (ns : List ActNo) (k : Built) (l : ℕ) (c : ClauseOf) (cs : List ClauseOf) (g : Bool) (w : Written) where
  iterator-act : (behind_iterator b ns c g (new_label w)).act ≡ w.act + size c.iterable + 1
  unfolding behind_iterator
  iterator-act =
      put_act-act _ _ _ ∙ ap (λ n. n + 1) (acts-exp b ns c.iterable g (new_label w) ∙ ap (λ n. n + size c.iterable) (new_label-act w))

  iterator-laid : put_act (Plain instr.Iter) (act_of (w.act + size c.iterable) c.line false) (layout (exp_piece (known b) c.iterable w.act g (numbers ns)) [] (new_label w))
      ≡ behind_iterator b ns c g (new_label w)
  unfolding behind_iterator
  iterator-laid =
      ap (λ u. put_act (Plain instr.Iter) (act_of (w.act + size c.iterable) c.line false) u) (labelled b ns c.iterable g w)
      ∙ ap (λ n. put_act (Plain instr.Iter) (act_of n c.line false) (behind_exp b ns c.iterable g (new_label w)))
      (sym (acts-exp b ns c.iterable g (new_label w) ∙ ap (λ n. n + size c.iterable) (new_label-act w)))

  beginning-act : (behind_beginning b ns k l c g w).act ≡ w.act + size c.iterable + 1 + 1
  unfolding behind_beginning
  beginning-act = put-act _ _ ∙ put_act-act _ _ _ ∙ ap (λ n. n + 1) iterator-act

  names-act : (with_new_names b ns k l c cs g w).act ≡ (behind_beginning b ns k l c g w).act
  unfolding with_new_names
  names-act = renewal-act b (inner b ns k l c g w) (target_names c.target ++ clause_names (behind c cs)) (behind_beginning b ns k l c g w)

  -- a comprehension up to its item
  pub item-left : (m : Made) → operation (built_as m) 0 ≡ plain (empty_instr k) → behind_exp b ns (whole l m c cs) g w
      ≡ (let o = begun b ns k l c cs g w in
      let i = last_loop b o.within cs l (record { head = o.head; loops = 1 }) (behind_begun b ns k l c cs g w) in
      let u = behind_clauses b o.within cs l (record { head = o.head; loops = 1 }) (behind_begun b ns k l c cs g w) in
      bind o.end (layout (item_piece (known b) m l u.act i.loops (numbers o.within)) (i.head ∷ []) u))
  unfolding behind_exp behind_beginning with_new_names begun behind_begun
  item-left m is =
      let end : Label = next_label w in
      let over : Written = behind_iterator b ns c g (new_label w) in
      let beginning : Written = behind_beginning b ns k l c g w in
      let ms : List ActNo = inner b ns k l c g w in
      let anew : Written = with_new_names b ns k l c cs g w in
      let names : List Name = target_names c.target ++ clause_names (behind c cs) in
      let turn : (n : ℕ) → (v : List ℕ) → Written → Written
      = λ n v y. bind end (layout (act (to AtEnd 1) n c.line false ▸ closed (target_piece (known b) c.target (n + 1) v)
      ▸ clauses_piece (known b) (conditions_of c.conditions (clauses_of cs)) l (n + 1 + target_size c.target) 1 v
      (λ j d. item_piece (known b) m l j d v)) (next_label y ∷ end ∷ []) (new_label y)) in
      let rest : (n : ℕ) → Written → Written
      = λ n x. turn n (n ∷ numbers ns) (layout (renewed_piece (known b) (map ((known b).variable (n ∷ numbers ns)) names)) (end ∷ []) x) in
      let n : ℕ = w.act + size c.iterable + 1 + 1 in
      let built_of : (n : ℕ) → Written → Written = λ n u. put (Plain instr.Swap) (layout (act (operation (built_as m) 0) n l false) (end ∷ []) u) in
      ap (λ u. rest n (built_of (w.act + size c.iterable + 1) u)) iterator-laid
      ∙ ap (λ j. rest n (built_of j over)) (sym iterator-act)
      ∙ ap (λ o. rest n (put (Plain instr.Swap) (layout (act o over.act l false) (end ∷ []) over))) is
      ∙ ap (λ j. rest j beginning) (sym beginning-act)
      ∙ ap (λ u. turn beginning.act (numbers ms) u) (renewal-laid b ms names (end ∷ []) beginning)
      ∙ ap (λ u. bind end u) (turn-laid b ms c (clauses_of cs) (λ j d. item_piece (known b) m l j d (numbers ms)) l 1 beginning.act end [] anew (sym names-act)
      ∙ clauses-laid b ms cs (λ j d. item_piece (known b) m l j d (numbers ms)) l 1 (next_label anew) (end ∷ []) (behind_turn b ms c end l anew) (item-label b ms m l))

pub list-form : (b : BlockNames) (ns : List ActNo) (l : ℕ) (e : Exp) (c : ClauseOf) (cs : List ClauseOf) (g : Bool) (w : Written)
    → behind_exp b ns (S.comprehension l (S.a_list e) c.line c.target c.iterable (behind c cs)) g w
    ≡ (let o = begun b ns built.List l c cs g w in
    let t = behind_begun b ns built.List l c cs g w in
    ended built.List l (last_loop b o.within cs l (record { head = o.head; loops = 1 }) t) o.end
    (behind_exp b o.within e false (behind_clauses b o.within cs l (record { head = o.head; loops = 1 }) t)))
unfolding behind_exp ended
list-form b ns l e c cs g w =
    let o = begun b ns built.List l c cs g w in
    let t = behind_begun b ns built.List l c cs g w in
    let i : Innermost = last_loop b o.within cs l (record { head = o.head; loops = 1 }) t in
    let u : Written = behind_clauses b o.within cs l (record { head = o.head; loops = 1 }) t in
    item-left b ns built.List l c cs g w (S.a_list e) refl
    ∙ ap (λ v. bind o.end (put (To Always i.head) v))
    (acted (instr.ListAdd (suc i.loops)) l (u.act + size e) false (behind_exp b o.within e false u) (acts-exp b o.within e false u))

pub set-form : (b : BlockNames) (ns : List ActNo) (l : ℕ) (e : Exp) (c : ClauseOf) (cs : List ClauseOf) (g : Bool) (w : Written)
    → behind_exp b ns (S.comprehension l (S.a_set e) c.line c.target c.iterable (behind c cs)) g w
    ≡ (let o = begun b ns built.Set l c cs g w in
    let t = behind_begun b ns built.Set l c cs g w in
    ended built.Set l (last_loop b o.within cs l (record { head = o.head; loops = 1 }) t) o.end
    (behind_exp b o.within e false (behind_clauses b o.within cs l (record { head = o.head; loops = 1 }) t)))
unfolding behind_exp ended
set-form b ns l e c cs g w =
    let o = begun b ns built.Set l c cs g w in
    let t = behind_begun b ns built.Set l c cs g w in
    let i : Innermost = last_loop b o.within cs l (record { head = o.head; loops = 1 }) t in
    let u : Written = behind_clauses b o.within cs l (record { head = o.head; loops = 1 }) t in
    item-left b ns built.Set l c cs g w (S.a_set e) refl
    ∙ ap (λ v. bind o.end (put (To Always i.head) v))
    (acted (instr.SetAdd (suc i.loops)) l (u.act + size e) false (behind_exp b o.within e false u) (acts-exp b o.within e false u))

pub dict-made-form : (b : BlockNames) (ns : List ActNo) (l : ℕ) (x y : Exp) (c : ClauseOf) (cs : List ClauseOf) (g : Bool) (w : Written)
    → behind_exp b ns (S.comprehension l (S.a_dict x y) c.line c.target c.iterable (behind c cs)) g w
    ≡ (let o = begun b ns built.Dict l c cs g w in
    let t = behind_begun b ns built.Dict l c cs g w in
    ended built.Dict l (last_loop b o.within cs l (record { head = o.head; loops = 1 }) t) o.end
    (behind_exp b o.within y false (behind_exp b o.within x false (behind_clauses b o.within cs l (record { head = o.head; loops = 1 }) t))))
unfolding behind_exp ended
dict-made-form b ns l x y c cs g w =
    let o = begun b ns built.Dict l c cs g w in
    let t = behind_begun b ns built.Dict l c cs g w in
    let i : Innermost = last_loop b o.within cs l (record { head = o.head; loops = 1 }) t in
    let u : Written = behind_clauses b o.within cs l (record { head = o.head; loops = 1 }) t in
    let both : Written = behind_exp b o.within y false (behind_exp b o.within x false u) in
    item-left b ns built.Dict l c cs g w (S.a_dict x y) refl
    ∙ ap (λ v. bind o.end (put (To Always i.head) (put_act (Plain (instr.DictAdd (suc i.loops))) (act_of (u.act + size x + size y) l false) v))) (pair-laid b o.within x y false u)
    ∙ ap (λ v. bind o.end (put (To Always i.head) v)) (acted (instr.DictAdd (suc i.loops)) l (u.act + size x + size y) false both (pair-acts b o.within x y false u))
