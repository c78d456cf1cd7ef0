-- What the writer has behind a `try`, given what it has behind its parts.
use Rattle.std.proofs.Common.{◌≡◌, ℕ, ◌+◌, List, [], ◌∷◌, false, Option, Some, None, refl, ap, sym, ◌∙◌, arith, add-zero}
use Rattle.pt_tree.specs.Syntax as S
use Rattle.pt_tree.specs.Syntax.{Name, Opt, Stms, Handlers, none, more}
use Rattle.pt_tree.specs.Sizes.{size, opt_size, stored_by, stms_size, handlers_size}
use Rattle.pt_instr.specs.declared.Instr.TheVariants as instr
use Rattle.sem_control.specs.control.Turn as T
use Rattle.sem_control.specs.control.Turn.{Variable}
use Rattle.sem_control.specs.control.Numbers.{handler_body}
use Rattle.pt_block_names.specs.declared.block_names.BlockNames.{BlockNames}
use Rattle.pt_assembler.specs.declared.operation.Label.{Label}
use Rattle.pt_assembler.specs.declared.operation.Jump.TheVariants.{Always, IfFalse}
use Rattle.pt_assembler.specs.declared.operation.Operation.TheVariants.{Plain, To}
use Rattle.pt_assembler.specs.Piece.{Piece, move, closed, numbered, ◌▸◌}
use Rattle.pt_assembler.specs.Layout.{Written, layout, at, put, put_act, act_of, new_label, next_label, bind, placed, numbered_from, operation_of, with_operand}
use Rattle.pt_write_ops.specs.sem_compile.emitter.Ops.{store}
use Rattle.pt_write_ops.specs.sem_compile.emitter.ExpPiece.{null_piece}
use Rattle.pt_expr_forms.specs.Behind.{known, plain_act, no_value, behind_opt}
use Rattle.pt_expr_forms.proofs.Acts.{put-act, new_label-act, bind-act, move_has}
use Rattle.pt_expr_forms.proofs.Forms.{acted, null-act}
use Rattle.pt_write_ops.specs.sem_compile.stm_pieces.Needed as needed
use Rattle.pt_write_ops.specs.sem_compile.stm_pieces.Needed.{Behind, free, in_front, is_needed, needed_if}
use Rattle.pt_write_ops.specs.sem_compile.stm_pieces.StmPiece.{delete, store_piece, guarded_piece, all_piece, handled_piece, handlers_piece}
use Rattle.pt_stm_forms.specs.Simple.{behind_stm, behind_store, behind_unbinding}
use Rattle.pt_stm_forms.specs.Compound.{over_more, ensured_from, behind_covered, behind_handled, behind_handler, behind_handlers, behind_body, row_caught, behind_caught, behind_guarded, behind_try}
use Rattle.pt_stm_forms.proofs.StatementActs.{placed-act, numbered-act}
use Rattle.pt_stm_forms.proofs.SimpleForms.{plain-act, value-act, value-at, store-act}
use Rattle.pt_stm_forms.proofs.CompoundForms.{suite-at, suite-act}
use Rattle.pt_stm_forms.proofs.ContextForms.{ensured-act}

-- A name is bound and unbound without a label.

store-label : (x : Variable) (L : List Label) (w : Written) → operation_of (store x) L w ≡ operation_of (store x) [] w
store-label x L w =
    elim x.scope as (λ s. operation_of (store (record { scope = s; name = x.name })) L w ≡ operation_of (store (record { scope = s; name = x.name })) [] w)
    [ T.local ↦ refl | T.cell ↦ refl | T.free ↦ refl | T.global ↦ refl | T.of_class ↦ refl ]

delete-label : (x : Variable) (L : List Label) (w : Written) → operation_of (delete x) L w ≡ operation_of (delete x) [] w
delete-label x L w =
    elim x.scope as (λ s. operation_of (delete (record { scope = s; name = x.name })) L w ≡ operation_of (delete (record { scope = s; name = x.name })) [] w)
    [ T.local ↦ refl | T.cell ↦ refl | T.free ↦ refl | T.global ↦ refl | T.of_class ↦ refl ]

numbered-same : (n : ℕ) (w : Written) → w.act ≡ n → numbered_from n w ≡ w
unfolding numbered_from
numbered-same n w is = ap (λ m. numbered_from m w) (sym is)

module _ (b : BlockNames) where
  -- Handlers.

  store-laid : (y : Name) (n l : ℕ) (L : List Label) (w : Written) → w.act ≡ n → layout (store_piece (known b) y n l) L w ≡ behind_store b y l w
  unfolding behind_store
  store-laid y n l L w is =
      let x : Variable = (known b).variable [] y in
      ap (λ o. put_act o (act_of n l false) (with_operand (store x) w)) (store-label x L w) ∙ ap (λ m. layout (store_piece (known b) y m l) [] w) (sym is)

  unbinding-laid : (y : Name) (L : List Label) (w : Written)
      → layout (null_piece ▸ move (store ((known b).variable [] y)) ▸ move (delete ((known b).variable [] y))) L w ≡ behind_unbinding b y w
  unfolding behind_unbinding
  unbinding-laid y L w =
      let x : Variable = (known b).variable [] y in
      let bound : Written = layout (move (store x)) [] (no_value w) in
      ap (λ o. layout (move (delete x)) L (put o (with_operand (store x) (no_value w)))) (store-label x L (no_value w))
      ∙ ap (λ o. put o (with_operand (delete x) bound)) (delete-label x L bound)

  unbinding-act : (y : Name) (w : Written) → (behind_unbinding b y w).act ≡ w.act
  unfolding behind_unbinding
  unbinding-act y w =
      (move_has _).acts [] _ ∙ add-zero _ ∙ (move_has _).acts [] _ ∙ add-zero _ ∙ null-act w

  handled-laid : (l n : ℕ) (y : Option Name) (body : Stms) (next end : Label) (L : List Label) (w : Written) → w.act ≡ n + 1
      → layout (handled_piece (known b) l n y (λ m. all_piece (known b) body m free)) (next ∷ end ∷ L) w
      ≡ put (To Always end) (put (Plain instr.EndHandler) (behind_handled b y body l w))
  handled-laid l n None body next end L w is =
      let there : Written = put (Plain instr.Pop) (put (Plain instr.Caught) w) in
      ap (λ u. put (To Always end) (put (Plain instr.EndHandler) (placed there.place u)))
      (suite-at b body free (n + 1) (over_more 1 there) (placed-act _ _ ∙ put-act _ _ ∙ put-act _ _ ∙ is))
  handled-laid l n (Some y) body next end L w is =
      let caught : Written = put (Plain instr.Caught) w in
      let bound : Written = behind_store b y l caught in
      let deep : Written = over_more 1 bound in
      let covered : Written = behind_covered b body bound in
      let one : caught.act ≡ n + 1 = put-act _ _ ∙ is in
      let two : deep.act ≡ n + 1 + 1 = placed-act _ _ ∙ store-act b y l caught ∙ ap (λ m. m + 1) one in
      let behind : Written → Written = λ u. put (To Always end) (put (Plain instr.EndHandler) (put (Plain instr.EndFinally) u)) in
      let unbound : Written → Written
      = λ u. behind (layout (null_piece ▸ move (store ((known b).variable [] y)) ▸ move (delete ((known b).variable [] y))) (next ∷ end ∷ L) u) in
      ap (λ u. unbound (placed u.place (ensured_from (at (over_more 1 u)) (over_more 1 u).place.depth
      (layout (all_piece (known b) body (n + 1 + 1) free) [] (over_more 1 u))))) (store-laid y (n + 1) l (next ∷ end ∷ L) caught one)
      ∙ ap (λ u. unbound (placed bound.place (ensured_from (at deep) deep.place.depth u))) (suite-at b body free (n + 1 + 1) deep two)
      ∙ ap behind (unbinding-laid y (next ∷ end ∷ L) covered)

  handled-act : (l : ℕ) (y : Option Name) (body : Stms) (w : Written) → (behind_handled b y body l w).act ≡ w.act + stored_by y + stms_size body
  handled-act l None body w =
      let there : Written = put (Plain instr.Pop) (put (Plain instr.Caught) w) in
      placed-act _ _ ∙ suite-act b body free (over_more 1 there)
      ∙ ap (λ m. m + stms_size body) (placed-act _ _ ∙ put-act _ _ ∙ put-act _ _ ∙ sym (add-zero w.act))
  handled-act l (Some y) body w =
      let bound : Written = behind_store b y l (put (Plain instr.Caught) w) in
      put-act _ _ ∙ unbinding-act y (behind_covered b body bound) ∙ placed-act _ _ ∙ ensured-act _ _ _ ∙ suite-act b body free (over_more 1 bound)
      ∙ ap (λ m. m + stms_size body) (placed-act _ _ ∙ store-act b y l (put (Plain instr.Caught) w) ∙ ap (λ m. m + 1) (put-act _ _))

  abbrev before_match : Opt → Written → Written
  before_match c w = behind_opt b [] c false (new_label w)

  before_match-act : (c : Opt) (w : Written) → (before_match c w).act ≡ w.act + opt_size c
  before_match-act S.absent w = null-act (new_label w) ∙ new_label-act w ∙ sym (add-zero w.act)
  before_match-act (S.given e) w = value-act b e (new_label w) ∙ ap (λ m. m + size e) (new_label-act w)

  -- from the Match on, which has this number
  match-laid : (l n : ℕ) (c : Opt) (y : Option Name) (body : Stms) (end : Label) (L : List Label) (w : Written) → (before_match c w).act ≡ n
      → bind (next_label w) (layout (handled_piece (known b) l n y (λ m. all_piece (known b) body m free)) (next_label w ∷ end ∷ L)
      (put (To IfFalse (next_label w)) (put_act (Plain instr.Match) (act_of n l false) (before_match c w)))) ≡ behind_handler b c y body end l w
  match-laid l n c y body end L w is =
      let next : Label = next_label w in
      let found : Written = plain_act instr.Match l false (before_match c w) in
      let acts : found.act ≡ n + 1 = plain-act instr.Match l (before_match c w) ∙ ap (λ m. m + 1) is in
      let rest : Written → Written
      = λ u. bind next (layout (handled_piece (known b) l n y (λ m. all_piece (known b) body m free)) (next ∷ end ∷ L) (put (To IfFalse next) u)) in
      ap rest (acted instr.Match l n false (before_match c w) is)
      ∙ ap (λ u. bind next u) (handled-laid l n y body next end L (put (To IfFalse next) found) (put-act _ _ ∙ acts))

  handler-act : (l : ℕ) (c : Opt) (y : Option Name) (body : Stms) (end : Label) (w : Written)
      → (behind_handler b c y body end l w).act ≡ w.act + opt_size c + 1 + stored_by y + stms_size body
  handler-act l c y body end w =
      let found : Written = plain_act instr.Match l false (before_match c w) in
      bind-act _ _ ∙ put-act _ _ ∙ put-act _ _ ∙ handled-act l y body (put (To IfFalse (next_label w)) found)
      ∙ ap (λ m. m + stored_by y + stms_size body)
      (put-act _ _ ∙ plain-act instr.Match l (before_match c w) ∙ ap (λ m. m + 1) (before_match-act c w))

  absent-at : (n : ℕ) (y : Option Name) (k : ℕ) → n + 0 + 1 + stored_by y + k ≡ handler_body n y + k
  absent-at n None k = omega arith
  absent-at n (Some y) k = omega arith

  given-at : (n m : ℕ) (y : Option Name) (k : ℕ) → n + m + 1 + stored_by y + k ≡ handler_body (n + m) y + k
  given-at n m None k = omega arith
  given-at n m (Some y) k = omega arith

  handlers-laid : (hs : Handlers) (end : Label) (L : List Label) (w : Written) → layout (handlers_piece (known b) hs w.act) (end ∷ L) w ≡ behind_handlers b hs end w
  handlers-laid S.no_handlers end L w = refl
  handlers-laid (S.handler l S.absent y body r) end L w =
      let there : Written = behind_handler b S.absent y body end l w in
      let rest : (m : ℕ) → Written → Written = λ m u. layout (handlers_piece (known b) r m) (end ∷ L) u in
      ap (λ u. rest (handler_body w.act y + stms_size body) u) (match-laid l w.act S.absent y body end L w (null-act (new_label w) ∙ new_label-act w))
      ∙ ap (λ m. rest m there) (sym (handler-act l S.absent y body end w ∙ absent-at w.act y (stms_size body)))
      ∙ handlers-laid r end L there
  handlers-laid (S.handler l (S.given c) y body r) end L w =
      let n : ℕ = w.act + size c in
      let there : Written = behind_handler b (S.given c) y body end l w in
      let rest : (m : ℕ) → Written → Written = λ m u. layout (handlers_piece (known b) r m) (end ∷ L) u in
      let found : Written → Written
      = λ u. bind (next_label w) (layout (handled_piece (known b) l n y (λ m. all_piece (known b) body m free)) (next_label w ∷ end ∷ L)
      (put (To IfFalse (next_label w)) (put_act (Plain instr.Match) (act_of n l false) u))) in
      ap (λ u. rest (handler_body n y + stms_size body) (found u)) (value-at b c w.act (new_label w) (new_label-act w))
      ∙ ap (λ u. rest (handler_body n y + stms_size body) u) (match-laid l n (S.given c) y body end L w (before_match-act (S.given c) w))
      ∙ ap (λ m. rest m there) (sym (handler-act l (S.given c) y body end w ∙ given-at w.act (size c) y (stms_size body)))
      ∙ handlers-laid r end L there

  -- The body, the `else` part and the handlers.

  abbrev else_at : (body : Stms) → Handlers → (n : ℕ) → ℕ
  else_at body hs n = n + stms_size body + handlers_size hs

  abbrev guarded_at : (body : Stms) → Handlers → (els : Stms) → Behind → (n : ℕ) → Piece
  guarded_at body hs els q n = guarded_piece hs (closed (all_piece (known b) body n (in_front els q)))
      (numbered (else_at body hs n) (closed (all_piece (known b) els (else_at body hs n) q)))
      (numbered (n + stms_size body) (handlers_piece (known b) hs (n + stms_size body)))

  body-act : (body els : Stms) (q : Behind) (n : ℕ) (w : Written) → w.act ≡ n → (behind_body b body els q w).act ≡ n + stms_size body
  body-act body els q n w is = suite-act b body (in_front els q) w ∙ ap (λ m. m + stms_size body) is

  caught-laid : (body els : Stms) (q : Behind) (k : ℕ) (end : Label) (n : ℕ) (w : Written) → w.act ≡ n
      → numbered_from (n + stms_size body) (let tried = layout (all_piece (known b) body n (in_front els q)) [] w in
      row_caught (at w) (at tried) w.place.depth (put (To Always end)
      (layout (all_piece (known b) els (n + stms_size body + k) q) [] (numbered_from (n + stms_size body + k) tried))))
      ≡ behind_caught b body els q k end w
  unfolding behind_caught
  caught-laid body els q k end n w is =
      let tried : Written = behind_body b body els q w in
      let acts : tried.act ≡ n + stms_size body = body-act body els q n w is in
      let row : Written → Written → Written = λ u v. row_caught (at w) (at u) w.place.depth (put (To Always end) v) in
      ap (λ u. numbered_from (n + stms_size body)
      (row u (layout (all_piece (known b) els (n + stms_size body + k) q) [] (numbered_from (n + stms_size body + k) u))))
      (suite-at b body (in_front els q) n w is)
      ∙ ap (λ m. numbered_from m (row tried (layout (all_piece (known b) els (m + k) q) [] (numbered_from (m + k) tried)))) (sym acts)
      ∙ ap (λ v. numbered_from tried.act (row tried v)) (suite-at b els q (tried.act + k) (numbered_from (tried.act + k) tried) (numbered-act _ _))

  caught-act : (body els : Stms) (q : Behind) (k : ℕ) (end : Label) (w : Written) → (behind_caught b body els q k end w).act ≡ w.act + stms_size body
  unfolding behind_caught
  caught-act body els q k end w = numbered-act _ _ ∙ body-act body els q w.act w refl

  guarded-laid : (hs : Handlers) (body els : Stms) (q : Behind) (w : Written) → layout (guarded_at body hs els q w.act) [] w ≡ behind_guarded b body hs els q w
  guarded-laid S.no_handlers body els q w =
      let tried : Written = behind_body b body els q w in
      let acts : tried.act ≡ w.act + stms_size body + 0 = body-act body els q w.act w refl ∙ sym (add-zero _) in
      ap (λ u. layout (all_piece (known b) els (w.act + stms_size body + 0) q) [] (numbered_from (w.act + stms_size body + 0) u))
      (suite-at b body (in_front els q) w.act w refl)
      ∙ ap (λ u. layout (all_piece (known b) els (w.act + stms_size body + 0) q) [] u) (numbered-same (w.act + stms_size body + 0) tried acts)
      ∙ suite-at b els q (w.act + stms_size body + 0) tried acts
  guarded-laid (S.handler l c y hbody r) body els q w =
      let hs : Handlers = S.handler l c y hbody r in
      let end : Label = next_label w in
      let there : Written = behind_caught b body els q (handlers_size hs) end (new_label w) in
      let acts : there.act ≡ w.act + stms_size body = caught-act body els q (handlers_size hs) end (new_label w) ∙ ap (λ m. m + stms_size body) (new_label-act w) in
      ap (λ u. bind end (layout (handlers_piece (known b) hs (w.act + stms_size body)) (end ∷ []) u))
      (caught-laid body els q (handlers_size hs) end w.act (new_label w) (new_label-act w))
      ∙ ap (λ m. bind end (layout (handlers_piece (known b) hs m) (end ∷ []) there)) (sym acts)
      ∙ ap (λ u. bind end u) (handlers-laid hs end [] there)

  -- All of it; the number behind the handlers and the `else` part is that of the `finally` part.

  abbrev finally_at : (body : Stms) → Handlers → (els : Stms) → (n : ℕ) → ℕ
  finally_at body hs els n = else_at body hs n + stms_size els

  pub try-form : (l : ℕ) (body : Stms) (hs : Handlers) (els fin : Stms) (q : Behind) (w : Written) → behind_stm b (S.try l body hs els fin) q w
      ≡ behind_try b body hs els fin q (plain_act instr.Nop l false w)
  unfolding behind_stm
  try-form l body hs els none q w =
      let u : Written = plain_act instr.Nop l false w in
      let k : Behind = needed.behind_tried hs none q in
      ap (λ m. numbered_from (finally_at body hs els m) (layout (guarded_at body hs els k m) [] u)) (sym (plain-act instr.Nop l w))
      ∙ ap (λ v. numbered_from (finally_at body hs els u.act) v) (guarded-laid hs body els k u)
  try-form l body hs els (more st ss) q w =
      let u : Written = plain_act instr.Nop l false w in
      let k : Behind = needed.behind_tried hs (more st ss) q in
      let fin : Stms = more st ss in
      let final : (m : ℕ) → Written → Written
      = λ m v. put (Plain instr.EndFinally) (placed v.place (layout (all_piece (known b) fin m (needed_if (is_needed q))) [] (numbered_from m (over_more 1 v)))) in
      let guarded : Written = ensured_from (at u) u.place.depth (behind_guarded b body hs els k u) in
      ap (λ m. final (finally_at body hs els m) (ensured_from (at u) u.place.depth (layout (guarded_at body hs els k m) [] u))) (sym (plain-act instr.Nop l w))
      ∙ ap (λ v. final (finally_at body hs els u.act) (ensured_from (at u) u.place.depth v)) (guarded-laid hs body els k u)
      ∙ ap (λ v. put (Plain instr.EndFinally) (placed guarded.place v))
      (suite-at b fin (needed_if (is_needed q)) (finally_at body hs els u.act) (numbered_from (finally_at body hs els u.act) (over_more 1 guarded)) (numbered-act _ _))
