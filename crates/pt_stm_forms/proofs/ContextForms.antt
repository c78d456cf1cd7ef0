-- What the writer has behind a `with`, given what it has behind its items and its body.
use Rattle.std.proofs.Common.{◌≡◌, ℕ, ◌+◌, List, [], ◌∷◌, false, Some, None, refl, ap, sym, ◌∙◌}
use Rattle.pt_tree.specs.Syntax as S
use Rattle.pt_tree.specs.Syntax.{Items, Stms}
use Rattle.pt_tree.specs.Sizes.{size, target_size, items_size, stms_size}
use Rattle.pt_instr.specs.declared.Instr.TheVariants as instr
use Rattle.pt_block_names.specs.declared.block_names.BlockNames.{BlockNames}
use Rattle.pt_assembler.specs.declared.operation.Place.{Place}
use Rattle.pt_assembler.specs.declared.operation.Operation.TheVariants.{Plain}
use Rattle.pt_assembler.specs.Piece.{Piece}
use Rattle.pt_assembler.specs.Layout.{Written, layout, at, put, put_act, act_of, placed, deeper_in}
use Rattle.pt_write_ops.specs.sem_compile.emitter.ExpPiece.{target_piece}
use Rattle.pt_expr_forms.specs.Behind.{known}
use Rattle.pt_expr_forms.proofs.Acts.{put-act}
use Rattle.pt_expr_forms.proofs.Forms.{acted}
use Rattle.pt_write_ops.specs.sem_compile.stm_pieces.Needed.{Behind, free}
use Rattle.pt_write_ops.specs.sem_compile.stm_pieces.StmPiece.{all_piece, items_piece}
use Rattle.pt_stm_forms.specs.declared.contexts.OpenContext.{OpenContext}
use Rattle.pt_stm_forms.specs.Simple.{behind_stm, behind_value}
use Rattle.pt_stm_forms.specs.Compound.{over_more, ensured_from, behind_entered, open_context, behind_item, behind_left, behind_all_left, behind_items}
use Rattle.pt_stm_forms.proofs.StatementActs.{placed-act, put_row-act, all_ends, items_ends}
use Rattle.pt_stm_forms.proofs.SimpleForms.{plain-act, value-act, value-at, target-act, target-at}
use Rattle.pt_stm_forms.proofs.CompoundForms.{suite-at}

pub placed-place : (p : Place) (w : Written) → (placed p w).place ≡ p
unfolding placed
placed-place p w = refl

-- over more slots
pub over-depth : (w : Written) → (over_more 1 w).place.depth ≡ w.place.depth + 1
over-depth w = ap (λ (p : Place). p.depth) (placed-place (deeper_in 1 w.place) w)

pub ensured-act : (f d : ℕ) (w : Written) → (ensured_from f d w).act ≡ w.act
ensured-act f d w = put_row-act _ _ ∙ put-act _ _

module _ (b : BlockNames) where
  -- an item whose inner part was written is left
  left-laid : (l n : ℕ) (entered inner : Written) → inner.act ≡ n
      → put (Plain instr.EndFinally) (put_act (Plain instr.Exit) (act_of n l false)
      (placed entered.place (ensured_from (at (over_more 1 entered)) (over_more 1 entered).place.depth inner)))
      ≡ behind_left (open_context l entered) inner
  unfolding behind_left
  left-laid l n entered inner is =
      let ensured : (d : ℕ) → Written = λ d. placed entered.place (ensured_from (at (over_more 1 entered)) d inner) in
      let acts : (ensured (entered.place.depth + 1)).act ≡ n = placed-act _ _ ∙ ensured-act _ _ inner ∙ is in
      ap (λ d. put (Plain instr.EndFinally) (put_act (Plain instr.Exit) (act_of n l false) (ensured d))) (over-depth entered)
      ∙ ap (λ u. put (Plain instr.EndFinally) u) (acted instr.Exit l n false (ensured (entered.place.depth + 1)) acts)

  module _ (body : Stms) where
    abbrev inner_piece : (n : ℕ) → Piece
    inner_piece n = all_piece (known b) body n free

    abbrev items_laid : Items → (n : ℕ) → Written → Written
    items_laid is n u = layout (items_piece (known b) is inner_piece (stms_size body) n) [] u

    items_laid-act : (is : Items) (w : Written) → (items_laid is w.act w).act ≡ w.act + items_size is (stms_size body)
    items_laid-act is w = (items_ends (known b) is inner_piece (stms_size body) w.act (λ m. all_ends (known b) body m free)).acts [] w refl

    -- behind the number of its target, the others and the body
    item-left : (r : Items) (cs : List OpenContext) (l n : ℕ) (entered taken : Written) → taken.act ≡ n
        → behind_all_left cs (put (Plain instr.EndFinally) (put_act (Plain instr.Exit) (act_of (n + items_size r (stms_size body)) l false)
        (placed entered.place (ensured_from (at (over_more 1 entered)) (over_more 1 entered).place.depth (items_laid r n taken)))))
        ≡ behind_all_left (open_context l entered ∷ cs) (items_laid r taken.act taken)
    item-left r cs l n entered taken is =
        let left : (m : ℕ) → Written → Written
        = λ m u. behind_all_left cs (put (Plain instr.EndFinally) (put_act (Plain instr.Exit) (act_of m l false)
        (placed entered.place (ensured_from (at (over_more 1 entered)) (over_more 1 entered).place.depth u)))) in
        ap (λ m. left (m + items_size r (stms_size body)) (items_laid r m taken)) (sym is)
        ∙ ap (λ u. behind_all_left cs u)
        (left-laid l (taken.act + items_size r (stms_size body)) entered (items_laid r taken.act taken) (items_laid-act r taken))

    items-laid : (is : Items) (cs : List OpenContext) (w : Written) → behind_all_left cs (items_laid is w.act w) ≡ behind_items b is body cs w
    items-laid S.no_items cs w = ap (λ u. behind_all_left cs u) (suite-at b body free w.act w refl)
    items-laid (S.with_item l e None r) cs w =
        let value : Written = behind_value b e w in
        let entered : Written = behind_entered b e l w in
        let taken : Written = behind_item b e None l w in
        let one : entered.act ≡ w.act + size e + 1 = plain-act instr.Enter l value ∙ ap (λ n. n + 1) (value-act b e w) in
        let two : taken.act ≡ w.act + size e + 1 = put-act _ _ ∙ placed-act _ _ ∙ one in
        let from : Written → Written
        = λ u. behind_all_left cs (put (Plain instr.EndFinally) (put_act (Plain instr.Exit) (act_of (w.act + size e + 1 + items_size r (stms_size body)) l false)
        (placed u.place (ensured_from (at (over_more 1 u)) (over_more 1 u).place.depth
        (items_laid r (w.act + size e + 1) (put (Plain instr.Pop) (over_more 1 u))))))) in
        ap (λ u. from (put_act (Plain instr.Enter) (act_of (w.act + size e) l false) u)) (value-at b e w.act w refl)
        ∙ ap from (acted instr.Enter l (w.act + size e) false value (value-act b e w))
        ∙ item-left r cs l (w.act + size e + 1) entered taken two ∙ items-laid r (open_context l entered ∷ cs) taken
    items-laid (S.with_item l e (Some t) r) cs w =
        let value : Written = behind_value b e w in
        let entered : Written = behind_entered b e l w in
        let deep : Written = over_more 1 entered in
        let taken : Written = behind_item b e (Some t) l w in
        let n : ℕ = w.act + size e + 1 + target_size t in
        let one : entered.act ≡ w.act + size e + 1 = plain-act instr.Enter l value ∙ ap (λ n. n + 1) (value-act b e w) in
        let two : deep.act ≡ w.act + size e + 1 = placed-act _ _ ∙ one in
        let three : taken.act ≡ n = target-act b t deep ∙ ap (λ n. n + target_size t) two in
        let left : Written → Written → Written
        = λ u v. behind_all_left cs (put (Plain instr.EndFinally) (put_act (Plain instr.Exit) (act_of (n + items_size r (stms_size body)) l false)
        (placed u.place (ensured_from (at (over_more 1 u)) (over_more 1 u).place.depth (items_laid r n v))))) in
        let from : Written → Written = λ u. left u (layout (target_piece (known b) t (w.act + size e + 1) []) [] (over_more 1 u)) in
        ap (λ u. from (put_act (Plain instr.Enter) (act_of (w.act + size e) l false) u)) (value-at b e w.act w refl)
        ∙ ap from (acted instr.Enter l (w.act + size e) false value (value-act b e w))
        ∙ ap (λ v. left entered v) (target-at b t (w.act + size e + 1) deep two)
        ∙ item-left r cs l n entered taken three ∙ items-laid r (open_context l entered ∷ cs) taken

  pub with-form : (l : ℕ) (is : Items) (body : Stms) (q : Behind) (w : Written) → behind_stm b (S.with l is body) q w ≡ behind_items b is body [] w
  unfolding behind_stm
  with-form l is body q w = items-laid body is [] w
