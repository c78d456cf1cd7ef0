-- Code does not depend on the value None that control is given.
use Rattle.std.proofs.Common.{◌≡◌, ℕ, ◌+◌, suc, List, [], ◌∷◌, ◌++◌, map, Bool, false, Option, refl, ap, ◌∙◌}
use Rattle.pt_base.specs.declared.operators.CompareOp.{CompareOp}
use Rattle.pt_tree.specs.declared.expression.Conversion.{Conversion}
use Rattle.pt_tree.specs.Syntax as S
use Rattle.pt_tree.specs.Syntax.{Exp, Exps, Opt, Pieces, Entries, Links, Args, Made, Clauses, Place, Tgt, Tgts, Formals}
use Rattle.pt_tree.specs.Sizes.{size, pieces_size, joins, target_size}
use Rattle.sem_control.specs.control.Turn as T
use Rattle.sem_control.specs.control.Turn.{Variable, Operation}
use Rattle.sem_control.specs.control.Expressions.{cells_of, making, roles, target_names, clause_names}
use Rattle.pt_block_names.specs.declared.block_names.BlockNames.{BlockNames}
use Rattle.pt_block_names.specs.Named.{around}
use Rattle.pt_assembler.specs.Piece.{Piece, move, ◌▸◌}
use Rattle.pt_write_ops.specs.sem_compile.emitter.Ops.{push_cell, renew}
use Rattle.pt_write_ops.specs.sem_compile.emitter.ExpPiece.{made_piece, op_piece, renewed_piece, exp_piece, part_piece, exps_piece, entries_piece, args_piece, pieces_piece, spec_piece, links_piece, ands_piece, ors_piece, formals_piece, first_piece, clauses_piece, item_piece, target_piece, targets_piece, place_piece}
use Rattle.pt_expr_forms.specs.Behind.{known}

module _ {V : Type 0} (null : V) (b : BlockNames) where
  same-made : (xs : List Variable) (op : Operation) (l n : ℕ) (g : Bool) (k : ℕ) → made_piece (around null b) xs op l n g k ≡ made_piece (known b) xs op l n g k
  same-made [] op l n g k = refl
  same-made (x ∷ xs) op l n g k = ap (λ p. move (push_cell x) ▸ p) (same-made xs op l n g k)

  same-cells : (op : Operation) → cells_of (around null b) op ≡ cells_of (known b) op
  same-cells (T.function a xs) = refl
  same-cells (T.class a) = refl
  same-cells (T.generator a) = refl
  same-cells op = refl

  same-op : (op : Operation) (l n : ℕ) (g : Bool) (k : ℕ) → op_piece (around null b) op l n g k ≡ op_piece (known b) op l n g k
  same-op op l n g k = ap (λ xs. made_piece (around null b) xs op l n g k) (same-cells op) ∙ same-made (cells_of (known b) op) op l n g k

  same-renewed : (xs : List Variable) → renewed_piece (around null b) xs ≡ renewed_piece (known b) xs
  same-renewed [] = refl
  same-renewed (x ∷ xs) = ap (λ p. move (renew x) ▸ p) (same-renewed xs)

  mutual
    pub same-exp : (e : Exp) (n : ℕ) (g : Bool) (v : List ℕ) → exp_piece (around null b) e n g v ≡ exp_piece (known b) e n g v
    same-exp (S.constant l k) n g v = refl
    same-exp (S.name l x) n g v = refl
    same-exp (S.joined l S.no_pieces) n g v = refl
    same-exp (S.joined l (S.literal k t r)) n g v = rw (same-pieces r l (n + 1) 1 v)
    same-exp (S.joined l (S.field k e c sp r)) n g v =
        rw (same-exp e n g v, same-spec sp k (n + size e) c v, same-pieces r l (n + size e + pieces_size sp + joins sp + 1) 1 v)
    same-exp (S.tuple l S.no_exps) n g v = refl
    same-exp (S.tuple l (S.more_exps e es)) n g v = rw (same-exp e n g v, same-exps es T.tuple l (n + size e) 1 v)
    same-exp (S.list l S.no_exps) n g v = refl
    same-exp (S.list l (S.more_exps e es)) n g v = rw (same-exp e n g v, same-exps es T.list l (n + size e) 1 v)
    same-exp (S.set l S.no_exps) n g v = refl
    same-exp (S.set l (S.more_exps e es)) n g v = rw (same-exp e n g v, same-exps es T.set l (n + size e) 1 v)
    same-exp (S.dict l S.no_entries) n g v = refl
    same-exp (S.dict l (S.entry x y r)) n g v =
        rw (same-exp x n g v, same-exp y (n + size x) false v, same-entries r l (n + size x + size y) 1 v)
    same-exp (S.attribute l x y) n g v = rw (same-exp x n g v)
    same-exp (S.item l x i) n g v = rw (same-exp x n g v, same-exp i (n + size x) false v)
    same-exp (S.slice l S.absent S.absent S.absent) n g v = refl
    same-exp (S.slice l S.absent S.absent (S.given z)) n g v = rw (same-exp z n g v)
    same-exp (S.slice l S.absent (S.given y) z) n g v = rw (same-exp y n g v, same-part z (n + size y) v (λ m. op_piece (around null b) T.slice l m false 3) (λ m. op_piece (known b) T.slice l m false 3) (λ m. refl))
    same-exp (S.slice l (S.given x) y z) n g v =
        let f : ℕ → Piece = λ m. op_piece (around null b) T.slice l m false 3 in
        let h : ℕ → Piece = λ m. op_piece (known b) T.slice l m false 3 in
        rw (
          same-exp x n g v,
          same-part y (n + size x) v (λ m. part_piece (around null b) z m v f) (λ m. part_piece (known b) z m v h)
              (λ m. same-part z m v f h (λ k. refl)),
        )
    same-exp (S.unary l o x) n g v = rw (same-exp x n g v)
    same-exp (S.not_of l x) n g v = rw (same-exp x n g v)
    same-exp (S.binary l o x y) n g v = rw (same-exp x n g v, same-exp y (n + size x) false v)
    same-exp (S.compare l x o y r) n g v = rw (same-exp x n g v, same-exp y (n + size x) false v, same-links r o l (n + size x + size y) v)
    same-exp (S.and l x es) n g v = rw (same-exp x n g v, same-ands es l (n + size x) v)
    same-exp (S.or l x es) n g v = rw (same-exp x n g v, same-ors es l (n + size x) v)
    same-exp (S.conditional l c x y) n g v =
        rw (same-exp c n g v, same-exp x (n + size c + 1) false v, same-exp y (n + size c + 1 + size x) false v)
    same-exp (S.call l f as') n g v = rw (same-exp f n g v, same-args as' (T.call (roles (known b).spelled as')) l (n + size f) 1 v)
    same-exp (S.lambda l a (S.parameters ps s ks d) e) n g v = same-first ps n g v _ _ _ _
        (same-first ks n g v _ _ _ _ (same-op (making (known b) a ps ks) l n g 0) (λ m k. same-op (making (known b) a ps ks) l m false k))
        (λ m k. same-formals ks m k v _ _ (λ i j. same-op (making (known b) a ps ks) l i false j))
    same-exp (S.comprehension l m k t it cs) n g v =
        rw (
          same-exp it n g v,
          same-renewed (map ((known b).variable ((n + size it + 1 + 1) ∷ v)) (target_names t ++ clause_names cs)),
          same-target t (n + size it + 1 + 1 + 1) ((n + size it + 1 + 1) ∷ v),
          same-clauses cs l (n + size it + 1 + 1 + 1 + target_size t) 1 ((n + size it + 1 + 1) ∷ v)
              (λ j d. item_piece (around null b) m l j d ((n + size it + 1 + 1) ∷ v)) (λ j d. item_piece (known b) m l j d ((n + size it + 1 + 1) ∷ v))
              (λ j d. same-item m l j d ((n + size it + 1 + 1) ∷ v)),
        )
    same-exp (S.generator l a e k t it cs) n g v =
        rw (same-exp it n g v, same-made ((known b).captured a) (T.generator a) l (n + size it + 1) false 1)
    same-exp (S.yield l S.absent) n g v = refl
    same-exp (S.yield l (S.given e)) n g v = rw (same-exp e n g v)
    same-exp (S.yield_from l e) n g v = rw (same-exp e n g v)

    same-part : (o : Opt) (n : ℕ) (v : List ℕ) (f h : ℕ → Piece) → ((m : ℕ) → f m ≡ h m) → part_piece (around null b) o n v f ≡ part_piece (known b) o n v h
    same-part S.absent n v f h is = rw (is n)
    same-part (S.given e) n v f h is = rw (same-exp e n false v, is (n + size e))

    same-exps : (es : Exps) (op : Operation) (l n k : ℕ) (v : List ℕ) → exps_piece (around null b) es op l n k v ≡ exps_piece (known b) es op l n k v
    same-exps S.no_exps op l n k v = same-op op l n false k
    same-exps (S.more_exps e es) op l n k v = rw (same-exp e n false v, same-exps es op l (n + size e) (suc k) v)

    same-entries : (es : Entries) (l n k : ℕ) (v : List ℕ) → entries_piece (around null b) es l n k v ≡ entries_piece (known b) es l n k v
    same-entries S.no_entries l n k v = refl
    same-entries (S.entry x y r) l n k v =
        rw (same-exp x n false v, same-exp y (n + size x) false v, same-entries r l (n + size x + size y) (suc k) v)

    same-args : (as' : Args) (op : Operation) (l n k : ℕ) (v : List ℕ) → args_piece (around null b) as' op l n k v ≡ args_piece (known b) as' op l n k v
    same-args S.no_args op l n k v = same-op op l n false k
    same-args (S.positional e r) op l n k v = rw (same-exp e n false v, same-args r op l (n + size e) (suc k) v)
    same-args (S.named x e r) op l n k v = rw (same-exp e n false v, same-args r op l (n + size e) (suc k) v)
    same-args (S.spread e r) op l n k v = rw (same-exp e n false v, same-args r op l (n + size e + 1) (suc k) v)
    same-args (S.spread_named e r) op l n k v = rw (same-exp e n false v, same-args r op l (n + size e + 1) (suc k) v)

    same-pieces : (ps : Pieces) (l n k : ℕ) (v : List ℕ) → pieces_piece (around null b) ps l n k v ≡ pieces_piece (known b) ps l n k v
    same-pieces S.no_pieces l n k v = refl
    same-pieces (S.literal a t r) l n k v = rw (same-pieces r l (n + 1) (suc k) v)
    same-pieces (S.field a e c sp r) l n k v =
        rw (same-exp e n false v, same-spec sp a (n + size e) c v, same-pieces r l (n + size e + pieces_size sp + joins sp + 1) (suc k) v)

    same-spec : (ps : Pieces) (l n : ℕ) (c : Option Conversion) (v : List ℕ) → spec_piece (around null b) ps l n c v ≡ spec_piece (known b) ps l n c v
    same-spec S.no_pieces l n c v = refl
    same-spec (S.literal a t S.no_pieces) l n c v = refl
    same-spec (S.field a e d sp S.no_pieces) l n c v = rw (same-exp e n false v, same-spec sp a (n + size e) d v)
    same-spec (S.literal a t (S.literal i u r)) l n c v = rw (same-pieces (S.literal i u r) l (n + 1) 1 v)
    same-spec (S.literal a t (S.field i e d sp r)) l n c v = rw (same-pieces (S.field i e d sp r) l (n + 1) 1 v)
    same-spec (S.field a e d sp (S.literal i u r)) l n c v = rw (
      same-exp e n false v,
      same-spec sp a (n + size e) d v,
      same-pieces (S.literal i u r) l (n + size e + pieces_size sp + joins sp + 1) 1 v,
    )
    same-spec (S.field a e d sp (S.field i f o sq r)) l n c v = rw (
      same-exp e n false v,
      same-spec sp a (n + size e) d v,
      same-pieces (S.field i f o sq r) l (n + size e + pieces_size sp + joins sp + 1) 1 v,
    )

    same-links : (ls : Links) (o : CompareOp) (l n : ℕ) (v : List ℕ) → links_piece (around null b) ls o l n v ≡ links_piece (known b) ls o l n v
    same-links S.no_links o l n v = refl
    same-links (S.link p e r) o l n v = rw (same-exp e (n + 1 + 1) false v, same-links r p l (n + 1 + 1 + size e) v)

    same-ands : (es : Exps) (l n : ℕ) (v : List ℕ) → ands_piece (around null b) es l n v ≡ ands_piece (known b) es l n v
    same-ands S.no_exps l n v = refl
    same-ands (S.more_exps e es) l n v = rw (same-exp e (n + 1) false v, same-ands es l (n + 1 + size e) v)

    same-ors : (es : Exps) (l n : ℕ) (v : List ℕ) → ors_piece (around null b) es l n v ≡ ors_piece (known b) es l n v
    same-ors S.no_exps l n v = refl
    same-ors (S.more_exps e es) l n v = rw (same-exp e (n + 1) false v, same-ors es l (n + 1 + size e) v)

    same-formals : (ps : Formals) (n k : ℕ) (v : List ℕ) (f h : (n k : ℕ) → Piece) → ((n k : ℕ) → f n k ≡ h n k)
        → formals_piece (around null b) ps n k v f ≡ formals_piece (known b) ps n k v h
    same-formals S.no_formals n k v f h is = is n k
    same-formals (S.formal a x t S.absent r) n k v f h is = same-formals r n k v f h is
    same-formals (S.formal a x t (S.given d) r) n k v f h is = rw (same-exp d n false v, same-formals r (n + size d) (suc k) v f h is)

    same-first : (ps : Formals) (n : ℕ) (g : Bool) (v : List ℕ) (p q : Piece) (f h : (n k : ℕ) → Piece) → p ≡ q → ((n k : ℕ) → f n k ≡ h n k)
        → first_piece (around null b) ps n g v p f ≡ first_piece (known b) ps n g v q h
    same-first S.no_formals n g v p q f h one is = one
    same-first (S.formal a x t S.absent r) n g v p q f h one is = same-first r n g v p q f h one is
    same-first (S.formal a x t (S.given d) r) n g v p q f h one is = rw (same-exp d n g v, same-formals r (n + size d) 1 v f h is)

    same-clauses : (cs : Clauses) (l n d : ℕ) (v : List ℕ) (f h : (n d : ℕ) → Piece) → ((n d : ℕ) → f n d ≡ h n d)
        → clauses_piece (around null b) cs l n d v f ≡ clauses_piece (known b) cs l n d v h
    same-clauses S.no_clauses l n d v f h is = is n d
    same-clauses (S.only_if c cs) l n d v f h is = rw (same-exp c n false v, same-clauses cs l (n + size c + 1) d v f h is)
    same-clauses (S.for_each a t it cs) l n d v f h is = rw (
      same-exp it n false v,
      same-target t (n + size it + 1 + 1) v,
      same-clauses cs l (n + size it + 1 + 1 + target_size t) (suc d) v f h is,
    )

    same-item : (m : Made) (l n d : ℕ) (v : List ℕ) → item_piece (around null b) m l n d v ≡ item_piece (known b) m l n d v
    same-item (S.a_list e) l n d v = rw (same-exp e n false v)
    same-item (S.a_set e) l n d v = rw (same-exp e n false v)
    same-item (S.a_dict k e) l n d v = rw (same-exp k n false v, same-exp e (n + size k) false v)

    pub same-target : (t : Tgt) (n : ℕ) (v : List ℕ) → target_piece (around null b) t n v ≡ target_piece (known b) t n v
    same-target (S.single p) n v = same-place p n v
    same-target (S.several l f ts) n v = rw (same-targets ts (n + 1) v)
    same-target (S.starred l t) n v = same-target t n v

    same-targets : (ts : Tgts) (n : ℕ) (v : List ℕ) → targets_piece (around null b) ts n v ≡ targets_piece (known b) ts n v
    same-targets S.no_targets n v = refl
    same-targets (S.more_targets t ts) n v = rw (same-target t n v, same-targets ts (n + target_size t) v)

    pub same-place : (p : Place) (n : ℕ) (v : List ℕ) → place_piece (around null b) p n v ≡ place_piece (known b) p n v
    same-place (S.name_at l x) n v = refl
    same-place (S.attribute_at l x y) n v = rw (same-exp x n false v)
    same-place (S.item_at l x i) n v = rw (same-exp x n false v, same-exp i (n + size x) false v)
