-- What is counted in the pieces of statements and of blocks has code.
use Rattle.std.proofs.Common.{ℕ, ◌+◌, true, false, List, [], ◌∷◌, ◌&&◌, Option, Some, None, arith}
use Rattle.pt_base.specs.declared.operators.BinOp.{BinOp}
use Rattle.pt_tree.specs.declared.expression.Constant.TheVariants as constant
use Rattle.pt_tree.specs.declared.statement.Alias.{Alias}
use Rattle.pt_tree.specs.Syntax as S
use Rattle.pt_tree.specs.Syntax.{Name, Exp, Opt, Clauses, Place, Tgt, Tgts, Decorators, Items, Stm, Stms, Branches, Handlers}
use Rattle.pt_tree.specs.Sizes.{size, place_size, target_size, params_size, stm_size, stms_size}
use Rattle.pt_tree.specs.Blocks as B
use Rattle.pt_tree.specs.Blocks.{Code, function_body}
use Rattle.pt_instr.specs.declared.Instr.TheVariants as instr
use Rattle.pt_instr.specs.Encoding.{code_of}
use Rattle.sem_control.specs.control.Turn as T
use Rattle.sem_control.specs.control.Turn.{Around}
use Rattle.sem_control.specs.control.Frames.{Definition, a_function, a_class}
use Rattle.sem_control.specs.control.Numbers.{tested_body, behind_body, for_body, for_else, try_handlers, try_else, try_finally, handler_body}
use Rattle.sem_control.specs.control.Statements.{all_places, bound_name}
use Rattle.pt_assembler.specs.declared.operation.Exit.TheVariants.{Break, Continue}
use Rattle.pt_assembler.specs.Piece as P
use Rattle.pt_assembler.specs.Piece.{Piece}
use Rattle.sem_compile.specs.emitter.ExpPiece.{null_piece}
use Rattle.sem_compile.specs.stm_pieces.Needed.{some_exits, some_branch_goes_on, leaves, is_silent, Behind, free, is_needed, needed_if, in_front, behind_branches, behind_loop, behind_tried}
use Rattle.sem_compile.specs.stm_pieces.StmPiece.{guarded_piece, ensured_piece, begun_piece, value_piece, store_piece, assigned_piece, changed_piece, augmented_piece, deleted_piece, all_deleted_piece, failed_piece, returned_piece, thrown_piece, imported_piece, imported_from_piece, bound_piece, definition_piece, defined_piece, handled_piece, taken_piece, behind_taken, items_piece, stm_piece, all_piece, branches_piece, handlers_piece, block_piece, yielded_piece, code_piece}
use Rattle.law_files.specs.piece_counts.Counts.{CountsHaveCode}
use Rattle.law_files.proofs.piece_counts.Forms.{nothing, acting, moving, jumping, going, leaving, behind, in-block, in-headed, in-closed, in-loop, in-ensured, in-caught, in-deeper, in-started, in-numbered, either}
use Rattle.law_files.proofs.piece_counts.Operations.{storing, deleting, operating, operated, made}
use Rattle.law_files.proofs.piece_counts.Expressions.{exp, target, clauses}

null : (m : ℕ) → CountsHaveCode m null_piece
null m = moving m tt

guarded : (hs : Handlers) (body otherwise handlers : Piece) (m : ℕ) → ((q : ℕ) → CountsHaveCode q body) → ((q : ℕ) → CountsHaveCode q otherwise) → ((q : ℕ)
    → CountsHaveCode q handlers)
    → CountsHaveCode m (guarded_piece hs body otherwise handlers)
guarded S.no_handlers body otherwise handlers m h k j = behind m (h m) (k _)
guarded (S.handler l c y b r) body otherwise handlers m h k j = in-block (behind m (in-caught m (h m) (behind _ (k _) (going _))) (j _))

ensured : (fin : Stms) (inside part : Piece) (m : ℕ) → ((q : ℕ) → CountsHaveCode q inside) → ((q : ℕ) → CountsHaveCode q part)
    → CountsHaveCode m (ensured_piece fin inside part)
unfolding code_of
ensured S.none inside part m h k = behind m (h m) (k _)
ensured (S.more st ss) inside part m h k = behind m (in-ensured m (h m)) (behind _ (in-deeper (k _)) (moving _ tt))

begun : (st : Stm) (b : Behind) (p : Piece) (m : ℕ) → ((q : ℕ) → CountsHaveCode q p) → CountsHaveCode m (begun_piece st b p)
unfolding code_of
begun st b p m h = either (is_silent st) (behind m (moving m tt) (h _)) (either (leaves st && is_needed b) (in-block (behind m (moving m tt) (behind _
    (going _) (in-closed (h _))))) (h m))

module _ {V : Type 0} (around : Around V) where
  value : (e : Exp) (n m : ℕ) → CountsHaveCode m (value_piece around e n)
  value e n m = in-closed (exp around e n false [] m)

  stored : (y : Name) (n l m : ℕ) → CountsHaveCode m (store_piece around y n l)
  stored y n l m = acting m (storing (m + 1) (around.variable [] y))

  assigned : (ts : Tgts) (n m : ℕ) → CountsHaveCode m (assigned_piece around ts n)
  unfolding code_of
  assigned S.no_targets n m = moving m tt
  assigned (S.more_targets t S.no_targets) n m = in-closed (target around t n [] m)
  assigned (S.more_targets t (S.more_targets u ts)) n m = behind m (moving m tt) (behind _ (in-closed (target around t n [] _)) (assigned
      (S.more_targets u ts) (n + target_size t) _))

  changed : (o : BinOp) (e : Exp) (l n : ℕ) (back : ℕ → Piece) (m : ℕ) → ((j q : ℕ) → CountsHaveCode q (back j))
      → CountsHaveCode m (changed_piece around o e l n back)
  unfolding code_of
  changed o e l n back m h = behind m (value e n m) (behind _ (acting _ (tt, tt)) (h (n + size e + 1) _))

  augmented : (p : Place) (o : BinOp) (e : Exp) (l n m : ℕ) → CountsHaveCode m (augmented_piece around p o e l n)
  unfolding code_of
  augmented (S.name_at k y) o e l n m = behind m (value (S.name k y) n m) (changed o e l (n + 1) (λ j. store_piece around y j k) _ (λ j q. stored y j k q))
  augmented (S.attribute_at k a y) o e l n m =
      behind m (value a n m) (behind _ (moving _ tt) (behind _ (operated around (T.get (around.spelled y)) k (n + size a) false 1 _ tt)
      (changed o e l (n + size a + 1) (λ j. P.seq (P.move (P.plain instr.Swap)) (P.act (P.with_text instr.SetAttr (around.spelled y)) j k false)) _
      (λ j q. behind q (moving q tt) (acting {op = P.with_text instr.SetAttr (around.spelled y)} _ (λ t. (tt, tt)))))))
  augmented (S.item_at k a i) o e l n m =
      behind m (value a n m) (behind _ (value i (n + size a) _) (behind _ (moving _ tt) (behind _ (operated around T.item k (n + size a + size i) false 2 _ tt)
      (changed o e l (n + size a + size i + 1) (λ j. P.seq (P.move (P.plain instr.Rot3)) (P.act (P.plain instr.SetItem) j k false)) _ (λ j q. behind q
      (moving q tt) (acting _ tt))))))

  deleted : (p : Place) (n m : ℕ) → CountsHaveCode m (deleted_piece around p n)
  unfolding code_of
  deleted (S.name_at l y) n m = acting m (deleting (m + 1) (around.variable [] y))
  deleted (S.attribute_at l a y) n m = behind m (value a n m) (acting _ (λ t. (tt, tt)))
  deleted (S.item_at l a i) n m = behind m (value a n m) (behind _ (value i (n + size a) _) (acting _ tt))

  all-deleted : (ps : List Place) (n m : ℕ) → CountsHaveCode m (all_deleted_piece around ps n)
  all-deleted [] n m = nothing m
  all-deleted (p ∷ ps) n m = behind m (deleted p n m) (all-deleted ps (n + place_size p) _)

  failed : (o : Opt) (l n m : ℕ) → CountsHaveCode m (failed_piece around o l n)
  unfolding code_of
  failed S.absent l n m = acting m (tt, tt)
  failed (S.given e) l n m = behind m (value e n m) (acting _ (tt, tt))

  returned : (o : Opt) (l n m : ℕ) → CountsHaveCode m (returned_piece around o l n)
  unfolding code_of
  returned S.absent l n m = behind m (null m) (acting _ tt)
  returned (S.given e) l n m = behind m (value e n m) (acting _ tt)

  thrown : (o : Opt) (l n m : ℕ) → CountsHaveCode m (thrown_piece around o l n)
  unfolding code_of
  thrown S.absent l n m = acting m tt
  thrown (S.given e) l n m = behind m (value e n m) (acting _ tt)

  imported : (xs : List Alias) (l n m : ℕ) → CountsHaveCode m (imported_piece around xs l n)
  imported [] l n m = nothing m
  imported (a ∷ xs) l n m =
      behind m (acting m (operating (m + 1) (T.import (around.spelled a.name)) 0 tt)) (behind _ (stored (bound_name a) (n + 1) l _) (imported xs l
      (n + 1 + 1) _))

  imported-from : (xs : List Alias) (l n m : ℕ) → CountsHaveCode m (imported_from_piece around xs l n)
  unfolding code_of
  imported-from [] l n m = moving m tt
  imported-from (a ∷ xs) l n m =
      behind m (acting m (operating (m + 1) (T.import_name (around.spelled a.name)) 1 tt)) (behind _ (stored (bound_name a) (n + 1) l _) (imported-from xs l
      (n + 1 + 1) _))

  bound : (ks : List ℕ) (l n : ℕ) (y : Name) (m : ℕ) → CountsHaveCode m (bound_piece around ks l n y)
  bound [] l n y m = stored y n l m
  bound (k ∷ ks) l n y m = behind m (acting m (operating (m + 1) (T.call (T.positional ∷ [])) 1 (omega arith))) (bound ks l (n + 1) y _)

  definition : (d : Definition) (ks : List ℕ) (l n : ℕ) (y : Name) (m : ℕ) → CountsHaveCode m (definition_piece around d ks l n y)
  definition (a_function b ps) ks l n y m =
      behind m (value (S.lambda l b ps (S.constant l constant.None)) n m) (bound ks l (n + params_size ps + 1) y _)
  definition (a_class b S.absent) ks l n y m =
      behind m (null m) (behind _ (made around (around.captured b) (T.class b) l n false 1 _ tt) (bound ks l (n + 1) y _))
  definition (a_class b (S.given e)) ks l n y m =
      behind m (value e n m) (behind _ (made around (around.captured b) (T.class b) l (n + size e) false 1 _ tt) (bound ks l (n + size e + 1) y _))

  defined : (ds : Decorators) (d : Definition) (ks : List ℕ) (l n : ℕ) (y : Name) (m : ℕ) → CountsHaveCode m (defined_piece around ds d ks l n y)
  defined S.no_decorators d ks l n y m = definition d ks l n y m
  defined (S.decorator j e r) d ks l n y m = behind m (value e n m) (defined r d (j ∷ ks) l (n + size e) y _)

  handled : (l n : ℕ) (o : Option Name) (body : ℕ → Piece) (m : ℕ) → ((j q : ℕ) → CountsHaveCode q (body j))
      → CountsHaveCode m (handled_piece around l n o body)
  unfolding code_of
  handled l n None body m h =
      behind m (moving m tt) (behind _ (moving _ tt) (behind _ (in-deeper (in-closed (h (n + 1) _))) (behind _ (moving _ tt) (going _))))
  handled l n (Some y) body m h =
      behind m (moving m tt) (behind _ (stored y (n + 1) l _) (behind _ (in-deeper (in-ensured _ (h (n + 1 + 1) _))) (behind _ (null _)
      (behind _ (moving _ (storing _ (around.variable [] y))) (behind _ (moving _ (deleting _ (around.variable [] y))) (behind _ (moving _ tt) (behind _
      (moving _ tt) (going _))))))))

  taken : (o : Option Tgt) (n m : ℕ) → CountsHaveCode m (taken_piece around o n)
  unfolding code_of
  taken None n m = moving m tt
  taken (Some t) n m = in-closed (target around t n [] m)

  items : (xs : Items) (body : ℕ → Piece) (k n m : ℕ) → ((j q : ℕ) → CountsHaveCode q (body j)) → CountsHaveCode m (items_piece around xs body k n)
  unfolding code_of
  items S.no_items body k n m h = in-closed (h n m)
  items (S.with_item l e t r) body k n m h =
      behind m (value e n m) (behind _ (acting _ tt) (behind _ (in-deeper (in-ensured _ (behind _ (taken t (n + size e + 1) _) (items r body k
      (behind_taken around t (n + size e + 1)) _ h))))
      (behind _ (acting _ tt) (moving _ tt))))

  mutual
    unfolding code_of

    stm : (st : Stm) (n : ℕ) (b : Behind) (m : ℕ) → CountsHaveCode m (stm_piece around st n b)
    stm (S.expr l e) n b m = behind m (value e n m) (acting _ tt)
    stm (S.assign l ts e) n b m = behind m (value e n m) (assigned ts (n + size e) _)
    stm (S.augmented l p o e) n b m = augmented p o e l n m
    stm (S.annotated l p a S.absent) n b m = acting m tt
    stm (S.annotated l p a (S.given e)) n b m = behind m (value e n m) (assigned (S.more_targets (S.single p) S.no_targets) (n + size e) _)
    stm (S.assert l c o) n b m = in-block (behind m (value c n m) (behind _ (jumping _) (failed o l (n + size c + 1) _)))
    stm (S.pass l) n b m = acting m tt
    stm (S.del l ts) n b m = all-deleted (all_places ts) n m
    stm (S.return l e) n b m = returned e l n m
    stm (S.raise l e c) n b m = behind m (value e n m) (thrown c l (n + size e) _)
    stm (S.raise_again l) n b m = acting m tt
    stm (S.break l) n b m = leaving m
    stm (S.continue l) n b m = leaving m
    stm (S.import l xs) n b m = imported xs l n m
    stm (S.import_from l x xs) n b m = behind m (acting m (operating (m + 1) (T.import (around.spelled x)) 0 tt)) (imported-from xs l (n + 1) _)
    stm (S.global l xs) n b m = nothing m
    stm (S.nonlocal l xs) n b m = nothing m
    stm (S.choice l bs els) n b m =
        in-block (branches bs n (λ j. P.closed (all_piece around els j (behind_branches (some_branch_goes_on bs) b))) m
        (λ j q. in-closed (all els j (behind_branches (some_branch_goes_on bs) b) q)))
    stm (S.while l c body els) n b m = in-block (behind m (in-block (behind m (value c n m) (behind _ (jumping _)
        (in-headed (behind _ (in-loop (all body (tested_body n c) (needed_if (some_exits Continue body)) _))
        (in-numbered (behind _ (in-closed (exp around c n true [] _)) (jumping _)))))))) (in-numbered (in-closed (all els (behind_body n c body) (behind_loop
        (some_exits Break body) b) _))))
    stm (S.for l t it body els) n b m = in-block (behind m (in-block (behind m (value it n m) (behind _ (acting _ tt) (behind _ (jumping _)
        (in-headed (behind _ (in-closed (target around t (n + size it + 1 + 1) [] _))
        (behind _ (in-deeper (in-loop (all body (for_body (n + size it + 1) t) (needed_if (some_exits Continue body)) _)))
        (behind _ (in-numbered (jumping _)) (going _)))))))))
        (in-numbered (in-closed (all els (for_else (n + size it + 1) t body) (behind_loop (some_exits Break body) b) _))))
    stm (S.try l body hs els fin) n b m = behind m (acting m tt) (ensured fin _ _ _
        (λ q. guarded hs _ _ _ q (λ j. in-closed (all body (n + 1) (in_front els (behind_tried hs fin b)) j))
        (λ j. in-numbered (in-closed (all els (try_else n body hs) (behind_tried hs fin b) j)))
        (λ j. in-numbered (handlers hs (try_handlers n body) j)))
        (λ q. in-numbered (in-closed (all fin (try_finally n body hs els) (needed_if (is_needed b)) q))))
    stm (S.with l xs body) n b m = items xs (λ j. all_piece around body j free) (stms_size body) n m (λ j q. all body j free q)
    stm (S.def l ds k c y ps a body) n b m = defined ds (a_function c ps) [] k n y m
    stm (S.class l ds k c y base body) n b m = defined ds (a_class c base) [] k n y m
    stm (S.docstring l) n b m = nothing m

    all : (ss : Stms) (n : ℕ) (b : Behind) (m : ℕ) → CountsHaveCode m (all_piece around ss n b)
    all S.none n b m = nothing m
    all (S.more st ss) n b m =
        behind m (in-started (begun st (in_front ss b) (stm_piece around st n (in_front ss b)) m (λ q. stm st n (in_front ss b) q))) (all ss
        (n + stm_size st) b _)

    branches : (bs : Branches) (n : ℕ) (otherwise : ℕ → Piece) (m : ℕ) → ((j q : ℕ) → CountsHaveCode q (otherwise j))
        → CountsHaveCode m (branches_piece around bs n otherwise)
    branches S.no_branches n otherwise m h = h n m
    branches (S.branch l c body r) n otherwise m h =
        behind m (in-block (behind m (value c n m) (behind _ (jumping _) (behind _ (in-closed (all body (tested_body n c) free _)) (going _)))))
        (branches r (behind_body n c body) otherwise _ h)

    handlers : (hs : Handlers) (n m : ℕ) → CountsHaveCode m (handlers_piece around hs n)
    handlers S.no_handlers n m = moving m tt
    handlers (S.handler l S.absent y body r) n m =
        behind m (in-block (behind m (null m) (behind _ (acting _ tt) (behind _ (going _) (handled l n y (λ j. all_piece around body j free) _
        (λ j q. all body j free q))))))
        (handlers r (handler_body n y + stms_size body) _)
    handlers (S.handler l (S.given c) y body r) n m =
        behind m (in-block (behind m (value c n m) (behind _ (acting _ tt) (behind _ (going _) (handled l (n + size c) y
        (λ j. all_piece around body j free) _ (λ j q. all body j free q))))))
        (handlers r (handler_body (n + size c) y + stms_size body) _)

  block : (ss : Stms) (m : ℕ) → CountsHaveCode m (block_piece around ss)
  unfolding code_of
  block ss m = behind m (all ss 0 free m) (behind _ (null _) (moving _ tt))

  yielded : (l : ℕ) (e : Exp) (n m : ℕ) → CountsHaveCode m (yielded_piece around l e n)
  unfolding code_of
  yielded l e n m = behind m (value e n m) (behind _ (acting _ tt) (behind _ (acting _ tt) (going _)))

  pub counts_have_code : (k : Code) (m : ℕ) → CountsHaveCode m (code_piece around k)
  unfolding code_of
  counts_have_code (B.of_module ss) m = block ss m
  counts_have_code (B.of_function ss) m = block (function_body ss) m
  counts_have_code (B.of_class ss) m = block ss m
  counts_have_code (B.of_lambda l e) m = behind m (value e 0 m) (acting _ tt)
  counts_have_code (B.of_generator l e k t cs) m =
      behind m (in-block (in-headed (behind m (jumping m) (behind _ (in-closed (target around t (0 + 1) [] _))
      (clauses around cs l (0 + 1 + target_size t) 1 [] _ (λ n d. yielded_piece around l e n) (λ n d q h. yielded l e n q) (omega arith))))))
      (behind _ (null _) (moving _ tt))
