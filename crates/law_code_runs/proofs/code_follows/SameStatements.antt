-- Code does not depend on the value None that control is given: that of statements and of blocks.
use Rattle.std.proofs.Common.{◌≡◌, ℕ, ◌+◌, List, [], ◌∷◌, Option, Some, None, true, false, refl, ap}
use Rattle.pt_base.specs.declared.operators.BinOp.{BinOp}
use Rattle.pt_tree.specs.declared.expression.Constant.TheVariants as constant
use Rattle.pt_tree.specs.declared.statement.Alias.{Alias}
use Rattle.pt_tree.specs.Syntax as S
use Rattle.pt_tree.specs.Syntax.{Name, Exp, Opt, Place, Tgt, Tgts, Decorators, Items, Stm, Stms, Branches, Handlers, none, more}
use Rattle.pt_tree.specs.Sizes.{size, place_size, target_size, params_size, stm_size, stms_size}
use Rattle.pt_tree.specs.Blocks as B
use Rattle.pt_tree.specs.Blocks.{Code, function_body}
use Rattle.sem_control.specs.control.Turn as T
use Rattle.sem_control.specs.control.Turn.{Variable}
use Rattle.sem_control.specs.control.Frames.{Definition, a_function, a_class}
use Rattle.sem_control.specs.control.Numbers.{tested_body, behind_body, for_body, for_else, try_handlers, try_else, try_finally, handler_body}
use Rattle.sem_control.specs.control.Statements.{all_places}
use Rattle.pt_assembler.specs.Piece.{Piece}
use Rattle.sem_compile.specs.emitter.ExpPiece.{exp_piece, target_piece}
use Rattle.sem_compile.specs.stm_pieces.Needed.{some_exits, some_branch_goes_on, Behind, free, is_needed, needed_if, in_front, behind_branches, behind_loop, behind_tried}
use Rattle.pt_assembler.specs.declared.operation.Exit.TheVariants.{Break, Continue}
use Rattle.sem_compile.specs.stm_pieces.StmPiece.{assigned_piece, augmented_piece, changed_piece, deleted_piece, all_deleted_piece, failed_piece, returned_piece, thrown_piece, imported_piece, imported_from_piece, bound_piece, definition_piece, defined_piece, handled_piece, items_piece, stm_piece, all_piece, branches_piece, handlers_piece, yielded_piece, code_piece}
use Rattle.law_code_runs.proofs.code_follows.SameExpressions.{first, second, same-made, same-exp, same-target, same-clauses}

module _ {V W : Type 0} (null : V) (other : W) (variable : List ℕ → Name → Variable) (spelled : Name → Name) (captured : ℕ → List Variable) where
  abbrev one : T.Around V
  one = first null other variable spelled captured

  abbrev two : T.Around W
  two = second null other variable spelled captured

  value : (e : Exp) (n : ℕ) → exp_piece one e n false [] ≡ exp_piece two e n false []
  value e n = same-exp null other variable spelled captured e n false []

  target : (t : Tgt) (n : ℕ) → target_piece one t n [] ≡ target_piece two t n []
  target t n = same-target null other variable spelled captured t n []

  same-assigned : (ts : Tgts) (n : ℕ) → assigned_piece one ts n ≡ assigned_piece two ts n
  same-assigned S.no_targets n = refl
  same-assigned (S.more_targets t S.no_targets) n = rw (target t n)
  same-assigned (S.more_targets t (S.more_targets u ts)) n = rw (target t n, same-assigned (S.more_targets u ts) (n + target_size t))

  same-changed : (o : BinOp) (e : Exp) (l n : ℕ) (back : ℕ → Piece) → changed_piece one o e l n back ≡ changed_piece two o e l n back
  same-changed o e l n back = rw (value e n)

  same-augmented : (p : Place) (o : BinOp) (e : Exp) (l n : ℕ) → augmented_piece one p o e l n ≡ augmented_piece two p o e l n
  same-augmented (S.name_at k y) o e l n = rw (value e (n + 1))
  same-augmented (S.attribute_at k a y) o e l n = rw (value a n, value e (n + size a + 1))
  same-augmented (S.item_at k a i) o e l n = rw (value a n, value i (n + size a), value e (n + size a + size i + 1))

  same-deleted : (p : Place) (n : ℕ) → deleted_piece one p n ≡ deleted_piece two p n
  same-deleted (S.name_at l y) n = refl
  same-deleted (S.attribute_at l a y) n = rw (value a n)
  same-deleted (S.item_at l a i) n = rw (value a n, value i (n + size a))

  same-all-deleted : (ps : List Place) (n : ℕ) → all_deleted_piece one ps n ≡ all_deleted_piece two ps n
  same-all-deleted [] n = refl
  same-all-deleted (p ∷ ps) n = rw (same-deleted p n, same-all-deleted ps (n + place_size p))

  same-failed : (m : Opt) (l n : ℕ) → failed_piece one m l n ≡ failed_piece two m l n
  same-failed S.absent l n = refl
  same-failed (S.given m) l n = rw (value m n)

  same-returned : (e : Opt) (l n : ℕ) → returned_piece one e l n ≡ returned_piece two e l n
  same-returned S.absent l n = refl
  same-returned (S.given e) l n = rw (value e n)

  same-thrown : (c : Opt) (l n : ℕ) → thrown_piece one c l n ≡ thrown_piece two c l n
  same-thrown S.absent l n = refl
  same-thrown (S.given c) l n = rw (value c n)

  same-imported : (xs : List Alias) (l n : ℕ) → imported_piece one xs l n ≡ imported_piece two xs l n
  same-imported [] l n = refl
  same-imported (a ∷ xs) l n = rw (same-imported xs l (n + 1 + 1))

  same-imported-from : (xs : List Alias) (l n : ℕ) → imported_from_piece one xs l n ≡ imported_from_piece two xs l n
  same-imported-from [] l n = refl
  same-imported-from (a ∷ xs) l n = rw (same-imported-from xs l (n + 1 + 1))

  same-bound : (ks : List ℕ) (l n : ℕ) (y : Name) → bound_piece one ks l n y ≡ bound_piece two ks l n y
  same-bound [] l n y = refl
  same-bound (k ∷ ks) l n y = rw (same-bound ks l (n + 1) y)

  same-definition : (d : Definition) (ks : List ℕ) (l n : ℕ) (y : Name) → definition_piece one d ks l n y ≡ definition_piece two d ks l n y
  same-definition (a_function b ps) ks l n y = rw (value (S.lambda l b ps (S.constant l constant.None)) n, same-bound ks l (n + params_size ps + 1) y)
  same-definition (a_class b S.absent) ks l n y =
      rw (same-made null other variable spelled captured (captured b) (T.class b) l n false 1, same-bound ks l (n + 1) y)
  same-definition (a_class b (S.given e)) ks l n y =
      rw (value e n, same-made null other variable spelled captured (captured b) (T.class b) l (n + size e) false 1, same-bound ks l (n + size e + 1) y)

  same-defined : (ds : Decorators) (what : Definition) (ks : List ℕ) (l n : ℕ) (y : Name) → defined_piece one ds what ks l n y ≡ defined_piece two ds what ks l n y
  same-defined S.no_decorators what ks l n y = same-definition what ks l n y
  same-defined (S.decorator j e r) what ks l n y = rw (value e n, same-defined r what (j ∷ ks) l (n + size e) y)

  same-handled : (l n : ℕ) (y : Option Name) (f h : ℕ → Piece) → ((m : ℕ) → f m ≡ h m) → handled_piece one l n y f ≡ handled_piece two l n y h
  same-handled l n None f h is = rw (is (n + 1))
  same-handled l n (Some y) f h is = rw (is (n + 1 + 1))

  same-items : (is : Items) (f h : ℕ → Piece) (k n : ℕ) → ((m : ℕ) → f m ≡ h m) → items_piece one is f k n ≡ items_piece two is h k n
  same-items S.no_items f h k n same = rw (same n)
  same-items (S.with_item l e None r) f h k n same = rw (value e n, same-items r f h k (n + size e + 1) same)
  same-items (S.with_item l e (Some t) r) f h k n same =
      rw (value e n, target t (n + size e + 1), same-items r f h k (n + size e + 1 + target_size t) same)

  mutual
    same-stm : (st : Stm) (n : ℕ) (b : Behind) → stm_piece one st n b ≡ stm_piece two st n b
    same-stm (S.expr l e) n b = rw (value e n)
    same-stm (S.assign l ts e) n b = rw (value e n, same-assigned ts (n + size e))
    same-stm (S.augmented l p o e) n b = same-augmented p o e l n
    same-stm (S.annotated l p a S.absent) n b = refl
    same-stm (S.annotated l p a (S.given e)) n b = rw (value e n, same-assigned (S.more_targets (S.single p) S.no_targets) (n + size e))
    same-stm (S.assert l c m) n b = rw (value c n, same-failed m l (n + size c + 1))
    same-stm (S.pass l) n b = refl
    same-stm (S.del l ts) n b = same-all-deleted (all_places ts) n
    same-stm (S.return l e) n b = same-returned e l n
    same-stm (S.raise l e c) n b = rw (value e n, same-thrown c l (n + size e))
    same-stm (S.raise_again l) n b = refl
    same-stm (S.break l) n b = refl
    same-stm (S.continue l) n b = refl
    same-stm (S.import l xs) n b = same-imported xs l n
    same-stm (S.import_from l m xs) n b = rw (same-imported-from xs l (n + 1))
    same-stm (S.global l xs) n b = refl
    same-stm (S.nonlocal l xs) n b = refl
    same-stm (S.choice l bs els) n b = rw (same-branches bs n _ _ (λ m. ap (λ p. Piece.closed p) (same-all els m (behind_branches (some_branch_goes_on bs) b))))
    same-stm (S.while l c body els) n b = rw (
      value c n,
      same-all body (tested_body n c) (needed_if (some_exits Continue body)),
      same-exp null other variable spelled captured c n true [],
      same-all els (behind_body n c body) (behind_loop (some_exits Break body) b),
    )
    same-stm (S.for l t it body els) n b = rw (
      value it n,
      target t (n + size it + 1 + 1),
      same-all body (for_body (n + size it + 1) t) (needed_if (some_exits Continue body)),
      same-all els (for_else (n + size it + 1) t body) (behind_loop (some_exits Break body) b),
    )
    same-stm (S.try l body hs els fin) n b = rw (
      same-all body (n + 1) (in_front els (behind_tried hs fin b)),
      same-all els (try_else n body hs) (behind_tried hs fin b),
      same-handlers hs (try_handlers n body),
      same-all fin (try_finally n body hs els) (needed_if (is_needed b)),
    )
    same-stm (S.with l is body) n b = same-items is _ _ (stms_size body) n (λ m. same-all body m free)
    same-stm (S.def l ds k c y ps a body) n b = same-defined ds (a_function c ps) [] k n y
    same-stm (S.class l ds k c y base body) n b = same-defined ds (a_class c base) [] k n y
    same-stm (S.docstring l) n b = refl

    same-all : (ss : Stms) (n : ℕ) (b : Behind) → all_piece one ss n b ≡ all_piece two ss n b
    same-all none n b = refl
    same-all (more st ss) n b = rw (same-stm st n (in_front ss b), same-all ss (n + stm_size st) b)

    same-branches : (bs : Branches) (n : ℕ) (f h : ℕ → Piece) → ((m : ℕ) → f m ≡ h m) → branches_piece one bs n f ≡ branches_piece two bs n h
    same-branches S.no_branches n f h is = is n
    same-branches (S.branch l c body r) n f h is =
        rw (value c n, same-all body (tested_body n c) free, same-branches r (behind_body n c body) f h is)

    same-handlers : (hs : Handlers) (n : ℕ) → handlers_piece one hs n ≡ handlers_piece two hs n
    same-handlers S.no_handlers n = refl
    same-handlers (S.handler l S.absent y body r) n =
        rw (same-handled l n y _ _ (λ m. same-all body m free), same-handlers r (handler_body n y + stms_size body))
    same-handlers (S.handler l (S.given c) y body r) n = rw (
      value c n,
      same-handled l (n + size c) y _ _ (λ m. same-all body m free),
      same-handlers r (handler_body (n + size c) y + stms_size body),
    )

  same-block : (ss : Stms) → code_piece one (B.of_module ss) ≡ code_piece two (B.of_module ss)
  same-block ss = rw (same-all ss 0 free)

  same-yielded : (l : ℕ) (e : Exp) (n : ℕ) → yielded_piece one l e n ≡ yielded_piece two l e n
  same-yielded l e n = rw (value e n)

  pub same-code : (c : Code) → code_piece one c ≡ code_piece two c
  same-code (B.of_module ss) = same-block ss
  same-code (B.of_function ss) = same-block (function_body ss)
  same-code (B.of_class ss) = same-block ss
  same-code (B.of_lambda l e) = rw (value e 0)
  same-code (B.of_generator l e k t cs) = rw (
    target t (0 + 1),
    same-clauses null other variable spelled captured cs l (0 + 1 + target_size t) 1 [] _ _ (λ n d. same-yielded l e n),
  )
