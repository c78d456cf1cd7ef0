-- Each statement that starts in the piece of a block is one to which a jump may go.
use Rattle.std.proofs.Common.{ℕ, ◌+◌, Bool, true, false, ◌&&◌, if◌then◌else◌, [], ◌∷◌, Option, Some, None, refl}
use Rattle.pt_tree.specs.Syntax as S
use Rattle.pt_tree.specs.Syntax.{Name, Items, Stm, Stms, Branches, Handlers, none, more}
use Rattle.pt_tree.specs.Sizes.{size, target_size, opt_size, stm_size, stms_size}
use Rattle.pt_tree.specs.Blocks as B
use Rattle.pt_tree.specs.Blocks.{Code, function_body}
use Rattle.sem_control.specs.control.Turn.{Around}
use Rattle.sem_control.specs.control.Frames.{a_function, a_class, normal, rest, looping, iterating, guarded, handling, ensuring, ending}
use Rattle.sem_control.specs.control.Numbers.{tested_body, behind_body, for_body, for_else, try_handlers, try_else, try_finally, handler_body}
use Rattle.sem_control.specs.control.Statements.{all_places}
use Rattle.sem_control.specs.control.Jump as J
use Rattle.sem_control.specs.control.Jump.{Shape, with_name, body_at, within_items, starts_in, starts, branch_starts, handler_starts, starts_of}
use Rattle.pt_assembler.specs.declared.operation.Exit.TheVariants.{Break, Continue}
use Rattle.pt_assembler.specs.Piece as P
use Rattle.pt_assembler.specs.Piece.{Piece}
use Rattle.law_operands.specs.law_files.sem_compile.emitter.ExpPiece.{exp_piece, target_piece}
use Rattle.law_operands.specs.law_files.sem_compile.stm_pieces.Needed.{some_exits, some_branch_goes_on, is_silent, leaves, Behind, needed, free, is_needed, needed_if, in_front, behind_branches, behind_loop, behind_tried}
use Rattle.law_operands.specs.law_files.sem_compile.stm_pieces.StmPiece.{begun_piece, value_piece, guarded_piece, ensured_piece, handled_piece, items_piece, stm_piece, all_piece, branches_piece, handlers_piece, block_piece, code_piece}
use Rattle.law_typed_pieces.proofs.typed_pieces.Plain as plain
use Rattle.law_typed_pieces.proofs.typed_pieces.Statements.{HoldsNone}
use Rattle.law_typed_pieces.proofs.typed_pieces.LeadsForms.{val_plain, assigned_plain, augmented_plain, all_deleted_plain, failed_plain, returned_plain, thrown_plain, imported_plain, imported_from_plain, defined_plain}
use Rattle.law_typed_pieces.proofs.typed_pieces.Tables.{lambda_plain, generator_plain}
use Rattle.law_typed_pieces.specs.start_lines.Laws.{StartsHaveStatements}
use Rattle.law_typed_pieces.proofs.start_lines.Lines.{EachLine, plain_lines, EachTarget, targets_apart, HasStatement, targets_have, of_start, laid_lines}

module _ {V : Type 0} (around : Around V) (Q : ℕ → Type 0) where
  pub alone : (st : Stm) (n : ℕ) (w : Behind) → HoldsNone st → EachLine Q (stm_piece around st n w)
  alone (S.expr l e) n w h = (plain_lines Q (value_piece around e n) (val_plain around e n), tt)
  alone (S.assign l ts e) n w h = plain_lines Q (stm_piece around (S.assign l ts e) n w) (val_plain around e n, assigned_plain around ts (n + size e))
  alone (S.augmented l p o e) n w h = plain_lines Q (stm_piece around (S.augmented l p o e) n w) (augmented_plain around p o e l n)
  alone (S.annotated l p a S.absent) n w h = tt
  alone (S.annotated l p a (S.given e)) n w h =
      plain_lines Q (stm_piece around (S.annotated l p a (S.given e)) n w) (val_plain around e n, assigned_plain around (S.more_targets (S.single p) S.no_targets) (n + size e))
  alone (S.assert l e m) n w h = plain_lines Q (stm_piece around (S.assert l e m) n w) (val_plain around e n, (refl, failed_plain around m l (n + size e + 1)))
  alone (S.pass l) n w h = tt
  alone (S.del l ts) n w h = plain_lines Q (stm_piece around (S.del l ts) n w) (all_deleted_plain around (all_places ts) n)
  alone (S.return l e) n w h = plain_lines Q (stm_piece around (S.return l e) n w) (returned_plain around e l n)
  alone (S.raise l e d) n w h = plain_lines Q (stm_piece around (S.raise l e d) n w) (val_plain around e n, thrown_plain around d l (n + size e))
  alone (S.raise_again l) n w h = tt
  alone (S.break l) n w h = tt
  alone (S.continue l) n w h = tt
  alone (S.import l xs) n w h = plain_lines Q (stm_piece around (S.import l xs) n w) (imported_plain around xs l n)
  alone (S.import_from l m xs) n w h = plain_lines Q (stm_piece around (S.import_from l m xs) n w) ((λ t. refl), imported_from_plain around xs l (n + 1))
  alone (S.global l xs) n w h = tt
  alone (S.nonlocal l xs) n w h = tt
  alone (S.def l ds k z y ps a body) n w h = plain_lines Q (stm_piece around (S.def l ds k z y ps a body) n w) (defined_plain around ds (a_function z ps) [] k n y)
  alone (S.class l ds k z y super body) n w h = plain_lines Q (stm_piece around (S.class l ds k z y super body) n w) (defined_plain around ds (a_class z super) [] k n y)
  alone (S.docstring l) n w h = tt
  alone (S.choice l bs els) n w h = absurd h
  alone (S.while l e body els) n w h = absurd h
  alone (S.for l t it body els) n w h = absurd h
  alone (S.try l body hs els fin) n w h = absurd h
  alone (S.with l is body) n w h = absurd h

  pub begun : (st : Stm) (w : Behind) (p : Piece) → EachLine Q p → EachLine Q (begun_piece st w p)
  begun st w p h = by (is_silent st) (leaves st && is_needed w)
    where
      by : (s t : Bool) → EachLine Q (if s then begun_piece (S.global 0 []) w p else if t then begun_piece (S.raise_again 0) needed p else p)
      by true t = (tt, h)
      by false true = (tt, (tt, h))
      by false false = h

  in_guard : (hs : Handlers) (body other handlers : Piece) → EachLine Q body → EachLine Q other → EachLine Q handlers → EachLine Q (guarded_piece hs body other handlers)
  in_guard S.no_handlers body other handlers f g h = (f, g)
  in_guard (S.handler l x y q r) body other handlers f g h = ((f, (g, tt)), h)

  in_finally : (fin : Stms) (tried part : Piece) → EachLine Q tried → EachLine Q part → EachLine Q (ensured_piece fin tried part)
  in_finally none tried part f g = (f, g)
  in_finally (more st ss) tried part f g = (f, (g, tt))

  in_handler : (l n : ℕ) (y : Option Name) (body : ℕ → Piece) → ((m : ℕ) → EachLine Q (body m)) → EachLine Q (handled_piece around l n y body)
  in_handler l n None body f = (tt, (tt, (f (n + 1), (tt, tt))))
  in_handler l n (Some y) body f = (tt, (tt, (f (n + 1 + 1), (tt, (tt, (tt, (tt, (tt, tt))))))))

  in_items : (is : Items) (body : ℕ → Piece) (k n : ℕ) → ((m : ℕ) → EachLine Q (body m)) → EachLine Q (items_piece around is body k n)
  in_items S.no_items body k n f = f n
  in_items (S.with_item l e None r) body k n f =
      (plain_lines Q (value_piece around e n) (val_plain around e n), (tt, ((tt, in_items r body k (n + size e + 1) f), (tt, tt))))
  in_items (S.with_item l e (Some t) r) body k n f = (
    plain_lines Q (value_piece around e n) (val_plain around e n),
    (tt, ((plain_lines Q (P.closed (target_piece around t (n + size e + 1) [])) (plain.target around t (n + size e + 1) []), in_items r body k (n + size e + 1 + target_size t) f), (tt, tt))),
  )

  -- whatever numbers the acts have
  mutual
    stm : (st : Stm) (n m : ℕ) (w : Behind) (s : Shape) → EachTarget Q (starts_in st n s) → EachLine Q (stm_piece around st m w)
    stm (S.choice l bs els) n m w s h =
        let r = targets_apart Q (branch_starts bs n s) (starts els (J.behind_branches bs n) s) h in
        branches bs n m s r.0 (λ k. P.closed (all_piece around els k (behind_branches (some_branch_goes_on bs) w)))
        (λ k. all els (J.behind_branches bs n) k (behind_branches (some_branch_goes_on bs) w) s r.1)
    stm (S.while l e body els) n m w s h =
        let r = targets_apart Q (starts body (tested_body n e) (looping l n e body els ∷ s)) (starts els (behind_body n e body) s) h in (
          (
            plain_lines Q (value_piece around e m) (val_plain around e m),
            (
              tt,
              (
                all body (tested_body n e) (tested_body m e) (needed_if (some_exits Continue body)) _ r.0,
                (plain_lines Q (P.closed (exp_piece around e m true [])) (plain.exp around e m true []), tt),
              ),
            ),
          ),
          all els (behind_body n e body) (behind_body m e body) (behind_loop (some_exits Break body) w) s r.1,
        )
    stm (S.for l t it body els) n m w s h =
        let r = targets_apart Q (starts body (for_body (n + size it + 1) t) (iterating l (n + size it + 1) tt t body els ∷ s)) (starts els (for_else (n + size it + 1) t body) s) h in (
          (
            plain_lines Q (value_piece around it m) (val_plain around it m),
            (
              tt,
              (
                tt,
                (
                  plain_lines Q (P.closed (target_piece around t (m + size it + 1 + 1) [])) (plain.target around t (m + size it + 1 + 1) []),
                  (all body (for_body (n + size it + 1) t) (for_body (m + size it + 1) t) (needed_if (some_exits Continue body)) _ r.0, (tt, tt)),
                ),
              ),
            ),
          ),
          all els (for_else (n + size it + 1) t body) (for_else (m + size it + 1) t body) (behind_loop (some_exits Break body) w) s r.1,
        )
    stm (S.try l body hs els fin) n m w s h =
        let a = targets_apart Q (starts body (n + 1) (guarded (try_handlers n body) hs els ∷ ensuring n (try_finally n body hs els) fin ∷ s)) _ h in
        let c = targets_apart Q (handler_starts hs (try_handlers n body) (ensuring n (try_finally n body hs els) fin ∷ s)) _ a.1 in
        let d = targets_apart Q (starts els (try_else n body hs) (ensuring n (try_finally n body hs els) fin ∷ s)) (starts fin (try_finally n body hs els) (ending n normal ∷ s)) c.1 in (
          tt,
          in_finally fin _ _ (in_guard hs _ _ _ (all body (n + 1) (m + 1) (in_front els (behind_tried hs fin w)) _ a.0)
              (all els (try_else n body hs) (try_else m body hs) (behind_tried hs fin w) _ d.0) (handlers hs (try_handlers n body) (try_handlers m body) _ c.0))
              (all fin (try_finally n body hs els) (try_finally m body hs els) (needed_if (is_needed w)) _ d.1),
        )
    stm (S.with l is body) n m w s h =
        in_items is (λ k. all_piece around body k free) (stms_size body) m (λ k. all body (body_at is n) k free (within_items is (stms_size body) n s) h)
    stm st n m w s h = alone st m w tt

    all : (ss : Stms) (n m : ℕ) (w : Behind) (s : Shape) → EachTarget Q (starts ss n s) → EachLine Q (all_piece around ss m w)
    all none n m w s h = tt
    all (more st ss) n m w s h =
        let r = targets_apart Q (starts_in st n (rest (n + stm_size st) ss ∷ s)) (starts ss (n + stm_size st) s) h.1 in (
          (h.0, begun st (in_front ss w) (stm_piece around st m (in_front ss w)) (stm st n m (in_front ss w) (rest (n + stm_size st) ss ∷ s) r.0)),
          all ss (n + stm_size st) (m + stm_size st) w s r.1,
        )

    branches : (bs : Branches) (n m : ℕ) (s : Shape) → EachTarget Q (branch_starts bs n s) → (other : ℕ → Piece) → ((k : ℕ) → EachLine Q (other k))
        → EachLine Q (branches_piece around bs m other)
    branches S.no_branches n m s h other f = f m
    branches (S.branch l x body r) n m s h other f =
        let a = targets_apart Q (starts body (tested_body n x) s) (branch_starts r (behind_body n x body) s) h in (
          (plain_lines Q (value_piece around x m) (val_plain around x m), (tt, (all body (tested_body n x) (tested_body m x) free s a.0, tt))),
          branches r (behind_body n x body) (behind_body m x body) s a.1 other f,
        )

    handlers : (hs : Handlers) (n m : ℕ) (s : Shape) → EachTarget Q (handler_starts hs n s) → EachLine Q (handlers_piece around hs m)
    handlers S.no_handlers n m s h = tt
    handlers (S.handler l S.absent y body r) n m s h =
        let a = targets_apart Q (starts body (handler_body (n + opt_size S.absent) y) (with_name y (handling (n + opt_size S.absent) tt ∷ s)))
        (handler_starts r (handler_body (n + opt_size S.absent) y + stms_size body) s) h in (
          (
            tt,
            (
              tt,
              (
                tt,
                in_handler l m y (λ k. all_piece around body k free)
                    (λ k. all body (handler_body (n + opt_size S.absent) y) k free (with_name y (handling (n + opt_size S.absent) tt ∷ s)) a.0),
              ),
            ),
          ),
          handlers r (handler_body (n + opt_size S.absent) y + stms_size body) (handler_body m y + stms_size body) s a.1,
        )
    handlers (S.handler l (S.given x) y body r) n m s h =
        let a = targets_apart Q (starts body (handler_body (n + opt_size (S.given x)) y) (with_name y (handling (n + opt_size (S.given x)) tt ∷ s)))
        (handler_starts r (handler_body (n + opt_size (S.given x)) y + stms_size body) s) h in (
          (
            plain_lines Q (value_piece around x m) (val_plain around x m),
            (
              tt,
              (
                tt,
                in_handler l (m + size x) y (λ k. all_piece around body k free)
                    (λ k. all body (handler_body (n + opt_size (S.given x)) y) k free (with_name y (handling (n + opt_size (S.given x)) tt ∷ s)) a.0),
              ),
            ),
          ),
          handlers r (handler_body (n + opt_size (S.given x)) y + stms_size body) (handler_body (m + size x) y + stms_size body) s a.1,
        )

  in_block : (ss : Stms) → EachTarget Q (starts ss 0 []) → EachLine Q (block_piece around ss)
  in_block ss h = (all ss 0 0 free [] h, (tt, tt))

  pub in_code : (c : Code) → EachTarget Q (starts_of c) → EachLine Q (code_piece around c)
  in_code (B.of_module ss) h = in_block ss h
  in_code (B.of_function ss) h = in_block (function_body ss) h
  in_code (B.of_class ss) h = in_block ss h
  in_code (B.of_lambda l e) h = plain_lines Q (code_piece around (B.of_lambda l e)) (lambda_plain around l e)
  in_code (B.of_generator l e k t cs) h = plain_lines Q (code_piece around (B.of_generator l e k t cs)) (generator_plain around l e k t cs)

pub starts_have_statements : {V : Type 0} → StartsHaveStatements V
starts_have_statements {V} around c texts constants lists locals cells frees pc line h e =
    of_start (HasStatement (starts_of c)) _ _
    (laid_lines (HasStatement (starts_of c)) (code_piece around c) [] _ (in_code around (HasStatement (starts_of c)) c (targets_have (starts_of c))) tt) h e
