-- The code of statements and of blocks in pieces (Language Reference 7, 8). What is asked of the place behind is passed down.
use Rattle.std.specs.Prelude.{ℕ, ◌+◌, List, [], ◌∷◌, true, false, ◌&&◌, Option, Some, None, if◌then◌else◌}
use Rattle.pt_base.specs.declared.operators.BinOp.{BinOp}
use Rattle.pt_tree.specs.declared.expression.Constant.TheVariants as constant
use Rattle.pt_tree.specs.declared.statement.Alias.{Alias}
use Rattle.pt_tree.specs.Syntax as S
use Rattle.pt_tree.specs.Syntax.{Name, Exp, Opt, Clauses, Place, Tgt, Tgts, Decorators, Items, Stm, Stms, Branches, Handlers, none, more}
use Rattle.pt_tree.specs.Sizes.{size, place_size, target_size, params_size, items_size, stm_size, stms_size}
use Rattle.pt_tree.specs.Blocks as B
use Rattle.pt_tree.specs.Blocks.{Code, function_body}
use Rattle.pt_instr.specs.declared.Instr.TheVariants as instr
use Rattle.sem_control.specs.control.Turn as T
use Rattle.sem_control.specs.control.Turn.{Around, Scope, Variable}
use Rattle.sem_control.specs.control.Frames.{Definition, a_function, a_class}
use Rattle.sem_control.specs.control.Numbers.{tested_body, behind_body, for_body, for_else, try_handlers, try_else, try_finally, handler_body}
use Rattle.sem_control.specs.control.Statements.{all_places, bound_name}
use Rattle.sem_control.specs.control.Jump.{starts_on}
use Rattle.pt_assembler.specs.declared.operation.Jump.TheVariants.{AtEnd, Always, IfTrue, IfFalse}
use Rattle.pt_assembler.specs.declared.operation.FreeUse.TheVariants as use_of
use Rattle.pt_assembler.specs.declared.operation.Exit.TheVariants.{Break, Continue}
use Rattle.pt_assembler.specs.Piece.{Op, plain, const, with_local, with_cell, with_free, with_text, to, Piece, empty, act, move, block, headed, closed, looped, leave, ensured, caught, deeper, started, numbered, ◌▸◌}
use Rattle.sem_compile.specs.emitter.Ops.{store, operation}
use Rattle.sem_compile.specs.emitter.ExpPiece.{null_piece, made_piece, op_piece, exp_piece, target_piece, clauses_piece}
use Rattle.sem_compile.specs.stm_pieces.Needed.{some_exits, some_branch_goes_on, leaves, is_silent, Behind, free, is_needed, needed_if, in_front, behind_branches, behind_loop, behind_tried}

abbrev pub delete_in : Scope → Name → Op
delete_in T.local x = with_local instr.DelLocal x
delete_in T.cell x = with_cell instr.DelCell x
delete_in T.free x = with_free use_of.Delete x
delete_in T.global x = with_text instr.DelGlobal x
delete_in T.of_class x = with_text instr.DelName x

abbrev pub delete : Variable → Op
delete x = delete_in x.scope x.name

-- 8.4: with handlers, the body of a `try` under a row, its `else` part, and the handlers; label 0 is the end of them all
abbrev pub guarded_piece : Handlers → (body otherwise handlers : Piece) → Piece
guarded_piece S.no_handlers body otherwise handlers = body ▸ otherwise
guarded_piece (S.handler l c y b r) body otherwise handlers = block (caught body (otherwise ▸ move (to Always 0)) ▸ handlers)

-- 8.4.4: all of that under another row, if there is a `finally` part, and that part
abbrev pub ensured_piece : (finally : Stms) → (guarded part : Piece) → Piece
ensured_piece none guarded part = guarded ▸ part
ensured_piece (more st ss) guarded part = ensured guarded ▸ deeper 1 part ▸ move (plain instr.EndFinally)

-- where a statement begins: one without code of its own has a place, and one that leaves a branch to behind it that is never taken, where that place is needed
abbrev pub begun_piece : Stm → Behind → Piece → Piece
begun_piece st b p =
    if is_silent st then move (plain instr.Nop) ▸ p
    else if leaves st && is_needed b then block (move (const (constant.Bool true)) ▸ move (to IfFalse 0) ▸ closed p)
    else p

module _ {V : Type 0} (around : Around V) where
  abbrev pub value_piece : Exp → (n : ℕ) → Piece
  value_piece e n = closed (exp_piece around e n false [])

  abbrev pub store_piece : Name → (n l : ℕ) → Piece
  store_piece y n l = act (store (around.variable [] y)) n l false

  -- 7.2
  abbrev pub assigned_piece : Tgts → (n : ℕ) → Piece
  assigned_piece S.no_targets n = move (plain instr.Pop)
  assigned_piece (S.more_targets t S.no_targets) n = closed (target_piece around t n [])
  assigned_piece (S.more_targets t (S.more_targets u ts)) n =
      move (plain instr.Copy) ▸ closed (target_piece around t n []) ▸ assigned_piece (S.more_targets u ts) (n + target_size t)

  -- 7.2.1: the other operand and the operator, and what goes back to its place; n numbers the operand
  abbrev pub changed_piece : BinOp → Exp → (l n : ℕ) → (back : (n : ℕ) → Piece) → Piece
  changed_piece o e l n back = value_piece e n ▸ act (plain (instr.InPlace o)) (n + size e) l false ▸ back (n + size e + 1)

  abbrev pub augmented_piece : Place → BinOp → Exp → (l n : ℕ) → Piece
  augmented_piece (S.name_at k y) o e l n = value_piece (S.name k y) n ▸ changed_piece o e l (n + 1) (λ m. store_piece y m k)
  augmented_piece (S.attribute_at k a y) o e l n =
      value_piece a n ▸ move (plain instr.Copy) ▸ op_piece around (T.get (around.spelled y)) k (n + size a) false 1
      ▸ changed_piece o e l (n + size a + 1) (λ m. move (plain instr.Swap) ▸ act (with_text instr.SetAttr (around.spelled y)) m k false)
  augmented_piece (S.item_at k a i) o e l n =
      value_piece a n ▸ value_piece i (n + size a) ▸ move (plain instr.Copy2) ▸ op_piece around T.item k (n + size a + size i) false 2
      ▸ changed_piece o e l (n + size a + size i + 1) (λ m. move (plain instr.Rot3) ▸ act (plain instr.SetItem) m k false)

  -- 7.5
  abbrev pub deleted_piece : Place → (n : ℕ) → Piece
  deleted_piece (S.name_at l y) n = act (delete (around.variable [] y)) n l false
  deleted_piece (S.attribute_at l a y) n = value_piece a n ▸ act (with_text instr.DelAttr (around.spelled y)) (n + size a) l false
  deleted_piece (S.item_at l a i) n = value_piece a n ▸ value_piece i (n + size a) ▸ act (plain instr.DelItem) (n + size a + size i) l false

  abbrev pub all_deleted_piece : List Place → (n : ℕ) → Piece
  all_deleted_piece [] n = empty
  all_deleted_piece (p ∷ ps) n = deleted_piece p n ▸ all_deleted_piece ps (n + place_size p)

  -- 7.3, 7.6, 7.8
  abbrev pub failed_piece : Opt → (l n : ℕ) → Piece
  failed_piece S.absent l n = act (plain (instr.AssertFail false)) n l false
  failed_piece (S.given m) l n = value_piece m n ▸ act (plain (instr.AssertFail true)) (n + size m) l false

  abbrev pub returned_piece : Opt → (l n : ℕ) → Piece
  returned_piece S.absent l n = null_piece ▸ act (plain instr.Return) n l false
  returned_piece (S.given e) l n = value_piece e n ▸ act (plain instr.Return) (n + size e) l false

  abbrev pub thrown_piece : Opt → (l n : ℕ) → Piece
  thrown_piece S.absent l n = act (plain instr.Raise) n l false
  thrown_piece (S.given c) l n = value_piece c n ▸ act (plain instr.RaiseFrom) (n + size c) l false

  -- 7.11
  abbrev pub imported_piece : List Alias → (l n : ℕ) → Piece
  imported_piece [] l n = empty
  imported_piece (a ∷ as') l n =
      act (operation (T.import (around.spelled a.name)) 0) n l false ▸ store_piece (bound_name a) (n + 1) l ▸ imported_piece as' l (n + 1 + 1)

  abbrev pub imported_from_piece : List Alias → (l n : ℕ) → Piece
  imported_from_piece [] l n = move (plain instr.Pop)
  imported_from_piece (a ∷ as') l n =
      act (operation (T.import_name (around.spelled a.name)) 1) n l false ▸ store_piece (bound_name a) (n + 1) l ▸ imported_from_piece as' l (n + 1 + 1)

  -- 8.7, 8.8: what is made is given to the decorators and then bound; the lines are theirs, the last one's first
  abbrev pub bound_piece : (lines : List ℕ) → (l n : ℕ) → Name → Piece
  bound_piece [] l n y = store_piece y n l
  bound_piece (k ∷ ks) l n y = act (operation (T.call (T.positional ∷ [])) 1) n k false ▸ bound_piece ks l (n + 1) y

  abbrev pub definition_piece : Definition → (lines : List ℕ) → (l n : ℕ) → Name → Piece
  definition_piece (a_function b ps) ks l n y = value_piece (S.lambda l b ps (S.constant l constant.None)) n ▸ bound_piece ks l (n + params_size ps + 1) y
  definition_piece (a_class b S.absent) ks l n y =
      null_piece ▸ made_piece around (around.captured b) (T.class b) l n false 1 ▸ bound_piece ks l (n + 1) y
  definition_piece (a_class b (S.given e)) ks l n y =
      value_piece e n ▸ made_piece around (around.captured b) (T.class b) l (n + size e) false 1 ▸ bound_piece ks l (n + size e + 1) y

  abbrev pub defined_piece : Decorators → Definition → (lines : List ℕ) → (l n : ℕ) → Name → Piece
  defined_piece S.no_decorators what ks l n y = definition_piece what ks l n y
  defined_piece (S.decorator j e r) what ks l n y = value_piece e n ▸ defined_piece r what (j ∷ ks) l (n + size e) y

  -- 8.4.1: a handler behind its Match, whose number is n; Caught gives it a slot of its own. Label 1 is the end of all handlers
  abbrev pub handled_piece : (l n : ℕ) → Option Name → (body : (n : ℕ) → Piece) → Piece
  handled_piece l n None body =
      move (plain instr.Caught) ▸ move (plain instr.Pop) ▸ deeper 1 (closed (body (n + 1))) ▸ move (plain instr.EndHandler) ▸ move (to Always 1)
  handled_piece l n (Some y) body =
      move (plain instr.Caught) ▸ store_piece y (n + 1) l ▸ deeper 1 (ensured (body (n + 1 + 1)))
      ▸ null_piece ▸ move (store (around.variable [] y)) ▸ move (delete (around.variable [] y)) ▸ move (plain instr.EndFinally)
      ▸ move (plain instr.EndHandler) ▸ move (to Always 1)

  -- 8.5: what Enter gives goes to a target, or is dropped; and the number behind that
  abbrev pub taken_piece : Option Tgt → (n : ℕ) → Piece
  taken_piece None n = move (plain instr.Pop)
  taken_piece (Some t) n = closed (target_piece around t n [])

  abbrev pub behind_taken : Option Tgt → (n : ℕ) → ℕ
  behind_taken None n = n
  behind_taken (Some t) n = n + target_size t

  -- the items of a `with`, and its body of k acts
  abbrev pub items_piece : Items → (body : (n : ℕ) → Piece) → (k n : ℕ) → Piece
  items_piece S.no_items body k n = closed (body n)
  items_piece (S.with_item l e t r) body k n =
      value_piece e n ▸ act (plain instr.Enter) (n + size e) l false
      ▸ deeper 1 (ensured (taken_piece t (n + size e + 1) ▸ items_piece r body k (behind_taken t (n + size e + 1))))
      ▸ act (plain instr.Exit) (behind_taken t (n + size e + 1) + items_size r k) l false ▸ move (plain instr.EndFinally)

  abbrev mutual
    pub stm_piece : Stm → (n : ℕ) → Behind → Piece
    stm_piece (S.expr l e) n b = value_piece e n ▸ act (plain instr.Pop) (n + size e) l false
    stm_piece (S.assign l ts e) n b = value_piece e n ▸ assigned_piece ts (n + size e)
    stm_piece (S.augmented l p o e) n b = augmented_piece p o e l n
    stm_piece (S.annotated l p a S.absent) n b = act (plain instr.Nop) n l false
    stm_piece (S.annotated l p a (S.given e)) n b = value_piece e n ▸ assigned_piece (S.more_targets (S.single p) S.no_targets) (n + size e)
    stm_piece (S.assert l c m) n b = block (value_piece c n ▸ act (to IfTrue 0) (n + size c) l false ▸ failed_piece m l (n + size c + 1))
    stm_piece (S.pass l) n b = act (plain instr.Nop) n l false
    stm_piece (S.del l ts) n b = all_deleted_piece (all_places ts) n
    stm_piece (S.return l e) n b = returned_piece e l n
    stm_piece (S.raise l e c) n b = value_piece e n ▸ thrown_piece c l (n + size e)
    stm_piece (S.raise_again l) n b = act (plain instr.RaiseAgain) n l false
    stm_piece (S.break l) n b = leave Break n l
    stm_piece (S.continue l) n b = leave Continue n l
    stm_piece (S.import l xs) n b = imported_piece xs l n
    stm_piece (S.import_from l m xs) n b = act (operation (T.import (around.spelled m)) 0) n l false ▸ imported_from_piece xs l (n + 1)
    stm_piece (S.global l xs) n b = empty
    stm_piece (S.nonlocal l xs) n b = empty
    stm_piece (S.choice l bs els) n b =
        block (branches_piece bs n (λ m. closed (all_piece els m (behind_branches (some_branch_goes_on bs) b))))
    -- label 0 is its end; inside, label 0 is where the test fails, and behind the test the body is headed
    stm_piece (S.while l c body els) n b = block (
        block (value_piece c n ▸ act (to IfFalse 0) (n + size c) l false
        ▸ headed (looped 2 (all_piece body (tested_body n c) (needed_if (some_exits Continue body)))
        ▸ numbered n (closed (exp_piece around c n true []) ▸ act (to IfTrue 0) (n + size c) l false)))
        ▸ numbered (behind_body n c body) (closed (all_piece els (behind_body n c body) (behind_loop (some_exits Break body) b))))
    stm_piece (S.for l t it body els) n b = block (
        block (value_piece it n ▸ act (plain instr.Iter) (n + size it) l false ▸ act (to AtEnd 0) (n + size it + 1) l false
        ▸ headed (closed (target_piece around t (n + size it + 1 + 1) [])
        ▸ deeper 1 (looped 2 (all_piece body (for_body (n + size it + 1) t) (needed_if (some_exits Continue body))))
        ▸ numbered (n + size it + 1) (act (to AtEnd 1) (n + size it + 1) l true) ▸ move (to Always 0)))
        ▸ numbered (for_else (n + size it + 1) t body) (closed (all_piece els (for_else (n + size it + 1) t body) (behind_loop (some_exits Break body) b))))
    stm_piece (S.try l body hs els fin) n b = act (plain instr.Nop) n l false ▸ ensured_piece fin
        (guarded_piece hs
        (closed (all_piece body (n + 1) (in_front els (behind_tried hs fin b))))
        (numbered (try_else n body hs) (closed (all_piece els (try_else n body hs) (behind_tried hs fin b))))
        (numbered (try_handlers n body) (handlers_piece hs (try_handlers n body))))
        (numbered (try_finally n body hs els) (closed (all_piece fin (try_finally n body hs els) (needed_if (is_needed b)))))
    stm_piece (S.with l is body) n b = items_piece is (λ m. all_piece body m free) (stms_size body) n
    stm_piece (S.def l ds k c y ps a body) n b = defined_piece ds (a_function c ps) [] k n y
    stm_piece (S.class l ds k c y base body) n b = defined_piece ds (a_class c base) [] k n y
    stm_piece (S.docstring l) n b = empty

    pub all_piece : Stms → (n : ℕ) → Behind → Piece
    all_piece none n b = empty
    all_piece (more st ss) n b =
        started (starts_on st) (begun_piece st (in_front ss b) (stm_piece st n (in_front ss b))) ▸ all_piece ss (n + stm_size st) b

    -- 8.1: label 0 is the end of them all
    pub branches_piece : Branches → (n : ℕ) → (otherwise : (n : ℕ) → Piece) → Piece
    branches_piece S.no_branches n otherwise = otherwise n
    branches_piece (S.branch l c body r) n otherwise =
        block (value_piece c n ▸ act (to IfFalse 0) (n + size c) l false ▸ closed (all_piece body (tested_body n c) free) ▸ move (to Always 1))
        ▸ branches_piece r (behind_body n c body) otherwise

    -- label 0 is the end of them all
    pub handlers_piece : Handlers → (n : ℕ) → Piece
    handlers_piece S.no_handlers n = move (plain instr.Rethrow)
    handlers_piece (S.handler l S.absent y body r) n =
        block (null_piece ▸ act (plain instr.Match) n l false ▸ move (to IfFalse 0) ▸ handled_piece l n y (λ m. all_piece body m free))
        ▸ handlers_piece r (handler_body n y + stms_size body)
    handlers_piece (S.handler l (S.given c) y body r) n =
        block (value_piece c n ▸ act (plain instr.Match) (n + size c) l false ▸ move (to IfFalse 0)
        ▸ handled_piece l (n + size c) y (λ m. all_piece body m free))
        ▸ handlers_piece r (handler_body (n + size c) y + stms_size body)

  -- a block of statements gives None at its end; that of a lambda, and that of a generator expression, where label 0 is its beginning
  abbrev pub block_piece : Stms → Piece
  block_piece ss = all_piece ss 0 free ▸ null_piece ▸ move (plain instr.Return)

  abbrev pub lambda_piece : (l : ℕ) → Exp → Piece
  lambda_piece l e = value_piece e 0 ▸ act (plain instr.Return) (size e) l false

  abbrev pub yielded_piece : (l : ℕ) → (item : Exp) → (n : ℕ) → Piece
  yielded_piece l e n =
      value_piece e n ▸ act (plain instr.Yield) (n + size e) l false ▸ act (plain instr.Pop) (n + size e + 1) l false ▸ move (to Always 0)

  abbrev pub generator_piece : (l : ℕ) → (item : Exp) → (for_line : ℕ) → Tgt → Clauses → Piece
  generator_piece l e k t cs =
      block (headed (act (to AtEnd 1) 0 k false ▸ closed (target_piece around t (0 + 1) [])
      ▸ clauses_piece around cs l (0 + 1 + target_size t) 1 [] (λ n d. yielded_piece l e n)))
      ▸ null_piece ▸ move (plain instr.Return)

  -- of what a block runs
  abbrev pub code_piece : Code → Piece
  code_piece (B.of_module ss) = block_piece ss
  code_piece (B.of_function ss) = block_piece (function_body ss)
  code_piece (B.of_class ss) = block_piece ss
  code_piece (B.of_lambda l e) = lambda_piece l e
  code_piece (B.of_generator l e k t cs) = generator_piece l e k t cs
