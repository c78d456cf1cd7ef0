-- The pieces of statements and of blocks go forward.
use Rattle.std.proofs.Common.{ℕ, ◌+◌, Bool, true, false, List, [], ◌∷◌, Option, Some, None, refl}
use Rattle.std.specs.Prelude.{◌&&◌, if◌then◌else◌}
use Rattle.pt_base.specs.declared.operators.BinOp.{BinOp}
use Rattle.pt_tree.specs.declared.statement.Alias.{Alias}
use Rattle.pt_tree.specs.declared.expression.Constant.TheVariants as constant
use Rattle.pt_tree.specs.Syntax as S
use Rattle.pt_tree.specs.Syntax.{Name, Exp, Opt, Place, Tgt, Tgts, Decorators, Items, Stm, Stms, Branches, Handlers, none, more}
use Rattle.pt_tree.specs.Sizes.{size, place_size, target_size, params_size, stm_size, stms_size}
use Rattle.pt_tree.specs.Blocks as B
use Rattle.pt_tree.specs.Blocks.{function_body}
use Rattle.sem_control.specs.control.Turn as T
use Rattle.sem_control.specs.control.Turn.{Around, Scope}
use Rattle.sem_control.specs.control.Frames.{Definition, a_function, a_class}
use Rattle.sem_control.specs.control.Numbers.{tested_body, behind_body, for_body, for_else, try_handlers, try_else, try_finally, handler_body}
use Rattle.sem_control.specs.control.Statements.{all_places}
use Rattle.pt_assembler.specs.Piece.{Piece, closed}
use Rattle.sem_compile.specs.emitter.Ops.{store_in}
use Rattle.sem_compile.specs.emitter.ExpPiece.{target_piece}
use Rattle.sem_compile.specs.stm_pieces.Needed.{leaves, is_silent, Behind, needed, free, is_needed, in_front}
use Rattle.sem_compile.specs.stm_pieces.StmPiece.{delete_in, begun_piece, value_piece, assigned_piece, augmented_piece, deleted_piece, all_deleted_piece, failed_piece, returned_piece, thrown_piece, imported_piece, imported_from_piece, bound_piece, definition_piece, defined_piece, guarded_piece, ensured_piece, handled_piece, taken_piece, items_piece, stm_piece, all_piece, branches_piece, handlers_piece, block_piece}
use Rattle.law_pieces.specs.forward_pieces.Forward as F
use Rattle.law_pieces.specs.forward_pieces.Forward.{Lies, Silent, Forward}
use Rattle.law_pieces.specs.forward_pieces.Laws.{PiecesGoForward}
use Rattle.law_pieces.proofs.forward_pieces.Expressions as expressions
use Rattle.law_pieces.proofs.forward_pieces.Expressions.{near_target, forward, clauses, made_forward}

store_silent : (s : Scope) (x : Name) (ls : List Lies) → Silent (store_in s x) ls
store_silent T.local x ls = λ i. tt
store_silent T.cell x ls = λ i. tt
store_silent T.free x ls = λ i. tt
store_silent T.global x ls = λ i. tt
store_silent T.of_class x ls = λ i. tt

delete_silent : (s : Scope) (x : Name) (ls : List Lies) → Silent (delete_in s x) ls
delete_silent T.local x ls = λ i. tt
delete_silent T.cell x ls = λ i. tt
delete_silent T.free x ls = λ i. tt
delete_silent T.global x ls = λ i. tt
delete_silent T.of_class x ls = λ i. tt

module _ {V : Type 0} (around : Around V) where
  value : (e : Exp) (n : ℕ) (ls : List Lies) → Forward (value_piece around e n) ls
  value e n ls = forward around e n false [] []

  target : (t : Tgt) (n : ℕ) → Forward (target_piece around t n []) []
  target t n = expressions.target around t n [] []

  assigned : (ts : Tgts) (n : ℕ) (ls : List Lies) → Forward (assigned_piece around ts n) ls
  assigned S.no_targets n ls = tt
  assigned (S.more_targets t S.no_targets) n ls = target t n
  assigned (S.more_targets t (S.more_targets u ts)) n ls = (tt, (target t n, assigned (S.more_targets u ts) (n + target_size t) ls))

  augmented : (p : Place) (o : BinOp) (e : Exp) (l n : ℕ) (ls : List Lies) → Forward (augmented_piece around p o e l n) ls
  augmented (S.name_at k y) o e l n ls = (value (S.name k y) n ls, (value e (n + 1) ls, (tt, tt)))
  augmented (S.attribute_at k a y) o e l n ls = (value a n ls, (tt, (tt, (value e (n + size a + 1) ls, (tt, (tt, tt))))))
  augmented (S.item_at k a q) o e l n ls =
      (value a n ls, (value q (n + size a) ls, (tt, (tt, (value e (n + size a + size q + 1) ls, (tt, (tt, tt)))))))

  deleted : (p : Place) (n : ℕ) (ls : List Lies) → Forward (deleted_piece around p n) ls
  deleted (S.name_at l y) n ls = tt
  deleted (S.attribute_at l a y) n ls = (value a n ls, tt)
  deleted (S.item_at l a q) n ls = (value a n ls, (value q (n + size a) ls, tt))

  all_deleted : (ps : List Place) (n : ℕ) (ls : List Lies) → Forward (all_deleted_piece around ps n) ls
  all_deleted [] n ls = tt
  all_deleted (p ∷ ps) n ls = (deleted p n ls, all_deleted ps (n + place_size p) ls)

  failed : (m : Opt) (l n : ℕ) (ls : List Lies) → Forward (failed_piece around m l n) ls
  failed S.absent l n ls = tt
  failed (S.given m) l n ls = (value m n ls, tt)

  returned : (e : Opt) (l n : ℕ) (ls : List Lies) → Forward (returned_piece around e l n) ls
  returned S.absent l n ls = (tt, tt)
  returned (S.given e) l n ls = (value e n ls, tt)

  thrown : (c : Opt) (l n : ℕ) (ls : List Lies) → Forward (thrown_piece around c l n) ls
  thrown S.absent l n ls = tt
  thrown (S.given c) l n ls = (value c n ls, tt)

  imported : (xs : List Alias) (l n : ℕ) (ls : List Lies) → Forward (imported_piece around xs l n) ls
  imported [] l n ls = tt
  imported (a ∷ as') l n ls = (tt, (tt, imported as' l (n + 1 + 1) ls))

  imported_from : (xs : List Alias) (l n : ℕ) (ls : List Lies) → Forward (imported_from_piece around xs l n) ls
  imported_from [] l n ls = tt
  imported_from (a ∷ as') l n ls = (tt, (tt, imported_from as' l (n + 1 + 1) ls))

  bound : (ks : List ℕ) (l n : ℕ) (y : Name) (ls : List Lies) → Forward (bound_piece around ks l n y) ls
  bound [] l n y ls = tt
  bound (k ∷ ks) l n y ls = (tt, bound ks l (n + 1) y ls)

  definition : (what : Definition) (ks : List ℕ) (l n : ℕ) (y : Name) (ls : List Lies) → Forward (definition_piece around what ks l n y) ls
  definition (a_function b ps) ks l n y ls = (value (S.lambda l b ps (S.constant l constant.None)) n ls, bound ks l (n + params_size ps + 1) y ls)
  definition (a_class b S.absent) ks l n y ls = (tt, (made_forward around (around.captured b) (T.class b) l n false 1 ls, bound ks l (n + 1) y ls))
  definition (a_class b (S.given e)) ks l n y ls =
      (value e n ls, (made_forward around (around.captured b) (T.class b) l (n + size e) false 1 ls, bound ks l (n + size e + 1) y ls))

  defined : (ds : Decorators) (what : Definition) (ks : List ℕ) (l n : ℕ) (y : Name) (ls : List Lies) → Forward (defined_piece around ds what ks l n y) ls
  defined S.no_decorators what ks l n y ls = definition what ks l n y ls
  defined (S.decorator j e r) what ks l n y ls = (value e n ls, defined r what (j ∷ ks) l (n + size e) y ls)

  begun : (st : Stm) (q : Behind) (p : Piece) → Forward p [] → Forward (begun_piece st q p) []
  begun st q p h = by (is_silent st) (leaves st && is_needed q)
    where
      by : (s b : Bool) → Forward (if s then begun_piece (S.global 0 []) q p else if b then begun_piece (S.raise_again 0) needed p else p) []
      by true b = (tt, h)
      by false true = (tt, (tt, h))
      by false false = h

  guarded : (hs : Handlers) (body otherwise handlers : Piece) → ((ls : List Lies) → Forward body ls) → ((ls : List Lies) → Forward otherwise ls)
      → ((ls : List Lies) → Forward handlers (F.ahead ∷ ls)) → (ls : List Lies) → Forward (guarded_piece hs body otherwise handlers) ls
  guarded S.no_handlers body otherwise handlers a b c ls = (a ls, b ls)
  guarded (S.handler l x y q r) body otherwise handlers a b c ls = ((a [], (b (F.ahead ∷ ls), tt)), c ls)

  ensured : (fin : Stms) (guarded part : Piece) → ((ls : List Lies) → Forward guarded ls) → Forward part [] → Forward (ensured_piece fin guarded part) []
  ensured none guarded part a b = (a [], b)
  ensured (more st ss) guarded part a b = (a [], (b, tt))

  handled : (l n : ℕ) (y : Option Name) (body : ℕ → Piece) → ((m : ℕ) → Forward (body m) []) → (ls : List Lies)
      → Forward (handled_piece around l n y body) (F.ahead ∷ F.ahead ∷ ls)
  handled l n None body f ls = (tt, (tt, (f (n + 1), (tt, tt))))
  handled l n (Some y) body f ls =
      let x = around.variable [] y in
      let ks = F.ahead ∷ F.ahead ∷ ls in
      (tt, (tt, (f (n + 1 + 1), (tt, (store_silent x.scope x.name ks, (delete_silent x.scope x.name ks, (tt, (tt, tt))))))))

  taken : (t : Option Tgt) (n : ℕ) → Forward (taken_piece around t n) []
  taken None n = tt
  taken (Some t) n = target t n

  items : (is : Items) (body : ℕ → Piece) → ((m : ℕ) → Forward (body m) []) → (k n : ℕ) (ls : List Lies) → Forward (items_piece around is body k n) ls
  items S.no_items body f k n ls = f n
  items (S.with_item l e t r) body f k n ls = (value e n ls, (tt, ((taken t (n + size e + 1), items r body f k _ []), (tt, tt))))

  mutual
    stm : (st : Stm) (n : ℕ) (q : Behind) → Forward (stm_piece around st n q) []
    stm (S.expr l e) n q = (value e n [], tt)
    stm (S.assign l ts e) n q = (value e n [], assigned ts (n + size e) [])
    stm (S.augmented l p o e) n q = augmented p o e l n []
    stm (S.annotated l p a S.absent) n q = tt
    stm (S.annotated l p a (S.given e)) n q = (value e n [], assigned (S.more_targets (S.single p) S.no_targets) (n + size e) [])
    stm (S.assert l c m) n q = (value c n (F.ahead ∷ []), (tt, failed m l (n + size c + 1) (F.ahead ∷ [])))
    stm (S.pass l) n q = tt
    stm (S.del l ts) n q = all_deleted (all_places ts) n []
    stm (S.return l e) n q = returned e l n []
    stm (S.raise l e c) n q = (value e n [], thrown c l (n + size e) [])
    stm (S.raise_again l) n q = tt
    stm (S.break l) n q = tt
    stm (S.continue l) n q = tt
    stm (S.import l xs) n q = imported xs l n []
    stm (S.import_from l m xs) n q = (tt, imported_from xs l (n + 1) [])
    stm (S.global l xs) n q = tt
    stm (S.nonlocal l xs) n q = tt
    stm (S.choice l bs els) n q = branches bs n _ (λ m. all els m _) []
    stm (S.while l c body els) n q = (
      (value c n (F.ahead ∷ F.ahead ∷ []), (tt, (F.elsewhere, tt, ((refl, all body (tested_body n c) _), (forward around c n true [] [], tt))))),
      all els (behind_body n c body) _,
    )
    -- behind the head of the loop a target is bound, which begins with an act
    stm (S.for l t it body els) n q = (
      (
        value it n (F.ahead ∷ F.ahead ∷ []),
        (
          tt,
          (
            tt,
            (F.near, near_target around t (n + size it + 1 + 1) [] _, (target t (n + size it + 1 + 1), ((refl, all body (for_body (n + size it + 1) t) _), (tt, tt)))),
          ),
        ),
      ),
      all els (for_else (n + size it + 1) t body) _,
    )
    stm (S.try l body hs els fin) n q = (
      tt,
      ensured fin _ _
          (guarded hs _ _ _ (λ ls. all body (n + 1) _) (λ ls. all els (try_else n body hs) _) (λ ls. handlers hs (try_handlers n body) ls))
          (all fin (try_finally n body hs els) _),
    )
    stm (S.with l is body) n q = items is _ (λ m. all body m free) (stms_size body) n []
    stm (S.def l ds k c y ps a body) n q = defined ds (a_function c ps) [] k n y []
    stm (S.class l ds k c y base body) n q = defined ds (a_class c base) [] k n y []
    stm (S.docstring l) n q = tt

    all : (ss : Stms) (n : ℕ) (q : Behind) → Forward (all_piece around ss n q) []
    all none n q = tt
    all (more st ss) n q = (begun st (in_front ss q) _ (stm st n (in_front ss q)), all ss (n + stm_size st) q)

    branches : (bs : Branches) (n : ℕ) (otherwise : ℕ → Piece) → ((m : ℕ) → Forward (otherwise m) []) → (ls : List Lies)
        → Forward (branches_piece around bs n (λ m. closed (otherwise m))) (F.ahead ∷ ls)
    branches S.no_branches n otherwise f ls = f n
    branches (S.branch l c body r) n otherwise f ls = (
      (value c n (F.ahead ∷ F.ahead ∷ ls), (tt, (all body (tested_body n c) free, tt))),
      branches r (behind_body n c body) otherwise f ls,
    )

    handlers : (hs : Handlers) (n : ℕ) (ls : List Lies) → Forward (handlers_piece around hs n) (F.ahead ∷ ls)
    handlers S.no_handlers n ls = tt
    handlers (S.handler l S.absent y body r) n ls =
        ((tt, (tt, (tt, handled l n y _ (λ m. all body m free) ls))), handlers r (handler_body n y + stms_size body) ls)
    handlers (S.handler l (S.given c) y body r) n ls = (
      (value c n (F.ahead ∷ F.ahead ∷ ls), (tt, (tt, handled l (n + size c) y _ (λ m. all body m free) ls))),
      handlers r (handler_body (n + size c) y + stms_size body) ls,
    )

  of_statements : (ss : Stms) → Forward (block_piece around ss) []
  of_statements ss = (all ss 0 free, (tt, tt))

pub pieces_go_forward : {V : Type 0} → PiecesGoForward V
pieces_go_forward {V} around (B.of_module ss) = of_statements around ss
pieces_go_forward {V} around (B.of_function ss) = of_statements around (function_body ss)
pieces_go_forward {V} around (B.of_class ss) = of_statements around ss
pieces_go_forward {V} around (B.of_lambda l e) = (value around e 0 [], tt)
pieces_go_forward {V} around (B.of_generator l e k t cs) = (
  (
    F.near,
    tt,
    (
      tt,
      (
        target around t (0 + 1),
        clauses around cs l (0 + 1 + target_size t) 1 [] _ (F.ahead ∷ []) (λ n d ls. (value around e n (F.near ∷ ls), (tt, (tt, tt)))),
      ),
    ),
  ),
  (tt, tt),
)
