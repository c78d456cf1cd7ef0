-- The pieces of statements and of blocks name what they are to name, where the blocks in them are there.
use Rattle.std.proofs.Common.{if◌then◌else◌, ℕ, ◌+◌, ◌<◌, Bool, true, false, cond, List, [], ◌∷◌, ◌++◌, Option, Some, None}
use Rattle.std.specs.Prelude.{◌&&◌}
use Rattle.std.specs.List.{AllByRecursion}
use Rattle.pt_base.specs.declared.operators.BinOp.{BinOp}
use Rattle.pt_tree.specs.declared.statement.Alias.{Alias}
use Rattle.pt_tree.specs.declared.expression.Constant.TheVariants as constant
use Rattle.pt_tree.specs.Syntax as S
use Rattle.pt_tree.specs.Syntax.{Name, Exp, Opt, Place, Tgt, Tgts, Decorators, Items, Stm, Stms, Branches, Handlers, none, more}
use Rattle.pt_tree.specs.Sizes.{size, place_size, target_size, params_size, stm_size, stms_size}
use Rattle.pt_tree.specs.Blocks as B
use Rattle.pt_tree.specs.Blocks.{Code, first_statement, function_body, is_string}
use Rattle.pt_instr.specs.Encoding.{code_of}
use Rattle.sem_control.specs.control.Turn as T
use Rattle.sem_control.specs.control.Turn.{Around}
use Rattle.sem_control.specs.control.Frames.{Definition, a_function, a_class}
use Rattle.sem_control.specs.control.Numbers.{tested_body, behind_body, for_body, for_else, try_handlers, try_else, try_finally, handler_body}
use Rattle.sem_control.specs.control.Statements.{places, all_places, bound_name}
use Rattle.pt_assembler.specs.Piece.{Piece}
use Rattle.sem_compile.specs.emitter.Ops.{store}
use Rattle.sem_compile.specs.emitter.ExpPiece.{made_piece, target_piece}
use Rattle.sem_compile.specs.stm_pieces.Needed.{is_silent, leaves, Behind, needed, free, is_needed, in_front}
use Rattle.sem_compile.specs.stm_pieces.StmPiece.{delete, begun_piece, value_piece, assigned_piece, augmented_piece, deleted_piece, all_deleted_piece, failed_piece, returned_piece, thrown_piece, imported_piece, imported_from_piece, bound_piece, definition_piece, defined_piece, guarded_piece, ensured_piece, handled_piece, taken_piece, behind_taken, items_piece, stm_piece, all_piece, branches_piece, handlers_piece, block_piece, yielded_piece, code_piece}
use Rattle.law_names.specs.module_names.Made.{made_code, made_exp, made_opt, made_place, made_target, made_targets, made_clauses, made_params, made_decorators, made_opt_target, made_items, made_stm, made_stms, made_branches, made_handlers}
use Rattle.law_files.proofs.code_files.Each.{split, split3, split4, both}
use Rattle.law_files.proofs.code_files.Placed.{NamesOp, NamesPiece}
use Rattle.law_files.proofs.code_files.Operations.{FreeIs, AllFree, store_names, delete_names, in_place_names, fail_names, operation_names}
use Rattle.law_files.proofs.code_files.Expressions as expressions

-- the blocks in each of some places are there
abbrev BelowPlaces : (ℕ → Type 0) → List Place → Type 0
BelowPlaces R [] = Unit {0}
BelowPlaces R (p ∷ ps) = AllByRecursion R (made_place p) × BelowPlaces R ps

both_places : (R : ℕ → Type 0) (ps qs : List Place) → BelowPlaces R ps → BelowPlaces R qs → BelowPlaces R (ps ++ qs)
both_places R [] qs h k = k
both_places R (p ∷ ps) qs h k = (h.0, both_places R ps qs h.1 k)

mutual
  in_places : (R : ℕ → Type 0) (t : Tgt) → AllByRecursion R (made_target t) → BelowPlaces R (places t)
  in_places R (S.single p) h = (h, tt)
  in_places R (S.several l f ts) h = in_all_places R ts h
  in_places R (S.starred l t) h = in_places R t h

  in_all_places : (R : ℕ → Type 0) (ts : Tgts) → AllByRecursion R (made_targets ts) → BelowPlaces R (all_places ts)
  in_all_places R S.no_targets h = tt
  in_all_places R (S.more_targets t ts) h =
      let parts = split R (made_target t) (made_targets ts) h in
      both_places R (places t) (all_places ts) (in_places R t parts.0) (in_all_places R ts parts.1)

module _ {V : Type 0} (around : Around V) (N : ℕ) (Q : Name → Type 0) (R : ℕ → Type 0) (below : (b : ℕ) → R b → b < N)
    (vars : (within : List ℕ) (x : Name) → FreeIs Q (around.variable within x).scope (around.variable within x).name)
    (caps : (b : ℕ) → R b → AllFree Q (around.captured b)) where
  abbrev Below : List ℕ → Type 0
  Below bs = AllByRecursion R bs

  value : (e : Exp) (n : ℕ) → Below (made_exp e) → NamesPiece Q N (value_piece around e n)
  value e n h = expressions.exp around N Q R below vars caps e n false [] h

  target : (t : Tgt) (n : ℕ) → Below (made_target t) → NamesPiece Q N (target_piece around t n [])
  target t n h = expressions.target around N Q R below vars caps t n [] h

  stored : (y : Name) → NamesOp Q N (store (around.variable [] y))
  stored y = let x = around.variable [] y in store_names Q N x.scope x.name (vars [] y)

  deletes : (y : Name) → NamesOp Q N (delete (around.variable [] y))
  deletes y = let x = around.variable [] y in delete_names Q N x.scope x.name (vars [] y)

  assigned : (ts : Tgts) (n : ℕ) → Below (made_targets ts) → NamesPiece Q N (assigned_piece around ts n)
  unfolding code_of
  assigned S.no_targets n h = λ w e. tt
  assigned (S.more_targets t S.no_targets) n h = target t n (split R (made_target t) [] h).0
  assigned (S.more_targets t (S.more_targets u ts)) n h =
      let parts = split R (made_target t) (made_targets (S.more_targets u ts)) h in
      (λ w e. tt, (target t n parts.0, assigned (S.more_targets u ts) (n + target_size t) parts.1))

  augmented : (p : Place) (o : BinOp) (e : Exp) (l n : ℕ) → Below (made_place p) → Below (made_exp e) → NamesPiece Q N (augmented_piece around p o e l n)
  unfolding code_of
  augmented (S.name_at k y) o e l n g h = (value (S.name k y) n tt, (value e (n + 1) h, (in_place_names Q N o, stored y)))
  augmented (S.attribute_at k a y) o e l n g h = (
    value a n g,
    (
      λ w e. tt,
      (operation_names Q N (T.get (around.spelled y)) 1 tt, (value e (n + size a + 1) h, (in_place_names Q N o, (λ w e. tt, λ w t i. (i, tt))))),
    ),
  )
  augmented (S.item_at k a q) o e l n g h =
      let parts = split R (made_exp a) (made_exp q) g in (
        value a n parts.0,
        (
          value q (n + size a) parts.1,
          (λ w e. tt, (operation_names Q N T.item 2 tt, (value e (n + size a + size q + 1) h, (in_place_names Q N o, (λ w e. tt, λ w e. tt))))),
        ),
      )

  deleted : (p : Place) (n : ℕ) → Below (made_place p) → NamesPiece Q N (deleted_piece around p n)
  unfolding code_of
  deleted (S.name_at l y) n h = deletes y
  deleted (S.attribute_at l a y) n h = (value a n h, λ w t i. (i, tt))
  deleted (S.item_at l a q) n h =
      let parts = split R (made_exp a) (made_exp q) h in
      (value a n parts.0, (value q (n + size a) parts.1, λ w e. tt))

  all_deleted : (ps : List Place) (n : ℕ) → BelowPlaces R ps → NamesPiece Q N (all_deleted_piece around ps n)
  all_deleted [] n h = tt
  all_deleted (p ∷ ps) n h = (deleted p n h.0, all_deleted ps (n + place_size p) h.1)

  failed : (m : Opt) (l n : ℕ) → Below (made_opt m) → NamesPiece Q N (failed_piece around m l n)
  failed S.absent l n h = fail_names Q N false
  failed (S.given m) l n h = (value m n h, fail_names Q N true)

  returned : (e : Opt) (l n : ℕ) → Below (made_opt e) → NamesPiece Q N (returned_piece around e l n)
  unfolding code_of
  returned S.absent l n h = (tt, λ w e. tt)
  returned (S.given e) l n h = (value e n h, λ w e. tt)

  thrown : (c : Opt) (l n : ℕ) → Below (made_opt c) → NamesPiece Q N (thrown_piece around c l n)
  unfolding code_of
  thrown S.absent l n h = λ w e. tt
  thrown (S.given c) l n h = (value c n h, λ w e. tt)

  imported : (xs : List Alias) (l n : ℕ) → NamesPiece Q N (imported_piece around xs l n)
  imported [] l n = tt
  imported (a ∷ as') l n = (operation_names Q N (T.import (around.spelled a.name)) 0 tt, (stored (bound_name a), imported as' l (n + 1 + 1)))

  imported_from : (xs : List Alias) (l n : ℕ) → NamesPiece Q N (imported_from_piece around xs l n)
  unfolding code_of
  imported_from [] l n = λ w e. tt
  imported_from (a ∷ as') l n =
      (operation_names Q N (T.import_name (around.spelled a.name)) 1 tt, (stored (bound_name a), imported_from as' l (n + 1 + 1)))

  bound : (ks : List ℕ) (l n : ℕ) (y : Name) → NamesPiece Q N (bound_piece around ks l n y)
  bound [] l n y = stored y
  bound (k ∷ ks) l n y = (operation_names Q N (T.call (T.positional ∷ [])) 1 tt, bound ks l (n + 1) y)

  -- the block of what is defined is there, and so are those in its head
  abbrev BelowMade : Definition → Type 0
  BelowMade (a_function b ps) = R b × Below (made_params ps)
  BelowMade (a_class b base) = R b × Below (made_opt base)

  class_names : (b l n : ℕ) → R b → NamesPiece Q N (made_piece around (around.captured b) (T.class b) l n false 1)
  class_names b l n h = expressions.made_names around N Q R below vars caps (around.captured b) (T.class b) l n false 1 (caps b h) (below b h)

  definition : (what : Definition) (ks : List ℕ) (l n : ℕ) (y : Name) → BelowMade what → NamesPiece Q N (definition_piece around what ks l n y)
  definition (a_function b ps) ks l n y h =
      (value (S.lambda l b ps (S.constant l constant.None)) n (h.0, h.1), bound ks l (n + params_size ps + 1) y)
  definition (a_class b S.absent) ks l n y h = (tt, (class_names b l n h.0, bound ks l (n + 1) y))
  definition (a_class b (S.given e)) ks l n y h = (value e n h.1, (class_names b l (n + size e) h.0, bound ks l (n + size e + 1) y))

  defined : (ds : Decorators) (what : Definition) (ks : List ℕ) (l n : ℕ) (y : Name) → Below (made_decorators ds) → BelowMade what
      → NamesPiece Q N (defined_piece around ds what ks l n y)
  defined S.no_decorators what ks l n y g h = definition what ks l n y h
  defined (S.decorator j e r) what ks l n y g h =
      let parts = split R (made_exp e) (made_decorators r) g in
      (value e n parts.0, defined r what (j ∷ ks) l (n + size e) y parts.1 h)

  begun : (st : Stm) (q : Behind) (p : Piece) → NamesPiece Q N p → NamesPiece Q N (begun_piece st q p)
  unfolding code_of
  begun st q p h = by (is_silent st) (leaves st && is_needed q)
    where
      by : (s b : Bool) → NamesPiece Q N (if s then begun_piece (S.global 0 []) q p else if b then begun_piece (S.raise_again 0) needed p else p)
      by true b = (λ w e. tt, h)
      by false true = (tt, (tt, h))
      by false false = h

  guarded : (hs : Handlers) (body otherwise handlers : Piece) → NamesPiece Q N body → NamesPiece Q N otherwise → NamesPiece Q N handlers
      → NamesPiece Q N (guarded_piece hs body otherwise handlers)
  guarded S.no_handlers body otherwise handlers a b c = (a, b)
  guarded (S.handler l x y q r) body otherwise handlers a b c = ((a, (b, tt)), c)

  ensured : (finally : Stms) (guarded part : Piece) → NamesPiece Q N guarded → NamesPiece Q N part → NamesPiece Q N (ensured_piece finally guarded part)
  unfolding code_of
  ensured none guarded part a b = (a, b)
  ensured (more st ss) guarded part a b = (a, (b, λ w e. tt))

  handled : (l n : ℕ) (y : Option Name) (body : ℕ → Piece) → ((m : ℕ) → NamesPiece Q N (body m)) → NamesPiece Q N (handled_piece around l n y body)
  unfolding code_of
  handled l n None body f = (λ w e. tt, (λ w e. tt, (f (n + 1), (λ w e. tt, tt))))
  handled l n (Some y) body f =
      (λ w e. tt, (stored y, (f (n + 1 + 1), (tt, (stored y, (deletes y, (λ w e. tt, (λ w e. tt, tt))))))))

  taken : (t : Option Tgt) (n : ℕ) → Below (made_opt_target t) → NamesPiece Q N (taken_piece around t n)
  unfolding code_of
  taken None n h = λ w e. tt
  taken (Some t) n h = target t n h

  items : (is : Items) (body : ℕ → Piece) → ((m : ℕ) → NamesPiece Q N (body m)) → (k n : ℕ) → Below (made_items is) → NamesPiece Q N (items_piece around is body k n)
  unfolding code_of
  items S.no_items body f k n h = f n
  items (S.with_item l e t r) body f k n h =
      let parts = split3 R (made_exp e) (made_opt_target t) (made_items r) h in (
        value e n parts.0,
        (
          λ w e. tt,
          ((taken t (n + size e + 1) parts.1.0, items r body f k (behind_taken around t (n + size e + 1)) parts.1.1), (λ w e. tt, λ w e. tt)),
        ),
      )

  mutual
    unfolding code_of

    stm : (st : Stm) (n : ℕ) (q : Behind) → Below (made_stm st) → NamesPiece Q N (stm_piece around st n q)
    stm (S.expr l e) n q h = (value e n h, λ w e. tt)
    stm (S.assign l ts e) n q h =
        let parts = split R (made_targets ts) (made_exp e) h in
        (value e n parts.1, assigned ts (n + size e) parts.0)
    stm (S.augmented l p o e) n q h =
        let parts = split R (made_place p) (made_exp e) h in
        augmented p o e l n parts.0 parts.1
    stm (S.annotated l p a S.absent) n q h = λ w e. tt
    stm (S.annotated l p a (S.given e)) n q h =
        let parts = split R (made_place p) (made_exp e) h in
        (value e n parts.1, assigned (S.more_targets (S.single p) S.no_targets) (n + size e) (both R (made_place p) [] parts.0 tt))
    stm (S.assert l c m) n q h =
        let parts = split R (made_exp c) (made_opt m) h in
        (value c n parts.0, (tt, failed m l (n + size c + 1) parts.1))
    stm (S.pass l) n q h = λ w e. tt
    stm (S.del l ts) n q h = all_deleted (all_places ts) n (in_all_places R ts h)
    stm (S.return l e) n q h = returned e l n h
    stm (S.raise l e c) n q h =
        let parts = split R (made_exp e) (made_opt c) h in
        (value e n parts.0, thrown c l (n + size e) parts.1)
    stm (S.raise_again l) n q h = λ w e. tt
    stm (S.break l) n q h = tt
    stm (S.continue l) n q h = tt
    stm (S.import l xs) n q h = imported xs l n
    stm (S.import_from l m xs) n q h = (operation_names Q N (T.import (around.spelled m)) 0 tt, imported_from xs l (n + 1))
    stm (S.global l xs) n q h = tt
    stm (S.nonlocal l xs) n q h = tt
    stm (S.choice l bs els) n q h =
        let parts = split R (made_branches bs) (made_stms els) h in
        branches bs n _ (λ m. all els m _ parts.1) parts.0
    stm (S.while l c body els) n q h =
        let parts = split3 R (made_exp c) (made_stms body) (made_stms els) h in (
          (
            value c n parts.0,
            (tt, (all body (tested_body n c) _ parts.1.0, (expressions.exp around N Q R below vars caps c n true [] parts.0, tt))),
          ),
          all els (behind_body n c body) _ parts.1.1,
        )
    stm (S.for l t it body els) n q h =
        let parts = split4 R (made_target t) (made_exp it) (made_stms body) (made_stms els) h in (
          (
            value it n parts.1.0,
            (
              λ w e. tt,
              (tt, (target t (n + size it + 1 + 1) parts.0, (all body (for_body (n + size it + 1) t) _ parts.1.1.0, (tt, tt)))),
            ),
          ),
          all els (for_else (n + size it + 1) t body) _ parts.1.1.1,
        )
    stm (S.try l body hs els fin) n q h =
        let parts = split4 R (made_stms body) (made_handlers hs) (made_stms els) (made_stms fin) h in (
          λ w e. tt,
          ensured fin _ _
              (guarded hs _ _ _ (all body (n + 1) _ parts.0) (all els (try_else n body hs) _ parts.1.1.0) (handlers hs (try_handlers n body) parts.1.0))
              (all fin (try_finally n body hs els) _ parts.1.1.1),
        )
    stm (S.with l is body) n q h =
        let parts = split R (made_items is) (made_stms body) h in
        items is _ (λ m. all body m free parts.1) (stms_size body) n parts.0
    stm (S.def l ds k b y ps a body) n q h =
        let parts = split3 R (made_decorators ds) (b ∷ []) (made_params ps) h in
        defined ds (a_function b ps) [] k n y parts.0 (parts.1.0.0, parts.1.1)
    stm (S.class l ds k b y base body) n q h =
        let parts = split3 R (made_decorators ds) (b ∷ []) (made_opt base) h in
        defined ds (a_class b base) [] k n y parts.0 (parts.1.0.0, parts.1.1)
    stm (S.docstring l) n q h = tt

    all : (ss : Stms) (n : ℕ) (q : Behind) → Below (made_stms ss) → NamesPiece Q N (all_piece around ss n q)
    all none n q h = tt
    all (more st ss) n q h =
        let parts = split R (made_stm st) (made_stms ss) h in
        (begun st (in_front ss q) (stm_piece around st n (in_front ss q)) (stm st n (in_front ss q) parts.0), all ss (n + stm_size st) q parts.1)

    branches : (bs : Branches) (n : ℕ) (otherwise : (n : ℕ) → Piece) → ((m : ℕ) → NamesPiece Q N (otherwise m)) → Below (made_branches bs)
        → NamesPiece Q N (branches_piece around bs n otherwise)
    branches S.no_branches n otherwise f h = f n
    branches (S.branch l c body r) n otherwise f h =
        let parts = split3 R (made_exp c) (made_stms body) (made_branches r) h in
        ((value c n parts.0, (tt, (all body (tested_body n c) free parts.1.0, tt))), branches r (behind_body n c body) otherwise f parts.1.1)

    handlers : (hs : Handlers) (n : ℕ) → Below (made_handlers hs) → NamesPiece Q N (handlers_piece around hs n)
    handlers S.no_handlers n h = λ w e. tt
    handlers (S.handler l S.absent y body r) n h =
        let parts = split3 R [] (made_stms body) (made_handlers r) h in (
          (tt, (λ w e. tt, (tt, handled l n y (λ m. all_piece around body m free) (λ m. all body m free parts.1.0)))),
          handlers r (handler_body n y + stms_size body) parts.1.1,
        )
    handlers (S.handler l (S.given c) y body r) n h =
        let parts = split3 R (made_exp c) (made_stms body) (made_handlers r) h in (
          (
            value c n parts.0,
            (λ w e. tt, (tt, handled l (n + size c) y (λ m. all_piece around body m free) (λ m. all body m free parts.1.0))),
          ),
          handlers r (handler_body (n + size c) y + stms_size body) parts.1.1,
        )

  of_statements : (ss : Stms) → Below (made_stms ss) → NamesPiece Q N (block_piece around ss)
  unfolding code_of
  of_statements ss h = (all ss 0 free h, (tt, λ w e. tt))

-- the documentation string of a function has no blocks

first_below : (R : ℕ → Type 0) (st : Stm) → AllByRecursion R (made_stm st) → AllByRecursion R (made_stm (first_statement st))
first_below R (S.expr l e) h = by (is_string e)
  where
    by : (b : Bool) → AllByRecursion R (made_stm (cond b (S.docstring l) (S.expr l e)))
    by true = tt
    by false = h
first_below R st h = h

body_below : (R : ℕ → Type 0) (ss : Stms) → AllByRecursion R (made_stms ss) → AllByRecursion R (made_stms (function_body ss))
body_below R S.none h = tt
body_below R (S.more st ss) h =
    let parts = split R (made_stm st) (made_stms ss) h in
    both R (made_stm (first_statement st)) (made_stms ss) (first_below R st parts.0) parts.1

module _ {V : Type 0} (around : Around V) (N : ℕ) (Q : Name → Type 0) (R : ℕ → Type 0) (below : (b : ℕ) → R b → b < N)
    (vars : (within : List ℕ) (x : Name) → FreeIs Q (around.variable within x).scope (around.variable within x).name)
    (caps : (b : ℕ) → R b → AllFree Q (around.captured b)) where
  pub code_names : (c : Code) → AllByRecursion R (made_code c) → NamesPiece Q N (code_piece around c)
  unfolding code_of
  code_names (B.of_module ss) h = of_statements around N Q R below vars caps ss h
  code_names (B.of_function ss) h = of_statements around N Q R below vars caps (function_body ss) (body_below R ss h)
  code_names (B.of_class ss) h = of_statements around N Q R below vars caps ss h
  code_names (B.of_lambda l e) h = (value around N Q R below vars caps e 0 h, λ w e. tt)
  code_names (B.of_generator l e k t cs) h =
      let parts = split3 R (made_exp e) (made_target t) (made_clauses cs) h in (
        (
          tt,
          (
            target around N Q R below vars caps t (0 + 1) parts.1.0,
            expressions.clauses around N Q R below vars caps cs l (0 + 1 + target_size t) 1 [] (λ n d. yielded_piece around l e n)
                (λ n d. expressions.yielded around N Q R below vars caps l e n parts.0) parts.1.1,
          ),
        ),
        (tt, λ w e. tt),
      )
