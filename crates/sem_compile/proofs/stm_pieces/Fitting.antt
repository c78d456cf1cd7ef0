-- The pieces of blocks fit: each instruction does something, and exits of loops stand in loops.
use Rattle.std.proofs.Common.{◌≡◌, ℕ, ◌+◌, Bool, true, false, List, [], ◌∷◌, Option, Some, None, refl, sym, ◌∙◌, subst}
use Rattle.std.specs.Prelude.{◌&&◌, ◌||◌, if◌then◌else◌}
use Rattle.pt_base.specs.declared.operators.BinOp.{BinOp}
use Rattle.pt_tree.specs.declared.statement.Alias.{Alias}
use Rattle.pt_tree.specs.Syntax as S
use Rattle.pt_tree.specs.Syntax.{Name, Exp, Opt, Place, Tgt, Tgts, Decorators, Items, Stm, Stms, Branches, Handlers, none, more}
use Rattle.pt_tree.specs.Sizes.{size, place_size, target_size, stm_size, stms_size}
use Rattle.pt_tree.specs.Blocks as B
use Rattle.pt_tree.specs.Blocks.{function_body}
use Rattle.pt_tree.specs.declared.expression.Constant.TheVariants as constant
use Rattle.sem_control.specs.control.Turn as T
use Rattle.sem_control.specs.control.Turn.{Around}
use Rattle.sem_control.specs.control.Frames.{Definition, a_function, a_class}
use Rattle.sem_control.specs.control.Numbers.{tested_body, behind_body, for_body, for_else, try_handlers, try_else, try_finally, handler_body}
use Rattle.sem_control.specs.control.Statements.{all_places, bound_name}
use Rattle.pt_assembler.specs.declared.operation.Exit.{Exit}
use Rattle.pt_assembler.specs.declared.operation.Exit.TheVariants.{Break, Continue}
use Rattle.pt_assembler.specs.Piece.{Piece, closed}
use Rattle.pt_assembler.specs.PieceAt.{IsDone, Fits}
use Rattle.sem_compile.specs.emitter.Ops.{store}
use Rattle.sem_compile.specs.emitter.ExpPiece.{made_piece, exp_piece, target_piece, clauses_piece}
use Rattle.sem_compile.specs.stm_pieces.Needed.{exits, some_exits, some_branch_exits, some_handler_exits, leaves, is_silent, Behind, needed, free, is_needed, in_front}
use Rattle.sem_compile.specs.stm_pieces.StmPiece.{begun_piece, value_piece, assigned_piece, augmented_piece, deleted_piece, all_deleted_piece, failed_piece, returned_piece, thrown_piece, imported_piece, imported_from_piece, bound_piece, definition_piece, defined_piece, guarded_piece, handled_piece, items_piece, stm_piece, all_piece, branches_piece, handlers_piece, block_piece, yielded_piece}
use Rattle.sem_compile.specs.stm_pieces.Names.{TakesCells, Value_named, Opt_named, Changed_named, All_deleted_named, Definition_named, Parameters_named, Items_named, Place_named, Target_named, Targets_named, Stm_named, All_named, Branches_named, Handlers_named}
use Rattle.sem_compile.specs.stm_pieces.Laws.{PiecesFit}
use Rattle.sem_compile.proofs.stm_pieces.Plain as plain
use Rattle.sem_compile.proofs.stm_pieces.Plain.{plain_fits, store_done, delete_done}

-- what exits a loop stands in one
abbrev InLoop : (Exit → Bool) → Bool → Type 0
InLoop f g = (e : Exit) → f e ≡ true → g ≡ true

left : (a b : Bool) → a ≡ true → (a || b) ≡ true
left true b e = refl
left false b e = absurd cc

right : (a b : Bool) → b ≡ true → (a || b) ≡ true
right true b e = refl
right false b e = e

module _ {V : Type 0} (around : Around V) (cells : TakesCells around) where
  value : (e : Exp) (n : ℕ) → Value_named around e n → (es : List Bool) (g : Bool) → Fits (value_piece around e n) es g
  value e n h es g = plain_fits (exp_piece around e n false []) (plain.plain around cells e n false [] h) [] g

  target : (t : Tgt) (n : ℕ) → Target_named around t n [] → (g : Bool) → Fits (target_piece around t n []) [] g
  target t n h g = plain_fits (target_piece around t n []) (plain.target around cells t n [] h) [] g

  stored : (y : Name) → IsDone (store (around.variable [] y))
  stored y = let x = around.variable [] y in store_done x.scope x.name

  assigned : (ts : Tgts) (n : ℕ) → Targets_named around ts n [] → (es : List Bool) (g : Bool) → Fits (assigned_piece around ts n) es g
  assigned S.no_targets n h es g = tt
  assigned (S.more_targets t S.no_targets) n h es g = target t n h.0 g
  assigned (S.more_targets t (S.more_targets u ts)) n h es g =
      (tt, (target t n h.0 g, assigned (S.more_targets u ts) (n + target_size t) h.1 es g))

  augmented : (p : Place) (o : BinOp) (e : Exp) (l n : ℕ) → Changed_named around p e n → (es : List Bool) (g : Bool)
      → Fits (augmented_piece around p o e l n) es g
  augmented (S.name_at k y) o e l n h es g = (value (S.name k y) n tt es g, (value e (n + 1) h es g, (tt, stored y)))
  augmented (S.attribute_at k a y) o e l n (h, i) es g = (value a n h es g, (tt, (tt, (value e (n + size a + 1) i es g, (tt, (tt, tt))))))
  augmented (S.item_at k a q) o e l n (h, i, j) es g =
      (value a n h es g, (value q (n + size a) i es g, (tt, (tt, (value e (n + size a + size q + 1) j es g, (tt, (tt, tt)))))))

  deleted : (p : Place) (n : ℕ) → Place_named around p n [] → (es : List Bool) (g : Bool) → Fits (deleted_piece around p n) es g
  deleted (S.name_at l y) n h es g = let x = around.variable [] y in delete_done x.scope x.name
  deleted (S.attribute_at l a y) n h es g = (value a n h es g, tt)
  deleted (S.item_at l a q) n (h, i) es g = (value a n h es g, (value q (n + size a) i es g, tt))

  all_deleted : (ps : List Place) (n : ℕ) → All_deleted_named around ps n → (es : List Bool) (g : Bool) → Fits (all_deleted_piece around ps n) es g
  all_deleted [] n h es g = tt
  all_deleted (p ∷ ps) n (h, i) es g = (deleted p n h es g, all_deleted ps (n + place_size p) i es g)

  failed : (m : Opt) (l n : ℕ) → Opt_named around m n → (es : List Bool) (g : Bool) → Fits (failed_piece around m l n) es g
  failed S.absent l n h es g = tt
  failed (S.given m) l n h es g = (value m n h es g, tt)

  returned : (e : Opt) (l n : ℕ) → Opt_named around e n → (es : List Bool) (g : Bool) → Fits (returned_piece around e l n) es g
  returned S.absent l n h es g = (tt, tt)
  returned (S.given e) l n h es g = (value e n h es g, tt)

  thrown : (c : Opt) (l n : ℕ) → Opt_named around c n → (es : List Bool) (g : Bool) → Fits (thrown_piece around c l n) es g
  thrown S.absent l n h es g = tt
  thrown (S.given c) l n h es g = (value c n h es g, tt)

  imported : (xs : List Alias) (l n : ℕ) (es : List Bool) (g : Bool) → Fits (imported_piece around xs l n) es g
  imported [] l n es g = tt
  imported (a ∷ as') l n es g = (tt, (stored (bound_name a), imported as' l (n + 1 + 1) es g))

  imported_from : (xs : List Alias) (l n : ℕ) (es : List Bool) (g : Bool) → Fits (imported_from_piece around xs l n) es g
  imported_from [] l n es g = tt
  imported_from (a ∷ as') l n es g = (tt, (stored (bound_name a), imported_from as' l (n + 1 + 1) es g))

  bound : (ks : List ℕ) (l n : ℕ) (y : Name) (es : List Bool) (g : Bool) → Fits (bound_piece around ks l n y) es g
  bound [] l n y es g = stored y
  bound (k ∷ ks) l n y es g = (tt, bound ks l (n + 1) y es g)

  -- what is asked of the names of what is defined
  abbrev Made : Definition → ℕ → Type 0
  Made (a_function b ps) n = Parameters_named around ps n
  Made (a_class b base) n = Opt_named around base n

  class_fits : (b l n : ℕ) (es : List Bool) (g : Bool)
      → Fits (made_piece around (around.captured b) (T.class b) l n false 1) es g
  class_fits b l n es g = plain_fits (made_piece around (around.captured b) (T.class b) l n false 1) (plain.made_plain around cells (around.captured b) (T.class b) l n false 1 (cells b) tt) es g

  definition : (what : Definition) (ks : List ℕ) (l n : ℕ) (y : Name) → Made what n → (es : List Bool) (g : Bool)
      → Fits (definition_piece around what ks l n y) es g
  definition (a_function b (S.parameters ps s qs d)) ks l n y h es g =
      (value (S.lambda l b (S.parameters ps s qs d) (S.constant l constant.None)) n h es g, bound ks l _ y es g)
  definition (a_class b S.absent) ks l n y h es g = (tt, (class_fits b l n es g, bound ks l _ y es g))
  definition (a_class b (S.given e)) ks l n y h es g = (value e n h es g, (class_fits b l (n + size e) es g, bound ks l _ y es g))

  defined : (ds : Decorators) (what : Definition) (ks : List ℕ) (l n : ℕ) (y : Name) → Definition_named around ds (Made what) n → (es : List Bool) (g : Bool)
      → Fits (defined_piece around ds what ks l n y) es g
  defined S.no_decorators what ks l n y h es g = definition what ks l n y h es g
  defined (S.decorator j e r) what ks l n y (h, i) es g = (value e n h es g, defined r what (j ∷ ks) l (n + size e) y i es g)

  -- pieces of statements are laid where no label from around is seen

  begun : (st : Stm) (q : Behind) (p : Piece) (g : Bool) → Fits p [] g → Fits (begun_piece st q p) [] g
  begun st q p g h = by (is_silent st) (leaves st && is_needed q)
    where
      by : (s b : Bool) → Fits (if s then begun_piece (S.global 0 []) q p else if b then begun_piece (S.raise_again 0) needed p else p) [] g
      by true b = (tt, h)
      by false true = (tt, (tt, h))
      by false false = h

  guarded : (hs : Handlers) (body otherwise handlers : Piece) (g : Bool) → Fits body [] g → ((es : List Bool) → Fits otherwise es g)
      → ((es : List Bool) → Fits handlers (true ∷ es) g) → (es : List Bool) → ((ks : List Bool) → Fits body ks g) → Fits (guarded_piece hs body otherwise handlers) es g
  guarded S.no_handlers body otherwise handlers g a b c es d = (d es, b es)
  guarded (S.handler l x y q r) body otherwise handlers g a b c es d = ((a, (b (true ∷ es), tt)), c es)

  handled : (l n : ℕ) (y : Option Name) (body : ℕ → Piece) (g : Bool) → ((m : ℕ) → m ≡ handler_body n y → Fits (body m) [] g) → (es : List Bool)
      → Fits (handled_piece around l n y body) es g
  handled l n None body g f es = (tt, (tt, (f (n + 1) refl, (tt, tt))))
  handled l n (Some y) body g f es =
      let x = around.variable [] y in
      (tt, (stored y, (f (n + 1 + 1) refl, (tt, (stored y, (delete_done x.scope x.name, (tt, (tt, tt))))))))

  items : (is : Items) (body : ℕ → Piece) (N : ℕ → Type 0) (g : Bool) → ((m : ℕ) → N m → Fits (body m) [] g) → (k n : ℕ) → Items_named around is N n
      → (es : List Bool) → Fits (items_piece around is body k n) es g
  items S.no_items body N g f k n h es = f n h
  items (S.with_item l e None r) body N g f k n (h, i) es =
      (value e n h es g, (tt, ((tt, items r body N g f k (n + size e + 1) i []), (tt, tt))))
  items (S.with_item l e (Some t) r) body N g f k n (h, j, i) es =
      (value e n h es g, (tt, ((target t (n + size e + 1) j g, items r body N g f k (n + size e + 1 + target_size t) i []), (tt, tt))))

  mutual
    stm : (st : Stm) (n : ℕ) (q : Behind) (g : Bool) → Stm_named around st n → InLoop (λ e. exits e st) g → Fits (stm_piece around st n q) [] g
    stm (S.expr l e) n q g h x = (value e n h [] g, tt)
    stm (S.assign l ts e) n q g (a, b) x = (value e n a [] g, assigned ts (n + size e) b [] g)
    stm (S.augmented l p o e) n q g h x = augmented p o e l n h [] g
    stm (S.annotated l p a S.absent) n q g h x = tt
    stm (S.annotated l p c (S.given e)) n q g (a, b) x =
        (value e n a [] g, assigned (S.more_targets (S.single p) S.no_targets) (n + size e) (b, tt) [] g)
    stm (S.assert l c m) n q g (a, b) x = (value c n a (true ∷ []) g, (tt, failed m l (n + size c + 1) b (true ∷ []) g))
    stm (S.pass l) n q g h x = tt
    stm (S.del l ts) n q g h x = all_deleted (all_places ts) n h [] g
    stm (S.return l e) n q g h x = returned e l n h [] g
    stm (S.raise l e c) n q g (a, b) x = (value e n a [] g, thrown c l (n + size e) b [] g)
    stm (S.raise_again l) n q g h x = tt
    stm (S.break l) n q g h x = x Break refl
    stm (S.continue l) n q g h x = x Continue refl
    stm (S.import l xs) n q g h x = imported xs l n [] g
    stm (S.import_from l m xs) n q g h x = (tt, imported_from xs l (n + 1) [] g)
    stm (S.global l xs) n q g h x = tt
    stm (S.nonlocal l xs) n q g h x = tt
    stm (S.choice l bs els) n q g h x =
        branches bs els _ g (λ m i. all els m _ g i (λ e t. x e (right (some_branch_exits e bs) (some_exits e els) t))) n
        (λ e t. x e (left (some_branch_exits e bs) (some_exits e els) t)) h []
    stm (S.while l c body els) n q g (a, b, d) x = (
      (value c n a [] g, (tt, ((refl, all body (tested_body n c) _ true b (λ e t. refl)), (plain_fits (exp_piece around c n true []) (plain.plain around cells c n true [] a) [] g, tt)))),
      all els (behind_body n c body) _ g d x,
    )
    stm (S.for l t it body els) n q g (a, c, b, d) x = (
      (value it n a [] g, (tt, (tt, (target t (n + size it + 1 + 1) c g, ((refl, all body (for_body (n + size it + 1) t) _ true b (λ e t. refl)), (tt, tt)))))),
      all els (for_else (n + size it + 1) t body) _ g d x,
    )
    stm (S.try l body hs els none) n q g (a, b, c, d) x = (
      tt,
      (
        guarded hs _ _ _ g (all body (n + 1) _ g a (λ e t. x e (left (some_exits e body) _ t)))
            (λ es. all els (try_else n body hs) _ g c
            (λ e t. x e (right (some_exits e body) _ (right (some_handler_exits e hs) _ (left (some_exits e els) (some_exits e none) t)))))
            (λ es. handlers hs (try_handlers n body) g b (λ e t. x e (right (some_exits e body) _ (left (some_handler_exits e hs) _ t))) es)
            [] (λ es. all body (n + 1) _ g a (λ e t. x e (left (some_exits e body) _ t))),
        tt,
      ),
    )
    stm (S.try l body hs els (more u us)) n q g (a, b, c, d) x = (
      tt,
      (
        guarded hs _ _ _ g (all body (n + 1) _ g a (λ e t. x e (left (some_exits e body) _ t)))
            (λ es. all els (try_else n body hs) _ g c
            (λ e t. x e (right (some_exits e body) _ (right (some_handler_exits e hs) _ (left (some_exits e els) (some_exits e (more u us)) t)))))
            (λ es. handlers hs (try_handlers n body) g b (λ e t. x e (right (some_exits e body) _ (left (some_handler_exits e hs) _ t))) es)
            [] (λ es. all body (n + 1) _ g a (λ e t. x e (left (some_exits e body) _ t))),
        (
          all (more u us) (try_finally n body hs els) _ g d
              (λ e t. x e (right (some_exits e body) _ (right (some_handler_exits e hs) _ (right (some_exits e els) (some_exits e (more u us)) t)))),
          tt,
        ),
      ),
    )
    stm (S.with l is body) n q g h x = items is _ (λ m. All_named around body m) g (λ m i. all body m free g i x) (stms_size body) n h []
    stm (S.def l ds k b y ps c body) n q g h x = defined ds (a_function b ps) [] k n y h [] g
    stm (S.class l ds k b y base body) n q g h x = defined ds (a_class b base) [] k n y h [] g
    stm (S.docstring l) n q g h x = tt

    all : (ss : Stms) (n : ℕ) (q : Behind) (g : Bool) → All_named around ss n → InLoop (λ e. some_exits e ss) g → Fits (all_piece around ss n q) [] g
    all none n q g h x = tt
    all (more st ss) n q g (a, b) x = (
      begun st (in_front ss q) _ g (stm st n (in_front ss q) g a (λ e t. x e (left (exits e st) (some_exits e ss) t))),
      all ss (n + stm_size st) q g b (λ e t. x e (right (exits e st) (some_exits e ss) t)),
    )

    branches : (bs : Branches) (els : Stms) (q : Behind) (g : Bool) → ((m : ℕ) → All_named around els m → Fits (all_piece around els m q) [] g)
        → (n : ℕ) → InLoop (λ e. some_branch_exits e bs) g → Branches_named around bs (λ m. All_named around els m) n → (es : List Bool)
        → Fits (branches_piece around bs n (λ m. closed (all_piece around els m q))) (true ∷ es) g
    branches S.no_branches els q g f n x h es = f n h
    branches (S.branch l c body r) els q g f n x (a, b, d) es = (
      (value c n a [] g, (tt, (all body (tested_body n c) free g b (λ e t. x e (left (some_exits e body) (some_branch_exits e r) t)), tt))),
      branches r els q g f (behind_body n c body) (λ e t. x e (right (some_exits e body) (some_branch_exits e r) t)) d es,
    )

    handlers : (hs : Handlers) (n : ℕ) (g : Bool) → Handlers_named around hs n → InLoop (λ e. some_handler_exits e hs) g → (es : List Bool)
        → Fits (handlers_piece around hs n) (true ∷ es) g
    handlers S.no_handlers n g h x es = tt
    handlers (S.handler l S.absent y body r) n g (b, d) x es = (
      (
        tt,
        (
          tt,
          (
            tt,
            handled l n y _ g
                (λ m e. subst (λ k. Fits (all_piece around body k free) [] g) (sym e)
                (all body (handler_body n y) free g b (λ e t. x e (left (some_exits e body) (some_handler_exits e r) t)))) _,
          ),
        ),
      ),
      handlers r (handler_body n y + stms_size body) g d (λ e t. x e (right (some_exits e body) (some_handler_exits e r) t)) es,
    )
    handlers (S.handler l (S.given c) y body r) n g (a, b, d) x es = (
      (
        value c n a [] g,
        (
          tt,
          (
            tt,
            handled l (n + size c) y _ g
                (λ m e. subst (λ k. Fits (all_piece around body k free) [] g) (sym e)
                (all body (handler_body (n + size c) y) free g b (λ e t. x e (left (some_exits e body) (some_handler_exits e r) t)))) _,
          ),
        ),
      ),
      handlers r (handler_body (n + size c) y + stms_size body) g d (λ e t. x e (right (some_exits e body) (some_handler_exits e r) t)) es,
    )

  never_exits : (ss : Stms) → ((e : Exit) → some_exits e ss ≡ false) → InLoop (λ e. some_exits e ss) false
  never_exits ss h e t = sym (h e) ∙ t

  of_statements : (ss : Stms) → ((e : Exit) → some_exits e ss ≡ false) → All_named around ss 0 → Fits (block_piece around ss) [] false
  of_statements ss h a = (all ss 0 free false a (never_exits ss h), (tt, tt))

pub pieces_fit : {V : Type 0} → PiecesFit V
pieces_fit {V} around (B.of_module ss) cells h a = of_statements around cells ss h a
pieces_fit {V} around (B.of_function ss) cells h a = of_statements around cells (function_body ss) h a
pieces_fit {V} around (B.of_class ss) cells h a = of_statements around cells ss h a
pieces_fit {V} around (B.of_lambda l e) cells h a = (value around cells e 0 a [] false, tt)
pieces_fit {V} around (B.of_generator l e k t cs) cells h a = (
  (
    tt,
    (
      target around cells t (0 + 1) a.0 false,
      plain_fits (clauses_piece around cs l (0 + 1 + target_size t) 1 [] (λ n d. yielded_piece around l e n))
          (plain.clauses_of_generator around cells cs e l (0 + 1 + target_size t) 1 a.1) (false ∷ true ∷ []) false,
    ),
  ),
  (tt, tt),
)
