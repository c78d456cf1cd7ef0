-- The same of the pieces of statements that hold no other; and of no statement has an act a number
-- below the first.
use Rattle.std.proofs.Common.{ℕ, ◌+◌, Bool, true, false, ◌&&◌, if◌then◌else◌, List, [], ◌∷◌, Option, Some, None, refl}
use Rattle.pt_base.specs.declared.operators.BinOp.{BinOp}
use Rattle.pt_tree.specs.declared.expression.Constant.TheVariants as constant
use Rattle.pt_tree.specs.declared.statement.Alias.{Alias}
use Rattle.pt_tree.specs.Syntax as S
use Rattle.pt_tree.specs.Syntax.{Name, Exp, Opt, Place, Tgt, Tgts, Decorators, Items, Stm, Stms, Branches, Handlers, none, more}
use Rattle.pt_tree.specs.Sizes.{size, place_size, target_size, params_size, items_size, stm_size, stms_size, handlers_size}
use Rattle.sem_control.specs.control.Turn as T
use Rattle.sem_control.specs.control.Turn.{Around}
use Rattle.sem_control.specs.control.Frames.{Definition, a_function, a_class}
use Rattle.sem_control.specs.control.Numbers.{tested_body, behind_body, for_body, for_else, try_handlers, try_else, try_finally, handler_body}
use Rattle.sem_control.specs.control.Statements.{all_places, bound_name}
use Rattle.pt_assembler.specs.declared.operation.Exit.TheVariants.{Break, Continue}
use Rattle.pt_assembler.specs.Piece as P
use Rattle.pt_assembler.specs.Piece.{Piece}
use Rattle.sem_compile.specs.stm_pieces.Needed.{some_exits, some_branch_goes_on, is_silent, leaves, Behind, needed, free, is_needed, needed_if, in_front, behind_branches, behind_loop, behind_tried}
use Rattle.sem_compile.specs.emitter.ExpPiece.{exp_piece, target_piece}
use Rattle.sem_compile.specs.stm_pieces.StmPiece.{delete as delete_op, begun_piece, value_piece, store_piece, assigned_piece, augmented_piece, deleted_piece, all_deleted_piece, failed_piece, returned_piece, thrown_piece, imported_piece, imported_from_piece, bound_piece, definition_piece, defined_piece, guarded_piece, ensured_piece, handled_piece, taken_piece, behind_taken, items_piece, stm_piece, all_piece, branches_piece, handlers_piece}
use Rattle.law_typed_pieces.proofs.typed_pieces.Statements.{HoldsNone}
use Rattle.law_parts.specs.plain_slots.Plain.{MakesNone, Each, Numbers}
use Rattle.law_parts.proofs.plain_slots.Forms as forms
use Rattle.law_parts.proofs.plain_slots.Forms.{does, stores, deletes}

module _ (R : ℕ → Type 0) where
  pub each_number : (p : Piece) → Each R p → Numbers R p
  each_number P.empty h = tt
  each_number (P.act op n l g) h = h.1
  each_number (P.move op) h = tt
  each_number (P.seq a b) h = (each_number a h.0, each_number b h.1)
  each_number (P.block p) h = each_number p h
  each_number (P.headed p) h = each_number p h
  each_number (P.closed p) h = each_number p h
  each_number (P.looped b p) h = absurd h
  each_number (P.leave e n l) h = h
  each_number (P.ensured p) h = absurd h
  each_number (P.caught p q) h = absurd h
  each_number (P.deeper k p) h = absurd h
  each_number (P.started l p) h = absurd h
  each_number (P.numbered n p) h = each_number p h

  pub begun_each : (st : Stm) (w : Behind) (p : Piece) → Each R p → Each R (begun_piece st w p)
  begun_each st w p h = by (is_silent st) (leaves st && is_needed w)
    where
      by : (s t : Bool) → Each R (if s then begun_piece (S.global 0 []) w p else if t
          then begun_piece (S.raise_again 0) needed p else p)
      by true t = (refl, h)
      by false true = (refl, (refl, h))
      by false false = h

  pub begun_numbers : (st : Stm) (w : Behind) (p : Piece) → Numbers R p → Numbers R (begun_piece st
      w p)
  begun_numbers st w p h = by (is_silent st) (leaves st && is_needed w)
    where
      by : (s t : Bool) → Numbers R (if s then begun_piece (S.global 0 []) w p else if t
          then begun_piece (S.raise_again 0) needed p else p)
      by true t = (tt, h)
      by false true = (tt, (tt, h))
      by false false = h

  pub in_guard : (hs : Handlers) (body other handlers : Piece) → Numbers R body → Numbers R other
      → Numbers R handlers
      → Numbers R (guarded_piece hs body other handlers)
  in_guard S.no_handlers body other handlers f g h = (f, g)
  in_guard (S.handler l x y q r) body other handlers f g h = ((f, (g, tt)), h)

  pub in_finally : (fin : Stms) (tried part : Piece) → Numbers R tried → Numbers R part → Numbers R
      (ensured_piece fin tried part)
  in_finally none tried part f g = (f, g)
  in_finally (more st ss) tried part f g = (f, (g, tt))

  module _ (up : (n k : ℕ) → R n → R (n + k)) {V : Type 0} (around : Around V) where
    up2 : (n k j : ℕ) → R n → R (n + k + j)
    up2 n k j r = up (n + k) j (up n k r)

    pub val : (e : Exp) (n : ℕ) → R n → Each R (value_piece around e n)
    val e n r = forms.exp R up around e n false [] r

    pub to_target : (t : Tgt) (n : ℕ) → R n → Each R (P.closed (target_piece around t n []))
    to_target t n r = forms.target R up around t n [] r

    pub store : (y : Name) (n l : ℕ) → R n → Each R (store_piece around y n l)
    store y n l r = let z = around.variable [] y in (stores z.scope z.name, r)

    delete : (y : Name) → MakesNone (delete_op (around.variable [] y))
    delete y = let z = around.variable [] y in deletes z.scope z.name

    assigned : (ts : Tgts) (n : ℕ) → R n → Each R (assigned_piece around ts n)
    assigned S.no_targets n r = refl
    assigned (S.more_targets t S.no_targets) n r = to_target t n r
    assigned (S.more_targets t (S.more_targets u ts)) n r =
        (refl, (to_target t n r, assigned (S.more_targets u ts) (n + target_size t) (up n _ r)))

    augmented : (p : Place) (o : BinOp) (e : Exp) (l n : ℕ) → R n → Each R (augmented_piece around p
        o e l n)
    augmented (S.name_at k y) o e l n r = (
      val (S.name k y) n r,
      (
        val e (n + 1) (up n _ r),
        (
          (refl, up2 n _ _ r),
          store y
              (n + 1 + size e + 1) k (up (n + 1 + size e) _ (up2 n _ _ r)),
        ),
      ),
    )
    augmented (S.attribute_at k a y) o e l n r =
        let s : R (n + size a + 1) = up2 n (size a) 1 r in (
          val a n r,
          (
            refl,
            (
              forms.by_op R up around (T.get (around.spelled y)) k (n + size a) false 1 (up n _ r),
              (
                val e (n + size a + 1) s,
                (
                  (refl, up (n + size a + 1) _ s),
                  (refl, (refl, up2 (n + size a + 1) _ _ s)),
                ),
              ),
            ),
          ),
        )
    augmented (S.item_at k a i) o e l n r =
        let s : R (n + size a + size i + 1) = up (n + size a + size i) 1 (up2 n (size a) (size i) r)
        in (
          val a n r,
          (
            val i (n + size a) (up n _ r),
            (
              refl,
              (
                forms.by_op R up around T.item k (n + size a + size i) false 2 (up2 n _ _ r),
                (
                  val e (n + size a + size i + 1) s,
                  (
                    (refl, up (n + size a + size i + 1) _ s),
                    (refl, (refl, up2 (n + size a + size i + 1) _ _ s)),
                  ),
                ),
              ),
            ),
          ),
        )

    deleted : (p : Place) (n : ℕ) → R n → Each R (deleted_piece around p n)
    deleted (S.name_at l y) n r = (delete y, r)
    deleted (S.attribute_at l a y) n r = (val a n r, (refl, up n _ r))
    deleted (S.item_at l a i) n r = (
      val a n r,
      (
        val i (n + size a) (up n _ r),
        (
          refl,
          up2 n _ _
              r,
        ),
      ),
    )

    all_deleted : (ps : List Place) (n : ℕ) → R n → Each R (all_deleted_piece around ps n)
    all_deleted [] n r = tt
    all_deleted (p ∷ ps) n r = (deleted p n r, all_deleted ps (n + place_size p) (up n _ r))

    failed : (m : Opt) (l n : ℕ) → R n → Each R (failed_piece around m l n)
    failed S.absent l n r = (refl, r)
    failed (S.given m) l n r = (val m n r, (refl, up n _ r))

    returned : (e : Opt) (l n : ℕ) → R n → Each R (returned_piece around e l n)
    returned S.absent l n r = (refl, (refl, r))
    returned (S.given e) l n r = (val e n r, (refl, up n _ r))

    thrown : (e : Opt) (l n : ℕ) → R n → Each R (thrown_piece around e l n)
    thrown S.absent l n r = (refl, r)
    thrown (S.given e) l n r = (val e n r, (refl, up n _ r))

    imported : (xs : List Alias) (l n : ℕ) → R n → Each R (imported_piece around xs l n)
    imported [] l n r = tt
    imported (a ∷ as') l n r = (
      (refl, r),
      (
        store (bound_name a) (n + 1) l (up n _ r),
        imported as' l (n + 1 + 1)
            (up2 n _ _ r),
      ),
    )

    imported_from : (xs : List Alias) (l n : ℕ) → R n → Each R (imported_from_piece around xs l n)
    imported_from [] l n r = refl
    imported_from (a ∷ as') l n r = (
      (refl, r),
      (
        store (bound_name a) (n + 1) l (up n _ r),
        imported_from as' l (n + 1 + 1)
            (up2 n _ _ r),
      ),
    )

    bound : (ks : List ℕ) (l n : ℕ) (y : Name) → R n → Each R (bound_piece around ks l n y)
    bound [] l n y r = store y n l r
    bound (k ∷ ks) l n y r = (
      (does (T.call (T.positional ∷ [])) 1, r),
      bound ks l (n + 1) y
          (up n _ r),
    )

    definition : (what : Definition) (ks : List ℕ) (l n : ℕ) (y : Name) → R n
        → Each R (definition_piece around what ks l n y)
    definition (a_function b ps) ks l n y r = (
      val (S.lambda l b ps (S.constant l constant.None)) n r,
      bound ks l (n + params_size ps + 1)
          y (up2 n _ _ r),
    )
    definition (a_class b S.absent) ks l n y r = (
      refl,
      (
        forms.made R up around (around.captured b) (T.class b) l n false 1 r,
        bound ks l
            (n + 1) y (up n _ r),
      ),
    )
    definition (a_class b (S.given e)) ks l n y r = (
      val e n r,
      (
        forms.made R up around (around.captured b) (T.class b) l (n + size e) false 1 (up n _ r),
        bound ks l (n + size e + 1) y (up2 n _ _ r),
      ),
    )

    defined : (ds : Decorators) (what : Definition) (ks : List ℕ) (l n : ℕ) (y : Name) → R n
        → Each R (defined_piece around ds what ks l n y)
    defined S.no_decorators what ks l n y r = definition what ks l n y r
    defined (S.decorator j e q) what ks l n y r = (
      val e n r,
      defined q what (j ∷ ks) l (n + size e)
          y (up n _ r),
    )

    pub taken : (t : Option Tgt) (n : ℕ) → R n → Each R (taken_piece around t n)
    taken None n r = refl
    taken (Some t) n r = to_target t n r

    pub alone : (st : Stm) (n : ℕ) (w : Behind) → HoldsNone st → R n → Each R (stm_piece around st n
        w)
    alone (S.expr l e) n w h r = (val e n r, (refl, up n _ r))
    alone (S.assign l ts e) n w h r = (val e n r, assigned ts (n + size e) (up n _ r))
    alone (S.augmented l p o e) n w h r = augmented p o e l n r
    alone (S.annotated l p a S.absent) n w h r = (refl, r)
    alone (S.annotated l p a (S.given e)) n w h r = (
      val e n r,
      assigned (S.more_targets
          (S.single p) S.no_targets) (n + size e) (up n _ r),
    )
    alone (S.assert l e m) n w h r = (
      val e n r,
      (
        (refl, up n _ r),
        failed m l (n + size e + 1)
            (up2 n _ _ r),
      ),
    )
    alone (S.pass l) n w h r = (refl, r)
    alone (S.del l ts) n w h r = all_deleted (all_places ts) n r
    alone (S.return l e) n w h r = returned e l n r
    alone (S.raise l e d) n w h r = (val e n r, thrown d l (n + size e) (up n _ r))
    alone (S.raise_again l) n w h r = (refl, r)
    alone (S.break l) n w h r = r
    alone (S.continue l) n w h r = r
    alone (S.import l xs) n w h r = imported xs l n r
    alone (S.import_from l m xs) n w h r = ((refl, r), imported_from xs l (n + 1) (up n _ r))
    alone (S.global l xs) n w h r = tt
    alone (S.nonlocal l xs) n w h r = tt
    alone (S.def l ds k z y ps a body) n w h r = defined ds (a_function z ps) [] k n y r
    alone (S.class l ds k z y super body) n w h r = defined ds (a_class z super) [] k n y r
    alone (S.docstring l) n w h r = tt
    alone (S.choice l bs els) n w h r = absurd h
    alone (S.while l e body els) n w h r = absurd h
    alone (S.for l t it body els) n w h r = absurd h
    alone (S.try l body hs els fin) n w h r = absurd h
    alone (S.with l is body) n w h r = absurd h

    -- any statement

    taken_up : (t : Option Tgt) (n : ℕ) → R n → R (behind_taken around t n)
    taken_up None n r = r
    taken_up (Some t) n r = up n _ r

    body_up : (n : ℕ) (y : Option Name) → R n → R (handler_body n y)
    body_up n None r = up n _ r
    body_up n (Some y) r = up2 n _ _ r

    pub in_items : (is : Items) (body : ℕ → Piece) (k n : ℕ) → ((m : ℕ) → R m → Numbers R (body m))
        → R n → Numbers R (items_piece around is body k n)
    in_items S.no_items body k n f r = f n r
    in_items (S.with_item l e t q) body k n f r =
        let s : R (behind_taken around t (n + size e + 1)) = taken_up t (n + size e + 1)
        (up2 n (size e) 1 r) in (
          each_number (value_piece around e n) (val e n r),
          (
            up n (size e) r,
            (
              (
                each_number (taken_piece around t (n + size e + 1)) (taken t (n + size e + 1)
                    (up2 n (size e) 1 r)),
                in_items q body k _ f s,
              ),
              (up (behind_taken around t (n + size e + 1)) (items_size q k) s, tt),
            ),
          ),
        )

    pub in_handler : (l n : ℕ) (y : Option Name) (body : ℕ → Piece) → ((m : ℕ) → R m → Numbers R
        (body m)) → R (n + 1)
        → Numbers R (handled_piece around l n y body)
    in_handler l n None body f r = (tt, (tt, (f (n + 1) r, (tt, tt))))
    in_handler l n (Some y) body f r = (
      tt,
      (
        r,
        (
          f (n + 1 + 1) (up (n + 1) 1 r),
          (tt, (tt, (tt, (tt, (tt, tt))))),
        ),
      ),
    )

    mutual
      pub stm : (st : Stm) (n : ℕ) (w : Behind) → R n → Numbers R (stm_piece around st n w)
      stm (S.choice l bs els) n w r =
          branches bs n (λ m. P.closed (all_piece around els m (behind_branches (some_branch_goes_on
          bs) w)))
          (λ m q. all els m (behind_branches (some_branch_goes_on bs) w) q) r
      stm (S.while l e body els) n w r =
          let s : R (tested_body n e) = up2 n (size e) 1 r in (
            (
              each_number (value_piece around e n) (val e n r),
              (
                up n (size e) r,
                (
                  all body (tested_body n e) (needed_if (some_exits Continue body)) s,
                  (
                    each_number (P.closed (exp_piece around e n true [])) (forms.exp R up around e n
                        true [] r),
                    up n (size e) r,
                  ),
                ),
              ),
            ),
            all els (behind_body n e body) (behind_loop (some_exits Break body) w)
                (up (tested_body n e) (stms_size body) s),
          )
      stm (S.for l t it body els) n w r =
          let s : R (n + size it + 1) = up2 n (size it) 1 r in
          let q : R (for_body (n + size it + 1) t) = up2 (n + size it + 1) 1 (target_size t) s in (
            (
              each_number (value_piece around it n) (val it n r),
              (
                up n (size it) r,
                (
                  s,
                  (
                    each_number (P.closed (target_piece around t (n + size it + 1 + 1) []))
                        (to_target t (n + size it + 1 + 1) (up (n + size it + 1) 1 s)),
                    (
                      all body (for_body (n + size it + 1) t) (needed_if (some_exits Continue body))
                          q,
                      (s, tt),
                    ),
                  ),
                ),
              ),
            ),
            all els (for_else (n + size it + 1) t body) (behind_loop (some_exits Break body) w)
                (up (for_body (n + size it + 1) t) (stms_size body) q),
          )
      stm (S.try l body hs els fin) n w r =
          let s : R (try_handlers n body) = up2 n 1 (stms_size body) r in
          let q : R (try_else n body hs) = up (try_handlers n body) (handlers_size hs) s in (
            r,
            in_finally fin _ _ (in_guard hs _ _ _ (all body (n + 1) (in_front els (behind_tried hs
                fin w)) (up n 1 r))
                (all els (try_else n body hs) (behind_tried hs fin w) q)
                (handlers hs (try_handlers n body) s))
                (all fin (try_finally n body hs els) (needed_if (is_needed w))
                (up (try_else n body hs) (stms_size els) q)),
          )
      stm (S.with l is body) n w r = in_items is (λ k. all_piece around body k free)
          (stms_size body) n (λ m q. all body m free q) r
      stm st n w r = each_number (stm_piece around st n w) (alone st n w tt r)

      pub all : (ss : Stms) (n : ℕ) (w : Behind) → R n → Numbers R (all_piece around ss n w)
      all none n w r = tt
      all (more st ss) n w r = (
        begun_numbers st (in_front ss w) (stm_piece around st n (in_front ss w))
            (stm st n (in_front ss w) r),
        all ss (n + stm_size st) w (up n _ r),
      )

      pub branches : (bs : Branches) (n : ℕ) (last : ℕ → Piece) → ((m : ℕ) → R m → Numbers R
          (last m)) → R n → Numbers R (branches_piece around bs n last)
      branches S.no_branches n last f r = f n r
      branches (S.branch l e body q) n last f r =
          let s : R (tested_body n e) = up2 n (size e) 1 r in (
            (
              each_number (value_piece around e n) (val e n r),
              (
                up n (size e) r,
                (all body (tested_body n e) free s, tt),
              ),
            ),
            branches q (behind_body n e body) last f (up (tested_body n e) (stms_size body) s),
          )

      pub handlers : (hs : Handlers) (n : ℕ) → R n → Numbers R (handlers_piece around hs n)
      handlers S.no_handlers n r = tt
      handlers (S.handler l S.absent y body q) n r = (
        (
          tt,
          (
            r,
            (
              tt,
              in_handler l n y (λ m. all_piece around body m free) (λ m s. all body m free
                  s) (up n 1 r),
            ),
          ),
        ),
        handlers q (handler_body n y + stms_size body) (up (handler_body n y) _ (body_up n y r)),
      )
      handlers (S.handler l (S.given e) y body q) n r =
          let s : R (n + size e) = up n (size e) r in (
            (
              each_number (value_piece around e n) (val e n r),
              (
                s,
                (
                  tt,
                  in_handler l (n + size e) y (λ m. all_piece around body m free)
                      (λ m s. all body m free s) (up (n + size e) 1 s),
                ),
              ),
            ),
            handlers q (handler_body (n + size e) y + stms_size body) (up (handler_body (n + size e)
                y) _ (body_up (n + size e) y s)),
          )
