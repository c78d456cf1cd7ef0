-- The names in slots that the pieces of statements name.
use Rattle.std.proofs.Common.{◌≡◌, ℕ, ◌+◌, Bool, true, false, cond, List, [], ◌∷◌, ◌++◌, map, Option, Some, None, refl, sym, ap, ◌∙◌, subst, append_assoc, append-nil, arith}
use Rattle.pt_base.specs.declared.operators.BinOp.{BinOp}
use Rattle.pt_tree.specs.declared.statement.Alias.{Alias}
use Rattle.pt_tree.specs.Syntax as S
use Rattle.pt_tree.specs.Syntax.{Name, Exp, Opt, Place, Tgt, Tgts, Decorators, Items, Stm, Stms, Branches, Handlers}
use Rattle.pt_tree.specs.Blocks as B
use Rattle.pt_tree.specs.Blocks.{Block, blocks_branches, blocks_decorators, blocks_exp, blocks_handlers, blocks_items, blocks_opt, blocks_params, blocks_stm, blocks_stms, blocks_target, blocks_targets, first_line_of, first_statement, function_body, inside_class, is_string, no_params}
use Rattle.pt_tree.specs.Sizes.{size, opt_size, params_size, place_size, target_size, deleted_size, all_deleted_size, decorators_size, stored_by, stm_size, stms_size, branches_size, handlers_size}
use Rattle.sem_control.specs.numbering.Numbered.{numbers_branches, numbers_decorators, numbers_exp, numbers_handlers, numbers_items, numbers_opt, numbers_params, numbers_stm, numbers_stms, numbers_target, numbers_targets}
use Rattle.pt_scopes.specs.declared.region.Context.{Context}
use Rattle.pt_scopes.specs.declared.region.Kind.TheVariants.{Class, Function}
use Rattle.pt_scopes.specs.Mentions as mentions
use Rattle.pt_scopes.specs.Mentions.{places_branches, places_decorators, places_exp, places_handlers, places_imports, places_items, places_named, places_opt, places_opt_target, places_params, places_stm, places_stms, places_target, places_targets}
use Rattle.pt_scopes.specs.Names.{mangled}
use Rattle.pt_scopes.specs.Places.{◌⨾◌, loop_context}
use Rattle.sem_control.specs.control.Turn as T
use Rattle.sem_control.specs.control.Turn.{Around, Scope}
use Rattle.sem_control.specs.control.Expressions.{defaulted}
use Rattle.sem_control.specs.control.Frames.{Definition, a_class, a_function}
use Rattle.sem_control.specs.control.Numbers.{handler_body}
use Rattle.sem_control.specs.control.Statements.{all_places, bound_name, name_or, places}
use Rattle.sem_names.specs.Around.{captured_in}
use Rattle.sem_names.specs.Nexts.{behind_items, nexts_all_deleted, nexts_body, nexts_branches, nexts_decorators, nexts_deleted, nexts_exp, nexts_handlers, nexts_items, nexts_opt, nexts_params, nexts_place, nexts_stm, nexts_stms}
use Rattle.sem_names.specs.Script.{Naming, class_name_of, spelled_in}
use Rattle.pt_assembler.specs.Piece.{Piece}
use Rattle.law_files.specs.sem_compile.stm_pieces.Needed.{Behind, in_front}
use Rattle.law_files.specs.sem_compile.stm_pieces.StmPiece.{all_deleted_piece, all_piece, assigned_piece, augmented_piece, branches_piece, defined_piece, definition_piece, deleted_piece, failed_piece, handled_piece, handlers_piece, imported_from_piece, imported_piece, items_piece, returned_piece, stm_piece, thrown_piece}
use Rattle.law_operands.specs.free_names.FreeNames.{NamedOperands}
use Rattle.law_operands.proofs.piece_names.Standing.{Mentioned, class_walked, definition_list, function_walked, gives, leaf, names_walked, placed, regroup, same_lists, spelled_at, two, two_of, where_named}
use Rattle.law_operands.proofs.free_pieces.Operands.{AllTaken, SlotIs, begun_named, bound_named, delete_named, ensured_named, guarded_named, load_named, made_named, store_named, stored_is}
use Rattle.law_operands.proofs.free_pieces.Blocks.{around_in, KnowsNames, Slots, begins, looked, stores, takes}
use Rattle.law_operands.proofs.free_pieces.Expressions as expressions
use Rattle.law_operands.proofs.free_pieces.Expressions.{Asks, Exp_named, Held, In, Opt_named, Params_named, Place_named, Targets_named}

-- what is asked of the operands of a statement, and so on; n numbers its first act

abbrev Stm_named : Stm → (n : ℕ) → Asks
Stm_named st n Q r = (q : Behind) → NamedOperands Q (stm_piece r st n q)

abbrev Stms_named : Stms → (n : ℕ) → Asks
Stms_named ss n Q r = (q : Behind) → NamedOperands Q (all_piece r ss n q)

abbrev Branches_named : Branches → (n : ℕ) → Asks
Branches_named bs n Q r = (otherwise : ℕ → Piece) → ((m : ℕ) → m ≡ n + branches_size bs → NamedOperands Q (otherwise m)) → NamedOperands Q (branches_piece r bs n otherwise)

abbrev Handlers_named : Handlers → (n : ℕ) → Asks
Handlers_named hs n Q r = NamedOperands Q (handlers_piece r hs n)

abbrev Items_named : Items → (n : ℕ) → Asks
Items_named is n Q r = (body : ℕ → Piece) → NamedOperands Q (body (behind_items is n)) → (k : ℕ) → NamedOperands Q (items_piece r is body k n)

abbrev Deleted_named : List Place → (behind n : ℕ) → Asks
Deleted_named qs m n Q r = (ps : List Place) → NamedOperands Q (all_deleted_piece r ps m) → NamedOperands Q (all_deleted_piece r (qs ++ ps) n)

abbrev Imports_named : List Alias → Asks
Imports_named xs Q r = ((l n : ℕ) → NamedOperands Q (imported_piece r xs l n)) × ((l n : ℕ) → NamedOperands Q (imported_from_piece r xs l n))

abbrev Defined_named : Decorators → (n : ℕ) → Asks
Defined_named ds n Q r = (what : Definition) (l : ℕ) (y : Name) → ((ks : List ℕ) → NamedOperands Q (definition_piece r what ks l (n + decorators_size ds) y))
    → (ks : List ℕ) → NamedOperands Q (defined_piece r ds what ks l n y)

-- the head of a definition, and what its block takes along
abbrev Head_named : (block : ℕ) → (head : Asks) → Asks
Head_named i F Q r = F Q r × AllTaken Q (r.captured i)

-- the name of a handler, if it has one
abbrev Named_named : Option Name → Asks
Named_named None Q r = Unit {0}
Named_named (Some y) Q r = SlotIs Q (r.variable [] y).scope (r.variable [] y).name

module _ (Q : Scope → Name → Type 0) (r : Around (Unit {0})) where
  assigned : (ts : Tgts) (n : ℕ) → Targets_named ts n [] Q r → NamedOperands Q (assigned_piece r ts n)
  assigned S.no_targets n h = tt
  assigned (S.more_targets t S.no_targets) n h = h.0
  assigned (S.more_targets t (S.more_targets u ts)) n h = (tt, (h.0, assigned (S.more_targets u ts) (n + target_size t) h.1))

  deleted_place : (p : Place) (n : ℕ) → Place_named p n [] Q r → NamedOperands Q (deleted_piece r p n)
  deleted_place (S.name_at l y) n h = let v = r.variable [] y in delete_named Q v.scope v.name (stored_is Q v.scope v.name h)
  deleted_place (S.attribute_at l a y) n h = h
  deleted_place (S.item_at l a i) n h = h

  changed : (p : Place) (o : BinOp) (e : Exp) (l n : ℕ) → Place_named p n [] Q r → Exp_named e (n + place_size p) [] Q r → NamedOperands Q (augmented_piece r p o e l n)
  changed (S.name_at k y) o e l n p h = let v = r.variable [] y in (load_named Q v.scope v.name (stored_is Q v.scope v.name p), (h false, (tt, p)))
  changed (S.attribute_at k a y) o e l n p h =
      let same : n + (size a + 1) ≡ n + size a + 1 = omega arith in
      (p.0, (tt, (tt, (subst (λ j. Exp_named e j [] Q r) same h false, (tt, (tt, tt))))))
  changed (S.item_at k a i) o e l n p h =
      let same : n + (size a + size i + 1) ≡ n + size a + size i + 1 = omega arith in
      (p.0, (p.1.0, (tt, (tt, (subst (λ j. Exp_named e j [] Q r) same h false, (tt, (tt, tt)))))))

  failed : (m : Opt) (l n : ℕ) → Opt_named m n [] Q r → NamedOperands Q (failed_piece r m l n)
  failed S.absent l n h = tt
  failed (S.given m) l n h = (h false, tt)

  returned : (e : Opt) (l n : ℕ) → Opt_named e n [] Q r → NamedOperands Q (returned_piece r e l n)
  returned S.absent l n h = (tt, tt)
  returned (S.given e) l n h = (h false, tt)

  thrown : (c : Opt) (l n : ℕ) → Opt_named c n [] Q r → NamedOperands Q (thrown_piece r c l n)
  thrown S.absent l n h = tt
  thrown (S.given c) l n h = (h false, tt)

  -- the first statement of a function's body may be its documentation string
  first_is : (st : Stm) → Stm_named st 0 Q r → Stm_named (first_statement st) 0 Q r
  first_is (S.expr l e) h = by (is_string e)
    where
      by : (s : Bool) → Stm_named (cond s (S.docstring l) (S.expr l e)) 0 Q r
      by true q = tt
      by false q = h q
  first_is st h = h

  begun : (st : Stm) (ss : Stms) (n : ℕ) → Stm_named st n Q r → Stms_named ss (n + stm_size st) Q r → Stms_named (S.more st ss) n Q r
  begun st ss n h k q = (begun_named Q st (in_front ss q) (stm_piece r st n (in_front ss q)) (h (in_front ss q)), k q)

  class_made : (i : ℕ) (base : Opt) (l n : ℕ) (y : Name) → Opt_named base n [] Q r → AllTaken Q (r.captured i)
      → SlotIs Q (r.variable [] y).scope (r.variable [] y).name → (ks : List ℕ) → NamedOperands Q (definition_piece r (a_class i base) ks l n y)
  class_made i S.absent l n y h k f ks = (tt, (made_named Q r (r.captured i) (T.class i) l n false 1 k tt, bound_named Q r ks l (n + 1) y f))
  class_made i (S.given e) l n y h k f ks =
      (h false, (made_named Q r (r.captured i) (T.class i) l (n + size e) false 1 k tt, bound_named Q r ks l (n + size e + 1) y f))

  handled : (l n : ℕ) (y : Option Name) (body : ℕ → Piece) → Named_named y Q r → NamedOperands Q (body (handler_body n y)) → NamedOperands Q (handled_piece r l n y body)
  handled l n None body f h = (tt, (tt, (h, (tt, tt))))
  handled l n (Some y) body f h =
      let v = r.variable [] y in
      let stored = store_named Q v.scope v.name f in
      (tt, (stored, (h, (tt, (stored, (delete_named Q v.scope v.name f, (tt, (tt, tt))))))))

  body_at : (n : ℕ) (y : Option Name) → n + 1 + stored_by y ≡ handler_body n y
  body_at n None = omega arith
  body_at n (Some y) = omega arith

  one_handler : (l : ℕ) (c : Opt) (y : Option Name) (body : Stms) (hs : Handlers) (n : ℕ) → Opt_named c n [] Q r → Named_named y Q r
      → Stms_named body (n + opt_size c + 1 + stored_by y) Q r → Handlers_named hs (n + opt_size c + 1 + stored_by y + stms_size body) Q r
      → Handlers_named (S.handler l c y body hs) n Q r
  one_handler l S.absent y body hs n h f b k =
      let same : n + 0 + 1 + stored_by y ≡ handler_body n y = (let plain : n + 0 + 1 + stored_by y ≡ n + 1 + stored_by y = omega arith in plain ∙ body_at n y) in (
        (tt, (tt, (tt, handled l n y (λ m. all_piece r body m _) f (subst (λ j. Stms_named body j Q r) same b _)))),
        subst (λ j. Handlers_named hs (j + stms_size body) Q r) same k,
      )
  one_handler l (S.given c) y body hs n h f b k =
      let same = body_at (n + size c) y in (
        (h false, (tt, (tt, handled l (n + size c) y (λ m. all_piece r body m _) f (subst (λ j. Stms_named body j Q r) same b _)))),
        subst (λ j. Handlers_named hs (j + stms_size body) Q r) same k,
      )

same_bound : (x : Name) (o : Option Name) → mentions.bound_name x o ≡ name_or x o
same_bound x None = refl
same_bound x (Some y) = refl

module _ (g : Naming) (numbers : List ℕ) (At : Slots) (all : KnowsNames g numbers At) where
  value : (e : Exp) (n : ℕ) (a : Context) (c : Name)
      → In g numbers At all true a c [] (places_exp a c e) (nexts_exp true e n) (numbers_exp e) (blocks_exp e) (Exp_named e n [])
  value e n a c = expressions.exp g numbers At all true e n [] a c

  option : (o : Opt) (n : ℕ) (a : Context) (c : Name)
      → In g numbers At all true a c [] (places_opt a c o) (nexts_opt true o n) (numbers_opt o) (blocks_opt o) (Opt_named o n [])
  option o n a c = expressions.option g numbers At all true o n [] a c

  -- a name that a statement binds
  bound : (x : Name) (a : Context) (c : Name) → Mentioned g a.region (mangled c x)
      → Held g numbers At all true a.region a.home c [] (λ Q r. SlotIs Q (r.variable [] x).scope (r.variable [] x).name)
  bound x a c there b at is = looked g numbers At all b a.region a.home c [] x at there

  -- places that are deleted, in front of others
  mutual
    deleted : (t : Tgt) (n : ℕ) (a : Context) (c : Name) → In g numbers At all true a c [] (places_target a c t) (nexts_deleted t n) (numbers_target t) (blocks_target t)
        (Deleted_named (places t) (n + deleted_size t) n)
    deleted (S.single p) n a c =
        gives (λ s b at is ps h. (deleted_place (At a.home) (around_in g b) p n (s b at is), h)) (expressions.place g numbers At all true p n [] a c)
    deleted (S.several l f ts) n a c = all_deleted ts n a c
    deleted (S.starred l t) n a c = deleted t n a c

    all_deleted : (ts : Tgts) (n : ℕ) (a : Context) (c : Name)
        → In g numbers At all true a c [] (places_targets a c ts) (nexts_all_deleted ts n) (numbers_targets ts) (blocks_targets ts)
        (Deleted_named (all_places ts) (n + all_deleted_size ts) n)
    all_deleted S.no_targets n a c =
        let same : n + 0 ≡ n = omega arith in
        leaf (λ b at is ps h. subst (λ j. NamedOperands (At a.home) (all_deleted_piece (around_in g b) ps j)) same h)
    all_deleted (S.more_targets t ts) n a c =
        let same : n + (deleted_size t + all_deleted_size ts) ≡ n + deleted_size t + all_deleted_size ts = omega arith in
        gives (λ s b at is ps h.
        let r = around_in g b in
        subst (λ qs. NamedOperands (At a.home) (all_deleted_piece r qs n)) (sym (append_assoc (places t) (all_places ts) ps))
        (s.0 b at is (all_places ts ++ ps) (s.1 b at is ps (subst (λ j. NamedOperands (At a.home) (all_deleted_piece r ps j)) same h))))
        (two (deleted t n a c) (all_deleted ts (n + deleted_size t) a c))

  decorators : (ds : Decorators) (n : ℕ) (a : Context) (c : Name)
      → In g numbers At all true a c [] (places_decorators a c ds) (nexts_decorators ds n) (numbers_decorators ds) (blocks_decorators ds) (Defined_named ds n)
  decorators S.no_decorators n a c =
      let same : n + 0 ≡ n = omega arith in
      leaf (λ b at is what l y f ks. subst (λ j. NamedOperands (At a.home) (definition_piece (around_in g b) what ks l j y)) same (f ks))
  decorators (S.decorator l e d) n a c =
      let same : n + (size e + decorators_size d) ≡ n + size e + decorators_size d = omega arith in
      gives (λ s b at is what k y f ks. (
        s.0 b at is false,
        s.1 b at is what k y (λ js. subst (λ j. NamedOperands (At a.home) (definition_piece (around_in g b) what js k j y)) same (f js)) (l ∷ ks),
      ))
      (two (value e n a c) (decorators d (n + size e) a c))

  items : (is : Items) (n : ℕ) (a : Context) (c : Name)
      → In g numbers At all true a c [] (places_items a c is) (nexts_items is n) (numbers_items is) (blocks_items is) (Items_named is n)
  items S.no_items n a c = leaf (λ b at is body h k. h)
  items (S.with_item l e None r) n a c =
      let same : n + size e + 1 + 0 ≡ n + size e + 1 = omega arith in
      gives (λ s b at is body h k. (
        s.0.0 b at is false,
        (
          tt,
          (
            (
              tt,
              subst (λ j. NamedOperands (At a.home) (items_piece (around_in g b) r body k j)) same (s.1 b at is body h k),
            ),
            (tt, tt),
          ),
        ),
      ))
      (regroup (places_exp a c e) (places_opt_target a c None) (places_items a c r)
      (two (two (value e n a c) (leaf {P = Unit {0}} tt)) (items r (n + size e + 1 + 0) a c)))
  items (S.with_item l e (Some t) r) n a c =
      gives (λ s b at is body h k. (s.0.0 b at is false, (tt, ((s.0.1 b at is, s.1 b at is body h k), (tt, tt)))))
      (regroup (places_exp a c e) (places_opt_target a c (Some t)) (places_items a c r)
      (two (two (value e n a c) (expressions.target g numbers At all true t (n + size e + 1) [] a c)) (items r (n + size e + 1 + target_size t) a c)))

  imports : (a : Context) (c : Name) (l : ℕ) (xs : List Alias) → In g numbers At all true a c [] (places_imports a c l xs) [] [] [] (Imports_named xs)
  imports a c l [] = leaf (λ b at is. (λ k n. tt, λ k n. tt))
  imports a c l (x ∷ xs) =
      gives (λ s b at is.
      let y = bound_name x in
      let stored = stores g numbers At all b a.home [] y (bound y a c (subst (λ z. Mentioned g a.region (mangled c z)) (same_bound x.name x.alias) s.0) b at is) in
      (λ k n. (tt, (stored, (s.1 b at is).0 k (n + 1 + 1))), λ k n. (tt, (stored, (s.1 b at is).1 k (n + 1 + 1)))))
      (two (where_named _ a (mangled c (mentions.bound_name x.name x.alias)) l (λ there. there)) (imports a c l xs))

  named_as : (a : Context) (c : Name) (l : ℕ) (x : Option Name) → In g numbers At all true a c [] (places_named a c l x) [] [] [] (Named_named x)
  named_as a c l None = leaf (λ b at is. tt)
  named_as a c l (Some x) = where_named _ a (mangled c x) l (bound x a c)

  mutual
    stm : (st : Stm) (n : ℕ) (a : Context) (c : Name) → In g numbers At all true a c [] (places_stm a c st) (nexts_stm st n) (numbers_stm st) (blocks_stm st) (Stm_named st n)
    stm (S.expr l e) n a c = gives (λ s b at is q. (s b at is false, tt)) (value e n a c)
    stm (S.assign l ts e) n a c =
        gives (λ s b at is q. (s.1 b at is false, assigned (At a.home) (around_in g b) ts (n + size e) (s.0 b at is)))
        (two (expressions.targets g numbers At all true ts (n + size e) [] a c) (value e n a c))
    stm (S.augmented l p o e) n a c =
        gives (λ s b at is q. changed (At a.home) (around_in g b) p o e l n (s.0 b at is) (s.1 b at is))
        (two (expressions.place g numbers At all true p n [] a c) (value e (n + place_size p) a c))
    stm (S.annotated l p k S.absent) n a c =
        same_lists (append-nil (nexts_place false p n)) refl refl
        (gives (λ s b at is q. tt) (two (expressions.place g numbers At all false p n [] a c) (leaf {P = Unit {0}} tt)))
    stm (S.annotated l p k (S.given e)) n a c =
        gives (λ s b at is q. (s.1 b at is false, s.0 b at is)) (two (expressions.place g numbers At all true p (n + size e) [] a c) (value e n a c))
    stm (S.assert l e m) n a c =
        gives (λ s b at is q. (s.0 b at is false, (tt, failed (At a.home) (around_in g b) m l (n + size e + 1) (s.1 b at is))))
        (two (value e n a c) (option m (n + size e + 1) a c))
    stm (S.pass l) n a c = leaf (λ b at is q. tt)
    stm (S.del l ts) n a c =
        gives (λ s b at is q. subst (λ ps. NamedOperands (At a.home) (all_deleted_piece (around_in g b) ps n)) (append-nil (all_places ts)) (s b at is [] tt))
        (all_deleted ts n a c)
    stm (S.return l v) n a c =
        gives (λ s b at is q. returned (At a.home) (around_in g b) v l n (s b at is)) (two_of (placed a.may_give a l tt) (option v n a c))
    stm (S.raise l e f) n a c =
        gives (λ s b at is q. (s.0 b at is false, thrown (At a.home) (around_in g b) f l (n + size e) (s.1 b at is)))
        (two (value e n a c) (option f (n + size e) a c))
    stm (S.raise_again l) n a c = leaf (λ b at is q. tt)
    stm (S.break l) n a c = placed a.in_loop a l (λ b at is q. tt)
    stm (S.continue l) n a c = placed a.in_loop a l (λ b at is q. tt)
    stm (S.import l xs) n a c = gives (λ s b at is q. (s b at is).0 l n) (imports a c l xs)
    stm (S.import_from l m xs) n a c = gives (λ s b at is q. (tt, (s b at is).1 l (n + 1))) (imports a c l xs)
    stm (S.global l xs) n a c = gives (λ s b at is q. tt) (names_walked _ a c l xs)
    stm (S.nonlocal l xs) n a c = gives (λ s b at is q. tt) (names_walked _ a c l xs)
    stm (S.choice l bs els) n a c =
        gives (λ s b at is q. s.0 b at is _ (λ m same. subst (λ j. Stms_named els j (At a.home) (around_in g b)) (sym same) (s.1 b at is) _))
        (two (branches bs n a c) (stms els (n + branches_size bs) a c))
    stm (S.while l e body els) n a c =
        gives (λ s b at is q. ((s.0.0 b at is false, (tt, (s.0.1 b at is _, (s.0.0 b at is true, tt)))), s.1 b at is _))
        (regroup (places_exp a c e) (places_stms (loop_context a) c body) (places_stms a c els)
        (two (two (value e n a c) (stms body (n + size e + 1) (loop_context a) c)) (stms els (n + size e + 1 + stms_size body) a c)))
    stm (S.for l t e body els) n a c =
        let one : n + size e + 2 ≡ n + size e + 1 + 1 = omega arith in
        let two_behind : n + size e + 2 + target_size t ≡ n + size e + 1 + 1 + target_size t = omega arith in
        let all_behind : n + size e + 2 + target_size t + stms_size body ≡ n + size e + 1 + 1 + target_size t + stms_size body = omega arith in
        let Q = At a.home in
        gives (λ s b at is q.
        let r = around_in g b in (
          (
            s.0.0.1 b at is false,
            (
              tt,
              (
                tt,
                (
                  subst (λ j. expressions.Target_named t j [] Q r) one (s.0.0.0 b at is),
                  (subst (λ j. Stms_named body j Q r) two_behind (s.0.1 b at is) _, (tt, tt)),
                ),
              ),
            ),
          ),
          subst (λ j. Stms_named els j Q r) all_behind (s.1 b at is) _,
        ))
        (regroup (places_target a c t) (places_exp a c e) (places_stms (loop_context a) c body ⨾ places_stms a c els)
        (regroup (places_target a c t ⨾ places_exp a c e) (places_stms (loop_context a) c body) (places_stms a c els)
        (two (two (two (expressions.target g numbers At all true t (n + size e + 2) [] a c) (value e n a c)) (stms body (n + size e + 2 + target_size t) (loop_context a) c))
        (stms els (n + size e + 2 + target_size t + stms_size body) a c))))
    stm (S.try l body hs els fin) n a c =
        gives (λ s b at is q. (
          tt,
          ensured_named (At a.home) fin _ _
              (guarded_named (At a.home) hs _ _ _ (s.0.0.0 b at is _) (s.0.1 b at is _) (s.0.0.1 b at is)) (s.1 b at is _),
        ))
        (regroup (places_stms a c body) (places_handlers a c hs) (places_stms a c els ⨾ places_stms a c fin)
        (regroup (places_stms a c body ⨾ places_handlers a c hs) (places_stms a c els) (places_stms a c fin)
        (two (two (two (stms body (n + 1) a c) (handlers hs (n + 1 + stms_size body) a c)) (stms els (n + 1 + stms_size body + handlers_size hs) a c))
        (stms fin (n + 1 + stms_size body + handlers_size hs + stms_size els) a c))))
    stm (S.with l is body) n a c =
        gives (λ s b at ev q. s.0 b at ev _ (s.1 b at ev _) (stms_size body)) (two (items is n a c) (stms body (behind_items is n) a c))
    stm (S.def l ds dl i x (S.parameters ps p ks d) r body) n a c =
        let k : Block = record { name = x; first_line = first_line_of ds dl; class = None; params = S.parameters ps p ks d; code = B.of_function body } in
        let m = n + decorators_size ds in
        let Q = At a.home in
        same_lists (sym (append_assoc (nexts_decorators ds n) (None ∷ nexts_params true (S.parameters ps p ks d) m) (nexts_body body)))
        (definition_list (numbers_decorators ds) i (numbers_params (S.parameters ps p ks d)) (numbers_stms body))
        (definition_list (blocks_decorators ds) k (blocks_params (S.parameters ps p ks d)) (blocks_stms body))
        (gives (λ s b at is q.
        let r = around_in g b in
        let op = T.function i (map (spelled_in g b) (defaulted ps ++ defaulted ks)) in
        let head = s.1.1 b at is in
        s.0 b at is (a_function i (S.parameters ps p ks d)) dl x (λ js. (
          head.0 op (λ l n again k. made_named Q r (captured_in g i) op l n again k head.1 tt) dl false,
          bound_named Q r js dl (m + params_size (S.parameters ps p ks d) + 1) x (bound x a c s.1.0 b at is),
        )) [])
        (two (decorators ds n a c) (two (where_named _ a (mangled c x) dl (λ there. there))
        (function_walked a (λ b. places_params a b c (S.parameters ps p ks d) ⨾ places_stms b c body) i k
        {P = Held g numbers At all true a.region a.home c [] (Head_named i (Params_named ps ks m []))}
        (λ b. Held g numbers At all true a.region a.home c [] (Params_named ps ks m []) × Held g numbers At all true b.region b.home c [] (Stms_named (function_body body) 0))
        refl (λ b. two (expressions.params g numbers At all true ps p ks d m [] a b c) (function_stms body b c))
        (λ h t s b at shape. (s.1 b (begins g numbers At all Function a i h b c t (spelled_at g b h c k at shape refl)) refl _, (tt, tt)))
        (λ h t s b at is. (s.0 b at is, takes g numbers At all Function a i h b c [] t at))))))
    stm (S.class l ds cl i x base body) n a c =
        let k : Block = record { name = x; first_line = first_line_of ds cl; class = Some x; params = no_params; code = B.of_class body } in
        let m = n + decorators_size ds in
        same_lists (sym (append_assoc (nexts_decorators ds n) (None ∷ nexts_opt true base m) (nexts_stms body 0)))
        (definition_list (numbers_decorators ds) i (numbers_opt base) (numbers_stms body))
        (definition_list (blocks_decorators ds) k (blocks_opt base) (map (inside_class x) (blocks_stms body)))
        (gives (λ s b at is q.
        let head = s.1.1 b at is in
        s.0 b at is (a_class i base) cl x (class_made (At a.home) (around_in g b) i base cl m x head.0 head.1 (bound x a c s.1.0 b at is)) [])
        (two (decorators ds n a c) (two (where_named _ a (mangled c x) cl (λ there. there))
        (class_walked x a (λ b. places_opt a c base) (λ b. places_stms b x body) i k
        {P = Held g numbers At all true a.region a.home c [] (Head_named i (Opt_named base m []))}
        (λ b. Held g numbers At all true b.region b.home x [] (Stms_named body 0))
        (λ b. option base m a c) (λ b. stms body 0 b x)
        refl (λ h t s b at shape.
        (s b (begins g numbers At all Class a i h b x t (record { region = at; spelled = λ y. ap (λ o. mangled (class_name_of o) y) shape })) refl _, (tt, tt)))
        (λ h t s b at is. (s b at is, takes g numbers At all Class a i h b c [] t at))))))
    stm (S.docstring l) n a c = leaf (λ b at is q. tt)

    pub stms : (ss : Stms) (n : ℕ) (a : Context) (c : Name) → In g numbers At all true a c [] (places_stms a c ss) (nexts_stms ss n) (numbers_stms ss) (blocks_stms ss) (Stms_named ss n)
    stms S.none n a c = leaf (λ b at is q. tt)
    stms (S.more st ss) n a c =
        gives (λ s b at is. begun (At a.home) (around_in g b) st ss n (s.0 b at is) (s.1 b at is)) (two (stm st n a c) (stms ss (n + stm_size st) a c))

    function_stms : (ss : Stms) (a : Context) (c : Name)
        → In g numbers At all true a c [] (places_stms a c ss) (nexts_body ss) (numbers_stms ss) (blocks_stms ss) (Stms_named (function_body ss) 0)
    function_stms S.none a c = leaf (λ b at is q. tt)
    function_stms (S.more st ss) a c =
        let m = stm_size (first_statement st) in
        let same : m ≡ 0 + m = omega arith in
        let Q = At a.home in
        gives (λ s b at is.
        let r = around_in g b in
        begun Q r (first_statement st) ss 0 (first_is Q r st (s.0 b at is)) (subst (λ j. Stms_named ss j Q r) same (s.1 b at is)))
        (two (stm st 0 a c) (stms ss m a c))

    branches : (bs : Branches) (n : ℕ) (a : Context) (c : Name)
        → In g numbers At all true a c [] (places_branches a c bs) (nexts_branches bs n) (numbers_branches bs) (blocks_branches bs) (Branches_named bs n)
    branches S.no_branches n a c = let same : n ≡ n + 0 = omega arith in leaf (λ b at is otherwise f. f n same)
    branches (S.branch l e body r) n a c =
        let same : n + size e + 1 + stms_size body + branches_size r ≡ n + (size e + 1 + stms_size body + branches_size r) = omega arith in
        gives (λ s b at is otherwise f. ((s.0.0 b at is false, (tt, (s.0.1 b at is _, tt))), s.1 b at is otherwise (λ m i. f m (i ∙ same))))
        (regroup (places_exp a c e) (places_stms a c body) (places_branches a c r)
        (two (two (value e n a c) (stms body (n + size e + 1) a c)) (branches r (n + size e + 1 + stms_size body) a c)))

    handlers : (hs : Handlers) (n : ℕ) (a : Context) (c : Name)
        → In g numbers At all true a c [] (places_handlers a c hs) (nexts_handlers hs n) (numbers_handlers hs) (blocks_handlers hs) (Handlers_named hs n)
    handlers S.no_handlers n a c = leaf (λ b at is. tt)
    handlers (S.handler l o x body r) n a c =
        let m = n + opt_size o + 1 + stored_by x in
        same_lists (sym (append_assoc (nexts_opt true o n) (nexts_stms body m) (nexts_handlers r (m + stms_size body))))
        (sym (append_assoc (numbers_opt o) (numbers_stms body) (numbers_handlers r)))
        (sym (append_assoc (blocks_opt o) (blocks_stms body) (blocks_handlers r)))
        (gives (λ s b at is.
        one_handler (At a.home) (around_in g b) l o x body r n (s.0 b at is) (s.1.0 b at is) (s.1.1.0 b at is) (s.1.1.1 b at is))
        (two (option o n a c) (two (named_as a c l x) (two (stms body m a c) (handlers r (m + stms_size body) a c)))))
