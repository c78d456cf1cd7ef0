-- The instructions of the pieces of statements may stand in the blocks in which these run.
use Rattle.std.proofs.Common.{◌≡◌, ℕ, ◌+◌, Bool, true, false, cond, if◌then◌else◌, List, [], ◌∷◌, ◌++◌, map, Option, Some, None, refl, sym, append_assoc}
use Rattle.std.specs.Prelude.{◌&&◌}
use Rattle.std.specs.List.{AllByRecursion}
use Rattle.pt_base.specs.declared.operators.BinOp.{BinOp}
use Rattle.pt_tree.specs.declared.act.ActRow.{ActRow}
use Rattle.pt_tree.specs.declared.act.ActKind.TheVariants as A
use Rattle.pt_tree.specs.declared.statement.Alias.{Alias}
use Rattle.pt_tree.specs.Syntax as S
use Rattle.pt_tree.specs.Syntax.{Name, Exp, Opt, Place, Tgt, Tgts, Decorators, Items, Stm, Stms, Branches, Handlers}
use Rattle.pt_tree.specs.Acts.{act, acts_all_deleted, acts_branches, acts_decorator_calls, acts_decorators, acts_deleted, acts_exp, acts_got, acts_handlers, acts_items, acts_named, acts_opt, acts_opt_target, acts_params, acts_place, acts_put, acts_stm, acts_stms, acts_target, acts_targets, again}
use Rattle.pt_tree.specs.Blocks as B
use Rattle.pt_tree.specs.Blocks.{Block, blocks_branches, blocks_decorators, blocks_exp, blocks_handlers, blocks_items, blocks_opt, blocks_opt_target, blocks_params, blocks_stm, blocks_stms, blocks_target, blocks_targets, first_line_of, first_statement, function_body, inside_class, is_string, no_params, yields}
use Rattle.pt_tree.specs.Sizes.{size, params_size, place_size, stm_size, stms_size, target_size}
use Rattle.sem_control.specs.numbering.Numbered.{numbers_branches, numbers_decorators, numbers_exp, numbers_handlers, numbers_items, numbers_opt, numbers_opt_target, numbers_params, numbers_stm, numbers_stms, numbers_target, numbers_targets}
use Rattle.pt_scopes.specs.declared.region.Context.{Context}
use Rattle.pt_scopes.specs.Mentions.{places_branches, places_decorators, places_exp, places_handlers, places_items, places_opt, places_opt_target, places_params, places_stm, places_stms, places_target, places_targets}
use Rattle.pt_scopes.specs.Places.{Part, ◌⨾◌, class_context, function_context, loop_context}
use Rattle.sem_control.specs.control.Turn as T
use Rattle.sem_control.specs.control.Expressions.{making}
use Rattle.sem_control.specs.control.Frames.{Definition, a_class, a_function}
use Rattle.sem_control.specs.control.Statements.{all_places, bound_name, places}
use Rattle.pt_assembler.specs.Piece.{Piece}
use Rattle.sem_fits.specs.fits.Block.{Links}
use Rattle.law_operands.specs.law_files.sem_compile.compile.ScriptCode.{kind_of}
use Rattle.law_operands.specs.law_files.sem_compile.stm_pieces.Needed.{Behind, free, in_front, is_needed, is_silent, leaves, needed}
use Rattle.law_operands.specs.law_files.sem_compile.emitter.Ops.{operation, store}
use Rattle.law_operands.specs.law_files.sem_compile.emitter.ExpPiece.{exp_piece, place_piece, targets_piece}
use Rattle.law_operands.specs.law_files.sem_compile.stm_pieces.StmPiece.{all_deleted_piece, all_piece, assigned_piece, augmented_piece, begun_piece, behind_taken, bound_piece, branches_piece, code_piece, defined_piece, definition_piece, delete, deleted_piece, ensured_piece, failed_piece, guarded_piece, handled_piece, handlers_piece, imported_from_piece, imported_piece, items_piece, returned_piece, stm_piece, taken_piece, thrown_piece}
use Rattle.law_typed_pieces.proofs.standing_pieces.Placed.{into_class, into_function}
use Rattle.law_operands.proofs.law_files.code_files.Each.{both, split, split3, split4, split5}
use Rattle.law_operands.proofs.piece_names.Standing.{definition_list}
use Rattle.law_typed_pieces.specs.standing_pieces.Pieces.{StandsOp}
use Rattle.law_typed_pieces.proofs.standing_pieces.Walked.{IsMade, May, Runs, Stands, Walked, four, gives, in_body, leaf, may_none, same_lists, starts, three, two}
use Rattle.law_typed_pieces.proofs.standing_pieces.Operations.{calls, deletes, function_is, loads, makes_class, stores}
use Rattle.law_typed_pieces.proofs.standing_pieces.Expressions as expressions
use Rattle.law_typed_pieces.proofs.standing_pieces.Expressions.{Exp_stands, Opt_stands, Params_stand, Place_stands, Target_stands, TellsYields, function_done, made_stands, may_by}

module _ (links : Links) (p : ActRow → Bool) where
  abbrev Asks : Type 1
  Asks = (c : Name) → Context → Type 0

  abbrev Stm_stands : Stm → Asks
  Stm_stands st c a = (b : Runs links p c) → May links p a b (acts_stm st) → (n : ℕ) (q : Behind) → Stands links p b (stm_piece b.around st n q)

  abbrev Stms_stand : Stms → Asks
  Stms_stand ss c a = (b : Runs links p c) → May links p a b (acts_stms ss) → (n : ℕ) (q : Behind) → Stands links p b (all_piece b.around ss n q)

  abbrev Branches_stand : Branches → Asks
  Branches_stand bs c a = (b : Runs links p c) → May links p a b (acts_branches bs) → (n : ℕ) (otherwise : ℕ → Piece) → ((m : ℕ)
      → Stands links p b (otherwise m))
      → Stands links p b (branches_piece b.around bs n otherwise)

  abbrev Handlers_stand : Handlers → Asks
  Handlers_stand hs c a = (b : Runs links p c) → May links p a b (acts_handlers hs) → (n : ℕ) → Stands links p b (handlers_piece b.around hs n)

  abbrev Taken_stands : Option Tgt → Asks
  Taken_stands t c a = (b : Runs links p c) → May links p a b (acts_opt_target t) → (n : ℕ) → Stands links p b (taken_piece b.around t n)

  abbrev Items_stand : Items → Asks
  Items_stand is c a = (b : Runs links p c) (inside : List ActRow) → May links p a b (acts_items is inside) → (n k : ℕ) (body : ℕ → Piece)
      → (May links p a b inside → (m : ℕ) → Stands links p b (body m)) → Stands links p b (items_piece b.around is body k n)

  -- each of some places is deleted
  abbrev AllDeleted : {c : Name} → Runs links p c → List Place → Type 0
  AllDeleted b qs = AllByRecursion (λ q. (n : ℕ) → Stands links p b (deleted_piece b.around q n)) qs

  abbrev Defined_stands : Decorators → Asks
  Defined_stands ds c a = (b : Runs links p c) → May links p a b (acts_decorators ds) → (what : Definition) (l : ℕ) (y : Name)
      → ((ks : List ℕ) (n : ℕ) → Stands links p b (definition_piece b.around what ks l n y)) → (ks : List ℕ) (n : ℕ)
      → Stands links p b (defined_piece b.around ds what ks l n y)

  module _ {c : Name} (b : Runs links p c) where
    stored : (y : Name) → StandsOp b.kind links (store ((b.around).variable [] y))
    stored y = let v = (b.around).variable [] y in stores b.kind links v.scope v.name (b.classes [] y)

    deleted : (y : Name) → StandsOp b.kind links (delete ((b.around).variable [] y))
    deleted y = let v = (b.around).variable [] y in deletes b.kind links v.scope v.name (b.classes [] y)

    all_deleted : (qs : List Place) → AllDeleted b qs → (n : ℕ) → Stands links p b (all_deleted_piece b.around qs n)
    all_deleted [] h n = tt
    all_deleted (q ∷ qs) h n = (h.0 n, all_deleted qs h.1 (n + place_size q))

    assigned : (ts : Tgts) (n : ℕ) → Stands links p b (targets_piece b.around ts n []) → Stands links p b (assigned_piece b.around ts n)
    assigned S.no_targets n h = refl
    assigned (S.more_targets t S.no_targets) n h = h.0
    assigned (S.more_targets t (S.more_targets u ts)) n h = (refl, (h.0, assigned (S.more_targets u ts) (n + target_size t) h.1))

    changed : (q : Place) (o : BinOp) (e : Exp) (l n : ℕ) → ((n : ℕ) → Stands links p b (place_piece b.around q n []))
        → ((n : ℕ) → Stands links p b (exp_piece b.around e n false [])) → Stands links p b (augmented_piece b.around q o e l n)
    changed (S.name_at k y) o e l n h f =
        let v = (b.around).variable [] y in
        (loads b.kind links v.scope v.name (b.classes [] y), (f (n + 1), (refl, h n)))
    changed (S.attribute_at k x y) o e l n h f = ((h n).0, (refl, (λ t. refl, (f (n + size x + 1), (refl, (refl, λ t. refl))))))
    changed (S.item_at k x i) o e l n h f = ((h n).0, ((h n).1.0, (refl, (refl, (f (n + size x + size i + 1), (refl, (refl, refl)))))))

    imported : (xs : List Alias) (l n : ℕ) → Stands links p b (imported_piece b.around xs l n)
    imported [] l n = tt
    imported (x ∷ xs) l n = (λ t. refl, (stored (bound_name x), imported xs l (n + 1 + 1)))

    imported_from : (xs : List Alias) (l n : ℕ) → Stands links p b (imported_from_piece b.around xs l n)
    imported_from [] l n = refl
    imported_from (x ∷ xs) l n = (λ t. refl, (stored (bound_name x), imported_from xs l (n + 1 + 1)))

    bound : (ks : List ℕ) (l n : ℕ) (y : Name) → Stands links p b (bound_piece b.around ks l n y)
    bound [] l n y = stored y
    bound (k ∷ ks) l n y = (calls b.kind links (T.positional ∷ []), bound ks l (n + 1) y)

    begun : (st : Stm) (q : Behind) (z : Piece) → Stands links p b z → Stands links p b (begun_piece st q z)
    begun st q z h = by (is_silent st) (leaves st && is_needed q)
      where
        by : (s t : Bool) → Stands links p b (if s then begun_piece (S.global 0 []) q z else if t then begun_piece (S.raise_again 0) needed z else z)
        by true t = (refl, h)
        by false true = (tt, (tt, h))
        by false false = h

    guarded : (hs : Handlers) (body otherwise handlers : Piece) → Stands links p b body → Stands links p b otherwise → Stands links p b handlers
        → Stands links p b (guarded_piece hs body otherwise handlers)
    guarded S.no_handlers body otherwise handlers x y z = (x, y)
    guarded (S.handler l e n q r) body otherwise handlers x y z = ((x, (y, tt)), z)

    ensured : (finally : Stms) (guarded part : Piece) → Stands links p b guarded → Stands links p b part → Stands links p b (ensured_piece finally guarded part)
    ensured S.none guarded part x y = (x, y)
    ensured (S.more st ss) guarded part x y = (x, (y, refl))

    handled : (l n : ℕ) (y : Option Name) (body : ℕ → Piece) → ((m : ℕ) → Stands links p b (body m)) → Stands links p b (handled_piece b.around l n y body)
    handled l n None body h = (refl, (refl, (h (n + 1), (refl, tt))))
    handled l n (Some y) body h = (refl, (stored y, (h (n + 1 + 1), (tt, (stored y, (deleted y, (refl, (refl, tt))))))))

  module _ {c : Name} (a : Context) (b : Runs links p c) where
    failed : (m : Opt) (l n : ℕ) → Opt_stands links p m c a → May links p a b (acts_opt m) → Stands links p b (failed_piece b.around m l n)
    failed S.absent l n h i = refl
    failed (S.given e) l n h i = (h b i n false [], refl)

    returned : (e : Opt) (l n : ℕ) → Opt_stands links p e c a → May links p a b (acts_opt e) → Stands links p b (returned_piece b.around e l n)
    returned S.absent l n h i = (tt, refl)
    returned (S.given e) l n h i = (h b i n false [], refl)

    thrown : (e : Opt) (l n : ℕ) → Opt_stands links p e c a → May links p a b (acts_opt e) → Stands links p b (thrown_piece b.around e l n)
    thrown S.absent l n h i = refl
    thrown (S.given e) l n h i = (h b i n false [], refl)

    -- what is got and put back is a place that is stored to
    may_place : (q : Place) → May links p a b (acts_got q) → May links p a b (acts_put q) → May links p a b (acts_place q)
    may_place (S.name_at l x) h k = k
    may_place (S.attribute_at l e x) h k = both _ (acts_exp e) (act A.SetAttr l) (split _ (acts_exp e) (act A.Attr l) h).0 k
    may_place (S.item_at l e f) h k =
        let parts = split3 _ (acts_exp e) (acts_exp f) (act A.Item l) h in
        both _ (acts_exp e ++ acts_exp f) (act A.SetItem l) (both _ (acts_exp e) (acts_exp f) parts.0 parts.1.0) k

    class_made : (j : ℕ) (base : Opt) (l n : ℕ) (y : Name) → Opt_stands links p base c a → May links p a b (acts_opt base)
        → StandsOp b.kind links (operation (T.class j) 1) → (ks : List ℕ) → Stands links p b (definition_piece b.around (a_class j base) ks l n y)
    class_made j S.absent l n y h i made ks =
        (tt, (made_stands links p b ((b.around).captured j) (T.class j) l n false 1 made, bound b ks l (n + 1) y))
    class_made j (S.given e) l n y h i made ks =
        (h b i n false [], (made_stands links p b ((b.around).captured j) (T.class j) l (n + size e) false 1 made, bound b ks l (n + size e + 1) y))

  module _ (rows : TellsYields links p) where
    may_again : {c : Name} (a : Context) (b : Runs links p c) (rs : List ActRow) → May links p a b (again rs) → May links p a b rs
    may_again a b [] h = tt
    may_again a b (r ∷ rs) h = (λ e. h.0 (rows.again r e), h.1)

    -- the first statement of a function's body may be its documentation string
    first_is : (st : Stm) (a : Context) (c : Name) → Stm_stands st c a → Stm_stands (first_statement st) c a
    first_is (S.expr l e) a c h = by (is_string e)
      where
        by : (t : Bool) → Stm_stands (cond t (S.docstring l) (S.expr l e)) c a
        by true = λ b i n q. tt
        by false = h
    first_is st a c h = h

    function_good : (ss : Stms) (c : Name) (a : Context) → Stms_stand (function_body ss) c a → (b : Runs links p c) → b.kind ≡ kind_of (B.of_function ss)
        → Stands links p b (code_piece b.around (B.of_function ss))
    function_good ss c a h b is =
        (h b (may_by links p rows a b (acts_stms (function_body ss)) (yields (B.of_function ss)) (sym (rows.told (B.of_function ss))) is) 0 free, (tt, refl))

    abbrev Walk : (c : Name) → (a : Context) → (f : Part) → List ℕ → List Block → Asks → Type 0
    Walk c a f ns ks F = Walked links p c f ns ks (F c a)

    value : (e : Exp) (a : Context) (c : Name) → Walk c a (places_exp a c e) (numbers_exp e) (blocks_exp e) (Exp_stands links p e)
    value e a c = expressions.exp links p rows e a c

    option : (o : Opt) (a : Context) (c : Name) → Walk c a (places_opt a c o) (numbers_opt o) (blocks_opt o) (Opt_stands links p o)
    option o a c = expressions.option links p rows o a c

    mutual
      deleted_target : (t : Tgt) (a : Context) (c : Name) → Walked links p c (places_target a c t) (numbers_target t) (blocks_target t)
          ((b : Runs links p c) → May links p a b (acts_deleted t) → AllDeleted b (places t))
      deleted_target (S.single (S.name_at l x)) a c = leaf (λ b i. (λ n. deleted b x, tt))
      deleted_target (S.single (S.attribute_at l e x)) a c =
          gives (λ s b i. (λ n. (s b (split _ (acts_exp e) (act A.DelAttr l) i).0 n false [], λ t. refl), tt)) (value e a c)
      deleted_target (S.single (S.item_at l e f)) a c = gives (λ s b i.
          let parts = split3 _ (acts_exp e) (acts_exp f) (act A.DelItem l) i in
          (λ n. (s.0 b parts.0 n false [], (s.1 b parts.1.0 (n + size e) false [], refl)), tt)) (two (value e a c) (value f a c))
      deleted_target (S.several l f ts) a c = deleted_targets ts a c
      deleted_target (S.starred l t) a c = deleted_target t a c

      deleted_targets : (ts : Tgts) (a : Context) (c : Name) → Walked links p c (places_targets a c ts) (numbers_targets ts) (blocks_targets ts)
          ((b : Runs links p c) → May links p a b (acts_all_deleted ts) → AllDeleted b (all_places ts))
      deleted_targets S.no_targets a c = leaf (λ b i. tt)
      deleted_targets (S.more_targets t ts) a c = gives (λ s b i.
          let parts = split _ (acts_deleted t) (acts_all_deleted ts) i in
          both _ (places t) (all_places ts) (s.0 b parts.0) (s.1 b parts.1)) (two (deleted_target t a c) (deleted_targets ts a c))

    decorators : (ds : Decorators) (a : Context) (c : Name)
        → Walk c a (places_decorators a c ds) (numbers_decorators ds) (blocks_decorators ds) (Defined_stands ds)
    decorators S.no_decorators a c = leaf (λ b i what l y f ks n. f ks n)
    decorators (S.decorator k e r) a c = gives (λ s b i what l y f ks n.
        let parts = split _ (acts_exp e) (acts_decorators r) i in
        (s.0 b parts.0 n false [], s.1 b parts.1 what l y f (k ∷ ks) (n + size e))) (two (value e a c) (decorators r a c))

    taken : (t : Option Tgt) (a : Context) (c : Name) → Walk c a (places_opt_target a c t) (numbers_opt_target t) (blocks_opt_target t) (Taken_stands t)
    taken None a c = leaf (λ b i n. refl)
    taken (Some t) a c = gives (λ s b i n. s b i n []) (expressions.target links p rows t a c)

    items : (is : Items) (a : Context) (c : Name) → Walk c a (places_items a c is) (numbers_items is) (blocks_items is) (Items_stand is)
    items S.no_items a c = leaf (λ b inside i n k body f. f i n)
    items (S.with_item l e t r) a c = gives (λ s b inside i n k body f.
        let parts = split5 _ (acts_exp e) (act A.Enter l) (acts_opt_target t) (acts_items r inside) (act A.Exit l) i in (
          s.0 b parts.0 n false [],
          (
            refl,
            (
              (s.1.0 b parts.1.1.0 (n + size e + 1), s.1.1 b inside parts.1.1.1.0 (behind_taken b.around t (n + size e + 1)) k body f),
              (refl, refl),
            ),
          ),
        )) (three (value e a c) (taken t a c) (items r a c))

    mutual
      stm : (st : Stm) (a : Context) (c : Name) → Walk c a (places_stm a c st) (numbers_stm st) (blocks_stm st) (Stm_stands st)
      stm (S.expr l e) a c = gives (λ s b i n q. (s b (split _ (acts_exp e) (act A.Discard l) i).0 n false [], refl)) (value e a c)
      stm (S.assign l ts e) a c = gives (λ s b i n q.
          let parts = split _ (acts_exp e) (acts_targets ts) i in
          (s.1 b parts.0 n false [], assigned b ts (n + size e) (s.0 b parts.1 (n + size e) []))) (two (expressions.targets links p rows ts a c) (value e a c))
      stm (S.augmented l t o e) a c = gives (λ s b i n q.
          let parts = split4 _ (acts_got t) (acts_exp e) (act A.InPlace l) (acts_put t) i in
          changed b t o e l n (λ m. s.0 b (may_place a b t parts.0 parts.1.1.1) m []) (λ m. s.1 b parts.1.0 m false []))
          (two (expressions.place links p rows t a c) (value e a c))
      stm (S.annotated l t k S.absent) a c = gives (λ s b i n q. refl) (two (expressions.place links p rows t a c) (leaf {P = Unit {0}} tt))
      stm (S.annotated l t k (S.given e)) a c = gives (λ s b i n q.
          let parts = split _ (acts_exp e) (acts_place t) i in
          (s.1 b parts.0 n false [], s.0 b parts.1 (n + size e) [])) (two (expressions.place links p rows t a c) (value e a c))
      stm (S.assert l e m) a c = gives (λ s b i n q.
          let parts = split4 _ (acts_exp e) (act A.Branch l) (acts_opt m) (act A.Raise l) i in
          (s.0 b parts.0 n false [], (tt, failed a b m l (n + size e + 1) s.1 parts.1.1.0))) (two (value e a c) (option m a c))
      stm (S.pass l) a c = leaf (λ b i n q. refl)
      stm (S.del l ts) a c = gives (λ s b i n q. all_deleted b (all_places ts) (s b i) n) (deleted_targets ts a c)
      stm (S.return l v) a c = gives (λ s b i n q. returned a b v l n s.1 (split _ (acts_opt v) (act A.Return l) i).0)
          (two (leaf {P = Unit {0}} tt) (option v a c))
      stm (S.raise l e f) a c = gives (λ s b i n q.
          let parts = split3 _ (acts_exp e) (acts_opt f) (act A.Raise l) i in
          (s.0 b parts.0 n false [], thrown a b f l (n + size e) s.1 parts.1.0)) (two (value e a c) (option f a c))
      stm (S.raise_again l) a c = leaf (λ b i n q. refl)
      stm (S.break l) a c = leaf (λ b i n q. tt)
      stm (S.continue l) a c = leaf (λ b i n q. tt)
      stm (S.import l xs) a c = leaf (λ b i n q. imported b xs l n)
      stm (S.import_from l m xs) a c = leaf (λ b i n q. (λ t. refl, imported_from b xs l (n + 1)))
      stm (S.global l xs) a c = leaf (λ b i n q. tt)
      stm (S.nonlocal l xs) a c = leaf (λ b i n q. tt)
      stm (S.choice l bs els) a c = gives (λ s b i n q.
          let parts = split _ (acts_branches bs) (acts_stms els) i in
          s.0 b parts.0 n _ (λ m. s.1 b parts.1 m _)) (two (branches bs a c) (stms els a c))
      stm (S.while l e body els) a c = gives (λ s b i n q.
          let parts = split4 _ (again (acts_exp e)) (act A.Branch l) (acts_stms body) (acts_stms els) i in
          let test = may_again a b (acts_exp e) parts.0 in
          ((s.0 b test n false [], (tt, (s.1.0 b parts.1.1.0 _ _, (s.0 b test n true [], tt)))), s.1.1 b parts.1.1.1 _ _))
          (three (value e a c) (stms body (loop_context a) c) (stms els a c))
      stm (S.for l t e body els) a c = gives (λ s b i n q.
          let first = acts_exp e ++ act A.Iter l ++ again (act A.Next l) ++ acts_target t ++ acts_stms body in
          let last = split _ first (acts_stms els) i in
          let parts = split5 _ (acts_exp e) (act A.Iter l) (again (act A.Next l)) (acts_target t) (acts_stms body) last.0 in (
            (
              s.1.0 b parts.0 n false [],
              (refl, (tt, (s.0 b parts.1.1.1.0 (n + size e + 1 + 1) [], (s.1.1.0 b parts.1.1.1.1 _ _, (tt, tt))))),
            ),
            s.1.1.1 b last.1 _ _,
          ))
          (four (expressions.target links p rows t a c) (value e a c) (stms body (loop_context a) c) (stms els a c))
      stm (S.try l body hs els fin) a c = gives (λ s b i n q.
          let parts = split5 _ (act A.Try l) (acts_stms body) (acts_handlers hs) (acts_stms els) (acts_stms fin) i in (
            refl,
            ensured b fin _ _ (guarded b hs _ _ _ (s.0 b parts.1.0 (n + 1) _) (s.1.1.0 b parts.1.1.1.0 _ _) (s.1.0 b parts.1.1.0 _))
                (s.1.1.1 b parts.1.1.1.1 _ _),
          ))
          (four (stms body a c) (handlers hs a c) (stms els a c) (stms fin a c))
      stm (S.with l is body) a c = gives (λ s b i n q. s.0 b (acts_stms body) i n (stms_size body) _
          (λ j m. s.1 b j m free)) (two (items is a c) (stms body a c))
      stm (S.def l ds dl j x (S.parameters ps star ks d) r body) a c =
          let params = S.parameters ps star ks d in
          let k : Block = record { name = x; first_line = first_line_of ds dl; class = None; params = params; code = B.of_function body } in
          same_lists (definition_list (numbers_decorators ds) j (numbers_params params) (numbers_stms body))
          (definition_list (blocks_decorators ds) k (blocks_params params) (blocks_stms body))
          (gives (λ s b i n q.
          let parts = split5 _ (acts_decorators ds) (acts_params params) (act A.Function dl) (acts_decorator_calls ds) (act A.Store dl) i in
          s.0 b parts.0 (a_function j params) dl x
          (λ js m. (
            s.1.1.0 b parts.1.0 (making b.around j ps ks) (function_done links p rows j k ps star ks d refl refl (function_is body) s.1.1.1 b) dl m false [],
            bound b js dl (m + params_size params + 1) x,
          )) [] n)
          (two (decorators ds a c) (two (leaf {P = Unit {0}} tt)
          (starts j k {P = Params_stand links p ps ks c a × IsMade links p c j k}
          (λ r. Params_stand links p ps ks c a × Stms_stand (function_body body) c (function_context r))
          (into_function a (λ b. places_params a b c params ⨾ places_stms b c body))
          (λ r. two (expressions.params links p rows ps star ks d a (function_context r) c) (function_stms body (function_context r) c))
          (λ r h. function_good body c (function_context r) h.1)
          (λ r made h. (h.0, made))))))
      stm (S.class l ds cl j x base body) a c =
          let k : Block = record { name = x; first_line = first_line_of ds cl; class = Some x; params = no_params; code = B.of_class body } in
          same_lists (definition_list (numbers_decorators ds) j (numbers_opt base) (numbers_stms body))
          (definition_list (blocks_decorators ds) k (blocks_opt base) (map (inside_class x) (blocks_stms body)))
          (gives (λ s b i n q.
          let parts = split5 _ (acts_decorators ds) (acts_opt base) (act A.Class cl) (acts_decorator_calls ds) (act A.Store cl) i in
          s.0 b parts.0 (a_class j base) cl x
          (λ js m. class_made a b j base cl m x s.1.1.0 parts.1.0 (makes_class links p c b.kind j k refl s.1.1.1) js) [] n)
          (two (decorators ds a c) (two (leaf {P = Unit {0}} tt)
          (starts j k {P = Opt_stands links p base c a × IsMade links p c j k} (λ r. Opt_stands links p base c a × Stms_stand body x (class_context r))
          (into_class a (λ b. places_opt a c base ⨾ places_stms b x body))
          (λ r. two (option base a c) (in_body links p c x (stms body (class_context r) x)))
          (λ r h b same. (h.1 b (may_none links p (class_context r) b refl (acts_stms body)) 0 free, (tt, refl)))
          (λ r made h. (h.0, made))))))
      stm (S.docstring l) a c = leaf (λ b i n q. tt)

      pub stms : (ss : Stms) (a : Context) (c : Name) → Walk c a (places_stms a c ss) (numbers_stms ss) (blocks_stms ss) (Stms_stand ss)
      stms S.none a c = leaf (λ b i n q. tt)
      stms (S.more st ss) a c = gives (λ s b i n q.
          let parts = split _ (acts_stm st) (acts_stms ss) i in
          (begun b st (in_front ss q) (stm_piece b.around st n (in_front ss q)) (s.0 b parts.0 n (in_front ss q)), s.1 b parts.1 (n + stm_size st) q))
          (two (stm st a c) (stms ss a c))

      function_stms : (ss : Stms) (a : Context) (c : Name) → Walk c a (places_stms a c ss) (numbers_stms ss) (blocks_stms ss) (Stms_stand (function_body ss))
      function_stms S.none a c = leaf (λ b i n q. tt)
      function_stms (S.more st ss) a c = gives (λ s b i n q.
          let one = first_statement st in
          let parts = split _ (acts_stm one) (acts_stms ss) i in
          (begun b one (in_front ss q) (stm_piece b.around one n (in_front ss q)) (s.0 b parts.0 n (in_front ss q)), s.1 b parts.1 (n + stm_size one) q))
          (two (gives (first_is st a c) (stm st a c)) (stms ss a c))

      branches : (bs : Branches) (a : Context) (c : Name) → Walk c a (places_branches a c bs) (numbers_branches bs) (blocks_branches bs) (Branches_stand bs)
      branches S.no_branches a c = leaf (λ b i n otherwise f. f n)
      branches (S.branch l e body r) a c = gives (λ s b i n otherwise f.
          let parts = split4 _ (acts_exp e) (act A.Branch l) (acts_stms body) (acts_branches r) i in
          ((s.0 b parts.0 n false [], (tt, (s.1.0 b parts.1.1.0 _ _, tt))), s.1.1 b parts.1.1.1 _ otherwise f))
          (three (value e a c) (stms body a c) (branches r a c))

      handlers : (hs : Handlers) (a : Context) (c : Name) → Walk c a (places_handlers a c hs) (numbers_handlers hs) (blocks_handlers hs) (Handlers_stand hs)
      handlers S.no_handlers a c = leaf (λ b i n. refl)
      handlers (S.handler l S.absent y body r) a c = gives (λ s b i n.
          let parts = split4 _ (act A.Match l) (acts_named l y) (acts_stms body) (acts_handlers r) i in
          ((tt, (refl, (tt, handled b l n y _ (λ m. s.1.1.0 b parts.1.1.0 m free)))), s.1.1.1 b parts.1.1.1 _))
          (two (leaf {P = Unit {0}} tt) (two (leaf {P = Unit {0}} tt) (two (stms body a c) (handlers r a c))))
      handlers (S.handler l (S.given e) y body r) a c =
          same_lists (sym (append_assoc (numbers_exp e) (numbers_stms body) (numbers_handlers r))) (sym (append_assoc (blocks_exp e) (blocks_stms body)
          (blocks_handlers r)))
          (gives (λ s b i n.
          let parts = split5 _ (acts_exp e) (act A.Match l) (acts_named l y) (acts_stms body) (acts_handlers r) i in
          ((s.0 b parts.0 n false [], (refl, (tt, handled b l (n + size e) y _ (λ m. s.1.1.0 b parts.1.1.1.0 m free)))), s.1.1.1 b parts.1.1.1.1 _))
          (two (value e a c) (two (leaf {P = Unit {0}} tt) (two (stms body a c) (handlers r a c)))))
