-- The pieces of a block are the same whatever the values are.
use Rattle.std.proofs.Common.{◌≡◌, ℕ, ◌+◌, suc, Bool, true, false, List, [], ◌∷◌, ◌++◌, map, Option, Some, None, refl, ap, ◌∙◌}
use Rattle.pt_base.specs.declared.operators.CompareOp.{CompareOp}
use Rattle.pt_base.specs.declared.operators.BinOp.{BinOp}
use Rattle.pt_tree.specs.declared.expression.Conversion.{Conversion}
use Rattle.pt_tree.specs.declared.expression.Constant.TheVariants as constant
use Rattle.pt_tree.specs.declared.statement.Alias.{Alias}
use Rattle.pt_tree.specs.Syntax as S
use Rattle.pt_tree.specs.Syntax.{Name, Exp, Exps, Opt, Pieces, Entries, Links as ChainLinks, Args, Made, Clauses, Place, Tgt, Tgts, Formals, Decorators, Items, Stm, Stms, Branches, Handlers, none, more}
use Rattle.pt_tree.specs.Sizes.{size, pieces_size, joins, place_size, target_size, params_size, stm_size, stms_size}
use Rattle.pt_tree.specs.Blocks as B
use Rattle.pt_tree.specs.Blocks.{Code, function_body}
use Rattle.sem_control.specs.control.Turn as T
use Rattle.sem_control.specs.control.Turn.{Around, Variable, Operation}
use Rattle.sem_control.specs.control.Frames.{Definition, a_function, a_class}
use Rattle.sem_control.specs.control.Numbers.{tested_body, behind_body, for_body, for_else, try_handlers, try_else, try_finally, handler_body}
use Rattle.sem_control.specs.control.Expressions.{roles, making, cells_of, target_names, clause_names, built_as}
use Rattle.sem_control.specs.control.Statements.{all_places}
use Rattle.sem_control.specs.control.Jump.{starts_on}
use Rattle.pt_assembler.specs.declared.operation.Exit.TheVariants.{Break, Continue}
use Rattle.pt_assembler.specs.declared.operation.Jump.TheVariants.{Always}
use Rattle.pt_assembler.specs.Piece as P
use Rattle.pt_assembler.specs.Piece.{Piece}
use Rattle.sem_compile.specs.emitter.ExpPiece.{made_piece, op_piece, renewed_piece, exp_piece, part_piece, exps_piece, entries_piece, args_piece, pieces_piece, spec_piece, links_piece, ands_piece, ors_piece, formals_piece, first_piece, clauses_piece, item_piece, target_piece, targets_piece, place_piece}
use Rattle.sem_compile.specs.stm_pieces.Needed.{some_exits, some_branch_goes_on, Behind, free, is_needed, needed_if, in_front, behind_branches, behind_loop, behind_tried}
use Rattle.sem_compile.specs.stm_pieces.StmPiece.{begun_piece, value_piece, assigned_piece, augmented_piece, deleted_piece, all_deleted_piece, failed_piece, returned_piece, thrown_piece, imported_piece, imported_from_piece, bound_piece, definition_piece, defined_piece, guarded_piece, ensured_piece, handled_piece, items_piece, stm_piece, all_piece, branches_piece, handlers_piece, block_piece, yielded_piece, code_piece}

two : {p q r s : Piece} → p ≡ q → r ≡ s → P.seq p r ≡ P.seq q s
two {p} {q} {r} {s} e f = ap (λ z. P.seq z r) e ∙ ap (λ z. P.seq q z) f

closed : {p q : Piece} → p ≡ q → P.closed p ≡ P.closed q
closed e = ap P.closed e

block : {p q : Piece} → p ≡ q → P.block p ≡ P.block q
block e = ap P.block e

headed : {p q : Piece} → p ≡ q → P.headed p ≡ P.headed q
headed e = ap P.headed e

module _ {A C : Type 0} (a : Around A) (null : C) where
  abbrev c : Around C
  c = record { null = null; variable = a.variable; spelled = a.spelled; captured = a.captured }

  made : (xs : List Variable) (op : Operation) (l n : ℕ) (g : Bool) (k : ℕ) → made_piece c xs op l n g k ≡ made_piece a xs op l n g k
  made [] op l n g k = refl
  made (x ∷ xs) op l n g k = two refl (made xs op l n g k)

  cells : (op : Operation) → cells_of c op ≡ cells_of a op
  cells (T.function b xs) = refl
  cells (T.class b) = refl
  cells (T.generator b) = refl
  cells op = refl

  by_op : (op : Operation) (l n : ℕ) (g : Bool) (k : ℕ) → op_piece c op l n g k ≡ op_piece a op l n g k
  by_op op l n g k = ap (λ xs. made_piece c xs op l n g k) (cells op) ∙ made (cells_of a op) op l n g k

  renewed : (xs : List Variable) → renewed_piece c xs ≡ renewed_piece a xs
  renewed [] = refl
  renewed (x ∷ xs) = two refl (renewed xs)

  mutual
    exp : (e : Exp) (n : ℕ) (g : Bool) (v : List ℕ) → exp_piece c e n g v ≡ exp_piece a e n g v
    exp (S.constant l k) n g v = refl
    exp (S.name l x) n g v = refl
    exp (S.joined l S.no_pieces) n g v = by_op T.join l n g 0
    exp (S.joined l (S.literal k t r)) n g v = two refl (pieces r l (n + 1) 1 v)
    exp (S.joined l (S.field k e d sp r)) n g v =
        two (closed (exp e n g v)) (two (spec sp k (n + size e) d v) (pieces r l (n + size e + pieces_size sp + joins sp + 1) 1 v))
    exp (S.tuple l S.no_exps) n g v = by_op T.tuple l n g 0
    exp (S.tuple l (S.more_exps e es)) n g v = two (closed (exp e n g v)) (exps es T.tuple l (n + size e) 1 v)
    exp (S.list l S.no_exps) n g v = by_op T.list l n g 0
    exp (S.list l (S.more_exps e es)) n g v = two (closed (exp e n g v)) (exps es T.list l (n + size e) 1 v)
    exp (S.set l S.no_exps) n g v = by_op T.set l n g 0
    exp (S.set l (S.more_exps e es)) n g v = two (closed (exp e n g v)) (exps es T.set l (n + size e) 1 v)
    exp (S.dict l S.no_entries) n g v = by_op T.dict l n g 0
    exp (S.dict l (S.entry p q r)) n g v = two (closed (exp p n g v)) (two (closed (exp q (n + size p) false v)) (entries r l (n + size p + size q) 1 v))
    exp (S.attribute l p x) n g v = two (closed (exp p n g v)) (by_op (T.get (a.spelled x)) l (n + size p) false 1)
    exp (S.item l p i) n g v = two (closed (exp p n g v)) (two (closed (exp i (n + size p) false v)) (by_op T.item l (n + size p + size i) false 2))
    exp (S.slice l S.absent S.absent S.absent) n g v = two refl (two refl (two refl (by_op T.slice l n g 3)))
    exp (S.slice l S.absent S.absent (S.given r)) n g v = two refl (two refl (two (closed (exp r n g v)) (by_op T.slice l (n + size r) false 3)))
    exp (S.slice l S.absent (S.given q) r) n g v =
        two refl (two (closed (exp q n g v)) (part r (n + size q) v (λ m. op_piece c T.slice l m false 3) (λ m. op_piece a T.slice l m false 3) (λ m. by_op T.slice l m false 3)))
    exp (S.slice l (S.given p) q r) n g v =
        two (closed (exp p n g v)) (part q (n + size p) v (λ m. part_piece c r m v (λ m. op_piece c T.slice l m false 3)) (λ m. part_piece a r m v (λ m. op_piece a T.slice l m false 3))
        (λ m. part r m v (λ m. op_piece c T.slice l m false 3) (λ m. op_piece a T.slice l m false 3) (λ m. by_op T.slice l m false 3)))
    exp (S.unary l o p) n g v = two (closed (exp p n g v)) (by_op (T.unary o) l (n + size p) false 1)
    exp (S.not_of l p) n g v = two (closed (exp p n g v)) (by_op T.inverted l (n + size p) false 1)
    exp (S.binary l o p q) n g v = two (closed (exp p n g v)) (two (closed (exp q (n + size p) false v)) (by_op (T.binary o) l (n + size p + size q) false 2))
    exp (S.compare l p o q r) n g v = two (closed (exp p n g v)) (two (closed (exp q (n + size p) false v)) (closed (chain r o l (n + size p + size q) v)))
    exp (S.and l p es) n g v = block (two (closed (exp p n g v)) (ands es l (n + size p) v))
    exp (S.or l p es) n g v = block (two (closed (exp p n g v)) (ors es l (n + size p) v))
    exp (S.conditional l d p q) n g v =
        block (two (block (two (closed (exp d n g v)) (two refl (two (closed (exp p (n + size d + 1) false v)) refl)))) (closed (exp q (n + size d + 1 + size p) false v)))
    exp (S.call l f ys) n g v = two (closed (exp f n g v)) (args ys (T.call (roles a.spelled ys)) l (n + size f) 1 v)
    exp (S.lambda l b (S.parameters ps s ks d) e) n g v =
        let op : Operation = making a b ps ks in
        first ps n g v (first_piece c ks n g v (op_piece c op l n g 0) (λ m k. op_piece c op l m false k)) (first_piece a ks n g v (op_piece a op l n g 0) (λ m k. op_piece a op l m false k))
        (λ m k. formals_piece c ks m k v (λ m k. op_piece c op l m false k)) (λ m k. formals_piece a ks m k v (λ m k. op_piece a op l m false k))
        (first ks n g v (op_piece c op l n g 0) (op_piece a op l n g 0) (λ m k. op_piece c op l m false k) (λ m k. op_piece a op l m false k) (by_op op l n g 0) (λ m k. by_op op l m false k))
        (λ m k. formals ks m k v (λ m k. op_piece c op l m false k) (λ m k. op_piece a op l m false k) (λ m k. by_op op l m false k))
    exp (S.comprehension l m k t it cs) n g v =
        let w : List ℕ = (n + size it + 1 + 1) ∷ v in
        block (two (closed (exp it n g v)) (two refl (two (made [] (built_as m) l (n + size it + 1) false 0) (two refl
        (two (renewed (map (a.variable w) (target_names t ++ clause_names cs))) (headed (two refl (two (closed (target t (n + size it + 1 + 1 + 1) w))
        (clauses cs l (n + size it + 1 + 1 + 1 + target_size t) 1 w (λ j d. item_piece c m l j d w) (λ j d. item_piece a m l j d w) (λ j d. item m l j d w))))))))))
    exp (S.generator l b e k t it cs) n g v = two (closed (exp it n g v)) (two refl (made (a.captured b) (T.generator b) l (n + size it + 1) false 1))
    exp (S.yield l S.absent) n g v = refl
    exp (S.yield l (S.given e)) n g v = two (closed (exp e n g v)) refl
    exp (S.yield_from l e) n g v = two (closed (exp e n g v)) refl

    part : (e : Opt) (n : ℕ) (v : List ℕ) (f h : ℕ → Piece) → ((m : ℕ) → f m ≡ h m) → part_piece c e n v f ≡ part_piece a e n v h
    part S.absent n v f h s = two refl (s n)
    part (S.given e) n v f h s = two (closed (exp e n false v)) (s (n + size e))

    exps : (es : Exps) (op : Operation) (l n k : ℕ) (v : List ℕ) → exps_piece c es op l n k v ≡ exps_piece a es op l n k v
    exps S.no_exps op l n k v = by_op op l n false k
    exps (S.more_exps e es) op l n k v = two (closed (exp e n false v)) (exps es op l (n + size e) (suc k) v)

    entries : (r : Entries) (l n k : ℕ) (v : List ℕ) → entries_piece c r l n k v ≡ entries_piece a r l n k v
    entries S.no_entries l n k v = by_op T.dict l n false k
    entries (S.entry p q r) l n k v = two (closed (exp p n false v)) (two (closed (exp q (n + size p) false v)) (entries r l (n + size p + size q) (suc k) v))

    args : (r : Args) (op : Operation) (l n k : ℕ) (v : List ℕ) → args_piece c r op l n k v ≡ args_piece a r op l n k v
    args S.no_args op l n k v = by_op op l n false k
    args (S.positional e r) op l n k v = two (closed (exp e n false v)) (args r op l (n + size e) (suc k) v)
    args (S.named x e r) op l n k v = two (closed (exp e n false v)) (args r op l (n + size e) (suc k) v)
    args (S.spread e r) op l n k v = two (closed (exp e n false v)) (two (by_op T.spread_out l (n + size e) false 1) (args r op l (n + size e + 1) (suc k) v))
    args (S.spread_named e r) op l n k v = two (closed (exp e n false v)) (two (by_op T.spread_named_out l (n + size e) false 1) (args r op l (n + size e + 1) (suc k) v))

    pieces : (r : Pieces) (l n k : ℕ) (v : List ℕ) → pieces_piece c r l n k v ≡ pieces_piece a r l n k v
    pieces S.no_pieces l n k v = by_op T.join l n false k
    pieces (S.literal j t r) l n k v = two refl (pieces r l (n + 1) (suc k) v)
    pieces (S.field j e d sp r) l n k v =
        two (closed (exp e n false v)) (two (spec sp j (n + size e) d v) (pieces r l (n + size e + pieces_size sp + joins sp + 1) (suc k) v))

    spec : (r : Pieces) (l n : ℕ) (d : Option Conversion) (v : List ℕ) → spec_piece c r l n d v ≡ spec_piece a r l n d v
    spec S.no_pieces l n d v = two refl (by_op (T.format d) l n false 2)
    spec (S.literal j t S.no_pieces) l n d v = two refl (by_op (T.format d) l (n + 1) false 2)
    spec (S.field k e f sp S.no_pieces) l n d v =
        two (closed (exp e n false v)) (two (spec sp k (n + size e) f v) (by_op (T.format d) l (n + size e + pieces_size sp + joins sp + 1) false 2))
    spec (S.literal j t (S.literal b u r)) l n d v =
        two refl (two (pieces (S.literal b u r) l (n + 1) 1 v) (by_op (T.format d) l (n + 1 + pieces_size (S.literal b u r) + 1) false 2))
    spec (S.literal j t (S.field b e f sp r)) l n d v =
        two refl (two (pieces (S.field b e f sp r) l (n + 1) 1 v) (by_op (T.format d) l (n + 1 + pieces_size (S.field b e f sp r) + 1) false 2))
    spec (S.field k e f sp (S.literal b u r)) l n d v =
        two (closed (exp e n false v)) (two (spec sp k (n + size e) f v) (two (pieces (S.literal b u r) l (n + size e + pieces_size sp + joins sp + 1) 1 v)
        (by_op (T.format d) l (n + pieces_size (S.field k e f sp (S.literal b u r)) + 1) false 2)))
    spec (S.field k e f sp (S.field b h q tp r)) l n d v =
        two (closed (exp e n false v)) (two (spec sp k (n + size e) f v) (two (pieces (S.field b h q tp r) l (n + size e + pieces_size sp + joins sp + 1) 1 v)
        (by_op (T.format d) l (n + pieces_size (S.field k e f sp (S.field b h q tp r)) + 1) false 2)))

    chain : (r : ChainLinks) (o : CompareOp) (l n : ℕ) (v : List ℕ) → links_piece c r o l n v ≡ links_piece a r o l n v
    chain S.no_links o l n v = refl
    chain (S.link p b r) o l n v =
        block (two (block (two refl (two refl (two refl (two refl (two (closed (exp b (n + 1 + 1) false v)) (two (closed (chain r p l (n + 1 + 1 + size b) v)) refl))))))) refl)

    ands : (es : Exps) (l n : ℕ) (v : List ℕ) → ands_piece c es l n v ≡ ands_piece a es l n v
    ands S.no_exps l n v = refl
    ands (S.more_exps e es) l n v = two refl (two (closed (exp e (n + 1) false v)) (ands es l (n + 1 + size e) v))

    ors : (es : Exps) (l n : ℕ) (v : List ℕ) → ors_piece c es l n v ≡ ors_piece a es l n v
    ors S.no_exps l n v = refl
    ors (S.more_exps e es) l n v = two refl (two (closed (exp e (n + 1) false v)) (ors es l (n + 1 + size e) v))

    formals : (r : Formals) (n k : ℕ) (v : List ℕ) (f h : (m k : ℕ) → Piece) → ((m k : ℕ) → f m k ≡ h m k) → formals_piece c r n k v f ≡ formals_piece a r n k v h
    formals S.no_formals n k v f h s = s n k
    formals (S.formal j x t S.absent r) n k v f h s = formals r n k v f h s
    formals (S.formal j x t (S.given d) r) n k v f h s = two (closed (exp d n false v)) (formals r (n + size d) (suc k) v f h s)

    first : (r : Formals) (n : ℕ) (g : Bool) (v : List ℕ) (p q : Piece) (f h : (m k : ℕ) → Piece) → p ≡ q → ((m k : ℕ) → f m k ≡ h m k)
        → first_piece c r n g v p f ≡ first_piece a r n g v q h
    first S.no_formals n g v p q f h e s = e
    first (S.formal j x t S.absent r) n g v p q f h e s = first r n g v p q f h e s
    first (S.formal j x t (S.given d) r) n g v p q f h e s = two (closed (exp d n g v)) (formals r (n + size d) 1 v f h s)

    clauses : (cs : Clauses) (l n d : ℕ) (v : List ℕ) (f h : (n d : ℕ) → Piece) → ((n d : ℕ) → f n d ≡ h n d) → clauses_piece c cs l n d v f ≡ clauses_piece a cs l n d v h
    clauses S.no_clauses l n d v f h s = s n d
    clauses (S.only_if e cs) l n d v f h s = two (closed (exp e n false v)) (two refl (clauses cs l (n + size e + 1) d v f h s))
    clauses (S.for_each k t it cs) l n d v f h s =
        two (closed (exp it n false v)) (two refl (headed (two refl (two (closed (target t (n + size it + 1 + 1) v))
        (clauses cs l (n + size it + 1 + 1 + target_size t) (suc d) v f h s)))))

    item : (m : Made) (l n d : ℕ) (v : List ℕ) → item_piece c m l n d v ≡ item_piece a m l n d v
    item (S.a_list e) l n d v = two (closed (exp e n false v)) refl
    item (S.a_set e) l n d v = two (closed (exp e n false v)) refl
    item (S.a_dict k e) l n d v = two (closed (exp k n false v)) (two (closed (exp e (n + size k) false v)) refl)

    target : (t : Tgt) (n : ℕ) (v : List ℕ) → target_piece c t n v ≡ target_piece a t n v
    target (S.single p) n v = place p n v
    target (S.several l f ts) n v = two refl (targets ts (n + 1) v)
    target (S.starred l t) n v = target t n v

    targets : (ts : Tgts) (n : ℕ) (v : List ℕ) → targets_piece c ts n v ≡ targets_piece a ts n v
    targets S.no_targets n v = refl
    targets (S.more_targets t ts) n v = two (closed (target t n v)) (targets ts (n + target_size t) v)

    place : (p : Place) (n : ℕ) (v : List ℕ) → place_piece c p n v ≡ place_piece a p n v
    place (S.name_at l x) n v = refl
    place (S.attribute_at l p x) n v = two (closed (exp p n false v)) refl
    place (S.item_at l p i) n v = two (closed (exp p n false v)) (two (closed (exp i (n + size p) false v)) refl)

  -- statements

  val : (e : Exp) (n : ℕ) → value_piece c e n ≡ value_piece a e n
  val e n = closed (exp e n false [])

  assigned : (ts : Tgts) (n : ℕ) → assigned_piece c ts n ≡ assigned_piece a ts n
  assigned S.no_targets n = refl
  assigned (S.more_targets t S.no_targets) n = closed (target t n [])
  assigned (S.more_targets t (S.more_targets u ts)) n = two refl (two (closed (target t n [])) (assigned (S.more_targets u ts) (n + target_size t)))

  augmented : (p : Place) (o : BinOp) (e : Exp) (l n : ℕ) → augmented_piece c p o e l n ≡ augmented_piece a p o e l n
  augmented (S.name_at k y) o e l n = two (val (S.name k y) n) (two (val e (n + 1)) refl)
  augmented (S.attribute_at k p y) o e l n =
      two (val p n) (two refl (two (by_op (T.get (a.spelled y)) k (n + size p) false 1) (two (val e (n + size p + 1)) refl)))
  augmented (S.item_at k p i) o e l n =
      two (val p n) (two (val i (n + size p)) (two refl (two (by_op T.item k (n + size p + size i) false 2) (two (val e (n + size p + size i + 1)) refl))))

  deleted : (p : Place) (n : ℕ) → deleted_piece c p n ≡ deleted_piece a p n
  deleted (S.name_at l y) n = refl
  deleted (S.attribute_at l p y) n = two (val p n) refl
  deleted (S.item_at l p i) n = two (val p n) (two (val i (n + size p)) refl)

  all_deleted : (ps : List Place) (n : ℕ) → all_deleted_piece c ps n ≡ all_deleted_piece a ps n
  all_deleted [] n = refl
  all_deleted (p ∷ ps) n = two (deleted p n) (all_deleted ps (n + place_size p))

  failed : (m : Opt) (l n : ℕ) → failed_piece c m l n ≡ failed_piece a m l n
  failed S.absent l n = refl
  failed (S.given m) l n = two (val m n) refl

  returned : (e : Opt) (l n : ℕ) → returned_piece c e l n ≡ returned_piece a e l n
  returned S.absent l n = refl
  returned (S.given e) l n = two (val e n) refl

  thrown : (e : Opt) (l n : ℕ) → thrown_piece c e l n ≡ thrown_piece a e l n
  thrown S.absent l n = refl
  thrown (S.given e) l n = two (val e n) refl

  imported : (xs : List Alias) (l n : ℕ) → imported_piece c xs l n ≡ imported_piece a xs l n
  imported [] l n = refl
  imported (x ∷ xs) l n = two refl (two refl (imported xs l (n + 1 + 1)))

  imported_from : (xs : List Alias) (l n : ℕ) → imported_from_piece c xs l n ≡ imported_from_piece a xs l n
  imported_from [] l n = refl
  imported_from (x ∷ xs) l n = two refl (two refl (imported_from xs l (n + 1 + 1)))

  bound : (ks : List ℕ) (l n : ℕ) (y : Name) → bound_piece c ks l n y ≡ bound_piece a ks l n y
  bound [] l n y = refl
  bound (k ∷ ks) l n y = two refl (bound ks l (n + 1) y)

  definition : (what : Definition) (ks : List ℕ) (l n : ℕ) (y : Name) → definition_piece c what ks l n y ≡ definition_piece a what ks l n y
  definition (a_function b ps) ks l n y = two (val (S.lambda l b ps (S.constant l constant.None)) n) (bound ks l (n + params_size ps + 1) y)
  definition (a_class b S.absent) ks l n y = two refl (two (made (a.captured b) (T.class b) l n false 1) (bound ks l (n + 1) y))
  definition (a_class b (S.given e)) ks l n y = two (val e n) (two (made (a.captured b) (T.class b) l (n + size e) false 1) (bound ks l (n + size e + 1) y))

  defined : (ds : Decorators) (what : Definition) (ks : List ℕ) (l n : ℕ) (y : Name) → defined_piece c ds what ks l n y ≡ defined_piece a ds what ks l n y
  defined S.no_decorators what ks l n y = definition what ks l n y
  defined (S.decorator j e r) what ks l n y = two (val e n) (defined r what (j ∷ ks) l (n + size e) y)

  begun : (st : Stm) (b : Behind) {p q : Piece} → p ≡ q → begun_piece st b p ≡ begun_piece st b q
  begun st b e = ap (begun_piece st b) e

  guards : (hs : Handlers) {p q r s t u : Piece} → p ≡ q → r ≡ s → t ≡ u → guarded_piece hs p r t ≡ guarded_piece hs q s u
  guards S.no_handlers e f g = two e f
  guards (S.handler l x y b w) {p} {q} {r} {s} e f g =
      block (two (ap (λ z. P.caught z (P.seq r (P.move (P.to Always 0)))) e ∙ ap (λ z. P.caught q z) (two f refl)) g)

  ensures : (fin : Stms) {p q r s : Piece} → p ≡ q → r ≡ s → ensured_piece fin p r ≡ ensured_piece fin q s
  ensures none e f = two e f
  ensures (more st ss) e f = two (ap P.ensured e) (two (ap (P.deeper 1) f) refl)

  handled : (l n : ℕ) (y : Option Name) (f h : ℕ → Piece) → ((m : ℕ) → f m ≡ h m) → handled_piece c l n y f ≡ handled_piece a l n y h
  handled l n None f h s = two refl (two refl (two (ap (P.deeper 1) (closed (s (n + 1)))) refl))
  handled l n (Some y) f h s = two refl (two refl (two (ap (λ z. P.deeper 1 (P.ensured z)) (s (n + 1 + 1))) refl))

  items : (is : Items) (f h : ℕ → Piece) (k n : ℕ) → ((m : ℕ) → f m ≡ h m) → items_piece c is f k n ≡ items_piece a is h k n
  items S.no_items f h k n s = closed (s n)
  items (S.with_item l e None r) f h k n s =
      two (val e n) (two refl (two (ap (λ z. P.deeper 1 (P.ensured z)) (two refl (items r f h k (n + size e + 1) s))) refl))
  items (S.with_item l e (Some t) r) f h k n s =
      two (val e n) (two refl (two (ap (λ z. P.deeper 1 (P.ensured z)) (two (closed (target t (n + size e + 1) [])) (items r f h k (n + size e + 1 + target_size t) s))) refl))

  mutual
    stm : (st : Stm) (n : ℕ) (b : Behind) → stm_piece c st n b ≡ stm_piece a st n b
    stm (S.expr l e) n b = two (val e n) refl
    stm (S.assign l ts e) n b = two (val e n) (assigned ts (n + size e))
    stm (S.augmented l p o e) n b = augmented p o e l n
    stm (S.annotated l p x S.absent) n b = refl
    stm (S.annotated l p x (S.given e)) n b = two (val e n) (assigned (S.more_targets (S.single p) S.no_targets) (n + size e))
    stm (S.assert l e m) n b = block (two (val e n) (two refl (failed m l (n + size e + 1))))
    stm (S.pass l) n b = refl
    stm (S.del l ts) n b = all_deleted (all_places ts) n
    stm (S.return l e) n b = returned e l n
    stm (S.raise l e d) n b = two (val e n) (thrown d l (n + size e))
    stm (S.raise_again l) n b = refl
    stm (S.break l) n b = refl
    stm (S.continue l) n b = refl
    stm (S.import l xs) n b = imported xs l n
    stm (S.import_from l m xs) n b = two refl (imported_from xs l (n + 1))
    stm (S.global l xs) n b = refl
    stm (S.nonlocal l xs) n b = refl
    stm (S.choice l bs els) n b =
        block (branches bs n (λ m. P.closed (all_piece c els m (behind_branches (some_branch_goes_on bs) b))) (λ m. P.closed (all_piece a els m (behind_branches (some_branch_goes_on bs) b)))
        (λ m. closed (all els m (behind_branches (some_branch_goes_on bs) b))))
    stm (S.while l e body els) n b =
        block (two (block (two (val e n) (two refl (headed (two (ap (P.looped 2) (all body (tested_body n e) (needed_if (some_exits Continue body))))
        (ap (P.numbered n) (two (closed (exp e n true [])) refl)))))))
        (ap (P.numbered (behind_body n e body)) (closed (all els (behind_body n e body) (behind_loop (some_exits Break body) b)))))
    stm (S.for l t it body els) n b =
        block (two (block (two (val it n) (two refl (two refl (headed (two (closed (target t (n + size it + 1 + 1) []))
        (two (ap (λ z. P.deeper 1 (P.looped 2 z)) (all body (for_body (n + size it + 1) t) (needed_if (some_exits Continue body)))) refl)))))))
        (ap (P.numbered (for_else (n + size it + 1) t body)) (closed (all els (for_else (n + size it + 1) t body) (behind_loop (some_exits Break body) b)))))
    stm (S.try l body hs els fin) n b =
        two refl (ensures fin (guards hs (closed (all body (n + 1) (in_front els (behind_tried hs fin b))))
        (ap (P.numbered (try_else n body hs)) (closed (all els (try_else n body hs) (behind_tried hs fin b))))
        (ap (P.numbered (try_handlers n body)) (handlers hs (try_handlers n body))))
        (ap (P.numbered (try_finally n body hs els)) (closed (all fin (try_finally n body hs els) (needed_if (is_needed b))))))
    stm (S.with l is body) n b = items is (λ m. all_piece c body m free) (λ m. all_piece a body m free) (stms_size body) n (λ m. all body m free)
    stm (S.def l ds k z y ps x body) n b = defined ds (a_function z ps) [] k n y
    stm (S.class l ds k z y super body) n b = defined ds (a_class z super) [] k n y
    stm (S.docstring l) n b = refl

    all : (ss : Stms) (n : ℕ) (b : Behind) → all_piece c ss n b ≡ all_piece a ss n b
    all none n b = refl
    all (more st ss) n b = two (ap (P.started (starts_on st)) (begun st (in_front ss b) (stm st n (in_front ss b)))) (all ss (n + stm_size st) b)

    branches : (bs : Branches) (n : ℕ) (f h : ℕ → Piece) → ((m : ℕ) → f m ≡ h m) → branches_piece c bs n f ≡ branches_piece a bs n h
    branches S.no_branches n f h s = s n
    branches (S.branch l x body r) n f h s =
        two (block (two (val x n) (two refl (two (closed (all body (tested_body n x) free)) refl)))) (branches r (behind_body n x body) f h s)

    handlers : (hs : Handlers) (n : ℕ) → handlers_piece c hs n ≡ handlers_piece a hs n
    handlers S.no_handlers n = refl
    handlers (S.handler l S.absent y body r) n =
        two (block (two refl (two refl (two refl (handled l n y (λ m. all_piece c body m free) (λ m. all_piece a body m free) (λ m. all body m free))))))
        (handlers r (handler_body n y + stms_size body))
    handlers (S.handler l (S.given x) y body r) n =
        two (block (two (val x n) (two refl (two refl (handled l (n + size x) y (λ m. all_piece c body m free) (λ m. all_piece a body m free) (λ m. all body m free))))))
        (handlers r (handler_body (n + size x) y + stms_size body))

  blocks : (ss : Stms) → block_piece c ss ≡ block_piece a ss
  blocks ss = two (all ss 0 free) refl

  pub same_code : (k : Code) → code_piece c k ≡ code_piece a k
  same_code (B.of_module ss) = blocks ss
  same_code (B.of_function ss) = blocks (function_body ss)
  same_code (B.of_class ss) = blocks ss
  same_code (B.of_lambda l e) = two (val e 0) refl
  same_code (B.of_generator l e k t cs) =
      two (block (headed (two refl (two (closed (target t (0 + 1) [])) (clauses cs l (0 + 1 + target_size t) 1 [] (λ n d. yielded_piece c l e n) (λ n d. yielded_piece a l e n)
      (λ n d. two (val e n) refl)))))) refl
