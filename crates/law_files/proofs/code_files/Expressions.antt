-- The pieces of expressions name what they are to name, where the blocks in them are there.
use Rattle.std.proofs.Common.{ℕ, suc, ◌+◌, ◌<◌, Bool, false, List, [], ◌∷◌, ◌++◌, map, Option}
use Rattle.std.specs.List.{AllByRecursion}
use Rattle.pt_base.specs.declared.operators.CompareOp.{CompareOp}
use Rattle.pt_tree.specs.declared.expression.Conversion.{Conversion}
use Rattle.pt_tree.specs.Syntax as S
use Rattle.pt_tree.specs.Syntax.{Name, Exp, Exps, Opt, Pieces, Entries, Links, Args, Made, Clauses, Place, Tgt, Tgts, Formals}
use Rattle.pt_tree.specs.Sizes.{size, pieces_size, joins, target_size}
use Rattle.pt_instr.specs.Encoding.{code_of}
use Rattle.sem_control.specs.control.Turn as T
use Rattle.sem_control.specs.control.Turn.{Around, Variable, Operation}
use Rattle.sem_control.specs.control.Expressions.{roles, defaulted, built_as, target_names, clause_names}
use Rattle.sem_control.specs.control.Statements as statements
use Rattle.sem_control.specs.control.Statements.{star_of}
use Rattle.pt_assembler.specs.Piece.{Piece}
use Rattle.sem_compile.specs.emitter.ExpPiece.{made_piece, op_piece, renewed_piece, exp_piece, part_piece, exps_piece, entries_piece, args_piece, pieces_piece, spec_piece, links_piece, ands_piece, ors_piece, formals_piece, first_piece, clauses_piece, item_piece, target_piece, targets_piece, place_piece}
use Rattle.sem_compile.specs.stm_pieces.StmPiece.{yielded_piece}
use Rattle.law_names.specs.module_names.Made.{made_exp, made_all, made_opt, made_pieces, made_entries, made_links, made_args, made_made, made_clauses, made_place, made_target, made_targets, made_params, made_formals}
use Rattle.law_files.proofs.code_files.Each.{split, split3, split4}
use Rattle.law_files.proofs.code_files.Placed.{NamesPiece}
use Rattle.law_files.proofs.code_files.Operations.{FreeIs, AllFree, load_names, store_names, renew_names, push_names, unpack_names, compare_names, MakesBelow, operation_names}

module _ {V : Type 0} (around : Around V) (N : ℕ) (Q : Name → Type 0) (R : ℕ → Type 0) (below : (b : ℕ) → R b → b < N)
    (vars : (within : List ℕ) (x : Name) → FreeIs Q (around.variable within x).scope (around.variable within x).name)
    (caps : (b : ℕ) → R b → AllFree Q (around.captured b)) where
  abbrev Below : List ℕ → Type 0
  Below bs = AllByRecursion R bs

  pub made_names : (xs : List Variable) (op : Operation) (l n : ℕ) (g : Bool) (k : ℕ) → AllFree Q xs → MakesBelow N op
      → NamesPiece Q N (made_piece around xs op l n g k)
  made_names [] op l n g k c m = operation_names Q N op k m
  made_names (x ∷ xs) op l n g k c m = (push_names Q N x.scope x.name c.0, made_names xs op l n g k c.1 m)

  renewed_names : (xs : List Variable) → NamesPiece Q N (renewed_piece around xs)
  renewed_names [] = tt
  renewed_names (x ∷ xs) = (renew_names Q N x.scope x.name, renewed_names xs)

  built_names : (m : Made) (l n : ℕ) → NamesPiece Q N (made_piece around [] (built_as m) l n false 0)
  built_names (S.a_list e) l n = operation_names Q N T.list 0 tt
  built_names (S.a_set e) l n = operation_names Q N T.set 0 tt
  built_names (S.a_dict k e) l n = operation_names Q N T.dict 0 tt

  -- an operation, with the cells of the block that it makes
  abbrev Done : Operation → Type 0
  Done op = (l n : ℕ) (g : Bool) (k : ℕ) → NamesPiece Q N (op_piece around op l n g k)

  mutual
    unfolding code_of

    pub exp : (e : Exp) (n : ℕ) (g : Bool) (v : List ℕ) → Below (made_exp e) → NamesPiece Q N (exp_piece around e n g v)
    exp (S.constant l k) n g v h = tt
    exp (S.name l x) n g v h = let y = around.variable v x in load_names Q N y.scope y.name (vars v x)
    exp (S.joined l S.no_pieces) n g v h = operation_names Q N T.join 0 tt
    exp (S.joined l (S.literal k t r)) n g v h = (tt, pieces r l (n + 1) 1 v h)
    exp (S.joined l (S.field k e c sp r)) n g v h =
        let parts = split3 R (made_exp e) (made_pieces sp) (made_pieces r) h in
        (exp e n g v parts.0, (spec sp k (n + size e) c v parts.1.0, pieces r l (n + size e + pieces_size sp + joins sp + 1) 1 v parts.1.1))
    exp (S.tuple l S.no_exps) n g v h = operation_names Q N T.tuple 0 tt
    exp (S.tuple l (S.more_exps e es)) n g v h =
        let parts = split R (made_exp e) (made_all es) h in
        (exp e n g v parts.0, exps es T.tuple (λ l n g k. operation_names Q N T.tuple k tt) l (n + size e) 1 v parts.1)
    exp (S.list l S.no_exps) n g v h = operation_names Q N T.list 0 tt
    exp (S.list l (S.more_exps e es)) n g v h =
        let parts = split R (made_exp e) (made_all es) h in
        (exp e n g v parts.0, exps es T.list (λ l n g k. operation_names Q N T.list k tt) l (n + size e) 1 v parts.1)
    exp (S.set l S.no_exps) n g v h = operation_names Q N T.set 0 tt
    exp (S.set l (S.more_exps e es)) n g v h =
        let parts = split R (made_exp e) (made_all es) h in
        (exp e n g v parts.0, exps es T.set (λ l n g k. operation_names Q N T.set k tt) l (n + size e) 1 v parts.1)
    exp (S.dict l S.no_entries) n g v h = operation_names Q N T.dict 0 tt
    exp (S.dict l (S.entry p q r)) n g v h =
        let parts = split3 R (made_exp p) (made_exp q) (made_entries r) h in
        (exp p n g v parts.0, (exp q (n + size p) false v parts.1.0, entries r l (n + size p + size q) 1 v parts.1.1))
    exp (S.attribute l p y) n g v h = (exp p n g v h, operation_names Q N (T.get (around.spelled y)) 1 tt)
    exp (S.item l p q) n g v h =
        let parts = split R (made_exp p) (made_exp q) h in
        (exp p n g v parts.0, (exp q (n + size p) false v parts.1, operation_names Q N T.item 2 tt))
    exp (S.slice l S.absent S.absent S.absent) n g v h = (tt, (tt, (tt, operation_names Q N T.slice 3 tt)))
    exp (S.slice l S.absent S.absent (S.given r)) n g v h = (tt, (tt, (exp r n g v h, operation_names Q N T.slice 3 tt)))
    exp (S.slice l S.absent (S.given q) r) n g v h =
        let parts = split3 R [] (made_exp q) (made_opt r) h in
        (tt, (exp q n g v parts.1.0, part r (n + size q) v (λ m. op_piece around T.slice l m false 3) (λ m. operation_names Q N T.slice 3 tt) parts.1.1))
    exp (S.slice l (S.given p) q r) n g v h =
        let parts = split3 R (made_exp p) (made_opt q) (made_opt r) h in (
          exp p n g v parts.0,
          part q (n + size p) v (λ m. part_piece around r m v (λ m. op_piece around T.slice l m false 3))
              (λ m. part r m v (λ m. op_piece around T.slice l m false 3) (λ m. operation_names Q N T.slice 3 tt) parts.1.1) parts.1.0,
        )
    exp (S.unary l o p) n g v h = (exp p n g v h, operation_names Q N (T.unary o) 1 tt)
    exp (S.not_of l p) n g v h = (exp p n g v h, operation_names Q N T.inverted 1 tt)
    exp (S.binary l o p q) n g v h =
        let parts = split R (made_exp p) (made_exp q) h in
        (exp p n g v parts.0, (exp q (n + size p) false v parts.1, operation_names Q N (T.binary o) 2 tt))
    exp (S.compare l p o q r) n g v h =
        let parts = split3 R (made_exp p) (made_exp q) (made_links r) h in
        (exp p n g v parts.0, (exp q (n + size p) false v parts.1.0, links r o l (n + size p + size q) v parts.1.1))
    exp (S.and l p es) n g v h =
        let parts = split R (made_exp p) (made_all es) h in
        (exp p n g v parts.0, ands es l (n + size p) v parts.1)
    exp (S.or l p es) n g v h =
        let parts = split R (made_exp p) (made_all es) h in
        (exp p n g v parts.0, ors es l (n + size p) v parts.1)
    exp (S.conditional l c p q) n g v h =
        let parts = split3 R (made_exp p) (made_exp c) (made_exp q) h in
        ((exp c n g v parts.1.0, (tt, (exp p (n + size c + 1) false v parts.0, tt))), exp q (n + size c + 1 + size p) false v parts.1.1)
    exp (S.call l f ys) n g v h =
        let parts = split R (made_exp f) (made_args ys) h in
        let rs = roles around.spelled ys in
        (exp f n g v parts.0, args ys (T.call rs) (λ l n g k. operation_names Q N (T.call rs) k tt) l (n + size f) 1 v parts.1)
    exp (S.lambda l b (S.parameters ps s ks d) e) n g v h =
        let parts = split R (b ∷ []) (made_params (S.parameters ps s ks d)) h in
        let params = split R (made_formals ps) (made_formals ks) parts.1 in
        let ys = map around.spelled (defaulted ps ++ defaulted ks) in
        let made : Done (T.function b ys) = λ l n g k. made_names (around.captured b) (T.function b ys) l n g k (caps b parts.0.0) (below b parts.0.0) in
        first ps n g v (first_piece around ks n g v (op_piece around (T.function b ys) l n g 0) (λ m k. op_piece around (T.function b ys) l m false k))
        (λ m k. formals_piece around ks m k v (λ m k. op_piece around (T.function b ys) l m false k))
        (first ks n g v (op_piece around (T.function b ys) l n g 0) (λ m k. op_piece around (T.function b ys) l m false k) (made l n g 0)
        (λ m k. made l m false k) params.1)
        (λ m k. formals ks m k v (λ m k. op_piece around (T.function b ys) l m false k) (λ m k. made l m false k) params.1) params.0
    exp (S.comprehension l m k t it cs) n g v h =
        let parts = split4 R (made_made m) (made_target t) (made_exp it) (made_clauses cs) h in
        let w = (n + size it + 1 + 1) ∷ v in (
          exp it n g v parts.1.1.0,
          (
            λ w e. tt,
            (
              built_names m l (n + size it + 1),
              (
                λ w e. tt,
                (
                  renewed_names (map (around.variable w) (target_names t ++ clause_names cs)),
                  (
                    tt,
                    (
                      target t (n + size it + 1 + 1 + 1) w parts.1.0,
                      clauses cs l (n + size it + 1 + 1 + 1 + target_size t) 1 w (λ j d. item_piece around m l j d w) (λ j d. item m l j d w parts.0) parts.1.1.1,
                    ),
                  ),
                ),
              ),
            ),
          ),
        )
    exp (S.generator l b e k t it cs) n g v h =
        let parts = split R (b ∷ []) (made_exp it) h in
        (exp it n g v parts.1, (λ w e. tt, made_names (around.captured b) (T.generator b) l (n + size it + 1) false 1 (caps b parts.0.0) (below b parts.0.0)))
    exp (S.yield l S.absent) n g v h = (tt, λ w e. tt)
    exp (S.yield l (S.given e)) n g v h = (exp e n g v h, λ w e. tt)
    exp (S.yield_from l e) n g v h = (exp e n g v h, (λ w e. tt, (tt, λ w e. tt)))

    part : (o : Opt) (n : ℕ) (v : List ℕ) (behind : ℕ → Piece) → ((m : ℕ) → NamesPiece Q N (behind m)) → Below (made_opt o)
        → NamesPiece Q N (part_piece around o n v behind)
    part S.absent n v behind f h = (tt, f n)
    part (S.given e) n v behind f h = (exp e n false v h, f (n + size e))

    exps : (es : Exps) (op : Operation) → Done op → (l n k : ℕ) (v : List ℕ) → Below (made_all es) → NamesPiece Q N (exps_piece around es op l n k v)
    exps S.no_exps op s l n k v h = s l n false k
    exps (S.more_exps e es) op s l n k v h =
        let parts = split R (made_exp e) (made_all es) h in
        (exp e n false v parts.0, exps es op s l (n + size e) (suc k) v parts.1)

    entries : (r : Entries) (l n k : ℕ) (v : List ℕ) → Below (made_entries r) → NamesPiece Q N (entries_piece around r l n k v)
    entries S.no_entries l n k v h = operation_names Q N T.dict k tt
    entries (S.entry p q r) l n k v h =
        let parts = split3 R (made_exp p) (made_exp q) (made_entries r) h in
        (exp p n false v parts.0, (exp q (n + size p) false v parts.1.0, entries r l (n + size p + size q) (suc k) v parts.1.1))

    args : (r : Args) (op : Operation) → Done op → (l n k : ℕ) (v : List ℕ) → Below (made_args r) → NamesPiece Q N (args_piece around r op l n k v)
    args S.no_args op s l n k v h = s l n false k
    args (S.positional e r) op s l n k v h =
        let parts = split R (made_exp e) (made_args r) h in
        (exp e n false v parts.0, args r op s l (n + size e) (suc k) v parts.1)
    args (S.named y e r) op s l n k v h =
        let parts = split R (made_exp e) (made_args r) h in
        (exp e n false v parts.0, args r op s l (n + size e) (suc k) v parts.1)
    args (S.spread e r) op s l n k v h =
        let parts = split R (made_exp e) (made_args r) h in
        (exp e n false v parts.0, (operation_names Q N T.spread_out 1 tt, args r op s l (n + size e + 1) (suc k) v parts.1))
    args (S.spread_named e r) op s l n k v h =
        let parts = split R (made_exp e) (made_args r) h in
        (exp e n false v parts.0, (operation_names Q N T.spread_named_out 1 tt, args r op s l (n + size e + 1) (suc k) v parts.1))

    pieces : (r : Pieces) (l n k : ℕ) (v : List ℕ) → Below (made_pieces r) → NamesPiece Q N (pieces_piece around r l n k v)
    pieces S.no_pieces l n k v h = operation_names Q N T.join k tt
    pieces (S.literal a t r) l n k v h = (tt, pieces r l (n + 1) (suc k) v h)
    pieces (S.field a e c sp r) l n k v h =
        let parts = split3 R (made_exp e) (made_pieces sp) (made_pieces r) h in (
          exp e n false v parts.0,
          (spec sp a (n + size e) c v parts.1.0, pieces r l (n + size e + pieces_size sp + joins sp + 1) (suc k) v parts.1.1),
        )

    spec : (r : Pieces) (l n : ℕ) (c : Option Conversion) (v : List ℕ) → Below (made_pieces r) → NamesPiece Q N (spec_piece around r l n c v)
    spec S.no_pieces l n c v h = (tt, operation_names Q N (T.format c) 2 tt)
    spec (S.literal a t S.no_pieces) l n c v h = (tt, operation_names Q N (T.format c) 2 tt)
    spec (S.field k e d sp S.no_pieces) l n c v h =
        let parts = split3 R (made_exp e) (made_pieces sp) [] h in
        (exp e n false v parts.0, (spec sp k (n + size e) d v parts.1.0, operation_names Q N (T.format c) 2 tt))
    spec (S.literal a t (S.literal b u r)) l n c v h = (tt, (pieces (S.literal b u r) l (n + 1) 1 v h, operation_names Q N (T.format c) 2 tt))
    spec (S.literal a t (S.field b e d sp r)) l n c v h = (tt, (pieces (S.field b e d sp r) l (n + 1) 1 v h, operation_names Q N (T.format c) 2 tt))
    spec (S.field k e d sp (S.literal b u r)) l n c v h =
        let parts = split3 R (made_exp e) (made_pieces sp) (made_pieces r) h in (
          exp e n false v parts.0,
          (
            spec sp k (n + size e) d v parts.1.0,
            (pieces (S.literal b u r) l (n + size e + pieces_size sp + joins sp + 1) 1 v parts.1.1, operation_names Q N (T.format c) 2 tt),
          ),
        )
    spec (S.field k e d sp (S.field b f d' sp' r)) l n c v h =
        let parts = split3 R (made_exp e) (made_pieces sp) (made_pieces (S.field b f d' sp' r)) h in (
          exp e n false v parts.0,
          (
            spec sp k (n + size e) d v parts.1.0,
            (pieces (S.field b f d' sp' r) l (n + size e + pieces_size sp + joins sp + 1) 1 v parts.1.1, operation_names Q N (T.format c) 2 tt),
          ),
        )

    links : (r : Links) (o : CompareOp) (l n : ℕ) (v : List ℕ) → Below (made_links r) → NamesPiece Q N (links_piece around r o l n v)
    links S.no_links o l n v h = compare_names Q N o
    links (S.link p b r) o l n v h =
        let parts = split R (made_exp b) (made_links r) h in (
          (
            λ w e. tt,
            (
              λ w e. tt,
              (compare_names Q N o, (tt, (exp b (n + 1 + 1) false v parts.0, (links r p l (n + 1 + 1 + size b) v parts.1, tt)))),
            ),
          ),
          (λ w e. tt, λ w e. tt),
        )

    ands : (es : Exps) (l n : ℕ) (v : List ℕ) → Below (made_all es) → NamesPiece Q N (ands_piece around es l n v)
    ands S.no_exps l n v h = tt
    ands (S.more_exps e es) l n v h =
        let parts = split R (made_exp e) (made_all es) h in
        (tt, (exp e (n + 1) false v parts.0, ands es l (n + 1 + size e) v parts.1))

    ors : (es : Exps) (l n : ℕ) (v : List ℕ) → Below (made_all es) → NamesPiece Q N (ors_piece around es l n v)
    ors S.no_exps l n v h = tt
    ors (S.more_exps e es) l n v h =
        let parts = split R (made_exp e) (made_all es) h in
        (tt, (exp e (n + 1) false v parts.0, ors es l (n + 1 + size e) v parts.1))

    formals : (r : Formals) (n k : ℕ) (v : List ℕ) (behind : (n k : ℕ) → Piece) → ((m j : ℕ) → NamesPiece Q N (behind m j)) → Below (made_formals r)
        → NamesPiece Q N (formals_piece around r n k v behind)
    formals S.no_formals n k v behind f h = f n k
    formals (S.formal a y t S.absent r) n k v behind f h = formals r n k v behind f h
    formals (S.formal a y t (S.given d) r) n k v behind f h =
        let parts = split R (made_exp d) (made_formals r) h in
        (exp d n false v parts.0, formals r (n + size d) (suc k) v behind f parts.1)

    first : (r : Formals) (n : ℕ) (g : Bool) (v : List ℕ) (none : Piece) (behind : (n k : ℕ) → Piece) → NamesPiece Q N none
        → ((m j : ℕ) → NamesPiece Q N (behind m j)) → Below (made_formals r) → NamesPiece Q N (first_piece around r n g v none behind)
    first S.no_formals n g v none behind z f h = z
    first (S.formal a y t S.absent r) n g v none behind z f h = first r n g v none behind z f h
    first (S.formal a y t (S.given d) r) n g v none behind z f h =
        let parts = split R (made_exp d) (made_formals r) h in
        (exp d n g v parts.0, formals r (n + size d) 1 v behind f parts.1)

    pub clauses : (cs : Clauses) (l n d : ℕ) (v : List ℕ) (inner : (n d : ℕ) → Piece) → ((m q : ℕ) → NamesPiece Q N (inner m q)) → Below (made_clauses cs)
        → NamesPiece Q N (clauses_piece around cs l n d v inner)
    clauses S.no_clauses l n d v inner f h = f n d
    clauses (S.only_if c cs) l n d v inner f h =
        let parts = split R (made_exp c) (made_clauses cs) h in
        (exp c n false v parts.0, (tt, clauses cs l (n + size c + 1) d v inner f parts.1))
    clauses (S.for_each k t it cs) l n d v inner f h =
        let parts = split3 R (made_target t) (made_exp it) (made_clauses cs) h in (
          exp it n false v parts.1.0,
          (
            λ w e. tt,
            (tt, (target t (n + size it + 1 + 1) v parts.0, clauses cs l (n + size it + 1 + 1 + target_size t) (suc d) v inner f parts.1.1)),
          ),
        )

    item : (m : Made) (l n d : ℕ) (v : List ℕ) → Below (made_made m) → NamesPiece Q N (item_piece around m l n d v)
    item (S.a_list e) l n d v h = (exp e n false v h, (λ w e. (tt, tt), tt))
    item (S.a_set e) l n d v h = (exp e n false v h, (λ w e. (tt, tt), tt))
    item (S.a_dict k e) l n d v h =
        let parts = split R (made_exp k) (made_exp e) h in
        (exp k n false v parts.0, (exp e (n + size k) false v parts.1, (λ w e. (tt, tt), tt)))

    pub target : (t : Tgt) (n : ℕ) (v : List ℕ) → Below (made_target t) → NamesPiece Q N (target_piece around t n v)
    target (S.single p) n v h = place p n v h
    target (S.several l f ts) n v h = (unpack_names Q N (statements.count ts) (star_of ts), targets ts (n + 1) v h)
    target (S.starred l t) n v h = target t n v h

    pub targets : (ts : Tgts) (n : ℕ) (v : List ℕ) → Below (made_targets ts) → NamesPiece Q N (targets_piece around ts n v)
    targets S.no_targets n v h = tt
    targets (S.more_targets t ts) n v h =
        let parts = split R (made_target t) (made_targets ts) h in
        (target t n v parts.0, targets ts (n + target_size t) v parts.1)

    place : (p : Place) (n : ℕ) (v : List ℕ) → Below (made_place p) → NamesPiece Q N (place_piece around p n v)
    place (S.name_at l x) n v h = let y = around.variable v x in store_names Q N y.scope y.name (vars v x)
    place (S.attribute_at l a x) n v h = (exp a n false v h, λ w t k. (k, tt))
    place (S.item_at l p q) n v h =
        let parts = split R (made_exp p) (made_exp q) h in
        (exp p n false v parts.0, (exp q (n + size p) false v parts.1, λ w e. tt))

  -- of a generator expression
  pub yielded : (l : ℕ) (e : Exp) (n : ℕ) → Below (made_exp e) → NamesPiece Q N (yielded_piece around l e n)
  unfolding code_of
  yielded l e n h = (exp e n false [] h, (λ w e. tt, (λ w e. tt, tt)))
