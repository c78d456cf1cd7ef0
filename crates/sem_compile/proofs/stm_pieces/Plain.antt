-- The pieces of expressions are plain: instructions, each of which does something, with labels that are ends or beginnings.
use Rattle.std.proofs.Common.{◌≡◌, ℕ, suc, ◌+◌, Bool, true, false, List, [], ◌∷◌, ◌++◌, map, length, Option, Some, None}
use Rattle.std.specs.Prelude.{if◌then◌else◌}
use Rattle.pt_base.specs.declared.operators.CompareOp.{CompareOp}
use Rattle.pt_tree.specs.declared.expression.Conversion.{Conversion}
use Rattle.pt_tree.specs.Syntax as S
use Rattle.pt_tree.specs.Syntax.{Name, Exp, Exps, Opt, Pieces, Entries, Links, Args, Made, Clauses, Place, Tgt, Tgts, Formals}
use Rattle.pt_tree.specs.Sizes.{size, pieces_size, joins, target_size}
use Rattle.pt_instr.specs.declared.Instr.TheVariants as instr
use Rattle.sem_control.specs.control.Turn as T
use Rattle.sem_control.specs.control.Turn.{Around, Scope, Variable, Role, Operation}
use Rattle.sem_control.specs.control.Expressions.{roles, defaulted, built_as}
use Rattle.sem_control.specs.control.Statements as statements
use Rattle.sem_control.specs.control.Statements.{star_of}
use Rattle.pt_assembler.specs.Piece as P
use Rattle.pt_assembler.specs.Piece.{Piece}
use Rattle.pt_assembler.specs.PieceAt.{IsDone, Fits}
use Rattle.sem_compile.specs.emitter.Ops.{text_of, load_in, store_in, renew_in, cell_in, last_names, are_plain, call_by, operation}
use Rattle.sem_compile.specs.emitter.ExpPiece.{unpack_op, made_piece, op_piece, renewed_piece, exp_piece, part_piece, exps_piece, entries_piece, args_piece, pieces_piece, spec_piece, links_piece, ands_piece, ors_piece, formals_piece, first_piece, clauses_piece, item_piece, target_piece, targets_piece, place_piece}
use Rattle.sem_compile.specs.stm_pieces.StmPiece.{delete_in, yielded_piece}
use Rattle.sem_compile.specs.stm_pieces.Names.{IsOwn, IsCell, AllOwn, AllCells, TakesCells, Exp_named, Part_named, Exps_named, Pieces_named, Entries_named, Links_named, Operands_named, Args_named, Formals_named, Clauses_named, Made_named, Target_named, Targets_named, Place_named}

abbrev pub Plain : Piece → Type 0
Plain P.empty = Unit {0}
Plain (P.act op n l g) = IsDone op
Plain (P.move op) = IsDone op
Plain (P.seq a b) = Plain a × Plain b
Plain (P.block p) = Plain p
Plain (P.headed p) = Plain p
Plain (P.closed p) = Plain p
Plain p = ⊥

pub plain_fits : (p : Piece) → Plain p → (es : List Bool) (g : Bool) → Fits p es g
plain_fits P.empty h es g = tt
plain_fits (P.act op n l a) h es g = h
plain_fits (P.move op) h es g = h
plain_fits (P.seq a b) h es g = (plain_fits a h.0 es g, plain_fits b h.1 es g)
plain_fits (P.block p) h es g = plain_fits p h (true ∷ es) g
plain_fits (P.headed p) h es g = plain_fits p h (false ∷ es) g
plain_fits (P.closed p) h es g = plain_fits p h [] g
plain_fits (P.looped b p) h es g = absurd h
plain_fits (P.leave e n l) h es g = absurd h
plain_fits (P.ensured p) h es g = absurd h
plain_fits (P.caught p q) h es g = absurd h
plain_fits (P.deeper k p) h es g = absurd h
plain_fits (P.started l p) h es g = absurd h
plain_fits (P.numbered n p) h es g = absurd h

-- names

pub load_done : (s : Scope) (x : Name) → IsDone (load_in s x)
load_done T.local x = tt
load_done T.cell x = tt
load_done T.free x = tt
load_done T.global x = tt
load_done T.of_class x = tt

pub store_done : (s : Scope) (x : Name) → IsDone (store_in s x)
store_done T.local x = tt
store_done T.cell x = tt
store_done T.free x = tt
store_done T.global x = tt
store_done T.of_class x = tt

pub delete_done : (s : Scope) (x : Name) → IsDone (delete_in s x)
delete_done T.local x = tt
delete_done T.cell x = tt
delete_done T.free x = tt
delete_done T.global x = tt
delete_done T.of_class x = tt

renew_done : (s : Scope) (x : Name) → IsOwn s → IsDone (renew_in s x)
renew_done T.local x h = tt
renew_done T.cell x h = tt
renew_done T.free x h = absurd h
renew_done T.global x h = absurd h
renew_done T.of_class x h = absurd h

cell_done : (s : Scope) (x : Name) → IsCell s → IsDone (cell_in s x)
cell_done T.cell x h = tt
cell_done T.free x h = tt
cell_done T.local x h = absurd h
cell_done T.global x h = absurd h
cell_done T.of_class x h = absurd h

-- calls, whose arguments aren't spread or have names

call_done : (n : ℕ) (rs : List Role) (o : Option (List Name)) → are_plain rs ≡ true → IsDone (call_by n rs o)
call_done n rs (Some []) e = tt
call_done n rs (Some (x ∷ xs)) e = tt
call_done n rs None e = by (are_plain rs) e
  where
    by : (b : Bool) → b ≡ true → IsDone (if b then P.with_list (instr.CallSpread n) (map text_of rs) else P.never)
    by true e = tt
    by false e = absurd cc

unpack_done : (n : ℕ) (o : Option ℕ) → IsDone (unpack_op n o)
unpack_done n None = tt
unpack_done n (Some k) = tt

module _ {V : Type 0} (around : Around V) (cells : TakesCells around) where
  pub made_plain : (xs : List Variable) (op : Operation) (l n : ℕ) (g : Bool) (k : ℕ) → AllCells xs → IsDone (operation op k)
      → Plain (made_piece around xs op l n g k)
  made_plain [] op l n g k c d = d
  made_plain (x ∷ xs) op l n g k c d = (cell_done x.scope x.name c.0, made_plain xs op l n g k c.1 d)

  renewed_plain : (xs : List Variable) → AllOwn xs → Plain (renewed_piece around xs)
  renewed_plain [] h = tt
  renewed_plain (x ∷ xs) h = (renew_done x.scope x.name h.0, renewed_plain xs h.1)

  built_plain : (m : Made) (l n : ℕ) → Plain (made_piece around [] (built_as m) l n false 0)
  built_plain (S.a_list e) l n = tt
  built_plain (S.a_set e) l n = tt
  built_plain (S.a_dict k e) l n = tt

  -- an operation without cells of a block
  abbrev Simple : Operation → Type 0
  Simple op = (l n : ℕ) (g : Bool) (k : ℕ) → Plain (op_piece around op l n g k)

  function_plain : (b : ℕ) (ys : List Name) → Simple (T.function b ys)
  function_plain b ys l n g k = made_plain (around.captured b) (T.function b ys) l n g k (cells b) tt

  mutual
    pub plain : (e : Exp) (n : ℕ) (g : Bool) (v : List ℕ) → Exp_named around e n v → Plain (exp_piece around e n g v)
    plain (S.constant l k) n g v h = tt
    plain (S.name l x) n g v h = let y = around.variable v x in load_done y.scope y.name
    plain (S.joined l S.no_pieces) n g v h = tt
    plain (S.joined l (S.literal k t r)) n g v h = (tt, pieces r l (n + 1) 1 v h)
    plain (S.joined l (S.field k e c sp r)) n g v (a, b, c') =
        (plain e n g v a, (spec sp k (n + size e) c v b, pieces r l (n + size e + pieces_size sp + joins sp + 1) 1 v c'))
    plain (S.tuple l S.no_exps) n g v h = tt
    plain (S.tuple l (S.more_exps e es)) n g v (a, b) = (plain e n g v a, exps es T.tuple (λ l n g k. tt) l (n + size e) 1 v b)
    plain (S.list l S.no_exps) n g v h = tt
    plain (S.list l (S.more_exps e es)) n g v (a, b) = (plain e n g v a, exps es T.list (λ l n g k. tt) l (n + size e) 1 v b)
    plain (S.set l S.no_exps) n g v h = tt
    plain (S.set l (S.more_exps e es)) n g v (a, b) = (plain e n g v a, exps es T.set (λ l n g k. tt) l (n + size e) 1 v b)
    plain (S.dict l S.no_entries) n g v h = tt
    plain (S.dict l (S.entry p q r)) n g v (a, b, c) =
        (plain p n g v a, (plain q (n + size p) false v b, entries r l (n + size p + size q) 1 v c))
    plain (S.attribute l p y) n g v h = (plain p n g v h, tt)
    plain (S.item l p q) n g v (a, b) = (plain p n g v a, (plain q (n + size p) false v b, tt))
    plain (S.slice l S.absent S.absent S.absent) n g v h = (tt, (tt, (tt, tt)))
    plain (S.slice l S.absent S.absent (S.given r)) n g v (a, b) = (tt, (tt, (plain r n g v a, tt)))
    plain (S.slice l S.absent (S.given q) r) n g v (a, b) = (tt, (plain q n g v a, part r l (n + size q) v b))
    plain (S.slice l (S.given p) S.absent r) n g v (a, b) = (plain p n g v a, (tt, part r l (n + size p) v b))
    plain (S.slice l (S.given p) (S.given q) r) n g v (a, (b, c)) =
        (plain p n g v a, (plain q (n + size p) false v b, part r l (n + size p + size q) v c))
    plain (S.unary l o p) n g v h = (plain p n g v h, tt)
    plain (S.not_of l p) n g v h = (plain p n g v h, tt)
    plain (S.binary l o p q) n g v (a, b) = (plain p n g v a, (plain q (n + size p) false v b, tt))
    plain (S.compare l p o q r) n g v (a, b, c) = (plain p n g v a, (plain q (n + size p) false v b, links r o l (n + size p + size q) v c))
    plain (S.and l p es) n g v (a, b) = (plain p n g v a, ands es l (n + size p) v b)
    plain (S.or l p es) n g v (a, b) = (plain p n g v a, ors es l (n + size p) v b)
    plain (S.conditional l c p q) n g v (a, b, d) =
        ((plain c n g v a, (tt, (plain p (n + size c + 1) false v b, tt))), plain q (n + size c + 1 + size p) false v d)
    plain (S.call l f ys) n g v (a, e, b) =
        let rs = roles around.spelled ys in
        (plain f n g v a, args ys (T.call rs) (λ l n g k. call_done (length rs) rs (last_names rs) e) l (n + size f) 1 v b)
    plain (S.lambda l b (S.parameters ps s ks d) e) n g v h =
        let ys = map around.spelled (defaulted ps ++ defaulted ks) in
        first_of_both ps ks b ys l n g v (first ks b ys l n g v) (λ m k i. formals ks b ys l m k v i) h
    plain (S.comprehension l m k t it cs) n g v (a, o, b, c) =
        let w = (n + size it + 1 + 1) ∷ v in (
          plain it n g v a,
          (
            tt,
            (
              built_plain m l (n + size it + 1),
              (
                tt,
                (
                  renewed_plain _ o,
                  (tt, (target t (n + size it + 1 + 1 + 1) w b, clauses cs m l (n + size it + 1 + 1 + 1 + target_size t) 1 w (λ j d i. item m l j d w i) c)),
                ),
              ),
            ),
          ),
        )
    plain (S.generator l b e k t it cs) n g v h =
        (plain it n g v h, (tt, made_plain (around.captured b) (T.generator b) l (n + size it + 1) false 1 (cells b) tt))
    plain (S.yield l S.absent) n g v h = (tt, tt)
    plain (S.yield l (S.given e)) n g v h = (plain e n g v h, tt)
    plain (S.yield_from l e) n g v h = (plain e n g v h, (tt, (tt, tt)))

    part : (o : Opt) (l n : ℕ) (v : List ℕ) → Part_named around o n v (λ m. Unit {0})
        → Plain (part_piece around o n v (λ m. op_piece around T.slice l m false 3))
    part S.absent l n v h = (tt, tt)
    part (S.given e) l n v (a, b) = (plain e n false v a, tt)

    exps : (es : Exps) (op : Operation) → Simple op → (l n k : ℕ) (v : List ℕ) → Exps_named around es n v → Plain (exps_piece around es op l n k v)
    exps S.no_exps op s l n k v h = s l n false k
    exps (S.more_exps e es) op s l n k v (a, b) = (plain e n false v a, exps es op s l (n + size e) (suc k) v b)

    entries : (r : Entries) (l n k : ℕ) (v : List ℕ) → Entries_named around r n v → Plain (entries_piece around r l n k v)
    entries S.no_entries l n k v h = tt
    entries (S.entry p q r) l n k v (a, b, c) =
        (plain p n false v a, (plain q (n + size p) false v b, entries r l (n + size p + size q) (suc k) v c))

    args : (r : Args) (op : Operation) → Simple op → (l n k : ℕ) (v : List ℕ) → Args_named around r n v → Plain (args_piece around r op l n k v)
    args S.no_args op s l n k v h = s l n false k
    args (S.positional e r) op s l n k v (a, b) = (plain e n false v a, args r op s l (n + size e) (suc k) v b)
    args (S.named y e r) op s l n k v (a, b) = (plain e n false v a, args r op s l (n + size e) (suc k) v b)
    args (S.spread e r) op s l n k v (a, b) = (plain e n false v a, (tt, args r op s l (n + size e + 1) (suc k) v b))
    args (S.spread_named e r) op s l n k v (a, b) = (plain e n false v a, (tt, args r op s l (n + size e + 1) (suc k) v b))

    pieces : (r : Pieces) (l n k : ℕ) (v : List ℕ) → Pieces_named around r n v → Plain (pieces_piece around r l n k v)
    pieces S.no_pieces l n k v h = tt
    pieces (S.literal a t r) l n k v h = (tt, pieces r l (n + 1) (suc k) v h)
    pieces (S.field k' e c sp r) l n k v (a, b, d) =
        (plain e n false v a, (spec sp k' (n + size e) c v b, pieces r l (n + size e + pieces_size sp + joins sp + 1) (suc k) v d))

    spec : (r : Pieces) (l n : ℕ) (c : Option Conversion) (v : List ℕ) → Pieces_named around r n v → Plain (spec_piece around r l n c v)
    spec S.no_pieces l n c v h = (tt, tt)
    spec (S.literal a t S.no_pieces) l n c v h = (tt, tt)
    spec (S.field k e d sp S.no_pieces) l n c v (a, b, h) = (plain e n false v a, (spec sp k (n + size e) d v b, tt))
    spec (S.literal a t (S.literal b u r)) l n c v h = (tt, (pieces (S.literal b u r) l (n + 1) 1 v h, tt))
    spec (S.literal a t (S.field b e d sp r)) l n c v h = (tt, (pieces (S.field b e d sp r) l (n + 1) 1 v h, tt))
    spec (S.field k e d sp (S.literal b u r)) l n c v (a, p, h) =
        (plain e n false v a, (spec sp k (n + size e) d v p, (pieces (S.literal b u r) l (n + size e + pieces_size sp + joins sp + 1) 1 v h, tt)))
    spec (S.field k e d sp (S.field b f d' sp' r)) l n c v (a, p, h) =
        (plain e n false v a, (spec sp k (n + size e) d v p, (pieces (S.field b f d' sp' r) l (n + size e + pieces_size sp + joins sp + 1) 1 v h, tt)))

    links : (r : Links) (o : CompareOp) (l n : ℕ) (v : List ℕ) → Links_named around r n v → Plain (links_piece around r o l n v)
    links S.no_links o l n v h = tt
    links (S.link p b r) o l n v (a, c) =
        ((tt, (tt, (tt, (tt, (plain b (n + 1 + 1) false v a, (links r p l (n + 1 + 1 + size b) v c, tt)))))), (tt, tt))

    ands : (es : Exps) (l n : ℕ) (v : List ℕ) → Operands_named around es n v → Plain (ands_piece around es l n v)
    ands S.no_exps l n v h = tt
    ands (S.more_exps e es) l n v (a, b) = (tt, (plain e (n + 1) false v a, ands es l (n + 1 + size e) v b))

    ors : (es : Exps) (l n : ℕ) (v : List ℕ) → Operands_named around es n v → Plain (ors_piece around es l n v)
    ors S.no_exps l n v h = tt
    ors (S.more_exps e es) l n v (a, b) = (tt, (plain e (n + 1) false v a, ors es l (n + 1 + size e) v b))

    formals : (r : Formals) (b : ℕ) (ys : List Name) (l n k : ℕ) (v : List ℕ) → Formals_named around r n v (λ m. Unit {0})
        → Plain (formals_piece around r n k v (λ m k. op_piece around (T.function b ys) l m false k))
    formals S.no_formals b ys l n k v h = function_plain b ys l n false k
    formals (S.formal a y t S.absent r) b ys l n k v h = formals r b ys l n k v h
    formals (S.formal a y t (S.given d) r) b ys l n k v (p, q) = (plain d n false v p, formals r b ys l (n + size d) (suc k) v q)

    -- behind them stand those of the keyword-only parameters
    formals_of_both : (r ks : Formals) (b : ℕ) (ys : List Name) (l n k : ℕ) (v : List ℕ)
        → ((m q : ℕ) → Formals_named around ks m v (λ m. Unit {0})
        → Plain (formals_piece around ks m q v (λ m k. op_piece around (T.function b ys) l m false k)))
        → Formals_named around r n v (λ m. Formals_named around ks m v (λ m. Unit {0}))
        → Plain (formals_piece around r n k v (λ m k. formals_piece around ks m k v (λ m k. op_piece around (T.function b ys) l m false k)))
    formals_of_both S.no_formals ks b ys l n k v others h = others n k h
    formals_of_both (S.formal a y t S.absent r) ks b ys l n k v others h = formals_of_both r ks b ys l n k v others h
    formals_of_both (S.formal a y t (S.given d) r) ks b ys l n k v others (p, q) =
        (plain d n false v p, formals_of_both r ks b ys l (n + size d) (suc k) v others q)

    first : (r : Formals) (b : ℕ) (ys : List Name) (l n : ℕ) (g : Bool) (v : List ℕ) → Formals_named around r n v (λ m. Unit {0})
        → Plain (first_piece around r n g v (op_piece around (T.function b ys) l n g 0) (λ m k. op_piece around (T.function b ys) l m false k))
    first S.no_formals b ys l n g v h = function_plain b ys l n g 0
    first (S.formal a y t S.absent r) b ys l n g v h = first r b ys l n g v h
    first (S.formal a y t (S.given d) r) b ys l n g v (p, q) = (plain d n g v p, formals r b ys l (n + size d) 1 v q)

    first_of_both : (r ks : Formals) (b : ℕ) (ys : List Name) (l n : ℕ) (g : Bool) (v : List ℕ)
        → (Formals_named around ks n v (λ m. Unit {0})
        → Plain (first_piece around ks n g v (op_piece around (T.function b ys) l n g 0) (λ m k. op_piece around (T.function b ys) l m false k)))
        → ((m q : ℕ) → Formals_named around ks m v (λ m. Unit {0})
        → Plain (formals_piece around ks m q v (λ m k. op_piece around (T.function b ys) l m false k)))
        → Formals_named around r n v (λ m. Formals_named around ks m v (λ m. Unit {0}))
        → Plain (first_piece around r n g v
        (first_piece around ks n g v (op_piece around (T.function b ys) l n g 0) (λ m k. op_piece around (T.function b ys) l m false k))
        (λ m k. formals_piece around ks m k v (λ m k. op_piece around (T.function b ys) l m false k)))
    first_of_both S.no_formals ks b ys l n g v none others h = none h
    first_of_both (S.formal a y t S.absent r) ks b ys l n g v none others h = first_of_both r ks b ys l n g v none others h
    first_of_both (S.formal a y t (S.given d) r) ks b ys l n g v none others (p, q) =
        (plain d n g v p, formals_of_both r ks b ys l (n + size d) 1 v others q)

    clauses : (cs : Clauses) (w : Made) (l n d : ℕ) (v : List ℕ) → ((m q : ℕ) → Made_named around w m v → Plain (item_piece around w l m q v))
        → Clauses_named around cs n v (λ j. Made_named around w j v) → Plain (clauses_piece around cs l n d v (λ j d. item_piece around w l j d v))
    clauses S.no_clauses w l n d v f h = f n d h
    clauses (S.only_if c cs) w l n d v f (a, b) = (plain c n false v a, (tt, clauses cs w l (n + size c + 1) d v f b))
    clauses (S.for_each k t it cs) w l n d v f (a, b, c) =
        (plain it n false v a, (tt, (tt, (target t (n + size it + 1 + 1) v b, clauses cs w l (n + size it + 1 + 1 + target_size t) (suc d) v f c))))

    item : (m : Made) (l n d : ℕ) (v : List ℕ) → Made_named around m n v → Plain (item_piece around m l n d v)
    item (S.a_list e) l n d v h = (plain e n false v h, (tt, tt))
    item (S.a_set e) l n d v h = (plain e n false v h, (tt, tt))
    item (S.a_dict k e) l n d v (a, b) = (plain k n false v a, (plain e (n + size k) false v b, (tt, tt)))

    pub target : (t : Tgt) (n : ℕ) (v : List ℕ) → Target_named around t n v → Plain (target_piece around t n v)
    target (S.single p) n v h = place p n v h
    target (S.several l f ts) n v h = (unpack_done (statements.count ts) (star_of ts), targets ts (n + 1) v h)
    target (S.starred l t) n v h = target t n v h

    pub targets : (ts : Tgts) (n : ℕ) (v : List ℕ) → Targets_named around ts n v → Plain (targets_piece around ts n v)
    targets S.no_targets n v h = tt
    targets (S.more_targets t ts) n v (a, b) = (target t n v a, targets ts (n + target_size t) v b)

    place : (p : Place) (n : ℕ) (v : List ℕ) → Place_named around p n v → Plain (place_piece around p n v)
    place (S.name_at l x) n v h = let y = around.variable v x in store_done y.scope y.name
    place (S.attribute_at l a x) n v h = (plain a n false v h, tt)
    place (S.item_at l p q) n v (a, b) = (plain p n false v a, (plain q (n + size p) false v b, tt))

  -- of a generator expression
  pub clauses_of_generator : (cs : Clauses) (e : Exp) (l n d : ℕ) → Clauses_named around cs n [] (λ m. Exp_named around e m [])
      → Plain (clauses_piece around cs l n d [] (λ n d. yielded_piece around l e n))
  clauses_of_generator S.no_clauses e l n d h = (plain e n false [] h, (tt, (tt, tt)))
  clauses_of_generator (S.only_if c cs) e l n d (a, b) = (plain c n false [] a, (tt, clauses_of_generator cs e l (n + size c + 1) d b))
  clauses_of_generator (S.for_each k t it cs) e l n d (a, b, c) =
      (plain it n false [] a, (tt, (tt, (target t (n + size it + 1 + 1) [] b, clauses_of_generator cs e l (n + size it + 1 + 1 + target_size t) (suc d) c))))
