-- No handler row, no loop, no exit of a loop and no statement stands in the piece of an expression.
use Rattle.std.proofs.Common.{ℕ, ◌+◌, suc, Bool, true, false, if◌then◌else◌, List, [], ◌∷◌, ◌++◌, map, length, Option, Some, None, refl}
use Rattle.pt_base.specs.declared.operators.CompareOp.{CompareOp}
use Rattle.pt_tree.specs.declared.expression.Conversion.{Conversion}
use Rattle.pt_tree.specs.Syntax as S
use Rattle.pt_tree.specs.Syntax.{Name, Exp, Exps, Opt, Pieces, Entries, Links as ChainLinks, Args, Made, Clauses, Place, Tgt, Tgts, Formals}
use Rattle.pt_tree.specs.Sizes.{size, pieces_size, joins, target_size}
use Rattle.pt_instr.specs.declared.Instr.TheVariants as instr
use Rattle.sem_control.specs.control.Turn as T
use Rattle.sem_control.specs.control.Turn.{Around, Scope, Variable, Role, Operation}
use Rattle.sem_control.specs.control.Expressions.{roles, making, cells_of, target_names, clause_names, built_as}
use Rattle.sem_control.specs.control.Statements as statements
use Rattle.sem_control.specs.control.Statements.{star_of}
use Rattle.pt_assembler.specs.declared.operation.Exit.{Exit}
use Rattle.pt_assembler.specs.Piece as P
use Rattle.pt_assembler.specs.Piece.{Piece}
use Rattle.sem_fits.specs.fits.Block.{Links}
use Rattle.law_operands.specs.law_files.sem_compile.emitter.Ops.{load_in, store_in, renew_in, cell_in, text_of, last_names, are_plain, call_by, operation}
use Rattle.law_operands.specs.law_files.sem_compile.emitter.ExpPiece.{unpack_op, made_piece, op_piece, renewed_piece, exp_piece, part_piece, exps_piece, entries_piece, args_piece, pieces_piece, spec_piece, links_piece, ands_piece, ors_piece, formals_piece, first_piece, clauses_piece, item_piece, target_piece, targets_piece, place_piece}
use Rattle.law_pieces.specs.piece_kinds.Walk.{Loop, StackMap, Setting, with_label, with_none, end_of, deepened, behind}
use Rattle.law_pieces.specs.piece_kinds.Exits.{NeverLeaves, ExitsAre}

abbrev pub IsPlain : Piece → Type 0
IsPlain P.empty = Unit {0}
IsPlain (P.act op n l g) = NeverLeaves op
IsPlain (P.move op) = NeverLeaves op
IsPlain (P.seq a b) = IsPlain a × IsPlain b
IsPlain (P.block p) = IsPlain p
IsPlain (P.headed p) = IsPlain p
IsPlain (P.closed p) = IsPlain p
IsPlain (P.looped b p) = ⊥
IsPlain (P.leave e n l) = ⊥
IsPlain (P.ensured p) = ⊥
IsPlain (P.caught p q) = ⊥
IsPlain (P.deeper k p) = IsPlain p
IsPlain (P.started l p) = ⊥
IsPlain (P.numbered n p) = IsPlain p

-- so no exit stands in it
pub plain_exits : (links : Links) (next : ℕ → ℕ) (W : Option Loop → StackMap → Exit → Type 0) (p : Piece) (c : Setting) (base : StackMap) (from : ℕ) (s : Option StackMap)
    → IsPlain p → ExitsAre links next W p c base from s
plain_exits links next W p c base from None h = tt
plain_exits links next W P.empty c base from (Some ks) h = tt
plain_exits links next W (P.act op n l g) c base from (Some ks) h = h
plain_exits links next W (P.move op) c base from (Some ks) h = h
plain_exits links next W (P.seq a b) c base from (Some ks) h =
    (plain_exits links next W a c base from (Some ks) h.0, plain_exits links next W b c base (end_of next a from) (behind links next a c base from (Some ks)) h.1)
plain_exits links next W (P.block p) c base from (Some ks) h = plain_exits links next W p (with_label (end_of next p from) c) base from (Some ks) h
plain_exits links next W (P.headed p) c base from (Some ks) h = plain_exits links next W p (with_label from c) base from (Some ks) h
plain_exits links next W (P.closed p) c base from (Some ks) h = plain_exits links next W p (with_none c) base from (Some ks) h
plain_exits links next W (P.looped k p) c base from (Some ks) h = absurd h
plain_exits links next W (P.leave e n l) c base from (Some ks) h = absurd h
plain_exits links next W (P.ensured p) c base from (Some ks) h = absurd h
plain_exits links next W (P.caught p q) c base from (Some ks) h = absurd h
plain_exits links next W (P.deeper k p) c base from (Some ks) h = plain_exits links next W p c (deepened k base (Some ks)) from (Some ks) h
plain_exits links next W (P.started l p) c base from (Some ks) h = absurd h
plain_exits links next W (P.numbered n p) c base from (Some ks) h = plain_exits links next W p c base from (Some ks) h

-- operations

pub loads : (s : Scope) (x : Name) → NeverLeaves (load_in s x)
loads T.local x = λ i. refl
loads T.cell x = λ i. refl
loads T.free x = tt
loads T.global x = λ t. refl
loads T.of_class x = λ t. refl

pub stores : (s : Scope) (x : Name) → NeverLeaves (store_in s x)
stores T.local x = λ i. refl
stores T.cell x = λ i. refl
stores T.free x = tt
stores T.global x = λ t. refl
stores T.of_class x = λ t. refl

renews : (s : Scope) (x : Name) → NeverLeaves (renew_in s x)
renews T.local x = λ i. refl
renews T.cell x = λ i. refl
renews T.free x = tt
renews T.global x = tt
renews T.of_class x = tt

pushes : (s : Scope) (x : Name) → NeverLeaves (cell_in s x)
pushes T.local x = tt
pushes T.cell x = λ i. refl
pushes T.free x = tt
pushes T.global x = tt
pushes T.of_class x = tt

calls : (n : ℕ) (rs : List Role) (names : Option (List Name)) → NeverLeaves (call_by n rs names)
calls n rs (Some []) = refl
calls n rs (Some (x ∷ xs)) = λ l. refl
calls n rs None = by (are_plain rs)
  where
    by : (t : Bool) → NeverLeaves (if t then P.with_list (instr.CallSpread n) (map text_of rs) else P.never)
    by true = λ l. refl
    by false = tt

pub does : (op : Operation) (k : ℕ) → NeverLeaves (operation op k)
does T.tuple k = refl
does T.list k = refl
does T.set k = refl
does T.dict k = refl
does (T.get x) k = λ t. refl
does T.item k = refl
does T.slice k = refl
does (T.unary o) k = refl
does T.inverted k = refl
does (T.binary o) k = refl
does (T.in_place o) k = refl
does (T.compare o) k = refl
does (T.format c) k = refl
does T.join k = refl
does T.spread_out k = refl
does T.spread_named_out k = refl
does (T.call rs) k = calls (length rs) rs (last_names rs)
does (T.function b xs) k = λ l. refl
does (T.class b) k = refl
does (T.generator b) k = refl
does (T.import x) k = λ t. refl
does (T.import_name x) k = λ t. refl

unpacks : (n : ℕ) (star : Option ℕ) → NeverLeaves (unpack_op n star)
unpacks n None = refl
unpacks n (Some k) = refl

module _ {V : Type 0} (around : Around V) where
  pub made : (xs : List Variable) (op : Operation) (l n : ℕ) (g : Bool) (k : ℕ) → IsPlain (made_piece around xs op l n g k)
  made [] op l n g k = does op k
  made (x ∷ xs) op l n g k = (pushes x.scope x.name, made xs op l n g k)

  pub by_op : (op : Operation) (l n : ℕ) (g : Bool) (k : ℕ) → IsPlain (op_piece around op l n g k)
  by_op op l n g k = made (cells_of around op) op l n g k

  renewed : (xs : List Variable) → IsPlain (renewed_piece around xs)
  renewed [] = tt
  renewed (x ∷ xs) = (renews x.scope x.name, renewed xs)

  mutual
    pub exp : (e : Exp) (n : ℕ) (g : Bool) (v : List ℕ) → IsPlain (exp_piece around e n g v)
    exp (S.constant l k) n g v = tt
    exp (S.name l x) n g v = let z = around.variable v x in loads z.scope z.name
    exp (S.joined l S.no_pieces) n g v = by_op T.join l n g 0
    exp (S.joined l (S.literal k t r)) n g v = (tt, pieces r l (n + 1) 1 v)
    exp (S.joined l (S.field k e c sp r)) n g v = (exp e n g v, (spec sp k (n + size e) c v, pieces r l (n + size e + pieces_size sp + joins sp + 1) 1 v))
    exp (S.tuple l S.no_exps) n g v = by_op T.tuple l n g 0
    exp (S.tuple l (S.more_exps e es)) n g v = (exp e n g v, exps es T.tuple l (n + size e) 1 v)
    exp (S.list l S.no_exps) n g v = by_op T.list l n g 0
    exp (S.list l (S.more_exps e es)) n g v = (exp e n g v, exps es T.list l (n + size e) 1 v)
    exp (S.set l S.no_exps) n g v = by_op T.set l n g 0
    exp (S.set l (S.more_exps e es)) n g v = (exp e n g v, exps es T.set l (n + size e) 1 v)
    exp (S.dict l S.no_entries) n g v = by_op T.dict l n g 0
    exp (S.dict l (S.entry a b r)) n g v = (exp a n g v, (exp b (n + size a) false v, entries r l (n + size a + size b) 1 v))
    exp (S.attribute l a x) n g v = (exp a n g v, by_op (T.get (around.spelled x)) l (n + size a) false 1)
    exp (S.item l a i) n g v = (exp a n g v, (exp i (n + size a) false v, by_op T.item l (n + size a + size i) false 2))
    exp (S.slice l S.absent S.absent S.absent) n g v = (tt, (tt, (tt, by_op T.slice l n g 3)))
    exp (S.slice l S.absent S.absent (S.given c)) n g v = (tt, (tt, (exp c n g v, by_op T.slice l (n + size c) false 3)))
    exp (S.slice l S.absent (S.given b) c) n g v = (tt, (exp b n g v, part c (n + size b) v (λ m. op_piece around T.slice l m false 3) (λ m. by_op T.slice l m false 3)))
    exp (S.slice l (S.given a) b c) n g v = (
      exp a n g v,
      part b (n + size a) v (λ m. part_piece around c m v (λ m. op_piece around T.slice l m false 3))
          (λ m. part c m v (λ m. op_piece around T.slice l m false 3) (λ m. by_op T.slice l m false 3)),
    )
    exp (S.unary l o a) n g v = (exp a n g v, by_op (T.unary o) l (n + size a) false 1)
    exp (S.not_of l a) n g v = (exp a n g v, by_op T.inverted l (n + size a) false 1)
    exp (S.binary l o a b) n g v = (exp a n g v, (exp b (n + size a) false v, by_op (T.binary o) l (n + size a + size b) false 2))
    exp (S.compare l a o b r) n g v = (exp a n g v, (exp b (n + size a) false v, chain r o l (n + size a + size b) v))
    exp (S.and l a es) n g v = (exp a n g v, ands es l (n + size a) v)
    exp (S.or l a es) n g v = (exp a n g v, ors es l (n + size a) v)
    exp (S.conditional l c a b) n g v =
        ((exp c n g v, (refl, (exp a (n + size c + 1) false v, refl))), exp b (n + size c + 1 + size a) false v)
    exp (S.call l f ys) n g v = (exp f n g v, args ys (T.call (roles around.spelled ys)) l (n + size f) 1 v)
    exp (S.lambda l b (S.parameters ps s ks d) e) n g v =
        let last : (m k : ℕ) → Piece = λ m k. op_piece around (making around b ps ks) l m false k in
        first ps n g v (first_piece around ks n g v (op_piece around (making around b ps ks) l n g 0) last) (λ m k. formals_piece around ks m k v last)
        (first ks n g v (op_piece around (making around b ps ks) l n g 0) last (by_op (making around b ps ks) l n g 0) (λ m k. by_op (making around b ps ks) l m false k))
        (λ m k. formals ks m k v last (λ m k. by_op (making around b ps ks) l m false k))
    exp (S.comprehension l m k t it cs) n g v =
        let w : List ℕ = (n + size it + 1 + 1) ∷ v in (
          exp it n g v,
          (
            refl,
            (
              made [] (built_as m) l (n + size it + 1) false 0,
              (
                refl,
                (
                  renewed (map (around.variable w) (target_names t ++ clause_names cs)),
                  (refl, (target t (n + size it + 1 + 1 + 1) w, clauses cs l (n + size it + 1 + 1 + 1 + target_size t) 1 w (λ j d. item_piece around m l j d w) (λ j d. item m l j d w))),
                ),
              ),
            ),
          ),
        )
    exp (S.generator l b e k t it cs) n g v = (exp it n g v, (refl, made (around.captured b) (T.generator b) l (n + size it + 1) false 1))
    exp (S.yield l S.absent) n g v = (tt, refl)
    exp (S.yield l (S.given e)) n g v = (exp e n g v, refl)
    exp (S.yield_from l e) n g v = (exp e n g v, (refl, (tt, refl)))

    part : (e : Opt) (n : ℕ) (v : List ℕ) (after : ℕ → Piece) → ((m : ℕ) → IsPlain (after m)) → IsPlain (part_piece around e n v after)
    part S.absent n v after f = (tt, f n)
    part (S.given e) n v after f = (exp e n false v, f (n + size e))

    exps : (es : Exps) (op : Operation) (l n k : ℕ) (v : List ℕ) → IsPlain (exps_piece around es op l n k v)
    exps S.no_exps op l n k v = by_op op l n false k
    exps (S.more_exps e es) op l n k v = (exp e n false v, exps es op l (n + size e) (suc k) v)

    entries : (r : Entries) (l n k : ℕ) (v : List ℕ) → IsPlain (entries_piece around r l n k v)
    entries S.no_entries l n k v = by_op T.dict l n false k
    entries (S.entry a b r) l n k v = (exp a n false v, (exp b (n + size a) false v, entries r l (n + size a + size b) (suc k) v))

    args : (r : Args) (op : Operation) (l n k : ℕ) (v : List ℕ) → IsPlain (args_piece around r op l n k v)
    args S.no_args op l n k v = by_op op l n false k
    args (S.positional e r) op l n k v = (exp e n false v, args r op l (n + size e) (suc k) v)
    args (S.named x e r) op l n k v = (exp e n false v, args r op l (n + size e) (suc k) v)
    args (S.spread e r) op l n k v = (exp e n false v, (by_op T.spread_out l (n + size e) false 1, args r op l (n + size e + 1) (suc k) v))
    args (S.spread_named e r) op l n k v = (exp e n false v, (by_op T.spread_named_out l (n + size e) false 1, args r op l (n + size e + 1) (suc k) v))

    pieces : (r : Pieces) (l n k : ℕ) (v : List ℕ) → IsPlain (pieces_piece around r l n k v)
    pieces S.no_pieces l n k v = by_op T.join l n false k
    pieces (S.literal a t r) l n k v = (tt, pieces r l (n + 1) (suc k) v)
    pieces (S.field a e c sp r) l n k v = (exp e n false v, (spec sp a (n + size e) c v, pieces r l (n + size e + pieces_size sp + joins sp + 1) (suc k) v))

    spec : (r : Pieces) (l n : ℕ) (c : Option Conversion) (v : List ℕ) → IsPlain (spec_piece around r l n c v)
    spec S.no_pieces l n c v = (tt, by_op (T.format c) l n false 2)
    spec (S.literal a t S.no_pieces) l n c v = (tt, by_op (T.format c) l (n + 1) false 2)
    spec (S.field k e d sp S.no_pieces) l n c v =
        (exp e n false v, (spec sp k (n + size e) d v, by_op (T.format c) l (n + size e + pieces_size sp + joins sp + 1) false 2))
    spec (S.literal a t (S.literal b u r)) l n c v =
        (tt, (pieces (S.literal b u r) l (n + 1) 1 v, by_op (T.format c) l (n + 1 + pieces_size (S.literal b u r) + 1) false 2))
    spec (S.literal a t (S.field b e d sp r)) l n c v =
        (tt, (pieces (S.field b e d sp r) l (n + 1) 1 v, by_op (T.format c) l (n + 1 + pieces_size (S.field b e d sp r) + 1) false 2))
    spec (S.field k e d sp (S.literal b u r)) l n c v = (
      exp e n false v,
      (
        spec sp k (n + size e) d v,
        (
          pieces (S.literal b u r) l (n + size e + pieces_size sp + joins sp + 1) 1 v,
          by_op (T.format c) l (n + pieces_size (S.field k e d sp (S.literal b u r)) + 1) false 2,
        ),
      ),
    )
    spec (S.field k e d sp (S.field b f q tp r)) l n c v = (
      exp e n false v,
      (
        spec sp k (n + size e) d v,
        (
          pieces (S.field b f q tp r) l (n + size e + pieces_size sp + joins sp + 1) 1 v,
          by_op (T.format c) l (n + pieces_size (S.field k e d sp (S.field b f q tp r)) + 1) false 2,
        ),
      ),
    )

    chain : (r : ChainLinks) (o : CompareOp) (l n : ℕ) (v : List ℕ) → IsPlain (links_piece around r o l n v)
    chain S.no_links o l n v = refl
    chain (S.link p b r) o l n v =
        ((refl, (refl, (refl, (refl, (exp b (n + 1 + 1) false v, (chain r p l (n + 1 + 1 + size b) v, refl)))))), (refl, refl))

    ands : (es : Exps) (l n : ℕ) (v : List ℕ) → IsPlain (ands_piece around es l n v)
    ands S.no_exps l n v = tt
    ands (S.more_exps e es) l n v = (refl, (exp e (n + 1) false v, ands es l (n + 1 + size e) v))

    ors : (es : Exps) (l n : ℕ) (v : List ℕ) → IsPlain (ors_piece around es l n v)
    ors S.no_exps l n v = tt
    ors (S.more_exps e es) l n v = (refl, (exp e (n + 1) false v, ors es l (n + 1 + size e) v))

    formals : (r : Formals) (n k : ℕ) (v : List ℕ) (after : (m k : ℕ) → Piece) → ((m k : ℕ) → IsPlain (after m k)) → IsPlain (formals_piece around r n k v after)
    formals S.no_formals n k v after f = f n k
    formals (S.formal a x t S.absent r) n k v after f = formals r n k v after f
    formals (S.formal a x t (S.given d) r) n k v after f = (exp d n false v, formals r (n + size d) (suc k) v after f)

    first : (r : Formals) (n : ℕ) (g : Bool) (v : List ℕ) (none : Piece) (after : (m k : ℕ) → Piece) → IsPlain none → ((m k : ℕ) → IsPlain (after m k))
        → IsPlain (first_piece around r n g v none after)
    first S.no_formals n g v none after e f = e
    first (S.formal a x t S.absent r) n g v none after e f = first r n g v none after e f
    first (S.formal a x t (S.given d) r) n g v none after e f = (exp d n g v, formals r (n + size d) 1 v after f)

    pub clauses : (cs : Clauses) (l n d : ℕ) (v : List ℕ) (add : (n d : ℕ) → Piece) → ((n d : ℕ) → IsPlain (add n d)) → IsPlain (clauses_piece around cs l n d v add)
    clauses S.no_clauses l n d v add f = f n d
    clauses (S.only_if c cs) l n d v add f = (exp c n false v, (refl, clauses cs l (n + size c + 1) d v add f))
    clauses (S.for_each k t it cs) l n d v add f =
        (exp it n false v, (refl, (refl, (target t (n + size it + 1 + 1) v, clauses cs l (n + size it + 1 + 1 + target_size t) (suc d) v add f))))

    item : (m : Made) (l n d : ℕ) (v : List ℕ) → IsPlain (item_piece around m l n d v)
    item (S.a_list e) l n d v = (exp e n false v, (refl, refl))
    item (S.a_set e) l n d v = (exp e n false v, (refl, refl))
    item (S.a_dict k e) l n d v = (exp k n false v, (exp e (n + size k) false v, (refl, refl)))

    pub target : (t : Tgt) (n : ℕ) (v : List ℕ) → IsPlain (target_piece around t n v)
    target (S.single p) n v = place p n v
    target (S.several l f ts) n v = (unpacks (statements.count ts) (star_of ts), targets ts (n + 1) v)
    target (S.starred l t) n v = target t n v

    targets : (ts : Tgts) (n : ℕ) (v : List ℕ) → IsPlain (targets_piece around ts n v)
    targets S.no_targets n v = tt
    targets (S.more_targets t ts) n v = (target t n v, targets ts (n + target_size t) v)

    place : (p : Place) (n : ℕ) (v : List ℕ) → IsPlain (place_piece around p n v)
    place (S.name_at l x) n v = let z = around.variable v x in stores z.scope z.name
    place (S.attribute_at l a x) n v = (exp a n false v, (λ t. refl))
    place (S.item_at l a i) n v = (exp a n false v, (exp i (n + size a) false v, refl))
