-- In the pieces of expressions and targets no instruction makes a completion, and no act has a
-- number below the first.
use Rattle.std.proofs.Common.{ℕ, ◌+◌, suc, Bool, true, false, if◌then◌else◌, List, [], ◌∷◌, ◌++◌, map, length, Option, Some, None, refl}
use Rattle.pt_base.specs.declared.operators.CompareOp.{CompareOp}
use Rattle.pt_tree.specs.declared.expression.Conversion.{Conversion}
use Rattle.pt_tree.specs.Syntax as S
use Rattle.pt_tree.specs.Syntax.{Name, Exp, Exps, Opt, Pieces, Entries, Links as ChainLinks, Args, Made, Clauses, Place, Tgt, Tgts, Formals}
use Rattle.pt_tree.specs.Sizes.{size, pieces_size, joins, target_size}
use Rattle.pt_instr.specs.declared.Instr.TheVariants as instr
use Rattle.sem_control.specs.control.Turn as T
use Rattle.sem_control.specs.control.Turn.{Around, Scope, Variable, Role, Operation}
use Rattle.sem_control.specs.control.Expressions.{roles, making, cells_of, target_names, clause_names, built_as}
use Rattle.sem_control.specs.control.Statements as statements
use Rattle.sem_control.specs.control.Statements.{star_of}
use Rattle.pt_assembler.specs.Piece as P
use Rattle.pt_assembler.specs.Piece.{Op, Piece}
use Rattle.sem_compile.specs.emitter.Ops.{load_in, store_in, renew_in, cell_in, text_of, last_names, are_plain, call_by, operation}
use Rattle.sem_compile.specs.emitter.ExpPiece.{unpack_op, made_piece, op_piece, renewed_piece, exp_piece, part_piece, exps_piece, entries_piece, args_piece, pieces_piece, spec_piece, links_piece, ands_piece, ors_piece, formals_piece, first_piece, clauses_piece, item_piece, target_piece, targets_piece, place_piece}
use Rattle.sem_compile.specs.stm_pieces.StmPiece.{delete_in}
use Rattle.law_parts.specs.plain_slots.Plain.{MakesNone, Each}

-- operations

pub loads : (s : Scope) (x : Name) → MakesNone (load_in s x)
loads T.local x = refl
loads T.cell x = refl
loads T.free x = refl
loads T.global x = refl
loads T.of_class x = refl

pub stores : (s : Scope) (x : Name) → MakesNone (store_in s x)
stores T.local x = refl
stores T.cell x = refl
stores T.free x = refl
stores T.global x = refl
stores T.of_class x = refl

pub deletes : (s : Scope) (x : Name) → MakesNone (delete_in s x)
deletes T.local x = refl
deletes T.cell x = refl
deletes T.free x = refl
deletes T.global x = refl
deletes T.of_class x = refl

renews : (s : Scope) (x : Name) → MakesNone (renew_in s x)
renews T.local x = refl
renews T.cell x = refl
renews T.free x = refl
renews T.global x = refl
renews T.of_class x = refl

pushes : (s : Scope) (x : Name) → MakesNone (cell_in s x)
pushes T.local x = refl
pushes T.cell x = refl
pushes T.free x = refl
pushes T.global x = refl
pushes T.of_class x = refl

calls : (n : ℕ) (rs : List Role) (names : Option (List Name)) → MakesNone (call_by n rs names)
calls n rs (Some []) = refl
calls n rs (Some (x ∷ xs)) = refl
calls n rs None = by (are_plain rs)
  where
    by : (t : Bool) → MakesNone (if t then P.with_list (instr.CallSpread n) (map text_of rs)
        else P.never)
    by true = refl
    by false = refl

pub does : (op : Operation) (k : ℕ) → MakesNone (operation op k)
does (T.call rs) k = calls (length rs) rs (last_names rs)
does op k = refl

unpacks : (n : ℕ) (star : Option ℕ) → MakesNone (unpack_op n star)
unpacks n None = refl
unpacks n (Some k) = refl

-- of numbers that go on upwards
module _ (R : ℕ → Type 0) (up : (n k : ℕ) → R n → R (n + k)) {V : Type 0} (around : Around V) where
  pub made : (xs : List Variable) (op : Operation) (l n : ℕ) (g : Bool) (k : ℕ) → R n
      → Each R (made_piece around xs op l n g k)
  made [] op l n g k r = (does op k, r)
  made (x ∷ xs) op l n g k r = (pushes x.scope x.name, made xs op l n g k r)

  pub by_op : (op : Operation) (l n : ℕ) (g : Bool) (k : ℕ) → R n → Each R (op_piece around op l n g
      k)
  by_op op l n g k r = made (cells_of around op) op l n g k r

  renewed : (xs : List Variable) → Each R (renewed_piece around xs)
  renewed [] = tt
  renewed (x ∷ xs) = (renews x.scope x.name, renewed xs)

  up2 : (n k j : ℕ) → R n → R (n + k + j)
  up2 n k j r = up (n + k) j (up n k r)

  up3 : (n k j i : ℕ) → R n → R (n + k + j + i)
  up3 n k j i r = up (n + k + j) i (up2 n k j r)

  up4 : (n k j i h : ℕ) → R n → R (n + k + j + i + h)
  up4 n k j i h r = up (n + k + j + i) h (up3 n k j i r)

  mutual
    pub exp : (e : Exp) (n : ℕ) (g : Bool) (v : List ℕ) → R n → Each R (exp_piece around e n g v)
    exp (S.constant l k) n g v r = (refl, r)
    exp (S.name l x) n g v r = let z = around.variable v x in (loads z.scope z.name, r)
    exp (S.joined l S.no_pieces) n g v r = by_op T.join l n g 0 r
    exp (S.joined l (S.literal k t q)) n g v r = ((refl, r), pieces q l (n + 1) 1 v (up n 1 r))
    exp (S.joined l (S.field k e c sp q)) n g v r = (
      exp e n g v r,
      (
        spec sp k (n + size e) c v (up n _ r),
        pieces q l (n + size e + pieces_size
            sp + joins sp + 1) 1 v (up4 n _ _ _ _ r),
      ),
    )
    exp (S.tuple l S.no_exps) n g v r = by_op T.tuple l n g 0 r
    exp (S.tuple l (S.more_exps e es)) n g v r = (
      exp e n g v r,
      exps es T.tuple l (n + size e) 1 v
          (up n _ r),
    )
    exp (S.list l S.no_exps) n g v r = by_op T.list l n g 0 r
    exp (S.list l (S.more_exps e es)) n g v r = (
      exp e n g v r,
      exps es T.list l (n + size e) 1 v
          (up n _ r),
    )
    exp (S.set l S.no_exps) n g v r = by_op T.set l n g 0 r
    exp (S.set l (S.more_exps e es)) n g v r = (
      exp e n g v r,
      exps es T.set l (n + size e) 1 v
          (up n _ r),
    )
    exp (S.dict l S.no_entries) n g v r = by_op T.dict l n g 0 r
    exp (S.dict l (S.entry a b q)) n g v r = (
      exp a n g v r,
      (
        exp b (n + size a) false v (up n _ r),
        entries q l (n + size a + size b) 1
            v (up2 n _ _ r),
      ),
    )
    exp (S.attribute l a x) n g v r = (
      exp a n g v r,
      by_op (T.get (around.spelled x)) l
          (n + size a) false 1 (up n _ r),
    )
    exp (S.item l a i) n g v r = (
      exp a n g v r,
      (
        exp i (n + size a) false v (up n _ r),
        by_op T.item l (n + size a + size i)
            false 2 (up2 n _ _ r),
      ),
    )
    exp (S.slice l S.absent S.absent S.absent) n g v r = (
      refl,
      (
        refl,
        (
          refl,
          by_op T.slice l n g 3
              r,
        ),
      ),
    )
    exp (S.slice l S.absent S.absent (S.given c)) n g v r =
        (refl, (refl, (exp c n g v r, by_op T.slice l (n + size c) false 3 (up n _ r))))
    exp (S.slice l S.absent (S.given b) c) n g v r = (
      refl,
      (
        exp b n g v r,
        part c (n + size b) v (λ m. op_piece around T.slice l m false 3)
            (λ m q. by_op T.slice l m false 3 q) (up n _ r),
      ),
    )
    exp (S.slice l (S.given a) b c) n g v r = (
      exp a n g v r,
      part b (n + size a) v (λ m. part_piece around c m v (λ m. op_piece around T.slice l m false
          3))
          (λ m q. part c m v (λ m. op_piece around T.slice l m false 3) (λ m q. by_op T.slice l m
          false 3 q) q) (up n _ r),
    )
    exp (S.unary l o a) n g v r = (
      exp a n g v r,
      by_op (T.unary o) l (n + size a) false 1
          (up n _ r),
    )
    exp (S.not_of l a) n g v r = (exp a n g v r, by_op T.inverted l (n + size a) false 1 (up n _ r))
    exp (S.binary l o a b) n g v r = (
      exp a n g v r,
      (
        exp b (n + size a) false v (up n _ r),
        by_op (T.binary o) l
            (n + size a + size b) false 2 (up2 n _ _ r),
      ),
    )
    exp (S.compare l a o b q) n g v r = (
      exp a n g v r,
      (
        exp b (n + size a) false v (up n _ r),
        chain q o l (n + size a + size b) v
            (up2 n _ _ r),
      ),
    )
    exp (S.and l a es) n g v r = (exp a n g v r, ands es l (n + size a) v (up n _ r))
    exp (S.or l a es) n g v r = (exp a n g v r, ors es l (n + size a) v (up n _ r))
    exp (S.conditional l c a b) n g v r = (
      (exp c n g v r, ((refl, up n _ r), (exp a (n + size c + 1) false v (up2 n _ _ r), refl))),
      exp b (n + size c + 1 + size a) false v (up3 n _ _ _ r),
    )
    exp (S.call l f ys) n g v r =
        (exp f n g v r, args ys (T.call (roles around.spelled ys)) l (n + size f) 1 v (up n _ r))
    exp (S.lambda l b (S.parameters ps s ks d) e) n g v r =
        let last : (m k : ℕ) → Piece = λ m k. op_piece around (making around b ps ks) l m false k in
        first ps n g v (first_piece around ks n g v (op_piece around (making around b ps ks) l n g
        0) last) (λ m k. formals_piece around ks m k v last)
        (first ks n g v (op_piece around (making around b ps ks) l n g 0) last
        (by_op (making around b ps ks) l n g 0 r)
        (λ m k q. by_op (making around b ps ks) l m false k q) r)
        (λ m k q. formals ks m k v last (λ m k q. by_op (making around b ps ks) l m false k q) q) r
    exp (S.comprehension l m k t it cs) n g v r =
        let w : List ℕ = (n + size it + 1 + 1) ∷ v in (
          exp it n g v r,
          (
            (refl, up n _ r),
            (
              made [] (built_as m) l (n + size it + 1) false 0 (up2 n _ _ r),
              (
                refl,
                (
                  renewed (map (around.variable w) (target_names t ++ clause_names cs)),
                  (
                    (refl, up3 n _ _ _ r),
                    (
                      target t (n + size it + 1 + 1 + 1) w (up4 n _ _ _ _ r),
                      clauses cs l (n + size it + 1 + 1 + 1 + target_size t) 1 w (λ j d. item_piece
                          around m l j d w) (λ j d q. item m l j d w q)
                          (up (n + size it + 1 + 1 + 1) _ (up4 n _ _ _ _ r)),
                    ),
                  ),
                ),
              ),
            ),
          ),
        )
    exp (S.generator l b e k t it cs) n g v r = (
      exp it n g v r,
      (
        (refl, up n _ r),
        made (around.captured b) (T.generator b) l
            (n + size it + 1) false 1 (up2 n _ _ r),
      ),
    )
    exp (S.yield l S.absent) n g v r = (refl, (refl, r))
    exp (S.yield l (S.given e)) n g v r = (exp e n g v r, (refl, up n _ r))
    exp (S.yield_from l e) n g v r = (
      exp e n g v r,
      (
        (refl, up n _ r),
        (refl, (refl, up2 n _ _ r)),
      ),
    )

    part : (e : Opt) (n : ℕ) (v : List ℕ) (after : ℕ → Piece) → ((m : ℕ) → R m → Each R (after m))
        → R n → Each R (part_piece around e n v after)
    part S.absent n v after f r = (refl, f n r)
    part (S.given e) n v after f r = (exp e n false v r, f (n + size e) (up n _ r))

    exps : (es : Exps) (op : Operation) (l n k : ℕ) (v : List ℕ) → R n → Each R (exps_piece around
        es op l n k v)
    exps S.no_exps op l n k v r = by_op op l n false k r
    exps (S.more_exps e es) op l n k v r = (
      exp e n false v r,
      exps es op l (n + size e) (suc k) v
          (up n _ r),
    )

    entries : (q : Entries) (l n k : ℕ) (v : List ℕ) → R n → Each R (entries_piece around q l n k v)
    entries S.no_entries l n k v r = by_op T.dict l n false k r
    entries (S.entry a b q) l n k v r = (
      exp a n false v r,
      (
        exp b (n + size a) false v (up n _ r),
        entries q l (n + size a + size
            b) (suc k) v (up2 n _ _ r),
      ),
    )

    args : (q : Args) (op : Operation) (l n k : ℕ) (v : List ℕ) → R n → Each R (args_piece around q
        op l n k v)
    args S.no_args op l n k v r = by_op op l n false k r
    args (S.positional e q) op l n k v r = (
      exp e n false v r,
      args q op l (n + size e) (suc k) v
          (up n _ r),
    )
    args (S.named x e q) op l n k v r = (
      exp e n false v r,
      args q op l (n + size e) (suc k) v
          (up n _ r),
    )
    args (S.spread e q) op l n k v r = (
      exp e n false v r,
      (
        by_op T.spread_out l (n + size e) false 1 (up n _ r),
        args q op l
            (n + size e + 1) (suc k) v (up2 n _ _ r),
      ),
    )
    args (S.spread_named e q) op l n k v r = (
      exp e n false v r,
      (
        by_op T.spread_named_out l (n + size e) false 1 (up n _ r),
        args q op l
            (n + size e + 1) (suc k) v (up2 n _ _ r),
      ),
    )

    pieces : (q : Pieces) (l n k : ℕ) (v : List ℕ) → R n → Each R (pieces_piece around q l n k v)
    pieces S.no_pieces l n k v r = by_op T.join l n false k r
    pieces (S.literal a t q) l n k v r = ((refl, r), pieces q l (n + 1) (suc k) v (up n _ r))
    pieces (S.field a e c sp q) l n k v r = (
      exp e n false v r,
      (
        spec sp a (n + size e) c v (up n _ r),
        pieces q l
            (n + size e + pieces_size sp + joins sp + 1) (suc k) v (up4 n _ _ _ _ r),
      ),
    )

    spec : (q : Pieces) (l n : ℕ) (c : Option Conversion) (v : List ℕ) → R n
        → Each R (spec_piece around q l n c v)
    spec S.no_pieces l n c v r = (refl, by_op (T.format c) l n false 2 r)
    spec (S.literal a t S.no_pieces) l n c v r = (
      (refl, r),
      by_op (T.format c) l (n + 1) false 2
          (up n _ r),
    )
    spec (S.field k e d sp S.no_pieces) l n c v r = (
      exp e n false v r,
      (
        spec sp k (n + size e) d v (up n _ r),
        by_op (T.format c) l
            (n + size e + pieces_size sp + joins sp + 1) false 2 (up4 n _ _ _ _ r),
      ),
    )
    spec (S.literal a t (S.literal b u q)) l n c v r = (
      (refl, r),
      (
        pieces (S.literal b u q) l (n + 1) 1 v (up n _ r),
        by_op (T.format c) l (n + 1 + pieces_size
            (S.literal b u q) + 1) false 2 (up3 n _ _ _ r),
      ),
    )
    spec (S.literal a t (S.field b e d sp q)) l n c v r = (
      (refl, r),
      (
        pieces (S.field b e d sp q) l (n + 1) 1 v (up n _ r),
        by_op (T.format c) l
            (n + 1 + pieces_size (S.field b e d sp q) + 1) false 2 (up3 n _ _ _ r),
      ),
    )
    spec (S.field k e d sp (S.literal b u q)) l n c v r = (
      exp e n false v r,
      (
        spec sp k (n + size e) d v (up n _ r),
        (
          pieces (S.literal b u q) l (n + size e + pieces_size sp + joins sp + 1) 1 v (up4 n _ _ _ _
              r),
          by_op (T.format c) l (n + pieces_size (S.field k e d sp (S.literal b u q)) + 1) false 2
              (up2 n _ _ r),
        ),
      ),
    )
    spec (S.field k e d sp (S.field b f o tp q)) l n c v r = (
      exp e n false v r,
      (
        spec sp k (n + size e) d v (up n _ r),
        (
          pieces (S.field b f o tp q) l (n + size e + pieces_size sp + joins sp + 1) 1 v
              (up4 n _ _ _ _ r),
          by_op (T.format c) l (n + pieces_size (S.field k e d sp (S.field b f o tp q)) + 1) false 2
              (up2 n _ _ r),
        ),
      ),
    )

    chain : (q : ChainLinks) (o : CompareOp) (l n : ℕ) (v : List ℕ) → R n
        → Each R (links_piece around q o l n v)
    chain S.no_links o l n v r = (refl, r)
    chain (S.link p b q) o l n v r = (
      (
        refl,
        (
          refl,
          (
            (refl, r),
            (
              (refl, up n _ r),
              (
                exp b (n + 1 + 1) false v (up2 n _ _ r),
                (
                  chain q p l (n + 1 + 1 + size b) v
                      (up3 n _ _ _ r),
                  refl,
                ),
              ),
            ),
          ),
        ),
      ),
      (refl, refl),
    )

    ands : (es : Exps) (l n : ℕ) (v : List ℕ) → R n → Each R (ands_piece around es l n v)
    ands S.no_exps l n v r = tt
    ands (S.more_exps e es) l n v r = (
      (refl, r),
      (
        exp e (n + 1) false v (up n _ r),
        ands es l
            (n + 1 + size e) v (up2 n _ _ r),
      ),
    )

    ors : (es : Exps) (l n : ℕ) (v : List ℕ) → R n → Each R (ors_piece around es l n v)
    ors S.no_exps l n v r = tt
    ors (S.more_exps e es) l n v r = (
      (refl, r),
      (
        exp e (n + 1) false v (up n _ r),
        ors es l
            (n + 1 + size e) v (up2 n _ _ r),
      ),
    )

    formals : (q : Formals) (n k : ℕ) (v : List ℕ) (after : (m k : ℕ) → Piece) → ((m k : ℕ) → R m
        → Each R (after m k)) → R n
        → Each R (formals_piece around q n k v after)
    formals S.no_formals n k v after f r = f n k r
    formals (S.formal a x t S.absent q) n k v after f r = formals q n k v after f r
    formals (S.formal a x t (S.given d) q) n k v after f r = (
      exp d n false v r,
      formals q
          (n + size d) (suc k) v after f (up n _ r),
    )

    first : (q : Formals) (n : ℕ) (g : Bool) (v : List ℕ) (none : Piece) (after : (m k : ℕ) → Piece)
        → Each R none
        → ((m k : ℕ) → R m → Each R (after m k)) → R n → Each R (first_piece around q n g v none
        after)
    first S.no_formals n g v none after e f r = e
    first (S.formal a x t S.absent q) n g v none after e f r = first q n g v none after e f r
    first (S.formal a x t (S.given d) q) n g v none after e f r = (
      exp d n g v r,
      formals q
          (n + size d) 1 v after f (up n _ r),
    )

    pub clauses : (cs : Clauses) (l n d : ℕ) (v : List ℕ) (add : (n d : ℕ) → Piece)
        → ((n d : ℕ) → R n → Each R (add n d)) → R n
        → Each R (clauses_piece around cs l n d v add)
    clauses S.no_clauses l n d v add f r = f n d r
    clauses (S.only_if c cs) l n d v add f r = (
      exp c n false v r,
      (
        (refl, up n _ r),
        clauses cs l
            (n + size c + 1) d v add f (up2 n _ _ r),
      ),
    )
    clauses (S.for_each k t it cs) l n d v add f r = (
      exp it n false v r,
      (
        (refl, up n _ r),
        (
          (refl, up2 n _ _ r),
          (
            target t (n + size it + 1 + 1) v (up3 n _ _ _ r),
            clauses cs l (n + size it + 1 + 1 +
                target_size t) (suc d) v add f (up4 n _ _ _ _ r),
          ),
        ),
      ),
    )

    item : (m : Made) (l n d : ℕ) (v : List ℕ) → R n → Each R (item_piece around m l n d v)
    item (S.a_list e) l n d v r = (exp e n false v r, ((refl, up n _ r), refl))
    item (S.a_set e) l n d v r = (exp e n false v r, ((refl, up n _ r), refl))
    item (S.a_dict k e) l n d v r = (
      exp k n false v r,
      (
        exp e (n + size k) false v (up n _ r),
        ((refl, up2 n _ _ r), refl),
      ),
    )

    pub target : (t : Tgt) (n : ℕ) (v : List ℕ) → R n → Each R (target_piece around t n v)
    target (S.single p) n v r = place p n v r
    target (S.several l f ts) n v r = (
      (unpacks (statements.count ts) (star_of ts), r),
      targets ts
          (n + 1) v (up n _ r),
    )
    target (S.starred l t) n v r = target t n v r

    targets : (ts : Tgts) (n : ℕ) (v : List ℕ) → R n → Each R (targets_piece around ts n v)
    targets S.no_targets n v r = tt
    targets (S.more_targets t ts) n v r = (
      target t n v r,
      targets ts (n + target_size t) v
          (up n _ r),
    )

    place : (p : Place) (n : ℕ) (v : List ℕ) → R n → Each R (place_piece around p n v)
    place (S.name_at l x) n v r = let z = around.variable v x in (stores z.scope z.name, r)
    place (S.attribute_at l a x) n v r = (exp a n false v r, (refl, up n _ r))
    place (S.item_at l a i) n v r = (
      exp a n false v r,
      (
        exp i (n + size a) false v (up n _ r),
        (refl, up2 n _ _ r),
      ),
    )
