-- The pieces of expressions and targets: an act is near in each, and each goes forward.
use Rattle.std.proofs.Common.{ℕ, suc, ◌+◌, Bool, false, List, [], ◌∷◌, ◌++◌, map, Option}
use Rattle.pt_base.specs.declared.operators.CompareOp.{CompareOp}
use Rattle.pt_tree.specs.declared.expression.Conversion.{Conversion}
use Rattle.pt_tree.specs.Syntax as S
use Rattle.pt_tree.specs.Syntax.{Name, Exp, Exps, Opt, Pieces, Entries, Links, Args, Made, Clauses, Place, Tgt, Tgts, Formals}
use Rattle.pt_tree.specs.Sizes.{size, pieces_size, joins, target_size}
use Rattle.sem_control.specs.control.Turn as T
use Rattle.sem_control.specs.control.Turn.{Around, Scope, Variable, Operation}
use Rattle.sem_control.specs.control.Expressions.{roles, making, cells_of, target_names, clause_names, built_as}
use Rattle.pt_assembler.specs.Piece.{Piece}
use Rattle.sem_compile.specs.emitter.Ops.{renew_in, cell_in}
use Rattle.sem_compile.specs.emitter.ExpPiece.{made_piece, op_piece, renewed_piece, exp_piece, part_piece, exps_piece, entries_piece, args_piece, pieces_piece, spec_piece, links_piece, ands_piece, ors_piece, formals_piece, first_piece, clauses_piece, item_piece, target_piece, targets_piece, place_piece}
use Rattle.sem_code.specs.silent_turns.Ahead.{IsStraight}
use Rattle.law_pieces.specs.forward_pieces.Forward as F
use Rattle.law_pieces.specs.forward_pieces.Forward.{IsOpOf, Near, Lies, Silent, Forward}

-- names

cell_straight : (s : Scope) (x : Name) → IsOpOf IsStraight (cell_in s x)
cell_straight T.cell x = λ i. tt
cell_straight T.free x = λ i. tt
cell_straight T.local x = tt
cell_straight T.global x = tt
cell_straight T.of_class x = tt

cell_silent : (s : Scope) (x : Name) (ls : List Lies) → Silent (cell_in s x) ls
cell_silent T.cell x ls = λ i. tt
cell_silent T.free x ls = λ i. tt
cell_silent T.local x ls = tt
cell_silent T.global x ls = tt
cell_silent T.of_class x ls = tt

renew_silent : (s : Scope) (x : Name) (ls : List Lies) → Silent (renew_in s x) ls
renew_silent T.local x ls = λ i. tt
renew_silent T.cell x ls = λ i. tt
renew_silent T.free x ls = tt
renew_silent T.global x ls = tt
renew_silent T.of_class x ls = tt

module _ {V : Type 0} (around : Around V) where
  -- An act is near in each expression, whatever stands behind it.

  near_made : (xs : List Variable) (op : Operation) (l n : ℕ) (g : Bool) (k : ℕ) (B : Type 0) → Near (made_piece around xs op l n g k) B
  near_made [] op l n g k B = tt
  near_made (x ∷ xs) op l n g k B = (cell_straight x.scope x.name, near_made xs op l n g k B)

  near_op : (op : Operation) (l n : ℕ) (g : Bool) (k : ℕ) (B : Type 0) → Near (op_piece around op l n g k) B
  near_op op l n g k B = near_made (cells_of around op) op l n g k B

  mutual
    pub near : (e : Exp) (n : ℕ) (g : Bool) (v : List ℕ) (B : Type 0) → Near (exp_piece around e n g v) B
    near (S.constant l k) n g v B = tt
    near (S.name l x) n g v B = tt
    near (S.joined l S.no_pieces) n g v B = tt
    near (S.joined l (S.literal k t r)) n g v B = tt
    near (S.joined l (S.field k e c sp r)) n g v B = near e n g v _
    near (S.tuple l S.no_exps) n g v B = tt
    near (S.tuple l (S.more_exps e es)) n g v B = near e n g v _
    near (S.list l S.no_exps) n g v B = tt
    near (S.list l (S.more_exps e es)) n g v B = near e n g v _
    near (S.set l S.no_exps) n g v B = tt
    near (S.set l (S.more_exps e es)) n g v B = near e n g v _
    near (S.dict l S.no_entries) n g v B = tt
    near (S.dict l (S.entry p q r)) n g v B = near p n g v _
    near (S.attribute l p y) n g v B = near p n g v _
    near (S.item l p q) n g v B = near p n g v _
    near (S.slice l S.absent S.absent S.absent) n g v B = (tt, (tt, (tt, tt)))
    near (S.slice l S.absent S.absent (S.given r)) n g v B = (tt, (tt, near r n g v _))
    near (S.slice l S.absent (S.given q) r) n g v B = (tt, near q n g v _)
    near (S.slice l (S.given p) q r) n g v B = near p n g v _
    near (S.unary l o p) n g v B = near p n g v _
    near (S.not_of l p) n g v B = near p n g v _
    near (S.binary l o p q) n g v B = near p n g v _
    near (S.compare l p o q r) n g v B = near p n g v _
    near (S.and l p es) n g v B = near p n g v _
    near (S.or l p es) n g v B = near p n g v _
    near (S.conditional l c p q) n g v B = near c n g v _
    near (S.call l f ys) n g v B = near f n g v _
    near (S.lambda l b (S.parameters ps s ks d) e) n g v B =
        near_first ps n g v _ _ B (near_first ks n g v _ _ B (near_op (making around b ps ks) l n g 0 B))
    near (S.comprehension l m k t it cs) n g v B = near it n g v _
    near (S.generator l b e k t it cs) n g v B = near it n g v _
    near (S.yield l S.absent) n g v B = (tt, tt)
    near (S.yield l (S.given e)) n g v B = near e n g v _
    near (S.yield_from l e) n g v B = near e n g v _

    near_first : (r : Formals) (n : ℕ) (g : Bool) (v : List ℕ) (none : Piece) (behind : (n k : ℕ) → Piece) (B : Type 0) → Near none B
        → Near (first_piece around r n g v none behind) B
    near_first S.no_formals n g v none behind B h = h
    near_first (S.formal a y t S.absent r) n g v none behind B h = near_first r n g v none behind B h
    near_first (S.formal a y t (S.given d) r) n g v none behind B h = near d n g v _

  near_place : (p : Place) (n : ℕ) (v : List ℕ) (B : Type 0) → Near (place_piece around p n v) B
  near_place (S.name_at l x) n v B = tt
  near_place (S.attribute_at l a x) n v B = near a n false v _
  near_place (S.item_at l p q) n v B = near p n false v _

  pub near_target : (t : Tgt) (n : ℕ) (v : List ℕ) (B : Type 0) → Near (target_piece around t n v) B
  near_target (S.single p) n v B = near_place p n v B
  near_target (S.several l f ts) n v B = tt
  near_target (S.starred l t) n v B = near_target t n v B

  -- Each goes forward, whatever labels are around.

  pub made_forward : (xs : List Variable) (op : Operation) (l n : ℕ) (g : Bool) (k : ℕ) (ls : List Lies) → Forward (made_piece around xs op l n g k) ls
  made_forward [] op l n g k ls = tt
  made_forward (x ∷ xs) op l n g k ls = (cell_silent x.scope x.name ls, made_forward xs op l n g k ls)

  op_forward : (op : Operation) (l n : ℕ) (g : Bool) (k : ℕ) (ls : List Lies) → Forward (op_piece around op l n g k) ls
  op_forward op l n g k ls = made_forward (cells_of around op) op l n g k ls

  renewed_forward : (xs : List Variable) (ls : List Lies) → Forward (renewed_piece around xs) ls
  renewed_forward [] ls = tt
  renewed_forward (x ∷ xs) ls = (renew_silent x.scope x.name ls, renewed_forward xs ls)

  mutual
    pub forward : (e : Exp) (n : ℕ) (g : Bool) (v : List ℕ) (ls : List Lies) → Forward (exp_piece around e n g v) ls
    forward (S.constant l k) n g v ls = tt
    forward (S.name l x) n g v ls = tt
    forward (S.joined l S.no_pieces) n g v ls = op_forward T.join l n g 0 ls
    forward (S.joined l (S.literal k t r)) n g v ls = (tt, pieces r l (n + 1) 1 v ls)
    forward (S.joined l (S.field k e c sp r)) n g v ls =
        (forward e n g v [], (spec sp k (n + size e) c v ls, pieces r l (n + size e + pieces_size sp + joins sp + 1) 1 v ls))
    forward (S.tuple l S.no_exps) n g v ls = op_forward T.tuple l n g 0 ls
    forward (S.tuple l (S.more_exps e es)) n g v ls = (forward e n g v [], exps es T.tuple l (n + size e) 1 v ls)
    forward (S.list l S.no_exps) n g v ls = op_forward T.list l n g 0 ls
    forward (S.list l (S.more_exps e es)) n g v ls = (forward e n g v [], exps es T.list l (n + size e) 1 v ls)
    forward (S.set l S.no_exps) n g v ls = op_forward T.set l n g 0 ls
    forward (S.set l (S.more_exps e es)) n g v ls = (forward e n g v [], exps es T.set l (n + size e) 1 v ls)
    forward (S.dict l S.no_entries) n g v ls = op_forward T.dict l n g 0 ls
    forward (S.dict l (S.entry p q r)) n g v ls =
        (forward p n g v [], (forward q (n + size p) false v [], entries r l (n + size p + size q) 1 v ls))
    forward (S.attribute l p y) n g v ls = (forward p n g v [], op_forward (T.get (around.spelled y)) l (n + size p) false 1 ls)
    forward (S.item l p q) n g v ls =
        (forward p n g v [], (forward q (n + size p) false v [], op_forward T.item l (n + size p + size q) false 2 ls))
    forward (S.slice l S.absent S.absent S.absent) n g v ls = (tt, (tt, (tt, op_forward T.slice l n g 3 ls)))
    forward (S.slice l S.absent S.absent (S.given r)) n g v ls = (tt, (tt, (forward r n g v [], op_forward T.slice l (n + size r) false 3 ls)))
    forward (S.slice l S.absent (S.given q) r) n g v ls =
        (tt, (forward q n g v [], part r (n + size q) v _ ls (λ m. op_forward T.slice l m false 3 ls)))
    forward (S.slice l (S.given p) q r) n g v ls =
        (forward p n g v [], part q (n + size p) v _ ls (λ m. part r m v _ ls (λ m. op_forward T.slice l m false 3 ls)))
    forward (S.unary l o p) n g v ls = (forward p n g v [], op_forward (T.unary o) l (n + size p) false 1 ls)
    forward (S.not_of l p) n g v ls = (forward p n g v [], op_forward T.inverted l (n + size p) false 1 ls)
    forward (S.binary l o p q) n g v ls =
        (forward p n g v [], (forward q (n + size p) false v [], op_forward (T.binary o) l (n + size p + size q) false 2 ls))
    forward (S.compare l p o q r) n g v ls = (forward p n g v [], (forward q (n + size p) false v [], links r o l (n + size p + size q) v []))
    forward (S.and l p es) n g v ls = (forward p n g v [], ands es l (n + size p) v (F.ahead ∷ ls))
    forward (S.or l p es) n g v ls = (forward p n g v [], ors es l (n + size p) v (F.ahead ∷ ls))
    forward (S.conditional l c p q) n g v ls =
        ((forward c n g v [], (tt, (forward p (n + size c + 1) false v [], tt))), forward q (n + size c + 1 + size p) false v [])
    forward (S.call l f ys) n g v ls = (forward f n g v [], args ys (T.call (roles around.spelled ys)) l (n + size f) 1 v ls)
    forward (S.lambda l b (S.parameters ps s ks d) e) n g v ls =
        let op = making around b ps ks in
        first ps n g v _ _ ls (first ks n g v _ _ ls (op_forward op l n g 0 ls) (λ m k. op_forward op l m false k ls))
        (λ m k. formals ks m k v _ ls (λ m k. op_forward op l m false k ls))
    forward (S.comprehension l m k t it cs) n g v ls =
        let w = (n + size it + 1 + 1) ∷ v in (
          forward it n g v [],
          (
            tt,
            (
              made_forward [] (built_as m) l (n + size it + 1) false 0 (F.ahead ∷ ls),
              (
                tt,
                (
                  renewed_forward (map (around.variable w) (target_names t ++ clause_names cs)) (F.ahead ∷ ls),
                  (
                    F.near,
                    tt,
                    (
                      tt,
                      (
                        target t (n + size it + 1 + 1 + 1) w [],
                        clauses cs l (n + size it + 1 + 1 + 1 + target_size t) 1 w _ (F.ahead ∷ ls) (λ j d ks. item m l j d w ks),
                      ),
                    ),
                  ),
                ),
              ),
            ),
          ),
        )
    forward (S.generator l b e k t it cs) n g v ls =
        (forward it n g v [], (tt, made_forward (around.captured b) (T.generator b) l (n + size it + 1) false 1 ls))
    forward (S.yield l S.absent) n g v ls = (tt, tt)
    forward (S.yield l (S.given e)) n g v ls = (forward e n g v [], tt)
    forward (S.yield_from l e) n g v ls = (forward e n g v [], (tt, (tt, tt)))

    part : (o : Opt) (n : ℕ) (v : List ℕ) (behind : ℕ → Piece) (ls : List Lies) → ((m : ℕ) → Forward (behind m) ls) → Forward (part_piece around o n v behind) ls
    part S.absent n v behind ls f = (tt, f n)
    part (S.given e) n v behind ls f = (forward e n false v [], f (n + size e))

    exps : (es : Exps) (op : Operation) (l n k : ℕ) (v : List ℕ) (ls : List Lies) → Forward (exps_piece around es op l n k v) ls
    exps S.no_exps op l n k v ls = op_forward op l n false k ls
    exps (S.more_exps e es) op l n k v ls = (forward e n false v [], exps es op l (n + size e) (suc k) v ls)

    entries : (r : Entries) (l n k : ℕ) (v : List ℕ) (ls : List Lies) → Forward (entries_piece around r l n k v) ls
    entries S.no_entries l n k v ls = op_forward T.dict l n false k ls
    entries (S.entry p q r) l n k v ls =
        (forward p n false v [], (forward q (n + size p) false v [], entries r l (n + size p + size q) (suc k) v ls))

    args : (r : Args) (op : Operation) (l n k : ℕ) (v : List ℕ) (ls : List Lies) → Forward (args_piece around r op l n k v) ls
    args S.no_args op l n k v ls = op_forward op l n false k ls
    args (S.positional e r) op l n k v ls = (forward e n false v [], args r op l (n + size e) (suc k) v ls)
    args (S.named y e r) op l n k v ls = (forward e n false v [], args r op l (n + size e) (suc k) v ls)
    args (S.spread e r) op l n k v ls =
        (forward e n false v [], (op_forward T.spread_out l (n + size e) false 1 ls, args r op l (n + size e + 1) (suc k) v ls))
    args (S.spread_named e r) op l n k v ls =
        (forward e n false v [], (op_forward T.spread_named_out l (n + size e) false 1 ls, args r op l (n + size e + 1) (suc k) v ls))

    pieces : (r : Pieces) (l n k : ℕ) (v : List ℕ) (ls : List Lies) → Forward (pieces_piece around r l n k v) ls
    pieces S.no_pieces l n k v ls = op_forward T.join l n false k ls
    pieces (S.literal a t r) l n k v ls = (tt, pieces r l (n + 1) (suc k) v ls)
    pieces (S.field a e c sp r) l n k v ls =
        (forward e n false v [], (spec sp a (n + size e) c v ls, pieces r l (n + size e + pieces_size sp + joins sp + 1) (suc k) v ls))

    spec : (r : Pieces) (l n : ℕ) (c : Option Conversion) (v : List ℕ) (ls : List Lies) → Forward (spec_piece around r l n c v) ls
    spec S.no_pieces l n c v ls = (tt, tt)
    spec (S.literal a t S.no_pieces) l n c v ls = (tt, tt)
    spec (S.field k e d sp S.no_pieces) l n c v ls = (forward e n false v [], (spec sp k (n + size e) d v ls, tt))
    spec (S.literal a t (S.literal b u r)) l n c v ls = (tt, (pieces (S.literal b u r) l (n + 1) 1 v ls, tt))
    spec (S.literal a t (S.field b e d sp r)) l n c v ls = (tt, (pieces (S.field b e d sp r) l (n + 1) 1 v ls, tt))
    spec (S.field k e d sp (S.literal b u r)) l n c v ls =
        (forward e n false v [], (spec sp k (n + size e) d v ls, (pieces (S.literal b u r) l (n + size e + pieces_size sp + joins sp + 1) 1 v ls, tt)))
    spec (S.field k e d sp (S.field b f d' sp' r)) l n c v ls =
        (forward e n false v [], (spec sp k (n + size e) d v ls, (pieces (S.field b f d' sp' r) l (n + size e + pieces_size sp + joins sp + 1) 1 v ls, tt)))

    links : (r : Links) (o : CompareOp) (l n : ℕ) (v : List ℕ) (ls : List Lies) → Forward (links_piece around r o l n v) ls
    links S.no_links o l n v ls = tt
    links (S.link p b r) o l n v ls =
        ((tt, (tt, (tt, (tt, (forward b (n + 1 + 1) false v [], (links r p l (n + 1 + 1 + size b) v [], tt)))))), (tt, tt))

    ands : (es : Exps) (l n : ℕ) (v : List ℕ) (ls : List Lies) → Forward (ands_piece around es l n v) ls
    ands S.no_exps l n v ls = tt
    ands (S.more_exps e es) l n v ls = (tt, (forward e (n + 1) false v [], ands es l (n + 1 + size e) v ls))

    ors : (es : Exps) (l n : ℕ) (v : List ℕ) (ls : List Lies) → Forward (ors_piece around es l n v) ls
    ors S.no_exps l n v ls = tt
    ors (S.more_exps e es) l n v ls = (tt, (forward e (n + 1) false v [], ors es l (n + 1 + size e) v ls))

    formals : (r : Formals) (n k : ℕ) (v : List ℕ) (behind : (n k : ℕ) → Piece) (ls : List Lies) → ((m j : ℕ) → Forward (behind m j) ls)
        → Forward (formals_piece around r n k v behind) ls
    formals S.no_formals n k v behind ls f = f n k
    formals (S.formal a y t S.absent r) n k v behind ls f = formals r n k v behind ls f
    formals (S.formal a y t (S.given d) r) n k v behind ls f = (forward d n false v [], formals r (n + size d) (suc k) v behind ls f)

    first : (r : Formals) (n : ℕ) (g : Bool) (v : List ℕ) (none : Piece) (behind : (n k : ℕ) → Piece) (ls : List Lies) → Forward none ls
        → ((m j : ℕ) → Forward (behind m j) ls) → Forward (first_piece around r n g v none behind) ls
    first S.no_formals n g v none behind ls h f = h
    first (S.formal a y t S.absent r) n g v none behind ls h f = first r n g v none behind ls h f
    first (S.formal a y t (S.given d) r) n g v none behind ls h f = (forward d n g v [], formals r (n + size d) 1 v behind ls f)

    -- label 0 is where the next item is taken, which is an act
    pub clauses : (cs : Clauses) (l n d : ℕ) (v : List ℕ) (one : (n d : ℕ) → Piece) (ls : List Lies)
        → ((m j : ℕ) (ks : List Lies) → Forward (one m j) (F.near ∷ ks)) → Forward (clauses_piece around cs l n d v one) (F.near ∷ ls)
    clauses S.no_clauses l n d v one ls f = f n d ls
    clauses (S.only_if c cs) l n d v one ls f = (forward c n false v [], (tt, clauses cs l (n + size c + 1) d v one ls f))
    clauses (S.for_each k t it cs) l n d v one ls f = (
      forward it n false v [],
      (
        tt,
        (
          F.near,
          tt,
          (tt, (target t (n + size it + 1 + 1) v [], clauses cs l (n + size it + 1 + 1 + target_size t) (suc d) v one (F.near ∷ ls) f)),
        ),
      ),
    )

    item : (m : Made) (l n d : ℕ) (v : List ℕ) (ls : List Lies) → Forward (item_piece around m l n d v) (F.near ∷ ls)
    item (S.a_list e) l n d v ls = (forward e n false v [], (tt, tt))
    item (S.a_set e) l n d v ls = (forward e n false v [], (tt, tt))
    item (S.a_dict k e) l n d v ls = (forward k n false v [], (forward e (n + size k) false v [], (tt, tt)))

    pub target : (t : Tgt) (n : ℕ) (v : List ℕ) (ls : List Lies) → Forward (target_piece around t n v) ls
    target (S.single p) n v ls = place p n v ls
    target (S.several l f ts) n v ls = (tt, targets ts (n + 1) v ls)
    target (S.starred l t) n v ls = target t n v ls

    targets : (ts : Tgts) (n : ℕ) (v : List ℕ) (ls : List Lies) → Forward (targets_piece around ts n v) ls
    targets S.no_targets n v ls = tt
    targets (S.more_targets t ts) n v ls = (target t n v [], targets ts (n + target_size t) v ls)

    place : (p : Place) (n : ℕ) (v : List ℕ) (ls : List Lies) → Forward (place_piece around p n v) ls
    place (S.name_at l x) n v ls = tt
    place (S.attribute_at l a x) n v ls = (forward a n false v [], tt)
    place (S.item_at l p q) n v ls = (forward p n false v [], (forward q (n + size p) false v [], tt))
