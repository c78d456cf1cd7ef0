-- What is counted in the pieces of expressions has code.
use Rattle.std.proofs.Common.{ℕ, suc, ◌+◌, ◌≤◌, Bool, false, List, [], ◌∷◌, ◌++◌, length, map, Option, arith}
use Rattle.pt_base.specs.declared.operators.CompareOp.{CompareOp}
use Rattle.pt_tree.specs.declared.expression.Conversion.{Conversion}
use Rattle.pt_tree.specs.Syntax as S
use Rattle.pt_tree.specs.Syntax.{Exp, Exps, Opt, Pieces, Entries, Links, Args, Made, Clauses, Place, Tgt, Tgts, Formals}
use Rattle.pt_tree.specs.Sizes.{size, pieces_size, joins, target_size}
use Rattle.pt_instr.specs.Encoding.{code_of}
use Rattle.sem_control.specs.control.Turn as T
use Rattle.sem_control.specs.control.Turn.{Around, Operation, Role}
use Rattle.sem_control.specs.control.Expressions.{roles, making, cells_of, target_names, clause_names, built_as}
use Rattle.sem_control.specs.control.Statements.{count}
use Rattle.pt_assembler.specs.Piece as P
use Rattle.pt_assembler.specs.Piece.{Piece, ◌▸◌}
use Rattle.sem_compile.specs.emitter.ExpPiece.{null_piece, op_piece, exp_piece, part_piece, exps_piece, entries_piece, args_piece, pieces_piece, spec_piece, links_piece, ands_piece, ors_piece, formals_piece, first_piece, clauses_piece, item_piece, target_piece, targets_piece, place_piece}
use Rattle.law_files.specs.piece_counts.Counts.{NumbersOp, instructions, CountsHaveCode}
use Rattle.law_files.proofs.piece_counts.Forms.{nothing, acting, moving, jumping, going, behind, before, in-block, in-headed, in-closed}
use Rattle.law_files.proofs.piece_counts.Operations.{loading, storing, Counts, operated, made, renewed, some-made, unpacking}

first : (a b : ℕ) → 1 ≤ a → 1 ≤ a + b
first a b h = omega (arith, h)

plain : (m : ℕ) (op : P.Op) {k l : ℕ} {g : Bool} → NumbersOp (m + 1) op → CountsHaveCode m (P.act op k l g)
plain m op h = acting m h

null : (m : ℕ) → CountsHaveCode m null_piece
null m = moving m tt

module _ {V : Type 0} (around : Around V) where
  -- each value has code
  mutual
    pub some : (e : Exp) (n : ℕ) (g : Bool) (v : List ℕ) → 1 ≤ instructions (exp_piece around e n g v)
    some (S.constant l k) n g v = omega arith
    some (S.name l x) n g v = omega arith
    some (S.joined l S.no_pieces) n g v = some-made around (cells_of around T.join) T.join l n g 0
    some (S.joined l (S.literal k t r)) n g v = omega arith
    some (S.joined l (S.field k e c sp r)) n g v = first _ _ (some e n g v)
    some (S.tuple l S.no_exps) n g v = some-made around (cells_of around T.tuple) T.tuple l n g 0
    some (S.tuple l (S.more_exps e es)) n g v = first _ _ (some e n g v)
    some (S.list l S.no_exps) n g v = some-made around (cells_of around T.list) T.list l n g 0
    some (S.list l (S.more_exps e es)) n g v = first _ _ (some e n g v)
    some (S.set l S.no_exps) n g v = some-made around (cells_of around T.set) T.set l n g 0
    some (S.set l (S.more_exps e es)) n g v = first _ _ (some e n g v)
    some (S.dict l S.no_entries) n g v = some-made around (cells_of around T.dict) T.dict l n g 0
    some (S.dict l (S.entry a b r)) n g v = first _ _ (some a n g v)
    some (S.attribute l a x) n g v = first _ _ (some a n g v)
    some (S.item l a i) n g v = first _ _ (some a n g v)
    some (S.slice l S.absent S.absent S.absent) n g v = omega arith
    some (S.slice l S.absent S.absent (S.given c)) n g v = omega arith
    some (S.slice l S.absent (S.given b) c) n g v = omega arith
    some (S.slice l (S.given a) b c) n g v = first _ _ (some a n g v)
    some (S.unary l o a) n g v = first _ _ (some a n g v)
    some (S.not_of l a) n g v = first _ _ (some a n g v)
    some (S.binary l o a b) n g v = first _ _ (some a n g v)
    some (S.compare l a o b r) n g v = first _ _ (some a n g v)
    some (S.and l a es) n g v = first _ _ (some a n g v)
    some (S.or l a es) n g v = first _ _ (some a n g v)
    some (S.conditional l c a b) n g v = first _ _ (first _ _ (some c n g v))
    some (S.call l f args) n g v = first _ _ (some f n g v)
    some (S.lambda l b (S.parameters ps s ks d) e) n g v =
        some-first ps n g v _ _ (some-first ks n g v _ _ (some-made around (cells_of around (making around b ps ks)) (making around b ps ks) l n g 0))
    some (S.comprehension l m k t it cs) n g v = first _ _ (some it n g v)
    some (S.generator l b e k t it cs) n g v = first _ _ (some it n g v)
    some (S.yield l S.absent) n g v = omega arith
    some (S.yield l (S.given e)) n g v = first _ _ (some e n g v)
    some (S.yield_from l e) n g v = first _ _ (some e n g v)

    some-first : (ps : Formals) (n : ℕ) (g : Bool) (v : List ℕ) (none : Piece) (after : (n k : ℕ) → Piece) → 1 ≤ instructions none
        → 1 ≤ instructions (first_piece around ps n g v none after)
    some-first S.no_formals n g v none after h = h
    some-first (S.formal a x t S.absent r) n g v none after h = some-first r n g v none after h
    some-first (S.formal a x t (S.given d) r) n g v none after h = first _ _ (some d n g v)

  some-place : (p : Place) (n : ℕ) (v : List ℕ) → 1 ≤ instructions (place_piece around p n v)
  some-place (S.name_at l x) n v = omega arith
  some-place (S.attribute_at l a x) n v = first _ _ (some a n false v)
  some-place (S.item_at l a i) n v = first _ _ (some a n false v)

  some-target : (t : Tgt) (n : ℕ) (v : List ℕ) → 1 ≤ instructions (target_piece around t n v)
  some-target (S.single p) n v = some-place p n v
  some-target (S.several l f ts) n v = omega arith
  some-target (S.starred l t) n v = some-target t n v

  some-targets : (ts : Tgts) (n : ℕ) (v : List ℕ) → count ts ≤ instructions (targets_piece around ts n v)
  some-targets S.no_targets n v = omega arith
  some-targets (S.more_targets t ts) n v = omega (arith, some-target t n v, some-targets ts (n + target_size t) v)

  mutual
    unfolding code_of

    pub exp : (e : Exp) (n : ℕ) (g : Bool) (v : List ℕ) (m : ℕ) → CountsHaveCode m (exp_piece around e n g v)
    exp (S.constant l k) n g v m = acting m tt
    exp (S.name l x) n g v m = acting m (loading (m + 1) (around.variable v x))
    exp (S.joined l S.no_pieces) n g v m = operated around T.join l n g 0 m (omega arith)
    exp (S.joined l (S.literal k t r)) n g v m = behind m (acting m tt) (pieces r l (n + 1) 1 v (m + 1) (omega arith))
    exp (S.joined l (S.field k e c sp r)) n g v m =
        behind m (in-closed (exp e n g v m)) (behind _ (spec sp k (n + size e) c v _)
        (pieces r l (n + size e + pieces_size sp + joins sp + 1) 1 v _ (omega (arith, some e n g v))))
    exp (S.tuple l S.no_exps) n g v m = operated around T.tuple l n g 0 m (omega arith)
    exp (S.tuple l (S.more_exps e es)) n g v m = behind m (in-closed (exp e n g v m)) (exps es T.tuple l (n + size e) 1 v _ (λ k m h. h) (omega
        (arith, some e n g v)))
    exp (S.list l S.no_exps) n g v m = operated around T.list l n g 0 m (omega arith)
    exp (S.list l (S.more_exps e es)) n g v m = behind m (in-closed (exp e n g v m)) (exps es T.list l (n + size e) 1 v _ (λ k m h. h) (omega
        (arith, some e n g v)))
    exp (S.set l S.no_exps) n g v m = operated around T.set l n g 0 m (omega arith)
    exp (S.set l (S.more_exps e es)) n g v m = behind m (in-closed (exp e n g v m)) (exps es T.set l (n + size e) 1 v _ (λ k m h. h) (omega
        (arith, some e n g v)))
    exp (S.dict l S.no_entries) n g v m = operated around T.dict l n g 0 m (omega arith)
    exp (S.dict l (S.entry a b r)) n g v m =
        behind m (in-closed (exp a n g v m)) (behind _ (in-closed (exp b (n + size a) false v _))
        (entries r l (n + size a + size b) 1 v _ (omega (arith, some a n g v))))
    exp (S.attribute l a x) n g v m = behind m (in-closed (exp a n g v m)) (operated around (T.get (around.spelled x)) l (n + size a) false 1 _ tt)
    exp (S.item l a i) n g v m =
        behind m (in-closed (exp a n g v m)) (behind _ (in-closed (exp i (n + size a) false v _)) (operated around T.item l (n + size a + size i) false 2 _ tt))
    exp (S.slice l S.absent S.absent S.absent) n g v m = behind m (null m) (behind _ (null _) (behind _ (null _) (operated around T.slice l n g 3 _ tt)))
    exp (S.slice l S.absent S.absent (S.given c)) n g v m =
        behind m (null m) (behind _ (null _) (behind _ (in-closed (exp c n g v _)) (operated around T.slice l (n + size c) false 3 _ tt)))
    exp (S.slice l S.absent (S.given b) c) n g v m =
        behind m (null m) (behind _ (in-closed (exp b n g v _)) (part c (n + size b) v _ (λ j. op_piece around T.slice l j false 3)
        (λ j p. operated around T.slice l j false 3 p tt)))
    exp (S.slice l (S.given a) b c) n g v m =
        behind m (in-closed (exp a n g v m)) (part b (n + size a) v _ (λ j. part_piece around c j v (λ i. op_piece around T.slice l i false 3))
        (λ j p. part c j v p (λ i. op_piece around T.slice l i false 3) (λ i q. operated around T.slice l i false 3 q tt)))
    exp (S.unary l o a) n g v m = behind m (in-closed (exp a n g v m)) (operated around (T.unary o) l (n + size a) false 1 _ tt)
    exp (S.not_of l a) n g v m = behind m (in-closed (exp a n g v m)) (operated around T.inverted l (n + size a) false 1 _ tt)
    exp (S.binary l o a b) n g v m =
        behind m (in-closed (exp a n g v m)) (behind _ (in-closed (exp b (n + size a) false v _)) (operated around (T.binary o) l
        (n + size a + size b) false 2 _ tt))
    exp (S.compare l a o b r) n g v m =
        behind m (in-closed (exp a n g v m)) (behind _ (in-closed (exp b (n + size a) false v _)) (in-closed (links r o l (n + size a + size b) v _)))
    exp (S.and l a es) n g v m = in-block (behind m (in-closed (exp a n g v m)) (ands es l (n + size a) v _))
    exp (S.or l a es) n g v m = in-block (behind m (in-closed (exp a n g v m)) (ors es l (n + size a) v _))
    exp (S.conditional l c a b) n g v m = in-block (behind m (in-block (behind m (in-closed (exp c n g v m)) (behind _ (jumping _)
        (behind _ (in-closed (exp a (n + size c + 1) false v _)) (going _))))) (in-closed (exp b (n + size c + 1 + size a) false v _)))
    exp (S.call l f args) n g v m =
        behind m (in-closed (exp f n g v m)) (arguments args (roles around.spelled args) l (n + size f) 1 v _ (omega arith))
    exp (S.lambda l b (S.parameters ps s ks d) e) n g v m =
        let op = making around b ps ks in
        first-formals ps n g v m _ _
        (first-formals ks n g v m (op_piece around op l n g 0) (λ j k. op_piece around op l j false k) (operated around op l n g 0 m (omega arith))
        (λ j k q h. operated around op l j false k q h))
        (λ j k q h. formals ks j k v q (λ j k. op_piece around op l j false k) (λ j k q h. operated around op l j false k q h) h)
    exp (S.comprehension l mk k t it cs) n g v m =
        in-block (behind m (in-closed (exp it n g v m)) (behind _ (acting _ tt) (behind _ (made around [] (built_as mk) l (n + size it + 1) false 0 _
        (built mk _))
        (behind _ (moving _ tt) (behind _ (renewed around (map (around.variable ((n + size it + 1 + 1) ∷ v)) (target_names t ++ clause_names cs)) _)
        (in-headed (behind _ (jumping _) (behind _ (in-closed (target t (n + size it + 1 + 1 + 1) ((n + size it + 1 + 1) ∷ v) _))
        (clauses cs l (n + size it + 1 + 1 + 1 + target_size t) 1 ((n + size it + 1 + 1) ∷ v) _ (λ j d. item_piece around mk l j d ((n + size it + 1 + 1) ∷ v))
        (λ j d q h. item mk l j d ((n + size it + 1 + 1) ∷ v) q h) (omega (arith, some it n g v)))))))))))
    exp (S.generator l b e k t it cs) n g v m =
        behind m (in-closed (exp it n g v m)) (behind _ (acting _ tt) (made around (around.captured b) (T.generator b) l (n + size it + 1) false 1 _ tt))
    exp (S.yield l S.absent) n g v m = behind m (null m) (acting _ tt)
    exp (S.yield l (S.given e)) n g v m = behind m (in-closed (exp e n g v m)) (acting _ tt)
    exp (S.yield_from l e) n g v m = behind m (in-closed (exp e n g v m)) (behind _ (acting _ tt) (behind _ (null _) (acting _ tt)))

    built : (mk : Made) (m : ℕ) → Counts (built_as mk) 0 m
    built (S.a_list e) m = omega arith
    built (S.a_set e) m = omega arith
    built (S.a_dict k e) m = omega arith

    part : (o : Opt) (n : ℕ) (v : List ℕ) (m : ℕ) (after : ℕ → Piece) → ((j q : ℕ) → CountsHaveCode q (after j))
        → CountsHaveCode m (part_piece around o n v after)
    part S.absent n v m after h = behind m (null m) (h n _)
    part (S.given e) n v m after h = behind m (in-closed (exp e n false v m)) (h (n + size e) _)

    exps : (es : Exps) (op : Operation) (l n k : ℕ) (v : List ℕ) (m : ℕ) → ((k m : ℕ) → k ≤ m → Counts op k m) → k ≤ m
        → CountsHaveCode m (exps_piece around es op l n k v)
    exps S.no_exps op l n k v m c h = operated around op l n false k m (c k m h)
    exps (S.more_exps e es) op l n k v m c h =
        behind m (in-closed (exp e n false v m)) (exps es op l (n + size e) (suc k) v _ c (omega (arith, h, some e n false v)))

    entries : (r : Entries) (l n k : ℕ) (v : List ℕ) (m : ℕ) → k ≤ m → CountsHaveCode m (entries_piece around r l n k v)
    entries S.no_entries l n k v m h = operated around T.dict l n false k m h
    entries (S.entry a b r) l n k v m h =
        behind m (in-closed (exp a n false v m)) (behind _ (in-closed (exp b (n + size a) false v _))
        (entries r l (n + size a + size b) (suc k) v _ (omega (arith, h, some a n false v))))

    arguments : (r : Args) (rs : List Role) (l n k : ℕ) (v : List ℕ) (m : ℕ) → length rs ≤ m + length (roles around.spelled r)
        → CountsHaveCode m (args_piece around r (T.call rs) l n k v)
    arguments S.no_args rs l n k v m h = operated around (T.call rs) l n false k m (omega (arith, h))
    arguments (S.positional e r) rs l n k v m h =
        behind m (in-closed (exp e n false v m)) (arguments r rs l (n + size e) (suc k) v _ (omega (arith, h, some e n false v)))
    arguments (S.named x e r) rs l n k v m h =
        behind m (in-closed (exp e n false v m)) (arguments r rs l (n + size e) (suc k) v _ (omega (arith, h, some e n false v)))
    arguments (S.spread e r) rs l n k v m h =
        behind m (in-closed (exp e n false v m)) (behind _ (operated around T.spread_out l (n + size e) false 1 _ tt)
        (arguments r rs l (n + size e + 1) (suc k) v _ (omega (arith, h, some e n false v))))
    arguments (S.spread_named e r) rs l n k v m h =
        behind m (in-closed (exp e n false v m)) (behind _ (operated around T.spread_named_out l (n + size e) false 1 _ tt)
        (arguments r rs l (n + size e + 1) (suc k) v _ (omega (arith, h, some e n false v))))

    pieces : (r : Pieces) (l n k : ℕ) (v : List ℕ) (m : ℕ) → k ≤ m → CountsHaveCode m (pieces_piece around r l n k v)
    pieces S.no_pieces l n k v m h = operated around T.join l n false k m h
    pieces (S.literal a t r) l n k v m h = behind m (acting m tt) (pieces r l (n + 1) (suc k) v (m + 1) (omega (arith, h)))
    pieces (S.field a e c sp r) l n k v m h =
        behind m (in-closed (exp e n false v m)) (behind _ (spec sp a (n + size e) c v _)
        (pieces r l (n + size e + pieces_size sp + joins sp + 1) (suc k) v _ (omega (arith, h, some e n false v))))

    spec : (r : Pieces) (l n : ℕ) (c : Option Conversion) (v : List ℕ) (m : ℕ) → CountsHaveCode m (spec_piece around r l n c v)
    spec S.no_pieces l n c v m = behind m (null m) (operated around (T.format c) l n false 2 _ tt)
    spec (S.literal a t S.no_pieces) l n c v m = behind m (acting m tt) (operated around (T.format c) l (n + 1) false 2 _ tt)
    spec (S.field a e d sp S.no_pieces) l n c v m =
        behind m (in-closed (exp e n false v m)) (behind _ (spec sp a (n + size e) d v _)
        (operated around (T.format c) l (n + size e + pieces_size sp + joins sp + 1) false 2 _ tt))
    spec (S.literal a t (S.literal b u r)) l n c v m =
        behind m (acting m tt) (behind _ (pieces (S.literal b u r) l (n + 1) 1 v _ (omega arith))
        (operated around (T.format c) l (n + 1 + pieces_size (S.literal b u r) + 1) false 2 _ tt))
    spec (S.literal a t (S.field b e d sp r)) l n c v m =
        behind m (acting m tt) (behind _ (pieces (S.field b e d sp r) l (n + 1) 1 v _ (omega arith))
        (operated around (T.format c) l (n + 1 + pieces_size (S.field b e d sp r) + 1) false 2 _ tt))
    spec (S.field a e d sp (S.literal b u r)) l n c v m =
        behind m (in-closed (exp e n false v m)) (behind _ (spec sp a (n + size e) d v _)
        (behind _ (pieces (S.literal b u r) l (n + size e + pieces_size sp + joins sp + 1) 1 v _ (omega (arith, some e n false v)))
        (operated around (T.format c) l (n + pieces_size (S.field a e d sp (S.literal b u r)) + 1) false 2 _ tt)))
    spec (S.field a e d sp (S.field b f k ps r)) l n c v m =
        behind m (in-closed (exp e n false v m)) (behind _ (spec sp a (n + size e) d v _)
        (behind _ (pieces (S.field b f k ps r) l (n + size e + pieces_size sp + joins sp + 1) 1 v _ (omega (arith, some e n false v)))
        (operated around (T.format c) l (n + pieces_size (S.field a e d sp (S.field b f k ps r)) + 1) false 2 _ tt)))

    links : (r : Links) (o : CompareOp) (l n : ℕ) (v : List ℕ) (m : ℕ) → CountsHaveCode m (links_piece around r o l n v)
    links S.no_links o l n v m = acting m (tt, tt)
    links (S.link p b r) o l n v m = in-block (behind m (in-block (behind m (moving m tt) (behind _ (moving _ tt) (behind _ (acting _ (tt, tt)) (behind _
        (jumping _)
        (behind _ (in-closed (exp b (n + 1 + 1) false v _)) (behind _ (in-closed (links r p l (n + 1 + 1 + size b) v _)) (going _)))))))) (behind _
        (moving _ tt) (moving _ tt)))

    ands : (es : Exps) (l n : ℕ) (v : List ℕ) (m : ℕ) → CountsHaveCode m (ands_piece around es l n v)
    ands S.no_exps l n v m = nothing m
    ands (S.more_exps e es) l n v m = behind m (jumping m) (behind _ (in-closed (exp e (n + 1) false v _)) (ands es l (n + 1 + size e) v _))

    ors : (es : Exps) (l n : ℕ) (v : List ℕ) (m : ℕ) → CountsHaveCode m (ors_piece around es l n v)
    ors S.no_exps l n v m = nothing m
    ors (S.more_exps e es) l n v m = behind m (jumping m) (behind _ (in-closed (exp e (n + 1) false v _)) (ors es l (n + 1 + size e) v _))

    formals : (ps : Formals) (n k : ℕ) (v : List ℕ) (m : ℕ) (after : (n k : ℕ) → Piece) → ((j k q : ℕ) → k ≤ q → CountsHaveCode q (after j k)) → k ≤ m
        → CountsHaveCode m (formals_piece around ps n k v after)
    formals S.no_formals n k v m after h c = h n k m c
    formals (S.formal a x t S.absent r) n k v m after h c = formals r n k v m after h c
    formals (S.formal a x t (S.given d) r) n k v m after h c =
        behind m (in-closed (exp d n false v m)) (formals r (n + size d) (suc k) v _ after h (omega (arith, c, some d n false v)))

    first-formals : (ps : Formals) (n : ℕ) (g : Bool) (v : List ℕ) (m : ℕ) (none : Piece) (after : (n k : ℕ) → Piece) → CountsHaveCode m none
        → ((j k q : ℕ) → k ≤ q → CountsHaveCode q (after j k)) → CountsHaveCode m (first_piece around ps n g v none after)
    first-formals S.no_formals n g v m none after z h = z
    first-formals (S.formal a x t S.absent r) n g v m none after z h = first-formals r n g v m none after z h
    first-formals (S.formal a x t (S.given d) r) n g v m none after z h =
        behind m (in-closed (exp d n g v m)) (formals r (n + size d) 1 v _ after h (omega (arith, some d n g v)))

    pub clauses : (cs : Clauses) (l n d : ℕ) (v : List ℕ) (m : ℕ) (after : (n d : ℕ) → Piece) → ((j d q : ℕ) → d ≤ q → CountsHaveCode q (after j d)) → d ≤ m
        → CountsHaveCode m (clauses_piece around cs l n d v after)
    clauses S.no_clauses l n d v m after h c = h n d m c
    clauses (S.only_if e cs) l n d v m after h c =
        behind m (in-closed (exp e n false v m)) (behind _ (jumping _) (clauses cs l (n + size e + 1) d v _ after h (omega (arith, c))))
    clauses (S.for_each k t it cs) l n d v m after h c =
        behind m (in-closed (exp it n false v m)) (behind _ (acting _ tt) (in-headed (behind _ (jumping _) (behind _ (in-closed (target t
        (n + size it + 1 + 1) v _))
        (clauses cs l (n + size it + 1 + 1 + target_size t) (suc d) v _ after h (omega (arith, c, some it n false v)))))))

    item : (mk : Made) (l n d : ℕ) (v : List ℕ) (m : ℕ) → d ≤ m → CountsHaveCode m (item_piece around mk l n d v)
    item (S.a_list e) l n d v m h = behind m (in-closed (exp e n false v m)) (behind _ (acting _ (omega (arith, h), tt)) (going _))
    item (S.a_set e) l n d v m h = behind m (in-closed (exp e n false v m)) (behind _ (acting _ (omega (arith, h), tt)) (going _))
    item (S.a_dict k e) l n d v m h =
        behind m (in-closed (exp k n false v m)) (behind _ (in-closed (exp e (n + size k) false v _)) (behind _ (acting _ (omega (arith, h), tt)) (going _)))

    pub target : (t : Tgt) (n : ℕ) (v : List ℕ) (m : ℕ) → CountsHaveCode m (target_piece around t n v)
    target (S.single p) n v m = place p n v m
    target (S.several l f ts) n v m = before m (unpacking _ ts (omega (arith, some-targets ts (n + 1) v))) (targets ts (n + 1) v (m + 1))
    target (S.starred l t) n v m = target t n v m

    targets : (ts : Tgts) (n : ℕ) (v : List ℕ) (m : ℕ) → CountsHaveCode m (targets_piece around ts n v)
    targets S.no_targets n v m = nothing m
    targets (S.more_targets t ts) n v m = behind m (in-closed (target t n v m)) (targets ts (n + target_size t) v _)

    place : (p : Place) (n : ℕ) (v : List ℕ) (m : ℕ) → CountsHaveCode m (place_piece around p n v)
    place (S.name_at l x) n v m = acting m (storing (m + 1) (around.variable v x))
    place (S.attribute_at l a x) n v m = behind m (in-closed (exp a n false v m)) (acting _ (λ t. (tt, tt)))
    place (S.item_at l a i) n v m = behind m (in-closed (exp a n false v m)) (behind _ (in-closed (exp i (n + size a) false v _)) (acting _ tt))
