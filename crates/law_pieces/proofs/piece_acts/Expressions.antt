-- The acts of expressions and targets are numbered up to their sizes.
use Rattle.std.proofs.Common.{ℕ, ◌+◌, List, [], ◌∷◌, Bool, false, Option, arith}
use Rattle.pt_base.specs.declared.operators.CompareOp.{CompareOp}
use Rattle.pt_tree.specs.declared.expression.Conversion.{Conversion}
use Rattle.pt_tree.specs.Syntax as S
use Rattle.pt_tree.specs.Syntax.{Exp, Exps, Opt, Pieces, Entries, Links, Args, Made, Clauses, Place, Tgt, Tgts, Formals}
use Rattle.pt_tree.specs.Sizes.{size, all_size, operands_size, opt_size, pieces_size, joins, entries_size, links_size, args_size, made_size, clauses_size, place_size, target_size, targets_size, formals_size}
use Rattle.sem_control.specs.control.Turn as T
use Rattle.sem_control.specs.control.Turn.{Around, Variable, Operation}
use Rattle.sem_control.specs.control.Expressions.{cells_of, making}
use Rattle.pt_assembler.specs.Piece.{Piece}
use Rattle.sem_compile.specs.emitter.ExpPiece.{made_piece, op_piece, renewed_piece, exp_piece, part_piece, exps_piece, entries_piece, args_piece, pieces_piece, spec_piece, links_piece, ands_piece, ors_piece, formals_piece, first_piece, clauses_piece, item_piece, target_piece, targets_piece, place_piece}
use Rattle.law_pieces.proofs.piece_acts.Above.{Tops, act_tops, no_tops, and_tops, ends}

module _ {V : Type 0} (around : Around V) where
  pub made_tops : (xs : List Variable) (op : Operation) (l n : ℕ) (g : Bool) (k : ℕ) → Tops (made_piece around xs op l n g k) n (n + 1)
  made_tops [] op l n g k = act_tops _
  made_tops (x ∷ xs) op l n g k = ends _ _ _ (and_tops _ _ _ _ _ (no_tops _) (made_tops xs op l n g k)) (omega arith)

  op_tops : (op : Operation) (l n : ℕ) (g : Bool) (k : ℕ) → Tops (op_piece around op l n g k) n (n + 1)
  op_tops op l n g k = made_tops (cells_of around op) op l n g k

  renewed_tops : (xs : List Variable) (n : ℕ) → Tops (renewed_piece around xs) n n
  renewed_tops [] n = no_tops n
  renewed_tops (x ∷ xs) n = and_tops _ _ _ _ _ (no_tops _) (renewed_tops xs n)

  mutual
    pub exp_tops : (e : Exp) (n : ℕ) (g : Bool) (v : List ℕ) → Tops (exp_piece around e n g v) n (n + size e)
    exp_tops (S.constant l k) n g v = act_tops _
    exp_tops (S.name l x) n g v = act_tops _
    exp_tops (S.joined l S.no_pieces) n g v = act_tops _
    exp_tops (S.joined l (S.literal k t r)) n g v =
        ends _ _ _ (and_tops _ _ _ _ _ (act_tops _) (pieces_tops r l (n + 1) 1 v)) (omega arith)
    exp_tops (S.joined l (S.field k e c sp r)) n g v =
        ends _ _ _ (and_tops _ _ _ _ _ (exp_tops e n g v) (and_tops _ _ _ _ _ (spec_tops sp k (n + size e) c v) (pieces_tops r l _ 1 v))) (omega arith)
    exp_tops (S.tuple l S.no_exps) n g v = act_tops _
    exp_tops (S.tuple l (S.more_exps e es)) n g v = ends _ _ _ (and_tops _ _ _ _ _ (exp_tops e n g v) (exps_tops es _ l _ 1 v)) (omega arith)
    exp_tops (S.list l S.no_exps) n g v = act_tops _
    exp_tops (S.list l (S.more_exps e es)) n g v = ends _ _ _ (and_tops _ _ _ _ _ (exp_tops e n g v) (exps_tops es _ l _ 1 v)) (omega arith)
    exp_tops (S.set l S.no_exps) n g v = act_tops _
    exp_tops (S.set l (S.more_exps e es)) n g v = ends _ _ _ (and_tops _ _ _ _ _ (exp_tops e n g v) (exps_tops es _ l _ 1 v)) (omega arith)
    exp_tops (S.dict l S.no_entries) n g v = act_tops _
    exp_tops (S.dict l (S.entry a b r)) n g v =
        ends _ _ _ (and_tops _ _ _ _ _ (exp_tops a n g v) (and_tops _ _ _ _ _ (exp_tops b _ false v) (entries_tops r l _ 1 v))) (omega arith)
    exp_tops (S.attribute l a x) n g v = ends _ _ _ (and_tops _ _ _ _ _ (exp_tops a n g v) (act_tops _)) (omega arith)
    exp_tops (S.item l a i) n g v =
        ends _ _ _ (and_tops _ _ _ _ _ (exp_tops a n g v) (and_tops _ _ _ _ _ (exp_tops i _ false v) (act_tops _))) (omega arith)
    exp_tops (S.slice l S.absent S.absent S.absent) n g v =
        ends _ _ _ (and_tops _ _ _ _ _ (no_tops _) (and_tops _ _ _ _ _ (no_tops _) (and_tops _ _ _ _ _ (no_tops _) (act_tops _)))) (omega arith)
    exp_tops (S.slice l S.absent S.absent (S.given c)) n g v =
        ends _ _ _ (and_tops _ _ _ _ _ (no_tops _) (and_tops _ _ _ _ _ (no_tops _) (and_tops _ _ _ _ _ (exp_tops c n g v) (act_tops _)))) (omega arith)
    exp_tops (S.slice l S.absent (S.given b) c) n g v =
        ends _ _ _ (and_tops _ _ _ _ _ (no_tops _) (and_tops _ _ _ _ _ (exp_tops b n g v) (part_tops c _ v _ 1 (λ m. act_tops _)))) (omega arith)
    exp_tops (S.slice l (S.given a) b c) n g v =
        ends _ _ _ (and_tops _ _ _ _ _ (exp_tops a n g v) (part_tops b _ v _ (opt_size c + 1) (λ m. part_tops c m v _ 1 (λ k. act_tops _)))) (omega arith)
    exp_tops (S.unary l o a) n g v = ends _ _ _ (and_tops _ _ _ _ _ (exp_tops a n g v) (act_tops _)) (omega arith)
    exp_tops (S.not_of l a) n g v = ends _ _ _ (and_tops _ _ _ _ _ (exp_tops a n g v) (act_tops _)) (omega arith)
    exp_tops (S.binary l o a b) n g v =
        ends _ _ _ (and_tops _ _ _ _ _ (exp_tops a n g v) (and_tops _ _ _ _ _ (exp_tops b _ false v) (act_tops _))) (omega arith)
    exp_tops (S.compare l a o b r) n g v =
        ends _ _ _ (and_tops _ _ _ _ _ (exp_tops a n g v) (and_tops _ _ _ _ _ (exp_tops b _ false v) (links_tops r o l _ v))) (omega arith)
    exp_tops (S.and l a es) n g v = ends _ _ _ (and_tops _ _ _ _ _ (exp_tops a n g v) (ands_tops es l _ v)) (omega arith)
    exp_tops (S.or l a es) n g v = ends _ _ _ (and_tops _ _ _ _ _ (exp_tops a n g v) (ors_tops es l _ v)) (omega arith)
    exp_tops (S.conditional l c a b) n g v = ends _ _ _ ((and_tops _ _ _ _ _
        ((and_tops _ _ _ _ _ (exp_tops c n g v) (and_tops _ _ _ _ _ (act_tops _) (and_tops _ _ _ _ _ (exp_tops a _ false v) (no_tops _)))))
        (exp_tops b _ false v))) (omega arith)
    exp_tops (S.call l f args) n g v = ends _ _ _ (and_tops _ _ _ _ _ (exp_tops f n g v) (args_tops args _ l _ 1 v)) (omega arith)
    exp_tops (S.lambda l b (S.parameters ps s ks d) e) n g v = ends _ _ _
        (first_tops ps n g v _ _ (formals_size ks + 1) (first_tops ks n g v _ _ 1 (op_tops (making around b ps ks) l n g 0) (λ m k. op_tops (making around b ps ks) l m false k))
        (λ m k. formals_tops ks m k v _ 1 (λ i j. op_tops (making around b ps ks) l i false j))) (omega arith)
    exp_tops (S.comprehension l m k t it cs) n g v = ends _ _ _ ((and_tops _ _ _ _ _ (exp_tops it n g v) (and_tops _ _ _ _ _ (act_tops _)
        (and_tops _ _ _ _ _ (act_tops _) (and_tops _ _ _ _ _ (no_tops _) (and_tops _ _ _ _ _ (renewed_tops _ _)
        ((and_tops _ _ _ _ _ (act_tops _) (and_tops _ _ _ _ _ (target_tops t _ _)
        (clauses_tops cs l _ 1 _ _ (made_size m) (λ j d. item_tops m l j d _))))))))))) (omega arith)
    exp_tops (S.generator l b e k t it cs) n g v =
        ends _ _ _ (and_tops _ _ _ _ _ (exp_tops it n g v) (and_tops _ _ _ _ _ (act_tops _) (made_tops (around.captured b) (T.generator b) l _ false 1))) (omega arith)
    exp_tops (S.yield l S.absent) n g v = ends _ _ _ (and_tops _ _ _ _ _ (no_tops _) (act_tops _)) (omega arith)
    exp_tops (S.yield l (S.given e)) n g v = ends _ _ _ (and_tops _ _ _ _ _ (exp_tops e n g v) (act_tops _)) (omega arith)
    exp_tops (S.yield_from l e) n g v =
        ends _ _ _ (and_tops _ _ _ _ _ (exp_tops e n g v) (and_tops _ _ _ _ _ (act_tops _) (and_tops _ _ _ _ _ (no_tops _) (act_tops _)))) (omega arith)

    part_tops : (o : Opt) (n : ℕ) (v : List ℕ) (behind : ℕ → Piece) (k : ℕ) → ((m : ℕ) → Tops (behind m) m (m + k)) → Tops (part_piece around o n v behind) n (n + (opt_size o + k))
    part_tops S.absent n v behind k h = ends _ _ _ (and_tops _ _ _ _ _ (no_tops _) (h n)) (omega arith)
    part_tops (S.given e) n v behind k h = ends _ _ _ (and_tops _ _ _ _ _ (exp_tops e n false v) (h (n + size e))) (omega arith)

    exps_tops : (es : Exps) (op : Operation) (l n k : ℕ) (v : List ℕ) → Tops (exps_piece around es op l n k v) n (n + (all_size es + 1))
    exps_tops S.no_exps op l n k v = op_tops op l n false k
    exps_tops (S.more_exps e es) op l n k v = ends _ _ _ (and_tops _ _ _ _ _ (exp_tops e n false v) (exps_tops es op l _ _ v)) (omega arith)

    entries_tops : (es : Entries) (l n k : ℕ) (v : List ℕ) → Tops (entries_piece around es l n k v) n (n + (entries_size es + 1))
    entries_tops S.no_entries l n k v = act_tops _
    entries_tops (S.entry a b r) l n k v =
        ends _ _ _ (and_tops _ _ _ _ _ (exp_tops a n false v) (and_tops _ _ _ _ _ (exp_tops b _ false v) (entries_tops r l _ _ v))) (omega arith)

    args_tops : (es : Args) (op : Operation) (l n k : ℕ) (v : List ℕ) → Tops (args_piece around es op l n k v) n (n + (args_size es + 1))
    args_tops S.no_args op l n k v = op_tops op l n false k
    args_tops (S.positional e r) op l n k v = ends _ _ _ (and_tops _ _ _ _ _ (exp_tops e n false v) (args_tops r op l _ _ v)) (omega arith)
    args_tops (S.named x e r) op l n k v = ends _ _ _ (and_tops _ _ _ _ _ (exp_tops e n false v) (args_tops r op l _ _ v)) (omega arith)
    args_tops (S.spread e r) op l n k v =
        ends _ _ _ (and_tops _ _ _ _ _ (exp_tops e n false v) (and_tops _ _ _ _ _ (act_tops _) (args_tops r op l _ _ v))) (omega arith)
    args_tops (S.spread_named e r) op l n k v =
        ends _ _ _ (and_tops _ _ _ _ _ (exp_tops e n false v) (and_tops _ _ _ _ _ (act_tops _) (args_tops r op l _ _ v))) (omega arith)

    pieces_tops : (ps : Pieces) (l n k : ℕ) (v : List ℕ) → Tops (pieces_piece around ps l n k v) n (n + pieces_size ps + 1)
    pieces_tops S.no_pieces l n k v = ends _ _ _ (act_tops n) (omega arith)
    pieces_tops (S.literal a t r) l n k v = ends _ _ _ (and_tops _ _ _ _ _ (act_tops _) (pieces_tops r l _ _ v)) (omega arith)
    pieces_tops (S.field a e c sp r) l n k v =
        ends _ _ _ (and_tops _ _ _ _ _ (exp_tops e n false v) (and_tops _ _ _ _ _ (spec_tops sp a _ c v) (pieces_tops r l _ _ v))) (omega arith)

    spec_tops : (ps : Pieces) (l n : ℕ) (c : Option Conversion) (v : List ℕ) → Tops (spec_piece around ps l n c v) n (n + pieces_size ps + joins ps + 1)
    spec_tops S.no_pieces l n c v = ends _ _ _ (and_tops _ _ _ _ _ (no_tops _) (act_tops _)) (omega arith)
    spec_tops (S.literal a t S.no_pieces) l n c v = ends _ _ _ (and_tops _ _ _ _ _ (act_tops _) (act_tops _)) (omega arith)
    spec_tops (S.field a e d sp S.no_pieces) l n c v =
        ends _ _ _ (and_tops _ _ _ _ _ (exp_tops e n false v) (and_tops _ _ _ _ _ (spec_tops sp a _ d v) (act_tops _))) (omega arith)
    spec_tops (S.literal a t (S.literal b u r)) l n c v = ends _ _ _
        (and_tops _ _ _ _ _ (act_tops _) (and_tops _ _ _ _ _ (pieces_tops (S.literal b u r) l _ 1 v) (act_tops _))) (omega arith)
    spec_tops (S.literal a t (S.field b e d sp r)) l n c v = ends _ _ _
        (and_tops _ _ _ _ _ (act_tops _) (and_tops _ _ _ _ _ (pieces_tops (S.field b e d sp r) l _ 1 v) (act_tops _))) (omega arith)
    spec_tops (S.field a e d sp (S.literal b u r)) l n c v = ends _ _ _ (and_tops _ _ _ _ _ (exp_tops e n false v) (and_tops _ _ _ _ _ (spec_tops sp a _ d v)
        (and_tops _ (n + pieces_size (S.field a e d sp (S.literal b u r)) + 1) _ _ _
        (ends _ _ _ (pieces_tops (S.literal b u r) l (n + size e + pieces_size sp + joins sp + 1) 1 v) (omega arith)) (act_tops _)))) (omega arith)
    spec_tops (S.field a e d sp (S.field b f o sq r)) l n c v = ends _ _ _ (and_tops _ _ _ _ _ (exp_tops e n false v) (and_tops _ _ _ _ _ (spec_tops sp a _ d v)
        (and_tops _ (n + pieces_size (S.field a e d sp (S.field b f o sq r)) + 1) _ _ _
        (ends _ _ _ (pieces_tops (S.field b f o sq r) l (n + size e + pieces_size sp + joins sp + 1) 1 v) (omega arith)) (act_tops _)))) (omega arith)

    links_tops : (ls : Links) (o : CompareOp) (l n : ℕ) (v : List ℕ) → Tops (links_piece around ls o l n v) n (n + (1 + links_size ls))
    links_tops S.no_links o l n v = act_tops _
    links_tops (S.link p b r) o l n v = ends _ _ _ ((and_tops _ _ _ _ _ ((and_tops _ _ _ _ _ (no_tops _)
        (and_tops _ _ _ _ _ (no_tops _) (and_tops _ _ _ _ _ (act_tops _) (and_tops _ _ _ _ _ (act_tops _) (and_tops _ _ _ _ _ (exp_tops b _ false v)
        (and_tops _ _ _ _ _ (links_tops r p l _ v) (no_tops _)))))))) (and_tops _ _ _ _ _ (no_tops _) (no_tops _)))) (omega arith)

    ands_tops : (es : Exps) (l n : ℕ) (v : List ℕ) → Tops (ands_piece around es l n v) n (n + operands_size es)
    ands_tops S.no_exps l n v = ends _ _ _ (no_tops _) (omega arith)
    ands_tops (S.more_exps e es) l n v =
        ends _ _ _ (and_tops _ _ _ _ _ (act_tops _) (and_tops _ _ _ _ _ (exp_tops e _ false v) (ands_tops es l _ v))) (omega arith)

    ors_tops : (es : Exps) (l n : ℕ) (v : List ℕ) → Tops (ors_piece around es l n v) n (n + operands_size es)
    ors_tops S.no_exps l n v = ends _ _ _ (no_tops _) (omega arith)
    ors_tops (S.more_exps e es) l n v =
        ends _ _ _ (and_tops _ _ _ _ _ (act_tops _) (and_tops _ _ _ _ _ (exp_tops e _ false v) (ors_tops es l _ v))) (omega arith)

    formals_tops : (ps : Formals) (n k : ℕ) (v : List ℕ) (behind : (n k : ℕ) → Piece) (j : ℕ) → ((m i : ℕ) → Tops (behind m i) m (m + j))
        → Tops (formals_piece around ps n k v behind) n (n + (formals_size ps + j))
    formals_tops S.no_formals n k v behind j h = ends _ _ _ (h n k) (omega arith)
    formals_tops (S.formal a x t S.absent r) n k v behind j h = ends _ _ _ (formals_tops r n k v behind j h) (omega arith)
    formals_tops (S.formal a x t (S.given d) r) n k v behind j h =
        ends _ _ _ (and_tops _ _ _ _ _ (exp_tops d n false v) (formals_tops r _ _ v behind j h)) (omega arith)

    first_tops : (ps : Formals) (n : ℕ) (g : Bool) (v : List ℕ) (none : Piece) (behind : (n k : ℕ) → Piece) (j : ℕ) → Tops none n (n + j)
        → ((m i : ℕ) → Tops (behind m i) m (m + j)) → Tops (first_piece around ps n g v none behind) n (n + (formals_size ps + j))
    first_tops S.no_formals n g v none behind j h more = ends _ _ _ h (omega arith)
    first_tops (S.formal a x t S.absent r) n g v none behind j h more = ends _ _ _ (first_tops r n g v none behind j h more) (omega arith)
    first_tops (S.formal a x t (S.given d) r) n g v none behind j h more =
        ends _ _ _ (and_tops _ _ _ _ _ (exp_tops d n g v) (formals_tops r _ _ v behind j more)) (omega arith)

    pub clauses_tops : (cs : Clauses) (l n d : ℕ) (v : List ℕ) (item : (n d : ℕ) → Piece) (k : ℕ) → ((m i : ℕ) → Tops (item m i) m (m + k))
        → Tops (clauses_piece around cs l n d v item) n (n + (clauses_size cs + k))
    clauses_tops S.no_clauses l n d v item k h = ends _ _ _ (h n d) (omega arith)
    clauses_tops (S.only_if c cs) l n d v item k h =
        ends _ _ _ (and_tops _ _ _ _ _ (exp_tops c n false v) (and_tops _ _ _ _ _ (act_tops _) (clauses_tops cs l _ d v item k h))) (omega arith)
    clauses_tops (S.for_each a t it cs) l n d v item k h = ends _ _ _ (and_tops _ _ _ _ _ (exp_tops it n false v) (and_tops _ _ _ _ _ (act_tops _)
        ((and_tops _ _ _ _ _ (act_tops _) (and_tops _ _ _ _ _ (target_tops t _ v) (clauses_tops cs l _ _ v item k h))))))
        (omega arith)

    item_tops : (m : Made) (l n d : ℕ) (v : List ℕ) → Tops (item_piece around m l n d v) n (n + made_size m)
    item_tops (S.a_list e) l n d v = ends _ _ _ (and_tops _ _ _ _ _ (exp_tops e n false v) (and_tops _ _ _ _ _ (act_tops _) (no_tops _))) (omega arith)
    item_tops (S.a_set e) l n d v = ends _ _ _ (and_tops _ _ _ _ _ (exp_tops e n false v) (and_tops _ _ _ _ _ (act_tops _) (no_tops _))) (omega arith)
    item_tops (S.a_dict k e) l n d v = ends _ _ _
        (and_tops _ _ _ _ _ (exp_tops k n false v) (and_tops _ _ _ _ _ (exp_tops e _ false v) (and_tops _ _ _ _ _ (act_tops _) (no_tops _)))) (omega arith)

    pub target_tops : (t : Tgt) (n : ℕ) (v : List ℕ) → Tops (target_piece around t n v) n (n + target_size t)
    target_tops (S.single p) n v = place_tops p n v
    target_tops (S.several l f ts) n v = ends _ _ _ (and_tops _ _ _ _ _ (act_tops _) (targets_tops ts _ v)) (omega arith)
    target_tops (S.starred l t) n v = target_tops t n v

    targets_tops : (ts : Tgts) (n : ℕ) (v : List ℕ) → Tops (targets_piece around ts n v) n (n + targets_size ts)
    targets_tops S.no_targets n v = ends _ _ _ (no_tops _) (omega arith)
    targets_tops (S.more_targets t ts) n v = ends _ _ _ (and_tops _ _ _ _ _ (target_tops t n v) (targets_tops ts _ v)) (omega arith)

    place_tops : (p : Place) (n : ℕ) (v : List ℕ) → Tops (place_piece around p n v) n (n + place_size p)
    place_tops (S.name_at l x) n v = act_tops _
    place_tops (S.attribute_at l a x) n v = ends _ _ _ (and_tops _ _ _ _ _ (exp_tops a n false v) (act_tops _)) (omega arith)
    place_tops (S.item_at l a i) n v =
        ends _ _ _ (and_tops _ _ _ _ _ (exp_tops a n false v) (and_tops _ _ _ _ _ (exp_tops i _ false v) (act_tops _))) (omega arith)
