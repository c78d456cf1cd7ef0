-- The code of expressions in pieces (Language Reference 6): their operands from left to right, and then their own instruction.
use Rattle.std.specs.Prelude.{ℕ, ◌+◌, ◌-◌, suc, List, [], ◌∷◌, ◌++◌, map, Bool, false, Option, Some, None}
use Rattle.pt_base.specs.declared.operators.CompareOp.{CompareOp}
use Rattle.pt_tree.specs.declared.expression.Constant.TheVariants as constant
use Rattle.pt_tree.specs.declared.expression.Conversion.{Conversion}
use Rattle.pt_tree.specs.Syntax as S
use Rattle.pt_tree.specs.Syntax.{Exp, Exps, Opt, Pieces, Entries, Links, Args, Made, Clauses, Place, Tgt, Tgts, Formals}
use Rattle.pt_tree.specs.Sizes.{size, pieces_size, joins, target_size}
use Rattle.pt_instr.specs.declared.Instr.TheVariants as instr
use Rattle.sem_control.specs.control.Turn as T
use Rattle.sem_control.specs.control.Turn.{Around, Variable, Operation}
use Rattle.sem_control.specs.control.Expressions.{roles, making, cells_of, target_names, clause_names, built_as}
use Rattle.sem_control.specs.control.Statements as statements
use Rattle.sem_control.specs.control.Statements.{star_of}
use Rattle.pt_assembler.specs.declared.operation.Jump.TheVariants.{AtEnd, Always, IfTrue, IfFalse, IfTrueKeep, IfFalseKeep}
use Rattle.pt_assembler.specs.Piece.{Op, plain, const, with_text, to, Piece, empty, act, move, block, headed, closed, ◌▸◌}
use Rattle.sem_compile.specs.emitter.Ops.{load, store, renew, push_cell, operation}

-- None, without an act
abbrev pub null_piece : Piece
null_piece = move (const constant.None)

-- an unpacking for so many targets, one of which may have a star (7.2)
abbrev pub unpack_op : (count : ℕ) → (star : Option ℕ) → Op
unpack_op n None = plain (instr.Unpack n)
unpack_op n (Some k) = plain (instr.UnpackStar k (n - suc k))

module _ {V : Type 0} (around : Around V) where
  -- the cells that an operation's block takes along, and the operation on so many values
  abbrev pub made_piece : (cells : List Variable) → Operation → (l n : ℕ) → (g : Bool) → (k : ℕ) → Piece
  made_piece [] op l n g k = act (operation op k) n l g
  made_piece (x ∷ xs) op l n g k = move (push_cell x) ▸ made_piece xs op l n g k

  abbrev pub op_piece : Operation → (l n : ℕ) → (g : Bool) → (k : ℕ) → Piece
  op_piece op l n g k = made_piece (cells_of around op) op l n g k

  abbrev pub renewed_piece : List Variable → Piece
  renewed_piece [] = empty
  renewed_piece (x ∷ xs) = move (renew x) ▸ renewed_piece xs

  -- v are the comprehensions around. Operands are counted from those that are there
  abbrev mutual
    pub exp_piece : Exp → (n : ℕ) → (g : Bool) → (v : List ℕ) → Piece
    exp_piece (S.constant l k) n g v = act (const k) n l g
    exp_piece (S.name l x) n g v = act (load (around.variable v x)) n l g
    exp_piece (S.joined l S.no_pieces) n g v = op_piece T.join l n g 0
    exp_piece (S.joined l (S.literal k t r)) n g v = act (const (constant.Str t)) n k g ▸ pieces_piece r l (n + 1) 1 v
    exp_piece (S.joined l (S.field k e c sp r)) n g v =
        closed (exp_piece e n g v) ▸ spec_piece sp k (n + size e) c v ▸ pieces_piece r l (n + size e + pieces_size sp + joins sp + 1) 1 v
    exp_piece (S.tuple l S.no_exps) n g v = op_piece T.tuple l n g 0
    exp_piece (S.tuple l (S.more_exps e es)) n g v = closed (exp_piece e n g v) ▸ exps_piece es T.tuple l (n + size e) 1 v
    exp_piece (S.list l S.no_exps) n g v = op_piece T.list l n g 0
    exp_piece (S.list l (S.more_exps e es)) n g v = closed (exp_piece e n g v) ▸ exps_piece es T.list l (n + size e) 1 v
    exp_piece (S.set l S.no_exps) n g v = op_piece T.set l n g 0
    exp_piece (S.set l (S.more_exps e es)) n g v = closed (exp_piece e n g v) ▸ exps_piece es T.set l (n + size e) 1 v
    exp_piece (S.dict l S.no_entries) n g v = op_piece T.dict l n g 0
    exp_piece (S.dict l (S.entry a b r)) n g v =
        closed (exp_piece a n g v) ▸ closed (exp_piece b (n + size a) false v) ▸ entries_piece r l (n + size a + size b) 1 v
    exp_piece (S.attribute l a x) n g v = closed (exp_piece a n g v) ▸ op_piece (T.get (around.spelled x)) l (n + size a) false 1
    exp_piece (S.item l a i) n g v =
        closed (exp_piece a n g v) ▸ closed (exp_piece i (n + size a) false v) ▸ op_piece T.item l (n + size a + size i) false 2
    exp_piece (S.slice l S.absent S.absent S.absent) n g v = null_piece ▸ null_piece ▸ null_piece ▸ op_piece T.slice l n g 3
    exp_piece (S.slice l S.absent S.absent (S.given c)) n g v =
        null_piece ▸ null_piece ▸ closed (exp_piece c n g v) ▸ op_piece T.slice l (n + size c) false 3
    exp_piece (S.slice l S.absent (S.given b) c) n g v = null_piece ▸ closed (exp_piece b n g v) ▸ part_piece c (n + size b) v
        (λ m. op_piece T.slice l m false 3)
    exp_piece (S.slice l (S.given a) b c) n g v = closed (exp_piece a n g v) ▸ part_piece b (n + size a) v
        (λ m. part_piece c m v (λ m. op_piece T.slice l m false 3))
    exp_piece (S.unary l o a) n g v = closed (exp_piece a n g v) ▸ op_piece (T.unary o) l (n + size a) false 1
    exp_piece (S.not_of l a) n g v = closed (exp_piece a n g v) ▸ op_piece T.inverted l (n + size a) false 1
    exp_piece (S.binary l o a b) n g v =
        closed (exp_piece a n g v) ▸ closed (exp_piece b (n + size a) false v) ▸ op_piece (T.binary o) l (n + size a + size b) false 2
    exp_piece (S.compare l a o b r) n g v =
        closed (exp_piece a n g v) ▸ closed (exp_piece b (n + size a) false v) ▸ closed (links_piece r o l (n + size a + size b) v)
    exp_piece (S.and l a es) n g v = block (closed (exp_piece a n g v) ▸ ands_piece es l (n + size a) v)
    exp_piece (S.or l a es) n g v = block (closed (exp_piece a n g v) ▸ ors_piece es l (n + size a) v)
    exp_piece (S.conditional l c a b) n g v = block (
        block (closed (exp_piece c n g v) ▸ act (to IfFalse 0) (n + size c) l false ▸ closed (exp_piece a (n + size c + 1) false v) ▸ move (to Always 1))
        ▸ closed (exp_piece b (n + size c + 1 + size a) false v))
    exp_piece (S.call l f args) n g v =
        closed (exp_piece f n g v) ▸ args_piece args (T.call (roles around.spelled args)) l (n + size f) 1 v
    exp_piece (S.lambda l b (S.parameters ps s ks d) e) n g v =
        first_piece ps n g v (first_piece ks n g v (op_piece (making around b ps ks) l n g 0) (λ m k. op_piece (making around b ps ks) l m false k))
        (λ m k. formals_piece ks m k v (λ m k. op_piece (making around b ps ks) l m false k))
    exp_piece (S.comprehension l m k t it cs) n g v = block (
        closed (exp_piece it n g v) ▸ act (plain instr.Iter) (n + size it) k false ▸ made_piece [] (built_as m) l (n + size it + 1) false 0
        ▸ move (plain instr.Swap)
        ▸ renewed_piece (map (around.variable ((n + size it + 1 + 1) ∷ v)) (target_names t ++ clause_names cs))
        ▸ headed (act (to AtEnd 1) (n + size it + 1 + 1) k false
        ▸ closed (target_piece t (n + size it + 1 + 1 + 1) ((n + size it + 1 + 1) ∷ v))
        ▸ clauses_piece cs l (n + size it + 1 + 1 + 1 + target_size t) 1 ((n + size it + 1 + 1) ∷ v)
        (λ j d. item_piece m l j d ((n + size it + 1 + 1) ∷ v))))
    exp_piece (S.generator l b e k t it cs) n g v =
        closed (exp_piece it n g v) ▸ act (plain instr.Iter) (n + size it) k false
        ▸ made_piece (around.captured b) (T.generator b) l (n + size it + 1) false 1
    exp_piece (S.yield l S.absent) n g v = null_piece ▸ act (plain instr.Yield) n l g
    exp_piece (S.yield l (S.given e)) n g v = closed (exp_piece e n g v) ▸ act (plain instr.Yield) (n + size e) l false
    exp_piece (S.yield_from l e) n g v =
        closed (exp_piece e n g v) ▸ act (plain instr.Iter) (n + size e) l false ▸ null_piece ▸ act (plain instr.Delegate) (n + size e + 1) l false

    -- a part of a slice, and what stands behind it
    pub part_piece : Opt → (n : ℕ) → (v : List ℕ) → (behind : ℕ → Piece) → Piece
    part_piece S.absent n v behind = null_piece ▸ behind n
    part_piece (S.given e) n v behind = closed (exp_piece e n false v) ▸ behind (n + size e)

    pub exps_piece : Exps → Operation → (l n k : ℕ) → (v : List ℕ) → Piece
    exps_piece S.no_exps op l n k v = op_piece op l n false k
    exps_piece (S.more_exps e es) op l n k v = closed (exp_piece e n false v) ▸ exps_piece es op l (n + size e) (suc k) v

    -- so many entries are there
    pub entries_piece : Entries → (l n k : ℕ) → (v : List ℕ) → Piece
    entries_piece S.no_entries l n k v = op_piece T.dict l n false k
    entries_piece (S.entry a b r) l n k v =
        closed (exp_piece a n false v) ▸ closed (exp_piece b (n + size a) false v) ▸ entries_piece r l (n + size a + size b) (suc k) v

    pub args_piece : Args → Operation → (l n k : ℕ) → (v : List ℕ) → Piece
    args_piece S.no_args op l n k v = op_piece op l n false k
    args_piece (S.positional e r) op l n k v = closed (exp_piece e n false v) ▸ args_piece r op l (n + size e) (suc k) v
    args_piece (S.named x e r) op l n k v = closed (exp_piece e n false v) ▸ args_piece r op l (n + size e) (suc k) v
    args_piece (S.spread e r) op l n k v =
        closed (exp_piece e n false v) ▸ op_piece T.spread_out l (n + size e) false 1 ▸ args_piece r op l (n + size e + 1) (suc k) v
    args_piece (S.spread_named e r) op l n k v =
        closed (exp_piece e n false v) ▸ op_piece T.spread_named_out l (n + size e) false 1 ▸ args_piece r op l (n + size e + 1) (suc k) v

    -- the parts of an f-string behind the first, and their join
    pub pieces_piece : Pieces → (l n k : ℕ) → (v : List ℕ) → Piece
    pieces_piece S.no_pieces l n k v = op_piece T.join l n false k
    pieces_piece (S.literal a t r) l n k v = act (const (constant.Str t)) n a false ▸ pieces_piece r l (n + 1) (suc k) v
    pieces_piece (S.field a e c sp r) l n k v =
        closed (exp_piece e n false v) ▸ spec_piece sp a (n + size e) c v ▸ pieces_piece r l (n + size e + pieces_size sp + joins sp + 1) (suc k) v

    -- the spec of a field, and its format
    pub spec_piece : Pieces → (l n : ℕ) → Option Conversion → (v : List ℕ) → Piece
    spec_piece S.no_pieces l n c v = null_piece ▸ op_piece (T.format c) l n false 2
    spec_piece (S.literal a t S.no_pieces) l n c v = act (const (constant.Str t)) n a false ▸ op_piece (T.format c) l (n + 1) false 2
    spec_piece (S.field a e d sp S.no_pieces) l n c v =
        closed (exp_piece e n false v) ▸ spec_piece sp a (n + size e) d v ▸ op_piece (T.format c) l (n + size e + pieces_size sp + joins sp + 1) false 2
    spec_piece (S.literal a t r) l n c v =
        act (const (constant.Str t)) n a false ▸ pieces_piece r l (n + 1) 1 v ▸ op_piece (T.format c) l (n + 1 + pieces_size r + 1) false 2
    spec_piece (S.field a e d sp r) l n c v =
        closed (exp_piece e n false v) ▸ spec_piece sp a (n + size e) d v ▸ pieces_piece r l (n + size e + pieces_size sp + joins sp + 1) 1 v
        ▸ op_piece (T.format c) l (n + pieces_size (S.field a e d sp r) + 1) false 2

    -- behind the right side of a comparison
    pub links_piece : Links → CompareOp → (l n : ℕ) → (v : List ℕ) → Piece
    links_piece S.no_links o l n v = act (plain (instr.Compare o)) n l false
    links_piece (S.link p b r) o l n v = block (
        block (move (plain instr.Copy) ▸ move (plain instr.Rot3) ▸ act (plain (instr.Compare o)) n l false ▸ act (to IfFalseKeep 0) (n + 1) l false
        ▸ closed (exp_piece b (n + 1 + 1) false v) ▸ closed (links_piece r p l (n + 1 + 1 + size b) v) ▸ move (to Always 1))
        ▸ move (plain instr.Swap) ▸ move (plain instr.Pop))

    -- label 0 is the end of the whole
    pub ands_piece : Exps → (l n : ℕ) → (v : List ℕ) → Piece
    ands_piece S.no_exps l n v = empty
    ands_piece (S.more_exps e es) l n v =
        act (to IfFalseKeep 0) n l false ▸ closed (exp_piece e (n + 1) false v) ▸ ands_piece es l (n + 1 + size e) v

    pub ors_piece : Exps → (l n : ℕ) → (v : List ℕ) → Piece
    ors_piece S.no_exps l n v = empty
    ors_piece (S.more_exps e es) l n v =
        act (to IfTrueKeep 0) n l false ▸ closed (exp_piece e (n + 1) false v) ▸ ors_piece es l (n + 1 + size e) v

    -- the defaults of a function's parameters, and what stands behind k of them
    pub formals_piece : Formals → (n k : ℕ) → (v : List ℕ) → (behind : (n k : ℕ) → Piece) → Piece
    formals_piece S.no_formals n k v behind = behind n k
    formals_piece (S.formal a x t S.absent r) n k v behind = formals_piece r n k v behind
    formals_piece (S.formal a x t (S.given d) r) n k v behind = closed (exp_piece d n false v) ▸ formals_piece r (n + size d) (suc k) v behind

    pub first_piece : Formals → (n : ℕ) → (g : Bool) → (v : List ℕ) → (none : Piece) → (behind : (n k : ℕ) → Piece) → Piece
    first_piece S.no_formals n g v none behind = none
    first_piece (S.formal a x t S.absent r) n g v none behind = first_piece r n g v none behind
    first_piece (S.formal a x t (S.given d) r) n g v none behind = closed (exp_piece d n g v) ▸ formals_piece r (n + size d) 1 v behind

    -- the clauses for one item; label 0 is where the next item is taken
    pub clauses_piece : Clauses → (l n d : ℕ) → (v : List ℕ) → (item : (n d : ℕ) → Piece) → Piece
    clauses_piece S.no_clauses l n d v item = item n d
    clauses_piece (S.only_if c cs) l n d v item =
        closed (exp_piece c n false v) ▸ act (to IfFalse 0) (n + size c) l false ▸ clauses_piece cs l (n + size c + 1) d v item
    clauses_piece (S.for_each k t it cs) l n d v item =
        closed (exp_piece it n false v) ▸ act (plain instr.Iter) (n + size it) k false
        ▸ headed (act (to AtEnd 1) (n + size it + 1) k false ▸ closed (target_piece t (n + size it + 1 + 1) v)
        ▸ clauses_piece cs l (n + size it + 1 + 1 + target_size t) (suc d) v item)

    -- the item is added to the result
    pub item_piece : Made → (l n d : ℕ) → (v : List ℕ) → Piece
    item_piece (S.a_list e) l n d v =
        closed (exp_piece e n false v) ▸ act (plain (instr.ListAdd (suc d))) (n + size e) l false ▸ move (to Always 0)
    item_piece (S.a_set e) l n d v =
        closed (exp_piece e n false v) ▸ act (plain (instr.SetAdd (suc d))) (n + size e) l false ▸ move (to Always 0)
    item_piece (S.a_dict k e) l n d v =
        closed (exp_piece k n false v) ▸ closed (exp_piece e (n + size k) false v) ▸ act (plain (instr.DictAdd (suc d))) (n + size k + size e) l false
        ▸ move (to Always 0)

    -- a value is bound to a target (7.2)
    pub target_piece : Tgt → (n : ℕ) → (v : List ℕ) → Piece
    target_piece (S.single p) n v = place_piece p n v
    target_piece (S.several l f ts) n v = act (unpack_op (statements.count ts) (star_of ts)) n l false ▸ targets_piece ts (n + 1) v
    target_piece (S.starred l t) n v = target_piece t n v

    pub targets_piece : Tgts → (n : ℕ) → (v : List ℕ) → Piece
    targets_piece S.no_targets n v = empty
    targets_piece (S.more_targets t ts) n v = closed (target_piece t n v) ▸ targets_piece ts (n + target_size t) v

    pub place_piece : Place → (n : ℕ) → (v : List ℕ) → Piece
    place_piece (S.name_at l x) n v = act (store (around.variable v x)) n l false
    place_piece (S.attribute_at l a x) n v =
        closed (exp_piece a n false v) ▸ act (with_text instr.SetAttr (around.spelled x)) (n + size a) l false
    place_piece (S.item_at l a i) n v =
        closed (exp_piece a n false v) ▸ closed (exp_piece i (n + size a) false v) ▸ act (plain instr.SetItem) (n + size a + size i) l false
