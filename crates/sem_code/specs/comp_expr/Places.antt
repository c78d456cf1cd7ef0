-- Where the code of an expression stands: a relation of two places, by recursion over the tree. Each instruction is known by what it does. The numbers of acts
-- are spelled as control spells them.
use Rattle.std.specs.Prelude.{map, ◌≡◌, ℕ, ◌+◌, suc, List, [], ◌∷◌, ◌++◌, reverse, Bool, false, Option, Some, None}
use Rattle.pt_base.specs.declared.operators.CompareOp.{CompareOp}
use Rattle.pt_ranges.specs.declared.lines.ActMark.{ActMark}
use Rattle.pt_ranges.specs.declared.handlers.Handler.{Handler}
use Rattle.pt_tree.specs.declared.expression.Constant.TheVariants.{Str}
use Rattle.pt_tree.specs.declared.expression.Conversion.{Conversion}
use Rattle.pt_tree.specs.Syntax as S
use Rattle.pt_tree.specs.Syntax.{Exp, Exps, Opt, Pieces, Entries, Links, Args, Made, Clauses, Place, Tgt, Tgts, Formals}
use Rattle.pt_tree.specs.Sizes.{size, pieces_size, joins, target_size}
use Rattle.pt_instr.specs.declared.Instr.{Instr}
use Rattle.pt_instr.specs.declared.Instr.TheVariants as instr
use Rattle.pt_code.specs.View.{Ins}
use Rattle.sem_control.specs.control.Turn as T
use Rattle.sem_control.specs.control.Turn.{Around, Variable, Operation, Seek, Turn, move}
use Rattle.sem_control.specs.control.Frames as F
use Rattle.sem_control.specs.control.Frames.{Operand}
use Rattle.sem_control.specs.control.Expressions.{roles, making, cells_of, target_names, clause_names, built_as}
use Rattle.sem_control.specs.control.Statements as statements
use Rattle.sem_control.specs.control.Statements.{star_of}
use Rattle.sem_code.specs.slots.Slots.{Slots, value, cell, iterator, on}
use Rattle.sem_code.specs.slots.CodeObject.{CodeObject}
use Rattle.sem_code.specs.slots.Pops.{giving}
pub use Rattle.sem_code.specs.slots.Stretches.{◌⨾◌, here, act_mark, ins}
use Rattle.sem_code.specs.slots.Steps.{asks, gives, does}
use Rattle.sem_code.specs.slots.Instructions.{perform}

abbrev pub count : {A : Type 0} → List A → ℕ
count [] = 0
count (a ∷ as') = suc (count as')

-- values above slots, the first on top, and cells
abbrev pub above : {V : Type 0} → List V → Slots V → Slots V
above [] ss = ss
above (v ∷ vs) ss = value v ∷ above vs ss

abbrev pub cells_above : {V : Type 0} → List V → Slots V → Slots V
cells_above [] ss = ss
cells_above (v ∷ vs) ss = cell v ∷ cells_above vs ss

abbrev pub iterators_above : {V : Type 0} → List V → Slots V → Slots V
iterators_above [] ss = ss
iterators_above (v ∷ vs) ss = iterator v ∷ iterators_above vs ss

module _ {V : Type 0} (block : Around V) (code : CodeObject V) (rows : List Handler) where
  -- an instruction stands from a place to the next, with an act or without one
  abbrev pub Ins_at : Instr → Option ActMark → ℕ → ℕ → Type 0
  Ins_at j m from to = code.at from ≡ Some (ins j m to rows)

  abbrev pub Act_at : Instr → (n l : ℕ) → (g : Bool) → ℕ → ℕ → Type 0
  Act_at j n l g from = Ins_at j (act_mark from n l g) from

  abbrev pub Move_at : Instr → ℕ → ℕ → Type 0
  Move_at j = Ins_at j None

  -- one that gives what is sought, and one that gives None without an ask
  pub record Seeks (s : Seek V) (m : Option ActMark) (from to : ℕ) : Type 0 where
    pub instr : Instr
    pub stands : Ins_at instr m from to
    pub does : (ss : Slots V) → perform code from (ins instr m to rows) instr ss ≡ gives code (ins instr m to rows) s ss

  abbrev pub Seek_at : Seek V → (n l : ℕ) → (g : Bool) → ℕ → ℕ → Type 0
  Seek_at s n l g from = Seeks s (act_mark from n l g) from

  pub record Null_at (from to : ℕ) : Type 0 where
    pub instr : Instr
    pub stands : Ins_at instr None from to
    pub does : (ss : Slots V) → perform code from (ins instr None to rows) instr ss ≡ move (on to (value block.null ∷ ss))

  -- one that takes so many values, or an iterator, and above them cells, all of an operation
  pub record Operates (op : Operation) (lower : List V → Slots V → Slots V) (k c : ℕ) (m : Option ActMark) (from to : ℕ) : Type 0 where
    pub instr : Instr
    pub stands : Ins_at instr m from to
    pub does : (cs vs : List V) (ss : Slots V) → count cs ≡ c → count vs ≡ k
        → perform code from (ins instr m to rows) instr (cells_above cs (lower vs ss)) ≡ gives code (ins instr m to rows) (T.operate op (reverse (cs ++ vs))) ss

  pub record Cell_at (x : Variable) (from to : ℕ) : Type 0 where
    pub instr : Instr
    pub stands : Ins_at instr None from to
    pub does : (ss : Slots V)
        → perform code from (ins instr None to rows) instr ss ≡ asks code (ins instr None to rows) (T.seek (T.cell_of x)) ss (λ v. on to (cell v ∷ ss))

  -- one that binds a name, one that sets an attribute, and one that makes a name anew without an act
  pub record Stores (x : Variable) (m : Option ActMark) (from to : ℕ) : Type 0 where
    pub instr : Instr
    pub stands : Ins_at instr m from to
    pub does : (v : V) (ss : Slots V) → perform code from (ins instr m to rows) instr (value v ∷ ss) ≡ does code (ins instr m to rows) (T.store x v) ss

  pub record Sets (x : S.Name) (m : Option ActMark) (from to : ℕ) : Type 0 where
    pub instr : Instr
    pub stands : Ins_at instr m from to
    pub does : (v a : V) (ss : Slots V)
        → perform code from (ins instr m to rows) instr (value a ∷ value v ∷ ss) ≡ does code (ins instr m to rows) (T.set_attribute x a v) ss

  pub record Renews (x : Variable) (from to : ℕ) : Type 0 where
    pub instr : Instr
    pub stands : Ins_at instr None from to
    pub does : (ss : Slots V) → perform code from (ins instr None to rows) instr ss ≡ does code (ins instr None to rows) (T.fresh x) ss

  -- one that unpacks a value for so many targets
  pub record Unpacks (n : ℕ) (star : Option ℕ) (m : Option ActMark) (from to : ℕ) : Type 0 where
    pub instr : Instr
    pub stands : Ins_at instr m from to
    pub does : (v : V) (ss : Slots V)
        → perform code from (ins instr m to rows) instr (value v ∷ ss) ≡ asks code (ins instr m to rows) (T.unpack v n star) ss (λ vs. on to (giving n vs ss))

  -- an operation on k operands, behind the cells that are left; c of them are there
  abbrev pub Made_at : (cells : List Variable) → Operation → (lower : List V → Slots V → Slots V) → (l n : ℕ) → (g : Bool) → (k c : ℕ) → ℕ → ℕ → Type 0
  Made_at [] op lower l n g k c = λ from. Operates op lower k c (act_mark from n l g) from
  Made_at (x ∷ xs) op lower l n g k c = Cell_at x ⨾ Made_at xs op lower l n g k (suc c)

  -- an operation on values, none of whose cells is there
  abbrev pub Op_at : Operation → (l n : ℕ) → (g : Bool) → (k : ℕ) → ℕ → ℕ → Type 0
  Op_at op l n g k = Made_at (cells_of block op) op above l n g k 0

  abbrev pub Renewed_at : List Variable → ℕ → ℕ → Type 0
  Renewed_at [] = here
  Renewed_at (x ∷ xs) = Renews x ⨾ Renewed_at xs

  -- 6.2 to 6.15; v are the comprehensions around. A list of operands ends in their operation, of which k values are there
  abbrev mutual
    pub Exp_at : Exp → (n : ℕ) → (g : Bool) → (v : List ℕ) → ℕ → ℕ → Type 0
    Exp_at (S.constant l k) n g v = Seek_at (T.const k) n l g
    Exp_at (S.name l x) n g v = Seek_at (T.load (block.variable v x)) n l g
    Exp_at (S.joined l S.no_pieces) n g v = Op_at T.join l n g 0
    Exp_at (S.joined l (S.literal k t r)) n g v = Seek_at (T.const (Str t)) n k g ⨾ Pieces_at r T.join l (n + 1) 1 v
    Exp_at (S.joined l (S.field k e c sp r)) n g v =
        Exp_at e n g v ⨾ Spec_at sp k (n + size e) c v ⨾ Pieces_at r T.join l (n + size e + pieces_size sp + joins sp + 1) 1 v
    Exp_at (S.tuple l S.no_exps) n g v = Op_at T.tuple l n g 0
    Exp_at (S.tuple l (S.more_exps e es)) n g v = Exp_at e n g v ⨾ Exps_at es T.tuple l (n + size e) 1 v
    Exp_at (S.list l S.no_exps) n g v = Op_at T.list l n g 0
    Exp_at (S.list l (S.more_exps e es)) n g v = Exp_at e n g v ⨾ Exps_at es T.list l (n + size e) 1 v
    Exp_at (S.set l S.no_exps) n g v = Op_at T.set l n g 0
    Exp_at (S.set l (S.more_exps e es)) n g v = Exp_at e n g v ⨾ Exps_at es T.set l (n + size e) 1 v
    Exp_at (S.dict l S.no_entries) n g v = Op_at T.dict l n g 0
    Exp_at (S.dict l (S.entry a b r)) n g v =
        Exp_at a n g v ⨾ Exp_at b (n + size a) false v ⨾ Entries_at r T.dict l (n + size a + size b) 2 v
    Exp_at (S.attribute l a x) n g v = Exp_at a n g v ⨾ Op_at (T.get (block.spelled x)) l (n + size a) false 1
    Exp_at (S.item l a i) n g v = Exp_at a n g v ⨾ Exp_at i (n + size a) false v ⨾ Op_at T.item l (n + size a + size i) false 2
    Exp_at (S.slice l S.absent S.absent S.absent) n g v = Null_at ⨾ Null_at ⨾ Null_at ⨾ Op_at T.slice l n g 3
    Exp_at (S.slice l S.absent S.absent (S.given c)) n g v = Null_at ⨾ Null_at ⨾ Exp_at c n g v ⨾ Op_at T.slice l (n + size c) false 3
    Exp_at (S.slice l S.absent (S.given b) c) n g v = Null_at ⨾ Exp_at b n g v ⨾ Part_at c (n + size b) v (λ m. Op_at T.slice l m false 3)
    Exp_at (S.slice l (S.given a) b c) n g v = Exp_at a n g v ⨾ Part_at b (n + size a) v (λ m. Part_at c m v (λ m. Op_at T.slice l m false 3))
    Exp_at (S.unary l o a) n g v = Exp_at a n g v ⨾ Op_at (T.unary o) l (n + size a) false 1
    Exp_at (S.not_of l a) n g v = Exp_at a n g v ⨾ Op_at T.inverted l (n + size a) false 1
    Exp_at (S.binary l o a b) n g v = Exp_at a n g v ⨾ Exp_at b (n + size a) false v ⨾ Op_at (T.binary o) l (n + size a + size b) false 2
    Exp_at (S.compare l a o b r) n g v = Exp_at a n g v ⨾ Exp_at b (n + size a) false v ⨾ Links_at r o l (n + size a + size b) v
    Exp_at (S.and l a es) n g v = λ from to. (Exp_at a n g v ⨾ Ands_at es l (n + size a) v to) from to
    Exp_at (S.or l a es) n g v = λ from to. (Exp_at a n g v ⨾ Ors_at es l (n + size a) v to) from to
    Exp_at (S.conditional l c a b) n g v = λ from to. (other : ℕ)
        × (Exp_at c n g v ⨾ Act_at (instr.JumpUnless (record { 0 = other })) (n + size c) l false ⨾ Exp_at a (n + size c + 1) false v
        ⨾ Move_at (instr.Jump (record { 0 = to }))) from other
        × Exp_at b (n + size c + 1 + size a) false v other to
    Exp_at (S.call l f args) n g v = Exp_at f n g v ⨾ Args_at args (T.call (roles block.spelled args)) l (n + size f) 1 v
    Exp_at (S.lambda l b (S.parameters ps s ks d) e) n g v =
        First_at ps n g v (First_at ks n g v (Op_at (making block b ps ks) l n g 0) (λ m k. Op_at (making block b ps ks) l m false k))
        (λ m k. Formals_at ks m k v (λ m k. Op_at (making block b ps ks) l m false k))
    Exp_at (S.comprehension l m k t it cs) n g v = λ from to. (head : ℕ) × (end : ℕ)
        × (Exp_at it n g v ⨾ Act_at instr.Iter (n + size it) k false ⨾ Made_at [] (built_as m) above l (n + size it + 1) false 0 0 ⨾ Move_at instr.Swap
        ⨾ Renewed_at (map (block.variable ((n + size it + 1 + 1) ∷ v)) (target_names t ++ clause_names cs))) from head
        × (Act_at (instr.Next (record { 0 = to })) (n + size it + 1 + 1) k false ⨾ Target_at t (n + size it + 1 + 1 + 1) ((n + size it + 1 + 1) ∷ v)
        ⨾ Clauses_at cs l (n + size it + 1 + 1 + 1 + target_size t) 1 head ((n + size it + 1 + 1) ∷ v)
        (λ j d h. Item_at m l j d h ((n + size it + 1 + 1) ∷ v))) head end
    Exp_at (S.generator l b e k t it cs) n g v =
        Exp_at it n g v ⨾ Act_at instr.Iter (n + size it) k false ⨾ Made_at (block.captured b) (T.generator b) iterators_above l (n + size it + 1) false 1 0
    Exp_at (S.yield l S.absent) n g v = Null_at ⨾ Act_at instr.Yield n l g
    Exp_at (S.yield l (S.given e)) n g v = Exp_at e n g v ⨾ Act_at instr.Yield (n + size e) l false
    Exp_at (S.yield_from l e) n g v = Exp_at e n g v ⨾ Act_at instr.Iter (n + size e) l false ⨾ Null_at ⨾ Act_at instr.Delegate (n + size e + 1) l false

    -- a part of a slice, and what stands behind it
    pub Part_at : Opt → (n : ℕ) → (v : List ℕ) → (behind : ℕ → ℕ → ℕ → Type 0) → ℕ → ℕ → Type 0
    Part_at S.absent n v behind = Null_at ⨾ behind n
    Part_at (S.given e) n v behind = Exp_at e n false v ⨾ behind (n + size e)

    pub Exps_at : Exps → Operation → (l n k : ℕ) → (v : List ℕ) → ℕ → ℕ → Type 0
    Exps_at S.no_exps op l n k v = Op_at op l n false k
    Exps_at (S.more_exps e es) op l n k v = Exp_at e n false v ⨾ Exps_at es op l (n + size e) (suc k) v

    pub Entries_at : Entries → Operation → (l n k : ℕ) → (v : List ℕ) → ℕ → ℕ → Type 0
    Entries_at S.no_entries op l n k v = Op_at op l n false k
    Entries_at (S.entry a b r) op l n k v =
        Exp_at a n false v ⨾ Exp_at b (n + size a) false v ⨾ Entries_at r op l (n + size a + size b) (suc (suc k)) v

    pub Args_at : Args → Operation → (l n k : ℕ) → (v : List ℕ) → ℕ → ℕ → Type 0
    Args_at S.no_args op l n k v = Op_at op l n false k
    Args_at (S.positional e r) op l n k v = Exp_at e n false v ⨾ Args_at r op l (n + size e) (suc k) v
    Args_at (S.named x e r) op l n k v = Exp_at e n false v ⨾ Args_at r op l (n + size e) (suc k) v
    Args_at (S.spread e r) op l n k v =
        Exp_at e n false v ⨾ Op_at T.spread_out l (n + size e) false 1 ⨾ Args_at r op l (n + size e + 1) (suc k) v
    Args_at (S.spread_named e r) op l n k v =
        Exp_at e n false v ⨾ Op_at T.spread_named_out l (n + size e) false 1 ⨾ Args_at r op l (n + size e + 1) (suc k) v

    pub Pieces_at : Pieces → Operation → (l n k : ℕ) → (v : List ℕ) → ℕ → ℕ → Type 0
    Pieces_at S.no_pieces op l n k v = Op_at op l n false k
    Pieces_at (S.literal a t r) op l n k v = Seek_at (T.const (Str t)) n a false ⨾ Pieces_at r op l (n + 1) (suc k) v
    Pieces_at (S.field a e c sp r) op l n k v =
        Exp_at e n false v ⨾ Spec_at sp a (n + size e) c v ⨾ Pieces_at r op l (n + size e + pieces_size sp + joins sp + 1) (suc k) v

    -- the spec of a field, and its format
    pub Spec_at : Pieces → (l n : ℕ) → Option Conversion → (v : List ℕ) → ℕ → ℕ → Type 0
    Spec_at S.no_pieces l n c v = Null_at ⨾ Op_at (T.format c) l n false 2
    Spec_at (S.literal a t S.no_pieces) l n c v = Seek_at (T.const (Str t)) n a false ⨾ Op_at (T.format c) l (n + 1) false 2
    Spec_at (S.field a e d sp S.no_pieces) l n c v =
        Exp_at e n false v ⨾ Spec_at sp a (n + size e) d v ⨾ Op_at (T.format c) l (n + size e + pieces_size sp + joins sp + 1) false 2
    Spec_at (S.literal a t r) l n c v =
        Seek_at (T.const (Str t)) n a false ⨾ Pieces_at r T.join l (n + 1) 1 v ⨾ Op_at (T.format c) l (n + 1 + pieces_size r + 1) false 2
    Spec_at (S.field a e d sp r) l n c v =
        Exp_at e n false v ⨾ Spec_at sp a (n + size e) d v ⨾ Pieces_at r T.join l (n + size e + pieces_size sp + joins sp + 1) 1 v
        ⨾ Op_at (T.format c) l (n + pieces_size (S.field a e d sp r) + 1) false 2

    -- behind the right side of a comparison
    pub Links_at : Links → CompareOp → (l n : ℕ) → (v : List ℕ) → ℕ → ℕ → Type 0
    Links_at S.no_links o l n v = Act_at (instr.Compare o) n l false
    Links_at (S.link p b r) o l n v = λ from to. (other : ℕ)
        × (Move_at instr.Copy ⨾ Move_at instr.Rot3 ⨾ Act_at (instr.Compare o) n l false ⨾ Act_at (instr.JumpUnlessKeep (record { 0 = other })) (n + 1) l false
        ⨾ Exp_at b (n + 1 + 1) false v ⨾ Links_at r p l (n + 1 + 1 + size b) v ⨾ Move_at (instr.Jump (record { 0 = to }))) from other
        × (Move_at instr.Swap ⨾ Move_at instr.Pop) other to

    pub Ands_at : Exps → (l n : ℕ) → (v : List ℕ) → (end : ℕ) → ℕ → ℕ → Type 0
    Ands_at S.no_exps l n v end = here
    Ands_at (S.more_exps e es) l n v end =
        Act_at (instr.JumpUnlessKeep (record { 0 = end })) n l false ⨾ Exp_at e (n + 1) false v ⨾ Ands_at es l (n + 1 + size e) v end

    pub Ors_at : Exps → (l n : ℕ) → (v : List ℕ) → (end : ℕ) → ℕ → ℕ → Type 0
    Ors_at S.no_exps l n v end = here
    Ors_at (S.more_exps e es) l n v end =
        Act_at (instr.JumpIfKeep (record { 0 = end })) n l false ⨾ Exp_at e (n + 1) false v ⨾ Ors_at es l (n + 1 + size e) v end

    -- the defaults of a function's parameters, and what stands behind k of them; the first one, or what stands there where there is none
    pub Formals_at : Formals → (n k : ℕ) → (v : List ℕ) → (behind : (n k : ℕ) → ℕ → ℕ → Type 0) → ℕ → ℕ → Type 0
    Formals_at S.no_formals n k v behind = behind n k
    Formals_at (S.formal a x t S.absent r) n k v behind = Formals_at r n k v behind
    Formals_at (S.formal a x t (S.given d) r) n k v behind = Exp_at d n false v ⨾ Formals_at r (n + size d) (suc k) v behind

    pub First_at : Formals → (n : ℕ) → (g : Bool) → (v : List ℕ) → (none : ℕ → ℕ → Type 0) → (behind : (n k : ℕ) → ℕ → ℕ → Type 0) → ℕ → ℕ → Type 0
    First_at S.no_formals n g v none behind = none
    First_at (S.formal a x t S.absent r) n g v none behind = First_at r n g v none behind
    First_at (S.formal a x t (S.given d) r) n g v none behind = Exp_at d n g v ⨾ Formals_at r (n + size d) 1 v behind

    -- the clauses for one item, behind which stands what is done with it; d iterators lie above the result, and the next item is taken at head
    pub Clauses_at : Clauses → (l n d head : ℕ) → (v : List ℕ) → (item : (n d head : ℕ) → ℕ → ℕ → Type 0) → ℕ → ℕ → Type 0
    Clauses_at S.no_clauses l n d head v item = item n d head
    Clauses_at (S.only_if c cs) l n d head v item =
        Exp_at c n false v ⨾ Act_at (instr.JumpUnless (record { 0 = head })) (n + size c) l false ⨾ Clauses_at cs l (n + size c + 1) d head v item
    Clauses_at (S.for_each k t it cs) l n d head v item = λ from to. (inner : ℕ)
        × (Exp_at it n false v ⨾ Act_at instr.Iter (n + size it) k false) from inner
        × (Act_at (instr.Next (record { 0 = head })) (n + size it + 1) k false ⨾ Target_at t (n + size it + 1 + 1) v
        ⨾ Clauses_at cs l (n + size it + 1 + 1 + target_size t) (suc d) inner v item) inner to

    -- the item is added to the result
    pub Item_at : Made → (l n d head : ℕ) → (v : List ℕ) → ℕ → ℕ → Type 0
    Item_at (S.a_list e) l n d head v = Exp_at e n false v ⨾ Act_at (instr.ListAdd (suc d)) (n + size e) l false ⨾ Move_at (instr.Jump (record { 0 = head }))
    Item_at (S.a_set e) l n d head v = Exp_at e n false v ⨾ Act_at (instr.SetAdd (suc d)) (n + size e) l false ⨾ Move_at (instr.Jump (record { 0 = head }))
    Item_at (S.a_dict k e) l n d head v =
        Exp_at k n false v ⨾ Exp_at e (n + size k) false v ⨾ Act_at (instr.DictAdd (suc d)) (n + size k + size e) l false
        ⨾ Move_at (instr.Jump (record { 0 = head }))

    -- a value is bound to a target (7.2)
    pub Target_at : Tgt → (n : ℕ) → (v : List ℕ) → ℕ → ℕ → Type 0
    Target_at (S.single p) n v = Place_at p n v
    Target_at (S.several l f ts) n v = λ from. ((λ from. Unpacks (statements.count ts) (star_of ts) (act_mark from n l false) from)
        ⨾ Targets_at ts (n + 1) v) from
    Target_at (S.starred l t) n v = Target_at t n v

    pub Targets_at : Tgts → (n : ℕ) → (v : List ℕ) → ℕ → ℕ → Type 0
    Targets_at S.no_targets n v = here
    Targets_at (S.more_targets t ts) n v = Target_at t n v ⨾ Targets_at ts (n + target_size t) v

    pub Place_at : Place → (n : ℕ) → (v : List ℕ) → ℕ → ℕ → Type 0
    Place_at (S.name_at l x) n v = λ from. Stores (block.variable v x) (act_mark from n l false) from
    Place_at (S.attribute_at l a x) n v = Exp_at a n false v ⨾ (λ from. Sets (block.spelled x) (act_mark from (n + size a) l false) from)
    Place_at (S.item_at l a i) n v = Exp_at a n false v ⨾ Exp_at i (n + size a) false v ⨾ Act_at instr.SetItem (n + size a + size i) l false

  -- operands that are left, and their operation, of which k values are there
  abbrev pub Behind_at : List Operand → Operation → (l n k : ℕ) → (v : List ℕ) → ℕ → ℕ → Type 0
  Behind_at [] op l n k v = Op_at op l n false k
  Behind_at (F.missing ∷ os) op l n k v = Null_at ⨾ Behind_at os op l n (suc k) v
  Behind_at (F.plain e ∷ os) op l n k v = Exp_at e n false v ⨾ Behind_at os op l (n + size e) (suc k) v
  Behind_at (F.spread_of a e ∷ os) op l n k v =
      Exp_at e n false v ⨾ Op_at T.spread_out a (n + size e) false 1 ⨾ Behind_at os op l (n + size e + 1) (suc k) v
  Behind_at (F.spread_named_of a e ∷ os) op l n k v =
      Exp_at e n false v ⨾ Op_at T.spread_named_out a (n + size e) false 1 ⨾ Behind_at os op l (n + size e + 1) (suc k) v
  Behind_at (F.literal_of a t ∷ os) op l n k v = Seek_at (T.const (Str t)) n a false ⨾ Behind_at os op l (n + 1) (suc k) v
  Behind_at (F.field_of a e c sp ∷ os) op l n k v =
      Exp_at e n false v ⨾ Spec_at sp a (n + size e) c v ⨾ Behind_at os op l (n + size e + pieces_size sp + joins sp + 1) (suc k) v
