-- How an expression begins: its operands from left to right, and then its own act (Language Reference 6.16).
use Rattle.std.specs.Prelude.{ℕ, ◌+◌, List, [], ◌∷◌, ◌++◌, map, reverse, Bool, false, Option}
use Rattle.pt_tree.specs.declared.expression.Constant.TheVariants.{Str}
use Rattle.pt_tree.specs.declared.expression.Conversion.{Conversion}
use Rattle.pt_tree.specs.Syntax as S
use Rattle.pt_tree.specs.Syntax.{Name, Exp, Exps, Opt, Pieces, Entries, Args, Made, Clauses, Tgt, Tgts, Params, Formals}
use Rattle.pt_tree.specs.Sizes.{size, pieces_size, joins, target_size}
use Rattle.sem_control.specs.control.Turn as T
use Rattle.sem_control.specs.control.Turn.{Mark, mark, Variable, Around, Role, Operation, const, load, operate, yielding, cell_of}
use Rattle.sem_control.specs.control.Frames as F
use Rattle.sem_control.specs.control.Frames.{Operand, missing, plain, spread_of, spread_named_of, literal_of, field_of, Wait, Rounds, Control, for_value, for_item, silent_value}
use Rattle.sem_control.specs.control.Bases.{around, rounds_line}

abbrev pub of_exps : Exps → List Operand
of_exps S.no_exps = []
of_exps (S.more_exps e es) = plain e ∷ of_exps es

abbrev pub of_entries : Entries → List Operand
of_entries S.no_entries = []
of_entries (S.entry k v r) = plain k ∷ plain v ∷ of_entries r

abbrev pub of_opt : Opt → Operand
of_opt S.absent = missing
of_opt (S.given e) = plain e

abbrev pub of_pieces : Pieces → List Operand
of_pieces S.no_pieces = []
of_pieces (S.literal l t r) = literal_of l t ∷ of_pieces r
of_pieces (S.field l e c sp r) = field_of l e c sp ∷ of_pieces r

-- a spread takes the line of its call
abbrev pub of_args : (l : ℕ) → Args → List Operand
of_args l S.no_args = []
of_args l (S.positional e r) = plain e ∷ of_args l r
of_args l (S.named x e r) = plain e ∷ of_args l r
of_args l (S.spread e r) = spread_of l e ∷ of_args l r
of_args l (S.spread_named e r) = spread_named_of l e ∷ of_args l r

abbrev pub roles : (spelled : Name → Name) → Args → List Role
roles f S.no_args = []
roles f (S.positional e r) = T.positional ∷ roles f r
roles f (S.named x e r) = T.named (f x) ∷ roles f r
roles f (S.spread e r) = T.spread ∷ roles f r
roles f (S.spread_named e r) = T.spread_named ∷ roles f r

-- the defaults, and the names that have one (8.7)
abbrev pub of_formals : Formals → List Operand
of_formals S.no_formals = []
of_formals (S.formal l x a S.absent r) = of_formals r
of_formals (S.formal l x a (S.given d) r) = plain d ∷ of_formals r

abbrev pub defaulted : Formals → List Name
defaulted S.no_formals = []
defaulted (S.formal l x a S.absent r) = defaulted r
defaulted (S.formal l x a (S.given d) r) = x ∷ defaulted r

abbrev pub all_defaulted : Params → List Name
all_defaulted (S.parameters ps s ks d) = defaulted ps ++ defaulted ks

module _ {V : Type 0} (block : Around V) where
  -- a function's operation, by its parameters
  abbrev pub making : (block : ℕ) → (plain keyword_only : Formals) → Operation
  making b ps ks = T.function b (map block.spelled (defaulted ps ++ defaulted ks))

  -- the cells that the block of an operation takes along
  abbrev pub cells_of : Operation → List Variable
  cells_of (T.function b xs) = block.captured b
  cells_of (T.class b) = block.captured b
  cells_of (T.generator b) = block.captured b
  cells_of op = []

  -- an operation with its operands, the last first, behind unmarked asks for cells
  abbrev pub begin_operation : (cells : List Variable) → (l n : ℕ) → (g : Bool) → Operation → (before : List V) → Wait V → Control V
  begin_operation [] l n g op vs w = for_value (mark n l g) (operate op (reverse vs)) w
  begin_operation (x ∷ xs) l n g op vs w = silent_value (cell_of x) (F.celled l n g op vs xs w)

  -- an expression begins in front of what waits for it; g is whether a re-test begins with its first act
  abbrev mutual
    pub begin_exp : Exp → (n : ℕ) → (g : Bool) → Wait V → Control V
    begin_exp (S.constant l k) n g w = for_value (mark n l g) (const k) w
    begin_exp (S.name l x) n g w = for_value (mark n l g) (load (block.variable (around w) x)) w
    begin_exp (S.joined l S.no_pieces) n g w = for_value (mark n l g) (operate T.join []) w
    begin_exp (S.joined l (S.literal k t r)) n g w = for_value (mark n k g) (const (Str t)) (F.operands l (n + 1) T.join [] (of_pieces r) w)
    begin_exp (S.joined l (S.field k e c sp r)) n g w =
        begin_exp e n g (F.formatted k (n + size e) c sp (F.operands l (n + size e + pieces_size sp + joins sp + 1) T.join [] (of_pieces r) w))
    begin_exp (S.tuple l S.no_exps) n g w = for_value (mark n l g) (operate T.tuple []) w
    begin_exp (S.tuple l (S.more_exps e es)) n g w = begin_exp e n g (F.operands l (n + size e) T.tuple [] (of_exps es) w)
    begin_exp (S.list l S.no_exps) n g w = for_value (mark n l g) (operate T.list []) w
    begin_exp (S.list l (S.more_exps e es)) n g w = begin_exp e n g (F.operands l (n + size e) T.list [] (of_exps es) w)
    begin_exp (S.set l S.no_exps) n g w = for_value (mark n l g) (operate T.set []) w
    begin_exp (S.set l (S.more_exps e es)) n g w = begin_exp e n g (F.operands l (n + size e) T.set [] (of_exps es) w)
    begin_exp (S.dict l S.no_entries) n g w = for_value (mark n l g) (operate T.dict []) w
    begin_exp (S.dict l (S.entry k v r)) n g w = begin_exp k n g (F.operands l (n + size k) T.dict [] (plain v ∷ of_entries r) w)
    begin_exp (S.attribute l a x) n g w = begin_exp a n g (F.operands l (n + size a) (T.get (block.spelled x)) [] [] w)
    begin_exp (S.item l a i) n g w = begin_exp a n g (F.operands l (n + size a) T.item [] (plain i ∷ []) w)
    begin_exp (S.slice l S.absent S.absent S.absent) n g w = for_value (mark n l g) (operate T.slice (block.null ∷ block.null ∷ block.null ∷ [])) w
    begin_exp (S.slice l S.absent S.absent (S.given c)) n g w = begin_exp c n g (F.operands l (n + size c) T.slice (block.null ∷ block.null ∷ []) [] w)
    begin_exp (S.slice l S.absent (S.given b) c) n g w = begin_exp b n g (F.operands l (n + size b) T.slice (block.null ∷ []) (of_opt c ∷ []) w)
    begin_exp (S.slice l (S.given a) b c) n g w = begin_exp a n g (F.operands l (n + size a) T.slice [] (of_opt b ∷ of_opt c ∷ []) w)
    begin_exp (S.unary l o a) n g w = begin_exp a n g (F.operands l (n + size a) (T.unary o) [] [] w)
    begin_exp (S.not_of l a) n g w = begin_exp a n g (F.operands l (n + size a) T.inverted [] [] w)
    begin_exp (S.binary l o a b) n g w = begin_exp a n g (F.operands l (n + size a) (T.binary o) [] (plain b ∷ []) w)
    begin_exp (S.compare l a o b r) n g w = begin_exp a n g (F.comparing l (n + size a) o b r w)
    begin_exp (S.and l a es) n g w = begin_exp a n g (F.anded l (n + size a) es w)
    begin_exp (S.or l a es) n g w = begin_exp a n g (F.ored l (n + size a) es w)
    begin_exp (S.conditional l c a b) n g w =
        begin_exp c n g (F.asked l (n + size c) (F.value (n + size c + 1) a w) (F.value (n + size c + 1 + size a) b w))
    begin_exp (S.call l f args) n g w = begin_exp f n g (F.operands l (n + size f) (T.call (roles block.spelled args)) [] (of_args l args) w)
    begin_exp (S.lambda l b (S.parameters ps s ks d) e) n g w =
        begin_defaults ps (of_formals ks) (making b ps ks) l n g w
        (begin_defaults ks [] (making b ps ks) l n g w (begin_operation (block.captured b) l n g (making b ps ks) [] w))
    begin_exp (S.comprehension l m k t it cs) n g w = begin_exp it n g (F.iterated k (n + size it) (F.comprehension_over l (n + size it + 1) k t cs m w))
    begin_exp (S.generator l b e k t it cs) n g w = begin_exp it n g (F.iterated k (n + size it) (F.generator_over l (n + size it + 1) b w))
    begin_exp (S.yield l S.absent) n g w = for_value (mark n l g) (yielding block.null) w
    begin_exp (S.yield l (S.given e)) n g w = begin_exp e n g (F.yielded l (n + size e) w)
    begin_exp (S.yield_from l e) n g w = begin_exp e n g (F.iterated l (n + size e) (F.delegated_over l (n + size e + 1) w))

    -- the first default begins, in front of those behind it; where there is block.null, control goes on with `after`
    pub begin_defaults : Formals → (behind : List Operand) → Operation → (l n : ℕ) → (g : Bool) → Wait V → (after : Control V) → Control V
    begin_defaults S.no_formals os op l n g w after = after
    begin_defaults (S.formal k x a S.absent r) os op l n g w after = begin_defaults r os op l n g w after
    begin_defaults (S.formal k x a (S.given d) r) os op l n g w after = begin_exp d n g (F.operands l (n + size d) op [] (of_formals r ++ os) w)

  -- a function is made, of its defaults
  abbrev pub begin_function : (block : ℕ) → Params → (l n : ℕ) → Wait V → Control V
  begin_function b (S.parameters ps s ks d) l n w =
      begin_defaults ps (of_formals ks) (making b ps ks) l n false w
      (begin_defaults ks [] (making b ps ks) l n false w (begin_operation (block.captured b) l n false (making b ps ks) [] w))

  -- the next operand, or the act; a part of a slice that isn't written, like a spec, is None
  abbrev pub next_operand : (l n : ℕ) → Operation → (before : List V) → (behind : List Operand) → Wait V → Control V
  next_operand l n op vs [] w = begin_operation (cells_of op) l n false op vs w
  next_operand l n op vs (missing ∷ os) w = next_operand l n op (block.null ∷ vs) os w
  next_operand l n op vs (plain e ∷ os) w = begin_exp e n false (F.operands l (n + size e) op vs os w)
  next_operand l n op vs (spread_of k e ∷ os) w = begin_exp e n false (F.operands k (n + size e) T.spread_out [] [] (F.operands l (n + size e + 1) op vs os w))
  next_operand l n op vs (spread_named_of k e ∷ os) w =
      begin_exp e n false (F.operands k (n + size e) T.spread_named_out [] [] (F.operands l (n + size e + 1) op vs os w))
  next_operand l n op vs (literal_of k t ∷ os) w = for_value (mark n k false) (const (Str t)) (F.operands l (n + 1) op vs os w)
  next_operand l n op vs (field_of k e c sp ∷ os) w =
      begin_exp e n false (F.formatted k (n + size e) c sp (F.operands l (n + size e + pieces_size sp + joins sp + 1) op vs os w))

  -- the spec of a replacement field: block.null, one part, or several that are joined
  abbrev pub begin_spec : (l n : ℕ) → Option Conversion → V → Pieces → Wait V → Control V
  begin_spec l n c v S.no_pieces w = next_operand l n (T.format c) (v ∷ []) (missing ∷ []) w
  begin_spec l n c v (S.literal k t S.no_pieces) w = next_operand l n (T.format c) (v ∷ []) (literal_of k t ∷ []) w
  begin_spec l n c v (S.field k e d sp S.no_pieces) w = next_operand l n (T.format c) (v ∷ []) (field_of k e d sp ∷ []) w
  begin_spec l n c v (S.literal k t r) w =
      next_operand l n T.join [] (literal_of k t ∷ of_pieces r) (F.operands l (n + 1 + pieces_size r + 1) (T.format c) (v ∷ []) [] w)
  begin_spec l n c v (S.field k e d sp r) w =
      next_operand l n T.join [] (field_of k e d sp ∷ of_pieces r) (F.operands l (n + pieces_size (S.field k e d sp r) + 1) (T.format c) (v ∷ []) [] w)

  -- the item of a comprehension begins
  abbrev pub begin_made : Made → (l n : ℕ) → (made : V) → Rounds V → Control V
  begin_made (S.a_list e) l n v r = begin_exp e n false (F.added_to_list l (n + size e) v r)
  begin_made (S.a_set e) l n v r = begin_exp e n false (F.added_to_set l (n + size e) v r)
  begin_made (S.a_dict k e) l n v r = begin_exp k n false (F.keyed l (n + size k) e v r)

  abbrev pub begin_last : Rounds V → (n : ℕ) → Rounds V → Control V
  begin_last (F.collecting l k m v w) n r = begin_made m l n v r
  begin_last (F.generating l e s) n r = begin_exp e n false (F.item_yielded l (n + size e) r)
  begin_last (F.round_of l k i t cs q) n r = begin_last q n r

  -- the clauses behind a `for`, for one item
  abbrev pub begin_clauses : Clauses → (n : ℕ) → Rounds V → Control V
  begin_clauses S.no_clauses n r = begin_last r n r
  begin_clauses (S.only_if c cs) n r = begin_exp c n false (F.asked (rounds_line r) (n + size c) (F.clauses (n + size c + 1) cs r) (F.round r))
  begin_clauses (S.for_each l t it cs) n r = begin_exp it n false (F.iterated l (n + size it) (F.clause_over l (n + size it + 1) t cs r))

-- the next item of a clause
abbrev pub take_item : {V : Type 0} → (l n : ℕ) → (iterator : V) → Tgt → Clauses → Rounds V → Control V
take_item l n i t cs r = for_item (mark n l false) i (n + 1) t (F.clauses (n + 1 + target_size t) cs (F.round_of l n i t cs r)) (F.round r)

-- the names of a comprehension
abbrev mutual
  pub target_names : Tgt → List Name
  target_names (S.single (S.name_at l x)) = x ∷ []
  target_names (S.single p) = []
  target_names (S.several l f ts) = all_target_names ts
  target_names (S.starred l t) = target_names t

  pub all_target_names : Tgts → List Name
  all_target_names S.no_targets = []
  all_target_names (S.more_targets t ts) = target_names t ++ all_target_names ts

abbrev pub clause_names : Clauses → List Name
clause_names S.no_clauses = []
clause_names (S.only_if c cs) = clause_names cs
clause_names (S.for_each l t it cs) = target_names t ++ clause_names cs

-- what a comprehension builds
abbrev pub built_as : Made → Operation
built_as (S.a_list e) = T.list
built_as (S.a_set e) = T.set
built_as (S.a_dict k v) = T.dict
