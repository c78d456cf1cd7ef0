-- What is asked of the names of a block, so that an instruction does what each act asks. The numbers of acts are spelled as in the pieces.
use Rattle.std.specs.Prelude.{◌≡◌, ℕ, ◌+◌, List, [], ◌∷◌, ◌++◌, map, true, Some, None}
use Rattle.pt_tree.specs.Syntax as S
use Rattle.pt_tree.specs.Syntax.{Exp, Exps, Opt, Pieces, Entries, Links, Args, Made, Clauses, Place, Tgt, Tgts, Params, Formals, Decorators, Items, Stm, Stms, Branches, Handlers, none, more}
use Rattle.pt_tree.specs.Sizes.{size, pieces_size, joins, place_size, target_size, stm_size, stms_size}
use Rattle.pt_tree.specs.Blocks as B
use Rattle.pt_tree.specs.Blocks.{Code, function_body}
use Rattle.sem_control.specs.control.Turn as T
use Rattle.sem_control.specs.control.Turn.{Around, Scope, Variable}
use Rattle.sem_control.specs.control.Numbers.{tested_body, behind_body, for_body, for_else, try_handlers, try_else, try_finally, handler_body}
use Rattle.sem_control.specs.control.Expressions.{roles, target_names, clause_names}
use Rattle.sem_control.specs.control.Statements.{all_places}
use Rattle.sem_compile.specs.emitter.Ops.{are_plain}

-- a name of the block alone (6.2.4), and one that is kept in a cell (4.2.2)
abbrev pub IsOwn : Scope → Type 0
IsOwn T.local = Unit {0}
IsOwn T.cell = Unit {0}
IsOwn s = ⊥

abbrev pub IsCell : Scope → Type 0
IsCell T.cell = Unit {0}
IsCell T.free = Unit {0}
IsCell s = ⊥

abbrev pub AllOwn : List Variable → Type 0
AllOwn [] = Unit {0}
AllOwn (x ∷ xs) = IsOwn x.scope × AllOwn xs

abbrev pub AllCells : List Variable → Type 0
AllCells [] = Unit {0}
AllCells (x ∷ xs) = IsCell x.scope × AllCells xs

module _ {V : Type 0} (around : Around V) where
  -- what the blocks within take along are cells
  abbrev pub TakesCells : Type 0
  TakesCells = (block : ℕ) → AllCells (around.captured block)

  -- in an expression: the targets of a comprehension are names of its block alone, and no argument has for a name what stands for one without
  abbrev mutual
    pub Exp_named : Exp → (n : ℕ) → (v : List ℕ) → Type 0
    Exp_named (S.constant l k) n v = Unit {0}
    Exp_named (S.name l x) n v = Unit {0}
    Exp_named (S.joined l ps) n v = Pieces_named ps n v
    Exp_named (S.tuple l es) n v = Exps_named es n v
    Exp_named (S.list l es) n v = Exps_named es n v
    Exp_named (S.set l es) n v = Exps_named es n v
    Exp_named (S.dict l r) n v = Entries_named r n v
    Exp_named (S.attribute l a x) n v = Exp_named a n v
    Exp_named (S.item l a i) n v = Exp_named a n v × Exp_named i (n + size a) v
    Exp_named (S.slice l a b c) n v = Part_named a n v (λ m. Part_named b m v (λ m. Part_named c m v (λ m. Unit {0})))
    Exp_named (S.unary l o a) n v = Exp_named a n v
    Exp_named (S.not_of l a) n v = Exp_named a n v
    Exp_named (S.binary l o a b) n v = Exp_named a n v × Exp_named b (n + size a) v
    Exp_named (S.compare l a o b r) n v = Exp_named a n v × Exp_named b (n + size a) v × Links_named r (n + size a + size b) v
    Exp_named (S.and l a es) n v = Exp_named a n v × Operands_named es (n + size a) v
    Exp_named (S.or l a es) n v = Exp_named a n v × Operands_named es (n + size a) v
    Exp_named (S.conditional l c a b) n v = Exp_named c n v × Exp_named a (n + size c + 1) v × Exp_named b (n + size c + 1 + size a) v
    Exp_named (S.call l f args) n v = Exp_named f n v × (are_plain (roles around.spelled args) ≡ true) × Args_named args (n + size f) v
    Exp_named (S.lambda l b (S.parameters ps s ks d) e) n v = Formals_named ps n v (λ m. Formals_named ks m v (λ m. Unit {0}))
    Exp_named (S.comprehension l m k t it cs) n v = Exp_named it n v
        × AllOwn (map (around.variable ((n + size it + 1 + 1) ∷ v)) (target_names t ++ clause_names cs))
        × Target_named t (n + size it + 1 + 1 + 1) ((n + size it + 1 + 1) ∷ v)
        × Clauses_named cs (n + size it + 1 + 1 + 1 + target_size t) ((n + size it + 1 + 1) ∷ v) (λ j. Made_named m j ((n + size it + 1 + 1) ∷ v))
    Exp_named (S.generator l b e k t it cs) n v = Exp_named it n v
    Exp_named (S.yield l S.absent) n v = Unit {0}
    Exp_named (S.yield l (S.given e)) n v = Exp_named e n v
    Exp_named (S.yield_from l e) n v = Exp_named e n v

    pub Part_named : Opt → (n : ℕ) → (v : List ℕ) → (behind : ℕ → Type 0) → Type 0
    Part_named S.absent n v behind = behind n
    Part_named (S.given e) n v behind = Exp_named e n v × behind (n + size e)

    pub Exps_named : Exps → (n : ℕ) → (v : List ℕ) → Type 0
    Exps_named S.no_exps n v = Unit {0}
    Exps_named (S.more_exps e es) n v = Exp_named e n v × Exps_named es (n + size e) v

    pub Pieces_named : Pieces → (n : ℕ) → (v : List ℕ) → Type 0
    Pieces_named S.no_pieces n v = Unit {0}
    Pieces_named (S.literal l t r) n v = Pieces_named r (n + 1) v
    Pieces_named (S.field l e c sp r) n v =
        Exp_named e n v × Pieces_named sp (n + size e) v × Pieces_named r (n + size e + pieces_size sp + joins sp + 1) v

    pub Entries_named : Entries → (n : ℕ) → (v : List ℕ) → Type 0
    Entries_named S.no_entries n v = Unit {0}
    Entries_named (S.entry a b r) n v = Exp_named a n v × Exp_named b (n + size a) v × Entries_named r (n + size a + size b) v

    pub Links_named : Links → (n : ℕ) → (v : List ℕ) → Type 0
    Links_named S.no_links n v = Unit {0}
    Links_named (S.link p b r) n v = Exp_named b (n + 1 + 1) v × Links_named r (n + 1 + 1 + size b) v

    pub Operands_named : Exps → (n : ℕ) → (v : List ℕ) → Type 0
    Operands_named S.no_exps n v = Unit {0}
    Operands_named (S.more_exps e es) n v = Exp_named e (n + 1) v × Operands_named es (n + 1 + size e) v

    pub Args_named : Args → (n : ℕ) → (v : List ℕ) → Type 0
    Args_named S.no_args n v = Unit {0}
    Args_named (S.positional e r) n v = Exp_named e n v × Args_named r (n + size e) v
    Args_named (S.named x e r) n v = Exp_named e n v × Args_named r (n + size e) v
    Args_named (S.spread e r) n v = Exp_named e n v × Args_named r (n + size e + 1) v
    Args_named (S.spread_named e r) n v = Exp_named e n v × Args_named r (n + size e + 1) v

    pub Formals_named : Formals → (n : ℕ) → (v : List ℕ) → (behind : ℕ → Type 0) → Type 0
    Formals_named S.no_formals n v behind = behind n
    Formals_named (S.formal a x t S.absent r) n v behind = Formals_named r n v behind
    Formals_named (S.formal a x t (S.given d) r) n v behind = Exp_named d n v × Formals_named r (n + size d) v behind

    pub Clauses_named : Clauses → (n : ℕ) → (v : List ℕ) → (item : ℕ → Type 0) → Type 0
    Clauses_named S.no_clauses n v item = item n
    Clauses_named (S.only_if c cs) n v item = Exp_named c n v × Clauses_named cs (n + size c + 1) v item
    Clauses_named (S.for_each k t it cs) n v item =
        Exp_named it n v × Target_named t (n + size it + 1 + 1) v × Clauses_named cs (n + size it + 1 + 1 + target_size t) v item

    pub Made_named : Made → (n : ℕ) → (v : List ℕ) → Type 0
    Made_named (S.a_list e) n v = Exp_named e n v
    Made_named (S.a_set e) n v = Exp_named e n v
    Made_named (S.a_dict k e) n v = Exp_named k n v × Exp_named e (n + size k) v

    pub Target_named : Tgt → (n : ℕ) → (v : List ℕ) → Type 0
    Target_named (S.single p) n v = Place_named p n v
    Target_named (S.several l f ts) n v = Targets_named ts (n + 1) v
    Target_named (S.starred l t) n v = Target_named t n v

    pub Targets_named : Tgts → (n : ℕ) → (v : List ℕ) → Type 0
    Targets_named S.no_targets n v = Unit {0}
    Targets_named (S.more_targets t ts) n v = Target_named t n v × Targets_named ts (n + target_size t) v

    pub Place_named : Place → (n : ℕ) → (v : List ℕ) → Type 0
    Place_named (S.name_at l x) n v = Unit {0}
    Place_named (S.attribute_at l a x) n v = Exp_named a n v
    Place_named (S.item_at l a i) n v = Exp_named a n v × Exp_named i (n + size a) v

  abbrev pub Value_named : Exp → (n : ℕ) → Type 0
  Value_named e n = Exp_named e n []

  abbrev pub Opt_named : Opt → (n : ℕ) → Type 0
  Opt_named S.absent n = Unit {0}
  Opt_named (S.given e) n = Value_named e n

  -- the other operand stands behind the present value
  abbrev pub Changed_named : Place → Exp → (n : ℕ) → Type 0
  Changed_named (S.name_at l x) e n = Value_named e (n + 1)
  Changed_named (S.attribute_at l a x) e n = Value_named a n × Value_named e (n + size a + 1)
  Changed_named (S.item_at l a i) e n = Value_named a n × Value_named i (n + size a) × Value_named e (n + size a + size i + 1)

  abbrev pub All_deleted_named : List Place → (n : ℕ) → Type 0
  All_deleted_named [] n = Unit {0}
  All_deleted_named (p ∷ ps) n = Place_named p n [] × All_deleted_named ps (n + place_size p)

  abbrev pub Definition_named : Decorators → (made : (n : ℕ) → Type 0) → (n : ℕ) → Type 0
  Definition_named S.no_decorators made n = made n
  Definition_named (S.decorator l e r) made n = Value_named e n × Definition_named r made (n + size e)

  abbrev pub Parameters_named : Params → (n : ℕ) → Type 0
  Parameters_named (S.parameters ps s ks d) n = Formals_named ps n [] (λ m. Formals_named ks m [] (λ m. Unit {0}))

  abbrev pub Items_named : Items → (body : (n : ℕ) → Type 0) → (n : ℕ) → Type 0
  Items_named S.no_items body n = body n
  Items_named (S.with_item l e None r) body n = Value_named e n × Items_named r body (n + size e + 1)
  Items_named (S.with_item l e (Some t) r) body n =
      Value_named e n × Target_named t (n + size e + 1) [] × Items_named r body (n + size e + 1 + target_size t)

  abbrev mutual
    pub Stm_named : Stm → (n : ℕ) → Type 0
    Stm_named (S.expr l e) n = Value_named e n
    Stm_named (S.assign l ts e) n = Value_named e n × Targets_named ts (n + size e) []
    Stm_named (S.augmented l p o e) n = Changed_named p e n
    Stm_named (S.annotated l p a S.absent) n = Unit {0}
    Stm_named (S.annotated l p a (S.given e)) n = Value_named e n × Place_named p (n + size e) []
    Stm_named (S.assert l c m) n = Value_named c n × Opt_named m (n + size c + 1)
    Stm_named (S.del l ts) n = All_deleted_named (all_places ts) n
    Stm_named (S.return l e) n = Opt_named e n
    Stm_named (S.raise l e c) n = Value_named e n × Opt_named c (n + size e)
    Stm_named (S.choice l bs els) n = Branches_named bs (λ m. All_named els m) n
    Stm_named (S.while l c body els) n = Value_named c n × All_named body (tested_body n c) × All_named els (behind_body n c body)
    Stm_named (S.for l t it body els) n = Value_named it n × Target_named t (n + size it + 1 + 1) []
        × All_named body (for_body (n + size it + 1) t) × All_named els (for_else (n + size it + 1) t body)
    Stm_named (S.try l body hs els fin) n = All_named body (n + 1) × Handlers_named hs (try_handlers n body) × All_named els (try_else n body hs)
        × All_named fin (try_finally n body hs els)
    Stm_named (S.with l is body) n = Items_named is (λ m. All_named body m) n
    Stm_named (S.def l ds k b y ps a body) n = Definition_named ds (λ m. Parameters_named ps m) n
    Stm_named (S.class l ds k b y base body) n = Definition_named ds (λ m. Opt_named base m) n
    Stm_named st n = Unit {0}

    pub All_named : Stms → (n : ℕ) → Type 0
    All_named none n = Unit {0}
    All_named (more st ss) n = Stm_named st n × All_named ss (n + stm_size st)

    pub Branches_named : Branches → (otherwise : (n : ℕ) → Type 0) → (n : ℕ) → Type 0
    Branches_named S.no_branches otherwise n = otherwise n
    Branches_named (S.branch l c body r) otherwise n =
        Value_named c n × All_named body (tested_body n c) × Branches_named r otherwise (behind_body n c body)

    pub Handlers_named : Handlers → (n : ℕ) → Type 0
    Handlers_named S.no_handlers n = Unit {0}
    Handlers_named (S.handler l S.absent y body r) n = All_named body (handler_body n y) × Handlers_named r (handler_body n y + stms_size body)
    Handlers_named (S.handler l (S.given c) y body r) n =
        Value_named c n × All_named body (handler_body (n + size c) y) × Handlers_named r (handler_body (n + size c) y + stms_size body)

  abbrev pub Code_named : Code → Type 0
  Code_named (B.of_module ss) = All_named ss 0
  Code_named (B.of_function ss) = All_named (function_body ss) 0
  Code_named (B.of_class ss) = All_named ss 0
  Code_named (B.of_lambda l e) = Value_named e 0
  Code_named (B.of_generator l e k t cs) = Target_named t (0 + 1) [] × Clauses_named cs (0 + 1 + target_size t) [] (λ n. Value_named e n)
