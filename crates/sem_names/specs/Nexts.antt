-- The regions of a script in the order in which they start: for each comprehension the number of its first Next in its block (Language Reference
-- 6.2.4), and for a block none. A comprehension in the target of an annotation without a value has none either, since it isn't evaluated
-- (7.2.2). In each part n numbers the first act of the block around.
use Rattle.std.specs.Prelude.{ℕ, ◌+◌, Bool, true, false, List, [], ◌∷◌, ◌++◌, Option, Some, None}
use Rattle.pt_tree.specs.Syntax as S
use Rattle.pt_tree.specs.Syntax.{Exp, Exps, Opt, Pieces, Entries, Links, Args, Made, Clauses, Place, Tgt, Tgts, Params, Formals, Decorators, Items, Stm, Stms, Branches, Handlers}
use Rattle.pt_tree.specs.Blocks.{first_statement}
use Rattle.pt_tree.specs.Sizes.{size, opt_size, pieces_size, joins, clauses_size, place_size, target_size, formals_size, deleted_size, decorators_size, opt_target_size, stored_by, stm_size, stms_size, branches_size, handlers_size}

abbrev pub next_if : (evaluated : Bool) → ℕ → Option ℕ
next_if true n = Some n
next_if false n = None

abbrev mutual
  pub nexts_exp : (evaluated : Bool) → Exp → (n : ℕ) → List (Option ℕ)
  nexts_exp u (S.constant l k) n = []
  nexts_exp u (S.name l x) n = []
  nexts_exp u (S.joined l ps) n = nexts_pieces u ps n
  nexts_exp u (S.tuple l es) n = nexts_all u es n
  nexts_exp u (S.list l es) n = nexts_all u es n
  nexts_exp u (S.set l es) n = nexts_all u es n
  nexts_exp u (S.dict l es) n = nexts_entries u es n
  nexts_exp u (S.attribute l a x) n = nexts_exp u a n
  nexts_exp u (S.item l a i) n = nexts_exp u a n ++ nexts_exp u i (n + size a)
  nexts_exp u (S.slice l a b c) n = nexts_opt u a n ++ nexts_opt u b (n + opt_size a) ++ nexts_opt u c (n + opt_size a + opt_size b)
  nexts_exp u (S.unary l o a) n = nexts_exp u a n
  nexts_exp u (S.not_of l a) n = nexts_exp u a n
  nexts_exp u (S.binary l o a b) n = nexts_exp u a n ++ nexts_exp u b (n + size a)
  nexts_exp u (S.compare l a o b r) n = nexts_exp u a n ++ nexts_exp u b (n + size a) ++ nexts_links u r (n + size a + size b + 1)
  nexts_exp u (S.and l a es) n = nexts_exp u a n ++ nexts_operands u es (n + size a)
  nexts_exp u (S.or l a es) n = nexts_exp u a n ++ nexts_operands u es (n + size a)
  nexts_exp u (S.conditional l c a b) n = nexts_exp u a (n + size c + 1) ++ nexts_exp u c n ++ nexts_exp u b (n + size c + 1 + size a)
  nexts_exp u (S.call l f args) n = nexts_exp u f n ++ nexts_args u args (n + size f)
  -- the body is a block of its own, behind the defaults of its parameters
  nexts_exp u (S.lambda l b ps e) n = None ∷ nexts_params u ps n ++ nexts_exp true e 0
  nexts_exp u (S.comprehension l m fl t it cs) n =
      next_if u (n + size it + 2) ∷ nexts_made u m (n + size it + 3 + target_size t + clauses_size cs) ++ nexts_target u t (n + size it + 3)
      ++ nexts_exp u it n ++ nexts_clauses u cs (n + size it + 3 + target_size t)
  -- the first iterable alone stands in the block around; the item comes last
  nexts_exp u (S.generator l b e fl t it cs) n =
      None ∷ nexts_exp true e (1 + target_size t + clauses_size cs) ++ nexts_target true t 1 ++ nexts_exp u it n ++ nexts_clauses true cs (1 + target_size t)
  nexts_exp u (S.yield l v) n = nexts_opt u v n
  nexts_exp u (S.yield_from l e) n = nexts_exp u e n

  pub nexts_all : (evaluated : Bool) → Exps → (n : ℕ) → List (Option ℕ)
  nexts_all u S.no_exps n = []
  nexts_all u (S.more_exps e es) n = nexts_exp u e n ++ nexts_all u es (n + size e)

  -- behind an `and` or `or`, each behind its decision
  pub nexts_operands : (evaluated : Bool) → Exps → (n : ℕ) → List (Option ℕ)
  nexts_operands u S.no_exps n = []
  nexts_operands u (S.more_exps e es) n = nexts_exp u e (n + 1) ++ nexts_operands u es (n + 1 + size e)

  pub nexts_opt : (evaluated : Bool) → Opt → (n : ℕ) → List (Option ℕ)
  nexts_opt u S.absent n = []
  nexts_opt u (S.given e) n = nexts_exp u e n

  pub nexts_pieces : (evaluated : Bool) → Pieces → (n : ℕ) → List (Option ℕ)
  nexts_pieces u S.no_pieces n = []
  nexts_pieces u (S.literal l t r) n = nexts_pieces u r (n + 1)
  nexts_pieces u (S.field l e c ps r) n = nexts_exp u e n ++ nexts_pieces u ps (n + size e) ++ nexts_pieces u r (n + size e + pieces_size ps + joins ps + 1)

  pub nexts_entries : (evaluated : Bool) → Entries → (n : ℕ) → List (Option ℕ)
  nexts_entries u S.no_entries n = []
  nexts_entries u (S.entry k v r) n = nexts_exp u k n ++ nexts_exp u v (n + size k) ++ nexts_entries u r (n + size k + size v)

  pub nexts_links : (evaluated : Bool) → Links → (n : ℕ) → List (Option ℕ)
  nexts_links u S.no_links n = []
  nexts_links u (S.link o b r) n = nexts_exp u b (n + 1) ++ nexts_links u r (n + 1 + size b + 1)

  pub nexts_args : (evaluated : Bool) → Args → (n : ℕ) → List (Option ℕ)
  nexts_args u S.no_args n = []
  nexts_args u (S.positional e r) n = nexts_exp u e n ++ nexts_args u r (n + size e)
  nexts_args u (S.named x e r) n = nexts_exp u e n ++ nexts_args u r (n + size e)
  nexts_args u (S.spread e r) n = nexts_exp u e n ++ nexts_args u r (n + size e + 1)
  nexts_args u (S.spread_named e r) n = nexts_exp u e n ++ nexts_args u r (n + size e + 1)

  pub nexts_made : (evaluated : Bool) → Made → (n : ℕ) → List (Option ℕ)
  nexts_made u (S.a_list e) n = nexts_exp u e n
  nexts_made u (S.a_set e) n = nexts_exp u e n
  nexts_made u (S.a_dict k v) n = nexts_exp u k n ++ nexts_exp u v (n + size k)

  pub nexts_clauses : (evaluated : Bool) → Clauses → (n : ℕ) → List (Option ℕ)
  nexts_clauses u S.no_clauses n = []
  nexts_clauses u (S.only_if c cs) n = nexts_exp u c n ++ nexts_clauses u cs (n + size c + 1)
  nexts_clauses u (S.for_each l t it cs) n = nexts_target u t (n + size it + 2) ++ nexts_exp u it n ++ nexts_clauses u cs (n + size it + 2 + target_size t)

  pub nexts_place : (evaluated : Bool) → Place → (n : ℕ) → List (Option ℕ)
  nexts_place u (S.name_at l x) n = []
  nexts_place u (S.attribute_at l a x) n = nexts_exp u a n
  nexts_place u (S.item_at l a i) n = nexts_exp u a n ++ nexts_exp u i (n + size a)

  pub nexts_target : (evaluated : Bool) → Tgt → (n : ℕ) → List (Option ℕ)
  nexts_target u (S.single p) n = nexts_place u p n
  nexts_target u (S.several l f ts) n = nexts_targets u ts (n + 1)
  nexts_target u (S.starred l t) n = nexts_target u t n

  pub nexts_targets : (evaluated : Bool) → Tgts → (n : ℕ) → List (Option ℕ)
  nexts_targets u S.no_targets n = []
  nexts_targets u (S.more_targets t ts) n = nexts_target u t n ++ nexts_targets u ts (n + target_size t)

  -- those of the defaults
  pub nexts_params : (evaluated : Bool) → Params → (n : ℕ) → List (Option ℕ)
  nexts_params u (S.parameters ps s ks d) n = nexts_formals u ps n ++ nexts_formals u ks (n + formals_size ps)

  pub nexts_formals : (evaluated : Bool) → Formals → (n : ℕ) → List (Option ℕ)
  nexts_formals u S.no_formals n = []
  nexts_formals u (S.formal l x a d r) n = nexts_opt u d n ++ nexts_formals u r (n + opt_size d)

-- a target that is deleted
abbrev mutual
  pub nexts_deleted : Tgt → (n : ℕ) → List (Option ℕ)
  nexts_deleted (S.single p) n = nexts_place true p n
  nexts_deleted (S.several l f ts) n = nexts_all_deleted ts n
  nexts_deleted (S.starred l t) n = nexts_deleted t n

  pub nexts_all_deleted : Tgts → (n : ℕ) → List (Option ℕ)
  nexts_all_deleted S.no_targets n = []
  nexts_all_deleted (S.more_targets t ts) n = nexts_deleted t n ++ nexts_all_deleted ts (n + deleted_size t)

abbrev pub nexts_decorators : Decorators → (n : ℕ) → List (Option ℕ)
nexts_decorators S.no_decorators n = []
nexts_decorators (S.decorator l e r) n = nexts_exp true e n ++ nexts_decorators r (n + size e)

abbrev pub nexts_opt_target : Option Tgt → (n : ℕ) → List (Option ℕ)
nexts_opt_target None n = []
nexts_opt_target (Some t) n = nexts_target true t n

-- the items of a `with`, and the number behind them
abbrev pub nexts_items : Items → (n : ℕ) → List (Option ℕ)
nexts_items S.no_items n = []
nexts_items (S.with_item l e t r) n = nexts_exp true e n ++ nexts_opt_target t (n + size e + 1) ++ nexts_items r (n + size e + 1 + opt_target_size t)

abbrev pub behind_items : Items → (n : ℕ) → ℕ
behind_items S.no_items n = n
behind_items (S.with_item l e t r) n = behind_items r (n + size e + 1 + opt_target_size t)

abbrev mutual
  pub nexts_stm : Stm → (n : ℕ) → List (Option ℕ)
  nexts_stm (S.expr l e) n = nexts_exp true e n
  nexts_stm (S.assign l ts e) n = nexts_targets true ts (n + size e) ++ nexts_exp true e n
  nexts_stm (S.augmented l p o e) n = nexts_place true p n ++ nexts_exp true e (n + place_size p)
  nexts_stm (S.annotated l p a S.absent) n = nexts_place false p n
  nexts_stm (S.annotated l p a (S.given e)) n = nexts_place true p (n + size e) ++ nexts_exp true e n
  nexts_stm (S.assert l c m) n = nexts_exp true c n ++ nexts_opt true m (n + size c + 1)
  nexts_stm (S.pass l) n = []
  nexts_stm (S.del l ts) n = nexts_all_deleted ts n
  nexts_stm (S.return l v) n = nexts_opt true v n
  nexts_stm (S.raise l e c) n = nexts_exp true e n ++ nexts_opt true c (n + size e)
  nexts_stm (S.raise_again l) n = []
  nexts_stm (S.break l) n = []
  nexts_stm (S.continue l) n = []
  nexts_stm (S.import l xs) n = []
  nexts_stm (S.import_from l m xs) n = []
  nexts_stm (S.global l xs) n = []
  nexts_stm (S.nonlocal l xs) n = []
  nexts_stm (S.choice l bs els) n = nexts_branches bs n ++ nexts_stms els (n + branches_size bs)
  nexts_stm (S.while l c body els) n = nexts_exp true c n ++ nexts_stms body (n + size c + 1) ++ nexts_stms els (n + size c + 1 + stms_size body)
  nexts_stm (S.for l t it body els) n =
      nexts_target true t (n + size it + 2) ++ nexts_exp true it n ++ nexts_stms body (n + size it + 2 + target_size t)
      ++ nexts_stms els (n + size it + 2 + target_size t + stms_size body)
  nexts_stm (S.try l body hs els fin) n =
      nexts_stms body (n + 1) ++ nexts_handlers hs (n + 1 + stms_size body) ++ nexts_stms els (n + 1 + stms_size body + handlers_size hs)
      ++ nexts_stms fin (n + 1 + stms_size body + handlers_size hs + stms_size els)
  nexts_stm (S.with l is body) n = nexts_items is n ++ nexts_stms body (behind_items is n)
  -- the bodies of functions and classes are blocks of their own, which start at their keywords
  nexts_stm (S.def l ds dl b x ps r body) n =
      nexts_decorators ds n ++ None ∷ nexts_params true ps (n + decorators_size ds) ++ nexts_body body
  nexts_stm (S.class l ds cl b x base body) n = nexts_decorators ds n ++ None ∷ nexts_opt true base (n + decorators_size ds) ++ nexts_stms body 0
  nexts_stm (S.docstring l) n = []

  pub nexts_stms : Stms → (n : ℕ) → List (Option ℕ)
  nexts_stms S.none n = []
  nexts_stms (S.more s ss) n = nexts_stm s n ++ nexts_stms ss (n + stm_size s)

  -- the body of a function, whose documentation string has no acts (8.7)
  pub nexts_body : Stms → List (Option ℕ)
  nexts_body S.none = []
  nexts_body (S.more s ss) = nexts_stm s 0 ++ nexts_stms ss (stm_size (first_statement s))

  pub nexts_branches : Branches → (n : ℕ) → List (Option ℕ)
  nexts_branches S.no_branches n = []
  nexts_branches (S.branch l c body r) n = nexts_exp true c n ++ nexts_stms body (n + size c + 1) ++ nexts_branches r (n + size c + 1 + stms_size body)

  pub nexts_handlers : Handlers → (n : ℕ) → List (Option ℕ)
  nexts_handlers S.no_handlers n = []
  nexts_handlers (S.handler l c x body r) n =
      nexts_opt true c n ++ nexts_stms body (n + opt_size c + 1 + stored_by x) ++ nexts_handlers r (n + opt_size c + 1 + stored_by x + stms_size body)

-- the module is region 0
abbrev pub nexts_script : Stms → List (Option ℕ)
nexts_script ss = None ∷ nexts_stms ss 0
