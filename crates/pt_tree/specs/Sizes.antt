-- How many acts each part of a tree has in its own block.
use Rattle.std.specs.Prelude.{ℕ, ◌+◌, List, length, Option, Some, None}
use Rattle.pt_tree.specs.Syntax as S
use Rattle.pt_tree.specs.Syntax.{Exp, Exps, Opt, Pieces, Entries, Links, Args, Made, Clauses, Place, Tgt, Tgts, Params, Formals, Decorators, Items, Stm, Stms, Branches, Handlers}

-- the parts of a replacement field's spec are joined where there are several
abbrev pub joins : Pieces → ℕ
joins S.no_pieces = 0
joins (S.literal l t S.no_pieces) = 0
joins (S.field l e c ps S.no_pieces) = 0
joins (S.literal l t r) = 1
joins (S.field l e c ps r) = 1

abbrev mutual
  pub size : Exp → ℕ
  size (S.constant l k) = 1
  size (S.name l x) = 1
  size (S.joined l ps) = pieces_size ps + 1
  size (S.tuple l es) = all_size es + 1
  size (S.list l es) = all_size es + 1
  size (S.set l es) = all_size es + 1
  size (S.dict l es) = entries_size es + 1
  size (S.attribute l a x) = size a + 1
  size (S.item l a i) = size a + size i + 1
  size (S.slice l a b c) = opt_size a + opt_size b + opt_size c + 1
  size (S.unary l o a) = size a + 1
  size (S.not_of l a) = size a + 1
  size (S.binary l o a b) = size a + size b + 1
  size (S.compare l a o b r) = size a + size b + 1 + links_size r
  size (S.and l a es) = size a + operands_size es
  size (S.or l a es) = size a + operands_size es
  size (S.conditional l c a b) = size c + 1 + size a + size b
  size (S.call l f args) = size f + args_size args + 1
  size (S.lambda l b ps e) = params_size ps + 1
  size (S.comprehension l m fl t it cs) = size it + 3 + target_size t + clauses_size cs + made_size m
  size (S.generator l b e fl t it cs) = size it + 2
  size (S.yield l v) = opt_size v + 1
  size (S.yield_from l e) = size e + 2

  pub all_size : Exps → ℕ
  all_size S.no_exps = 0
  all_size (S.more_exps e es) = size e + all_size es

  -- behind an `and` or `or`, each with the decision before it
  pub operands_size : Exps → ℕ
  operands_size S.no_exps = 0
  operands_size (S.more_exps e es) = 1 + size e + operands_size es

  pub opt_size : Opt → ℕ
  opt_size S.absent = 0
  opt_size (S.given e) = size e

  pub pieces_size : Pieces → ℕ
  pieces_size S.no_pieces = 0
  pieces_size (S.literal l t r) = 1 + pieces_size r
  pieces_size (S.field l e c ps r) = size e + pieces_size ps + joins ps + 1 + pieces_size r

  pub entries_size : Entries → ℕ
  entries_size S.no_entries = 0
  entries_size (S.entry k v r) = size k + size v + entries_size r

  -- each link with the decision before it and the comparison behind it
  pub links_size : Links → ℕ
  links_size S.no_links = 0
  links_size (S.link o b r) = 1 + size b + 1 + links_size r

  pub args_size : Args → ℕ
  args_size S.no_args = 0
  args_size (S.positional e r) = size e + args_size r
  args_size (S.named x e r) = size e + args_size r
  args_size (S.spread e r) = size e + 1 + args_size r
  args_size (S.spread_named e r) = size e + 1 + args_size r

  -- with the act that adds it
  pub made_size : Made → ℕ
  made_size (S.a_list e) = size e + 1
  made_size (S.a_set e) = size e + 1
  made_size (S.a_dict k v) = size k + size v + 1

  pub clauses_size : Clauses → ℕ
  clauses_size S.no_clauses = 0
  clauses_size (S.only_if c cs) = size c + 1 + clauses_size cs
  clauses_size (S.for_each l t it cs) = size it + 2 + target_size t + clauses_size cs

  pub place_size : Place → ℕ
  place_size (S.name_at l x) = 1
  place_size (S.attribute_at l a x) = size a + 1
  place_size (S.item_at l a i) = size a + size i + 1

  pub target_size : Tgt → ℕ
  target_size (S.single p) = place_size p
  target_size (S.several l f ts) = 1 + targets_size ts
  target_size (S.starred l t) = target_size t

  pub targets_size : Tgts → ℕ
  targets_size S.no_targets = 0
  targets_size (S.more_targets t ts) = target_size t + targets_size ts

  pub params_size : Params → ℕ
  params_size (S.parameters ps s ks d) = formals_size ps + formals_size ks

  -- the defaults alone
  pub formals_size : Formals → ℕ
  formals_size S.no_formals = 0
  formals_size (S.formal l x a d r) = opt_size d + formals_size r

-- a target that is deleted
abbrev mutual
  pub deleted_size : Tgt → ℕ
  deleted_size (S.single p) = place_size p
  deleted_size (S.several l f ts) = all_deleted_size ts
  deleted_size (S.starred l t) = deleted_size t

  pub all_deleted_size : Tgts → ℕ
  all_deleted_size S.no_targets = 0
  all_deleted_size (S.more_targets t ts) = deleted_size t + all_deleted_size ts

abbrev pub decorators_size : Decorators → ℕ
decorators_size S.no_decorators = 0
decorators_size (S.decorator l e r) = size e + decorators_size r

-- each decorator is called
abbrev pub decorator_calls : Decorators → ℕ
decorator_calls S.no_decorators = 0
decorator_calls (S.decorator l e r) = decorator_calls r + 1

abbrev pub opt_target_size : Option Tgt → ℕ
opt_target_size None = 0
opt_target_size (Some t) = target_size t

-- the items of a `with` around what stands inside
abbrev pub items_size : Items → (inside : ℕ) → ℕ
items_size S.no_items k = k
items_size (S.with_item l e t is) k = size e + 1 + opt_target_size t + items_size is k + 1

-- a handler's `as`
abbrev pub stored_by : Option (List ℕ) → ℕ
stored_by None = 0
stored_by (Some x) = 1

abbrev mutual
  pub stm_size : Stm → ℕ
  stm_size (S.expr l e) = size e + 1
  stm_size (S.assign l ts e) = size e + targets_size ts
  stm_size (S.augmented l p o e) = place_size p + size e + 2
  stm_size (S.annotated l p a S.absent) = 1
  stm_size (S.annotated l p a (S.given e)) = size e + place_size p
  stm_size (S.assert l c m) = size c + 1 + opt_size m + 1
  stm_size (S.pass l) = 1
  stm_size (S.del l ts) = all_deleted_size ts
  stm_size (S.return l v) = opt_size v + 1
  stm_size (S.raise l e c) = size e + opt_size c + 1
  stm_size (S.raise_again l) = 1
  stm_size (S.break l) = 1
  stm_size (S.continue l) = 1
  stm_size (S.import l xs) = length xs + length xs
  stm_size (S.import_from l m xs) = 1 + length xs + length xs
  stm_size (S.global l xs) = 0
  stm_size (S.nonlocal l xs) = 0
  stm_size (S.choice l bs els) = branches_size bs + stms_size els
  stm_size (S.while l c body els) = size c + 1 + stms_size body + stms_size els
  stm_size (S.for l t it body els) = size it + 2 + target_size t + stms_size body + stms_size els
  stm_size (S.try l body hs els fin) = 1 + stms_size body + handlers_size hs + stms_size els + stms_size fin
  stm_size (S.with l is body) = items_size is (stms_size body)
  stm_size (S.def l ds dl b x ps r body) = decorators_size ds + params_size ps + 1 + decorator_calls ds + 1
  stm_size (S.class l ds cl b x base body) = decorators_size ds + opt_size base + 1 + decorator_calls ds + 1
  stm_size (S.docstring l) = 0

  pub stms_size : Stms → ℕ
  stms_size S.none = 0
  stms_size (S.more s ss) = stm_size s + stms_size ss

  pub branches_size : Branches → ℕ
  branches_size S.no_branches = 0
  branches_size (S.branch l c body r) = size c + 1 + stms_size body + branches_size r

  pub handlers_size : Handlers → ℕ
  handlers_size S.no_handlers = 0
  handlers_size (S.handler l c x body r) = opt_size c + 1 + stored_by x + stms_size body + handlers_size r
