-- How large a script is and how deep an expression, by which its limits are told.
use Rattle.std.specs.Prelude.{ℕ, ◌+◌, max, length, Option, Some, None}
use Rattle.pt_tree.specs.declared.expression.NamedParameter.{NamedParameter}
use Rattle.pt_tree.specs.Syntax as S
use Rattle.pt_tree.specs.Syntax.{Exp, Exps, Opt, Pieces, Entries, Links, Args, Made, Clauses, Place, Tgt, Tgts, Params, Formals, Decorators, Items, Stm, Stms, Branches, Handlers}

abbrev named : Option NamedParameter → ℕ
named None = 0
named (Some p) = 1

-- The nodes of a part: its statements, expressions and targets, and those parts of them that have a line or a name of their own.
abbrev mutual
  pub nodes_exp : Exp → ℕ
  nodes_exp (S.constant l k) = 1
  nodes_exp (S.name l x) = 1
  nodes_exp (S.joined l ps) = 1 + nodes_pieces ps
  nodes_exp (S.tuple l es) = 1 + nodes_all es
  nodes_exp (S.list l es) = 1 + nodes_all es
  nodes_exp (S.set l es) = 1 + nodes_all es
  nodes_exp (S.dict l es) = 1 + nodes_entries es
  nodes_exp (S.attribute l a x) = 1 + nodes_exp a
  nodes_exp (S.item l a i) = 1 + nodes_exp a + nodes_exp i
  nodes_exp (S.slice l a b c) = 1 + nodes_opt a + nodes_opt b + nodes_opt c
  nodes_exp (S.unary l o a) = 1 + nodes_exp a
  nodes_exp (S.not_of l a) = 1 + nodes_exp a
  nodes_exp (S.binary l o a b) = 1 + nodes_exp a + nodes_exp b
  nodes_exp (S.compare l a o b r) = 1 + nodes_exp a + nodes_exp b + nodes_links r
  nodes_exp (S.and l a es) = 1 + nodes_exp a + nodes_all es
  nodes_exp (S.or l a es) = 1 + nodes_exp a + nodes_all es
  nodes_exp (S.conditional l c a b) = 1 + nodes_exp c + nodes_exp a + nodes_exp b
  nodes_exp (S.call l f args) = 1 + nodes_exp f + nodes_args args
  nodes_exp (S.lambda l b ps e) = 1 + nodes_params ps + nodes_exp e
  nodes_exp (S.comprehension l m fl t it cs) = 1 + nodes_made m + (1 + nodes_target t + nodes_exp it) + nodes_clauses cs
  nodes_exp (S.generator l b e fl t it cs) = 1 + nodes_exp e + (1 + nodes_target t + nodes_exp it) + nodes_clauses cs
  nodes_exp (S.yield l v) = 1 + nodes_opt v
  nodes_exp (S.yield_from l e) = 1 + nodes_exp e

  pub nodes_all : Exps → ℕ
  nodes_all S.no_exps = 0
  nodes_all (S.more_exps e es) = nodes_exp e + nodes_all es

  pub nodes_opt : Opt → ℕ
  nodes_opt S.absent = 0
  nodes_opt (S.given e) = nodes_exp e

  pub nodes_pieces : Pieces → ℕ
  nodes_pieces S.no_pieces = 0
  nodes_pieces (S.literal l t r) = 1 + nodes_pieces r
  nodes_pieces (S.field l e c ps r) = 1 + nodes_exp e + nodes_pieces ps + nodes_pieces r

  pub nodes_entries : Entries → ℕ
  nodes_entries S.no_entries = 0
  nodes_entries (S.entry k v r) = nodes_exp k + nodes_exp v + nodes_entries r

  pub nodes_links : Links → ℕ
  nodes_links S.no_links = 0
  nodes_links (S.link o b r) = nodes_exp b + nodes_links r

  pub nodes_args : Args → ℕ
  nodes_args S.no_args = 0
  nodes_args (S.positional e r) = nodes_exp e + nodes_args r
  nodes_args (S.named x e r) = 1 + nodes_exp e + nodes_args r
  nodes_args (S.spread e r) = nodes_exp e + nodes_args r
  nodes_args (S.spread_named e r) = nodes_exp e + nodes_args r

  pub nodes_made : Made → ℕ
  nodes_made (S.a_list e) = nodes_exp e
  nodes_made (S.a_set e) = nodes_exp e
  nodes_made (S.a_dict k v) = nodes_exp k + nodes_exp v

  pub nodes_clauses : Clauses → ℕ
  nodes_clauses S.no_clauses = 0
  nodes_clauses (S.only_if c cs) = nodes_exp c + nodes_clauses cs
  nodes_clauses (S.for_each fl t it cs) = 1 + nodes_target t + nodes_exp it + nodes_clauses cs

  pub nodes_place : Place → ℕ
  nodes_place (S.name_at l x) = 1
  nodes_place (S.attribute_at l a x) = 1 + nodes_exp a
  nodes_place (S.item_at l a i) = 1 + nodes_exp a + nodes_exp i

  pub nodes_target : Tgt → ℕ
  nodes_target (S.single p) = nodes_place p
  nodes_target (S.several l f ts) = 1 + nodes_targets ts
  nodes_target (S.starred l t) = 1 + nodes_target t

  pub nodes_targets : Tgts → ℕ
  nodes_targets S.no_targets = 0
  nodes_targets (S.more_targets t ts) = nodes_target t + nodes_targets ts

  pub nodes_params : Params → ℕ
  nodes_params (S.parameters ps s ks d) = nodes_formals ps + named s + nodes_formals ks + named d

  pub nodes_formals : Formals → ℕ
  nodes_formals S.no_formals = 0
  nodes_formals (S.formal l x a d r) = 1 + nodes_opt a + nodes_opt d + nodes_formals r

abbrev nodes_decorators : Decorators → ℕ
nodes_decorators S.no_decorators = 0
nodes_decorators (S.decorator l e r) = 1 + nodes_exp e + nodes_decorators r

abbrev nodes_opt_target : Option Tgt → ℕ
nodes_opt_target None = 0
nodes_opt_target (Some t) = nodes_target t

abbrev nodes_items : Items → ℕ
nodes_items S.no_items = 0
nodes_items (S.with_item l e t is) = 1 + nodes_exp e + nodes_opt_target t + nodes_items is

abbrev mutual
  pub nodes_stm : Stm → ℕ
  nodes_stm (S.expr l e) = 1 + nodes_exp e
  nodes_stm (S.assign l ts e) = 1 + nodes_targets ts + nodes_exp e
  nodes_stm (S.augmented l p o e) = 1 + nodes_place p + nodes_exp e
  nodes_stm (S.annotated l p a v) = 1 + nodes_place p + nodes_exp a + nodes_opt v
  nodes_stm (S.assert l c m) = 1 + nodes_exp c + nodes_opt m
  nodes_stm (S.pass l) = 1
  nodes_stm (S.del l ts) = 1 + nodes_targets ts
  nodes_stm (S.return l v) = 1 + nodes_opt v
  nodes_stm (S.raise l e c) = 1 + nodes_exp e + nodes_opt c
  nodes_stm (S.raise_again l) = 1
  nodes_stm (S.break l) = 1
  nodes_stm (S.continue l) = 1
  nodes_stm (S.import l xs) = 1 + length xs
  nodes_stm (S.import_from l m xs) = 1 + length xs
  nodes_stm (S.global l xs) = 1 + length xs
  nodes_stm (S.nonlocal l xs) = 1 + length xs
  nodes_stm (S.choice l bs els) = 1 + nodes_branches bs + nodes_stms els
  nodes_stm (S.while l c body els) = 1 + nodes_exp c + nodes_stms body + nodes_stms els
  nodes_stm (S.for l t it body els) = 1 + nodes_target t + nodes_exp it + nodes_stms body + nodes_stms els
  nodes_stm (S.try l body hs els fin) = 1 + nodes_stms body + nodes_handlers hs + nodes_stms els + nodes_stms fin
  nodes_stm (S.with l is body) = 1 + nodes_items is + nodes_stms body
  nodes_stm (S.def l ds dl b x ps r body) = 1 + nodes_decorators ds + nodes_params ps + nodes_opt r + nodes_stms body
  nodes_stm (S.class l ds cl b x base body) = 1 + nodes_decorators ds + nodes_opt base + nodes_stms body
  nodes_stm (S.docstring l) = 1

  pub nodes_stms : Stms → ℕ
  nodes_stms S.none = 0
  nodes_stms (S.more s ss) = nodes_stm s + nodes_stms ss

  pub nodes_branches : Branches → ℕ
  nodes_branches S.no_branches = 0
  nodes_branches (S.branch l c body r) = 1 + nodes_exp c + nodes_stms body + nodes_branches r

  pub nodes_handlers : Handlers → ℕ
  nodes_handlers S.no_handlers = 0
  nodes_handlers (S.handler l c x body r) = 1 + nodes_opt c + nodes_stms body + nodes_handlers r

-- How many expressions stand inside one another, each counted once. A chain of `and`, of `or` or of comparisons is one of them;
-- an argument's star and a clause of a comprehension are none.
abbrev mutual
  pub depth_exp : Exp → ℕ
  depth_exp (S.constant l k) = 1
  depth_exp (S.name l x) = 1
  depth_exp (S.joined l ps) = 1 + depth_pieces ps
  depth_exp (S.tuple l es) = 1 + depth_all es
  depth_exp (S.list l es) = 1 + depth_all es
  depth_exp (S.set l es) = 1 + depth_all es
  depth_exp (S.dict l es) = 1 + depth_entries es
  depth_exp (S.attribute l a x) = 1 + depth_exp a
  depth_exp (S.item l a i) = 1 + max (depth_exp a) (depth_exp i)
  depth_exp (S.slice l a b c) = 1 + max (depth_opt a) (max (depth_opt b) (depth_opt c))
  depth_exp (S.unary l o a) = 1 + depth_exp a
  depth_exp (S.not_of l a) = 1 + depth_exp a
  depth_exp (S.binary l o a b) = 1 + max (depth_exp a) (depth_exp b)
  depth_exp (S.compare l a o b r) = 1 + max (depth_exp a) (max (depth_exp b) (depth_links r))
  depth_exp (S.and l a es) = 1 + max (depth_exp a) (depth_all es)
  depth_exp (S.or l a es) = 1 + max (depth_exp a) (depth_all es)
  depth_exp (S.conditional l c a b) = 1 + max (depth_exp c) (max (depth_exp a) (depth_exp b))
  depth_exp (S.call l f args) = 1 + max (depth_exp f) (depth_args args)
  depth_exp (S.lambda l b ps e) = 1 + max (depth_params ps) (depth_exp e)
  depth_exp (S.comprehension l m fl t it cs) = 1 + max (depth_made m) (max (depth_target t) (max (depth_exp it) (depth_clauses cs)))
  depth_exp (S.generator l b e fl t it cs) = 1 + max (depth_exp e) (max (depth_target t) (max (depth_exp it) (depth_clauses cs)))
  depth_exp (S.yield l v) = 1 + depth_opt v
  depth_exp (S.yield_from l e) = 1 + depth_exp e

  pub depth_all : Exps → ℕ
  depth_all S.no_exps = 0
  depth_all (S.more_exps e es) = max (depth_exp e) (depth_all es)

  pub depth_opt : Opt → ℕ
  depth_opt S.absent = 0
  depth_opt (S.given e) = depth_exp e

  pub depth_pieces : Pieces → ℕ
  depth_pieces S.no_pieces = 0
  depth_pieces (S.literal l t r) = depth_pieces r
  depth_pieces (S.field l e c ps r) = max (depth_exp e) (max (depth_pieces ps) (depth_pieces r))

  pub depth_entries : Entries → ℕ
  depth_entries S.no_entries = 0
  depth_entries (S.entry k v r) = max (depth_exp k) (max (depth_exp v) (depth_entries r))

  pub depth_links : Links → ℕ
  depth_links S.no_links = 0
  depth_links (S.link o b r) = max (depth_exp b) (depth_links r)

  pub depth_args : Args → ℕ
  depth_args S.no_args = 0
  depth_args (S.positional e r) = max (depth_exp e) (depth_args r)
  depth_args (S.named x e r) = max (depth_exp e) (depth_args r)
  depth_args (S.spread e r) = max (depth_exp e) (depth_args r)
  depth_args (S.spread_named e r) = max (depth_exp e) (depth_args r)

  pub depth_made : Made → ℕ
  depth_made (S.a_list e) = depth_exp e
  depth_made (S.a_set e) = depth_exp e
  depth_made (S.a_dict k v) = max (depth_exp k) (depth_exp v)

  pub depth_clauses : Clauses → ℕ
  depth_clauses S.no_clauses = 0
  depth_clauses (S.only_if c cs) = max (depth_exp c) (depth_clauses cs)
  depth_clauses (S.for_each fl t it cs) = max (depth_target t) (max (depth_exp it) (depth_clauses cs))

  -- a target is counted as the expression that is written like it
  pub depth_place : Place → ℕ
  depth_place (S.name_at l x) = 1
  depth_place (S.attribute_at l a x) = 1 + depth_exp a
  depth_place (S.item_at l a i) = 1 + max (depth_exp a) (depth_exp i)

  pub depth_target : Tgt → ℕ
  depth_target (S.single p) = depth_place p
  depth_target (S.several l f ts) = 1 + depth_targets ts
  depth_target (S.starred l t) = depth_target t

  pub depth_targets : Tgts → ℕ
  depth_targets S.no_targets = 0
  depth_targets (S.more_targets t ts) = max (depth_target t) (depth_targets ts)

  pub depth_params : Params → ℕ
  depth_params (S.parameters ps s ks d) = max (depth_formals ps) (depth_formals ks)

  pub depth_formals : Formals → ℕ
  depth_formals S.no_formals = 0
  depth_formals (S.formal l x a d r) = max (depth_opt a) (max (depth_opt d) (depth_formals r))
