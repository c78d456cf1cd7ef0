-- The numbers of the blocks that a block makes itself, where the nodes in it run: not those that the blocks in it make.
use Rattle.std.specs.Prelude.{ℕ, List, [], ◌∷◌, ◌++◌, Option, Some, None}
use Rattle.pt_tree.specs.Syntax as S
use Rattle.pt_tree.specs.Syntax.{Exp, Exps, Opt, Pieces, Entries, Links, Args, Made, Clauses, Place, Tgt, Tgts, Params, Formals, Decorators, Items, Stm, Stms, Branches, Handlers}
use Rattle.pt_tree.specs.Blocks as B
use Rattle.pt_tree.specs.Blocks.{Code}

abbrev mutual
  pub made_exp : Exp → List ℕ
  made_exp (S.constant l k) = []
  made_exp (S.name l x) = []
  made_exp (S.joined l ps) = made_pieces ps
  made_exp (S.tuple l es) = made_all es
  made_exp (S.list l es) = made_all es
  made_exp (S.set l es) = made_all es
  made_exp (S.dict l es) = made_entries es
  made_exp (S.attribute l a x) = made_exp a
  made_exp (S.item l a i) = made_exp a ++ made_exp i
  made_exp (S.slice l a b c) = made_opt a ++ made_opt b ++ made_opt c
  made_exp (S.unary l o a) = made_exp a
  made_exp (S.not_of l a) = made_exp a
  made_exp (S.binary l o a b) = made_exp a ++ made_exp b
  made_exp (S.compare l a o b r) = made_exp a ++ made_exp b ++ made_links r
  made_exp (S.and l a es) = made_exp a ++ made_all es
  made_exp (S.or l a es) = made_exp a ++ made_all es
  made_exp (S.conditional l c a b) = made_exp a ++ made_exp c ++ made_exp b
  made_exp (S.call l f args) = made_exp f ++ made_args args
  made_exp (S.lambda l b ps e) = (b ∷ []) ++ made_params ps
  made_exp (S.comprehension l m fl t it cs) = made_made m ++ made_target t ++ made_exp it ++ made_clauses cs
  made_exp (S.generator l b e fl t it cs) = (b ∷ []) ++ made_exp it
  made_exp (S.yield l v) = made_opt v
  made_exp (S.yield_from l e) = made_exp e

  pub made_all : Exps → List ℕ
  made_all S.no_exps = []
  made_all (S.more_exps e es) = made_exp e ++ made_all es

  pub made_opt : Opt → List ℕ
  made_opt S.absent = []
  made_opt (S.given e) = made_exp e

  pub made_pieces : Pieces → List ℕ
  made_pieces S.no_pieces = []
  made_pieces (S.literal l t r) = made_pieces r
  made_pieces (S.field l e c ps r) = made_exp e ++ made_pieces ps ++ made_pieces r

  pub made_entries : Entries → List ℕ
  made_entries S.no_entries = []
  made_entries (S.entry k v r) = made_exp k ++ made_exp v ++ made_entries r

  pub made_links : Links → List ℕ
  made_links S.no_links = []
  made_links (S.link o b r) = made_exp b ++ made_links r

  pub made_args : Args → List ℕ
  made_args S.no_args = []
  made_args (S.positional e r) = made_exp e ++ made_args r
  made_args (S.named x e r) = made_exp e ++ made_args r
  made_args (S.spread e r) = made_exp e ++ made_args r
  made_args (S.spread_named e r) = made_exp e ++ made_args r

  pub made_made : Made → List ℕ
  made_made (S.a_list e) = made_exp e
  made_made (S.a_set e) = made_exp e
  made_made (S.a_dict k v) = made_exp k ++ made_exp v

  pub made_clauses : Clauses → List ℕ
  made_clauses S.no_clauses = []
  made_clauses (S.only_if c cs) = made_exp c ++ made_clauses cs
  made_clauses (S.for_each fl t it cs) = made_target t ++ made_exp it ++ made_clauses cs

  pub made_place : Place → List ℕ
  made_place (S.name_at l x) = []
  made_place (S.attribute_at l a x) = made_exp a
  made_place (S.item_at l a i) = made_exp a ++ made_exp i

  pub made_target : Tgt → List ℕ
  made_target (S.single p) = made_place p
  made_target (S.several l f ts) = made_targets ts
  made_target (S.starred l t) = made_target t

  pub made_targets : Tgts → List ℕ
  made_targets S.no_targets = []
  made_targets (S.more_targets t ts) = made_target t ++ made_targets ts

  pub made_params : Params → List ℕ
  made_params (S.parameters ps s ks d) = made_formals ps ++ made_formals ks

  -- those of the defaults; annotations don't run
  pub made_formals : Formals → List ℕ
  made_formals S.no_formals = []
  made_formals (S.formal l x a d r) = made_opt d ++ made_formals r

abbrev pub made_decorators : Decorators → List ℕ
made_decorators S.no_decorators = []
made_decorators (S.decorator l e r) = made_exp e ++ made_decorators r

abbrev pub made_opt_target : Option Tgt → List ℕ
made_opt_target None = []
made_opt_target (Some t) = made_target t

abbrev pub made_items : Items → List ℕ
made_items S.no_items = []
made_items (S.with_item l e t is) = made_exp e ++ made_opt_target t ++ made_items is

abbrev mutual
  pub made_stm : Stm → List ℕ
  made_stm (S.expr l e) = made_exp e
  made_stm (S.assign l ts e) = made_targets ts ++ made_exp e
  made_stm (S.augmented l p o e) = made_place p ++ made_exp e
  made_stm (S.annotated l p a v) = made_place p ++ made_opt v
  made_stm (S.assert l c m) = made_exp c ++ made_opt m
  made_stm (S.pass l) = []
  made_stm (S.del l ts) = made_targets ts
  made_stm (S.return l v) = made_opt v
  made_stm (S.raise l e c) = made_exp e ++ made_opt c
  made_stm (S.raise_again l) = []
  made_stm (S.break l) = []
  made_stm (S.continue l) = []
  made_stm (S.import l xs) = []
  made_stm (S.import_from l m xs) = []
  made_stm (S.global l xs) = []
  made_stm (S.nonlocal l xs) = []
  made_stm (S.choice l bs els) = made_branches bs ++ made_stms els
  made_stm (S.while l c body els) = made_exp c ++ made_stms body ++ made_stms els
  made_stm (S.for l t it body els) = made_target t ++ made_exp it ++ made_stms body ++ made_stms els
  made_stm (S.try l body hs els fin) = made_stms body ++ made_handlers hs ++ made_stms els ++ made_stms fin
  made_stm (S.with l is body) = made_items is ++ made_stms body
  -- a function or class starts at its keyword, behind its decorators
  made_stm (S.def l ds dl b x ps r body) = made_decorators ds ++ (b ∷ []) ++ made_params ps
  made_stm (S.class l ds cl b x base body) = made_decorators ds ++ (b ∷ []) ++ made_opt base
  made_stm (S.docstring l) = []

  pub made_stms : Stms → List ℕ
  made_stms S.none = []
  made_stms (S.more s ss) = made_stm s ++ made_stms ss

  pub made_branches : Branches → List ℕ
  made_branches S.no_branches = []
  made_branches (S.branch l c body r) = made_exp c ++ made_stms body ++ made_branches r

  pub made_handlers : Handlers → List ℕ
  made_handlers S.no_handlers = []
  made_handlers (S.handler l c x body r) = made_opt c ++ made_stms body ++ made_handlers r

-- those that what a block runs makes
abbrev pub made_code : Code → List ℕ
made_code (B.of_module ss) = made_stms ss
made_code (B.of_function ss) = made_stms ss
made_code (B.of_class ss) = made_stms ss
made_code (B.of_lambda l e) = made_exp e
made_code (B.of_generator l e k t cs) = made_exp e ++ made_target t ++ made_clauses cs
