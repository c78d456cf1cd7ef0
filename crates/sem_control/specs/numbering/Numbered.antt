-- The numbers that the nodes of a tree give to the blocks which they start, in the order in which the nodes start, an outer one before an inner
-- one. Annotations have none.
use Rattle.std.specs.Prelude.{◌≡◌, ℕ, suc, List, [], ◌∷◌, ◌++◌, Option, Some, None}
use Rattle.pt_tree.specs.Syntax as S
use Rattle.pt_tree.specs.Syntax.{Exp, Exps, Opt, Pieces, Entries, Links, Args, Made, Clauses, Place, Tgt, Tgts, Params, Formals, Decorators, Items, Stm, Stms, Branches, Handlers}
use Rattle.pt_tree.specs.Blocks.{blocks_stms}

abbrev mutual
  pub numbers_exp : Exp → List ℕ
  numbers_exp (S.constant l k) = []
  numbers_exp (S.name l x) = []
  numbers_exp (S.joined l ps) = numbers_pieces ps
  numbers_exp (S.tuple l es) = numbers_all es
  numbers_exp (S.list l es) = numbers_all es
  numbers_exp (S.set l es) = numbers_all es
  numbers_exp (S.dict l es) = numbers_entries es
  numbers_exp (S.attribute l a x) = numbers_exp a
  numbers_exp (S.item l a i) = numbers_exp a ++ numbers_exp i
  numbers_exp (S.slice l a b c) = numbers_opt a ++ numbers_opt b ++ numbers_opt c
  numbers_exp (S.unary l o a) = numbers_exp a
  numbers_exp (S.not_of l a) = numbers_exp a
  numbers_exp (S.binary l o a b) = numbers_exp a ++ numbers_exp b
  numbers_exp (S.compare l a o b r) = numbers_exp a ++ numbers_exp b ++ numbers_links r
  numbers_exp (S.and l a es) = numbers_exp a ++ numbers_all es
  numbers_exp (S.or l a es) = numbers_exp a ++ numbers_all es
  numbers_exp (S.conditional l c a b) = numbers_exp a ++ numbers_exp c ++ numbers_exp b
  numbers_exp (S.call l f args) = numbers_exp f ++ numbers_args args
  numbers_exp (S.lambda l b ps e) = (b ∷ []) ++ numbers_params ps ++ numbers_exp e
  numbers_exp (S.comprehension l m fl t it cs) = numbers_made m ++ numbers_target t ++ numbers_exp it ++ numbers_clauses cs
  numbers_exp (S.generator l b e fl t it cs) = (b ∷ []) ++ numbers_exp e ++ numbers_target t ++ numbers_exp it ++ numbers_clauses cs
  numbers_exp (S.yield l v) = numbers_opt v
  numbers_exp (S.yield_from l e) = numbers_exp e

  pub numbers_all : Exps → List ℕ
  numbers_all S.no_exps = []
  numbers_all (S.more_exps e es) = numbers_exp e ++ numbers_all es

  pub numbers_opt : Opt → List ℕ
  numbers_opt S.absent = []
  numbers_opt (S.given e) = numbers_exp e

  pub numbers_pieces : Pieces → List ℕ
  numbers_pieces S.no_pieces = []
  numbers_pieces (S.literal l t r) = numbers_pieces r
  numbers_pieces (S.field l e c ps r) = numbers_exp e ++ numbers_pieces ps ++ numbers_pieces r

  pub numbers_entries : Entries → List ℕ
  numbers_entries S.no_entries = []
  numbers_entries (S.entry k v r) = numbers_exp k ++ numbers_exp v ++ numbers_entries r

  pub numbers_links : Links → List ℕ
  numbers_links S.no_links = []
  numbers_links (S.link o b r) = numbers_exp b ++ numbers_links r

  pub numbers_args : Args → List ℕ
  numbers_args S.no_args = []
  numbers_args (S.positional e r) = numbers_exp e ++ numbers_args r
  numbers_args (S.named x e r) = numbers_exp e ++ numbers_args r
  numbers_args (S.spread e r) = numbers_exp e ++ numbers_args r
  numbers_args (S.spread_named e r) = numbers_exp e ++ numbers_args r

  pub numbers_made : Made → List ℕ
  numbers_made (S.a_list e) = numbers_exp e
  numbers_made (S.a_set e) = numbers_exp e
  numbers_made (S.a_dict k v) = numbers_exp k ++ numbers_exp v

  pub numbers_clauses : Clauses → List ℕ
  numbers_clauses S.no_clauses = []
  numbers_clauses (S.only_if c cs) = numbers_exp c ++ numbers_clauses cs
  numbers_clauses (S.for_each fl t it cs) = numbers_target t ++ numbers_exp it ++ numbers_clauses cs

  pub numbers_place : Place → List ℕ
  numbers_place (S.name_at l x) = []
  numbers_place (S.attribute_at l a x) = numbers_exp a
  numbers_place (S.item_at l a i) = numbers_exp a ++ numbers_exp i

  pub numbers_target : Tgt → List ℕ
  numbers_target (S.single p) = numbers_place p
  numbers_target (S.several l f ts) = numbers_targets ts
  numbers_target (S.starred l t) = numbers_target t

  pub numbers_targets : Tgts → List ℕ
  numbers_targets S.no_targets = []
  numbers_targets (S.more_targets t ts) = numbers_target t ++ numbers_targets ts

  pub numbers_params : Params → List ℕ
  numbers_params (S.parameters ps s ks d) = numbers_formals ps ++ numbers_formals ks

  -- those of the defaults; annotations don't run
  pub numbers_formals : Formals → List ℕ
  numbers_formals S.no_formals = []
  numbers_formals (S.formal l x a d r) = numbers_opt d ++ numbers_formals r

abbrev pub numbers_decorators : Decorators → List ℕ
numbers_decorators S.no_decorators = []
numbers_decorators (S.decorator l e r) = numbers_exp e ++ numbers_decorators r

abbrev pub numbers_opt_target : Option Tgt → List ℕ
numbers_opt_target None = []
numbers_opt_target (Some t) = numbers_target t

abbrev pub numbers_items : Items → List ℕ
numbers_items S.no_items = []
numbers_items (S.with_item l e t is) = numbers_exp e ++ numbers_opt_target t ++ numbers_items is

abbrev mutual
  pub numbers_stm : Stm → List ℕ
  numbers_stm (S.expr l e) = numbers_exp e
  numbers_stm (S.assign l ts e) = numbers_targets ts ++ numbers_exp e
  numbers_stm (S.augmented l p o e) = numbers_place p ++ numbers_exp e
  numbers_stm (S.annotated l p a v) = numbers_place p ++ numbers_opt v
  numbers_stm (S.assert l c m) = numbers_exp c ++ numbers_opt m
  numbers_stm (S.pass l) = []
  numbers_stm (S.del l ts) = numbers_targets ts
  numbers_stm (S.return l v) = numbers_opt v
  numbers_stm (S.raise l e c) = numbers_exp e ++ numbers_opt c
  numbers_stm (S.raise_again l) = []
  numbers_stm (S.break l) = []
  numbers_stm (S.continue l) = []
  numbers_stm (S.import l xs) = []
  numbers_stm (S.import_from l m xs) = []
  numbers_stm (S.global l xs) = []
  numbers_stm (S.nonlocal l xs) = []
  numbers_stm (S.choice l bs els) = numbers_branches bs ++ numbers_stms els
  numbers_stm (S.while l c body els) = numbers_exp c ++ numbers_stms body ++ numbers_stms els
  numbers_stm (S.for l t it body els) = numbers_target t ++ numbers_exp it ++ numbers_stms body ++ numbers_stms els
  numbers_stm (S.try l body hs els fin) = numbers_stms body ++ numbers_handlers hs ++ numbers_stms els ++ numbers_stms fin
  numbers_stm (S.with l is body) = numbers_items is ++ numbers_stms body
  -- a function or class starts at its keyword, behind its decorators
  numbers_stm (S.def l ds dl b x ps r body) = numbers_decorators ds ++ (b ∷ []) ++ numbers_params ps ++ numbers_stms body
  numbers_stm (S.class l ds cl b x base body) = numbers_decorators ds ++ (b ∷ []) ++ numbers_opt base ++ numbers_stms body
  numbers_stm (S.docstring l) = []

  pub numbers_stms : Stms → List ℕ
  numbers_stms S.none = []
  numbers_stms (S.more s ss) = numbers_stm s ++ numbers_stms ss

  pub numbers_branches : Branches → List ℕ
  numbers_branches S.no_branches = []
  numbers_branches (S.branch l c body r) = numbers_exp c ++ numbers_stms body ++ numbers_branches r

  pub numbers_handlers : Handlers → List ℕ
  numbers_handlers S.no_handlers = []
  numbers_handlers (S.handler l c x body r) = numbers_opt c ++ numbers_stms body ++ numbers_handlers r

-- as many numbers as there are items, one after the other
abbrev pub counted_from : {A : Type 0} → ℕ → List A → List ℕ
counted_from n [] = []
counted_from n (x ∷ xs) = n ∷ counted_from (suc n) xs

-- each block has the number at which it stands among the blocks of the script, of which the module is block 0
abbrev pub IsNumbered : Stms → Type 0
IsNumbered ss = numbers_stms ss ≡ counted_from 1 (blocks_stms ss)
