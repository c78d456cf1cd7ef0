-- The texts of a script's constants, each once, in the order in which they stand: those that acts
-- give. A documentation string of a function and what stands in an annotation aren't among them.
use Rattle.std.specs.Prelude.{ℕ, not, List, [], ◌∷◌, ◌++◌, filter, Option, Some, None}
use Rattle.std.specs.Str.{bytes_eq}
use Rattle.pt_tree.specs.declared.expression.Constant.{Constant}
use Rattle.pt_tree.specs.declared.expression.Constant.TheVariants as constant
use Rattle.pt_tree.specs.Syntax as S
use Rattle.pt_tree.specs.Syntax.{Exp, Exps, Opt, Pieces, Entries, Links, Args, Made, Clauses, Place}
use Rattle.pt_tree.specs.Syntax.{Tgt, Tgts, Params, Formals, Decorators, Items, Stm, Stms, Branches}
use Rattle.pt_tree.specs.Syntax.{Handlers}

abbrev pub Texts : Type 0
Texts = List (List ℕ)

abbrev pub of_constant : Constant → Texts
of_constant (constant.Str t) = t ∷ []
of_constant k = []

abbrev mutual
  pub of_exp : Exp → Texts
  of_exp (S.constant l k) = of_constant k
  of_exp (S.name l x) = []
  of_exp (S.joined l ps) = of_pieces ps
  of_exp (S.tuple l es) = of_all es
  of_exp (S.list l es) = of_all es
  of_exp (S.set l es) = of_all es
  of_exp (S.dict l es) = of_entries es
  of_exp (S.attribute l a x) = of_exp a
  of_exp (S.item l a i) = of_exp a ++ of_exp i
  of_exp (S.slice l a b c) = of_opt a ++ of_opt b ++ of_opt c
  of_exp (S.unary l o a) = of_exp a
  of_exp (S.not_of l a) = of_exp a
  of_exp (S.binary l o a b) = of_exp a ++ of_exp b
  of_exp (S.compare l a o b r) = of_exp a ++ of_exp b ++ of_links r
  of_exp (S.and l a es) = of_exp a ++ of_all es
  of_exp (S.or l a es) = of_exp a ++ of_all es
  of_exp (S.conditional l c a b) = of_exp a ++ of_exp c ++ of_exp b
  of_exp (S.call l f args) = of_exp f ++ of_args args
  of_exp (S.lambda l b ps e) = of_params ps ++ of_exp e
  of_exp (S.comprehension l m fl t it cs) =
      of_made m ++ of_target t ++ of_exp it ++ of_clauses cs
  of_exp (S.generator l b e fl t it cs) = of_exp e ++ of_target t ++ of_exp it ++ of_clauses cs
  of_exp (S.yield l v) = of_opt v
  of_exp (S.yield_from l e) = of_exp e

  pub of_all : Exps → Texts
  of_all S.no_exps = []
  of_all (S.more_exps e es) = of_exp e ++ of_all es

  pub of_opt : Opt → Texts
  of_opt S.absent = []
  of_opt (S.given e) = of_exp e

  pub of_pieces : Pieces → Texts
  of_pieces S.no_pieces = []
  of_pieces (S.literal l t r) = t ∷ of_pieces r
  of_pieces (S.field l e c ps r) = of_exp e ++ of_pieces ps ++ of_pieces r

  pub of_entries : Entries → Texts
  of_entries S.no_entries = []
  of_entries (S.entry k v r) = of_exp k ++ of_exp v ++ of_entries r

  pub of_links : Links → Texts
  of_links S.no_links = []
  of_links (S.link o b r) = of_exp b ++ of_links r

  pub of_args : Args → Texts
  of_args S.no_args = []
  of_args (S.positional e r) = of_exp e ++ of_args r
  of_args (S.named x e r) = of_exp e ++ of_args r
  of_args (S.spread e r) = of_exp e ++ of_args r
  of_args (S.spread_named e r) = of_exp e ++ of_args r

  pub of_made : Made → Texts
  of_made (S.a_list e) = of_exp e
  of_made (S.a_set e) = of_exp e
  of_made (S.a_dict k v) = of_exp k ++ of_exp v

  pub of_clauses : Clauses → Texts
  of_clauses S.no_clauses = []
  of_clauses (S.only_if c cs) = of_exp c ++ of_clauses cs
  of_clauses (S.for_each fl t it cs) = of_target t ++ of_exp it ++ of_clauses cs

  pub of_place : Place → Texts
  of_place (S.name_at l x) = []
  of_place (S.attribute_at l a x) = of_exp a
  of_place (S.item_at l a i) = of_exp a ++ of_exp i

  pub of_target : Tgt → Texts
  of_target (S.single p) = of_place p
  of_target (S.several l f ts) = of_targets ts
  of_target (S.starred l t) = of_target t

  pub of_targets : Tgts → Texts
  of_targets S.no_targets = []
  of_targets (S.more_targets t ts) = of_target t ++ of_targets ts

  pub of_params : Params → Texts
  of_params (S.parameters ps s ks d) = of_formals ps ++ of_formals ks

  pub of_formals : Formals → Texts
  of_formals S.no_formals = []
  of_formals (S.formal l x a d r) = of_opt d ++ of_formals r

abbrev pub of_decorators : Decorators → Texts
of_decorators S.no_decorators = []
of_decorators (S.decorator l e r) = of_exp e ++ of_decorators r

abbrev pub of_opt_target : Option Tgt → Texts
of_opt_target None = []
of_opt_target (Some t) = of_target t

abbrev pub of_items : Items → Texts
of_items S.no_items = []
of_items (S.with_item l e t is) = of_exp e ++ of_opt_target t ++ of_items is

-- the target of an annotation without a value isn't evaluated
abbrev pub of_annotated : Place → Opt → Texts
of_annotated p S.absent = []
of_annotated p (S.given e) = of_place p ++ of_exp e

abbrev mutual
  pub of_stm : Stm → Texts
  of_stm (S.expr l e) = of_exp e
  of_stm (S.assign l ts e) = of_targets ts ++ of_exp e
  of_stm (S.augmented l p o e) = of_place p ++ of_exp e
  of_stm (S.annotated l p a v) = of_annotated p v
  of_stm (S.assert l c m) = of_exp c ++ of_opt m
  of_stm (S.pass l) = []
  of_stm (S.del l ts) = of_targets ts
  of_stm (S.return l v) = of_opt v
  of_stm (S.raise l e c) = of_exp e ++ of_opt c
  of_stm (S.raise_again l) = []
  of_stm (S.break l) = []
  of_stm (S.continue l) = []
  of_stm (S.import l xs) = []
  of_stm (S.import_from l m xs) = []
  of_stm (S.global l xs) = []
  of_stm (S.nonlocal l xs) = []
  of_stm (S.choice l bs els) = of_branches bs ++ of_stms els
  of_stm (S.while l c body els) = of_exp c ++ of_stms body ++ of_stms els
  of_stm (S.for l t it body els) = of_target t ++ of_exp it ++ of_stms body ++ of_stms els
  of_stm (S.try l body hs els fin) = of_stms body ++ of_handlers hs ++ of_stms els ++ of_stms fin
  of_stm (S.with l is body) = of_items is ++ of_stms body
  of_stm (S.def l ds dl b x ps r body) = of_decorators ds ++ of_params ps ++ of_function body
  of_stm (S.class l ds cl b x base body) = of_decorators ds ++ of_opt base ++ of_stms body
  of_stm (S.docstring l) = []

  pub of_stms : Stms → Texts
  of_stms S.none = []
  of_stms (S.more s ss) = of_stm s ++ of_stms ss

  -- a documentation string has no act
  pub of_function : Stms → Texts
  of_function S.none = []
  of_function (S.more (S.expr l (S.constant k (constant.Str t))) ss) = of_stms ss
  of_function (S.more s ss) = of_stm s ++ of_stms ss

  pub of_branches : Branches → Texts
  of_branches S.no_branches = []
  of_branches (S.branch l c body r) = of_exp c ++ of_stms body ++ of_branches r

  pub of_handlers : Handlers → Texts
  of_handlers S.no_handlers = []
  of_handlers (S.handler l c x body r) = of_opt c ++ of_stms body ++ of_handlers r

abbrev pub distinct : Texts → Texts
distinct [] = []
distinct (t ∷ ts) = t ∷ filter (λ u. not (bytes_eq t u)) (distinct ts)

abbrev pub texts_of : Stms → Texts
texts_of ss = distinct (of_stms ss)
