-- The blocks of a script and what each runs (Language Reference 4.1), in the order in which their nodes start, an outer block before
-- an inner one. Annotations have none.
use Rattle.std.specs.Prelude.{ℕ, Bool, true, false, cond, List, [], ◌∷◌, ◌++◌, map, Option, Some, None, codes}
use Rattle.std.specs.List.{list_any}
use Rattle.std.specs.Option.{unwrap_or}
use Rattle.pt_tree.specs.declared.act.ActRow.{ActRow}
use Rattle.pt_tree.specs.declared.act.ActKind.{ActKind}
use Rattle.pt_tree.specs.declared.act.ActKind.TheVariants as A
use Rattle.pt_tree.specs.declared.expression.Constant.{Constant}
use Rattle.pt_tree.specs.declared.expression.Constant.TheVariants as constant
use Rattle.pt_tree.specs.Syntax as S
use Rattle.pt_tree.specs.Syntax.{Name, Exp, Exps, Opt, Pieces, Entries, Links, Args, Made, Clauses, Place, Tgt, Tgts, Params, Formals, Decorators, Items, Stm, Stms, Branches, Handlers}
use Rattle.pt_tree.specs.Acts.{act, acts_exp, acts_target, acts_clauses, acts_stms}

-- what a block runs
pub data Code : Type 0 where
  of_module : Stms → Code
  of_function : Stms → Code
  of_class : Stms → Code
  of_lambda : (line : ℕ) → Exp → Code
  -- the first iterable is evaluated where the generator is made
  of_generator : (line : ℕ) (item : Exp) (for_line : ℕ) (target : Tgt) (more : Clauses) → Code

pub record Block : Type 0 where
  pub name : Name
  pub first_line : ℕ
  -- the innermost class around, by whose name private names are spelled (6.2.1); a class is around its own body
  pub class : Option Name
  pub params : Params
  pub code : Code

abbrev pub is_text : Constant → Bool
is_text constant.None = false
is_text (constant.Bool b) = false
is_text constant.Ellipsis = false
is_text (constant.Int n) = false
is_text (constant.Str t) = true

abbrev pub is_string : Exp → Bool
is_string (S.constant l k) = is_text k
is_string e = false

abbrev pub first_statement : Stm → Stm
first_statement (S.expr l e) = cond (is_string e) (S.docstring l) (S.expr l e)
first_statement s = s

-- the documentation string of a function doesn't run (Language Reference 8.7)
abbrev pub function_body : Stms → Stms
function_body S.none = S.none
function_body (S.more s ss) = S.more (first_statement s) ss

abbrev pub acts_of_code : Code → List ActRow
acts_of_code (of_module ss) = acts_stms ss
acts_of_code (of_function ss) = acts_stms (function_body ss)
acts_of_code (of_class ss) = acts_stms ss
-- a lambda returns its body on its own line
acts_of_code (of_lambda l e) = acts_exp e ++ act A.Return l
acts_of_code (of_generator l e fl t cs) = act A.Next fl ++ acts_target t ++ acts_clauses l cs ++ acts_exp e ++ act A.Yield l ++ act A.Discard l

abbrev pub acts_of : Block → List ActRow
acts_of b = acts_of_code b.code

-- whether a block gives values on, so that a call of it makes a generator (6.2.9): one of its acts does
abbrev gives_on : ActKind → Bool
gives_on A.Yield = true
gives_on A.Delegate = true
gives_on k = false

abbrev pub yields : Code → Bool
yields code = list_any (λ r. gives_on r.kind) (acts_of_code code)

-- what takes no arguments
abbrev pub no_params : Params
no_params = S.parameters S.no_formals None S.no_formals None

abbrev block : Name → (first_line : ℕ) → (class : Option Name) → Params → Code → List Block
block x l cls ps c = record { name = x; first_line = l; class = cls; params = ps; code = c } ∷ []

-- a block in the body of a class
abbrev pub inside_class : Name → Block → Block
inside_class x b = record b { class = Some (unwrap_or b.class x) }

-- the line of the first decorator, or of the keyword
abbrev pub first_line_of : Decorators → (line : ℕ) → ℕ
first_line_of S.no_decorators l = l
first_line_of (S.decorator dl e r) l = dl

abbrev mutual
  pub blocks_exp : Exp → List Block
  blocks_exp (S.constant l k) = []
  blocks_exp (S.name l x) = []
  blocks_exp (S.joined l ps) = blocks_pieces ps
  blocks_exp (S.tuple l es) = blocks_all es
  blocks_exp (S.list l es) = blocks_all es
  blocks_exp (S.set l es) = blocks_all es
  blocks_exp (S.dict l es) = blocks_entries es
  blocks_exp (S.attribute l a x) = blocks_exp a
  blocks_exp (S.item l a i) = blocks_exp a ++ blocks_exp i
  blocks_exp (S.slice l a b c) = blocks_opt a ++ blocks_opt b ++ blocks_opt c
  blocks_exp (S.unary l o a) = blocks_exp a
  blocks_exp (S.not_of l a) = blocks_exp a
  blocks_exp (S.binary l o a b) = blocks_exp a ++ blocks_exp b
  blocks_exp (S.compare l a o b r) = blocks_exp a ++ blocks_exp b ++ blocks_links r
  blocks_exp (S.and l a es) = blocks_exp a ++ blocks_all es
  blocks_exp (S.or l a es) = blocks_exp a ++ blocks_all es
  blocks_exp (S.conditional l c a b) = blocks_exp a ++ blocks_exp c ++ blocks_exp b
  blocks_exp (S.call l f args) = blocks_exp f ++ blocks_args args
  blocks_exp (S.lambda l b ps e) = block (codes "<lambda>") l None ps (of_lambda l e) ++ blocks_params ps ++ blocks_exp e
  blocks_exp (S.comprehension l m fl t it cs) = blocks_made m ++ blocks_target t ++ blocks_exp it ++ blocks_clauses cs
  blocks_exp (S.generator l b e fl t it cs) = block (codes "<genexpr>") l None no_params (of_generator l e fl t cs) ++ blocks_exp e ++ blocks_target t ++ blocks_exp it ++ blocks_clauses cs
  blocks_exp (S.yield l v) = blocks_opt v
  blocks_exp (S.yield_from l e) = blocks_exp e

  pub blocks_all : Exps → List Block
  blocks_all S.no_exps = []
  blocks_all (S.more_exps e es) = blocks_exp e ++ blocks_all es

  pub blocks_opt : Opt → List Block
  blocks_opt S.absent = []
  blocks_opt (S.given e) = blocks_exp e

  pub blocks_pieces : Pieces → List Block
  blocks_pieces S.no_pieces = []
  blocks_pieces (S.literal l t r) = blocks_pieces r
  blocks_pieces (S.field l e c ps r) = blocks_exp e ++ blocks_pieces ps ++ blocks_pieces r

  pub blocks_entries : Entries → List Block
  blocks_entries S.no_entries = []
  blocks_entries (S.entry k v r) = blocks_exp k ++ blocks_exp v ++ blocks_entries r

  pub blocks_links : Links → List Block
  blocks_links S.no_links = []
  blocks_links (S.link o b r) = blocks_exp b ++ blocks_links r

  pub blocks_args : Args → List Block
  blocks_args S.no_args = []
  blocks_args (S.positional e r) = blocks_exp e ++ blocks_args r
  blocks_args (S.named x e r) = blocks_exp e ++ blocks_args r
  blocks_args (S.spread e r) = blocks_exp e ++ blocks_args r
  blocks_args (S.spread_named e r) = blocks_exp e ++ blocks_args r

  pub blocks_made : Made → List Block
  blocks_made (S.a_list e) = blocks_exp e
  blocks_made (S.a_set e) = blocks_exp e
  blocks_made (S.a_dict k v) = blocks_exp k ++ blocks_exp v

  pub blocks_clauses : Clauses → List Block
  blocks_clauses S.no_clauses = []
  blocks_clauses (S.only_if c cs) = blocks_exp c ++ blocks_clauses cs
  blocks_clauses (S.for_each fl t it cs) = blocks_target t ++ blocks_exp it ++ blocks_clauses cs

  pub blocks_place : Place → List Block
  blocks_place (S.name_at l x) = []
  blocks_place (S.attribute_at l a x) = blocks_exp a
  blocks_place (S.item_at l a i) = blocks_exp a ++ blocks_exp i

  pub blocks_target : Tgt → List Block
  blocks_target (S.single p) = blocks_place p
  blocks_target (S.several l f ts) = blocks_targets ts
  blocks_target (S.starred l t) = blocks_target t

  pub blocks_targets : Tgts → List Block
  blocks_targets S.no_targets = []
  blocks_targets (S.more_targets t ts) = blocks_target t ++ blocks_targets ts

  pub blocks_params : Params → List Block
  blocks_params (S.parameters ps s ks d) = blocks_formals ps ++ blocks_formals ks

  -- those of the defaults; annotations don't run
  pub blocks_formals : Formals → List Block
  blocks_formals S.no_formals = []
  blocks_formals (S.formal l x a d r) = blocks_opt d ++ blocks_formals r

abbrev pub blocks_decorators : Decorators → List Block
blocks_decorators S.no_decorators = []
blocks_decorators (S.decorator l e r) = blocks_exp e ++ blocks_decorators r

abbrev pub blocks_opt_target : Option Tgt → List Block
blocks_opt_target None = []
blocks_opt_target (Some t) = blocks_target t

abbrev pub blocks_items : Items → List Block
blocks_items S.no_items = []
blocks_items (S.with_item l e t is) = blocks_exp e ++ blocks_opt_target t ++ blocks_items is

abbrev mutual
  pub blocks_stm : Stm → List Block
  blocks_stm (S.expr l e) = blocks_exp e
  blocks_stm (S.assign l ts e) = blocks_targets ts ++ blocks_exp e
  blocks_stm (S.augmented l p o e) = blocks_place p ++ blocks_exp e
  blocks_stm (S.annotated l p a v) = blocks_place p ++ blocks_opt v
  blocks_stm (S.assert l c m) = blocks_exp c ++ blocks_opt m
  blocks_stm (S.pass l) = []
  blocks_stm (S.del l ts) = blocks_targets ts
  blocks_stm (S.return l v) = blocks_opt v
  blocks_stm (S.raise l e c) = blocks_exp e ++ blocks_opt c
  blocks_stm (S.raise_again l) = []
  blocks_stm (S.break l) = []
  blocks_stm (S.continue l) = []
  blocks_stm (S.import l xs) = []
  blocks_stm (S.import_from l m xs) = []
  blocks_stm (S.global l xs) = []
  blocks_stm (S.nonlocal l xs) = []
  blocks_stm (S.choice l bs els) = blocks_branches bs ++ blocks_stms els
  blocks_stm (S.while l c body els) = blocks_exp c ++ blocks_stms body ++ blocks_stms els
  blocks_stm (S.for l t it body els) = blocks_target t ++ blocks_exp it ++ blocks_stms body ++ blocks_stms els
  blocks_stm (S.try l body hs els fin) = blocks_stms body ++ blocks_handlers hs ++ blocks_stms els ++ blocks_stms fin
  blocks_stm (S.with l is body) = blocks_items is ++ blocks_stms body
  -- a function or class starts at its keyword, behind its decorators
  blocks_stm (S.def l ds dl b x ps r body) = blocks_decorators ds ++ block x (first_line_of ds dl) None ps (of_function body) ++ blocks_params ps ++ blocks_stms body
  blocks_stm (S.class l ds cl b x base body) =
      blocks_decorators ds ++ block x (first_line_of ds cl) (Some x) no_params (of_class body) ++ blocks_opt base ++ map (inside_class x) (blocks_stms body)
  blocks_stm (S.docstring l) = []

  pub blocks_stms : Stms → List Block
  blocks_stms S.none = []
  blocks_stms (S.more s ss) = blocks_stm s ++ blocks_stms ss

  pub blocks_branches : Branches → List Block
  blocks_branches S.no_branches = []
  blocks_branches (S.branch l c body r) = blocks_exp c ++ blocks_stms body ++ blocks_branches r

  pub blocks_handlers : Handlers → List Block
  blocks_handlers S.no_handlers = []
  blocks_handlers (S.handler l c x body r) = blocks_opt c ++ blocks_stms body ++ blocks_handlers r

-- the module is block 0
abbrev pub blocks_script : Stms → List Block
blocks_script ss = block (codes "<module>") 1 None no_params (of_module ss) ++ blocks_stms ss
