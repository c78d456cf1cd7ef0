-- The places in each part of a script at which names are bound, declared and read, each with its region, in source order
-- (Language Reference 4.2.1, 6.2.4, 7.12, 7.13, 8.7, 8.8). Annotations count for nothing.
use Rattle.std.specs.Prelude.{ℕ, List, [], ◌∷◌, Option, Some, None, if◌then◌else◌}
use Rattle.pt_scopes.specs.declared.region.Context.{Context}
use Rattle.pt_scopes.specs.declared.region.Role.{Role}
use Rattle.pt_scopes.specs.declared.region.Role.TheVariants.{Read, Bind, Parameter, Global, Nonlocal}
use Rattle.pt_scopes.specs.Places.{Places, Part, joined, ◌⨾◌, nothing, mention, misplaced, loop_context, in_function, in_generator, in_class, in_comprehension, module_context, only_module}
use Rattle.pt_scopes.specs.Names.{mangled}
use Rattle.pt_tree.specs.declared.expression.NamedParameter.{NamedParameter}
use Rattle.pt_tree.specs.declared.statement.Alias.{Alias}
use Rattle.pt_tree.specs.Syntax as S
use Rattle.pt_tree.specs.Syntax.{Name, Exp, Exps, Opt, Pieces, Entries, Links, Args, Made, Clauses, Place, Tgt, Tgts, Params, Formals, Decorators, Items, Stm, Stms, Branches, Handlers}

-- a name in the body of the class c, which is empty outside of classes
abbrev pub tells : Role → Context → (c : Name) → Name → (line : ℕ) → Part
tells r a c x l = mention r a (mangled c x) l

-- a `return` or `yield` stands in a function, and in no part of a comprehension but its first iterable
abbrev pub gives : Context → (line : ℕ) → Part
gives a l = if a.may_give then nothing else misplaced a l

-- `break` and `continue`
abbrev pub turns : Context → (line : ℕ) → Part
turns a l = if a.in_loop then nothing else misplaced a l

abbrev pub places_named_parameter : Context → Name → Option NamedParameter → Part
places_named_parameter b c None = nothing
places_named_parameter b c (Some p) = tells Parameter b c p.name p.line.0

abbrev mutual
  pub places_exp : Context → Name → Exp → Part
  places_exp a c (S.constant l k) = nothing
  places_exp a c (S.name l x) = tells Read a c x l
  places_exp a c (S.joined l ps) = places_pieces a c ps
  places_exp a c (S.tuple l es) = places_all a c es
  places_exp a c (S.list l es) = places_all a c es
  places_exp a c (S.set l es) = places_all a c es
  places_exp a c (S.dict l es) = places_entries a c es
  places_exp a c (S.attribute l e x) = places_exp a c e
  places_exp a c (S.item l e i) = places_exp a c e ⨾ places_exp a c i
  places_exp a c (S.slice l e f g) = places_opt a c e ⨾ places_opt a c f ⨾ places_opt a c g
  places_exp a c (S.unary l o e) = places_exp a c e
  places_exp a c (S.not_of l e) = places_exp a c e
  places_exp a c (S.binary l o e f) = places_exp a c e ⨾ places_exp a c f
  places_exp a c (S.compare l e o f r) = places_exp a c e ⨾ places_exp a c f ⨾ places_links a c r
  places_exp a c (S.and l e es) = places_exp a c e ⨾ places_all a c es
  places_exp a c (S.or l e es) = places_exp a c e ⨾ places_all a c es
  places_exp a c (S.conditional l t e f) = places_exp a c e ⨾ places_exp a c t ⨾ places_exp a c f
  places_exp a c (S.call l f args) = places_exp a c f ⨾ places_args a c args
  places_exp a c (S.lambda l n ps e) = in_function a (λ b. places_params a b c ps ⨾ places_exp b c e)
  -- the first iterable stands outside
  places_exp a c (S.comprehension l m fl t it cs) = in_comprehension a (λ b. places_made b c m ⨾ places_target b c t ⨾ places_exp a c it ⨾ places_clauses b c cs)
  places_exp a c (S.generator l n e fl t it cs) = in_generator a (λ b. places_exp b c e ⨾ places_target b c t ⨾ places_exp a c it ⨾ places_clauses b c cs)
  places_exp a c (S.yield l v) = gives a l ⨾ places_opt a c v
  places_exp a c (S.yield_from l e) = gives a l ⨾ places_exp a c e

  pub places_all : Context → Name → Exps → Part
  places_all a c S.no_exps = nothing
  places_all a c (S.more_exps e es) = places_exp a c e ⨾ places_all a c es

  pub places_opt : Context → Name → Opt → Part
  places_opt a c S.absent = nothing
  places_opt a c (S.given e) = places_exp a c e

  pub places_pieces : Context → Name → Pieces → Part
  places_pieces a c S.no_pieces = nothing
  places_pieces a c (S.literal l t r) = places_pieces a c r
  places_pieces a c (S.field l e k ps r) = places_exp a c e ⨾ places_pieces a c ps ⨾ places_pieces a c r

  pub places_entries : Context → Name → Entries → Part
  places_entries a c S.no_entries = nothing
  places_entries a c (S.entry k v r) = places_exp a c k ⨾ places_exp a c v ⨾ places_entries a c r

  pub places_links : Context → Name → Links → Part
  places_links a c S.no_links = nothing
  places_links a c (S.link o e r) = places_exp a c e ⨾ places_links a c r

  -- the name of an argument is no name of the block
  pub places_args : Context → Name → Args → Part
  places_args a c S.no_args = nothing
  places_args a c (S.positional e r) = places_exp a c e ⨾ places_args a c r
  places_args a c (S.named x e r) = places_exp a c e ⨾ places_args a c r
  places_args a c (S.spread e r) = places_exp a c e ⨾ places_args a c r
  places_args a c (S.spread_named e r) = places_exp a c e ⨾ places_args a c r

  pub places_made : Context → Name → Made → Part
  places_made a c (S.a_list e) = places_exp a c e
  places_made a c (S.a_set e) = places_exp a c e
  places_made a c (S.a_dict k v) = places_exp a c k ⨾ places_exp a c v

  pub places_clauses : Context → Name → Clauses → Part
  places_clauses a c S.no_clauses = nothing
  places_clauses a c (S.only_if e cs) = places_exp a c e ⨾ places_clauses a c cs
  places_clauses a c (S.for_each fl t it cs) = places_target a c t ⨾ places_exp a c it ⨾ places_clauses a c cs

  -- what is assigned to, deleted, or is the target of a `for`
  pub places_place : Context → Name → Place → Part
  places_place a c (S.name_at l x) = tells Bind a c x l
  places_place a c (S.attribute_at l e x) = places_exp a c e
  places_place a c (S.item_at l e i) = places_exp a c e ⨾ places_exp a c i

  pub places_target : Context → Name → Tgt → Part
  places_target a c (S.single p) = places_place a c p
  places_target a c (S.several l f ts) = places_targets a c ts
  places_target a c (S.starred l t) = places_target a c t

  pub places_targets : Context → Name → Tgts → Part
  places_targets a c S.no_targets = nothing
  places_targets a c (S.more_targets t ts) = places_target a c t ⨾ places_targets a c ts

  -- parameters are names of the function, and their defaults stand outside of it
  pub places_params : (outside inside : Context) → Name → Params → Part
  places_params a b c (S.parameters ps s ks d) = places_formals a b c ps ⨾ places_named_parameter b c s ⨾ places_formals a b c ks ⨾ places_named_parameter b c d

  pub places_formals : (outside inside : Context) → Name → Formals → Part
  places_formals a b c S.no_formals = nothing
  places_formals a b c (S.formal l x n d r) = tells Parameter b c x l ⨾ places_opt a c d ⨾ places_formals a b c r

-- the conditions of a clause
abbrev pub places_conditions : Context → Name → List Exp → Part
places_conditions a c [] = nothing
places_conditions a c (e ∷ es) = places_exp a c e ⨾ places_conditions a c es

abbrev pub places_decorators : Context → Name → Decorators → Part
places_decorators a c S.no_decorators = nothing
places_decorators a c (S.decorator l e r) = places_exp a c e ⨾ places_decorators a c r

abbrev pub places_opt_target : Context → Name → Option Tgt → Part
places_opt_target a c None = nothing
places_opt_target a c (Some t) = places_target a c t

abbrev pub places_items : Context → Name → Items → Part
places_items a c S.no_items = nothing
places_items a c (S.with_item l e t is) = places_exp a c e ⨾ places_opt_target a c t ⨾ places_items a c is

-- a handler's `as`
abbrev pub places_named : Context → Name → (line : ℕ) → Option Name → Part
places_named a c l None = nothing
places_named a c l (Some x) = tells Bind a c x l

-- the name that an import binds
abbrev pub bound_name : Name → Option Name → Name
bound_name x None = x
bound_name x (Some y) = y

abbrev pub places_imports : Context → Name → (line : ℕ) → List Alias → Part
places_imports a c l [] = nothing
places_imports a c l (x ∷ xs) = tells Bind a c (bound_name x.name x.alias) l ⨾ places_imports a c l xs

abbrev pub places_names : Role → Context → Name → (line : ℕ) → List Name → Part
places_names r a c l [] = nothing
places_names r a c l (x ∷ xs) = tells r a c x l ⨾ places_names r a c l xs

abbrev mutual
  pub places_stm : Context → Name → Stm → Part
  places_stm a c (S.expr l e) = places_exp a c e
  places_stm a c (S.assign l ts e) = places_targets a c ts ⨾ places_exp a c e
  places_stm a c (S.augmented l p o e) = places_place a c p ⨾ places_exp a c e
  places_stm a c (S.annotated l p n v) = places_place a c p ⨾ places_opt a c v
  places_stm a c (S.assert l e m) = places_exp a c e ⨾ places_opt a c m
  places_stm a c (S.pass l) = nothing
  places_stm a c (S.del l ts) = places_targets a c ts
  places_stm a c (S.return l v) = gives a l ⨾ places_opt a c v
  places_stm a c (S.raise l e f) = places_exp a c e ⨾ places_opt a c f
  places_stm a c (S.raise_again l) = nothing
  places_stm a c (S.break l) = turns a l
  places_stm a c (S.continue l) = turns a l
  places_stm a c (S.import l xs) = places_imports a c l xs
  places_stm a c (S.import_from l m xs) = places_imports a c l xs
  places_stm a c (S.global l xs) = places_names Global a c l xs
  places_stm a c (S.nonlocal l xs) = places_names Nonlocal a c l xs
  places_stm a c (S.choice l bs els) = places_branches a c bs ⨾ places_stms a c els
  places_stm a c (S.while l e body els) = places_exp a c e ⨾ places_stms (loop_context a) c body ⨾ places_stms a c els
  places_stm a c (S.for l t e body els) = places_target a c t ⨾ places_exp a c e ⨾ places_stms (loop_context a) c body ⨾ places_stms a c els
  places_stm a c (S.try l body hs els fin) = places_stms a c body ⨾ places_handlers a c hs ⨾ places_stms a c els ⨾ places_stms a c fin
  places_stm a c (S.with l is body) = places_items a c is ⨾ places_stms a c body
  places_stm a c (S.def l ds dl n x ps r body) = places_decorators a c ds ⨾ tells Bind a c x dl ⨾ in_function a (λ b. places_params a b c ps ⨾ places_stms b c body)
  -- the base stands outside of the class
  places_stm a c (S.class l ds cl n x base body) = places_decorators a c ds ⨾ tells Bind a c x cl ⨾ in_class a (λ b. places_opt a c base ⨾ places_stms b x body)
  places_stm a c (S.docstring l) = nothing

  pub places_stms : Context → Name → Stms → Part
  places_stms a c S.none = nothing
  places_stms a c (S.more s ss) = places_stm a c s ⨾ places_stms a c ss

  pub places_branches : Context → Name → Branches → Part
  places_branches a c S.no_branches = nothing
  places_branches a c (S.branch l e body r) = places_exp a c e ⨾ places_stms a c body ⨾ places_branches a c r

  pub places_handlers : Context → Name → Handlers → Part
  places_handlers a c S.no_handlers = nothing
  places_handlers a c (S.handler l e x body r) = places_opt a c e ⨾ places_named a c l x ⨾ places_stms a c body ⨾ places_handlers a c r

abbrev pub places_script : Stms → Places
places_script ss = joined only_module (places_stms module_context [] ss 1)
