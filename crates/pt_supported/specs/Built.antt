-- Which forms of the language are supported, and the line of the first node of a script that isn't: a node comes before its parts, and parts
-- come in the order of the source. Annotations aren't looked at, since they never run. A part without a line of its own, as an argument, a link
-- of a comparison, a declared name or one that is imported, is told with the node that it belongs to.
use Rattle.std.specs.Prelude.{◌≡◌, ◌&&◌, ◌||◌, ℕ, List, Bool, true, false, not, Option, Some, None, bytes_eq, codes, if◌then◌else◌}
use Rattle.std.specs.List.{list_any}
use Rattle.std.specs.Option.{option_or}
use Rattle.pt_tree.specs.declared.expression.NamedParameter.{NamedParameter}
use Rattle.pt_tree.specs.declared.statement.Alias.{Alias}
use Rattle.pt_tree.specs.Syntax as S
use Rattle.pt_tree.specs.Syntax.{Name, Exp, Exps, Opt, Pieces, Entries, Links, Args, Made, Clauses, Place, Tgt, Tgts, Params, Formals, Decorators, Items, Stm, Stms, Branches, Handlers}
use Rattle.pt_builtins.specs.pt_host.Builtins as builtins
use Rattle.pt_builtins.specs.pt_host.Builtins.{Builtin, builtin}
use Rattle.pt_builtins.specs.Lookups.{is_unbuilt_name}

-- whether a run has what a name means by itself, if it means something
abbrev pub is_there : Builtin → Bool
is_there (builtins.is v) = true
is_there builtins.unavailable = false
is_there builtins.no_builtin = true

-- a builtin that runs don't have is missed where it is read; one that is to be written in Python is unsupported wherever its name stands, also where
-- it is bound
abbrev pub is_meant : Name → Bool
is_meant x = is_there (builtin x) || is_unbuilt_name x

-- The keyword, which is a name where it is written in other letters that stand for the same (2.3). As a name of a comprehension it would have in code
-- the name under which a class stands in a cell, and so it is unsupported.
abbrev pub class_word : Name
class_word = codes "class"

unfoldable pub is_available : Name → Bool
is_available x = not (bytes_eq x class_word) && is_meant x

abbrev pub are_available : List Name → Bool
are_available xs = not (list_any (λ x. not (is_available x)) xs)

abbrev pub is_available_if : Option Name → Bool
is_available_if None = true
is_available_if (Some x) = is_available x

-- the name that an import binds, if it has an alias and if it has none
abbrev pub is_either_available : Name → (alias : Option Name) → Bool
is_either_available x None = is_available x
is_either_available x (Some y) = is_available y

abbrev pub are_bound_available : List Alias → Bool
are_bound_available as' = not (list_any (λ a. not (is_either_available a.name a.alias)) as')

-- the line of a node that isn't supported
abbrev pub unless : (is_built : Bool) → (line : ℕ) → Option ℕ
unless b l = if b then None else Some l

-- `*name` or `**name`
abbrev pub unbuilt_star : Option NamedParameter → Option ℕ
unbuilt_star None = None
unbuilt_star (Some p) = unless (is_available p.name) p.line.0

abbrev mutual
  pub unbuilt_exp : Exp → Option ℕ
  unbuilt_exp (S.constant l k) = None
  unbuilt_exp (S.name l x) = unless (is_available x) l
  unbuilt_exp (S.unary l o a) = unbuilt_exp a
  unbuilt_exp (S.not_of l a) = unbuilt_exp a
  unbuilt_exp (S.binary l o a b) = option_or (unbuilt_exp a) (unbuilt_exp b)
  unbuilt_exp (S.compare l a o b r) = option_or (unbuilt_exp a) (option_or (unbuilt_exp b) (unbuilt_links r))
  unbuilt_exp (S.and l a es) = option_or (unbuilt_exp a) (unbuilt_all es)
  unbuilt_exp (S.or l a es) = option_or (unbuilt_exp a) (unbuilt_all es)
  unbuilt_exp (S.conditional l c a b) = option_or (unbuilt_exp a) (option_or (unbuilt_exp c) (unbuilt_exp b))
  unbuilt_exp (S.call l f args) = option_or (unbuilt_exp f) (unbuilt_args args)
  unbuilt_exp (S.lambda l n ps e) = option_or (unbuilt_params ps) (unbuilt_exp e)
  unbuilt_exp (S.tuple l es) = unbuilt_all es
  unbuilt_exp (S.list l es) = unbuilt_all es
  unbuilt_exp (S.set l es) = unbuilt_all es
  unbuilt_exp (S.dict l es) = unbuilt_entries es
  unbuilt_exp (S.item l a i) = option_or (unbuilt_exp a) (unbuilt_exp i)
  unbuilt_exp (S.slice l a b c) = option_or (unbuilt_opt a) (option_or (unbuilt_opt b) (unbuilt_opt c))
  unbuilt_exp (S.joined l ps) = unbuilt_pieces ps
  unbuilt_exp (S.attribute l a x) = unbuilt_exp a
  unbuilt_exp (S.comprehension l m k t it cs) =
      option_or (unbuilt_made m) (option_or (unbuilt_target t) (option_or (unbuilt_exp it) (unbuilt_clauses cs)))
  unbuilt_exp (S.generator l n e k t it cs) = Some l
  unbuilt_exp (S.yield l v) = Some l
  unbuilt_exp (S.yield_from l e) = Some l

  pub unbuilt_all : Exps → Option ℕ
  unbuilt_all S.no_exps = None
  unbuilt_all (S.more_exps e es) = option_or (unbuilt_exp e) (unbuilt_all es)

  pub unbuilt_opt : Opt → Option ℕ
  unbuilt_opt S.absent = None
  unbuilt_opt (S.given e) = unbuilt_exp e

  -- the fields of a spec are parts of its field
  pub unbuilt_pieces : Pieces → Option ℕ
  unbuilt_pieces S.no_pieces = None
  unbuilt_pieces (S.literal l t r) = unbuilt_pieces r
  unbuilt_pieces (S.field l e c ps r) = option_or (unbuilt_exp e) (option_or (unbuilt_pieces ps) (unbuilt_pieces r))

  pub unbuilt_entries : Entries → Option ℕ
  unbuilt_entries S.no_entries = None
  unbuilt_entries (S.entry k v r) = option_or (unbuilt_exp k) (option_or (unbuilt_exp v) (unbuilt_entries r))

  pub unbuilt_links : Links → Option ℕ
  unbuilt_links S.no_links = None
  unbuilt_links (S.link o b r) = option_or (unbuilt_exp b) (unbuilt_links r)

  pub unbuilt_args : Args → Option ℕ
  unbuilt_args S.no_args = None
  unbuilt_args (S.positional e r) = option_or (unbuilt_exp e) (unbuilt_args r)
  unbuilt_args (S.named x e r) = option_or (unbuilt_exp e) (unbuilt_args r)
  unbuilt_args (S.spread e r) = option_or (unbuilt_exp e) (unbuilt_args r)
  unbuilt_args (S.spread_named e r) = option_or (unbuilt_exp e) (unbuilt_args r)

  -- `*name` and `**name` have a line of their own
  pub unbuilt_params : Params → Option ℕ
  unbuilt_params (S.parameters ps s ks d) = option_or (unbuilt_formals ps) (option_or (unbuilt_star s) (option_or (unbuilt_formals ks) (unbuilt_star d)))

  pub unbuilt_formals : Formals → Option ℕ
  unbuilt_formals S.no_formals = None
  unbuilt_formals (S.formal l x a d r) = option_or (unless (is_available x) l) (option_or (unbuilt_opt d) (unbuilt_formals r))

  -- what a comprehension makes
  pub unbuilt_made : Made → Option ℕ
  unbuilt_made (S.a_list e) = unbuilt_exp e
  unbuilt_made (S.a_set e) = unbuilt_exp e
  unbuilt_made (S.a_dict k v) = option_or (unbuilt_exp k) (unbuilt_exp v)

  -- what stands behind its first iterable
  pub unbuilt_clauses : Clauses → Option ℕ
  unbuilt_clauses S.no_clauses = None
  unbuilt_clauses (S.only_if c cs) = option_or (unbuilt_exp c) (unbuilt_clauses cs)
  unbuilt_clauses (S.for_each l t it cs) = option_or (unbuilt_target t) (option_or (unbuilt_exp it) (unbuilt_clauses cs))

  pub unbuilt_place : Place → Option ℕ
  unbuilt_place (S.name_at l x) = unless (is_available x) l
  unbuilt_place (S.attribute_at l a x) = unbuilt_exp a
  unbuilt_place (S.item_at l a i) = option_or (unbuilt_exp a) (unbuilt_exp i)

  pub unbuilt_target : Tgt → Option ℕ
  unbuilt_target (S.single p) = unbuilt_place p
  unbuilt_target (S.several l f ts) = unbuilt_targets ts
  unbuilt_target (S.starred l t) = unbuilt_target t

  pub unbuilt_targets : Tgts → Option ℕ
  unbuilt_targets S.no_targets = None
  unbuilt_targets (S.more_targets t ts) = option_or (unbuilt_target t) (unbuilt_targets ts)

abbrev pub unbuilt_decorators : Decorators → Option ℕ
unbuilt_decorators S.no_decorators = None
unbuilt_decorators (S.decorator l e r) = option_or (unbuilt_exp e) (unbuilt_decorators r)

abbrev pub unbuilt_taken : Option Tgt → Option ℕ
unbuilt_taken None = None
unbuilt_taken (Some t) = unbuilt_target t

-- the items of a `with`
abbrev pub unbuilt_items : Items → Option ℕ
unbuilt_items S.no_items = None
unbuilt_items (S.with_item l e t r) = option_or (unbuilt_exp e) (option_or (unbuilt_taken t) (unbuilt_items r))

abbrev mutual
  pub unbuilt_stm : Stm → Option ℕ
  unbuilt_stm (S.expr l e) = unbuilt_exp e
  unbuilt_stm (S.assign l ts e) = option_or (unbuilt_targets ts) (unbuilt_exp e)
  unbuilt_stm (S.augmented l p o e) = option_or (unbuilt_place p) (unbuilt_exp e)
  unbuilt_stm (S.annotated l p a v) = option_or (unbuilt_place p) (unbuilt_opt v)
  unbuilt_stm (S.pass l) = None
  unbuilt_stm (S.del l ts) = unbuilt_targets ts
  unbuilt_stm (S.return l v) = unbuilt_opt v
  unbuilt_stm (S.break l) = None
  unbuilt_stm (S.continue l) = None
  unbuilt_stm (S.global l xs) = unless (are_available xs) l
  unbuilt_stm (S.nonlocal l xs) = unless (are_available xs) l
  unbuilt_stm (S.choice l bs els) = option_or (unbuilt_branches bs) (unbuilt_stms els)
  unbuilt_stm (S.while l c body els) = option_or (unbuilt_exp c) (option_or (unbuilt_stms body) (unbuilt_stms els))
  unbuilt_stm (S.for l t e body els) = option_or (unbuilt_target t) (option_or (unbuilt_exp e) (option_or (unbuilt_stms body) (unbuilt_stms els)))
  unbuilt_stm (S.def l ds k n x ps r body) =
      option_or (unless (is_available x) l) (option_or (unbuilt_decorators ds) (option_or (unbuilt_params ps) (unbuilt_stms body)))
  unbuilt_stm (S.docstring l) = None
  unbuilt_stm (S.assert l c m) = option_or (unbuilt_exp c) (unbuilt_opt m)
  unbuilt_stm (S.raise l e c) = option_or (unbuilt_exp e) (unbuilt_opt c)
  unbuilt_stm (S.raise_again l) = None
  unbuilt_stm (S.try l body hs els fin) =
      option_or (unbuilt_stms body) (option_or (unbuilt_handlers hs) (option_or (unbuilt_stms els) (unbuilt_stms fin)))
  unbuilt_stm (S.import l xs) = unless (are_bound_available xs) l
  unbuilt_stm (S.import_from l m xs) = unless (are_bound_available xs) l
  unbuilt_stm (S.with l is body) = option_or (unbuilt_items is) (unbuilt_stms body)
  unbuilt_stm (S.class l ds k n x base body) =
      option_or (unless (is_available x) l) (option_or (unbuilt_decorators ds) (option_or (unbuilt_opt base) (unbuilt_stms body)))

  pub unbuilt_stms : Stms → Option ℕ
  unbuilt_stms S.none = None
  unbuilt_stms (S.more s ss) = option_or (unbuilt_stm s) (unbuilt_stms ss)

  pub unbuilt_branches : Branches → Option ℕ
  unbuilt_branches S.no_branches = None
  unbuilt_branches (S.branch l c body r) = option_or (unbuilt_exp c) (option_or (unbuilt_stms body) (unbuilt_branches r))

  pub unbuilt_handlers : Handlers → Option ℕ
  unbuilt_handlers S.no_handlers = None
  unbuilt_handlers (S.handler l c x body r) =
      option_or (unless (is_available_if x) l) (option_or (unbuilt_opt c) (option_or (unbuilt_stms body) (unbuilt_handlers r)))

-- the line of the first node of a script that isn't supported
abbrev pub unbuilt_of : Stms → Option ℕ
unbuilt_of ss = unbuilt_stms ss

-- a script is supported where there is none
abbrev pub Built : Stms → Type 0
Built ss = unbuilt_of ss ≡ None
