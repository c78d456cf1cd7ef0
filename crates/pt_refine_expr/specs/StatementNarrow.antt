-- What wide statements are in the tree of the language; `None` where the plain grammar doesn't allow them (Language Reference 7, 8).
use Rattle.std.specs.Prelude.{Bool, ℕ, ◌+◌, zero, suc, List, Option, Some, None, option_map, if◌then◌else◌}
use Rattle.pt_tree.specs.declared.statement.Alias.{Alias}
use Rattle.pt_refine_expr.specs.declared.stars.Stars.TheVariants.{Never, Inside}
use Rattle.pt_tree.specs.Syntax as T
use Rattle.pt_wide.specs.Syntax as W
use Rattle.pt_wide.specs.Syntax.{Exps, Opt, Args, Decorators, Items, Stm, Stms, Branches, Handlers}
use Rattle.pt_refine_expr.specs.Blocks.{blocks_exp, blocks_all, blocks_opt, blocks_args, blocks_params}
use Rattle.pt_refine_expr.specs.StatementBlocks.{blocks_decorators, blocks_items, blocks_stm, blocks_stms, blocks_branches, blocks_handlers}
use Rattle.pt_refine_expr.specs.StatementFaults.{is_base}
use Rattle.pt_refine_expr.specs.Narrow.{narrow_exp, narrow_opt, narrow_params, narrow_place, narrow_target, narrow_targets}
use Rattle.pt_refine_expr.specs.Ways.{both, three, four}

abbrev pub narrow_assigned : (before : ℕ) → Exps → Option T.Tgts
narrow_assigned n W.no_exps = Some T.no_targets
narrow_assigned n (W.more_exps t ts) = both T.more_targets (narrow_target n Inside t) (narrow_assigned (n + blocks_exp t) ts)

abbrev pub narrow_as : (before : ℕ) → Opt → Option (Option T.Tgt)
narrow_as n W.absent = Some None
narrow_as n (W.given t) = option_map Some (narrow_target n Never t)

abbrev pub narrow_from : (line dots : ℕ) → T.Name → Option (List Alias) → Option T.Stm
narrow_from l zero m (Some xs) = Some (T.import_from l m xs)
narrow_from l zero m None = None
narrow_from l (suc n) m xs = None

abbrev pub only_base : (before : ℕ) → Args → Option T.Opt
only_base n (W.positional e W.no_args) = option_map T.given (narrow_exp n e)
only_base n args = Some T.absent

abbrev pub narrow_base : (before : ℕ) → Args → (trailing_comma : Bool) → Option T.Opt
narrow_base n args comma = if is_base args comma then only_base n args else None

abbrev pub narrow_decorators : (before : ℕ) → Decorators → Option T.Decorators
narrow_decorators n W.no_decorators = Some T.no_decorators
narrow_decorators n (W.decorator l e r) = both (T.decorator l) (narrow_exp n e) (narrow_decorators (n + blocks_exp e) r)

abbrev pub narrow_items : (before : ℕ) → Items → Option T.Items
narrow_items n W.no_items = Some T.no_items
narrow_items n (W.with_item l e t r) = three (T.with_item l) (narrow_exp n e) (narrow_as (n + blocks_exp e) t) (narrow_items (n + blocks_exp e + blocks_opt t) r)

abbrev mutual
  pub narrow_stm : (before : ℕ) → Stm → Option T.Stm
  narrow_stm n (W.assign l W.no_exps e) = option_map (T.expr l) (narrow_exp n e)
  narrow_stm n (W.assign l (W.more_exps t ts) e) = both (T.assign l) (narrow_assigned n (W.more_exps t ts)) (narrow_exp (n + blocks_all (W.more_exps t ts)) e)
  narrow_stm n (W.augmented l t o e) = both (λ p. T.augmented l p o) (narrow_place n t) (narrow_exp (n + blocks_exp t) e)
  narrow_stm n (W.annotated l t a v) = three (T.annotated l) (narrow_place n t) (narrow_exp (n + blocks_exp t) a) (narrow_opt (n + blocks_exp t) v)
  narrow_stm n (W.assert l c m) = both (T.assert l) (narrow_exp n c) (narrow_opt (n + blocks_exp c) m)
  narrow_stm n (W.pass l) = Some (T.pass l)
  narrow_stm n (W.del l ts) = option_map (T.del l) (narrow_targets n Never ts)
  narrow_stm n (W.return l v) = option_map (T.return l) (narrow_opt n v)
  narrow_stm n (W.raise l e c) = both (T.raise l) (narrow_exp n e) (narrow_opt (n + blocks_exp e) c)
  narrow_stm n (W.raise_again l) = Some (T.raise_again l)
  narrow_stm n (W.break l) = Some (T.break l)
  narrow_stm n (W.continue l) = Some (T.continue l)
  narrow_stm n (W.import l xs) = Some (T.import l xs)
  narrow_stm n (W.import_from l dots m xs) = narrow_from l dots m xs
  narrow_stm n (W.global l xs) = Some (T.global l xs)
  narrow_stm n (W.nonlocal l xs) = Some (T.nonlocal l xs)
  narrow_stm n (W.choice l bs els) = both (T.choice l) (narrow_branches n bs) (narrow_stms (n + blocks_branches bs) els)
  narrow_stm n (W.while l c body els) = three (T.while l) (narrow_exp n c) (narrow_stms (n + blocks_exp c) body) (narrow_stms (n + blocks_exp c + blocks_stms body) els)
  narrow_stm n (W.for l t it body els) = four (T.for l) (narrow_target n Inside t) (narrow_exp (n + blocks_exp t) it) (narrow_stms (n + blocks_exp t + blocks_exp it) body) (narrow_stms (n + blocks_exp t + blocks_exp it + blocks_stms body) els)
  narrow_stm n (W.try l body hs els fin) = four (T.try l) (narrow_stms n body) (narrow_handlers (n + blocks_stms body) hs) (narrow_stms (n + blocks_stms body + blocks_handlers hs) els) (narrow_stms (n + blocks_stms body + blocks_handlers hs + blocks_stms els) fin)
  narrow_stm n (W.with l is body) = both (T.with l) (narrow_items n is) (narrow_stms (n + blocks_items is) body)
  -- a function or class starts at its keyword, behind its decorators
  narrow_stm n (W.def l ds dl x ps r body) = four (λ ds'. T.def l ds' dl (n + blocks_decorators ds) x) (narrow_decorators n ds) (narrow_params (1 + (n + blocks_decorators ds)) ps) (narrow_opt (1 + (n + blocks_decorators ds) + blocks_params ps) r) (narrow_stms (1 + (n + blocks_decorators ds) + blocks_params ps) body)
  narrow_stm n (W.class l ds cl x args comma body) = three (λ ds'. T.class l ds' cl (n + blocks_decorators ds) x) (narrow_decorators n ds) (narrow_base (1 + (n + blocks_decorators ds)) args comma) (narrow_stms (1 + (n + blocks_decorators ds) + blocks_args args) body)

  pub narrow_stms : (before : ℕ) → Stms → Option T.Stms
  narrow_stms n W.none = Some T.none
  narrow_stms n (W.more s ss) = both T.more (narrow_stm n s) (narrow_stms (n + blocks_stm s) ss)

  pub narrow_branches : (before : ℕ) → Branches → Option T.Branches
  narrow_branches n W.no_branches = Some T.no_branches
  narrow_branches n (W.branch l c body r) = three (T.branch l) (narrow_exp n c) (narrow_stms (n + blocks_exp c) body) (narrow_branches (n + blocks_exp c + blocks_stms body) r)

  pub narrow_handlers : (before : ℕ) → Handlers → Option T.Handlers
  narrow_handlers n W.no_handlers = Some T.no_handlers
  narrow_handlers n (W.handler l star c x body r) = if star then None else three (λ c'. T.handler l c' x) (narrow_opt n c) (narrow_stms (n + blocks_opt c) body) (narrow_handlers (n + blocks_opt c + blocks_stms body) r)

-- the module is the first block
abbrev pub narrow_script : Stms → Option T.Stms
narrow_script ss = narrow_stms 1 ss
