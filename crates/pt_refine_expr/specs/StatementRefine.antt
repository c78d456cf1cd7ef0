-- What wide statements are in the tree of the language, or their first fault (Language Reference 7, 8).
use Rattle.std.specs.Prelude.{ℕ, zero, suc, Bool, true, false, List, Option, Some, None, if◌then◌else◌}
use Rattle.pt_tree.specs.declared.statement.Alias.{Alias}
use Rattle.pt_refine_expr.specs.declared.stars.Stars.TheVariants.{Never, Inside}
use Rattle.pt_tree.specs.Syntax as T
use Rattle.pt_wide.specs.Syntax as W
use Rattle.pt_wide.specs.Syntax.{Exps, Opt, Args, Decorators, Items, Stm, Stms, Branches, Handlers}
use Rattle.pt_refine_expr.specs.Faults.{excluded}
use Rattle.pt_refine_expr.specs.StatementFaults.{is_base, args_line}
use Rattle.pt_refine_expr.specs.Refine.{refine_exp, refine_opt, refine_params, refine_place, refine_target, refine_targets}
use Rattle.pt_refine_expr.specs.Steps.{Step, done, stop, start, made, both, three, four, five, uncounted}

abbrev pub refine_assigned : Exps → Step T.Tgts
refine_assigned W.no_exps = done T.no_targets
refine_assigned (W.more_exps t ts) = both T.more_targets (refine_target Inside t) (refine_assigned ts)

abbrev pub refine_as : Opt → Step (Option T.Tgt)
refine_as W.absent = done None
refine_as (W.given t) = made Some (refine_target Never t)

abbrev pub refine_from : (line dots : ℕ) → T.Name → Option (List Alias) → Step T.Stm
refine_from l zero m (Some xs) = done (T.import_from l m xs)
refine_from l zero m None = stop (excluded l)
refine_from l (suc n) m xs = stop (excluded l)

abbrev pub only_base : Args → Step T.Opt
only_base (W.positional e W.no_args) = made T.given (refine_exp e)
only_base args = done T.absent

abbrev pub refine_base : Args → (trailing_comma : Bool) → Step T.Opt
refine_base args comma = if is_base args comma then only_base args else stop (excluded (args_line args))

abbrev pub refine_decorators : Decorators → Step T.Decorators
refine_decorators W.no_decorators = done T.no_decorators
refine_decorators (W.decorator l e r) = both (T.decorator l) (refine_exp e) (refine_decorators r)

abbrev pub refine_items : Items → Step T.Items
refine_items W.no_items = done T.no_items
refine_items (W.with_item l e t r) = three (T.with_item l) (refine_exp e) (refine_as t) (refine_items r)

-- `except*` is left out
abbrev pub where_plain : {A : Type 0} → (line : ℕ) → (star : Bool) → Step A → Step A
where_plain l true s = stop (excluded l)
where_plain l false s = s

abbrev mutual
  pub refine_stm : Stm → Step T.Stm
  refine_stm (W.assign l W.no_exps e) = made (T.expr l) (refine_exp e)
  refine_stm (W.assign l (W.more_exps t ts) e) = both (T.assign l) (refine_assigned (W.more_exps t ts)) (refine_exp e)
  refine_stm (W.augmented l t o e) = both (λ p. T.augmented l p o) (refine_place t) (refine_exp e)
  refine_stm (W.annotated l t a v) = three (T.annotated l) (refine_place t) (uncounted (refine_exp a)) (refine_opt v)
  refine_stm (W.assert l c m) = both (T.assert l) (refine_exp c) (refine_opt m)
  refine_stm (W.pass l) = done (T.pass l)
  refine_stm (W.del l ts) = made (T.del l) (refine_targets Never ts)
  refine_stm (W.return l v) = made (T.return l) (refine_opt v)
  refine_stm (W.raise l e c) = both (T.raise l) (refine_exp e) (refine_opt c)
  refine_stm (W.raise_again l) = done (T.raise_again l)
  refine_stm (W.break l) = done (T.break l)
  refine_stm (W.continue l) = done (T.continue l)
  refine_stm (W.import l xs) = done (T.import l xs)
  refine_stm (W.import_from l dots m xs) = refine_from l dots m xs
  refine_stm (W.global l xs) = done (T.global l xs)
  refine_stm (W.nonlocal l xs) = done (T.nonlocal l xs)
  refine_stm (W.choice l bs els) = both (T.choice l) (refine_branches bs) (refine_stms els)
  refine_stm (W.while l c body els) = three (T.while l) (refine_exp c) (refine_stms body) (refine_stms els)
  refine_stm (W.for l t it body els) = four (T.for l) (refine_target Inside t) (refine_exp it) (refine_stms body) (refine_stms els)
  refine_stm (W.try l body hs els fin) = four (T.try l) (refine_stms body) (refine_handlers hs) (refine_stms els) (refine_stms fin)
  refine_stm (W.with l is body) = both (T.with l) (refine_items is) (refine_stms body)
  -- a function or class starts at its keyword, behind its decorators
  refine_stm (W.def l ds dl x ps r body) = five (λ ds' b. T.def l ds' dl b x) (refine_decorators ds) start (refine_params ps) (uncounted (refine_opt r)) (refine_stms body)
  refine_stm (W.class l ds cl x args comma body) = four (λ ds' b. T.class l ds' cl b x) (refine_decorators ds) start (refine_base args comma) (refine_stms body)

  pub refine_stms : Stms → Step T.Stms
  refine_stms W.none = done T.none
  refine_stms (W.more s ss) = both T.more (refine_stm s) (refine_stms ss)

  pub refine_branches : Branches → Step T.Branches
  refine_branches W.no_branches = done T.no_branches
  refine_branches (W.branch l c body r) = three (T.branch l) (refine_exp c) (refine_stms body) (refine_branches r)

  pub refine_handlers : Handlers → Step T.Handlers
  refine_handlers W.no_handlers = done T.no_handlers
  refine_handlers (W.handler l star c x body r) = where_plain l star (three (λ c'. T.handler l c' x) (refine_opt c) (refine_stms body) (refine_handlers r))
