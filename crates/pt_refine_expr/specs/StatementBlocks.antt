-- How many blocks start in wide statements: those of functions, classes and expressions (Language Reference 4.1, 8.7, 8.8).
use Rattle.std.specs.Prelude.{ℕ, ◌+◌}
use Rattle.pt_wide.specs.Syntax as W
use Rattle.pt_wide.specs.Syntax.{Decorators, Items, Stm, Stms, Branches, Handlers}
use Rattle.pt_refine_expr.specs.Blocks.{blocks_exp, blocks_all, blocks_opt, blocks_args, blocks_params}

abbrev pub blocks_decorators : Decorators → ℕ
blocks_decorators W.no_decorators = 0
blocks_decorators (W.decorator l e r) = blocks_exp e + blocks_decorators r

abbrev pub blocks_items : Items → ℕ
blocks_items W.no_items = 0
blocks_items (W.with_item l e t r) = blocks_exp e + blocks_opt t + blocks_items r

abbrev mutual
  pub blocks_stm : Stm → ℕ
  blocks_stm (W.assign l ts e) = blocks_all ts + blocks_exp e
  blocks_stm (W.augmented l t o e) = blocks_exp t + blocks_exp e
  blocks_stm (W.annotated l t a v) = blocks_exp t + blocks_opt v
  blocks_stm (W.assert l c m) = blocks_exp c + blocks_opt m
  blocks_stm (W.pass l) = 0
  blocks_stm (W.del l ts) = blocks_all ts
  blocks_stm (W.return l v) = blocks_opt v
  blocks_stm (W.raise l e c) = blocks_exp e + blocks_opt c
  blocks_stm (W.raise_again l) = 0
  blocks_stm (W.break l) = 0
  blocks_stm (W.continue l) = 0
  blocks_stm (W.import l xs) = 0
  blocks_stm (W.import_from l dots m xs) = 0
  blocks_stm (W.global l xs) = 0
  blocks_stm (W.nonlocal l xs) = 0
  blocks_stm (W.choice l bs els) = blocks_branches bs + blocks_stms els
  blocks_stm (W.while l c body els) = blocks_exp c + blocks_stms body + blocks_stms els
  blocks_stm (W.for l t it body els) = blocks_exp t + blocks_exp it + blocks_stms body + blocks_stms els
  blocks_stm (W.try l body hs els fin) = blocks_stms body + blocks_handlers hs + blocks_stms els + blocks_stms fin
  blocks_stm (W.with l is body) = blocks_items is + blocks_stms body
  blocks_stm (W.def l ds dl x ps r body) = blocks_decorators ds + 1 + blocks_params ps + blocks_stms body
  blocks_stm (W.class l ds cl x args comma body) = blocks_decorators ds + 1 + blocks_args args + blocks_stms body

  pub blocks_stms : Stms → ℕ
  blocks_stms W.none = 0
  blocks_stms (W.more s ss) = blocks_stm s + blocks_stms ss

  pub blocks_branches : Branches → ℕ
  blocks_branches W.no_branches = 0
  blocks_branches (W.branch l c body r) = blocks_exp c + blocks_stms body + blocks_branches r

  pub blocks_handlers : Handlers → ℕ
  blocks_handlers W.no_handlers = 0
  blocks_handlers (W.handler l star c x body r) = blocks_opt c + blocks_stms body + blocks_handlers r
