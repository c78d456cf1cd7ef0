-- The blocks of statements are numbered one after the other.
use Rattle.std.proofs.Common.{refl, ℕ, zero, suc, ◌+◌, Bool, true, false, Some, None, arith}
use Rattle.std.specs.Prelude.{if◌then◌else◌}
use Rattle.pt_refine_expr.specs.declared.stars.Stars.TheVariants.{Never, Inside}
use Rattle.pt_tree.specs.Syntax as T
use Rattle.pt_wide.specs.Syntax as W
use Rattle.pt_wide.specs.Syntax.{Exps, Opt, Args, Decorators, Items, Stm, Stms, Branches, Handlers}
use Rattle.pt_refine_expr.specs.Blocks.{blocks_exp, blocks_all, blocks_opt, blocks_args, blocks_params}
use Rattle.pt_refine_expr.specs.StatementBlocks.{blocks_decorators, blocks_items, blocks_stm, blocks_stms, blocks_branches, blocks_handlers}
use Rattle.pt_refine_expr.specs.StatementFaults.{is_generator}
use Rattle.pt_refine_expr.specs.Narrow.{narrow_exp, narrow_opt}
use Rattle.pt_refine_expr.specs.StatementNarrow.{narrow_assigned, narrow_as, narrow_base, narrow_decorators, narrow_items, narrow_stm, narrow_stms, narrow_branches, narrow_handlers}
use Rattle.sem_control.specs.numbering.Numbered.{numbers_opt, numbers_targets, numbers_decorators, numbers_opt_target, numbers_items, numbers_stm, numbers_stms, numbers_branches, numbers_handlers}
use Rattle.law_front.proofs.script_numbers.Counting.{Counts, absent, there, moved, made, if-allowed, of-both, of-three, of-outer-two, of-four, of-function, of-class}
use Rattle.law_front.proofs.script_numbers.Expressions.{counts_exp, counts_opt, counts_params, counts_target, counts_targets, counts_place}

counts_assigned : (n : ℕ) (x : Exps) → Counts numbers_targets n (blocks_all x) (narrow_assigned n x)
counts_assigned n W.no_exps = there _ refl
counts_assigned n (W.more_exps t ts) = of-both T.more_targets (λ x y. refl) n (blocks_exp t) (blocks_all ts) (counts_target n Inside t) (counts_assigned (n + blocks_exp t) ts)

counts_as : (n : ℕ) (x : Opt) → Counts numbers_opt_target n (blocks_opt x) (narrow_as n x)
counts_as n W.absent = there _ refl
counts_as n (W.given t) = made Some (λ x. refl) (counts_target n Never t)

counts_base : (n : ℕ) (x : Args) (comma : Bool) → Counts numbers_opt n (blocks_args x) (narrow_base n x comma)
counts_base n W.no_args comma = there _ refl
counts_base n (W.positional e W.no_args) true = absent
counts_base n (W.positional e W.no_args) false = moved refl (omega arith) (if-allowed (if is_generator e then false else true) (made T.given (λ x. refl) (counts_exp n e)))
counts_base n (W.positional e (W.positional f r)) comma = absent
counts_base n (W.positional e (W.named l x f r)) comma = absent
counts_base n (W.positional e (W.spread l f r)) comma = absent
counts_base n (W.positional e (W.spread_named l f r)) comma = absent
counts_base n (W.named l x e r) comma = absent
counts_base n (W.spread l e r) comma = absent
counts_base n (W.spread_named l e r) comma = absent

counts_decorators : (n : ℕ) (x : Decorators) → Counts numbers_decorators n (blocks_decorators x) (narrow_decorators n x)
counts_decorators n W.no_decorators = there _ refl
counts_decorators n (W.decorator l e r) = of-both (T.decorator l) (λ x y. refl) n (blocks_exp e) (blocks_decorators r) (counts_exp n e) (counts_decorators (n + blocks_exp e) r)

counts_items : (n : ℕ) (x : Items) → Counts numbers_items n (blocks_items x) (narrow_items n x)
counts_items n W.no_items = there _ refl
counts_items n (W.with_item l e t r) = of-three (T.with_item l) (λ x y z. refl) n (blocks_exp e) (blocks_opt t) (blocks_items r) (counts_exp n e) (counts_as (n + blocks_exp e) t) (counts_items (n + blocks_exp e + blocks_opt t) r)

mutual
  pub counts_stm : (n : ℕ) (x : Stm) → Counts numbers_stm n (blocks_stm x) (narrow_stm n x)
  counts_stm n (W.assign l W.no_exps e) = moved refl (omega arith) (made (T.expr l) (λ x. refl) (counts_exp n e))
  counts_stm n (W.assign l (W.more_exps t ts) e) = of-both (T.assign l) (λ x y. refl) n (blocks_all (W.more_exps t ts)) (blocks_exp e) (counts_assigned n (W.more_exps t ts)) (counts_exp (n + blocks_all (W.more_exps t ts)) e)
  counts_stm n (W.augmented l t o e) = of-both (λ p. T.augmented l p o) (λ x y. refl) n (blocks_exp t) (blocks_exp e) (counts_place n t) (counts_exp (n + blocks_exp t) e)
  counts_stm n (W.annotated l t a v) = of-outer-two (T.annotated l) (λ x y z. refl) n (blocks_exp t) (blocks_opt v) (narrow_exp (n + blocks_exp t) a) (counts_place n t) (counts_opt (n + blocks_exp t) v)
  counts_stm n (W.assert l c m) = of-both (T.assert l) (λ x y. refl) n (blocks_exp c) (blocks_opt m) (counts_exp n c) (counts_opt (n + blocks_exp c) m)
  counts_stm n (W.pass l) = there _ refl
  counts_stm n (W.del l ts) = made (T.del l) (λ x. refl) (counts_targets n Never ts)
  counts_stm n (W.return l v) = made (T.return l) (λ x. refl) (counts_opt n v)
  counts_stm n (W.raise l e c) = of-both (T.raise l) (λ x y. refl) n (blocks_exp e) (blocks_opt c) (counts_exp n e) (counts_opt (n + blocks_exp e) c)
  counts_stm n (W.raise_again l) = there _ refl
  counts_stm n (W.break l) = there _ refl
  counts_stm n (W.continue l) = there _ refl
  counts_stm n (W.import l xs) = there _ refl
  counts_stm n (W.global l xs) = there _ refl
  counts_stm n (W.nonlocal l xs) = there _ refl
  counts_stm n (W.import_from l zero m (Some xs)) = there _ refl
  counts_stm n (W.import_from l zero m None) = absent
  counts_stm n (W.import_from l (suc d) m xs) = absent
  counts_stm n (W.choice l bs els) = of-both (T.choice l) (λ x y. refl) n (blocks_branches bs) (blocks_stms els) (counts_branches n bs) (counts_stms (n + blocks_branches bs) els)
  counts_stm n (W.while l c body els) = of-three (T.while l) (λ x y z. refl) n (blocks_exp c) (blocks_stms body) (blocks_stms els) (counts_exp n c) (counts_stms (n + blocks_exp c) body) (counts_stms (n + blocks_exp c + blocks_stms body) els)
  counts_stm n (W.for l t it body els) = of-four (T.for l) (λ x y z u. refl) n (blocks_exp t) (blocks_exp it) (blocks_stms body) (blocks_stms els) (counts_target n Inside t) (counts_exp (n + blocks_exp t) it) (counts_stms (n + blocks_exp t + blocks_exp it) body) (counts_stms (n + blocks_exp t + blocks_exp it + blocks_stms body) els)
  counts_stm n (W.try l body hs els fin) = of-four (T.try l) (λ x y z u. refl) n (blocks_stms body) (blocks_handlers hs) (blocks_stms els) (blocks_stms fin) (counts_stms n body) (counts_handlers (n + blocks_stms body) hs) (counts_stms (n + blocks_stms body + blocks_handlers hs) els) (counts_stms (n + blocks_stms body + blocks_handlers hs + blocks_stms els) fin)
  counts_stm n (W.with l is body) = of-both (T.with l) (λ x y. refl) n (blocks_items is) (blocks_stms body) (counts_items n is) (counts_stms (n + blocks_items is) body)
  counts_stm n (W.def l ds dl x ps r body) = of-function (λ ds'. T.def l ds' dl (n + blocks_decorators ds) x) n (blocks_decorators ds) (blocks_params ps) (blocks_stms body) (λ x y z u. refl) (narrow_opt (1 + (n + blocks_decorators ds) + blocks_params ps) r) (counts_decorators n ds) (counts_params (1 + (n + blocks_decorators ds)) ps) (counts_stms (1 + (n + blocks_decorators ds) + blocks_params ps) body)
  counts_stm n (W.class l ds cl x args comma body) = of-class (λ ds'. T.class l ds' cl (n + blocks_decorators ds) x) n (blocks_decorators ds) (blocks_args args) (blocks_stms body) (λ x y z. refl) (counts_decorators n ds) (counts_base (1 + (n + blocks_decorators ds)) args comma) (counts_stms (1 + (n + blocks_decorators ds) + blocks_args args) body)

  pub counts_stms : (n : ℕ) (x : Stms) → Counts numbers_stms n (blocks_stms x) (narrow_stms n x)
  counts_stms n W.none = there _ refl
  counts_stms n (W.more s ss) = of-both T.more (λ x y. refl) n (blocks_stm s) (blocks_stms ss) (counts_stm n s) (counts_stms (n + blocks_stm s) ss)

  pub counts_branches : (n : ℕ) (x : Branches) → Counts numbers_branches n (blocks_branches x) (narrow_branches n x)
  counts_branches n W.no_branches = there _ refl
  counts_branches n (W.branch l c body r) = of-three (T.branch l) (λ x y z. refl) n (blocks_exp c) (blocks_stms body) (blocks_branches r) (counts_exp n c) (counts_stms (n + blocks_exp c) body) (counts_branches (n + blocks_exp c + blocks_stms body) r)

  pub counts_handlers : (n : ℕ) (x : Handlers) → Counts numbers_handlers n (blocks_handlers x) (narrow_handlers n x)
  counts_handlers n W.no_handlers = there _ refl
  counts_handlers n (W.handler l true c x body r) = absent
  counts_handlers n (W.handler l false c x body r) = of-three (λ c'. T.handler l c' x) (λ x y z. refl) n (blocks_opt c) (blocks_stms body) (blocks_handlers r) (counts_opt n c) (counts_stms (n + blocks_opt c) body) (counts_handlers (n + blocks_opt c + blocks_stms body) r)
