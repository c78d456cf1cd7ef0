-- What statements of the wide grammar are in the tree starts on their lines.
use Rattle.std.proofs.Common.{◌≡◌, ℕ, zero, suc, ◌+◌, true, false, Some, None, subst}
use Rattle.pt_refine_expr.specs.declared.stars.Stars.TheVariants.{Never, Inside}
use Rattle.pt_tree.specs.Syntax as T
use Rattle.pt_wide.specs.Syntax as W
use Rattle.pt_wide.specs.Syntax.{Stm, Stms, Branches, Handlers}
use Rattle.pt_refine_expr.specs.Blocks.{blocks_exp, blocks_all, blocks_opt, blocks_args, blocks_params}
use Rattle.pt_refine_expr.specs.StatementBlocks.{blocks_decorators, blocks_items, blocks_stm, blocks_stms, blocks_branches, blocks_handlers}
use Rattle.pt_refine_expr.specs.Narrow.{narrow_exp, narrow_opt, narrow_params, narrow_target, narrow_targets, narrow_place}
use Rattle.pt_refine_expr.specs.StatementNarrow.{narrow_assigned, narrow_base, narrow_decorators, narrow_items, narrow_stm, narrow_stms, narrow_branches, narrow_handlers, narrow_script}
use Rattle.law_jumps.proofs.text_parts.Ways.{Holds, absent, there, any, made, of-both, of-three, of-four}
use Rattle.law_front.specs.statement_lines.OnLines as wide
use Rattle.law_jumps.specs.text_parts.OnLines.{HasBranch, StmOnLines, StmsOnLines, BranchesOnLines, HandlersOnLines}

abbrev SomeBranches : (a z : ℕ) → T.Branches → Type 0
SomeBranches a z bs = HasBranch bs × BranchesOnLines a z bs

mutual
  stm : {a z : ℕ} (n : ℕ) (s : Stm) → wide.StmOnLines a z s → Holds (StmOnLines a z) (narrow_stm n s)
  stm n (W.assign l W.no_exps e) h = made (T.expr l) (λ x p. h) (any (narrow_exp n e))
  stm n (W.assign l (W.more_exps t ts) e) h =
      of-both (T.assign l) (λ x y p q. h) (any (narrow_assigned n (W.more_exps t ts))) (any (narrow_exp (n + blocks_all (W.more_exps t ts)) e))
  stm n (W.augmented l t o e) h = of-both (λ p. T.augmented l p o) (λ x y p q. h) (any (narrow_place n t)) (any (narrow_exp (n + blocks_exp t) e))
  stm n (W.annotated l t a v) h =
      of-three (T.annotated l) (λ x y z p q s. h) (any (narrow_place n t)) (any (narrow_exp (n + blocks_exp t) a)) (any (narrow_opt (n + blocks_exp t) v))
  stm n (W.assert l c m) h = of-both (T.assert l) (λ x y p q. h) (any (narrow_exp n c)) (any (narrow_opt (n + blocks_exp c) m))
  stm n (W.pass l) h = there _ h
  stm n (W.del l ts) h = made (T.del l) (λ x p. h) (any (narrow_targets n Never ts))
  stm n (W.return l v) h = made (T.return l) (λ x p. h) (any (narrow_opt n v))
  stm n (W.raise l e c) h = of-both (T.raise l) (λ x y p q. h) (any (narrow_exp n e)) (any (narrow_opt (n + blocks_exp e) c))
  stm n (W.raise_again l) h = there _ h
  stm n (W.break l) h = there _ h
  stm n (W.continue l) h = there _ h
  stm n (W.import l xs) h = there _ h
  stm n (W.global l xs) h = there _ h
  stm n (W.nonlocal l xs) h = there _ h
  stm n (W.import_from l zero m (Some xs)) h = there _ h
  stm n (W.import_from l zero m None) h = absent
  stm n (W.import_from l (suc d) m xs) h = absent
  stm {a} {z} n (W.choice l bs els) h =
      of-both {P = SomeBranches a z} (T.choice l) (λ x y p q. (h.0, p.0, p.1, q)) (some_branches n bs h.1 h.2) (statements (n + blocks_branches bs) els h.3)
  stm n (W.while l c body els) h =
      of-three (T.while l) (λ x y z p q s. (h.0, q, s)) (any (narrow_exp n c)) (statements (n + blocks_exp c) body h.1)
      (statements (n + blocks_exp c + blocks_stms body) els h.2)
  stm n (W.for l t it body els) h =
      of-four (T.for l) (λ x y z u p q s o. (h.0, s, o)) (any (narrow_target n Inside t)) (any (narrow_exp (n + blocks_exp t) it))
      (statements (n + blocks_exp t + blocks_exp it) body h.1) (statements (n + blocks_exp t + blocks_exp it + blocks_stms body) els h.2)
  stm n (W.try l body hs els fin) h =
      let m = h.2 in
      of-four (T.try l) (λ x y z u p q s o. (h.0, p, (m.0, m.1, m.2, q, s), o)) (statements n body h.1) (handlers (n + blocks_stms body) hs m.3)
      (statements (n + blocks_stms body + blocks_handlers hs) els m.4) (statements (n + blocks_stms body + blocks_handlers hs + blocks_stms els) fin h.3)
  stm n (W.with l is body) h = of-both (T.with l) (λ x y p q. (h.0, q)) (any (narrow_items n is)) (statements (n + blocks_items is) body h.1)
  stm n (W.def l ds dl x ps r body) h =
      of-four (λ ds'. T.def l ds' dl (n + blocks_decorators ds) x) (λ y z u v p q s o. (h.0, o)) (any (narrow_decorators n ds))
      (any (narrow_params (1 + (n + blocks_decorators ds)) ps)) (any (narrow_opt (1 + (n + blocks_decorators ds) + blocks_params ps) r))
      (statements (1 + (n + blocks_decorators ds) + blocks_params ps) body h.1)
  stm n (W.class l ds cl x args comma body) h =
      of-three (λ ds'. T.class l ds' cl (n + blocks_decorators ds) x) (λ y z u p q s. (h.0, s)) (any (narrow_decorators n ds))
      (any (narrow_base (1 + (n + blocks_decorators ds)) args comma)) (statements (1 + (n + blocks_decorators ds) + blocks_args args) body h.1)

  statements : {a z : ℕ} (n : ℕ) (ss : Stms) → wide.StmsOnLines a z ss → Holds (StmsOnLines a z) (narrow_stms n ss)
  statements n W.none h = there _ tt
  statements n (W.more s ss) h = of-both T.more (λ x y p q. (p, q)) (stm n s h.0) (statements (n + blocks_stm s) ss h.1)

  some_branches : {a z : ℕ} (n : ℕ) (bs : Branches) → wide.HasBranch bs → wide.BranchesOnLines a z bs → Holds (SomeBranches a z) (narrow_branches n bs)
  some_branches n W.no_branches g h = absurd g
  some_branches n (W.branch l c body r) g h =
      of-three (T.branch l) (λ x y z p q s. (tt, (q, s))) (any (narrow_exp n c)) (statements (n + blocks_exp c) body h.0)
      (branches (n + blocks_exp c + blocks_stms body) r h.1)

  branches : {a z : ℕ} (n : ℕ) (bs : Branches) → wide.BranchesOnLines a z bs → Holds (BranchesOnLines a z) (narrow_branches n bs)
  branches n W.no_branches h = there _ tt
  branches n (W.branch l c body r) h =
      of-three (T.branch l) (λ x y z p q s. (q, s)) (any (narrow_exp n c)) (statements (n + blocks_exp c) body h.0)
      (branches (n + blocks_exp c + blocks_stms body) r h.1)

  handlers : {a z : ℕ} (n : ℕ) (hs : Handlers) → wide.HandlersOnLines a z hs → Holds (HandlersOnLines a z) (narrow_handlers n hs)
  handlers n W.no_handlers h = there _ tt
  handlers n (W.handler l true c x body r) h = absent
  handlers n (W.handler l false c x body r) h =
      of-three (λ c'. T.handler l c' x) (λ x y z p q s. (q, s)) (any (narrow_opt n c)) (statements (n + blocks_opt c) body h.0)
      (handlers (n + blocks_opt c + blocks_stms body) r h.1)

which : {a z : ℕ} {ss : T.Stms} → Holds (StmsOnLines a z) (Some ss) → StmsOnLines a z ss
which (there x p) = p

pub scripts_on_lines : (a z : ℕ) (script : Stms) (tree : T.Stms) → wide.StmsOnLines a z script → narrow_script script ≡ Some tree → StmsOnLines a z tree
scripts_on_lines a z script tree h is = which (subst (Holds (StmsOnLines a z)) is (statements 1 script h))
