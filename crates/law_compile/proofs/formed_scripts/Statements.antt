-- What statements of the wide grammar are in the tree is formed, if they are.
use Rattle.std.proofs.Common.{◌≡◌, ℕ, zero, suc, ◌+◌, Bool, true, false, Option, Some, None, subst}
use Rattle.std.specs.Prelude.{if◌then◌else◌}
use Rattle.pt_refine_expr.specs.declared.stars.Stars.TheVariants.{Never, Inside}
use Rattle.pt_tree.specs.Syntax as T
use Rattle.pt_wide.specs.Syntax as W
use Rattle.pt_wide.specs.Syntax.{Exps, Opt, Args, Decorators, Items, Stm, Stms, Branches, Handlers}
use Rattle.pt_refine_expr.specs.Blocks.{blocks_exp, blocks_all, blocks_opt, blocks_args, blocks_params}
use Rattle.pt_refine_expr.specs.StatementBlocks.{blocks_decorators, blocks_items, blocks_stm, blocks_stms, blocks_branches, blocks_handlers}
use Rattle.pt_refine_expr.specs.StatementFaults.{is_generator}
use Rattle.pt_refine_expr.specs.Narrow.{narrow_exp, narrow_opt}
use Rattle.pt_refine_expr.specs.StatementNarrow.{narrow_assigned, narrow_as, narrow_base, narrow_decorators, narrow_items, narrow_stm, narrow_stms, narrow_branches, narrow_handlers}
use Rattle.law_compile.specs.loop_exits.Parts as parts
use Rattle.law_compile.specs.formed.Formed as F
use Rattle.law_compile.specs.formed_scripts.Wide.{ExpFormed, ExpsFormed, OptFormed, ArgsFormed, DecoratorsFormed, HasItem, ItemsFormed, StmFormed, StmsFormed, BranchesFormed, HandlersFormed}
use Rattle.law_compile.specs.formed_scripts.Laws.{ScriptsAreFormed}
use Rattle.law_compile.proofs.formed_scripts.Ways.{Holds, absent, there, any, made, if-allowed, of-both, of-three, of-four}
use Rattle.law_compile.proofs.formed_scripts.Expressions.{exp, opt, params, target, targets, place}

assigned : (n : ℕ) (ts : Exps) → ExpsFormed ts → Holds F.TgtsFormed (narrow_assigned n ts)
assigned n W.no_exps h = there _ tt
assigned n (W.more_exps t ts) h = of-both T.more_targets (λ x y p q. (p, q)) (target n Inside t h.0) (assigned (n + blocks_exp t) ts h.1)

taken : (n : ℕ) (o : Opt) → OptFormed o → Holds F.TakenFormed (narrow_as n o)
taken n W.absent h = there _ tt
taken n (W.given t) h = made Some (λ x p. p) (target n Never t h)

base : (n : ℕ) (r : Args) (comma : Bool) → ArgsFormed r → Holds F.OptFormed (narrow_base n r comma)
base n W.no_args comma h = there _ tt
base n (W.positional e W.no_args) true h = absent
base n (W.positional e W.no_args) false h = if-allowed (if is_generator e then false else true) (made T.given (λ x p. p) (exp n e h.0))
base n (W.positional e (W.positional f r)) comma h = absent
base n (W.positional e (W.named l x f r)) comma h = absent
base n (W.positional e (W.spread l f r)) comma h = absent
base n (W.positional e (W.spread_named l f r)) comma h = absent
base n (W.named l x e r) comma h = absent
base n (W.spread l e r) comma h = absent
base n (W.spread_named l e r) comma h = absent

decorators : (n : ℕ) (ds : Decorators) → DecoratorsFormed ds → Holds F.DecoratorsFormed (narrow_decorators n ds)
decorators n W.no_decorators h = there _ tt
decorators n (W.decorator l e r) h = of-both (T.decorator l) (λ x y p q. (p, q)) (exp n e h.0) (decorators (n + blocks_exp e) r h.1)

items : (n : ℕ) (is : Items) → ItemsFormed is → Holds F.ItemsFormed (narrow_items n is)
items n W.no_items h = there _ tt
items n (W.with_item l e t r) h = of-three (T.with_item l) (λ x y z p q s. (p, q, s)) (exp n e h.0) (taken (n + blocks_exp e) t h.1) (items (n + blocks_exp e + blocks_opt t) r h.2)

abbrev SomeItems : T.Items → Type 0
SomeItems is = parts.HasItem is × F.ItemsFormed is

abbrev SomeStatements : T.Stms → Type 0
SomeStatements ss = parts.HasStatement ss × F.StmsFormed ss

some_items : (n : ℕ) (is : Items) → HasItem is → ItemsFormed is → Holds SomeItems (narrow_items n is)
some_items n W.no_items z h = absurd z
some_items n (W.with_item l e t r) z h =
    of-three (T.with_item l) (λ x y z p q s. (tt, (p, q, s))) (exp n e h.0) (taken (n + blocks_exp e) t h.1) (items (n + blocks_exp e + blocks_opt t) r h.2)

mutual
  stm : (n : ℕ) (s : Stm) → StmFormed s → Holds F.StmFormed (narrow_stm n s)
  stm n (W.assign l W.no_exps e) h = made (T.expr l) (λ x p. p) (exp n e h.1)
  stm n (W.assign l (W.more_exps t ts) e) h =
      of-both (T.assign l) (λ x y p q. (p, q)) (assigned n (W.more_exps t ts) h.0) (exp (n + blocks_all (W.more_exps t ts)) e h.1)
  stm n (W.augmented l t o e) h = of-both (λ p. T.augmented l p o) (λ x y p q. (p, q)) (place n t h.0) (exp (n + blocks_exp t) e h.1)
  stm n (W.annotated l t a v) h = of-three (T.annotated l) (λ x y z p q s. (p, s)) (place n t h.0) (any (narrow_exp (n + blocks_exp t) a)) (opt (n + blocks_exp t) v h.1)
  stm n (W.assert l c m) h = of-both (T.assert l) (λ x y p q. (p, q)) (exp n c h.0) (opt (n + blocks_exp c) m h.1)
  stm n (W.pass l) h = there _ tt
  stm n (W.del l ts) h = made (T.del l) (λ x p. p) (targets n Never ts h)
  stm n (W.return l v) h = made (T.return l) (λ x p. p) (opt n v h)
  stm n (W.raise l e c) h = of-both (T.raise l) (λ x y p q. (p, q)) (exp n e h.0) (opt (n + blocks_exp e) c h.1)
  stm n (W.raise_again l) h = there _ tt
  stm n (W.break l) h = there _ tt
  stm n (W.continue l) h = there _ tt
  stm n (W.import l xs) h = there _ tt
  stm n (W.global l xs) h = there _ tt
  stm n (W.nonlocal l xs) h = there _ tt
  stm n (W.import_from l zero m (Some xs)) h = there _ tt
  stm n (W.import_from l zero m None) h = absent
  stm n (W.import_from l (suc d) m xs) h = absent
  stm n (W.choice l bs els) h = of-both (T.choice l) (λ x y p q. (p, q)) (branches n bs h.0) (statements (n + blocks_branches bs) els h.1)
  stm n (W.while l c body els) h =
      of-three (T.while l) (λ x y z p q s. (p, q, s)) (exp n c h.0) (statements (n + blocks_exp c) body h.1) (statements (n + blocks_exp c + blocks_stms body) els h.2)
  stm n (W.for l t it body els) h =
      of-four (T.for l) (λ x y z u p q s o. (p, q, s, o)) (target n Inside t h.0) (exp (n + blocks_exp t) it h.1) (statements (n + blocks_exp t + blocks_exp it) body h.2)
      (statements (n + blocks_exp t + blocks_exp it + blocks_stms body) els h.3)
  stm n (W.try l W.none hs els fin) h = absurd h.0
  stm n (W.try l (W.more s ss) hs els fin) h =
      let size = blocks_stms (W.more s ss) in
      of-four {P = SomeStatements} (T.try l) (λ x y z u p q s o. (p.0, p.1, q, s, o))
      (of-both {R = SomeStatements} T.more (λ x y p q. (tt, (p, q))) (stm n s (h.1).0) (statements (n + blocks_stm s) ss (h.1).1)) (handlers (n + size) hs h.2)
      (statements (n + size + blocks_handlers hs) els h.3) (statements (n + size + blocks_handlers hs + blocks_stms els) fin h.4)
  stm n (W.with l is body) h = of-both {P = SomeItems} (T.with l) (λ x y p q. (p.0, p.1, q)) (some_items n is h.0 h.1) (statements (n + blocks_items is) body h.2)
  stm n (W.def l ds dl x ps r body) h =
      of-four (λ ds'. T.def l ds' dl (n + blocks_decorators ds) x) (λ y z u v p q s o. (p, q, o)) (decorators n ds h.0) (params (1 + (n + blocks_decorators ds)) ps h.1)
      (any (narrow_opt (1 + (n + blocks_decorators ds) + blocks_params ps) r)) (statements (1 + (n + blocks_decorators ds) + blocks_params ps) body h.2)
  stm n (W.class l ds cl x args comma body) h =
      of-three (λ ds'. T.class l ds' cl (n + blocks_decorators ds) x) (λ y z u p q s. (p, q, s)) (decorators n ds h.0) (base (1 + (n + blocks_decorators ds)) args comma h.1)
      (statements (1 + (n + blocks_decorators ds) + blocks_args args) body h.2)

  statements : (n : ℕ) (ss : Stms) → StmsFormed ss → Holds F.StmsFormed (narrow_stms n ss)
  statements n W.none h = there _ tt
  statements n (W.more s ss) h = of-both T.more (λ x y p q. (p, q)) (stm n s h.0) (statements (n + blocks_stm s) ss h.1)

  branches : (n : ℕ) (bs : Branches) → BranchesFormed bs → Holds F.BranchesFormed (narrow_branches n bs)
  branches n W.no_branches h = there _ tt
  branches n (W.branch l c body r) h =
      of-three (T.branch l) (λ x y z p q s. (p, q, s)) (exp n c h.0) (statements (n + blocks_exp c) body h.1) (branches (n + blocks_exp c + blocks_stms body) r h.2)

  handlers : (n : ℕ) (hs : Handlers) → HandlersFormed hs → Holds F.HandlersFormed (narrow_handlers n hs)
  handlers n W.no_handlers h = there _ tt
  handlers n (W.handler l true c x body r) h = absent
  handlers n (W.handler l false c x body r) h =
      of-three (λ c'. T.handler l c' x) (λ x y z p q s. (p, q, s)) (opt n c h.0) (statements (n + blocks_opt c) body h.1) (handlers (n + blocks_opt c + blocks_stms body) r h.2)

which : {ss : T.Stms} → Holds F.StmsFormed (Some ss) → F.StmsFormed ss
which (there x p) = p

pub scripts_are_formed : ScriptsAreFormed
scripts_are_formed script tree h is = which (subst (Holds F.StmsFormed) is (statements 1 script h))
