-- The blocks of statements have names of the wide statements that these are.
use Rattle.std.proofs.Common.{◌≡◌, ℕ, zero, suc, ◌+◌, true, false, List, [], ◌∷◌, ◌++◌, map, Some, None, subst}
use Rattle.std.specs.Prelude.{codes}
use Rattle.pt_refine_expr.specs.declared.stars.Stars.TheVariants.{Never, Inside}
use Rattle.pt_tree.specs.Syntax as T
use Rattle.pt_tree.specs.Syntax.{Name}
use Rattle.pt_tree.specs.Blocks as tree
use Rattle.pt_tree.specs.Blocks.{Block, inside_class, blocks_script}
use Rattle.pt_wide.specs.Syntax as W
use Rattle.pt_wide.specs.Syntax.{Stm, Stms, Branches, Handlers}
use Rattle.pt_refine_expr.specs.Blocks.{blocks_exp, blocks_all, blocks_opt, blocks_args, blocks_params}
use Rattle.pt_refine_expr.specs.StatementBlocks.{blocks_decorators, blocks_items, blocks_stm, blocks_stms, blocks_branches, blocks_handlers}
use Rattle.pt_refine_expr.specs.Narrow.{narrow_exp, narrow_opt, narrow_params, narrow_place, narrow_target, narrow_targets}
use Rattle.pt_refine_expr.specs.StatementNarrow.{narrow_assigned, narrow_base, narrow_decorators, narrow_items, narrow_stm, narrow_stms, narrow_branches, narrow_handlers}
use Rattle.law_front.specs.parsed.Parsed as parsed
use Rattle.law_block_names.proofs.Ways.{Holds, absent, there, any, made, of-both, of-three, of-four}
use Rattle.law_block_names.proofs.Expressions as expressions

module _ (P : Name → Type 0) (lambda : P (codes "<lambda>")) (generator : P (codes "<genexpr>")) where
  abbrev Are : List Block → Type 0
  Are bs = expressions.AreNamed P bs

  two : (bs cs : List Block) → Are bs → Are cs → Are (bs ++ cs)
  two bs cs h k = expressions.two P bs cs h k

  three : (bs cs ds : List Block) → Are bs → Are cs → Are ds → Are (bs ++ cs ++ ds)
  three bs cs ds h k i = expressions.three P bs cs ds h k i

  four : (bs cs ds es : List Block) → Are bs → Are cs → Are ds → Are es → Are (bs ++ cs ++ ds ++ es)
  four bs cs ds es h k i j = expressions.four P bs cs ds es h k i j

  exp : (e : T.Exp) → Are (tree.blocks_exp e)
  exp = expressions.exp P lambda generator

  opt : (o : T.Opt) → Are (tree.blocks_opt o)
  opt = expressions.opt P lambda generator

  place : (p : T.Place) → Are (tree.blocks_place p)
  place = expressions.place P lambda generator

  target : (t : T.Tgt) → Are (tree.blocks_target t)
  target = expressions.target P lambda generator

  targets : (ts : T.Tgts) → Are (tree.blocks_targets ts)
  targets = expressions.targets P lambda generator

  params : (ps : T.Params) → Are (tree.blocks_params ps)
  params = expressions.params P lambda generator

  decorators : (ds : T.Decorators) → Are (tree.blocks_decorators ds)
  decorators = expressions.decorators P lambda generator

  items : (is : T.Items) → Are (tree.blocks_items is)
  items = expressions.items P lambda generator

  inside : (x : Name) (bs : List Block) → Are bs → Are (map (inside_class x) bs)
  inside x [] h = tt
  inside x (b ∷ bs) h = (h.0, inside x bs h.1)

  abbrev StmNamed : T.Stm → Type 0
  StmNamed s = Are (tree.blocks_stm s)

  abbrev StmsNamed : T.Stms → Type 0
  StmsNamed ss = Are (tree.blocks_stms ss)

  abbrev BranchesNamed : T.Branches → Type 0
  BranchesNamed bs = Are (tree.blocks_branches bs)

  abbrev HandlersNamed : T.Handlers → Type 0
  HandlersNamed hs = Are (tree.blocks_handlers hs)

  mutual
    stm : (n : ℕ) (s : Stm) → parsed.StmParsed P s → Holds StmNamed (narrow_stm n s)
    stm n (W.assign l W.no_exps e) h = made (T.expr l) (λ x p. exp x) (any (narrow_exp n e))
    stm n (W.assign l (W.more_exps t ts) e) h =
        of-both (T.assign l) (λ x y p q. two (tree.blocks_targets x) (tree.blocks_exp y) (targets x) (exp y)) (any (narrow_assigned n (W.more_exps t ts)))
        (any (narrow_exp (n + blocks_all (W.more_exps t ts)) e))
    stm n (W.augmented l t o e) h =
        of-both (λ p. T.augmented l p o) (λ x y p q. two (tree.blocks_place x) (tree.blocks_exp y) (place x) (exp y)) (any (narrow_place n t))
        (any (narrow_exp (n + blocks_exp t) e))
    stm n (W.annotated l t a v) h =
        of-three (T.annotated l) (λ x y z p q r. two (tree.blocks_place x) (tree.blocks_opt z) (place x) (opt z)) (any (narrow_place n t))
        (any (narrow_exp (n + blocks_exp t) a)) (any (narrow_opt (n + blocks_exp t) v))
    stm n (W.assert l c m) h =
        of-both (T.assert l) (λ x y p q. two (tree.blocks_exp x) (tree.blocks_opt y) (exp x) (opt y)) (any (narrow_exp n c))
        (any (narrow_opt (n + blocks_exp c) m))
    stm n (W.pass l) h = there _ tt
    stm n (W.del l ts) h = made (T.del l) (λ x p. targets x) (any (narrow_targets n Never ts))
    stm n (W.return l v) h = made (T.return l) (λ x p. opt x) (any (narrow_opt n v))
    stm n (W.raise l e c) h =
        of-both (T.raise l) (λ x y p q. two (tree.blocks_exp x) (tree.blocks_opt y) (exp x) (opt y)) (any (narrow_exp n e))
        (any (narrow_opt (n + blocks_exp e) c))
    stm n (W.raise_again l) h = there _ tt
    stm n (W.break l) h = there _ tt
    stm n (W.continue l) h = there _ tt
    stm n (W.import l xs) h = there _ tt
    stm n (W.global l xs) h = there _ tt
    stm n (W.nonlocal l xs) h = there _ tt
    stm n (W.import_from l zero m (Some xs)) h = there _ tt
    stm n (W.import_from l zero m None) h = absent
    stm n (W.import_from l (suc d) m xs) h = absent
    stm n (W.choice l bs els) h =
        of-both (T.choice l) (λ x y p q. two (tree.blocks_branches x) (tree.blocks_stms y) p q) (branches n bs h.0) (statements (n + blocks_branches bs) els h.1)
    stm n (W.while l c body els) h =
        of-three (T.while l) (λ x y z p q r. three (tree.blocks_exp x) (tree.blocks_stms y) (tree.blocks_stms z) (exp x) q r) (any (narrow_exp n c))
        (statements (n + blocks_exp c) body h.1) (statements (n + blocks_exp c + blocks_stms body) els h.2)
    stm n (W.for l t it body els) h =
        of-four (T.for l)
        (λ x y z u p q r s. four (tree.blocks_target x) (tree.blocks_exp y) (tree.blocks_stms z) (tree.blocks_stms u) (target x) (exp y) r s)
        (any (narrow_target n Inside t)) (any (narrow_exp (n + blocks_exp t) it)) (statements (n + blocks_exp t + blocks_exp it) body h.2)
        (statements (n + blocks_exp t + blocks_exp it + blocks_stms body) els h.3)
    stm n (W.try l W.none hs els fin) h = absurd h
    stm n (W.try l (W.more s ss) hs els fin) h =
        let size = blocks_stms (W.more s ss) in
        of-four (T.try l)
        (λ x y z u p q r o. four (tree.blocks_stms x) (tree.blocks_handlers y) (tree.blocks_stms z) (tree.blocks_stms u) p q r o)
        (of-both {R = StmsNamed} T.more (λ x y p q. two (tree.blocks_stm x) (tree.blocks_stms y) p q) (stm n s h.0) (statements (n + blocks_stm s) ss h.1))
        (handlers (n + size) hs h.2) (statements (n + size + blocks_handlers hs) els h.3)
        (statements (n + size + blocks_handlers hs + blocks_stms els) fin h.4)
    stm n (W.with l W.no_items body) h = absurd h
    stm n (W.with l (W.with_item m e t r) body) h =
        let is = W.with_item m e t r in
        of-both (T.with l) (λ x y p q. two (tree.blocks_items x) (tree.blocks_stms y) (items x) q) (any (narrow_items n is))
        (statements (n + blocks_items is) body h.3)
    stm n (W.def l ds dl x ps r body) h =
        of-four (λ ds'. T.def l ds' dl (n + blocks_decorators ds) x)
        (λ y z u v p q r s. four (tree.blocks_decorators y) (_ ∷ []) (tree.blocks_params z) (tree.blocks_stms v) (decorators y) (h.1, tt)
        (params z) s) (any (narrow_decorators n ds))
        (any (narrow_params (1 + (n + blocks_decorators ds)) ps)) (any (narrow_opt (1 + (n + blocks_decorators ds) + blocks_params ps) r))
        (statements (1 + (n + blocks_decorators ds) + blocks_params ps) body h.4)
    stm n (W.class l ds cl x args comma body) h =
        of-three (λ ds'. T.class l ds' cl (n + blocks_decorators ds) x)
        (λ y z u p q r. four (tree.blocks_decorators y) (_ ∷ []) (tree.blocks_opt z) (map (inside_class x) (tree.blocks_stms u)) (decorators y) (h.1, tt)
        (opt z) (inside x (tree.blocks_stms u) r)) (any (narrow_decorators n ds))
        (any (narrow_base (1 + (n + blocks_decorators ds)) args comma)) (statements (1 + (n + blocks_decorators ds) + blocks_args args) body h.3)

    statements : (n : ℕ) (ss : Stms) → parsed.StmsParsed P ss → Holds StmsNamed (narrow_stms n ss)
    statements n W.none h = there _ tt
    statements n (W.more s ss) h =
        of-both T.more (λ x y p q. two (tree.blocks_stm x) (tree.blocks_stms y) p q) (stm n s h.0) (statements (n + blocks_stm s) ss h.1)

    branches : (n : ℕ) (bs : Branches) → parsed.BranchesParsed P bs → Holds BranchesNamed (narrow_branches n bs)
    branches n W.no_branches h = there _ tt
    branches n (W.branch l c body r) h =
        of-three (T.branch l) (λ x y z p q s. three (tree.blocks_exp x) (tree.blocks_stms y) (tree.blocks_branches z) (exp x) q s) (any (narrow_exp n c))
        (statements (n + blocks_exp c) body h.1) (branches (n + blocks_exp c + blocks_stms body) r h.2)

    handlers : (n : ℕ) (hs : Handlers) → parsed.HandlersParsed P hs → Holds HandlersNamed (narrow_handlers n hs)
    handlers n W.no_handlers h = there _ tt
    handlers n (W.handler l true c x body r) h = absent
    handlers n (W.handler l false c x body r) h =
        of-three (λ c'. T.handler l c' x) (λ y z u p q s. three (tree.blocks_opt y) (tree.blocks_stms z) (tree.blocks_handlers u) (opt y) q s)
        (any (narrow_opt n c)) (statements (n + blocks_opt c) body h.2) (handlers (n + blocks_opt c + blocks_stms body) r h.3)

  which : {ss : T.Stms} → Holds StmsNamed (Some ss) → StmsNamed ss
  which (there x p) = p

  pub script : (wide : Stms) (tree_of : T.Stms) → P (codes "<module>") → parsed.StmsParsed P wide → narrow_stms 1 wide ≡ Some tree_of
      → expressions.AreNamed P (blocks_script tree_of)
  script wide tree_of top h e = (top, which (subst (Holds StmsNamed) e (statements 1 wide h)))
