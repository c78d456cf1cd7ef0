-- What is so of the block of each function, class, lambda and generator expression is so of all blocks of a tree but the module, where something is so
-- of the numbers of the blocks in each.
use Rattle.std.proofs.Common.{ℕ, List, [], ◌∷◌, map, Option, Some, None, codes}
use Rattle.std.specs.List.{AllByRecursion}
use Rattle.pt_tree.specs.Syntax as S
use Rattle.pt_tree.specs.Syntax.{Name, Exp, Exps, Opt, Pieces, Entries, Links, Args, Made, Clauses, Place, Tgt, Tgts, Params, Formals, Decorators, Items, Stm, Stms, Branches, Handlers}
use Rattle.pt_tree.specs.Blocks as B
use Rattle.pt_tree.specs.Blocks.{Block, Code, no_params, inside_class, first_line_of, blocks_all, blocks_args, blocks_branches, blocks_clauses, blocks_decorators, blocks_entries, blocks_exp, blocks_formals, blocks_handlers, blocks_items, blocks_links, blocks_made, blocks_opt, blocks_opt_target, blocks_params, blocks_pieces, blocks_place, blocks_stm, blocks_stms, blocks_target, blocks_targets}
use Rattle.sem_control.specs.numbering.Numbered.{numbers_all, numbers_args, numbers_branches, numbers_clauses, numbers_decorators, numbers_entries, numbers_exp, numbers_formals, numbers_handlers, numbers_items, numbers_links, numbers_made, numbers_opt, numbers_opt_target, numbers_params, numbers_pieces, numbers_place, numbers_stm, numbers_stms, numbers_target, numbers_targets}
use Rattle.law_files.proofs.code_files.Each.{split, split3, split4, split5, both, both3, both4, both5}

abbrev pub block_of : Name → (first_line : ℕ) → (class : Option Name) → Params → Code → Block
block_of x l c ps k = record { name = x; first_line = l; class = c; params = ps; code = k }

module _ (R : ℕ → Type 0) (P : Block → Type 0)
    (of_function : (x : Name) (l : ℕ) (ps : Params) (body : Stms) → AllByRecursion R (numbers_stms body)
    → P (block_of x l None ps (B.of_function body)))
    (of_class : (x : Name) (l : ℕ) (body : Stms) → AllByRecursion R (numbers_stms body) → P (block_of x l (Some x) no_params (B.of_class body)))
    (of_lambda : (x : Name) (l : ℕ) (ps : Params) (e : Exp) → AllByRecursion R (numbers_exp e) → P (block_of x l None ps (B.of_lambda l e)))
    (of_generator : (x : Name) (l : ℕ) (e : Exp) (k : ℕ) (t : Tgt) (cs : Clauses) → AllByRecursion R (numbers_exp e)
    → AllByRecursion R (numbers_target t)
    → AllByRecursion R (numbers_clauses cs) → P (block_of x l None no_params (B.of_generator l e k t cs)))
    (of_inside : (x : Name) (k : Block) → P k → P (inside_class x k)) where
  each_inside : (x : Name) (ks : List Block) → AllByRecursion P ks → AllByRecursion P (map (inside_class x) ks)
  each_inside x [] h = tt
  each_inside x (k ∷ ks) h = (of_inside x k h.0, each_inside x ks h.1)

  mutual
    pub each_exp : (x : Exp) → AllByRecursion R (numbers_exp x) → AllByRecursion P (blocks_exp x)
    each_exp (S.constant l k) h = tt
    each_exp (S.name l x) h = tt
    each_exp (S.joined l ps) h = each_pieces ps h
    each_exp (S.tuple l es) h = each_all es h
    each_exp (S.list l es) h = each_all es h
    each_exp (S.set l es) h = each_all es h
    each_exp (S.dict l es) h = each_entries es h
    each_exp (S.attribute l a x) h = each_exp a h
    each_exp (S.item l a i) h =
        let parts = split R (numbers_exp a) (numbers_exp i) h in
        both P (blocks_exp a) (blocks_exp i) (each_exp a parts.0) (each_exp i parts.1)
    each_exp (S.slice l a b c) h =
        let parts = split3 R (numbers_opt a) (numbers_opt b) (numbers_opt c) h in
        both3 P (blocks_opt a) (blocks_opt b) (blocks_opt c) (each_opt a parts.0) (each_opt b parts.1.0) (each_opt c parts.1.1)
    each_exp (S.unary l o a) h = each_exp a h
    each_exp (S.not_of l a) h = each_exp a h
    each_exp (S.binary l o a b) h =
        let parts = split R (numbers_exp a) (numbers_exp b) h in
        both P (blocks_exp a) (blocks_exp b) (each_exp a parts.0) (each_exp b parts.1)
    each_exp (S.compare l a o b r) h =
        let parts = split3 R (numbers_exp a) (numbers_exp b) (numbers_links r) h in
        both3 P (blocks_exp a) (blocks_exp b) (blocks_links r) (each_exp a parts.0) (each_exp b parts.1.0) (each_links r parts.1.1)
    each_exp (S.and l a es) h =
        let parts = split R (numbers_exp a) (numbers_all es) h in
        both P (blocks_exp a) (blocks_all es) (each_exp a parts.0) (each_all es parts.1)
    each_exp (S.or l a es) h =
        let parts = split R (numbers_exp a) (numbers_all es) h in
        both P (blocks_exp a) (blocks_all es) (each_exp a parts.0) (each_all es parts.1)
    each_exp (S.conditional l c a b) h =
        let parts = split3 R (numbers_exp a) (numbers_exp c) (numbers_exp b) h in
        both3 P (blocks_exp a) (blocks_exp c) (blocks_exp b) (each_exp a parts.0) (each_exp c parts.1.0) (each_exp b parts.1.1)
    each_exp (S.call l f args) h =
        let parts = split R (numbers_exp f) (numbers_args args) h in
        both P (blocks_exp f) (blocks_args args) (each_exp f parts.0) (each_args args parts.1)
    each_exp (S.lambda l b ps e) h =
        let parts = split3 R (b ∷ []) (numbers_params ps) (numbers_exp e) h in
        both3 P (_ ∷ []) (blocks_params ps) (blocks_exp e) (of_lambda (codes "<lambda>") l ps e parts.1.1, tt) (each_params ps parts.1.0)
        (each_exp e parts.1.1)
    each_exp (S.comprehension l m fl t it cs) h =
        let parts = split4 R (numbers_made m) (numbers_target t) (numbers_exp it) (numbers_clauses cs) h in
        both4 P (blocks_made m) (blocks_target t) (blocks_exp it) (blocks_clauses cs) (each_made m parts.0) (each_target t parts.1.0)
        (each_exp it parts.1.1.0) (each_clauses cs parts.1.1.1)
    each_exp (S.generator l b e fl t it cs) h =
        let parts = split5 R (b ∷ []) (numbers_exp e) (numbers_target t) (numbers_exp it) (numbers_clauses cs) h in
        both5 P (_ ∷ []) (blocks_exp e) (blocks_target t) (blocks_exp it) (blocks_clauses cs)
        (of_generator (codes "<genexpr>") l e fl t cs parts.1.0 parts.1.1.0 parts.1.1.1.1, tt) (each_exp e parts.1.0) (each_target t parts.1.1.0)
        (each_exp it parts.1.1.1.0) (each_clauses cs parts.1.1.1.1)
    each_exp (S.yield l v) h = each_opt v h
    each_exp (S.yield_from l e) h = each_exp e h

    pub each_all : (x : Exps) → AllByRecursion R (numbers_all x) → AllByRecursion P (blocks_all x)
    each_all S.no_exps h = tt
    each_all (S.more_exps e es) h =
        let parts = split R (numbers_exp e) (numbers_all es) h in
        both P (blocks_exp e) (blocks_all es) (each_exp e parts.0) (each_all es parts.1)

    pub each_opt : (x : Opt) → AllByRecursion R (numbers_opt x) → AllByRecursion P (blocks_opt x)
    each_opt S.absent h = tt
    each_opt (S.given e) h = each_exp e h

    pub each_pieces : (x : Pieces) → AllByRecursion R (numbers_pieces x) → AllByRecursion P (blocks_pieces x)
    each_pieces S.no_pieces h = tt
    each_pieces (S.literal l t r) h = each_pieces r h
    each_pieces (S.field l e c ps r) h =
        let parts = split3 R (numbers_exp e) (numbers_pieces ps) (numbers_pieces r) h in
        both3 P (blocks_exp e) (blocks_pieces ps) (blocks_pieces r) (each_exp e parts.0) (each_pieces ps parts.1.0) (each_pieces r parts.1.1)

    pub each_entries : (x : Entries) → AllByRecursion R (numbers_entries x) → AllByRecursion P (blocks_entries x)
    each_entries S.no_entries h = tt
    each_entries (S.entry k v r) h =
        let parts = split3 R (numbers_exp k) (numbers_exp v) (numbers_entries r) h in
        both3 P (blocks_exp k) (blocks_exp v) (blocks_entries r) (each_exp k parts.0) (each_exp v parts.1.0) (each_entries r parts.1.1)

    pub each_links : (x : Links) → AllByRecursion R (numbers_links x) → AllByRecursion P (blocks_links x)
    each_links S.no_links h = tt
    each_links (S.link o b r) h =
        let parts = split R (numbers_exp b) (numbers_links r) h in
        both P (blocks_exp b) (blocks_links r) (each_exp b parts.0) (each_links r parts.1)

    pub each_args : (x : Args) → AllByRecursion R (numbers_args x) → AllByRecursion P (blocks_args x)
    each_args S.no_args h = tt
    each_args (S.positional e r) h =
        let parts = split R (numbers_exp e) (numbers_args r) h in
        both P (blocks_exp e) (blocks_args r) (each_exp e parts.0) (each_args r parts.1)
    each_args (S.named x e r) h =
        let parts = split R (numbers_exp e) (numbers_args r) h in
        both P (blocks_exp e) (blocks_args r) (each_exp e parts.0) (each_args r parts.1)
    each_args (S.spread e r) h =
        let parts = split R (numbers_exp e) (numbers_args r) h in
        both P (blocks_exp e) (blocks_args r) (each_exp e parts.0) (each_args r parts.1)
    each_args (S.spread_named e r) h =
        let parts = split R (numbers_exp e) (numbers_args r) h in
        both P (blocks_exp e) (blocks_args r) (each_exp e parts.0) (each_args r parts.1)

    pub each_made : (x : Made) → AllByRecursion R (numbers_made x) → AllByRecursion P (blocks_made x)
    each_made (S.a_list e) h = each_exp e h
    each_made (S.a_set e) h = each_exp e h
    each_made (S.a_dict k v) h =
        let parts = split R (numbers_exp k) (numbers_exp v) h in
        both P (blocks_exp k) (blocks_exp v) (each_exp k parts.0) (each_exp v parts.1)

    pub each_clauses : (x : Clauses) → AllByRecursion R (numbers_clauses x) → AllByRecursion P (blocks_clauses x)
    each_clauses S.no_clauses h = tt
    each_clauses (S.only_if c cs) h =
        let parts = split R (numbers_exp c) (numbers_clauses cs) h in
        both P (blocks_exp c) (blocks_clauses cs) (each_exp c parts.0) (each_clauses cs parts.1)
    each_clauses (S.for_each fl t it cs) h =
        let parts = split3 R (numbers_target t) (numbers_exp it) (numbers_clauses cs) h in
        both3 P (blocks_target t) (blocks_exp it) (blocks_clauses cs) (each_target t parts.0) (each_exp it parts.1.0) (each_clauses cs parts.1.1)

    pub each_place : (x : Place) → AllByRecursion R (numbers_place x) → AllByRecursion P (blocks_place x)
    each_place (S.name_at l x) h = tt
    each_place (S.attribute_at l a x) h = each_exp a h
    each_place (S.item_at l a i) h =
        let parts = split R (numbers_exp a) (numbers_exp i) h in
        both P (blocks_exp a) (blocks_exp i) (each_exp a parts.0) (each_exp i parts.1)

    pub each_target : (x : Tgt) → AllByRecursion R (numbers_target x) → AllByRecursion P (blocks_target x)
    each_target (S.single p) h = each_place p h
    each_target (S.several l f ts) h = each_targets ts h
    each_target (S.starred l t) h = each_target t h

    pub each_targets : (x : Tgts) → AllByRecursion R (numbers_targets x) → AllByRecursion P (blocks_targets x)
    each_targets S.no_targets h = tt
    each_targets (S.more_targets t ts) h =
        let parts = split R (numbers_target t) (numbers_targets ts) h in
        both P (blocks_target t) (blocks_targets ts) (each_target t parts.0) (each_targets ts parts.1)

    pub each_params : (x : Params) → AllByRecursion R (numbers_params x) → AllByRecursion P (blocks_params x)
    each_params (S.parameters ps s ks d) h =
        let parts = split R (numbers_formals ps) (numbers_formals ks) h in
        both P (blocks_formals ps) (blocks_formals ks) (each_formals ps parts.0) (each_formals ks parts.1)

    pub each_formals : (x : Formals) → AllByRecursion R (numbers_formals x) → AllByRecursion P (blocks_formals x)
    each_formals S.no_formals h = tt
    each_formals (S.formal l x a d r) h =
        let parts = split R (numbers_opt d) (numbers_formals r) h in
        both P (blocks_opt d) (blocks_formals r) (each_opt d parts.0) (each_formals r parts.1)

  pub each_decorators : (x : Decorators) → AllByRecursion R (numbers_decorators x) → AllByRecursion P (blocks_decorators x)
  each_decorators S.no_decorators h = tt
  each_decorators (S.decorator l e r) h =
      let parts = split R (numbers_exp e) (numbers_decorators r) h in
      both P (blocks_exp e) (blocks_decorators r) (each_exp e parts.0) (each_decorators r parts.1)

  pub each_opt_target : (x : Option Tgt) → AllByRecursion R (numbers_opt_target x) → AllByRecursion P (blocks_opt_target x)
  each_opt_target None h = tt
  each_opt_target (Some t) h = each_target t h

  pub each_items : (x : Items) → AllByRecursion R (numbers_items x) → AllByRecursion P (blocks_items x)
  each_items S.no_items h = tt
  each_items (S.with_item l e t is) h =
      let parts = split3 R (numbers_exp e) (numbers_opt_target t) (numbers_items is) h in
      both3 P (blocks_exp e) (blocks_opt_target t) (blocks_items is) (each_exp e parts.0) (each_opt_target t parts.1.0) (each_items is parts.1.1)

  mutual
    pub each_stm : (x : Stm) → AllByRecursion R (numbers_stm x) → AllByRecursion P (blocks_stm x)
    each_stm (S.expr l e) h = each_exp e h
    each_stm (S.assign l ts e) h =
        let parts = split R (numbers_targets ts) (numbers_exp e) h in
        both P (blocks_targets ts) (blocks_exp e) (each_targets ts parts.0) (each_exp e parts.1)
    each_stm (S.augmented l p o e) h =
        let parts = split R (numbers_place p) (numbers_exp e) h in
        both P (blocks_place p) (blocks_exp e) (each_place p parts.0) (each_exp e parts.1)
    each_stm (S.annotated l p a v) h =
        let parts = split R (numbers_place p) (numbers_opt v) h in
        both P (blocks_place p) (blocks_opt v) (each_place p parts.0) (each_opt v parts.1)
    each_stm (S.assert l c m) h =
        let parts = split R (numbers_exp c) (numbers_opt m) h in
        both P (blocks_exp c) (blocks_opt m) (each_exp c parts.0) (each_opt m parts.1)
    each_stm (S.pass l) h = tt
    each_stm (S.del l ts) h = each_targets ts h
    each_stm (S.return l v) h = each_opt v h
    each_stm (S.raise l e c) h =
        let parts = split R (numbers_exp e) (numbers_opt c) h in
        both P (blocks_exp e) (blocks_opt c) (each_exp e parts.0) (each_opt c parts.1)
    each_stm (S.raise_again l) h = tt
    each_stm (S.break l) h = tt
    each_stm (S.continue l) h = tt
    each_stm (S.import l xs) h = tt
    each_stm (S.import_from l m xs) h = tt
    each_stm (S.global l xs) h = tt
    each_stm (S.nonlocal l xs) h = tt
    each_stm (S.choice l bs els) h =
        let parts = split R (numbers_branches bs) (numbers_stms els) h in
        both P (blocks_branches bs) (blocks_stms els) (each_branches bs parts.0) (each_stms els parts.1)
    each_stm (S.while l c body els) h =
        let parts = split3 R (numbers_exp c) (numbers_stms body) (numbers_stms els) h in
        both3 P (blocks_exp c) (blocks_stms body) (blocks_stms els) (each_exp c parts.0) (each_stms body parts.1.0) (each_stms els parts.1.1)
    each_stm (S.for l t it body els) h =
        let parts = split4 R (numbers_target t) (numbers_exp it) (numbers_stms body) (numbers_stms els) h in
        both4 P (blocks_target t) (blocks_exp it) (blocks_stms body) (blocks_stms els) (each_target t parts.0) (each_exp it parts.1.0)
        (each_stms body parts.1.1.0) (each_stms els parts.1.1.1)
    each_stm (S.try l body hs els fin) h =
        let parts = split4 R (numbers_stms body) (numbers_handlers hs) (numbers_stms els) (numbers_stms fin) h in
        both4 P (blocks_stms body) (blocks_handlers hs) (blocks_stms els) (blocks_stms fin) (each_stms body parts.0) (each_handlers hs parts.1.0)
        (each_stms els parts.1.1.0) (each_stms fin parts.1.1.1)
    each_stm (S.with l is body) h =
        let parts = split R (numbers_items is) (numbers_stms body) h in
        both P (blocks_items is) (blocks_stms body) (each_items is parts.0) (each_stms body parts.1)
    each_stm (S.def l ds dl b x ps r body) h =
        let parts = split4 R (numbers_decorators ds) (b ∷ []) (numbers_params ps) (numbers_stms body) h in
        both4 P (blocks_decorators ds) (_ ∷ []) (blocks_params ps) (blocks_stms body) (each_decorators ds parts.0)
        (of_function x (first_line_of ds dl) ps body parts.1.1.1, tt) (each_params ps parts.1.1.0) (each_stms body parts.1.1.1)
    each_stm (S.class l ds cl b x base body) h =
        let parts = split4 R (numbers_decorators ds) (b ∷ []) (numbers_opt base) (numbers_stms body) h in
        both4 P (blocks_decorators ds) (_ ∷ []) (blocks_opt base) (map (inside_class x) (blocks_stms body)) (each_decorators ds parts.0)
        (of_class x (first_line_of ds cl) body parts.1.1.1, tt) (each_opt base parts.1.1.0)
        (each_inside x (blocks_stms body) (each_stms body parts.1.1.1))
    each_stm (S.docstring l) h = tt

    pub each_stms : (x : Stms) → AllByRecursion R (numbers_stms x) → AllByRecursion P (blocks_stms x)
    each_stms S.none h = tt
    each_stms (S.more s ss) h =
        let parts = split R (numbers_stm s) (numbers_stms ss) h in
        both P (blocks_stm s) (blocks_stms ss) (each_stm s parts.0) (each_stms ss parts.1)

    pub each_branches : (x : Branches) → AllByRecursion R (numbers_branches x) → AllByRecursion P (blocks_branches x)
    each_branches S.no_branches h = tt
    each_branches (S.branch l c body r) h =
        let parts = split3 R (numbers_exp c) (numbers_stms body) (numbers_branches r) h in
        both3 P (blocks_exp c) (blocks_stms body) (blocks_branches r) (each_exp c parts.0) (each_stms body parts.1.0) (each_branches r parts.1.1)

    pub each_handlers : (x : Handlers) → AllByRecursion R (numbers_handlers x) → AllByRecursion P (blocks_handlers x)
    each_handlers S.no_handlers h = tt
    each_handlers (S.handler l c x body r) h =
        let parts = split3 R (numbers_opt c) (numbers_stms body) (numbers_handlers r) h in
        both3 P (blocks_opt c) (blocks_stms body) (blocks_handlers r) (each_opt c parts.0) (each_stms body parts.1.0) (each_handlers r parts.1.1)
