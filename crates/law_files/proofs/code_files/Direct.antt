-- The blocks that a block makes itself are among those in it.
use Rattle.std.proofs.Common.{ℕ, [], ◌∷◌, Option, Some, None}
use Rattle.std.specs.List.{AllByRecursion}
use Rattle.pt_tree.specs.Syntax as S
use Rattle.pt_tree.specs.Syntax.{Exp, Exps, Opt, Pieces, Entries, Links, Args, Made, Clauses, Place, Tgt, Tgts, Params, Formals, Decorators, Items, Stm, Stms, Branches, Handlers}
use Rattle.sem_control.specs.numbering.Numbered.{numbers_all, numbers_args, numbers_branches, numbers_clauses, numbers_decorators, numbers_entries, numbers_exp, numbers_formals, numbers_handlers, numbers_items, numbers_links, numbers_made, numbers_opt, numbers_opt_target, numbers_params, numbers_pieces, numbers_place, numbers_stm, numbers_stms, numbers_target, numbers_targets}
use Rattle.law_names.specs.module_names.Made.{made_all, made_args, made_branches, made_clauses, made_decorators, made_entries, made_exp, made_formals, made_handlers, made_items, made_links, made_made, made_opt, made_opt_target, made_params, made_pieces, made_place, made_stm, made_stms, made_target, made_targets}
use Rattle.law_files.proofs.code_files.Each.{split, split3, split4, split5, both, both3, both4}

module _ (R : ℕ → Type 0) where
  mutual
    pub direct_exp : (x : Exp) → AllByRecursion R (numbers_exp x) → AllByRecursion R (made_exp x)
    direct_exp (S.constant l k) h = tt
    direct_exp (S.name l x) h = tt
    direct_exp (S.joined l ps) h = direct_pieces ps h
    direct_exp (S.tuple l es) h = direct_all es h
    direct_exp (S.list l es) h = direct_all es h
    direct_exp (S.set l es) h = direct_all es h
    direct_exp (S.dict l es) h = direct_entries es h
    direct_exp (S.attribute l a x) h = direct_exp a h
    direct_exp (S.item l a i) h =
        let parts = split R (numbers_exp a) (numbers_exp i) h in
        both R (made_exp a) (made_exp i) (direct_exp a parts.0) (direct_exp i parts.1)
    direct_exp (S.slice l a b c) h =
        let parts = split3 R (numbers_opt a) (numbers_opt b) (numbers_opt c) h in
        both3 R (made_opt a) (made_opt b) (made_opt c) (direct_opt a parts.0) (direct_opt b parts.1.0) (direct_opt c parts.1.1)
    direct_exp (S.unary l o a) h = direct_exp a h
    direct_exp (S.not_of l a) h = direct_exp a h
    direct_exp (S.binary l o a b) h =
        let parts = split R (numbers_exp a) (numbers_exp b) h in
        both R (made_exp a) (made_exp b) (direct_exp a parts.0) (direct_exp b parts.1)
    direct_exp (S.compare l a o b r) h =
        let parts = split3 R (numbers_exp a) (numbers_exp b) (numbers_links r) h in
        both3 R (made_exp a) (made_exp b) (made_links r) (direct_exp a parts.0) (direct_exp b parts.1.0) (direct_links r parts.1.1)
    direct_exp (S.and l a es) h =
        let parts = split R (numbers_exp a) (numbers_all es) h in
        both R (made_exp a) (made_all es) (direct_exp a parts.0) (direct_all es parts.1)
    direct_exp (S.or l a es) h =
        let parts = split R (numbers_exp a) (numbers_all es) h in
        both R (made_exp a) (made_all es) (direct_exp a parts.0) (direct_all es parts.1)
    direct_exp (S.conditional l c a b) h =
        let parts = split3 R (numbers_exp a) (numbers_exp c) (numbers_exp b) h in
        both3 R (made_exp a) (made_exp c) (made_exp b) (direct_exp a parts.0) (direct_exp c parts.1.0) (direct_exp b parts.1.1)
    direct_exp (S.call l f args) h =
        let parts = split R (numbers_exp f) (numbers_args args) h in
        both R (made_exp f) (made_args args) (direct_exp f parts.0) (direct_args args parts.1)
    direct_exp (S.lambda l b ps e) h =
        let parts = split3 R (b ∷ []) (numbers_params ps) (numbers_exp e) h in
        both R (b ∷ []) (made_params ps) parts.0 (direct_params ps parts.1.0)
    direct_exp (S.comprehension l m fl t it cs) h =
        let parts = split4 R (numbers_made m) (numbers_target t) (numbers_exp it) (numbers_clauses cs) h in
        both4 R (made_made m) (made_target t) (made_exp it) (made_clauses cs) (direct_made m parts.0) (direct_target t parts.1.0) (direct_exp it parts.1.1.0) (direct_clauses cs parts.1.1.1)
    direct_exp (S.generator l b e fl t it cs) h =
        let parts = split5 R (b ∷ []) (numbers_exp e) (numbers_target t) (numbers_exp it) (numbers_clauses cs) h in
        both R (b ∷ []) (made_exp it) parts.0 (direct_exp it parts.1.1.1.0)
    direct_exp (S.yield l v) h = direct_opt v h
    direct_exp (S.yield_from l e) h = direct_exp e h

    direct_all : (x : Exps) → AllByRecursion R (numbers_all x) → AllByRecursion R (made_all x)
    direct_all S.no_exps h = tt
    direct_all (S.more_exps e es) h =
        let parts = split R (numbers_exp e) (numbers_all es) h in
        both R (made_exp e) (made_all es) (direct_exp e parts.0) (direct_all es parts.1)

    direct_opt : (x : Opt) → AllByRecursion R (numbers_opt x) → AllByRecursion R (made_opt x)
    direct_opt S.absent h = tt
    direct_opt (S.given e) h = direct_exp e h

    direct_pieces : (x : Pieces) → AllByRecursion R (numbers_pieces x) → AllByRecursion R (made_pieces x)
    direct_pieces S.no_pieces h = tt
    direct_pieces (S.literal l t r) h = direct_pieces r h
    direct_pieces (S.field l e c ps r) h =
        let parts = split3 R (numbers_exp e) (numbers_pieces ps) (numbers_pieces r) h in
        both3 R (made_exp e) (made_pieces ps) (made_pieces r) (direct_exp e parts.0) (direct_pieces ps parts.1.0) (direct_pieces r parts.1.1)

    direct_entries : (x : Entries) → AllByRecursion R (numbers_entries x) → AllByRecursion R (made_entries x)
    direct_entries S.no_entries h = tt
    direct_entries (S.entry k v r) h =
        let parts = split3 R (numbers_exp k) (numbers_exp v) (numbers_entries r) h in
        both3 R (made_exp k) (made_exp v) (made_entries r) (direct_exp k parts.0) (direct_exp v parts.1.0) (direct_entries r parts.1.1)

    direct_links : (x : Links) → AllByRecursion R (numbers_links x) → AllByRecursion R (made_links x)
    direct_links S.no_links h = tt
    direct_links (S.link o b r) h =
        let parts = split R (numbers_exp b) (numbers_links r) h in
        both R (made_exp b) (made_links r) (direct_exp b parts.0) (direct_links r parts.1)

    direct_args : (x : Args) → AllByRecursion R (numbers_args x) → AllByRecursion R (made_args x)
    direct_args S.no_args h = tt
    direct_args (S.positional e r) h =
        let parts = split R (numbers_exp e) (numbers_args r) h in
        both R (made_exp e) (made_args r) (direct_exp e parts.0) (direct_args r parts.1)
    direct_args (S.named x e r) h =
        let parts = split R (numbers_exp e) (numbers_args r) h in
        both R (made_exp e) (made_args r) (direct_exp e parts.0) (direct_args r parts.1)
    direct_args (S.spread e r) h =
        let parts = split R (numbers_exp e) (numbers_args r) h in
        both R (made_exp e) (made_args r) (direct_exp e parts.0) (direct_args r parts.1)
    direct_args (S.spread_named e r) h =
        let parts = split R (numbers_exp e) (numbers_args r) h in
        both R (made_exp e) (made_args r) (direct_exp e parts.0) (direct_args r parts.1)

    direct_made : (x : Made) → AllByRecursion R (numbers_made x) → AllByRecursion R (made_made x)
    direct_made (S.a_list e) h = direct_exp e h
    direct_made (S.a_set e) h = direct_exp e h
    direct_made (S.a_dict k v) h =
        let parts = split R (numbers_exp k) (numbers_exp v) h in
        both R (made_exp k) (made_exp v) (direct_exp k parts.0) (direct_exp v parts.1)

    pub direct_clauses : (x : Clauses) → AllByRecursion R (numbers_clauses x) → AllByRecursion R (made_clauses x)
    direct_clauses S.no_clauses h = tt
    direct_clauses (S.only_if c cs) h =
        let parts = split R (numbers_exp c) (numbers_clauses cs) h in
        both R (made_exp c) (made_clauses cs) (direct_exp c parts.0) (direct_clauses cs parts.1)
    direct_clauses (S.for_each fl t it cs) h =
        let parts = split3 R (numbers_target t) (numbers_exp it) (numbers_clauses cs) h in
        both3 R (made_target t) (made_exp it) (made_clauses cs) (direct_target t parts.0) (direct_exp it parts.1.0) (direct_clauses cs parts.1.1)

    direct_place : (x : Place) → AllByRecursion R (numbers_place x) → AllByRecursion R (made_place x)
    direct_place (S.name_at l x) h = tt
    direct_place (S.attribute_at l a x) h = direct_exp a h
    direct_place (S.item_at l a i) h =
        let parts = split R (numbers_exp a) (numbers_exp i) h in
        both R (made_exp a) (made_exp i) (direct_exp a parts.0) (direct_exp i parts.1)

    pub direct_target : (x : Tgt) → AllByRecursion R (numbers_target x) → AllByRecursion R (made_target x)
    direct_target (S.single p) h = direct_place p h
    direct_target (S.several l f ts) h = direct_targets ts h
    direct_target (S.starred l t) h = direct_target t h

    direct_targets : (x : Tgts) → AllByRecursion R (numbers_targets x) → AllByRecursion R (made_targets x)
    direct_targets S.no_targets h = tt
    direct_targets (S.more_targets t ts) h =
        let parts = split R (numbers_target t) (numbers_targets ts) h in
        both R (made_target t) (made_targets ts) (direct_target t parts.0) (direct_targets ts parts.1)

    direct_params : (x : Params) → AllByRecursion R (numbers_params x) → AllByRecursion R (made_params x)
    direct_params (S.parameters ps s ks d) h =
        let parts = split R (numbers_formals ps) (numbers_formals ks) h in
        both R (made_formals ps) (made_formals ks) (direct_formals ps parts.0) (direct_formals ks parts.1)

    direct_formals : (x : Formals) → AllByRecursion R (numbers_formals x) → AllByRecursion R (made_formals x)
    direct_formals S.no_formals h = tt
    direct_formals (S.formal l x a d r) h =
        let parts = split R (numbers_opt d) (numbers_formals r) h in
        both R (made_opt d) (made_formals r) (direct_opt d parts.0) (direct_formals r parts.1)

  direct_decorators : (x : Decorators) → AllByRecursion R (numbers_decorators x) → AllByRecursion R (made_decorators x)
  direct_decorators S.no_decorators h = tt
  direct_decorators (S.decorator l e r) h =
      let parts = split R (numbers_exp e) (numbers_decorators r) h in
      both R (made_exp e) (made_decorators r) (direct_exp e parts.0) (direct_decorators r parts.1)

  direct_opt_target : (x : Option Tgt) → AllByRecursion R (numbers_opt_target x) → AllByRecursion R (made_opt_target x)
  direct_opt_target None h = tt
  direct_opt_target (Some t) h = direct_target t h

  direct_items : (x : Items) → AllByRecursion R (numbers_items x) → AllByRecursion R (made_items x)
  direct_items S.no_items h = tt
  direct_items (S.with_item l e t is) h =
      let parts = split3 R (numbers_exp e) (numbers_opt_target t) (numbers_items is) h in
      both3 R (made_exp e) (made_opt_target t) (made_items is) (direct_exp e parts.0) (direct_opt_target t parts.1.0) (direct_items is parts.1.1)

  mutual
    direct_stm : (x : Stm) → AllByRecursion R (numbers_stm x) → AllByRecursion R (made_stm x)
    direct_stm (S.expr l e) h = direct_exp e h
    direct_stm (S.assign l ts e) h =
        let parts = split R (numbers_targets ts) (numbers_exp e) h in
        both R (made_targets ts) (made_exp e) (direct_targets ts parts.0) (direct_exp e parts.1)
    direct_stm (S.augmented l p o e) h =
        let parts = split R (numbers_place p) (numbers_exp e) h in
        both R (made_place p) (made_exp e) (direct_place p parts.0) (direct_exp e parts.1)
    direct_stm (S.annotated l p a v) h =
        let parts = split R (numbers_place p) (numbers_opt v) h in
        both R (made_place p) (made_opt v) (direct_place p parts.0) (direct_opt v parts.1)
    direct_stm (S.assert l c m) h =
        let parts = split R (numbers_exp c) (numbers_opt m) h in
        both R (made_exp c) (made_opt m) (direct_exp c parts.0) (direct_opt m parts.1)
    direct_stm (S.pass l) h = tt
    direct_stm (S.del l ts) h = direct_targets ts h
    direct_stm (S.return l v) h = direct_opt v h
    direct_stm (S.raise l e c) h =
        let parts = split R (numbers_exp e) (numbers_opt c) h in
        both R (made_exp e) (made_opt c) (direct_exp e parts.0) (direct_opt c parts.1)
    direct_stm (S.raise_again l) h = tt
    direct_stm (S.break l) h = tt
    direct_stm (S.continue l) h = tt
    direct_stm (S.import l xs) h = tt
    direct_stm (S.import_from l m xs) h = tt
    direct_stm (S.global l xs) h = tt
    direct_stm (S.nonlocal l xs) h = tt
    direct_stm (S.choice l bs els) h =
        let parts = split R (numbers_branches bs) (numbers_stms els) h in
        both R (made_branches bs) (made_stms els) (direct_branches bs parts.0) (direct_stms els parts.1)
    direct_stm (S.while l c body els) h =
        let parts = split3 R (numbers_exp c) (numbers_stms body) (numbers_stms els) h in
        both3 R (made_exp c) (made_stms body) (made_stms els) (direct_exp c parts.0) (direct_stms body parts.1.0) (direct_stms els parts.1.1)
    direct_stm (S.for l t it body els) h =
        let parts = split4 R (numbers_target t) (numbers_exp it) (numbers_stms body) (numbers_stms els) h in
        both4 R (made_target t) (made_exp it) (made_stms body) (made_stms els) (direct_target t parts.0) (direct_exp it parts.1.0) (direct_stms body parts.1.1.0) (direct_stms els parts.1.1.1)
    direct_stm (S.try l body hs els fin) h =
        let parts = split4 R (numbers_stms body) (numbers_handlers hs) (numbers_stms els) (numbers_stms fin) h in
        both4 R (made_stms body) (made_handlers hs) (made_stms els) (made_stms fin) (direct_stms body parts.0) (direct_handlers hs parts.1.0) (direct_stms els parts.1.1.0) (direct_stms fin parts.1.1.1)
    direct_stm (S.with l is body) h =
        let parts = split R (numbers_items is) (numbers_stms body) h in
        both R (made_items is) (made_stms body) (direct_items is parts.0) (direct_stms body parts.1)
    direct_stm (S.def l ds dl b x ps r body) h =
        let parts = split4 R (numbers_decorators ds) (b ∷ []) (numbers_params ps) (numbers_stms body) h in
        both3 R (made_decorators ds) (b ∷ []) (made_params ps) (direct_decorators ds parts.0) parts.1.0 (direct_params ps parts.1.1.0)
    direct_stm (S.class l ds cl b x base body) h =
        let parts = split4 R (numbers_decorators ds) (b ∷ []) (numbers_opt base) (numbers_stms body) h in
        both3 R (made_decorators ds) (b ∷ []) (made_opt base) (direct_decorators ds parts.0) parts.1.0 (direct_opt base parts.1.1.0)
    direct_stm (S.docstring l) h = tt

    pub direct_stms : (x : Stms) → AllByRecursion R (numbers_stms x) → AllByRecursion R (made_stms x)
    direct_stms S.none h = tt
    direct_stms (S.more s ss) h =
        let parts = split R (numbers_stm s) (numbers_stms ss) h in
        both R (made_stm s) (made_stms ss) (direct_stm s parts.0) (direct_stms ss parts.1)

    direct_branches : (x : Branches) → AllByRecursion R (numbers_branches x) → AllByRecursion R (made_branches x)
    direct_branches S.no_branches h = tt
    direct_branches (S.branch l c body r) h =
        let parts = split3 R (numbers_exp c) (numbers_stms body) (numbers_branches r) h in
        both3 R (made_exp c) (made_stms body) (made_branches r) (direct_exp c parts.0) (direct_stms body parts.1.0) (direct_branches r parts.1.1)

    direct_handlers : (x : Handlers) → AllByRecursion R (numbers_handlers x) → AllByRecursion R (made_handlers x)
    direct_handlers S.no_handlers h = tt
    direct_handlers (S.handler l c x body r) h =
        let parts = split3 R (numbers_opt c) (numbers_stms body) (numbers_handlers r) h in
        both3 R (made_opt c) (made_stms body) (made_handlers r) (direct_opt c parts.0) (direct_stms body parts.1.0) (direct_handlers r parts.1.1)
