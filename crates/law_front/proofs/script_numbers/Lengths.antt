-- A tree has a number for each of its blocks.
use Rattle.std.proofs.Common.{◌≡◌, ap, refl, ℕ, suc, List, [], ◌∷◌, length, Option, Some, None, arith}
use Rattle.std.proofs.lemmas.List.{length-append, length-map}
use Rattle.pt_tree.specs.Syntax as S
use Rattle.pt_tree.specs.Syntax.{Exp, Exps, Opt, Pieces, Entries, Links, Args, Made, Clauses, Place, Tgt, Tgts, Params, Formals, Decorators, Items, Stm, Stms, Branches, Handlers}
use Rattle.pt_tree.specs.Blocks.{blocks_exp, blocks_all, blocks_opt, blocks_pieces, blocks_entries, blocks_links, blocks_args, blocks_made, blocks_clauses, blocks_place, blocks_target, blocks_targets, blocks_params, blocks_formals, blocks_decorators, blocks_opt_target, blocks_items, blocks_stm, blocks_stms, blocks_branches, blocks_handlers}
use Rattle.sem_control.specs.numbering.Numbered.{counted_from, numbers_exp, numbers_all, numbers_opt, numbers_pieces, numbers_entries, numbers_links, numbers_args, numbers_made, numbers_clauses, numbers_place, numbers_target, numbers_targets, numbers_params, numbers_formals, numbers_decorators, numbers_opt_target, numbers_items, numbers_stm, numbers_stms, numbers_branches, numbers_handlers}
use Rattle.law_front.proofs.script_numbers.Counting.{from}

mutual
  pub length_exp : (x : Exp) → length (numbers_exp x) ≡ length (blocks_exp x)
  length_exp (S.constant l k) = refl
  length_exp (S.name l x) = refl
  length_exp (S.joined l ps) = length_pieces ps
  length_exp (S.tuple l es) = length_all es
  length_exp (S.list l es) = length_all es
  length_exp (S.set l es) = length_all es
  length_exp (S.dict l es) = length_entries es
  length_exp (S.attribute l a x) = length_exp a
  length_exp (S.item l a i) = simp (length-append, length_exp a, length_exp i) (omega arith)
  length_exp (S.slice l a b c) = simp (length-append, length_opt a, length_opt b, length_opt c) (omega arith)
  length_exp (S.unary l o a) = length_exp a
  length_exp (S.not_of l a) = length_exp a
  length_exp (S.binary l o a b) = simp (length-append, length_exp a, length_exp b) (omega arith)
  length_exp (S.compare l a o b r) = simp (length-append, length_exp a, length_exp b, length_links r) (omega arith)
  length_exp (S.and l a es) = simp (length-append, length_exp a, length_all es) (omega arith)
  length_exp (S.or l a es) = simp (length-append, length_exp a, length_all es) (omega arith)
  length_exp (S.conditional l c a b) = simp (length-append, length_exp a, length_exp c, length_exp b) (omega arith)
  length_exp (S.call l f args) = simp (length-append, length_exp f, length_args args) (omega arith)
  length_exp (S.lambda l b ps e) = simp (length-append, length_params ps, length_exp e) (omega arith)
  length_exp (S.comprehension l m fl t it cs) = simp (length-append, length_made m, length_target t, length_exp it, length_clauses cs) (omega arith)
  length_exp (S.generator l b e fl t it cs) = simp (length-append, length_exp e, length_target t, length_exp it, length_clauses cs) (omega arith)
  length_exp (S.yield l v) = length_opt v
  length_exp (S.yield_from l e) = length_exp e

  pub length_all : (x : Exps) → length (numbers_all x) ≡ length (blocks_all x)
  length_all S.no_exps = refl
  length_all (S.more_exps e es) = simp (length-append, length_exp e, length_all es) (omega arith)

  pub length_opt : (x : Opt) → length (numbers_opt x) ≡ length (blocks_opt x)
  length_opt S.absent = refl
  length_opt (S.given e) = length_exp e

  pub length_pieces : (x : Pieces) → length (numbers_pieces x) ≡ length (blocks_pieces x)
  length_pieces S.no_pieces = refl
  length_pieces (S.literal l t r) = length_pieces r
  length_pieces (S.field l e c ps r) = simp (length-append, length_exp e, length_pieces ps, length_pieces r) (omega arith)

  pub length_entries : (x : Entries) → length (numbers_entries x) ≡ length (blocks_entries x)
  length_entries S.no_entries = refl
  length_entries (S.entry k v r) = simp (length-append, length_exp k, length_exp v, length_entries r) (omega arith)

  pub length_links : (x : Links) → length (numbers_links x) ≡ length (blocks_links x)
  length_links S.no_links = refl
  length_links (S.link o b r) = simp (length-append, length_exp b, length_links r) (omega arith)

  pub length_args : (x : Args) → length (numbers_args x) ≡ length (blocks_args x)
  length_args S.no_args = refl
  length_args (S.positional e r) = simp (length-append, length_exp e, length_args r) (omega arith)
  length_args (S.named x e r) = simp (length-append, length_exp e, length_args r) (omega arith)
  length_args (S.spread e r) = simp (length-append, length_exp e, length_args r) (omega arith)
  length_args (S.spread_named e r) = simp (length-append, length_exp e, length_args r) (omega arith)

  pub length_made : (x : Made) → length (numbers_made x) ≡ length (blocks_made x)
  length_made (S.a_list e) = length_exp e
  length_made (S.a_set e) = length_exp e
  length_made (S.a_dict k v) = simp (length-append, length_exp k, length_exp v) (omega arith)

  pub length_clauses : (x : Clauses) → length (numbers_clauses x) ≡ length (blocks_clauses x)
  length_clauses S.no_clauses = refl
  length_clauses (S.only_if c cs) = simp (length-append, length_exp c, length_clauses cs) (omega arith)
  length_clauses (S.for_each fl t it cs) = simp (length-append, length_target t, length_exp it, length_clauses cs) (omega arith)

  pub length_place : (x : Place) → length (numbers_place x) ≡ length (blocks_place x)
  length_place (S.name_at l x) = refl
  length_place (S.attribute_at l a x) = length_exp a
  length_place (S.item_at l a i) = simp (length-append, length_exp a, length_exp i) (omega arith)

  pub length_target : (x : Tgt) → length (numbers_target x) ≡ length (blocks_target x)
  length_target (S.single p) = length_place p
  length_target (S.several l f ts) = length_targets ts
  length_target (S.starred l t) = length_target t

  pub length_targets : (x : Tgts) → length (numbers_targets x) ≡ length (blocks_targets x)
  length_targets S.no_targets = refl
  length_targets (S.more_targets t ts) = simp (length-append, length_target t, length_targets ts) (omega arith)

  pub length_params : (x : Params) → length (numbers_params x) ≡ length (blocks_params x)
  length_params (S.parameters ps s ks d) = simp (length-append, length_formals ps, length_formals ks) (omega arith)

  pub length_formals : (x : Formals) → length (numbers_formals x) ≡ length (blocks_formals x)
  length_formals S.no_formals = refl
  length_formals (S.formal l x a d r) = simp (length-append, length_opt d, length_formals r) (omega arith)

pub length_decorators : (x : Decorators) → length (numbers_decorators x) ≡ length (blocks_decorators x)
length_decorators S.no_decorators = refl
length_decorators (S.decorator l e r) = simp (length-append, length_exp e, length_decorators r) (omega arith)

pub length_opt_target : (x : Option Tgt) → length (numbers_opt_target x) ≡ length (blocks_opt_target x)
length_opt_target None = refl
length_opt_target (Some t) = length_target t

pub length_items : (x : Items) → length (numbers_items x) ≡ length (blocks_items x)
length_items S.no_items = refl
length_items (S.with_item l e t is) = simp (length-append, length_exp e, length_opt_target t, length_items is) (omega arith)

mutual
  pub length_stm : (x : Stm) → length (numbers_stm x) ≡ length (blocks_stm x)
  length_stm (S.expr l e) = length_exp e
  length_stm (S.assign l ts e) = simp (length-append, length_targets ts, length_exp e) (omega arith)
  length_stm (S.augmented l p o e) = simp (length-append, length_place p, length_exp e) (omega arith)
  length_stm (S.annotated l p a v) = simp (length-append, length_place p, length_opt v) (omega arith)
  length_stm (S.assert l c m) = simp (length-append, length_exp c, length_opt m) (omega arith)
  length_stm (S.pass l) = refl
  length_stm (S.del l ts) = length_targets ts
  length_stm (S.return l v) = length_opt v
  length_stm (S.raise l e c) = simp (length-append, length_exp e, length_opt c) (omega arith)
  length_stm (S.raise_again l) = refl
  length_stm (S.break l) = refl
  length_stm (S.continue l) = refl
  length_stm (S.import l xs) = refl
  length_stm (S.import_from l m xs) = refl
  length_stm (S.global l xs) = refl
  length_stm (S.nonlocal l xs) = refl
  length_stm (S.choice l bs els) = simp (length-append, length_branches bs, length_stms els) (omega arith)
  length_stm (S.while l c body els) = simp (length-append, length_exp c, length_stms body, length_stms els) (omega arith)
  length_stm (S.for l t it body els) = simp (length-append, length_target t, length_exp it, length_stms body, length_stms els) (omega arith)
  length_stm (S.try l body hs els fin) = simp (length-append, length_stms body, length_handlers hs, length_stms els, length_stms fin) (omega arith)
  length_stm (S.with l is body) = simp (length-append, length_items is, length_stms body) (omega arith)
  length_stm (S.def l ds dl b x ps r body) = simp (length-append, length_decorators ds, length_params ps, length_stms body) (omega arith)
  length_stm (S.class l ds cl b x base body) = simp (length-append, length-map, length_decorators ds, length_opt base, length_stms body) (omega arith)
  length_stm (S.docstring l) = refl

  pub length_stms : (x : Stms) → length (numbers_stms x) ≡ length (blocks_stms x)
  length_stms S.none = refl
  length_stms (S.more s ss) = simp (length-append, length_stm s, length_stms ss) (omega arith)

  pub length_branches : (x : Branches) → length (numbers_branches x) ≡ length (blocks_branches x)
  length_branches S.no_branches = refl
  length_branches (S.branch l c body r) = simp (length-append, length_exp c, length_stms body, length_branches r) (omega arith)

  pub length_handlers : (x : Handlers) → length (numbers_handlers x) ≡ length (blocks_handlers x)
  length_handlers S.no_handlers = refl
  length_handlers (S.handler l c x body r) = simp (length-append, length_opt c, length_stms body, length_handlers r) (omega arith)

pub counted : {A : Type 0} (n : ℕ) (xs : List A) → counted_from n xs ≡ from n (length xs)
counted n [] = refl
counted n (x ∷ xs) = ap (λ ns. n ∷ ns) (counted (suc n) xs)
