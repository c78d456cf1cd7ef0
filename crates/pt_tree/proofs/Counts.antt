-- Each part of a tree has as many acts as its size says.
use Rattle.std.proofs.Common.{◌≡◌, ℕ, ◌+◌, List, [], ◌∷◌, length, Option, Some, None, refl, ap, ◌∙◌, arith}
use Rattle.std.proofs.lemmas.List.{length-append}
use Rattle.pt_tree.specs.declared.act.ActRow.{ActRow}
use Rattle.pt_tree.specs.declared.statement.Alias.{Alias}
use Rattle.pt_tree.specs.Syntax as S
use Rattle.pt_tree.specs.Syntax.{Exp, Exps, Opt, Pieces, Entries, Links, Args, Made, Clauses, Place, Tgt, Tgts, Params, Formals, Decorators, Items, Stm, Stms, Branches, Handlers}
use Rattle.pt_tree.specs.Sizes.{joins, size, all_size, operands_size, opt_size, pieces_size, entries_size, links_size, args_size, made_size, clauses_size, place_size, target_size, targets_size, params_size, formals_size, deleted_size, all_deleted_size, decorators_size, decorator_calls, opt_target_size, items_size, stored_by, stm_size, stms_size, branches_size, handlers_size}
use Rattle.pt_tree.specs.Acts.{again, acts_join, acts_exp, acts_all, acts_operands, acts_opt, acts_pieces, acts_entries, acts_links, acts_args, acts_made, acts_clauses, acts_place, acts_target, acts_targets, acts_params, acts_formals, acts_got, acts_put, acts_deleted_place, acts_deleted, acts_all_deleted, acts_decorators, acts_decorator_calls, acts_opt_target, acts_items, acts_named, acts_imports, acts_import_names, acts_stm, acts_stms, acts_branches, acts_handlers}

pub count_join : (l : ℕ) (x : Pieces) → length (acts_join l x) ≡ joins x
count_join l S.no_pieces = refl
count_join l (S.literal k t S.no_pieces) = refl
count_join l (S.literal k t (S.literal k2 t2 r)) = refl
count_join l (S.literal k t (S.field k2 e c ps r)) = refl
count_join l (S.field k e c ps S.no_pieces) = refl
count_join l (S.field k e c ps (S.literal k2 t2 r)) = refl
count_join l (S.field k e c ps (S.field k2 e2 c2 ps2 r)) = refl

pub count_again : (rs : List ActRow) → length (again rs) ≡ length rs
count_again [] = refl
count_again (r ∷ rs) = refl

mutual
  pub count_exp : (x : Exp) → length (acts_exp x) ≡ size x
  count_exp (S.constant l k) = refl
  count_exp (S.name l x) = refl
  count_exp (S.joined l ps) = simp (length-append, count_pieces ps) (omega arith)
  count_exp (S.tuple l es) = simp (length-append, count_all es) (omega arith)
  count_exp (S.list l es) = simp (length-append, count_all es) (omega arith)
  count_exp (S.set l es) = simp (length-append, count_all es) (omega arith)
  count_exp (S.dict l es) = simp (length-append, count_entries es) (omega arith)
  count_exp (S.attribute l a x) = simp (length-append, count_exp a) (omega arith)
  count_exp (S.item l a i) = simp (length-append, count_exp a, count_exp i) (omega arith)
  count_exp (S.slice l a b c) = simp (length-append, count_opt a, count_opt b, count_opt c) (omega arith)
  count_exp (S.unary l o a) = simp (length-append, count_exp a) (omega arith)
  count_exp (S.not_of l a) = simp (length-append, count_exp a) (omega arith)
  count_exp (S.binary l o a b) = simp (length-append, count_exp a, count_exp b) (omega arith)
  count_exp (S.compare l a o b r) = simp (length-append, count_exp a, count_exp b, count_links l r) (omega arith)
  count_exp (S.and l a es) = simp (length-append, count_exp a, count_operands l es) (omega arith)
  count_exp (S.or l a es) = simp (length-append, count_exp a, count_operands l es) (omega arith)
  count_exp (S.conditional l c a b) = simp (length-append, count_exp c, count_exp a, count_exp b) (omega arith)
  count_exp (S.call l f args) = simp (length-append, count_exp f, count_args l args) (omega arith)
  count_exp (S.lambda l b ps e) = simp (length-append, count_params ps) (omega arith)
  count_exp (S.comprehension l m fl t it cs) = simp (length-append, count_exp it, count_target t, count_clauses l cs, count_made l m) (omega arith)
  count_exp (S.generator l b e fl t it cs) = simp (length-append, count_exp it) (omega arith)
  count_exp (S.yield l v) = simp (length-append, count_opt v) (omega arith)
  count_exp (S.yield_from l e) = simp (length-append, count_exp e) (omega arith)

  pub count_all : (x : Exps) → length (acts_all x) ≡ all_size x
  count_all S.no_exps = refl
  count_all (S.more_exps e es) = simp (length-append, count_exp e, count_all es) (omega arith)

  pub count_operands : (l : ℕ) (x : Exps) → length (acts_operands l x) ≡ operands_size x
  count_operands l S.no_exps = refl
  count_operands l (S.more_exps e es) = simp (length-append, count_exp e, count_operands l es) (omega arith)

  pub count_opt : (x : Opt) → length (acts_opt x) ≡ opt_size x
  count_opt S.absent = refl
  count_opt (S.given e) = count_exp e

  pub count_pieces : (x : Pieces) → length (acts_pieces x) ≡ pieces_size x
  count_pieces S.no_pieces = refl
  count_pieces (S.literal l t r) = omega (arith, count_pieces r)
  count_pieces (S.field l e c ps r) = simp (length-append, count_exp e, count_pieces ps, count_join l ps, count_pieces r) (omega arith)

  pub count_entries : (x : Entries) → length (acts_entries x) ≡ entries_size x
  count_entries S.no_entries = refl
  count_entries (S.entry k v r) = simp (length-append, count_exp k, count_exp v, count_entries r) (omega arith)

  pub count_links : (l : ℕ) (x : Links) → length (acts_links l x) ≡ links_size x
  count_links l S.no_links = refl
  count_links l (S.link o b r) = simp (length-append, count_exp b, count_links l r) (omega arith)

  pub count_args : (l : ℕ) (x : Args) → length (acts_args l x) ≡ args_size x
  count_args l S.no_args = refl
  count_args l (S.positional e r) = simp (length-append, count_exp e, count_args l r) (omega arith)
  count_args l (S.named x e r) = simp (length-append, count_exp e, count_args l r) (omega arith)
  count_args l (S.spread e r) = simp (length-append, count_exp e, count_args l r) (omega arith)
  count_args l (S.spread_named e r) = simp (length-append, count_exp e, count_args l r) (omega arith)

  pub count_made : (l : ℕ) (x : Made) → length (acts_made l x) ≡ made_size x
  count_made l (S.a_list e) = simp (length-append, count_exp e) (omega arith)
  count_made l (S.a_set e) = simp (length-append, count_exp e) (omega arith)
  count_made l (S.a_dict k v) = simp (length-append, count_exp k, count_exp v) (omega arith)

  pub count_clauses : (l : ℕ) (x : Clauses) → length (acts_clauses l x) ≡ clauses_size x
  count_clauses l S.no_clauses = refl
  count_clauses l (S.only_if c cs) = simp (length-append, count_exp c, count_clauses l cs) (omega arith)
  count_clauses l (S.for_each fl t it cs) = simp (length-append, count_exp it, count_target t, count_clauses l cs) (omega arith)

  pub count_place : (x : Place) → length (acts_place x) ≡ place_size x
  count_place (S.name_at l x) = refl
  count_place (S.attribute_at l a x) = simp (length-append, count_exp a) (omega arith)
  count_place (S.item_at l a i) = simp (length-append, count_exp a, count_exp i) (omega arith)

  pub count_target : (x : Tgt) → length (acts_target x) ≡ target_size x
  count_target (S.single p) = count_place p
  count_target (S.several l f ts) = omega (arith, count_targets ts)
  count_target (S.starred l t) = count_target t

  pub count_targets : (x : Tgts) → length (acts_targets x) ≡ targets_size x
  count_targets S.no_targets = refl
  count_targets (S.more_targets t ts) = simp (length-append, count_target t, count_targets ts) (omega arith)

  pub count_params : (x : Params) → length (acts_params x) ≡ params_size x
  count_params (S.parameters ps s ks d) = simp (length-append, count_formals ps, count_formals ks) (omega arith)

  pub count_formals : (x : Formals) → length (acts_formals x) ≡ formals_size x
  count_formals S.no_formals = refl
  count_formals (S.formal l x a d r) = simp (length-append, count_opt d, count_formals r) (omega arith)

count_got : (x : Place) → length (acts_got x) ≡ place_size x
count_got (S.name_at l x) = refl
count_got (S.attribute_at l a x) = simp (length-append, count_exp a) (omega arith)
count_got (S.item_at l a i) = simp (length-append, count_exp a, count_exp i) (omega arith)

count_put : (x : Place) → length (acts_put x) ≡ 1
count_put (S.name_at l x) = refl
count_put (S.attribute_at l a x) = refl
count_put (S.item_at l a i) = refl

pub count_deleted_place : (x : Place) → length (acts_deleted_place x) ≡ place_size x
count_deleted_place (S.name_at l x) = refl
count_deleted_place (S.attribute_at l a x) = simp (length-append, count_exp a) (omega arith)
count_deleted_place (S.item_at l a i) = simp (length-append, count_exp a, count_exp i) (omega arith)

mutual
  pub count_deleted : (x : Tgt) → length (acts_deleted x) ≡ deleted_size x
  count_deleted (S.single p) = count_deleted_place p
  count_deleted (S.several l f ts) = count_all_deleted ts
  count_deleted (S.starred l t) = count_deleted t

  pub count_all_deleted : (x : Tgts) → length (acts_all_deleted x) ≡ all_deleted_size x
  count_all_deleted S.no_targets = refl
  count_all_deleted (S.more_targets t ts) = simp (length-append, count_deleted t, count_all_deleted ts) (omega arith)

pub count_decorators : (x : Decorators) → length (acts_decorators x) ≡ decorators_size x
count_decorators S.no_decorators = refl
count_decorators (S.decorator l e r) = simp (length-append, count_exp e, count_decorators r) (omega arith)

count_decorator_calls : (x : Decorators) → length (acts_decorator_calls x) ≡ decorator_calls x
count_decorator_calls S.no_decorators = refl
count_decorator_calls (S.decorator l e r) = simp (length-append, count_decorator_calls r) (omega arith)

pub count_opt_target : (x : Option Tgt) → length (acts_opt_target x) ≡ opt_target_size x
count_opt_target None = refl
count_opt_target (Some t) = count_target t

pub count_items : (x : Items) (k : List ActRow) → length (acts_items x k) ≡ items_size x (length k)
count_items S.no_items k = refl
count_items (S.with_item l e t is) k = simp (length-append, count_exp e, count_opt_target t, count_items is k) (omega arith)

count_named : (l : ℕ) (x : Option (List ℕ)) → length (acts_named l x) ≡ stored_by x
count_named l None = refl
count_named l (Some x) = refl

count_imports : (l : ℕ) (xs : List Alias) → length (acts_imports l xs) ≡ length xs + length xs
count_imports l [] = refl
count_imports l (x ∷ xs) = omega (arith, count_imports l xs)

count_import_names : (l : ℕ) (xs : List Alias) → length (acts_import_names l xs) ≡ length xs + length xs
count_import_names l [] = refl
count_import_names l (x ∷ xs) = omega (arith, count_import_names l xs)

mutual
  pub count_stm : (x : Stm) → length (acts_stm x) ≡ stm_size x
  count_stm (S.expr l e) = simp (length-append, count_exp e) (omega arith)
  count_stm (S.assign l ts e) = simp (length-append, count_exp e, count_targets ts) (omega arith)
  count_stm (S.augmented l p o e) = simp (length-append, count_got p, count_exp e, count_put p) (omega arith)
  count_stm (S.annotated l p a S.absent) = refl
  count_stm (S.annotated l p a (S.given e)) = simp (length-append, count_exp e, count_place p) (omega arith)
  count_stm (S.assert l c m) = simp (length-append, count_exp c, count_opt m) (omega arith)
  count_stm (S.pass l) = refl
  count_stm (S.del l ts) = count_all_deleted ts
  count_stm (S.return l v) = simp (length-append, count_opt v) (omega arith)
  count_stm (S.raise l e c) = simp (length-append, count_exp e, count_opt c) (omega arith)
  count_stm (S.raise_again l) = refl
  count_stm (S.break l) = refl
  count_stm (S.continue l) = refl
  count_stm (S.import l xs) = count_imports l xs
  count_stm (S.import_from l m xs) = omega (arith, count_import_names l xs)
  count_stm (S.global l xs) = refl
  count_stm (S.nonlocal l xs) = refl
  count_stm (S.choice l bs els) = simp (length-append, count_branches bs, count_stms els) (omega arith)
  count_stm (S.while l c body els) = simp (length-append, count_again (acts_exp c), count_exp c, count_stms body, count_stms els) (omega arith)
  count_stm (S.for l t it body els) = simp (length-append, count_exp it, count_target t, count_stms body, count_stms els) (omega arith)
  count_stm (S.try l body hs els fin) = simp (length-append, count_stms body, count_handlers hs, count_stms els, count_stms fin) (omega arith)
  count_stm (S.with l is body) = count_items is (acts_stms body) ∙ ap (items_size is) (count_stms body)
  count_stm (S.def l ds dl b x ps r body) = simp (length-append, count_decorators ds, count_params ps, count_decorator_calls ds) (omega arith)
  count_stm (S.class l ds cl b x base body) = simp (length-append, count_decorators ds, count_opt base, count_decorator_calls ds) (omega arith)
  count_stm (S.docstring l) = refl

  pub count_stms : (x : Stms) → length (acts_stms x) ≡ stms_size x
  count_stms S.none = refl
  count_stms (S.more s ss) = simp (length-append, count_stm s, count_stms ss) (omega arith)

  pub count_branches : (x : Branches) → length (acts_branches x) ≡ branches_size x
  count_branches S.no_branches = refl
  count_branches (S.branch l c body r) = simp (length-append, count_exp c, count_stms body, count_branches r) (omega arith)

  pub count_handlers : (x : Handlers) → length (acts_handlers x) ≡ handlers_size x
  count_handlers S.no_handlers = refl
  count_handlers (S.handler l c x body r) = simp (length-append, count_opt c, count_named l x, count_stms body, count_handlers r) (omega arith)
