-- Acts of supported parts give no value on.
use Rattle.std.proofs.Common.{◌≡◌, ℕ, List, [], ◌∷◌, Bool, true, false, None, refl, Option, Some}
use Rattle.pt_tree.specs.declared.act.ActKind.{ActKind}
use Rattle.pt_tree.specs.declared.act.ActKind.TheVariants as A
use Rattle.pt_tree.specs.declared.act.ActRow.{ActRow}
use Rattle.pt_tree.specs.Acts.{again, acts_exp, acts_all, acts_operands, acts_opt, acts_join, acts_pieces, acts_entries, acts_links, acts_args, acts_params, acts_formals, acts_made, acts_clauses, acts_place, acts_target, acts_targets, acts_got, acts_put, acts_deleted, acts_all_deleted, acts_decorators, acts_decorator_calls, acts_opt_target, acts_items, acts_annotated, acts_stm, acts_stms, acts_branches, acts_handlers, acts_imports, acts_import_names, acts_named}
use Rattle.pt_tree.specs.declared.statement.Alias.{Alias}
use Rattle.pt_tree.specs.Syntax as S
use Rattle.pt_tree.specs.Syntax.{Exp, Exps, Opt, Pieces, Entries, Links, Args, Made, Clauses, Params, Formals, Place, Tgt, Tgts, Decorators, Items, Stm, Stms, Branches, Handlers}
use Rattle.pt_supported.specs.Built.{unbuilt_all, unbuilt_args, unbuilt_branches, unbuilt_clauses, unbuilt_decorators, unbuilt_entries, unbuilt_exp, unbuilt_formals, unbuilt_items, unbuilt_links, unbuilt_made, unbuilt_opt, unbuilt_params, unbuilt_pieces, unbuilt_place, unbuilt_stm, unbuilt_stms, unbuilt_taken, unbuilt_target, unbuilt_targets, unbuilt_handlers}
use Rattle.pt_supported.proofs.Never.{Never, nothing, item, both, first, second, told}

-- the kinds of acts by which a block gives values on, as `yields` has them
abbrev pub gives_on : ActKind → Bool
gives_on A.Yield = true
gives_on A.Delegate = true
gives_on k = false

abbrev pub Quiet : List ActRow → Type 0
Quiet rows = Never (λ r. gives_on r.kind) rows

-- one act
row : {r : ActRow} → gives_on r.kind ≡ false → Quiet (r ∷ [])
row is = item is nothing

quiet_again : {rows : List ActRow} → Quiet rows → Quiet (again rows)
quiet_again nothing = nothing
quiet_again (item is p) = item is p

-- where a spec has several parts
quiet_join : (l : ℕ) (ps : Pieces) → Quiet (acts_join l ps)
quiet_join l S.no_pieces = nothing
quiet_join l (S.literal k t S.no_pieces) = nothing
quiet_join l (S.literal k t (S.literal m u r)) = row refl
quiet_join l (S.literal k t (S.field m e c ps r)) = row refl
quiet_join l (S.field k e c ps S.no_pieces) = nothing
quiet_join l (S.field k e c ps (S.literal m t r)) = row refl
quiet_join l (S.field k e c ps (S.field m f d qs r)) = row refl

mutual
  pub quiet_exp : (e : Exp) → unbuilt_exp e ≡ None → Quiet (acts_exp e)
  quiet_exp (S.constant l k) h = row refl
  quiet_exp (S.name l x) h = row refl
  quiet_exp (S.unary l o a) h = both (quiet_exp a h) (row refl)
  quiet_exp (S.not_of l a) h = both (quiet_exp a h) (row refl)
  quiet_exp (S.binary l o a b) h = both (both (quiet_exp a (first _ _ h)) (quiet_exp b (second _ _ h))) (row refl)
  quiet_exp (S.compare l a o b r) h =
      let behind = second _ _ h in
      both (both (both (quiet_exp a (first _ _ h)) (quiet_exp b (first _ _ behind))) (row refl)) (quiet_links l r (second _ _ behind))
  quiet_exp (S.and l a es) h = both (quiet_exp a (first _ _ h)) (quiet_operands l es (second _ _ h))
  quiet_exp (S.or l a es) h = both (quiet_exp a (first _ _ h)) (quiet_operands l es (second _ _ h))
  quiet_exp (S.conditional l c a b) h =
      let behind = second _ _ h in
      both (both (both (quiet_exp c (first _ _ behind)) (row refl)) (quiet_exp a (first _ _ h))) (quiet_exp b (second _ _ behind))
  quiet_exp (S.call l f args) h = both (both (quiet_exp f (first _ _ h)) (quiet_args l args (second _ _ h))) (row refl)
  quiet_exp (S.lambda l n ps e) h = both (quiet_params ps (first _ _ h)) (row refl)
  quiet_exp (S.tuple l es) h = both (quiet_all es h) (row refl)
  quiet_exp (S.list l es) h = both (quiet_all es h) (row refl)
  quiet_exp (S.set l es) h = both (quiet_all es h) (row refl)
  quiet_exp (S.dict l es) h = both (quiet_entries es h) (row refl)
  quiet_exp (S.item l a i) h = both (both (quiet_exp a (first _ _ h)) (quiet_exp i (second _ _ h))) (row refl)
  quiet_exp (S.slice l a b c) h =
      let behind = second _ _ h in
      both (both (both (quiet_opt a (first _ _ h)) (quiet_opt b (first _ _ behind))) (quiet_opt c (second _ _ behind))) (row refl)
  quiet_exp (S.joined l ps) h = both (quiet_pieces ps h) (row refl)
  quiet_exp (S.attribute l a x) h = both (quiet_exp a h) (row refl)
  quiet_exp (S.comprehension l m k t it cs) h =
      let behind = second _ _ h in
      let clauses = second _ _ behind in
      both (both (both (both (both (both (quiet_exp it (first _ _ clauses)) (row refl)) (row refl)) (row refl)) (quiet_target t (first _ _ behind)))
      (quiet_clauses l cs (second _ _ clauses))) (quiet_made l m (first _ _ h))
  quiet_exp (S.generator l n e k t it cs) h = told h
  quiet_exp (S.yield l v) h = told h
  quiet_exp (S.yield_from l e) h = told h

  quiet_all : (es : Exps) → unbuilt_all es ≡ None → Quiet (acts_all es)
  quiet_all S.no_exps h = nothing
  quiet_all (S.more_exps e es) h = both (quiet_exp e (first _ _ h)) (quiet_all es (second _ _ h))

  quiet_operands : (l : ℕ) (es : Exps) → unbuilt_all es ≡ None → Quiet (acts_operands l es)
  quiet_operands l S.no_exps h = nothing
  quiet_operands l (S.more_exps e es) h = both (both (row refl) (quiet_exp e (first _ _ h))) (quiet_operands l es (second _ _ h))

  quiet_opt : (o : Opt) → unbuilt_opt o ≡ None → Quiet (acts_opt o)
  quiet_opt S.absent h = nothing
  quiet_opt (S.given e) h = quiet_exp e h

  quiet_pieces : (ps : Pieces) → unbuilt_pieces ps ≡ None → Quiet (acts_pieces ps)
  quiet_pieces S.no_pieces h = nothing
  quiet_pieces (S.literal l t r) h = both (row refl) (quiet_pieces r h)
  quiet_pieces (S.field l e c ps r) h =
      let behind = second _ _ h in
      both (both (both (both (quiet_exp e (first _ _ h)) (quiet_pieces ps (first _ _ behind))) (quiet_join l ps)) (row refl)) (quiet_pieces r (second _ _ behind))

  quiet_entries : (es : Entries) → unbuilt_entries es ≡ None → Quiet (acts_entries es)
  quiet_entries S.no_entries h = nothing
  quiet_entries (S.entry k v r) h =
      let behind = second _ _ h in both (both (quiet_exp k (first _ _ h)) (quiet_exp v (first _ _ behind))) (quiet_entries r (second _ _ behind))

  quiet_links : (l : ℕ) (r : Links) → unbuilt_links r ≡ None → Quiet (acts_links l r)
  quiet_links l S.no_links h = nothing
  quiet_links l (S.link o b r) h = both (both (both (row refl) (quiet_exp b (first _ _ h))) (row refl)) (quiet_links l r (second _ _ h))

  quiet_args : (l : ℕ) (args : Args) → unbuilt_args args ≡ None → Quiet (acts_args l args)
  quiet_args l S.no_args h = nothing
  quiet_args l (S.positional e r) h = both (quiet_exp e (first _ _ h)) (quiet_args l r (second _ _ h))
  quiet_args l (S.named x e r) h = both (quiet_exp e (first _ _ h)) (quiet_args l r (second _ _ h))
  quiet_args l (S.spread e r) h = both (both (quiet_exp e (first _ _ h)) (row refl)) (quiet_args l r (second _ _ h))
  quiet_args l (S.spread_named e r) h = both (both (quiet_exp e (first _ _ h)) (row refl)) (quiet_args l r (second _ _ h))

  quiet_params : (ps : Params) → unbuilt_params ps ≡ None → Quiet (acts_params ps)
  quiet_params (S.parameters ps s ks d) h = both (quiet_formals ps (first _ _ h)) (quiet_formals ks (first _ _ (second _ _ (second _ _ h))))

  quiet_formals : (fs : Formals) → unbuilt_formals fs ≡ None → Quiet (acts_formals fs)
  quiet_formals S.no_formals h = nothing
  quiet_formals (S.formal l x a d r) h = both (quiet_opt d (first _ _ (second _ _ h))) (quiet_formals r (second _ _ (second _ _ h)))

  quiet_made : (l : ℕ) (m : Made) → unbuilt_made m ≡ None → Quiet (acts_made l m)
  quiet_made l (S.a_list e) h = both (quiet_exp e h) (row refl)
  quiet_made l (S.a_set e) h = both (quiet_exp e h) (row refl)
  quiet_made l (S.a_dict k v) h = both (both (quiet_exp k (first _ _ h)) (quiet_exp v (second _ _ h))) (row refl)

  quiet_clauses : (l : ℕ) (cs : Clauses) → unbuilt_clauses cs ≡ None → Quiet (acts_clauses l cs)
  quiet_clauses l S.no_clauses h = nothing
  quiet_clauses l (S.only_if c cs) h = both (both (quiet_exp c (first _ _ h)) (row refl)) (quiet_clauses l cs (second _ _ h))
  quiet_clauses l (S.for_each k t it cs) h =
      let behind = second _ _ h in
      both (both (both (both (quiet_exp it (first _ _ behind)) (row refl)) (row refl)) (quiet_target t (first _ _ h))) (quiet_clauses l cs (second _ _ behind))

  quiet_place : (p : Place) → unbuilt_place p ≡ None → Quiet (acts_place p)
  quiet_place (S.name_at l x) h = row refl
  quiet_place (S.attribute_at l a x) h = both (quiet_exp a h) (row refl)
  quiet_place (S.item_at l a i) h = both (both (quiet_exp a (first _ _ h)) (quiet_exp i (second _ _ h))) (row refl)

  quiet_target : (t : Tgt) → unbuilt_target t ≡ None → Quiet (acts_target t)
  quiet_target (S.single p) h = quiet_place p h
  quiet_target (S.several l f ts) h = both (row refl) (quiet_targets ts h)
  quiet_target (S.starred l t) h = quiet_target t h

  quiet_targets : (ts : Tgts) → unbuilt_targets ts ≡ None → Quiet (acts_targets ts)
  quiet_targets S.no_targets h = nothing
  quiet_targets (S.more_targets t ts) h = both (quiet_target t (first _ _ h)) (quiet_targets ts (second _ _ h))

quiet_got : (p : Place) → unbuilt_place p ≡ None → Quiet (acts_got p)
quiet_got (S.name_at l x) h = row refl
quiet_got (S.attribute_at l a x) h = both (quiet_exp a h) (row refl)
quiet_got (S.item_at l a i) h = both (both (quiet_exp a (first _ _ h)) (quiet_exp i (second _ _ h))) (row refl)

quiet_put : (p : Place) → Quiet (acts_put p)
quiet_put (S.name_at l x) = row refl
quiet_put (S.attribute_at l a x) = row refl
quiet_put (S.item_at l a i) = row refl

mutual
  quiet_deleted : (t : Tgt) → unbuilt_target t ≡ None → Quiet (acts_deleted t)
  quiet_deleted (S.single (S.name_at l x)) h = row refl
  quiet_deleted (S.single (S.attribute_at l a x)) h = both (quiet_exp a h) (row refl)
  quiet_deleted (S.single (S.item_at l a i)) h = both (both (quiet_exp a (first _ _ h)) (quiet_exp i (second _ _ h))) (row refl)
  quiet_deleted (S.several l f ts) h = quiet_all_deleted ts h
  quiet_deleted (S.starred l t) h = quiet_deleted t h

  quiet_all_deleted : (ts : Tgts) → unbuilt_targets ts ≡ None → Quiet (acts_all_deleted ts)
  quiet_all_deleted S.no_targets h = nothing
  quiet_all_deleted (S.more_targets t ts) h = both (quiet_deleted t (first _ _ h)) (quiet_all_deleted ts (second _ _ h))

quiet_decorators : (ds : Decorators) → unbuilt_decorators ds ≡ None → Quiet (acts_decorators ds)
quiet_decorators S.no_decorators h = nothing
quiet_decorators (S.decorator l e r) h = both (quiet_exp e (first _ _ h)) (quiet_decorators r (second _ _ h))

quiet_calls : (ds : Decorators) → Quiet (acts_decorator_calls ds)
quiet_calls S.no_decorators = nothing
quiet_calls (S.decorator l e r) = both (quiet_calls r) (row refl)

quiet_taken : (t : Option Tgt) → unbuilt_taken t ≡ None → Quiet (acts_opt_target t)
quiet_taken None h = nothing
quiet_taken (Some t) h = quiet_target t h

quiet_items : (is : Items) → unbuilt_items is ≡ None → {inside : List ActRow} → Quiet inside → Quiet (acts_items is inside)
quiet_items S.no_items h q = q
quiet_items (S.with_item l e t r) h q =
    let behind = second _ _ h in
    both (both (both (both (quiet_exp e (first _ _ h)) (row refl)) (quiet_taken t (first _ _ behind))) (quiet_items r (second _ _ behind) q)) (row refl)

quiet_annotated : (l : ℕ) (p : Place) (v : Opt) → unbuilt_place p ≡ None → unbuilt_opt v ≡ None → Quiet (acts_annotated l p v)
quiet_annotated l p S.absent hp hv = row refl
quiet_annotated l p (S.given e) hp hv = both (quiet_exp e hv) (quiet_place p hp)

quiet_named : (l : ℕ) (x : Option (List ℕ)) → Quiet (acts_named l x)
quiet_named l None = nothing
quiet_named l (Some x) = row refl

quiet_imports : (l : ℕ) (xs : List Alias) → Quiet (acts_imports l xs)
quiet_imports l [] = nothing
quiet_imports l (x ∷ xs) = item refl (item refl (quiet_imports l xs))

quiet_import_names : (l : ℕ) (xs : List Alias) → Quiet (acts_import_names l xs)
quiet_import_names l [] = nothing
quiet_import_names l (x ∷ xs) = item refl (item refl (quiet_import_names l xs))

mutual
  pub quiet_stm : (s : Stm) → unbuilt_stm s ≡ None → Quiet (acts_stm s)
  quiet_stm (S.expr l e) h = both (quiet_exp e h) (row refl)
  quiet_stm (S.assign l ts e) h = both (quiet_exp e (second _ _ h)) (quiet_targets ts (first _ _ h))
  quiet_stm (S.augmented l p o e) h = both (both (both (quiet_got p (first _ _ h)) (quiet_exp e (second _ _ h))) (row refl)) (quiet_put p)
  quiet_stm (S.annotated l p a v) h = quiet_annotated l p v (first _ _ h) (second _ _ h)
  quiet_stm (S.pass l) h = row refl
  quiet_stm (S.del l ts) h = quiet_all_deleted ts h
  quiet_stm (S.return l v) h = both (quiet_opt v h) (row refl)
  quiet_stm (S.break l) h = row refl
  quiet_stm (S.continue l) h = row refl
  quiet_stm (S.global l xs) h = nothing
  quiet_stm (S.nonlocal l xs) h = nothing
  quiet_stm (S.choice l bs els) h = both (quiet_branches bs (first _ _ h)) (quiet_stms els (second _ _ h))
  quiet_stm (S.while l c body els) h =
      let behind = second _ _ h in
      both (both (both (quiet_again (quiet_exp c (first _ _ h))) (row refl)) (quiet_stms body (first _ _ behind))) (quiet_stms els (second _ _ behind))
  quiet_stm (S.for l t e body els) h =
      let parts = second _ _ h in
      let behind = second _ _ parts in
      both (both (both (both (both (quiet_exp e (first _ _ parts)) (row refl)) (row refl)) (quiet_target t (first _ _ h)))
      (quiet_stms body (first _ _ behind))) (quiet_stms els (second _ _ behind))
  quiet_stm (S.def l ds k n x ps r body) h =
      let parts = second _ _ h in
      both (both (both (both (quiet_decorators ds (first _ _ parts)) (quiet_params ps (first _ _ (second _ _ parts)))) (row refl)) (quiet_calls ds)) (row refl)
  quiet_stm (S.docstring l) h = nothing
  quiet_stm (S.assert l c m) h = both (both (both (quiet_exp c (first _ _ h)) (row refl)) (quiet_opt m (second _ _ h))) (row refl)
  quiet_stm (S.raise l e c) h = both (both (quiet_exp e (first _ _ h)) (quiet_opt c (second _ _ h))) (row refl)
  quiet_stm (S.raise_again l) h = row refl
  quiet_stm (S.try l body hs els fin) h =
      let parts = second _ _ h in
      let behind = second _ _ parts in
      both (both (both (both (row refl) (quiet_stms body (first _ _ h))) (quiet_handlers hs (first _ _ parts))) (quiet_stms els (first _ _ behind)))
      (quiet_stms fin (second _ _ behind))
  quiet_stm (S.import l xs) h = quiet_imports l xs
  quiet_stm (S.import_from l m xs) h = item refl (quiet_import_names l xs)
  quiet_stm (S.with l is body) h = quiet_items is (first _ _ h) (quiet_stms body (second _ _ h))
  quiet_stm (S.class l ds k n x base body) h =
      let parts = second _ _ h in
      both (both (both (both (quiet_decorators ds (first _ _ parts)) (quiet_opt base (first _ _ (second _ _ parts)))) (row refl)) (quiet_calls ds)) (row refl)

  pub quiet_stms : (ss : Stms) → unbuilt_stms ss ≡ None → Quiet (acts_stms ss)
  quiet_stms S.none h = nothing
  quiet_stms (S.more s ss) h = both (quiet_stm s (first _ _ h)) (quiet_stms ss (second _ _ h))

  quiet_branches : (bs : Branches) → unbuilt_branches bs ≡ None → Quiet (acts_branches bs)
  quiet_branches S.no_branches h = nothing
  quiet_branches (S.branch l c body r) h =
      both (both (both (quiet_exp c (first _ _ h)) (row refl)) (quiet_stms body (first _ _ (second _ _ h)))) (quiet_branches r (second _ _ (second _ _ h)))

  quiet_handlers : (hs : Handlers) → unbuilt_handlers hs ≡ None → Quiet (acts_handlers hs)
  quiet_handlers S.no_handlers h = nothing
  quiet_handlers (S.handler l c x body r) h =
      let parts = second _ _ h in
      let behind = second _ _ parts in
      both (both (both (both (quiet_opt c (first _ _ parts)) (row refl)) (quiet_named l x)) (quiet_stms body (first _ _ behind)))
      (quiet_handlers r (second _ _ behind))
