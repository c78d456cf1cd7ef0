-- The blocks of supported parts give no value on.
use Rattle.std.proofs.Common.{◌≡◌, ◌++◌, ℕ, List, [], ◌∷◌, map, Bool, true, false, Option, Some, None, refl}
use Rattle.std.specs.Prelude.{cond}
use Rattle.pt_tree.specs.Blocks.{Block, function_body, inside_class, is_string, yields, blocks_exp, blocks_all, blocks_opt, blocks_pieces, blocks_entries, blocks_links, blocks_args, blocks_params, blocks_formals, blocks_made, blocks_clauses, blocks_place, blocks_target, blocks_targets, blocks_decorators, blocks_opt_target, blocks_items, blocks_stm, blocks_stms, blocks_branches, blocks_script, blocks_handlers}
use Rattle.pt_tree.specs.Acts.{acts_stm, acts_stms}
use Rattle.pt_tree.specs.Syntax as S
use Rattle.pt_tree.specs.Syntax.{Name, Exp, Exps, Opt, Pieces, Entries, Links, Args, Made, Clauses, Params, Formals, Place, Tgt, Tgts, Decorators, Items, Stm, Stms, Branches, Handlers}
use Rattle.pt_supported.specs.Built.{unbuilt_all, unbuilt_args, unbuilt_branches, unbuilt_clauses, unbuilt_decorators, unbuilt_entries, unbuilt_exp, unbuilt_formals, unbuilt_items, unbuilt_links, unbuilt_made, unbuilt_opt, unbuilt_params, unbuilt_pieces, unbuilt_place, unbuilt_stm, unbuilt_stms, unbuilt_taken, unbuilt_target, unbuilt_targets, unbuilt_handlers}
use Rattle.pt_supported.specs.Laws.{BuiltBlocksGiveNothingOn}
use Rattle.pt_supported.proofs.Never.{Never, nothing, item, both, none_passes, at_its_place, first, second, told}
use Rattle.pt_supported.proofs.Quiet.{Quiet, quiet_exp, quiet_stm, quiet_stms}

abbrev Silent : List Block → Type 0
Silent bs = Never (λ b. yields b.code) bs

-- the blocks in the body of a class
silent_inside : (x : Name) (bs : List Block) → Silent bs → Silent (map (inside_class x) bs)
silent_inside x [] nothing = nothing
silent_inside x (b ∷ bs) (item is p) = item is (silent_inside x bs p)

-- the documentation string doesn't run
quiet_first : (text : Bool) (l : ℕ) (e : Exp) (ss : Stms) → Quiet (acts_stm (S.expr l e)) → Quiet (acts_stms ss)
    → Quiet (acts_stm (cond text (S.docstring l) (S.expr l e)) ++ acts_stms ss)
quiet_first true l e ss p q = q
quiet_first false l e ss p q = both p q

quiet_body : (ss : Stms) → unbuilt_stms ss ≡ None → Quiet (acts_stms (function_body ss))
quiet_body S.none h = nothing
quiet_body (S.more (S.expr l e) ss) h = quiet_first (is_string e) l e ss (quiet_stm (S.expr l e) (first _ _ h)) (quiet_stms ss (second _ _ h))
quiet_body (S.more s ss) h = quiet_stms (S.more s ss) h

mutual
  silent_exp : (e : Exp) → unbuilt_exp e ≡ None → Silent (blocks_exp e)
  silent_exp (S.constant l k) h = nothing
  silent_exp (S.name l x) h = nothing
  silent_exp (S.unary l o a) h = silent_exp a h
  silent_exp (S.not_of l a) h = silent_exp a h
  silent_exp (S.binary l o a b) h = both (silent_exp a (first _ _ h)) (silent_exp b (second _ _ h))
  silent_exp (S.compare l a o b r) h =
      let behind = second _ _ h in both (both (silent_exp a (first _ _ h)) (silent_exp b (first _ _ behind))) (silent_links r (second _ _ behind))
  silent_exp (S.and l a es) h = both (silent_exp a (first _ _ h)) (silent_all es (second _ _ h))
  silent_exp (S.or l a es) h = both (silent_exp a (first _ _ h)) (silent_all es (second _ _ h))
  silent_exp (S.conditional l c a b) h =
      let behind = second _ _ h in both (both (silent_exp a (first _ _ h)) (silent_exp c (first _ _ behind))) (silent_exp b (second _ _ behind))
  silent_exp (S.call l f args) h = both (silent_exp f (first _ _ h)) (silent_args args (second _ _ h))
  silent_exp (S.lambda l n ps e) h =
      item (none_passes (both (quiet_exp e (second _ _ h)) (item refl nothing))) (both (silent_params ps (first _ _ h)) (silent_exp e (second _ _ h)))
  silent_exp (S.tuple l es) h = silent_all es h
  silent_exp (S.list l es) h = silent_all es h
  silent_exp (S.set l es) h = silent_all es h
  silent_exp (S.dict l es) h = silent_entries es h
  silent_exp (S.item l a i) h = both (silent_exp a (first _ _ h)) (silent_exp i (second _ _ h))
  silent_exp (S.slice l a b c) h =
      let behind = second _ _ h in both (both (silent_opt a (first _ _ h)) (silent_opt b (first _ _ behind))) (silent_opt c (second _ _ behind))
  silent_exp (S.joined l ps) h = silent_pieces ps h
  silent_exp (S.attribute l a x) h = silent_exp a h
  silent_exp (S.comprehension l m k t it cs) h =
      let behind = second _ _ h in
      let clauses = second _ _ behind in
      both (both (both (silent_made m (first _ _ h)) (silent_target t (first _ _ behind))) (silent_exp it (first _ _ clauses)))
      (silent_clauses cs (second _ _ clauses))
  silent_exp (S.generator l n e k t it cs) h = told h
  silent_exp (S.yield l v) h = told h
  silent_exp (S.yield_from l e) h = told h

  silent_all : (es : Exps) → unbuilt_all es ≡ None → Silent (blocks_all es)
  silent_all S.no_exps h = nothing
  silent_all (S.more_exps e es) h = both (silent_exp e (first _ _ h)) (silent_all es (second _ _ h))

  silent_opt : (o : Opt) → unbuilt_opt o ≡ None → Silent (blocks_opt o)
  silent_opt S.absent h = nothing
  silent_opt (S.given e) h = silent_exp e h

  silent_pieces : (ps : Pieces) → unbuilt_pieces ps ≡ None → Silent (blocks_pieces ps)
  silent_pieces S.no_pieces h = nothing
  silent_pieces (S.literal l t r) h = silent_pieces r h
  silent_pieces (S.field l e c ps r) h =
      let behind = second _ _ h in both (both (silent_exp e (first _ _ h)) (silent_pieces ps (first _ _ behind))) (silent_pieces r (second _ _ behind))

  silent_entries : (es : Entries) → unbuilt_entries es ≡ None → Silent (blocks_entries es)
  silent_entries S.no_entries h = nothing
  silent_entries (S.entry k v r) h =
      let behind = second _ _ h in both (both (silent_exp k (first _ _ h)) (silent_exp v (first _ _ behind))) (silent_entries r (second _ _ behind))

  silent_links : (r : Links) → unbuilt_links r ≡ None → Silent (blocks_links r)
  silent_links S.no_links h = nothing
  silent_links (S.link o b r) h = both (silent_exp b (first _ _ h)) (silent_links r (second _ _ h))

  silent_args : (args : Args) → unbuilt_args args ≡ None → Silent (blocks_args args)
  silent_args S.no_args h = nothing
  silent_args (S.positional e r) h = both (silent_exp e (first _ _ h)) (silent_args r (second _ _ h))
  silent_args (S.named x e r) h = both (silent_exp e (first _ _ h)) (silent_args r (second _ _ h))
  silent_args (S.spread e r) h = both (silent_exp e (first _ _ h)) (silent_args r (second _ _ h))
  silent_args (S.spread_named e r) h = both (silent_exp e (first _ _ h)) (silent_args r (second _ _ h))

  silent_params : (ps : Params) → unbuilt_params ps ≡ None → Silent (blocks_params ps)
  silent_params (S.parameters ps s ks d) h = both (silent_formals ps (first _ _ h)) (silent_formals ks (first _ _ (second _ _ (second _ _ h))))

  silent_formals : (fs : Formals) → unbuilt_formals fs ≡ None → Silent (blocks_formals fs)
  silent_formals S.no_formals h = nothing
  silent_formals (S.formal l x a d r) h = both (silent_opt d (first _ _ (second _ _ h))) (silent_formals r (second _ _ (second _ _ h)))

  silent_made : (m : Made) → unbuilt_made m ≡ None → Silent (blocks_made m)
  silent_made (S.a_list e) h = silent_exp e h
  silent_made (S.a_set e) h = silent_exp e h
  silent_made (S.a_dict k v) h = both (silent_exp k (first _ _ h)) (silent_exp v (second _ _ h))

  silent_clauses : (cs : Clauses) → unbuilt_clauses cs ≡ None → Silent (blocks_clauses cs)
  silent_clauses S.no_clauses h = nothing
  silent_clauses (S.only_if c cs) h = both (silent_exp c (first _ _ h)) (silent_clauses cs (second _ _ h))
  silent_clauses (S.for_each k t it cs) h =
      let behind = second _ _ h in both (both (silent_target t (first _ _ h)) (silent_exp it (first _ _ behind))) (silent_clauses cs (second _ _ behind))

  silent_place : (p : Place) → unbuilt_place p ≡ None → Silent (blocks_place p)
  silent_place (S.name_at l x) h = nothing
  silent_place (S.attribute_at l a x) h = silent_exp a h
  silent_place (S.item_at l a i) h = both (silent_exp a (first _ _ h)) (silent_exp i (second _ _ h))

  silent_target : (t : Tgt) → unbuilt_target t ≡ None → Silent (blocks_target t)
  silent_target (S.single p) h = silent_place p h
  silent_target (S.several l f ts) h = silent_targets ts h
  silent_target (S.starred l t) h = silent_target t h

  silent_targets : (ts : Tgts) → unbuilt_targets ts ≡ None → Silent (blocks_targets ts)
  silent_targets S.no_targets h = nothing
  silent_targets (S.more_targets t ts) h = both (silent_target t (first _ _ h)) (silent_targets ts (second _ _ h))

silent_decorators : (ds : Decorators) → unbuilt_decorators ds ≡ None → Silent (blocks_decorators ds)
silent_decorators S.no_decorators h = nothing
silent_decorators (S.decorator l e r) h = both (silent_exp e (first _ _ h)) (silent_decorators r (second _ _ h))

silent_taken : (t : Option Tgt) → unbuilt_taken t ≡ None → Silent (blocks_opt_target t)
silent_taken None h = nothing
silent_taken (Some t) h = silent_target t h

silent_items : (is : Items) → unbuilt_items is ≡ None → Silent (blocks_items is)
silent_items S.no_items h = nothing
silent_items (S.with_item l e t r) h =
    let behind = second _ _ h in both (both (silent_exp e (first _ _ h)) (silent_taken t (first _ _ behind))) (silent_items r (second _ _ behind))

mutual
  silent_stm : (s : Stm) → unbuilt_stm s ≡ None → Silent (blocks_stm s)
  silent_stm (S.expr l e) h = silent_exp e h
  silent_stm (S.assign l ts e) h = both (silent_targets ts (first _ _ h)) (silent_exp e (second _ _ h))
  silent_stm (S.augmented l p o e) h = both (silent_place p (first _ _ h)) (silent_exp e (second _ _ h))
  silent_stm (S.annotated l p a v) h = both (silent_place p (first _ _ h)) (silent_opt v (second _ _ h))
  silent_stm (S.pass l) h = nothing
  silent_stm (S.del l ts) h = silent_targets ts h
  silent_stm (S.return l v) h = silent_opt v h
  silent_stm (S.break l) h = nothing
  silent_stm (S.continue l) h = nothing
  silent_stm (S.global l xs) h = nothing
  silent_stm (S.nonlocal l xs) h = nothing
  silent_stm (S.choice l bs els) h = both (silent_branches bs (first _ _ h)) (silent_stms els (second _ _ h))
  silent_stm (S.while l c body els) h =
      let behind = second _ _ h in both (both (silent_exp c (first _ _ h)) (silent_stms body (first _ _ behind))) (silent_stms els (second _ _ behind))
  silent_stm (S.for l t e body els) h =
      let parts = second _ _ h in
      let behind = second _ _ parts in
      both (both (both (silent_target t (first _ _ h)) (silent_exp e (first _ _ parts))) (silent_stms body (first _ _ behind))) (silent_stms els (second _ _ behind))
  silent_stm (S.def l ds k n x ps r body) h =
      let parts = second _ _ h in
      let inside = second _ _ parts in
      let block = item (none_passes (quiet_body body (second _ _ inside))) nothing in
      both (both (both (silent_decorators ds (first _ _ parts)) block) (silent_params ps (first _ _ inside))) (silent_stms body (second _ _ inside))
  silent_stm (S.docstring l) h = nothing
  silent_stm (S.assert l c m) h = both (silent_exp c (first _ _ h)) (silent_opt m (second _ _ h))
  silent_stm (S.raise l e c) h = both (silent_exp e (first _ _ h)) (silent_opt c (second _ _ h))
  silent_stm (S.raise_again l) h = nothing
  silent_stm (S.try l body hs els fin) h =
      let parts = second _ _ h in
      let behind = second _ _ parts in
      both (both (both (silent_stms body (first _ _ h)) (silent_handlers hs (first _ _ parts))) (silent_stms els (first _ _ behind)))
      (silent_stms fin (second _ _ behind))
  silent_stm (S.import l xs) h = nothing
  silent_stm (S.import_from l m xs) h = nothing
  silent_stm (S.with l is body) h = both (silent_items is (first _ _ h)) (silent_stms body (second _ _ h))
  silent_stm (S.class l ds k n x base body) h =
      let parts = second _ _ h in
      let inside = second _ _ parts in
      let block = item (none_passes (quiet_stms body (second _ _ inside))) nothing in
      both (both (both (silent_decorators ds (first _ _ parts)) block) (silent_opt base (first _ _ inside)))
      (silent_inside x (blocks_stms body) (silent_stms body (second _ _ inside)))

  silent_stms : (ss : Stms) → unbuilt_stms ss ≡ None → Silent (blocks_stms ss)
  silent_stms S.none h = nothing
  silent_stms (S.more s ss) h = both (silent_stm s (first _ _ h)) (silent_stms ss (second _ _ h))

  silent_branches : (bs : Branches) → unbuilt_branches bs ≡ None → Silent (blocks_branches bs)
  silent_branches S.no_branches h = nothing
  silent_branches (S.branch l c body r) h =
      let behind = second _ _ h in both (both (silent_exp c (first _ _ h)) (silent_stms body (first _ _ behind))) (silent_branches r (second _ _ behind))

  silent_handlers : (hs : Handlers) → unbuilt_handlers hs ≡ None → Silent (blocks_handlers hs)
  silent_handlers S.no_handlers h = nothing
  silent_handlers (S.handler l c x body r) h =
      let parts = second _ _ h in
      let behind = second _ _ parts in
      both (both (silent_opt c (first _ _ parts)) (silent_stms body (first _ _ behind))) (silent_handlers r (second _ _ behind))

silent_script : (ss : Stms) → unbuilt_stms ss ≡ None → Silent (blocks_script ss)
silent_script ss h = item (none_passes (quiet_stms ss h)) (silent_stms ss h)

pub built_blocks_give_nothing_on : BuiltBlocksGiveNothingOn
built_blocks_give_nothing_on ss built n block at = at_its_place (silent_script ss built) n block at
