-- Of the regions that start in a part of a tree, those that are blocks are the part's blocks, in their order.
use Rattle.std.proofs.Common.{◌≡◌, ℕ, ◌+◌, length, Bool, true, false, List, [], ◌∷◌, ◌++◌, map, Option, Some, None, refl, ap, ◌∙◌, append_assoc}
use Rattle.std.proofs.lemmas.List.{append-nil, map-append}
use Rattle.std.specs.Prelude.{codes, if◌then◌else◌}
use Rattle.pt_scopes.specs.BlockKinds.{block_kinds, kind_of, with_kind}
use Rattle.pt_scopes.specs.declared.region.Context.{Context}
use Rattle.pt_scopes.specs.declared.region.Kind.{Kind}
use Rattle.pt_scopes.specs.declared.region.Kind.TheVariants as kind
use Rattle.pt_scopes.specs.declared.region.Region.{Region}
use Rattle.pt_scopes.specs.declared.region.Role.{Role}
use Rattle.pt_scopes.specs.Places.{Part, ◌⨾◌, block, class_context, comprehension, comprehension_context, function_context, generator_context, in_class, in_comprehension, in_function, in_generator, mention, misplaced, nothing, module_context}
use Rattle.pt_scopes.specs.Mentions.{places_all, places_args, places_branches, places_clauses, places_decorators, places_entries, places_exp, places_formals, places_handlers, places_imports, places_items, places_links, places_made, places_named, places_named_parameter, places_names, places_opt, places_opt_target, places_params, places_pieces, places_place, places_script, places_stm, places_stms, places_target, places_targets, gives, turns}
use Rattle.pt_scopes.specs.Names.{mangled}
use Rattle.pt_tree.specs.Blocks.{Block, of_generator, blocks_all, blocks_args, blocks_branches, blocks_clauses, blocks_decorators, blocks_entries, blocks_exp, blocks_formals, blocks_handlers, blocks_items, blocks_links, blocks_made, blocks_opt, blocks_opt_target, blocks_params, blocks_pieces, blocks_place, blocks_script, blocks_stm, blocks_stms, blocks_target, blocks_targets, inside_class, no_params}
use Rattle.pt_tree.specs.declared.expression.NamedParameter.{NamedParameter}
use Rattle.pt_tree.specs.declared.statement.Alias.{Alias}
use Rattle.pt_tree.specs.Syntax as S
use Rattle.pt_tree.specs.Syntax.{Name, Exp, Exps, Opt, Pieces, Entries, Links, Args, Made, Clauses, Place, Tgt, Tgts, Params, Formals, Decorators, Items, Stm, Stms, Branches, Handlers}

kinds-with : (k : Kind) (ks js : List Kind) → with_kind k (ks ++ js) ≡ with_kind k ks ++ js
kinds-with kind.Module ks js = refl
kinds-with kind.Function ks js = refl
kinds-with kind.Class ks js = refl
kinds-with kind.Comprehension ks js = refl

kinds-append : (rs qs : List Region) → block_kinds (rs ++ qs) ≡ block_kinds rs ++ block_kinds qs
kinds-append [] qs = refl
kinds-append (r ∷ rs) qs = ap (λ (ks : List Kind). with_kind r.kind ks) (kinds-append rs qs) ∙ kinds-with r.kind (block_kinds rs) (block_kinds qs)

kinds-nothing : (before : ℕ) → block_kinds (nothing before).regions ≡ []
unfolding nothing
kinds-nothing before = refl

kinds-mention : (r : Role) (a : Context) (x : Name) (l : ℕ) (before : ℕ) → block_kinds (mention r a x l before).regions ≡ []
unfolding mention
kinds-mention r a x l before = refl

-- one part behind another
kinds-both : (f g : Part) (before : ℕ) → block_kinds ((f ⨾ g) before).regions ≡ block_kinds (f before).regions ++ block_kinds (g (before + length (f before).regions)).regions
unfolding ◌⨾◌
kinds-both f g before = kinds-append (f before).regions (g (before + length (f before).regions)).regions

kinds-function : (a : Context) (inside : Context → Part) (before : ℕ) → block_kinds (in_function a inside before).regions ≡ kind.Function ∷ block_kinds (inside (function_context before) (before + 1)).regions
unfolding in_function ◌⨾◌ block
kinds-function a inside before = refl

kinds-generator : (a : Context) (inside : Context → Part) (before : ℕ) → block_kinds (in_generator a inside before).regions ≡ kind.Function ∷ block_kinds (inside (generator_context before) (before + 1)).regions
unfolding in_generator ◌⨾◌ block
kinds-generator a inside before = refl

kinds-class : (a : Context) (inside : Context → Part) (before : ℕ) → block_kinds (in_class a inside before).regions ≡ kind.Class ∷ block_kinds (inside (class_context before) (before + 1)).regions
unfolding in_class ◌⨾◌ block
kinds-class a inside before = refl

kinds-comprehension : (a : Context) (inside : Context → Part) (before : ℕ) → block_kinds (in_comprehension a inside before).regions ≡ block_kinds (inside (comprehension_context a before) (before + 1)).regions
unfolding in_comprehension ◌⨾◌ comprehension
kinds-comprehension a inside before = refl

kinds-choice : (b : Bool) (a : Context) (l : ℕ) (before : ℕ) → block_kinds ((if b then nothing else misplaced a l) before).regions ≡ []
kinds-choice true a l before = kinds-nothing before
kinds-choice false a l before = kinds-mention _ a [] l before

kinds-gives : (a : Context) (l : ℕ) (before : ℕ) → block_kinds (gives a l before).regions ≡ []
kinds-gives a l before = kinds-choice a.may_give a l before

kinds-turns : (a : Context) (l : ℕ) (before : ℕ) → block_kinds (turns a l before).regions ≡ []
kinds-turns a l before = kinds-choice a.in_loop a l before

kinds-named_parameter : (b : Context) (c : Name) (p : Option NamedParameter) (before : ℕ) → block_kinds (places_named_parameter b c p before).regions ≡ []
kinds-named_parameter b c None before = kinds-nothing before
kinds-named_parameter b c (Some p) before = kinds-mention _ b (mangled c p.name) p.line.0 before

kinds-named : (a : Context) (c : Name) (l : ℕ) (x : Option Name) (before : ℕ) → block_kinds (places_named a c l x before).regions ≡ []
kinds-named a c l None before = kinds-nothing before
kinds-named a c l (Some x) before = kinds-mention _ a (mangled c x) l before

kinds-imports : (a : Context) (c : Name) (l : ℕ) (xs : List Alias) (before : ℕ) → block_kinds (places_imports a c l xs before).regions ≡ []
kinds-imports a c l [] before = kinds-nothing before
kinds-imports a c l (x ∷ xs) before = simp (kinds-imports a c l xs, kinds-mention, kinds-both)

kinds-names : (r : Role) (a : Context) (c : Name) (l : ℕ) (xs : List Name) (before : ℕ) → block_kinds (places_names r a c l xs before).regions ≡ []
kinds-names r a c l [] before = kinds-nothing before
kinds-names r a c l (x ∷ xs) before = simp (kinds-names r a c l xs, kinds-mention, kinds-both)

-- the class around a block doesn't change what it is
kinds-inside_class : (x : Name) (bs : List Block) → map kind_of (map (inside_class x) bs) ≡ map kind_of bs
kinds-inside_class x [] = refl
kinds-inside_class x (b ∷ bs) = ap (λ ks. kind_of b ∷ ks) (kinds-inside_class x bs)

ruleset kinds-steps = (kinds-nothing, kinds-mention, kinds-both, kinds-function, kinds-generator, kinds-class, kinds-comprehension, kinds-gives, kinds-turns, kinds-named_parameter, kinds-named, kinds-imports, kinds-names, kinds-inside_class, map-append, append_assoc, append-nil)

-- the blocks behind one, of four parts
with-block : (b : Block) (p q r t : List Block) → kind_of b ∷ (map kind_of p ++ (map kind_of q ++ (map kind_of r ++ map kind_of t))) ≡ map kind_of (b ∷ (((p ++ q) ++ r) ++ t))
with-block b p q r t = simp (map-append, append_assoc)

abbrev generator_block : (line : ℕ) (item : Exp) (for_line : ℕ) (target : Tgt) (more : Clauses) → Block
generator_block l e fl t cs = record { name = codes "<genexpr>"; first_line = l; class = None; params = no_params; code = of_generator l e fl t cs }

mutual
  pub kinds-exp : (e : Exp) (a : Context) (c : Name) (before : ℕ) → block_kinds (places_exp a c e before).regions ≡ map kind_of (blocks_exp e)
  kinds-exp (S.constant l k) a c before = simp (kinds-steps)
  kinds-exp (S.name l x) a c before = simp (kinds-steps)
  kinds-exp (S.joined l ps) a c before = kinds-pieces ps a c before
  kinds-exp (S.tuple l es) a c before = kinds-all es a c before
  kinds-exp (S.list l es) a c before = kinds-all es a c before
  kinds-exp (S.set l es) a c before = kinds-all es a c before
  kinds-exp (S.dict l es) a c before = kinds-entries es a c before
  kinds-exp (S.attribute l e x) a c before = kinds-exp e a c before
  kinds-exp (S.item l e i) a c before = simp (kinds-exp e, kinds-exp i, kinds-steps)
  kinds-exp (S.slice l e f h) a c before = simp (kinds-opt e, kinds-opt f, kinds-opt h, kinds-steps)
  kinds-exp (S.unary l o e) a c before = kinds-exp e a c before
  kinds-exp (S.not_of l e) a c before = kinds-exp e a c before
  kinds-exp (S.binary l o e f) a c before = simp (kinds-exp e, kinds-exp f, kinds-steps)
  kinds-exp (S.compare l e o f r) a c before = simp (kinds-exp e, kinds-exp f, kinds-links r, kinds-steps)
  kinds-exp (S.and l e es) a c before = simp (kinds-exp e, kinds-all es, kinds-steps)
  kinds-exp (S.or l e es) a c before = simp (kinds-exp e, kinds-all es, kinds-steps)
  kinds-exp (S.conditional l t e f) a c before = simp (kinds-exp e, kinds-exp t, kinds-exp f, kinds-steps)
  kinds-exp (S.call l f args) a c before = simp (kinds-exp f, kinds-args args, kinds-steps)
  kinds-exp (S.lambda l n ps e) a c before = simp (kinds-params ps, kinds-exp e, kinds-steps)
  kinds-exp (S.comprehension l m fl t it cs) a c before = simp (kinds-made m, kinds-target t, kinds-exp it, kinds-clauses cs, kinds-steps)
  kinds-exp (S.generator l n e fl t it cs) a c before =
      let b = generator_context before in
      let parts : block_kinds ((places_exp b c e ⨾ places_target b c t ⨾ places_exp a c it ⨾ places_clauses b c cs) (before + 1)).regions ≡ map kind_of (blocks_exp e) ++ (map kind_of (blocks_target t) ++ (map kind_of (blocks_exp it) ++ map kind_of (blocks_clauses cs))) = simp (kinds-exp e, kinds-target t, kinds-exp it, kinds-clauses cs, kinds-steps) in
      kinds-generator a (λ d. places_exp d c e ⨾ places_target d c t ⨾ places_exp a c it ⨾ places_clauses d c cs) before
      ∙ ap (λ (ks : List Kind). kind.Function ∷ ks) parts
      ∙ with-block (generator_block l e fl t cs) (blocks_exp e) (blocks_target t) (blocks_exp it) (blocks_clauses cs)
  kinds-exp (S.yield l v) a c before = simp (kinds-opt v, kinds-steps)
  kinds-exp (S.yield_from l e) a c before = simp (kinds-exp e, kinds-steps)

  pub kinds-all : (e : Exps) (a : Context) (c : Name) (before : ℕ) → block_kinds (places_all a c e before).regions ≡ map kind_of (blocks_all e)
  kinds-all S.no_exps a c before = simp (kinds-steps)
  kinds-all (S.more_exps e es) a c before = simp (kinds-exp e, kinds-all es, kinds-steps)

  pub kinds-opt : (e : Opt) (a : Context) (c : Name) (before : ℕ) → block_kinds (places_opt a c e before).regions ≡ map kind_of (blocks_opt e)
  kinds-opt S.absent a c before = simp (kinds-steps)
  kinds-opt (S.given e) a c before = kinds-exp e a c before

  pub kinds-pieces : (e : Pieces) (a : Context) (c : Name) (before : ℕ) → block_kinds (places_pieces a c e before).regions ≡ map kind_of (blocks_pieces e)
  kinds-pieces S.no_pieces a c before = simp (kinds-steps)
  kinds-pieces (S.literal l t r) a c before = kinds-pieces r a c before
  kinds-pieces (S.field l e k ps r) a c before = simp (kinds-exp e, kinds-pieces ps, kinds-pieces r, kinds-steps)

  pub kinds-entries : (e : Entries) (a : Context) (c : Name) (before : ℕ) → block_kinds (places_entries a c e before).regions ≡ map kind_of (blocks_entries e)
  kinds-entries S.no_entries a c before = simp (kinds-steps)
  kinds-entries (S.entry k v r) a c before = simp (kinds-exp k, kinds-exp v, kinds-entries r, kinds-steps)

  pub kinds-links : (e : Links) (a : Context) (c : Name) (before : ℕ) → block_kinds (places_links a c e before).regions ≡ map kind_of (blocks_links e)
  kinds-links S.no_links a c before = simp (kinds-steps)
  kinds-links (S.link o e r) a c before = simp (kinds-exp e, kinds-links r, kinds-steps)

  pub kinds-args : (e : Args) (a : Context) (c : Name) (before : ℕ) → block_kinds (places_args a c e before).regions ≡ map kind_of (blocks_args e)
  kinds-args S.no_args a c before = simp (kinds-steps)
  kinds-args (S.positional e r) a c before = simp (kinds-exp e, kinds-args r, kinds-steps)
  kinds-args (S.named x e r) a c before = simp (kinds-exp e, kinds-args r, kinds-steps)
  kinds-args (S.spread e r) a c before = simp (kinds-exp e, kinds-args r, kinds-steps)
  kinds-args (S.spread_named e r) a c before = simp (kinds-exp e, kinds-args r, kinds-steps)

  pub kinds-made : (e : Made) (a : Context) (c : Name) (before : ℕ) → block_kinds (places_made a c e before).regions ≡ map kind_of (blocks_made e)
  kinds-made (S.a_list e) a c before = kinds-exp e a c before
  kinds-made (S.a_set e) a c before = kinds-exp e a c before
  kinds-made (S.a_dict k v) a c before = simp (kinds-exp k, kinds-exp v, kinds-steps)

  pub kinds-clauses : (e : Clauses) (a : Context) (c : Name) (before : ℕ) → block_kinds (places_clauses a c e before).regions ≡ map kind_of (blocks_clauses e)
  kinds-clauses S.no_clauses a c before = simp (kinds-steps)
  kinds-clauses (S.only_if e cs) a c before = simp (kinds-exp e, kinds-clauses cs, kinds-steps)
  kinds-clauses (S.for_each fl t it cs) a c before = simp (kinds-target t, kinds-exp it, kinds-clauses cs, kinds-steps)

  pub kinds-place : (e : Place) (a : Context) (c : Name) (before : ℕ) → block_kinds (places_place a c e before).regions ≡ map kind_of (blocks_place e)
  kinds-place (S.name_at l x) a c before = simp (kinds-steps)
  kinds-place (S.attribute_at l e x) a c before = kinds-exp e a c before
  kinds-place (S.item_at l e i) a c before = simp (kinds-exp e, kinds-exp i, kinds-steps)

  pub kinds-target : (e : Tgt) (a : Context) (c : Name) (before : ℕ) → block_kinds (places_target a c e before).regions ≡ map kind_of (blocks_target e)
  kinds-target (S.single p) a c before = kinds-place p a c before
  kinds-target (S.several l f ts) a c before = kinds-targets ts a c before
  kinds-target (S.starred l t) a c before = kinds-target t a c before

  pub kinds-targets : (e : Tgts) (a : Context) (c : Name) (before : ℕ) → block_kinds (places_targets a c e before).regions ≡ map kind_of (blocks_targets e)
  kinds-targets S.no_targets a c before = simp (kinds-steps)
  kinds-targets (S.more_targets t ts) a c before = simp (kinds-target t, kinds-targets ts, kinds-steps)

  pub kinds-params : (e : Params) (a b : Context) (c : Name) (before : ℕ) → block_kinds (places_params a b c e before).regions ≡ map kind_of (blocks_params e)
  kinds-params (S.parameters ps s ks d) a b c before = simp (kinds-formals ps, kinds-formals ks, kinds-steps)

  pub kinds-formals : (e : Formals) (a b : Context) (c : Name) (before : ℕ) → block_kinds (places_formals a b c e before).regions ≡ map kind_of (blocks_formals e)
  kinds-formals S.no_formals a b c before = simp (kinds-steps)
  kinds-formals (S.formal l x n d r) a b c before = simp (kinds-opt d, kinds-formals r, kinds-steps)

kinds-decorators : (e : Decorators) (a : Context) (c : Name) (before : ℕ) → block_kinds (places_decorators a c e before).regions ≡ map kind_of (blocks_decorators e)
kinds-decorators S.no_decorators a c before = simp (kinds-steps)
kinds-decorators (S.decorator l e r) a c before = simp (kinds-exp e, kinds-decorators r, kinds-steps)

kinds-opt_target : (e : Option Tgt) (a : Context) (c : Name) (before : ℕ) → block_kinds (places_opt_target a c e before).regions ≡ map kind_of (blocks_opt_target e)
kinds-opt_target None a c before = simp (kinds-steps)
kinds-opt_target (Some t) a c before = kinds-target t a c before

kinds-items : (e : Items) (a : Context) (c : Name) (before : ℕ) → block_kinds (places_items a c e before).regions ≡ map kind_of (blocks_items e)
kinds-items S.no_items a c before = simp (kinds-steps)
kinds-items (S.with_item l e t is) a c before = simp (kinds-exp e, kinds-opt_target t, kinds-items is, kinds-steps)

mutual
  pub kinds-stm : (e : Stm) (a : Context) (c : Name) (before : ℕ) → block_kinds (places_stm a c e before).regions ≡ map kind_of (blocks_stm e)
  kinds-stm (S.expr l e) a c before = kinds-exp e a c before
  kinds-stm (S.assign l ts e) a c before = simp (kinds-targets ts, kinds-exp e, kinds-steps)
  kinds-stm (S.augmented l p o e) a c before = simp (kinds-place p, kinds-exp e, kinds-steps)
  kinds-stm (S.annotated l p n v) a c before = simp (kinds-place p, kinds-opt v, kinds-steps)
  kinds-stm (S.assert l e m) a c before = simp (kinds-exp e, kinds-opt m, kinds-steps)
  kinds-stm (S.pass l) a c before = simp (kinds-steps)
  kinds-stm (S.del l ts) a c before = kinds-targets ts a c before
  kinds-stm (S.return l v) a c before = simp (kinds-opt v, kinds-steps)
  kinds-stm (S.raise l e f) a c before = simp (kinds-exp e, kinds-opt f, kinds-steps)
  kinds-stm (S.raise_again l) a c before = simp (kinds-steps)
  kinds-stm (S.break l) a c before = simp (kinds-steps)
  kinds-stm (S.continue l) a c before = simp (kinds-steps)
  kinds-stm (S.import l xs) a c before = simp (kinds-steps)
  kinds-stm (S.import_from l m xs) a c before = simp (kinds-steps)
  kinds-stm (S.global l xs) a c before = simp (kinds-steps)
  kinds-stm (S.nonlocal l xs) a c before = simp (kinds-steps)
  kinds-stm (S.choice l bs els) a c before = simp (kinds-branches bs, kinds-stms els, kinds-steps)
  kinds-stm (S.while l e body els) a c before = simp (kinds-exp e, kinds-stms els, kinds-stms body, kinds-steps)
  kinds-stm (S.for l t e body els) a c before = simp (kinds-target t, kinds-exp e, kinds-stms els, kinds-stms body, kinds-steps)
  kinds-stm (S.try l body hs els fin) a c before = simp (kinds-stms body, kinds-handlers hs, kinds-stms els, kinds-stms fin, kinds-steps)
  kinds-stm (S.with l is body) a c before = simp (kinds-items is, kinds-stms body, kinds-steps)
  kinds-stm (S.def l ds dl n x ps r body) a c before = simp (kinds-decorators ds, kinds-params ps, kinds-stms body, kinds-steps)
  kinds-stm (S.class l ds cl n x base body) a c before = simp (kinds-decorators ds, kinds-opt base, kinds-stms body, kinds-steps)
  kinds-stm (S.docstring l) a c before = simp (kinds-steps)

  pub kinds-stms : (e : Stms) (a : Context) (c : Name) (before : ℕ) → block_kinds (places_stms a c e before).regions ≡ map kind_of (blocks_stms e)
  kinds-stms S.none a c before = simp (kinds-steps)
  kinds-stms (S.more s ss) a c before = simp (kinds-stm s, kinds-stms ss, kinds-steps)

  pub kinds-branches : (e : Branches) (a : Context) (c : Name) (before : ℕ) → block_kinds (places_branches a c e before).regions ≡ map kind_of (blocks_branches e)
  kinds-branches S.no_branches a c before = simp (kinds-steps)
  kinds-branches (S.branch l e body r) a c before = simp (kinds-exp e, kinds-stms body, kinds-branches r, kinds-steps)

  pub kinds-handlers : (e : Handlers) (a : Context) (c : Name) (before : ℕ) → block_kinds (places_handlers a c e before).regions ≡ map kind_of (blocks_handlers e)
  kinds-handlers S.no_handlers a c before = simp (kinds-steps)
  kinds-handlers (S.handler l e x body r) a c before = simp (kinds-opt e, kinds-stms body, kinds-handlers r, kinds-steps)

pub kinds-script : (ss : Stms) → block_kinds (places_script ss).regions ≡ map kind_of (blocks_script ss)
kinds-script ss = ap (λ (ks : List Kind). kind.Module ∷ ks) (kinds-stms ss module_context [] 1)
