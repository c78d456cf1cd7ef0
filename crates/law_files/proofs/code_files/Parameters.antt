-- In a script without faults in its declarations no function has two parameters of one name.
use Rattle.std.proofs.Common.{List, [], ◌∷◌, map, Option, Some, None, codes}
use Rattle.std.specs.Option.{unwrap_or}
use Rattle.std.specs.List.{AllByRecursion}
use Rattle.pt_scopes.specs.declared.region.Context.{Context}
use Rattle.pt_scopes.specs.declared.region.Role.TheVariants.{Bind, Parameter}
use Rattle.pt_scopes.specs.Mentions.{tells, gives, places_named, places_named_parameter, places_all, places_args, places_branches, places_clauses, places_decorators, places_entries, places_exp, places_formals, places_handlers, places_items, places_links, places_made, places_opt, places_opt_target, places_params, places_pieces, places_place, places_stm, places_stms, places_target, places_targets}
use Rattle.pt_scopes.specs.Names.{mangled}
use Rattle.pt_scopes.specs.Places.{◌⨾◌, in_function, in_class, function_context, generator_context, class_context, comprehension_context, loop_context}
use Rattle.pt_tree.specs.Syntax as S
use Rattle.pt_tree.specs.Syntax.{Name, Exp, Exps, Opt, Pieces, Entries, Links, Args, Made, Clauses, Place, Tgt, Tgts, Params, Formals, Decorators, Items, Stm, Stms, Branches, Handlers}
use Rattle.pt_tree.specs.Blocks as B
use Rattle.pt_tree.specs.Blocks.{Block, inside_class, blocks_all, blocks_args, blocks_branches, blocks_clauses, blocks_decorators, blocks_entries, blocks_exp, blocks_formals, blocks_handlers, blocks_items, blocks_links, blocks_made, blocks_opt, blocks_opt_target, blocks_params, blocks_pieces, blocks_place, blocks_stm, blocks_stms, blocks_target, blocks_targets}
use Rattle.sem_names.specs.BlockNames.{param_names}
use Rattle.law_files.proofs.code_files.Each.{both, both3, both4, both5}
use Rattle.law_files.proofs.code_files.Walk.{block_of}
use Rattle.law_files.proofs.code_files.Sound.{Apart, SoundPart, split_part, into_function, into_generator, into_class, into_comprehension, params_once}

-- each parameter of a block has a name of its own, where c is the class around
abbrev pub OnceIn : Name → Block → Type 0
OnceIn c k = Apart (map (mangled (unwrap_or k.class c)) (param_names k.params))

inside_once : (c x : Name) (ks : List Block) → AllByRecursion (OnceIn x) ks → AllByRecursion (OnceIn c) (map (inside_class x) ks)
inside_once c x [] h = tt
inside_once c x (k ∷ ks) h = (h.0, inside_once c x ks h.1)

mutual
  each_exp : (a : Context) (c : Name) (x : Exp) → SoundPart (places_exp a c x) → AllByRecursion (OnceIn c) (blocks_exp x)
  each_exp a c (S.constant l k) p = tt
  each_exp a c (S.name l x) p = tt
  each_exp a c (S.joined l ps) p = each_pieces a c ps p
  each_exp a c (S.tuple l es) p = each_all a c es p
  each_exp a c (S.list l es) p = each_all a c es p
  each_exp a c (S.set l es) p = each_all a c es p
  each_exp a c (S.dict l es) p = each_entries a c es p
  each_exp a c (S.attribute l e x) p = each_exp a c e p
  each_exp a c (S.item l e i) p =
      let one = split_part (places_exp a c e) (places_exp a c i) p in
      both (OnceIn c) (blocks_exp e) (blocks_exp i) (each_exp a c e one.0) (each_exp a c i one.1)
  each_exp a c (S.slice l e f g) p =
      let one = split_part (places_opt a c e) (places_opt a c f ⨾ places_opt a c g) p in
      let two = split_part (places_opt a c f) (places_opt a c g) one.1 in
      both3 (OnceIn c) (blocks_opt e) (blocks_opt f) (blocks_opt g) (each_opt a c e one.0) (each_opt a c f two.0) (each_opt a c g two.1)
  each_exp a c (S.unary l o e) p = each_exp a c e p
  each_exp a c (S.not_of l e) p = each_exp a c e p
  each_exp a c (S.binary l o e f) p =
      let one = split_part (places_exp a c e) (places_exp a c f) p in
      both (OnceIn c) (blocks_exp e) (blocks_exp f) (each_exp a c e one.0) (each_exp a c f one.1)
  each_exp a c (S.compare l e o f r) p =
      let one = split_part (places_exp a c e) (places_exp a c f ⨾ places_links a c r) p in
      let two = split_part (places_exp a c f) (places_links a c r) one.1 in
      both3 (OnceIn c) (blocks_exp e) (blocks_exp f) (blocks_links r) (each_exp a c e one.0) (each_exp a c f two.0) (each_links a c r two.1)
  each_exp a c (S.and l e es) p =
      let one = split_part (places_exp a c e) (places_all a c es) p in
      both (OnceIn c) (blocks_exp e) (blocks_all es) (each_exp a c e one.0) (each_all a c es one.1)
  each_exp a c (S.or l e es) p =
      let one = split_part (places_exp a c e) (places_all a c es) p in
      both (OnceIn c) (blocks_exp e) (blocks_all es) (each_exp a c e one.0) (each_all a c es one.1)
  each_exp a c (S.conditional l t e f) p =
      let one = split_part (places_exp a c e) (places_exp a c t ⨾ places_exp a c f) p in
      let two = split_part (places_exp a c t) (places_exp a c f) one.1 in
      both3 (OnceIn c) (blocks_exp e) (blocks_exp t) (blocks_exp f) (each_exp a c e one.0) (each_exp a c t two.0) (each_exp a c f two.1)
  each_exp a c (S.call l f args) p =
      let one = split_part (places_exp a c f) (places_args a c args) p in
      both (OnceIn c) (blocks_exp f) (blocks_args args) (each_exp a c f one.0) (each_args a c args one.1)
  each_exp a c (S.lambda l n ps e) p =
      let entered = into_function a (λ b. places_params a b c ps ⨾ places_exp b c e) p in
      let b = function_context entered.0 in
      let parts = split_part (places_params a b c ps) (places_exp b c e) entered.1 in
      both3 (OnceIn c) (block_of (codes "<lambda>") l None ps (B.of_lambda l e) ∷ []) (blocks_params ps) (blocks_exp e)
      (params_once a b c ps parts.0, tt) (each_params a b c ps parts.0) (each_exp b c e parts.1)
  each_exp a c (S.comprehension l m k t it cs) p =
      let entered = into_comprehension a (λ b. places_made b c m ⨾ places_target b c t ⨾ places_exp a c it ⨾ places_clauses b c cs) p in
      let b = comprehension_context a entered.0 in
      let one = split_part (places_made b c m) (places_target b c t ⨾ places_exp a c it ⨾ places_clauses b c cs) entered.1 in
      let two = split_part (places_target b c t) (places_exp a c it ⨾ places_clauses b c cs) one.1 in
      let three = split_part (places_exp a c it) (places_clauses b c cs) two.1 in
      both4 (OnceIn c) (blocks_made m) (blocks_target t) (blocks_exp it) (blocks_clauses cs) (each_made b c m one.0) (each_target b c t two.0)
      (each_exp a c it three.0) (each_clauses b c cs three.1)
  each_exp a c (S.generator l n e k t it cs) p =
      let entered = into_generator a (λ b. places_exp b c e ⨾ places_target b c t ⨾ places_exp a c it ⨾ places_clauses b c cs) p in
      let b = generator_context entered.0 in
      let one = split_part (places_exp b c e) (places_target b c t ⨾ places_exp a c it ⨾ places_clauses b c cs) entered.1 in
      let two = split_part (places_target b c t) (places_exp a c it ⨾ places_clauses b c cs) one.1 in
      let three = split_part (places_exp a c it) (places_clauses b c cs) two.1 in
      both5 (OnceIn c) (block_of (codes "<genexpr>") l None B.no_params (B.of_generator l e k t cs) ∷ []) (blocks_exp e) (blocks_target t)
      (blocks_exp it) (blocks_clauses cs) (tt, tt) (each_exp b c e one.0)
      (each_target b c t two.0) (each_exp a c it three.0) (each_clauses b c cs three.1)
  each_exp a c (S.yield l v) p =
      let one = split_part (gives a l) (places_opt a c v) p in
      each_opt a c v one.1
  each_exp a c (S.yield_from l e) p =
      let one = split_part (gives a l) (places_exp a c e) p in
      each_exp a c e one.1

  each_all : (a : Context) (c : Name) (x : Exps) → SoundPart (places_all a c x) → AllByRecursion (OnceIn c) (blocks_all x)
  each_all a c S.no_exps p = tt
  each_all a c (S.more_exps e es) p =
      let one = split_part (places_exp a c e) (places_all a c es) p in
      both (OnceIn c) (blocks_exp e) (blocks_all es) (each_exp a c e one.0) (each_all a c es one.1)

  each_opt : (a : Context) (c : Name) (x : Opt) → SoundPart (places_opt a c x) → AllByRecursion (OnceIn c) (blocks_opt x)
  each_opt a c S.absent p = tt
  each_opt a c (S.given e) p = each_exp a c e p

  each_pieces : (a : Context) (c : Name) (x : Pieces) → SoundPart (places_pieces a c x) → AllByRecursion (OnceIn c) (blocks_pieces x)
  each_pieces a c S.no_pieces p = tt
  each_pieces a c (S.literal l t r) p = each_pieces a c r p
  each_pieces a c (S.field l e k ps r) p =
      let one = split_part (places_exp a c e) (places_pieces a c ps ⨾ places_pieces a c r) p in
      let two = split_part (places_pieces a c ps) (places_pieces a c r) one.1 in
      both3 (OnceIn c) (blocks_exp e) (blocks_pieces ps) (blocks_pieces r) (each_exp a c e one.0) (each_pieces a c ps two.0) (each_pieces a c r two.1)

  each_entries : (a : Context) (c : Name) (x : Entries) → SoundPart (places_entries a c x) → AllByRecursion (OnceIn c) (blocks_entries x)
  each_entries a c S.no_entries p = tt
  each_entries a c (S.entry k v r) p =
      let one = split_part (places_exp a c k) (places_exp a c v ⨾ places_entries a c r) p in
      let two = split_part (places_exp a c v) (places_entries a c r) one.1 in
      both3 (OnceIn c) (blocks_exp k) (blocks_exp v) (blocks_entries r) (each_exp a c k one.0) (each_exp a c v two.0) (each_entries a c r two.1)

  each_links : (a : Context) (c : Name) (x : Links) → SoundPart (places_links a c x) → AllByRecursion (OnceIn c) (blocks_links x)
  each_links a c S.no_links p = tt
  each_links a c (S.link o e r) p =
      let one = split_part (places_exp a c e) (places_links a c r) p in
      both (OnceIn c) (blocks_exp e) (blocks_links r) (each_exp a c e one.0) (each_links a c r one.1)

  each_args : (a : Context) (c : Name) (x : Args) → SoundPart (places_args a c x) → AllByRecursion (OnceIn c) (blocks_args x)
  each_args a c S.no_args p = tt
  each_args a c (S.positional e r) p =
      let one = split_part (places_exp a c e) (places_args a c r) p in
      both (OnceIn c) (blocks_exp e) (blocks_args r) (each_exp a c e one.0) (each_args a c r one.1)
  each_args a c (S.named x e r) p =
      let one = split_part (places_exp a c e) (places_args a c r) p in
      both (OnceIn c) (blocks_exp e) (blocks_args r) (each_exp a c e one.0) (each_args a c r one.1)
  each_args a c (S.spread e r) p =
      let one = split_part (places_exp a c e) (places_args a c r) p in
      both (OnceIn c) (blocks_exp e) (blocks_args r) (each_exp a c e one.0) (each_args a c r one.1)
  each_args a c (S.spread_named e r) p =
      let one = split_part (places_exp a c e) (places_args a c r) p in
      both (OnceIn c) (blocks_exp e) (blocks_args r) (each_exp a c e one.0) (each_args a c r one.1)

  each_made : (a : Context) (c : Name) (x : Made) → SoundPart (places_made a c x) → AllByRecursion (OnceIn c) (blocks_made x)
  each_made a c (S.a_list e) p = each_exp a c e p
  each_made a c (S.a_set e) p = each_exp a c e p
  each_made a c (S.a_dict k v) p =
      let one = split_part (places_exp a c k) (places_exp a c v) p in
      both (OnceIn c) (blocks_exp k) (blocks_exp v) (each_exp a c k one.0) (each_exp a c v one.1)

  each_clauses : (a : Context) (c : Name) (x : Clauses) → SoundPart (places_clauses a c x) → AllByRecursion (OnceIn c) (blocks_clauses x)
  each_clauses a c S.no_clauses p = tt
  each_clauses a c (S.only_if e cs) p =
      let one = split_part (places_exp a c e) (places_clauses a c cs) p in
      both (OnceIn c) (blocks_exp e) (blocks_clauses cs) (each_exp a c e one.0) (each_clauses a c cs one.1)
  each_clauses a c (S.for_each fl t it cs) p =
      let one = split_part (places_target a c t) (places_exp a c it ⨾ places_clauses a c cs) p in
      let two = split_part (places_exp a c it) (places_clauses a c cs) one.1 in
      both3 (OnceIn c) (blocks_target t) (blocks_exp it) (blocks_clauses cs) (each_target a c t one.0) (each_exp a c it two.0)
      (each_clauses a c cs two.1)

  each_place : (a : Context) (c : Name) (x : Place) → SoundPart (places_place a c x) → AllByRecursion (OnceIn c) (blocks_place x)
  each_place a c (S.name_at l x) p = tt
  each_place a c (S.attribute_at l e x) p = each_exp a c e p
  each_place a c (S.item_at l e i) p =
      let one = split_part (places_exp a c e) (places_exp a c i) p in
      both (OnceIn c) (blocks_exp e) (blocks_exp i) (each_exp a c e one.0) (each_exp a c i one.1)

  each_target : (a : Context) (c : Name) (x : Tgt) → SoundPart (places_target a c x) → AllByRecursion (OnceIn c) (blocks_target x)
  each_target a c (S.single p) h = each_place a c p h
  each_target a c (S.several l f ts) p = each_targets a c ts p
  each_target a c (S.starred l t) p = each_target a c t p

  each_targets : (a : Context) (c : Name) (x : Tgts) → SoundPart (places_targets a c x) → AllByRecursion (OnceIn c) (blocks_targets x)
  each_targets a c S.no_targets p = tt
  each_targets a c (S.more_targets t ts) p =
      let one = split_part (places_target a c t) (places_targets a c ts) p in
      both (OnceIn c) (blocks_target t) (blocks_targets ts) (each_target a c t one.0) (each_targets a c ts one.1)

  each_params : (a b : Context) (c : Name) (x : Params) → SoundPart (places_params a b c x) → AllByRecursion (OnceIn c) (blocks_params x)
  each_params a b c (S.parameters ps s ks d) p =
      let one = split_part (places_formals a b c ps) (places_named_parameter b c s ⨾ places_formals a b c ks ⨾ places_named_parameter b c d) p in
      let two = split_part (places_named_parameter b c s) (places_formals a b c ks ⨾ places_named_parameter b c d) one.1 in
      let three = split_part (places_formals a b c ks) (places_named_parameter b c d) two.1 in
      both (OnceIn c) (blocks_formals ps) (blocks_formals ks) (each_formals a b c ps one.0) (each_formals a b c ks three.0)

  each_formals : (a b : Context) (c : Name) (x : Formals) → SoundPart (places_formals a b c x) → AllByRecursion (OnceIn c) (blocks_formals x)
  each_formals a b c S.no_formals p = tt
  each_formals a b c (S.formal l x n d r) p =
      let one = split_part (tells Parameter b c x l) (places_opt a c d ⨾ places_formals a b c r) p in
      let two = split_part (places_opt a c d) (places_formals a b c r) one.1 in
      both (OnceIn c) (blocks_opt d) (blocks_formals r) (each_opt a c d two.0) (each_formals a b c r two.1)

each_decorators : (a : Context) (c : Name) (x : Decorators) → SoundPart (places_decorators a c x) → AllByRecursion (OnceIn c) (blocks_decorators x)
each_decorators a c S.no_decorators p = tt
each_decorators a c (S.decorator l e r) p =
    let one = split_part (places_exp a c e) (places_decorators a c r) p in
    both (OnceIn c) (blocks_exp e) (blocks_decorators r) (each_exp a c e one.0) (each_decorators a c r one.1)

each_opt_target : (a : Context) (c : Name) (x : Option Tgt) → SoundPart (places_opt_target a c x) → AllByRecursion (OnceIn c) (blocks_opt_target x)
each_opt_target a c None p = tt
each_opt_target a c (Some t) p = each_target a c t p

each_items : (a : Context) (c : Name) (x : Items) → SoundPart (places_items a c x) → AllByRecursion (OnceIn c) (blocks_items x)
each_items a c S.no_items p = tt
each_items a c (S.with_item l e t is) p =
    let one = split_part (places_exp a c e) (places_opt_target a c t ⨾ places_items a c is) p in
    let two = split_part (places_opt_target a c t) (places_items a c is) one.1 in
    both3 (OnceIn c) (blocks_exp e) (blocks_opt_target t) (blocks_items is) (each_exp a c e one.0) (each_opt_target a c t two.0)
    (each_items a c is two.1)

mutual
  each_stm : (a : Context) (c : Name) (x : Stm) → SoundPart (places_stm a c x) → AllByRecursion (OnceIn c) (blocks_stm x)
  each_stm a c (S.expr l e) p = each_exp a c e p
  each_stm a c (S.assign l ts e) p =
      let one = split_part (places_targets a c ts) (places_exp a c e) p in
      both (OnceIn c) (blocks_targets ts) (blocks_exp e) (each_targets a c ts one.0) (each_exp a c e one.1)
  each_stm a c (S.augmented l p o e) h =
      let one = split_part (places_place a c p) (places_exp a c e) h in
      both (OnceIn c) (blocks_place p) (blocks_exp e) (each_place a c p one.0) (each_exp a c e one.1)
  each_stm a c (S.annotated l p n v) h =
      let one = split_part (places_place a c p) (places_opt a c v) h in
      both (OnceIn c) (blocks_place p) (blocks_opt v) (each_place a c p one.0) (each_opt a c v one.1)
  each_stm a c (S.assert l e m) p =
      let one = split_part (places_exp a c e) (places_opt a c m) p in
      both (OnceIn c) (blocks_exp e) (blocks_opt m) (each_exp a c e one.0) (each_opt a c m one.1)
  each_stm a c (S.pass l) p = tt
  each_stm a c (S.del l ts) p = each_targets a c ts p
  each_stm a c (S.return l v) p =
      let one = split_part (gives a l) (places_opt a c v) p in
      each_opt a c v one.1
  each_stm a c (S.raise l e f) p =
      let one = split_part (places_exp a c e) (places_opt a c f) p in
      both (OnceIn c) (blocks_exp e) (blocks_opt f) (each_exp a c e one.0) (each_opt a c f one.1)
  each_stm a c (S.raise_again l) p = tt
  each_stm a c (S.break l) p = tt
  each_stm a c (S.continue l) p = tt
  each_stm a c (S.import l xs) p = tt
  each_stm a c (S.import_from l m xs) p = tt
  each_stm a c (S.global l xs) p = tt
  each_stm a c (S.nonlocal l xs) p = tt
  each_stm a c (S.choice l bs els) p =
      let one = split_part (places_branches a c bs) (places_stms a c els) p in
      both (OnceIn c) (blocks_branches bs) (blocks_stms els) (each_branches a c bs one.0) (each_stms a c els one.1)
  each_stm a c (S.while l e body els) p =
      let one = split_part (places_exp a c e) (places_stms (loop_context a) c body ⨾ places_stms a c els) p in
      let two = split_part (places_stms (loop_context a) c body) (places_stms a c els) one.1 in
      both3 (OnceIn c) (blocks_exp e) (blocks_stms body) (blocks_stms els) (each_exp a c e one.0) (each_stms (loop_context a) c body two.0)
      (each_stms a c els two.1)
  each_stm a c (S.for l t e body els) p =
      let one = split_part (places_target a c t) (places_exp a c e ⨾ places_stms (loop_context a) c body ⨾ places_stms a c els) p in
      let two = split_part (places_exp a c e) (places_stms (loop_context a) c body ⨾ places_stms a c els) one.1 in
      let three = split_part (places_stms (loop_context a) c body) (places_stms a c els) two.1 in
      both4 (OnceIn c) (blocks_target t) (blocks_exp e) (blocks_stms body) (blocks_stms els) (each_target a c t one.0) (each_exp a c e two.0)
      (each_stms (loop_context a) c body three.0) (each_stms a c els three.1)
  each_stm a c (S.try l body hs els fin) p =
      let one = split_part (places_stms a c body) (places_handlers a c hs ⨾ places_stms a c els ⨾ places_stms a c fin) p in
      let two = split_part (places_handlers a c hs) (places_stms a c els ⨾ places_stms a c fin) one.1 in
      let three = split_part (places_stms a c els) (places_stms a c fin) two.1 in
      both4 (OnceIn c) (blocks_stms body) (blocks_handlers hs) (blocks_stms els) (blocks_stms fin) (each_stms a c body one.0)
      (each_handlers a c hs two.0) (each_stms a c els three.0) (each_stms a c fin three.1)
  each_stm a c (S.with l is body) p =
      let one = split_part (places_items a c is) (places_stms a c body) p in
      both (OnceIn c) (blocks_items is) (blocks_stms body) (each_items a c is one.0) (each_stms a c body one.1)
  each_stm a c (S.def l ds dl n x ps r body) p =
      let one = split_part (places_decorators a c ds) (tells Bind a c x dl ⨾ in_function a (λ b. places_params a b c ps ⨾ places_stms b c body)) p in
      let two = split_part (tells Bind a c x dl) (in_function a (λ b. places_params a b c ps ⨾ places_stms b c body)) one.1 in
      let entered = into_function a (λ b. places_params a b c ps ⨾ places_stms b c body) two.1 in
      let b = function_context entered.0 in
      let parts = split_part (places_params a b c ps) (places_stms b c body) entered.1 in
      both4 (OnceIn c) (blocks_decorators ds) (block_of x (B.first_line_of ds dl) None ps (B.of_function body) ∷ []) (blocks_params ps)
      (blocks_stms body) (each_decorators a c ds one.0) (params_once a b c ps parts.0, tt)
      (each_params a b c ps parts.0) (each_stms b c body parts.1)
  each_stm a c (S.class l ds cl n x base body) p =
      let one = split_part (places_decorators a c ds) (tells Bind a c x cl ⨾ in_class a (λ b. places_opt a c base ⨾ places_stms b x body)) p in
      let two = split_part (tells Bind a c x cl) (in_class a (λ b. places_opt a c base ⨾ places_stms b x body)) one.1 in
      let entered = into_class a (λ b. places_opt a c base ⨾ places_stms b x body) two.1 in
      let b = class_context entered.0 in
      let parts = split_part (places_opt a c base) (places_stms b x body) entered.1 in
      both4 (OnceIn c) (blocks_decorators ds) (block_of x (B.first_line_of ds cl) (Some x) B.no_params (B.of_class body) ∷ []) (blocks_opt base)
      (map (inside_class x) (blocks_stms body)) (each_decorators a c ds one.0) (tt, tt)
      (each_opt a c base parts.0) (inside_once c x (blocks_stms body) (each_stms b x body parts.1))
  each_stm a c (S.docstring l) p = tt

  pub each_stms : (a : Context) (c : Name) (x : Stms) → SoundPart (places_stms a c x) → AllByRecursion (OnceIn c) (blocks_stms x)
  each_stms a c S.none p = tt
  each_stms a c (S.more s ss) p =
      let one = split_part (places_stm a c s) (places_stms a c ss) p in
      both (OnceIn c) (blocks_stm s) (blocks_stms ss) (each_stm a c s one.0) (each_stms a c ss one.1)

  each_branches : (a : Context) (c : Name) (x : Branches) → SoundPart (places_branches a c x) → AllByRecursion (OnceIn c) (blocks_branches x)
  each_branches a c S.no_branches p = tt
  each_branches a c (S.branch l e body r) p =
      let one = split_part (places_exp a c e) (places_stms a c body ⨾ places_branches a c r) p in
      let two = split_part (places_stms a c body) (places_branches a c r) one.1 in
      both3 (OnceIn c) (blocks_exp e) (blocks_stms body) (blocks_branches r) (each_exp a c e one.0) (each_stms a c body two.0)
      (each_branches a c r two.1)

  each_handlers : (a : Context) (c : Name) (x : Handlers) → SoundPart (places_handlers a c x) → AllByRecursion (OnceIn c) (blocks_handlers x)
  each_handlers a c S.no_handlers p = tt
  each_handlers a c (S.handler l e x body r) p =
      let one = split_part (places_opt a c e) (places_named a c l x ⨾ places_stms a c body ⨾ places_handlers a c r) p in
      let two = split_part (places_named a c l x) (places_stms a c body ⨾ places_handlers a c r) one.1 in
      let three = split_part (places_stms a c body) (places_handlers a c r) two.1 in
      both3 (OnceIn c) (blocks_opt e) (blocks_stms body) (blocks_handlers r) (each_opt a c e one.0) (each_stms a c body three.0)
      (each_handlers a c r three.1)
