-- A script's regions that are blocks are as many as the blocks of its tree.
use Rattle.std.proofs.Common.{if◌then◌else◌, ◌≡◌, ℕ, ◌+◌, Bool, true, false, List, [], ◌∷◌, ◌++◌, length, Option, Some, None, refl, sym, ap, arith, length-append}
use Rattle.std.proofs.lemmas.List.{length-map}
use Rattle.pt_scopes.specs.declared.region.Context.{Context}
use Rattle.pt_scopes.specs.declared.region.Kind.{Kind}
use Rattle.pt_scopes.specs.declared.region.Kind.TheVariants.{Module, Function, Class, Comprehension}
use Rattle.pt_scopes.specs.declared.region.Region.{Region}
use Rattle.pt_scopes.specs.declared.region.Role.{Role}
use Rattle.pt_scopes.specs.declared.region.Role.TheVariants.{Read, Bind, Parameter, Global, Nonlocal}
use Rattle.pt_scopes.specs.BlockKinds.{with_kind, block_kinds, kind_of}
use Rattle.pt_scopes.specs.Mentions.{tells, gives, turns, bound_name, places_script, places_all, places_args, places_branches, places_clauses, places_decorators, places_entries, places_exp, places_formals, places_handlers, places_imports, places_items, places_links, places_made, places_named, places_named_parameter, places_names, places_opt, places_opt_target, places_params, places_pieces, places_place, places_stm, places_stms, places_target, places_targets}
use Rattle.pt_scopes.specs.Names.{mangled}
use Rattle.pt_scopes.specs.Places.{Part, ◌⨾◌, nothing, mention, misplaced, block, comprehension, in_function, in_generator, in_class, in_comprehension, function_context, generator_context, class_context, comprehension_context, loop_context, module_context}
use Rattle.pt_scopes.proofs.BlockKindLemmas.{kinds-script}
use Rattle.pt_tree.specs.declared.expression.NamedParameter.{NamedParameter}
use Rattle.pt_tree.specs.declared.statement.Alias.{Alias}
use Rattle.pt_tree.specs.Syntax as S
use Rattle.pt_tree.specs.Syntax.{Name, Exp, Exps, Opt, Pieces, Entries, Links, Args, Made, Clauses, Place, Tgt, Tgts, Params, Formals, Decorators, Items, Stm, Stms, Branches, Handlers}
use Rattle.pt_tree.specs.Blocks.{blocks_script}

-- it has as many blocks as regions that are blocks, wherever it begins
abbrev Tidy : Part → Type 0
Tidy f = (n : ℕ) → length (f n).blocks ≡ length (block_kinds (f n).regions)

kind_more : (k : Kind) (ks : List Kind) → length (with_kind k ks) ≡ length (with_kind k []) + length ks
kind_more Module ks = omega arith
kind_more Function ks = omega arith
kind_more Class ks = omega arith
kind_more Comprehension ks = omega arith

kinds_count : (rs ss : List Region) → length (block_kinds (rs ++ ss)) ≡ length (block_kinds rs) + length (block_kinds ss)
kinds_count [] ss = omega arith
kinds_count (r ∷ rs) ss =
    omega (arith, kinds_count rs ss, kind_more r.kind (block_kinds (rs ++ ss)), kind_more r.kind (block_kinds rs))

tidy_nothing : Tidy nothing
unfolding nothing
tidy_nothing n = refl

tidy_mention : (r : Role) (a : Context) (x : Name) (l : ℕ) → Tidy (mention r a x l)
unfolding mention
tidy_mention r a x l n = refl

tidy_then : (f g : Part) → Tidy f → Tidy g → Tidy (f ⨾ g)
unfolding ◌⨾◌
tidy_then f g h k n =
    let m = n + length (f n).regions in
    omega (arith, h n, k m, length-append (f n).blocks (g m).blocks, kinds_count (f n).regions (g m).regions)

tidy_block : (k : Kind) (a : Context) → length (with_kind k []) ≡ 1 → Tidy (block k a)
unfolding block
tidy_block k a h n = sym h

tidy_comprehension : (a : Context) → Tidy (comprehension a)
unfolding comprehension
tidy_comprehension a n = refl

tidy_in_function : (a : Context) (inside : Context → Part) → ((b : Context) → Tidy (inside b)) → Tidy (in_function a inside)
unfolding in_function
tidy_in_function a inside h n = tidy_then (block Function a) (inside (function_context n)) (tidy_block Function a refl) (h (function_context n)) n

tidy_in_generator : (a : Context) (inside : Context → Part) → ((b : Context) → Tidy (inside b)) → Tidy (in_generator a inside)
unfolding in_generator
tidy_in_generator a inside h n = tidy_then (block Function a) (inside (generator_context n)) (tidy_block Function a refl) (h (generator_context n)) n

tidy_in_class : (a : Context) (inside : Context → Part) → ((b : Context) → Tidy (inside b)) → Tidy (in_class a inside)
unfolding in_class
tidy_in_class a inside h n = tidy_then (block Class a) (inside (class_context n)) (tidy_block Class a refl) (h (class_context n)) n

tidy_in_comprehension : (a : Context) (inside : Context → Part) → ((b : Context) → Tidy (inside b)) → Tidy (in_comprehension a inside)
unfolding in_comprehension
tidy_in_comprehension a inside h n =
    tidy_then (comprehension a) (inside (comprehension_context a n)) (tidy_comprehension a) (h (comprehension_context a n)) n

tidy_if : (b : Bool) (a : Context) (l : ℕ) → Tidy (if b then nothing else misplaced a l)
tidy_if true a l = tidy_nothing
tidy_if false a l = tidy_mention _ a [] l

tidy_gives : (a : Context) (l : ℕ) → Tidy (gives a l)
tidy_gives a l = tidy_if a.may_give a l

tidy_turns : (a : Context) (l : ℕ) → Tidy (turns a l)
tidy_turns a l = tidy_if a.in_loop a l

tidy_named_parameter : (b : Context) (c : Name) (s : Option NamedParameter) → Tidy (places_named_parameter b c s)
tidy_named_parameter b c None = tidy_nothing
tidy_named_parameter b c (Some p) = tidy_mention Parameter b (mangled c p.name) p.line.0

mutual
  tidy_exp : (a : Context) (c : Name) (x : Exp) → Tidy (places_exp a c x)
  tidy_exp a c (S.constant l k) = tidy_nothing
  tidy_exp a c (S.name l x) = tidy_mention Read a (mangled c x) l
  tidy_exp a c (S.joined l ps) = tidy_pieces a c ps
  tidy_exp a c (S.tuple l es) = tidy_all a c es
  tidy_exp a c (S.list l es) = tidy_all a c es
  tidy_exp a c (S.set l es) = tidy_all a c es
  tidy_exp a c (S.dict l es) = tidy_entries a c es
  tidy_exp a c (S.attribute l e x) = tidy_exp a c e
  tidy_exp a c (S.item l e i) = tidy_then (places_exp a c e) (places_exp a c i) (tidy_exp a c e) (tidy_exp a c i)
  tidy_exp a c (S.slice l e f g) =
      tidy_then (places_opt a c e) (places_opt a c f ⨾ places_opt a c g) (tidy_opt a c e)
      (tidy_then (places_opt a c f) (places_opt a c g) (tidy_opt a c f) (tidy_opt a c g))
  tidy_exp a c (S.unary l o e) = tidy_exp a c e
  tidy_exp a c (S.not_of l e) = tidy_exp a c e
  tidy_exp a c (S.binary l o e f) = tidy_then (places_exp a c e) (places_exp a c f) (tidy_exp a c e) (tidy_exp a c f)
  tidy_exp a c (S.compare l e o f r) =
      tidy_then (places_exp a c e) (places_exp a c f ⨾ places_links a c r) (tidy_exp a c e)
      (tidy_then (places_exp a c f) (places_links a c r) (tidy_exp a c f) (tidy_links a c r))
  tidy_exp a c (S.and l e es) = tidy_then (places_exp a c e) (places_all a c es) (tidy_exp a c e) (tidy_all a c es)
  tidy_exp a c (S.or l e es) = tidy_then (places_exp a c e) (places_all a c es) (tidy_exp a c e) (tidy_all a c es)
  tidy_exp a c (S.conditional l t e f) =
      tidy_then (places_exp a c e) (places_exp a c t ⨾ places_exp a c f) (tidy_exp a c e)
      (tidy_then (places_exp a c t) (places_exp a c f) (tidy_exp a c t) (tidy_exp a c f))
  tidy_exp a c (S.call l f args) = tidy_then (places_exp a c f) (places_args a c args) (tidy_exp a c f) (tidy_args a c args)
  tidy_exp a c (S.lambda l n ps e) =
      tidy_in_function a (λ b. places_params a b c ps ⨾ places_exp b c e)
      (λ b. tidy_then (places_params a b c ps) (places_exp b c e) (tidy_params a b c ps) (tidy_exp b c e))
  tidy_exp a c (S.comprehension l m fl t it cs) =
      tidy_in_comprehension a (λ b. places_made b c m ⨾ places_target b c t ⨾ places_exp a c it ⨾ places_clauses b c cs)
      (λ b. tidy_then (places_made b c m) (places_target b c t ⨾ places_exp a c it ⨾ places_clauses b c cs) (tidy_made b c m)
      (tidy_then (places_target b c t) (places_exp a c it ⨾ places_clauses b c cs) (tidy_target b c t)
      (tidy_then (places_exp a c it) (places_clauses b c cs) (tidy_exp a c it) (tidy_clauses b c cs))))
  tidy_exp a c (S.generator l n e fl t it cs) =
      tidy_in_generator a (λ b. places_exp b c e ⨾ places_target b c t ⨾ places_exp a c it ⨾ places_clauses b c cs)
      (λ b. tidy_then (places_exp b c e) (places_target b c t ⨾ places_exp a c it ⨾ places_clauses b c cs) (tidy_exp b c e)
      (tidy_then (places_target b c t) (places_exp a c it ⨾ places_clauses b c cs) (tidy_target b c t)
      (tidy_then (places_exp a c it) (places_clauses b c cs) (tidy_exp a c it) (tidy_clauses b c cs))))
  tidy_exp a c (S.yield l v) = tidy_then (gives a l) (places_opt a c v) (tidy_gives a l) (tidy_opt a c v)
  tidy_exp a c (S.yield_from l e) = tidy_then (gives a l) (places_exp a c e) (tidy_gives a l) (tidy_exp a c e)

  tidy_all : (a : Context) (c : Name) (x : Exps) → Tidy (places_all a c x)
  tidy_all a c S.no_exps = tidy_nothing
  tidy_all a c (S.more_exps e es) = tidy_then (places_exp a c e) (places_all a c es) (tidy_exp a c e) (tidy_all a c es)

  tidy_opt : (a : Context) (c : Name) (x : Opt) → Tidy (places_opt a c x)
  tidy_opt a c S.absent = tidy_nothing
  tidy_opt a c (S.given e) = tidy_exp a c e

  tidy_pieces : (a : Context) (c : Name) (x : Pieces) → Tidy (places_pieces a c x)
  tidy_pieces a c S.no_pieces = tidy_nothing
  tidy_pieces a c (S.literal l t r) = tidy_pieces a c r
  tidy_pieces a c (S.field l e k ps r) =
      tidy_then (places_exp a c e) (places_pieces a c ps ⨾ places_pieces a c r) (tidy_exp a c e)
      (tidy_then (places_pieces a c ps) (places_pieces a c r) (tidy_pieces a c ps) (tidy_pieces a c r))

  tidy_entries : (a : Context) (c : Name) (x : Entries) → Tidy (places_entries a c x)
  tidy_entries a c S.no_entries = tidy_nothing
  tidy_entries a c (S.entry k v r) =
      tidy_then (places_exp a c k) (places_exp a c v ⨾ places_entries a c r) (tidy_exp a c k)
      (tidy_then (places_exp a c v) (places_entries a c r) (tidy_exp a c v) (tidy_entries a c r))

  tidy_links : (a : Context) (c : Name) (x : Links) → Tidy (places_links a c x)
  tidy_links a c S.no_links = tidy_nothing
  tidy_links a c (S.link o e r) = tidy_then (places_exp a c e) (places_links a c r) (tidy_exp a c e) (tidy_links a c r)

  tidy_args : (a : Context) (c : Name) (x : Args) → Tidy (places_args a c x)
  tidy_args a c S.no_args = tidy_nothing
  tidy_args a c (S.positional e r) = tidy_then (places_exp a c e) (places_args a c r) (tidy_exp a c e) (tidy_args a c r)
  tidy_args a c (S.named x e r) = tidy_then (places_exp a c e) (places_args a c r) (tidy_exp a c e) (tidy_args a c r)
  tidy_args a c (S.spread e r) = tidy_then (places_exp a c e) (places_args a c r) (tidy_exp a c e) (tidy_args a c r)
  tidy_args a c (S.spread_named e r) = tidy_then (places_exp a c e) (places_args a c r) (tidy_exp a c e) (tidy_args a c r)

  tidy_made : (a : Context) (c : Name) (x : Made) → Tidy (places_made a c x)
  tidy_made a c (S.a_list e) = tidy_exp a c e
  tidy_made a c (S.a_set e) = tidy_exp a c e
  tidy_made a c (S.a_dict k v) = tidy_then (places_exp a c k) (places_exp a c v) (tidy_exp a c k) (tidy_exp a c v)

  tidy_clauses : (a : Context) (c : Name) (x : Clauses) → Tidy (places_clauses a c x)
  tidy_clauses a c S.no_clauses = tidy_nothing
  tidy_clauses a c (S.only_if e cs) = tidy_then (places_exp a c e) (places_clauses a c cs) (tidy_exp a c e) (tidy_clauses a c cs)
  tidy_clauses a c (S.for_each fl t it cs) =
      tidy_then (places_target a c t) (places_exp a c it ⨾ places_clauses a c cs) (tidy_target a c t)
      (tidy_then (places_exp a c it) (places_clauses a c cs) (tidy_exp a c it) (tidy_clauses a c cs))

  tidy_place : (a : Context) (c : Name) (x : Place) → Tidy (places_place a c x)
  tidy_place a c (S.name_at l x) = tidy_mention Bind a (mangled c x) l
  tidy_place a c (S.attribute_at l e x) = tidy_exp a c e
  tidy_place a c (S.item_at l e i) = tidy_then (places_exp a c e) (places_exp a c i) (tidy_exp a c e) (tidy_exp a c i)

  tidy_target : (a : Context) (c : Name) (x : Tgt) → Tidy (places_target a c x)
  tidy_target a c (S.single p) = tidy_place a c p
  tidy_target a c (S.several l f ts) = tidy_targets a c ts
  tidy_target a c (S.starred l t) = tidy_target a c t

  tidy_targets : (a : Context) (c : Name) (x : Tgts) → Tidy (places_targets a c x)
  tidy_targets a c S.no_targets = tidy_nothing
  tidy_targets a c (S.more_targets t ts) = tidy_then (places_target a c t) (places_targets a c ts) (tidy_target a c t) (tidy_targets a c ts)

  tidy_params : (a b : Context) (c : Name) (x : Params) → Tidy (places_params a b c x)
  tidy_params a b c (S.parameters ps s ks d) =
      tidy_then (places_formals a b c ps) (places_named_parameter b c s ⨾ places_formals a b c ks ⨾ places_named_parameter b c d)
      (tidy_formals a b c ps)
      (tidy_then (places_named_parameter b c s) (places_formals a b c ks ⨾ places_named_parameter b c d) (tidy_named_parameter b c s)
      (tidy_then (places_formals a b c ks) (places_named_parameter b c d) (tidy_formals a b c ks) (tidy_named_parameter b c d)))

  tidy_formals : (a b : Context) (c : Name) (x : Formals) → Tidy (places_formals a b c x)
  tidy_formals a b c S.no_formals = tidy_nothing
  tidy_formals a b c (S.formal l x n d r) =
      tidy_then (tells Parameter b c x l) (places_opt a c d ⨾ places_formals a b c r) (tidy_mention Parameter b (mangled c x) l)
      (tidy_then (places_opt a c d) (places_formals a b c r) (tidy_opt a c d) (tidy_formals a b c r))

tidy_decorators : (a : Context) (c : Name) (x : Decorators) → Tidy (places_decorators a c x)
tidy_decorators a c S.no_decorators = tidy_nothing
tidy_decorators a c (S.decorator l e r) = tidy_then (places_exp a c e) (places_decorators a c r) (tidy_exp a c e) (tidy_decorators a c r)

tidy_opt_target : (a : Context) (c : Name) (t : Option Tgt) → Tidy (places_opt_target a c t)
tidy_opt_target a c None = tidy_nothing
tidy_opt_target a c (Some t) = tidy_target a c t

tidy_items : (a : Context) (c : Name) (x : Items) → Tidy (places_items a c x)
tidy_items a c S.no_items = tidy_nothing
tidy_items a c (S.with_item l e t is) =
    tidy_then (places_exp a c e) (places_opt_target a c t ⨾ places_items a c is) (tidy_exp a c e)
    (tidy_then (places_opt_target a c t) (places_items a c is) (tidy_opt_target a c t) (tidy_items a c is))

tidy_named : (a : Context) (c : Name) (l : ℕ) (x : Option Name) → Tidy (places_named a c l x)
tidy_named a c l None = tidy_nothing
tidy_named a c l (Some x) = tidy_mention Bind a (mangled c x) l

tidy_imports : (a : Context) (c : Name) (l : ℕ) (xs : List Alias) → Tidy (places_imports a c l xs)
tidy_imports a c l [] = tidy_nothing
tidy_imports a c l (x ∷ xs) =
    tidy_then (tells Bind a c (bound_name x.name x.alias) l) (places_imports a c l xs) (tidy_mention Bind a (mangled c (bound_name x.name x.alias)) l)
    (tidy_imports a c l xs)

tidy_names : (r : Role) (a : Context) (c : Name) (l : ℕ) (xs : List Name) → Tidy (places_names r a c l xs)
tidy_names r a c l [] = tidy_nothing
tidy_names r a c l (x ∷ xs) = tidy_then (tells r a c x l) (places_names r a c l xs) (tidy_mention r a (mangled c x) l) (tidy_names r a c l xs)

mutual
  tidy_stm : (a : Context) (c : Name) (x : Stm) → Tidy (places_stm a c x)
  tidy_stm a c (S.expr l e) = tidy_exp a c e
  tidy_stm a c (S.assign l ts e) = tidy_then (places_targets a c ts) (places_exp a c e) (tidy_targets a c ts) (tidy_exp a c e)
  tidy_stm a c (S.augmented l p o e) = tidy_then (places_place a c p) (places_exp a c e) (tidy_place a c p) (tidy_exp a c e)
  tidy_stm a c (S.annotated l p n v) = tidy_then (places_place a c p) (places_opt a c v) (tidy_place a c p) (tidy_opt a c v)
  tidy_stm a c (S.assert l e m) = tidy_then (places_exp a c e) (places_opt a c m) (tidy_exp a c e) (tidy_opt a c m)
  tidy_stm a c (S.pass l) = tidy_nothing
  tidy_stm a c (S.del l ts) = tidy_targets a c ts
  tidy_stm a c (S.return l v) = tidy_then (gives a l) (places_opt a c v) (tidy_gives a l) (tidy_opt a c v)
  tidy_stm a c (S.raise l e f) = tidy_then (places_exp a c e) (places_opt a c f) (tidy_exp a c e) (tidy_opt a c f)
  tidy_stm a c (S.raise_again l) = tidy_nothing
  tidy_stm a c (S.break l) = tidy_turns a l
  tidy_stm a c (S.continue l) = tidy_turns a l
  tidy_stm a c (S.import l xs) = tidy_imports a c l xs
  tidy_stm a c (S.import_from l m xs) = tidy_imports a c l xs
  tidy_stm a c (S.global l xs) = tidy_names Global a c l xs
  tidy_stm a c (S.nonlocal l xs) = tidy_names Nonlocal a c l xs
  tidy_stm a c (S.choice l bs els) = tidy_then (places_branches a c bs) (places_stms a c els) (tidy_branches a c bs) (tidy_stms a c els)
  tidy_stm a c (S.while l e body els) =
      tidy_then (places_exp a c e) (places_stms (loop_context a) c body ⨾ places_stms a c els) (tidy_exp a c e)
      (tidy_then (places_stms (loop_context a) c body) (places_stms a c els) (tidy_stms (loop_context a) c body) (tidy_stms a c els))
  tidy_stm a c (S.for l t e body els) =
      tidy_then (places_target a c t) (places_exp a c e ⨾ places_stms (loop_context a) c body ⨾ places_stms a c els) (tidy_target a c t)
      (tidy_then (places_exp a c e) (places_stms (loop_context a) c body ⨾ places_stms a c els) (tidy_exp a c e)
      (tidy_then (places_stms (loop_context a) c body) (places_stms a c els) (tidy_stms (loop_context a) c body) (tidy_stms a c els)))
  tidy_stm a c (S.try l body hs els fin) =
      tidy_then (places_stms a c body) (places_handlers a c hs ⨾ places_stms a c els ⨾ places_stms a c fin) (tidy_stms a c body)
      (tidy_then (places_handlers a c hs) (places_stms a c els ⨾ places_stms a c fin) (tidy_handlers a c hs)
      (tidy_then (places_stms a c els) (places_stms a c fin) (tidy_stms a c els) (tidy_stms a c fin)))
  tidy_stm a c (S.with l is body) = tidy_then (places_items a c is) (places_stms a c body) (tidy_items a c is) (tidy_stms a c body)
  tidy_stm a c (S.def l ds dl n x ps r body) =
      tidy_then (places_decorators a c ds) (tells Bind a c x dl ⨾ in_function a (λ b. places_params a b c ps ⨾ places_stms b c body))
      (tidy_decorators a c ds)
      (tidy_then (tells Bind a c x dl) (in_function a (λ b. places_params a b c ps ⨾ places_stms b c body)) (tidy_mention Bind a (mangled c x) dl)
      (tidy_in_function a (λ b. places_params a b c ps ⨾ places_stms b c body)
      (λ b. tidy_then (places_params a b c ps) (places_stms b c body) (tidy_params a b c ps) (tidy_stms b c body))))
  tidy_stm a c (S.class l ds cl n x base body) =
      tidy_then (places_decorators a c ds) (tells Bind a c x cl ⨾ in_class a (λ b. places_opt a c base ⨾ places_stms b x body))
      (tidy_decorators a c ds)
      (tidy_then (tells Bind a c x cl) (in_class a (λ b. places_opt a c base ⨾ places_stms b x body)) (tidy_mention Bind a (mangled c x) cl)
      (tidy_in_class a (λ b. places_opt a c base ⨾ places_stms b x body)
      (λ b. tidy_then (places_opt a c base) (places_stms b x body) (tidy_opt a c base) (tidy_stms b x body))))
  tidy_stm a c (S.docstring l) = tidy_nothing

  pub tidy_stms : (a : Context) (c : Name) (x : Stms) → Tidy (places_stms a c x)
  tidy_stms a c S.none = tidy_nothing
  tidy_stms a c (S.more s ss) = tidy_then (places_stm a c s) (places_stms a c ss) (tidy_stm a c s) (tidy_stms a c ss)

  tidy_branches : (a : Context) (c : Name) (x : Branches) → Tidy (places_branches a c x)
  tidy_branches a c S.no_branches = tidy_nothing
  tidy_branches a c (S.branch l e body r) =
      tidy_then (places_exp a c e) (places_stms a c body ⨾ places_branches a c r) (tidy_exp a c e)
      (tidy_then (places_stms a c body) (places_branches a c r) (tidy_stms a c body) (tidy_branches a c r))

  tidy_handlers : (a : Context) (c : Name) (x : Handlers) → Tidy (places_handlers a c x)
  tidy_handlers a c S.no_handlers = tidy_nothing
  tidy_handlers a c (S.handler l e x body r) =
      tidy_then (places_opt a c e) (places_named a c l x ⨾ places_stms a c body ⨾ places_handlers a c r) (tidy_opt a c e)
      (tidy_then (places_named a c l x) (places_stms a c body ⨾ places_handlers a c r) (tidy_named a c l x)
      (tidy_then (places_stms a c body) (places_handlers a c r) (tidy_stms a c body) (tidy_handlers a c r)))

pub as_many_regions : (ss : Stms) → length (places_script ss).blocks ≡ length (blocks_script ss)
as_many_regions ss =
    let h = tidy_stms module_context [] ss 1 in
    let k = ap length (kinds-script ss) in
    omega (arith, h, k, length-map (blocks_script ss) kind_of)
