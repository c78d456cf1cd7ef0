-- Each part of a script has a block for each number that its tree gives to one.
use Rattle.std.proofs.Common.{◌≡◌, ℕ, ◌+◌, Bool, true, false, if◌then◌else◌, List, [], ◌∷◌, ◌++◌, length, Option, Some, None, refl, sym, ap, ◌∙◌, arith, append_assoc, length-append}
use Rattle.pt_scopes.specs.declared.region.Context.{Context}
use Rattle.pt_scopes.specs.declared.region.Kind.{Kind}
use Rattle.pt_scopes.specs.declared.region.Kind.TheVariants.{Function, Class}
use Rattle.pt_scopes.specs.declared.region.Role.{Role}
use Rattle.pt_scopes.specs.declared.region.Role.TheVariants.{Read, Bind, Parameter, Global, Nonlocal}
use Rattle.pt_scopes.specs.Mentions.{tells, gives, turns, bound_name, places_all, places_args, places_branches, places_clauses, places_decorators, places_entries, places_exp, places_formals, places_handlers, places_imports, places_items, places_links, places_made, places_named, places_named_parameter, places_names, places_opt, places_opt_target, places_params, places_pieces, places_place, places_stm, places_stms, places_target, places_targets}
use Rattle.pt_scopes.specs.Names.{mangled}
use Rattle.pt_scopes.specs.Places.{Part, ◌⨾◌, nothing, mention, misplaced, block, comprehension, in_function, in_generator, in_class, in_comprehension, function_context, generator_context, class_context, comprehension_context, loop_context}
use Rattle.pt_tree.specs.declared.expression.NamedParameter.{NamedParameter}
use Rattle.pt_tree.specs.declared.statement.Alias.{Alias}
use Rattle.pt_tree.specs.Syntax as S
use Rattle.pt_tree.specs.Syntax.{Name, Exp, Exps, Opt, Pieces, Entries, Links, Args, Made, Clauses, Place, Tgt, Tgts, Params, Formals, Decorators, Items, Stm, Stms, Branches, Handlers}
use Rattle.sem_control.specs.numbering.Numbered.{numbers_all, numbers_args, numbers_branches, numbers_clauses, numbers_decorators, numbers_entries, numbers_exp, numbers_formals, numbers_handlers, numbers_items, numbers_links, numbers_made, numbers_opt, numbers_opt_target, numbers_params, numbers_pieces, numbers_place, numbers_stm, numbers_stms, numbers_target, numbers_targets}

-- as many blocks as numbers, wherever the part begins
abbrev pub Counted : Part → List ℕ → Type 0
Counted f xs = (n : ℕ) → length (f n).blocks ≡ length xs

-- lists that go on from the left, and from the right

pub assoc3 : (xs ys zs : List ℕ) → (xs ++ ys) ++ zs ≡ xs ++ (ys ++ zs)
assoc3 xs ys zs = append_assoc xs ys zs

pub assoc4 : (ws xs ys zs : List ℕ) → ((ws ++ xs) ++ ys) ++ zs ≡ ws ++ (xs ++ (ys ++ zs))
assoc4 ws xs ys zs = append_assoc (ws ++ xs) ys zs ∙ append_assoc ws xs (ys ++ zs)

pub assoc5 : (vs ws xs ys zs : List ℕ) → (((vs ++ ws) ++ xs) ++ ys) ++ zs ≡ vs ++ (ws ++ (xs ++ (ys ++ zs)))
assoc5 vs ws xs ys zs = append_assoc ((vs ++ ws) ++ xs) ys zs ∙ assoc4 vs ws xs (ys ++ zs)

count_as : (f : Part) {xs ys : List ℕ} → xs ≡ ys → Counted f xs → Counted f ys
count_as f {xs} {ys} e h n = h n ∙ ap length e

pub count_nothing : Counted nothing []
unfolding nothing
count_nothing n = refl

pub count_mention : (r : Role) (a : Context) (x : Name) (l : ℕ) → Counted (mention r a x l) []
unfolding mention
count_mention r a x l n = refl

count_then : (f g : Part) (xs ys : List ℕ) → Counted f xs → Counted g ys → Counted (f ⨾ g) (xs ++ ys)
unfolding ◌⨾◌
count_then f g xs ys h k n =
    let m = n + length (f n).regions in
    omega (arith, h n, k m, length-append (f n).blocks (g m).blocks, length-append xs ys)

count_front : (f g : Part) (ys : List ℕ) → Counted f [] → Counted g ys → Counted (f ⨾ g) ys
count_front f g ys h k = count_then f g [] ys h k

count_end : (f g : Part) (xs : List ℕ) → Counted f xs → Counted g [] → Counted (f ⨾ g) xs
unfolding ◌⨾◌
count_end f g xs h k n =
    let m = n + length (f n).regions in
    omega (arith, h n, k m, length-append (f n).blocks (g m).blocks)

count_block : (k : Kind) (a : Context) (b : ℕ) → Counted (block k a) (b ∷ [])
unfolding block
count_block k a b n = refl

count_region : (a : Context) → Counted (comprehension a) []
unfolding comprehension
count_region a n = refl

count_in_function : (a : Context) (inside : Context → Part) (b : ℕ) (ys : List ℕ) → ((c : Context) → Counted (inside c) ys)
    → Counted (in_function a inside) ((b ∷ []) ++ ys)
unfolding in_function
count_in_function a inside b ys h n =
    count_then (block Function a) (inside (function_context n)) (b ∷ []) ys (count_block Function a b) (h (function_context n)) n

count_in_generator : (a : Context) (inside : Context → Part) (b : ℕ) (ys : List ℕ) → ((c : Context) → Counted (inside c) ys)
    → Counted (in_generator a inside) ((b ∷ []) ++ ys)
unfolding in_generator
count_in_generator a inside b ys h n =
    count_then (block Function a) (inside (generator_context n)) (b ∷ []) ys (count_block Function a b) (h (generator_context n)) n

count_in_class : (a : Context) (inside : Context → Part) (b : ℕ) (ys : List ℕ) → ((c : Context) → Counted (inside c) ys)
    → Counted (in_class a inside) ((b ∷ []) ++ ys)
unfolding in_class
count_in_class a inside b ys h n =
    count_then (block Class a) (inside (class_context n)) (b ∷ []) ys (count_block Class a b) (h (class_context n)) n

count_in_comprehension : (a : Context) (inside : Context → Part) (ys : List ℕ) → ((c : Context) → Counted (inside c) ys)
    → Counted (in_comprehension a inside) ys
unfolding in_comprehension
count_in_comprehension a inside ys h n =
    count_front (comprehension a) (inside (comprehension_context a n)) ys (count_region a) (h (comprehension_context a n)) n

count_if : (b : Bool) (a : Context) (l : ℕ) → Counted (if b then nothing else misplaced a l) []
count_if true a l = count_nothing
count_if false a l = count_mention _ a [] l

pub count_gives : (a : Context) (l : ℕ) → Counted (gives a l) []
count_gives a l = count_if a.may_give a l

count_turns : (a : Context) (l : ℕ) → Counted (turns a l) []
count_turns a l = count_if a.in_loop a l

pub count_named_parameter : (b : Context) (c : Name) (s : Option NamedParameter) → Counted (places_named_parameter b c s) []
count_named_parameter b c None = count_nothing
count_named_parameter b c (Some p) = count_mention Parameter b (mangled c p.name) p.line.0

pub count_named : (a : Context) (c : Name) (l : ℕ) (x : Option Name) → Counted (places_named a c l x) []
count_named a c l None = count_nothing
count_named a c l (Some x) = count_mention Bind a (mangled c x) l

pub count_imports : (a : Context) (c : Name) (l : ℕ) (xs : List Alias) → Counted (places_imports a c l xs) []
count_imports a c l [] = count_nothing
count_imports a c l (x ∷ xs) =
    count_front (tells Bind a c (bound_name x.name x.alias) l) (places_imports a c l xs) []
    (count_mention Bind a (mangled c (bound_name x.name x.alias)) l) (count_imports a c l xs)

pub count_names : (r : Role) (a : Context) (c : Name) (l : ℕ) (xs : List Name) → Counted (places_names r a c l xs) []
count_names r a c l [] = count_nothing
count_names r a c l (x ∷ xs) =
    count_front (tells r a c x l) (places_names r a c l xs) [] (count_mention r a (mangled c x) l) (count_names r a c l xs)

mutual
  pub count_exp : (a : Context) (c : Name) (x : Exp) → Counted (places_exp a c x) (numbers_exp x)
  count_exp a c (S.constant l k) = count_nothing
  count_exp a c (S.name l x) = count_mention Read a (mangled c x) l
  count_exp a c (S.joined l ps) = count_pieces a c ps
  count_exp a c (S.tuple l es) = count_all a c es
  count_exp a c (S.list l es) = count_all a c es
  count_exp a c (S.set l es) = count_all a c es
  count_exp a c (S.dict l es) = count_entries a c es
  count_exp a c (S.attribute l e x) = count_exp a c e
  count_exp a c (S.item l e i) = count_then (places_exp a c e) (places_exp a c i) (numbers_exp e) (numbers_exp i) (count_exp a c e) (count_exp a c i)
  count_exp a c (S.slice l e f g) =
      count_as (places_opt a c e ⨾ places_opt a c f ⨾ places_opt a c g) (sym (assoc3 (numbers_opt e) (numbers_opt f) (numbers_opt g)))
      (count_then (places_opt a c e) (places_opt a c f ⨾ places_opt a c g) (numbers_opt e) (numbers_opt f ++ (numbers_opt g)) (count_opt a c e)
      (count_then (places_opt a c f) (places_opt a c g) (numbers_opt f) (numbers_opt g) (count_opt a c f) (count_opt a c g)))
  count_exp a c (S.unary l o e) = count_exp a c e
  count_exp a c (S.not_of l e) = count_exp a c e
  count_exp a c (S.binary l o e f) =
      count_then (places_exp a c e) (places_exp a c f) (numbers_exp e) (numbers_exp f) (count_exp a c e) (count_exp a c f)
  count_exp a c (S.compare l e o f r) =
      count_as (places_exp a c e ⨾ places_exp a c f ⨾ places_links a c r) (sym (assoc3 (numbers_exp e) (numbers_exp f) (numbers_links r)))
      (count_then (places_exp a c e) (places_exp a c f ⨾ places_links a c r) (numbers_exp e) (numbers_exp f ++ (numbers_links r)) (count_exp a c e)
      (count_then (places_exp a c f) (places_links a c r) (numbers_exp f) (numbers_links r) (count_exp a c f) (count_links a c r)))
  count_exp a c (S.and l e es) =
      count_then (places_exp a c e) (places_all a c es) (numbers_exp e) (numbers_all es) (count_exp a c e) (count_all a c es)
  count_exp a c (S.or l e es) =
      count_then (places_exp a c e) (places_all a c es) (numbers_exp e) (numbers_all es) (count_exp a c e) (count_all a c es)
  count_exp a c (S.conditional l t e f) =
      count_as (places_exp a c e ⨾ places_exp a c t ⨾ places_exp a c f) (sym (assoc3 (numbers_exp e) (numbers_exp t) (numbers_exp f)))
      (count_then (places_exp a c e) (places_exp a c t ⨾ places_exp a c f) (numbers_exp e) (numbers_exp t ++ (numbers_exp f)) (count_exp a c e)
      (count_then (places_exp a c t) (places_exp a c f) (numbers_exp t) (numbers_exp f) (count_exp a c t) (count_exp a c f)))
  count_exp a c (S.call l f args) =
      count_then (places_exp a c f) (places_args a c args) (numbers_exp f) (numbers_args args) (count_exp a c f) (count_args a c args)
  count_exp a c (S.lambda l n ps e) =
      count_as (in_function a (λ b. places_params a b c ps ⨾ places_exp b c e)) (sym (assoc3 ((n ∷ [])) (numbers_params ps) (numbers_exp e)))
      (count_in_function a (λ b. places_params a b c ps ⨾ places_exp b c e) n (numbers_params ps ++ (numbers_exp e))
      (λ b. count_then (places_params a b c ps) (places_exp b c e) (numbers_params ps) (numbers_exp e) (count_params a b c ps) (count_exp b c e)))
  count_exp a c (S.comprehension l m fl t it cs) =
      count_as (in_comprehension a (λ b. places_made b c m ⨾ places_target b c t ⨾ places_exp a c it ⨾ places_clauses b c cs))
      (sym (assoc4 (numbers_made m) (numbers_target t) (numbers_exp it) (numbers_clauses cs)))
      (count_in_comprehension a (λ b. places_made b c m ⨾ places_target b c t ⨾ places_exp a c it ⨾ places_clauses b c cs)
      (numbers_made m ++ (numbers_target t ++ (numbers_exp it ++ (numbers_clauses cs))))
      (λ b. count_then (places_made b c m) (places_target b c t ⨾ places_exp a c it ⨾ places_clauses b c cs) (numbers_made m)
      (numbers_target t ++ (numbers_exp it ++ (numbers_clauses cs))) (count_made b c m)
      (count_then (places_target b c t) (places_exp a c it ⨾ places_clauses b c cs) (numbers_target t) (numbers_exp it ++ (numbers_clauses cs))
      (count_target b c t)
      (count_then (places_exp a c it) (places_clauses b c cs) (numbers_exp it) (numbers_clauses cs) (count_exp a c it) (count_clauses b c cs)))))
  count_exp a c (S.generator l n e fl t it cs) =
      count_as (in_generator a (λ b. places_exp b c e ⨾ places_target b c t ⨾ places_exp a c it ⨾ places_clauses b c cs))
      (sym (assoc5 ((n ∷ [])) (numbers_exp e) (numbers_target t) (numbers_exp it) (numbers_clauses cs)))
      (count_in_generator a (λ b. places_exp b c e ⨾ places_target b c t ⨾ places_exp a c it ⨾ places_clauses b c cs) n
      (numbers_exp e ++ (numbers_target t ++ (numbers_exp it ++ (numbers_clauses cs))))
      (λ b. count_then (places_exp b c e) (places_target b c t ⨾ places_exp a c it ⨾ places_clauses b c cs) (numbers_exp e)
      (numbers_target t ++ (numbers_exp it ++ (numbers_clauses cs))) (count_exp b c e)
      (count_then (places_target b c t) (places_exp a c it ⨾ places_clauses b c cs) (numbers_target t) (numbers_exp it ++ (numbers_clauses cs))
      (count_target b c t)
      (count_then (places_exp a c it) (places_clauses b c cs) (numbers_exp it) (numbers_clauses cs) (count_exp a c it) (count_clauses b c cs)))))
  count_exp a c (S.yield l v) = count_front (gives a l) (places_opt a c v) (numbers_opt v) (count_gives a l) (count_opt a c v)
  count_exp a c (S.yield_from l e) = count_front (gives a l) (places_exp a c e) (numbers_exp e) (count_gives a l) (count_exp a c e)

  pub count_all : (a : Context) (c : Name) (x : Exps) → Counted (places_all a c x) (numbers_all x)
  count_all a c S.no_exps = count_nothing
  count_all a c (S.more_exps e es) =
      count_then (places_exp a c e) (places_all a c es) (numbers_exp e) (numbers_all es) (count_exp a c e) (count_all a c es)

  pub count_opt : (a : Context) (c : Name) (x : Opt) → Counted (places_opt a c x) (numbers_opt x)
  count_opt a c S.absent = count_nothing
  count_opt a c (S.given e) = count_exp a c e

  pub count_pieces : (a : Context) (c : Name) (x : Pieces) → Counted (places_pieces a c x) (numbers_pieces x)
  count_pieces a c S.no_pieces = count_nothing
  count_pieces a c (S.literal l t r) = count_pieces a c r
  count_pieces a c (S.field l e k ps r) =
      count_as (places_exp a c e ⨾ places_pieces a c ps ⨾ places_pieces a c r) (sym (assoc3 (numbers_exp e) (numbers_pieces ps) (numbers_pieces r)))
      (count_then (places_exp a c e) (places_pieces a c ps ⨾ places_pieces a c r) (numbers_exp e) (numbers_pieces ps ++ (numbers_pieces r))
      (count_exp a c e)
      (count_then (places_pieces a c ps) (places_pieces a c r) (numbers_pieces ps) (numbers_pieces r) (count_pieces a c ps) (count_pieces a c r)))

  pub count_entries : (a : Context) (c : Name) (x : Entries) → Counted (places_entries a c x) (numbers_entries x)
  count_entries a c S.no_entries = count_nothing
  count_entries a c (S.entry k v r) =
      count_as (places_exp a c k ⨾ places_exp a c v ⨾ places_entries a c r) (sym (assoc3 (numbers_exp k) (numbers_exp v) (numbers_entries r)))
      (count_then (places_exp a c k) (places_exp a c v ⨾ places_entries a c r) (numbers_exp k) (numbers_exp v ++ (numbers_entries r))
      (count_exp a c k)
      (count_then (places_exp a c v) (places_entries a c r) (numbers_exp v) (numbers_entries r) (count_exp a c v) (count_entries a c r)))

  pub count_links : (a : Context) (c : Name) (x : Links) → Counted (places_links a c x) (numbers_links x)
  count_links a c S.no_links = count_nothing
  count_links a c (S.link o e r) =
      count_then (places_exp a c e) (places_links a c r) (numbers_exp e) (numbers_links r) (count_exp a c e) (count_links a c r)

  pub count_args : (a : Context) (c : Name) (x : Args) → Counted (places_args a c x) (numbers_args x)
  count_args a c S.no_args = count_nothing
  count_args a c (S.positional e r) =
      count_then (places_exp a c e) (places_args a c r) (numbers_exp e) (numbers_args r) (count_exp a c e) (count_args a c r)
  count_args a c (S.named x e r) =
      count_then (places_exp a c e) (places_args a c r) (numbers_exp e) (numbers_args r) (count_exp a c e) (count_args a c r)
  count_args a c (S.spread e r) =
      count_then (places_exp a c e) (places_args a c r) (numbers_exp e) (numbers_args r) (count_exp a c e) (count_args a c r)
  count_args a c (S.spread_named e r) =
      count_then (places_exp a c e) (places_args a c r) (numbers_exp e) (numbers_args r) (count_exp a c e) (count_args a c r)

  pub count_made : (a : Context) (c : Name) (x : Made) → Counted (places_made a c x) (numbers_made x)
  count_made a c (S.a_list e) = count_exp a c e
  count_made a c (S.a_set e) = count_exp a c e
  count_made a c (S.a_dict k v) = count_then (places_exp a c k) (places_exp a c v) (numbers_exp k) (numbers_exp v) (count_exp a c k) (count_exp a c v)

  pub count_clauses : (a : Context) (c : Name) (x : Clauses) → Counted (places_clauses a c x) (numbers_clauses x)
  count_clauses a c S.no_clauses = count_nothing
  count_clauses a c (S.only_if e cs) =
      count_then (places_exp a c e) (places_clauses a c cs) (numbers_exp e) (numbers_clauses cs) (count_exp a c e) (count_clauses a c cs)
  count_clauses a c (S.for_each fl t it cs) =
      count_as (places_target a c t ⨾ places_exp a c it ⨾ places_clauses a c cs)
      (sym (assoc3 (numbers_target t) (numbers_exp it) (numbers_clauses cs)))
      (count_then (places_target a c t) (places_exp a c it ⨾ places_clauses a c cs) (numbers_target t) (numbers_exp it ++ (numbers_clauses cs))
      (count_target a c t)
      (count_then (places_exp a c it) (places_clauses a c cs) (numbers_exp it) (numbers_clauses cs) (count_exp a c it) (count_clauses a c cs)))

  pub count_place : (a : Context) (c : Name) (x : Place) → Counted (places_place a c x) (numbers_place x)
  count_place a c (S.name_at l x) = count_mention Bind a (mangled c x) l
  count_place a c (S.attribute_at l e x) = count_exp a c e
  count_place a c (S.item_at l e i) =
      count_then (places_exp a c e) (places_exp a c i) (numbers_exp e) (numbers_exp i) (count_exp a c e) (count_exp a c i)

  pub count_target : (a : Context) (c : Name) (x : Tgt) → Counted (places_target a c x) (numbers_target x)
  count_target a c (S.single p) = count_place a c p
  count_target a c (S.several l f ts) = count_targets a c ts
  count_target a c (S.starred l t) = count_target a c t

  pub count_targets : (a : Context) (c : Name) (x : Tgts) → Counted (places_targets a c x) (numbers_targets x)
  count_targets a c S.no_targets = count_nothing
  count_targets a c (S.more_targets t ts) =
      count_then (places_target a c t) (places_targets a c ts) (numbers_target t) (numbers_targets ts) (count_target a c t) (count_targets a c ts)

  pub count_params : (a b : Context) (c : Name) (x : Params) → Counted (places_params a b c x) (numbers_params x)
  count_params a b c (S.parameters ps s ks d) =
      count_then (places_formals a b c ps) (places_named_parameter b c s ⨾ places_formals a b c ks ⨾ places_named_parameter b c d)
      (numbers_formals ps) (numbers_formals ks) (count_formals a b c ps)
      (count_front (places_named_parameter b c s) (places_formals a b c ks ⨾ places_named_parameter b c d) (numbers_formals ks)
      (count_named_parameter b c s)
      (count_end (places_formals a b c ks) (places_named_parameter b c d) (numbers_formals ks) (count_formals a b c ks) (count_named_parameter b c d)))

  pub count_formals : (a b : Context) (c : Name) (x : Formals) → Counted (places_formals a b c x) (numbers_formals x)
  count_formals a b c S.no_formals = count_nothing
  count_formals a b c (S.formal l x n d r) =
      count_front (tells Parameter b c x l) (places_opt a c d ⨾ places_formals a b c r) (numbers_opt d ++ (numbers_formals r))
      (count_mention Parameter b (mangled c x) l)
      (count_then (places_opt a c d) (places_formals a b c r) (numbers_opt d) (numbers_formals r) (count_opt a c d) (count_formals a b c r))

pub count_decorators : (a : Context) (c : Name) (x : Decorators) → Counted (places_decorators a c x) (numbers_decorators x)
count_decorators a c S.no_decorators = count_nothing
count_decorators a c (S.decorator l e r) =
    count_then (places_exp a c e) (places_decorators a c r) (numbers_exp e) (numbers_decorators r) (count_exp a c e) (count_decorators a c r)

pub count_opt_target : (a : Context) (c : Name) (x : Option Tgt) → Counted (places_opt_target a c x) (numbers_opt_target x)
count_opt_target a c None = count_nothing
count_opt_target a c (Some t) = count_target a c t

pub count_items : (a : Context) (c : Name) (x : Items) → Counted (places_items a c x) (numbers_items x)
count_items a c S.no_items = count_nothing
count_items a c (S.with_item l e t is) =
    count_as (places_exp a c e ⨾ places_opt_target a c t ⨾ places_items a c is)
    (sym (assoc3 (numbers_exp e) (numbers_opt_target t) (numbers_items is)))
    (count_then (places_exp a c e) (places_opt_target a c t ⨾ places_items a c is) (numbers_exp e) (numbers_opt_target t ++ (numbers_items is))
    (count_exp a c e)
    (count_then (places_opt_target a c t) (places_items a c is) (numbers_opt_target t) (numbers_items is) (count_opt_target a c t)
    (count_items a c is)))

mutual
  pub count_stm : (a : Context) (c : Name) (x : Stm) → Counted (places_stm a c x) (numbers_stm x)
  count_stm a c (S.expr l e) = count_exp a c e
  count_stm a c (S.assign l ts e) =
      count_then (places_targets a c ts) (places_exp a c e) (numbers_targets ts) (numbers_exp e) (count_targets a c ts) (count_exp a c e)
  count_stm a c (S.augmented l p o e) =
      count_then (places_place a c p) (places_exp a c e) (numbers_place p) (numbers_exp e) (count_place a c p) (count_exp a c e)
  count_stm a c (S.annotated l p n v) =
      count_then (places_place a c p) (places_opt a c v) (numbers_place p) (numbers_opt v) (count_place a c p) (count_opt a c v)
  count_stm a c (S.assert l e m) =
      count_then (places_exp a c e) (places_opt a c m) (numbers_exp e) (numbers_opt m) (count_exp a c e) (count_opt a c m)
  count_stm a c (S.pass l) = count_nothing
  count_stm a c (S.del l ts) = count_targets a c ts
  count_stm a c (S.return l v) = count_front (gives a l) (places_opt a c v) (numbers_opt v) (count_gives a l) (count_opt a c v)
  count_stm a c (S.raise l e f) = count_then (places_exp a c e) (places_opt a c f) (numbers_exp e) (numbers_opt f) (count_exp a c e) (count_opt a c f)
  count_stm a c (S.raise_again l) = count_nothing
  count_stm a c (S.break l) = count_turns a l
  count_stm a c (S.continue l) = count_turns a l
  count_stm a c (S.import l xs) = count_imports a c l xs
  count_stm a c (S.import_from l m xs) = count_imports a c l xs
  count_stm a c (S.global l xs) = count_names Global a c l xs
  count_stm a c (S.nonlocal l xs) = count_names Nonlocal a c l xs
  count_stm a c (S.choice l bs els) =
      count_then (places_branches a c bs) (places_stms a c els) (numbers_branches bs) (numbers_stms els) (count_branches a c bs) (count_stms a c els)
  count_stm a c (S.while l e body els) =
      count_as (places_exp a c e ⨾ places_stms (loop_context a) c body ⨾ places_stms a c els)
      (sym (assoc3 (numbers_exp e) (numbers_stms body) (numbers_stms els)))
      (count_then (places_exp a c e) (places_stms (loop_context a) c body ⨾ places_stms a c els) (numbers_exp e)
      (numbers_stms body ++ (numbers_stms els)) (count_exp a c e)
      (count_then (places_stms (loop_context a) c body) (places_stms a c els) (numbers_stms body) (numbers_stms els)
      (count_stms (loop_context a) c body) (count_stms a c els)))
  count_stm a c (S.for l t e body els) =
      count_as (places_target a c t ⨾ places_exp a c e ⨾ places_stms (loop_context a) c body ⨾ places_stms a c els)
      (sym (assoc4 (numbers_target t) (numbers_exp e) (numbers_stms body) (numbers_stms els)))
      (count_then (places_target a c t) (places_exp a c e ⨾ places_stms (loop_context a) c body ⨾ places_stms a c els) (numbers_target t)
      (numbers_exp e ++ (numbers_stms body ++ (numbers_stms els))) (count_target a c t)
      (count_then (places_exp a c e) (places_stms (loop_context a) c body ⨾ places_stms a c els) (numbers_exp e)
      (numbers_stms body ++ (numbers_stms els)) (count_exp a c e)
      (count_then (places_stms (loop_context a) c body) (places_stms a c els) (numbers_stms body) (numbers_stms els)
      (count_stms (loop_context a) c body) (count_stms a c els))))
  count_stm a c (S.try l body hs els fin) =
      count_as (places_stms a c body ⨾ places_handlers a c hs ⨾ places_stms a c els ⨾ places_stms a c fin)
      (sym (assoc4 (numbers_stms body) (numbers_handlers hs) (numbers_stms els) (numbers_stms fin)))
      (count_then (places_stms a c body) (places_handlers a c hs ⨾ places_stms a c els ⨾ places_stms a c fin) (numbers_stms body)
      (numbers_handlers hs ++ (numbers_stms els ++ (numbers_stms fin))) (count_stms a c body)
      (count_then (places_handlers a c hs) (places_stms a c els ⨾ places_stms a c fin) (numbers_handlers hs) (numbers_stms els ++ (numbers_stms fin))
      (count_handlers a c hs)
      (count_then (places_stms a c els) (places_stms a c fin) (numbers_stms els) (numbers_stms fin) (count_stms a c els) (count_stms a c fin))))
  count_stm a c (S.with l is body) =
      count_then (places_items a c is) (places_stms a c body) (numbers_items is) (numbers_stms body) (count_items a c is) (count_stms a c body)
  count_stm a c (S.def l ds dl n x ps r body) =
      count_as (places_decorators a c ds ⨾ tells Bind a c x dl ⨾ in_function a (λ b. places_params a b c ps ⨾ places_stms b c body))
      (sym (assoc4 (numbers_decorators ds) ((n ∷ [])) (numbers_params ps) (numbers_stms body)))
      (count_then (places_decorators a c ds) (tells Bind a c x dl ⨾ in_function a (λ b. places_params a b c ps ⨾ places_stms b c body))
      (numbers_decorators ds) ((n ∷ []) ++ (numbers_params ps ++ (numbers_stms body))) (count_decorators a c ds)
      (count_front (tells Bind a c x dl) (in_function a (λ b. places_params a b c ps ⨾ places_stms b c body))
      ((n ∷ []) ++ (numbers_params ps ++ (numbers_stms body))) (count_mention Bind a (mangled c x) dl)
      (count_in_function a (λ b. places_params a b c ps ⨾ places_stms b c body) n (numbers_params ps ++ (numbers_stms body))
      (λ b. count_then (places_params a b c ps) (places_stms b c body) (numbers_params ps) (numbers_stms body) (count_params a b c ps)
      (count_stms b c body)))))
  count_stm a c (S.class l ds cl n x base body) =
      count_as (places_decorators a c ds ⨾ tells Bind a c x cl ⨾ in_class a (λ b. places_opt a c base ⨾ places_stms b x body))
      (sym (assoc4 (numbers_decorators ds) ((n ∷ [])) (numbers_opt base) (numbers_stms body)))
      (count_then (places_decorators a c ds) (tells Bind a c x cl ⨾ in_class a (λ b. places_opt a c base ⨾ places_stms b x body))
      (numbers_decorators ds) ((n ∷ []) ++ (numbers_opt base ++ (numbers_stms body))) (count_decorators a c ds)
      (count_front (tells Bind a c x cl) (in_class a (λ b. places_opt a c base ⨾ places_stms b x body))
      ((n ∷ []) ++ (numbers_opt base ++ (numbers_stms body))) (count_mention Bind a (mangled c x) cl)
      (count_in_class a (λ b. places_opt a c base ⨾ places_stms b x body) n (numbers_opt base ++ (numbers_stms body))
      (λ b. count_then (places_opt a c base) (places_stms b x body) (numbers_opt base) (numbers_stms body) (count_opt a c base) (count_stms b x body)))))
  count_stm a c (S.docstring l) = count_nothing

  pub count_stms : (a : Context) (c : Name) (x : Stms) → Counted (places_stms a c x) (numbers_stms x)
  count_stms a c S.none = count_nothing
  count_stms a c (S.more s ss) =
      count_then (places_stm a c s) (places_stms a c ss) (numbers_stm s) (numbers_stms ss) (count_stm a c s) (count_stms a c ss)

  pub count_branches : (a : Context) (c : Name) (x : Branches) → Counted (places_branches a c x) (numbers_branches x)
  count_branches a c S.no_branches = count_nothing
  count_branches a c (S.branch l e body r) =
      count_as (places_exp a c e ⨾ places_stms a c body ⨾ places_branches a c r)
      (sym (assoc3 (numbers_exp e) (numbers_stms body) (numbers_branches r)))
      (count_then (places_exp a c e) (places_stms a c body ⨾ places_branches a c r) (numbers_exp e) (numbers_stms body ++ (numbers_branches r))
      (count_exp a c e)
      (count_then (places_stms a c body) (places_branches a c r) (numbers_stms body) (numbers_branches r) (count_stms a c body) (count_branches a c r)))

  pub count_handlers : (a : Context) (c : Name) (x : Handlers) → Counted (places_handlers a c x) (numbers_handlers x)
  count_handlers a c S.no_handlers = count_nothing
  count_handlers a c (S.handler l e x body r) =
      count_as (places_opt a c e ⨾ places_named a c l x ⨾ places_stms a c body ⨾ places_handlers a c r)
      (sym (assoc3 (numbers_opt e) (numbers_stms body) (numbers_handlers r)))
      (count_then (places_opt a c e) (places_named a c l x ⨾ places_stms a c body ⨾ places_handlers a c r) (numbers_opt e)
      (numbers_stms body ++ (numbers_handlers r)) (count_opt a c e)
      (count_front (places_named a c l x) (places_stms a c body ⨾ places_handlers a c r) (numbers_stms body ++ (numbers_handlers r))
      (count_named a c l x)
      (count_then (places_stms a c body) (places_handlers a c r) (numbers_stms body) (numbers_handlers r) (count_stms a c body) (count_handlers a c r))))
