-- No name is declared in a comprehension: statements stand in blocks.
use Rattle.std.proofs.Common.{◌≡◌, ◌⊎◌, ℕ, suc, ◌+◌, Bool, true, false, if◌then◌else◌, List, [], ◌∷◌, ◌++◌, ◌&&◌, ◌||◌, ◌==◌, length, bytes_eq, Option, Some, None, inl, inr, refl, sym, ap, ◌∙◌, subst, eqb-true, arith}
use Rattle.std.specs.Prelude.{slice_get}
use Rattle.pt_scopes.specs.declared.region.Context.{Context}
use Rattle.pt_scopes.specs.declared.region.Kind.{Kind}
use Rattle.pt_scopes.specs.declared.region.Kind.TheVariants.{Class, Comprehension, Function, Module}
use Rattle.pt_scopes.specs.declared.region.Mention.{Mention}
use Rattle.pt_scopes.specs.declared.region.Region.{Region}
use Rattle.pt_scopes.specs.declared.region.Role.{Role}
use Rattle.pt_scopes.specs.declared.region.Role.TheVariants.{Bind, Global, Misplaced, Nonlocal, Parameter, Read}
use Rattle.pt_scopes.specs.Mentions.{bound_name, places_all, places_args, places_branches, places_clauses, places_conditions, places_decorators, places_entries, places_exp, places_formals, places_handlers, places_imports, places_items, places_links, places_made, places_named, places_named_parameter, places_names, places_opt, places_opt_target, places_params, places_pieces, places_place, places_script, places_stm, places_stms, places_target, places_targets}
use Rattle.pt_scopes.specs.Names.{mangled}
use Rattle.pt_scopes.specs.Places.{Part, ◌⨾◌, nothing, mention, misplaced, block as block_of, comprehension, class_context, comprehension_context, function_context, generator_context, loop_context, in_class, in_comprehension, in_function, in_generator, module_context}
use Rattle.pt_scopes.specs.Scope.{has, is_global, is_nonlocal, is_of}
use Rattle.pt_tree.specs.declared.expression.NamedParameter.{NamedParameter}
use Rattle.pt_tree.specs.declared.statement.Alias.{Alias}
use Rattle.pt_tree.specs.Syntax as S
use Rattle.pt_tree.specs.Syntax.{Name, Exp, Exps, Opt, Pieces, Entries, Links, Args, Made, Clauses, Place, Tgt, Tgts, Params, Formals, Decorators, Items, Stm, Stms, Branches, Handlers}
use Rattle.sem_names.specs.Script.{naming_script}
use Rattle.law_names.proofs.next_numbers.Claims.{Every, every_both}
use Rattle.law_operands.proofs.piece_names.Own.{Undeclared}
use Rattle.law_operands.proofs.piece_names.Standing.{at_left, at_right, block_region}

-- the region is no comprehension
abbrev pub IsBlock : List Region → (region : ℕ) → Type 0
IsBlock rs r = (here : Region) → slice_get rs r ≡ Some here → here.kind ≡ Comprehension → ⊥

-- no declaration, or one in a block
abbrev pub Declared : List Region → Mention → Type 0
Declared rs m = ((is_global m.role ≡ false) × (is_nonlocal m.role ≡ false)) ⊎ IsBlock rs m.region

abbrev pub Stand : List Region → (B : ℕ) → List Region → Type 0
Stand rs B qs = (i : ℕ) (r : Region) → slice_get qs i ≡ Some r → slice_get rs (B + i) ≡ Some r

pub record Quiet (rs : List Region) (f : Part) : Type 0 where
  pub heard : (B : ℕ) → Stand rs B (f B).regions → Every (Declared rs) (f B).mentions

stand_right : (rs : List Region) (B : ℕ) (ps qs : List Region) → Stand rs B (ps ++ qs) → Stand rs (B + length ps) qs
stand_right rs B ps qs s i r is =
    let same : (B + length ps) + i ≡ B + (length ps + i) = omega arith in
    ap (λ j. slice_get rs j) same ∙ s (length ps + i) r (at_right ps qs i r is)

not_comprehension : {X : Type 0} (k : Kind) (here : Region) (r : Region) → Some r ≡ Some here → r.kind ≡ k → (k ≡ Comprehension → X) → here.kind ≡ Comprehension → X
not_comprehension k here r same is f h =
    let there : r ≡ here = (let whole : Some r ≡ Some here = same in cc) in
    f (sym is ∙ ap (λ (q : Region). q.kind) there ∙ h)

no_function : {X : Type 0} → Function ≡ Comprehension → X
no_function is = absurd (cc)

no_class : {X : Type 0} → Class ≡ Comprehension → X
no_class is = absurd (cc)

no_module : {X : Type 0} → Module ≡ Comprehension → X
no_module is = absurd (cc)

block_mentions : (k : Kind) (a : Context) (B : ℕ) → (block_of k a B).mentions ≡ []
unfolding block_of
block_mentions k a B = refl

comprehension_mentions : (a : Context) (B : ℕ) → (comprehension a B).mentions ≡ []
unfolding comprehension
comprehension_mentions a B = refl

started : (rs : List Region) (k : Kind) (a : Context) (f : Part) (B : ℕ) → (k ≡ Comprehension → ⊥) → Stand rs B ((block_of k a B).regions ++ (f (B + length (block_of k a B).regions)).regions)
    → IsBlock rs B
started rs k a f B never s here at is =
    let zeroth : B + 0 ≡ B = omega arith in
    let own : Region = record { kind = k; around = a.region; home = B } in
    let there = s 0 own (at_left (block_of k a B).regions (f (B + length (block_of k a B).regions)).regions 0 own (block_region k a B)) in
    not_comprehension k here own (sym there ∙ ap (λ j. slice_get rs j) zeroth ∙ at) refl never is

module _ {rs : List Region} where
  silent : Quiet rs nothing
  unfolding nothing
  silent = record { heard = λ B s. tt }

  said : (r : Role) (a : Context) (x : Name) (l : ℕ) → ((is_global r ≡ false) × (is_nonlocal r ≡ false)) ⊎ IsBlock rs a.region → Quiet rs (mention r a x l)
  unfolding mention
  said r a x l d = record { heard = λ B s. (d, tt) }

  both : {f g : Part} → Quiet rs f → Quiet rs g → Quiet rs (f ⨾ g)
  unfolding ◌⨾◌
  both {f} {g} p q = record {
    heard = λ B s.
        let C = B + length (f B).regions in
        every_both (Declared rs) (f B).mentions (g C).mentions (p.heard B (λ i r is. s i r (at_left (f B).regions (g C).regions i r is)))
        (q.heard C (stand_right rs B (f B).regions (g C).regions s));
  }

  choice : (b : Bool) (a : Context) (l : ℕ) → Quiet rs (if b then nothing else misplaced a l)
  choice true a l = silent
  choice false a l = said Misplaced a [] l (inl (refl, refl))

  of_block : (k : Kind) (a : Context) (f : Part) (B : ℕ) → (k ≡ Comprehension → ⊥) → (IsBlock rs B → Quiet rs f)
      → Stand rs B ((block_of k a B).regions ++ (f (B + length (block_of k a B).regions)).regions)
      → Every (Declared rs) ((block_of k a B).mentions ++ (f (B + length (block_of k a B).regions)).mentions)
  of_block k a f B never q s =
      let C = B + length (block_of k a B).regions in
      subst (λ ms. Every (Declared rs) (ms ++ (f C).mentions)) (sym (block_mentions k a B))
      ((q (started rs k a f B never s)).heard C (stand_right rs B (block_of k a B).regions (f C).regions s))

  function_quiet : (a : Context) (inside : Context → Part) → ((b : Context) → IsBlock rs b.region → Quiet rs (inside b)) → Quiet rs (in_function a inside)
  unfolding in_function ◌⨾◌
  function_quiet a inside q = record { heard = λ B s. of_block Function a (inside (function_context B)) B no_function (λ block. q (function_context B) block) s }

  generator_quiet : (a : Context) (inside : Context → Part) → ((b : Context) → IsBlock rs b.region → Quiet rs (inside b)) → Quiet rs (in_generator a inside)
  unfolding in_generator ◌⨾◌
  generator_quiet a inside q = record { heard = λ B s. of_block Function a (inside (generator_context B)) B no_function (λ block. q (generator_context B) block) s }

  class_quiet : (a : Context) (inside : Context → Part) → ((b : Context) → IsBlock rs b.region → Quiet rs (inside b)) → Quiet rs (in_class a inside)
  unfolding in_class ◌⨾◌
  class_quiet a inside q = record { heard = λ B s. of_block Class a (inside (class_context B)) B no_class (λ block. q (class_context B) block) s }

  comprehension_quiet : (a : Context) (inside : Context → Part) → ((b : Context) → Unit {0} → Quiet rs (inside b)) → Quiet rs (in_comprehension a inside)
  unfolding in_comprehension ◌⨾◌
  comprehension_quiet a inside q = record {
    heard = λ B s.
        let b = comprehension_context a B in
        let C = B + length (comprehension a B).regions in
        subst (λ ms. Every (Declared rs) (ms ++ (inside b C).mentions)) (sym (comprehension_mentions a B))
        ((q b tt).heard C (stand_right rs B (comprehension a B).regions (inside b C).regions s));
  }

  quiet_named_parameter : (a : Context) (c : Name) (x0 : Option NamedParameter) → Quiet rs (places_named_parameter a c x0)
  quiet_named_parameter b c None = silent
  quiet_named_parameter b c (Some p) = said Parameter b (mangled c p.name) p.line.0 (inl (refl, refl))

  mutual
    quiet_exp : (a : Context) (c : Name) (x0 : Exp) → Quiet rs (places_exp a c x0)
    quiet_exp a c (S.constant l k) = silent
    quiet_exp a c (S.name l x) = said Read a (mangled c x) l (inl (refl, refl))
    quiet_exp a c (S.joined l ps) = quiet_pieces a c ps
    quiet_exp a c (S.tuple l es) = quiet_all a c es
    quiet_exp a c (S.list l es) = quiet_all a c es
    quiet_exp a c (S.set l es) = quiet_all a c es
    quiet_exp a c (S.dict l es) = quiet_entries a c es
    quiet_exp a c (S.attribute l e x) = quiet_exp a c e
    quiet_exp a c (S.item l e i) = both (quiet_exp a c e) (quiet_exp a c i)
    quiet_exp a c (S.slice l e f g) = both (quiet_opt a c e) (both (quiet_opt a c f) (quiet_opt a c g))
    quiet_exp a c (S.unary l o e) = quiet_exp a c e
    quiet_exp a c (S.not_of l e) = quiet_exp a c e
    quiet_exp a c (S.binary l o e f) = both (quiet_exp a c e) (quiet_exp a c f)
    quiet_exp a c (S.compare l e o f r) = both (quiet_exp a c e) (both (quiet_exp a c f) (quiet_links a c r))
    quiet_exp a c (S.and l e es) = both (quiet_exp a c e) (quiet_all a c es)
    quiet_exp a c (S.or l e es) = both (quiet_exp a c e) (quiet_all a c es)
    quiet_exp a c (S.conditional l t e f) = both (quiet_exp a c e) (both (quiet_exp a c t) (quiet_exp a c f))
    quiet_exp a c (S.call l f args) = both (quiet_exp a c f) (quiet_args a c args)
    quiet_exp a c (S.lambda l n ps e) = function_quiet a (λ b. places_params a b c ps ⨾ places_exp b c e) (λ b block. both (quiet_params a b c ps) (quiet_exp b c e))
    quiet_exp a c (S.comprehension l m fl t it cs) = comprehension_quiet a (λ b. places_made b c m ⨾ places_target b c t ⨾ places_exp a c it ⨾ places_clauses b c cs) (λ b block. both (quiet_made b c m) (both (quiet_target b c t) (both (quiet_exp a c it) (quiet_clauses b c cs))))
    quiet_exp a c (S.generator l n e fl t it cs) = generator_quiet a (λ b. places_exp b c e ⨾ places_target b c t ⨾ places_exp a c it ⨾ places_clauses b c cs) (λ b block. both (quiet_exp b c e) (both (quiet_target b c t) (both (quiet_exp a c it) (quiet_clauses b c cs))))
    quiet_exp a c (S.yield l v) = both (choice a.may_give a l) (quiet_opt a c v)
    quiet_exp a c (S.yield_from l e) = both (choice a.may_give a l) (quiet_exp a c e)

    quiet_all : (a : Context) (c : Name) (x0 : Exps) → Quiet rs (places_all a c x0)
    quiet_all a c S.no_exps = silent
    quiet_all a c (S.more_exps e es) = both (quiet_exp a c e) (quiet_all a c es)

    quiet_opt : (a : Context) (c : Name) (x0 : Opt) → Quiet rs (places_opt a c x0)
    quiet_opt a c S.absent = silent
    quiet_opt a c (S.given e) = quiet_exp a c e

    quiet_pieces : (a : Context) (c : Name) (x0 : Pieces) → Quiet rs (places_pieces a c x0)
    quiet_pieces a c S.no_pieces = silent
    quiet_pieces a c (S.literal l t r) = quiet_pieces a c r
    quiet_pieces a c (S.field l e k ps r) = both (quiet_exp a c e) (both (quiet_pieces a c ps) (quiet_pieces a c r))

    quiet_entries : (a : Context) (c : Name) (x0 : Entries) → Quiet rs (places_entries a c x0)
    quiet_entries a c S.no_entries = silent
    quiet_entries a c (S.entry k v r) = both (quiet_exp a c k) (both (quiet_exp a c v) (quiet_entries a c r))

    quiet_links : (a : Context) (c : Name) (x0 : Links) → Quiet rs (places_links a c x0)
    quiet_links a c S.no_links = silent
    quiet_links a c (S.link o e r) = both (quiet_exp a c e) (quiet_links a c r)

    quiet_args : (a : Context) (c : Name) (x0 : Args) → Quiet rs (places_args a c x0)
    quiet_args a c S.no_args = silent
    quiet_args a c (S.positional e r) = both (quiet_exp a c e) (quiet_args a c r)
    quiet_args a c (S.named x e r) = both (quiet_exp a c e) (quiet_args a c r)
    quiet_args a c (S.spread e r) = both (quiet_exp a c e) (quiet_args a c r)
    quiet_args a c (S.spread_named e r) = both (quiet_exp a c e) (quiet_args a c r)

    quiet_made : (a : Context) (c : Name) (x0 : Made) → Quiet rs (places_made a c x0)
    quiet_made a c (S.a_list e) = quiet_exp a c e
    quiet_made a c (S.a_set e) = quiet_exp a c e
    quiet_made a c (S.a_dict k v) = both (quiet_exp a c k) (quiet_exp a c v)

    quiet_clauses : (a : Context) (c : Name) (x0 : Clauses) → Quiet rs (places_clauses a c x0)
    quiet_clauses a c S.no_clauses = silent
    quiet_clauses a c (S.only_if e cs) = both (quiet_exp a c e) (quiet_clauses a c cs)
    quiet_clauses a c (S.for_each fl t it cs) = both (quiet_target a c t) (both (quiet_exp a c it) (quiet_clauses a c cs))

    quiet_place : (a : Context) (c : Name) (x0 : Place) → Quiet rs (places_place a c x0)
    quiet_place a c (S.name_at l x) = said Bind a (mangled c x) l (inl (refl, refl))
    quiet_place a c (S.attribute_at l e x) = quiet_exp a c e
    quiet_place a c (S.item_at l e i) = both (quiet_exp a c e) (quiet_exp a c i)

    quiet_target : (a : Context) (c : Name) (x0 : Tgt) → Quiet rs (places_target a c x0)
    quiet_target a c (S.single p) = quiet_place a c p
    quiet_target a c (S.several l f ts) = quiet_targets a c ts
    quiet_target a c (S.starred l t) = quiet_target a c t

    quiet_targets : (a : Context) (c : Name) (x0 : Tgts) → Quiet rs (places_targets a c x0)
    quiet_targets a c S.no_targets = silent
    quiet_targets a c (S.more_targets t ts) = both (quiet_target a c t) (quiet_targets a c ts)

    quiet_params : (outside : Context) (inside : Context) (c : Name) (x0 : Params) → Quiet rs (places_params outside inside c x0)
    quiet_params a b c (S.parameters ps s ks d) = both (quiet_formals a b c ps) (both (quiet_named_parameter b c s) (both (quiet_formals a b c ks) (quiet_named_parameter b c d)))

    quiet_formals : (outside : Context) (inside : Context) (c : Name) (x0 : Formals) → Quiet rs (places_formals outside inside c x0)
    quiet_formals a b c S.no_formals = silent
    quiet_formals a b c (S.formal l x n d r) = both (said Parameter b (mangled c x) l (inl (refl, refl))) (both (quiet_opt a c d) (quiet_formals a b c r))

  quiet_conditions : (a : Context) (c : Name) (x0 : List Exp) → Quiet rs (places_conditions a c x0)
  quiet_conditions a c [] = silent
  quiet_conditions a c (e ∷ es) = both (quiet_exp a c e) (quiet_conditions a c es)

  quiet_decorators : (a : Context) (c : Name) (x0 : Decorators) → Quiet rs (places_decorators a c x0)
  quiet_decorators a c S.no_decorators = silent
  quiet_decorators a c (S.decorator l e r) = both (quiet_exp a c e) (quiet_decorators a c r)

  quiet_opt_target : (a : Context) (c : Name) (x0 : Option Tgt) → Quiet rs (places_opt_target a c x0)
  quiet_opt_target a c None = silent
  quiet_opt_target a c (Some t) = quiet_target a c t

  quiet_items : (a : Context) (c : Name) (x0 : Items) → Quiet rs (places_items a c x0)
  quiet_items a c S.no_items = silent
  quiet_items a c (S.with_item l e t is) = both (quiet_exp a c e) (both (quiet_opt_target a c t) (quiet_items a c is))

  quiet_named : (a : Context) (c : Name) (line : ℕ) (x0 : Option Name) → Quiet rs (places_named a c line x0)
  quiet_named a c l None = silent
  quiet_named a c l (Some x) = said Bind a (mangled c x) l (inl (refl, refl))

  quiet_imports : (a : Context) (c : Name) (line : ℕ) (x0 : List Alias) → Quiet rs (places_imports a c line x0)
  quiet_imports a c l [] = silent
  quiet_imports a c l (x ∷ xs) = both (said Bind a (mangled c (bound_name x.name x.alias)) l (inl (refl, refl))) (quiet_imports a c l xs)

  quiet_names : (r : Role) (a : Context) (block : IsBlock rs a.region) (c : Name) (line : ℕ) (x0 : List Name) → Quiet rs (places_names r a c line x0)
  quiet_names r a block c l [] = silent
  quiet_names r a block c l (x ∷ xs) = both (said r a (mangled c x) l (inr block)) (quiet_names r a block c l xs)

  mutual
    quiet_stm : (a : Context) (block : IsBlock rs a.region) (c : Name) (x0 : Stm) → Quiet rs (places_stm a c x0)
    quiet_stm a block c (S.expr l e) = quiet_exp a c e
    quiet_stm a block c (S.assign l ts e) = both (quiet_targets a c ts) (quiet_exp a c e)
    quiet_stm a block c (S.augmented l p o e) = both (quiet_place a c p) (quiet_exp a c e)
    quiet_stm a block c (S.annotated l p n v) = both (quiet_place a c p) (quiet_opt a c v)
    quiet_stm a block c (S.assert l e m) = both (quiet_exp a c e) (quiet_opt a c m)
    quiet_stm a block c (S.pass l) = silent
    quiet_stm a block c (S.del l ts) = quiet_targets a c ts
    quiet_stm a block c (S.return l v) = both (choice a.may_give a l) (quiet_opt a c v)
    quiet_stm a block c (S.raise l e f) = both (quiet_exp a c e) (quiet_opt a c f)
    quiet_stm a block c (S.raise_again l) = silent
    quiet_stm a block c (S.break l) = choice a.in_loop a l
    quiet_stm a block c (S.continue l) = choice a.in_loop a l
    quiet_stm a block c (S.import l xs) = quiet_imports a c l xs
    quiet_stm a block c (S.import_from l m xs) = quiet_imports a c l xs
    quiet_stm a block c (S.global l xs) = quiet_names Global a block c l xs
    quiet_stm a block c (S.nonlocal l xs) = quiet_names Nonlocal a block c l xs
    quiet_stm a block c (S.choice l bs els) = both (quiet_branches a block c bs) (quiet_stms a block c els)
    quiet_stm a block c (S.while l e body els) = both (quiet_exp a c e) (both (quiet_stms (loop_context a) block c body) (quiet_stms a block c els))
    quiet_stm a block c (S.for l t e body els) = both (quiet_target a c t) (both (quiet_exp a c e) (both (quiet_stms (loop_context a) block c body) (quiet_stms a block c els)))
    quiet_stm a block c (S.try l body hs els fin) = both (quiet_stms a block c body) (both (quiet_handlers a block c hs) (both (quiet_stms a block c els) (quiet_stms a block c fin)))
    quiet_stm a block c (S.with l is body) = both (quiet_items a c is) (quiet_stms a block c body)
    quiet_stm a block c (S.def l ds dl n x ps r body) = both (quiet_decorators a c ds) (both (said Bind a (mangled c x) dl (inl (refl, refl))) (function_quiet a (λ b. places_params a b c ps ⨾ places_stms b c body) (λ b block. both (quiet_params a b c ps) (quiet_stms b block c body))))
    quiet_stm a block c (S.class l ds cl n x base body) = both (quiet_decorators a c ds) (both (said Bind a (mangled c x) cl (inl (refl, refl))) (class_quiet a (λ b. places_opt a c base ⨾ places_stms b x body) (λ b block. both (quiet_opt a c base) (quiet_stms b block x body))))
    quiet_stm a block c (S.docstring l) = silent

    quiet_stms : (a : Context) (block : IsBlock rs a.region) (c : Name) (x0 : Stms) → Quiet rs (places_stms a c x0)
    quiet_stms a block c S.none = silent
    quiet_stms a block c (S.more s ss) = both (quiet_stm a block c s) (quiet_stms a block c ss)

    quiet_branches : (a : Context) (block : IsBlock rs a.region) (c : Name) (x0 : Branches) → Quiet rs (places_branches a c x0)
    quiet_branches a block c S.no_branches = silent
    quiet_branches a block c (S.branch l e body r) = both (quiet_exp a c e) (both (quiet_stms a block c body) (quiet_branches a block c r))

    quiet_handlers : (a : Context) (block : IsBlock rs a.region) (c : Name) (x0 : Handlers) → Quiet rs (places_handlers a c x0)
    quiet_handlers a block c S.no_handlers = silent
    quiet_handlers a block c (S.handler l e x body r) = both (quiet_opt a c e) (both (quiet_named a c l x) (both (quiet_stms a block c body) (quiet_handlers a block c r)))

-- a declaration that stands in a region

abbrev pub Declares : (Role → Bool) → List Region → Mention → Type 0
Declares p rs m = (p m.role ≡ false) ⊎ IsBlock rs m.region

none_here : (p : Role → Bool) (rs : List Region) (r : ℕ) (x : Name) → (IsBlock rs r → ⊥) → (ms : List Mention) → Every (Declares p rs) ms → has p ms r x ≡ false
none_here p rs r x inside [] h = refl
none_here p rs r x inside (m ∷ ms) h = neither (is_of r x m && p m.role) (has p ms r x) (here h.0) (none_here p rs r x inside ms h.1)
  where
    neither : (b c : Bool) → b ≡ false → c ≡ false → (b || c) ≡ false
    neither true c is other = is
    neither false c is other = other

    one : (b c : Bool) → c ≡ false → (b && c) ≡ false
    one true c is = is
    one false c is = refl

    other : (b c d : Bool) → (b ≡ true → ⊥) → ((b && c) && d) ≡ false
    other true c d never = absurd (never refl)
    other false c d never = refl

    here : Declares p rs m → (is_of r x m && p m.role) ≡ false
    here (inl is) = one (is_of r x m) (p m.role) is
    here (inr block) = other (m.region == r) (bytes_eq m.name x) (p m.role) (λ is. inside (subst (λ j. IsBlock rs j) (eqb-true m.region r is) block))

every_as_declared : (p : Role → Bool) (rs : List Region) → ((m : Mention) → Declared rs m → Declares p rs m) → (ms : List Mention) → Every (Declared rs) ms → Every (Declares p rs) ms
every_as_declared p rs f [] h = tt
every_as_declared p rs f (m ∷ ms) h = (f m h.0, every_as_declared p rs f ms h.1)

global_or : (rs : List Region) (m : Mention) → Declared rs m → Declares is_global rs m
global_or rs m (inl is) = inl is.0
global_or rs m (inr block) = inr block

nonlocal_or : (rs : List Region) (m : Mention) → Declared rs m → Declares is_nonlocal rs m
nonlocal_or rs m (inl is) = inl is.1
nonlocal_or rs m (inr block) = inr block

all_declared : (ss : Stms) → Every (Declared (places_script ss).regions) (places_script ss).mentions
all_declared ss =
    let rs = (places_script ss).regions in
    let module_itself : IsBlock rs 0 = λ here at is. not_comprehension Module here (record { kind = Module; around = 0; home = 0 }) at refl no_module is in
    (quiet_stms {rs = rs} module_context module_itself [] ss).heard 1 (λ i r is. let same : 1 + i ≡ suc i = omega arith in ap (λ j. slice_get rs j) same ∙ is)

pub all_undeclared : (ss : Stms) (r : ℕ) (here : Region) → slice_get (places_script ss).regions r ≡ Some here → here.kind ≡ Comprehension
    → Undeclared (naming_script ss) r
all_undeclared ss r here at is =
    let p = places_script ss in
    let all = all_declared ss in
    let inside : IsBlock p.regions r → ⊥ = λ block. block here at is in
    record {
      global = λ x. none_here is_global p.regions r x inside p.mentions (every_as_declared is_global p.regions (global_or p.regions) p.mentions all);
      nonlocal = λ x. none_here is_nonlocal p.regions r x inside p.mentions (every_as_declared is_nonlocal p.regions (nonlocal_or p.regions) p.mentions all);
    }
