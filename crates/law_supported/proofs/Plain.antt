-- Blocks of a supported script stand in regions of their own, and no name that it mentions is the keyword of a class.
use Rattle.std.proofs.Common.{◌≡◌, ℕ, ◌+◌, Bool, true, false, not, if◌then◌else◌, List, [], ◌∷◌, ◌++◌, length, Option, Some, None, bytes_eq, refl, ◌∙◌, arith}
use Rattle.std.specs.Prelude.{◌&&◌, ◌||◌, slice_get}
use Rattle.std.specs.List.{AllByRecursion, list_any}
use Rattle.pt_scopes.specs.declared.region.Context.{Context}
use Rattle.pt_scopes.specs.declared.region.Kind.{Kind}
use Rattle.pt_scopes.specs.declared.region.Kind.TheVariants.{Module, Function, Class, Comprehension}
use Rattle.pt_scopes.specs.declared.region.Mention.{Mention}
use Rattle.pt_scopes.specs.declared.region.Region.{Region}
use Rattle.pt_scopes.specs.declared.region.Role.{Role}
use Rattle.pt_scopes.specs.declared.region.Role.TheVariants.{Bind, Global, Nonlocal, Parameter, Read}
use Rattle.pt_scopes.specs.Mentions.{places_script, places_all, places_args, places_branches, places_clauses, places_decorators, places_entries, places_exp, places_formals, places_links, places_made, places_named_parameter, places_names, places_opt, places_params, places_pieces, places_place, places_stm, places_stms, places_target, places_targets, places_handlers, places_imports, places_items, places_named, places_opt_target, bound_name}
use Rattle.pt_scopes.specs.Names.{underscore, is_private, is_empty, stripped, mangled}
use Rattle.pt_scopes.specs.Places.{Part, ◌⨾◌, nothing, mention, misplaced, block, comprehension, class_context, comprehension_context, function_context, in_class, in_comprehension, in_function, loop_context, module_context}
use Rattle.pt_tree.specs.declared.expression.NamedParameter.{NamedParameter}
use Rattle.pt_tree.specs.declared.statement.Alias.{Alias}
use Rattle.pt_tree.specs.Syntax as S
use Rattle.pt_tree.specs.Syntax.{Name, Exp, Exps, Opt, Pieces, Entries, Links, Args, Made, Clauses, Params, Formals, Place, Tgt, Tgts, Decorators, Items, Stm, Stms, Branches, Handlers}
use Rattle.law_names.proofs.module_names.Homes.{behind_at, front_at}
use Rattle.law_operands.proofs.law_files.code_files.Each.{both, weaken}
use Rattle.std.specs.Option.{option_or}
use Rattle.pt_supported.specs.Built.{Built, are_available, are_bound_available, class_word, is_available, is_available_if, is_either_available, is_meant, unbuilt_all, unbuilt_args, unbuilt_branches, unbuilt_clauses, unbuilt_decorators, unbuilt_entries, unbuilt_exp, unbuilt_formals, unbuilt_items, unbuilt_links, unbuilt_made, unbuilt_opt, unbuilt_params, unbuilt_pieces, unbuilt_place, unbuilt_star, unbuilt_stm, unbuilt_stms, unbuilt_taken, unbuilt_target, unbuilt_targets, unless, unbuilt_handlers}
use Rattle.pt_supported.proofs.Never.{first, second, told}

-- a region is a block
abbrev pub IsBlock : Kind → Type 0
IsBlock Module = Unit {0}
IsBlock Function = Unit {0}
IsBlock Class = Unit {0}
IsBlock Comprehension = ⊥

-- the region of a block, which is one of these, with so many before them
pub record Starts (before : ℕ) (regions : List Region) (region : ℕ) : Type 0 where
  pub here : Region
  pub place : ℕ
  pub same : region ≡ before + place
  pub at : slice_get regions place ≡ Some here
  pub is_block : IsBlock here.kind

-- the name of a mention is not the keyword
abbrev pub IsOther : Mention → Type 0
IsOther m = bytes_eq m.name class_word ≡ false

-- so it is in a part, each of whose blocks starts in it
record Plain (f : Part) : Type 0 where
  blocks : (n : ℕ) → AllByRecursion (Starts n (f n).regions) (f n).blocks
  mentions : (n : ℕ) → AllByRecursion IsOther (f n).mentions

plain_nothing : Plain nothing
unfolding nothing
plain_nothing = record { blocks = λ n. tt; mentions = λ n. tt }

plain_mention : (r : Role) (a : Context) (x : Name) (l : ℕ) → bytes_eq x class_word ≡ false → Plain (mention r a x l)
unfolding mention
plain_mention r a x l other = record { blocks = λ n. tt; mentions = λ n. (other, tt) }

-- a name that may stand in a script is another one, as it is read in a class too

either_other : (b : Bool) (x : Name) (y : Name) → bytes_eq x class_word ≡ false → bytes_eq y class_word ≡ false
    → bytes_eq (if b then x else y) class_word ≡ false
either_other true x y p q = p
either_other false x y p q = q

no_word : (b c : Bool) → (not b && c) ≡ true → b ≡ false
no_word true c h = absurd (let no : false ≡ true = h in cc)
no_word false c h = refl

other_word : (c x : Name) → is_available x ≡ true → bytes_eq (mangled c x) class_word ≡ false
unfolding is_available
other_word c x h =
    either_other (is_private x && not (is_empty (stripped c))) (underscore ∷ (stripped c ++ x)) x refl (no_word (bytes_eq x class_word) (is_meant x) h)

available : (b : Bool) (l : ℕ) → unless b l ≡ None → b ≡ true
available true l h = refl
available false l h = told h

named : (r : Role) (a : Context) (c x : Name) (l k : ℕ) → unless (is_available x) l ≡ None → Plain (mention r a (mangled c x) k)
named r a c x l k h = plain_mention r a (mangled c x) k (other_word c x (available (is_available x) l h))

starts_front : (n : ℕ) (xs ys : List Region) (h : ℕ) → Starts n xs h → Starts n (xs ++ ys) h
starts_front n xs ys h s = record { here = s.here; place = s.place; same = s.same; at = front_at xs ys s.place s.here s.at; is_block = s.is_block }

starts_behind : (n : ℕ) (xs ys : List Region) (h : ℕ) → Starts (n + length xs) ys h → Starts n (xs ++ ys) h
starts_behind n xs ys h s = record {
  here = s.here;
  place = length xs + s.place;
  same = s.same ∙ (let shift : n + length xs + s.place ≡ n + (length xs + s.place) = omega arith in shift);
  at = behind_at xs ys s.place s.here s.at;
  is_block = s.is_block;
}

plain_then : (f g : Part) → Plain f → Plain g → Plain (f ⨾ g)
unfolding ◌⨾◌
plain_then f g h k = record {
  blocks = λ n. let xs = (f n).regions in
      let m = n + length xs in
      let ys = (g m).regions in
      both (Starts n (xs ++ ys)) (f n).blocks (g m).blocks
      (weaken (Starts n xs) (Starts n (xs ++ ys)) (starts_front n xs ys) (f n).blocks (h.blocks n))
      (weaken (Starts m ys) (Starts n (xs ++ ys)) (starts_behind n xs ys) (g m).blocks (k.blocks m));
  mentions = λ n. both IsOther (f n).mentions _ (h.mentions n) (k.mentions _);
}

block_starts : (k : Kind) (a : Context) → IsBlock k → Plain (block k a)
unfolding block
block_starts k a i = record {
  blocks = λ n. (record { here = record { kind = k; around = a.region; home = n }; place = 0; same = omega arith; at = refl; is_block = i }, tt);
  mentions = λ n. tt;
}

plain_within : (a : Context) → Plain (comprehension a)
unfolding comprehension
plain_within a = record { blocks = λ n. tt; mentions = λ n. tt }

plain_function : (a : Context) (inside : Context → Part) → ((b : Context) → Plain (inside b)) → Plain (in_function a inside)
unfolding in_function
plain_function a inside h = record {
  blocks = λ n. (plain_then (block Function a) _ (block_starts Function a tt) (h (function_context n))).blocks n;
  mentions = λ n. (plain_then (block Function a) _ (block_starts Function a tt) (h (function_context n))).mentions n;
}

plain_class : (a : Context) (inside : Context → Part) → ((b : Context) → Plain (inside b)) → Plain (in_class a inside)
unfolding in_class
plain_class a inside h = record {
  blocks = λ n. (plain_then (block Class a) _ (block_starts Class a tt) (h (class_context n))).blocks n;
  mentions = λ n. (plain_then (block Class a) _ (block_starts Class a tt) (h (class_context n))).mentions n;
}

plain_comprehension : (a : Context) (inside : Context → Part) → ((b : Context) → Plain (inside b)) → Plain (in_comprehension a inside)
unfolding in_comprehension
plain_comprehension a inside h = record {
  blocks = λ n. (plain_then (comprehension a) _ (plain_within a) (h (comprehension_context a n))).blocks n;
  mentions = λ n. (plain_then (comprehension a) _ (plain_within a) (h (comprehension_context a n))).mentions n;
}

plain_if : (b : Bool) (a : Context) (l : ℕ) → Plain (if b then nothing else misplaced a l)
plain_if true a l = plain_nothing
plain_if false a l = plain_mention _ a [] l refl

plain_parameter : (b : Context) (c : Name) (s : Option NamedParameter) → unbuilt_star s ≡ None → Plain (places_named_parameter b c s)
plain_parameter b c None h = plain_nothing
plain_parameter b c (Some p) h = named Parameter b c p.name p.line.0 p.line.0 h

neither : (p q : Bool) → (p || q) ≡ false → (p ≡ false) × (q ≡ false)
neither false q h = (refl, h)
neither true q h = absurd (let no : true ≡ false = h in cc)

so : (b : Bool) → not b ≡ false → b ≡ true
so true h = refl
so false h = absurd (let no : true ≡ false = h in cc)

none_among : (b : Bool) → not b ≡ true → b ≡ false
none_among true h = absurd (let no : false ≡ true = h in cc)
none_among false h = refl

plain_names : (r : Role) (a : Context) (c : Name) (l : ℕ) (xs : List Name) → list_any (λ x. not (is_available x)) xs ≡ false → Plain (places_names r a c l xs)
plain_names r a c l [] h = plain_nothing
plain_names r a c l (x ∷ xs) h =
    let p = neither (not (is_available x)) (list_any (λ y. not (is_available y)) xs) h in
    plain_then _ _ (plain_mention r a (mangled c x) l (other_word c x (so (is_available x) p.0))) (plain_names r a c l xs p.1)

declared : (r : Role) (a : Context) (c : Name) (l : ℕ) (xs : List Name) → unless (are_available xs) l ≡ None → Plain (places_names r a c l xs)
declared r a c l xs h = plain_names r a c l xs (none_among (list_any (λ x. not (is_available x)) xs) (available (are_available xs) l h))

mutual
  plain_exp : (a : Context) (c : Name) (e : Exp) → unbuilt_exp e ≡ None → Plain (places_exp a c e)
  plain_exp a c (S.constant l k) h = plain_nothing
  plain_exp a c (S.name l x) h = named Read a c x l l h
  plain_exp a c (S.unary l o e) h = plain_exp a c e h
  plain_exp a c (S.not_of l e) h = plain_exp a c e h
  plain_exp a c (S.binary l o e f) h = plain_then _ _ (plain_exp a c e (first _ _ h)) (plain_exp a c f (second _ _ h))
  plain_exp a c (S.compare l e o f r) h =
      let behind = second _ _ h in
      plain_then _ _ (plain_exp a c e (first _ _ h)) (plain_then _ _ (plain_exp a c f (first _ _ behind)) (plain_links a c r (second _ _ behind)))
  plain_exp a c (S.and l e es) h = plain_then _ _ (plain_exp a c e (first _ _ h)) (plain_all a c es (second _ _ h))
  plain_exp a c (S.or l e es) h = plain_then _ _ (plain_exp a c e (first _ _ h)) (plain_all a c es (second _ _ h))
  plain_exp a c (S.conditional l t e f) h =
      let behind = second _ _ h in
      plain_then _ _ (plain_exp a c e (first _ _ h)) (plain_then _ _ (plain_exp a c t (first _ _ behind)) (plain_exp a c f (second _ _ behind)))
  plain_exp a c (S.call l f args) h = plain_then _ _ (plain_exp a c f (first _ _ h)) (plain_args a c args (second _ _ h))
  plain_exp a c (S.lambda l n ps e) h =
      let given = first (unbuilt_params ps) (unbuilt_exp e) h in
      let body = second (unbuilt_params ps) (unbuilt_exp e) h in
      plain_function a (λ b. places_params a b c ps ⨾ places_exp b c e)
      (λ b. plain_then _ _ (plain_params a b c ps given) (plain_exp b c e body))
  plain_exp a c (S.tuple l es) h = plain_all a c es h
  plain_exp a c (S.list l es) h = plain_all a c es h
  plain_exp a c (S.set l es) h = plain_all a c es h
  plain_exp a c (S.dict l es) h = plain_entries a c es h
  plain_exp a c (S.item l e i) h = plain_then _ _ (plain_exp a c e (first _ _ h)) (plain_exp a c i (second _ _ h))
  plain_exp a c (S.slice l e f g) h =
      let behind = second _ _ h in
      plain_then _ _ (plain_opt a c e (first _ _ h)) (plain_then _ _ (plain_opt a c f (first _ _ behind)) (plain_opt a c g (second _ _ behind)))
  plain_exp a c (S.joined l ps) h = plain_pieces a c ps h
  plain_exp a c (S.attribute l e x) h = plain_exp a c e h
  plain_exp a c (S.comprehension l m k t it cs) h =
      let last = option_or (unbuilt_exp it) (unbuilt_clauses cs) in
      let made = first (unbuilt_made m) (option_or (unbuilt_target t) last) h in
      let behind = second (unbuilt_made m) (option_or (unbuilt_target t) last) h in
      let target = first (unbuilt_target t) last behind in
      let clauses = second (unbuilt_target t) last behind in
      plain_comprehension a (λ b. places_made b c m ⨾ places_target b c t ⨾ places_exp a c it ⨾ places_clauses b c cs)
      (λ b. plain_then _ _ (plain_made b c m made) (plain_then _ _ (plain_target b c t target)
      (plain_then _ _ (plain_exp a c it (first (unbuilt_exp it) (unbuilt_clauses cs) clauses))
      (plain_clauses b c cs (second (unbuilt_exp it) (unbuilt_clauses cs) clauses)))))
  plain_exp a c (S.generator l n e k t it cs) h = told h
  plain_exp a c (S.yield l v) h = told h
  plain_exp a c (S.yield_from l e) h = told h

  plain_all : (a : Context) (c : Name) (es : Exps) → unbuilt_all es ≡ None → Plain (places_all a c es)
  plain_all a c S.no_exps h = plain_nothing
  plain_all a c (S.more_exps e es) h = plain_then _ _ (plain_exp a c e (first _ _ h)) (plain_all a c es (second _ _ h))

  plain_opt : (a : Context) (c : Name) (o : Opt) → unbuilt_opt o ≡ None → Plain (places_opt a c o)
  plain_opt a c S.absent h = plain_nothing
  plain_opt a c (S.given e) h = plain_exp a c e h

  plain_pieces : (a : Context) (c : Name) (ps : Pieces) → unbuilt_pieces ps ≡ None → Plain (places_pieces a c ps)
  plain_pieces a c S.no_pieces h = plain_nothing
  plain_pieces a c (S.literal l t r) h = plain_pieces a c r h
  plain_pieces a c (S.field l e k ps r) h =
      let behind = second _ _ h in
      plain_then _ _ (plain_exp a c e (first _ _ h)) (plain_then _ _ (plain_pieces a c ps (first _ _ behind)) (plain_pieces a c r (second _ _ behind)))

  plain_entries : (a : Context) (c : Name) (es : Entries) → unbuilt_entries es ≡ None → Plain (places_entries a c es)
  plain_entries a c S.no_entries h = plain_nothing
  plain_entries a c (S.entry k v r) h =
      let behind = second _ _ h in
      plain_then _ _ (plain_exp a c k (first _ _ h)) (plain_then _ _ (plain_exp a c v (first _ _ behind)) (plain_entries a c r (second _ _ behind)))

  plain_links : (a : Context) (c : Name) (r : Links) → unbuilt_links r ≡ None → Plain (places_links a c r)
  plain_links a c S.no_links h = plain_nothing
  plain_links a c (S.link o e r) h = plain_then _ _ (plain_exp a c e (first _ _ h)) (plain_links a c r (second _ _ h))

  plain_args : (a : Context) (c : Name) (xs : Args) → unbuilt_args xs ≡ None → Plain (places_args a c xs)
  plain_args a c S.no_args h = plain_nothing
  plain_args a c (S.positional e r) h = plain_then _ _ (plain_exp a c e (first _ _ h)) (plain_args a c r (second _ _ h))
  plain_args a c (S.named x e r) h = plain_then _ _ (plain_exp a c e (first _ _ h)) (plain_args a c r (second _ _ h))
  plain_args a c (S.spread e r) h = plain_then _ _ (plain_exp a c e (first _ _ h)) (plain_args a c r (second _ _ h))
  plain_args a c (S.spread_named e r) h = plain_then _ _ (plain_exp a c e (first _ _ h)) (plain_args a c r (second _ _ h))

  plain_params : (a b : Context) (c : Name) (ps : Params) → unbuilt_params ps ≡ None → Plain (places_params a b c ps)
  plain_params a b c (S.parameters ps s ks d) h =
      let given = option_or (unbuilt_formals ks) (unbuilt_star d) in
      let behind = second (unbuilt_formals ps) (option_or (unbuilt_star s) given) h in
      let last = second (unbuilt_star s) given behind in
      plain_then _ _ (plain_formals a b c ps (first (unbuilt_formals ps) (option_or (unbuilt_star s) given) h))
      (plain_then _ _ (plain_parameter b c s (first (unbuilt_star s) given behind))
      (plain_then _ _ (plain_formals a b c ks (first (unbuilt_formals ks) (unbuilt_star d) last))
      (plain_parameter b c d (second (unbuilt_formals ks) (unbuilt_star d) last))))

  plain_formals : (a b : Context) (c : Name) (ps : Formals) → unbuilt_formals ps ≡ None → Plain (places_formals a b c ps)
  plain_formals a b c S.no_formals h = plain_nothing
  plain_formals a b c (S.formal l x n d r) h =
      plain_then _ _ (named Parameter b c x l l (first _ _ h))
      (plain_then _ _ (plain_opt a c d (first _ _ (second _ _ h))) (plain_formals a b c r (second _ _ (second _ _ h))))

  plain_made : (a : Context) (c : Name) (m : Made) → unbuilt_made m ≡ None → Plain (places_made a c m)
  plain_made a c (S.a_list e) h = plain_exp a c e h
  plain_made a c (S.a_set e) h = plain_exp a c e h
  plain_made a c (S.a_dict k v) h = plain_then _ _ (plain_exp a c k (first _ _ h)) (plain_exp a c v (second _ _ h))

  plain_clauses : (a : Context) (c : Name) (cs : Clauses) → unbuilt_clauses cs ≡ None → Plain (places_clauses a c cs)
  plain_clauses a c S.no_clauses h = plain_nothing
  plain_clauses a c (S.only_if e cs) h = plain_then _ _ (plain_exp a c e (first _ _ h)) (plain_clauses a c cs (second _ _ h))
  plain_clauses a c (S.for_each k t it cs) h =
      let behind = second _ _ h in
      plain_then _ _ (plain_target a c t (first _ _ h)) (plain_then _ _ (plain_exp a c it (first _ _ behind)) (plain_clauses a c cs (second _ _ behind)))

  plain_place : (a : Context) (c : Name) (p : Place) → unbuilt_place p ≡ None → Plain (places_place a c p)
  plain_place a c (S.name_at l x) h = named Bind a c x l l h
  plain_place a c (S.attribute_at l e x) h = plain_exp a c e h
  plain_place a c (S.item_at l e i) h = plain_then _ _ (plain_exp a c e (first _ _ h)) (plain_exp a c i (second _ _ h))

  plain_target : (a : Context) (c : Name) (t : Tgt) → unbuilt_target t ≡ None → Plain (places_target a c t)
  plain_target a c (S.single p) h = plain_place a c p h
  plain_target a c (S.several l f ts) h = plain_targets a c ts h
  plain_target a c (S.starred l t) h = plain_target a c t h

  plain_targets : (a : Context) (c : Name) (ts : Tgts) → unbuilt_targets ts ≡ None → Plain (places_targets a c ts)
  plain_targets a c S.no_targets h = plain_nothing
  plain_targets a c (S.more_targets t ts) h = plain_then _ _ (plain_target a c t (first _ _ h)) (plain_targets a c ts (second _ _ h))

plain_decorators : (a : Context) (c : Name) (ds : Decorators) → unbuilt_decorators ds ≡ None → Plain (places_decorators a c ds)
plain_decorators a c S.no_decorators h = plain_nothing
plain_decorators a c (S.decorator l e r) h = plain_then _ _ (plain_exp a c e (first _ _ h)) (plain_decorators a c r (second _ _ h))

plain_named : (a : Context) (c : Name) (l k : ℕ) (x : Option Name) → unless (is_available_if x) l ≡ None → Plain (places_named a c k x)
plain_named a c l k None h = plain_nothing
plain_named a c l k (Some x) h = named Bind a c x l k h

-- what an import binds
is_bound : (x : Name) (alias : Option Name) → is_either_available x alias ≡ true → is_available (bound_name x alias) ≡ true
is_bound x None h = h
is_bound x (Some y) h = h

plain_imports : (a : Context) (c : Name) (l : ℕ) (xs : List Alias) → list_any (λ (x : Alias). not (is_either_available x.name x.alias)) xs ≡ false
    → Plain (places_imports a c l xs)
plain_imports a c l [] h = plain_nothing
plain_imports a c l (x ∷ xs) h =
    let p = neither (not (is_either_available x.name x.alias)) (list_any (λ (y : Alias). not (is_either_available y.name y.alias)) xs) h in
    let bound = is_bound x.name x.alias (so (is_either_available x.name x.alias) p.0) in
    plain_then _ _ (plain_mention Bind a (mangled c (bound_name x.name x.alias)) l (other_word c (bound_name x.name x.alias) bound)) (plain_imports a c l xs p.1)

imported : (a : Context) (c : Name) (l : ℕ) (xs : List Alias) → unless (are_bound_available xs) l ≡ None → Plain (places_imports a c l xs)
imported a c l xs h =
    plain_imports a c l xs (none_among (list_any (λ (x : Alias). not (is_either_available x.name x.alias)) xs) (available (are_bound_available xs) l h))

plain_taken : (a : Context) (c : Name) (t : Option Tgt) → unbuilt_taken t ≡ None → Plain (places_opt_target a c t)
plain_taken a c None h = plain_nothing
plain_taken a c (Some t) h = plain_target a c t h

plain_items : (a : Context) (c : Name) (is : Items) → unbuilt_items is ≡ None → Plain (places_items a c is)
plain_items a c S.no_items h = plain_nothing
plain_items a c (S.with_item l e t r) h =
    let behind = second _ _ h in
    plain_then _ _ (plain_exp a c e (first _ _ h)) (plain_then _ _ (plain_taken a c t (first _ _ behind)) (plain_items a c r (second _ _ behind)))

mutual
  plain_stm : (a : Context) (c : Name) (s : Stm) → unbuilt_stm s ≡ None → Plain (places_stm a c s)
  plain_stm a c (S.expr l e) h = plain_exp a c e h
  plain_stm a c (S.assign l ts e) h = plain_then _ _ (plain_targets a c ts (first _ _ h)) (plain_exp a c e (second _ _ h))
  plain_stm a c (S.augmented l p o e) h = plain_then _ _ (plain_place a c p (first _ _ h)) (plain_exp a c e (second _ _ h))
  plain_stm a c (S.annotated l p n v) h = plain_then _ _ (plain_place a c p (first _ _ h)) (plain_opt a c v (second _ _ h))
  plain_stm a c (S.pass l) h = plain_nothing
  plain_stm a c (S.del l ts) h = plain_targets a c ts h
  plain_stm a c (S.return l v) h = plain_then _ _ (plain_if a.may_give a l) (plain_opt a c v h)
  plain_stm a c (S.break l) h = plain_if a.in_loop a l
  plain_stm a c (S.continue l) h = plain_if a.in_loop a l
  plain_stm a c (S.global l xs) h = declared Global a c l xs h
  plain_stm a c (S.nonlocal l xs) h = declared Nonlocal a c l xs h
  plain_stm a c (S.choice l bs els) h = plain_then _ _ (plain_branches a c bs (first _ _ h)) (plain_stms a c els (second _ _ h))
  plain_stm a c (S.while l e body els) h =
      let behind = second _ _ h in
      plain_then _ _ (plain_exp a c e (first _ _ h))
      (plain_then _ _ (plain_stms (loop_context a) c body (first _ _ behind)) (plain_stms a c els (second _ _ behind)))
  plain_stm a c (S.for l t e body els) h =
      let parts = second _ _ h in
      let behind = second _ _ parts in
      plain_then _ _ (plain_target a c t (first _ _ h)) (plain_then _ _ (plain_exp a c e (first _ _ parts))
      (plain_then _ _ (plain_stms (loop_context a) c body (first _ _ behind)) (plain_stms a c els (second _ _ behind))))
  plain_stm a c (S.def l ds dl n x ps r body) h =
      let inner = option_or (unbuilt_params ps) (unbuilt_stms body) in
      let parts = second (unless (is_available x) l) (option_or (unbuilt_decorators ds) inner) h in
      let inside = second (unbuilt_decorators ds) inner parts in
      plain_then _ _ (plain_decorators a c ds (first (unbuilt_decorators ds) inner parts)) (plain_then _ _ (named Bind a c x l dl (first (unless (is_available x) l) (option_or (unbuilt_decorators ds) inner) h))
      (plain_function a (λ b. places_params a b c ps ⨾ places_stms b c body)
      (λ b. plain_then _ _ (plain_params a b c ps (first (unbuilt_params ps) (unbuilt_stms body) inside))
      (plain_stms b c body (second (unbuilt_params ps) (unbuilt_stms body) inside)))))
  plain_stm a c (S.docstring l) h = plain_nothing
  plain_stm a c (S.assert l e m) h = plain_then _ _ (plain_exp a c e (first _ _ h)) (plain_opt a c m (second _ _ h))
  plain_stm a c (S.raise l e f) h = plain_then _ _ (plain_exp a c e (first _ _ h)) (plain_opt a c f (second _ _ h))
  plain_stm a c (S.raise_again l) h = plain_nothing
  plain_stm a c (S.try l body hs els fin) h =
      let parts = second _ _ h in
      let behind = second _ _ parts in
      plain_then _ _ (plain_stms a c body (first _ _ h))
      (plain_then _ _ (plain_handlers a c hs (first _ _ parts))
      (plain_then _ _ (plain_stms a c els (first _ _ behind)) (plain_stms a c fin (second _ _ behind))))
  plain_stm a c (S.import l xs) h = imported a c l xs h
  plain_stm a c (S.import_from l m xs) h = imported a c l xs h
  plain_stm a c (S.with l is body) h = plain_then _ _ (plain_items a c is (first _ _ h)) (plain_stms a c body (second _ _ h))
  plain_stm a c (S.class l ds k n x base body) h =
      let inner = option_or (unbuilt_opt base) (unbuilt_stms body) in
      let parts = second (unless (is_available x) l) (option_or (unbuilt_decorators ds) inner) h in
      let inside = second (unbuilt_decorators ds) inner parts in
      plain_then _ _ (plain_decorators a c ds (first (unbuilt_decorators ds) inner parts))
      (plain_then _ _ (named Bind a c x l k (first (unless (is_available x) l) (option_or (unbuilt_decorators ds) inner) h))
      (plain_class a (λ b. places_opt a c base ⨾ places_stms b x body)
      (λ b. plain_then _ _ (plain_opt a c base (first (unbuilt_opt base) (unbuilt_stms body) inside))
      (plain_stms b x body (second (unbuilt_opt base) (unbuilt_stms body) inside)))))

  plain_stms : (a : Context) (c : Name) (ss : Stms) → unbuilt_stms ss ≡ None → Plain (places_stms a c ss)
  plain_stms a c S.none h = plain_nothing
  plain_stms a c (S.more s ss) h = plain_then _ _ (plain_stm a c s (first _ _ h)) (plain_stms a c ss (second _ _ h))

  plain_branches : (a : Context) (c : Name) (bs : Branches) → unbuilt_branches bs ≡ None → Plain (places_branches a c bs)
  plain_branches a c S.no_branches h = plain_nothing
  plain_branches a c (S.branch l e body r) h =
      let behind = second _ _ h in
      plain_then _ _ (plain_exp a c e (first _ _ h)) (plain_then _ _ (plain_stms a c body (first _ _ behind)) (plain_branches a c r (second _ _ behind)))

  plain_handlers : (a : Context) (c : Name) (hs : Handlers) → unbuilt_handlers hs ≡ None → Plain (places_handlers a c hs)
  plain_handlers a c S.no_handlers h = plain_nothing
  plain_handlers a c (S.handler l e x body r) h =
      let parts = second _ _ h in
      let behind = second _ _ parts in
      plain_then _ _ (plain_opt a c e (first _ _ parts))
      (plain_then _ _ (plain_named a c l l x (first _ _ h)) (plain_then _ _ (plain_stms a c body (first _ _ behind)) (plain_handlers a c r (second _ _ behind))))

pub none_is_the_keyword : (ss : Stms) → Built ss → AllByRecursion IsOther (places_script ss).mentions
none_is_the_keyword ss h = (plain_stms module_context [] ss h).mentions 1

pub blocks_start : (ss : Stms) → Built ss → AllByRecursion (Starts 0 (places_script ss).regions) (places_script ss).blocks
blocks_start ss h =
    let module_region : Region = record { kind = Module; around = 0; home = 0 } in
    let rs = (places_stms module_context [] ss 1).regions in (
      record { here = module_region; place = 0; same = refl; at = refl; is_block = tt },
      weaken (Starts 1 rs) (Starts 0 (module_region ∷ rs)) (starts_behind 0 (module_region ∷ []) rs) (places_stms module_context [] ss 1).blocks
          ((plain_stms module_context [] ss h).blocks 1),
    )
