-- Each region of a script but the first stands in an earlier one.
use Rattle.std.proofs.Common.{◌≡◌, ℕ, zero, suc, ◌<◌, ◌≤◌, ◌+◌, Bool, true, false, if◌then◌else◌, List, [], ◌∷◌, ◌++◌, length, Option, Some, None, ◌⊎◌, inl, inr, refl, ap, subst, arith}
use Rattle.std.specs.Prelude.{slice_get}
use Rattle.pt_scopes.specs.declared.region.Context.{Context}
use Rattle.pt_scopes.specs.declared.region.Kind.{Kind}
use Rattle.pt_scopes.specs.declared.region.Kind.TheVariants.{Module, Function, Class, Comprehension}
use Rattle.pt_scopes.specs.declared.region.Region.{Region}
use Rattle.pt_scopes.specs.declared.region.Role.{Role}
use Rattle.pt_scopes.specs.declared.region.Role.TheVariants.{Read, Bind, Parameter, Global, Nonlocal}
use Rattle.pt_scopes.specs.Mentions.{tells, gives, turns, bound_name, places_script, places_all, places_args, places_branches, places_clauses, places_decorators, places_entries, places_exp, places_formals, places_handlers, places_imports, places_items, places_links, places_made, places_named, places_named_parameter, places_names, places_opt, places_opt_target, places_params, places_pieces, places_place, places_stm, places_stms, places_target, places_targets}
use Rattle.pt_scopes.specs.Names.{mangled}
use Rattle.pt_scopes.specs.Places.{Part, ◌⨾◌, nothing, mention, misplaced, block, comprehension, in_function, in_generator, in_class, in_comprehension, function_context, generator_context, class_context, comprehension_context, loop_context, module_context}
use Rattle.pt_tree.specs.declared.expression.NamedParameter.{NamedParameter}
use Rattle.pt_tree.specs.declared.statement.Alias.{Alias}
use Rattle.pt_tree.specs.Syntax as S
use Rattle.pt_tree.specs.Syntax.{Name, Exp, Exps, Opt, Pieces, Entries, Links, Args, Made, Clauses, Place, Tgt, Tgts, Params, Formals, Decorators, Items, Stm, Stms, Branches, Handlers}

-- items of lists one behind the other

-- it is one of the second list
record Later {A : Type 0} (xs ys : List A) (i : ℕ) (x : A) : Type 0 where
  place : ℕ
  same : i ≡ length xs + place
  is : slice_get ys place ≡ Some x

at_either : {A : Type 0} (xs ys : List A) (i : ℕ) (x : A) → slice_get (xs ++ ys) i ≡ Some x → (slice_get xs i ≡ Some x) ⊎ Later xs ys i x
at_either [] ys i x is = inr (record { place = i; same = omega arith; is = is })
at_either (z ∷ xs) ys zero x is = inl is
at_either (z ∷ xs) ys (suc i) x is = by (at_either xs ys i x is)
  where
    by : (slice_get xs i ≡ Some x) ⊎ Later xs ys i x → (slice_get (z ∷ xs) (suc i) ≡ Some x) ⊎ Later (z ∷ xs) ys (suc i) x
    by (inl e) = inl e
    by (inr b) = let same = b.same in inr (record { place = b.place; same = omega (arith, same); is = b.is })

none_at : {A X : Type 0} (x : A) (i : ℕ) → slice_get [] i ≡ Some x → X
none_at x i is = absurd (let same : None ≡ Some x = is in cc)

-- a region that is earlier than those of a part which begins behind so many
record Right (k : ℕ) (a : Context) : Type 0 where
  is : a.region < k

-- a region with a number stands in an earlier one, and is no module
abbrev pub Inner : (region : ℕ) → Region → Type 0
Inner i r = (r.around < i) × (r.kind ≡ Module → ⊥)

record Backwards (k : ℕ) (f : Part) : Type 0 where
  at : (n : ℕ) → k ≤ n → (i : ℕ) (r : Region) → slice_get (f n).regions i ≡ Some r → Inner (n + i) r

wider : {k m : ℕ} {a : Context} → k ≤ m → Right k a → Right m a
wider {k} {m} {a} le ra = let lt = ra.is in record { is = omega (arith, lt, le) }

in_loop : {k : ℕ} {a : Context} → Right k a → Right k (loop_context a)
in_loop ra = record { is = ra.is }

back_nothing : {k : ℕ} → Backwards k nothing
unfolding nothing
back_nothing = record { at = λ n le i r is. none_at r i is }

back_mention : {k : ℕ} (r : Role) (a : Context) (x : Name) (l : ℕ) → Backwards k (mention r a x l)
unfolding mention
back_mention r a x l = record { at = λ n le i q is. none_at q i is }

moved : (m n : ℕ) (r : Region) → m ≡ n → Inner m r → Inner n r
moved m n r is h = subst (λ j. Inner j r) is h

one_back : (a : Context) (n k : ℕ) (here : Region) (i : ℕ) (r : Region) → a.region < k → k ≤ n → here.around ≡ a.region → (here.kind ≡ Module → ⊥)
    → slice_get (here ∷ []) i ≡ Some r → Inner (n + i) r
one_back a n k here zero r lt le around other is =
    let same : here ≡ r = ap (λ (o : Option Region). elim o [ None ↦ here | Some x ↦ x ]) is in
    let less : here.around < n + 0 = omega (arith, lt, le, around) in
    subst (Inner (n + 0)) same (less, other)
one_back a n k here (suc i) r lt le around other is = none_at r i is

behind_back : (f g : Part) (n i : ℕ) (r : Region) → ((j : ℕ) (s : Region) → slice_get (f n).regions j ≡ Some s → Inner (n + j) s)
    → ((j : ℕ) (s : Region) → slice_get (g (n + length (f n).regions)).regions j ≡ Some s → Inner (n + length (f n).regions + j) s)
    → slice_get ((f n).regions ++ (g (n + length (f n).regions)).regions) i ≡ Some r → Inner (n + i) r
behind_back f g n i r h k is = by (at_either (f n).regions (g (n + length (f n).regions)).regions i r is)
  where
    by : (slice_get (f n).regions i ≡ Some r) ⊎ Later (f n).regions (g (n + length (f n).regions)).regions i r → Inner (n + i) r
    by (inl e) = h i r e
    by (inr b) =
        let same = b.same in
        moved (n + length (f n).regions + b.place) (n + i) r (let there : n + length (f n).regions + b.place ≡ n + i = omega (arith, same) in there)
        (k b.place r b.is)

back_then : {k : ℕ} (f g : Part) → Backwards k f → Backwards k g → Backwards k (f ⨾ g)
unfolding ◌⨾◌
back_then {k} f g h j = record {
  at = λ n le i r is. behind_back f g n i r (h.at n le)
      (λ m s e. j.at (n + length (f n).regions) (let there : k ≤ n + length (f n).regions = omega (arith, le) in there) m s e) is;
}

no_function : Function ≡ Module → ⊥
no_function is = absurd (let same : Function ≡ Module = is in cc)

no_class : Class ≡ Module → ⊥
no_class is = absurd (let same : Class ≡ Module = is in cc)

back_in : (kd : Kind) (a : Context) (inside : Context → Part) (b : Context) (k n : ℕ) → a.region < k → k ≤ n → (kd ≡ Module → ⊥)
    → Backwards (suc n) (inside b) → (i : ℕ) (r : Region)
    → slice_get ((block kd a n).regions ++ (inside b (n + length (block kd a n).regions)).regions) i ≡ Some r → Inner (n + i) r
unfolding block
back_in kd a inside b k n lt le other h i r is =
    behind_back (block kd a) (inside b) n i r (λ j s e. one_back a n k (record { kind = kd; around = a.region; home = n }) j s lt le refl other e)
    (λ j s e. h.at (n + 1) (let one : suc n ≤ n + 1 = omega arith in one) j s e) is

first_right : (b : Context) (n : ℕ) → b.region ≡ n → Right (suc n) b
first_right b n is = record { is = omega (arith, is) }

up_one : (k n : ℕ) → k ≤ n → k ≤ suc n
up_one k n le = omega (arith, le)

back_in_function : {k : ℕ} (a : Context) (ra : Right k a) (inside : Context → Part) → ((m : ℕ) (b : Context) → k ≤ m → Right m b → Backwards m (inside b))
    → Backwards k (in_function a inside)
unfolding in_function ◌⨾◌
back_in_function {k} a ra inside h = record {
  at = λ n le i r is. back_in Function a inside (function_context n) k n ra.is le no_function
      (h (suc n) (function_context n) (up_one k n le) (first_right (function_context n) n refl)) i r is;
}

back_in_generator : {k : ℕ} (a : Context) (ra : Right k a) (inside : Context → Part) → ((m : ℕ) (b : Context) → k ≤ m → Right m b → Backwards m (inside b))
    → Backwards k (in_generator a inside)
unfolding in_generator ◌⨾◌
back_in_generator {k} a ra inside h = record {
  at = λ n le i r is. back_in Function a inside (generator_context n) k n ra.is le no_function
      (h (suc n) (generator_context n) (up_one k n le) (first_right (generator_context n) n refl)) i r is;
}

back_in_class : {k : ℕ} (a : Context) (ra : Right k a) (inside : Context → Part) → ((m : ℕ) (b : Context) → k ≤ m → Right m b → Backwards m (inside b))
    → Backwards k (in_class a inside)
unfolding in_class ◌⨾◌
back_in_class {k} a ra inside h = record {
  at = λ n le i r is. back_in Class a inside (class_context n) k n ra.is le no_class
      (h (suc n) (class_context n) (up_one k n le) (first_right (class_context n) n refl)) i r is;
}

back_in_comprehension : {k : ℕ} (a : Context) (ra : Right k a) (inside : Context → Part) → ((m : ℕ) (b : Context) → k ≤ m → Right m b → Backwards m (inside b))
    → Backwards k (in_comprehension a inside)
unfolding in_comprehension ◌⨾◌ comprehension
back_in_comprehension {k} a ra inside h = record {
  at = λ n le i r is.
      let b = comprehension_context a n in
      behind_back (comprehension a) (inside b) n i r
      (λ j s e. one_back a n k (record { kind = Comprehension; around = a.region; home = a.home }) j s ra.is le refl (λ m. let same : Comprehension ≡ Module = m in absurd cc) e)
      (λ j s e. (h (suc n) b (up_one k n le) (first_right b n refl)).at (n + 1) (let one : suc n ≤ n + 1 = omega arith in one) j s e) is;
}

back_if : {k : ℕ} (b : Bool) (a : Context) (l : ℕ) → Backwards k (if b then nothing else misplaced a l)
back_if true a l = back_nothing
back_if false a l = back_mention _ a [] l

back_gives : {k : ℕ} (a : Context) (l : ℕ) → Backwards k (gives a l)
back_gives a l = back_if a.may_give a l

back_turns : {k : ℕ} (a : Context) (l : ℕ) → Backwards k (turns a l)
back_turns a l = back_if a.in_loop a l

back_named_parameter : {k : ℕ} (b : Context) (c : Name) (s : Option NamedParameter) → Backwards k (places_named_parameter b c s)
back_named_parameter b c None = back_nothing
back_named_parameter b c (Some p) = back_mention Parameter b (mangled c p.name) p.line.0

mutual
  back_exp : {k : ℕ} (a : Context) (ra : Right k a) (c : Name) (x : Exp) → Backwards k (places_exp a c x)
  back_exp a ra c (S.constant l k) = back_nothing
  back_exp a ra c (S.name l x) = back_mention Read a (mangled c x) l
  back_exp a ra c (S.joined l ps) = back_pieces a ra c ps
  back_exp a ra c (S.tuple l es) = back_all a ra c es
  back_exp a ra c (S.list l es) = back_all a ra c es
  back_exp a ra c (S.set l es) = back_all a ra c es
  back_exp a ra c (S.dict l es) = back_entries a ra c es
  back_exp a ra c (S.attribute l e x) = back_exp a ra c e
  back_exp a ra c (S.item l e i) = back_then (places_exp a c e) (places_exp a c i) (back_exp a ra c e) (back_exp a ra c i)
  back_exp a ra c (S.slice l e f g) =
      back_then (places_opt a c e) (places_opt a c f ⨾ places_opt a c g) (back_opt a ra c e)
      (back_then (places_opt a c f) (places_opt a c g) (back_opt a ra c f) (back_opt a ra c g))
  back_exp a ra c (S.unary l o e) = back_exp a ra c e
  back_exp a ra c (S.not_of l e) = back_exp a ra c e
  back_exp a ra c (S.binary l o e f) = back_then (places_exp a c e) (places_exp a c f) (back_exp a ra c e) (back_exp a ra c f)
  back_exp a ra c (S.compare l e o f r) =
      back_then (places_exp a c e) (places_exp a c f ⨾ places_links a c r) (back_exp a ra c e)
      (back_then (places_exp a c f) (places_links a c r) (back_exp a ra c f) (back_links a ra c r))
  back_exp a ra c (S.and l e es) = back_then (places_exp a c e) (places_all a c es) (back_exp a ra c e) (back_all a ra c es)
  back_exp a ra c (S.or l e es) = back_then (places_exp a c e) (places_all a c es) (back_exp a ra c e) (back_all a ra c es)
  back_exp a ra c (S.conditional l t e f) =
      back_then (places_exp a c e) (places_exp a c t ⨾ places_exp a c f) (back_exp a ra c e)
      (back_then (places_exp a c t) (places_exp a c f) (back_exp a ra c t) (back_exp a ra c f))
  back_exp a ra c (S.call l f args) = back_then (places_exp a c f) (places_args a c args) (back_exp a ra c f) (back_args a ra c args)
  back_exp a ra c (S.lambda l n ps e) =
      back_in_function a ra (λ b. places_params a b c ps ⨾ places_exp b c e)
      (λ j b le rb. back_then (places_params a b c ps) (places_exp b c e) (back_params a (wider le ra) b rb c ps) (back_exp b rb c e))
  back_exp a ra c (S.comprehension l m fl t it cs) =
      back_in_comprehension a ra (λ b. places_made b c m ⨾ places_target b c t ⨾ places_exp a c it ⨾ places_clauses b c cs)
      (λ j b le rb. back_then (places_made b c m) (places_target b c t ⨾ places_exp a c it ⨾ places_clauses b c cs) (back_made b rb c m)
      (back_then (places_target b c t) (places_exp a c it ⨾ places_clauses b c cs) (back_target b rb c t)
      (back_then (places_exp a c it) (places_clauses b c cs) (back_exp a (wider le ra) c it) (back_clauses b rb c cs))))
  back_exp a ra c (S.generator l n e fl t it cs) =
      back_in_generator a ra (λ b. places_exp b c e ⨾ places_target b c t ⨾ places_exp a c it ⨾ places_clauses b c cs)
      (λ j b le rb. back_then (places_exp b c e) (places_target b c t ⨾ places_exp a c it ⨾ places_clauses b c cs) (back_exp b rb c e)
      (back_then (places_target b c t) (places_exp a c it ⨾ places_clauses b c cs) (back_target b rb c t)
      (back_then (places_exp a c it) (places_clauses b c cs) (back_exp a (wider le ra) c it) (back_clauses b rb c cs))))
  back_exp a ra c (S.yield l v) = back_then (gives a l) (places_opt a c v) (back_gives a l) (back_opt a ra c v)
  back_exp a ra c (S.yield_from l e) = back_then (gives a l) (places_exp a c e) (back_gives a l) (back_exp a ra c e)

  back_all : {k : ℕ} (a : Context) (ra : Right k a) (c : Name) (x : Exps) → Backwards k (places_all a c x)
  back_all a ra c S.no_exps = back_nothing
  back_all a ra c (S.more_exps e es) = back_then (places_exp a c e) (places_all a c es) (back_exp a ra c e) (back_all a ra c es)

  back_opt : {k : ℕ} (a : Context) (ra : Right k a) (c : Name) (x : Opt) → Backwards k (places_opt a c x)
  back_opt a ra c S.absent = back_nothing
  back_opt a ra c (S.given e) = back_exp a ra c e

  back_pieces : {k : ℕ} (a : Context) (ra : Right k a) (c : Name) (x : Pieces) → Backwards k (places_pieces a c x)
  back_pieces a ra c S.no_pieces = back_nothing
  back_pieces a ra c (S.literal l t r) = back_pieces a ra c r
  back_pieces a ra c (S.field l e k ps r) =
      back_then (places_exp a c e) (places_pieces a c ps ⨾ places_pieces a c r) (back_exp a ra c e)
      (back_then (places_pieces a c ps) (places_pieces a c r) (back_pieces a ra c ps) (back_pieces a ra c r))

  back_entries : {k : ℕ} (a : Context) (ra : Right k a) (c : Name) (x : Entries) → Backwards k (places_entries a c x)
  back_entries a ra c S.no_entries = back_nothing
  back_entries a ra c (S.entry k v r) =
      back_then (places_exp a c k) (places_exp a c v ⨾ places_entries a c r) (back_exp a ra c k)
      (back_then (places_exp a c v) (places_entries a c r) (back_exp a ra c v) (back_entries a ra c r))

  back_links : {k : ℕ} (a : Context) (ra : Right k a) (c : Name) (x : Links) → Backwards k (places_links a c x)
  back_links a ra c S.no_links = back_nothing
  back_links a ra c (S.link o e r) = back_then (places_exp a c e) (places_links a c r) (back_exp a ra c e) (back_links a ra c r)

  back_args : {k : ℕ} (a : Context) (ra : Right k a) (c : Name) (x : Args) → Backwards k (places_args a c x)
  back_args a ra c S.no_args = back_nothing
  back_args a ra c (S.positional e r) = back_then (places_exp a c e) (places_args a c r) (back_exp a ra c e) (back_args a ra c r)
  back_args a ra c (S.named x e r) = back_then (places_exp a c e) (places_args a c r) (back_exp a ra c e) (back_args a ra c r)
  back_args a ra c (S.spread e r) = back_then (places_exp a c e) (places_args a c r) (back_exp a ra c e) (back_args a ra c r)
  back_args a ra c (S.spread_named e r) = back_then (places_exp a c e) (places_args a c r) (back_exp a ra c e) (back_args a ra c r)

  back_made : {k : ℕ} (a : Context) (ra : Right k a) (c : Name) (x : Made) → Backwards k (places_made a c x)
  back_made a ra c (S.a_list e) = back_exp a ra c e
  back_made a ra c (S.a_set e) = back_exp a ra c e
  back_made a ra c (S.a_dict k v) = back_then (places_exp a c k) (places_exp a c v) (back_exp a ra c k) (back_exp a ra c v)

  back_clauses : {k : ℕ} (a : Context) (ra : Right k a) (c : Name) (x : Clauses) → Backwards k (places_clauses a c x)
  back_clauses a ra c S.no_clauses = back_nothing
  back_clauses a ra c (S.only_if e cs) = back_then (places_exp a c e) (places_clauses a c cs) (back_exp a ra c e) (back_clauses a ra c cs)
  back_clauses a ra c (S.for_each fl t it cs) =
      back_then (places_target a c t) (places_exp a c it ⨾ places_clauses a c cs) (back_target a ra c t)
      (back_then (places_exp a c it) (places_clauses a c cs) (back_exp a ra c it) (back_clauses a ra c cs))

  back_place : {k : ℕ} (a : Context) (ra : Right k a) (c : Name) (x : Place) → Backwards k (places_place a c x)
  back_place a ra c (S.name_at l x) = back_mention Bind a (mangled c x) l
  back_place a ra c (S.attribute_at l e x) = back_exp a ra c e
  back_place a ra c (S.item_at l e i) = back_then (places_exp a c e) (places_exp a c i) (back_exp a ra c e) (back_exp a ra c i)

  back_target : {k : ℕ} (a : Context) (ra : Right k a) (c : Name) (x : Tgt) → Backwards k (places_target a c x)
  back_target a ra c (S.single p) = back_place a ra c p
  back_target a ra c (S.several l f ts) = back_targets a ra c ts
  back_target a ra c (S.starred l t) = back_target a ra c t

  back_targets : {k : ℕ} (a : Context) (ra : Right k a) (c : Name) (x : Tgts) → Backwards k (places_targets a c x)
  back_targets a ra c S.no_targets = back_nothing
  back_targets a ra c (S.more_targets t ts) =
      back_then (places_target a c t) (places_targets a c ts) (back_target a ra c t) (back_targets a ra c ts)

  back_params : {k : ℕ} (a : Context) (ra : Right k a) (b : Context) (rb : Right k b) (c : Name) (x : Params) → Backwards k (places_params a b c x)
  back_params a ra b rb c (S.parameters ps s ks d) =
      back_then (places_formals a b c ps) (places_named_parameter b c s ⨾ places_formals a b c ks ⨾ places_named_parameter b c d)
      (back_formals a ra b rb c ps)
      (back_then (places_named_parameter b c s) (places_formals a b c ks ⨾ places_named_parameter b c d) (back_named_parameter b c s)
      (back_then (places_formals a b c ks) (places_named_parameter b c d) (back_formals a ra b rb c ks) (back_named_parameter b c d)))

  back_formals : {k : ℕ} (a : Context) (ra : Right k a) (b : Context) (rb : Right k b) (c : Name) (x : Formals) → Backwards k (places_formals a b c x)
  back_formals a ra b rb c S.no_formals = back_nothing
  back_formals a ra b rb c (S.formal l x n d r) =
      back_then (tells Parameter b c x l) (places_opt a c d ⨾ places_formals a b c r) (back_mention Parameter b (mangled c x) l)
      (back_then (places_opt a c d) (places_formals a b c r) (back_opt a ra c d) (back_formals a ra b rb c r))

back_decorators : {k : ℕ} (a : Context) (ra : Right k a) (c : Name) (x : Decorators) → Backwards k (places_decorators a c x)
back_decorators a ra c S.no_decorators = back_nothing
back_decorators a ra c (S.decorator l e r) =
    back_then (places_exp a c e) (places_decorators a c r) (back_exp a ra c e) (back_decorators a ra c r)

back_opt_target : {k : ℕ} (a : Context) (ra : Right k a) (c : Name) (t : Option Tgt) → Backwards k (places_opt_target a c t)
back_opt_target a ra c None = back_nothing
back_opt_target a ra c (Some t) = back_target a ra c t

back_items : {k : ℕ} (a : Context) (ra : Right k a) (c : Name) (x : Items) → Backwards k (places_items a c x)
back_items a ra c S.no_items = back_nothing
back_items a ra c (S.with_item l e t is) =
    back_then (places_exp a c e) (places_opt_target a c t ⨾ places_items a c is) (back_exp a ra c e)
    (back_then (places_opt_target a c t) (places_items a c is) (back_opt_target a ra c t) (back_items a ra c is))

back_named : {k : ℕ} (a : Context) (c : Name) (l : ℕ) (x : Option Name) → Backwards k (places_named a c l x)
back_named a c l None = back_nothing
back_named a c l (Some x) = back_mention Bind a (mangled c x) l

back_imports : {k : ℕ} (a : Context) (c : Name) (l : ℕ) (xs : List Alias) → Backwards k (places_imports a c l xs)
back_imports a c l [] = back_nothing
back_imports a c l (x ∷ xs) =
    back_then (tells Bind a c (bound_name x.name x.alias) l) (places_imports a c l xs)
    (back_mention Bind a (mangled c (bound_name x.name x.alias)) l) (back_imports a c l xs)

back_names : {k : ℕ} (r : Role) (a : Context) (c : Name) (l : ℕ) (xs : List Name) → Backwards k (places_names r a c l xs)
back_names r a c l [] = back_nothing
back_names r a c l (x ∷ xs) = back_then (tells r a c x l) (places_names r a c l xs) (back_mention r a (mangled c x) l) (back_names r a c l xs)

mutual
  back_stm : {k : ℕ} (a : Context) (ra : Right k a) (c : Name) (x : Stm) → Backwards k (places_stm a c x)
  back_stm a ra c (S.expr l e) = back_exp a ra c e
  back_stm a ra c (S.assign l ts e) = back_then (places_targets a c ts) (places_exp a c e) (back_targets a ra c ts) (back_exp a ra c e)
  back_stm a ra c (S.augmented l p o e) = back_then (places_place a c p) (places_exp a c e) (back_place a ra c p) (back_exp a ra c e)
  back_stm a ra c (S.annotated l p n v) = back_then (places_place a c p) (places_opt a c v) (back_place a ra c p) (back_opt a ra c v)
  back_stm a ra c (S.assert l e m) = back_then (places_exp a c e) (places_opt a c m) (back_exp a ra c e) (back_opt a ra c m)
  back_stm a ra c (S.pass l) = back_nothing
  back_stm a ra c (S.del l ts) = back_targets a ra c ts
  back_stm a ra c (S.return l v) = back_then (gives a l) (places_opt a c v) (back_gives a l) (back_opt a ra c v)
  back_stm a ra c (S.raise l e f) = back_then (places_exp a c e) (places_opt a c f) (back_exp a ra c e) (back_opt a ra c f)
  back_stm a ra c (S.raise_again l) = back_nothing
  back_stm a ra c (S.break l) = back_turns a l
  back_stm a ra c (S.continue l) = back_turns a l
  back_stm a ra c (S.import l xs) = back_imports a c l xs
  back_stm a ra c (S.import_from l m xs) = back_imports a c l xs
  back_stm a ra c (S.global l xs) = back_names Global a c l xs
  back_stm a ra c (S.nonlocal l xs) = back_names Nonlocal a c l xs
  back_stm a ra c (S.choice l bs els) =
      back_then (places_branches a c bs) (places_stms a c els) (back_branches a ra c bs) (back_stms a ra c els)
  back_stm a ra c (S.while l e body els) =
      back_then (places_exp a c e) (places_stms (loop_context a) c body ⨾ places_stms a c els) (back_exp a ra c e)
      (back_then (places_stms (loop_context a) c body) (places_stms a c els) (back_stms (loop_context a) (in_loop ra) c body) (back_stms a ra c els))
  back_stm a ra c (S.for l t e body els) =
      back_then (places_target a c t) (places_exp a c e ⨾ places_stms (loop_context a) c body ⨾ places_stms a c els) (back_target a ra c t)
      (back_then (places_exp a c e) (places_stms (loop_context a) c body ⨾ places_stms a c els) (back_exp a ra c e)
      (back_then (places_stms (loop_context a) c body) (places_stms a c els) (back_stms (loop_context a) (in_loop ra) c body) (back_stms a ra c els)))
  back_stm a ra c (S.try l body hs els fin) =
      back_then (places_stms a c body) (places_handlers a c hs ⨾ places_stms a c els ⨾ places_stms a c fin) (back_stms a ra c body)
      (back_then (places_handlers a c hs) (places_stms a c els ⨾ places_stms a c fin) (back_handlers a ra c hs)
      (back_then (places_stms a c els) (places_stms a c fin) (back_stms a ra c els) (back_stms a ra c fin)))
  back_stm a ra c (S.with l is body) = back_then (places_items a c is) (places_stms a c body) (back_items a ra c is) (back_stms a ra c body)
  back_stm a ra c (S.def l ds dl n x ps r body) =
      back_then (places_decorators a c ds) (tells Bind a c x dl ⨾ in_function a (λ b. places_params a b c ps ⨾ places_stms b c body))
      (back_decorators a ra c ds)
      (back_then (tells Bind a c x dl) (in_function a (λ b. places_params a b c ps ⨾ places_stms b c body)) (back_mention Bind a (mangled c x) dl)
      (back_in_function a ra (λ b. places_params a b c ps ⨾ places_stms b c body)
      (λ j b le rb. back_then (places_params a b c ps) (places_stms b c body) (back_params a (wider le ra) b rb c ps) (back_stms b rb c body))))
  back_stm a ra c (S.class l ds cl n x base body) =
      back_then (places_decorators a c ds) (tells Bind a c x cl ⨾ in_class a (λ b. places_opt a c base ⨾ places_stms b x body))
      (back_decorators a ra c ds)
      (back_then (tells Bind a c x cl) (in_class a (λ b. places_opt a c base ⨾ places_stms b x body)) (back_mention Bind a (mangled c x) cl)
      (back_in_class a ra (λ b. places_opt a c base ⨾ places_stms b x body)
      (λ j b le rb. back_then (places_opt a c base) (places_stms b x body) (back_opt a (wider le ra) c base) (back_stms b rb x body))))
  back_stm a ra c (S.docstring l) = back_nothing

  back_stms : {k : ℕ} (a : Context) (ra : Right k a) (c : Name) (x : Stms) → Backwards k (places_stms a c x)
  back_stms a ra c S.none = back_nothing
  back_stms a ra c (S.more s ss) = back_then (places_stm a c s) (places_stms a c ss) (back_stm a ra c s) (back_stms a ra c ss)

  back_branches : {k : ℕ} (a : Context) (ra : Right k a) (c : Name) (x : Branches) → Backwards k (places_branches a c x)
  back_branches a ra c S.no_branches = back_nothing
  back_branches a ra c (S.branch l e body r) =
      back_then (places_exp a c e) (places_stms a c body ⨾ places_branches a c r) (back_exp a ra c e)
      (back_then (places_stms a c body) (places_branches a c r) (back_stms a ra c body) (back_branches a ra c r))

  back_handlers : {k : ℕ} (a : Context) (ra : Right k a) (c : Name) (x : Handlers) → Backwards k (places_handlers a c x)
  back_handlers a ra c S.no_handlers = back_nothing
  back_handlers a ra c (S.handler l e x body r) =
      back_then (places_opt a c e) (places_named a c l x ⨾ places_stms a c body ⨾ places_handlers a c r) (back_opt a ra c e)
      (back_then (places_named a c l x) (places_stms a c body ⨾ places_handlers a c r) (back_named a c l x)
      (back_then (places_stms a c body) (places_handlers a c r) (back_stms a ra c body) (back_handlers a ra c r)))

pub stands_earlier : (ss : Stms) (i : ℕ) (r : Region) → slice_get (places_script ss).regions (suc i) ≡ Some r → Inner (suc i) r
stands_earlier ss i r is =
    let h = (back_stms module_context (first_right module_context 0 refl) [] ss).at 1 (let one : 1 ≤ 1 = omega arith in one) i r is in
    moved (1 + i) (suc i) r (let same : 1 + i ≡ suc i = omega arith in same) h
