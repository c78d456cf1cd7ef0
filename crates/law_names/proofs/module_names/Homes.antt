-- To which block each region of a script belongs: to itself, or to that in which a comprehension stands.
use Rattle.std.proofs.Common.{◌≡◌, ℕ, zero, suc, ◌+◌, Bool, true, false, if◌then◌else◌, List, [], ◌∷◌, ◌++◌, length, Option, Some, None, ◌⊎◌, inl, inr, refl, ap, ◌∙◌, subst, arith}
use Rattle.std.specs.Prelude.{slice_get}
use Rattle.pt_scopes.specs.declared.region.Context.{Context}
use Rattle.pt_scopes.specs.declared.region.Kind.{Kind}
use Rattle.pt_scopes.specs.declared.region.Kind.TheVariants.{Module, Function, Class, Comprehension}
use Rattle.pt_scopes.specs.declared.region.Region.{Region}
use Rattle.pt_scopes.specs.declared.region.Role.{Role}
use Rattle.pt_scopes.specs.declared.region.Role.TheVariants.{Read, Bind, Parameter, Global, Nonlocal}
use Rattle.pt_scopes.specs.Mentions.{tells, gives, turns, bound_name, places_script, places_all, places_args, places_branches, places_clauses, places_decorators, places_entries, places_exp, places_formals, places_handlers, places_imports, places_items, places_links, places_made, places_named, places_named_parameter, places_names, places_opt, places_opt_target, places_params, places_pieces, places_place, places_stm, places_stms, places_target, places_targets}
use Rattle.pt_scopes.specs.Names.{mangled}
use Rattle.pt_scopes.specs.Places.{Part, ◌⨾◌, nothing, mention, misplaced, block, comprehension, in_function, in_generator, in_class, in_comprehension, function_context, generator_context, class_context, comprehension_context, loop_context, module_context}
use Rattle.pt_scopes.specs.Scope.{home_at, home_of}
use Rattle.pt_tree.specs.declared.expression.NamedParameter.{NamedParameter}
use Rattle.pt_tree.specs.declared.statement.Alias.{Alias}
use Rattle.pt_tree.specs.Syntax as S
use Rattle.pt_tree.specs.Syntax.{Name, Exp, Exps, Opt, Pieces, Entries, Links, Args, Made, Clauses, Place, Tgt, Tgts, Params, Formals, Decorators, Items, Stm, Stms, Branches, Handlers}

-- items of lists one behind the other

pub front_at : {A : Type 0} (xs ys : List A) (i : ℕ) (x : A) → slice_get xs i ≡ Some x → slice_get (xs ++ ys) i ≡ Some x
front_at [] ys i x is = absurd (let same : None ≡ Some x = is in cc)
front_at (z ∷ xs) ys zero x is = is
front_at (z ∷ xs) ys (suc i) x is = front_at xs ys i x is

pub behind_at : {A : Type 0} (xs ys : List A) (i : ℕ) (x : A) → slice_get ys i ≡ Some x → slice_get (xs ++ ys) (length xs + i) ≡ Some x
behind_at [] ys i x is = let same : i ≡ 0 + i = omega arith in subst (λ j. slice_get ys j ≡ Some x) same is
behind_at (z ∷ xs) ys i x is =
    let same : suc (length xs + i) ≡ length (z ∷ xs) + i = omega arith in
    subst (λ j. slice_get (z ∷ (xs ++ ys)) j ≡ Some x) same (behind_at xs ys i x is)

-- it is one of the second list
record Behind {A : Type 0} (xs ys : List A) (i : ℕ) (x : A) : Type 0 where
  place : ℕ
  same : i ≡ length xs + place
  is : slice_get ys place ≡ Some x

in_either : {A : Type 0} (xs ys : List A) (i : ℕ) (x : A) → slice_get (xs ++ ys) i ≡ Some x → (slice_get xs i ≡ Some x) ⊎ Behind xs ys i x
in_either [] ys i x is = inr (record { place = i; same = omega arith; is = is })
in_either (z ∷ xs) ys zero x is = inl is
in_either (z ∷ xs) ys (suc i) x is = by (in_either xs ys i x is)
  where
    by : (slice_get xs i ≡ Some x) ⊎ Behind xs ys i x → (slice_get xs i ≡ Some x) ⊎ Behind (z ∷ xs) ys (suc i) x
    by (inl e) = inl e
    by (inr b) =
        inr
        (record
        { place = b.place; same = ap suc b.same ∙ (let shift : suc (length xs + b.place) ≡ length (z ∷ xs) + b.place = omega arith in shift); is = b.is })

none_at : {A X : Type 0} (x : A) (i : ℕ) → slice_get [] i ≡ Some x → X
none_at x i is = absurd (let same : None ≡ Some x = is in cc)

module _ (rs : List Region) where
  -- a block is its own; a comprehension belongs to the block of the region in which it stands
  abbrev pub OfKind : (region : ℕ) → Region → Kind → Type 0
  OfKind i here Module = here.home ≡ i
  OfKind i here Function = here.home ≡ i
  OfKind i here Class = here.home ≡ i
  OfKind i here Comprehension = home_of rs here.around ≡ here.home

  abbrev pub HasHome : (region : ℕ) → Region → Type 0
  HasHome i here = OfKind i here here.kind

  abbrev From : (n : ℕ) → List Region → Type 0
  From n xs = (i : ℕ) (r : Region) → slice_get xs i ≡ Some r → slice_get rs (n + i) ≡ Some r

  abbrev Homed : Part → Type 0
  Homed f = (n : ℕ) → From n (f n).regions → (i : ℕ) (r : Region) → slice_get (f n).regions i ≡ Some r → HasHome (n + i) r

  abbrev Right : Context → Type 0
  Right a = home_of rs a.region ≡ a.home

  homed_nothing : Homed nothing
  unfolding nothing
  homed_nothing n at i r is = none_at r i is

  homed_mention : (r : Role) (a : Context) (x : Name) (l : ℕ) → Homed (mention r a x l)
  unfolding mention
  homed_mention k a x l n at i r is = none_at r i is

  homed_then : (f g : Part) → Homed f → Homed g → Homed (f ⨾ g)
  unfolding ◌⨾◌
  homed_then f g h k n at i r is = by (in_either (f n).regions (g (n + length (f n).regions)).regions i r is)
    where
      by : (slice_get (f n).regions i ≡ Some r) ⊎ Behind (f n).regions (g (n + length (f n).regions)).regions i r → HasHome (n + i) r
      by (inl e) = h n (λ j s e. at j s (front_at (f n).regions (g (n + length (f n).regions)).regions j s e)) i r e
      by (inr b) =
          let later = k (n + length (f n).regions)
          (λ j s e. let same : n + (length (f n).regions + j) ≡ n + length (f n).regions + j = omega arith in
          subst (λ m. slice_get rs m ≡ Some s) same
          (at (length (f n).regions + j) s (behind_at (f n).regions (g (n + length (f n).regions)).regions j s e))) b.place r b.is in
          let same : n + length (f n).regions + b.place ≡ n + i = omega (arith, b.same) in
          subst (λ m. HasHome m r) same later

  some_same : (r s : Region) → Some r ≡ Some s → r ≡ s
  some_same r s e = ap (λ (o : Option Region). elim o [ None ↦ r | Some x ↦ x ]) e

  homed_function : (a : Context) → Homed (block Function a)
  unfolding block
  homed_function a n at zero r is =
      subst (HasHome (n + 0)) (some_same (record { kind = Function; around = a.region; home = n }) r is) (let same : n ≡ n + 0 = omega arith in same)
  homed_function a n at (suc i) r is = none_at r i is

  homed_class : (a : Context) → Homed (block Class a)
  unfolding block
  homed_class a n at zero r is =
      subst (HasHome (n + 0)) (some_same (record { kind = Class; around = a.region; home = n }) r is) (let same : n ≡ n + 0 = omega arith in same)
  homed_class a n at (suc i) r is = none_at r i is

  homed_comprehension : (a : Context) → Right a → Homed (comprehension a)
  unfolding comprehension
  homed_comprehension a ra n at zero r is =
      subst (HasHome (n + 0)) (some_same (record { kind = Comprehension; around = a.region; home = a.home }) r is) ra
  homed_comprehension a ra n at (suc i) r is = none_at r i is

  -- the home of the first of some regions
  first_home : (n h : ℕ) (r : Region) → r.home ≡ h → slice_get rs (n + 0) ≡ Some r → home_of rs n ≡ h
  first_home n h r e is =
      let same : n + 0 ≡ n = omega arith in
      ap (home_at n) (subst (λ m. slice_get rs m ≡ Some r) same is) ∙ e

  homed_in_function : (a : Context) (inside : Context → Part) → ((b : Context) → Right b → Homed (inside b)) → Homed (in_function a inside)
  unfolding in_function ◌⨾◌ block
  homed_in_function a inside h n at =
      homed_then (block Function a) (inside (function_context n)) (homed_function a)
      (h (function_context n) (first_home n n (record { kind = Function; around = a.region; home = n }) refl (at 0 _ refl))) n at

  homed_in_generator : (a : Context) (inside : Context → Part) → ((b : Context) → Right b → Homed (inside b)) → Homed (in_generator a inside)
  unfolding in_generator ◌⨾◌ block
  homed_in_generator a inside h n at =
      homed_then (block Function a) (inside (generator_context n)) (homed_function a)
      (h (generator_context n) (first_home n n (record { kind = Function; around = a.region; home = n }) refl (at 0 _ refl))) n at

  homed_in_class : (a : Context) (inside : Context → Part) → ((b : Context) → Right b → Homed (inside b)) → Homed (in_class a inside)
  unfolding in_class ◌⨾◌ block
  homed_in_class a inside h n at =
      homed_then (block Class a) (inside (class_context n)) (homed_class a)
      (h (class_context n) (first_home n n (record { kind = Class; around = a.region; home = n }) refl (at 0 _ refl))) n at

  homed_in_comprehension : (a : Context) → Right a → (inside : Context → Part) → ((b : Context) → Right b → Homed (inside b))
      → Homed (in_comprehension a inside)
  unfolding in_comprehension ◌⨾◌ comprehension
  homed_in_comprehension a ra inside h n at =
      homed_then (comprehension a) (inside (comprehension_context a n)) (homed_comprehension a ra)
      (h (comprehension_context a n) (first_home n a.home (record { kind = Comprehension; around = a.region; home = a.home }) refl (at 0 _ refl))) n
      at

  homed_if : (b : Bool) (a : Context) (l : ℕ) → Homed (if b then nothing else misplaced a l)
  homed_if true a l = homed_nothing
  homed_if false a l = homed_mention _ a [] l

  homed_gives : (a : Context) (l : ℕ) → Homed (gives a l)
  homed_gives a l = homed_if a.may_give a l

  homed_turns : (a : Context) (l : ℕ) → Homed (turns a l)
  homed_turns a l = homed_if a.in_loop a l

  homed_named_parameter : (b : Context) (c : Name) (s : Option NamedParameter) → Homed (places_named_parameter b c s)
  homed_named_parameter b c None = homed_nothing
  homed_named_parameter b c (Some p) = homed_mention Parameter b (mangled c p.name) p.line.0

  mutual
    homed_exp : (a : Context) (ra : Right a) (c : Name) (x : Exp) → Homed (places_exp a c x)
    homed_exp a ra c (S.constant l k) = homed_nothing
    homed_exp a ra c (S.name l x) = homed_mention Read a (mangled c x) l
    homed_exp a ra c (S.joined l ps) = homed_pieces a ra c ps
    homed_exp a ra c (S.tuple l es) = homed_all a ra c es
    homed_exp a ra c (S.list l es) = homed_all a ra c es
    homed_exp a ra c (S.set l es) = homed_all a ra c es
    homed_exp a ra c (S.dict l es) = homed_entries a ra c es
    homed_exp a ra c (S.attribute l e x) = homed_exp a ra c e
    homed_exp a ra c (S.item l e i) = homed_then (places_exp a c e) (places_exp a c i) (homed_exp a ra c e) (homed_exp a ra c i)
    homed_exp a ra c (S.slice l e f g) =
        homed_then (places_opt a c e) (places_opt a c f ⨾ places_opt a c g) (homed_opt a ra c e)
        (homed_then (places_opt a c f) (places_opt a c g) (homed_opt a ra c f) (homed_opt a ra c g))
    homed_exp a ra c (S.unary l o e) = homed_exp a ra c e
    homed_exp a ra c (S.not_of l e) = homed_exp a ra c e
    homed_exp a ra c (S.binary l o e f) = homed_then (places_exp a c e) (places_exp a c f) (homed_exp a ra c e) (homed_exp a ra c f)
    homed_exp a ra c (S.compare l e o f r) =
        homed_then (places_exp a c e) (places_exp a c f ⨾ places_links a c r) (homed_exp a ra c e)
        (homed_then (places_exp a c f) (places_links a c r) (homed_exp a ra c f) (homed_links a ra c r))
    homed_exp a ra c (S.and l e es) = homed_then (places_exp a c e) (places_all a c es) (homed_exp a ra c e) (homed_all a ra c es)
    homed_exp a ra c (S.or l e es) = homed_then (places_exp a c e) (places_all a c es) (homed_exp a ra c e) (homed_all a ra c es)
    homed_exp a ra c (S.conditional l t e f) =
        homed_then (places_exp a c e) (places_exp a c t ⨾ places_exp a c f) (homed_exp a ra c e)
        (homed_then (places_exp a c t) (places_exp a c f) (homed_exp a ra c t) (homed_exp a ra c f))
    homed_exp a ra c (S.call l f args) = homed_then (places_exp a c f) (places_args a c args) (homed_exp a ra c f) (homed_args a ra c args)
    homed_exp a ra c (S.lambda l n ps e) =
        homed_in_function a (λ b. places_params a b c ps ⨾ places_exp b c e)
        (λ b rb. homed_then (places_params a b c ps) (places_exp b c e) (homed_params a ra b rb c ps) (homed_exp b rb c e))
    homed_exp a ra c (S.comprehension l m fl t it cs) =
        homed_in_comprehension a ra (λ b. places_made b c m ⨾ places_target b c t ⨾ places_exp a c it ⨾ places_clauses b c cs)
        (λ b rb. homed_then (places_made b c m) (places_target b c t ⨾ places_exp a c it ⨾ places_clauses b c cs) (homed_made b rb c m)
        (homed_then (places_target b c t) (places_exp a c it ⨾ places_clauses b c cs) (homed_target b rb c t)
        (homed_then (places_exp a c it) (places_clauses b c cs) (homed_exp a ra c it) (homed_clauses b rb c cs))))
    homed_exp a ra c (S.generator l n e fl t it cs) =
        homed_in_generator a (λ b. places_exp b c e ⨾ places_target b c t ⨾ places_exp a c it ⨾ places_clauses b c cs)
        (λ b rb. homed_then (places_exp b c e) (places_target b c t ⨾ places_exp a c it ⨾ places_clauses b c cs) (homed_exp b rb c e)
        (homed_then (places_target b c t) (places_exp a c it ⨾ places_clauses b c cs) (homed_target b rb c t)
        (homed_then (places_exp a c it) (places_clauses b c cs) (homed_exp a ra c it) (homed_clauses b rb c cs))))
    homed_exp a ra c (S.yield l v) = homed_then (gives a l) (places_opt a c v) (homed_gives a l) (homed_opt a ra c v)
    homed_exp a ra c (S.yield_from l e) = homed_then (gives a l) (places_exp a c e) (homed_gives a l) (homed_exp a ra c e)

    homed_all : (a : Context) (ra : Right a) (c : Name) (x : Exps) → Homed (places_all a c x)
    homed_all a ra c S.no_exps = homed_nothing
    homed_all a ra c (S.more_exps e es) = homed_then (places_exp a c e) (places_all a c es) (homed_exp a ra c e) (homed_all a ra c es)

    homed_opt : (a : Context) (ra : Right a) (c : Name) (x : Opt) → Homed (places_opt a c x)
    homed_opt a ra c S.absent = homed_nothing
    homed_opt a ra c (S.given e) = homed_exp a ra c e

    homed_pieces : (a : Context) (ra : Right a) (c : Name) (x : Pieces) → Homed (places_pieces a c x)
    homed_pieces a ra c S.no_pieces = homed_nothing
    homed_pieces a ra c (S.literal l t r) = homed_pieces a ra c r
    homed_pieces a ra c (S.field l e k ps r) =
        homed_then (places_exp a c e) (places_pieces a c ps ⨾ places_pieces a c r) (homed_exp a ra c e)
        (homed_then (places_pieces a c ps) (places_pieces a c r) (homed_pieces a ra c ps) (homed_pieces a ra c r))

    homed_entries : (a : Context) (ra : Right a) (c : Name) (x : Entries) → Homed (places_entries a c x)
    homed_entries a ra c S.no_entries = homed_nothing
    homed_entries a ra c (S.entry k v r) =
        homed_then (places_exp a c k) (places_exp a c v ⨾ places_entries a c r) (homed_exp a ra c k)
        (homed_then (places_exp a c v) (places_entries a c r) (homed_exp a ra c v) (homed_entries a ra c r))

    homed_links : (a : Context) (ra : Right a) (c : Name) (x : Links) → Homed (places_links a c x)
    homed_links a ra c S.no_links = homed_nothing
    homed_links a ra c (S.link o e r) = homed_then (places_exp a c e) (places_links a c r) (homed_exp a ra c e) (homed_links a ra c r)

    homed_args : (a : Context) (ra : Right a) (c : Name) (x : Args) → Homed (places_args a c x)
    homed_args a ra c S.no_args = homed_nothing
    homed_args a ra c (S.positional e r) = homed_then (places_exp a c e) (places_args a c r) (homed_exp a ra c e) (homed_args a ra c r)
    homed_args a ra c (S.named x e r) = homed_then (places_exp a c e) (places_args a c r) (homed_exp a ra c e) (homed_args a ra c r)
    homed_args a ra c (S.spread e r) = homed_then (places_exp a c e) (places_args a c r) (homed_exp a ra c e) (homed_args a ra c r)
    homed_args a ra c (S.spread_named e r) = homed_then (places_exp a c e) (places_args a c r) (homed_exp a ra c e) (homed_args a ra c r)

    homed_made : (a : Context) (ra : Right a) (c : Name) (x : Made) → Homed (places_made a c x)
    homed_made a ra c (S.a_list e) = homed_exp a ra c e
    homed_made a ra c (S.a_set e) = homed_exp a ra c e
    homed_made a ra c (S.a_dict k v) = homed_then (places_exp a c k) (places_exp a c v) (homed_exp a ra c k) (homed_exp a ra c v)

    homed_clauses : (a : Context) (ra : Right a) (c : Name) (x : Clauses) → Homed (places_clauses a c x)
    homed_clauses a ra c S.no_clauses = homed_nothing
    homed_clauses a ra c (S.only_if e cs) = homed_then (places_exp a c e) (places_clauses a c cs) (homed_exp a ra c e) (homed_clauses a ra c cs)
    homed_clauses a ra c (S.for_each fl t it cs) =
        homed_then (places_target a c t) (places_exp a c it ⨾ places_clauses a c cs) (homed_target a ra c t)
        (homed_then (places_exp a c it) (places_clauses a c cs) (homed_exp a ra c it) (homed_clauses a ra c cs))

    homed_place : (a : Context) (ra : Right a) (c : Name) (x : Place) → Homed (places_place a c x)
    homed_place a ra c (S.name_at l x) = homed_mention Bind a (mangled c x) l
    homed_place a ra c (S.attribute_at l e x) = homed_exp a ra c e
    homed_place a ra c (S.item_at l e i) = homed_then (places_exp a c e) (places_exp a c i) (homed_exp a ra c e) (homed_exp a ra c i)

    homed_target : (a : Context) (ra : Right a) (c : Name) (x : Tgt) → Homed (places_target a c x)
    homed_target a ra c (S.single p) = homed_place a ra c p
    homed_target a ra c (S.several l f ts) = homed_targets a ra c ts
    homed_target a ra c (S.starred l t) = homed_target a ra c t

    homed_targets : (a : Context) (ra : Right a) (c : Name) (x : Tgts) → Homed (places_targets a c x)
    homed_targets a ra c S.no_targets = homed_nothing
    homed_targets a ra c (S.more_targets t ts) =
        homed_then (places_target a c t) (places_targets a c ts) (homed_target a ra c t) (homed_targets a ra c ts)

    homed_params : (a : Context) (ra : Right a) (b : Context) (rb : Right b) (c : Name) (x : Params) → Homed (places_params a b c x)
    homed_params a ra b rb c (S.parameters ps s ks d) =
        homed_then (places_formals a b c ps) (places_named_parameter b c s ⨾ places_formals a b c ks ⨾ places_named_parameter b c d)
        (homed_formals a ra b rb c ps)
        (homed_then (places_named_parameter b c s) (places_formals a b c ks ⨾ places_named_parameter b c d) (homed_named_parameter b c s)
        (homed_then (places_formals a b c ks) (places_named_parameter b c d) (homed_formals a ra b rb c ks) (homed_named_parameter b c d)))

    homed_formals : (a : Context) (ra : Right a) (b : Context) (rb : Right b) (c : Name) (x : Formals) → Homed (places_formals a b c x)
    homed_formals a ra b rb c S.no_formals = homed_nothing
    homed_formals a ra b rb c (S.formal l x n d r) =
        homed_then (tells Parameter b c x l) (places_opt a c d ⨾ places_formals a b c r) (homed_mention Parameter b (mangled c x) l)
        (homed_then (places_opt a c d) (places_formals a b c r) (homed_opt a ra c d) (homed_formals a ra b rb c r))

  homed_decorators : (a : Context) (ra : Right a) (c : Name) (x : Decorators) → Homed (places_decorators a c x)
  homed_decorators a ra c S.no_decorators = homed_nothing
  homed_decorators a ra c (S.decorator l e r) =
      homed_then (places_exp a c e) (places_decorators a c r) (homed_exp a ra c e) (homed_decorators a ra c r)

  homed_opt_target : (a : Context) (ra : Right a) (c : Name) (t : Option Tgt) → Homed (places_opt_target a c t)
  homed_opt_target a ra c None = homed_nothing
  homed_opt_target a ra c (Some t) = homed_target a ra c t

  homed_items : (a : Context) (ra : Right a) (c : Name) (x : Items) → Homed (places_items a c x)
  homed_items a ra c S.no_items = homed_nothing
  homed_items a ra c (S.with_item l e t is) =
      homed_then (places_exp a c e) (places_opt_target a c t ⨾ places_items a c is) (homed_exp a ra c e)
      (homed_then (places_opt_target a c t) (places_items a c is) (homed_opt_target a ra c t) (homed_items a ra c is))

  homed_named : (a : Context) (c : Name) (l : ℕ) (x : Option Name) → Homed (places_named a c l x)
  homed_named a c l None = homed_nothing
  homed_named a c l (Some x) = homed_mention Bind a (mangled c x) l

  homed_imports : (a : Context) (c : Name) (l : ℕ) (xs : List Alias) → Homed (places_imports a c l xs)
  homed_imports a c l [] = homed_nothing
  homed_imports a c l (x ∷ xs) =
      homed_then (tells Bind a c (bound_name x.name x.alias) l) (places_imports a c l xs)
      (homed_mention Bind a (mangled c (bound_name x.name x.alias)) l) (homed_imports a c l xs)

  homed_names : (r : Role) (a : Context) (c : Name) (l : ℕ) (xs : List Name) → Homed (places_names r a c l xs)
  homed_names r a c l [] = homed_nothing
  homed_names r a c l (x ∷ xs) = homed_then (tells r a c x l) (places_names r a c l xs) (homed_mention r a (mangled c x) l) (homed_names r a c l xs)

  mutual
    homed_stm : (a : Context) (ra : Right a) (c : Name) (x : Stm) → Homed (places_stm a c x)
    homed_stm a ra c (S.expr l e) = homed_exp a ra c e
    homed_stm a ra c (S.assign l ts e) = homed_then (places_targets a c ts) (places_exp a c e) (homed_targets a ra c ts) (homed_exp a ra c e)
    homed_stm a ra c (S.augmented l p o e) = homed_then (places_place a c p) (places_exp a c e) (homed_place a ra c p) (homed_exp a ra c e)
    homed_stm a ra c (S.annotated l p n v) = homed_then (places_place a c p) (places_opt a c v) (homed_place a ra c p) (homed_opt a ra c v)
    homed_stm a ra c (S.assert l e m) = homed_then (places_exp a c e) (places_opt a c m) (homed_exp a ra c e) (homed_opt a ra c m)
    homed_stm a ra c (S.pass l) = homed_nothing
    homed_stm a ra c (S.del l ts) = homed_targets a ra c ts
    homed_stm a ra c (S.return l v) = homed_then (gives a l) (places_opt a c v) (homed_gives a l) (homed_opt a ra c v)
    homed_stm a ra c (S.raise l e f) = homed_then (places_exp a c e) (places_opt a c f) (homed_exp a ra c e) (homed_opt a ra c f)
    homed_stm a ra c (S.raise_again l) = homed_nothing
    homed_stm a ra c (S.break l) = homed_turns a l
    homed_stm a ra c (S.continue l) = homed_turns a l
    homed_stm a ra c (S.import l xs) = homed_imports a c l xs
    homed_stm a ra c (S.import_from l m xs) = homed_imports a c l xs
    homed_stm a ra c (S.global l xs) = homed_names Global a c l xs
    homed_stm a ra c (S.nonlocal l xs) = homed_names Nonlocal a c l xs
    homed_stm a ra c (S.choice l bs els) =
        homed_then (places_branches a c bs) (places_stms a c els) (homed_branches a ra c bs) (homed_stms a ra c els)
    homed_stm a ra c (S.while l e body els) =
        homed_then (places_exp a c e) (places_stms (loop_context a) c body ⨾ places_stms a c els) (homed_exp a ra c e)
        (homed_then (places_stms (loop_context a) c body) (places_stms a c els) (homed_stms (loop_context a) ra c body) (homed_stms a ra c els))
    homed_stm a ra c (S.for l t e body els) =
        homed_then (places_target a c t) (places_exp a c e ⨾ places_stms (loop_context a) c body ⨾ places_stms a c els) (homed_target a ra c t)
        (homed_then (places_exp a c e) (places_stms (loop_context a) c body ⨾ places_stms a c els) (homed_exp a ra c e)
        (homed_then (places_stms (loop_context a) c body) (places_stms a c els) (homed_stms (loop_context a) ra c body) (homed_stms a ra c els)))
    homed_stm a ra c (S.try l body hs els fin) =
        homed_then (places_stms a c body) (places_handlers a c hs ⨾ places_stms a c els ⨾ places_stms a c fin) (homed_stms a ra c body)
        (homed_then (places_handlers a c hs) (places_stms a c els ⨾ places_stms a c fin) (homed_handlers a ra c hs)
        (homed_then (places_stms a c els) (places_stms a c fin) (homed_stms a ra c els) (homed_stms a ra c fin)))
    homed_stm a ra c (S.with l is body) = homed_then (places_items a c is) (places_stms a c body) (homed_items a ra c is) (homed_stms a ra c body)
    homed_stm a ra c (S.def l ds dl n x ps r body) =
        homed_then (places_decorators a c ds) (tells Bind a c x dl ⨾ in_function a (λ b. places_params a b c ps ⨾ places_stms b c body))
        (homed_decorators a ra c ds)
        (homed_then (tells Bind a c x dl) (in_function a (λ b. places_params a b c ps ⨾ places_stms b c body)) (homed_mention Bind a (mangled c x) dl)
        (homed_in_function a (λ b. places_params a b c ps ⨾ places_stms b c body)
        (λ b rb. homed_then (places_params a b c ps) (places_stms b c body) (homed_params a ra b rb c ps) (homed_stms b rb c body))))
    homed_stm a ra c (S.class l ds cl n x base body) =
        homed_then (places_decorators a c ds) (tells Bind a c x cl ⨾ in_class a (λ b. places_opt a c base ⨾ places_stms b x body))
        (homed_decorators a ra c ds)
        (homed_then (tells Bind a c x cl) (in_class a (λ b. places_opt a c base ⨾ places_stms b x body)) (homed_mention Bind a (mangled c x) cl)
        (homed_in_class a (λ b. places_opt a c base ⨾ places_stms b x body)
        (λ b rb. homed_then (places_opt a c base) (places_stms b x body) (homed_opt a ra c base) (homed_stms b rb x body))))
    homed_stm a ra c (S.docstring l) = homed_nothing

    pub homed_stms : (a : Context) (ra : Right a) (c : Name) (x : Stms) → Homed (places_stms a c x)
    homed_stms a ra c S.none = homed_nothing
    homed_stms a ra c (S.more s ss) = homed_then (places_stm a c s) (places_stms a c ss) (homed_stm a ra c s) (homed_stms a ra c ss)

    homed_branches : (a : Context) (ra : Right a) (c : Name) (x : Branches) → Homed (places_branches a c x)
    homed_branches a ra c S.no_branches = homed_nothing
    homed_branches a ra c (S.branch l e body r) =
        homed_then (places_exp a c e) (places_stms a c body ⨾ places_branches a c r) (homed_exp a ra c e)
        (homed_then (places_stms a c body) (places_branches a c r) (homed_stms a ra c body) (homed_branches a ra c r))

    homed_handlers : (a : Context) (ra : Right a) (c : Name) (x : Handlers) → Homed (places_handlers a c x)
    homed_handlers a ra c S.no_handlers = homed_nothing
    homed_handlers a ra c (S.handler l e x body r) =
        homed_then (places_opt a c e) (places_named a c l x ⨾ places_stms a c body ⨾ places_handlers a c r) (homed_opt a ra c e)
        (homed_then (places_named a c l x) (places_stms a c body ⨾ places_handlers a c r) (homed_named a c l x)
        (homed_then (places_stms a c body) (places_handlers a c r) (homed_stms a ra c body) (homed_handlers a ra c r)))

pub regions_have_homes : (ss : Stms) (i : ℕ) (r : Region) → slice_get (places_script ss).regions i ≡ Some r → HasHome (places_script ss).regions i r
regions_have_homes ss zero r is =
    let rs = (places_script ss).regions in
    subst (HasHome rs 0) (some_same rs (record { kind = Module; around = 0; home = 0 }) r is) refl
regions_have_homes ss (suc i) r is =
    let rs = (places_script ss).regions in
    let h = homed_stms rs module_context refl [] ss 1
    (λ j s e. let same : suc j ≡ 1 + j = omega arith in subst (λ m. slice_get rs m ≡ Some s) same e) i r is in
    let same : 1 + i ≡ suc i = omega arith in
    subst (λ m. HasHome rs m r) same h
