-- In a script without faults in its declarations no parameter has the name of an earlier one of its function.
use Rattle.std.proofs.Common.{if◌then◌else◌, ◌≡◌, ℕ, ◌+◌, Bool, true, false, List, [], ◌∷◌, ◌++◌, map, length, Option, Some, None, refl, sym, ap, ◌∙◌, subst, eq-eqb, bytes_eq}
use Rattle.std.specs.Prelude.{◌==◌, ◌&&◌, ◌||◌}
use Rattle.std.specs.List.{AllByRecursion, list_any}
use Rattle.std.proofs.lemmas.List.{map-append}
use Rattle.std.proofs.lemmas.Slice.Eq.{bytes_eq-Decides}
use Rattle.pt_scopes.specs.declared.region.Context.{Context}
use Rattle.pt_scopes.specs.declared.region.Earlier.{Earlier}
use Rattle.pt_scopes.specs.declared.region.Facts.{Facts}
use Rattle.pt_scopes.specs.declared.region.Kind.TheVariants.{Class, Function}
use Rattle.pt_scopes.specs.declared.region.Mention.{Mention}
use Rattle.pt_scopes.specs.declared.region.Region.{Region}
use Rattle.pt_scopes.specs.declared.region.Role.{Role}
use Rattle.pt_scopes.specs.declared.region.Role.TheVariants.{Read, Bind, Parameter, Global, Nonlocal, Misplaced}
use Rattle.pt_scopes.specs.declared.scope.ScopeErr.{ScopeErr}
use Rattle.pt_scopes.specs.Mentions.{places_params, places_formals, places_named_parameter, places_opt}
use Rattle.pt_scopes.specs.Names.{mangled}
use Rattle.pt_scopes.specs.Places.{Part, ◌⨾◌, block, comprehension, class_context, function_context, generator_context, comprehension_context, in_class, in_function, in_generator, in_comprehension, mention, nothing}
use Rattle.pt_scopes.specs.Refusals.{fault, fault_at, first_fault, or_else, is_parameter}
use Rattle.pt_scopes.specs.Scope.{is_of}
use Rattle.pt_tree.specs.declared.expression.NamedParameter.{NamedParameter}
use Rattle.pt_tree.specs.Syntax as S
use Rattle.pt_tree.specs.Syntax.{Name, Params, Formals}
use Rattle.sem_names.specs.BlockNames.{formal_names, named, param_names}
use Rattle.law_files.proofs.code_files.Each.{split, both, weaken}

-- a later parameter isn't this one again
abbrev NotAgain : Mention → Mention → Type 0
NotAgain m p = is_parameter p.role ≡ true → (is_of p.region p.name m && is_parameter m.role) ≡ false

abbrev pub Sound : List Mention → Type 0
Sound [] = Unit {0}
Sound (m ∷ ms) = AllByRecursion (NotAgain m) ms × Sound ms

abbrev Across : List Mention → List Mention → Type 0
Across xs ys = AllByRecursion (λ m. AllByRecursion (NotAgain m) ys) xs

split_sound : (xs ys : List Mention) → Sound (xs ++ ys) → Sound xs × (Sound ys × Across xs ys)
split_sound [] ys h = (tt, (h, tt))
split_sound (x ∷ xs) ys h =
    let rest = split_sound xs ys h.1 in
    let first = split (NotAgain x) xs ys h.0 in
    ((first.0, rest.0), (rest.1.0, (first.1, rest.1.1)))

-- of a script

or_none : (o p : Option ScopeErr) → or_else o p ≡ None → (o ≡ None) × (p ≡ None)
or_none None p is = (refl, is)
or_none (Some e) p is = absurd (let same : Some e ≡ None = is in cc)

not_true : (b : Bool) → (b ≡ true → ⊥) → b ≡ false
not_true true h = absurd (h refl)
not_true false h = refl

once_by : (b : Bool) (e : ScopeErr) → (if b then Some e else None) ≡ None → b ≡ false
once_by true e is = absurd (let same : Some e ≡ None = is in cc)
once_by false e is = refl

none_earlier : (o : Bool) (e : Earlier) (m : Mention) (r : Role) → is_parameter r ≡ true → fault o e m r ≡ None → e.parameter ≡ false
none_earlier o e m Parameter h is = once_by e.parameter _ is
none_earlier o e m Read h is = absurd (let same : false ≡ true = h in cc)
none_earlier o e m Bind h is = absurd (let same : false ≡ true = h in cc)
none_earlier o e m Global h is = absurd (let same : false ≡ true = h in cc)
none_earlier o e m Nonlocal h is = absurd (let same : false ≡ true = h in cc)
none_earlier o e m Misplaced h is = absurd (let same : false ≡ true = h in cc)

any_front : (f : Mention → Bool) (xs ys : List Mention) → list_any f xs ≡ true → list_any f (xs ++ ys) ≡ true
any_front f [] ys is = absurd (let same : false ≡ true = is in cc)
any_front f (x ∷ xs) ys is = by (f x) refl (any_front f xs ys) is
  where
    by : (b : Bool) → f x ≡ b → (list_any f xs ≡ true → list_any f (xs ++ ys) ≡ true) → (b || list_any f xs) ≡ true → (b || list_any f (xs ++ ys)) ≡ true
    by true e rest h = refl
    by false e rest h = rest h

any_end : (f : Mention → Bool) (xs : List Mention) (m : Mention) → f m ≡ true → list_any f (xs ++ m ∷ []) ≡ true
any_end f [] m is = ap (λ (b : Bool). b || false) is
any_end f (x ∷ xs) m is = by (f x) (any_end f xs m is)
  where
    by : (b : Bool) → list_any f (xs ++ m ∷ []) ≡ true → (b || list_any f (xs ++ m ∷ [])) ≡ true
    by true h = refl
    by false h = h

module _ (rs : List Region) (look : Name → ℕ → Facts) where
  not_again : (m p : Mention) (before : List Mention) → ((f : Mention → Bool) → f m ≡ true → list_any f before ≡ true)
      → fault_at rs look before p ≡ None → NotAgain m p
  not_again m p before among is h =
      let none = none_earlier _ _ p p.role h is in
      not_true (is_of p.region p.name m && is_parameter m.role)
      (λ e. let found = among (λ q. is_of p.region p.name q && is_parameter q.role) e in let same : true ≡ false = sym found ∙ none in cc)

  none_again : (m : Mention) (before ms : List Mention) → ((f : Mention → Bool) → f m ≡ true → list_any f before ≡ true)
      → first_fault rs look before ms ≡ None → AllByRecursion (NotAgain m) ms
  none_again m before [] among is = tt
  none_again m before (p ∷ ps) among is =
      let none = or_none (fault_at rs look before p) (first_fault rs look (before ++ p ∷ []) ps) is in (
        not_again m p before among none.0,
        none_again m (before ++ p ∷ []) ps (λ f e. any_front f before (p ∷ []) (among f e)) none.1,
      )

  pub all_sound : (before ms : List Mention) → first_fault rs look before ms ≡ None → Sound ms
  all_sound before [] is = tt
  all_sound before (m ∷ ms) is =
      let none = or_none (fault_at rs look before m) (first_fault rs look (before ++ m ∷ []) ms) is in
      (none_again m (before ++ m ∷ []) ms (λ f e. any_end f before m e) none.1, all_sound (before ++ m ∷ []) ms none.1)

-- parts, before which some regions start

abbrev pub SoundPart : Part → Type 0
SoundPart f = (n : ℕ) × Sound (f n).mentions

pub split_part : (f g : Part) → SoundPart (f ⨾ g) → SoundPart f × SoundPart g
unfolding ◌⨾◌
split_part f g p =
    let parts = split_sound (f p.0).mentions (g (p.0 + length (f p.0).regions)).mentions p.1 in
    ((p.0, parts.0), (p.0 + length (f p.0).regions, parts.1.0))

pub into_function : (a : Context) (inside : Context → Part) → SoundPart (in_function a inside) → (r : ℕ) × SoundPart (inside (function_context r))
unfolding in_function
into_function a inside p = (p.0, (split_part (block Function a) (inside (function_context p.0)) (p.0, p.1)).1)

pub into_generator : (a : Context) (inside : Context → Part) → SoundPart (in_generator a inside) → (r : ℕ) × SoundPart (inside (generator_context r))
unfolding in_generator
into_generator a inside p = (p.0, (split_part (block Function a) (inside (generator_context p.0)) (p.0, p.1)).1)

pub into_class : (a : Context) (inside : Context → Part) → SoundPart (in_class a inside) → (r : ℕ) × SoundPart (inside (class_context r))
unfolding in_class
into_class a inside p = (p.0, (split_part (block Class a) (inside (class_context p.0)) (p.0, p.1)).1)

pub into_comprehension : (a : Context) (inside : Context → Part) → SoundPart (in_comprehension a inside)
    → (r : ℕ) × SoundPart (inside (comprehension_context a r))
unfolding in_comprehension
into_comprehension a inside p = (p.0, (split_part (comprehension a) (inside (comprehension_context a p.0)) (p.0, p.1)).1)

-- names, no two of which are the same

abbrev pub Differs : Name → List Name → Type 0
Differs x ys = AllByRecursion (λ y. x ≡ y → ⊥) ys

abbrev pub Apart : List Name → Type 0
Apart [] = Unit {0}
Apart (x ∷ xs) = Differs x xs × Apart xs

abbrev Differ : List Name → List Name → Type 0
Differ xs ys = AllByRecursion (λ x. Differs x ys) xs

apart_both : (xs ys : List Name) → Apart xs → Apart ys → Differ xs ys → Apart (xs ++ ys)
apart_both [] ys h k d = k
apart_both (x ∷ xs) ys h k d = (both (λ y. x ≡ y → ⊥) xs ys h.0 d.0, apart_both xs ys h.1 k d.1)

differ_both : (xs ys zs : List Name) → Differ xs ys → Differ xs zs → Differ xs (ys ++ zs)
differ_both [] ys zs h k = tt
differ_both (x ∷ xs) ys zs h k = (both (λ y. x ≡ y → ⊥) ys zs h.0 k.0, differ_both xs ys zs h.1 k.1)

differ_back : (xs ys : List Name) → Differ xs ys → Differ ys xs
differ_back xs [] h = tt
differ_back xs (y ∷ ys) h = (
  weaken (λ x. Differs x (y ∷ ys)) (λ x. y ≡ x → ⊥) (λ x d e. d.0 (sym e)) xs h,
  differ_back xs ys (weaken (λ x. Differs x (y ∷ ys)) (λ x. Differs x ys) (λ x d. d.1) xs h),
)

-- parameters

abbrev of_parameter : (region : ℕ) → Name → (line : ℕ) → Mention
of_parameter r x l = record { role = Parameter; region = r; name = x; line = record { 0 = l } }

same_again : (r : ℕ) (x y : Name) → (((r == r) && bytes_eq x y) && true) ≡ false → x ≡ y → ⊥
same_again r x y h e =
    let here : (r == r) ≡ true = eq-eqb r r refl in
    let names : bytes_eq x y ≡ true = (bytes_eq-Decides x y).1 e in
    let all : (((r == r) && bytes_eq x y) && true) ≡ true = ap (λ (b : Bool). (b && bytes_eq x y) && true) here ∙ ap (λ (b : Bool). (true && b) && true) names in
    let same : true ≡ false = sym all ∙ h in
    absurd (cc)

-- what a mention of a parameter differs from, where none of these mentions is it again
abbrev Later : (region : ℕ) → List Mention → List Name → Type 0
Later r ms xs = (x : Name) (l : ℕ) → AllByRecursion (NotAgain (of_parameter r x l)) ms → Differs x xs

module _ (a b : Context) (c : Name) where
  abbrev formals_of : Formals → ℕ → List Mention
  formals_of r n = (places_formals a b c r n).mentions

  abbrev named_of : Option NamedParameter → ℕ → List Mention
  named_of s n = (places_named_parameter b c s n).mentions

  formals_later : (r : Formals) (n : ℕ) → Later b.region (formals_of r n) (map (mangled c) (formal_names r))
  unfolding ◌⨾◌ nothing mention
  formals_later S.no_formals n x l h = tt
  formals_later (S.formal k y t d r) n x l h =
      let opt = places_opt a c d (n + 0) in
      let rest = split (NotAgain (of_parameter b.region x l)) opt.mentions (formals_of r (n + 0 + length opt.regions)) h.1 in
      (same_again b.region x (mangled c y) (h.0 refl), formals_later r (n + 0 + length opt.regions) x l rest.1)

  named_later : (s : Option NamedParameter) (n : ℕ) → Later b.region (named_of s n) (map (mangled c) (named s))
  unfolding nothing mention
  named_later None n x l h = tt
  named_later (Some p) n x l h = (same_again b.region x (mangled c p.name) (h.0 refl), tt)

  formals_apart : (r : Formals) (n : ℕ) → Sound (formals_of r n) → Apart (map (mangled c) (formal_names r))
  unfolding ◌⨾◌ nothing mention
  formals_apart S.no_formals n h = tt
  formals_apart (S.formal k y t d r) n h =
      let opt = places_opt a c d (n + 0) in
      let rest = split (NotAgain (of_parameter b.region (mangled c y) k)) opt.mentions (formals_of r (n + 0 + length opt.regions)) h.0 in
      let sound = split_sound opt.mentions (formals_of r (n + 0 + length opt.regions)) h.1 in
      (formals_later r (n + 0 + length opt.regions) (mangled c y) k rest.1, formals_apart r (n + 0 + length opt.regions) sound.1.0)

  formals_across : (r : Formals) (n : ℕ) (ms : List Mention) (xs : List Name) → Later b.region ms xs → Across (formals_of r n) ms
      → Differ (map (mangled c) (formal_names r)) xs
  unfolding ◌⨾◌ nothing mention
  formals_across S.no_formals n ms xs f h = tt
  formals_across (S.formal k y t d r) n ms xs f h =
      let opt = places_opt a c d (n + 0) in
      let rest = split (λ m. AllByRecursion (NotAgain m) ms) opt.mentions (formals_of r (n + 0 + length opt.regions)) h.1 in
      (f (mangled c y) k h.0, formals_across r (n + 0 + length opt.regions) ms xs f rest.1)

  named_across : (s : Option NamedParameter) (n : ℕ) (ms : List Mention) (xs : List Name) → Later b.region ms xs → Across (named_of s n) ms
      → Differ (map (mangled c) (named s)) xs
  unfolding nothing mention
  named_across None n ms xs f h = tt
  named_across (Some p) n ms xs f h = (f (mangled c p.name) p.line.0 h.0, tt)

  named_apart : (s : Option NamedParameter) → Apart (map (mangled c) (named s))
  named_apart None = tt
  named_apart (Some p) = (tt, tt)

-- in source order `*NAME` stands before the keyword-only parameters
pub params_once : (a b : Context) (c : Name) (ps : Params) → SoundPart (places_params a b c ps) → Apart (map (mangled c) (param_names ps))
unfolding ◌⨾◌
params_once a b c (S.parameters ps s ks d) (n, h) =
    let i = n + length (places_formals a b c ps n).regions in
    let j = i + length (places_named_parameter b c s i).regions in
    let k = j + length (places_formals a b c ks j).regions in
    let P = formals_of a b c ps n in
    let Q = named_of a b c s i in
    let K = formals_of a b c ks j in
    let D = named_of a b c d k in
    let one = split_sound P (Q ++ (K ++ D)) h in
    let two = split_sound Q (K ++ D) one.1.0 in
    let three = split_sound K D two.1.0 in
    let xs = map (mangled c) (formal_names ps) in
    let ys = map (mangled c) (formal_names ks) in
    let us = map (mangled c) (named s) in
    let vs = map (mangled c) (named d) in
    let to_s = named_later a b c s i in
    let to_k = formals_later a b c ks j in
    let to_d = named_later a b c d k in
    let xu : Differ xs us = formals_across a b c ps n (Q ++ (K ++ D)) us (λ x l g. to_s x l (split (NotAgain (of_parameter b.region x l)) Q (K ++ D) g).0) one.1.1 in
    let xy : Differ xs ys =
    formals_across a b c ps n (Q ++ (K ++ D)) ys
    (λ x l g. to_k x l (split (NotAgain (of_parameter b.region x l)) K D (split (NotAgain (of_parameter b.region x l)) Q (K ++ D) g).1).0) one.1.1 in
    let xv : Differ xs vs =
    formals_across a b c ps n (Q ++ (K ++ D)) vs
    (λ x l g. to_d x l (split (NotAgain (of_parameter b.region x l)) K D (split (NotAgain (of_parameter b.region x l)) Q (K ++ D) g).1).1) one.1.1 in
    let uy : Differ us ys = named_across a b c s i (K ++ D) ys (λ x l g. to_k x l (split (NotAgain (of_parameter b.region x l)) K D g).0) two.1.1 in
    let uv : Differ us vs = named_across a b c s i (K ++ D) vs (λ x l g. to_d x l (split (NotAgain (of_parameter b.region x l)) K D g).1) two.1.1 in
    let yv : Differ ys vs = formals_across a b c ks j D vs to_d three.1.1 in
    let A = apart_both xs ys (formals_apart a b c ps n one.0) (formals_apart a b c ks j three.0) xy in
    let B = apart_both (xs ++ ys) us A (named_apart a b c s) (both (λ x. Differs x us) xs ys xu (differ_back us ys uy)) in
    let C = apart_both ((xs ++ ys) ++ us) vs B (named_apart a b c d)
    (both (λ x. Differs x vs) (xs ++ ys) us (both (λ x. Differs x vs) xs ys xv yv) uv) in
    let first : map (mangled c) (formal_names ps ++ formal_names ks) ≡ xs ++ ys = map-append (mangled c) (formal_names ps) (formal_names ks) in
    let second : map (mangled c) ((formal_names ps ++ formal_names ks) ++ named s) ≡ (xs ++ ys) ++ us =
    map-append (mangled c) (formal_names ps ++ formal_names ks) (named s) ∙ ap (λ l. l ++ us) first in
    let third : map (mangled c) (((formal_names ps ++ formal_names ks) ++ named s) ++ named d) ≡ ((xs ++ ys) ++ us) ++ vs =
    map-append (mangled c) ((formal_names ps ++ formal_names ks) ++ named s) (named d) ∙ ap (λ l. l ++ vs) second in
    subst Apart (sym third) C
