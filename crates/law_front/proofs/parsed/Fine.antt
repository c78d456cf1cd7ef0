-- When each name that a part of a script mentions passes a test.
use Rattle.std.proofs.Common.{◌≡◌, ℕ, ◌+◌, Bool, true, false, List, [], ◌∷◌, ◌++◌, length}
use Rattle.std.specs.Prelude.{if◌then◌else◌}
use Rattle.std.specs.List.{AllByRecursion}
use Rattle.pt_scopes.specs.declared.region.Context.{Context}
use Rattle.pt_scopes.specs.declared.region.Kind.{Kind}
use Rattle.pt_scopes.specs.declared.region.Kind.TheVariants.{Function, Class}
use Rattle.pt_scopes.specs.declared.region.Mention.{Mention}
use Rattle.pt_scopes.specs.declared.region.Role.{Role}
use Rattle.pt_scopes.specs.Places.{Part, ◌⨾◌, nothing, mention, block, comprehension, in_function, in_generator, in_class, in_comprehension, function_context, generator_context, class_context, comprehension_context}
use Rattle.pt_scopes.specs.Names.{mangled}
use Rattle.pt_scopes.specs.Mentions.{tells, gives, turns}
use Rattle.pt_tree.specs.Syntax.{Name}

both-all : {A : Type 0} (P : A → Type 0) (xs ys : List A) → AllByRecursion P xs → AllByRecursion P ys → AllByRecursion P (xs ++ ys)
both-all P [] ys h k = k
both-all P (x ∷ xs) ys h k = (h.0, both-all P xs ys h.1 k)

module _ (is_mentioned : Name → Bool) where
  abbrev pub Passes : List Mention → Type 0
  Passes ms = AllByRecursion (λ (m : Mention). is_mentioned m.name ≡ true) ms

  pub record Fine (f : Part) : Type 0 where
    pub all : (before : ℕ) → Passes (f before).mentions

  pub none : Fine nothing
  unfolding nothing
  none = record { all = λ n. tt }

  pub two : {f g : Part} → Fine f → Fine g → Fine (f ⨾ g)
  unfolding ◌⨾◌
  two {f} {g} p q = record {
    all = λ n. both-all (λ (m : Mention). is_mentioned m.name ≡ true) (f n).mentions (g (n + length (f n).regions)).mentions
        (p.all n) (q.all (n + length (f n).regions));
  }

  pub three : {f g h : Part} → Fine f → Fine g → Fine h → Fine (f ⨾ g ⨾ h)
  three p q r = two p (two q r)

  pub four : {f g h k : Part} → Fine f → Fine g → Fine h → Fine k → Fine (f ⨾ g ⨾ h ⨾ k)
  four p q r s = two p (three q r s)

  a-block : (k : Kind) (a : Context) → Fine (block k a)
  unfolding block
  a-block k a = record { all = λ n. tt }

  a-comprehension : (a : Context) → Fine (comprehension a)
  unfolding comprehension
  a-comprehension a = record { all = λ n. tt }

  pub in-function : (a : Context) (f : Context → Part) → ((b : Context) → Fine (f b)) → Fine (in_function a f)
  unfolding in_function
  in-function a f h = record { all = λ n. (two (a-block Function a) (h (function_context n))).all n }

  pub in-generator : (a : Context) (f : Context → Part) → ((b : Context) → Fine (f b)) → Fine (in_generator a f)
  unfolding in_generator
  in-generator a f h = record { all = λ n. (two (a-block Function a) (h (generator_context n))).all n }

  pub in-class : (a : Context) (f : Context → Part) → ((b : Context) → Fine (f b)) → Fine (in_class a f)
  unfolding in_class
  in-class a f h = record { all = λ n. (two (a-block Class a) (h (class_context n))).all n }

  pub in-comprehension : (a : Context) (f : Context → Part) → ((b : Context) → Fine (f b)) → Fine (in_comprehension a f)
  unfolding in_comprehension
  in-comprehension a f h = record { all = λ n. (two (a-comprehension a) (h (comprehension_context a n))).all n }

  a-mention : (r : Role) (a : Context) (x : Name) (l : ℕ) → is_mentioned x ≡ true → Fine (mention r a x l)
  unfolding mention
  a-mention r a x l h = record { all = λ n. (h, tt) }

  either : (b : Bool) {f g : Part} → Fine f → Fine g → Fine (if b then f else g)
  either true p q = p
  either false p q = q

  module _ (empty : is_mentioned [] ≡ true) where
    pub giving : (a : Context) (l : ℕ) → Fine (gives a l)
    giving a l = either a.may_give none (a-mention _ a [] l empty)

    pub turning : (a : Context) (l : ℕ) → Fine (turns a l)
    turning a l = either a.in_loop none (a-mention _ a [] l empty)

  module _ (is_name : Name → Bool) (mangles : (class x : Name) → is_name x ≡ true → is_mentioned (mangled class x) ≡ true) where
    pub told : (r : Role) (a : Context) (c x : Name) (l : ℕ) → is_name x ≡ true → Fine (tells r a c x l)
    told r a c x l h = a-mention r a (mangled c x) l (mangles c x h)
