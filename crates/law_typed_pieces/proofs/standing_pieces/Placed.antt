-- In a script whose declarations have no fault no `yield` is outside of its place.
use Rattle.std.proofs.Common.{◌≡◌, ℕ, ◌+◌, Bool, true, false, if◌then◌else◌, List, [], ◌∷◌, ◌++◌, length, Option, Some, None, refl, sym, ap, ◌∙◌}
use Rattle.std.specs.List.{AllByRecursion}
use Rattle.pt_scopes.specs.declared.region.Context.{Context}
use Rattle.pt_scopes.specs.declared.region.Facts.{Facts}
use Rattle.pt_scopes.specs.declared.region.Kind.TheVariants.{Class, Function}
use Rattle.pt_scopes.specs.declared.region.Mention.{Mention}
use Rattle.pt_scopes.specs.declared.region.Region.{Region}
use Rattle.pt_scopes.specs.declared.region.Role.TheVariants.{Misplaced}
use Rattle.pt_scopes.specs.declared.scope.ScopeErr.{ScopeErr}
use Rattle.pt_scopes.specs.Places.{Part, ◌⨾◌, block, class_context, comprehension, comprehension_context, function_context, generator_context, in_class, in_comprehension, in_function, in_generator, mention, misplaced, nothing}
use Rattle.pt_scopes.specs.Refusals.{earlier, fault, fault_at, first_fault, is_offered, or_else}
use Rattle.pt_tree.specs.Syntax.{Name}
use Rattle.law_operands.proofs.law_files.code_files.Each.{split}

abbrev NotMisplaced : Mention → Type 0
NotMisplaced m = m.role ≡ Misplaced → ⊥

-- of a part, before which some regions start
abbrev pub Placed : Part → Type 0
Placed f = (n : ℕ) × AllByRecursion NotMisplaced (f n).mentions

pub split_part : (f g : Part) → Placed (f ⨾ g) → Placed f × Placed g
unfolding ◌⨾◌
split_part f g q =
    let m = q.0 + length (f q.0).regions in
    let parts = split NotMisplaced (f q.0).mentions (g m).mentions q.1 in
    ((q.0, parts.0), (m, parts.1))

pub into_function : (a : Context) (inside : Context → Part) → Placed (in_function a inside) → (r : ℕ) × Placed (inside (function_context r))
unfolding in_function
into_function a inside q = (q.0, (split_part (block Function a) (inside (function_context q.0)) (q.0, q.1)).1)

pub into_generator : (a : Context) (inside : Context → Part) → Placed (in_generator a inside) → (r : ℕ) × Placed (inside (generator_context r))
unfolding in_generator
into_generator a inside q = (q.0, (split_part (block Function a) (inside (generator_context q.0)) (q.0, q.1)).1)

pub into_class : (a : Context) (inside : Context → Part) → Placed (in_class a inside) → (r : ℕ) × Placed (inside (class_context r))
unfolding in_class
into_class a inside q = (q.0, (split_part (block Class a) (inside (class_context q.0)) (q.0, q.1)).1)

pub into_comprehension : (a : Context) (inside : Context → Part) → Placed (in_comprehension a inside) → (r : ℕ) × Placed (inside (comprehension_context a r))
unfolding in_comprehension
into_comprehension a inside q = (q.0, (split_part (comprehension a) (inside (comprehension_context a q.0)) (q.0, q.1)).1)

-- a `yield` stands in a function
pub gives_there : (b : Bool) (a : Context) (l : ℕ) → Placed (if b then nothing else misplaced a l) → b ≡ true
unfolding mention
gives_there true a l q = refl
gives_there false a l q = absurd (q.1.0 refl)

or_none : (o e : Option ScopeErr) → or_else o e ≡ None → (o ≡ None) × (e ≡ None)
or_none None e is = (refl, is)
or_none (Some x) e is = absurd (let no : Some x ≡ None = is in cc)

pub all_placed : (rs : List Region) (look : Name → ℕ → Facts) (before ms : List Mention) → first_fault rs look before ms ≡ None → AllByRecursion NotMisplaced ms
all_placed rs look before [] is = tt
all_placed rs look before (m ∷ ms) is =
    let none = or_none (fault_at rs look before m) (first_fault rs look (before ++ m ∷ []) ms) is in (
      λ same. absurd (let no : Some _ ≡ None = ap
          (λ r. fault (is_offered rs (look m.name) m.region) (earlier rs look before m.name m.region) m r) (sym same) ∙ none.0 in cc),
      all_placed rs look (before ++ m ∷ []) ms none.1,
    )
