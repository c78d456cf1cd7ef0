-- In a script without faults no `break` and no `continue` is misplaced.
use Rattle.std.proofs.Common.{◌≡◌, ℕ, ◌+◌, Bool, true, false, if◌then◌else◌, List, [], ◌∷◌, ◌++◌, length, Option, Some, None, refl}
use Rattle.pt_scopes.specs.declared.region.Context.{Context}
use Rattle.pt_scopes.specs.declared.region.Earlier.{Earlier}
use Rattle.pt_scopes.specs.declared.region.Facts.{Facts}
use Rattle.pt_scopes.specs.declared.region.Kind.TheVariants.{Class, Function}
use Rattle.pt_scopes.specs.declared.region.Mention.{Mention}
use Rattle.pt_scopes.specs.declared.region.Region.{Region}
use Rattle.pt_scopes.specs.declared.region.Role.{Role}
use Rattle.pt_scopes.specs.declared.region.Role.TheVariants.{Read, Bind, Parameter, Global, Nonlocal, Misplaced}
use Rattle.pt_scopes.specs.declared.scope.ScopeErr.{ScopeErr}
use Rattle.pt_scopes.specs.Places.{Part, ◌⨾◌, block, class_context, function_context, in_class, in_function, mention, misplaced, nothing}
use Rattle.pt_scopes.specs.Refusals.{fault, fault_at, first_fault, or_else}
use Rattle.pt_tree.specs.Syntax.{Name}

abbrev pub is_misplaced : Role → Bool
is_misplaced Read = false
is_misplaced Bind = false
is_misplaced Parameter = false
is_misplaced Global = false
is_misplaced Nonlocal = false
is_misplaced Misplaced = true

abbrev pub AllPlaced : List Mention → Type 0
AllPlaced [] = Unit {0}
AllPlaced (m ∷ ms) = (is_misplaced m.role ≡ false) × AllPlaced ms

split_list : (xs ys : List Mention) → AllPlaced (xs ++ ys) → AllPlaced xs × AllPlaced ys
split_list [] ys h = (tt, h)
split_list (x ∷ xs) ys h = let rest : AllPlaced xs × AllPlaced ys = split_list xs ys h.1 in ((h.0, rest.0), rest.1)

-- a part whose mentions are in their places, where some regions start before it
abbrev pub Placed : Part → Type 0
Placed f = (n : ℕ) × AllPlaced (f n).mentions

pub split : (f g : Part) → Placed (f ⨾ g) → Placed f × Placed g
unfolding ◌⨾◌
split f g p =
    let h : AllPlaced (f p.0).mentions × AllPlaced (g (p.0 + length (f p.0).regions)).mentions =
    split_list (f p.0).mentions (g (p.0 + length (f p.0).regions)).mentions p.1 in
    ((p.0, h.0), (p.0 + length (f p.0).regions, h.1))

pub into_function : (a : Context) (inside : Context → Part) → Placed (in_function a inside) → (r : ℕ) × Placed (inside (function_context r))
unfolding in_function
into_function a inside p = (p.0, (split (block Function a) (inside (function_context p.0)) (p.0, p.1)).1)

pub into_class : (a : Context) (inside : Context → Part) → Placed (in_class a inside) → (r : ℕ) × Placed (inside (class_context r))
unfolding in_class
into_class a inside p = (p.0, (split (block Class a) (inside (class_context p.0)) (p.0, p.1)).1)

-- a `break` or `continue` outside of loops is misplaced
pub in_a_loop : {X : Type 0} (b : Bool) (a : Context) (l : ℕ) → b ≡ false → Placed (if b then nothing else misplaced a l) → X
unfolding mention
in_a_loop true a l is p = absurd (let same : true ≡ false = is in cc)
in_a_loop false a l is p = absurd (let same : true ≡ false = p.1.0 in cc)

or_none : (o p : Option ScopeErr) → or_else o p ≡ None → (o ≡ None) × (p ≡ None)
or_none None p is = (refl, is)
or_none (Some e) p is = absurd (let same : Some e ≡ None = is in cc)

placed_role : (o : Bool) (e : Earlier) (m : Mention) (r : Role) → fault o e m r ≡ None → is_misplaced r ≡ false
placed_role o e m Read is = refl
placed_role o e m Bind is = refl
placed_role o e m Parameter is = refl
placed_role o e m Global is = refl
placed_role o e m Nonlocal is = refl
placed_role o e m Misplaced is = absurd (cc)

pub all_placed : (rs : List Region) (look : Name → ℕ → Facts) (before ms : List Mention) → first_fault rs look before ms ≡ None → AllPlaced ms
all_placed rs look before [] is = tt
all_placed rs look before (m ∷ ms) is =
    let none : (fault_at rs look before m ≡ None) × (first_fault rs look (before ++ m ∷ []) ms ≡ None) =
    or_none (fault_at rs look before m) (first_fault rs look (before ++ m ∷ []) ms) is in
    (placed_role _ _ m m.role none.0, all_placed rs look (before ++ m ∷ []) ms none.1)
