-- The names that a comprehension binds are names of its block alone.
use Rattle.std.proofs.Common.{◌≡◌, ℕ, Bool, true, false, not, ◌&&◌, if◌then◌else◌, List, [], ◌∷◌, map, length, Option, Some, None, refl, sym, ap, ◌∙◌, subst, eq-eqb}
use Rattle.std.specs.Prelude.{slice_get}
use Rattle.std.specs.Option.{unwrap_or}
use Rattle.pt_scopes.specs.declared.region.Context.{Context}
use Rattle.pt_scopes.specs.declared.region.Facts.{Facts}
use Rattle.pt_scopes.specs.declared.region.Kind.{Kind}
use Rattle.pt_scopes.specs.declared.region.Kind.TheVariants.{Comprehension}
use Rattle.pt_scopes.specs.declared.region.Region.{Region}
use Rattle.pt_scopes.specs.declared.region.Verdict.TheVariants.{Outwards, Own}
use Rattle.pt_scopes.specs.Names.{mangled}
use Rattle.pt_scopes.specs.Places.{Places}
use Rattle.pt_scopes.specs.Scope.{facts, has, home_of, is_binding, is_global, is_nonlocal, owner, owner_from, owns, settled, verdict, verdict_at}
use Rattle.pt_tree.specs.Syntax.{Name}
use Rattle.sem_control.specs.control.Turn.{Variable}
use Rattle.sem_names.specs.Around.{around_by}
use Rattle.sem_names.specs.Naming.{cell_or_local, comprehension_in, is_captured, of_owner, owned, seen, seen_if, variable}
use Rattle.sem_names.specs.Regions.{numbered}
use Rattle.sem_names.specs.Script.{Naming}
use Rattle.sem_control.specs.control.Turn as T
use Rattle.law_files.specs.sem_compile.stm_pieces.Names.{AllOwn, IsOwn}
use Rattle.law_names.proofs.next_numbers.Claims.{Every}
use Rattle.law_operands.proofs.piece_names.Standing.{IsAt, IsComprehension}

-- no name is declared in a comprehension
pub record Undeclared (g : Naming) (r : ℕ) : Type 0 where
  pub global : (x : Name) → has is_global g.places.mentions r x ≡ false
  pub nonlocal : (x : Name) → has is_nonlocal g.places.mentions r x ≡ false

-- what is known of all comprehensions of a script: they are found by the numbers of their Nexts, and no name is declared in them
pub record Comprehends (g : Naming) : Type 0 where
  pub found : (r n : ℕ) (here : Region) → slice_get g.places.regions r ≡ Some here → slice_get g.nexts r ≡ Some (Some n)
      → numbered g.places.regions g.nexts here.home n ≡ Some r
  pub undeclared : (r : ℕ) (here : Region) → slice_get g.places.regions r ≡ Some here → here.kind ≡ Comprehension → Undeclared g r

owns_is : (b g n : Bool) → b ≡ true → g ≡ false → n ≡ false → (b && not g && not n) ≡ true
owns_is b g n is other never = ap (λ c. c && not g && not n) is ∙ ap (λ c. not c && not n) other ∙ ap (λ c. not c) never

owner_here : (rs : List Region) (look : ℕ → Facts) (r : ℕ) (here : Region) → slice_get rs r ≡ Some here → here.kind ≡ Comprehension → owns (look r) ≡ true
    → owner_from rs look r ≡ Some r
owner_here [] look r here at is own = absurd (let no : None ≡ Some here = at in cc)
owner_here (q ∷ rs) look r here at is own =
    ap (λ (o : Option Region). settled (verdict_at (look r) o) r (λ p. owner (length rs) (q ∷ rs) look p)) at
    ∙ ap (λ (k : Kind). settled (verdict (look r) here k) r (λ p. owner (length rs) (q ∷ rs) look p)) is
    ∙ ap (λ (b : Bool). settled (if b then Own else Outwards here.around) r (λ p. owner (length rs) (q ∷ rs) look p)) own

kept : (b : Bool) → IsOwn (cell_or_local b)
kept true = tt
kept false = tt

-- a name that its region owns is the block's
owned_is : (g : Places) (r : ℕ) (x : Name) → owner_from g.regions (facts g.mentions x) r ≡ Some r → IsOwn (seen g r x).scope
owned_is g r x is =
    let h = home_of g.regions r in
    let here : seen g r x ≡ owned g r x =
    ap (λ o. of_owner g h x o) is ∙ ap (λ (b : Bool). if b then owned g r x else variable T.free x) (eq-eqb h h refl) in
    subst (λ (v : Variable). IsOwn v.scope) (sym here) (kept (is_captured g r x))

module _ {V : Type 0} (null : V) (g : Naming) (all : Comprehends g) where
  own_name : (a : Context) (c : Name) (n : ℕ) (names : List Name) (B : ℕ) → IsComprehension g a c (Some n) names B → (b : ℕ) → IsAt g b a.home c
      → (within : List ℕ) (x : Name) → has is_binding g.places.mentions B (mangled c x) ≡ true → IsOwn ((around_by null g b).variable (n ∷ within) x).scope
  own_name a c n names B k b at within x binds =
      let p = g.places in
      let y = mangled c x in
      let none = all.undeclared B (record { kind = Comprehension; around = a.region; home = a.home }) k.region refl in
      let own : owns (facts p.mentions y B) ≡ true = owns_is _ _ _ binds (none.global y) (none.nonlocal y) in
      let owner : owner_from p.regions (facts p.mentions y) B ≡ Some B =
      owner_here p.regions (facts p.mentions y) B (record { kind = Comprehension; around = a.region; home = a.home }) k.region refl own in
      let number : numbered p.regions g.nexts a.home n ≡ Some B = all.found B n (record { kind = Comprehension; around = a.region; home = a.home }) k.region k.next in
      let place : comprehension_in g (slice_get p.blocks b) n ≡ Some B =
      ap (λ o. comprehension_in g o n) at.region ∙ ap (λ o. Some (unwrap_or o a.home)) number in
      let is : (around_by null g b).variable (n ∷ within) x ≡ seen p B y =
      ap (λ z. seen_if p (comprehension_in g (slice_get p.blocks b) n) z) (at.spelled x) ∙ ap (λ o. seen_if p o y) place in
      subst (λ (v : Variable). IsOwn v.scope) (sym is) (owned_is p B y owner)

  pub own_names : (a : Context) (c : Name) (n : ℕ) (all_names : List Name) (B : ℕ) → IsComprehension g a c (Some n) all_names B → (b : ℕ) → IsAt g b a.home c
      → (within : List ℕ) (xs : List Name) → Every (λ x. has is_binding g.places.mentions B (mangled c x) ≡ true) xs
      → AllOwn (map ((around_by null g b).variable (n ∷ within)) xs)
  own_names a c n names B k b at within [] h = tt
  own_names a c n names B k b at within (x ∷ xs) h =
      (own_name a c n names B k b at within x h.0, own_names a c n names B k b at within xs h.1)
