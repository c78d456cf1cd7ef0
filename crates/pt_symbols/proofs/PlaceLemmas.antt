-- The tables of places tell the places; names with dots.
use Rattle.std.proofs.Common.{◌≡◌, ℕ, zero, suc, ◌-◌, ◌<◌, Bool, true, false, if◌then◌else◌, List, [], ◌∷◌, ◌++◌, Option, Some, None, refl, ap, sym, ◌∙◌, arith, append_assoc, eqb-true, eq-eqb}
use Rattle.std.specs.Prelude.{◌==◌, slice_get}
use Rattle.pt_scopes.specs.declared.region.Region.{Region}
use Rattle.pt_tree.specs.Syntax.{Name}
use Rattle.sem_names.specs.Naming.{dot, dotted}
use Rattle.sem_names.specs.Regions.{before, deeper, depth, further, outside, outside_comprehension}

pub dotted_all : (d : ℕ) (x : Name) → dotted d [] ++ x ≡ dotted d x
dotted_all zero x = refl
dotted_all (suc d) x = ap (λ (y : Name). dot ∷ y) (dotted_all d x)

pub depth_further : (n : ℕ) (rs : List Region) (r : ℕ) → 0 < n → depth n rs r ≡ deeper (outside_comprehension (slice_get rs r)) (λ q. depth (n - 1) rs q)
depth_further zero rs r some = absurd (omega arith)
depth_further (suc n) rs r some = let one_less : suc n - 1 ≡ n = omega arith in rw one_less

pub one_dot : (t : Name) (d : ℕ) → (t ++ dot ∷ []) ++ dotted d [] ≡ t ++ dotted (suc d) []
one_dot t d = append_assoc t (dot ∷ []) (dotted d [])

-- one step outwards, with a dot for a comprehension
pub dots_step : (n : ℕ) (rs : List Region) (r a : ℕ) (t u : Name) → 0 < n → Some a ≡ outside_comprehension (slice_get rs r) → u ≡ t ++ dot ∷ []
    → u ++ dotted (depth (n - 1) rs a) [] ≡ t ++ dotted (depth n rs r) []
dots_step n rs r a t u some is more =
    ap (λ (v : Name). v ++ dotted (depth (n - 1) rs a) []) more
    ∙ one_dot t (depth (n - 1) rs a)
    ∙ ap (λ (d : ℕ). t ++ dotted d []) (ap (λ (o : Option ℕ). deeper o (λ q. depth (n - 1) rs q)) is ∙ sym (depth_further n rs r some))

-- the regions that are left on the way to another one

before_further : (n : ℕ) (rs : List Region) (e r : ℕ) → 0 < n
    → before n rs e r ≡ (if r == e then [] else r ∷ further (outside (slice_get rs r)) (λ q. before (n - 1) rs e q))
before_further zero rs e r some = absurd (omega arith)
before_further (suc n) rs e r some = let one_less : suc n - 1 ≡ n = omega arith in rw one_less

other_is : (r e : ℕ) (b : Bool) → (r == e) ≡ b → (r ≡ e → ⊥) → b ≡ false
other_is r e true same apart = absurd (apart (eqb-true r e same))
other_is r e false same apart = refl

apart_on : (n : ℕ) (rs : List Region) (e r : ℕ) → 0 < n → (r ≡ e → ⊥)
    → before n rs e r ≡ r ∷ further (outside (slice_get rs r)) (λ q. before (n - 1) rs e q)
apart_on n rs e r some apart =
    before_further n rs e r some
    ∙ ap (λ (b : Bool). if b then [] else r ∷ further (outside (slice_get rs r)) (λ q. before (n - 1) rs e q)) (other_is r e (r == e) refl apart)

pub way_step : (n : ℕ) (rs : List Region) (e r a : ℕ) → 0 < n → (r ≡ e → ⊥) → Some a ≡ outside (slice_get rs r) → before n rs e r ≡ r ∷ before (n - 1) rs e a
way_step n rs e r a some apart is =
    apart_on n rs e r some apart ∙ ap (λ (o : Option ℕ). r ∷ further o (λ q. before (n - 1) rs e q)) (sym is)

pub way_last : (n : ℕ) (rs : List Region) (e r : ℕ) → 0 < n → (r ≡ e → ⊥) → None ≡ outside (slice_get rs r) → before n rs e r ≡ r ∷ []
way_last n rs e r some apart is =
    apart_on n rs e r some apart ∙ ap (λ (o : Option ℕ). r ∷ further o (λ q. before (n - 1) rs e q)) (sym is)

pub way_end : (n : ℕ) (rs : List Region) (e r : ℕ) → 0 < n → r ≡ e → before n rs e r ≡ []
way_end n rs e r some same =
    before_further n rs e r some
    ∙ ap (λ (b : Bool). if b then [] else r ∷ further (outside (slice_get rs r)) (λ q. before (n - 1) rs e q)) (eq-eqb r e same)
