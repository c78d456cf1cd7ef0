-- What the tables of names say after one mention more, and one step outwards.
use Rattle.std.proofs.Common.{◌≡◌, ℕ, zero, suc, ◌-◌, ◌<◌, Bool, true, false, List, [], ◌∷◌, ◌++◌, refl, ap, ◌∙◌, arith}
use Rattle.std.specs.Prelude.{◌&&◌, ◌||◌, slice_get}
use Rattle.std.specs.List.{list_any}
use Rattle.std.proofs.lemmas.List.Folds.{list_any-append}
use Rattle.std.proofs.Math.Bool.{and-true, or-false}
use Rattle.pt_scopes.specs.declared.region.Facts.{Facts}
use Rattle.pt_scopes.specs.declared.region.Mention.{Mention}
use Rattle.pt_scopes.specs.declared.region.Region.{Region}
use Rattle.pt_scopes.specs.declared.region.Role.{Role}
use Rattle.pt_scopes.specs.declared.region.Role.TheVariants.{Read, Bind, Parameter, Global, Nonlocal, Misplaced}
use Rattle.pt_scopes.specs.Refusals.{handed_at, seat}
use Rattle.pt_scopes.specs.Scope.{facts, has, is_binding, is_global, is_nonlocal, is_of, owner, settled, verdict_at}
use Rattle.pt_scopes.specs.Tables.{noted}
use Rattle.pt_tree.specs.Syntax.{Name}

pub and-false : (b : Bool) → (b && false) ≡ false
and-false true = refl
and-false false = refl

pub any-more : {X : Type 0} (p : X → Bool) (xs : List X) (x : X) → list_any p (xs ++ x ∷ []) ≡ (list_any p xs || p x)
any-more p xs x = list_any-append p xs (x ∷ []) ∙ ap (λ (b : Bool). list_any p xs || b) (or-false (p x))

pub has-more : (p : Role → Bool) (ms : List Mention) (m : Mention) (r : ℕ) (x : Name) → has p (ms ++ m ∷ []) r x ≡ (has p ms r x || (is_of r x m && p m.role))
has-more p ms m r x = any-more (λ (k : Mention). is_of r x k && p k.role) ms m

no-hit : (b h : Bool) → (b || (h && false)) ≡ b
no-hit b h = ap (λ (c : Bool). b || c) (and-false h) ∙ or-false b

hit : (b h : Bool) → (b || (h && true)) ≡ (b || h)
hit b h = ap (λ (c : Bool). b || c) (and-true h)

three : (b g n b2 g2 n2 : Bool) → b ≡ b2 → g ≡ g2 → n ≡ n2 → record { binds = b; global = g; nonlocal = n } ≡ (let f : Facts = record { binds = b2; global = g2; nonlocal = n2 } in f)
three b g n b2 g2 n2 is_b is_g is_n = λ i. record { binds = is_b i; global = is_g i; nonlocal = is_n i }

noted-role : (ρ : Role) (m : Mention) (x : Name) (r : ℕ) (f : Facts) → record { binds = f.binds || (is_of r x m && is_binding ρ); global = f.global || (is_of r x m && is_global ρ); nonlocal = f.nonlocal || (is_of r x m && is_nonlocal ρ) } ≡ noted ρ m x r f
noted-role Read m x r f = three _ _ _ _ _ _ (no-hit f.binds (is_of r x m)) (no-hit f.global (is_of r x m)) (no-hit f.nonlocal (is_of r x m))
noted-role Bind m x r f = three _ _ _ _ _ _ (hit f.binds (is_of r x m)) (no-hit f.global (is_of r x m)) (no-hit f.nonlocal (is_of r x m))
noted-role Parameter m x r f = three _ _ _ _ _ _ (hit f.binds (is_of r x m)) (no-hit f.global (is_of r x m)) (no-hit f.nonlocal (is_of r x m))
noted-role Global m x r f = three _ _ _ _ _ _ (no-hit f.binds (is_of r x m)) (hit f.global (is_of r x m)) (no-hit f.nonlocal (is_of r x m))
noted-role Nonlocal m x r f = three _ _ _ _ _ _ (no-hit f.binds (is_of r x m)) (no-hit f.global (is_of r x m)) (hit f.nonlocal (is_of r x m))
noted-role Misplaced m x r f = three _ _ _ _ _ _ (no-hit f.binds (is_of r x m)) (no-hit f.global (is_of r x m)) (no-hit f.nonlocal (is_of r x m))

pub facts-more : (ms : List Mention) (m : Mention) (x : Name) (r : ℕ) → facts (ms ++ m ∷ []) x r ≡ noted m.role m x r (facts ms x r)
facts-more ms m x r = three _ _ _ _ _ _ (has-more is_binding ms m r x) (has-more is_global ms m r x) (has-more is_nonlocal ms m r x) ∙ noted-role m.role m x r (facts ms x r)

pub owner-further : (n : ℕ) (rs : List Region) (look : ℕ → Facts) (r : ℕ) → 0 < n → owner n rs look r ≡ settled (verdict_at (look r) (slice_get rs r)) r (λ q. owner (n - 1) rs look q)
owner-further zero rs look r some = absurd (omega arith)
owner-further (suc n) rs look r some = let one_less : suc n - 1 ≡ n = omega arith in rw one_less

pub seat-further : (n : ℕ) (rs : List Region) (look : ℕ → Facts) (r : ℕ) → 0 < n → seat n rs look r ≡ settled (handed_at (look r) (slice_get rs r)) r (λ q. seat (n - 1) rs look q)
seat-further zero rs look r some = absurd (omega arith)
seat-further (suc n) rs look r some = let one_less : suc n - 1 ≡ n = omega arith in rw one_less
