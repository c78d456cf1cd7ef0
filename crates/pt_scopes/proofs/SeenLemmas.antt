-- What was said of names, and which are captured, after one mention more.
use Rattle.std.proofs.Common.{◌≡◌, ◌≢◌, ℕ, Bool, true, false, List, [], ◌∷◌, ◌++◌, Option, Some, None, refl, ap, sym, ◌∙◌, arith}
use Rattle.std.specs.Prelude.{◌&&◌, ◌||◌, ◌==◌, not, bytes_eq, is_some}
use Rattle.std.specs.List.{list_any}
use Rattle.std.proofs.lemmas.Bool.Decides.{nat_tests}
use Rattle.std.proofs.lemmas.Slice.Eq.{bytes_eq-Decides}
use Rattle.std.proofs.Math.Bool.{and-true, or-false}
use Rattle.pt_scopes.specs.declared.region.Earlier.{Earlier}
use Rattle.pt_scopes.specs.declared.region.Facts.{Facts}
use Rattle.pt_scopes.specs.declared.region.Mention.{Mention}
use Rattle.pt_scopes.specs.declared.region.Region.{Region}
use Rattle.pt_scopes.specs.declared.region.Role.{Role}
use Rattle.pt_scopes.specs.declared.scope.ScopeErr.{ScopeErr}
use Rattle.pt_scopes.specs.declared.region.Role.TheVariants.{Read, Bind, Parameter, Global, Nonlocal, Misplaced}
use Rattle.pt_scopes.specs.Refusals.{earlier, fault_at, first_fault, or_else, is_parameter, is_seat, is_use, is_used, seat_from}
use Rattle.pt_scopes.specs.Scope.{home_of, is_captured, is_free_use, is_global, is_just, is_nonlocal, is_of, meant}
use Rattle.pt_scopes.specs.Tables.{captured_too, seen}
use Rattle.pt_scopes.proofs.TableLemmas.{any-more, has-more, and-false}
use Rattle.pt_tree.specs.Syntax.{Name}

no-hit : (b h : Bool) → (b || (h && false)) ≡ b
no-hit b h = ap (λ (c : Bool). b || c) (and-false h) ∙ or-false b

hit : (b h : Bool) → (b || (h && true)) ≡ (b || h)
hit b h = ap (λ (c : Bool). b || c) (and-true h)

-- a mention of the name has that name
same_name : (m : Mention) (x : Name) → bytes_eq m.name x ≡ true → x ≡ m.name
same_name m x is = sym ((bytes_eq-Decides m.name x).0 is)

turned : (b u s : Bool) → ((b && u) && s) ≡ ((s && b) && u)
turned true true true = refl
turned true true false = refl
turned true false true = refl
turned true false false = refl
turned false u true = refl
turned false u false = refl

moved : (b j n : Bool) → ((b && j) && n) ≡ ((j && n) && b)
moved true true true = refl
moved true true false = refl
moved true false n = refl
moved false true true = refl
moved false true false = refl
moved false false n = refl

four : (p g n u p2 g2 n2 u2 : Bool) → p ≡ p2 → g ≡ g2 → n ≡ n2 → u ≡ u2 → record { parameter = p; global = g; nonlocal = n; used = u } ≡ (let e : Earlier = record { parameter = p2; global = g2; nonlocal = n2; used = u2 } in e)
four p g n u p2 g2 n2 u2 is_p is_g is_n is_u = λ i. record { parameter = is_p i; global = is_g i; nonlocal = is_n i; used = is_u i }

-- the use of a mention by its role
used-role : (ρ : Role) (rs : List Region) (look : Name → ℕ → Facts) (m : Mention) (x : Name) (r : ℕ) → (bytes_eq m.name x && is_use ρ && is_seat (seat_from rs (look x) m.region) r) ≡ (is_seat (seat_from rs (look m.name) m.region) r && bytes_eq m.name x && is_use ρ)
used-role ρ rs look m x r =
    elim (bytes_eq m.name x) as (λ b. bytes_eq m.name x ≡ b → ((b && is_use ρ) && is_seat (seat_from rs (look x) m.region) r) ≡ ((is_seat (seat_from rs (look m.name) m.region) r && b) && is_use ρ)) [
      | true ↦ λ is. ap (λ (y : Name). is_use ρ && is_seat (seat_from rs (look y) m.region) r) (same_name m x is) ∙ turned true (is_use ρ) (is_seat (seat_from rs (look m.name) m.region) r)
      | false ↦ λ is. turned false (is_use ρ) (is_seat (seat_from rs (look m.name) m.region) r)
    ] refl

seen-role : (ρ : Role) (rs : List Region) (look : Name → ℕ → Facts) (m : Mention) (x : Name) (r : ℕ) (e : Earlier)
    → record { parameter = e.parameter || (is_of r x m && is_parameter ρ); global = e.global || (is_of r x m && is_global ρ); nonlocal = e.nonlocal || (is_of r x m && is_nonlocal ρ); used = e.used || (is_seat (seat_from rs (look m.name) m.region) r && bytes_eq m.name x && is_use ρ) } ≡ seen rs look ρ m x r e
seen-role Read rs look m x r e = four _ _ _ _ _ _ _ _ (no-hit e.parameter (is_of r x m)) (no-hit e.global (is_of r x m)) (no-hit e.nonlocal (is_of r x m)) (hit e.used (is_seat (seat_from rs (look m.name) m.region) r && bytes_eq m.name x))
seen-role Bind rs look m x r e = four _ _ _ _ _ _ _ _ (no-hit e.parameter (is_of r x m)) (no-hit e.global (is_of r x m)) (no-hit e.nonlocal (is_of r x m)) (hit e.used (is_seat (seat_from rs (look m.name) m.region) r && bytes_eq m.name x))
seen-role Parameter rs look m x r e = four _ _ _ _ _ _ _ _ (hit e.parameter (is_of r x m)) (no-hit e.global (is_of r x m)) (no-hit e.nonlocal (is_of r x m)) (no-hit e.used (is_seat (seat_from rs (look m.name) m.region) r && bytes_eq m.name x))
seen-role Global rs look m x r e = four _ _ _ _ _ _ _ _ (no-hit e.parameter (is_of r x m)) (hit e.global (is_of r x m)) (no-hit e.nonlocal (is_of r x m)) (no-hit e.used (is_seat (seat_from rs (look m.name) m.region) r && bytes_eq m.name x))
seen-role Nonlocal rs look m x r e = four _ _ _ _ _ _ _ _ (no-hit e.parameter (is_of r x m)) (no-hit e.global (is_of r x m)) (hit e.nonlocal (is_of r x m)) (no-hit e.used (is_seat (seat_from rs (look m.name) m.region) r && bytes_eq m.name x))
seen-role Misplaced rs look m x r e = four _ _ _ _ _ _ _ _ (no-hit e.parameter (is_of r x m)) (no-hit e.global (is_of r x m)) (no-hit e.nonlocal (is_of r x m)) (no-hit e.used (is_seat (seat_from rs (look m.name) m.region) r && bytes_eq m.name x))

pub earlier-more : (rs : List Region) (look : Name → ℕ → Facts) (ms : List Mention) (m : Mention) (x : Name) (r : ℕ) → earlier rs look (ms ++ m ∷ []) x r ≡ seen rs look m.role m x r (earlier rs look ms x r)
earlier-more rs look ms m x r =
    four _ _ _ _ _ _ _ _ (has-more is_parameter ms m r x) (has-more is_global ms m r x) (has-more is_nonlocal ms m r x)
    (any-more (λ (k : Mention). is_used rs look r x k) ms m ∙ ap (λ (b : Bool). list_any (λ (k : Mention). is_used rs look r x k) ms || b) (used-role m.role rs look m x r))
    ∙ seen-role m.role rs look m x r (earlier rs look ms x r)

free-use : (rs : List Region) (look : Name → ℕ → Facts) (m : Mention) (x : Name) (r : ℕ) → is_free_use rs look r x m ≡ (is_just (meant rs (look m.name) m.region) r && not (home_of rs m.region == r) && bytes_eq m.name x)
free-use rs look m x r =
    elim (bytes_eq m.name x) as (λ b. bytes_eq m.name x ≡ b → ((b && is_just (meant rs (look x) m.region) r) && not (home_of rs m.region == r)) ≡ ((is_just (meant rs (look m.name) m.region) r && not (home_of rs m.region == r)) && b)) [
      | true ↦ λ is. ap (λ (y : Name). is_just (meant rs (look y) m.region) r && not (home_of rs m.region == r)) (same_name m x is) ∙ moved true (is_just (meant rs (look m.name) m.region) r) (not (home_of rs m.region == r))
      | false ↦ λ is. moved false (is_just (meant rs (look m.name) m.region) r) (not (home_of rs m.region == r))
    ] refl

pub captured-more : (rs : List Region) (look : Name → ℕ → Facts) (ms : List Mention) (m : Mention) (r : ℕ) (x : Name) → is_captured rs look (ms ++ m ∷ []) r x ≡ captured_too rs look m r x (is_captured rs look ms r x)
captured-more rs look ms m r x = any-more (λ (k : Mention). is_free_use rs look r x k) ms m ∙ ap (λ (b : Bool). is_captured rs look ms r x || b) (free-use rs look m x r)

never_both : (t b hit : Bool) → b ≡ (b || ((t && not t) && hit))
never_both true b hit = sym (or-false b)
never_both false b hit = sym (or-false b)

-- a name of the block itself isn't captured
pub not-captured : (q h r : ℕ) (b hit : Bool) → h ≡ q → b ≡ (b || ((q == r) && not (h == r) && hit))
not-captured q h r b hit is = never_both (q == r) b hit ∙ ap (λ (k : ℕ). b || (((q == r) && not (k == r)) && hit)) (sym is)

other_block : (q h r : ℕ) → h ≢ q → (q == r) ≡ true → (h == r) ≡ false
other_block q h r apart is = grind (arith, nat_tests)

pub captured-name : (q h r : ℕ) (b hit : Bool) → h ≢ q → (b || ((q == r) && hit)) ≡ (b || ((q == r) && not (h == r) && hit))
captured-name q h r b hit apart =
    elim (q == r) as (λ t. (q == r) ≡ t → (b || (t && hit)) ≡ (b || ((t && not (h == r)) && hit))) [
      | true ↦ λ is. ap (λ (k : Bool). b || (not k && hit)) (sym (other_block q h r apart is))
      | false ↦ λ is. refl
    ] refl

-- behind a mention without a fault
pub first_fault-further : (rs : List Region) (look : Name → ℕ → Facts) (before : List Mention) (m : Mention) (ms : List Mention) → fault_at rs look before m ≡ None → first_fault rs look before (m ∷ ms) ≡ first_fault rs look (before ++ m ∷ []) ms
first_fault-further rs look before m ms sound = ap (λ (o : Option ScopeErr). or_else o (first_fault rs look (before ++ m ∷ []) ms)) sound

pub none-there : (o : Option ScopeErr) → is_some o ≡ false → o ≡ None
none-there None is = refl
none-there (Some e) is = absurd (cc)
