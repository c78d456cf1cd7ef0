-- The tables of a script tell its scopes and its first fault.
use Rattle.std.proofs.Common.{◌≡◌, ℕ, Bool, List, [], Some, None, ap, sym, subst, ◌∙◌}
use Rattle.std.specs.Prelude.{slice_get}
use Rattle.pt_scopes.specs.declared.name_set.NameSet.{NameSet}
use Rattle.pt_scopes.specs.declared.region.Facts.{Facts}
use Rattle.pt_scopes.specs.declared.region.Mention.{Mention}
use Rattle.pt_scopes.specs.declared.region.Region.{Region}
use Rattle.pt_scopes.specs.declared.scope.ScopeErr.{ScopeErr}
use Rattle.pt_scopes.specs.declared.table.Names.{Names}
use Rattle.pt_scopes.specs.Places.{Places}
use Rattle.pt_scopes.specs.NameSets.{is_in}
use Rattle.pt_scopes.specs.Refusals.{fault_of, first_fault}
use Rattle.pt_scopes.specs.Resolved.{IsRefused, IsResolved}
use Rattle.pt_scopes.specs.Scope.{facts, is_captured, scope_at}
use Rattle.pt_scopes.specs.Tables.{facts_in}
use Rattle.pt_tree.specs.Syntax.{Name}

places-are : (g : Places) (rs : List Region) (bs : List ℕ) (ms : List Mention) → rs ≡ g.regions → bs ≡ g.blocks → ms ≡ g.mentions → record { regions = rs; blocks = bs; mentions = ms } ≡ g
places-are g rs bs ms is_r is_b is_m = λ i. record { regions = is_r i; blocks = is_b i; mentions = is_m i }

pub resolved : (g : Places) (rs : List Region) (bs : List ℕ) (ms : List Mention) (names : Names) (captured : NameSet) → rs ≡ g.regions → bs ≡ g.blocks → ms ≡ g.mentions
    → ((x : Name) (r : ℕ) → facts_in names x r ≡ facts ms x r) → ((r : ℕ) (x : Name) → is_in captured r x ≡ is_captured rs (facts_in names) ms r x) → first_fault rs (facts_in names) [] ms ≡ None
    → IsResolved g (record { blocks = bs; table = record { regions = rs; names = names }; captured = captured })
resolved g rs bs ms names captured is_r is_b is_m told caught sound =
    let look : facts_in names ≡ facts ms = λ i x r. told x r i in
    let cells : is_in captured ≡ is_captured rs (facts_in names) ms = λ i r x. caught r x i in
    subst (λ (h : Places). IsResolved h (record { blocks = bs; table = record { regions = rs; names = names }; captured = captured })) (places-are g rs bs ms is_r is_b is_m) (record {
      no_fault = ap (λ (l : Name → ℕ → Facts). first_fault rs l [] ms) (sym look) ∙ sound;
      scopes = λ b x. ap (λ (c : ℕ → Name → Bool). scope_at rs (facts_in names) c x (slice_get bs b)) cells ∙ ap (λ (l : Name → ℕ → Facts). scope_at rs l (is_captured rs l ms) x (slice_get bs b)) look;
    })

pub refused : (g : Places) (rs : List Region) (bs : List ℕ) (ms : List Mention) (names : Names) (e : ScopeErr) → rs ≡ g.regions → bs ≡ g.blocks → ms ≡ g.mentions
    → ((x : Name) (r : ℕ) → facts_in names x r ≡ facts ms x r) → first_fault rs (facts_in names) [] ms ≡ Some e → IsRefused g e
refused g rs bs ms names e is_r is_b is_m told found =
    let look : facts_in names ≡ facts ms = λ i x r. told x r i in
    ap (λ (h : Places). fault_of h) (sym (places-are g rs bs ms is_r is_b is_m)) ∙ ap (λ (l : Name → ℕ → Facts). first_fault rs l [] ms) (sym look) ∙ found

pub excluded : (g : Places) (e : ScopeErr) → fault_of g ≡ None → IsRefused g e → ⊥
excluded g e none is = let same : None ≡ Some e = sym none ∙ is in cc
