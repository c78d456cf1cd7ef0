-- Maps by frame numbers beside lists of entries.
use Rattle.std.proofs.Common.{◌≡◌, ◌≢◌, ◌∙◌, arith, ℕ, true, false, cond, List, [], ◌∷◌, None, Some, refl, ap, sym}
use Rattle.std.specs.Prelude.{nat_eq}
use Rattle.std.specs.Ordering.{nat_cmp, eq_by_cmp}
use Rattle.std.specs.Cmp.{nat_cmp_total, unsigned_tied, eq_by_cmp_equiv}
use Rattle.std.specs.Map.{lookup}
use Rattle.std.specs.FinMap as map
use Rattle.std.specs.FinMap.{find, nat_cmp-IsAntisymmetric}

tied : (q k : ℕ) → eq_by_cmp nat_cmp q k ≡ nat_eq k q
tied q k = (eq_by_cmp_equiv nat_cmp_total).symm q k ∙ unsigned_tied k q

apart : (k j : ℕ) → j ≢ k → eq_by_cmp nat_cmp j k ≡ false
apart k j h = unsigned_tied j k ∙ grind arith

same : (k : ℕ) → eq_by_cmp nat_cmp k k ≡ true
same k = unsigned_tied k k ∙ grind arith

module _ {X : Type 0} where
  find-lookup : (k : ℕ) (es : List (ℕ × X)) → find nat_cmp k es ≡ lookup (nat_eq k) es
  find-lookup k [] = refl
  find-lookup k (e ∷ es) = ap (λ b. cond b (Some e.1) (find nat_cmp k es)) (unsigned_tied k e.0) ∙ ap (cond (nat_eq k e.0) (Some e.1)) (find-lookup k es)

  -- what is at a key of the map is at the key of the list
  pub get-lookup : (k : ℕ) (es : List (ℕ × X)) → map.get (map.from_entries {R = nat_cmp} es) k ≡ lookup (nat_eq k) es
  get-lookup k es = map.get-from_entries nat_cmp_total es k ∙ find-lookup k es

  -- a list that differs at one key is the map with another value there
  pub inserted : (es fs : List (ℕ × X)) (k : ℕ) (v : X) → ((q : ℕ) → lookup (nat_eq q) fs ≡ cond (nat_eq k q) (Some v) (lookup (nat_eq q) es))
      → map.from_entries {R = nat_cmp} fs ≡ map.insert (map.from_entries es) k v
  inserted es fs k v h = map.same_map nat_cmp_total nat_cmp-IsAntisymmetric _ _ (λ q.
      get-lookup q fs ∙ h q ∙ ap (cond (nat_eq k q) (Some v)) (sym (get-lookup q es))
      ∙ ap (λ b. cond b (Some v) (map.get (map.from_entries {R = nat_cmp} es) q)) (sym (tied q k)) ∙ sym (map.get-insert nat_cmp_total (map.from_entries es) k v q))

  pub removed : (es fs : List (ℕ × X)) (k : ℕ) → ((q : ℕ) → lookup (nat_eq q) fs ≡ cond (nat_eq k q) None (lookup (nat_eq q) es))
      → map.from_entries {R = nat_cmp} fs ≡ map.remove (map.from_entries es) k
  removed es fs k h = map.same_map nat_cmp_total nat_cmp-IsAntisymmetric _ _ (λ q.
      get-lookup q fs ∙ h q ∙ ap (cond (nat_eq k q) None) (sym (get-lookup q es))
      ∙ ap (λ b. cond b None (map.get (map.from_entries {R = nat_cmp} es) q)) (sym (tied q k)) ∙ sym (map.get-remove nat_cmp_total (map.from_entries es) k q))

  pub get-here : (m : map.FinMap nat_cmp X) (k : ℕ) (v : X) → map.get (map.insert m k v) k ≡ Some v
  get-here m k v = map.get-insert nat_cmp_total m k v k ∙ ap (λ b. cond b (Some v) (map.get m k)) (same k)

  pub get-apart : (m : map.FinMap nat_cmp X) (k : ℕ) (v : X) (j : ℕ) → j ≢ k → map.get (map.insert m k v) j ≡ map.get m j
  get-apart m k v j h = map.get-insert nat_cmp_total m k v j ∙ ap (λ b. cond b (Some v) (map.get m j)) (apart k j h)

  pub removed-here : (m : map.FinMap nat_cmp X) (k : ℕ) → map.get (map.remove m k) k ≡ None
  removed-here m k = map.get-remove nat_cmp_total m k k ∙ ap (λ b. cond b None (map.get m k)) (same k)

  pub removed-apart : (m : map.FinMap nat_cmp X) (k j : ℕ) → j ≢ k → map.get (map.remove m k) j ≡ map.get m j
  removed-apart m k j h = map.get-remove nat_cmp_total m k j ∙ ap (λ b. cond b None (map.get m j)) (apart k j h)
