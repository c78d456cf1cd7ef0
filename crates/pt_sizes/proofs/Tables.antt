-- Tables of what is known of places.
use Rattle.std.proofs.Common.{◌≡◌, ℕ, ◌+◌, ◌<◌, ◌≤◌, List, [], ◌∷◌, length, Option, Some, None, refl, sym, ap, ◌∙◌, arith, zero, suc, ◌⊎◌, inl, inr, get_or, set, replicate}
use Rattle.std.proofs.lemmas.List.{get_or-set_same}
use Rattle.std.proofs.lemmas.Option.{slice_get-get_or, slice_get_read, same_Some}
use Rattle.std.specs.Prelude.{Contains}
use Rattle.pt_sizes.specs.Flow.{entry}

pub below_or : (q l : ℕ) → q < l + 1 → (q < l) ⊎ (q ≡ l)
below_or zero zero h = inr refl
below_or zero (suc l) h = inl (omega arith)
below_or (suc q) zero h = absurd (omega arith)
below_or (suc q) (suc l) h = elim (below_or q l (omega arith)) [ inl a ↦ inl (omega arith) | inr a ↦ inr (ap (λ n. suc n) a) ]

pub none_in_empty : {X : Type 0} (x : X) → Contains [] x → ⊥
none_in_empty x (k, lt, is) = absurd (omega arith)

pub some_or_none : {X : Type 0} (x : X) → Some x ≡ None → ⊥
some_or_none x h = cc

module _ {X : Type 0} where
  pub entry_none : (n q : ℕ) → entry (replicate {A = Option X} n None) q ≡ None
  entry_none zero q = refl
  entry_none (suc n) zero = refl
  entry_none (suc n) (suc q) = entry_none n q

  pub entry_in : (T : List (Option X)) (q : ℕ) (s : X) → entry T q ≡ Some s → q < length T
  entry_in [] q s h = absurd (cc)
  entry_in (x ∷ T) zero s h = omega arith
  entry_in (x ∷ T) (suc q) s h = omega (arith, entry_in T q s h)

  pub entry_out : (T : List (Option X)) (q : ℕ) → length T ≤ q → entry T q ≡ None
  entry_out [] q h = refl
  entry_out (x ∷ T) zero h = absurd (omega arith)
  entry_out (x ∷ T) (suc q) h = entry_out T q (omega arith)

  pub entry_after : (T : List (Option X)) (q : ℕ) (z : X) (r : ℕ) (s : X) → entry (set T q (Some z)) r ≡ Some s → (entry T r ≡ Some s) ⊎ ((r ≡ q) × (s ≡ z))
  entry_after [] q z r s h = inl h
  entry_after (x ∷ T) zero z zero s h = inr (refl, sym (same_Some _ _ h))
  entry_after (x ∷ T) zero z (suc r) s h = inl h
  entry_after (x ∷ T) (suc q) z zero s h = inl h
  entry_after (x ∷ T) (suc q) z (suc r) s h = elim (entry_after T q z r s h) [ inl a ↦ inl a | inr (a, b) ↦ inr (ap (λ n. suc n) a, b) ]

  pub entry_grow : (T : List (Option X)) (q : ℕ) (z : X) (r : ℕ) (s : X) → entry T q ≡ None → entry T r ≡ Some s → entry (set T q (Some z)) r ≡ Some s
  entry_grow [] q z r s e h = h
  entry_grow (x ∷ T) zero z zero s e h = absurd (some_or_none s (sym h ∙ e))
  entry_grow (x ∷ T) zero z (suc r) s e h = h
  entry_grow (x ∷ T) (suc q) z zero s e h = h
  entry_grow (x ∷ T) (suc q) z (suc r) s e h = entry_grow T q z r s e h

  pub entry_here : (T : List (Option X)) (q : ℕ) (z : X) → q < length T → entry (set T q (Some z)) q ≡ Some z
  entry_here T q z h = get_or-set_same T q (Some z) None h

  -- the entry that an index read
  pub entry_is : (T : List (Option X)) (q : ℕ) (o p : Option X) → q < length T → o ≡ get_or T q o → o ≡ p → entry T q ≡ p
  entry_is T q o p i h e = same_Some _ _ (sym (slice_get-get_or T q None i) ∙ slice_get_read T (length T) q o refl i h) ∙ e
