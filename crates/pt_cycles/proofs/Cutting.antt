-- Bounds are taken away, and vertices are put into a component.
use Rattle.std.proofs.Common.{◌≡◌, ℕ, ◌+◌, ◌<◌, ◌≤◌, List, [], ◌∷◌, ◌++◌, length, sym, ap, ◌∙◌, arith, subst, inl, inr, set}
use Rattle.std.proofs.lemmas.List.{length-set}
use Rattle.std.proofs.lemmas.List.Elements.{Contains-push_cases, Contains-append_left}
use Rattle.pt_cycles.specs.declared.search.State.{State}
use Rattle.pt_cycles.specs.declared.search.State.TheVariants.{Done}
use Rattle.pt_cycles.specs.declared.search.Cluster.{Cluster}
use Rattle.pt_cycles.specs.Search.{at, state_of, Rises, IsCut, CutSoFar, IsPut}
use Rattle.pt_cycles.proofs.Tables.{eq_or, below_or, none_in_empty, pushed_length, rises_left, rises_last, rises_none, state_here, state_other}

module _ (p : ℕ) (B₀ B : List Cluster) where
  pub cut_start : Rises B₀ → CutSoFar p B₀ B₀
  cut_start r = record { from = λ b c. c; into = λ b c. inl c; rises = r; short = omega arith }

  module _ (b : Cluster) (s : CutSoFar p B₀ (B ++ b ∷ [])) where
    pub cut_more : p < b.path → CutSoFar p B₀ B
    cut_more lt = record {
      from = λ d c. s.from d (Contains-append_left B (b ∷ []) d c);
      into = λ d c. elim (s.into d c) [
        | inl k ↦ elim (Contains-push_cases B b d k) [ inl h ↦ inl h | inr e ↦ inr (subst (λ x. p < x.path) e lt) ]
        | inr h ↦ inr h
      ];
      rises = rises_left B b s.rises;
      short = (let h = s.short in omega (arith, h, pushed_length B b));
    }

    pub cut_ends : b.path ≤ p → IsCut p B₀ (B ++ b ∷ [])
    cut_ends le = record {
      from = s.from;
      into = s.into;
      low = λ d c. elim (Contains-push_cases B b d c) [
        | inl h ↦ (let k : d.path < b.path = (rises_last B b s.rises d h).0 in omega (arith, k, le))
        | inr e ↦ subst (λ x. x.path ≤ p) e le
      ];
      rises = s.rises;
      short = s.short;
    }

pub cut_none : (p : ℕ) (B₀ : List Cluster) → CutSoFar p B₀ [] → IsCut p B₀ []
cut_none p B₀ s = record { from = s.from; into = s.into; low = λ b c. absurd (none_in_empty b c); rises = rises_none; short = omega arith }

module _ (k start : ℕ) (P : List ℕ) (T₀ T : List State) where
  pub put_start : IsPut k start start P T₀ T₀
  put_start = record {
    long = (let e : length T₀ ≡ length T₀ = omega arith in e);
    done = λ i le lt. absurd (omega arith);
    each = λ v. inl (let e : state_of T₀ v ≡ state_of T₀ v = cc in e);
  }

  pub put_more : (end : ℕ) → IsPut k start end P T₀ T → start ≤ end → at P end < length T → IsPut k start (end + 1) P T₀ (set T (at P end) (Done k))
  put_more end s le in_T = record {
    long = length-set T (at P end) (Done k) ∙ s.long;
    done = λ i a lt. elim (eq_or (at P i) (at P end)) [
      | inl e ↦ subst (λ x. state_of (set T (at P end) (Done k)) x ≡ Done k) (sym e) (state_here T (at P end) (Done k) in_T)
      | inr ne ↦ state_other T (at P end) (at P i) (Done k) ne ∙ s.done i a (below i a lt ne)
    ];
    each = λ v. elim (eq_or v (at P end)) [
      | inl e ↦ inr (record { place = end; from = le; before = omega arith; is = sym e })
      | inr ne ↦ elim (s.each v) [
        | inl h ↦ inl (state_other T (at P end) v (Done k) ne ∙ h)
        | inr x ↦ inr (record { place = x.place; from = x.from; before = (let h = x.before in omega (arith, h)); is = x.is })
      ]
    ];
  }
    where
      below : (i : ℕ) → start ≤ i → i < end + 1 → (at P i ≡ at P end → ⊥) → i < end
      below i a lt ne = elim (below_or i end) [ inl h ↦ h | inr h ↦ absurd (ne (ap (λ n. at P n) (let e : i ≡ end = omega arith in e))) ]
