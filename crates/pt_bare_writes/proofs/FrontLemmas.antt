-- What is written first, step by step.
use Rattle.std.proofs.Common.{◌≡◌, ℕ, List, [], ◌++◌, refl, sym, ap, ◌∙◌, subst, append_assoc}
use Rattle.sem_run.specs.run.Machine.{BlockId, Machine}
use Rattle.sem_run.specs.run.Host.{Host}
use Rattle.sem_run.specs.run.Run.{Write}
use Rattle.pt_bare_runs.specs.Strides.{State, Ending, Stride, goes, ends, stride, Outcome, outcome_behind, Comes, ends_so, goes_on}
use Rattle.pt_bare_writes.specs.Fronts.{written_by, WritesFirst, within, beyond, OutcomesBeginSo}

module _ {S N V W : Type 0} (machine : Machine S V) (host : Host N V W) (n : ℕ) where
  abbrev BeginsWith : List Write → List Write → Type 0
  BeginsWith all ws = (rest : List Write) × (all ≡ ws ++ rest)

  -- of a stride itself
  own : (x : Stride S N V W) (o : Outcome V W) → Comes machine host n x o → (ws rest : List Write) → written_by x ≡ ws ++ rest → BeginsWith o.written ws
  own _ _ (ends_so vs u e) ws rest is = (rest, is)
  own _ _ (goes_on vs s o c) ws rest is = (rest ++ o.written, ap (λ k. k ++ o.written) is ∙ append_assoc ws rest o.written)

  behind_goes : (x : Stride S N V W) (o : Outcome V W) → Comes machine host n x o → (ws : List Write) (s : State S N V W) (vs : List Write) → x ≡ goes ws s
      → ((p : Outcome V W) → Comes machine host n (stride machine host n s) p → BeginsWith p.written vs) → BeginsWith o.written (ws ++ vs)
  behind_goes _ _ (ends_so ks u e) ws s vs is f = absurd cc
  behind_goes _ _ (goes_on ks t o c) ws s vs is f =
      let a : ks ≡ ws = cc in
      let b : t ≡ s = cc in
      let later = f o (subst (λ z. Comes machine host n (stride machine host n z) o) b c) in
      (later.0, ap (λ k. k ++ o.written) a ∙ ap (λ k. ws ++ k) later.1 ∙ sym (append_assoc ws vs later.0))

  begins_so : (x : Stride S N V W) (ws : List Write) → WritesFirst machine host n x ws → (o : Outcome V W) → Comes machine host n x o → BeginsWith o.written ws
  begins_so _ _ (within x ws rest is) o c = own x o c ws rest is
  begins_so _ _ (beyond ws s vs f) o c = behind_goes _ o c ws s vs refl (λ p d. begins_so _ _ f p d)

  pub outcomes_begin_so : (b : BlockId) (names : N) (world : W) → OutcomesBeginSo machine host n b names world
  outcomes_begin_so b names world o ws c f = begins_so _ ws f o c
