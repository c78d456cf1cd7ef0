-- What a stretch leads to.
use Rattle.std.proofs.Common.{◌≡◌, ℕ, ◌+◌, ◌-◌, ◌/◌, ◌<◌, zero, suc, false, List, [], ◌∷◌, ◌++◌, length, map, sym, ap, ◌∙◌, subst, arith, ◌⊎◌, inl, inr}
use Rattle.std.specs.Prelude.{cond, Contains}
use Rattle.std.proofs.lemmas.List.Elements.{Contains-append_left, Contains-append_right, Contains-append_cases}
use Rattle.pt_ranges.specs.declared.handlers.Handler.{Handler}
use Rattle.pt_sizes.specs.Waiting.{Level, stretch_of, stretch}
use Rattle.pt_step_graph.proofs.Numbers.{lt_true, lt_false, only_one, the_one, number, level_at}
use Rattle.pt_block_kinds.specs.Leads.{Lead, lead, row_lead, above_leads, stretch_leads}
use Rattle.pt_block_kinds.proofs.Lists.{map_has, in_map}

module _ (base deepest : ℕ) where
  -- a row that lies there, or the stretch above
  abbrev pub Leads : ℕ → List Level → (k v : ℕ) → Lead → Type 0
  Leads at ls k v l = ((row : Handler) × (Contains (stretch ls k v) row × (row_lead base row ≡ l)))
      ⊎ ((suc k < length ls) × (lead (at + number ls (suc k) (v / 2)) deepest [] false ≡ l))

  first_leads : (at : ℕ) (l : Level) (ls : List Level) (v : ℕ) (x : Lead)
      → Contains (above_leads deepest (at + length l) ls v ++ map (row_lead base) (stretch_of l v)) x → Leads at (l ∷ ls) zero v x
  first_leads at l [] v x c = inl (in_map (row_lead base) (stretch_of l v) x c)
  first_leads at l (m ∷ ls) v x c = elim (Contains-append_cases (lead (at + length l + v / 2) deepest [] false ∷ []) (map (row_lead base) (stretch_of l v)) x c) [
    | inl k ↦ inr (
      omega arith,
      ap (λ n. lead n deepest [] false) (let e : at + (length l + v / 2) ≡ at + length l + v / 2 = omega arith in e)
          ∙ only_one (lead (at + length l + v / 2) deepest [] false) x k,
    )
    | inr k ↦ inl (in_map (row_lead base) (stretch_of l v) x k)
  ]

  pub leads_of_stretch : (at : ℕ) (ls : List Level) (k v i : ℕ) (x : Lead) → k < length ls → v < length (level_at ls k) → i ≡ number ls k v
      → Contains (stretch_leads base deepest at ls i) x → Leads at ls k v x
  leads_of_stretch at [] k v i x h lt e c = absurd (omega arith)
  leads_of_stretch at (l ∷ ls) zero v i x h lt e c =
      let e' : i ≡ v = e in
      first_leads at l ls v x (subst (λ j. Contains (above_leads deepest (at + length l) ls j ++ map (row_lead base) (stretch_of l j)) x) e'
      (subst (λ t. Contains (cond t (above_leads deepest (at + length l) ls i ++ map (row_lead base) (stretch_of l i)) (stretch_leads base deepest (at + length l) ls (i - length l))) x)
      (lt_true i (length l) (let q : v < length l = lt in omega (arith, e', q))) c))
  leads_of_stretch at (l ∷ ls) (suc k) v i x h lt e c =
      let e' : i ≡ length l + number ls k v = e in
      let c' = subst (λ t. Contains (cond t (above_leads deepest (at + length l) ls i ++ map (row_lead base) (stretch_of l i))
      (stretch_leads base deepest (at + length l) ls (i - length l))) x)
      (lt_false i (length l) (omega (arith, e'))) c in
      elim (leads_of_stretch (at + length l) ls k v (i - length l) x (omega arith) lt (omega (arith, e')) c') [
        | inl a ↦ inl a
        | inr (a, b) ↦ inr (
          omega (arith, a),
          ap (λ n. lead n deepest [] false)
              (let f : at + (length l + number ls (suc k) (v / 2)) ≡ (at + length l) + number ls (suc k) (v / 2) = omega arith in f) ∙ b,
        )
      ]

  pub stretch_has : (at : ℕ) (ls : List Level) (k v i : ℕ) (x : Lead) → k < length ls → v < length (level_at ls k) → i ≡ number ls k v
      → Leads at ls k v x → Contains (stretch_leads base deepest at ls i) x
  stretch_has at [] k v i x h lt e d = absurd (omega arith)
  stretch_has at (l ∷ ls) zero v i x h lt e d =
      let e' : i ≡ v = e in
      subst (λ t. Contains (cond t (above_leads deepest (at + length l) ls i ++ map (row_lead base) (stretch_of l i)) (stretch_leads base deepest (at + length l) ls (i - length l))) x)
      (sym (lt_true i (length l) (let q : v < length l = lt in omega (arith, e', q))))
      (subst (λ j. Contains (above_leads deepest (at + length l) ls j ++ map (row_lead base) (stretch_of l j)) x) (sym e') (has ls d))
    where
      has : (ls : List Level) → Leads at (l ∷ ls) zero v x → Contains (above_leads deepest (at + length l) ls v ++ map (row_lead base) (stretch_of l v)) x
      has ls (inl (row, (c, f))) = Contains-append_right (above_leads deepest (at + length l) ls v) (map (row_lead base) (stretch_of l v)) x
          (subst (Contains (map (row_lead base) (stretch_of l v))) f (map_has (row_lead base) (stretch_of l v) row c))
      has [] (inr (a, b)) = absurd (omega arith)
      has (m ∷ ls) (inr (a, b)) = Contains-append_left (lead (at + length l + v / 2) deepest [] false ∷ []) (map (row_lead base) (stretch_of l v)) x
          (let f : at + length l + v / 2 ≡ at + (length l + v / 2) = omega arith in
          subst (Contains (lead (at + length l + v / 2) deepest [] false ∷ [])) (ap (λ n. lead n deepest [] false) f ∙ b) (the_one (lead (at + length l + v / 2) deepest [] false)))
  stretch_has at (l ∷ ls) (suc k) v i x h lt e d =
      let e' : i ≡ length l + number ls k v = e in
      subst (λ t. Contains (cond t (above_leads deepest (at + length l) ls i ++ map (row_lead base) (stretch_of l i)) (stretch_leads base deepest (at + length l) ls (i - length l))) x)
      (sym (lt_false i (length l) (omega (arith, e'))))
      (stretch_has (at + length l) ls k v (i - length l) x (omega arith) lt (omega (arith, e')) (on d))
    where
      on : Leads at (l ∷ ls) (suc k) v x → Leads (at + length l) ls k v x
      on (inl a) = inl a
      on (inr (a, b)) = inr (
        omega (arith, a),
        ap (λ n. lead n deepest [] false)
            (let f : (at + length l) + number ls (suc k) (v / 2) ≡ at + (length l + number ls (suc k) (v / 2)) = omega arith in f) ∙ b,
      )
