-- What the numbers of components tell of cycles.
use Rattle.std.proofs.Common.{◌≡◌, ℕ, ◌+◌, ◌<◌, List, subst, arith, inl, inr}
use Rattle.pt_cycles.specs.Graphs.{Digraph, Walk, once, more, OnCycle, number_of, AreComponents, AreRanks, IsLeastOnCycle, LeadsWithin}
use Rattle.pt_cycles.proofs.Tables.{eq_or, below_or}
use Rattle.pt_cycles.proofs.Walks.{closes, from_in}

module _ (g : Digraph) (table : List ℕ) (are : AreComponents g table) where
  -- a number falls along each walk from where no edge stays
  walk_falls : (a b : ℕ) → Walk g a b → (LeadsWithin g table a → ⊥) → number_of table b < number_of table a
  walk_falls a b (once e) out = elim (eq_or (number_of table b) (number_of table a)) [
    | inl same ↦ absurd (out (record { to = b; edge = e; same = same }))
    | inr ne ↦ (let h = are.falls a b e in omega (arith, h, ne))
  ]
  walk_falls a c (more {b = b} w e) out = let h = walk_falls a b w out in let k = are.falls b c e in omega (arith, h, k)

  pub rounds : (v : ℕ) → LeadsWithin g table v → OnCycle g v
  rounds v l = closes g v l.to l.edge (are.one l.to v l.edge.to l.edge.from l.same)

  module _ (count n : ℕ) (none : (u : ℕ) → u < n → LeadsWithin g table u → ⊥) where
    pub least_is : n < count → LeadsWithin g table n → IsLeastOnCycle g count n
    least_is lt l = record { below = lt; round = rounds n l; least = λ u h w. (let k = walk_falls u u w (none u h) in omega (arith, k)) }

    pub ranks_are : ((u : ℕ) → u < count → u < g.size → u < n) → AreRanks g count table
    ranks_are all a b lt w = walk_falls a b w (none a (all a lt (from_in g a b w)))

  pub none_more : (n : ℕ) → ((u : ℕ) → u < n → LeadsWithin g table u → ⊥) → (LeadsWithin g table n → ⊥) → (u : ℕ) → u < n + 1 → LeadsWithin g table u → ⊥
  none_more n none here u lt l = elim (below_or u n) [
    | inl h ↦ none u h l
    | inr h ↦ (let e : u ≡ n = omega arith in here (subst (λ x. LeadsWithin g table x) e l))
  ]
