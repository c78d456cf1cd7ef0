-- Walks and what they reach.
use Rattle.std.proofs.Common.{◌≡◌, ℕ, ◌<◌, sym, subst, inl, inr}
use Rattle.pt_cycles.specs.Graphs.{Digraph, Edge, Walk, once, more, Reaches, OnCycle}

module _ (g : Digraph) where
  join : {a b c : ℕ} → Walk g a b → Walk g b c → Walk g a c
  join w (once e) = more w e
  join w (more u e) = more (join w u) e

  pub reaches_edge : {a b : ℕ} → Edge g a b → Reaches g a b
  reaches_edge e = inr (once e)

  pub reaches_on : (a b c : ℕ) → Reaches g a b → Reaches g b c → Reaches g a c
  reaches_on a b c (inl e) r = subst (λ x. Reaches g x c) (sym e) r
  reaches_on a b c (inr w) (inl e) = inr (subst (λ x. Walk g a x) e w)
  reaches_on a b c (inr w) (inr u) = inr (join w u)

  pub reaches_same : (a b : ℕ) → a ≡ b → Reaches g a b
  reaches_same a b e = inl e

  pub closes : (a b : ℕ) → Edge g a b → Reaches g b a → OnCycle g a
  closes a b e (inl same) = once (subst (λ x. Edge g a x) same e)
  closes a b e (inr w) = join (once e) w

  pub from_in : (a b : ℕ) → Walk g a b → a < g.size
  from_in a b (once e) = e.from
  from_in a b (more w e) = from_in a _ w
