-- An edge of the last cluster is followed: the clusters behind what it leads to are taken away, and it is due no more.
use Rattle.std.proofs.Common.{◌≡◌, ℕ, ◌-◌, ◌<◌, ◌≤◌, List, [], ◌∷◌, ◌++◌, length, sym, ap, ◌∙◌, arith, subst, ◌⊎◌, inl, inr}
use Rattle.std.specs.Prelude.{Contains}
use Rattle.pt_cycles.specs.declared.search.State.{State}
use Rattle.pt_cycles.specs.declared.search.State.TheVariants.{OnPath}
use Rattle.pt_cycles.specs.declared.search.Cluster.{Cluster}
use Rattle.pt_cycles.specs.Graphs.{Digraph, Edge, Reaches}
use Rattle.pt_cycles.specs.Search.{at, state_of, IsDue, LeadsOn, IsDone, IsSeen, HasSource, IsCovered, IsStart, Open, IsLast, IsCut}
use Rattle.pt_cycles.proofs.Tables.{below_or, at_left, at_last, pushed_length}
use Rattle.pt_cycles.proofs.Walks.{reaches_edge, reaches_on}

module _ (g : Digraph) (T : List State) (S W : List ℕ) (B : List Cluster) (n : ℕ) (w : ℕ) (o : Open g T S (W ++ w ∷ []) B n) where
  -- all of the path leads to what is due last
  pub last_reaches : IsLast W B → w < g.size → (j : ℕ) → j < length S → Reaches g (at S j) w
  last_reaches l inside j lt =
      let c = l.cluster in
      let s = o.sources (length W) (omega (arith, pushed_length W w)) in
      let low : c.path ≤ s.place = s.above c l.among (l.due c l.among) in
      let top : length S - 1 < length S = omega arith in
      let to_top = o.forward j (length S - 1) (omega arith) top in
      let back = o.back c l.among (length S - 1) (omega (arith, s.inside, low)) top (λ d k. inl (l.high d k)) in
      let on = o.forward c.path s.place low s.inside in
      let e : Edge g (at S s.place) w = record {
        from = o.inside s.place s.inside;
        to = inside;
        listed = subst (λ x. Contains (g.next (at S s.place)) x) (at_last W w) s.listed;
      } in
      reaches_on g (at S j) (at S (length S - 1)) w to_top (reaches_on g (at S (length S - 1)) (at S c.path) w back
      (reaches_on g (at S c.path) (at S s.place) w on (reaches_edge g e)))

  -- clusters behind a place of the path to which an edge leads are taken away
  pub open_cut : (p : ℕ) (B' : List Cluster) → IsLast W B → w < g.size → state_of T w ≡ OnPath p → IsCut p B B' → Open g T S (W ++ w ∷ []) B' n
  open_cut p B' l inside on cut = record {
    long = o.long;
    placed = o.placed;
    inside = o.inside;
    found = o.found;
    starts = λ b c. o.starts b (cut.from b c);
    rises = cut.rises;
    covered = covered;
    forward = o.forward;
    back = back;
    sources = λ m lt. (let s = o.sources m lt in
        record { place = s.place; inside = s.inside; listed = s.listed; above = λ b c. s.above b (cut.from b c); below = λ b c. s.below b (cut.from b c) });
    edges = λ i x lt in_g c. seen i x (o.edges i x lt in_g c);
    low = o.low;
    ended = o.ended;
    one = o.one;
  }
    where
      at_p : (p < length S) × (at S p ≡ w)
      at_p = o.found w p on

      kept : (i : ℕ) (x : IsCovered B i) → i ≤ p → IsCovered B' i
      kept i x le = elim (cut.into x.cluster x.among) [
        | inl c ↦ record { cluster = x.cluster; among = c; low = x.low }
        | inr lt ↦ absurd (let h = x.low in
            omega (arith, h, lt, le))
      ]

      covered : (i : ℕ) → i < length S → IsCovered B' i
      covered i lt = elim (below_or p i) [
        | inl h ↦ (let x = kept p (o.covered p at_p.0) (omega arith) in
            record { cluster = x.cluster; among = x.among; low = (let k = x.low in omega (arith, k, h)) })
        | inr h ↦ kept i (o.covered i lt) h
      ]

      old_start : (b : Cluster) (j : ℕ) → j ≤ p → IsStart B' b j → IsStart B b j
      old_start b j le start d c = elim (cut.into d c) [ inl k ↦ start d k | inr lt ↦ inr (omega arith) ]

      back : (b : Cluster) → Contains B' b → (j : ℕ) → b.path ≤ j → j < length S → IsStart B' b j → Reaches g (at S j) (at S b.path)
      back b c j le lt start = elim (below_or p j) [
        | inl h ↦ reaches_on g (at S j) w (at S b.path) (last_reaches l inside j lt)
            (subst (λ x. Reaches g x (at S b.path)) at_p.1 (o.back b (cut.from b c) p (cut.low b c) at_p.0 (old_start b p (omega arith) (near b h start))))
        | inr h ↦ o.back b (cut.from b c) j le lt (old_start b j h start)
      ]
        where
          near : (b : Cluster) → p < j → IsStart B' b j → IsStart B' b p
          near b h start d k = elim (start d k) [ inl a ↦ inl a | inr a ↦ inr (omega arith) ]

      seen : (i x : ℕ) → IsSeen T (W ++ w ∷ []) B n i x → IsSeen T (W ++ w ∷ []) B' n i x
      seen i x (inl d) = inl (record { place = d.place; inside = d.inside; is = d.is; above = λ b c. d.above b (cut.from b c) })
      seen i x (inr (inl d)) = inr (inl (record { place = d.place; is = d.is; above = λ b c. d.above b (cut.from b c) }))
      seen i x (inr (inr d)) = inr (inr d)

  pub due_left : (i x : ℕ) → IsDue (W ++ w ∷ []) B i x → (IsDue W B i x) ⊎ (w ≡ x)
  due_left i x d = elim (below_or d.place (length W)) [
    | inl lt ↦ inl (record { place = d.place; inside = lt; is = sym (at_left W (w ∷ []) d.place lt) ∙ d.is; above = d.above })
    | inr le ↦ inr (sym (at_last W w) ∙ (let e : length W ≡ d.place = (let h = d.inside in omega (arith, h, le, pushed_length W w)) in
        ap (λ k. at (W ++ w ∷ []) k) e) ∙ d.is)
  ]

  pub sources_left : (m : ℕ) → m < length W → HasSource g S B m (at W m)
  sources_left m lt = subst (λ x. HasSource g S B m x) (at_left W (w ∷ []) m lt) (o.sources m (omega (arith, lt, pushed_length W w)))

  -- an edge that leads to where all is known, or to no vertex, is due no more
  pub open_skip : ((b : Cluster) → Contains B b → b.work ≤ length W) → (w < g.size → (i : ℕ) → LeadsOn T B i w ⊎ IsDone T w n) → Open g T S W B n
  open_skip low known = record {
    long = o.long;
    placed = o.placed;
    inside = o.inside;
    found = o.found;
    starts = λ b c. ((o.starts b c).0, low b c);
    rises = o.rises;
    covered = o.covered;
    forward = o.forward;
    back = o.back;
    sources = sources_left;
    edges = λ i x lt in_g c. seen i x in_g (o.edges i x lt in_g c);
    low = o.low;
    ended = o.ended;
    one = o.one;
  }
    where
      seen : (i x : ℕ) → x < g.size → IsSeen T (W ++ w ∷ []) B n i x → IsSeen T W B n i x
      seen i x in_g (inl d) = elim (due_left i x d) [
        | inl k ↦ inl k
        | inr e ↦ inr
            (subst (λ y. LeadsOn T B i y ⊎ IsDone T y n) e (known (subst (λ y. y < g.size) (sym e) in_g) i))
      ]
      seen i x in_g (inr d) = inr d
