-- Walks in the graph between places are ways of steps.
use Rattle.std.proofs.Common.{◌≡◌, ℕ, ◌+◌, ◌-◌, ◌<◌, Bool, true, false, List, [], ◌∷◌, ◌++◌, length, Option, Some, None, refl, sym, ap, ◌∙◌, subst, zero, suc, arith, ◌⊎◌, inl, inr}
use Rattle.std.specs.Prelude.{nat_lt, cond, Contains, slice_index_or}
use Rattle.std.proofs.lemmas.List.Elements.{Contains-append_left, Contains-append_right, Contains-append_cases}
use Rattle.pt_ranges.specs.declared.handlers.Handler.{Handler}
use Rattle.pt_sizes.specs.Flow.{entry}
use Rattle.pt_sizes.specs.Waiting.{Level, up, stretch, levels_of, Index}
use Rattle.pt_sizes.proofs.Tables.{entry_in}
use Rattle.pt_cycles.specs.declared.cycles.Cycles.{Cycles}
use Rattle.pt_cycles.specs.declared.cycles.Cycles.TheVariants as cycles
use Rattle.pt_cycles.specs.Graphs as G
use Rattle.pt_cycles.specs.Graphs.{Digraph, Edge, Walk, TellsCycles}
use Rattle.pt_step_graph.specs.declared.exits.Exits.{Exits}
use Rattle.pt_step_graph.specs.declared.graph.StepGraph.{StepGraph}
use Rattle.pt_step_graph.specs.Steps.{own, Ways, bundle, Leads, own_step, held_step, lands, StepTo, Way, once, more, TellsSteps}
use Rattle.pt_step_graph.specs.Graph.{within, held_next, place_next, bundle_next, stretch_next, width, next_of, bundles_of, digraph, HasSteps}
use Rattle.pt_step_graph.proofs.Numbers.{lt_true, lt_false, is_lt, none_in, only_one, the_one, in_within, is_within, in_targets, is_target, number, level_at, number_first, number_in, stretch_leads, stretch_has, up_le}

module _ (w : Ways) (levels : List Level) (ix : Index w.rows (length w.exits) levels) where
  abbrev n : ℕ
  n = length w.exits

  abbrev m : ℕ
  m = length w.bundles

  abbrev g : Digraph
  g = record { size = (n + m) + width levels; next = next_of w.exits w.bundles levels }

  -- the vertex of the stretch of a level in which a place lies
  abbrev vertex : (k q : ℕ) → ℕ
  vertex k q = (n + m) + number levels k (up k q)

  abbrev Start : (q p : ℕ) → Type 0
  Start q p = (q ≡ p) ⊎ Way w q p

  on : (q p r : ℕ) → Start q p → StepTo w p r → Way w q r
  on q p r (inl e) s = once (subst (λ x. StepTo w x r) (sym e) s)
  on q p r (inr v) s = more v s

  -- where a walk from a place has come to
  data At (q x : ℕ) : Type 0 where
    place : x < n → Way w q x → At q x
    held : {p c : ℕ} → Start q p → (e : Exits) → entry w.exits p ≡ Some e → e.held ≡ Some c → c < m → x ≡ n + c → At q x
    within_stretch : {p k : ℕ} → Start q p → (e : Exits) → entry w.exits p ≡ Some e → k < length levels → x ≡ vertex k p → At q x

  -- what the vertices lead to
  at_place : (p : ℕ) → p < n → g.next p ≡ place_next n m (n + m) p (entry w.exits p)
  at_place p lt = ap (λ t. cond t (place_next n m (n + m) p (entry w.exits p))
      (cond (nat_lt p (n + m)) (bundle_next n w.bundles (p - n)) (stretch_next n (n + m) levels (p - (n + m))))) (lt_true p n lt)

  at_bundle : (x c : ℕ) → x ≡ n + c → c < m → g.next x ≡ bundle_next n w.bundles c
  at_bundle x c e lt = ap (λ t. cond t (place_next n m (n + m) x (entry w.exits x))
      (cond (nat_lt x (n + m)) (bundle_next n w.bundles (x - n)) (stretch_next n (n + m) levels (x - (n + m))))) (lt_false x n (omega (arith, e)))
      ∙ (ap (λ t. cond t (bundle_next n w.bundles (x - n)) (stretch_next n (n + m) levels (x - (n + m)))) (lt_true x (n + m) (omega (arith, e, lt)))
      ∙ ap (λ k. bundle_next n w.bundles k) (let f : x - n ≡ c = omega (arith, e) in f))

  at_stretch : (x i : ℕ) → x ≡ (n + m) + i → g.next x ≡ stretch_next n (n + m) levels i
  at_stretch x i e = ap (λ t. cond t (place_next n m (n + m) x (entry w.exits x))
      (cond (nat_lt x (n + m)) (bundle_next n w.bundles (x - n)) (stretch_next n (n + m) levels (x - (n + m))))) (lt_false x n (omega (arith, e)))
      ∙ (ap (λ t. cond t (bundle_next n w.bundles (x - n)) (stretch_next n (n + m) levels (x - (n + m)))) (lt_false x (n + m) (omega (arith, e)))
      ∙ ap (λ k. stretch_next n (n + m) levels k) (let f : x - (n + m) ≡ i = omega (arith, e) in f))

  some_levels : (q : ℕ) → q < n → 0 < length levels
  some_levels q lt = by_length levels ix.tall.tall
    where
      by_length : (ls : List Level) → up (length ls) n ≡ 0 → 0 < length ls
      by_length [] e = absurd (let f : n ≡ 0 = e in omega (arith, f, lt))
      by_length (l ∷ ls) e = omega arith

  in_level : (k q : ℕ) → q < n → k < length levels → up k q < length (level_at levels k)
  in_level k q lt h = let a : up k n < length (level_at levels k) = ix.tall.wide k h in let b = up_le k q n (omega arith) in omega (arith, a, b)

  held_or : (o : Option ℕ) (y : ℕ) → Contains (held_next n m o) y → (c : ℕ) × ((o ≡ Some c) × ((c < m) × (y ≡ n + c)))
  held_or None y c = absurd (none_in y c)
  held_or (Some k) y c = by_test (nat_lt k m) refl c
    where
      by_test : (t : Bool) → nat_lt k m ≡ t → Contains (cond t ((n + k) ∷ []) []) y → (c : ℕ) × ((Some k ≡ Some c) × ((c < m) × (y ≡ n + c)))
      by_test true e d = (k, (refl, (is_lt k m e, sym (only_one (n + k) y d))))
      by_test false e d = absurd (none_in y d)

  from_place : (q p y : ℕ) → Start q p → p < n → Contains (g.next p) y → At q y
  from_place q p y s lt c = by_entry (entry w.exits p) refl (subst (λ xs. Contains xs y) (at_place p lt) c)
    where
      by_entry : (o : Option Exits) → entry w.exits p ≡ o → Contains (place_next n m (n + m) p o) y → At q y
      by_entry None is d = absurd (none_in y d)
      by_entry (Some e) is d = elim (Contains-append_cases (within n (own e p)) (held_next n m e.held ++ ((n + m) + p) ∷ []) y d) [
        | inl a ↦ (let r = in_within n (own e p) y a in place r.0 (on q p y s (record { exits = e; is = is; inside = r.0; leads = own_step r.1 })))
        | inr a ↦ elim (Contains-append_cases (held_next n m e.held) (((n + m) + p) ∷ []) y a) [
          | inl b ↦ (let (k, (h, (l, f))) = held_or e.held y b in held s e is h l f)
          | inr b ↦ within_stretch {k = 0} s e is (some_levels p lt) (sym (only_one ((n + m) + p) y b) ∙ ap (λ i. (n + m) + i) (sym (number_first levels p)))
        ]
      ]

  from_bundle : (q p x c y : ℕ) → Start q p → (e : Exits) → entry w.exits p ≡ Some e → e.held ≡ Some c → c < m → x ≡ n + c → Contains (g.next x) y → At q y
  from_bundle q p x c y s e is h lt f d = let r = in_within n (bundle w c) y (subst (λ xs. Contains xs y) (at_bundle x c f lt) d) in
      place r.0 (on q p y s (record { exits = e; is = is; inside = r.0; leads = held_step h r.1 }))

  from_stretch : (q p x k y : ℕ) → Start q p → (e : Exits) → entry w.exits p ≡ Some e → k < length levels → x ≡ vertex k p → Contains (g.next x) y → At q y
  from_stretch q p x k y s e is h f d =
      let in_n : p < n = entry_in w.exits p e is in
      elim (stretch_leads n (n + m) levels k (up k p) (number levels k (up k p)) y h (in_level k p in_n h) refl
      (subst (λ xs. Contains xs y) (at_stretch x (number levels k (up k p)) f) d)) [
        | inl a ↦ (let (lt, (row, (among, t))) = in_targets n (stretch levels k (up k p)) y a in
            let known = ix.known p row (record { level = k; among = among }) in
            place lt (on q p y s (record { exits = e; is = is; inside = lt; leads = subst (λ z. Leads w p e z) t (lands known.0 known.1) })))
        | inr (a, b) ↦ within_stretch {k = suc k} s e is a b
      ]

  from_at : (q x y : ℕ) → At q x → Contains (g.next x) y → At q y
  from_at q x y (place lt v) c = from_place q x y (inr v) lt c
  from_at q x y (held {p} {c} s e is h lt f) d = from_bundle q p x c y s e is h lt f d
  from_at q x y (within_stretch {p} {k} s e is h f) c = from_stretch q p x k y s e is h f c

  comes : (q x : ℕ) → q < n → Walk g q x → At q x
  comes q x lt (G.once e) = from_place q q x (inl refl) lt e.listed
  comes q x lt (G.more {b = b} v e) = from_at q b x (comes q b lt v) e.listed

  pub ways_of_walks : (q r : ℕ) → q < n → r < n → Walk g q r → Way w q r
  ways_of_walks q r lt in_n v = by_place (comes q r lt v)
    where
      by_place : At q r → Way w q r
      by_place (place h u) = u
      by_place (held s e is h l f) = absurd (omega (arith, f, in_n))
      by_place (within_stretch s e is h f) = absurd (omega (arith, f, in_n))

  -- and ways are walks
  join : {a b c : ℕ} → Walk g a b → Walk g b c → Walk g a c
  join v (G.once e) = G.more v e
  join v (G.more u e) = G.more (join v u) e

  in_size : (k q : ℕ) → q < n → k < length levels → vertex k q < (n + m) + width levels
  in_size k q lt h = omega (arith, number_in levels k (up k q) h (in_level k q lt h))

  place_leads : (q : ℕ) (e : Exits) → entry w.exits q ≡ Some e → (y : ℕ) → Contains (within n (own e q) ++ (held_next n m e.held ++ ((n + m) + q) ∷ [])) y
      → y < (n + m) + width levels → Edge g q y
  place_leads q e is y c lt = let in_n : q < n = entry_in w.exits q e is in record {
    from = omega (arith, in_n);
    to = lt;
    listed = subst (λ xs. Contains xs y) (sym (at_place q in_n)) (subst (λ o. Contains (place_next n m (n + m) q o) y) (sym is) c);
  }

  to_stretch : (q : ℕ) (e : Exits) → entry w.exits q ≡ Some e → (k : ℕ) → k < length levels → Walk g q (vertex k q)
  to_stretch q e is zero h = let in_n : q < n = entry_in w.exits q e is in
      let f : (n + m) + q ≡ vertex 0 q = ap (λ i. (n + m) + i) (sym (number_first levels q)) in
      G.once (place_leads q e is (vertex 0 q) (Contains-append_right (within n (own e q)) (held_next n m e.held ++ ((n + m) + q) ∷ []) (vertex 0 q)
      (Contains-append_right (held_next n m e.held) (((n + m) + q) ∷ []) (vertex 0 q) (subst (λ z. Contains (((n + m) + q) ∷ []) z) f (the_one ((n + m) + q)))))
      (in_size 0 q in_n h))
  to_stretch q e is (suc k) h = let in_n : q < n = entry_in w.exits q e is in let h' : k < length levels = omega arith in
      G.more (to_stretch q e is k h') (record {
        from = in_size k q in_n h';
        to = in_size (suc k) q in_n h;
        listed = subst (λ xs. Contains xs (vertex (suc k) q)) (sym (at_stretch (vertex k q) (number levels k (up k q)) refl))
            (stretch_has n (n + m) levels k (up k q) (number levels k (up k q)) (vertex (suc k) q) h' (in_level k q in_n h') refl (inr (h, refl)));
      })

  level_in : (ls : List Level) (k v : ℕ) (row : Handler) → Contains (stretch ls k v) row → k < length ls
  level_in [] k v row c = absurd (none_in row c)
  level_in (l ∷ ls) zero v row c = omega arith
  level_in (l ∷ ls) (suc k) v row c = omega (arith, level_in ls k v row c)

  bundle_in : (bs : List (List ℕ)) (c r : ℕ) → Contains (slice_index_or bs c []) r → c < length bs
  bundle_in [] c r d = absurd (none_in r d)
  bundle_in (b ∷ bs) zero r d = omega arith
  bundle_in (b ∷ bs) (suc c) r d = omega (arith, bundle_in bs c r d)

  walk_of : (q r : ℕ) (e : Exits) → entry w.exits q ≡ Some e → r < n → Leads w q e r → Walk g q r
  walk_of q r e is lt (own_step c) = G.once (place_leads q e is r
      (Contains-append_left (within n (own e q)) (held_next n m e.held ++ ((n + m) + q) ∷ []) r (is_within n (own e q) r c lt)) (omega (arith, lt)))
  walk_of q r e is lt (held_step {c = c} h d) =
      let in_m : c < m = bundle_in w.bundles c r d in
      let at_c : Contains (held_next n m e.held) (n + c) = subst (λ o. Contains (held_next n m o) (n + c)) (sym h)
      (subst (λ t. Contains (cond t ((n + c) ∷ []) []) (n + c)) (sym (lt_true c m in_m)) (the_one (n + c))) in
      G.more (G.once (place_leads q e is (n + c)
      (Contains-append_right (within n (own e q)) (held_next n m e.held ++ ((n + m) + q) ∷ []) (n + c)
      (Contains-append_left (held_next n m e.held) (((n + m) + q) ∷ []) (n + c) at_c)) (omega (arith, in_m))))
      (record {
        from = omega (arith, in_m);
        to = omega (arith, lt);
        listed = subst (λ xs. Contains xs r) (sym (at_bundle (n + c) c refl in_m)) (is_within n (bundle w c) r d lt);
      })
  walk_of q _ e is lt (lands {row} c u) =
      let in_n : q < n = entry_in w.exits q e is in
      let x = ix.whole q row in_n c u in
      let h : x.level < length levels = level_in levels x.level (up x.level q) row x.among in
      G.more (to_stretch q e is x.level h) (record {
        from = in_size x.level q in_n h;
        to = omega (arith, lt);
        listed = subst (λ xs. Contains xs row.target.0) (sym (at_stretch (vertex x.level q) (number levels x.level (up x.level q)) refl))
            (stretch_has n (n + m) levels x.level (up x.level q) (number levels x.level (up x.level q)) row.target.0 h (in_level x.level q in_n h) refl
            (inl (is_target n (stretch levels x.level (up x.level q)) row x.among lt)));
      })

  pub walks_of_ways : (q r : ℕ) → Way w q r → Walk g q r
  walks_of_ways q r (once s) = walk_of q r s.exits s.is s.inside s.leads
  walks_of_ways q r (more {r = p} v s) = join (walks_of_ways q p v) (walk_of p r s.exits s.is s.inside s.leads)

  from_in : (q r : ℕ) → Way w q r → q < n
  from_in q r (once s) = entry_in w.exits q s.exits s.is
  from_in q r (more {r = p} v s) = from_in q p v

  pub tells_steps : (told : Cycles) → TellsCycles g n told → TellsSteps w told
  tells_steps (cycles.Ranks table) t = λ q r v. t q r (from_in q r v) (walks_of_ways q r v)
  tells_steps (cycles.Least v) t = record {
    round = ways_of_walks v v t.below t.below t.round;
    least = λ q lt u. t.least q lt (walks_of_ways q q u);
  }

abbrev made : (size : ℕ) → List (Option Exits) → List (List ℕ) → List Level → Digraph
made size exits bundles levels = record { size = size; next = next_of exits bundles levels }

-- so what is told of a graph that has the steps is told of them
module _ (w : Ways) (graph : StepGraph) (has : HasSteps w graph) where
  abbrev levels_here : List Level
  levels_here = levels_of graph.waiting.levels

  same_graph : digraph graph ≡ made ((length w.exits + length w.bundles) + width levels_here) w.exits w.bundles levels_here
  same_graph = ap (λ x. made graph.size x (bundles_of graph.bundles) levels_here) has.exits ∙ (ap (λ x. made graph.size w.exits x levels_here) has.bundles
      ∙ ap (λ x. made x w.exits w.bundles levels_here) has.size)

  pub told_of : (count : ℕ) → count ≡ length w.exits → (told : Cycles) → TellsCycles (digraph graph) count told → TellsSteps w told
  told_of count e told t = tells_steps w levels_here has.rows told
      (subst (λ k. TellsCycles (made ((length w.exits + length w.bundles) + width levels_here) w.exits w.bundles levels_here) k told) e
      (subst (λ x. TellsCycles x count told) same_graph t))
