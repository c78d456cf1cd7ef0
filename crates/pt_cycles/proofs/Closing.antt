-- The last cluster becomes a component.
use Rattle.std.proofs.Common.{◌≡◌, ℕ, ◌+◌, ◌<◌, ◌≤◌, List, [], ◌∷◌, ◌++◌, length, take, sym, ap, ◌∙◌, arith, subst, ◌⊎◌, inl, inr}
use Rattle.std.specs.Prelude.{Contains}
use Rattle.std.proofs.lemmas.List.{get_or-take, length-take-le}
use Rattle.std.proofs.lemmas.List.Elements.{Contains-push, Contains-push_cases, Contains-append_left}
use Rattle.pt_cycles.specs.declared.search.State.{State}
use Rattle.pt_cycles.specs.declared.search.State.TheVariants.{OnPath, Done}
use Rattle.pt_cycles.specs.declared.search.Cluster.{Cluster}
use Rattle.pt_cycles.specs.Graphs.{Digraph, Edge, Reaches}
use Rattle.pt_cycles.specs.Search.{at, state_of, IsDone, IsSeen, HasSource, IsCovered, Open, StandsWithin, Keeps}
use Rattle.pt_cycles.proofs.Tables.{below_or, rises_left, rises_last, new_or_done, path_or_done, same_place, same_component}
use Rattle.pt_cycles.proofs.Walks.{reaches_on}

module _ (g : Digraph) (T T' : List State) (S W : List ℕ) (B : List Cluster) (b : Cluster) (n : ℕ) (o : Open g T S W (B ++ b ∷ []) n)
    (none : length W ≤ b.work) (long : length T' ≡ length T)
    (done : (i : ℕ) → b.path ≤ i → i < length S → state_of T' (at S i) ≡ Done n)
    (each : (v : ℕ) → (state_of T' v ≡ state_of T v) ⊎ StandsWithin b.path (length S) S v) where
  abbrev S₀ : List ℕ
  S₀ = take b.path S

  last : (b.path < length S) × (b.work ≤ length W)
  last = o.starts b (Contains-push B b)

  old : (c : Cluster) → Contains B c → Contains (B ++ b ∷ []) c
  old c k = Contains-append_left B (b ∷ []) c k

  long_S : length S₀ ≡ b.path
  long_S = length-take-le b.path S (omega (arith, last.0))

  at_S : (i : ℕ) → i < length S₀ → at S₀ i ≡ at S i
  at_S i lt = get_or-take b.path S i 0 (omega (arith, lt, long_S))

  -- what was on the path before stands, and what was a component
  still_path : (v i : ℕ) → i < b.path → state_of T v ≡ OnPath i → state_of T' v ≡ OnPath i
  still_path v i lt e = elim (each v) [
    | inl k ↦ k ∙ e
    | inr s ↦ absurd (let p : s.place ≡ i = same_place s.place i (sym (o.placed s.place s.before) ∙ subst (λ x. state_of T x ≡ OnPath i) (sym s.is) e) in
        let h = s.from in omega (arith, h, lt, p))
  ]

  still_done : (v k : ℕ) → state_of T v ≡ Done k → state_of T' v ≡ Done k
  still_done v k e = elim (each v) [
    | inl h ↦ h ∙ e
    | inr s ↦ absurd (path_or_done s.place k (sym (o.placed s.place s.before) ∙ subst (λ x. state_of T x ≡ Done k) (sym s.is) e))
  ]

  done_at : (v : ℕ) → StandsWithin b.path (length S) S v → state_of T' v ≡ Done n
  done_at v s = subst (λ x. state_of T' x ≡ Done n) s.is (done s.place s.from s.before)

  done_or : (v k : ℕ) → state_of T' v ≡ Done k → (state_of T v ≡ Done k) ⊎ ((n ≡ k) × StandsWithin b.path (length S) S v)
  done_or v k e = elim (each v) [ inl h ↦ inl (sym h ∙ e) | inr s ↦ inr (same_component n k (sym (done_at v s) ∙ e), s) ]

  placed : (i : ℕ) → i < length S₀ → state_of T' (at S₀ i) ≡ OnPath i
  placed i lt = subst (λ x. state_of T' x ≡ OnPath i) (sym (at_S i lt))
      (still_path (at S i) i (omega (arith, lt, long_S)) (o.placed i (omega (arith, lt, long_S, last.0))))

  found : (v i : ℕ) → state_of T' v ≡ OnPath i → (i < length S₀) × (at S₀ i ≡ v)
  found v i e = elim (each v) [
    | inl k ↦ (let f = o.found v i (sym k ∙ e) in elim (below_or i b.path) [
      | inl lt ↦ (omega (arith, lt, long_S), at_S i (omega (arith, lt, long_S)) ∙ f.1)
      | inr le ↦ absurd (path_or_done i n (sym e ∙ subst (λ x. state_of T' x ≡ Done n) f.1 (done i le f.0)))
    ])
    | inr s ↦ absurd (path_or_done i n (sym e ∙ done_at v s))
  ]

  below_last : (c : Cluster) → Contains B c → c.path < b.path
  below_last c k = (rises_last B b o.rises c k).0

  covered : (i : ℕ) → i < length S₀ → IsCovered B i
  covered i lt = let x = o.covered i (omega (arith, lt, long_S, last.0)) in elim (Contains-push_cases B b x.cluster x.among) [
    | inl k ↦ record { cluster = x.cluster; among = k; low = x.low }
    | inr e ↦ absurd (let p : b.path ≡ x.cluster.path = ap (λ d. d.path) e in let h = x.low in omega (arith, h, p, lt, long_S))
  ]

  between : (i j : ℕ) → i < length S₀ → j < length S₀ → Reaches g (at S i) (at S j) → Reaches g (at S₀ i) (at S₀ j)
  between i j a c r = subst (λ x. Reaches g x (at S₀ j)) (sym (at_S i a)) (subst (λ x. Reaches g (at S i) x) (sym (at_S j c)) r)

  sources : (m : ℕ) → m < length W → HasSource g S₀ B m (at W m)
  sources m lt = let s = o.sources m lt in
      let h : s.place < length S₀ = (let k : s.place < b.path = s.below b (Contains-push B b) (omega arith) in omega (arith, k, long_S)) in
      record {
        place = s.place;
        inside = h;
        listed = subst (λ x. Contains (g.next x) (at W m)) (sym (at_S s.place h)) s.listed;
        above = λ c k. s.above c (old c k);
        below = λ c k. s.below c (old c k);
      }

  led : (v w p : ℕ) → state_of T w ≡ OnPath p → b.path ≤ p → state_of T' w ≡ Done n
  led v w p e le = let f = o.found w p e in subst (λ x. state_of T' x ≡ Done n) f.1 (done p le f.0)

  seen : (i w : ℕ) → IsSeen T W (B ++ b ∷ []) n i w → IsSeen T' W B (n + 1) i w
  seen i w (inl d) = inl (record { place = d.place; inside = d.inside; is = d.is; above = λ c k. d.above c (old c k) })
  seen i w (inr (inl d)) = elim (below_or d.place b.path) [
    | inl lt ↦ inr (inl (record { place = d.place; is = still_path w d.place lt d.is; above = λ c k. d.above c (old c k) }))
    | inr le ↦ inr (inr (record { component = n; is = led i w d.place d.is le; low = omega arith }))
  ]
  seen i w (inr (inr d)) = inr (inr (record { component = d.component; is = still_done w d.component d.is; low = (let h = d.low in omega (arith, h)) }))

  -- an edge of the cluster leads to the cluster or to a component before
  leads : (i w : ℕ) → b.path ≤ i → IsSeen T W (B ++ b ∷ []) n i w → IsDone T' w n
  leads i w le (inl d) = absurd (let h = d.above b (Contains-push B b) le in let k = d.inside in omega (arith, h, k, none))
  leads i w le (inr (inl d)) = record { component = n; is = led i w d.place d.is (d.above b (Contains-push B b) le); low = omega arith }
  leads i w le (inr (inr d)) = record { component = d.component; is = still_done w d.component d.is; low = d.low }

  ended : (v w k : ℕ) → state_of T' v ≡ Done k → Edge g v w → IsDone T' w k
  ended v w k e edge = elim (done_or v k e) [
    | inl h ↦ (let x = o.ended v w k h edge in record { component = x.component; is = still_done w x.component x.is; low = x.low })
    | inr (same, s) ↦ subst (λ x. IsDone T' w x) same (leads s.place w s.from
        (o.edges s.place w s.before edge.to (subst (λ x. Contains (g.next x) w) (sym s.is) edge.listed)))
  ]

  one : (u v k : ℕ) → state_of T' u ≡ Done k → state_of T' v ≡ Done k → Reaches g u v
  one u v k e f = by_cases (done_or u k e) (done_or v k f)
    where
      by_cases : (state_of T u ≡ Done k) ⊎ ((n ≡ k) × StandsWithin b.path (length S) S u)
          → (state_of T v ≡ Done k) ⊎ ((n ≡ k) × StandsWithin b.path (length S) S v) → Reaches g u v
      by_cases (inl h) (inl i) = o.one u v k h i
      by_cases (inl h) (inr (same, s)) = absurd (let x = o.low u k h in omega (arith, x, same))
      by_cases (inr (same, s)) (inl h) = absurd (let x = o.low v k h in omega (arith, x, same))
      by_cases (inr (same, s)) (inr (again, t)) = subst (λ x. Reaches g x v) s.is (subst (λ x. Reaches g (at S s.place) x) t.is
          (reaches_on g (at S s.place) (at S b.path) (at S t.place)
          (o.back b (Contains-push B b) s.place s.from s.before (λ d c. inl (low d c)))
          (o.forward b.path t.place t.from t.before)))
        where
          low : (d : Cluster) → Contains (B ++ b ∷ []) d → d.path ≤ b.path
          low d c = elim (Contains-push_cases B b d c) [
            | inl k ↦ (let h = below_last d k in
                omega (arith, h))
            | inr e ↦ (let p : b.path ≡ d.path = ap (λ x. x.path) e in omega (arith, p))
          ]

  pub open_close : Open g T' S₀ W B (n + 1)
  open_close = record {
    long = long ∙ o.long;
    placed = placed;
    inside = λ i lt. subst (λ x. x < g.size) (sym (at_S i lt)) (o.inside i (omega (arith, lt, long_S, last.0)));
    found = found;
    starts = λ c k. (omega (arith, below_last c k, long_S), (o.starts c (old c k)).1);
    rises = rises_left B b o.rises;
    covered = covered;
    forward = λ i j le lt. between i j (omega arith) lt (o.forward i j le (omega (arith, lt, long_S, last.0)));
    back = λ c k j le lt start. between j c.path lt (omega (arith, below_last c k, long_S))
        (o.back c (old c k) j le (omega (arith, lt, long_S, last.0))
        (λ d x. elim (Contains-push_cases B b d x) [
          | inl h ↦ start d h
          | inr e ↦ inr (let p : b.path ≡ d.path = ap (λ y. y.path) e in
              omega (arith, p, lt, long_S))
        ]));
    sources = sources;
    edges = λ i w lt in_g c. seen i w (o.edges i w (omega (arith, lt, long_S, last.0)) in_g (subst (λ x. Contains (g.next x) w) (at_S i lt) c));
    low = λ v k e. elim (done_or v k e) [ inl h ↦ (let x = o.low v k h in omega (arith, x)) | inr (same, s) ↦ omega (arith, same) ];
    ended = ended;
    one = one;
  }

  pub keeps_close : Keeps T T'
  keeps_close v e = elim (each v) [ inl h ↦ sym h ∙ e | inr s ↦ absurd (new_or_done n (sym e ∙ done_at v s)) ]
