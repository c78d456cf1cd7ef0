-- A new vertex is put on the path.
use Rattle.std.proofs.Common.{◌≡◌, ℕ, ◌+◌, ◌-◌, ◌<◌, ◌≤◌, List, [], ◌∷◌, ◌++◌, length, sym, ap, ◌∙◌, arith, subst, ◌⊎◌, inl, inr, set, length-append}
use Rattle.std.specs.Prelude.{Contains}
use Rattle.std.proofs.lemmas.List.{length-set}
use Rattle.std.proofs.lemmas.List.Elements.{Contains-push, Contains-push_cases, Contains-append_left}
use Rattle.pt_cycles.specs.declared.search.State.{State}
use Rattle.pt_cycles.specs.declared.search.State.TheVariants.{New, OnPath, Done}
use Rattle.pt_cycles.specs.declared.search.Cluster.{Cluster}
use Rattle.pt_cycles.specs.Graphs.{Digraph, Reaches}
use Rattle.pt_cycles.specs.Search.{at, state_of, cluster, IsSeen, HasSource, IsCovered, IsStart, Open, Keeps}
use Rattle.pt_cycles.proofs.Tables.{eq_or, below_or, at_left, at_last, at_behind, pushed_length, contains_at, at_contains, rises_push, new_or_path, new_or_done, path_or_done, same_place, state_here, state_other}
use Rattle.pt_cycles.proofs.Walks.{reaches_same}

module _ (g : Digraph) (T : List State) (S V W : List ℕ) (B : List Cluster) (n : ℕ) (v : ℕ) (o : Open g T S V B n)
    (new : state_of T v ≡ New) (in_v : v < g.size)
    (low : (b : Cluster) → Contains B b → b.work ≤ length W)
    (sources : (m : ℕ) → m < length W → HasSource g S B m (at W m))
    (edges : (i w : ℕ) → i < length S → w < g.size → Contains (g.next (at S i)) w → (v ≡ w) ⊎ IsSeen T W B n i w)
    (leads : (i : ℕ) → i < length S → Reaches g (at S i) v) where
  abbrev T' : List State
  T' = set T v (OnPath (length S))

  abbrev S' : List ℕ
  S' = S ++ v ∷ []

  abbrev W' : List ℕ
  W' = W ++ g.next v

  abbrev B' : List Cluster
  B' = B ++ cluster (length S) (length W) ∷ []

  here : state_of T' v ≡ OnPath (length S)
  here = state_here T v (OnPath (length S)) (subst (λ k. v < k) (sym o.long) in_v)

  other : (u : ℕ) → (u ≡ v → ⊥) → state_of T' u ≡ state_of T u
  other u ne = state_other T v u (OnPath (length S)) ne

  -- what was known isn't the vertex
  on_path : (u i : ℕ) → state_of T u ≡ OnPath i → u ≡ v → ⊥
  on_path u i e same = new_or_path i (sym new ∙ subst (λ x. state_of T x ≡ OnPath i) same e)

  done : (u k : ℕ) → state_of T u ≡ Done k → u ≡ v → ⊥
  done u k e same = new_or_done k (sym new ∙ subst (λ x. state_of T x ≡ Done k) same e)

  long_S : length S' ≡ length S + 1
  long_S = pushed_length S v

  long_W : length W' ≡ length W + length (g.next v)
  long_W = length-append W (g.next v)

  last_or : (i : ℕ) → i < length S' → (i < length S) ⊎ (i ≡ length S)
  last_or i lt = elim (below_or i (length S)) [ inl h ↦ inl h | inr h ↦ inr (omega (arith, long_S)) ]

  at_S : (i : ℕ) → i < length S → at S' i ≡ at S i
  at_S i lt = at_left S (v ∷ []) i lt

  at_new : at S' (length S) ≡ v
  at_new = at_last S v

  placed : (i : ℕ) → i < length S' → state_of T' (at S' i) ≡ OnPath i
  placed i lt = elim (last_or i lt) [
    | inl h ↦ subst (λ x. state_of T' x ≡ OnPath i) (sym (at_S i h)) (other (at S i) (on_path (at S i) i (o.placed i h)) ∙ o.placed i h)
    | inr e ↦ subst (λ k. state_of T' (at S' k) ≡ OnPath k) (sym e) (subst (λ x. state_of T' x ≡ OnPath (length S)) (sym at_new) here)
  ]

  inside : (i : ℕ) → i < length S' → at S' i < g.size
  inside i lt = elim (last_or i lt) [
    | inl h ↦ subst (λ x. x < g.size) (sym (at_S i h)) (o.inside i h)
    | inr e ↦ subst (λ k. at S' k < g.size) (sym e) (subst (λ x. x < g.size) (sym at_new) in_v)
  ]

  found : (u i : ℕ) → state_of T' u ≡ OnPath i → (i < length S') × (at S' i ≡ u)
  found u i e = elim (eq_or u v) [
    | inl same ↦ (let k : length S ≡ i = same_place (length S) i (sym here ∙ subst (λ x. state_of T' x ≡ OnPath i) same e) in
        (omega (arith, k, long_S), subst (λ j. at S' j ≡ u) k (at_new ∙ sym same)))
    | inr ne ↦ (let k = o.found u i (sym (other u ne) ∙ e) in (omega (arith, k.0, long_S), at_S i k.0 ∙ k.1))
  ]

  starts : (b : Cluster) → Contains B' b → (b.path < length S') × (b.work ≤ length W')
  starts b c = elim (Contains-push_cases B (cluster (length S) (length W)) b c) [
    | inl k ↦ (omega (arith, (o.starts b k).0, long_S), omega (arith, low b k, long_W))
    | inr e ↦ subst (λ d. (d.path < length S') × (d.work ≤ length W')) e (omega (arith, long_S), omega (arith, long_W))
  ]

  -- no cluster is behind the new vertex
  all_low : (b : Cluster) → Contains B' b → b.path ≤ length S
  all_low b c = omega (arith, (starts b c).0, long_S)

  covered : (i : ℕ) → i < length S' → IsCovered B' i
  covered i lt = elim (last_or i lt) [
    | inl h ↦ (let x = o.covered i h in
        record { cluster = x.cluster; among = Contains-append_left B (cluster (length S) (length W) ∷ []) x.cluster x.among; low = x.low })
    | inr e ↦ record { cluster = cluster (length S) (length W); among = Contains-push B (cluster (length S) (length W)); low = omega (arith, e) }
  ]

  leads_new : (i : ℕ) → i < length S' → Reaches g (at S' i) v
  leads_new i lt = elim (last_or i lt) [
    | inl h ↦ subst (λ x. Reaches g x v) (sym (at_S i h)) (leads i h)
    | inr e ↦ subst (λ k. Reaches g (at S' k) v) (sym e) (reaches_same g (at S' (length S)) v at_new)
  ]

  forward : (i j : ℕ) → i ≤ j → j < length S' → Reaches g (at S' i) (at S' j)
  forward i j le lt = elim (last_or j lt) [
    | inl h ↦ subst (λ x. Reaches g x (at S' j)) (sym (at_S i (omega arith))) (subst (λ x. Reaches g (at S i) x) (sym (at_S j h)) (o.forward i j le h))
    | inr e ↦ subst (λ k. Reaches g (at S' i) (at S' k)) (sym e) (subst (λ x. Reaches g (at S' i) x) (sym at_new) (leads_new i (omega arith)))
  ]

  back_old : (b : Cluster) → Contains B b → (j : ℕ) → b.path ≤ j → j < length S' → IsStart B' b j → Reaches g (at S' j) (at S' b.path)
  back_old b c j le lt start = elim (last_or j lt) [
    | inl h ↦ subst (λ x. Reaches g x (at S' b.path)) (sym (at_S j h)) (subst (λ x. Reaches g (at S j) x) (sym (at_S b.path (o.starts b c).0))
        (o.back b c j le h (λ d k. start d (Contains-append_left B (cluster (length S) (length W) ∷ []) d k))))
    | inr e ↦ elim (start (cluster (length S) (length W)) (Contains-push B (cluster (length S) (length W)))) [
      | inl a ↦ absurd (omega (arith, a, (o.starts b c).0))
      | inr a ↦ absurd (omega (arith, a, e))
    ]
  ]

  back : (b : Cluster) → Contains B' b → (j : ℕ) → b.path ≤ j → j < length S' → IsStart B' b j → Reaches g (at S' j) (at S' b.path)
  back b c j le lt start = elim (Contains-push_cases B (cluster (length S) (length W)) b c) [
    | inl k ↦ back_old b k j le lt start
    | inr e ↦ reaches_same g (at S' j) (at S' b.path) (let p : length S ≡ b.path = ap (λ d. d.path) e in ap (λ k. at S' k) (omega (arith, le, lt, p, long_S)))
  ]

  source_old : (m : ℕ) → m < length W → HasSource g S B m (at W m) → HasSource g S' B' m (at W' m)
  source_old m lt s = record {
    place = s.place;
    inside = (let h = s.inside in omega (arith, h, long_S));
    listed = subst (λ x. Contains (g.next (at S' s.place)) x) (sym (at_left W (g.next v) m lt))
        (subst (λ x. Contains (g.next x) (at W m)) (sym (at_S s.place s.inside)) s.listed);
    above = λ b c le. elim (Contains-push_cases B (cluster (length S) (length W)) b c) [
      | inl k ↦ s.above b k le
      | inr e ↦ absurd (let p : length W ≡ b.work = ap (λ d. d.work) e in omega (arith, le, lt, p))
    ];
    below = λ b c le. elim (Contains-push_cases B (cluster (length S) (length W)) b c) [
      | inl k ↦ s.below b k le
      | inr e ↦ (let p : length S ≡ b.path = ap (λ d. d.path) e in let h = s.inside in omega (arith, h, p))
    ];
  }

  work_low : (b : Cluster) → Contains B' b → b.work ≤ length W
  work_low b c = elim (Contains-push_cases B (cluster (length S) (length W)) b c) [
    | inl k ↦ low b k
    | inr e ↦ (let p : length W ≡ b.work = ap (λ d. d.work) e in omega (arith, p))
  ]

  source_new : (m : ℕ) → length W ≤ m → m < length W' → HasSource g S' B' m (at W' m)
  source_new m le lt =
      let k : length W + (m - length W) ≡ m = omega arith in
      let e : at W' m ≡ at (g.next v) (m - length W) = subst (λ j. at W' j ≡ at (g.next v) (m - length W)) k (at_behind W (g.next v) (m - length W)) in
      record {
        place = length S;
        inside = omega (arith, long_S);
        listed = subst (λ x. Contains (g.next (at S' (length S))) x) (sym e) (subst (λ x. Contains (g.next x) (at (g.next v) (m - length W))) (sym at_new)
            (at_contains (g.next v) (m - length W) (omega (arith, le, lt, long_W))));
        above = λ b c h. all_low b c;
        below = λ b c h. absurd (omega (arith, h, le, work_low b c));
      }

  sources' : (m : ℕ) → m < length W' → HasSource g S' B' m (at W' m)
  sources' m lt = elim (below_or m (length W)) [ inl h ↦ source_old m h (sources m h) | inr h ↦ source_new m h lt ]

  seen_old : (i w : ℕ) → i < length S → IsSeen T W B n i w → IsSeen T' W' B' n i w
  seen_old i w lt (inl d) = inl (record {
    place = d.place;
    inside = (let h = d.inside in omega (arith, h, long_W));
    is = at_left W (g.next v) d.place d.inside ∙ d.is;
    above = λ b c le. elim (Contains-push_cases B (cluster (length S) (length W)) b c) [
      | inl k ↦ d.above b k le
      | inr e ↦ absurd (let p : length S ≡ b.path = ap (λ d. d.path) e in omega (arith, le, lt, p))
    ];
  })
  seen_old i w lt (inr (inl d)) = inr (inl (record {
    place = d.place;
    is = other w (on_path w d.place d.is) ∙ d.is;
    above = λ b c le. elim (Contains-push_cases B (cluster (length S) (length W)) b c) [
      | inl k ↦ d.above b k le
      | inr e ↦ absurd (let p : length S ≡ b.path = ap (λ d. d.path) e in omega (arith, le, lt, p))
    ];
  }))
  seen_old i w lt (inr (inr d)) = inr (inr (record { component = d.component; is = other w (done w d.component d.is) ∙ d.is; low = d.low }))

  seen_new : (w : ℕ) → Contains (g.next v) w → IsSeen T' W' B' n (length S) w
  seen_new w c = let (k, (lt, e)) = contains_at (g.next v) w c in
      inl (record {
        place = length W + k;
        inside = omega (arith, lt, long_W);
        is = at_behind W (g.next v) k ∙ e;
        above = λ b c le. (let h = work_low b c in omega (arith, h));
      })

  edges' : (i w : ℕ) → i < length S' → w < g.size → Contains (g.next (at S' i)) w → IsSeen T' W' B' n i w
  edges' i w lt in_g c = elim (last_or i lt) [
    | inl h ↦ elim (edges i w h in_g (subst (λ x. Contains (g.next x) w) (at_S i h) c)) [
      | inl e ↦ inr (inl (record { place = length S; is = subst (λ x. state_of T' x ≡ OnPath (length S)) e here; above = λ b k le. all_low b k }))
      | inr s ↦ seen_old i w h s
    ]
    | inr e ↦ subst (λ k. IsSeen T' W' B' n k w) (sym e) (seen_new w (subst (λ x. Contains (g.next x) w) (subst (λ k. at S' k ≡ v) (sym e) at_new) c))
  ]

  -- no component is new
  old_done : (u k : ℕ) → state_of T' u ≡ Done k → state_of T u ≡ Done k
  old_done u k e = elim (eq_or u v) [
    | inl same ↦ absurd (path_or_done (length S) k (sym here ∙ subst (λ x. state_of T' x ≡ Done k) same e))
    | inr ne ↦ sym (other u ne) ∙ e
  ]

  pub open_visit : Open g T' S' W' B' n
  open_visit = record {
    long = length-set T v (OnPath (length S)) ∙ o.long;
    placed = placed;
    inside = inside;
    found = found;
    starts = starts;
    rises = rises_push B (cluster (length S) (length W)) o.rises (λ c k. ((o.starts c k).0, low c k));
    covered = covered;
    forward = forward;
    back = back;
    sources = sources';
    edges = edges';
    low = λ u k e. o.low u k (old_done u k e);
    ended = λ u w k e edge. (let x = o.ended u w k (old_done u k e) edge in
        record { component = x.component; is = other w (done w x.component x.is) ∙ x.is; low = x.low });
    one = λ u w k e f. o.one u w k (old_done u k e) (old_done w k f);
  }

  pub keeps_visit : Keeps T T'
  keeps_visit u e = elim (eq_or u v) [
    | inl same ↦ subst (λ x. state_of T x ≡ New) (sym same) new
    | inr ne ↦ sym (other u ne) ∙ e
  ]
