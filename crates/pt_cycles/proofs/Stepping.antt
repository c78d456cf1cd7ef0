-- A step of the search, and what is left to do after it.
use Rattle.std.proofs.Common.{◌≡◌, ℕ, ◌+◌, ◌<◌, ◌≤◌, List, [], ◌∷◌, ◌++◌, length, take, refl, sym, ap, ◌∙◌, arith, subst, zero, suc, ◌⊎◌, inl, inr, set, length-append, replicate}
use Rattle.std.specs.Prelude.{Vec, Contains}
use Rattle.std.specs.Global.{Global}
use Rattle.pt_cycles.specs.declared.search.State.{State}
use Rattle.pt_cycles.specs.declared.search.State.TheVariants.{New, OnPath, Done}
use Rattle.pt_cycles.specs.declared.search.Cluster.{Cluster}
use Rattle.pt_cycles.specs.declared.search.Search.{Search}
use Rattle.pt_cycles.specs.Graphs.{Digraph, number_of, AreComponents}
use Rattle.pt_cycles.specs.Search.{at, state_of, cluster, LeadsOn, IsDone, IsSeen, Open, IsOpen, IsLast, IsCut, Keeps, dues, Visited, Closed, Stepped, Settled, Before, HasNumbers}
use Rattle.pt_cycles.proofs.Tables.{below_or, none_in_empty, pushed_length, new_or_path, new_or_done, rises_last, rises_none, all_new, state_here, state_other}
use Rattle.pt_cycles.proofs.Following.{open_cut, open_skip, sources_left, due_left, last_reaches}
use Rattle.pt_cycles.proofs.Visiting.{open_visit, keeps_visit}
use Rattle.pt_cycles.proofs.Closing.{open_close, keeps_close}
use Rattle.std.proofs.lemmas.List.Elements.{Contains-push, Contains-push_cases}
use Rattle.std.proofs.lemmas.List.{length-replicate}

path_or_new : (i : ℕ) → OnPath i ≡ New → ⊥
path_or_new i h = new_or_path i (sym h)

done_or_new : (k : ℕ) → Done k ≡ New → ⊥
done_or_new k h = new_or_done k (sym h)

module _ (next : ℕ → List ℕ) where
  dues_set : (k : ℕ) (T : List State) (v u i : ℕ) → v < length T → state_of T v ≡ New → u ≡ k + v
      → dues next k (set T v (OnPath i)) + (length (next u) + 1) ≡ dues next k T
  dues_set k [] v u i h e w = absurd (omega arith)
  dues_set k (New ∷ T) zero u i h e w = let f : length (next u) ≡ length (next k) = ap (λ n. length (next n)) (let x : u ≡ k = omega arith in x) in
      omega (arith, f)
  dues_set k (OnPath j ∷ T) zero u i h e w = absurd (path_or_new j e)
  dues_set k (Done j ∷ T) zero u i h e w = absurd (done_or_new j e)
  dues_set k (New ∷ T) (suc v) u i h e w = omega (arith, dues_set (suc k) T v u i (omega arith) e (omega arith))
  dues_set k (OnPath j ∷ T) (suc v) u i h e w = dues_set (suc k) T v u i (omega arith) e (omega arith)
  dues_set k (Done j ∷ T) (suc v) u i h e w = dues_set (suc k) T v u i (omega arith) e (omega arith)

  dues_keeps : (k : ℕ) (T T' : List State) → length T' ≡ length T → Keeps T T' → dues next k T' ≤ dues next k T
  dues_keeps k [] [] h keeps = omega arith
  dues_keeps k [] (s ∷ T') h keeps = absurd (omega arith)
  dues_keeps k (s ∷ T) [] h keeps = absurd (omega arith)
  dues_keeps k (New ∷ T) (New ∷ T') h keeps = omega (arith, dues_keeps (suc k) T T' (omega arith) (λ v e. keeps (suc v) e))
  dues_keeps k (OnPath i ∷ T) (New ∷ T') h keeps = absurd (path_or_new i (keeps zero refl))
  dues_keeps k (Done i ∷ T) (New ∷ T') h keeps = absurd (done_or_new i (keeps zero refl))
  dues_keeps k (New ∷ T) (OnPath j ∷ T') h keeps = omega (arith, dues_keeps (suc k) T T' (omega arith) (λ v e. keeps (suc v) e))
  dues_keeps k (OnPath i ∷ T) (OnPath j ∷ T') h keeps = dues_keeps (suc k) T T' (omega arith) (λ v e. keeps (suc v) e)
  dues_keeps k (Done i ∷ T) (OnPath j ∷ T') h keeps = dues_keeps (suc k) T T' (omega arith) (λ v e. keeps (suc v) e)
  dues_keeps k (New ∷ T) (Done j ∷ T') h keeps = omega (arith, dues_keeps (suc k) T T' (omega arith) (λ v e. keeps (suc v) e))
  dues_keeps k (OnPath i ∷ T) (Done j ∷ T') h keeps = dues_keeps (suc k) T T' (omega arith) (λ v e. keeps (suc v) e)
  dues_keeps k (Done i ∷ T) (Done j ∷ T') h keeps = dues_keeps (suc k) T T' (omega arith) (λ v e. keeps (suc v) e)

open_as : (g : Digraph) (T T' : List State) (S S' W W' : List ℕ) (B B' : List Cluster) (n n' : ℕ) → T' ≡ T → S' ≡ S → W' ≡ W → B' ≡ B → n' ≡ n
    → Open g T S W B n → Open g T' S' W' B' n'
open_as g T T' S S' W W' B B' n n' a b c d e o =
    subst (λ x. Open g x S' W' B' n') (sym a) (subst (λ x. Open g T x W' B' n') (sym b) (subst (λ x. Open g T S x B' n') (sym c)
    (subst (λ x. Open g T S W x n') (sym d) (subst (λ x. Open g T S W B x) (sym e) o))))

-- an edge of the last cluster is followed
module _ (g : Digraph) (s : Search) (v : ℕ) (o : Open g s.states.items s.path.items (s.work.items ++ v ∷ []) s.clusters.items s.next)
    (l : IsLast s.work.items s.clusters.items) where
  skip : (v < g.size → (i : ℕ) → LeadsOn s.states.items s.clusters.items i v ⊎ IsDone s.states.items v s.next) → Stepped g s s
  skip known = record {
    known = open_skip g s.states.items s.path.items s.work.items s.clusters.items s.next v o l.due known;
    keeps = λ u e. e;
    lighter = omega arith;
  }

  pub skip_out : g.size ≤ v → Stepped g s s
  skip_out h = skip (λ lt i. absurd (omega arith))

  pub skip_done : (k : ℕ) → state_of s.states.items v ≡ Done k → Stepped g s s
  skip_done k e = skip (λ lt i. inr (record { component = k; is = e; low = omega (arith, o.low v k e) }))

  pub follow_back : (p : ℕ) → state_of s.states.items v ≡ OnPath p → v < g.size → (B : Vec Cluster Global) → IsCut p s.clusters.items B.items
      → Stepped g s (record { states = s.states; path = s.path; work = s.work; clusters = B; next = s.next })
  follow_back p e lt B cut = record {
    known = open_skip g s.states.items s.path.items s.work.items B.items s.next v
        (open_cut g s.states.items s.path.items s.work.items s.clusters.items s.next v o p B.items l lt e cut)
        (λ b c. l.due b (cut.from b c)) (λ h i. inl (record { place = p; is = e; above = λ b c le. cut.low b c }));
    keeps = λ u e. e;
    lighter = (let h = cut.short in omega (arith, h));
  }

  pub follow_new : state_of s.states.items v ≡ New → v < g.size → (t : Search) → Visited g v s t → Stepped g s t
  follow_new new lt t is = record {
    known = open_as g (set s.states.items v (OnPath (length s.path.items))) t.states.items (s.path.items ++ v ∷ []) t.path.items
        (s.work.items ++ g.next v) t.work.items
        (s.clusters.items ++ cluster (length s.path.items) (length s.work.items) ∷ []) t.clusters.items s.next t.next is.states is.path is.work is.clusters
        is.next
        (open_visit g s.states.items s.path.items (s.work.items ++ v ∷ []) s.work.items s.clusters.items s.next v o new lt l.due
        (sources_left g s.states.items s.path.items s.work.items s.clusters.items s.next v o) edges
        (λ i h. last_reaches g s.states.items s.path.items s.work.items s.clusters.items s.next v o l lt i h));
    keeps = subst (λ x. Keeps s.states.items x) (sym is.states)
        (keeps_visit g s.states.items s.path.items (s.work.items ++ v ∷ []) s.work.items s.clusters.items s.next v o new lt l.due
        (sources_left g s.states.items s.path.items s.work.items s.clusters.items s.next v o) edges
        (λ i h. last_reaches g s.states.items s.path.items s.work.items s.clusters.items s.next v o l lt i h));
    lighter =
        let d : dues g.next 0 t.states.items + (length (g.next v) + 1) ≡ dues g.next 0 s.states.items =
        subst (λ x. dues g.next 0 x + (length (g.next v) + 1) ≡ dues g.next 0 s.states.items) (sym is.states)
        (dues_set g.next 0 s.states.items v v (length s.path.items) (omega (arith, lt, o.long)) new (omega arith)) in
        let w : length t.work.items ≡ length s.work.items + length (g.next v) = ap (λ x. length x) is.work ∙ length-append s.work.items (g.next v) in
        let b : length t.clusters.items ≡ length s.clusters.items + 1 = ap (λ x. length x) is.clusters
        ∙ pushed_length s.clusters.items (cluster (length s.path.items) (length s.work.items)) in
        omega (arith, d, w, b);
  }
    where
      edges : (i w : ℕ) → i < length s.path.items → w < g.size → Contains (g.next (at s.path.items i)) w
          → (v ≡ w) ⊎ IsSeen s.states.items s.work.items s.clusters.items s.next i w
      edges i w h in_g c = elim (o.edges i w h in_g c) [
        | inl d ↦ elim (due_left g s.states.items s.path.items s.work.items s.clusters.items s.next v o i w d) [ inl k ↦ inr (inl k) | inr e ↦ inl e ]
        | inr d ↦ inr (inr d)
      ]

-- the last cluster ends, or an edge of it is followed
module _ (g : Digraph) (s : Search) (b : Cluster) (o : Open g s.states.items s.path.items s.work.items (s.clusters.items ++ b ∷ []) s.next) where
  pub start_below : b.path ≤ length s.path.items
  start_below = omega (arith, (o.starts b (Contains-push s.clusters.items b)).0)

  pub path_inside : (i : ℕ) → i < length s.path.items → at s.path.items i < length s.states.items
  path_inside i lt = omega (arith, o.inside i lt, o.long)

  pub ends : length s.work.items ≤ b.work → (t : Search) → Closed b.path s t → Stepped g s t
  ends none t is = record {
    known = open_as g t.states.items t.states.items (take b.path s.path.items) t.path.items s.work.items t.work.items s.clusters.items t.clusters.items
        (s.next + 1) t.next
        refl is.path is.work is.clusters is.next
        (open_close g s.states.items t.states.items s.path.items s.work.items s.clusters.items b s.next o none is.put.long is.put.done is.put.each);
    keeps = keeps;
    lighter =
        let d : dues g.next 0 t.states.items ≤ dues g.next 0 s.states.items = dues_keeps g.next 0 s.states.items t.states.items is.put.long keeps in
        let w : length t.work.items ≡ length s.work.items = ap (λ x. length x) is.work in
        let c : length t.clusters.items ≡ length s.clusters.items = ap (λ x. length x) is.clusters in
        omega (arith, d, w, c);
  }
    where
      keeps : Keeps s.states.items t.states.items
      keeps = keeps_close g s.states.items t.states.items s.path.items s.work.items s.clusters.items b s.next o none is.put.long is.put.done is.put.each

  -- what is due last is taken, and the cluster put back
  module _ (v : ℕ) (W : Vec ℕ Global) (B : Vec Cluster Global) (due : s.work.items ≡ W.items ++ v ∷ []) (clusters : B.items ≡ s.clusters.items ++ b ∷ [])
      (more : b.work < length s.work.items) where
    abbrev mid : Search
    mid = record { states = s.states; path = s.path; work = W; clusters = B; next = s.next }

    pub taken : Open g s.states.items s.path.items (W.items ++ v ∷ []) B.items s.next
    taken = open_as g s.states.items s.states.items s.path.items s.path.items s.work.items (W.items ++ v ∷ [])
        (s.clusters.items ++ b ∷ []) B.items s.next s.next
        refl refl (sym due) clusters refl o

    long : length s.work.items ≡ length W.items + 1
    long = ap (λ x. length x) due ∙ pushed_length W.items v

    pub is_last : IsLast W.items B.items
    is_last = subst (λ x. IsLast W.items x) (sym clusters) (record {
      cluster = b;
      among = Contains-push s.clusters.items b;
      high = λ d c. elim (Contains-push_cases s.clusters.items b d c) [
        | inl k ↦ omega (arith, (rises_last s.clusters.items b o.rises d k).0)
        | inr e ↦ (let p : b.path ≡ d.path = ap (λ x. x.path) e in omega (arith, p))
      ];
      due = λ d c. elim (Contains-push_cases s.clusters.items b d c) [
        | inl k ↦ omega (arith, (rises_last s.clusters.items b o.rises d k).1, more, long)
        | inr e ↦ (let p : b.work ≡ d.work = ap (λ x. x.work) e in omega (arith, p, more, long))
      ];
    })

    pub on : (t : Search) → Stepped g mid t → Stepped g s t
    on t r = record {
      known = r.known;
      keeps = r.keeps;
      lighter = (let h = r.lighter in let n : length B.items ≡ length s.clusters.items + 1 = ap (λ x. length x) clusters ∙ pushed_length s.clusters.items b in
          omega (arith, h, n, long));
    }

-- a vertex and all that it leads to
module _ (g : Digraph) (v : ℕ) (s : Search) (in_v : v < g.size) (before : Before g v s) where
  nothing : (b : Cluster) → Contains s.clusters.items b → ⊥
  nothing b c = none_in_empty b (subst (λ x. Contains x b) before.empty c)

  no_path : (i : ℕ) → i < length s.path.items → ⊥
  no_path i lt = let x = before.known.covered i lt in nothing x.cluster x.among

  pub in_states : v < length s.states.items
  in_states = omega (arith, in_v, before.known.long)

  pub root_seen : (state_of s.states.items v ≡ New → ⊥) → Before g (v + 1) s
  root_seen h = record { known = before.known; empty = before.empty; seen = seen }
    where
      seen : (u : ℕ) → u < v + 1 → state_of s.states.items u ≡ New → ⊥
      seen u lt e = elim (below_or u v) [
        | inl k ↦ before.seen u k e
        | inr k ↦ (let same : u ≡ v = omega arith in h (subst (λ x. state_of s.states.items x ≡ New) same e))
      ]

  module _ (new : state_of s.states.items v ≡ New) (t : Search) (is : Visited g v s t) where
    edges : (i w : ℕ) → i < length s.path.items → w < g.size → Contains (g.next (at s.path.items i)) w
        → (v ≡ w) ⊎ IsSeen s.states.items s.work.items s.clusters.items s.next i w
    edges i w lt h c = absurd (no_path i lt)

    pub root_open : IsOpen g t
    root_open = open_as g (set s.states.items v (OnPath (length s.path.items))) t.states.items (s.path.items ++ v ∷ []) t.path.items
        (s.work.items ++ g.next v) t.work.items
        (s.clusters.items ++ cluster (length s.path.items) (length s.work.items) ∷ []) t.clusters.items s.next t.next is.states is.path is.work is.clusters
        is.next
        (open_visit g s.states.items s.path.items s.work.items s.work.items s.clusters.items s.next v before.known new in_v (λ b c. absurd (nothing b c))
        before.known.sources edges (λ i lt. absurd (no_path i lt)))

    pub root_done : (r : Search) → Settled g t r → Before g (v + 1) r
    root_done r settled = record { known = settled.known; empty = settled.empty; seen = seen }
      where
        seen : (u : ℕ) → u < v + 1 → state_of r.states.items u ≡ New → ⊥
        seen u lt e =
            let f : state_of (set s.states.items v (OnPath (length s.path.items))) u ≡ New = subst (λ x. state_of x u ≡ New) is.states (settled.keeps u e) in
            elim (below_or u v) [
              | inl k ↦ before.seen u k (sym (state_other s.states.items v u (OnPath (length s.path.items)) (λ same. omega arith)) ∙ f)
              | inr k ↦ (let same : u ≡ v = omega arith in
                  path_or_new (length s.path.items) (sym (state_here s.states.items v (OnPath (length s.path.items)) in_states)
                  ∙ subst (λ x. state_of (set s.states.items v (OnPath (length s.path.items))) x ≡ New) same f))
            ]

-- nothing is known yet
pub begins : (g : Digraph) (T : Vec State Global) (S W : Vec ℕ Global) (B : Vec Cluster Global) → T.items ≡ replicate {A = State} g.size New → S.items ≡ []
    → W.items ≡ [] → B.items ≡ []
    → Before g 0 (record { states = T; path = S; work = W; clusters = B; next = 0 })
begins g T S W B new path work clusters = record {
  known = open_as g (replicate {A = State} g.size New) T.items [] S.items [] W.items [] B.items 0 0 new path work clusters refl (record {
    long = length-replicate g.size New;
    placed = λ i lt. absurd (omega arith);
    inside = λ i lt. absurd (omega arith);
    found = λ v i e. absurd (new_or_path i (sym (all_new g.size v) ∙ e));
    starts = λ b c. absurd (none_in_empty b c);
    rises = rises_none;
    covered = λ i lt. absurd (omega arith);
    forward = λ i j le lt. absurd (omega arith);
    back = λ b c. absurd (none_in_empty b c);
    sources = λ m lt. absurd (omega arith);
    edges = λ i w lt. absurd (omega arith);
    low = λ v k e. absurd (new_or_done k (sym (all_new g.size v) ∙ e));
    ended = λ v w k e. absurd (new_or_done k (sym (all_new g.size v) ∙ e));
    one = λ u v k e. absurd (new_or_done k (sym (all_new g.size u) ∙ e));
  });
  empty = clusters;
  seen = λ v lt. absurd (omega arith);
}

-- all vertices have numbers
module _ (g : Digraph) (n : ℕ) (s : Search) (all : n ≡ g.size) (before : Before g n s) (table : List ℕ) (has : HasNumbers s.states.items table) where
  done_now : (u : ℕ) → u < g.size → (t : State) → state_of s.states.items u ≡ t → (k : ℕ) × (state_of s.states.items u ≡ Done k)
  done_now u lt New e = absurd (before.seen u (omega arith) e)
  done_now u lt (OnPath i) e = absurd (let x = before.known.covered i (before.known.found u i e).0 in
      none_in_empty x.cluster (subst (λ y. Contains y x.cluster) before.empty x.among))
  done_now u lt (Done k) e = (k, e)

  pub all_numbered : AreComponents g table
  all_numbered = record {
    long = has.long ∙ before.known.long;
    falls = λ a b e. (let (k, d) = done_now a e.from (state_of s.states.items a) refl in let x = before.known.ended a b k d e in
        let h = x.low in let p : number_of table b ≡ x.component = has.each b x.component x.is in let q : number_of table a ≡ k = has.each a k d in
        omega (arith, h, p, q));
    one = λ a b in_a in_b e. (let (k, d) = done_now a in_a (state_of s.states.items a) refl in let (j, f) = done_now b in_b (state_of s.states.items b) refl in
        let p : j ≡ k = sym (has.each b j f) ∙ (sym e ∙ has.each a k d) in before.known.one a b k d (subst (λ x. state_of s.states.items b ≡ Done x) p f));
  }
