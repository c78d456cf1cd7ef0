-- The stages of a search: it starts, a list arrives, a vertex gets its edges, and nothing is left to do.
use Rattle.std.proofs.Common.{◌≡◌, ℕ, zero, suc, ◌<◌, ◌≤◌, List, [], ◌∷◌, ◌++◌, length, take, replicate, set, Option, Some, None, refl, sym, ap, ◌∙◌, subst, arith, ◌⊎◌, inl, inr, get_or}
use Rattle.std.specs.Prelude.{Contains}
use Rattle.std.specs.BinaryHeap.{heap_items}
use Rattle.std.specs.List.Sorted.{IsPermutation}
use Rattle.std.specs.declared.collections.BinaryHeap.{BinaryHeap}
use Rattle.std.specs.declared.alloc.Global.{Global}
use Rattle.std.proofs.lemmas.Bool.{cases_eq}
use Rattle.std.proofs.lemmas.List.{length-set, length-replicate, get_or-set_other, get_or-set_same}
use Rattle.std.proofs.lemmas.Option.{same_Some, slice_get-get_or, slice_get_read}
use Rattle.pt_instr.specs.Effects.{Kinds}
use Rattle.pt_kinds.specs.declared.forest.Forest.{Forest}
use Rattle.pt_kinds.specs.Forest.{Begins, Has, IsForest, IsInside, list_at}
use Rattle.pt_kinds.specs.Common.{IsCommon}
use Rattle.pt_kind_flow.specs.declared.edges.Edge.{Edge}
use Rattle.pt_kind_flow.specs.declared.flow.Arrival.{Arrival}
use Rattle.pt_kind_flow.specs.declared.flow.Flow.{Flow}
use Rattle.pt_kind_flow.specs.Flow as F
use Rattle.pt_kind_flow.specs.Flow.{Graph, edges_at, Comes, IsLongest, IsExact, entry, graph, told, AreLongest, Descends}
use Rattle.pt_kind_flow.specs.Search.{Grows, Seen, Open, Leads, IsFlow, IsSearch, IsFirstTable, GoneOn, GoesOn, Settled, Opens, AllDescend}
use Rattle.pt_kind_flow.proofs.Beginnings.{begins_same}
use Rattle.pt_kind_flow.proofs.Forests.{grows_itself, grown, still_inside}
use Rattle.pt_kind_flow.proofs.Partings.{exact_more}
use Rattle.pt_kind_flow.proofs.Leading.{lt_or}
use Rattle.pt_kind_flow.proofs.Waiting.{same_again, open_as}
use Rattle.pt_kind_flow.proofs.Theory.{none_in_empty, some_or_none, went_on, arrival_inside, skip_far, skip_known, arrive_first, arrive_shorter, longest_at, none_at, map_some, map_none, no_edges}

-- the entry that an index read
pub entry_is : {X : Type 0} (T : List (Option X)) (q : ℕ) (o p : Option X) → q < length T → o ≡ get_or T q o → o ≡ p → entry T q ≡ p
entry_is T q o p i h e = same_Some _ _ (sym (slice_get-get_or T q None i) ∙ slice_get_read T (length T) q o refl i h) ∙ e

abbrev graph_of : List (List Edge) → Kinds → Graph
graph_of edges first = record { edges = edges; first = first }

same_graph : (es fs : List (List Edge)) (ks ls : Kinds) → es ≡ fs → ks ≡ ls → graph_of es ks ≡ graph_of fs ls
same_graph es fs ks ls e k = ap (λ x. graph_of x ks) e ∙ ap (λ x. graph_of fs x) k

-- a list arrives

abbrev pub with_forest : Flow → Forest → Flow
with_forest f forest = record { forest = forest; first = f.first; edges = f.edges; table = f.table; work = f.work }

abbrev pub with_work : Flow → BinaryHeap Arrival Global → Flow
with_work f work = record { forest = f.forest; first = f.first; edges = f.edges; table = f.table; work = work }

-- the search after a list was told of a vertex
gone : (old : Flow) (f1 : Forest) (new : Flow) (v list : ℕ) (told : Option ℕ) → AllDescend (graph old) → IsInside old.forest old.first → Grows old.forest f1
    → GoneOn (with_forest old f1) new v list told
    → Open (graph old) new.forest (set old.table.items v (Some list)) (heap_items new.work) → GoesOn old new
gone old f1 new v list told sorted inside grows g o = record {
  search = record {
    opens = subst (λ h. Open h new.forest new.table.items (heap_items new.work)) (sym same) (subst (λ T. Open (graph old) new.forest T (heap_items new.work)) (sym g.table) o);
    first = subst (λ i. IsInside new.forest i) (sym g.first) (still_inside f1 new.forest old.first g.leads.grows (still_inside old.forest f1 old.first grows inside));
    sorted = subst AllDescend (sym same) sorted;
  };
  same = same;
}
  where
    same : graph new ≡ graph old
    same = same_graph new.edges old.edges (list_at new.forest new.first) (list_at old.forest old.first) g.edges
        (ap (λ i. list_at new.forest i) g.first ∙ (g.leads.grows.kept old.first (still_inside old.forest f1 old.first grows inside) ∙ grows.kept old.first inside))

module _ (old : Flow) (a : Arrival) (o : Open (graph old) old.forest old.table.items (heap_items old.work ++ a ∷ [])) (inside : IsInside old.forest old.first) (sorted : AllDescend (graph old)) where
  pub arrived_far : length old.table.items ≤ a.to → GoesOn old old
  arrived_far h = record { search = record { opens = skip_far (graph old) old.forest old.table.items (heap_items old.work) a o h; first = inside; sorted = sorted }; same = refl }

  pub arrived_known : (known count : ℕ) → entry old.table.items a.to ≡ Some known → IsCommon (list_at old.forest known) (list_at old.forest a.list) count → count ≡ length (list_at old.forest known) → GoesOn old old
  arrived_known known count e c whole = record { search = record { opens = skip_known (graph old) old.forest old.table.items (heap_items old.work) a o known count e c whole; first = inside; sorted = sorted }; same = refl }

  -- it waits until it is as urgent as any other
  pub arrived_again : (work : BinaryHeap Arrival Global) (b : Arrival) → IsPermutation (b ∷ heap_items old.work) (heap_items work) → b.to ≡ a.to → b.list ≡ a.list
      → GoesOn old (with_work old work)
  arrived_again work b p to list = record {
    search = record {
      opens = open_as (graph old) old.forest old.table.items (heap_items old.work ++ a ∷ []) (heap_items work) o (same_again (heap_items old.work) (heap_items work) a b p to list);
      first = inside;
      sorted = sorted;
    };
    same = refl;
  }

  pub due_is_inside : IsInside old.forest a.list
  due_is_inside = arrival_inside (graph old) old.forest old.table.items (heap_items old.work) a o

  module _ (new : Flow) (room : a.to < length old.table.items) where
    pub arrived_first : entry old.table.items a.to ≡ None → GoneOn old new a.to a.list None → GoesOn old new
    arrived_first none g = gone old old.forest new a.to a.list None sorted inside (grows_itself old.forest o.forest) g
        (arrive_first (graph old) old.forest old.table.items (heap_items old.work) a o old.forest new.forest (heap_items new.work) a.list (grows_itself old.forest o.forest) room due_is_inside g.leads none refl refl)

    pub arrived_shorter : (f1 : Forest) (list known count : ℕ) → entry old.table.items a.to ≡ Some known → IsCommon (list_at old.forest known) (list_at old.forest a.list) count
        → Has old.forest f1 list (take count (list_at old.forest known)) → GoneOn (with_forest old f1) new a.to list (Some count) → GoesOn old new
    arrived_shorter f1 list known count e c h g = gone old f1 new a.to list (Some count) sorted inside (grown old.forest f1 list _ h) g
        (arrive_shorter (graph old) old.forest old.table.items (heap_items old.work) a o f1 new.forest (heap_items new.work) list (grown old.forest f1 list _ h) room h.inside known count g.leads e c h.is)

no_order : Descends []
no_order i j e d h a c = absurd (cc)

pub sorted_here : (edges xs : List (List Edge)) (v : ℕ) (es : List Edge) → xs ≡ set edges v es → v < length edges → Descends es → Descends (edges_at xs v)
sorted_here edges xs v es is lt order = subst Descends (sym (ap (λ ys. edges_at ys v) is ∙ get_or-set_same edges v es [] lt)) order

-- a search starts

edges_none : (n v : ℕ) → edges_at (replicate n []) v ≡ []
edges_none zero v = refl
edges_none (suc n) zero = refl
edges_none (suc n) (suc v) = edges_none n v

pub started : (f : Forest) (first count : ℕ) (edges : List (List Edge)) (T : List (Option ℕ)) → IsForest f → IsInside f first → edges ≡ replicate count [] → IsFirstTable count first T
    → Open (graph_of edges (list_at f first)) f T []
started f first count edges T is inside none t = record {
  forest = is;
  long = t.long ∙ sym long;
  inside = λ v i h. subst (λ j. IsInside f j) (t.only v i h).1 inside;
  due_inside = λ a c. absurd (none_in_empty a c);
  start = by_count count refl;
  above = λ v i h. subst (λ u. IsExact (graph_of edges (list_at f first)) u (list_at f i)) (sym (t.only v i h).0) (subst (λ j. IsExact (graph_of edges (list_at f first)) 0 (list_at f j)) (t.only v i h).1
      (F.whole F.start));
  due_above = λ a c. absurd (none_in_empty a c);
  goes_on = λ v i h e c. absurd (none_in_empty e (subst (λ es. Contains es e) (ap (λ es. edges_at es v) none ∙ edges_none count v) c));
}
  where
    long : length edges ≡ count
    long = ap (λ es. length es) none ∙ length-replicate count []

    by_count : (n : ℕ) → count ≡ n → Seen (graph_of edges (list_at f first)) f T [] 0 (list_at f first)
    by_count zero e = inl (let l = long in omega (arith, l, e))
    by_count (suc n) e = inr (inl (record { list = first; is = t.here (omega (arith, e)); begins = begins_same (list_at f first) }))

more_comes : (g g' : Graph) → g'.first ≡ g.first → ((u : ℕ) (e : Edge) → Contains (edges_at g.edges u) e → Contains (edges_at g'.edges u) e) → (u : ℕ) (ks : Kinds) → Comes g u ks → Comes g' u ks
more_comes g g' first on _ _ F.start = subst (λ ks. Comes g' 0 ks) first F.start
more_comes g g' first on _ _ (F.goes {v} {ks} {e} c edge) = F.goes (more_comes g g' first on v ks c) (on v e edge)

pub none_sorted : (edges : List (List Edge)) (count : ℕ) (ks : Kinds) → edges ≡ replicate count [] → AllDescend (graph_of edges ks)
none_sorted edges count ks none v = subst Descends (sym (ap (λ es. edges_at es v) none ∙ edges_none count v)) no_order

-- a vertex gets its edges
module _ (g g' : Graph) (v : ℕ) (es : List Edge) (is : g'.edges ≡ set g.edges v es) (first : g'.first ≡ g.first) (none : edges_at g.edges v ≡ []) where
  long : length g'.edges ≡ length g.edges
  long = ap (λ xs. length xs) is ∙ length-set g.edges v es

  other : (u : ℕ) → (u ≡ v → ⊥) → edges_at g'.edges u ≡ edges_at g.edges u
  other u ne = ap (λ xs. edges_at xs u) is ∙ get_or-set_other g.edges v u es [] ne

  edge_on : (u : ℕ) (e : Edge) → Contains (edges_at g.edges u) e → (u ≡ v) ⊎ (u ≡ v → ⊥) → Contains (edges_at g'.edges u) e
  edge_on u e c (inl same) = absurd (none_in_empty e (subst (λ xs. Contains xs e) (ap (λ w. edges_at g.edges w) same ∙ none) c))
  edge_on u e c (inr ne) = subst (λ xs. Contains xs e) (sym (other u ne)) c

  more : (u : ℕ) (ks : Kinds) → Comes g u ks → Comes g' u ks
  more = more_comes g g' first (λ u e c. edge_on u e c (cases_eq u v))

  module _ (f : Forest) (T : List (Option ℕ)) (o : Open g f T []) where
    pub opened_none : entry T v ≡ None → Open g' f T []
    opened_none untold = record {
      forest = o.forest;
      long = o.long ∙ sym long;
      inside = o.inside;
      due_inside = o.due_inside;
      start = on 0 g'.first (subst (λ ks. Seen g f T [] 0 ks) (sym first) o.start);
      above = λ u i h. exact_more g g' u (list_at f i) (list_at f i) more refl (o.above u i h);
      due_above = λ a c. absurd (none_in_empty a c);
      goes_on = λ u i h e c. on e.to (F.led e (list_at f i)) (o.goes_on u i h e (subst (λ xs. Contains xs e) (other u (λ same. some_or_none i (sym h ∙ (ap (λ w. entry T w) same ∙ untold)))) c));
    }
      where
        on : (u : ℕ) (ks : Kinds) → Seen g f T [] u ks → Seen g' f T [] u ks
        on u ks (inl h) = inl (let l = long in omega (arith, h, l))
        on u ks (inr (inl k)) = inr (inl k)
        on u ks (inr (inr d)) = absurd (none_in_empty d.arrival d.among)

    pub opened_some : (list : ℕ) → entry T v ≡ Some list → v < length T → (f2 : Forest) (W' : List Arrival) → Leads f f2 (edges_at g'.edges v) list None [] W' → Open g' f2 (set T v (Some list)) W'
    opened_some list e room f2 W' leads = went_on g g' f f f2 T [] [] W' v list o long first more other (grows_itself f o.forest) room (o.inside v list e)
        (exact_more g g' v (list_at f list) (list_at f list) more refl (o.above v list e))
        (λ i h. subst (λ j. Begins (list_at f list) (list_at f j)) (same_Some list i (sym e ∙ h)) (begins_same (list_at f list)))
        (λ a c. c) (λ a c. inl c) None leads (λ n h. absurd (some_or_none n (sym h)))

module _ (old mid : Flow) (v : ℕ) (es : List Edge) (flow : IsFlow old) (none : edges_at (graph old).edges v ≡ []) (is : (graph mid).edges ≡ set (graph old).edges v es)
    (forest : mid.forest ≡ old.forest) (first : mid.first ≡ old.first) (table : mid.table ≡ old.table) (work : mid.work ≡ old.work) (order : Descends es) where
  abbrev Start : Type 0
  Start = Open (graph old) mid.forest mid.table.items []

  o : Start
  o = subst (λ f. Open (graph old) f mid.table.items []) (sym forest) (subst (λ T. Open (graph old) old.forest T.items []) (sym table)
      (subst (λ W. Open (graph old) old.forest old.table.items W) flow.none flow.opens))

  same_first : (graph mid).first ≡ (graph old).first
  same_first = ap (λ f. list_at f mid.first) forest ∙ ap (λ i. list_at old.forest i) first

  no_work : heap_items mid.work ≡ []
  no_work = ap (λ w. heap_items w) work ∙ flow.none

  first_inside : IsInside mid.forest mid.first
  first_inside = subst (λ f. IsInside f mid.first) (sym forest) (subst (λ i. IsInside old.forest i) (sym first) flow.first)

  pub all_sorted : AllDescend (graph mid)
  all_sorted u = by_place (cases_eq u v)
    where
      by_place : (u ≡ v) ⊎ (u ≡ v → ⊥) → Descends (edges_at (graph mid).edges u)
      by_place (inl e) = at_v (lt_or v (length (graph old).edges))
        where
          at_v : (v < length (graph old).edges) ⊎ (length (graph old).edges ≤ v) → Descends (edges_at (graph mid).edges u)
          at_v (inl lt) = subst Descends (sym (ap (λ w. edges_at (graph mid).edges w) e ∙ (ap (λ xs. edges_at xs v) is ∙ get_or-set_same (graph old).edges v es [] lt))) order
          at_v (inr h) = subst Descends (sym (no_edges (graph mid).edges u (let l = ap (λ xs. length xs) is ∙ length-set (graph old).edges v es in omega (arith, l, h, e)))) no_order
      by_place (inr ne) = subst Descends (sym (ap (λ xs. edges_at xs u) is ∙ get_or-set_other (graph old).edges v u es [] ne)) (flow.sorted u)

  pub opens_untold : entry mid.table.items v ≡ None → Opens old mid v es
  opens_untold untold = record {
    flow = record {
      opens = subst (λ W. Open (graph mid) mid.forest mid.table.items W) (sym no_work) (opened_none (graph old) (graph mid) v es is same_first none mid.forest mid.table.items o untold);
      first = first_inside;
      sorted = all_sorted;
      none = no_work;
    };
    edges_are = is;
    first = same_first;
  }

  module _ (list : ℕ) (told : entry mid.table.items v ≡ Some list) (room : v < length mid.table.items) (new : Flow) (g : GoneOn mid new v list None) where
    opened : Open (graph mid) new.forest (set mid.table.items v (Some list)) (heap_items new.work)
    opened = opened_some (graph old) (graph mid) v es is same_first none mid.forest mid.table.items o list told room new.forest (heap_items new.work)
        (subst (λ W. Leads mid.forest new.forest (edges_at (graph mid).edges v) list None W (heap_items new.work)) no_work g.leads)

    same : graph new ≡ graph mid
    same = same_graph new.edges mid.edges (list_at new.forest new.first) (list_at mid.forest mid.first) g.edges
        (ap (λ i. list_at new.forest i) g.first ∙ g.leads.grows.kept mid.first first_inside)

    pub opens_search : IsSearch new
    opens_search = record {
      opens = subst (λ h. Open h new.forest new.table.items (heap_items new.work)) (sym same) (subst (λ T. Open (graph mid) new.forest T (heap_items new.work)) (sym g.table) opened);
      first = subst (λ i. IsInside new.forest i) (sym g.first) (still_inside mid.forest new.forest mid.first g.leads.grows first_inside);
      sorted = subst AllDescend (sym same) all_sorted;
    }

    pub opens_told : (end : Flow) → Settled new end → Opens old end v es
    opens_told end s = record {
      flow = s.flow;
      edges_are = ap (λ h. h.edges) s.same ∙ (ap (λ h. h.edges) same ∙ is);
      first = ap (λ h. h.first) s.same ∙ (ap (λ h. h.first) same ∙ same_first);
    }

-- arrivals one after the other

pub goes_twice : (one two three : Flow) → GoesOn one two → IsSearch three → graph three ≡ graph two → GoesOn one three
goes_twice one two three g search e = record { search = search; same = e ∙ g.same }

no_more : {X : Type 0} (left rest more : List X) → left ≡ rest ++ more → length more ≡ 0 → length rest ≡ 0 → left ≡ []
no_more left [] [] e h k = e
no_more left (x ∷ rest) more e h k = absurd (omega (arith, k))
no_more left [] (x ∷ more) e h k = absurd (omega (arith, h))

-- nothing is left to do

pub are_longest : (flow : Flow) → IsFlow flow → AreLongest flow
are_longest flow is = record {
  sound = λ v ks e. let m = map_some (list_at flow.forest) (entry flow.table.items v) ks e in
      subst (λ ls. IsLongest (graph flow) v ls) m.1.1 (longest_at (graph flow) flow.forest flow.table.items o v m.0 m.1.0);
  whole = λ v ks lt c e. none_at (graph flow) flow.forest flow.table.items o v ks lt c
      (map_none (list_at flow.forest) (entry flow.table.items v) e);
}
  where
    o : Open (graph flow) flow.forest flow.table.items []
    o = subst (λ W. Open (graph flow) flow.forest flow.table.items W) is.none is.opens
