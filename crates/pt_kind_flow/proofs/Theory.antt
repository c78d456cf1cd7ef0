-- A search that has nothing left to do has found the longest beginnings.
use Rattle.std.proofs.Common.{◌≡◌, ℕ, zero, suc, ◌<◌, ◌≤◌, List, [], ◌∷◌, ◌++◌, length, take, set, Option, Some, None, refl, sym, ap, ◌∙◌, subst, arith, ◌⊎◌, inl, inr, true}
use Rattle.std.specs.Prelude.{Contains, option_map}
use Rattle.std.proofs.lemmas.Bool.{cases_eq, false≢true, leb-true}
use Rattle.std.proofs.lemmas.List.{length-set, get_or-set_same, get_or-set_other}
use Rattle.std.proofs.lemmas.List.Elements.{Contains-push, Contains-push_cases, Contains-append_left}
use Rattle.std.proofs.lemmas.Option.{same_Some}
use Rattle.pt_instr.specs.Effects.{Kinds}
use Rattle.pt_kinds.specs.declared.forest.Forest.{Forest}
use Rattle.pt_kinds.specs.Forest.{Begins, IsInside, list_at}
use Rattle.pt_kinds.specs.Common.{IsCommon}
use Rattle.pt_kind_flow.specs.declared.edges.Edge.{Edge}
use Rattle.pt_kind_flow.specs.declared.flow.Arrival.{Arrival}
use Rattle.pt_kind_flow.specs.Flow as F
use Rattle.pt_kind_flow.specs.Flow.{given, led, Graph, edges_at, Comes, ComesSome, IsLongest, IsExact, entry, graph, told, AreLongest, reach}
use Rattle.pt_kind_flow.specs.Search.{Grows, Known, Due, Seen, Open, IsLed, Leads, is_told}
use Rattle.pt_kind_flow.proofs.Beginnings.{begins_same, begins_then, led_begins, common_begins, take_begins, whole_begins, led_decided}
use Rattle.pt_kind_flow.proofs.Partings.{exact_some, exact_longest, exact_more, exact_led, exact_common}
use Rattle.pt_kind_flow.proofs.Leading.{lt_or}
use Rattle.pt_kind_flow.proofs.Forests.{grows_then, still_inside}

pub none_in_empty : {X : Type 0} (x : X) → Contains [] x → ⊥
none_in_empty x (k, lt, is) = absurd (omega arith)

pub some_or_none : {X : Type 0} (x : X) → Some x ≡ None → ⊥
some_or_none x h = cc

entry_in : (T : List (Option ℕ)) (q s : ℕ) → entry T q ≡ Some s → q < length T
entry_in [] q s h = absurd (cc)
entry_in (x ∷ T) zero s h = omega arith
entry_in (x ∷ T) (suc q) s h = let k = entry_in T q s h in omega (arith, k)

pub no_edges : (edges : List (List Edge)) (v : ℕ) → length edges ≤ v → edges_at edges v ≡ []
no_edges [] v h = refl
no_edges (es ∷ edges) zero h = absurd (omega (arith, h))
no_edges (es ∷ edges) (suc v) h = no_edges edges v (omega (arith, h))

-- a longer list was told of a vertex before, with the same edges
pub record Before (g g' : Graph) (f f1 : Forest) (T : List (Option ℕ)) (v list n : ℕ) : Type 0 where
  pub known : ℕ
  pub is : entry T v ≡ Some known
  pub same : edges_at g'.edges v ≡ edges_at g.edges v
  pub long : n ≤ length (list_at f known)
  pub short : list_at f1 list ≡ take n (list_at f known)

-- a list is told of a vertex, and leads along its edges
module _ (g g' : Graph) (f f1 f2 : Forest) (T : List (Option ℕ)) (V W W' : List Arrival) (v list : ℕ) (o : Open g f T V)
    (long : length g'.edges ≡ length g.edges) (first : g'.first ≡ g.first)
    (more : (u : ℕ) (ks : Kinds) → Comes g u ks → Comes g' u ks)
    (other : (u : ℕ) → (u ≡ v → ⊥) → edges_at g'.edges u ≡ edges_at g.edges u)
    (grows : Grows f f1) (room : v < length T) (inside : IsInside f1 list)
    (above : IsExact g' v (list_at f1 list))
    (known : (i : ℕ) → entry T v ≡ Some i → Begins (list_at f1 list) (list_at f i))
    (part : (a : Arrival) → Contains W a → Contains V a)
    (keep : (a : Arrival) → Contains V a → Contains W a ⊎ ((a.to ≡ v) × Begins (list_at f1 list) (list_at f a.list)))
    (told : Option ℕ) (leads : Leads f1 f2 (edges_at g'.edges v) list told W W')
    (before : (n : ℕ) → told ≡ Some n → Before g g' f f1 T v list n) where
  abbrev T' : List (Option ℕ)
  T' = set T v (Some list)

  all : Grows f f2
  all = grows_then f f1 f2 grows leads.grows

  here : entry T' v ≡ Some list
  here = get_or-set_same T v (Some list) None room

  at_other : (u : ℕ) → (u ≡ v → ⊥) → entry T' u ≡ entry T u
  at_other u ne = get_or-set_other T v u (Some list) None ne

  list_is : list_at f2 list ≡ list_at f1 list
  list_is = leads.grows.kept list inside

  known_here : (u : ℕ) (ks : Kinds) → u ≡ v → Begins (list_at f1 list) ks → Known f2 T' u ks
  known_here u ks e b = record { list = list; is = ap (λ j. entry T' j) e ∙ here; begins = subst (λ xs. Begins xs ks) (sym list_is) b }

  seen_known : (u : ℕ) (ks : Kinds) → Known f T u ks → (u ≡ v) ⊎ (u ≡ v → ⊥) → Seen g' f2 T' W' u ks
  seen_known u ks k (inl e) = inr (inl (known_here u ks e (begins_then (list_at f1 list) (list_at f k.list) ks (known k.list (sym (ap (λ j. entry T j) e) ∙ k.is)) k.begins)))
  seen_known u ks k (inr ne) = inr (inl (record {
    list = k.list;
    is = at_other u ne ∙ k.is;
    begins = subst (λ xs. Begins xs ks) (sym (all.kept k.list (o.inside u k.list k.is))) k.begins;
  }))

  seen_due : (u : ℕ) (ks : Kinds) (d : Due f V u ks) → Contains W d.arrival ⊎ ((d.arrival.to ≡ v) × Begins (list_at f1 list) (list_at f d.arrival.list)) → Seen g' f2 T' W' u ks
  seen_due u ks d (inl c) = inr (inr (record {
    arrival = d.arrival;
    among = leads.kept d.arrival c;
    to = d.to;
    begins = subst (λ xs. Begins xs ks) (sym (all.kept d.arrival.list (o.due_inside d.arrival d.among))) d.begins;
  }))
  seen_due u ks d (inr (e, b)) = inr (inl (known_here u ks (sym d.to ∙ e) (begins_then (list_at f1 list) (list_at f d.arrival.list) ks b d.begins)))

  seen_on : (u : ℕ) (ks : Kinds) → Seen g f T V u ks → Seen g' f2 T' W' u ks
  seen_on u ks (inl h) = inl (omega (arith, h, long))
  seen_on u ks (inr (inl k)) = seen_known u ks k (cases_eq u v)
  seen_on u ks (inr (inr d)) = seen_due u ks d (keep d.arrival d.among)

  list_at_v : (u i : ℕ) → u ≡ v → entry T' u ≡ Some i → list ≡ i
  list_at_v u i e h = same_Some list i (sym here ∙ (sym (ap (λ j. entry T' j) e) ∙ h))

  inside_on : (u i : ℕ) → entry T' u ≡ Some i → (u ≡ v) ⊎ (u ≡ v → ⊥) → IsInside f2 i
  inside_on u i h (inl e) = subst (λ j. IsInside f2 j) (list_at_v u i e h) (still_inside f1 f2 list leads.grows inside)
  inside_on u i h (inr ne) = still_inside f f2 i all (o.inside u i (sym (at_other u ne) ∙ h))

  above_on : (u i : ℕ) → entry T' u ≡ Some i → (u ≡ v) ⊎ (u ≡ v → ⊥) → IsExact g' u (list_at f2 i)
  above_on u i h (inl e) = subst (λ j. IsExact g' j (list_at f2 i)) (sym e) (subst (λ j. IsExact g' v (list_at f2 j)) (list_at_v u i e h)
      (subst (λ xs. IsExact g' v xs) (sym list_is) above))
  above_on u i h (inr ne) = let k = sym (at_other u ne) ∙ h in exact_more g g' u (list_at f i) (list_at f2 i) more (sym (all.kept i (o.inside u i k))) (o.above u i k)

  goes_told : (e : Edge) → Contains (edges_at g'.edges v) e → (o : Option ℕ) → told ≡ o → is_told e o ≡ true → Seen g' f2 T' W' e.to (led e (list_at f2 list))
  goes_told e c None t h = absurd (false≢true h)
  goes_told e c (Some n) t h =
      let b = before n t in
      let k = leb-true (reach e) n h in
      let same : led e (list_at f b.known) ≡ led e (list_at f2 list) =
      sym (ap (λ xs. led e xs) (list_is ∙ b.short) ∙ led_decided e.keeps (given e) e.raises n (list_at f b.known) k b.long) in
      subst (λ xs. Seen g' f2 T' W' e.to xs) same (seen_on e.to (led e (list_at f b.known)) (o.goes_on v b.known b.is e (subst (λ es. Contains es e) b.same c)))

  goes_new : (e : Edge) → Contains (edges_at g'.edges v) e → Seen g' f2 T' W' e.to (led e (list_at f2 list))
  goes_new e c = elim (leads.all e c) [
    | inl t ↦ goes_told e c told refl t
    | inr (a, (m, l)) ↦ inr (inr (record {
      arrival = a;
      among = m;
      to = l.to;
      begins = subst (λ xs. Begins (list_at f2 a.list) xs) (l.is ∙ ap (λ xs. led e xs) (sym list_is)) (begins_same (list_at f2 a.list));
    }))
  ]

  goes_on' : (u i : ℕ) → entry T' u ≡ Some i → (e : Edge) → Contains (edges_at g'.edges u) e → (u ≡ v) ⊎ (u ≡ v → ⊥) → Seen g' f2 T' W' e.to (led e (list_at f2 i))
  goes_on' u i h e c (inl same) = subst (λ j. Seen g' f2 T' W' e.to (led e (list_at f2 j))) (list_at_v u i same h) (goes_new e (subst (λ j. Contains (edges_at g'.edges j) e) same c))
  goes_on' u i h e c (inr ne) = let k = sym (at_other u ne) ∙ h in
      subst (λ xs. Seen g' f2 T' W' e.to (led e xs)) (sym (all.kept i (o.inside u i k))) (seen_on e.to (led e (list_at f i)) (o.goes_on u i k e (subst (λ es. Contains es e) (other u ne) c)))

  due_inside_on : (a : Arrival) → Contains W a ⊎ ((e : Edge) × (Contains (edges_at g'.edges v) e × IsLed f1 f2 list e a)) → IsInside f2 a.list
  due_inside_on a (inl c) = still_inside f f2 a.list all (o.due_inside a (part a c))
  due_inside_on a (inr (e, (c, l))) = l.inside

  due_above_on : (a : Arrival) → Contains W a ⊎ ((e : Edge) × (Contains (edges_at g'.edges v) e × IsLed f1 f2 list e a)) → IsExact g' a.to (list_at f2 a.list)
  due_above_on a (inl c) = let d = part a c in exact_more g g' a.to (list_at f a.list) (list_at f2 a.list) more (sym (all.kept a.list (o.due_inside a d))) (o.due_above a d)
  due_above_on a (inr (e, (c, l))) = subst (λ u. IsExact g' u (list_at f2 a.list)) (sym l.to) (subst (λ xs. IsExact g' e.to xs) (sym l.is) (exact_led g' v (list_at f1 list) e above c))

  pub went_on : Open g' f2 T' W'
  went_on = record {
    forest = leads.grows.forest;
    long = length-set T v (Some list) ∙ (o.long ∙ sym long);
    inside = λ u i h. inside_on u i h (cases_eq u v);
    due_inside = λ a c. due_inside_on a (leads.came a c);
    start = seen_on 0 g'.first (subst (λ ks. Seen g f T V 0 ks) (sym first) o.start);
    above = λ u i h. above_on u i h (cases_eq u v);
    due_above = λ a c. due_above_on a (leads.came a c);
    goes_on = λ u i h e c. goes_on' u i h e c (cases_eq u v);
  }

-- the arrival that is due
module _ (g : Graph) (f : Forest) (T : List (Option ℕ)) (W : List Arrival) (a : Arrival) (o : Open g f T (W ++ a ∷ [])) where
  part : (b : Arrival) → Contains W b → Contains (W ++ a ∷ []) b
  part b c = Contains-append_left W (a ∷ []) b c

  pub arrival_inside : IsInside f a.list
  arrival_inside = o.due_inside a (Contains-push W a)

  skip : ((ks : Kinds) → Begins (list_at f a.list) ks → Seen g f T W a.to ks) → Open g f T W
  skip h = record {
    forest = o.forest;
    long = o.long;
    inside = o.inside;
    due_inside = λ b c. o.due_inside b (part b c);
    start = on 0 g.first o.start;
    above = o.above;
    due_above = λ b c. o.due_above b (part b c);
    goes_on = λ u i k e c. on e.to (led e (list_at f i)) (o.goes_on u i k e c);
  }
    where
      at_due : (u : ℕ) (ks : Kinds) (d : Due f (W ++ a ∷ []) u ks) → Contains W d.arrival ⊎ (a ≡ d.arrival) → Seen g f T W u ks
      at_due u ks d (inl c) = inr (inr (record { arrival = d.arrival; among = c; to = d.to; begins = d.begins }))
      at_due u ks d (inr e) = subst (λ w. Seen g f T W w ks) (ap (λ b. b.to) e ∙ d.to) (h ks (subst (λ b. Begins (list_at f b.list) ks) (sym e) d.begins))

      on : (u : ℕ) (ks : Kinds) → Seen g f T (W ++ a ∷ []) u ks → Seen g f T W u ks
      on u ks (inl k) = inl k
      on u ks (inr (inl k)) = inr (inl k)
      on u ks (inr (inr d)) = at_due u ks d (Contains-push_cases W a d.arrival d.among)

  pub skip_far : length T ≤ a.to → Open g f T W
  skip_far h = skip (λ ks b. inl (let l = o.long in omega (arith, h, l)))

  pub skip_known : (known count : ℕ) → entry T a.to ≡ Some known → IsCommon (list_at f known) (list_at f a.list) count → count ≡ length (list_at f known) → Open g f T W
  skip_known known count e c whole = skip (λ ks b. inr (inl (record {
    list = known;
    is = e;
    begins = begins_then (list_at f known) (list_at f a.list) ks (whole_begins (list_at f known) (list_at f a.list) count c whole) b;
  })))

  module _ (f1 f2 : Forest) (W' : List Arrival) (list : ℕ) (grows : Grows f f1) (room : a.to < length T) (inside : IsInside f1 list) where
    go : (told : Option ℕ) → Leads f1 f2 (edges_at g.edges a.to) list told W W' → ((n : ℕ) → told ≡ Some n → Before g g f f1 T a.to list n) → IsExact g a.to (list_at f1 list) → ((i : ℕ) → entry T a.to ≡ Some i → Begins (list_at f1 list) (list_at f i)) → Begins (list_at f1 list) (list_at f a.list)
        → Open g f2 (set T a.to (Some list)) W'
    go told leads before above known here = went_on g g f f1 f2 T (W ++ a ∷ []) W W' a.to list o refl refl (λ u ks c. c) (λ u ne. refl) grows room inside above known part
        (λ b c. elim (Contains-push_cases W a b c) [ inl d ↦ inl d | inr e ↦ inr (subst (λ b. (b.to ≡ a.to) × Begins (list_at f1 list) (list_at f b.list)) e (refl, here)) ]) told leads before

    pub arrive_first : Leads f1 f2 (edges_at g.edges a.to) list None W W' → entry T a.to ≡ None → list ≡ a.list → f1 ≡ f → Open g f2 (set T a.to (Some list)) W'
    arrive_first leads none same still = go None leads (λ n h. absurd (some_or_none n (sym h)))
        (subst (λ ks. IsExact g a.to ks) (sym is) (o.due_above a (Contains-push W a)))
        (λ i e. absurd (some_or_none i (sym e ∙ none)))
        (subst (λ ks. Begins ks (list_at f a.list)) (sym is) (begins_same (list_at f a.list)))
      where
        is : list_at f1 list ≡ list_at f a.list
        is = ap (λ x. list_at x list) still ∙ ap (λ i. list_at f i) same

    pub arrive_shorter : (known count : ℕ) → Leads f1 f2 (edges_at g.edges a.to) list (Some count) W W' → entry T a.to ≡ Some known → IsCommon (list_at f known) (list_at f a.list) count → list_at f1 list ≡ take count (list_at f known)
        → Open g f2 (set T a.to (Some list)) W'
    arrive_shorter known count leads e c is = go (Some count) leads
        (λ n h. record {
          known = known;
          is = e;
          same = refl;
          long = subst (λ m. m ≤ length (list_at f known)) (same_Some count n h) c.inside.0;
          short = subst (λ m. list_at f1 list ≡ take m (list_at f known)) (same_Some count n h) is;
        })
        (subst (λ ks. IsExact g a.to ks) (sym is) (exact_common g a.to (list_at f known) (list_at f a.list) count (o.above a.to known e) (o.due_above a (Contains-push W a)) c))
        (λ i k. subst (λ ks. Begins ks (list_at f i)) (sym is) (subst (λ j. Begins (take count (list_at f known)) (list_at f j)) (same_Some known i (sym e ∙ k)) (take_begins count (list_at f known))))
        (subst (λ ks. Begins ks (list_at f a.list)) (sym is) (common_begins (list_at f known) (list_at f a.list) count c))

-- nothing is due
module _ (g : Graph) (f : Forest) (T : List (Option ℕ)) (o : Open g f T []) where
  known_now : (v : ℕ) (ks : Kinds) → v < length g.edges → Seen g f T [] v ks → Known f T v ks
  known_now v ks lt (inl h) = absurd (omega (arith, lt, h))
  known_now v ks lt (inr (inl k)) = k
  known_now v ks lt (inr (inr d)) = absurd (none_in_empty d.arrival d.among)

  inside_or : (v : ℕ) (e : Edge) → Contains (edges_at g.edges v) e → (v < length g.edges) ⊎ (length g.edges ≤ v) → v < length g.edges
  inside_or v e c (inl h) = h
  inside_or v e c (inr h) = absurd (none_in_empty e (subst (λ es. Contains es e) (no_edges g.edges v h) c))

  found : (v : ℕ) (ks : Kinds) → Comes g v ks → v < length g.edges → Known f T v ks
  found _ _ F.start lt = known_now 0 g.first lt o.start
  found _ _ (F.goes {v} {ks} {e} c edge) lt = step (found v ks c (inside_or v e edge (lt_or v (length g.edges))))
    where
      step : Known f T v ks → Known f T e.to (led e ks)
      step k = let n = known_now e.to (led e (list_at f k.list)) lt (o.goes_on v k.list k.is e edge) in
          record { list = n.list; is = n.is; begins = begins_then (list_at f n.list) (led e (list_at f k.list)) (led e ks) n.begins (led_begins e.keeps (given e) e.raises (list_at f k.list) ks k.begins) }

  pub longest_at : (v i : ℕ) → entry T v ≡ Some i → IsLongest g v (list_at f i)
  longest_at v i h = let a = o.above v i h in record {
    some = exact_some g v (list_at f i) a;
    exact = a;
    begins = λ ls c. let k = found v ls c (let l = o.long in let m = entry_in T v i h in omega (arith, l, m)) in
        subst (λ j. Begins (list_at f j) ls) (same_Some k.list i (sym k.is ∙ h)) k.begins;
    longest = exact_longest g v (list_at f i) a;
  }

  pub none_at : (v : ℕ) (ks : Kinds) → v < length g.edges → Comes g v ks → entry T v ≡ None → ⊥
  none_at v ks lt c h = let k = found v ks c lt in some_or_none k.list (sym k.is ∙ h)

pub map_some : {X Y : Type 0} (m : X → Y) (o : Option X) (y : Y) → option_map m o ≡ Some y → (x : X) × ((o ≡ Some x) × (m x ≡ y))
map_some m (Some x) y e = (x, (refl, same_Some (m x) y e))
map_some m None y e = absurd (cc)

pub map_none : {X Y : Type 0} (m : X → Y) (o : Option X) → option_map m o ≡ None → o ≡ None
map_none m (Some x) e = absurd (cc)
map_none m None e = refl
