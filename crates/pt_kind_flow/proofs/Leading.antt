-- Arrivals along the edges of a vertex.
use Rattle.std.proofs.lemmas.Bool.Decides.{nat_tests}
use Rattle.std.proofs.lemmas.Bool.{false≢true, leb-true}
use Rattle.std.proofs.Common.{◌≡◌, ℕ, zero, suc, ◌+◌, ◌<◌, ◌≤◌, List, [], ◌∷◌, ◌++◌, length, Some, refl, sym, ap, ◌∙◌, subst, arith, ◌⊎◌, inl, inr, get_or, true, Option, None}
use Rattle.std.specs.Prelude.{Contains, slice_get, nat_le}
use Rattle.std.proofs.lemmas.List.Elements.{Contains-push, Contains-push_cases, Contains-append_left}
use Rattle.std.proofs.lemmas.Option.{same_Some, slice_get-get_or, slice_get_within, get_or_from_slice_get}
use Rattle.pt_kinds.specs.declared.forest.Forest.{Forest}
use Rattle.pt_kinds.specs.Forest.{Has, IsForest, IsInside, list_at}
use Rattle.pt_kind_flow.specs.declared.edges.Edge.{Edge}
use Rattle.pt_kind_flow.specs.declared.flow.Arrival.{Arrival}
use Rattle.pt_kind_flow.specs.Flow.{led, reach, Descends}
use Rattle.pt_kind_flow.specs.Search.{Grows, IsLed, Leads, is_told}
use Rattle.pt_kind_flow.proofs.Forests.{grown, grows_itself, grows_then, still_inside}

-- the edge with this number
pub edge_at : (edges : List Edge) (i : ℕ) (item e : Edge) → i < length edges → item ≡ get_or edges i item → e ≡ item → slice_get edges i ≡ Some e
edge_at edges i item e lt is same = slice_get-get_or edges i item lt ∙ ap (λ d. Some d) (sym (same ∙ is))

pub lt_or : (n m : ℕ) → (n < m) ⊎ (m ≤ n)
lt_or n zero = inr (omega arith)
lt_or zero (suc m) = inl (omega arith)
lt_or (suc n) (suc m) = elim (lt_or n m) [ inl h ↦ inl (omega (arith, h)) | inr h ↦ inr (omega (arith, h)) ]

-- the edges before one have led
pub record LeadsSoFar (old new : Forest) (edges : List Edge) (done list : ℕ) (work work' : List Arrival) : Type 0 where
  pub grows : Grows old new
  pub kept : (a : Arrival) → Contains work a → Contains work' a
  pub came : (a : Arrival) → Contains work' a → Contains work a ⊎ ((e : Edge) × (Contains edges e × IsLed old new list e a))
  pub all : (i : ℕ) (e : Edge) → i < done → slice_get edges i ≡ Some e → (a : Arrival) × (Contains work' a × IsLed old new list e a)

pub leads_start : (f : Forest) (edges : List Edge) (list : ℕ) (work : List Arrival) → IsForest f → LeadsSoFar f f edges 0 list work work
leads_start f edges list work is = record { grows = grows_itself f is; kept = λ a c. c; came = λ a c. inl c; all = λ i e h. absurd (omega (arith, h)) }

in_list : {X : Type 0} (xs : List X) (i : ℕ) (x : X) → slice_get xs i ≡ Some x → Contains xs x
in_list xs i x e = (i, slice_get_within xs i x e, get_or_from_slice_get xs i x x e)

led_on : (one two three : Forest) (list : ℕ) (e : Edge) (a : Arrival) → Grows two three → IsLed one two list e a → IsLed one three list e a
led_on one two three list e a g l = record { to = l.to; inside = still_inside two three a.list g l.inside; is = g.kept a.list l.inside ∙ l.is }

module _ (one two three : Forest) (edges : List Edge) (done list : ℕ) (work work' : List Arrival) (s : LeadsSoFar one two edges done list work work') (inside : IsInside one list)
    (e : Edge) (at : slice_get edges done ≡ Some e) (there urgency : ℕ) (h : Has two three there (led e (list_at two list))) where
  abbrev new : Arrival
  new = record { urgency = urgency; to = e.to; list = there }

  more : Grows two three
  more = grown two three there (led e (list_at two list)) h

  is_led : IsLed one three list e new
  is_led = record { to = refl; inside = h.inside; is = h.is ∙ ap (λ ks. led e ks) (s.grows.kept list inside) }

  pub leads_more : LeadsSoFar one three edges (done + 1) list work (work' ++ new ∷ [])
  leads_more = record {
    grows = grows_then one two three s.grows more;
    kept = λ a c. Contains-append_left work' (new ∷ []) a (s.kept a c);
    came = λ a c. elim (Contains-push_cases work' new a c) [
      | inl x ↦ elim (s.came a x) [ inl y ↦ inl y | inr (d, (m, l)) ↦ inr (d, (m, led_on one two three list d a more l)) ]
      | inr same ↦ inr (e, (in_list edges done e at, subst (λ x. IsLed one three list e x) same is_led))
    ];
    all = λ i d lt g. by_place i d g (below_or i done lt);
  }
    where
      below_or : (q l : ℕ) → q < l + 1 → (q < l) ⊎ (q ≡ l)
      below_or zero zero k = inr refl
      below_or zero (suc l) k = inl (omega arith)
      below_or (suc q) zero k = absurd (omega arith)
      below_or (suc q) (suc l) k = elim (below_or q l (omega (arith, k))) [ inl a ↦ inl (omega (arith, a)) | inr a ↦ inr (ap (λ n. suc n) a) ]

      by_place : (i : ℕ) (d : Edge) → slice_get edges i ≡ Some d → (i < done) ⊎ (i ≡ done) → (a : Arrival) × (Contains (work' ++ new ∷ []) a × IsLed one three list d a)
      by_place i d g (inl lt) = let (a, (c, l)) = s.all i d lt g in (a, (Contains-append_left work' (new ∷ []) a c, led_on one two three list d a more l))
      by_place i d g (inr same) = let k : e ≡ d = same_Some e d (sym at ∙ subst (λ j. slice_get edges j ≡ Some d) same g) in
          (new, (Contains-push work' new, subst (λ x. IsLed one three list x new) k is_led))

pub leads_end : (old new : Forest) (edges : List Edge) (done list : ℕ) (told : Option ℕ) (work work' : List Arrival) → LeadsSoFar old new edges done list work work'
    → ((i : ℕ) (e : Edge) → done ≤ i → slice_get edges i ≡ Some e → is_told e told ≡ true) → Leads old new edges list told work work'
leads_end old new edges done list told work work' s rest = record {
  grows = s.grows;
  kept = s.kept;
  came = s.came;
  all = λ e among. let (i, lt, is) = among in by_order i e (slice_get-get_or edges i e lt ∙ ap (λ x. Some x) is) (lt_or i done);
}
  where
    by_order : (i : ℕ) (e : Edge) → slice_get edges i ≡ Some e → (i < done) ⊎ (done ≤ i) → (is_told e told ≡ true) ⊎ ((a : Arrival) × (Contains work' a × IsLed old new list e a))
    by_order i e g (inl h) = inr (s.all i e h g)
    by_order i e g (inr h) = inl (rest i e h g)

-- behind an edge that was told all were
pub rest_told : (edges : List Edge) (done : ℕ) (d : Edge) (told : Option ℕ) → Descends edges → slice_get edges done ≡ Some d → is_told d told ≡ true
    → (i : ℕ) (e : Edge) → done ≤ i → slice_get edges i ≡ Some e → is_told e told ≡ true
rest_told edges done d None sorted at t i e h g = absurd (false≢true t)
rest_told edges done d (Some n) sorted at t i e h g = let k = leb-true (reach d) n t in let l = sorted done i d e h at g in
    let m : reach e ≤ n = omega (arith, k, l) in let r : nat_le (reach e) n ≡ true = grind (arith, nat_tests) in r

-- behind the last edge there is none
pub rest_none : (edges : List Edge) (done : ℕ) (told : Option ℕ) → length edges ≤ done → (i : ℕ) (e : Edge) → done ≤ i → slice_get edges i ≡ Some e → is_told e told ≡ true
rest_none edges done told h i e k g = absurd (let l = slice_get_within edges i e g in omega (arith, h, k, l))
