-- The edges of a vertex that depend on fewer slots come later.
use Rattle.std.proofs.Common.{◌≡◌, ℕ, ◌+◌, ◌-◌, ◌*◌, ◌/◌, ◌≤◌, zero, suc, Bool, true, false, List, [], ◌∷◌, ◌++◌, length, map, Option, Some, None, refl, sym, ap, ◌∙◌, subst, arith, inl, inr}
use Rattle.std.specs.Prelude.{⊤, nat_le, nat_lt, cond, Contains, slice_get, if◌then◌else◌}
use Rattle.std.proofs.lemmas.Bool.{leb-true}
use Rattle.std.proofs.lemmas.List.Elements.{Contains-append_cases}
use Rattle.std.proofs.lemmas.Option.{same_Some}
use Rattle.pt_instr.specs.declared.Instr.{Instr}
use Rattle.pt_instr.specs.declared.effects.Effect.{Effect}
use Rattle.pt_instr.specs.Effects.{Kinds, effect_of}
use Rattle.pt_ranges.specs.declared.handlers.Handler.{Handler}
use Rattle.pt_places.specs.declared.places.Place.{Place}
use Rattle.pt_sizes.specs.Flow.{entry}
use Rattle.pt_sizes.specs.Waiting as W
use Rattle.pt_sizes.specs.Waiting.{Level, up, stretch_of, stretch, AllWait}
use Rattle.pt_step_graph.specs.Graph.{width}
use Rattle.pt_step_graph.proofs.Numbers.{none_in, only_one}
use Rattle.sem_fits.specs.fits.Block.{Links, captured, effect}
use Rattle.sem_fits.specs.fits.Steps.{held_by, target_of, reads}
use Rattle.sem_fits.proofs.fits.Swaps.{swap_takes}
use Rattle.pt_verify_depths.specs.Sizes.{left, is_enough}
use Rattle.pt_kind_flow.specs.declared.edges.Edge.{Edge}
use Rattle.pt_kind_flow.specs.Flow.{reach, Descends}
use Rattle.pt_block_kinds.specs.Leads.{Lead, lead, lead_of, leads_of, inside, lead_behind, leads_behind, leads_aside, leads_again, own_leads, place_leads, leads_from, numbered, row_lead, above_leads, stretch_leads, landing_leads, vertex_leads}
use Rattle.pt_block_kinds.proofs.Lists.{in_inside, in_map, in_numbered, got_in, has_number}

-- how many slots it depends on
abbrev pub depends : Lead → ℕ
depends l = l.keeps + (if l.raises then 1 else 0)

abbrev pub Falls : List Lead → Type 0
Falls [] = ⊤
Falls (l ∷ ls) = ((m : Lead) → Contains ls m → depends m ≤ depends l) × Falls ls

pub falls_inside : (n : ℕ) (ls : List Lead) → Falls ls → Falls (inside n ls)
falls_inside n [] f = tt
falls_inside n (l ∷ ls) f = by (falls_inside n ls f.1) (nat_lt l.to n)
  where
    by : Falls (inside n ls) → (t : Bool) → Falls (cond t (l ∷ inside n ls) (inside n ls))
    by rest true = (λ m c. f.0 m (in_inside n ls m c).1, rest)
    by rest false = rest

pub falls_append : (xs ys : List Lead) → Falls xs → Falls ys → ((x y : Lead) → Contains xs x → Contains ys y → depends y ≤ depends x) → Falls (xs ++ ys)
falls_append [] ys f g h = g
falls_append (x ∷ xs) ys f g h = (
  λ m c. elim (Contains-append_cases xs ys m c) [ inl d ↦ f.0 m d | inr d ↦ h x m (zero, omega arith, refl) d ],
  falls_append xs ys f.1 g (λ z y c d. h z y (let (k, lt, e) = c in (suc k, omega (arith, lt), e)) d),
)

pub alone : (l : Lead) → Falls (l ∷ [])
alone l = (λ m c. absurd (none_in m c), tt)

at_got : (edges : List Edge) (i : ℕ) (e : Edge) → slice_get edges i ≡ Some e → Contains (leads_of edges) (lead_of e)
at_got [] i e f = absurd (let h : None ≡ Some e = f in cc)
at_got (d ∷ edges) zero e f = (zero, omega arith, ap lead_of (same_Some d e f))
at_got (d ∷ edges) (suc i) e f = let (k, lt, g) = at_got edges i e f in (suc k, omega (arith, lt), g)

pub falls_descends : (edges : List Edge) → Falls (leads_of edges) → Descends edges
falls_descends [] f i j e d h a c = absurd (let k : None ≡ Some e = a in cc)
falls_descends (x ∷ edges) f zero zero e d h a c = let same : e ≡ d = same_Some e d (sym a ∙ c) in subst (λ z. reach d ≤ reach z) (sym same) (omega arith)
falls_descends (x ∷ edges) f zero (suc j) e d h a c = subst (λ z. reach d ≤ reach z) (same_Some x e a) (f.0 (lead_of d) (at_got edges j d c))
falls_descends (x ∷ edges) f (suc i) zero e d h a c = absurd (omega (arith, h))
falls_descends (x ∷ edges) f (suc i) (suc j) e d h a c = falls_descends edges f.1 i j e d (omega (arith, h)) a c

-- a place
module _ (j : Instr) (f n : ℕ) where
  abbrev e : Effect
  e = effect_of j f

  abbrev few : ℕ
  few = left e n

  again_most : (t : Bool) (q : ℕ) (l : Lead) → Contains (leads_again t n q) l → depends l ≡ n
  again_most true q l c = sym (ap depends (only_one (lead q n [] false) l c)) ∙ (let z : n + 0 ≡ n = omega arith in z)
  again_most false q l c = absurd (none_in l c)

  abbrev Between : Bool → Type 0
  Between t = (few ≤ few + (if t then 1 else 0)) × (few + (if t then 1 else 0) ≤ n)

  behind_depends : (next : ℕ) (given : Kinds) → is_enough e n ≡ true → (few ≤ depends (lead_behind e n next given)) × (depends (lead_behind e n next given) ≤ n)
  behind_depends next given enough = by e.swaps refl
    where
      by : (t : Bool) → e.swaps ≡ t → Between e.swaps
      by true s = subst Between (sym s) (omega arith, (let two = ap length (swap_takes j f s) in let m = leb-true (length e.takes + reads e.above) n enough in omega (arith, two, m)))
      by false s = subst Between (sym s) (omega arith, omega arith)

  behind_between : (next : ℕ) (o : Option Kinds) → is_enough e n ≡ true → (l : Lead) → Contains (leads_behind e n next o) l → (few ≤ depends l) × (depends l ≤ n)
  behind_between next None enough l c = absurd (none_in l c)
  behind_between next (Some given) enough l c = subst (λ l. (few ≤ depends l) × (depends l ≤ n)) (only_one (lead_behind e n next given) l c) (behind_depends next given enough)

  aside_few : (t : Option ℕ) (o : Option Kinds) (l : Lead) → Contains (leads_aside e n t o) l → depends l ≡ few
  aside_few (Some t) (Some given) l c = sym (ap depends (only_one (lead t few given false) l c)) ∙ (let z : few + 0 ≡ few = omega arith in z)
  aside_few (Some t) None l c = absurd (none_in l c)
  aside_few None (Some given) l c = absurd (none_in l c)
  aside_few None None l c = absurd (none_in l c)

  again_falls : (t : Bool) (q : ℕ) → Falls (leads_again t n q)
  again_falls true q = alone (lead q n [] false)
  again_falls false q = tt

  behind_falls : (next : ℕ) (o : Option Kinds) → Falls (leads_behind e n next o)
  behind_falls next (Some given) = alone (lead_behind e n next given)
  behind_falls next None = tt

  aside_falls : (t : Option ℕ) (o : Option Kinds) → Falls (leads_aside e n t o)
  aside_falls (Some t) (Some given) = alone (lead t few given false)
  aside_falls (Some t) None = tt
  aside_falls None (Some given) = tt
  aside_falls None None = tt

  abbrev all_own : (q next : ℕ) → (t : Option ℕ) → List Lead
  all_own q next t = leads_again e.again n q ++ (leads_behind e n next e.gives ++ leads_aside e n t e.aside)

  abbrev OwnFalls : (q next : ℕ) → (t : Option ℕ) → Bool → Type 0
  OwnFalls q next t u = Falls (if u then all_own q next t else []) × ((l : Lead) → Contains (if u then all_own q next t else []) l → few ≤ depends l)

  pub own_falls : (q next : ℕ) (t : Option ℕ) → Falls (own_leads e n q next t) × ((l : Lead) → Contains (own_leads e n q next t) l → few ≤ depends l)
  own_falls q next t = by (is_enough e n) refl
    where
      by : (u : Bool) → is_enough e n ≡ u → OwnFalls q next t (is_enough e n)
      by false s = subst (OwnFalls q next t) (sym s) (tt, λ l c. absurd (none_in l c))
      by true s = subst (OwnFalls q next t) (sym s) (
        falls_append (leads_again e.again n q) ((leads_behind e n next e.gives) ++ (leads_aside e n t e.aside)) (again_falls e.again q)
            (falls_append (leads_behind e n next e.gives) (leads_aside e n t e.aside) (behind_falls next e.gives) (aside_falls t e.aside)
            (λ x y c d. let a = behind_between next e.gives s x c in let b = aside_few t e.aside y d in omega (arith, a.0, b)))
            (λ x y c d. let a = again_most e.again q x c in elim (Contains-append_cases (leads_behind e n next e.gives) (leads_aside e n t e.aside) y d) [
              | inl k ↦ (let b = behind_between next e.gives s y k in omega (arith, a, b.1))
              | inr k ↦ (let b = aside_few t e.aside y k in omega (arith, a, b))
            ]),
        λ l c. elim (Contains-append_cases (leads_again e.again n q) ((leads_behind e n next e.gives) ++ (leads_aside e n t e.aside)) l c) [
          | inl k ↦ (let a = again_most e.again q l k in omega (arith, a))
          | inr d ↦ elim (Contains-append_cases (leads_behind e n next e.gives) (leads_aside e n t e.aside) l d) [
            | inl k ↦ (behind_between next e.gives s l k).0
            | inr k ↦ (let b = aside_few t e.aside l k in omega (arith, b))
          ]
        ],
      )

  place_falls : (count base q next : ℕ) (t : Option ℕ) → Falls (place_leads count base e n q next t)
  place_falls count base q next t = let own = own_falls q next t in let l = lead (count + q) few [] false in
      falls_append (inside count (own_leads e n q next t)) (inside base (l ∷ [])) (falls_inside count (own_leads e n q next t) own.0) (falls_inside base (l ∷ []) (alone l))
      (λ x y c d. let a = own.1 x (in_inside count (own_leads e n q next t) x c).1 in let b = sym (ap depends (only_one l y (in_inside base (l ∷ []) y d).1)) in omega (arith, a, b))

from_falls : (count base : ℕ) (links : Links) (p q : ℕ) (o : Option Place) (s : Option ℕ) → Falls (leads_from count base links p q o s)
from_falls count base links p q None None = tt
from_falls count base links p q None (Some n) = tt
from_falls count base links p q (Some i) None = tt
from_falls count base links p q (Some i) (Some n) = by (nat_le q p)
  where
    by : (t : Bool) → Falls (if t then place_leads count base (effect links i.instr) n q i.next.0 (target_of i.instr) else [])
    by true = place_falls i.instr (captured links i.instr) n count base q i.next.0 (target_of i.instr)
    by false = tt

-- a stretch

rows_fall : (base : ℕ) (rows : List Handler) → W.Descends rows → Falls (map (row_lead base) rows)
rows_fall base [] d = tt
rows_fall base (row ∷ rows) d = (
  λ m c. let (r, (k, e)) = in_map (row_lead base) rows m c in let h = below r k in let g = sym (ap depends e) in omega (arith, h, g),
  rows_fall base rows (λ i j r s h a c. d (suc i) (suc j) r s (omega (arith, h)) a c),
)
  where
    below : (r : Handler) → Contains rows r → r.depth ≤ row.depth
    below r k = let (j, e) = has_number rows r k in d 0 (suc j) row r (omega arith) refl e

abbrev AllBelow : (deepest : ℕ) → List Level → Type 0
AllBelow deepest levels = (k v : ℕ) (row : Handler) → Contains (stretch levels k v) row → row.depth ≤ deepest

stretch_falls : (base deepest first : ℕ) (levels : List Level) (i : ℕ) → W.AllDescend levels → AllBelow deepest levels → Falls (stretch_leads base deepest first levels i)
stretch_falls base deepest first [] i sorted low = tt
stretch_falls base deepest first (level ∷ levels) i sorted low = by (stretch_falls base deepest (first + length level) levels (i - length level) (λ k v. sorted (suc k) v) (λ k v row c. low (suc k) v row c)) (nat_lt i (length level))
  where
    rows : Falls (map (row_lead base) (stretch_of level i))
    rows = rows_fall base (stretch_of level i) (sorted 0 i)

    above : (ls : List Level) → Falls (above_leads deepest (first + length level) ls i ++ map (row_lead base) (stretch_of level i))
    above [] = rows
    above (l ∷ ls) = (λ m c. let (r, (k, e)) = in_map (row_lead base) (stretch_of level i) m c in let h = low 0 i r k in let g = sym (ap depends e) in omega (arith, h, g), rows)

    by : Falls (stretch_leads base deepest (first + length level) levels (i - length level)) → (t : Bool)
        → Falls (cond t (above_leads deepest (first + length level) levels i ++ map (row_lead base) (stretch_of level i))
        (stretch_leads base deepest (first + length level) levels (i - length level)))
    by rest true = above levels
    by rest false = rest

-- each stretch has places
abbrev down : (k v : ℕ) → ℕ
down zero v = v
down (suc k) v = down k (2 * v)

up_down : (k v : ℕ) → up k (down k v) ≡ v
up_down zero v = refl
up_down (suc k) v = let e = up_down k (2 * v) in (let z : up k (down k (2 * v)) / 2 ≡ v = omega (arith, e) in z)

pub all_below : (rows : List Handler) (count deepest : ℕ) (levels : List Level) → AllWait (numbered 0 rows) count levels
    → ((row : Handler) → Contains rows row → row.depth ≤ deepest) → AllBelow deepest levels
all_below rows count deepest levels wait deep k v row c =
    let known = wait.known (down k v) row (record { level = k; among = subst (λ w. Contains (stretch levels k w) row) (sym (up_down k v)) c }) in
    let (j, (found, (s, e))) = in_numbered 0 rows row known.0 in
    let h = deep found (got_in rows j found s) in
    subst (λ r. r.depth ≤ deepest) e h

pub vertex_falls : (links : Links) (rows : List Handler) (place : Option Place) (p : ℕ) (T : List (Option ℕ)) (levels : List Level) (deepest v : ℕ)
    → W.AllDescend levels → AllBelow deepest levels → Falls (vertex_leads links rows place p T levels deepest v)
vertex_falls links rows place p T levels deepest v sorted low = by (nat_lt v (length T)) (nat_lt v (length T + width levels))
  where
    landing : (o : Option Handler) → Falls (landing_leads (length T) o)
    landing None = tt
    landing (Some row) = let l = lead row.target.0 row.depth (held_by row ∷ []) false in falls_inside (length T) (l ∷ []) (alone l)

    by : (s t : Bool) → Falls (cond s (leads_from (length T) (length T + width levels) links p v place (entry T v))
        (cond t (stretch_leads (length T + width levels) deepest (length T) levels (v - length T)) (landing_leads (length T) (slice_get rows (v - (length T + width levels))))))
    by true t = from_falls (length T) (length T + width levels) links p v place (entry T v)
    by false true = stretch_falls (length T + width levels) deepest (length T) levels (v - length T) sorted low
    by false false = landing (slice_get rows (v - (length T + width levels)))
