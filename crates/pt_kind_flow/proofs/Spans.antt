-- Edges that lie one behind the other.
use Rattle.std.proofs.Common.{◌≡◌, ℕ, zero, suc, ◌-◌, ◌<◌, ◌≤◌, List, [], ◌∷◌, ◌++◌, length, map, replicate, set, take, drop, get_or, refl, sym, ap, ◌∙◌, subst, arith, length-append}
use Rattle.std.proofs.lemmas.List.{take-append-le, drop-append-le, drop_at, take_all, length-drop}
use Rattle.pt_kind_flow.specs.declared.edges.Edge.{Edge}
use Rattle.pt_kind_flow.specs.declared.edge_lists.Span.{Span}
use Rattle.pt_kind_flow.specs.EdgeLists.{edges_in, AreWithin}

abbrev pub no_edge : Span
no_edge = record { from = 0; to = 0 }

pub within_none : (n count : ℕ) → AreWithin count (replicate n no_edge)
within_none zero count = tt
within_none (suc n) count = ((omega arith, omega arith), within_none n count)

pub lists_none : (n : ℕ) → map (edges_in []) (replicate n no_edge) ≡ replicate n []
lists_none zero = refl
lists_none (suc n) = ap (λ ls. [] ∷ ls) (lists_none n)

pub within_more : (count more : ℕ) (spans : List Span) → count ≤ more → AreWithin count spans → AreWithin more spans
within_more count more [] h w = tt
within_more count more (s ∷ spans) h w = let l = w.0.1 in ((w.0.0, omega (arith, l, h)), within_more count more spans h w.1)

pub within_set : (count : ℕ) (spans : List Span) (i : ℕ) (s : Span) → AreWithin count spans → s.from ≤ s.to → s.to ≤ count → AreWithin count (set spans i s)
within_set count [] i s w h k = tt
within_set count (t ∷ spans) zero s w h k = ((h, k), w.1)
within_set count (t ∷ spans) (suc i) s w h k = (w.0, within_set count spans i s w.1 h k)

pub within_at : (count : ℕ) (spans : List Span) (i : ℕ) (d : Span) → AreWithin count spans → i < length spans
    → ((get_or spans i d).from ≤ (get_or spans i d).to) × ((get_or spans i d).to ≤ count)
within_at count [] i d w h = absurd (omega (arith, h))
within_at count (s ∷ spans) zero d w h = w.0
within_at count (s ∷ spans) (suc i) d w h = within_at count spans i d w.1 (omega (arith, h))

pub within_read : (count : ℕ) (spans : List Span) (i : ℕ) (s : Span) → AreWithin count spans → i < length spans → s ≡ get_or spans i s → (s.from ≤ s.to) × (s.to ≤ count)
within_read count spans i s w h e = subst (λ t. (t.from ≤ t.to) × (t.to ≤ count)) (sym e) (within_at count spans i s w h)

pub list_at_span : (edges : List Edge) (spans : List Span) (i : ℕ) (d : Span) → i < length spans
    → get_or (map (edges_in edges) spans) i [] ≡ edges_in edges (get_or spans i d)
list_at_span edges [] i d h = absurd (omega (arith, h))
list_at_span edges (s ∷ spans) zero d h = refl
list_at_span edges (s ∷ spans) (suc i) d h = list_at_span edges spans i d (omega (arith, h))

-- what lies in a span stays the same where edges come behind it
still_in : (edges more : List Edge) (s : Span) → s.from ≤ s.to → s.to ≤ length edges → edges_in (edges ++ more) s ≡ edges_in edges s
still_in edges more s h k =
    ap (λ xs. take (s.to - s.from) xs) (drop-append-le s.from edges more (omega (arith, h, k)))
    ∙ take-append-le (s.to - s.from) (drop s.from edges) more (let l = length-drop s.from edges in omega (arith, h, k, l))

same_lists : (edges more : List Edge) (spans : List Span) → AreWithin (length edges) spans → map (edges_in (edges ++ more)) spans ≡ map (edges_in edges) spans
same_lists edges more [] w = refl
same_lists edges more (s ∷ spans) w =
    ap (λ es. es ∷ map (edges_in (edges ++ more)) spans) (still_in edges more s w.0.0 w.0.1)
    ∙ ap (λ ls. edges_in edges s ∷ ls) (same_lists edges more spans w.1)

at_end : (edges more : List Edge) (s : Span) → s.from ≡ length edges → s.to ≡ length (edges ++ more) → edges_in (edges ++ more) s ≡ more
at_end edges more s from to =
    ap (λ xs. take (s.to - s.from) xs) (drop_at edges more s.from (sym from))
    ∙ take_all (s.to - s.from) more (let l = length-append edges more in omega (arith, l, from, to))

-- a vertex gets the edges at the end
pub lists_set : (edges more : List Edge) (spans : List Span) (i : ℕ) (s : Span) → AreWithin (length edges) spans → s.from ≡ length edges → s.to ≡ length (edges ++ more)
    → map (edges_in (edges ++ more)) (set spans i s) ≡ set (map (edges_in edges) spans) i more
lists_set edges more [] i s w from to = refl
lists_set edges more (t ∷ spans) zero s w from to =
    ap (λ es. es ∷ map (edges_in (edges ++ more)) spans) (at_end edges more s from to)
    ∙ ap (λ ls. more ∷ ls) (same_lists edges more spans w.1)
lists_set edges more (t ∷ spans) (suc i) s w from to =
    ap (λ es. es ∷ map (edges_in (edges ++ more)) (set spans i s)) (still_in edges more t w.0.0 w.0.1)
    ∙ ap (λ ls. edges_in edges t ∷ ls) (lists_set edges more spans i s w.1 from to)
