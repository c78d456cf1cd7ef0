-- A graph whose vertices get their edges one by one.
use Rattle.std.proofs.Common.{◌≡◌, ℕ, ◌+◌, ◌-◌, ◌<◌, ◌≤◌, zero, suc, List, [], ◌∷◌, length, Option, Some, None, refl, sym, ap, ◌∙◌, subst, arith, ◌⊎◌, inl, inr, Bor}
use Rattle.std.specs.Prelude.{nat_lt, cond, slice_get, slice_index_or, option_map, is_some, IfSome}
use Rattle.std.proofs.lemmas.Bool.{cases_eq, false≢true}
use Rattle.std.proofs.lemmas.List.{length-set, get_or-set_same, get_or-set_other}
use Rattle.pt_instr.specs.Effects.{Kinds}
use Rattle.pt_ranges.specs.declared.handlers.Handler.{Handler}
use Rattle.pt_code.specs.View.{Ins}
use Rattle.pt_places.specs.declared.places.Place.{Place}
use Rattle.pt_places.specs.PlaceTable as Places
use Rattle.pt_places.specs.PlaceTable.{place_at}
use Rattle.pt_sizes.specs.Flow.{entry}
use Rattle.pt_sizes.specs.Waiting.{levels_of}
use Rattle.pt_step_graph.specs.Graph.{width}
use Rattle.pt_step_graph.proofs.Numbers.{lt_true, lt_false, is_lt}
use Rattle.pt_code.specs.declared.Code.{Code}
use Rattle.pt_code.specs.declared.CodeBlock.{CodeBlock}
use Rattle.sem_fits.specs.fits.Block.{Links, block_of, links_of, kinds_at_start}
use Rattle.pt_kind_flow.specs.declared.edges.Edge.{Edge}
use Rattle.pt_kind_flow.specs.declared.flow.Flow.{Flow}
use Rattle.pt_kind_flow.specs.Flow.{graph, edges_at, Descends}
use Rattle.pt_kind_flow.specs.Search.{IsFlow, Opens}
use Rattle.pt_block_kinds.specs.declared.graph.BlockKinds.{BlockKinds}
use Rattle.pt_block_kinds.specs.declared.graph.Plan.{Plan}
use Rattle.pt_block_kinds.specs.Leads.{Lead, leads_of, leads_from, stretch_leads, landing_leads, vertex_leads}
use Rattle.pt_block_kinds.specs.Graph.{IsGraph}
use Rattle.pt_block_kinds.specs.Drawing.{IsPlan, DrawnFrom, Draws}
use Rattle.pt_block_kinds.proofs.Lists.{below_or}
use Rattle.pt_block_kinds.proofs.Falling.{falls_descends, Falls, vertex_falls, all_below}

above_not : (v u : ℕ) → v ≤ u → (u ≡ v → ⊥) → v < u
above_not zero zero h ne = absurd (ne refl)
above_not zero (suc u) h ne = omega arith
above_not (suc v) zero h ne = absurd (omega (arith, h))
above_not (suc v) (suc u) h ne = let r = above_not v u (omega (arith, h)) (λ e. ne (ap (λ n. suc n) e)) in omega (arith, r)

-- the last vertices have their edges, and one more
module _ (first : Kinds) (size : ℕ) (leads : ℕ → List Lead) (v : ℕ) (old : Flow) (d : DrawnFrom first size leads (v + 1) old) where
  lt : v < size
  lt = let l = d.low in omega (arith, l)

  pub room : v < length old.edges
  room = let l = d.long in let h = lt in omega (arith, h, l)

  pub none_yet : edges_at (graph old).edges v ≡ []
  none_yet = d.rest v (omega arith)

  module _ (new : Flow) (es : List Edge) (o : Opens old new v es) (is : leads_of es ≡ leads v) where
    here : edges_at (graph new).edges v ≡ es
    here = ap (λ xs. edges_at xs v) o.edges_are ∙ get_or-set_same (graph old).edges v es [] (let l = d.long in let h = lt in omega (arith, h, l))

    other : (u : ℕ) → (u ≡ v → ⊥) → edges_at (graph new).edges u ≡ edges_at (graph old).edges u
    other u ne = ap (λ xs. edges_at xs u) o.edges_are ∙ get_or-set_other (graph old).edges v u es [] ne

    pub drawn_more : DrawnFrom first size leads v new
    drawn_more = record {
      flow = o.flow;
      long = ap length o.edges_are ∙ (length-set (graph old).edges v es ∙ d.long);
      starts = o.first ∙ d.starts;
      low = let h = lt in omega (arith, h);
      drawn = λ u h k. by_place u h k (cases_eq u v);
      rest = λ u h. other u (λ e. absurd (omega (arith, h, e))) ∙ d.rest u (omega (arith, h));
    }
      where
        by_place : (u : ℕ) → v ≤ u → u < size → (u ≡ v) ⊎ (u ≡ v → ⊥) → leads_of (edges_at (graph new).edges u) ≡ leads u
        by_place u h k (inl e) = subst (λ w. leads_of (edges_at (graph new).edges w) ≡ leads w) (sym e) (ap leads_of here ∙ is)
        by_place u h k (inr ne) = ap leads_of (other u ne) ∙ d.drawn u (let l : v < u = above_not v u h ne in omega (arith, l)) k

pub edges_descend : (links : Links) (rows : List Handler) (place : Option Place) (p : ℕ) (T : List (Option ℕ)) (plan : Plan) (v : ℕ) (es : List Edge)
    → IsPlan rows (length T) plan → leads_of es ≡ vertex_leads links rows place p T (levels_of plan.waiting.levels) plan.deepest v → Descends es
edges_descend links rows place p T plan v es is e = falls_descends es (subst Falls (sym e)
    (vertex_falls links rows place p T (levels_of plan.waiting.levels) plan.deepest v is.laid.wait.sorted
    (all_below rows (length T) plan.deepest (levels_of plan.waiting.levels) is.laid.wait is.deep)))

none_got : (xs : List Handler) (j : ℕ) → length xs ≤ j → slice_get xs j ≡ None
none_got [] j h = refl
none_got (x ∷ xs) zero h = absurd (omega (arith, h))
none_got (x ∷ xs) (suc j) h = none_got xs j (omega (arith, h))

some_got : (xs : List Handler) (i : ℕ) (y : Handler) → i < length xs → y ≡ slice_index_or xs i y → Some y ≡ slice_get xs i
some_got [] i y l e = absurd (omega (arith, l))
some_got (x ∷ xs) zero y l e = ap (λ z. Some z) e
some_got (x ∷ xs) (suc i) y l e = some_got xs i y (omega (arith, l)) e

-- what a slice lends is what stands there
pub lent : (xs : List Handler) (i : ℕ) (r : Option (Bor Handler)) → is_some r ≡ nat_lt i (length xs) → IfSome r (λ x. x.now ≡ slice_index_or xs i x.now)
    → option_map (λ x. x.now) r ≡ slice_get xs i
lent xs i None e f = sym (none_got xs i (elim (below_or i (length xs)) [ inl h ↦ absurd (false≢true (e ∙ lt_true i (length xs) h)) | inr h ↦ h ]))
lent xs i (Some x) e f = some_got xs i x.now (is_lt i (length xs) (sym e)) f

-- behind the stretches stand the rows
pub row_leads : (links : Links) (rows : List Handler) (place : Option Place) (p : ℕ) (T : List (Option ℕ)) (plan : Plan) → IsPlan rows (length T) plan → (v : ℕ)
    → (v < plan.rows_from → ⊥) → (r : Option (Bor Handler)) → is_some r ≡ nat_lt (v - plan.rows_from) (length rows)
    → IfSome r (λ x. x.now ≡ slice_index_or rows (v - plan.rows_from) x.now)
    → landing_leads (length T) (option_map (λ x. x.now) r) ≡ vertex_leads links rows place p T (levels_of plan.waiting.levels) plan.deepest v
row_leads links rows place p T plan is v behind r e f = let h = not_below v plan.rows_from behind in let first = is.first in
    ap (landing_leads (length T)) (lent rows (v - plan.rows_from) r e f
    ∙ ap (λ n. slice_get rows (v - n)) first)
    ∙ sym (ap (λ t. cond t (leads_from (length T) (length T + width (levels_of plan.waiting.levels)) links p v place (entry T v))
    (cond (nat_lt v (length T + width (levels_of plan.waiting.levels)))
    (stretch_leads (length T + width (levels_of plan.waiting.levels)) plan.deepest (length T) (levels_of plan.waiting.levels) (v - length T))
    (landing_leads (length T) (slice_get rows (v - (length T + width (levels_of plan.waiting.levels)))))))
    (lt_false v (length T) (omega (arith, h, first)))
    ∙ ap (λ t. cond t (stretch_leads (length T + width (levels_of plan.waiting.levels)) plan.deepest (length T) (levels_of plan.waiting.levels) (v - length T))
    (landing_leads (length T) (slice_get rows (v - (length T + width (levels_of plan.waiting.levels))))))
    (lt_false v (length T + width (levels_of plan.waiting.levels)) (omega (arith, h, first))))
  where
    not_below : (a b : ℕ) → (a < b → ⊥) → b ≤ a
    not_below a b n = elim (below_or a b) [ inl h ↦ absurd (n h) | inr h ↦ h ]

pub past_end : (edges : List (List Edge)) (v : ℕ) → length edges ≤ v → edges_at edges v ≡ []
past_end [] v h = refl
past_end (es ∷ edges) zero h = absurd (omega (arith, h))
past_end (es ∷ edges) (suc v) h = past_end edges v (omega (arith, h))

-- the graph is that of the block
pub draws : (c : Code) (b : CodeBlock) (view : ℕ → Option Ins) (places : List (Option Place)) → Places.HasPlaces view places → (p : ℕ) (T : List (Option ℕ)) (plan : Plan)
    → IsPlan b.handlers (length T) plan → (f : Flow) (kinds : BlockKinds) → kinds.flow ≡ f → kinds.rows_from ≡ plan.rows_from
    → (from : ℕ) → from ≡ 0
    → DrawnFrom (kinds_at_start b.kind) plan.size (λ v. vertex_leads (links_of c) b.handlers (Places.entry places v) p T (levels_of plan.waiting.levels) plan.deepest v) from f
    → Draws (block_of c b view) p T kinds
draws c b view places has p T plan is f kinds flow rows from none d = record {
  levels = levels_of plan.waiting.levels;
  is = subst (λ f. IsGraph (block_of c b view) p T (levels_of plan.waiting.levels) (graph f)) (sym flow) (record {
    deepest = plan.deepest;
    laid = is.laid;
    deep = is.deep;
    first = d.starts;
    long = d.long ∙ (is.size ∙ ap (λ n. n + length b.handlers) is.first);
    leads = λ v. elim (below_or v plan.size) [
      | inl h ↦ d.drawn v (omega (arith, none)) h ∙ ap (λ o. vertex_leads (links_of c) b.handlers o p T (levels_of plan.waiting.levels) plan.deepest v) (has v)
      | inr h ↦ ap leads_of (past_end (graph f).edges v (let l = d.long in omega (arith, h, l))) ∙ sym (none_behind v h)
    ];
  });
  flow = subst IsFlow (sym flow) d.flow;
  rows = rows ∙ is.first;
}
  where
    none_behind : (v : ℕ) → plan.size ≤ v → vertex_leads (links_of c) b.handlers (place_at (view v)) p T (levels_of plan.waiting.levels) plan.deepest v ≡ []
    none_behind v h = let a = is.size in let e = is.first in
        ap (λ t. cond t (leads_from (length T) (length T + width (levels_of plan.waiting.levels)) (links_of c) p v (place_at (view v)) (entry T v))
        (cond (nat_lt v (length T + width (levels_of plan.waiting.levels)))
        (stretch_leads (length T + width (levels_of plan.waiting.levels)) plan.deepest (length T) (levels_of plan.waiting.levels) (v - length T))
        (landing_leads (length T) (slice_get b.handlers (v - (length T + width (levels_of plan.waiting.levels)))))))
        (lt_false v (length T) (omega (arith, a, e, h)))
        ∙ (ap (λ t. cond t (stretch_leads (length T + width (levels_of plan.waiting.levels)) plan.deepest (length T) (levels_of plan.waiting.levels) (v - length T))
        (landing_leads (length T) (slice_get b.handlers (v - (length T + width (levels_of plan.waiting.levels))))))
        (lt_false v (length T + width (levels_of plan.waiting.levels)) (omega (arith, a, e, h)))
        ∙ ap (landing_leads (length T)) (none_got b.handlers (v - (length T + width (levels_of plan.waiting.levels))) (omega (arith, a, e, h))))
