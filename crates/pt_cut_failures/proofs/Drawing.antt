-- A graph whose vertices get their edges one by one is that of the block.
use Rattle.std.proofs.Common.{◌≡◌, ℕ, ◌+◌, ◌-◌, ◌<◌, ◌≤◌, List, [], length, Option, sym, ap, ◌∙◌, subst, arith, inl, inr}
use Rattle.std.specs.Prelude.{nat_lt, cond, slice_get}
use Rattle.std.proofs.lemmas.Option.{slice_get_past}
use Rattle.pt_ranges.specs.declared.handlers.Handler.{Handler}
use Rattle.pt_code.specs.View.{Ins}
use Rattle.pt_code.specs.declared.Code.{Code}
use Rattle.pt_code.specs.declared.CodeBlock.{CodeBlock}
use Rattle.pt_places.specs.declared.places.Place.{Place}
use Rattle.pt_places.specs.PlaceTable as Places
use Rattle.pt_places.specs.PlaceTable.{place_at}
use Rattle.pt_sizes.specs.Flow.{entry}
use Rattle.pt_step_graph.proofs.Numbers.{lt_true, lt_false}
use Rattle.sem_fits.specs.fits.Block.{Links, block_of, links_of, kinds_at_start}
use Rattle.pt_kind_flow.specs.declared.edges.Edge.{Edge}
use Rattle.pt_kind_flow.specs.declared.flow.Flow.{Flow}
use Rattle.pt_kind_flow.specs.Flow.{Descends, graph}
use Rattle.pt_block_kinds.specs.Leads.{Lead, leads_of, landing_leads}
use Rattle.pt_block_kinds.specs.Drawing.{DrawnFrom}
use Rattle.pt_block_kinds.proofs.Lists.{below_or}
use Rattle.pt_block_kinds.proofs.Opening.{past_end}
use Rattle.pt_block_kinds.proofs.Falling.{Falls, falls_descends}
use Rattle.pt_cut_failures.specs.declared.chains.Chains.{Chains}
use Rattle.pt_cut_failures.specs.Chains.{AreRowChains}
use Rattle.pt_cut_failures.specs.Leads.{leads_from, link_leads, vertex_leads}
use Rattle.pt_cut_failures.specs.Graph.{DrawsCuts}
use Rattle.pt_cut_failures.proofs.Falling.{vertex_falls}

module _ (links : Links) (rows : List Handler) (place : Option Place) (p : ℕ) (T : List (Option ℕ)) (c : Chains) (v : ℕ) where
  abbrev count : ℕ
  count = length T

  abbrev base : ℕ
  base = count + length rows

  abbrev leads : List Lead
  leads = vertex_leads links rows place p T c v

  abbrev other : List Lead
  other = cond (nat_lt v base) (landing_leads count (slice_get rows (v - count))) (link_leads count base (v - base) (slice_get c.links.items (v - base)))

  pub at_place : v < count → leads_from count base c links p v place (entry T v) ≡ leads
  at_place lt = sym (ap (λ t. cond t (leads_from count base c links p v place (entry T v)) other) (lt_true v count lt))

  pub at_row : count ≤ v → v < base → landing_leads count (slice_get rows (v - count)) ≡ leads
  at_row h lt = sym (ap (λ t. cond t (leads_from count base c links p v place (entry T v)) other) (lt_false v count h)
      ∙ ap (λ t. cond t (landing_leads count (slice_get rows (v - count))) (link_leads count base (v - base) (slice_get c.links.items (v - base)))) (lt_true v base lt))

  pub at_link : base ≤ v → link_leads count base (v - base) (slice_get c.links.items (v - base)) ≡ leads
  at_link h = sym (ap (λ t. cond t (leads_from count base c links p v place (entry T v)) other) (lt_false v count (omega (arith, h)))
      ∙ ap (λ t. cond t (landing_leads count (slice_get rows (v - count))) (link_leads count base (v - base) (slice_get c.links.items (v - base)))) (lt_false v base h))

  pub edges_descend : (es : List Edge) → leads_of es ≡ leads → Descends es
  edges_descend es e = falls_descends es (subst Falls (sym e) (vertex_falls links rows place p T c v))

  pub none_behind : base + length c.links.items ≤ v → leads ≡ []
  none_behind h = sym (at_link (omega (arith, h))) ∙ ap (link_leads count base (v - base)) (slice_get_past c.links.items (v - base) (omega (arith, h)))

pub draws : (c : Code) (b : CodeBlock) (view : ℕ → Option Ins) (places : List (Option Place)) → Places.HasPlaces view places → (p : ℕ) (T : List (Option ℕ)) (chains : Chains)
    → AreRowChains b.handlers (length T) chains → (f : Flow) (size from : ℕ) → size ≡ (length T + length b.handlers) + length chains.links.items → from ≡ 0
    → DrawnFrom (kinds_at_start b.kind) size (λ v. vertex_leads (links_of c) b.handlers (Places.entry places v) p T chains v) from f
    → DrawsCuts (block_of c b view) p T f
draws c b view places has p T chains are f size from e none d = record {
  chains = chains;
  is = record {
    chains = are;
    first = d.starts;
    long = d.long ∙ e;
    leads = λ v. elim (below_or v size) [
      | inl h ↦ d.drawn v (omega (arith, none)) h ∙ ap (λ o. vertex_leads (links_of c) b.handlers o p T chains v) (has v)
      | inr h ↦ ap leads_of (past_end (graph f).edges v (let l = d.long in omega (arith, h, l)))
          ∙ sym (none_behind (links_of c) b.handlers (place_at (view v)) p T chains v (omega (arith, e, h)))
    ];
  };
  flow = d.flow;
}
