-- The edges along which kinds go in a block where a row may be too deep: from a place to where its
-- instruction goes on, and in each stretch in which it lies to the first row that leaves no more
-- slots than lie below those that it takes; from there to the row, and to the next of the stretch;
-- from a row to its target.
use Rattle.std.specs.Prelude.{ℕ, zero, suc, ◌+◌, ◌-◌, List, [], ◌∷◌, ◌++◌, length, nat_le, nat_lt, slice_get, false, if◌then◌else◌, Option, Some, None}
use Rattle.pt_instr.specs.declared.effects.Effect.{Effect}
use Rattle.pt_ranges.specs.declared.handlers.Handler.{Handler}
use Rattle.pt_places.specs.declared.places.Place.{Place}
use Rattle.pt_places.specs.PlaceTable.{place_at}
use Rattle.pt_sizes.specs.Flow.{entry}
use Rattle.pt_sizes.specs.Waiting.{Level, levels_of, stretch, up}
use Rattle.sem_fits.specs.fits.Block.{Links, Block, effect}
use Rattle.sem_fits.specs.fits.Steps.{target_of}
use Rattle.pt_verify_depths.specs.Sizes.{left}
use Rattle.pt_block_kinds.specs.Leads.{Lead, lead, inside, own_leads, landing_leads}
use Rattle.pt_cut_failures.specs.declared.chains.Link.{Link}
use Rattle.pt_cut_failures.specs.declared.chains.Chains.{Chains}
use Rattle.pt_cut_failures.specs.Chains.{first_within, start_at, starts_of}

abbrev pub enter_leads : (links_from : ℕ) → List Handler → (start below : ℕ) → List Lead
enter_leads base rows start below =
    if nat_lt (first_within rows below) (length rows)
    then lead (base + (start + first_within rows below)) below [] false ∷ []
    else []

-- on so many levels
abbrev pub entering : (links_from : ℕ) → List Level → List (List ℕ) → (pc below levels : ℕ)
    → List Lead
entering base levels starts pc below zero = []
entering base levels starts pc below (suc k) =
    entering base levels starts pc below k
    ++ enter_leads base (stretch levels k (up k pc)) (start_at starts k (up k pc)) below

abbrev pub chain_leads : (links_from : ℕ) → Chains → (pc below : ℕ) → List Lead
chain_leads base c pc below =
    entering base (levels_of c.waiting.levels) (starts_of c.starts) pc below
    (length c.waiting.levels.items)

abbrev pub place_leads : (count links_from : ℕ) → Chains → Effect → (size pc next : ℕ)
    → (target : Option ℕ) → List Lead
place_leads count base c e n pc next t =
    inside count (own_leads e n pc next t) ++ chain_leads base c pc (left e n)

-- from an instruction at the limit or below whose place has a size
abbrev pub leads_from : (count links_from : ℕ) → Chains → Links → (limit pc : ℕ) → Option Place
    → (size : Option ℕ) → List Lead
leads_from count base c links limit pc (Some p) (Some n) =
    if nat_le pc limit
    then place_leads count base c (effect links p.instr) n pc p.next.0 (target_of p.instr)
    else []
leads_from count base c links limit pc p n = []

abbrev pub link_leads : (count links_from number : ℕ) → Option Link → List Lead
link_leads count base number (Some link) =
    lead (count + link.row) link.depth [] false
    ∷ (if link.last then [] else lead (base + (number + 1)) link.depth [] false ∷ [])
link_leads count base number None = []

-- the vertices are the places, the rows and the links
abbrev pub vertex_leads : Links → List Handler → Option Place → (limit : ℕ)
    → (sizes : List (Option ℕ)) → Chains → (vertex : ℕ) → List Lead
vertex_leads links rows place p T c v =
    if nat_lt v (length T)
    then leads_from (length T) (length T + length rows) c links p v place (entry T v)
    else if nat_lt v (length T + length rows)
    then landing_leads (length T) (slice_get rows (v - length T))
    else link_leads (length T) (length T + length rows) (v - (length T + length rows))
    (slice_get c.links.items (v - (length T + length rows)))

abbrev pub leads_at : Block → (limit : ℕ) → (sizes : List (Option ℕ)) → Chains → (vertex : ℕ)
    → List Lead
leads_at b p T c v = vertex_leads b.links b.handlers (place_at (b.at v)) p T c v
