-- The edges along which kinds go in a block, by what comes along them: from a place to where its
-- instruction goes on, and to the least stretch of places in which it lies, with the slots that lie
-- below those that it takes; from a stretch to the one above and to the handler rows that lie
-- there; from a row to its target (Library Reference, "dis").
use Rattle.std.specs.Prelude.{ℕ, ◌+◌, ◌-◌, ◌/◌, List, [], ◌∷◌, ◌++◌, length, map, nat_le, nat_lt, slice_get, Bool, false, if◌then◌else◌, Option, Some, None}
use Rattle.pt_instr.specs.declared.effects.Effect.{Effect}
use Rattle.pt_instr.specs.declared.kinds.Kind.TheVariants.{Value}
use Rattle.pt_instr.specs.Effects.{Kinds}
use Rattle.pt_ranges.specs.declared.handlers.Handler.{Handler}
use Rattle.pt_places.specs.declared.places.Place.{Place}
use Rattle.pt_places.specs.PlaceTable.{place_at}
use Rattle.pt_sizes.specs.Flow.{entry}
use Rattle.pt_sizes.specs.Waiting.{Level, stretch_of}
use Rattle.pt_step_graph.specs.Graph.{width}
use Rattle.sem_fits.specs.fits.Block.{Links, Block, effect}
use Rattle.sem_fits.specs.fits.Steps.{held_by, target_of}
use Rattle.pt_verify_depths.specs.Sizes.{left, is_enough}
use Rattle.pt_kind_flow.specs.declared.edges.Edge.{Edge}
use Rattle.pt_kind_flow.specs.Flow.{given, led_by}

-- an edge by what it keeps and gives
pub record Lead : Type 0 where
  pub to : ℕ
  pub keeps : ℕ
  pub given : Kinds
  pub raises : Bool

abbrev pub lead : (to keeps : ℕ) → Kinds → Bool → Lead
lead to keeps ks raises = record { to = to; keeps = keeps; given = ks; raises = raises }

abbrev pub lead_of : Edge → Lead
lead_of e = lead e.to e.keeps (given e) e.raises

abbrev pub leads_of : List Edge → List Lead
leads_of edges = map lead_of edges

abbrev pub led_along : Lead → Kinds → Kinds
led_along l ks = led_by l.keeps l.given l.raises ks

-- those that lead to the first vertices, so many of them
abbrev pub inside : (count : ℕ) → List Lead → List Lead
inside count [] = []
inside count (l ∷ ls) = if nat_lt l.to count then l ∷ inside count ls else inside count ls

-- of two that are swapped the lower one comes to the top, and a value lies below
abbrev pub lead_behind : Effect → (size next : ℕ) → Kinds → Lead
lead_behind e n next given = lead next (left e n) (if e.swaps then Value ∷ [] else given) e.swaps

abbrev pub leads_behind : Effect → (size next : ℕ) → Option Kinds → List Lead
leads_behind e n next (Some given) = lead_behind e n next given ∷ []
leads_behind e n next None = []

abbrev pub leads_aside : Effect → (size : ℕ) → (target : Option ℕ) → Option Kinds → List Lead
leads_aside e n (Some t) (Some given) = lead t (left e n) given false ∷ []
leads_aside e n t given = []

abbrev pub leads_again : Bool → (size pc : ℕ) → List Lead
leads_again again n pc = if again then lead pc n [] false ∷ [] else []

-- of the instruction itself, those first that depend on more slots; none where it has too few
abbrev pub own_leads : Effect → (size pc next : ℕ) → (target : Option ℕ) → List Lead
own_leads e n pc next t =
    if is_enough e n
    then leads_again e.again n pc ++ (leads_behind e n next e.gives ++ leads_aside e n t e.aside)
    else []

-- and the one to the least stretch, if there are stretches
abbrev pub place_leads : (count rows_from : ℕ) → Effect → (size pc next : ℕ)
    → (target : Option ℕ) → List Lead
place_leads count base e n pc next t =
    inside count (own_leads e n pc next t)
    ++ inside base (lead (count + pc) (left e n) [] false ∷ [])

-- from an instruction at the limit or below whose place has a size
abbrev pub leads_from : (count rows_from : ℕ) → Links → (limit pc : ℕ) → Option Place
    → (size : Option ℕ) → List Lead
leads_from count base links limit pc (Some p) (Some n) =
    if nat_le pc limit
    then place_leads count base (effect links p.instr) n pc p.next.0 (target_of p.instr)
    else []
leads_from count base links limit pc p n = []

-- rows by their numbers: each has its number as its target
abbrev pub numbered : (first : ℕ) → List Handler → List Handler
numbered k [] = []
numbered k (row ∷ rows) = record row { target = record { 0 = k } } ∷ numbered (k + 1) rows

abbrev pub row_lead : (rows_from : ℕ) → Handler → Lead
row_lead base row = lead (base + row.target.0) row.depth [] false

-- the stretch of the level above, if there is one; the rows need no more slots than the deepest
-- of them leaves
abbrev pub above_leads : (deepest first : ℕ) → List Level → (stretch : ℕ) → List Lead
above_leads deepest first [] i = []
above_leads deepest first (level ∷ levels) i = lead (first + i / 2) deepest [] false ∷ []

abbrev pub stretch_leads : (rows_from deepest first : ℕ) → List Level → (stretch : ℕ) → List Lead
stretch_leads base deepest first [] i = []
stretch_leads base deepest first (level ∷ levels) i =
    if nat_lt i (length level)
    then above_leads deepest (first + length level) levels i
    ++ map (row_lead base) (stretch_of level i)
    else stretch_leads base deepest (first + length level) levels (i - length level)

-- a row leads to its target, with what it holds on top
abbrev pub landing_leads : (count : ℕ) → Option Handler → List Lead
landing_leads count (Some row) =
    inside count (lead row.target.0 row.depth (held_by row ∷ []) false ∷ [])
landing_leads count None = []

-- the vertices are the places, the stretches and the rows
abbrev pub vertex_leads : Links → List Handler → Option Place → (limit : ℕ)
    → (sizes : List (Option ℕ)) → List Level → (deepest vertex : ℕ) → List Lead
vertex_leads links rows place p T levels deepest v =
    if nat_lt v (length T)
    then leads_from (length T) (length T + width levels) links p v place (entry T v)
    else if nat_lt v (length T + width levels)
    then stretch_leads (length T + width levels) deepest (length T) levels (v - length T)
    else landing_leads (length T) (slice_get rows (v - (length T + width levels)))

abbrev pub leads_at : Block → (limit : ℕ) → (sizes : List (Option ℕ)) → List Level → (deepest : ℕ)
    → (vertex : ℕ) → List Lead
leads_at b p T levels deepest v =
    vertex_leads b.links b.handlers (place_at (b.at v)) p T levels deepest v
