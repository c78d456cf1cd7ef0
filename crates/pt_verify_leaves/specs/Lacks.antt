-- Where a Leave has fewer slots than its target.
use Rattle.std.specs.Prelude.{ℕ, ◌-◌, min, nat_lt, List, [], Bool, false, Option, Some, None}
use Rattle.std.specs.List.{list_any}
use Rattle.pt_instr.specs.declared.Instr.{Instr}
use Rattle.pt_instr.specs.declared.Instr.TheVariants.{Leave, EndFinally}
use Rattle.pt_ranges.specs.declared.handlers.Handler.{Handler}
use Rattle.pt_places.specs.declared.places.Place.{Place}
use Rattle.pt_sizes.specs.Flow.{entry}
use Rattle.sem_fits.specs.fits.Leaves.{taker}
use Rattle.pt_verify_leaves.specs.Gathering.{list_at}
use Rattle.pt_verify_leaves.specs.Onto.{rows_at}

-- so many slots, or those that a row leaves of them, are fewer than lie at the target
abbrev pub is_few : (there : Option ℕ) → (low : ℕ) → Option Handler → Bool
is_few (Some n) low (Some row) = nat_lt (min low row.depth) n
is_few (Some n) low None = nat_lt low n
is_few None low row = false

abbrev pub few_for : List Handler → (sizes : List (Option ℕ)) → (pc low target : ℕ) → Bool
few_for rows sizes pc low t = is_few (entry sizes t) low (taker (rows_at rows pc) t)

-- the targets of a bundle
abbrev pub targets_at : List (List ℕ) → (bundle : Option ℕ) → List ℕ
targets_at bundles (Some k) = list_at bundles k
targets_at bundles None = []

-- a Leave goes on from its place with all slots, and from an EndFinally with those below the one that holds it
abbrev pub lacks_by : List Handler → (sizes : List (Option ℕ)) → (pc : ℕ) → Instr → (size : ℕ) → (targets : List ℕ) → Bool
lacks_by rows sizes pc (Leave t) n targets = few_for rows sizes pc n t.0
lacks_by rows sizes pc EndFinally n targets = list_any (λ t. few_for rows sizes pc (n - 1) t) targets
lacks_by rows sizes pc i n targets = false

abbrev pub lacks_at : List Handler → (sizes : List (Option ℕ)) → (pc : ℕ) → Option Place → (size : Option ℕ) → (targets : List ℕ) → Bool
lacks_at rows sizes pc (Some p) (Some n) targets = lacks_by rows sizes pc p.instr n targets
lacks_at rows sizes pc (Some p) None targets = false
lacks_at rows sizes pc None size targets = false
