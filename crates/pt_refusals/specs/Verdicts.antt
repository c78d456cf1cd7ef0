-- Why a block is refused, of what is told of it.
use Rattle.std.specs.Prelude.{ℕ, Bool, true, false, ◌||◌, Option, Some, None}
use Rattle.pt_cycles.specs.declared.cycles.Cycles.{Cycles}
use Rattle.pt_cycles.specs.declared.cycles.Cycles.TheVariants as cycles
use Rattle.sem_fits.specs.fits.Fits.{Misfit, stack, kind, target, table, silent_loop, depth}
use Rattle.pt_refusals.specs.declared.failures.Failures.{Failures}
use Rattle.pt_refusals.specs.declared.failures.Failures.TheVariants as failures
use Rattle.pt_refusals.specs.declared.failures.KindFailures.{KindFailures}
use Rattle.pt_refusals.specs.declared.failures.LeaveFailures.{LeaveFailures}
use Rattle.pt_refusals.specs.declared.failures.Refusal.{Refusal}
use Rattle.pt_refusals.specs.declared.failures.Refusal.TheVariants as refusal

abbrev pub misfit_of : Refusal → Misfit
misfit_of (refusal.Stack pc) = stack pc
misfit_of (refusal.Kind pc) = kind pc
misfit_of (refusal.Target pc) = target pc
misfit_of (refusal.Table row) = table row
misfit_of (refusal.SilentLoop pc) = silent_loop pc
misfit_of refusal.Depth = depth

-- too few slots come first, then another kind, a target
abbrev pub behind_rows : (p : ℕ) → (few clash strays : Bool) → Option Misfit
behind_rows p true clash strays = Some (stack p)
behind_rows p false true strays = Some (kind p)
behind_rows p false false true = Some (target p)
behind_rows p false false false = None

abbrev pub agreeing : (p : ℕ) → KindFailures → LeaveFailures → Option Misfit
agreeing p k l = behind_rows p l.lacks (k.clash || l.clash) k.strays

-- cuts that differ come before a row that is too deep, and before too few slots
abbrev pub too_deep : (row : ℕ) → (cuts : Option ℕ) → Misfit
too_deep row (Some n) = table n
too_deep row None = table row

abbrev pub too_few : (p : ℕ) → (cuts : Option ℕ) → Misfit
too_few p (Some n) = table n
too_few p None = stack p

abbrev pub refusal_at : (p : ℕ) → Failures → Option Misfit
refusal_at p failures.Meet = Some (stack p)
refusal_at p (failures.TooDeep row cuts) = Some (too_deep row cuts)
refusal_at p (failures.TooFew cuts) = Some (too_few p cuts)
refusal_at p (failures.Cut row) = Some (table row)
refusal_at p (failures.Agree k l) = agreeing p k l

-- a Leave that is lost, the depth, and loops
abbrev pub refusal_behind : (lost : Option ℕ) → (deep : Bool) → Cycles → Option Misfit
refusal_behind (Some pc) deep c = Some (target pc)
refusal_behind None true c = Some depth
refusal_behind None false (cycles.Ranks ranks) = None
refusal_behind None false (cycles.Least pc) = Some (silent_loop pc)
