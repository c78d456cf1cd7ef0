-- What the machine does at `raise` alone: the exception that is active in the run goes on from there,
-- which is told of an act; and where none is active, a RuntimeError arises (Language Reference 7.8).
use Rattle.std.specs.Prelude.{◌≡◌, List, [], ◌∷◌, Bool, true, false, Option, Some, None, codes}
use Rattle.pt_heap.specs.declared.value.Value.{Value}
use Rattle.pt_happenings.specs.declared.happening.Happening.{Happening}
use Rattle.pt_happenings.specs.declared.happening.Happening.TheVariants.{RaisesAgain}
use Rattle.pt_failing.specs.pt_arising.pt_replying.pt_turning.pt_telling.pt_transfers.pt_machine_state.declared.blocks.BlockCode.{BlockCode}
use Rattle.pt_failing.specs.pt_arising.pt_replying.pt_turning.sem_rows.pt_host.declared.places.TheConstants.{RUNTIME_ERROR}
use Rattle.pt_failing.specs.pt_arising.pt_replying.pt_turning.sem_rows.declared.heap_rows.progress.Progress.{Progress}
use Rattle.pt_failing.specs.pt_arising.pt_replying.pt_turning.sem_rows.declared.heap_rows.progress.Progress.TheVariants.{FailsSaying}
use Rattle.pt_failing.specs.pt_arising.pt_replying.pt_turning.pt_telling.pt_run_state.declared.machine.Machine.{Machine}
use Rattle.pt_failing.specs.pt_arising.pt_replying.pt_turning.pt_telling.Telling.{Told}
use Rattle.pt_failing.specs.pt_arising.pt_replying.pt_turning.Turning.{raised_in}
use Rattle.pt_failing.specs.pt_arising.pt_replying.Replying.{told_on}
use Rattle.pt_failing.specs.pt_arising.Arising.{arising}
use Rattle.pt_failing.specs.declared.failing.Failed.{Failed}
use Rattle.pt_failing.specs.declared.failing.Failing.{Failing}
use Rattle.pt_failing.specs.Failing.{FailsSo, context_of, goes}

abbrev pub again_told : (is_act : Bool) → Value → List Happening
again_told true v = RaisesAgain v ∷ []
again_told false v = []

abbrev pub raised_again : BlockCode → Value → (is_act : Bool) → Option Value → Machine → Told
raised_again block v acts active m =
    told_on block (arising block v active m) (again_told acts v) (raised_in block v m)

abbrev pub none_active : Progress
none_active = FailsSaying RUNTIME_ERROR (codes "no active exception")

abbrev pub alone : (is_act : Bool) → Option Value → Failing
alone acts active = record { called = None; is_act = acts; active = active }

abbrev pub RaisesIn : Option Value → BlockCode → (is_act : Bool) → Option Value → (old : Machine)
    → Failed → (new : Machine) → Type 0
RaisesIn (Some v) block acts active old r new =
    record { failed = r; machine = new } ≡ goes (raised_again block v acts active old)
RaisesIn None block acts active old r new = FailsSo block none_active (alone acts active) old r new

-- by the exception that is active in the run
abbrev pub RaisesSo : BlockCode → (is_act : Bool) → Option Value → (old : Machine) → Failed
    → (new : Machine) → Type 0
RaisesSo block acts active old r new =
    RaisesIn (context_of active old) block acts active old r new
