-- What the machine does where an exception arises in place of the reply to an ask: it lands from the
-- place of the newest activation, and is told, behind a call of a builtin that raised it; then it goes
-- on (Language Reference 7.8, 8.4; Library Reference, `sys.monitoring`).
use Rattle.std.specs.Prelude.{List, [], ◌∷◌, ◌++◌, Bool, true, false, Option, Some, None, if◌then◌else◌}
use Rattle.pt_heap.specs.declared.value.Value.{Value}
use Rattle.pt_happenings.specs.declared.happening.Happening.{Happening}
use Rattle.pt_happenings.specs.declared.happening.Happening.TheVariants.{Raises, RaisesFrom}
use Rattle.pt_replying.specs.pt_turning.pt_telling.pt_transfers.pt_machine_state.declared.blocks.BlockCode.{BlockCode}
use Rattle.pt_replying.specs.pt_turning.pt_telling.pt_run_state.pt_purposes.declared.purpose.Called.{Called}
use Rattle.pt_replying.specs.pt_turning.pt_telling.pt_run_state.declared.machine.Machine.{Machine}
use Rattle.pt_replying.specs.pt_turning.pt_telling.pt_run_state.declared.machine.Waiting.{Waiting}
use Rattle.pt_replying.specs.pt_turning.pt_telling.Telling.{Told}
use Rattle.pt_replying.specs.pt_turning.Turning.{raised_in, going}
use Rattle.pt_replying.specs.Replying.{told_on}

-- behind a call, of an act alone
abbrev pub builtin_told : Called → List Happening
builtin_told c = if c.told.builtin then RaisesFrom c.function c.told.first ∷ [] else []

abbrev pub call_told : Option Called → (is_act : Bool) → List Happening
call_told (Some c) true = builtin_told c
call_told c b = []

abbrev pub arising_told : Option Called → (is_act : Bool) → Value → List Happening
arising_told called is_act v = call_told called is_act ++ Raises v ∷ []

-- where this exception was active in the activation as it was asked
abbrev pub arising : BlockCode → Value → Option Value → Machine → Waiting
arising block v active m = record (going block v m) { active = active }

abbrev pub arisen : BlockCode → Value → Option Called → (is_act : Bool) → Option Value → Machine
    → Told
arisen block v called is_act active m =
    told_on block (arising block v active m) (arising_told called is_act v) (raised_in block v m)
