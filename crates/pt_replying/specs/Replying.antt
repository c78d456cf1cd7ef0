-- What the machine does where a reply with a value is there: of an act is told that a builtin has
-- returned, that an exception has ended an iterator, and what was decided; then it goes on (Language
-- Reference 4.1, 8.3, 8.4; Library Reference, `sys.monitoring`).
use Rattle.std.specs.Prelude.{List, [], ◌∷◌, ◌++◌, Bool, Option, Some, None, if◌then◌else◌}
use Rattle.pt_heap.specs.declared.value.Value.{Value}
use Rattle.sem_control.specs.control.Events as E
use Rattle.pt_happenings.specs.declared.happening.Happening.{Happening}
use Rattle.pt_happenings.specs.declared.happening.Happening.TheVariants.{ReturnsFrom, Stops, Branches, Handled}
use Rattle.pt_pendings.specs.declared.pending.Origin.{Origin}
use Rattle.pt_pendings.specs.declared.pending.Pending.TheVariants.{Going}
use Rattle.pt_returning.specs.pt_turning.pt_telling.pt_transfers.pt_machine_state.declared.blocks.BlockCode.{BlockCode}
use Rattle.pt_returning.specs.pt_purposes.declared.purpose.Called.{Called}
use Rattle.pt_returning.specs.pt_purposes.declared.standing.Standing.{Standing}
use Rattle.pt_returning.specs.pt_turning.pt_telling.pt_run_state.declared.machine.Machine.{Machine}
use Rattle.pt_returning.specs.pt_turning.pt_telling.pt_run_state.declared.machine.Waiting.{Waiting}
use Rattle.pt_returning.specs.pt_turning.pt_telling.Telling.{Told, told as tell}
use Rattle.pt_returning.specs.pt_turning.Turning.{gone_on}
use Rattle.pt_returning.specs.pt_turning.Laws.{waiting}
use Rattle.pt_replying.specs.declared.replying.Decided.{Decided}
use Rattle.pt_replying.specs.declared.replying.Decided.TheVariants as decided
use Rattle.pt_replying.specs.declared.replying.Given.{Given}

abbrev pub builtin_told : Called → List Happening
builtin_told c = if c.told.builtin then ReturnsFrom c.function c.told.first ∷ [] else []

abbrev pub call_told : Option Called → List Happening
call_told (Some c) = builtin_told c
call_told None = []

abbrev pub stop_told : Option Value → List Happening
stop_told (Some e) = Stops e ∷ []
stop_told None = []

abbrev pub decided_told : Decided → List Happening
decided_told decided.Nothing = []
decided_told (decided.Branches d) = Branches d ∷ []
decided_told (decided.Handles v) = Handled v ∷ []

-- so control tells it
abbrev pub decided_events : Decided → List (E.Event Value)
decided_events decided.Nothing = []
decided_events (decided.Branches d) = E.branches ∷ []
decided_events (decided.Handles v) = E.handled v ∷ []

abbrev pub given_told : Given → List Happening
given_told g = (call_told g.called ++ stop_told g.stops) ++ decided_told g.decided

abbrev pub reply_told : Given → (is_act : Bool) → List Happening
reply_told g acts = if acts then given_told g else []

-- where no event is told what waits goes on by the next turn
abbrev pub beyond : Standing → Told → Told
beyond z r = record {
  event = r.event;
  machine = if r.event then r.machine else gone_on z r.machine;
}

abbrev pub told_on : BlockCode → Waiting → List Happening → Machine → Told
told_on block w hs m = beyond w.standing (tell block w hs m)

-- the reply leads to where the newest activation stands, and a raise in its place comes from there
abbrev pub replied : BlockCode → Given → (is_act : Bool) → Standing → Option Value → Origin
    → Machine → Told
replied block g acts z active from m =
    told_on block (waiting z active (Going from)) (reply_told g acts) m
