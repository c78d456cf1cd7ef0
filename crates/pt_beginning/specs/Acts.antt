-- What the machine does as an act begins: it takes its unit, its frame has its line, and that is told
-- with what comes before the act (Language Reference 4.1; PEP 626; Library Reference,
-- `sys.monitoring`).
use Rattle.std.specs.Prelude.{ℕ, List, [], ◌∷◌, ◌++◌, Bool, false, Option, Some, None, if◌then◌else◌}
use Rattle.std.specs.Option.{option_map}
use Rattle.pt_heap.specs.declared.value.Value.{Value}
use Rattle.pt_ranges.specs.declared.lines.ActMark.{ActMark}
use Rattle.sem_control.specs.control.LineEvents.{is_told}
use Rattle.sem_code.specs.slots.Steps.{mark_of}
use Rattle.sem_run.specs.run.Step.{jump_line}
use Rattle.pt_happenings.specs.declared.happening.Happening.{Happening}
use Rattle.pt_happenings.specs.declared.happening.Happening.TheVariants.{Line}
use Rattle.pt_pendings.specs.declared.reply.Callee.{Callee}
use Rattle.pt_pendings.specs.declared.pending.Pending.TheVariants.{Doing}
use Rattle.pt_turning.specs.pt_telling.pt_transfers.pt_machine_state.declared.blocks.BlockCode.{BlockCode}
use Rattle.pt_turning.specs.pt_telling.pt_transfers.pt_machine_state.Changes.{at_act}
use Rattle.pt_turning.specs.pt_telling.pt_run_state.pt_purposes.declared.standing.Standing.{Standing}
use Rattle.pt_turning.specs.pt_telling.pt_run_state.pt_purposes.Seen.{active_at}
use Rattle.pt_turning.specs.pt_telling.pt_run_state.declared.machine.Machine.{Machine}
use Rattle.pt_turning.specs.pt_telling.pt_run_state.declared.machine.Waiting.{Waiting}
use Rattle.pt_turning.specs.pt_telling.Telling.{Told, told as tell}

-- the unit is taken
abbrev pub act_taken : ActMark → Machine → Machine
act_taken k m = record m {
  code = at_act k m.code;
  course = record m.course { act = k.act; behind_jump = false };
}

-- the line by which the act's is told
abbrev pub line_before : Machine → Option ℕ
line_before m = jump_line m.course.behind_jump (option_map (λ l. l.0) m.code.here.line)

abbrev pub line_told : ActMark → Machine → List Happening
line_told k m =
    if is_told (line_before m) (mark_of k) then Line m.course.behind_jump ∷ [] else []

abbrev pub listed : Option Happening → List Happening
listed (Some h) = h ∷ []
listed None = []

-- the act is to be done behind that, where the activation stands
abbrev pub doing : Standing → Option Callee → Machine → Waiting
doing z callee m = record {
  standing = z;
  active = active_at z m.code.here.slots;
  pending = Doing callee;
}

abbrev pub act_begun : BlockCode → ActMark → Standing → Option Happening → Option Callee → Machine
    → Told
act_begun block k z before callee m =
    tell block (doing z callee m) (line_told k m ++ listed before) (act_taken k m)
