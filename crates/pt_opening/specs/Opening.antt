-- A block opens above the newest activation, which waits for it (Language Reference 4.1, 6.3.4).
use Rattle.std.specs.Prelude.{List, ◌∷◌, Bool, false, Option, None}
use Rattle.pt_base.specs.declared.numbers.BlockId.{BlockId}
use Rattle.pt_heap.specs.declared.value.Value.{Value}
use Rattle.pt_bind.specs.declared.arguments.Locals.{Locals}
use Rattle.pt_frames.specs.Activations.{next_activation, with_next_number}
use Rattle.pt_pendings.specs.declared.pending.Pending.TheVariants.{Starting}
use Rattle.pt_hearing.specs.pt_turning.pt_telling.pt_transfers.pt_machine_state.Changes.{slots_at_start, with_slots}
use Rattle.pt_hearing.specs.pt_purposes.declared.opener.Opener.{Opener}
use Rattle.pt_hearing.specs.pt_purposes.declared.opener.Course.{Course}
use Rattle.pt_hearing.specs.pt_purposes.declared.standing.Standing.TheVariants.{AtPlace}
use Rattle.pt_hearing.specs.pt_turning.pt_telling.pt_run_state.declared.machine.Machine.{Machine}
use Rattle.pt_hearing.specs.pt_turning.pt_telling.pt_run_state.declared.machine.Waiting.{Waiting}
use Rattle.pt_hearing.specs.pt_turning.pt_telling.pt_run_state.Stands.{newest}
use Rattle.pt_opening.specs.declared.opening.Wanted.{Wanted}

-- the newest activation waits for a block's
abbrev pub opener_of : Wanted → Machine → Opener
opener_of w m = record {
  running = newest m;
  purpose = w.purpose;
  why = w.why;
  context = w.context;
  generator = None;
}

abbrev pub course_at_start : Course
course_at_start = record { act = record { 0 = 0 }; behind_jump = false; generator = false }

abbrev pub opened : (iterates : Bool) → BlockId → (hidden : Bool) → Locals → Wanted → Machine
    → Machine
opened iterates b hidden ls w m = record m {
  code = record m.code {
    here = with_slots (slots_at_start iterates) (next_activation m.code.frames b hidden ls);
    frames = with_next_number m.code.frames;
  };
  course = course_at_start;
  openers = opener_of w m ∷ m.openers;
}

-- its beginning is told then, and it begins
abbrev pub beginning : Waiting
beginning = record { standing = AtPlace; active = None; pending = Starting }
