-- What handlers and `finally` parts hold, and what becomes of a completion that was held (Language Reference 8.4).
use Rattle.std.specs.Prelude.{List, ◌∷◌, Option, Some, None}
use Rattle.pt_heap.specs.declared.value.Value.{Value}
use Rattle.pt_heap.specs.declared.completion.Completion.{Completion}
use Rattle.pt_heap.specs.declared.completion.Completion.TheVariants.{Raise}
use Rattle.pt_frames.specs.declared.slot.Slot.{Slot}
use Rattle.pt_frames.specs.declared.slot.Slot.TheVariants as slot
use Rattle.pt_moves.specs.sem_rows.declared.heap_rows.progress.Progress.{Progress}
use Rattle.pt_moves.specs.sem_rows.declared.heap_rows.progress.Progress.TheVariants as progress

abbrev pub exception_in : Option Slot → Option Value
exception_in (Some (slot.Exc e)) = Some e
exception_in o = None

abbrev pub one_exception : List Slot → Option Value
one_exception (slot.Exc e ∷ slots) = Some e
one_exception slots = None

abbrev pub completion_in : Option Slot → Option Completion
completion_in (Some (slot.Pending how)) = Some how
completion_in o = None

abbrev pub one_completion : List Slot → Option Completion
one_completion (slot.Pending how ∷ slots) = Some how
one_completion slots = None

-- a raise goes on by itself; all else leaves the place
abbrev pub let_go : Completion → Progress
let_go (Raise e) = progress.Reraises e
let_go how = progress.Leaves how
