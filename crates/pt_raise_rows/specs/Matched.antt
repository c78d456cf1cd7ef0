-- Whether a handler takes an exception (Language Reference 8.4.1).
use Rattle.std.specs.Prelude.{Bool, true, codes, List, ◌∷◌, Option, Some, None, if◌then◌else◌}
use Rattle.std.specs.List.{list_all, list_any}
use Rattle.pt_heap.specs.declared.value.Value.{Value}
use Rattle.pt_heap.specs.declared.value.Value.TheVariants as value
use Rattle.pt_heap.specs.declared.object.Object.{Object}
use Rattle.pt_content.specs.pt_attrs.Look.{object_of}
use Rattle.pt_frames.specs.declared.slot.Slot.{Slot}
use Rattle.pt_frames.specs.declared.slot.Slot.TheVariants as slot
use Rattle.pt_moves.specs.sem_rows.pt_host.declared.places.TheConstants.{TYPE_ERROR}
use Rattle.pt_moves.specs.sem_rows.pt_host.Leaving.{error_at}
use Rattle.pt_moves.specs.sem_rows.pt_host.Raising.{handler_classes, is_exception_class, is_of_class}
use Rattle.pt_moves.specs.sem_rows.declared.heap_rows.progress.Progress.{Progress}
use Rattle.pt_moves.specs.sem_rows.declared.heap_rows.progress.Progress.TheVariants as progress

abbrev pub exception_in : Option Slot → Option Value
exception_in (Some (slot.Exc e)) = Some e
exception_in o = None

-- nothing is answered where one of the classes is none
abbrev pub found_by : List Object → (exception : Value) → List Value → Option Bool
found_by h e cs = if list_all (is_exception_class h) cs then Some (list_any (is_of_class h (error_at h e)) cs) else None

abbrev pub takes : List Object → (exception class : Value) → Option Bool
takes h e value.None = Some true
takes h e c = found_by h e (handler_classes c (object_of h c))

-- what is said where one of them is none
abbrev pub no_class : Progress
no_class = progress.FailsSaying TYPE_ERROR (codes "bad argument")
