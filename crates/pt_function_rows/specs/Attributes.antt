-- What becomes of attributes that are set and deleted (Language Reference 7.2, 7.5).
use Rattle.std.specs.Prelude.{◌≡◌, Bool, List, Result, Ok, Err, if◌then◌else◌}
use Rattle.pt_base.specs.declared.failure.Failure.{Failure}
use Rattle.pt_base.specs.declared.failure.Failure.TheVariants.{Memory, Refused}
use Rattle.pt_base.specs.declared.what.What.TheVariants.{Feature}
use Rattle.pt_tree.specs.Syntax.{Name}
use Rattle.pt_heap.specs.declared.value.Value.{Value}
use Rattle.pt_heap.specs.declared.object.Object.{Object}
use Rattle.pt_content.specs.Classes.{class_name}
use Rattle.pt_content.specs.pt_attrs.declared.look.NoAttr.{NoAttr}
use Rattle.pt_code.specs.View.{Ins}
use Rattle.sem_code.specs.slots.Slots.{Slots}
use Rattle.pt_moves.specs.sem_rows.pt_host.World.{Stores, with_objects}
use Rattle.pt_moves.specs.sem_rows.pt_host.Attributes.{delete_attribute, set_attribute}
use Rattle.pt_moves.specs.sem_rows.pt_host.Texts.{missing_text}
use Rattle.pt_moves.specs.sem_rows.pt_host.declared.places.TheConstants.{ATTRIBUTE_ERROR}
use Rattle.pt_moves.specs.sem_rows.declared.heap_rows.progress.Progress.{Progress}
use Rattle.pt_moves.specs.sem_rows.declared.heap_rows.progress.Progress.TheVariants as progress
use Rattle.pt_moves.specs.sem_rows.heap_rows.Leads.{behind, by_tree}
use Rattle.pt_moves.specs.sem_rows.heap_rows.RowsIn.{Standpoint}
use Rattle.pt_moves.specs.sem_rows.heap_rows.Told.{told}

-- a value has no attribute of this name
abbrev pub missing_attribute : List Object → Value → Name → Progress
missing_attribute heap v x = progress.FailsSaying ATTRIBUTE_ERROR (missing_text (class_name heap v) x)

-- what a change of the names of a value comes to. One that means something by itself there can't be changed yet
abbrev pub ComesTo : (is_fixed : Bool) → Name → Value → (grown : List Object) → Result (Unit {0}) (Failure NoAttr) → Progress → Type 0
ComesTo is_fixed x a grown (Ok u) p = p ≡ (if is_fixed then progress.Outside Feature else progress.Next)
ComesTo is_fixed x a grown (Err (Refused e)) p = p ≡ missing_attribute grown a x
ComesTo is_fixed x a grown (Err Memory) p = ⊥

-- what code did with the heap is what the host's answer leads to, whatever slots lie there
unfoldable pub Sets : Name → (to value : Value) → (heap : List Object) → Progress → (grown : List Object) → Type 0
Sets x a v heap p grown =
    (s : Standpoint) (i : Ins) (ss : Slots Value) (st : Stores)
    → told s.program s.code i s.here p ss (with_objects grown st)
    ≡ by_tree s.code i (behind s.code i ss) ss (set_attribute x a v s.here (with_objects heap st))

unfoldable pub Deletes : Name → (from : Value) → (heap : List Object) → Progress → (grown : List Object) → Type 0
Deletes x a heap p grown =
    (s : Standpoint) (i : Ins) (ss : Slots Value) (st : Stores)
    → told s.program s.code i s.here p ss (with_objects grown st)
    ≡ by_tree s.code i (behind s.code i ss) ss (delete_attribute x a s.here (with_objects heap st))
