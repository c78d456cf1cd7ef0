-- When code does with what is raised what the host does with it (Language Reference 7.8).
use Rattle.std.specs.Prelude.{◌≡◌, List, Option, Some, None, codes}
use Rattle.pt_base.specs.declared.numbers.ObjId.{ObjId}
use Rattle.pt_heap.specs.declared.value.Value.{Value}
use Rattle.pt_heap.specs.declared.object.Object.{Object}
use Rattle.pt_code.specs.View.{Ins}
use Rattle.sem_control.specs.control.Turn as T
use Rattle.sem_code.specs.slots.CodeObject.{CodeObject}
use Rattle.sem_code.specs.slots.Slots.{Slots}
use Rattle.sem_run.specs.run.Host.{Here, made, beyond}
use Rattle.pt_moves.specs.sem_rows.pt_host.declared.places.TheConstants.{TYPE_ERROR}
use Rattle.pt_moves.specs.sem_rows.pt_host.Raising.{Standing as HostStanding, raise_with_cause, throws}
use Rattle.pt_moves.specs.sem_rows.pt_host.Trees.{Tree}
use Rattle.pt_moves.specs.sem_rows.pt_host.World.{Program, Stores, with_objects}
use Rattle.pt_moves.specs.sem_rows.declared.heap_rows.progress.Progress.{Progress}
use Rattle.pt_moves.specs.sem_rows.declared.heap_rows.progress.Progress.TheVariants as progress
use Rattle.pt_moves.specs.sem_rows.heap_rows.Leads.{by_tree, giving}
use Rattle.pt_moves.specs.sem_rows.heap_rows.Told.{told}
use Rattle.pt_raise_rows.specs.declared.raising.Standing.{Standing}
use Rattle.pt_raise_rows.specs.declared.raising.Standing.TheVariants as standing

abbrev pub neither_raised : Progress
neither_raised = progress.FailsSaying TYPE_ERROR (codes "exceptions must derive from BaseException")

-- what a value stands for, and the heap then
abbrev pub IsStanding : HostStanding → Standing → List Object → Type 0
IsStanding (made (Some id) k) s h = (s ≡ standing.Exception id) × (h ≡ k)
IsStanding (made None k) s h = (s ≡ standing.Neither) × (h ≡ k)
IsStanding (beyond what) s h = s ≡ standing.Outside what

-- what was done with the heap is what an answer leads to that only raises
unfoldable pub Throws : (Here Value → Stores → Tree Value) → (old : List Object) → Progress → (new : List Object) → Type 0
Throws answer old p new =
    (program : Program) (code : CodeObject Value) (i : Ins) (ss : Slots Value) (h : Here Value) (st : Stores)
    → told program code i h p ss (with_objects new st) ≡ by_tree code i (giving code i ss) ss (answer h (with_objects old st))

-- an exception is raised, perhaps from a cause; and a value
unfoldable pub CausedBy : ObjId → (cause : Option Value) → (old : List Object) → Progress → (new : List Object) → Type 0
CausedBy id c old p new = Throws (λ h st. raise_with_cause id c old h st) old p new

unfoldable pub RaisedBy : Value → (cause : Option Value) → (old : List Object) → Progress → (new : List Object) → Type 0
RaisedBy v c old p new = Throws (λ h st. throws (T.raising v c) h st) old p new
