-- What laws say of a raise of a hook.
use Rattle.std.specs.Prelude.{◌≡◌, [], ◌∷◌}
use Rattle.pt_heap.specs.declared.value.Value.{Value}
use Rattle.sem_control.specs.control.Turn.{left_by}
use Rattle.sem_run.specs.run.Machine.{Machine}
use Rattle.sem_run.specs.run.Events.{unwinds}
use Rattle.sem_run.specs.run.Host.{Host}
use Rattle.sem_run.specs.run.State as run
use Rattle.sem_run.specs.run.State.{State, telling, turning, closing, ending, at, in_state}
use Rattle.sem_run.specs.run.Hooks as hooks
use Rattle.pt_pendings.specs.declared.pending.Origin.{Origin}
use Rattle.pt_pendings.specs.declared.pending.Pending.{Pending}
use Rattle.pt_pendings.specs.declared.pending.Instead.{Instead}
use Rattle.pt_pendings.specs.declared.pending.Instead.TheVariants.{Lands, Unwinds, Closes}
use Rattle.pt_pendings.specs.Pendings.{instead_of}
use Rattle.pt_pendings.specs.Stands.{Standpoint, IsPending}

-- the run behind it
abbrev pub by_instead : {S N W : Type 0} → (lands : Origin → Value → S) → Instead → Value
    → State S N Value W → State S N Value W
by_instead lands (Lands from) v s = at turning (in_state (lands from v) s)
by_instead lands Unwinds v s = at (telling (unwinds v ∷ []) (ending (left_by v))) s
by_instead lands Closes v s = at (closing (left_by v)) s

-- a raise of a hook does to a run what is said of what waits in the machine
abbrev pub RaisesTakePlace : {S N W : Type 0} → Machine S Value → Host N Value W → Type 0
RaisesTakePlace {S = S} {N = N} {W = W} machine host =
    (here : Standpoint S) (p : Pending) (q : run.Pending S Value) → IsPending machine here p q
    → (v : Value) (s : State S N Value W)
    → hooks.instead_of machine host q v s ≡ by_instead here.lands (instead_of p here.asked) v s
