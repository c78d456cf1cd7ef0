-- What laws say of what is told where nothing hooks in.
use Rattle.std.specs.Prelude.{◌≡◌, ℕ, List, []}
use Rattle.sem_run.specs.run.Machine.{Machine}
use Rattle.sem_run.specs.run.Events.{Happening}
use Rattle.sem_run.specs.run.Host.{Host}
use Rattle.sem_run.specs.run.State.{Pending, State, telling, at}
use Rattle.sem_run.specs.run.Step.{proceed}
use Rattle.sem_run.specs.run.Run.{Debugger, Session, Goes, prints_of}
use Rattle.law_telling.specs.Quiet.{IsQuiet, told_to, all_told}

abbrev pub with_debugger : {D S N V W : Type 0} → D → State S N V W → Session D S N V W
with_debugger d s = record { debugger = d; state = s }

-- a run tells it, and comes to what waits
abbrev pub ReachesWhatWaits : {D S N V W : Type 0} → Machine S V → Host N V W → Debugger D N V W
    → (n : ℕ) → D → State S N V W → Type 0
ReachesWhatWaits {S = S} {V = V} machine host ask n d s =
    IsQuiet ask d s → (hs : List (Happening V)) (p : Pending S V)
    → Goes machine host ask n (with_debugger d (at (telling hs p) s)) (all_told machine host hs s)
    (with_debugger d (proceed machine host p (at (telling [] p) (told_to machine host hs s))))

-- nothing is printed
abbrev pub PrintsNothing : {S N V W : Type 0} → Machine S V → Host N V W → State S N V W → Type 0
PrintsNothing {V = V} machine host s =
    (hs : List (Happening V)) → prints_of (all_told machine host hs s) ≡ []
