-- What the law says of what is told where nothing hooks in.
use Rattle.std.specs.Prelude.{ℕ, List, [], Bool}
use Rattle.sem_run.specs.run.Machine.{Machine}
use Rattle.sem_run.specs.run.Events.{Happening}
use Rattle.sem_run.specs.run.Host.{Host}
use Rattle.sem_run.specs.run.State.{Pending, State, telling, at}
use Rattle.sem_run.specs.run.Outcome.{Question}
use Rattle.sem_run.specs.run.Step.{proceed}
use Rattle.law_telling.specs.Quiet.{told_to, all_told}
use Rattle.sem_steps.specs.Steps.{Steps}
use Rattle.law_quiet_steps.specs.Quiet.{NothingHooksIn}

-- what is told writes lines of the log alone, and what waits goes on
abbrev pub TellsQuietly : {S N V W : Type 0} → Machine S V → Host N V W → (Question V → Bool) → ℕ
    → Type 0
TellsQuietly {S = S} {N = N} {V = V} {W = W} machine host minds n =
    (s : State S N V W) → NothingHooksIn minds s → (hs : List (Happening V)) (p : Pending S V)
    → Steps machine host minds n (at (telling hs p) s) (all_told machine host hs s)
    (proceed machine host p (at (telling [] p) (told_to machine host hs s)))
