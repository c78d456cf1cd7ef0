-- What a bare run is among runs: one in which nobody is asked and nothing is traced. Hosts that request nothing but that blocks run.
use Rattle.std.specs.Prelude.{◌≡◌, ℕ, List, Option}
use Rattle.sem_control.specs.control.Turn as T
use Rattle.sem_control.specs.control.Turn.{Ask, Answer, Reply, Turn}
use Rattle.sem_run.specs.run.Machine.{BlockId, Machine}
use Rattle.sem_run.specs.run.Host as H
use Rattle.sem_run.specs.run.Host.{Host, Here, Store, BlockResult, Answering, answer, raise, print, leave, request}
use Rattle.sem_run.specs.run.Run as R
use Rattle.sem_run.specs.run.Run.{nobody}
use Rattle.sem_run.specs.run.Laws.{session}
use Rattle.pt_bare_runs.specs.Strides.{State, goes, is_stuck, stride, start, Outcome, Runs}
pub use Rattle.sem_run.specs.run.Shown.{ending_with, IsAlike, RunsTo}

module _ {N V W : Type 0} where
  -- an answer in the making requests only that blocks run, also behind what it requests
  abbrev pub RunsOnlyBlocks : {A : Type 0} → Answering N V W A → Type 0
  RunsOnlyBlocks (answer x st) = Unit {0}
  RunsOnlyBlocks (raise v st) = Unit {0}
  RunsOnlyBlocks (print t f) = RunsOnlyBlocks f
  RunsOnlyBlocks (leave what) = Unit {0}
  RunsOnlyBlocks (request (H.opens o) st f) = (x : BlockResult N V) (st1 : Store N W) → RunsOnlyBlocks (f x st1)
  RunsOnlyBlocks (request r st f) = ⊥

  abbrev pub OpensOnly : Host N V W → Type 0
  OpensOnly host = (a : Ask V) (h : Here V) (st : Store N W) → RunsOnlyBlocks (host.answers a h st)

module _ {S N V W : Type 0} (machine : Machine S V) (host : Host N V W) (n : ℕ) where
  -- where a bare run comes to an outcome, so does the run, and that is alike
  abbrev pub BareRunsAreRuns : BlockId → N → W → Type 0
  BareRunsAreRuns b x w = (o : Outcome V W) → Runs machine host n b x w o → RunsTo machine host n b x w o

  abbrev pub RunsAreAlike : BlockId → N → W → Type 0
  RunsAreAlike b x w =
      (o : Outcome V W) (p : R.Outcome (Unit {0}) N V W) → Runs machine host n b x w o → R.Runs machine host nobody n (session machine b x w tt) p → IsAlike p o

  abbrev pub HasOneOutcome : BlockId → N → W → Type 0
  HasOneOutcome b x w = (o p : Outcome V W) → Runs machine host n b x w o → Runs machine host n b x w p → o ≡ p

-- an ask to which no host's answer gives a value on
abbrev pub AsksPlainly : {V : Type 0} → Ask V → Type 0
AsksPlainly (T.seek (T.yielding v)) = ⊥
AsksPlainly (T.delegate i r) = ⊥
AsksPlainly a = Unit {0}

-- a turn that asks so, and leads to such states alone
abbrev pub TurnStays : {S V : Type 0} → (S → Type 0) → Turn S V → Type 0
TurnStays {V = V} Within (T.act m a k) = AsksPlainly a × ((r : Reply V (Answer V a)) → Within (k r))
TurnStays {V = V} Within (T.note v k) = (r : Reply V (Unit {0})) → Within (k r)
TurnStays Within (T.move c) = Within c
TurnStays Within (T.over e) = Unit {0}
TurnStays Within T.stuck = ⊥

-- a state of an activation of a block; those of a family
pub record Standing (S : Type 0) : Type 0 where
  pub block : BlockId
  pub state : S

pub data Among {P S : Type 0} (states : P → Standing S) : BlockId → S → Type 0 where
  among : (p : P) → Among states (states p).block (states p).state

-- states of a machine from which no value is given on and none of which is stuck
pub record GivesNothingOn {S V : Type 0} (machine : Machine S V) (Within : BlockId → S → Type 0) : Type 0 where
  pub starts : (b : BlockId) (iterator : Option V) → Within b (machine.start b iterator)
  pub turns : (b : BlockId) (c : S) → Within b c → TurnStays (Within b) (machine.turn b c)

module _ {S N V W : Type 0} (machine : Machine S V) (host : Host N V W) (n : ℕ) where
  -- the states to which strides lead
  pub data Reaches (s : State S N V W) : State S N V W → Type 0 where
    here : Reaches s s
    further : (t u : State S N V W) (ws : List R.Write) → Reaches s t → stride machine host n t ≡ goes ws u → Reaches s u

  abbrev pub NeverStuck : BlockId → N → W → Type 0
  NeverStuck b x w = (s : State S N V W) → Reaches (start machine host b x w) s → stride machine host n s ≡ is_stuck → ⊥
