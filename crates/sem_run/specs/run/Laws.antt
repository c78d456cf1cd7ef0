-- What laws say of runs.
use Rattle.std.specs.Prelude.{◌≡◌, ℕ, ◌≤◌, ◌⊎◌, ◌↔◌, List, [], ◌∷◌, ◌++◌, Bool, true, false, Some}
use Rattle.sem_control.specs.control.Turn as T
use Rattle.sem_run.specs.run.Machine.{BlockId, Machine}
use Rattle.sem_run.specs.run.Rows.{put_at}
use Rattle.sem_run.specs.run.Host.{Host, How, by_close, GeneratorResult, generator_exit, Made, made, beyond}
use Rattle.sem_run.specs.run.State.{Activation, OpenYield, giving_on, Rest, Opener, for_generator, Generator, suspended, telling, State}
use Rattle.sem_run.specs.run.State.{Telling, turning, asking, at, is_full, hook_runs, start}
use Rattle.sem_run.specs.run.Events.{Event}
use Rattle.sem_run.specs.run.Outcome.{Output, spent, Question, about, View, go, Step, goes, consults, ends, is_stuck}
use Rattle.sem_run.specs.run.Views.{here_of}
use Rattle.sem_run.specs.run.Requests.{resume_by}
use Rattle.sem_run.specs.run.Step.{step}
use Rattle.sem_run.specs.run.Run.{Debugger, Session, Move, moves, halts, move, Outcome, outcome_behind, Runs, Goes, events}
use Rattle.sem_run.specs.run.Run.{replies_apart, nobody, MindsOnly}

module _ {D S N V W : Type 0} (machine : Machine S V) (host : Host N V W) (ask : Debugger D N V W) where
  abbrev pub HasOneOutcome : (n : ℕ) → Session D S N V W → Type 0
  HasOneOutcome n x = (o p : Outcome D N V W) → Runs machine host ask n x o → Runs machine host ask n x p → o ≡ p

  -- the run of a bound gives these outputs first, if not others behind them
  pub data Begins (n : ℕ) : Move D S N V W → List (Output V) → Type 0 where
    so_far : (m : Move D S N V W) → Begins n m []
    further : (os ps : List (Output V)) (x : Session D S N V W) → Begins n (move machine host ask n x) ps →
        Begins n (moves os x) (os ++ ps)

  -- under a greater bound a run comes to the same outcome, unless it was spent; then it begins with the same outputs
  abbrev pub GoesOn : (n m : ℕ) → Session D S N V W → Type 0
  GoesOn n m x = (o : Outcome D N V W) → n ≤ m → Runs machine host ask n x o →
      Runs machine host ask m x o ⊎ ((o.ending ≡ spent) × Begins m (move machine host ask m x) o.outputs)

  -- a run that has gone so far has the outcome that comes from there, behind what came before
  abbrev pub HasParts : (n : ℕ) → Session D S N V W → Type 0
  HasParts n x = (os : List (Output V)) (y : Session D S N V W) (o : Outcome D N V W) → Goes machine host ask n x os y →
      Runs machine host ask n y o → Runs machine host ask n x (outcome_behind os o)

  -- what an outcome gives begins with what its run gives first
  abbrev pub OutcomesBeginSo : (n : ℕ) → Session D S N V W → Type 0
  OutcomesBeginSo n x =
      (o : Outcome D N V W) (os : List (Output V)) → Runs machine host ask n x o → Begins n (move machine host ask n x) os →
      (rest : List (Output V)) × (o.outputs ≡ os ++ rest)

  -- a run never halts unfinished: each state that it comes to has a next step or an ending
  abbrev pub NeverHalts : (n : ℕ) → Session D S N V W → Type 0
  NeverHalts n x =
      (os : List (Output V)) (y : Session D S N V W) → Goes machine host ask n x os y → move machine host ask n y ≡ halts → ⊥

  -- so it is where no state that it comes to with the machine's turn is stuck
  abbrev pub IsStuckAt : State S N V W → Type 0
  IsStuckAt s = (s.phase ≡ turning) × (machine.turn s.here.frame.block s.here.state ≡ T.stuck)

  abbrev pub NeverStuck : (n : ℕ) → Session D S N V W → Type 0
  NeverStuck n x = (os : List (Output V)) (y : Session D S N V W) → Goes machine host ask n x os y → IsStuckAt y.state → ⊥

  -- at an event that the debugger doesn't mind the run goes on, and no view is needed
  abbrev pub PassesUnminded : (minds : D → Event V → Bool) → (n : ℕ) → Session D S N V W → Type 0
  PassesUnminded minds n x =
      MindsOnly minds ask → (e : Event V) (t : Telling S V) (s : State S N V W) → step machine host n x.state ≡ consults (about e) t s →
      minds x.debugger e ≡ false → move machine host ask n x ≡ moves [] (record { debugger = x.debugger; state = at (asking t) s })

abbrev pub outputs_of : {S N V W : Type 0} → Step S N V W → List (Output V)
outputs_of (goes os s) = os
outputs_of (consults q t s) = []
outputs_of (ends e) = []
outputs_of is_stuck = []

-- where the newest block is hidden, and where a hook runs, no step gives an event
abbrev pub GivesNothing : {S N V W : Type 0} → Machine S V → Host N V W → (n : ℕ) → State S N V W → Type 0
GivesNothing machine host n s = events (outputs_of (step machine host n s)) ≡ []

abbrev pub HidesBlocks : {S N V W : Type 0} → Machine S V → Host N V W → (n : ℕ) → State S N V W → Type 0
HidesBlocks machine host n s = s.here.frame.block.hidden ≡ true → GivesNothing machine host n s

abbrev pub HidesHooks : {S N V W : Type 0} → Machine S V → Host N V W → (n : ℕ) → State S N V W → Type 0
HidesHooks machine host n s = hook_runs s.openers ≡ true → GivesNothing machine host n s

-- a value that is given on closes the newest activation into its generator as it is, with its names, its line and its trace
-- function
abbrev pub generators_after : {S N V W : Type 0} → Step S N V W → List (Generator S N V)
generators_after (goes os s) = s.generators
generators_after x = []

abbrev pub SuspendsAsItIs : {S N V W : Type 0} → Machine S V → Host N V W → (n : ℕ) → State S N V W → Type 0
SuspendsAsItIs {S = S} {N = N} {V = V} {W = W} machine host n s =
    (a : Activation S N V) (g : ℕ) (r : Rest S N V W (GeneratorResult V)) (os : List (Opener S N V W)) (y : OpenYield S V) (v : V) →
    s.phase ≡ telling [] (giving_on y v) → s.openers ≡ record { activation = a; purpose = for_generator g r } ∷ os →
    generators_after (step machine host n s) ≡ put_at g (suspended s.here y) s.generators

-- however a generator goes on, its activation opens as it was; to be closed it is thrown an exception, which has to be made
abbrev pub IsMade : {V W : Type 0} → Made V W → Type 0
IsMade (made v w) = Unit {0}
IsMade (beyond what) = ⊥

abbrev pub CanGoOn : {S N V W : Type 0} → Machine S V → Host N V W → State S N V W → How V → Type 0
CanGoOn machine host s by_close = IsMade (host.makes generator_exit (here_of machine s) s.world)
CanGoOn machine host s h = Unit {0}

abbrev pub ResumesAsItWas : {S N V W : Type 0} → Machine S V → Host N V W → State S N V W → Type 0
ResumesAsItWas {S = S} {N = N} {V = V} {W = W} machine host s =
    (a : Activation S N V) (y : OpenYield S V) (h : How V) (g : ℕ) (r : Rest S N V W (GeneratorResult V)) →
    is_full s ≡ false → CanGoOn machine host s h → (resume_by machine host (Some (suspended a y)) h g r s).here ≡ a

-- a debugger that is one of these lets each run go on, whatever it sees and says, and is one of them from then on
abbrev pub OnlyLooks : {D N V W P : Type 0} → (debuggers : P → D) → Debugger D N V W → Type 0
OnlyLooks {D = D} {N = N} {V = V} {W = W} {P = P} debuggers ask =
    (p : P) (q : Question V) (v : View N V W) →
    ((ask q v (debuggers p)).advice ≡ go) × ((r : P) × ((ask q v (debuggers p)).debugger ≡ debuggers r))

-- the outcome without a debugger and what it said
abbrev pub alone : {D N V W : Type 0} → Outcome D N V W → Outcome (Unit {0}) N V W
alone o = record { outputs = replies_apart o.outputs; units = o.units; ending = o.ending; debugger = tt }

abbrev pub without_debugger : {D S N V W : Type 0} → Session D S N V W → Session (Unit {0}) S N V W
without_debugger x = record { debugger = tt; state = x.state }

abbrev pub IsAsAlone : {D S N V W P : Type 0} → Machine S V → Host N V W → Debugger D N V W → (debuggers : P → D) → (n : ℕ) →
    Session D S N V W → Type 0
IsAsAlone {D = D} {N = N} {V = V} {W = W} {P = P} machine host ask debuggers n x =
    OnlyLooks debuggers ask → (p : P) → x.debugger ≡ debuggers p →
    (o : Outcome D N V W) → Runs machine host ask n x o → Runs machine host nobody n (without_debugger x) (alone o)

-- a run from the start of a module
abbrev pub session : {D S N V W : Type 0} → Machine S V → BlockId → N → W → D → Session D S N V W
session machine b names w d = record { debugger = d; state = start machine b names w }

-- machines that follow each other have the same runs
abbrev pub HaveTheSameRuns : {D S R N V W : Type 0} → Machine S V → Machine R V → Host N V W → Debugger D N V W → (n : ℕ) →
    BlockId → N → W → D → Type 0
HaveTheSameRuns {D = D} {N = N} {V = V} {W = W} first second host ask n b names w d =
    (o : Outcome D N V W) →
    Runs first host ask n (session first b names w d) o ↔ Runs second host ask n (session second b names w d) o

-- they begin alike too, whether or not they come to an outcome
abbrev pub BeginAlike : {D S R N V W : Type 0} → Machine S V → Machine R V → Host N V W → Debugger D N V W → (n : ℕ) → BlockId →
    N → W → D → Type 0
BeginAlike {V = V} first second host ask n b names w d =
    (os : List (Output V)) →
    Begins first host ask n (move first host ask n (session first b names w d)) os
    ↔ Begins second host ask n (move second host ask n (session second b names w d)) os
