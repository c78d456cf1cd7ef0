-- A run under a bound on acts, with a debugger that is asked at events (Language Reference 4; bounded evaluation).
use Rattle.std.specs.Prelude.{◌≡◌, ℕ, List, [], ◌∷◌, ◌++◌, Bool, true, false, Option, Some, None}
use Rattle.sem_control.specs.control.Turn.{Mark}
use Rattle.sem_run.specs.run.Machine.{BlockId, Machine}
use Rattle.sem_run.specs.run.Events.{Event}
use Rattle.sem_run.specs.run.Host.{Host}
use Rattle.sem_run.specs.run.State.{Telling, State}
use Rattle.sem_run.specs.run.Views.{view}
use Rattle.sem_run.specs.run.Outcome.{Output, begins, prints, gives, logs, replies, View, Ending, Question, about, Advice, go, Step, goes}
use Rattle.sem_run.specs.run.Outcome.{consults, ends, is_stuck}
use Rattle.sem_run.specs.run.Hooks.{take_advice}
use Rattle.sem_run.specs.run.Step.{step}

-- what a debugger says: its reply for the log, if it has one, its advice, and what it is from then on
pub record DebuggerAnswer (D : Type 0) : Type 0 where
  pub text : Option (List ℕ)
  pub advice : Advice
  pub debugger : D

-- a debugger is any function of its own state, of a question and of what it sees
abbrev pub Debugger : (D N V W : Type 0) → Type 0
Debugger D N V W = Question V → View N V W → D → DebuggerAnswer D

-- a reply is one write
abbrev pub reply_of : {V : Type 0} → Option (List ℕ) → List (Output V)
reply_of (Some x) = replies x ∷ []
reply_of None = []

-- a debugger and the state of a run
pub record Session (D S N V W : Type 0) : Type 0 where
  pub debugger : D
  pub state : State S N V W

pub data Move (D S N V W : Type 0) : Type 0 where
  moves : List (Output V) → Session D S N V W → Move D S N V W
  stops : List (Output V) → D → Ending N V W → Move D S N V W
  halts : Move D S N V W

module _ {D S N V W : Type 0} (machine : Machine S V) (host : Host N V W) (ask : Debugger D N V W) where
  -- the debugger's advice is taken
  abbrev pub move_by_advice : (before : List (Output V)) → D → Step S N V W → Move D S N V W
  move_by_advice os d (goes ps s) = moves (os ++ ps) (record { debugger = d; state = s })
  move_by_advice os d (consults q t s) = halts
  move_by_advice os d (ends e) = stops os d e
  move_by_advice os d is_stuck = halts

  abbrev pub consult : DebuggerAnswer D → Telling S V → State S N V W → Move D S N V W
  consult d t s = move_by_advice (reply_of d.text) d.debugger (take_advice machine host d.advice t s)

  abbrev pub view_of : State S N V W → View N V W
  view_of s = record { frames = view host.first_line s; world = s.world }

  abbrev pub move_by : D → Step S N V W → Move D S N V W
  move_by d (goes os s) = moves os (record { debugger = d; state = s })
  move_by d (consults q t s) = consult (ask q (view_of s) d) t s
  move_by d (ends e) = stops [] d e
  move_by d is_stuck = halts

  -- a step with the debugger's answer, if it is asked
  abbrev pub move : (n : ℕ) → Session D S N V W → Move D S N V W
  move n x = move_by x.debugger (step machine host n x.state)

-- what comes of a run: all that it writes and tells, the units that it took, its ending, and the debugger then
pub record Outcome (D N V W : Type 0) : Type 0 where
  pub outputs : List (Output V)
  pub units : ℕ
  pub ending : Ending N V W
  pub debugger : D

abbrev pub outcome_behind : {D N V W : Type 0} → List (Output V) → Outcome D N V W → Outcome D N V W
outcome_behind os o = record o { outputs = os ++ o.outputs }

module _ {D S N V W : Type 0} (machine : Machine S V) (host : Host N V W) (ask : Debugger D N V W) (n : ℕ) where
  -- what comes behind a move, where so many units were taken before it
  pub data Comes : (units : ℕ) → Move D S N V W → Outcome D N V W → Type 0 where
    ends_so : (u : ℕ) (os : List (Output V)) (d : D) (e : Ending N V W) →
        Comes u (stops os d e) (record { outputs = os; units = u; ending = e; debugger = d })
    goes_on : (u : ℕ) (os : List (Output V)) (x : Session D S N V W) (o : Outcome D N V W) →
        Comes x.state.units (move machine host ask n x) o → Comes u (moves os x) (outcome_behind os o)

  -- a run that may take n units comes to an outcome
  abbrev pub Runs : Session D S N V W → Outcome D N V W → Type 0
  Runs x o = Comes x.state.units (move machine host ask n x) o

  -- from one session to another, with these outputs
  pub data Goes : Session D S N V W → List (Output V) → Session D S N V W → Type 0 where
    stays : (x : Session D S N V W) → Goes x [] x
    goes_further : (x y z : Session D S N V W) (os ps : List (Output V)) → move machine host ask n x ≡ moves os y → Goes y ps z →
        Goes x (os ++ ps) z

-- where what is written goes
pub data Sink : Type 0 where
  to_out : Sink
  to_log : Sink

pub record Write : Type 0 where
  pub sink : Sink
  pub text : List ℕ

abbrev pub write : Sink → List ℕ → Write
write k x = record { sink = k; text = x }

abbrev pub some : {X : Type 0} → Bool → X → List X → List X
some true x xs = x ∷ xs
some false x xs = xs

-- the writes of a run, those to out and those to the log in one order; the lines of events if they are wanted
abbrev pub writes : {V : Type 0} → (events : Bool) → List (Output V) → List Write
writes b [] = []
writes b (prints x ∷ os) = write to_out x ∷ writes b os
writes b (logs x ∷ os) = some b (write to_log x) (writes b os)
writes b (replies x ∷ os) = write to_log x ∷ writes b os
writes b (o ∷ os) = writes b os

-- all but the replies of a debugger
abbrev pub replies_apart : {V : Type 0} → List (Output V) → List (Output V)
replies_apart [] = []
replies_apart (replies x ∷ os) = replies_apart os
replies_apart (o ∷ os) = o ∷ replies_apart os

-- the events, in order
abbrev pub events : {V : Type 0} → List (Output V) → List (Event V)
events [] = []
events (gives e ∷ os) = e ∷ events os
events (o ∷ os) = events os

-- the acts
pub record Act : Type 0 where
  pub block : BlockId
  pub mark : Mark

abbrev pub acts : {V : Type 0} → List (Output V) → List Act
acts [] = []
acts (begins b m ∷ os) = record { block = b; mark = m } ∷ acts os
acts (o ∷ os) = acts os

-- what is printed
abbrev pub prints_of : {V : Type 0} → List (Output V) → List (List ℕ)
prints_of [] = []
prints_of (prints x ∷ os) = x ∷ prints_of os
prints_of (o ∷ os) = prints_of os

-- a debugger that says nothing, lets the run go on, and stays as it is
abbrev pub says_nothing : {D : Type 0} → D → DebuggerAnswer D
says_nothing d = record { text = None; advice = go; debugger = d }

abbrev pub nobody : {N V W : Type 0} → Debugger (Unit {0}) N V W
nobody q v d = says_nothing d

-- so does one at an event that it doesn't mind, whatever it would see
abbrev pub MindsOnly : {D N V W : Type 0} → (minds : D → Event V → Bool) → Debugger D N V W → Type 0
MindsOnly {D = D} {N = N} {V = V} {W = W} minds ask =
    (d : D) (e : Event V) → minds d e ≡ false → (v : View N V W) → ask (about e) v d ≡ says_nothing d
