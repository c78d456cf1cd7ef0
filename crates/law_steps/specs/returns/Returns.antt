-- What the result of a block, or of a generator, does to what waits for it (Language Reference 4.1,
-- 6.2.9, 6.3.4).
use Rattle.std.specs.Prelude.{ℕ, Bool, List, Option}
use Rattle.sem_control.specs.control.Turn as T
use Rattle.sem_control.specs.control.Turn.{Seek, Reply, got, raised, End, gave, left_by}
use Rattle.sem_run.specs.run.Machine.{Machine}
use Rattle.sem_run.specs.run.Host.{Host, Store, Answering, answer, raise, Callee}
use Rattle.sem_run.specs.run.State.{OpenAsk, OpenYield, Hearing, Opener, suspended, finished, State}
use Rattle.sem_run.specs.run.Requests.{with_generator}
use Rattle.sem_run.specs.run.Hooks.{raise_of_hook, take_hook_answer}
use Rattle.sem_run.specs.run.Step.{return_to, close_frame}

-- the end of a block as what a call gives
abbrev pub given : {N V W : Type 0} → End V → Store N W → Answering N V W V
given (gave v) st = answer v st
given (left_by v) st = raise v st

abbrev pub reply_of : {V : Type 0} → End V → Reply V V
reply_of (gave v) = got v
reply_of (left_by v) = raised v

-- an ask for a value
abbrev pub seeking : {S V : Type 0} → (a : Seek V) → (Reply V V → S) → (is_act : Bool)
    → Option (Callee V) → OpenAsk S V
seeking a k b c = record { ask = T.seek a; next = k; is_act = b; callee = c }

module _ {S N V W : Type 0} (machine : Machine S V) (host : Host N V W) where
  -- the newest activation has closed, and the one that waited goes on; a generator is finished by the
  -- end of its block, and kept as it is where it gives a value on
  abbrev pub closed : Opener S N V W → List (Opener S N V W) → State S N V W → State S N V W
  closed o os s = return_to machine host o os (close_frame machine host s)

  abbrev pub ended : (generator : ℕ) → Opener S N V W → List (Opener S N V W) → State S N V W
      → State S N V W
  ended g o os s = return_to machine host o os (close_frame machine host (with_generator g finished s))

  abbrev pub kept : (generator : ℕ) → OpenYield S V → Opener S N V W → List (Opener S N V W)
      → State S N V W → State S N V W
  kept g y o os s = return_to machine host o os (with_generator g (suspended s.here y) s)

  -- a hook's function has ended
  abbrev pub heard_out : End V → Hearing S V → State S N V W → State S N V W
  heard_out (gave v) h s = take_hook_answer machine host h.hook v h s
  heard_out (left_by v) h s = raise_of_hook machine host h v s
