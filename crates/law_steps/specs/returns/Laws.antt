-- What laws say of results that go to what waits.
use Rattle.std.specs.Prelude.{◌≡◌, ℕ, Bool, List, [], ◌∷◌, Option}
use Rattle.sem_control.specs.control.Turn.{Seek, Reply, got, End, gave}
use Rattle.sem_run.specs.run.Machine.{Machine}
use Rattle.sem_run.specs.run.Host as H
use Rattle.sem_run.specs.run.Host.{Host, Store, BlockResult, GeneratorResult, Answering, answer, Callee}
use Rattle.sem_run.specs.run.State.{OpenYield, Hearing, of_ask, of_hook, for_block, for_generator}
use Rattle.sem_run.specs.run.State.{Opener, telling, giving_on, hearing, closing, State, at, store}
use Rattle.sem_run.specs.run.Outcome.{Question}
use Rattle.sem_run.specs.run.Step.{reply_to}
use Rattle.sem_steps.specs.Steps.{Steps}
use Rattle.law_steps.specs.returns.Returns.{given, reply_of, seeking, closed, ended, kept, heard_out}

module _ {S N V W : Type 0} (machine : Machine S V) (host : Host N V W) (minds : Question V → Bool)
    (n : ℕ) where
  abbrev Go : State S N V W → State S N V W → Type 0
  Go s t = Steps machine host minds n s [] t

  -- a block's result is the reply to the call that waits, if it is open for nothing else
  abbrev pub ReturnsToCall : Type 0
  ReturnsToCall = (e : End V) (a : Seek V) (k : Reply V V → S) (b : Bool) (c : Option (Callee V))
      (f : BlockResult N V → Store N W → Answering N V W V) (o : Opener S N V W)
      (os : List (Opener S N V W)) (s : State S N V W)
      → ((r : BlockResult N V) (st : Store N W) → f r st ≡ given r.end st)
      → o.purpose ≡ for_block (of_ask (seeking a k b c) f) → s.openers ≡ o ∷ os
      → Go (at (closing e) s)
      (reply_to machine host (seeking a k b c) (reply_of e) [] (closed machine host o os s))

  -- a hook's function ends so
  abbrev pub answering_so : End V → Hearing S V → State S N V W → State S N V W
  answering_so e h s = at (hearing h (given e (store s))) s

  abbrev pub ReturnsToHook : Type 0
  ReturnsToHook = (e : End V) (h : Hearing S V)
      (f : BlockResult N V → Store N W → Answering N V W V) (o : Opener S N V W)
      (os : List (Opener S N V W)) (s : State S N V W)
      → ((r : BlockResult N V) (st : Store N W) → f r st ≡ given r.end st)
      → o.purpose ≡ for_block (of_hook h f) → s.openers ≡ o ∷ os
      → Go (at (closing e) s)
      (heard_out machine host e h (answering_so e h (closed machine host o os s)))

  -- a value that a generator gives on is the reply to the call by which it goes on
  abbrev pub GivesOnToCall : Type 0
  GivesOnToCall = (g : ℕ) (y : OpenYield S V) (v : V) (a : Seek V) (k : Reply V V → S) (b : Bool)
      (c : Option (Callee V)) (f : GeneratorResult V → Store N W → Answering N V W V)
      (o : Opener S N V W) (os : List (Opener S N V W)) (s : State S N V W)
      → ((st : Store N W) → f (H.gives_on v) st ≡ answer v st)
      → o.purpose ≡ for_generator g (of_ask (seeking a k b c) f) → s.openers ≡ o ∷ os
      → Go (at (telling [] (giving_on y v)) s)
      (reply_to machine host (seeking a k b c) (got v) [] (kept machine host g y o os s))

  -- the end of its block goes to what waits for it
  abbrev pub EndsToCall : Type 0
  EndsToCall = (g : ℕ) (v : V) (a : Seek V) (k : Reply V V → S) (b : Bool) (c : Option (Callee V))
      (f : GeneratorResult V → Store N W → Answering N V W V) (end : End V) (o : Opener S N V W)
      (os : List (Opener S N V W)) (s : State S N V W)
      → ((st : Store N W) → f (H.ends_by (gave v)) st ≡ given end st)
      → o.purpose ≡ for_generator g (of_ask (seeking a k b c) f) → s.openers ≡ o ∷ os
      → Go (at (closing (gave v)) s)
      (reply_to machine host (seeking a k b c) (reply_of end) [] (ended machine host g o os s))
