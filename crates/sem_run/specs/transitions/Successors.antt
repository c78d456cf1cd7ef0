-- Where a transition leads: the next state and what is stored then, with what has to come before.
use Rattle.std.specs.Prelude.{ℕ, List}
use Rattle.pt_base.specs.declared.what.What.{What}
use Rattle.sem_control.specs.control.Turn.{Reply, got, raised, Note, End}
use Rattle.sem_run.specs.run.Host.{Store, Request, Response}
use Rattle.sem_run.specs.transitions.Transitions as T
use Rattle.sem_run.specs.transitions.Transitions.{Transition}

pub data Successor (S N V W : Type 0) : Type 0 where
  to : S → Store N W → Successor S N V W
  -- an exception arises, which leads to this state
  arises : V → (landing : S) → Store N W → Successor S N V W
  -- a value is given on, and what comes back leads on
  behind_yield : V → (Reply V V → S) → Store N W → Successor S N V W
  behind_print : (text : List ℕ) → Successor S N V W → Successor S N V W
  behind_request : (r : Request N V) → Store N W → (Response N V r → Store N W → Successor S N V W) → Successor S N V W
  behind_note : Note V → (Reply V (Unit {0}) → S) → Successor S N V W
  outside : What → Successor S N V W
  end : End V → Successor S N V W
  none : Successor S N V W

module _ {S N V W : Type 0} where
  abbrev pub by_reply : {A : Type 0} → (Reply V A → S) → Reply V A → Store N W → Successor S N V W
  by_reply k (got x) st = to (k (got x)) st
  by_reply k (raised v) st = arises v (k (raised v)) st

  abbrev pub successor : Transition S N V W → Successor S N V W
  successor (T.moves c st) = to c st
  successor (T.replies q r stop st) = by_reply q.next r st
  successor (T.gives_on y v st) = behind_yield v (λ p. y.ask.next (y.reply p)) st
  successor (T.prints t x) = behind_print t (successor x)
  successor (T.leaves what) = outside what
  successor (T.requests r st k) = behind_request r st (λ x st1. successor (k x st1))
  successor (T.notes a k) = behind_note a k
  successor (T.ends e) = end e
  successor T.is_stuck = none
