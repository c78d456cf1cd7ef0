-- What comes of a turn where its ask is answered, over any machine and any host: all that a run does in the newest activation
-- between a turn and what is told of its reply (Language Reference 4.1, 6.2.9).
use Rattle.std.specs.Prelude.{ℕ, List, true, false, Option, Some, None}
use Rattle.pt_base.specs.declared.what.What.{What}
use Rattle.sem_control.specs.control.Turn as T
use Rattle.sem_control.specs.control.Turn.{Ask, Answer, Reply, got, raised, Note, End, Turn}
use Rattle.sem_run.specs.run.Host as H
use Rattle.sem_run.specs.run.Host.{Host, Here, Store, Answering, Finding, Request, Response}
use Rattle.sem_run.specs.run.State.{OpenAsk, OpenYield}
use Rattle.sem_run.specs.run.Step.{callee_of}

pub data Transition (S N V W : Type 0) : Type 0 where
  -- nothing is asked
  moves : S → Store N W → Transition S N V W
  -- a reply is there, which leads on; and the exception by which an iterator told its end
  replies : (q : OpenAsk S V) → Reply V (Answer V q.ask) → (stop : Option V) → Store N W → Transition S N V W
  -- a value is given on, and what comes back makes the reply
  gives_on : OpenYield S V → V → Store N W → Transition S N V W
  -- a text is printed first
  prints : (text : List ℕ) → Transition S N V W → Transition S N V W
  -- the run leaves the profile of the language
  leaves : What → Transition S N V W
  -- the run does something first, and it goes on with what that gives
  requests : (r : Request N V) → Store N W → (Response N V r → Store N W → Transition S N V W) → Transition S N V W
  -- a raise goes on that was held
  notes : Note V → (Reply V (Unit {0}) → S) → Transition S N V W
  -- the block ends
  ends : End V → Transition S N V W
  is_stuck : Transition S N V W

-- the same act, with another ask
abbrev pub with_ask : {S V : Type 0} → (a : Ask V) → (Reply V (Answer V a) → S) → OpenAsk S V → OpenAsk S V
with_ask a k q = record { ask = a; next = k; is_act = q.is_act; callee = q.callee }

module _ {S N V W : Type 0} where
  -- what a host found is a reply, or a value that is given on
  abbrev pub by_finding : (a : Ask V) → (Reply V (Answer V a) → S) → OpenAsk S V → Finding V a → Store N W → Transition S N V W
  by_finding (T.next_of i) k q (H.an_item v) st = replies (with_ask (T.next_of i) k q) (got (Some v)) None st
  by_finding (T.next_of i) k q (H.no_item e) st = replies (with_ask (T.next_of i) k q) (got None) e st
  by_finding (T.delegate i r) k q (H.passes_on v) st =
      gives_on (record { ask = with_ask (T.delegate i r) k q; reply = λ p. got (T.resumed p) }) v st
  by_finding (T.delegate i r) k q (H.ends_with v) st = replies (with_ask (T.delegate i r) k q) (got (T.returned v)) None st
  by_finding (T.seek a) k q v st = replies (with_ask (T.seek a) k q) (got v) None st
  by_finding (T.deed a) k q v st = replies (with_ask (T.deed a) k q) (got v) None st
  by_finding (T.leave a) k q v st = replies (with_ask (T.leave a) k q) (got v) None st
  by_finding (T.throw a) k q v st = replies (with_ask (T.throw a) k q) (got v) None st
  by_finding (T.test a) k q v st = replies (with_ask (T.test a) k q) (got v) None st
  by_finding (T.iter_of a) k q v st = replies (with_ask (T.iter_of a) k q) (got v) None st
  by_finding (T.enter a) k q v st = replies (with_ask (T.enter a) k q) (got v) None st
  by_finding (T.unpack a n s) k q v st = replies (with_ask (T.unpack a n s) k q) (got v) None st

  -- an answer in the making
  abbrev pub by_answer : (q : OpenAsk S V) → Answering N V W (Finding V q.ask) → Transition S N V W
  by_answer q (H.answer r st) = by_finding q.ask q.next q r st
  by_answer q (H.raise v st) = replies q (raised v) None st
  by_answer q (H.print t f) = prints t (by_answer q f)
  by_answer q (H.leave what) = leaves what
  by_answer q (H.request r st f) = requests r st (λ x st1. by_answer q (f x st1))

module _ {S N V W : Type 0} (host : Host N V W) where
  -- a `yield` the host isn't asked
  abbrev pub of_ask : (a : Ask V) → (Reply V (Answer V a) → S) → OpenAsk S V → Here V → Store N W → Transition S N V W
  of_ask (T.seek (T.yielding v)) k q h st =
      gives_on (record { ask = with_ask (T.seek (T.yielding v)) k q; reply = λ r. r }) v st
  of_ask a k q h st = by_answer (with_ask a k q) (host.answers a h st)

  abbrev pub of_open_ask : OpenAsk S V → Here V → Store N W → Transition S N V W
  of_open_ask q h st = of_ask q.ask q.next q h st

  -- with a mark it is an act
  abbrev pub transition : Turn S V → Here V → Store N W → Transition S N V W
  transition (T.act (Some m) a k) h st =
      of_open_ask (record { ask = a; next = k; is_act = true; callee = callee_of host a st.world }) h st
  transition (T.act None a k) h st = of_open_ask (record { ask = a; next = k; is_act = false; callee = None }) h st
  transition (T.note a k) h st = notes a k
  transition (T.move c) h st = moves c st
  transition (T.over e) h st = ends e
  transition T.stuck h st = is_stuck
