-- Alike turns lead to successors that are alike, over any host.
use Rattle.std.proofs.Common.{Bool, Option, Some, None}
use Rattle.sem_control.specs.control.Turn as T
use Rattle.sem_control.specs.control.Turn.{Ask, Answer, Reply, got, raised, Turn}
use Rattle.sem_run.specs.run.Machine.{BlockId, Machine}
use Rattle.sem_run.specs.run.Host as H
use Rattle.sem_run.specs.run.Host.{Host, Here, Store, Answering, Finding, Callee}
use Rattle.sem_run.specs.run.State.{OpenAsk}
use Rattle.sem_run.specs.run.Follows.{Nears}
use Rattle.sem_run.specs.transitions.Transitions.{by_answer, by_finding, of_ask, transition}
use Rattle.sem_run.specs.transitions.Successors.{by_reply, successor}
use Rattle.pt_bare_code.specs.Alike.{Alike, alike_to, alike_arises, alike_yield, alike_print, alike_request, alike_note, both_outside, both_end, neither}
use Rattle.pt_bare_code.specs.Turns.{AlikeTurns, alike_acts, alike_notes, alike_moves, alike_ends, alike_stuck}

abbrev ask_of : {X V : Type 0} → (a : Ask V) → (Reply V (Answer V a) → X) → Bool → Option (Callee V) → OpenAsk X V
ask_of a k i c = record { ask = a; next = k; is_act = i; callee = c }

module _ {S R N V W : Type 0} (Q : S → R → Type 0) where
  alike_replies : {A : Type 0} (k : Reply V A → S) (k' : Reply V A → R) → ((r : Reply V A) → Q (k r) (k' r)) → (r : Reply V A) (st : Store N W)
      → Alike Q (by_reply k r st) (by_reply k' r st)
  alike_replies k k' h (got x) st = alike_to _ _ st (h (got x))
  alike_replies k k' h (raised v) st = alike_arises v _ _ st (h (raised v))

  module _ (i : Bool) (c : Option (Callee V)) where
    alike_findings : (a : Ask V) (k : Reply V (Answer V a) → S) (k' : Reply V (Answer V a) → R) → ((r : Reply V (Answer V a)) → Q (k r) (k' r))
        → (v : Finding V a) (st : Store N W)
        → Alike Q (successor (by_finding a k (ask_of a k i c) v st)) (successor (by_finding a k' (ask_of a k' i c) v st))
    alike_findings (T.next_of it) k k' h (H.an_item v) st = alike_to _ _ st (h _)
    alike_findings (T.next_of it) k k' h (H.no_item e) st = alike_to _ _ st (h _)
    alike_findings (T.delegate it r) k k' h (H.passes_on v) st = alike_yield v _ _ st (λ p. h _)
    alike_findings (T.delegate it r) k k' h (H.ends_with v) st = alike_to _ _ st (h _)
    alike_findings (T.seek a) k k' h v st = alike_to _ _ st (h _)
    alike_findings (T.deed a) k k' h v st = alike_to _ _ st (h _)
    alike_findings (T.leave a) k k' h v st = alike_to _ _ st (h _)
    alike_findings (T.throw a) k k' h v st = alike_to _ _ st (h _)
    alike_findings (T.test a) k k' h v st = alike_to _ _ st (h _)
    alike_findings (T.iter_of a) k k' h v st = alike_to _ _ st (h _)
    alike_findings (T.enter a) k k' h v st = alike_to _ _ st (h _)
    alike_findings (T.unpack a m t) k k' h v st = alike_to _ _ st (h _)

    module _ (a : Ask V) (k : Reply V (Answer V a) → S) (k' : Reply V (Answer V a) → R) (h : (r : Reply V (Answer V a)) → Q (k r) (k' r)) where
      alike_answers : (x : Answering N V W (Finding V a)) → Alike Q (successor (by_answer (ask_of a k i c) x)) (successor (by_answer (ask_of a k' i c) x))
      alike_answers (H.answer v st) = alike_findings a k k' h v st
      alike_answers (H.raise v st) = alike_arises v _ _ st (h (raised v))
      alike_answers (H.print t f) = alike_print t _ _ (alike_answers f)
      alike_answers (H.leave what) = both_outside what
      alike_answers (H.request r st f) = alike_request r st _ _ (λ x st1. alike_answers (f x st1))

module _ {S R N V W : Type 0} (host : Host N V W) (Q : S → R → Type 0) (i : Bool) (c : Option (Callee V)) (at : Here V) (st : Store N W) where
  by_host : (a : Ask V) (k : Reply V (Answer V a) → S) (k' : Reply V (Answer V a) → R) → ((r : Reply V (Answer V a)) → Q (k r) (k' r))
      → Alike Q (successor (by_answer (ask_of a k i c) (host.answers a at st))) (successor (by_answer (ask_of a k' i c) (host.answers a at st)))
  by_host a k k' h = alike_answers Q i c a k k' h (host.answers a at st)

  alike_asks : (a : Ask V) (k : Reply V (Answer V a) → S) (k' : Reply V (Answer V a) → R) → ((r : Reply V (Answer V a)) → Q (k r) (k' r))
      → Alike Q (successor (of_ask host a k (ask_of a k i c) at st)) (successor (of_ask host a k' (ask_of a k' i c) at st))
  alike_asks (T.seek (T.yielding v)) k k' h = alike_yield v _ _ st (λ r. h r)
  alike_asks (T.seek (T.const x)) k k' h = by_host (T.seek (T.const x)) k k' h
  alike_asks (T.seek (T.load x)) k k' h = by_host (T.seek (T.load x)) k k' h
  alike_asks (T.seek (T.operate o vs)) k k' h = by_host (T.seek (T.operate o vs)) k k' h
  alike_asks (T.seek (T.cell_of x)) k k' h = by_host (T.seek (T.cell_of x)) k k' h
  alike_asks (T.deed d) k k' h = by_host (T.deed d) k k' h
  alike_asks (T.leave l) k k' h = by_host (T.leave l) k k' h
  alike_asks (T.throw t) k k' h = by_host (T.throw t) k k' h
  alike_asks (T.test t) k k' h = by_host (T.test t) k k' h
  alike_asks (T.iter_of v) k k' h = by_host (T.iter_of v) k k' h
  alike_asks (T.next_of it) k k' h = by_host (T.next_of it) k k' h
  alike_asks (T.enter v) k k' h = by_host (T.enter v) k k' h
  alike_asks (T.unpack v m t) k k' h = by_host (T.unpack v m t) k k' h
  alike_asks (T.delegate it r) k k' h = by_host (T.delegate it r) k k' h

-- whatever is known where the ask is done
module _ {S R N V W : Type 0} (first : Machine S V) (second : Machine R V) (At : BlockId → S → R → Type 0) (host : Host N V W) where
  pub alike_successors : (b : BlockId) (x : Turn S V) (y : Turn R V) → AlikeTurns first second At b x y → (at : Here V) (st : Store N W)
      → Alike (Nears first second At b) (successor (transition host x at st)) (successor (transition host y at st))
  alike_successors b _ _ (alike_acts (Some m) a k k' h) at st = alike_asks host _ _ _ at st a k k' h
  alike_successors b _ _ (alike_acts None a k k' h) at st = alike_asks host _ _ _ at st a k k' h
  alike_successors b _ _ (alike_notes a k k' h) at st = alike_note a k k' h
  alike_successors b _ _ (alike_moves c t h) at st = alike_to c t st h
  alike_successors b _ _ (alike_ends e) at st = both_end e
  alike_successors b _ _ alike_stuck at st = neither
