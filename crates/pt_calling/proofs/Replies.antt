-- What an answer in the making is of which it is known that an exception arises.
use Rattle.std.proofs.Common.{◌≡◌, ◌∙◌, Bool, Option, Some, None, sym, ap, subst}
use Rattle.sem_control.specs.control.Turn as T
use Rattle.sem_control.specs.control.Turn.{Ask, Answer, Reply, raised}
use Rattle.sem_run.specs.run.Host as H
use Rattle.sem_run.specs.run.Host.{Store, Answering, Finding, Callee}
use Rattle.sem_run.specs.run.State.{OpenAsk}
use Rattle.sem_run.specs.transitions.Transitions.{by_answer}
use Rattle.sem_run.specs.transitions.Successors.{Successor, to, arises, outside, successor}
use Rattle.law_leads.specs.Leads.{AnswersSo}

module _ {C V : Type 0} where
  abbrev ask_of : (a : Ask V) → (Reply V (Answer V a) → C) → Bool → Option (Callee V) → OpenAsk C V
  ask_of a k b c = record { ask = a; next = k; is_act = b; callee = c }

module _ {C N V W : Type 0} where
  -- the parts of where something leads
  abbrev state_in : C → Successor C N V W → C
  state_in c (to d st) = d
  state_in c (arises v d st) = d
  state_in c l = c

  abbrev exception_in : V → Successor C N V W → V
  exception_in v (arises u d st) = u
  exception_in v l = v

  -- a value that is found doesn't arise
  abbrev IsValue : Successor C N V W → Type 0
  IsValue (arises v d st) = ⊥
  IsValue l = Unit {0}

  is_value : (a : Ask V) (k : Reply V (Answer V a) → C) (b : Bool) (c : Option (Callee V))
      (x : Finding V a) (st : Store N W)
      → IsValue (successor (by_answer (ask_of a k b c) (H.answer x st)))
  is_value (T.next_of i) k b c (H.an_item v) st = tt
  is_value (T.next_of i) k b c (H.no_item e) st = tt
  is_value (T.delegate i r) k b c (H.passes_on v) st = tt
  is_value (T.delegate i r) k b c (H.ends_with v) st = tt
  is_value (T.seek a) k b c v st = tt
  is_value (T.deed a) k b c v st = tt
  is_value (T.leave a) k b c v st = tt
  is_value (T.throw a) k b c v st = tt
  is_value (T.test a) k b c v st = tt
  is_value (T.iter_of a) k b c v st = tt
  is_value (T.enter a) k b c v st = tt
  is_value (T.unpack a m t) k b c v st = tt

  -- a raise in place of the reply leads there
  pub raising : (q : OpenAsk C V) (t : Answering N V W (Finding V q.ask)) (v : V) (d : C)
      (u : Store N W) → successor (by_answer q t) ≡ arises v d u → q.next (raised v) ≡ d
  raising q (H.answer x st) v d u e =
      absurd (subst IsValue e (is_value q.ask q.next q.is_act q.callee x st))
  raising q (H.raise w st) v d u e =
      ap (λ x. q.next (raised x)) (sym (ap (λ l. exception_in w l) e)) ∙ ap (λ l. state_in d l) e
  raising q (H.print x f) v d u e = absurd cc
  raising q (H.leave what) v d u e = absurd cc
  raising q (H.request r st f) v d u e = absurd cc

  -- no iterator ends there
  pub raises_so : (ends : Option V → Bool) (q : OpenAsk C V) (t : Answering N V W (Finding V q.ask))
      (v : V) (d : C) (u : Store N W) → successor (by_answer q t) ≡ arises v d u
      → AnswersSo ends q.ask t
  raises_so ends q (H.answer x st) v d u e =
      absurd (subst IsValue e (is_value q.ask q.next q.is_act q.callee x st))
  raises_so ends q (H.raise w st) v d u e = tt
  raises_so ends q (H.print x f) v d u e = absurd cc
  raises_so ends q (H.leave what) v d u e = tt
  raises_so ends q (H.request r st f) v d u e = absurd cc
