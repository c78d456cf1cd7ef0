-- What comes of a result leads a run on where the code of the ask goes on.
use Rattle.std.proofs.Common.{◌≡◌, Bool, Option, Some, None, refl, ap}
use Rattle.pt_heap.specs.declared.value.Value.{Value}
use Rattle.sem_control.specs.control.Turn as T
use Rattle.sem_control.specs.control.Turn.{Ask, Answer, Reply, got}
use Rattle.sem_run.specs.run.Host as H
use Rattle.sem_run.specs.run.Host.{Callee, Finding}
use Rattle.sem_run.specs.run.State.{OpenAsk}
use Rattle.sem_run.specs.transitions.Transitions.{by_answer, replies}
use Rattle.sem_run.specs.transitions.Successors.{successor}
use Rattle.law_leads.specs.Leads.{left_behind, FindsWith, EndsWith, in_run}
use Rattle.sem_rows.specs.pt_host.World.{Names, World, Stores}
use Rattle.sem_rows.specs.pt_host.Trees.{Tree}
use Rattle.pt_purposes.specs.Asks.{Led, led_in, DoneSo}
use Rattle.pt_purposes.specs.Laws.{IsAnswered, ResultsGoOn}

module _ {C S : Type 0} (embed : C → S) where
  abbrev ask_of : (a : Ask Value) → (Reply Value (Answer Value a) → C) → Bool
      → Option (Callee Value) → OpenAsk C Value
  ask_of a k b c = record { ask = a; next = k; is_act = b; callee = c }

  abbrev led_by : (q : OpenAsk C Value) → Tree (Finding Value q.ask) → Led C
  led_by q t = successor (by_answer q t)

  abbrev Does : (q : OpenAsk C Value) → Option Value → Tree (Finding Value q.ask) → Type 0
  Does q left t = DoneSo (in_run embed q) left (led_in embed (led_by q t)) (by_answer (in_run embed q) t)

  found : (a : Ask Value) (k : Reply Value (Answer Value a) → C) (b : Bool)
      (c : Option (Callee Value)) (left : Option Value) (x : Finding Value a) (st : Stores)
      → FindsWith left a x → IsAnswered (led_by (ask_of a k b c) (H.answer x st))
      → Does (ask_of a k b c) left (H.answer x st)
  found (T.next_of i) k b c left (H.an_item v) st z on = (Some v, (refl, refl))
  found (T.next_of i) k b c left (H.no_item e) st z on =
      (None, (ap (λ o. replies (in_run embed (ask_of (T.next_of i) k b c)) (got None) o st) z, refl))
  found (T.delegate i r) k b c left (H.passes_on v) st z on = absurd on
  found (T.delegate i r) k b c left (H.ends_with v) st z on = (T.returned v, (refl, refl))
  found (T.seek a) k b c left v st z on = (v, (refl, refl))
  found (T.deed a) k b c left v st z on = (v, (refl, refl))
  found (T.leave a) k b c left v st z on = (v, (refl, refl))
  found (T.throw a) k b c left v st z on = (v, (refl, refl))
  found (T.test a) k b c left v st z on = (v, (refl, refl))
  found (T.iter_of a) k b c left v st z on = (v, (refl, refl))
  found (T.enter a) k b c left v st z on = (v, (refl, refl))
  found (T.unpack a m t) k b c left v st z on = (v, (refl, refl))

  does : (q : OpenAsk C Value) (left : Option Value) (t : Tree (Finding Value q.ask))
      → EndsWith q.ask left t → IsAnswered (led_by q t) → Does q left t
  does q left (H.answer x st) z on = found q.ask q.next q.is_act q.callee left x st z on
  does q left (H.raise v st) z on = (refl, refl)
  does q left (H.print x f) z on = (by_answer (in_run embed q) f, (refl, does q left f z on))
  does q left (H.leave what) z on = refl
  does q left (H.request r st f) z on = (
    λ x st1. by_answer (in_run embed q) (f x st1),
    (refl, λ x st1. does q (left_behind r x) (f x st1) (z x st1) (on x st1)),
  )

pub results_go_on : {C S : Type 0} (embed : C → S) → ResultsGoOn embed
results_go_on embed q left t z on = does embed q left t z on
