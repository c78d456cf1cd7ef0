-- What is known of an ask that waits, whose slots are gone: where what it is given leads, and where
-- a raise does, whatever comes, and what is told of either (Language Reference 4.1, 6.3.4, 8.3,
-- 8.4).
use Rattle.std.specs.Prelude.{◌≡◌, List, [], ◌∷◌, Bool, true, false, Option, Some, None}
use Rattle.pt_heap.specs.declared.value.Value.{Value}
use Rattle.sem_control.specs.control.Turn as T
use Rattle.sem_control.specs.control.Turn.{Ask, Reply, got, raised, Answer}
use Rattle.sem_control.specs.control.Events as E
use Rattle.sem_run.specs.run.Events.{Happening}
use Rattle.sem_run.specs.run.Host.{Response}
use Rattle.sem_run.specs.run.State.{OpenAsk}
use Rattle.sem_run.specs.run.Step.{of_call, of_builtin}
use Rattle.sem_run.specs.transitions.Transitions.{Transition, replies, prints}
use Rattle.sem_run.specs.transitions.Transitions.{requests, leaves}
use Rattle.sem_run.specs.transitions.Successors as leads
use Rattle.sem_run.specs.transitions.Successors.{Successor, to, arises, behind_print}
use Rattle.sem_run.specs.transitions.Successors.{behind_request, outside}
use Rattle.law_leads.specs.Leads.{left_behind}
use Rattle.sem_rows.specs.pt_host.World.{Names, World, Stores}
use Rattle.pt_pendings.specs.Views.{callee_view}
use Rattle.pt_purposes.specs.declared.purpose.Called.{Called}

-- behind a call of a builtin; a decision; an exception that arises
abbrev pub told_of_call : {A : Type 0} → Option Called → Reply Value A → List (Happening Value)
told_of_call (Some c) r = of_builtin c.function (callee_view c.told) r
told_of_call None r = []

abbrev pub told_by_control : {A : Type 0} → (decides : Bool) → Reply Value A → List (E.Event Value)
told_by_control true (got x) = E.branches ∷ []
told_by_control false (got x) = []
told_by_control decides (raised v) = E.raises v ∷ []

-- where a run goes on, in a state of its machine
abbrev pub Led : Type 0 → Type 0
Led S = Successor S Names Value World

-- where code goes on, whose states are parts of those of the machine
abbrev pub led_in : {C S : Type 0} → (C → S) → Led C → Led S
led_in embed (to c st) = to (embed c) st
led_in embed (arises v c st) = arises v (embed c) st
led_in embed (leads.behind_yield v k st) = leads.behind_yield v (λ r. embed (k r)) st
led_in embed (behind_print x l) = behind_print x (led_in embed l)
led_in embed (behind_request r st k) = behind_request r st (λ x st1. led_in embed (k x st1))
led_in embed (leads.behind_note a k) = leads.behind_note a (λ r. embed (k r))
led_in embed (outside what) = outside what
led_in embed (leads.end e) = leads.end e
led_in embed leads.none = leads.none

-- of a reply is told by which exception an iterator has ended, where this one left what was asked for
-- its item
abbrev pub stop_of : (a : Ask Value) → Answer Value a → (left : Option Value) → Option Value
stop_of (T.next_of i) None left = left
stop_of a x left = None

module _ {S : Type 0} where
  -- so it is done in a run, behind what was left by this exception: the reply is there that leads on,
  -- or something comes first
  abbrev pub DoneSo : (q : OpenAsk S Value) → (left : Option Value) → Led S
      → Transition S Names Value World → Type 0
  DoneSo q left (to c st) t =
      (x : Answer Value q.ask)
      × ((t ≡ replies q (got x) (stop_of q.ask x left) st) × (q.next (got x) ≡ c))
  DoneSo q left (arises v c st) t = (t ≡ replies q (raised v) None st) × (q.next (raised v) ≡ c)
  DoneSo q left (behind_print x next) t =
      (u : Transition S Names Value World) × ((t ≡ prints x u) × DoneSo q left next u)
  DoneSo q left (behind_request r st k) t =
      (f : Response Names Value r → Stores → Transition S Names Value World)
      × ((t ≡ requests r st f)
      × ((x : Response Names Value r) (st1 : Stores)
      → DoneSo q (left_behind r x) (k x st1) (f x st1)))
  DoneSo q left (outside what) t = t ≡ leaves what
  DoneSo q left l t = ⊥

  -- what is told of its reply
  pub record TellsSo (q : OpenAsk S Value) (called : Option Called) (acts decides : Bool) : Type 0
    where
      pub is_act : q.is_act ≡ acts
      pub call : (r : Reply Value (Answer Value q.ask))
          → of_call q.ask q.callee r ≡ told_of_call called r
      pub control : (active : Option Value) (r : Reply Value (Answer Value q.ask))
          → E.after active q.ask r ≡ told_by_control decides r
