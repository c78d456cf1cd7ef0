-- When what waits in the machine stands for what waits in a run. Replies and raises lead to the same
-- states, whatever comes.
use Rattle.std.specs.Prelude.{◌≡◌, map, Bool, Option, is_some}
use Rattle.std.specs.Option.{option_map}
use Rattle.pt_heap.specs.declared.value.Value.{Value}
use Rattle.sem_control.specs.control.Turn as T
use Rattle.sem_control.specs.control.Turn.{Mark, Reply, got, raised}
use Rattle.sem_run.specs.run.Machine.{BlockId, Machine}
use Rattle.sem_run.specs.run.Host.{Callee}
use Rattle.sem_run.specs.run.State as run
use Rattle.sem_run.specs.run.State.{OpenAsk, OpenYield}
use Rattle.pt_happenings.specs.Views.{happening_view, event_view}
use Rattle.pt_pendings.specs.declared.reply.Callee.{Callee as Told}
use Rattle.pt_pendings.specs.declared.reply.Reply.{Reply as Back}
use Rattle.pt_pendings.specs.declared.reply.End.{End}
use Rattle.pt_pendings.specs.declared.pending.Origin.{Origin}
use Rattle.pt_pendings.specs.declared.pending.Pending.{Pending}
use Rattle.pt_pendings.specs.declared.pending.Pending.TheVariants as pending
use Rattle.pt_pendings.specs.declared.telling.Telling.{Telling}
use Rattle.pt_pendings.specs.Views.{callee_view, reply_view, end_view, left_view}

-- where the newest activation stands: its block, the state that its block's machine is in, the one in
-- which it goes on, the place of what it asks, and where a raise leads that comes from a place
pub record Standpoint (S : Type 0) : Type 0 where
  pub block : BlockId
  pub state : S
  pub onward : S
  pub asked : Origin
  pub lands : Origin → Value → S

module _ {S : Type 0} (machine : Machine S Value) (at : Standpoint S) where
  -- an ask is the one of the machine's turn, and a raise in place of its reply comes from its place
  pub record IsAsked (q : OpenAsk S Value) : Type 0 where
    pub mark : Option Mark
    pub turn : machine.turn at.block at.state ≡ T.act mark q.ask q.next
    pub is_act : q.is_act ≡ is_some mark
    pub raises : (v : Value) → q.next (raised v) ≡ at.lands at.asked v

  -- one that gives a value on: a `yield`, and a delegation
  pub data IsYield : OpenYield S Value → Type 0 where
    of_yield : (v : Value) (k : Reply Value Value → S) (b : Bool) (c : Option (Callee Value))
        → IsAsked (record { ask = T.seek (T.yielding v); next = k; is_act = b; callee = c })
        → IsYield (record {
          ask = record { ask = T.seek (T.yielding v); next = k; is_act = b; callee = c };
          reply = λ r. r;
        })
    of_delegation : (i : Value) (r : Reply Value Value)
        (k : Reply Value (T.Delegated Value) → S) (b : Bool) (c : Option (Callee Value))
        → IsAsked (record { ask = T.delegate i r; next = k; is_act = b; callee = c })
        → IsYield (record {
          ask = record { ask = T.delegate i r; next = k; is_act = b; callee = c };
          reply = λ q. got (T.resumed q);
        })

  pub data IsPending : Pending → run.Pending S Value → Type 0 where
    starting : IsPending pending.Starting (run.starting at.state)
    doing : (q : OpenAsk S Value) (c : Option Told) → IsAsked q → q.callee ≡ option_map callee_view c
        → IsPending (pending.Doing c) (run.doing q)
    going : (from : Origin) (f : Value → S) → ((v : Value) → f v ≡ at.lands from v)
        → IsPending (pending.Going from) (run.going at.onward f)
    giving_on : (y : OpenYield S Value) (v : Value) → IsYield y
        → IsPending (pending.GivingOn v) (run.giving_on y v)
    going_on : (y : OpenYield S Value) (r : Back) → IsYield y
        → IsPending (pending.GoingOn r) (run.going_on y (reply_view r))
    ending : (e : End) → IsPending (pending.Ending e) (run.ending (end_view e))

  -- an event that is told: who is still to be asked, what else is told there, and what waits
  pub record IsTold (t : Telling) (r : run.Telling S Value) : Type 0 where
    pub event : r.event ≡ event_view t.event
    pub hooks : r.hooks ≡ left_view t.left
    pub behind : r.behind ≡ map happening_view t.behind
    pub pending : IsPending t.pending r.pending
