-- What the law says of results: they go to what waits in each run for which the machine stands.
use Rattle.std.specs.Prelude.{◌≡◌, ℕ, List, [], ◌∷◌, Bool, Option, None}
use Rattle.pt_heap.specs.declared.value.Value.{Value}
use Rattle.sem_run.specs.run.Machine.{Machine}
use Rattle.sem_run.specs.run.Events.{Event}
use Rattle.sem_run.specs.run.Host.{Here, BlockResult, Finding}
use Rattle.sem_run.specs.run.State.{State, OpenAsk, Hearing, answering, hearing, store}
use Rattle.pt_opening.specs.pt_host.World.{Names, World, CodeFacts, Program}
use Rattle.pt_opening.specs.pt_purposes.sem_rows.heap_rows.Told.{taken}
use Rattle.pt_opening.specs.pt_host.Trees.{Tree}
use Rattle.pt_opening.specs.pt_purposes.sem_rows.heap_rows.Views.{names_view}
use Rattle.pt_pendings.specs.declared.reply.End.{End}
use Rattle.pt_pendings.specs.declared.pending.Pending.TheVariants.{Ending}
use Rattle.pt_pendings.specs.declared.telling.Telling.{Telling}
use Rattle.pt_pendings.specs.Views.{end_view}
use Rattle.pt_opening.specs.pt_asking.declared.asked.Hook.{Hook as HookOf}
use Rattle.pt_opening.specs.pt_purposes.declared.standing.Standing.{Standing}
use Rattle.pt_opening.specs.pt_purposes.declared.purpose.Called.{Called}
use Rattle.pt_opening.specs.pt_purposes.declared.purpose.Purpose.TheVariants.{Ask, Hook}
use Rattle.pt_opening.specs.pt_purposes.declared.opener.Opener.{Opener}
use Rattle.pt_opening.specs.pt_purposes.Seen.{block_of, active_of}
use Rattle.pt_opening.specs.pt_purposes.Openers.{Ways, IsWaiting, LeadsOn, IsHearing, asked_in}
use Rattle.pt_opening.specs.pt_run_state.declared.machine.Machine.{Machine as Held}
use Rattle.pt_opening.specs.pt_run_state.declared.machine.Waiting.{Waiting}
use Rattle.pt_opening.specs.pt_run_state.Stands.{StandsAround, IsToTell}
use Rattle.pt_opening.specs.pt_telling.Laws.{Comes}
use Rattle.pt_returning.specs.Returning.{returned_to}

abbrev pub ending_so : Standing → Option Value → End → Waiting
ending_so z active e = record { standing = z; active = active; pending = Ending e }

-- where what was asked for is done on
abbrev pub asked_by : Opener → Here Value
asked_by o = asked_in o.running.activation o.context

-- what is known of the newest activation's block, and what that gives as it ends so
abbrev pub facts_here : Program → Held → CodeFacts
facts_here program m = program.facts (block_of m.code.here)

abbrev pub result_here : Program → Held → End → BlockResult Names Value
result_here program m e = record {
  end = end_view e;
  names = names_view (facts_here program m) m.code.here;
}

module _ {S : Type 0} (program : Program) (machine : Machine S Value) (ways : Ways S)
    (minds : Event Value → Bool) (n : ℕ) where
  abbrev Run : Type 0
  Run = State S Names Value World

  -- the result leads the ask on that waits for it, or is the answer of a hook
  pub data GoesTo (facts : CodeFacts) (r : BlockResult Names Value) (o : Opener) (t : Run) : Type 0
    where
      ask : (called : Option Called) (is_act : Bool) (q : OpenAsk S Value)
          (u : Tree (Finding Value q.ask)) → o.purpose ≡ Ask called is_act
          → IsWaiting ways o.running.activation o.why called is_act q → t.phase ≡ answering q u
          → LeadsOn ways o.running.activation q (asked_by o) facts o.why r (store t) u
          → GoesTo facts r o t
      hook : (k : HookOf) (z : Standing) (active : Option Value) (told : Telling)
          (x : Hearing S Value) → o.purpose ≡ Hook k z active told
          → IsHearing machine ways o.running.activation t.here.state k z told x
          → t.phase ≡ hearing x (taken facts o.why r (asked_by o) (store t))
          → GoesTo facts r o t

  -- nothing more is told of the end of a block, and no generator ends with it
  abbrev pub ReturnsAsRun : Type 0
  ReturnsAsRun = (m : Held) (z : Standing) (active : Option Value) (e : End) (s : Run)
      → IsToTell program machine ways m (ending_so z active e) [] s → (o : Opener)
      (os : List Opener) → m.openers ≡ o ∷ os → o.generator ≡ None
      → (t : Run) × (Comes program machine ways minds n s [] t
      × (StandsAround program machine ways (returned_to o os m) t
      × ((machine.active t.here.state ≡ active_of o)
      × GoesTo (facts_here program m) (result_here program m e) o t)))
