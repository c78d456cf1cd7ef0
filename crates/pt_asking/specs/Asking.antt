-- Who is asked next at an event, as a run sees it (Library Reference, `sys.settrace`,
-- `sys.monitoring`).
use Rattle.std.specs.Prelude.{◌≡◌, ℕ, List, [], Bool, Option, drop, if◌then◌else◌}
use Rattle.pt_heap.specs.declared.value.Value.{Value}
use Rattle.sem_run.specs.run.Events as run
use Rattle.sem_run.specs.run.Host as hooks
use Rattle.sem_run.specs.run.Hooks.{all_hooks}
use Rattle.sem_run.specs.run.Outcome as outcome
use Rattle.sem_run.specs.run.Outcome.{Output}
use Rattle.sem_steps.specs.Steps.{minded}
use Rattle.sem_steps.specs.Asking as steps
use Rattle.pt_pendings.specs.Views.{reason_view, left_view}
use Rattle.pt_asking.specs.declared.asked.Hook.{Hook}
use Rattle.pt_asking.specs.declared.asked.Hook.TheVariants.{Tool, Tracer}
use Rattle.pt_asking.specs.declared.asked.Question.{Question}
use Rattle.pt_asking.specs.declared.asked.Question.TheVariants as question
use Rattle.pt_asking.specs.declared.asked.Next.{Next}
use Rattle.pt_asking.specs.declared.asked.Next.TheVariants.{Nobody, Consulted, Called}
use Rattle.pt_asking.specs.declared.asked.Asked.{Asked}

abbrev pub hook_view : Hook → hooks.Hook
hook_view (Tool id) = hooks.tool id
hook_view Tracer = hooks.tracer

-- what a debugger is asked about, at an event
abbrev pub question_view : run.Event Value → Question → outcome.Question Value
question_view e question.Event = outcome.about e
question_view e (question.Landing l) = outcome.about_landing l.0
question_view e (question.Refusal r) = outcome.about_refusal (reason_view r)

abbrev pub next_view : run.Event Value → Next → steps.Next Value
next_view e Nobody = steps.nobody
next_view e (Consulted q left) = steps.consulted (question_view e q) (left_view left)
next_view e (Called h f left) = steps.called (hook_view h) f (left_view left)

-- with the event's lines for the log
abbrev pub asked_view : (lines : List (Output Value)) → run.Event Value → Asked → steps.Asked Value
asked_view lines e a = record {
  outputs = if a.logs then lines else [];
  next = next_view e a.next;
}

-- who is asked next from a place on in the order of all, where a debugger minds the event or
-- doesn't
module _ (minds : Bool) (due : hooks.Hook → Option Value) (e : run.Event Value) where
  abbrev pub asked_from : (place : ℕ) → (lines : List (Output Value)) → steps.Asked Value
  asked_from n lines = steps.asked (minded (λ e. minds)) lines due e (drop n all_hooks)

  pub record IsNextFrom (place : ℕ) (r : Next) : Type 0 where
    pub next : (lines : List (Output Value)) → (asked_from place lines).next ≡ next_view e r
