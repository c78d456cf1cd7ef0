-- What laws say of telling and asking: they are steps of each run for which the machine stands.
use Rattle.std.specs.Prelude.{◌≡◌, ℕ, List, [], Bool, true, false, if◌then◌else◌}
use Rattle.pt_heap.specs.declared.value.Value.{Value}
use Rattle.sem_run.specs.run.Machine.{Machine, BlockId}
use Rattle.sem_run.specs.run.Events.{Event}
use Rattle.sem_run.specs.run.State.{State, Telling, Hearing, asking, hearing, at, store}
use Rattle.sem_run.specs.run.Views.{here_of}
use Rattle.sem_run.specs.run.Host.{Host}
use Rattle.sem_run.specs.run.Outcome as O
use Rattle.sem_run.specs.run.Outcome.{Output}
use Rattle.sem_run.specs.run.Run.{writes, Write}
use Rattle.sem_run.specs.run.Step.{step}
use Rattle.sem_steps.specs.Steps.{Steps, minded}
use Rattle.pt_tracing.specs.pt_purposes.sem_rows.pt_host.World.{Names, World, Program}
use Rattle.pt_tracing.specs.pt_purposes.sem_rows.pt_host.HeapHost.{heap_host}
use Rattle.pt_happenings.specs.declared.happening.Happening.{Happening}
use Rattle.pt_happenings.specs.Views.{event_view}
use Rattle.pt_pendings.specs.declared.telling.Telling.{Telling as Told}
use Rattle.pt_asking.specs.declared.asked.Asked.{Asked}
use Rattle.pt_asking.specs.declared.asked.Question.{Question}
use Rattle.pt_asking.specs.declared.asked.Hook.{Hook}
use Rattle.pt_asking.specs.Asking.{question_view, hook_view}
use Rattle.pt_tracing.specs.pt_purposes.declared.standing.Standing.{Standing}
use Rattle.pt_tracing.specs.pt_purposes.Openers.{Ways}
use Rattle.pt_tracing.specs.pt_purposes.Seen.{block_of}
use Rattle.std.specs.Prelude.{Option}
use Rattle.pt_tracing.specs.pt_machine_state.declared.blocks.BlockCode.{BlockCode}
use Rattle.pt_tracing.specs.pt_run_state.declared.machine.Machine.{Machine as Held}
use Rattle.pt_tracing.specs.pt_run_state.declared.machine.Phase.TheVariants.{Telling as Tells}
use Rattle.pt_tracing.specs.pt_run_state.declared.machine.Waiting.{Waiting}
use Rattle.pt_tracing.specs.pt_run_state.Stands.{Stands, IsToTell}
use Rattle.pt_telling.specs.declared.asking.Found.TheVariants as found
use Rattle.pt_telling.specs.Telling.{told}
use Rattle.pt_telling.specs.Telling as telling
use Rattle.pt_telling.specs.Asks.{FoundSo, IsNext, event_lines, found_by}

-- a block has its name and its first line
pub record IsNamed (program : Program) (b : BlockId) (block : BlockCode) : Type 0 where
  pub name : block.name ≡ (program.facts b).name
  pub first_line : block.first_line.0 ≡ (program.facts b).first_line

module _ {S : Type 0} (program : Program) (machine : Machine S Value) (ways : Ways S)
    (minds : Event Value → Bool) (n : ℕ) where
  abbrev Run : Type 0
  Run = State S Names Value World

  abbrev host : Host Names Value World
  host = heap_host program

  -- a run comes to a state, and this is written meanwhile
  pub record Comes (s : Run) (ws : List Write) (t : Run) : Type 0 where
    pub outputs : List (Output Value)
    pub steps : Steps machine host (minded minds) n s outputs t
    pub written : writes true outputs ≡ ws

  -- an event is told, or what waits goes on
  pub data BehindTold (w : Waiting) (t : Run) : telling.Told → Type 0 where
    event : (m : Held) → Stands program machine ways m t
        → BehindTold w t (record { event = true; machine = m })
    onward : (m : Held) → IsToTell program machine ways m w [] t
        → BehindTold w t (record { event = false; machine = m })

  -- what is to be told is told by steps that write nothing
  abbrev pub TellsAsRun : Type 0
  TellsAsRun = (m : Held) (w : Waiting) (hs : List Happening) (s : Run)
      → IsToTell program machine ways m w hs s → (block : BlockCode)
      → IsNamed program (block_of m.code.here) block
      → (t : Run) × (Comes s [] t × BehindTold w t (told block w hs m))

  -- an event is told, something goes on, a debugger is consulted, or a function is called
  pub data BehindAsked (t : Run) : FoundSo → Type 0 where
    event : (m : Held) → Stands program machine ways m t
        → BehindAsked t (record { found = found.Event; machine = m })
    onward : (m : Held) (w : Waiting) → IsToTell program machine ways m w [] t
        → BehindAsked t (record { found = found.Onward w; machine = m })
    asks : (m : Held) (q : Question) (r : Telling S Value) (z : Run)
        → step machine host n t ≡ O.consults (question_view r.event q) r z
        → Stands program machine ways m (at (asking r) z)
        → BehindAsked t (record { found = found.Asks q; machine = m })
    calls : (m : Held) (h : Hook) (f : Value) (x : Hearing S Value) → x.hook ≡ hook_view h
        → t.phase ≡ hearing x (host.hears x.hook f x.telling.event (here_of machine t) (store t))
        → Stands program machine ways m (at (asking x.telling) t)
        → BehindAsked t (record { found = found.Calls h f; machine = m })

  -- those who are left at an event are asked by steps, which write the event's lines first
  abbrev pub AsksAsRun : Type 0
  AsksAsRun = (m : Held) (standing : Standing) (active : Option Value) (t : Told) (s : Run)
      → Stands program machine ways m s → m.phase ≡ Tells standing active t → (block : BlockCode)
      → IsNamed program (block_of m.code.here) block → (a : Asked)
      → IsNext (minds (event_view t.event)) m t a
      → (z : Run) × (Comes s (if a.logs then event_lines block t.event m.code.heap else []) z
      × BehindAsked z (found_by block a.next standing active t m))
