-- What a turn of the machine is to do: steps of each run for which it stands, behind which it goes
-- on, a debugger is asked, or the run ends (Language Reference 4.1; Library Reference, `bdb`). Of a
-- run that comes to a state in which its machine is stuck nothing is said.
use Rattle.std.specs.Prelude.{◌≡◌, ℕ, List, Bool, true, Option}
use Rattle.pt_base.specs.declared.numbers.Line.{Line}
use Rattle.pt_base.specs.declared.what.What.{What}
use Rattle.pt_base.specs.declared.what.What.TheVariants.{Exit}
use Rattle.pt_heap.specs.declared.value.Value.{Value}
use Rattle.sem_run.specs.run.Machine.{Machine}
use Rattle.sem_run.specs.run.Host.{Host, exits, exits_oddly, fails, Entry}
use Rattle.sem_run.specs.run.State.{State, Telling, asking, at}
use Rattle.sem_run.specs.run.Outcome as O
use Rattle.sem_run.specs.run.Outcome.{Output, View, Question as Asked}
use Rattle.sem_run.specs.run.Run.{writes}
use Rattle.sem_run.specs.run.Step.{step}
use Rattle.sem_steps.specs.Steps.{Steps}
use Rattle.pt_purposes.specs.sem_rows.pt_host.World.{Names, World, Program}
use Rattle.pt_purposes.specs.sem_rows.pt_host.Leaving.{leaving}
use Rattle.pt_asking.specs.declared.asked.Question.{Question}
use Rattle.pt_asking.specs.Asking.{question_view}
use Rattle.pt_transfers.specs.pt_machine_state.declared.machine.MachineEnd.{MachineEnd}
use Rattle.pt_transfers.specs.pt_machine_state.declared.machine.MachineEnd.TheVariants as end
use Rattle.pt_transfers.specs.pt_machine_state.declared.writes.Writes.{Writes}
use Rattle.pt_transfers.specs.pt_machine_state.Writing.{Adds}
use Rattle.pt_purposes.specs.Openers.{Ways}
use Rattle.pt_run_state.specs.declared.machine.Machine.{Machine as Held}
use Rattle.pt_run_state.specs.declared.machine.Turn.{Turn}
use Rattle.pt_run_state.specs.declared.machine.Turn.TheVariants.{Goes, Asks, Ends}
use Rattle.pt_run_state.specs.Stands.{world_of, Stands}

-- what becomes of an exception that leaves the module; the frames of its traceback aren't said
pub data IsEnding (m : Held) : MachineEnd → O.Ending Names Value World → Type 0 where
  done : IsEnding m end.Done O.done
  exited : (v : Value) (l : Line) (n : ℕ) (t : Option (List ℕ))
      → leaving v (world_of m) ≡ exits n t → IsEnding m (end.Left v l) (O.exited n t)
  exited_oddly : (v : Value) (l : Line) → leaving v (world_of m) ≡ exits_oddly
      → IsEnding m (end.Left v l) (O.outside Exit l.0)
  raised : (v : Value) (l : Line) (es : List Entry) (x : View Names Value World)
      → leaving v (world_of m) ≡ fails es → x.world ≡ world_of m
      → IsEnding m (end.Left v l) (O.raised v x)
  spent : IsEnding m end.Spent O.spent
  outside : (what : What) (l : Line) → IsEnding m (end.Outside what l) (O.outside what l.0)

module _ {S : Type 0} (program : Program) (machine : Machine S Value)
    (host : Host Names Value World) (ways : Ways S) (minds : Asked Value → Bool) (n : ℕ) where
  abbrev Run : Type 0
  Run = State S Names Value World

  -- a run comes to a state, and what it gives is put behind what was to be written
  pub record Comes (s : Run) (old new : Writes) (t : Run) : Type 0 where
    pub outputs : List (Output Value)
    pub steps : Steps machine host minds n s outputs t
    pub written : Adds old new (writes true outputs)

  -- the run goes on; a debugger is asked; it ends; or its machine is stuck there
  pub data Behind (m : Held) (t : Run) : Turn → Type 0 where
    goes : Stands program machine ways m t → Behind m t Goes
    asks : (q : Question) (r : Telling S Value) (z : Run)
        → step machine host n t ≡ O.consults (question_view r.event q) r z
        → Stands program machine ways m (at (asking r) z) → Behind m t (Asks q)
    ends : (e : MachineEnd) (x : O.Ending Names Value World) → step machine host n t ≡ O.ends x
        → IsEnding m e x → t.units ≡ m.code.units → Behind m t (Ends e)
    stuck : (turn : Turn) → step machine host n t ≡ O.is_stuck → Behind m t turn

  abbrev pub Advances : Turn → (old : Held) (written : Writes) (new : Held) (writes : Writes)
      → Type 0
  Advances turn old written new writes =
      (s : Run) → Stands program machine ways old s
      → (t : Run) × (Comes s written writes t × Behind new t turn)
