-- When the machine stands for a state of a run, over any machine of code (Language Reference 4.1,
-- 6.2.9; Library Reference, `sys.settrace`, `sys.monitoring`). Nothing is said of frames that have
-- closed.
use Rattle.std.specs.Prelude.{◌≡◌, ◌≢◌, ◌<◌, ◌≤◌, ℕ, List, [], ◌∷◌, ◌++◌, map, Option}
use Rattle.pt_heap.specs.declared.value.Value.{Value}
use Rattle.pt_frames.specs.declared.slot.Slot.{Slot}
use Rattle.pt_frames.specs.declared.activation.Activation.{Activation}
use Rattle.sem_run.specs.run.Machine.{Machine}
use Rattle.sem_run.specs.run.State as run
use Rattle.sem_run.specs.run.State.{State}
use Rattle.pt_purposes.specs.sem_rows.pt_host.World.{Names, World, Program}
use Rattle.pt_purposes.specs.sem_rows.heap_rows.Views.{world_view}
use Rattle.pt_gen.specs.declared.generator.Generator.{Generator}
use Rattle.pt_gen.specs.declared.generator.Generator.TheVariants.{Fresh, Suspended}
use Rattle.pt_settrace.specs.Frames.{untraced}
use Rattle.pt_settrace.specs.Tracing.{Tracing, tracing_in}
use Rattle.pt_monitor.specs.Alike.{ToolsAlike}
use Rattle.pt_happenings.specs.declared.happening.Happening.{Happening}
use Rattle.pt_happenings.specs.Views.{happening_view}
use Rattle.pt_pendings.specs.declared.telling.Telling.{Telling}
use Rattle.pt_pendings.specs.Stands.{IsPending, IsTold}
use Rattle.pt_transfers.specs.pt_machine_state.declared.machine.Standing.TheVariants as place
use Rattle.pt_purposes.specs.declared.standing.Standing.{Standing}
use Rattle.pt_purposes.specs.declared.opener.Running.{Running}
use Rattle.pt_purposes.specs.Seen.{block_of, active_at}
use Rattle.pt_purposes.specs.Openers.{Ways, IsEventIn, UnlessGone, IsRunning}
use Rattle.pt_purposes.specs.Openers.{standpoint, AreOpeners}
use Rattle.pt_purposes.specs.Kept.{AreKept}
use Rattle.pt_run_state.specs.declared.machine.Phase.{Phase}
use Rattle.pt_run_state.specs.declared.machine.Phase.TheVariants.{Turning, Telling as Tells}
use Rattle.pt_run_state.specs.declared.machine.Waiting.{Waiting}
use Rattle.pt_run_state.specs.declared.machine.Machine.{Machine as Held}

abbrev pub world_of : Held → World
world_of m = world_view m.code.frames m.code.heap

-- the newest activation with what a run keeps of it
abbrev pub newest : Held → Running
newest m = record { activation = m.code.here; course = m.course }

-- the exception that is active in the newest activation (Language Reference 7.8)
abbrev pub active_in : Phase → List Slot → Option Value
active_in (Turning standing) slots = active_at standing slots
active_in (Tells standing active telling) slots = active

-- the numbers of frames that are kept, of which each was given once: what is kept of a frame under its
-- number is kept of no other, and nothing under the next one
abbrev pub numbers_kept : List (Generator Running) → List ℕ
numbers_kept [] = []
numbers_kept (Fresh r ∷ gs) = r.activation.frame.0 ∷ numbers_kept gs
numbers_kept (Suspended r ∷ gs) = r.activation.frame.0 ∷ numbers_kept gs
numbers_kept (g ∷ gs) = numbers_kept gs

abbrev pub frame_numbers : Held → List ℕ
frame_numbers m =
    m.code.here.frame.0 ∷ map (λ o. o.running.activation.frame.0) m.openers
    ++ numbers_kept m.generators

abbrev pub IsNotAmong : ℕ → List ℕ → Type 0
IsNotAmong k [] = Unit {0}
IsNotAmong k (j ∷ js) = (j ≢ k) × IsNotAmong k js

abbrev pub AreGivenOnce : (next : ℕ) → List ℕ → Type 0
AreGivenOnce next [] = Unit {0}
AreGivenOnce next (k ∷ ks) = (k < next) × (IsNotAmong k ks × AreGivenOnce next ks)

module _ {S : Type 0} (program : Program) (machine : Machine S Value) (ways : Ways S) where
  abbrev Run : Type 0
  Run = State S Names Value World

  -- all but what is going on in the newest activation
  pub record StandsAround (m : Held) (s : Run) : Type 0 where
    pub at_place : m.code.standing ≡ place.AtPlace
    pub here : IsRunning program m.hooks (newest m) s.here
    pub openers : AreOpeners program machine ways m.hooks (block_of m.code.here) m.openers
        s.openers
    pub generators : AreKept program machine ways m.hooks m.generators s.generators
    pub world : s.world ≡ world_of m
    pub trace : s.trace ≡ m.hooks.global
    pub tools : ToolsAlike m.tools s.tools
    pub units : s.units ≡ m.code.units
    pub frames : s.frames ≡ m.code.frames.frame_count
    pub numbers : AreGivenOnce m.code.frames.frame_count (frame_numbers m)
    pub untraced : (k : ℕ) → m.code.frames.frame_count ≤ k → tracing_in k m.hooks ≡ untraced

  -- what goes on in the newest activation, whose machine is in this state
  pub data IsPhase (h : Tracing) (a : Activation) (c : S) : Phase
      → run.Phase S Names Value World → Type 0 where
    turning : (s : Standing) → c ≡ ways.position s a → IsPhase h a c (Turning s) run.turning
    telling : (s : Standing) (active : Option Value) (t : Telling) (x : run.Telling S Value)
        → IsEventIn a t.event → IsTold machine (standpoint ways c s a) t x
        → UnlessGone t.pending s (c ≡ ways.position s a)
        → IsPhase h a c (Tells s active t) (run.asking x)

  pub record Stands (m : Held) (s : Run) : Type 0 where
    pub around : StandsAround m s
    pub active : machine.active s.here.state ≡ active_in m.phase m.code.here.slots
    pub phase : IsPhase m.hooks m.code.here s.here.state m.phase s.phase

  -- between two phases: all of this is to be told, and then what waits goes on
  pub record IsToTell (m : Held) (w : Waiting) (hs : List Happening) (s : Run) : Type 0 where
    pub around : StandsAround m s
    pub active : machine.active s.here.state ≡ w.active
    pub pending : run.Pending S Value
    pub phase : s.phase ≡ run.telling (map happening_view hs) pending
    pub waits : IsPending machine
        (standpoint ways s.here.state w.standing m.code.here) w.pending
        pending
    pub stands : UnlessGone w.pending w.standing
        (s.here.state ≡ ways.position w.standing m.code.here)
