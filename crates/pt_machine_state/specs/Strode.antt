-- When the machine did a stride of a run.
use Rattle.std.specs.Prelude.{◌≡◌, ◌⊎◌, ℕ, List, []}
use Rattle.pt_base.specs.declared.what.What.TheVariants.{Exit}
use Rattle.pt_heap.specs.declared.value.Value.{Value}
use Rattle.pt_ranges.specs.declared.handlers.Handler.{Handler}
use Rattle.sem_code.specs.slots.Slots.{State, Slots, reraises}
use Rattle.sem_run.specs.run.Host as H
use Rattle.sem_run.specs.run.Host.{Leaving}
use Rattle.pt_code_facts.specs.sem_rows.pt_host.World.{Names, World, Program}
use Rattle.pt_code_facts.specs.sem_rows.pt_host.Leaving.{leaving}
use Rattle.pt_bare_runs.specs.Strides as bare
use Rattle.pt_bare_runs.specs.Strides.{goes, ends, is_stuck, done, exited, raised, spent, outside_at, stride as stride_of}
use Rattle.pt_code_facts.specs.sem_rows.pt_host.HeapHost.{heap_host}
use Rattle.sem_code_machine.specs.code_machine.CodeBlocks.{CodeBlocks, machine}
use Rattle.pt_code_facts.specs.sem_rows.heap_rows.Views.{world_view}
use Rattle.pt_machine_state.specs.declared.machine.Machine.{Machine}
use Rattle.pt_machine_state.specs.declared.machine.MachineEnd.{MachineEnd}
use Rattle.pt_machine_state.specs.declared.machine.MachineEnd.TheVariants as end
use Rattle.pt_machine_state.specs.declared.machine.Stride.{Stride}
use Rattle.pt_machine_state.specs.declared.machine.Stride.TheVariants as stride
use Rattle.pt_machine_state.specs.declared.writes.Writes.{Writes}
use Rattle.pt_machine_state.specs.Writing.{Adds}
use Rattle.pt_machine_state.specs.Views.{Bare, Beside, run_of, block_of, AllWait, IsPlaced}

abbrev pub Ending : Type 0
Ending = bare.Ending Value World

-- what becomes of an exception that leaves the module, in whose frame this line stands
abbrev pub left : Leaving → Value → (line : ℕ) → World → Ending
left (H.exits n x) v l w = exited n x
left H.exits_oddly v l w = outside_at Exit l
left (H.fails es) v l w = raised v w

abbrev pub ending_of : MachineEnd → Machine → Ending
ending_of end.Done m = done
ending_of (end.Left v line) m = left (leaving v (world_view m.frames m.heap)) v line.0 (world_view m.frames m.heap)
ending_of end.Spent m = spent
ending_of (end.Outside what line) m = outside_at what line.0

-- a raise goes on there that was held, by no instruction
abbrev pub GoesOnRaising : Bare → Type 0
GoesOnRaising s = (e : Value) × (rows : List Handler) × (ss : Slots Value) × (s.here.state ≡ reraises e rows ss)

module _ (program : Program) (code : CodeBlocks Value) where
  -- a run is another one, or comes to it where a raise goes on, by a stride that writes nothing, whatever units may be taken
  abbrev pub ComesTo : Bare → Bare → Type 0
  ComesTo s t = (s ≡ t) ⊎ (GoesOnRaising s × ((n : ℕ) → stride_of (machine code) (heap_host program) n s ≡ goes [] t))

  -- the run goes on as the machine does, which may do another stride of it beside this and has places for its local names, or ends as it says; of a
  -- run that is stuck nothing is said
  abbrev pub Strode : bare.Stride (State Value) Names Value World → Stride → (old : Writes) → Machine → (new : Writes) → Type 0
  Strode (goes ws s) r old m new =
      (r ≡ stride.Goes) × (Adds old new ws × ((x : Beside) × (ComesTo s (run_of program m x) × (AllWait program code (block_of m.here) m.frames.activations x.waiting × IsPlaced program m.here))))
  Strode (ends ws u e) r old m new = (x : MachineEnd) × ((r ≡ stride.Ends x) × (Adds old new ws × ((u ≡ m.units) × (e ≡ ending_of x m))))
  Strode is_stuck r old m new = Unit {0}
