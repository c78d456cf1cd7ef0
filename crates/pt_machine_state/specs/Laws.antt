-- That the machine does strides of runs over code.
use Rattle.std.specs.Prelude.{◌≡◌, ◌⊎◌, ℕ, List, true, Option, Some, None, codes, nat_lt}
use Rattle.pt_base.specs.declared.numbers.Pc.{Pc}
use Rattle.pt_instr.specs.declared.Instr.TheVariants as instr
use Rattle.pt_heap.specs.declared.value.Value.{Value}
use Rattle.pt_heap.specs.declared.completion.Completion.TheVariants as completion
use Rattle.pt_heap.specs.declared.object.Object.{Object}
use Rattle.pt_names.specs.Names.{Named}
use Rattle.pt_ranges.specs.declared.lines.ActMark.{ActMark}
use Rattle.pt_code.specs.View.{Ins}
use Rattle.pt_frames.specs.declared.slot.Slot.{Slot}
use Rattle.sem_run.specs.run.Host.{Here}
use Rattle.pt_code_facts.specs.sem_rows.pt_host.World.{Program}
use Rattle.pt_code_facts.specs.sem_rows.pt_host.HeapHost.{heap_host}
use Rattle.sem_code_machine.specs.rows.Rows.{row_of}
use Rattle.pt_bare_runs.specs.Strides.{stride as stride_of}
use Rattle.sem_code_machine.specs.code_machine.CodeBlocks.{CodeBlocks, machine}
use Rattle.pt_code_facts.specs.sem_rows.pt_host.declared.places.TheConstants.{RUNTIME_ERROR}
use Rattle.pt_code_facts.specs.sem_rows.declared.heap_rows.progress.Progress.{Progress}
use Rattle.pt_code_facts.specs.sem_rows.declared.heap_rows.progress.Progress.TheVariants as progress
use Rattle.pt_code_facts.specs.sem_rows.heap_rows.Leads.{HeapSuccessor, IsStuck}
use Rattle.pt_code_facts.specs.sem_rows.heap_rows.Told.{told, KeepsActive}
use Rattle.pt_code_facts.specs.sem_rows.heap_rows.Views.{slots_view}
use Rattle.pt_machine_state.specs.declared.blocks.BlockCode.{BlockCode}
use Rattle.pt_machine_state.specs.declared.blocks.Blocks.{Blocks}
use Rattle.pt_machine_state.specs.declared.machine.Machine.{Machine}
use Rattle.pt_machine_state.specs.declared.machine.Standing.TheVariants as standing
use Rattle.pt_machine_state.specs.declared.machine.Stride.{Stride}
use Rattle.pt_machine_state.specs.declared.writes.Writes.{Writes}
use Rattle.pt_machine_state.specs.Writing.{Adds}
use Rattle.pt_machine_state.specs.Blocks.{AreBlocksOf, block_at}
use Rattle.pt_machine_state.specs.Views.{Beside, AllWait, ArePlaced, IsPlaced, active_of, block_of, run_of, stores_of}
use Rattle.pt_machine_state.specs.Strode.{Strode}
use Rattle.pt_machine_state.specs.Changes.{at_act, changed, line_events}
use Rattle.pt_machine_state.specs.Applies.{Applied}

-- what code did with an instruction: what it came to, and what it left of all that instructions change
pub record RowDone : Type 0 where
  pub progress : Progress
  pub slots : List Slot
  pub locals : List (Option Value)
  pub cells : List ℕ
  pub names : Named
  pub globals : Named
  pub frame_cells : List (Option Value)
  pub heap : List Object

abbrev pub behind_row : RowDone → Machine → Machine
behind_row d m = changed d.slots d.locals d.cells d.names d.globals d.frame_cells d.heap m

module _ (program : Program) (code : CodeBlocks Value) where
  -- where the instruction leads from a machine
  abbrev pub row_at : Ins → Machine → Here Value → HeapSuccessor
  row_at i m h = row_of (heap_host program) (code.object (block_of m.here)) m.here.pc.0 i i.instr (slots_view m.here.slots) h (stores_of program m)

  -- that is what was done, unless the run is stuck there
  abbrev pub IsRow : Ins → RowDone → Machine → Type 0
  IsRow i d m = (h : Here Value) → h.block ≡ block_of m.here → IsStuck (row_at i m h)
      ⊎ (told program (code.object (block_of m.here)) i h d.progress (slots_view d.slots) (stores_of program (behind_row d m)) ≡ row_at i m h)

  -- the machine is at an instruction of a block that it knows, whose row is done behind what comes before it. It isn't `raise` alone
  pub record AtRow (blocks : Blocks) (block : BlockCode) (next : Pc) (i : Ins) (d : RowDone) (m before_row : Machine) : Type 0 where
    pub known : AreBlocksOf program code blocks
    pub is_block : block ≡ block_at blocks (block_of m.here)
    pub at_place : m.standing ≡ standing.AtPlace
    pub there : (code.object (block_of m.here)).at m.here.pc.0 ≡ Some i
    pub next_is : i.next ≡ next.0
    pub other : i.instr ≡ instr.RaiseAgain → ⊥
    pub same_active : KeepsActive d.progress m.here.slots d.slots
    pub placed : ArePlaced (program.facts (block_of m.here)) d.names d.locals
    pub row : IsRow i d before_row

-- what `raise` alone comes to: the exception that is active lands again, of which nothing is told, or a RuntimeError arises (7.8)
abbrev pub again_of : (active : Option Value) → Progress
again_of (Some v) = progress.Leaves (completion.Raise v)
again_of None = progress.FailsSaying RUNTIME_ERROR (codes "no active exception")

-- the machine is at such an instruction of a block that it knows
pub record AtAgain (program : Program) (code : CodeBlocks Value) (blocks : Blocks) (block : BlockCode) (next : Pc) (i : Ins) (m : Machine) : Type 0 where
  pub known : AreBlocksOf program code blocks
  pub is_block : block ≡ block_at blocks (block_of m.here)
  pub at_place : m.standing ≡ standing.AtPlace
  pub there : (code.object (block_of m.here)).at m.here.pc.0 ≡ Some i
  pub next_is : i.next ≡ next.0
  pub placed : IsPlaced program m.here
  pub again : i.instr ≡ instr.RaiseAgain

-- the machine does a stride where what comes behind the row is applied; with a mark behind its unit and its line
unfoldable pub UnmarkedStrides : Type 0
UnmarkedStrides = (program : Program) (code : CodeBlocks Value) (blocks : Blocks) (block : BlockCode) (next : Pc) (n : ℕ) (m : Machine) (i : Ins) (d : RowDone)
    → AtRow program code blocks block next i d m m → i.mark ≡ None → (x : Beside) → AllWait program code (block_of m.here) m.frames.activations x.waiting
    → (r : Stride) (w w1 : Writes) (new : Machine) → Applied blocks block next d.progress r (behind_row d m) w new w1
    → Strode program code (stride_of (machine code) (heap_host program) n (run_of program m x)) r w new w1

unfoldable pub MarkedStrides : Type 0
MarkedStrides = (program : Program) (code : CodeBlocks Value) (blocks : Blocks) (block : BlockCode) (next : Pc) (n : ℕ) (m : Machine) (i : Ins) (d : RowDone) (k : ActMark)
    → AtRow program code blocks block next i d m (at_act k m) → i.mark ≡ Some k → nat_lt m.units n ≡ true → (x : Beside) → AllWait program code (block_of m.here) m.frames.activations x.waiting
    → (r : Stride) (w w0 w1 : Writes) (new : Machine) → Adds w w0 (line_events k block m)
    → Applied blocks block next d.progress r (behind_row d (at_act k m)) w0 new w1
    → Strode program code (stride_of (machine code) (heap_host program) n (run_of program m x)) r w new w1

-- the same of `raise` alone
unfoldable pub UnmarkedAgain : Type 0
UnmarkedAgain = (program : Program) (code : CodeBlocks Value) (blocks : Blocks) (block : BlockCode) (next : Pc) (n : ℕ) (m : Machine) (i : Ins)
    → AtAgain program code blocks block next i m → i.mark ≡ None → (x : Beside) → AllWait program code (block_of m.here) m.frames.activations x.waiting
    → (r : Stride) (w w1 : Writes) (new : Machine) → Applied blocks block next (again_of (active_of m)) r m w new w1
    → Strode program code (stride_of (machine code) (heap_host program) n (run_of program m x)) r w new w1

unfoldable pub MarkedAgain : Type 0
MarkedAgain = (program : Program) (code : CodeBlocks Value) (blocks : Blocks) (block : BlockCode) (next : Pc) (n : ℕ) (m : Machine) (i : Ins) (k : ActMark)
    → AtAgain program code blocks block next i m → i.mark ≡ Some k → nat_lt m.units n ≡ true → (x : Beside) → AllWait program code (block_of m.here) m.frames.activations x.waiting
    → (r : Stride) (w w0 w1 : Writes) (new : Machine) → Adds w w0 (line_events k block m)
    → Applied blocks block next (again_of (active_of m)) r (at_act k m) w0 new w1
    → Strode program code (stride_of (machine code) (heap_host program) n (run_of program m x)) r w new w1
