-- When the machine did what an instruction comes to, wherever that stands and whatever waits.
use Rattle.std.specs.Prelude.{◌≡◌, ℕ, [], Some}
use Rattle.pt_base.specs.declared.numbers.Pc.{Pc}
use Rattle.pt_base.specs.declared.numbers.ObjId.{ObjId}
use Rattle.pt_heap.specs.declared.value.Value.{Value}
use Rattle.pt_heap.specs.declared.object.Object.{Object}
use Rattle.pt_names.specs.Names.{bindings_of}
use Rattle.pt_code.specs.View.{Ins}
use Rattle.sem_control.specs.control.Turn.{Ask}
use Rattle.pt_frames.specs.Slots.{active_in}
use Rattle.sem_code.specs.slots.Slots.{State}
use Rattle.sem_code.specs.slots.CodeObject.{CodeObject}
use Rattle.sem_code.specs.comp_expr.Law.{active_at}
use Rattle.sem_run.specs.run.Host.{Here, BlockResult}
use Rattle.pt_code_facts.specs.sem_rows.pt_host.World.{Names, Program}
use Rattle.pt_code_facts.specs.sem_rows.pt_host.Classes.{bound_entries, class_with}
use Rattle.pt_code_facts.specs.sem_rows.pt_host.HeapHost.{heap_host}
use Rattle.pt_bare_runs.specs.Strides.{with_store, here_of, lead, stride as stride_of}
use Rattle.sem_code_machine.specs.code_machine.CodeBlocks.{CodeBlocks, machine}
use Rattle.pt_code_facts.specs.sem_rows.declared.heap_rows.progress.Progress.{Progress}
use Rattle.pt_code_facts.specs.sem_rows.heap_rows.Leads.{HeapSuccessor}
use Rattle.pt_code_facts.specs.sem_rows.heap_rows.Told.{told, resumed, IfActive}
use Rattle.pt_frames.specs.declared.activation.Activation.{Activation}
use Rattle.pt_frames.specs.declared.purpose.Purpose.{Purpose}
use Rattle.pt_frames.specs.declared.purpose.Purpose.TheVariants as purpose
use Rattle.sem_control.specs.control.Turn.{gave}
use Rattle.pt_code_facts.specs.sem_rows.heap_rows.Views.{names_view, slots_view}
use Rattle.pt_machine_state.specs.declared.blocks.BlockCode.{BlockCode}
use Rattle.pt_machine_state.specs.declared.blocks.Blocks.{Blocks}
use Rattle.pt_machine_state.specs.declared.machine.Machine.{Machine}
use Rattle.pt_machine_state.specs.declared.machine.Standing.TheVariants as standing
use Rattle.pt_machine_state.specs.declared.machine.Stride.{Stride}
use Rattle.pt_machine_state.specs.declared.writes.Writes.{Writes}
use Rattle.pt_machine_state.specs.Blocks.{IsBlockOf, AreBlocksOf, block_at}
use Rattle.pt_machine_state.specs.Views.{Bare, Beside, IsPlain, AllWait, IsPlaced, HasOwnNames, block_of, run_in, run_of, stores_of}
use Rattle.pt_machine_state.specs.Strode.{Strode}

-- a run whose newest activation has come from an instruction, with the slots that this has left: what asks, what is kept beside the machine, and
-- the state in which the instruction began
pub record Asking : Type 0 where
  pub program : Program
  pub code : CodeBlocks Value
  pub ins : Ins
  pub ask : Ask Value
  pub beside : Beside
  pub before : State Value

abbrev pub object_of : Asking → Machine → CodeObject Value
object_of q m = q.code.object (block_of m.here)

abbrev pub run_at : Asking → Machine → Bare
run_at q m = run_in q.program q.before m q.beside

-- the machine stands at the instruction of a block that it knows, whose ask tells an exception plainly
pub record Stands (blocks : Blocks) (block : BlockCode) (next : Pc) (m : Machine) (q : Asking) : Type 0 where
  pub blocks_known : AreBlocksOf q.program q.code blocks
  pub known : IsBlockOf q.program q.code (block_of m.here) block
  pub there : (object_of q m).at m.here.pc.0 ≡ Some q.ins
  pub next_is : q.ins.next ≡ next.0
  pub at_place : m.standing ≡ standing.AtPlace
  pub plain : IsPlain q.ask
  pub waiting : AllWait q.program q.code (block_of m.here) m.frames.activations q.beside.waiting
  pub placed : IsPlaced q.program m.here

-- where that leads the machine went: from a run that is that of the machine but for names and world, which are stored first
abbrev pub LedTo : HeapSuccessor → Asking → Stride → (old : Machine) (written : Writes) → (new : Machine) (writes : Writes) → Type 0
LedTo reached q r old written new writes =
    (s : Bare) → with_store (stores_of q.program old) s ≡ run_at q old
    → Strode q.program q.code (lead (machine q.code) (heap_host q.program) q.ask reached s) r written new writes

abbrev pub here_at : Asking → Machine → Here Value
here_at q m = here_of (machine q.code) (heap_host q.program) (run_at q m)

-- the machine did what the instruction came to
unfoldable pub Applied : Blocks → BlockCode → (next : Pc) → Progress → Stride → (old : Machine) (written : Writes) → (new : Machine) (writes : Writes) → Type 0
Applied blocks block next p r old written new writes =
    (q : Asking) → Stands blocks block next old q → IfActive p (active_at q.before ≡ active_in old.here.slots)
    → LedTo (told q.program (object_of q old) q.ins (here_at q old) p (slots_view old.here.slots) (stores_of q.program old)) q r old written new writes

-- a block that is run neither for a class nor for another value, and decides nothing, gives the value of its call
abbrev pub IsGiven : Purpose → Type 0
IsGiven purpose.Result = Unit {0}
IsGiven (purpose.Resume generator) = Unit {0}
IsGiven (purpose.Answer hook event block act args pending) = Unit {0}
IsGiven why = ⊥

-- a class on a base, by the name of its block and by the names that its body has bound
abbrev pub class_of : Blocks → (closed : Activation) → (base : ObjId) → Object
class_of blocks a b = class_with (block_at blocks (block_of a)).name b (bound_entries [] (bindings_of a.names))

-- what a block that closed gave was taken for a purpose: the machine went where that leads
abbrev pub given_by : Program → Activation → Value → BlockResult Names Value
given_by program a v = record { end = gave v; names = names_view (program.facts (block_of a)) a }

unfoldable pub Takes : Blocks → BlockCode → (next : Pc) → (closed : Activation) → Purpose → (given : Value) → Stride → (old : Machine) (written : Writes) → (new : Machine) (writes : Writes) → Type 0
Takes blocks block next a why v r old written new writes =
    (q : Asking) → Stands blocks block next old q → active_at q.before ≡ active_in old.here.slots → HasOwnNames q.program a
    → LedTo (resumed q.program (object_of q old) q.ins (q.program.facts (block_of a)) why (slots_view old.here.slots) (given_by q.program a v) (here_at q old)
    (stores_of q.program old)) q r old written new writes

-- the machine did the stride of a run that is at the end of a block
unfoldable pub Closes : Blocks → Stride → (old : Machine) (written : Writes) → (new : Machine) (writes : Writes) → Type 0
Closes blocks r old written new writes =
    (program : Program) (code : CodeBlocks Value) (n : ℕ) (x : Beside) → AreBlocksOf program code blocks → HasOwnNames program old.here
    → AllWait program code (block_of old.here) old.frames.activations x.waiting
    → Strode program code (stride_of (machine code) (heap_host program) n (run_of program old x)) r written new writes
