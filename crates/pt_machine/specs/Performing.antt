-- When what the machine does at an instruction is the row of that.
use Rattle.std.specs.Prelude.{◌≡◌, ◌≤◌, ◌⊎◌, ◌++◌, length}
use Rattle.pt_instr.specs.declared.Instr.{Instr}
use Rattle.pt_instr.specs.declared.Instr.TheVariants as instr
use Rattle.pt_heap.specs.declared.value.Value.{Value}
use Rattle.pt_code.specs.View.{Ins}
use Rattle.pt_code_tables.specs.pt_builtins.pt_host.World.{Program}
use Rattle.sem_code_machine.specs.code_machine.CodeBlocks.{CodeBlocks}
use Rattle.pt_code_tables.specs.pt_machine_state.pt_code_facts.sem_rows.declared.heap_rows.progress.Progress.{Progress}
use Rattle.pt_code_tables.specs.pt_machine_state.pt_code_facts.sem_rows.heap_rows.Told.{KeepsActive}
use Rattle.pt_code_tables.specs.pt_machine_state.declared.machine.Machine.{Machine}
use Rattle.pt_code_tables.specs.pt_machine_state.declared.blocks.BlockCode.{BlockCode}
use Rattle.pt_code_tables.specs.pt_machine_state.declared.machine.Stride.{Stride}
use Rattle.pt_code_tables.specs.pt_machine_state.declared.writes.Writes.{Writes}
use Rattle.pt_code_tables.specs.pt_machine_state.Applies.{Applied}
use Rattle.pt_code_tables.specs.pt_machine_state.Views.{active_of, block_of}
use Rattle.pt_places.specs.declared.places.Place.{Place}
use Rattle.pt_code_tables.specs.pt_machine_state.Laws.{RowDone, again_of, behind_row, IsRow}
use Rattle.pt_code_tables.specs.declared.tables.CodeTables.{CodeTables}
use Rattle.pt_code_tables.specs.Tables.{AreTablesOf}
use Rattle.law_frames.specs.Operands.{OperandsName}

-- what an instruction came to, with what is left of the machine
abbrev pub row_done : Progress → Machine → RowDone
row_done p m = record {
  progress = p;
  slots = m.here.slots;
  locals = m.here.locals;
  cells = m.here.cells;
  names = m.here.names;
  globals = m.frames.globals;
  frame_cells = m.frames.cells;
  heap = m.heap;
}

-- the instruction names what its block has, and the newest activation has a place for each name of its block
pub record NamesPlaces (program : Program) (code : CodeBlocks Value) (j : Instr) (m : Machine) : Type 0 where
  pub operands : OperandsName (program.facts (block_of m.here)) (code.object (block_of m.here)).pool j
  pub locals : length (program.facts (block_of m.here)).locals ≤ length m.here.locals
  pub cells : length ((program.facts (block_of m.here)).cells ++ (program.facts (block_of m.here)).frees) ≤ length m.here.cells

-- in all code of which the tables are that is the row of the instruction, if it names places
unfoldable pub IsRowIn : CodeTables → Instr → Progress → (old new : Machine) → Type 0
IsRowIn tables j p old new =
    (program : Program) (code : CodeBlocks Value) → AreTablesOf program code tables → NamesPlaces program code j old → (i : Ins) → i.instr ≡ j
    → IsRow program code i (row_done p new) old

-- the machine did the row of the instruction and nothing else, and has as many places for local names as before
pub record Performs (tables : CodeTables) (j : Instr) (p : Progress) (old new : Machine) : Type 0 where
  pub rest : new ≡ behind_row (row_done p new) old
  pub active : KeepsActive p old.here.slots new.here.slots
  pub row : IsRowIn tables j p old new
  pub places : length new.here.locals ≡ length old.here.locals

-- what stands at a place was done: `raise` alone comes to the exception that is active, and changes nothing
abbrev pub Does : CodeTables → Instr → Progress → (old new : Machine) → Type 0
Does tables j p old new =
    ((j ≡ instr.RaiseAgain → ⊥) × Performs tables j p old new) ⊎ ((j ≡ instr.RaiseAgain) × ((p ≡ again_of (active_of old)) × (new ≡ old)))

-- the machine did what stands at a place of a block, and went on where that leads
pub record GoesOn (tables : CodeTables) (block : BlockCode) (place : Place) (r : Stride) (old : Machine) (written : Writes) (new : Machine) (writes : Writes) : Type 0 where
  pub progress : Progress
  pub mid : Machine
  pub done : Does tables place.instr progress old mid
  pub applied : Applied tables.blocks block place.next progress r mid written new writes
