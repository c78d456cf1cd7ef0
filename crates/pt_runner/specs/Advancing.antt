-- One stride of a run of code, with what it writes.
use Rattle.std.specs.Prelude.{◌≡◌, ℕ, List, Bool, true, false, Option, Some, None, min, max, ◌+◌, ◌-◌, ◌^◌, length}
use Rattle.pt_base.specs.Taken.{Pieces}
use Rattle.pt_heap.specs.declared.value.Value.{Value}
use Rattle.sem_code.specs.slots.Slots.{State}
use Rattle.sem_run.specs.run.Run.{Write}
use Rattle.sem_rows.specs.pt_host.World.{Names, World, Program}
use Rattle.sem_rows.specs.pt_host.HeapHost.{heap_host}
use Rattle.pt_bare_runs.specs.Strides as bare
use Rattle.pt_bare_runs.specs.Strides.{Ending, goes, ends, is_stuck, stride}
use Rattle.pt_bare_writes.specs.Fronts.{WritesFirst}
use Rattle.pt_sinks.specs.Writing.{Took, TookFront}
use Rattle.pt_sinks.specs.declared.writing.WriteErr.{WriteErr}
use Rattle.sem_rows.specs.sem_code_machine.code_machine.CodeBlocks.{CodeBlocks, machine}
use Rattle.pt_frames.specs.declared.activation.Activation.{Activation}
use Rattle.pt_transfers.specs.pt_machine_state.declared.machine.Machine.{Machine}
use Rattle.pt_transfers.specs.pt_machine_state.declared.machine.Standing.{Standing}
use Rattle.pt_transfers.specs.pt_machine_state.declared.machine.Standing.TheVariants as standing
use Rattle.pt_transfers.specs.pt_machine_state.Views.{Bare, Beside, AllWait, IsPlaced, block_of, run_of}
use Rattle.pt_transfers.specs.pt_machine_state.Strode.{ComesTo}
use Rattle.pt_transfers.specs.pt_machine_state.Writing.{kept}
use Rattle.pt_machine.specs.pt_code_tables.declared.tables.CodeTables.{CodeTables}
use Rattle.pt_machine.specs.pt_code_tables.Tables.{AreTablesOf}
use Rattle.pt_machine.specs.Strides.{MachineHasNames}
use Rattle.pt_runner.specs.declared.ending.RunEnd.{RunEnd}
use Rattle.pt_runner.specs.declared.ending.RunEnd.TheVariants as end
use Rattle.pt_runner.specs.declared.ending.Totals.{Totals}
use Rattle.pt_runner.specs.Ends.{IsEnding, block_name}
use Rattle.pt_runner.specs.Work.{work_at}

-- a place of a run: its program and code, and what it keeps beside the machine
pub record Point : Type 0 where
  pub program : Program
  pub code : CodeBlocks Value
  pub beside : Beside

abbrev pub stride_at : (n : ℕ) → Point → Machine → bare.Stride (State Value) Names Value World
stride_at n p m = stride (machine p.code) (heap_host p.program) n (run_of p.program m p.beside)

-- the machine stands there: the tables are those of the code, the newest activation has its names, what waits in the machine waits in the run, and the
-- run isn't stuck
pub record StandsAt (tables : CodeTables) (n : ℕ) (m : Machine) (p : Point) : Type 0 where
  pub tables_are : AreTablesOf p.program p.code tables
  pub names : MachineHasNames p.program p.code m
  pub waits : AllWait p.program p.code (block_of m.here) m.frames.activations p.beside.waiting
  pub not_stuck : stride_at n p m ≡ is_stuck → ⊥

module _ (n : ℕ) (events : Bool) (p : Point) (old : Machine) where
  module _ (new : Machine) (out_old out_new log_old log_new : Pieces → Pieces → Type 0) where
    -- the run goes on, perhaps by one stride more that writes nothing, to where the machine stands
    pub record WentOn : Type 0 where
      pub written : List Write
      pub state : Bare
      pub goes_on : stride_at n p old ≡ goes written state
      pub beside : Beside
      pub comes : ComesTo p.program p.code state (run_of p.program new beside)
      pub waits : AllWait p.program p.code (block_of new.here) new.frames.activations beside.waiting
      pub placed : IsPlaced p.program new.here
      pub took : Took out_old out_new log_old log_new (kept events written)

    pub record CameToEnd (e : RunEnd) : Type 0 where
      pub written : List Write
      pub units : ℕ
      pub ending : Ending Value World
      pub is_end : stride_at n p old ≡ ends written units ending
      pub units_are : units ≡ new.units
      pub ends_so : IsEnding (block_name p.program) e ending
      pub took : Took out_old out_new log_old log_new (kept events written)

    abbrev pub Advanced : Option RunEnd → Type 0
    Advanced None = WentOn
    Advanced (Some e) = CameToEnd e

  module _ (out_old out_new log_old log_new : Pieces → Pieces → Type 0) where
    -- of what the stride writes a front was taken
    pub record BrokeOffAt (why : WriteErr) : Type 0 where
      pub written : List Write
      pub writes_first : WritesFirst (machine p.code) (heap_host p.program) n (stride_at n p old) written
      pub took : TookFront out_old out_new log_old log_new why (kept events written)

-- how many slots lie where an instruction is next, if one is
abbrev pub next_over : Standing → Activation → Option ℕ
next_over standing.AtPlace a = Some (length a.slots)
next_over s a = None

-- the run ended since no act might begin any more
abbrev pub stopped_spent : Option RunEnd → Bool
stopped_spent (Some end.Spent) = true
stopped_spent stop = false

-- what was taken so far, behind a stride from where an instruction was next over so many slots, if one was
abbrev pub counted : (next : Option ℕ) → (is_spent : Bool) → (units : ℕ) → Totals → Totals
counted next is_spent units t = let w = work_at next is_spent in record {
  acts = units;
  instructions = min (t.instructions + w.instructions) (2 ^ 64 - 1);
  depth = max t.depth w.depth;
}
