-- How runs end, as the run of code tells it.
use Rattle.std.specs.Prelude.{◌≡◌, ℕ, List, false}
use Rattle.pt_base.specs.declared.numbers.Line.{Line}
use Rattle.pt_base.specs.declared.what.What.TheVariants.{Exit}
use Rattle.pt_heap.specs.declared.value.Value.{Value}
use Rattle.sem_run.specs.run.Host as H
use Rattle.sem_run.specs.run.Host.{Leaving}
use Rattle.pt_bare_runs.specs.Strides as bare
use Rattle.pt_bare_runs.specs.Strides.{Ending}
use Rattle.sem_rows.specs.pt_host.World.{Program, World}
use Rattle.sem_rows.specs.pt_host.Leaving.{leaving}
use Rattle.pt_tracebacks.specs.Summaries.{summaries}
use Rattle.pt_tracebacks.specs.declared.summary.ExceptionSummary.{ExceptionSummary}
use Rattle.sem_rows.specs.heap_rows.Views.{world_view}
use Rattle.pt_transfers.specs.pt_machine_state.Blocks.{block_at}
use Rattle.pt_transfers.specs.pt_machine_state.declared.machine.Machine.{Machine}
use Rattle.pt_transfers.specs.pt_machine_state.declared.machine.MachineEnd.{MachineEnd}
use Rattle.pt_transfers.specs.pt_machine_state.declared.machine.MachineEnd.TheVariants as machine
use Rattle.pt_machine.specs.pt_code_tables.declared.tables.CodeTables.{CodeTables}
use Rattle.pt_runner.specs.declared.ending.RunEnd.{RunEnd}
use Rattle.pt_runner.specs.declared.ending.RunEnd.TheVariants as end

-- the name of a block by its number, as a program has it (`co_name`), and as its tables have it
abbrev pub block_name : Program → ℕ → List ℕ
block_name program = λ n. (program.facts (record { hidden = false; number = n })).name

abbrev pub table_name : CodeTables → ℕ → List ℕ
table_name tables = λ n. (block_at tables.blocks (record { hidden = false; number = n })).name

-- the end of a run by an exception that leaves the module, in whose frame this line stands; so much is told of it and of those that are reported with it
abbrev pub end_by : Line → List ExceptionSummary → Leaving → RunEnd
end_by line told (H.exits n x) = end.Exited n x
end_by line told H.exits_oddly = end.Outside Exit line
end_by line told (H.fails es) = end.Raised told

-- over the names of blocks
module _ (name : ℕ → List ℕ) where
  -- the end of a run that the machine came to
  abbrev pub end_of : MachineEnd → Machine → RunEnd
  end_of machine.Done m = end.Done
  end_of (machine.Left v line) m = end_by line (summaries name m.heap v) (leaving v (world_view m.frames m.heap))
  end_of machine.Spent m = end.Spent
  end_of (machine.Outside what line) m = end.Outside what line

  -- the run ends so
  abbrev pub IsEnding : RunEnd → Ending Value World → Type 0
  IsEnding end.Done bare.done = Unit {0}
  IsEnding (end.Exited status text) (bare.exited n x) = (n ≡ status) × (x ≡ text)
  IsEnding (end.Raised told) (bare.raised v w) = told ≡ summaries name w.heap v
  IsEnding end.Spent bare.spent = Unit {0}
  IsEnding (end.Outside what line) (bare.outside_at w l) = (w ≡ what) × (l ≡ line.0)
  IsEnding e f = ⊥
