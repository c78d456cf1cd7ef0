-- A code that has a file, fits and is supported is ready to run, and its run is that of its code objects.
use Rattle.std.proofs.Common.{◌≡◌, ℕ, Bool, true, false, [], Result, Ok, Err, refl, sym, subst, ◌<◌, length}
use Rattle.std.specs.Prelude.{IfOk, IfErr}
use Rattle.pt_base.specs.Taken.{Pieces}
use Rattle.std.proofs.lemmas.Option.{slice_get_within}
use Rattle.pt_code.specs.declared.Code.{Code}
use Rattle.pt_code.specs.File.{HasFile}
use Rattle.law_files.specs.operands_fit.Laws.{CellsFit}
use Rattle.pt_machine_state.specs.pt_code_facts.sem_rows.pt_host.HeapHost.{heap_host}
use Rattle.pt_machine_state.specs.pt_code_facts.sem_rows.pt_host.Calls.{module_names, module_world}
use Rattle.pt_bare_runs.specs.Strides as bare
use Rattle.sem_code_machine.specs.code_machine.CodeBlocks.{machine}
use Rattle.pt_machine_state.specs.declared.machine.Machine.{Machine}
use Rattle.pt_machine_state.specs.Views.{run_of}
use Rattle.pt_machine_state.specs.Writing.{kept}
use Rattle.law_loading.specs.pt_code_loader.declared.loading.Loaded.{Loaded}
use Rattle.law_loading.specs.pt_code_loader.Loaded.{IsLoadedProgram}
use Rattle.law_loading.specs.pt_code_loader.Starting.{Begins, at_start}
use Rattle.pt_runner.specs.declared.ending.Ended.{Ended}
use Rattle.pt_runner.specs.Runs.{IsReady, ModuleRun}
use Rattle.pt_runner.specs.Runs as coded
use Rattle.pt_sinks.specs.Writing.{TookFront}
use Rattle.pt_sinks.specs.declared.writing.WriteErr.{WriteErr}
use Rattle.pt_sinks.specs.declared.writing.WriteErr.TheVariants as error
use Rattle.pt_sinks.proofs.WritingLemmas.{took_nothing, front_of_all}
use Rattle.law_loading.specs.code_program.CodeProgram.{code_blocks, program_of_code, the_module}
use Rattle.law_loading.specs.code_program.Laws.{HasCodeTables, IsRunnable}
use Rattle.law_loading.proofs.code_program.Objects.{the_first}
use Rattle.law_loading.proofs.code_program.Tables.{loaded_code_has_tables}
use Rattle.law_loading.proofs.code_program.Operands.{built_code_names_its_blocks, run_begins_with_names}
use Rattle.law_loading.proofs.code_program.Runs.{built_code_is_never_stuck}
use Rattle.pt_run_code.specs.CodeRun.{CodeBrokeOff, CodeFinished, nothing, of_run}

none_kept : (events : Bool) → kept events [] ≡ []
none_kept true = refl
none_kept false = refl

pub has_blocks : (c : Code) → HasFile c → 0 < length c.blocks
has_blocks c has = let first = the_first c has in slice_get_within c.blocks 0 first.0 first.1

module _ (prelude c : Code) (first : IsRunnable prelude) (ready : IsRunnable c) (l : Loaded) (loaded : IsLoadedProgram prelude c l)
    (room : CellsFit prelude × CellsFit c) where
  tables : HasCodeTables prelude c l
  tables = loaded_code_has_tables prelude c l first ready loaded

  -- the run of the code
  pub code_run : ModuleRun
  code_run = record {
    program = program_of_code prelude c;
    code = code_blocks prelude c tables.object;
    block = the_module;
    names = module_names (program_of_code prelude c);
    world = module_world (program_of_code prelude c);
  }

  -- it begins where the machine is
  starts : (m : Machine) → Begins l m
      → run_of (program_of_code prelude c) m at_start
      ≡ bare.start (machine (code_blocks prelude c tables.object)) (heap_host (program_of_code prelude c)) the_module (module_names (program_of_code prelude c)) (module_world (program_of_code prelude c))
  starts m begins = begins (program_of_code prelude c) (code_blocks prelude c tables.object) tables.tables tables.texts

  pub is_ready : (m : Machine) → Begins l m → m.frames.activations ≡ [] → m.here.names ≡ [] → (n : ℕ) → IsReady l.tables n m code_run
  unfolding code_run
  is_ready m begins alone plain n = record {
    tables_are = tables.tables;
    beside = at_start;
    starts = starts m begins;
    none_waits = alone;
    no_names = plain;
    names_blocks = built_code_names_its_blocks prelude c tables.object first ready tables.are;
    has_names = run_begins_with_names prelude c ready;
    never_stuck = built_code_is_never_stuck prelude c tables.object first ready tables.are n;
  }

  module _ (n : ℕ) (events : Bool) (out_old out_new log_old log_new : Pieces → Pieces → Type 0) where
    finished : (x : Ended) → coded.Finished code_run n events x out_old out_new log_old log_new → CodeFinished prelude c n events out_old out_new log_old log_new x
    unfolding code_run
    finished x f = record {
      outcome = f.outcome;
      work = f.work;
      runs = record { cells_fit = room; object = tables.object; are_objects = tables.are; does = f.does };
      units = f.units;
      instructions = f.instructions;
      depth = f.depth;
      ends = f.ends;
      took = f.took;
    }

    broke_off : (why : WriteErr) → coded.BrokeOff code_run n events out_old out_new log_old log_new why
        → CodeBrokeOff prelude c n events out_old out_new log_old log_new why
    unfolding code_run
    broke_off why b = record { written = b.written; first = of_run b.written room tables.object tables.are b.writes_first; took = b.took }

    -- what the run of code says of each run that is ready
    module _ (m : Machine) (stands : IsReady l.tables n m code_run) where
      pub all_finished : (x : Result Ended WriteErr)
          → IfOk x (λ e. (r : ModuleRun) → IsReady l.tables n m r → coded.Finished r n events e out_old out_new log_old log_new)
          → IfOk x (CodeFinished prelude c n events out_old out_new log_old log_new)
      all_finished (Ok e) says = finished e (says code_run stands)
      all_finished (Err e) says = tt

      pub all_broke_off : (x : Result Ended WriteErr)
          → IfErr x (λ why. (r : ModuleRun) → IsReady l.tables n m r → coded.BrokeOff r n events out_old out_new log_old log_new why)
          → IfErr x (CodeBrokeOff prelude c n events out_old out_new log_old log_new)
      all_broke_off (Ok e) says = tt
      all_broke_off (Err e) says = broke_off e (says code_run stands)

-- nothing is written before the run
pub broke_off_at_once : (prelude c : Code) (n : ℕ) (events : Bool) (out_old out_new log_old log_new : Pieces → Pieces → Type 0)
    → ((g h : Pieces) → out_old g h → out_new g h) → ((g h : Pieces) → log_old g h → log_new g h)
    → CodeBrokeOff prelude c n events out_old out_new log_old log_new error.Memory
broke_off_at_once prelude c n events out_old out_new log_old log_new a b = record {
  written = [];
  first = nothing;
  took = subst (TookFront out_old out_new log_old log_new error.Memory) (sym (none_kept events))
      (front_of_all out_old out_new log_old log_new [] (took_nothing out_old out_new log_old log_new a b));
}
