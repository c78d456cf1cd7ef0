-- What laws say of the bare runs that the program tells of, beside runs in which nobody is asked and
-- nothing is traced.
use Rattle.std.specs.Prelude.{ℕ, Bool, true, false, List}
use Rattle.pt_tree.specs.Syntax.{Stms}
use Rattle.pt_heap.specs.declared.value.Value.{Value}
use Rattle.pt_heap.specs.declared.value.Value.TheVariants as value
use Rattle.pt_code.specs.declared.Code.{Code}
use Rattle.sem_code.specs.slots.CodeObject.{CodeObject}
use Rattle.sem_run.specs.run.Host.{Host}
use Rattle.sem_run.specs.run.Laws.{NeverHalts, session}
use Rattle.sem_run.specs.run.Machine.{BlockId}
use Rattle.sem_run.specs.run.Run.{Debugger, Write}
use Rattle.sem_run.specs.run.Shown as run
use Rattle.sem_run.specs.run.Shown.{Outcome}
use Rattle.pt_host.specs.HeapHost.{heap_host}
use Rattle.pt_host.specs.World.{World}
use Rattle.pt_host.specs.Calls.{module_names, module_world}
use Rattle.pt_prog.specs.pt_run_script.pt_run_code.pt_runner.Work.{Work}
use Rattle.pt_prog.specs.pt_run_script.law_compile.script_runs.Blocks.{the_module}
use Rattle.pt_prog.specs.pt_run_script.law_compile.script_runs.ProgramBlocks.{program_machine}
use Rattle.pt_prog.specs.pt_run_script.pt_run_code.law_loading.script_program.ScriptProgram.{program_of}
use Rattle.pt_prog.specs.pt_run_script.pt_run_code.law_loading.code_program.CodeProgram.{AreObjectsOf, code_in}
use Rattle.pt_prog.specs.pt_run_script.pt_run_code.CodeRun.{CodeRunsTo, CodeWritesFirst}
use Rattle.pt_prog.specs.pt_run_script.ScriptRun.{RunsTo, ScriptWritesFirst, CodeRunsBy}
use Rattle.law_code_jumps.specs.jump_answers.Known.{SlotsKnown, KnowsCode}
use Rattle.law_text_code.specs.Texts.{program_code_machine}
use Rattle.law_program.specs.code_ends.Laws.{IsVerified}
use Rattle.law_program.specs.program_runs.CodeFiles.{file_machine, HasRun, HasFront}

-- the run of a script over a prelude and the heap comes to an outcome, and writes this first
abbrev pub ScriptHasRun : (prelude ss : Stms) → (n : ℕ) → Outcome Value World → Type 0
ScriptHasRun prelude ss n o =
    run.RunsTo (program_machine value.None prelude ss) (heap_host (program_of prelude ss)) n
    the_module (module_names (program_of prelude ss)) (module_world (program_of prelude ss)) o

abbrev pub ScriptHasFront : (prelude ss : Stms) → (n : ℕ) → List Write → Type 0
ScriptHasFront prelude ss n ws =
    run.WritesFirst (program_machine value.None prelude ss) (heap_host (program_of prelude ss)) n
    the_module (module_names (program_of prelude ss)) (module_world (program_of prelude ss)) ws

-- what the program says of the bare run of a script it says of its run
abbrev pub ScriptRunsAreRuns : Type 0
ScriptRunsAreRuns = (prelude ss : Stms) (n : ℕ) (o : Outcome Value World) → RunsTo prelude ss n o
    → ScriptHasRun prelude ss n o

abbrev pub ScriptFrontsAreFronts : Type 0
ScriptFrontsAreFronts = (prelude ss : Stms) (n : ℕ) (ws : List Write)
    → ScriptWritesFirst prelude ss n ws → ScriptHasFront prelude ss n ws

-- the code of both, which is told of its slots, comes to the outcome too
abbrev pub CodeOfScriptHasItsRun : Type 0
CodeOfScriptHasItsRun = (prelude ss : Stms) (known : (hidden : Bool) → ℕ → SlotsKnown) (n : ℕ)
    (o : Outcome Value World) (w : Work) (c : CodeRunsBy prelude ss n o w)
    → run.RunsTo (program_code_machine (record {
      prelude = record { script = prelude; object = c.object true; known = known true };
      script = record { script = ss; object = c.object false; known = known false };
    })) (heap_host (program_of prelude ss)) n the_module (module_names (program_of prelude ss))
    (module_world (program_of prelude ss)) o

-- and so with the code of a file
abbrev pub CodeFileRunsAreRuns : Type 0
CodeFileRunsAreRuns = (prelude c : Code) (known : (hidden : Bool) → ℕ → SlotsKnown) (n : ℕ)
    (o : Outcome Value World) (w : Work) → CodeRunsTo prelude c n o w → HasRun prelude c known n o

abbrev pub CodeFileFrontsAreFronts : Type 0
CodeFileFrontsAreFronts = (prelude c : Code) (known : (hidden : Bool) → ℕ → SlotsKnown) (n : ℕ)
    (ws : List Write) → CodeWritesFirst prelude c n ws → HasFront prelude c known n ws

-- the run of a code file from anyone whose blocks fit, over a prelude's code that is such a one too,
-- never halts unfinished: over each host, with its hooks, tools and generators, and under each
-- debugger, wherever that jumps
abbrev pub CodeFileNeverHalts : (D N W : Type 0) → Type 0
CodeFileNeverHalts D N W = (prelude c : Code) → IsVerified prelude → IsVerified c
    → (object : (hidden : Bool) → ℕ → CodeObject Value)
    → ((hidden : Bool) → AreObjectsOf (code_in prelude c hidden) (object hidden))
    → (known : (hidden : Bool) → ℕ → SlotsKnown)
    → ((hidden : Bool) → KnowsCode (code_in prelude c hidden) (known hidden))
    → (host : Host N Value W) (ask : Debugger D N Value W) (n : ℕ) (b : BlockId) (names : N)
    (world : W) (d : D)
    → NeverHalts (file_machine prelude c object known) host ask n
    (session (file_machine prelude c object known) b names world d)
