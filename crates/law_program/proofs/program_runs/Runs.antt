-- The bare runs that the program tells of are runs.
use Rattle.std.proofs.Common.{◌≡◌, ℕ, Bool, true, false, Option, refl, subst}
use Rattle.std.specs.Prelude.{slice_get}
use Rattle.std.proofs.Math.Path.{fun_ext}
use Rattle.pt_tree.specs.Syntax.{Stms}
use Rattle.sem_run.specs.run.Machine.{BlockId}
use Rattle.sem_run.specs.run.Shown.{RunsTo}
use Rattle.pt_heap.specs.declared.value.Value.{Value}
use Rattle.pt_heap.specs.declared.value.Value.TheVariants as value
use Rattle.pt_code.specs.declared.CodeBlock.{CodeBlock}
use Rattle.sem_code.specs.slots.CodeObject.{CodeObject}
use Rattle.sem_compile.specs.compile.ScriptCode as compile
use Rattle.pt_bare_runs.proofs.BareRuns.{bare_runs_are_runs}
use Rattle.pt_bare_writes.proofs.Fronting.{runs_write_it_first}
use Rattle.sem_code_machine.specs.code_machine.CodeBlocks.{machine}
use Rattle.pt_host.specs.HeapHost.{heap_host}
use Rattle.pt_host.specs.Calls.{module_names, module_world}
use Rattle.pt_prog.proofs.pt_run_script.pt_run_code.pt_runner.GoesTo.{runs_so}
use Rattle.pt_prog.specs.pt_run_script.law_compile.script_runs.Blocks.{number_of, the_module}
use Rattle.pt_prog.specs.pt_run_script.law_compile.script_runs.ProgramBlocks.{program_code, program_machine, text_of}
use Rattle.pt_prog.specs.pt_run_script.pt_run_code.law_loading.script_program.ScriptProgram.{program_of}
use Rattle.pt_prog.specs.pt_run_script.pt_run_code.law_loading.code_program.CodeProgram.{code_blocks, code_in, program_of_code}
use Rattle.pt_prog.specs.pt_run_script.pt_run_code.CodeRun as run
use Rattle.law_code_runs.specs.code_run.CodeMachine.{CodeSource}
use Rattle.law_code_runs.specs.code_run.CodeMachine as coded
use Rattle.law_code_jumps.specs.jump_answers.Known.{SlotsKnown}
use Rattle.law_code_jumps.specs.told_code.Told.{told_code}
use Rattle.law_text_code.specs.Texts as told
use Rattle.law_text_code.specs.Texts.{ProgramCode}
use Rattle.law_code_jumps.proofs.bare_runs.Turns.{code_bare_runs_are_runs, code_bare_fronts_are_fronts}
use Rattle.law_program.specs.program_runs.CodeFiles.{nothing, of_run}
use Rattle.law_program.specs.program_runs.CodeFiles as file
use Rattle.law_program.specs.program_runs.Laws.{ScriptRunsAreRuns, ScriptFrontsAreFronts, CodeOfScriptHasItsRun, CodeFileRunsAreRuns, CodeFileFrontsAreFronts}

pub script_runs_are_runs : ScriptRunsAreRuns
script_runs_are_runs prelude ss n o runs =
    let program = program_of prelude ss in
    bare_runs_are_runs (program_machine value.None prelude ss) (heap_host program) n the_module (module_names program) (module_world program) o runs

pub script_fronts_are_fronts : ScriptFrontsAreFronts
script_fronts_are_fronts prelude ss n ws first =
    let program = program_of prelude ss in
    runs_write_it_first (program_machine value.None prelude ss) (heap_host program) n the_module (module_names program) (module_world program) ws first

-- code of both that is told of its slots, by the side of each block
module _ (prelude ss : Stms) (object : (hidden : Bool) → ℕ → CodeObject Value) (known : (hidden : Bool) → ℕ → SlotsKnown) where
  abbrev number : BlockId → ℕ
  number b = number_of (text_of prelude ss b.hidden) b

  abbrev block : BlockId → Option CodeBlock
  block b = slice_get (compile.code_of (text_of prelude ss b.hidden)).blocks (number b)

  abbrev by_side : CodeSource Value
  by_side = told_code (program_code prelude ss object) block (λ b. known b.hidden (number b))

  abbrev both : ProgramCode Value
  both = record {
    prelude = record { script = prelude; object = object true; known = known true };
    script = record { script = ss; object = object false; known = known false };
  }

  abbrev at : (hidden : Bool) (n : ℕ) → BlockId
  at hidden n = record { hidden = hidden; number = n }

  same_object : (hidden : Bool) (n : ℕ) → by_side.object (at hidden n) ≡ (told.program_code both).object (at hidden n)
  same_object true n = refl
  same_object false n = refl

  same_iterates : (hidden : Bool) (n : ℕ) → by_side.iterates (at hidden n) ≡ (told.program_code both).iterates (at hidden n)
  same_iterates true n = refl
  same_iterates false n = refl

  same_jump : (hidden : Bool) (n : ℕ) → by_side.jump (at hidden n) ≡ (told.program_code both).jump (at hidden n)
  same_jump true n = refl
  same_jump false n = refl

  same_acts : (hidden : Bool) (n : ℕ) → by_side.acts (at hidden n) ≡ (told.program_code both).acts (at hidden n)
  same_acts true n = refl
  same_acts false n = refl

  same_turns : (hidden : Bool) (n : ℕ) → by_side.most_turns (at hidden n) ≡ (told.program_code both).most_turns (at hidden n)
  same_turns true n = refl
  same_turns false n = refl

  same_code : by_side ≡ told.program_code both
  same_code =
      let objects : by_side.object ≡ (told.program_code both).object = fun_ext (λ b. same_object b.hidden b.number) in
      let iterates : by_side.iterates ≡ (told.program_code both).iterates = fun_ext (λ b. same_iterates b.hidden b.number) in
      let jumps : by_side.jump ≡ (told.program_code both).jump = fun_ext (λ b. same_jump b.hidden b.number) in
      let acts : by_side.acts ≡ (told.program_code both).acts = fun_ext (λ b. same_acts b.hidden b.number) in
      let turns : by_side.most_turns ≡ (told.program_code both).most_turns = fun_ext (λ b. same_turns b.hidden b.number) in
      λ i. record { object = objects i; iterates = iterates i; jump = jumps i; acts = acts i; most_turns = turns i }

pub code_of_script_has_its_run : CodeOfScriptHasItsRun
code_of_script_has_its_run prelude ss known n o w c =
    let program = program_of prelude ss in
    let host = heap_host program in
    let names = module_names program in
    let world = module_world program in
    let blocks = program_code prelude ss c.object in
    subst (λ code. RunsTo (coded.machine code) host n the_module names world o) (same_code prelude ss c.object known)
    (code_bare_runs_are_runs blocks (block prelude ss c.object known) (λ b. known b.hidden (number prelude ss c.object known b)) host n the_module names world o
    (runs_so (machine blocks) host n the_module names world o w c.does))

pub code_file_runs_are_runs : CodeFileRunsAreRuns
code_file_runs_are_runs prelude c known n o w r =
    let program = program_of_code prelude c in
    let host = heap_host program in
    let names = module_names program in
    let world = module_world program in
    let blocks = code_blocks prelude c r.object in
    record {
      object = r.object;
      are_objects = r.are_objects;
      runs = code_bare_runs_are_runs blocks (λ b. slice_get (code_in prelude c b.hidden).blocks (file.number_of prelude c b))
          (λ b. known b.hidden (file.number_of prelude c b)) host n the_module names world o
          (runs_so (machine blocks) host n the_module names world o w r.does);
    }

pub code_file_fronts_are_fronts : CodeFileFrontsAreFronts
code_file_fronts_are_fronts prelude c known n _ run.nothing = nothing
code_file_fronts_are_fronts prelude c known n _ (run.of_run ws cells object are first) =
    let program = program_of_code prelude c in
    of_run ws object are
    (code_bare_fronts_are_fronts (code_blocks prelude c object) (λ b. slice_get (code_in prelude c b.hidden).blocks (file.number_of prelude c b))
    (λ b. known b.hidden (file.number_of prelude c b)) (heap_host program) n the_module (module_names program) (module_world program) ws first)
