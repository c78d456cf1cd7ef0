-- What the laws say of the code of a supported script that has a file: it is supported, and run over the code of a prelude as the script is over the prelude.
use Rattle.std.specs.Prelude.{◌≡◌, ℕ, List, slice_get, Option, Some}
use Rattle.pt_tree.specs.Syntax.{Stms}
use Rattle.sem_run.specs.run.Run.{Write}
use Rattle.pt_bare_runs.specs.Strides.{Outcome}
use Rattle.pt_heap.specs.declared.value.Value.{Value}
use Rattle.sem_fits.specs.fits.Fits.{AllFit}
use Rattle.sem_rows.specs.pt_host.World.{World}
use Rattle.pt_supported.specs.Built.{Built}
use Rattle.pt_front.specs.Text.{IsScript}
use Rattle.pt_code.specs.declared.CodeBlock.{CodeBlock}
use Rattle.pt_code.specs.declared.Code.{Code}
use Rattle.pt_code.specs.File.{HasFile}
use Rattle.pt_code.specs.View.{Ins, IsView}
use Rattle.law_typed_pieces.specs.law_operands.law_files.sem_compile.compile.ScriptCode.{code_of}
use Rattle.sem_fits.specs.fits.Block.{block_of}
use Rattle.pt_supported_code.specs.Built.{BuiltCode}
use Rattle.pt_prog.specs.pt_run_script.pt_run_code.pt_runner.Work.{Work}
use Rattle.pt_prog.specs.pt_run_script.pt_run_code.pt_code_loader.Loaded.{IsShallow}
use Rattle.pt_prog.specs.pt_run_script.pt_run_code.law_loading.script_program.ScriptProgram.{program_of}
use Rattle.pt_prog.specs.pt_run_script.pt_run_code.law_loading.code_program.CodeProgram.{program_of_code}
use Rattle.pt_prog.specs.pt_run_script.pt_run_code.law_loading.code_program.Laws.{IsRunnable}
use Rattle.pt_prog.specs.pt_run_script.pt_run_code.CodeRun.{CodeRunsTo, CodeWritesFirst}
use Rattle.pt_prog.specs.pt_run_script.ScriptRun.{CodeRunsBy, RunsTo, ScriptWritesFirst}

-- the text is this script, which is supported, and its code has a file
pub record HasCodeFile (text : List ℕ) (ss : Stms) : Type 0 where
  pub is_script : IsScript text ss
  pub is_built : Built ss
  pub has_file : HasFile (code_of ss)

-- no place of any of its blocks gets more slots than an activation holds
abbrev pub IsShallowCode : Code → Type 0
IsShallowCode c = (n : ℕ) (b : CodeBlock) → slice_get c.blocks n ≡ Some b → (view : ℕ → Option Ins) → IsView b view → IsShallow (block_of c b view)

-- none of its blocks is unsupported
abbrev pub CodeIsSupported : Type 0
CodeIsSupported = (text : List ℕ) (ss : Stms) → HasCodeFile text ss → BuiltCode (code_of ss)

-- so it is run where it isn't too deep
abbrev pub ShallowCodeIsRunnable : Type 0
ShallowCodeIsRunnable = (text : List ℕ) (ss : Stms) → HasCodeFile text ss → IsShallowCode (code_of ss) → IsRunnable (code_of ss)

-- a prelude and a script, both of which are such
pub record HaveCodeFiles (prelude ss : Stms) : Type 0 where
  pub prelude_text : List ℕ
  pub of_prelude : HasCodeFile prelude_text prelude
  pub script_text : List ℕ
  pub of_script : HasCodeFile script_text ss

-- a host knows the same of their code as of them
abbrev pub CodeHasOneProgram : Type 0
CodeHasOneProgram = (prelude ss : Stms) → HaveCodeFiles prelude ss → program_of_code (code_of prelude) (code_of ss) ≡ program_of prelude ss

-- where the code of both, as `run` has it, comes to an outcome by some work, so does the code that is read
abbrev pub CodeRunsAsScript : Type 0
CodeRunsAsScript = (prelude ss : Stms) → HaveCodeFiles prelude ss → (n : ℕ) (o : Outcome Value World) (w : Work) → CodeRunsBy prelude ss n o w
    → IsRunnable (code_of prelude) × (IsRunnable (code_of ss) × CodeRunsTo (code_of prelude) (code_of ss) n o w)

-- and the other way round
abbrev pub ScriptRunsAsCode : Type 0
ScriptRunsAsCode = (prelude ss : Stms) → HaveCodeFiles prelude ss → AllFit (code_of prelude) → AllFit (code_of ss) → (n : ℕ) (o : Outcome Value World)
    (w : Work) → CodeRunsTo (code_of prelude) (code_of ss) n o w → RunsTo prelude ss n o × CodeRunsBy prelude ss n o w

-- what the run of the code writes first the script writes first, whether or not it comes to an outcome
abbrev pub ScriptWritesAsCode : Type 0
ScriptWritesAsCode = (prelude ss : Stms) → HaveCodeFiles prelude ss → (n : ℕ) (ws : List Write) → CodeWritesFirst (code_of prelude) (code_of ss) n ws
    → ScriptWritesFirst prelude ss n ws
