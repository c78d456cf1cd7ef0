-- Texts that are scripts, in code that is told of its slots: a script alone, and a program, whose
-- hidden blocks are those of a text of their own, the prelude.
use Rattle.std.specs.Prelude.{◌≡◌, ℕ, List, slice_get, if◌then◌else◌, Option, Some}
use Rattle.pt_tree.specs.Syntax.{Stms}
use Rattle.pt_tree.specs.Blocks.{Block, blocks_script}
use Rattle.pt_code.specs.declared.CodeBlock.{CodeBlock}
use Rattle.pt_code.specs.View.{Ins, IsView}
use Rattle.sem_code.specs.slots.CodeObject.{CodeObject}
use Rattle.sem_fits.specs.fits.Block as F
use Rattle.sem_fits.specs.fits.Fits.{TooDeep}
use Rattle.sem_compile.specs.compile.ScriptCode.{code_of}
use Rattle.sem_run.specs.run.Machine.{BlockId, Machine}
use Rattle.sem_run.specs.run.Source as control
use Rattle.sem_run.specs.run.Source.{Source}
use Rattle.law_code_runs.specs.code_run.CodeMachine as coded
use Rattle.law_code_runs.specs.code_run.CodeMachine.{CodeSource}
use Rattle.pt_front.specs.Text.{IsScript}
use Rattle.law_jumps.specs.law_compile.script_objects.Laws.{HasCode}
use Rattle.law_jumps.specs.law_compile.script_runs.Blocks.{script_code, script_trees, number_of}
use Rattle.law_jumps.specs.law_code_jumps.jump_answers.Known.{SlotsKnown, KnowsCode}
use Rattle.law_jumps.specs.law_code_jumps.told_code.Told.{told_code}

-- a script with an object for each of its blocks and what is known of its slots, by their numbers
pub record TextCode (V : Type 0) : Type 0 where
  pub script : Stms
  pub object : ℕ → CodeObject V
  pub known : ℕ → SlotsKnown

-- it is that of a text, over values with this None. No place gets more slots than an activation
-- holds
pub record IsCodeOfText {V : Type 0} (null : V) (text : List ℕ) (t : TextCode V) : Type 0 where
  pub is_script : IsScript text t.script
  pub of_blocks : (n : ℕ) (block : Block) → slice_get (blocks_script t.script) n ≡ Some block
      → HasCode null t.script n block (t.object n)
  pub known_so : KnowsCode (code_of t.script) t.known
  pub shallow : (n : ℕ) (b : CodeBlock) → slice_get (code_of t.script).blocks n ≡ Some b
      → (view : ℕ → Option Ins) → IsView b view
      → TooDeep (F.block_of (code_of t.script) b view) → ⊥

-- its blocks in code, which are told of their slots
abbrev pub text_code : {V : Type 0} → TextCode V → CodeSource V
text_code t =
    told_code (script_code t.script t.object)
    (λ b. slice_get (code_of t.script).blocks (number_of t.script b))
    (λ b. t.known (number_of t.script b))

-- a program: the hidden blocks are the prelude's
pub record ProgramCode (V : Type 0) : Type 0 where
  pub prelude : TextCode V
  pub script : TextCode V

module _ {V : Type 0} (p : ProgramCode V) where
  -- the text of a block
  abbrev pub text_of : BlockId → TextCode V
  text_of b = if b.hidden then p.prelude else p.script

  -- each block by its own text: its tree and what control knows around it, and its code
  abbrev pub program_trees : (null : V) → Source V
  program_trees null = record {
    code = λ b. (script_trees (text_of b).script null).code b;
    around = λ b. (script_trees (text_of b).script null).around b;
  }

  abbrev pub program_code : CodeSource V
  program_code = record {
    object = λ b. (text_code (text_of b)).object b;
    iterates = λ b. (text_code (text_of b)).iterates b;
    jump = λ b. (text_code (text_of b)).jump b;
    acts = λ b. (text_code (text_of b)).acts b;
    most_turns = λ b. (text_code (text_of b)).most_turns b;
  }

-- the machines of the run, of a script and of a program
abbrev pub told_machine : {V : Type 0} → TextCode V → Machine (coded.Position V) V
told_machine t = coded.machine (text_code t)

abbrev pub program_machine : {V : Type 0} → (null : V) → ProgramCode V
    → Machine (control.Position V) V
program_machine null p = control.machine (program_trees p null)

abbrev pub program_code_machine : {V : Type 0} → ProgramCode V → Machine (coded.Position V) V
program_code_machine p = coded.machine (program_code p)

-- both texts of a program have their code
pub record IsCodeOfProgram {V : Type 0} (null : V) (prelude script : List ℕ) (p : ProgramCode V)
    : Type 0 where
  pub of_prelude : IsCodeOfText null prelude p.prelude
  pub of_script : IsCodeOfText null script p.script
