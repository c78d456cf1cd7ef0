-- What laws say of code that is told of its slots, and of the run of code that fits, with jumps.
use Rattle.std.specs.Prelude.{◌≡◌, ℕ, Option, Some}
use Rattle.pt_instr.specs.Effects.{Kinds}
use Rattle.pt_code.specs.declared.CodeBlock.{CodeBlock}
use Rattle.pt_code.specs.declared.Code.{Code}
use Rattle.pt_code.specs.View.{Ins}
use Rattle.sem_fits.specs.fits.Block.{Block, block_of}
use Rattle.sem_fits.specs.fits.Places.{Gets}
use Rattle.sem_fits.specs.fits.Fits.{Fits}
use Rattle.sem_fits.specs.fits.Laws.{Runs, Starts}
use Rattle.sem_fits.specs.fits.Jumps.{Answer, Jumps}
use Rattle.sem_run.specs.run.Host.{Host}
use Rattle.sem_run.specs.run.Laws.{NeverHalts, session}
use Rattle.sem_run.specs.run.Machine.{BlockId}
use Rattle.sem_run.specs.run.Run.{Debugger}
use Rattle.sem_code_machine.specs.code_machine.CodeBlocks.{CodeBlocks}
use Rattle.pt_bare_code.specs.law_code_runs.code_run.CodeMachine.{Place, CodeSource, start_of, machine}
use Rattle.pt_bare_code.specs.law_code_runs.code_run.Parts.{jump_of_answer}
use Rattle.law_code_jumps.specs.jump_answers.Known.{SlotsKnown, KnowsSlots}
use Rattle.law_code_jumps.specs.told_code.Told.{told_code}

-- the machine of code jumps as is said of slots
abbrev pub JumpsBySlots : {V : Type 0} → CodeSource V → BlockId → Block → Type 0
JumpsBySlots {V = V} code b block = (p : Place V) (ks : Kinds) (line : ℕ) (a : Answer)
    → Gets block block.size p.pc ks → Jumps block p.pc ks line a
    → code.jump b p line ≡ jump_of_answer a p

module _ {V : Type 0} (code : CodeSource V) where
  -- a jump from a place with these kinds is answered as is said of slots
  pub record IsAnswered (b : BlockId) (block : Block) (p : Place V) (ks : Kinds) (line : ℕ)
      : Type 0 where
    pub answer : Answer
    pub said : Jumps block p.pc ks line answer
    pub given : code.jump b p line ≡ jump_of_answer answer p

  abbrev pub AnswersJumps : BlockId → Block → Type 0
  AnswersJumps b block = (p : Place V) (ks : Kinds) (line : ℕ) → Gets block block.size p.pc ks
      → IsAnswered b block p ks line

  -- then in a block that fits the machine jumps as is said of slots
  abbrev pub AnswersAreJumps : BlockId → Block → Type 0
  AnswersAreJumps b block = Fits block → AnswersJumps b block → JumpsBySlots code b block

  -- each code object runs a block that fits and begins with an instruction, and answers jumps so
  pub record AreFitting (blocks : BlockId → Block) : Type 0 where
    pub runs : (b : BlockId) → Runs (code.object b) (blocks b)
    pub fits : (b : BlockId) → Fits (blocks b)
    pub starts : (b : BlockId) (iterator : Option V) → Starts (blocks b) (start_of code b iterator)
    pub answers : (b : BlockId) → AnswersJumps b (blocks b)

-- code that is told of its slots answers so
abbrev pub ToldCodeAnswersJumps : (V : Type 0) → Type 0
ToldCodeAnswersJumps V = (code : CodeBlocks V) (block : BlockId → Option CodeBlock)
    (known : BlockId → SlotsKnown) (b : BlockId) (file : Code) (k : CodeBlock)
    (view : ℕ → Option Ins) → block b ≡ Some k → KnowsSlots (block_of file k view) (known b)
    → AnswersJumps (told_code code block known) b (block_of file k view)

-- the run of code that fits never halts unfinished, whatever is replied, hooked in and asked, and
-- wherever is jumped
abbrev pub FittingCodeNeverHalts : (D N V W : Type 0) → Type 0
FittingCodeNeverHalts D N V W = (code : CodeSource V) (blocks : BlockId → Block)
    → AreFitting code blocks → (host : Host N V W) (ask : Debugger D N V W) (n : ℕ)
    (block : BlockId) (names : N) (world : W) (d : D)
    → NeverHalts (machine code) host ask n (session (machine code) block names world d)
