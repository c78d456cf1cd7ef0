-- What laws say of verified code: that its tables tell what jumps ask, and that its run never halts
-- unfinished (Library Reference, "inspect": `f_lineno`).
use Rattle.std.specs.Prelude.{◌≡◌, ℕ, [], ◌∷◌, slice_get, if◌then◌else◌, Option, Some}
use Rattle.pt_instr.specs.declared.kinds.Kind.TheVariants.{Iter}
use Rattle.pt_code.specs.declared.CodeBlock.{CodeBlock}
use Rattle.pt_code.specs.declared.Code.{Code}
use Rattle.pt_code.specs.View.{Ins}
use Rattle.sem_code.specs.slots.BlockObject.{IsBlockObject}
use Rattle.sem_fits.specs.fits.Block.{Block, block_of, kinds_at_start}
use Rattle.sem_fits.specs.fits.Fits.{AllFit}
use Rattle.sem_run.specs.run.Host.{Host}
use Rattle.sem_run.specs.run.Laws.{NeverHalts, session}
use Rattle.sem_run.specs.run.Machine.{BlockId}
use Rattle.sem_run.specs.run.Run.{Debugger}
use Rattle.sem_code_machine.specs.code_machine.CodeBlocks.{CodeBlocks}
use Rattle.pt_place_slots.specs.declared.tables.BlockSlots.{BlockSlots}
use Rattle.pt_place_slots.specs.Tables.{IsSound, TellsSlotsOf}
use Rattle.pt_code_slots.specs.declared.blocks.CodeSlots.{CodeSlots}
use Rattle.pt_code_slots.specs.Blocks.{AreSound, TellsCode}
use Rattle.law_code_runs.specs.code_run.CodeMachine.{machine}
use Rattle.law_code_jumps.specs.jump_answers.Known.{SlotsKnown, KnowsSlots, KnowsCode}
use Rattle.law_code_jumps.specs.told_code.Told.{told_code}

-- the tables of a block tell what is to be known
abbrev pub TablesTellSlots : Block → BlockSlots → Type 0
TablesTellSlots b s = IsSound s → TellsSlotsOf b s → (k : SlotsKnown) × KnowsSlots b k

-- and those of a code, of each block
abbrev pub TablesTellCode : Type 0
TablesTellCode = (c : Code) (slots : CodeSlots) → AreSound slots → TellsCode c slots
    → (known : ℕ → SlotsKnown) × KnowsCode c known

-- a block of a code, by its object, which is told of its slots: it begins with an instruction, that
-- of a generator expression with its first iterator (Language Reference 6.2.8)
pub record IsInCode {V : Type 0} (c : Code) (code : CodeBlocks V)
    (block : BlockId → Option CodeBlock) (known : BlockId → SlotsKnown) (b : BlockId)
    : Type 0 where
  pub number : ℕ
  pub code_block : CodeBlock
  pub there : slice_get c.blocks number ≡ Some code_block
  pub told : block b ≡ Some code_block
  pub is_object : IsBlockObject c code_block (code.object b)
  pub first : Ins
  pub begins : (code.object b).at 0 ≡ Some first
  pub starts : kinds_at_start code_block.kind ≡ (if code.iterates b then Iter ∷ [] else [])
  pub knows : KnowsSlots (block_of c code_block (code.object b).at) (known b)

-- so the run of code whose blocks fit never halts unfinished, each block by the code that has it
abbrev pub VerifiedCodeNeverHalts : (D N V W : Type 0) → Type 0
VerifiedCodeNeverHalts D N V W = (c : BlockId → Code) → ((b : BlockId) → AllFit (c b))
    → (code : CodeBlocks V) (block : BlockId → Option CodeBlock) (known : BlockId → SlotsKnown)
    → ((b : BlockId) → IsInCode (c b) code block known b) → (host : Host N V W)
    (ask : Debugger D N V W) (n : ℕ) (b : BlockId) (names : N) (world : W) (d : D)
    → NeverHalts (machine (told_code code block known)) host ask n
    (session (machine (told_code code block known)) b names world d)
