-- Code whose blocks fit, in code objects that are told of their slots, is code that fits.
use Rattle.std.proofs.Common.{◌≡◌, Bool, true, false, if◌then◌else◌, [], ◌∷◌, Option}
use Rattle.pt_instr.specs.declared.kinds.Kind.TheVariants.{Iter}
use Rattle.pt_code.specs.declared.CodeBlock.{CodeBlock}
use Rattle.pt_code.specs.declared.Code.{Code}
use Rattle.sem_code.specs.slots.Machine as slots
use Rattle.sem_fits.specs.fits.Block.{Block, block_of, kinds_at_start}
use Rattle.sem_fits.specs.fits.Fits.{Fits, AllFit}
use Rattle.sem_fits.specs.fits.Laws as laws
use Rattle.sem_fits.specs.fits.Laws.{Starts}
use Rattle.pt_verify_depths.proofs.ObjectRuns.{object_runs}
use Rattle.sem_run.specs.run.Machine.{BlockId}
use Rattle.sem_run.specs.run.Source.{or_null}
use Rattle.sem_code_machine.specs.code_machine.CodeBlocks.{CodeBlocks}
use Rattle.law_code_runs.specs.code_run.CodeMachine.{CodeSource}
use Rattle.law_code_jumps.specs.jump_answers.Known.{SlotsKnown}
use Rattle.law_code_jumps.specs.told_code.Told.{told_code}
use Rattle.law_code_jumps.specs.told_code.Laws.{AreFitting}
use Rattle.law_code_jumps.proofs.told_code.Answered.{told_code_answers_jumps}
use Rattle.law_code_jumps.proofs.told_code.NeverHalts.{fitting_code_never_halts}
use Rattle.law_verified_code.specs.Laws.{IsInCode, VerifiedCodeNeverHalts}

module _ {V : Type 0} (c : BlockId → Code) (fit : (b : BlockId) → AllFit (c b)) (code : CodeBlocks V)
    (block : BlockId → Option CodeBlock) (known : BlockId → SlotsKnown)
    (are : (b : BlockId) → IsInCode (c b) code block known b) where
  abbrev told : CodeSource V
  told = told_code code block known

  abbrev blocks : BlockId → Block
  blocks b = block_of (c b) (are b).code_block (code.object b).at

  fits : (b : BlockId) → Fits (blocks b)
  fits b =
      let is = are b in
      fit b is.number is.code_block is.there (code.object b).at is.is_object.view

  starts_by : (b : BlockId) (i : Option V) (iterates : Bool)
      → kinds_at_start (blocks b).kind ≡ (if iterates then Iter ∷ [] else [])
      → Starts (blocks b)
      (if iterates then slots.start_generator (or_null (code.object b).null i) else slots.start)
  starts_by b i true e =
      laws.iterating (are b).first (are b).begins e (or_null (code.object b).null i)
  starts_by b i false e = laws.empty (are b).first (are b).begins e

  fitting : AreFitting told blocks
  fitting = record {
    runs = λ b. object_runs V (c b) (are b).code_block (code.object b) (are b).is_object (fits b);
    fits = fits;
    starts = λ b i. starts_by b i (code.iterates b) (are b).starts;
    answers = λ b.
        told_code_answers_jumps code block known b (c b) (are b).code_block (code.object b).at
        (are b).told (are b).knows;
  }

pub verified_never_halts : {D N V W : Type 0} → VerifiedCodeNeverHalts D N V W
verified_never_halts c fit code block known are host ask n b names world d =
    fitting_code_never_halts (told_code code block known) (blocks c fit code block known are)
    (fitting c fit code block known are) host ask n b names world d
