-- What is said of the code object of a block that fits.
use Rattle.pt_code.specs.declared.CodeBlock.{CodeBlock}
use Rattle.pt_code.specs.declared.Code.{Code}
use Rattle.sem_code.specs.slots.CodeObject.{CodeObject}
use Rattle.sem_code.specs.slots.BlockObject.{IsBlockObject}
use Rattle.sem_fits.specs.fits.Block.{block_of}
use Rattle.sem_fits.specs.fits.Fits.{Fits}
use Rattle.sem_fits.specs.fits.Laws.{Runs}

-- it runs the block: it knows how many slots lie where a jump leads
abbrev pub ObjectRuns : (V : Type 0) → Type 0
ObjectRuns V = (c : Code) (b : CodeBlock) (object : CodeObject V) → IsBlockObject c b object → Fits (block_of c b object.at) → Runs object (block_of c b object.at)
