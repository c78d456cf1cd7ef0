-- When the code object of each block stands for its block of a script.
use Rattle.std.specs.Prelude.{◌≡◌, false}
use Rattle.pt_tree.specs.Blocks.{yields}
use Rattle.sem_run.specs.run.Machine.{BlockId}
use Rattle.sem_run.specs.run.Source.{Source}
use Rattle.law_code_runs.specs.code_run.Law.{Of}
use Rattle.sem_code_machine.specs.code_machine.CodeBlocks.{CodeBlocks}

abbrev pub HaveTheirCode : {V : Type 0} → Source V → CodeBlocks V → Type 0
HaveTheirCode source code = (b : BlockId) → Of (source.around b) (code.object b) (code.iterates b) (source.code b)

-- no block gives a value on (6.2.9)
abbrev pub NoneGivesOn : {V : Type 0} → Source V → Type 0
NoneGivesOn source = (b : BlockId) → yields (source.code b) ≡ false
