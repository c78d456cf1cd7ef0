-- The blocks of a script, as control and as code see them. A number that the script doesn't have stands for its module.
use Rattle.std.specs.Prelude.{ℕ, false, slice_get, Option, Some, None}
use Rattle.pt_tree.specs.Syntax.{Stms}
use Rattle.pt_tree.specs.Blocks.{Block, Code, of_module, blocks_script}
use Rattle.sem_names.specs.Around.{around_of}
use Rattle.sem_code.specs.slots.CodeObject.{CodeObject}
use Rattle.sem_run.specs.run.Machine.{BlockId}
use Rattle.sem_run.specs.run.Source.{Source}
use Rattle.sem_code_machine.specs.code_machine.CodeBlocks.{CodeBlocks}
use Rattle.pt_bare_code.specs.law_code_runs.code_follows.Laws.{iterates}

-- by what stands at the number, if anything does
abbrev pub number_or_module : {A : Type 0} → Option A → ℕ → ℕ
number_or_module (Some k) n = n
number_or_module None n = 0

abbrev pub code_or_module : Stms → Option Block → Code
code_or_module ss (Some k) = k.code
code_or_module ss None = of_module ss

module _ (ss : Stms) where
  abbrev pub block_of : BlockId → Option Block
  block_of b = slice_get (blocks_script ss) b.number

  abbrev pub number_of : BlockId → ℕ
  number_of b = number_or_module (block_of b) b.number

  abbrev pub code_of : BlockId → Code
  code_of b = code_or_module ss (block_of b)

  -- the trees of the blocks, and what control knows around them
  abbrev pub script_trees : {V : Type 0} → (null : V) → Source V
  script_trees null = record { code = code_of; around = λ b. around_of null ss (number_of b) }

  -- the blocks in code, by an object for each number
  abbrev pub script_code : {V : Type 0} → (object : ℕ → CodeObject V) → CodeBlocks V
  script_code object = record { object = λ b. object (number_of b); iterates = λ b. iterates (code_of b) }

abbrev pub the_module : BlockId
the_module = record { hidden = false; number = 0 }
