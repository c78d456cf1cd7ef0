-- What numbers in operands of a block's code name: names in slots that the block has, and as many defaults as are given (Library Reference, "dis").
use Rattle.std.specs.Prelude.{◌≡◌, ◌<◌, ℕ, ◌++◌, length, Some}
use Rattle.pt_instr.specs.declared.Instr.{Instr}
use Rattle.pt_instr.specs.declared.Instr.TheVariants as instr
use Rattle.pt_heap.specs.declared.value.Value.{Value}
use Rattle.pt_code.specs.View.{Ins}
use Rattle.sem_code.specs.slots.CodeObject.{Pool}
use Rattle.sem_run.specs.run.Machine.{BlockId}
use Rattle.sem_rows.specs.pt_host.World.{CodeFacts, Program}
use Rattle.sem_rows.specs.sem_code_machine.code_machine.CodeBlocks.{CodeBlocks}
use Rattle.sem_rows.specs.heap_rows.Leads.{HasHeapExtras}
use Rattle.sem_rows.specs.variables.Numbers.{KnowsNames}

-- one of so many local names, and of so many names in cells and free ones; of the names of defaults as many as values are taken
abbrev pub OperandsNameIn : (locals cells : ℕ) → (defaults : ℕ → ℕ) → Instr → Type 0
OperandsNameIn locals cells defaults (instr.Local x) = x.0 < locals
OperandsNameIn locals cells defaults (instr.SetLocal x) = x.0 < locals
OperandsNameIn locals cells defaults (instr.DelLocal x) = x.0 < locals
OperandsNameIn locals cells defaults (instr.FreshLocal x) = x.0 < locals
OperandsNameIn locals cells defaults (instr.Cell x) = x.0 < cells
OperandsNameIn locals cells defaults (instr.SetCell x) = x.0 < cells
OperandsNameIn locals cells defaults (instr.DelCell x) = x.0 < cells
OperandsNameIn locals cells defaults (instr.FreshCell x) = x.0 < cells
OperandsNameIn locals cells defaults (instr.PushCell x) = x.0 < cells
OperandsNameIn locals cells defaults (instr.MakeFunction b n l) = n ≡ defaults l.0
OperandsNameIn locals cells defaults i = Unit {0}

abbrev pub OperandsName : CodeFacts → Pool → Instr → Type 0
OperandsName facts pool i = OperandsNameIn (length facts.locals) (length (facts.cells ++ facts.frees)) (λ l. length (pool.texts l)) i

-- the operands of each block's code name what the block has, and what is made of a block takes along as many cells as the block has free names; what isn't
-- supported leaves the profile
pub record CodeNamesItsBlocks (program : Program) (code : CodeBlocks Value) : Type 0 where
  pub operands : (b : BlockId) (pc : ℕ) (i : Ins) → (code.object b).at pc ≡ Some i → OperandsName (program.facts b) (code.object b).pool i.instr
  pub names : (b : BlockId) → KnowsNames (code.object b) (program.facts b)
  pub extras : (b : BlockId) → HasHeapExtras (code.object b)
  pub captures : (b : BlockId) (n : ℕ) → (code.object b).pool.captures n ≡ length (program.facts (record { hidden = b.hidden; number = n })).frees
