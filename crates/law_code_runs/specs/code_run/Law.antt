-- When the code of each block stands for its part of a script, and the two machines.
use Rattle.std.specs.Prelude.{◌≡◌, Bool, true, false, List}
use Rattle.pt_code.specs.declared.Start.{Start}
use Rattle.pt_tree.specs.Blocks as B
use Rattle.pt_tree.specs.Blocks.{Code, function_body}
use Rattle.sem_control.specs.control.Turn.{Around}
use Rattle.sem_code.specs.slots.CodeObject.{CodeObject}
use Rattle.sem_code.specs.comp.Places.{Block_at, Lambda_at, Generator_at}
use Rattle.sem_run.specs.run.Machine.{BlockId, Machine}
use Rattle.sem_run.specs.run.Source as source_of
use Rattle.sem_run.specs.run.Source.{Source}
use Rattle.law_code_runs.specs.code_run.CodeMachine as code_of
use Rattle.law_code_runs.specs.code_run.CodeMachine.{CodeSource}

-- the code object is that of a block's tree
abbrev pub Of : {V : Type 0} → Around V → CodeObject V → (iterates : Bool) → Code → Type 0
Of around code g (B.of_module ss) = (g ≡ false) × (starts : List Start) × Block_at around code starts ss
Of around code g (B.of_function ss) = (g ≡ false) × (starts : List Start) × Block_at around code starts (function_body ss)
Of around code g (B.of_class ss) = (g ≡ false) × (starts : List Start) × Block_at around code starts ss
Of around code g (B.of_lambda l e) = (g ≡ false) × Lambda_at around code l e
Of around code g (B.of_generator l e k t cs) = (g ≡ true) × (code.null ≡ around.null) × Generator_at around code l e k t cs

module _ {V : Type 0} (source : Source V) (code : CodeSource V) where
  abbrev pub IsCodeOf : Type 0
  IsCodeOf = (b : BlockId) → Of (source.around b) (code.object b) (code.iterates b) (source.code b)

  abbrev pub Script : Machine (source_of.Position V) V
  Script = source_of.machine source

  abbrev pub Coded : Machine (code_of.Position V) V
  Coded = code_of.machine code
