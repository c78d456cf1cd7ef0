-- What laws say of the names of a script's blocks.
use Rattle.std.specs.Prelude.{◌≡◌, ℕ, [], slice_get, Some}
use Rattle.pt_tree.specs.Syntax.{Stms}
use Rattle.pt_tree.specs.Blocks.{Block, Code, blocks_script}
use Rattle.sem_control.specs.control.Turn as T
use Rattle.sem_control.specs.control.Turn.{Around}
use Rattle.sem_names.specs.Around.{around_of}
use Rattle.sem_names.specs.Naming.{variable}
use Rattle.law_files.specs.sem_compile.stm_pieces.Names.{Code_named}

-- a block whose names are all local, and are spelled as they stand
abbrev pub all_local : {V : Type 0} → (null : V) → Around V
all_local v = record { null = v; variable = λ within x. variable T.local x; spelled = λ x. x; captured = λ block. [] }

-- no argument in what a block runs has for a name what stands for an argument without one: nothing else is asked where all names are local
abbrev pub HasPlainArguments : {V : Type 0} → (null : V) → Code → Type 0
HasPlainArguments v c = Code_named (all_local v) c

abbrev pub NamesAreFound : (V : Type 0) → Type 0
NamesAreFound V = (null : V) (ss : Stms) (n : ℕ) (block : Block) → slice_get (blocks_script ss) n ≡ Some block
    → HasPlainArguments null block.code → Code_named (around_of null ss n) block.code
