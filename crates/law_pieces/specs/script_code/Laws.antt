-- What laws say of the code of a script.
use Rattle.std.specs.Prelude.{◌≡◌, ℕ, slice_get, Some, None}
use Rattle.pt_tree.specs.Syntax.{Stms}
use Rattle.pt_tree.specs.Blocks.{Block, blocks_script}
use Rattle.pt_scopes.specs.Mentions.{places_script}
use Rattle.pt_scopes.specs.Refusals.{fault_of}
use Rattle.sem_code.specs.slots.CodeObject.{CodeObject}
use Rattle.pt_assembler.specs.Laws.{Shows}
use Rattle.sem_names.specs.Around.{around_of}
use Rattle.sem_compile.specs.emitter.Laws.{Agrees}
use Rattle.sem_compile.specs.stm_pieces.Names.{Code_named}
use Rattle.sem_compile.specs.stm_pieces.Laws.{KnowsTruths, Code_at}
use Rattle.sem_compile.specs.compile.ScriptCode.{BlockLayout, script_layouts, code_block, code_of}

abbrev pub ScriptIsCode : (V : Type 0) → Type 0
ScriptIsCode V = (null : V) (ss : Stms) (n : ℕ) (k : Block) (b : BlockLayout) (object : CodeObject V) → fault_of (places_script ss) ≡ None
    → slice_get (blocks_script ss) n ≡ Some k → slice_get (script_layouts ss) n ≡ Some b → Shows b.written (code_of ss) (code_block b) object
    → Code_named (around_of null ss n) k.code → Agrees (around_of null ss n) object → KnowsTruths object
    → Code_at (around_of null ss n) object (code_block b).starts k.code
