-- What laws say of loops in the code of a script.
use Rattle.std.specs.Prelude.{◌≡◌, ℕ, slice_get, Some, None}
use Rattle.pt_tree.specs.Syntax.{Stms}
use Rattle.pt_tree.specs.Blocks.{Block, blocks_script}
use Rattle.pt_scopes.specs.Mentions.{places_script}
use Rattle.pt_scopes.specs.Refusals.{fault_of}
use Rattle.sem_code.specs.slots.CodeObject.{CodeObject}
use Rattle.pt_assembler.specs.Laws.{Shows}
use Rattle.sem_fits.specs.fits.Fits.{SilentLoop}
use Rattle.law_operands.specs.law_files.sem_compile.stm_pieces.Names.{Code_named}
use Rattle.law_operands.specs.law_files.sem_compile.compile.ScriptCode.{BlockLayout, script_layouts, code_block, code_of}
use Rattle.law_typed_pieces.specs.script_tables.Laws.{around_block, block_in, TakesAll}

-- each loop of a block of a script has an act
abbrev pub ScriptsHaveActsInLoops : (V : Type 0) → Type 0
ScriptsHaveActsInLoops V = (ss : Stms) (n : ℕ) (k : Block) (b : BlockLayout) (object : CodeObject V) → fault_of (places_script ss) ≡ None
    → slice_get (blocks_script ss) n ≡ Some k → slice_get (script_layouts ss) n ≡ Some b → Shows b.written (code_of ss) (code_block b) object
    → Code_named (around_block ss n) k.code → TakesAll ss n (block_in ss b object) → (pc : ℕ) → SilentLoop (block_in ss b object) pc → ⊥
