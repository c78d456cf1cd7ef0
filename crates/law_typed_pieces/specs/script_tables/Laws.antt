-- What laws say of the slots in the code of a script.
use Rattle.std.specs.Prelude.{◌≡◌, ℕ, length, slice_get, Some, None}
use Rattle.pt_tree.specs.Syntax.{Stms}
use Rattle.pt_tree.specs.Blocks.{Block, blocks_script}
use Rattle.pt_scopes.specs.Mentions.{places_script}
use Rattle.pt_scopes.specs.Refusals.{fault_of}
use Rattle.sem_control.specs.control.Turn.{Around}
use Rattle.sem_control.specs.control.Jump.{starts_of, on_line}
use Rattle.sem_code.specs.slots.CodeObject.{CodeObject}
use Rattle.pt_assembler.specs.Laws.{Shows}
use Rattle.sem_names.specs.Around.{around_of}
use Rattle.sem_fits.specs.fits.Block as F
use Rattle.sem_fits.specs.fits.Jumps.{Starts}
use Rattle.law_operands.specs.law_files.sem_compile.stm_pieces.Names.{Code_named}
use Rattle.law_operands.specs.law_files.sem_compile.stm_pieces.StmPiece.{code_piece}
use Rattle.law_operands.specs.law_files.sem_compile.compile.ScriptCode.{BlockLayout, script_layouts, code_block, code_of}
use Rattle.law_pieces.specs.piece_kinds.Table.{IsTableOf}
use Rattle.law_pieces.specs.piece_kinds.Laws.{table_of}
use Rattle.law_typed_pieces.specs.typed_pieces.Laws.{first_slots}

-- what control knows of a block, where values don't matter
abbrev pub around_block : Stms → (block : ℕ) → Around (Unit {0})
around_block ss n = around_of tt ss n

-- a block of the code of a script, as it is asked whether it fits
abbrev pub block_in : {V : Type 0} → Stms → BlockLayout → CodeObject V → F.Block
block_in ss b object = F.block_of (code_of ss) (code_block b) object.at

-- each block within has as many free names as it takes cells along
abbrev pub TakesAll : Stms → (block : ℕ) → F.Block → Type 0
TakesAll ss n b = (k : ℕ) → b.links.captures k ≡ length ((around_block ss n).captured k)

abbrev pub BlocksHaveTables : (V : Type 0) → Type 0
BlocksHaveTables V = (ss : Stms) (n : ℕ) (k : Block) (b : BlockLayout) (object : CodeObject V) → fault_of (places_script ss) ≡ None
    → slice_get (blocks_script ss) n ≡ Some k → slice_get (script_layouts ss) n ≡ Some b → Shows b.written (code_of ss) (code_block b) object
    → Code_named (around_block ss n) k.code → TakesAll ss n (block_in ss b object)
    → IsTableOf (block_in ss b object) (table_of (block_in ss b object) (code_piece (around_block ss n) k.code) (first_slots k.code))

-- control has a statement to jump to on each line on which one of its code starts
abbrev pub StartsHaveStatements : (V : Type 0) → Type 0
StartsHaveStatements V = (ss : Stms) (n : ℕ) (k : Block) (b : BlockLayout) (object : CodeObject V) (line pc : ℕ) → slice_get (blocks_script ss) n ≡ Some k
    → slice_get (script_layouts ss) n ≡ Some b → on_line line (starts_of k.code) ≡ None → Starts (block_in ss b object) line pc → ⊥
