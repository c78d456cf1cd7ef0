-- What laws say of the code of a script.
use Rattle.std.specs.Prelude.{◌≡◌, ℕ, length, slice_get, Some}
use Rattle.pt_tree.specs.Syntax.{Stms}
use Rattle.pt_tree.specs.Blocks.{Block, blocks_script}
use Rattle.pt_assembler.specs.Laws.{IsBlockOf}
use Rattle.sem_names.specs.Around.{around_of, names_of}
use Rattle.sem_compile.specs.compile.ScriptCode.{Tables, BlockLayout, layout_of, script_layouts, code_block, code_of}

-- the layout of a block of a script, over some tables
pub record IsLayoutIn (ss : Stms) (n : ℕ) (b : BlockLayout) : Type 0 where
  pub block : Block
  pub is_block : slice_get (blocks_script ss) n ≡ Some block
  pub tables : Tables
  pub is : b ≡ layout_of tables (around_of tt ss n) (names_of ss n) block
  -- the tables of the code are those of the layout, and perhaps more
  pub whole : IsBlockOf b.written (code_of ss) (code_block b)

abbrev pub BlocksAreLaidOut : Type 0
BlocksAreLaidOut = (ss : Stms) (n : ℕ) (b : BlockLayout) → slice_get (script_layouts ss) n ≡ Some b → IsLayoutIn ss n b

abbrev pub AsManyBlocks : Type 0
AsManyBlocks = (ss : Stms) → length (code_of ss).blocks ≡ length (blocks_script ss)
