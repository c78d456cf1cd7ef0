-- What the law says of the closed parts in the code of a text that is a script (Library Reference, "inspect": `f_lineno`).
use Rattle.std.specs.Prelude.{◌≡◌, ℕ, List, slice_get, Some}
use Rattle.pt_tree.specs.Syntax.{Stms}
use Rattle.pt_tree.specs.Blocks.{Block, blocks_script}
use Rattle.sem_code.specs.slots.CodeObject.{CodeObject}
use Rattle.pt_assembler.specs.Laws.{Shows}
use Rattle.sem_compile.specs.compile.ScriptCode.{BlockLayout, script_layouts, code_block, code_of}
use Rattle.law_typed_pieces.specs.script_tables.Laws.{around_block, block_in}
use Rattle.law_parts.specs.script_parts.Laws.{HasLeastStarts}
use Rattle.pt_front.specs.Text.{IsScript}

abbrev pub BlocksOfTextsHaveParts : (V : Type 0) → Type 0
BlocksOfTextsHaveParts V = (text : List ℕ) (script : Stms) (n : ℕ) (block : Block) (layout : BlockLayout) (object : CodeObject V) → IsScript text script
    → slice_get (blocks_script script) n ≡ Some block → slice_get (script_layouts script) n ≡ Some layout
    → Shows layout.written (code_of script) (code_block layout) object
    → HasLeastStarts (around_block script n) block.code (block_in script layout object)
