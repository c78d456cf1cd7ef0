-- What the law says of what code tells of the blocks of a script.
use Rattle.std.specs.Prelude.{◌≡◌, ℕ, slice_get, Some, None}
use Rattle.std.specs.List.{IsDistinct}
use Rattle.std.specs.Str.{bytes_eq}
use Rattle.pt_tree.specs.Syntax.{Stms}
use Rattle.pt_tree.specs.Blocks.{Block, blocks_script}
use Rattle.pt_scopes.specs.Mentions.{places_script}
use Rattle.pt_scopes.specs.Refusals.{fault_of}
use Rattle.sem_names.specs.Around.{names_of}
use Rattle.sem_names.specs.Script.{naming_script, spelled_in}
use Rattle.pt_code.specs.declared.CodeBlock.{CodeBlock}
use Rattle.law_typed_pieces.specs.law_operands.law_files.sem_compile.compile.ScriptCode.{BlockLayout, code_block, code_of, script_layouts}
use Rattle.pt_code_loader.specs.pt_code_tables.pt_machine_state.pt_code_facts.Facts.{facts_of, facts_view, named_texts}
use Rattle.law_loading.specs.script_program.ScriptProgram.{facts_with}

-- the code of a block has the names that the script's block is said to have, and no others (4.2.2)
pub record HasItsNames (ss : Stms) (n : ℕ) (b : CodeBlock) : Type 0 where
  pub locals : named_texts (code_of ss).texts b.locals ≡ (names_of ss n).locals
  pub cells : named_texts (code_of ss).texts b.cells ≡ (names_of ss n).cells
  pub frees : named_texts (code_of ss).texts b.free ≡ (names_of ss n).frees

abbrev pub BlocksHaveTheirNames : Stms → Type 0
BlocksHaveTheirNames ss = (n : ℕ) (b : BlockLayout) → slice_get (script_layouts ss) n ≡ Some b → HasItsNames ss n (code_block b)

abbrev pub CodeTellsOfBlocks : Type 0
CodeTellsOfBlocks = (ss : Stms) (n : ℕ) (k : Block) (b : BlockLayout) → fault_of (places_script ss) ≡ None → HasItsNames ss n (code_block b)
    → slice_get (blocks_script ss) n ≡ Some k → slice_get (script_layouts ss) n ≡ Some b
    → facts_view (facts_of (code_of ss).texts (code_block b)) ≡ facts_with (spelled_in (naming_script ss) n) (names_of ss n) k

-- no local name of a block stands twice
abbrev pub LocalsAreDifferent : Type 0
LocalsAreDifferent = (ss : Stms) (n : ℕ) → IsDistinct bytes_eq (names_of ss n).locals
