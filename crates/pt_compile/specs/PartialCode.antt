-- What there is of the code of a script behind some of its blocks.
use Rattle.std.specs.Prelude.{◌≡◌, ℕ, Bool, true, false, List, [], ◌∷◌, ◌++◌, length, Option, Some, None}
use Rattle.pt_tree.specs.declared.act.ActRow.{ActRow}
use Rattle.pt_tree.specs.declared.act.ActKind.{ActKind}
use Rattle.pt_tree.specs.declared.act.ActKind.TheVariants as A
use Rattle.pt_tree.specs.Syntax.{Name, Params}
use Rattle.pt_tree.specs.Blocks.{Block}
use Rattle.pt_code.specs.declared.CodeBlock.{CodeBlock}
use Rattle.pt_code.specs.declared.Code.{Code}
use Rattle.sem_names.specs.Around.{around_by}
use Rattle.sem_names.specs.Script.{Naming}
use Rattle.pt_block_names.specs.Named.{names_with}
use Rattle.pt_assembler.specs.declared.image.Heading.{Heading}
use Rattle.pt_assembler.specs.Layout.{Written, begun, with_text, number_of_text, block_of}
use Rattle.law_files.specs.sem_compile.compile.ScriptCode.{Tables, BlockLayout, layout_of, tables_of, code_with, with_names}
use Rattle.pt_compile.specs.declared.open_block.OpenBlock.{OpenBlock}

-- a block begins over so many slots
abbrev pub empty_over : Tables → (slots : ℕ) → Written
empty_over t slots = begun t.texts t.constants t.lists [] [] [] slots

-- how the blocks of the script name their variables, the tables of the code, and its blocks so far
pub record PartialCode : Type 0 where
  pub naming : Naming
  pub tables : Tables
  pub blocks : List CodeBlock

-- the blocks of a whole script are its code
abbrev pub whole : PartialCode → Code
whole c = code_with c.tables c.blocks

-- the next block has begun, with this name and these parameters, over so many slots
pub record IsOpen (c : PartialCode) (x : Name) (ps : Params) (slots : ℕ) (b : OpenBlock) : Type 0 where
  pub name : b.name ≡ number_of_text x (empty_over c.tables slots)
  pub names : b.names.names ≡ c.naming
  pub number : b.names.block.0 ≡ length c.blocks
  pub writer : b.writer ≡ with_names (names_with c.naming (length c.blocks) ps) (with_text x (empty_over c.tables slots))
  pub act : b.writer.act ≡ 0

-- the layout of the next block
abbrev pub next_layout : PartialCode → Block → BlockLayout
next_layout c k = layout_of c.tables (around_by tt c.naming (length c.blocks)) (names_with c.naming (length c.blocks) k.params) k

-- with a block that is whole
abbrev pub with_layout : Heading → Written → PartialCode → PartialCode
with_layout h w c = record c { tables = tables_of w; blocks = c.blocks ++ block_of h w ∷ [] }

unfoldable pub with_block : Block → PartialCode → PartialCode
with_block k c = with_layout (next_layout c k).heading (next_layout c k).written c

-- an act that gives a value of its block on (6.2.9)
abbrev pub gives_value : ActKind → Bool
gives_value A.Yield = true
gives_value A.Delegate = true
gives_value k = false

abbrev pub gives_at : Option ActRow → Bool
gives_at None = false
gives_at (Some r) = gives_value r.kind
