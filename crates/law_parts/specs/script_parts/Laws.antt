-- What laws say of the closed parts in the code of a script (Library Reference, "inspect": `f_lineno`).
use Rattle.std.specs.Prelude.{◌≡◌, ℕ, slice_get, Some, None}
use Rattle.pt_tree.specs.Syntax.{Stms}
use Rattle.pt_tree.specs.Blocks.{Block, Code, blocks_script}
use Rattle.pt_scopes.specs.Mentions.{places_script}
use Rattle.pt_scopes.specs.Refusals.{fault_of}
use Rattle.sem_control.specs.control.Turn.{Around}
use Rattle.sem_control.specs.control.Jump.{Target, starts_of, on_line}
use Rattle.sem_code.specs.slots.CodeObject.{CodeObject}
use Rattle.pt_assembler.specs.Laws.{Shows}
use Rattle.sem_fits.specs.fits.Block as F
use Rattle.sem_fits.specs.fits.Fits.{IsLeast}
use Rattle.sem_fits.specs.fits.Jumps.{Starts}
use Rattle.sem_compile.specs.stm_pieces.Names.{Code_named}
use Rattle.sem_compile.specs.compile.ScriptCode.{BlockLayout, script_layouts, code_block, code_of}
use Rattle.law_typed_pieces.specs.script_tables.Laws.{around_block, block_in, TakesAll}
use Rattle.law_parts.specs.part_slots.Text.{Code_grammatical, Code_else_apart}
use Rattle.law_parts.specs.part_slots.Laws.{HasParts}

-- each part of a block has its closed part, and the first statement on a line starts at the least place of the line, in its parts
pub record HasLeastStarts {A : Type 0} (around : Around A) (c : Code) (b : F.Block) : Type 0 where
  pub parts : HasParts around c b.starts b
  pub least : (line : ℕ) (t : Target) (e : on_line line (starts_of c) ≡ Some t) → (let s = parts.statements line t e in IsLeast (Starts b line) s.place)

-- in a script without a fault in its declarations, whose tree is that of a text
abbrev pub BlocksHaveParts : (V : Type 0) → Type 0
BlocksHaveParts V = (ss : Stms) (n : ℕ) (k : Block) (b : BlockLayout) (object : CodeObject V) → fault_of (places_script ss) ≡ None
    → slice_get (blocks_script ss) n ≡ Some k → slice_get (script_layouts ss) n ≡ Some b → Shows b.written (code_of ss) (code_block b) object
    → Code_named (around_block ss n) k.code → TakesAll ss n (block_in ss b object) → Code_grammatical k.code → Code_else_apart k.code
    → HasLeastStarts (around_block ss n) k.code (block_in ss b object)
