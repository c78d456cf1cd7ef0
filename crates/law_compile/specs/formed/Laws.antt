-- What laws say of trees as the grammar forms them.
use Rattle.std.specs.Prelude.{◌≡◌, ℕ, slice_get, Some}
use Rattle.pt_tree.specs.Syntax.{Stms}
use Rattle.pt_tree.specs.Blocks.{Block, Code, blocks_script}
use Rattle.law_typed_pieces.specs.law_operands.piece_names.Laws.{HasPlainArguments}
use Rattle.law_compile.specs.loop_exits.Parts.{CodeHasParts}
use Rattle.law_compile.specs.formed.Formed.{StmsFormed, CodeFormed}

abbrev pub BlocksAreFormed : Type 0
BlocksAreFormed = (ss : Stms) (n : ℕ) (block : Block) → StmsFormed ss → slice_get (blocks_script ss) n ≡ Some block → CodeFormed block.code

abbrev pub ArgumentsArePlain : (V : Type 0) → Type 0
ArgumentsArePlain V = (null : V) (c : Code) → CodeFormed c → HasPlainArguments null c

abbrev pub StatementsHaveParts : Type 0
StatementsHaveParts = (c : Code) → CodeFormed c → CodeHasParts c
