-- A code that has a file has room for its numbers.
use Rattle.std.proofs.Common.{ℕ, true, false, List, [], ◌∷◌, length}
use Rattle.pt_code.specs.declared.Const.{Const}
use Rattle.pt_code.specs.declared.Const.TheVariants as const
use Rattle.pt_code.specs.declared.Code.{Code}
use Rattle.pt_code.specs.declared.CodeBlock.{CodeBlock}
use Rattle.pt_code.specs.declared.parts.Within.{Within}
use Rattle.pt_code.specs.File.{AreBlocks, AreListed, HasFile, IsBelow, IsBlock, IsConstant, inside}
use Rattle.law_typed_pieces.specs.law_operands.law_files.code_files.Numbers.{BlockFits, IntegerFits, IsCounted, NumbersFit}
use Rattle.law_typed_pieces.proofs.law_operands.law_files.code_files.Each.{weaken}

constant_fits : (texts : ℕ) (k : Const) → IsConstant texts k → IntegerFits k
constant_fits texts (const.Int n) h = h
constant_fits texts k h = tt

block_fits : (within : Within) (b : CodeBlock) → IsBlock within b → BlockFits b
block_fits within b is =
    let signature = is.0.1.1 in
    let names = is.1.0 in
    let tables = is.1.1.1 in record {
      first_line = signature.0;
      parameters = signature.1.0.0;
      keyword_only = signature.1.1.1.0;
      locals = names.0.0.0;
      cells = names.1.0.0;
      free = names.1.1.0.0;
      instructions = is.1.1.0.counted;
      marks = tables.0;
      handlers = tables.1.0;
      starts = tables.1.1;
    }

blocks_fit : (texts constants lists : ℕ) (bs : List CodeBlock) → AreBlocks texts constants lists bs → AreListed BlockFits bs
blocks_fit texts constants lists [] are = absurd are
blocks_fit texts constants lists (b ∷ bs) are =
    let within = inside texts constants lists (length (b ∷ bs)) in
    (are.0, (block_fits (within true) b are.1, weaken (IsBlock (within false)) BlockFits (block_fits (within false)) bs are.2))

pub numbers_fit : (c : Code) → HasFile c → NumbersFit c
numbers_fit c has = record {
  texts = has.0;
  constants = (has.1.0.0, weaken (IsConstant (length c.texts)) IntegerFits (constant_fits (length c.texts)) c.constants has.1.0.1);
  lists = (has.1.1.0.0, weaken (AreListed (IsBelow (length c.texts))) IsCounted (λ l h. h.0) c.lists has.1.1.0.1);
  blocks = blocks_fit (length c.texts) (length c.constants) (length c.lists) c.blocks has.1.1.1;
}
