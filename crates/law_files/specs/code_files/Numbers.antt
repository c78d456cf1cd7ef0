-- Which counts and numbers of a code are of a size that its file has room for.
use Rattle.std.specs.Prelude.{List, length, FitsSigned}
use Rattle.std.specs.Int.{w128}
use Rattle.pt_code.specs.declared.Const.{Const}
use Rattle.pt_code.specs.declared.Const.TheVariants as const
use Rattle.pt_code.specs.declared.CodeBlock.{CodeBlock}
use Rattle.pt_code.specs.declared.Code.{Code}
use Rattle.pt_code.specs.File.{IsNumber, AreListed, IsText, IsMark, IsHandler, IsStart}

abbrev pub IntegerFits : Const → Type 0
IntegerFits (const.Int n) = FitsSigned w128 n
IntegerFits k = Unit {0}

abbrev pub IsCounted : {A : Type 0} → List A → Type 0
IsCounted xs = IsNumber (length xs)

-- what stands in the instructions is no part of it: their bytes have room for four bytes of each operand
pub record BlockFits (b : CodeBlock) : Type 0 where
  pub first_line : IsNumber b.first_line.0
  pub parameters : IsNumber b.parameters
  pub keyword_only : IsNumber b.keyword_only
  pub locals : IsCounted b.locals
  pub cells : IsCounted b.cells
  pub free : IsCounted b.free
  pub instructions : IsCounted b.instructions
  pub marks : AreListed IsMark b.marks
  pub handlers : AreListed IsHandler b.handlers
  pub starts : AreListed IsStart b.starts

pub record NumbersFit (c : Code) : Type 0 where
  pub texts : AreListed IsText c.texts
  pub constants : AreListed IntegerFits c.constants
  pub lists : AreListed IsCounted c.lists
  pub blocks : AreListed BlockFits c.blocks
