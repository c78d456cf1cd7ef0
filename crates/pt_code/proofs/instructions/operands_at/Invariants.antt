use Rattle.std.proofs.Common.{◌≡◌, drop}
use Rattle.pt_code.specs.Reading.{operands_at}
use Rattle.pt_code.proofs.instructions.operands_at.Given as goal

-- what the operands that are left give is what all give
abbrev pub invariant-loop-operand : goal.invariant-loop-operand
invariant-loop-operand l = operands_at l.within (drop l.operand-index l.operands) l.rest ≡ operands_at l.within l.operands l.bytes
