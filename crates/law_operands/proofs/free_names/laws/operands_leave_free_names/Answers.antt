use Rattle.law_operands.proofs.free_names.Begun.{operands_leave}
use Rattle.law_operands.proofs.free_names.laws.operands_leave_free_names.Goals as goal

pub returns : goal.returns
returns c = operands_leave
