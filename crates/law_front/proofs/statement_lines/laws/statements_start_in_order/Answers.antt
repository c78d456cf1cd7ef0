use Rattle.law_front.proofs.statement_lines.Statements.{on_lines}
use Rattle.law_front.proofs.statement_lines.laws.statements_start_in_order.Goals as goal

pub returns : goal.returns
returns c = on_lines
