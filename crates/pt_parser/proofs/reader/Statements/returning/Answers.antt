use Rattle.pt_wide.specs.StatementFold.{stm_of}
use Rattle.pt_readers.proofs.Readers.{carries_all, narrow_carries}
use Rattle.pt_readers.proofs.Exits.{fails_at, goes_on, carried_all, is_not, is_so}
use Rattle.pt_parser.proofs.SimpleLemmas.{return_nothing, return_value, value_binds}
use Rattle.pt_parser.proofs.reader.Statements.returning.Goals as goal

pub returns-then-is_at_end : goal.returns-then-is_at_end
returns-then-is_at_end c = carried_all stm_of _ _ (narrow_carries (return_nothing _ _ (is_so c.is_at_end.ensures c.if-is_at_end.true))) (rw c.returned.ensures at c.ended.ensures)

pub returns-in_err-value : goal.returns-in_err-value
returns-in_err-value c = fails_at _ _ _ _ _ _ c.from_residual.ensures.1 (narrow_carries (return_value _ _ (is_not c.is_at_end.ensures c.if-is_at_end.false))) (value_binds _) c.in_err-value.ensures

pub returns : goal.returns
returns c = carried_all stm_of _ _ (goes_on (narrow_carries (return_value _ _ (is_not c.is_at_end.ensures c.if-is_at_end.false))) (value_binds _) c.in_ok-value.ensures) (rw c.returned-2.ensures at c.ended-2.ensures)
