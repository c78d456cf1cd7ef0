use Rattle.pt_wide.specs.StatementFold.{stm_of}
use Rattle.pt_readers.proofs.Readers.{carries_all, narrow_carries}
use Rattle.pt_readers.proofs.Exits.{fails_at, goes_on, carried_all, is_not, is_so}
use Rattle.pt_parser.proofs.SimpleLemmas.{raise_nothing, raise_exception, exception_binds, cause_binds}
use Rattle.pt_parser.proofs.reader.Statements.raising.Goals as goal

pub returns-then-is_at_end : goal.returns-then-is_at_end
returns-then-is_at_end c = carried_all stm_of _ _ (narrow_carries (raise_nothing _ _ (is_so c.is_at_end.ensures c.if-is_at_end.true))) (rw c.raised_again.ensures at c.ended.ensures)

pub returns-in_err-exception : goal.returns-in_err-exception
returns-in_err-exception c = fails_at _ _ _ _ _ _ c.from_residual.ensures.1 (narrow_carries (raise_exception _ _ (is_not c.is_at_end.ensures c.if-is_at_end.false))) (exception_binds _) c.in_err-exception.ensures

pub returns-in_err-cause : goal.returns-in_err-cause
returns-in_err-cause c = fails_at _ _ _ _ _ _ c.from_residual-in_err-cause.ensures.1
    (goes_on (narrow_carries (raise_exception _ _ (is_not c.is_at_end.ensures c.if-is_at_end.false))) (exception_binds _) c.in_ok-exception.ensures) (cause_binds _ _ c.in_ok-exception.ensures.fits) c.in_err-cause.ensures

pub returns : goal.returns
returns c = carried_all stm_of _ _
    (goes_on (goes_on (narrow_carries (raise_exception _ _ (is_not c.is_at_end.ensures c.if-is_at_end.false))) (exception_binds _) c.in_ok-exception.ensures) (cause_binds _ _ c.in_ok-exception.ensures.fits) c.in_ok-cause.ensures)
    (rw c.raised.ensures at c.ended-2.ensures)
