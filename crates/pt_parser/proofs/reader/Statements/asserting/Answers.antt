use Rattle.pt_wide.specs.StatementFold.{stm_of}
use Rattle.pt_readers.proofs.Readers.{carries_all}
use Rattle.pt_readers.proofs.Exits.{fails_at, goes_on, carried_all}
use Rattle.pt_parser.proofs.SimpleLemmas.{assert_test, assert_message}
use Rattle.pt_parser.proofs.reader.Statements.asserting.Goals as goal

pub returns-in_err-test : goal.returns-in_err-test
returns-in_err-test c = fails_at _ _ _ _ _ _ c.from_residual.ensures.1 carries_all (assert_test _) c.in_err-test.ensures

pub returns-in_err-message : goal.returns-in_err-message
returns-in_err-message c = fails_at _ _ _ _ _ _ c.from_residual-in_err-message.ensures.1 (goes_on carries_all (assert_test _) c.in_ok-test.ensures) (assert_message _ _ c.in_ok-test.ensures.fits) c.in_err-message.ensures

pub returns : goal.returns
returns c = carried_all stm_of _ _ (goes_on (goes_on carries_all (assert_test _) c.in_ok-test.ensures) (assert_message _ _ c.in_ok-test.ensures.fits) c.in_ok-message.ensures) (rw c.assertion.ensures at c.ended.ensures)
