use Rattle.pt_wide.specs.StatementFold.{stm_of}
use Rattle.pt_readers.proofs.Readers.{carries_all}
use Rattle.pt_readers.proofs.Exits.{fails_at, goes_on, carried_all}
use Rattle.pt_parser.proofs.SimpleLemmas.{del_binds}
use Rattle.pt_parser.proofs.reader.Statements.deleting.Goals as goal

pub returns-in_err-targets : goal.returns-in_err-targets
returns-in_err-targets c = fails_at _ _ _ _ _ _ c.from_residual.ensures.1 carries_all (del_binds _) c.in_err-targets.ensures

pub returns : goal.returns
returns c = carried_all stm_of _ _ (goes_on carries_all (del_binds _) c.in_ok-targets.ensures) (rw c.deleted.ensures at c.ended.ensures)
