use Rattle.pt_wide.specs.StatementFold.{stm_of}
use Rattle.pt_readers.proofs.Readers.{carries_all}
use Rattle.pt_readers.proofs.Exits.{fails_at}
use Rattle.pt_parser.specs.Limits.{FitsStm}
use Rattle.pt_parser.proofs.Ends.{end_binds, end_is}
use Rattle.pt_parser.proofs.reader.Statements.ended.Goals as goal

pub returns-in_err-end : goal.returns-in_err-end
returns-in_err-end c = fails_at _ _ _ _ _ _ c.from_residual.ensures.1 carries_all (end_binds FitsStm _ c.requires) c.in_err-end.ensures

pub returns : goal.returns
returns c = end_is FitsStm carries_all c.requires c.in_ok-end.ensures
