use Rattle.pt_readers.proofs.Exits.{is_not, is_so}
use Rattle.pt_parser.proofs.Ends.{end_bad, end_found}
use Rattle.pt_parser.proofs.reader.Statements.end.Goals as goal

pub returns-then-not-is_at_end : goal.returns-then-not-is_at_end
returns-then-not-is_at_end c = end_bad _ (is_not c.is_at_end.ensures c.if-not-is_at_end.true)

pub returns : goal.returns
returns c = end_found _ (is_so c.is_at_end.ensures c.if-not-is_at_end.false)
