use Rattle.std.proofs.Common.{subst}
use Rattle.pt_readers.proofs.Exits.{is_not, is_so}
use Rattle.pt_parser.specs.Parts.{Clear}
use Rattle.pt_parser.proofs.Ends.{nothing_bad, nothing_found_at}
use Rattle.pt_parser.proofs.BlockLemmas.{clear_no, clear_of}
use Rattle.pt_parser.proofs.reader.Statements.clear.Goals as goal

pub returns-then-is_clause : goal.returns-then-is_clause
returns-then-is_clause c = nothing_bad Clear _ (λ e. e) (λ s. clear_no _ s (is_so c.is_clause.ensures c.if-is_clause.true))

pub returns-then-is_over : goal.returns-then-is_over
returns-then-is_over c = nothing_bad Clear _ (λ e. e) (λ s. subst Clear (is_so c.is_over.ensures c.if-is_over.true) s)

pub returns : goal.returns
returns c = nothing_found_at Clear _ (clear_of _ (is_not c.is_clause.ensures c.if-is_clause.false) (is_not c.is_over.ensures c.if-is_over.false))
