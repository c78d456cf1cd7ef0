use Rattle.pt_wide.specs.Syntax as S
use Rattle.pt_wide.specs.StatementFold.{stm_of}
use Rattle.pt_readers.proofs.Readers.{carries_all}
use Rattle.pt_readers.proofs.Exits.{fails_at, goes_on, carried_all}
use Rattle.pt_parser.specs.Forms.{an_identifier}
use Rattle.pt_parser.proofs.SimpleLemmas.{listed_binds}
use Rattle.pt_parser.proofs.reader.Statements.globals.Goals as goal

pub returns-in_err-names : goal.returns-in_err-names
returns-in_err-names c = fails_at _ _ _ _ _ _ c.from_residual.ensures.1 carries_all (listed_binds an_identifier (λ xs. S.global c.args.line.0 xs) (λ xs. tt)) c.in_err-names.ensures

pub returns : goal.returns
returns c = carried_all stm_of _ _ (goes_on carries_all (listed_binds an_identifier (λ xs. S.global c.args.line.0 xs) (λ xs. tt)) c.in_ok-names.ensures) (rw c.global.ensures at c.ended.ensures)
