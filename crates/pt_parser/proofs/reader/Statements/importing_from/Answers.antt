use Rattle.pt_wide.specs.StatementFold.{stm_of}
use Rattle.pt_readers.proofs.Readers.{carries_all}
use Rattle.pt_readers.proofs.Exits.{fails_at, goes_on, carried_all}
use Rattle.pt_parser.proofs.ImportLemmas.{dots_binds, origin_binds, word_binds, imported_binds}
use Rattle.pt_parser.proofs.reader.Statements.importing_from.Goals as goal

pub returns-in_err-dots : goal.returns-in_err-dots
returns-in_err-dots c = fails_at _ _ _ _ _ _ c.from_residual.ensures.1 carries_all (dots_binds _) c.in_err-dots.ensures

pub returns-in_err-origin : goal.returns-in_err-origin
returns-in_err-origin c = fails_at _ _ _ _ _ _ c.from_residual-in_err-origin.ensures.1 (goes_on carries_all (dots_binds _) c.in_ok-dots.ensures) (origin_binds _ _) c.in_err-origin.ensures

pub returns-in_err-expect : goal.returns-in_err-expect
returns-in_err-expect c = fails_at _ _ _ _ _ _ c.from_residual-in_err-expect.ensures.1 (goes_on (goes_on carries_all (dots_binds _) c.in_ok-dots.ensures) (origin_binds _ _) c.in_ok-origin.ensures)
    (word_binds _ _ _) c.in_err-expect.ensures

pub returns-in_err-names : goal.returns-in_err-names
returns-in_err-names c = fails_at _ _ _ _ _ _ c.from_residual-in_err-names.ensures.1
    (goes_on (goes_on (goes_on carries_all (dots_binds _) c.in_ok-dots.ensures) (origin_binds _ _) c.in_ok-origin.ensures) (word_binds _ _ _) c.in_ok-expect.ensures)
    (imported_binds _ _ _) c.in_err-names.ensures

pub returns : goal.returns
returns c = carried_all stm_of _ _
    (goes_on (goes_on (goes_on (goes_on carries_all (dots_binds _) c.in_ok-dots.ensures) (origin_binds _ _) c.in_ok-origin.ensures) (word_binds _ _ _) c.in_ok-expect.ensures) (imported_binds _ _ _) c.in_ok-names.ensures)
    (rw c.import_from.ensures at c.ended.ensures)
