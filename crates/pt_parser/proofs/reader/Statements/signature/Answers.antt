use Rattle.pt_wide.specs.Fold.{opt_exp}
use Rattle.pt_readers.proofs.Readers.{carries_all}
use Rattle.pt_readers.proofs.Exits.{fails_at, goes_on}
use Rattle.pt_grammar.specs.ReadViews.{gathered_read}
use Rattle.pt_parser.specs.Parts.{a_signature}
use Rattle.pt_parser.proofs.Chains.{is_found}
use Rattle.pt_parser.proofs.HeadLemmas.{signature_name, signature_open, signature_parameters, signature_close, signature_result}
use Rattle.pt_parser.proofs.reader.Statements.signature.Goals as goal

pub returns-in_err-name : goal.returns-in_err-name
returns-in_err-name c = fails_at _ _ _ _ _ _ c.from_residual.ensures.1 carries_all signature_name c.in_err-name.ensures

pub returns-in_err-expect : goal.returns-in_err-expect
returns-in_err-expect c = fails_at _ _ _ _ _ _ c.from_residual-in_err-expect.ensures.1 (goes_on carries_all signature_name c.in_ok-name.ensures) (signature_open c.in_ok-name.name) c.in_err-expect.ensures

pub returns-in_err-parameters : goal.returns-in_err-parameters
returns-in_err-parameters c = fails_at _ _ _ _ _ _ c.from_residual-in_err-parameters.ensures.1
    (goes_on (goes_on carries_all signature_name c.in_ok-name.ensures) (signature_open c.in_ok-name.name) c.in_ok-expect.ensures)
    (signature_parameters c.in_ok-name.name) c.in_err-parameters.ensures

pub returns-in_err-expect-2 : goal.returns-in_err-expect-2
returns-in_err-expect-2 c = fails_at _ _ _ _ _ _ c.from_residual-in_err-expect-2.ensures.1
    (goes_on (goes_on (goes_on carries_all signature_name c.in_ok-name.ensures) (signature_open c.in_ok-name.name) c.in_ok-expect.ensures)
    (signature_parameters c.in_ok-name.name) c.in_ok-parameters.ensures)
    (signature_close c.in_ok-name.name (gathered_read c.in_ok-parameters.parameters) c.in_ok-parameters.ensures.fits) c.in_err-expect-2.ensures

pub returns-in_err-returns : goal.returns-in_err-returns
returns-in_err-returns c = fails_at _ _ _ _ _ _ c.from_residual-in_err-returns.ensures.1
    (goes_on (goes_on (goes_on (goes_on carries_all signature_name c.in_ok-name.ensures) (signature_open c.in_ok-name.name) c.in_ok-expect.ensures)
    (signature_parameters c.in_ok-name.name) c.in_ok-parameters.ensures)
    (signature_close c.in_ok-name.name (gathered_read c.in_ok-parameters.parameters) c.in_ok-parameters.ensures.fits) c.in_ok-expect-2.ensures)
    (signature_result c.in_ok-name.name (gathered_read c.in_ok-parameters.parameters) c.in_ok-parameters.ensures.fits) c.in_err-returns.ensures

pub returns : goal.returns
returns c = (goes_on (goes_on (goes_on (goes_on (goes_on carries_all signature_name c.in_ok-name.ensures) (signature_open c.in_ok-name.name) c.in_ok-expect.ensures)
    (signature_parameters c.in_ok-name.name) c.in_ok-parameters.ensures)
    (signature_close c.in_ok-name.name (gathered_read c.in_ok-parameters.parameters) c.in_ok-parameters.ensures.fits) c.in_ok-expect-2.ensures)
    (signature_result c.in_ok-name.name (gathered_read c.in_ok-parameters.parameters) c.in_ok-parameters.ensures.fits) c.in_ok-returns.ensures).found _ _
    (is_found a_signature _ _ c.in_ok-returns.ensures.stops (c.in_ok-parameters.ensures.fits, c.in_ok-returns.ensures.fits))
