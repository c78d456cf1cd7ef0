use Rattle.std.proofs.Common.{◌∙◌, ap}
use Rattle.pt_readers.proofs.Exits.{passed}
use Rattle.pt_parser.specs.Headings.{comma_before_last}
use Rattle.pt_parser.proofs.BaseLemmas.{passed_tokens, bases_told, bases_fail}
use Rattle.pt_parser.proofs.reader.Statements.bases.Goals as goal

pub returns-in_err-arguments : goal.returns-in_err-arguments
returns-in_err-arguments c = passed _ _ _ _ _ _ c.from_residual.ensures.1 (bases_fail _ _ _ c.in_err-arguments.ensures)

pub returns : goal.returns
returns c = bases_told _ (c.comma_before_last.ensures ∙ ap comma_before_last (passed_tokens c.as_slice-tokens.result.now _ _ _ c.as_slice-tokens.ensures c.len.ensures)) c.in_ok-arguments.ensures
