use Rattle.std.proofs.Common.{◌≡◌, Some}
use Rattle.pt_readers.proofs.Exits.{is_so, is_not}
use Rattle.pt_grammar.specs.declared.sign.Sign.TheVariants.{Mark as mark}
use Rattle.pt_grammar.specs.declared.sign.Mark.TheVariants.{Colon}
use Rattle.pt_grammar.specs.Lexemes.{sign_at}
use Rattle.pt_parser.proofs.Ends.{nothing_bad, nothing_found_at}
use Rattle.pt_parser.proofs.reader.Statements.colon.Goals as goal

pub returns-then-not-is : goal.returns-then-not-is
returns-then-not-is c = nothing_bad (λ o. sign_at o ≡ Some (mark Colon)) _ (λ h. cc) (is_not c.is.ensures c.if-not-is.true)

pub returns : goal.returns
returns c = nothing_found_at (λ o. sign_at o ≡ Some (mark Colon)) _ (is_so c.is.ensures c.if-not-is.false)
