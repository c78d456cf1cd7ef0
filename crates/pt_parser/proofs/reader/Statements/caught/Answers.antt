use Rattle.std.proofs.Common.{◌≡◌, Some}
use Rattle.pt_wide.specs.Fold.{exp_of}
use Rattle.pt_wide.specs.Syntax.{given}
use Rattle.pt_readers.proofs.Readers.{carries_all, narrow_carries}
use Rattle.pt_readers.proofs.Exits.{fails_at, goes_on, is_so, is_not}
use Rattle.pt_grammar.specs.declared.sign.Sign.TheVariants.{Mark as mark}
use Rattle.pt_grammar.specs.declared.sign.Mark.TheVariants.{Colon}
use Rattle.pt_grammar.specs.Lexemes.{sign_at}
use Rattle.pt_parser.specs.Headings.{catch_of}
use Rattle.pt_parser.specs.Parts.{a_catch}
use Rattle.pt_parser.proofs.Ends.{before_binds, before_is}
use Rattle.pt_parser.proofs.HeadLemmas.{catches_all, class_narrows, class_binds, name_binds}
use Rattle.pt_parser.proofs.reader.Statements.caught.Goals as goal

pub returns-then-is : goal.returns-then-is
returns-then-is c = catches_all c.args.star _ (is_so c.is.ensures c.if-is.true)

pub returns-in_err-class : goal.returns-in_err-class
returns-in_err-class c = fails_at _ _ _ _ _ _ c.from_residual.ensures.1 (narrow_carries (class_narrows c.args.star _ (is_not c.is.ensures c.if-is.false))) (class_binds c.args.star) c.in_err-class.ensures

pub returns-in_err-name : goal.returns-in_err-name
returns-in_err-name c = fails_at _ _ _ _ _ _ c.from_residual-in_err-name.ensures.1
    (goes_on (narrow_carries (class_narrows c.args.star _ (is_not c.is.ensures c.if-is.false))) (class_binds c.args.star) c.in_ok-class.ensures)
    (name_binds c.args.star (exp_of c.in_ok-class.class) c.in_ok-class.ensures.fits) c.in_err-name.ensures

pub returns-in_err-colon : goal.returns-in_err-colon
returns-in_err-colon c = fails_at _ _ _ _ _ _ c.from_residual-in_err-colon.ensures.1
    (goes_on (goes_on (narrow_carries (class_narrows c.args.star _ (is_not c.is.ensures c.if-is.false))) (class_binds c.args.star) c.in_ok-class.ensures)
    (name_binds c.args.star (exp_of c.in_ok-class.class) c.in_ok-class.ensures.fits) c.in_ok-name.ensures)
    (before_binds (λ o. sign_at o ≡ Some (mark Colon)) a_catch.fits (catch_of c.args.star (given (exp_of c.in_ok-class.class)) c.in_ok-name.name) c.in_ok-class.ensures.fits) c.in_err-colon.ensures

pub returns : goal.returns
returns c = before_is (λ o. sign_at o ≡ Some (mark Colon)) a_catch.fits
    (goes_on (goes_on (narrow_carries (class_narrows c.args.star _ (is_not c.is.ensures c.if-is.false))) (class_binds c.args.star) c.in_ok-class.ensures)
    (name_binds c.args.star (exp_of c.in_ok-class.class) c.in_ok-class.ensures.fits) c.in_ok-name.ensures)
    c.in_ok-class.ensures.fits c.in_ok-colon.ensures
