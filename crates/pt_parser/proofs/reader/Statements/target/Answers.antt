use Rattle.std.proofs.Common.{◌≡◌, Some, arith}
use Rattle.pt_readers.proofs.Readers.{carries_all}
use Rattle.pt_readers.proofs.Exits.{shift_on, fails_at}
use Rattle.pt_readers.proofs.Pieces.{made_found}
use Rattle.pt_grammar.specs.declared.sign.Sign.TheVariants.{Keyword as keyword}
use Rattle.pt_grammar.specs.declared.sign.Keyword.TheVariants.{As}
use Rattle.pt_parser.specs.Simple.{a_place}
use Rattle.pt_parser.specs.Forms.{an_optional}
use Rattle.pt_parser.proofs.Tokens.{sign_next, left_out_found, written_shifts, given_binds}
use Rattle.pt_parser.proofs.reader.Statements.target.Goals as goal

pub returns-then-not-take : goal.returns-then-not-take
returns-then-not-take c = let n = c.take.ensures.none (grind arith) in rw n.1 (left_out_found _ a_place _ n.0)

pub returns-in_err-read : goal.returns-in_err-read
returns-in_err-read c = let n = c.take.ensures.found (grind arith) in
    fails_at _ _ _ _ _ _ c.from_residual.ensures.1 (shift_on carries_all (written_shifts _ a_place _) (sign_next _ n.0) n.1) (given_binds _ a_place) c.in_err-read.ensures

pub returns : goal.returns
returns c = let n = c.take.ensures.found (grind arith) in
    made_found (an_optional (keyword As) a_place) (shift_on carries_all (written_shifts _ a_place _) (sign_next _ n.0) n.1) (given_binds _ a_place) c.in_ok-read.ensures
    c.in_ok-read.ensures.stops c.in_ok-read.ensures.fits
