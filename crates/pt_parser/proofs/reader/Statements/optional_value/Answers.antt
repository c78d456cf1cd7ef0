use Rattle.std.proofs.Common.{◌≡◌, ◌≢◌, Some, List}
use Rattle.std.proofs.Common.{arith}
use Rattle.pt_wide.specs.Syntax.{Opt, given}
use Rattle.pt_readers.specs.Reading.{next_of, behind, Carries}
use Rattle.pt_readers.proofs.Readers.{left, carries_all}
use Rattle.pt_readers.proofs.Exits.{shift_on, fails_at}
use Rattle.pt_readers.proofs.Pieces.{Made, made_found}
use Rattle.pt_parser.specs.Simple.{values}
use Rattle.pt_parser.specs.Forms.{an_optional}
use Rattle.pt_parser.proofs.Tokens.{sign_next, left_out_found, written_shifts, given_binds}
use Rattle.pt_parser.proofs.reader.Statements.optional_value.Goals as goal

pub returns-then-not-take : goal.returns-then-not-take
returns-then-not-take c = let n = c.take.ensures.none (grind arith) in rw n.1 (left_out_found _ values _ n.0)

pub returns-in_err-read : goal.returns-in_err-read
returns-in_err-read c = let n = c.take.ensures.found (grind arith) in
    fails_at _ _ _ _ _ _ c.from_residual.ensures.1 (shift_on carries_all (written_shifts _ values _) (sign_next _ n.0) n.1) (given_binds _ values) c.in_err-read.ensures

pub returns : goal.returns
returns c = let n = c.take.ensures.found (grind arith) in
    made_found (an_optional c.args.sign values) (shift_on carries_all (written_shifts _ values _) (sign_next _ n.0) n.1) (given_binds _ values) c.in_ok-read.ensures
    c.in_ok-read.ensures.stops c.in_ok-read.ensures.fits
