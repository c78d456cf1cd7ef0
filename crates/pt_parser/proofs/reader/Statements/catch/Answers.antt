use Rattle.std.proofs.Common.{◌≡◌, Some}
use Rattle.pt_readers.proofs.Readers.{carries_all, narrow_carries}
use Rattle.pt_readers.proofs.Exits.{carried_all, shift_on}
use Rattle.pt_parser.specs.Views.{catch_in}
use Rattle.pt_parser.proofs.Tokens.{sign_next}
use Rattle.pt_parser.proofs.HeadLemmas.{star_shifts, no_star_narrows}
use Rattle.pt_parser.proofs.reader.Statements.catch.Goals as goal

pub returns-then-take : goal.returns-then-take
returns-then-take c = let n = c.take.ensures.found c.if-take.true in carried_all catch_in _ _ (shift_on carries_all (star_shifts _) (sign_next _ n.0) n.1) c.caught.ensures

pub returns : goal.returns
returns c = let n = c.take.ensures.none c.if-take.false in carried_all catch_in _ _ (narrow_carries (no_star_narrows _ n.0)) (rw n.1 at c.caught-2.ensures)
