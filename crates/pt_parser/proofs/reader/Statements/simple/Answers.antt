use Rattle.std.proofs.Common.{◌≡◌, ◌∙◌, sym, ap, refl, true, false, Some, None}
use Rattle.pt_wide.specs.StatementFold.{stm_of}
use Rattle.pt_readers.proofs.Readers.{carries_all, narrow_carries, then_on}
use Rattle.pt_readers.proofs.Exits.{carried_all, shift_on}
use Rattle.pt_parser.proofs.Tokens.{sign_next}
use Rattle.pt_parser.proofs.SimpleLemmas.{from_shifts, stated_narrows}
use Rattle.pt_parser.proofs.reader.Statements.simple.Goals as goal

pub returns-then-take : goal.returns-then-take
returns-then-take c = let n = c.take.ensures.found c.if-take.true in
    carried_all stm_of _ _ (shift_on carries_all (from_shifts _) (sign_next _ n.0) n.1) (rw c.line-line.ensures at c.importing_from.ensures)

pub returns : goal.returns
returns c = let n = c.take.ensures.none c.if-take.false in
    carried_all stm_of _ _ (narrow_carries (stated_narrows _ (sym c.keyword.ensures ∙ c.in_default.is) n.0)) (rw n.1 at c.assignment_or_expression.ensures)
