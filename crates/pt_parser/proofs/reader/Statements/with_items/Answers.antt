use Rattle.std.proofs.Common.{map, arith}
use Rattle.pt_readers.proofs.Readers.{carries_all}
use Rattle.pt_readers.proofs.Exits.{carried_all, shift_on}
use Rattle.pt_parser.specs.Views.{item_in}
use Rattle.pt_parser.proofs.Tokens.{sign_next}
use Rattle.pt_parser.proofs.WithLemmas.{opened_shifts}
use Rattle.pt_parser.proofs.reader.Statements.with_items.Goals as goal

pub returns-then-take : goal.returns-then-take
returns-then-take c = let n = c.take.ensures.found (grind arith) in
    carried_all (λ is. map item_in is) _ _ (shift_on carries_all (opened_shifts _) (sign_next _ n.0) n.1) (rw c.line-line.ensures at c.opened.ensures)

pub returns : goal.returns
returns c = let n = c.take.ensures.none (grind arith) in rw (← n.1) c.bare_items.ensures
