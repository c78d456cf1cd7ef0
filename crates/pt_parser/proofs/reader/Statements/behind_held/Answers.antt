use Rattle.std.proofs.Common.{map}
use Rattle.pt_readers.proofs.Readers.{left}
use Rattle.pt_readers.specs.Settled.{Settled}
use Rattle.pt_parser.specs.Parts.{with_items}
use Rattle.pt_parser.specs.WithLeft.{BehindHeld}
use Rattle.pt_parser.specs.Views.{item_in, held_in}
use Rattle.pt_parser.proofs.reader.Statements.behind_held.Goals as goal

pub returns-in-Only : goal.returns-in-Only
returns-in-Only c = rw c.in-Only.is c.behind_parentheses.ensures
