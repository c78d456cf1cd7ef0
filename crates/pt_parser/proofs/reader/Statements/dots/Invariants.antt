use Rattle.std.proofs.Common.{length}
use Rattle.pt_readers.specs.Reading.{Carries}
use Rattle.pt_readers.proofs.Readers.{left}
use Rattle.pt_parser.specs.Simple.{Dotted}
use Rattle.pt_parser.specs.Parts.{some_dots}
use Rattle.pt_parser.proofs.reader.Statements.dots.Given as goal

abbrev pub invariant-more : goal.invariant-more
invariant-more l = record { carries : Carries (some_dots 0) l.fn.self (left (some_dots 0) (Dotted l.count)) l.self }

abbrev pub decreases-more : goal.decreases-more
decreases-more l = length l.self
