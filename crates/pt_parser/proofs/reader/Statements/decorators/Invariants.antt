use Rattle.std.proofs.Common.{◌≤◌, length, map}
use Rattle.pt_readers.specs.Reading.{Carries}
use Rattle.pt_readers.proofs.Readers.{left}
use Rattle.pt_parser.specs.Headings.{Decorated}
use Rattle.pt_parser.specs.Parts.{Each, FitsDecorator, some_decorators}
use Rattle.pt_parser.specs.Views.{decorator_in}
use Rattle.pt_parser.proofs.reader.Statements.decorators.Given as goal

abbrev pub invariant-more : goal.invariant-more
invariant-more l = record {
  each : Each FitsDecorator (map decorator_in l.all);
  carries : Carries (some_decorators l.fn.line.0) l.fn.self (left (some_decorators l.fn.line.0) (Decorated l.at.0 (map decorator_in l.all))) l.self;
}

abbrev pub decreases-more : goal.decreases-more
decreases-more l = length l.self
