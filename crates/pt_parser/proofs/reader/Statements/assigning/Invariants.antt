use Rattle.std.proofs.Common.{map, length}
use Rattle.pt_readers.specs.Reading.{Carries}
use Rattle.pt_readers.proofs.Readers.{left}
use Rattle.pt_wide.specs.Fold.{exp_of}
use Rattle.pt_parser.specs.Limits.{FitsExp}
use Rattle.pt_parser.specs.Parts.{Each, a_simple}
use Rattle.pt_parser.specs.Left.{After}
use Rattle.std.proofs.Common.{[]}
use Rattle.pt_parser.proofs.reader.Statements.assigning.Given as goal

abbrev pub invariant-targets : goal.invariant-targets
invariant-targets l = record {
  each : Each FitsExp (map exp_of l.targets);
  last : FitsExp (exp_of l.last);
  carries : Carries (left a_simple (After l.line.0 [] (exp_of l.fn.first))) l.fn.self (left a_simple (After l.line.0 (map exp_of l.targets) (exp_of l.last))) l.self;
}

abbrev pub decreases-targets : goal.decreases-targets
decreases-targets l = length l.self
