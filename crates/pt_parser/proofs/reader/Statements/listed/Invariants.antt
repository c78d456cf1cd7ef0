use Rattle.std.proofs.Common.{[], length, map}
use Rattle.pt_wide.specs.Fold.{exp_of}
use Rattle.pt_readers.specs.Reading.{Carries}
use Rattle.pt_readers.proofs.Readers.{left}
use Rattle.pt_grammar.specs.Nodes.{line_of}
use Rattle.pt_parser.specs.Limits.{FitsExp}
use Rattle.pt_parser.specs.Parts.{Each}
use Rattle.pt_parser.specs.WithLeft.{BehindExp, what_is_held}
use Rattle.pt_parser.proofs.reader.Statements.listed.Given as goal

abbrev pub invariant-more : goal.invariant-more
invariant-more l = record {
  before : Each FitsExp (map exp_of l.before.items);
  last : FitsExp (exp_of l.last.tree);
  carries : Carries (left (what_is_held l.fn.line.0) (BehindExp l.fn.line.0 (line_of (exp_of l.fn.first.tree)) [] (exp_of l.fn.first.tree))) l.fn.self
      (left (what_is_held l.fn.line.0) (BehindExp l.fn.line.0 (line_of (exp_of l.fn.first.tree)) (map exp_of l.before.items) (exp_of l.last.tree))) l.self;
}

abbrev pub decreases-more : goal.decreases-more
decreases-more l = length l.self
