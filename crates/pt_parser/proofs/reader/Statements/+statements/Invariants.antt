use Rattle.std.proofs.Common.{◌≡◌, ◌+◌, ◌*◌, ◌≤◌, length, map, []}
use Rattle.pt_wide.specs.StatementFold.{stm_of}
use Rattle.pt_readers.specs.Reading.{Carries}
use Rattle.pt_readers.proofs.Readers.{left}
use Rattle.pt_parser.specs.Grammar.{Chosen, Handling}
use Rattle.pt_parser.specs.Parts.{Each, FitsBlock, FitsBranch, FitsHandler, a_compound, some_stmts}
use Rattle.pt_parser.specs.Views.{branch_in, handler_in}
use Rattle.pt_parser.proofs.reader.Statements.+statements.Given as goal

abbrev pub decreases-block : goal.decreases-block
decreases-block l = 6 * length l.self.now + 1

abbrev pub decreases-afterwards : goal.decreases-afterwards
decreases-afterwards l = 6 * length l.self.now + 1

abbrev pub decreases-last : goal.decreases-last
decreases-last l = 6 * length l.self.now + 1

abbrev pub decreases-suite : goal.decreases-suite
decreases-suite l = 6 * length l.self.now

abbrev pub decreases-statement : goal.decreases-statement
decreases-statement l = 6 * length l.self.now + 4

abbrev pub decreases-up_to : goal.decreases-up_to
decreases-up_to l = 6 * length l.self.now + 5

abbrev pub decreases-compound : goal.decreases-compound
decreases-compound l = 6 * length l.self.now + 3

abbrev pub decreases-choice : goal.decreases-choice
decreases-choice l = 6 * length l.self.now + 2

abbrev pub decreases-while_statement : goal.decreases-while_statement
decreases-while_statement l = 6 * length l.self.now + 2

abbrev pub decreases-iteration : goal.decreases-iteration
decreases-iteration l = 6 * length l.self.now + 2

abbrev pub invariant-up_to-more : goal.invariant-up_to-more
invariant-up_to-more l = record {
  shorter : length l.self ≤ length l.fn.self;
  fits : FitsBlock (map stm_of l.all);
  carries : Carries (some_stmts l.close (map stm_of l.fn.all)) l.fn.self (some_stmts l.close (map stm_of l.all)) l.self;
}

abbrev pub decreases-up_to-more : goal.decreases-up_to-more
decreases-up_to-more l = length l.self

abbrev pub invariant-choice-more : goal.invariant-choice-more
invariant-choice-more l = record {
  shorter : length l.self ≤ length l.fn.self;
  each : Each FitsBranch (map branch_in l.branches);
  carries : Carries (left a_compound (Chosen l.line.0 l.line.0 [])) l.fn.self (left a_compound (Chosen l.line.0 l.at.0 (map branch_in l.branches))) l.self;
}

abbrev pub decreases-choice-more : goal.decreases-choice-more
decreases-choice-more l = length l.self

abbrev pub decreases-with_statement : goal.decreases-with_statement
decreases-with_statement l = 6 * length l.self.now + 2

abbrev pub decreases-function : goal.decreases-function
decreases-function l = 6 * length l.self.now + 2

abbrev pub decreases-class_body : goal.decreases-class_body
decreases-class_body l = 6 * length l.self.now + 2

abbrev pub decreases-class : goal.decreases-class
decreases-class l = 6 * length l.self.now + 3

abbrev pub decreases-decorated : goal.decreases-decorated
decreases-decorated l = 6 * length l.self.now + 3

abbrev pub decreases-finishing : goal.decreases-finishing
decreases-finishing l = 6 * length l.self.now + 2

abbrev pub decreases-closing : goal.decreases-closing
decreases-closing l = 6 * length l.self.now + 3

abbrev pub decreases-handlers : goal.decreases-handlers
decreases-handlers l = 6 * length l.self.now + 4

abbrev pub decreases-attempt : goal.decreases-attempt
decreases-attempt l = 6 * length l.self.now + 2

abbrev pub invariant-handlers-more : goal.invariant-handlers-more
invariant-handlers-more l = record {
  shorter : length l.self ≤ length l.fn.self;
  same : l.body ≡ l.fn.body;
  each : Each FitsHandler (map handler_in l.handlers);
  carries : Carries (left a_compound (Handling l.line.0 (map stm_of l.fn.body) l.fn.first.0 [])) l.fn.self (left a_compound (Handling l.line.0 (map stm_of l.fn.body) l.at.0 (map handler_in l.handlers))) l.self;
}

abbrev pub decreases-handlers-more : goal.decreases-handlers-more
decreases-handlers-more l = length l.self
