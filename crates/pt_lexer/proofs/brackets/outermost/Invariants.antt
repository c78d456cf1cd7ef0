use Rattle.std.proofs.Common.{◌≡◌, None, length}
use Rattle.pt_lexer.specs.Faults.{outermost, line_of_mode, outermost_string}
use Rattle.pt_lexer.proofs.brackets.outermost.Given as goal

abbrev pub invariant-loop-last : goal.invariant-loop-last
invariant-loop-last l = record {
  line : outermost l.found l.opened ≡ outermost l.fn.line l.fn.opened;
  string : outermost_string l.string l.opened ≡ outermost_string (line_of_mode None l.fn.mode) l.fn.opened;
}

abbrev pub decreases-loop-last : goal.decreases-loop-last
decreases-loop-last l = length l.opened
