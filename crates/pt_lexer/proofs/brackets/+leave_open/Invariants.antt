use Rattle.std.proofs.Common.{length}
use Rattle.pt_lexer.proofs.brackets.+leave_open.Given as goal

abbrev pub decreases-leave_open : goal.decreases-leave_open
decreases-leave_open l = length l.opened.now
