use Rattle.std.proofs.Common.{arith}
use Rattle.pt_parser.proofs.Tokens.{sign_found, sign_bad}
use Rattle.pt_parser.proofs.reader.Statements.expect.Goals as goal

pub returns-then-not-take : goal.returns-then-not-take
returns-then-not-take c = let n = c.take.ensures.none (grind arith) in rw n.1 (sign_bad _ n.0)

pub returns : goal.returns
returns c = let n = c.take.ensures.found (grind arith) in sign_found _ n.0 c.line-line.ensures n.1
