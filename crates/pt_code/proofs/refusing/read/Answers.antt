use Rattle.std.proofs.Common.{arith}
use Rattle.pt_code.proofs.Whole.{found_in, only_in}
use Rattle.pt_code.proofs.refusing.read.Goals as goal

pub returns-clause-found : goal.returns-clause-found
returns-clause-found c = found_in c.args.bytes.now c.answer.result (λ i. omega (arith, c.type_inv.bytes i)) c.answer.ensures

pub returns-clause-only : goal.returns-clause-only
returns-clause-only c = only_in c.args.bytes.now c.answer.result c.answer.ensures
