use Rattle.std.proofs.Common.{rules}
use Rattle.pt_ints.proofs.LawLemmas.{lawful_unary}
use Rattle.pt_ints.proofs.operate.unary.Goals as goal

pub returns-in-Minus-clause-law : goal.returns-in-Minus-clause-law
returns-in-Minus-clause-law c = lawful_unary c.args.op c.args.a c.negation.result (search rules)
