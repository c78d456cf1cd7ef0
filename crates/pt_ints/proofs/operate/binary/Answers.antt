use Rattle.std.proofs.Common.{rules}
use Rattle.pt_ints.proofs.LawLemmas.{lawful}
use Rattle.pt_ints.proofs.operate.binary.Goals as goal

pub returns-in-Add-clause-law : goal.returns-in-Add-clause-law
returns-in-Add-clause-law c = lawful c.args.op c.args.a c.args.b c.sum.result (search rules)

pub returns-in-Sub-clause-law : goal.returns-in-Sub-clause-law
returns-in-Sub-clause-law c = lawful c.args.op c.args.a c.args.b c.difference.result (search rules)

pub returns-in-Mul-clause-law : goal.returns-in-Mul-clause-law
returns-in-Mul-clause-law c = lawful c.args.op c.args.a c.args.b c.product.result (search rules)

pub returns-in-FloorDiv-clause-law : goal.returns-in-FloorDiv-clause-law
returns-in-FloorDiv-clause-law c = lawful c.args.op c.args.a c.args.b c.floor_division.result (search rules)

pub returns-in-Mod-clause-law : goal.returns-in-Mod-clause-law
returns-in-Mod-clause-law c = lawful c.args.op c.args.a c.args.b c.modulo.result (search rules)

pub returns-in-Pow-2-clause-law : goal.returns-in-Pow-2-clause-law
returns-in-Pow-2-clause-law c = lawful c.args.op c.args.a c.args.b c.raise.result (search rules)

pub returns-in-BitAnd-clause-law : goal.returns-in-BitAnd-clause-law
returns-in-BitAnd-clause-law c = lawful c.args.op c.args.a c.args.b c.common.result (search rules)

pub returns-in-BitOr-clause-law : goal.returns-in-BitOr-clause-law
returns-in-BitOr-clause-law c = lawful c.args.op c.args.a c.args.b c.joined.result (search rules)

pub returns-in-BitXor-clause-law : goal.returns-in-BitXor-clause-law
returns-in-BitXor-clause-law c = lawful c.args.op c.args.a c.args.b c.differing.result (search rules)

pub returns-in-RightShift-clause-law : goal.returns-in-RightShift-clause-law
returns-in-RightShift-clause-law c = lawful c.args.op c.args.a c.args.b c.shift_right.result (search rules)

pub returns-in-LeftShift-2-clause-law : goal.returns-in-LeftShift-2-clause-law
returns-in-LeftShift-2-clause-law c = lawful c.args.op c.args.a c.args.b c.shift_left.result (search rules)
