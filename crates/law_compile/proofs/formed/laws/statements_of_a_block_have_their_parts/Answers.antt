use Rattle.law_compile.proofs.formed.Statements.{statements_have_parts}
use Rattle.law_compile.proofs.formed.laws.statements_of_a_block_have_their_parts.Goals as goal

pub returns : goal.returns
returns c = statements_have_parts
