use Rattle.law_parts.proofs.plain_slots.Grows.{expressions_keep}
use Rattle.law_parts.proofs.plain_slots.laws.the_code_of_an_expression_keeps_the_slots_below.Goals as goal

pub returns : goal.returns
returns g c = expressions_keep
