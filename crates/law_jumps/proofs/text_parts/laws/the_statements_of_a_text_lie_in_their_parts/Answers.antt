use Rattle.law_jumps.proofs.text_parts.Texts.{blocks_of_texts_have_parts}
use Rattle.law_jumps.proofs.text_parts.laws.the_statements_of_a_text_lie_in_their_parts.Goals as goal

pub returns : goal.returns
returns g c = blocks_of_texts_have_parts
