use Rattle.law_front.proofs.script_numbers.Scripts.{numbered}
use Rattle.law_front.proofs.script_numbers.laws.the_blocks_of_a_script_are_numbered.Goals as goal

pub returns : goal.returns
returns c = λ script narrow is. numbered script narrow is
