use Rattle.pt_prog.proofs.EndLaws.{text_prints_once}
use Rattle.pt_prog.proofs.laws.a_text_prints_one_output.Goals as goal

pub returns : goal.returns
returns c = λ a text e f ws vs. text_prints_once a text e f ws vs
