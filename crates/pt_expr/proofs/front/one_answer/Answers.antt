use Rattle.pt_readers.proofs.Wholes.{one_answer}
use Rattle.pt_expr.specs.Answers.{part_of}
use Rattle.pt_expr.proofs.front.one_answer.Goals as goal

pub returns : goal.returns
returns c = λ p ts rest rest' r r'. one_answer (part_of p) ts rest rest' r r'
