use Rattle.pt_readers.specs.Sample.{a_sum}
use Rattle.pt_readers.proofs.Wholes.{one_answer}
use Rattle.pt_readers.proofs.sample.one_answer.Goals as goal

pub returns : goal.returns
returns c = λ most ts rest rest' r r'. one_answer (a_sum most) ts rest rest' r r'
