use Rattle.std.proofs.Common.{subst}
use Rattle.pt_strs.specs.Answer.{AnswersAll}
use Rattle.pt_text_operations.proofs.RefusalLemmas.{refusal-of-list}
use Rattle.pt_text_operations.proofs.lists.listed_if.Goals as goal

pub returns-in-Err : goal.returns-in-Err
returns-in-Err c wanted h = refusal-of-list c.args.heap.now c.refused.result c.in-Err.error wanted c.refused.ensures.value c.refused.ensures.memory (subst (λ a. AnswersAll a wanted) c.in-Err.is h)
