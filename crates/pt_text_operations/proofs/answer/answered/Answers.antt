use Rattle.std.proofs.Common.{subst}
use Rattle.pt_strs.specs.Answer.{Answers}
use Rattle.pt_text_operations.proofs.RefusalLemmas.{refusal}
use Rattle.pt_text_operations.proofs.answer.answered.Goals as goal

pub returns-in-Err : goal.returns-in-Err
returns-in-Err c wanted h = refusal c.refused.result c.in-Err.error wanted c.refused.ensures.value c.refused.ensures.memory (subst (λ a. Answers a wanted) c.in-Err.is h)
