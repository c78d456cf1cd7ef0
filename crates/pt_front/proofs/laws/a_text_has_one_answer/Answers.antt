use Rattle.pt_front.proofs.Once.{one_script, one_refusal, never_both}
use Rattle.pt_front.proofs.laws.a_text_has_one_answer.Goals as goal

pub returns : goal.returns
returns c = record { one_script = one_script; one_refusal = one_refusal; never_both = never_both }
