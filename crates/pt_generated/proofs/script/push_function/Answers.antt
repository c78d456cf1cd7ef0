use Rattle.std.proofs.Common.{◌∙◌, append_assoc}
use Rattle.pt_generated.proofs.script.push_function.Goals as goal

pub returns : goal.returns
returns c = c.in_ok-write.ensures.bytes ∙ simp append_assoc
