use Rattle.std.proofs.Common.{◌∙◌}
use Rattle.pt_pdb.proofs.PromptLemmas.{valid}
use Rattle.pt_pdb.proofs.prompts.shown_line.Goals as goal

pub returns-in-Ok : goal.returns-in-Ok
returns-in-Ok c = c.in-Ok.ensures.cases.0 ∙ valid c.args.line.now c.in-Ok.ensures.cases.1
