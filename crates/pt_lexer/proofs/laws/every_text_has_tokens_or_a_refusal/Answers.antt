use Rattle.pt_lexer.proofs.EveryText.{every_text, first_of_faults}
use Rattle.pt_lexer.proofs.laws.every_text_has_tokens_or_a_refusal.Goals as goal

pub returns : goal.returns
returns c = record { every_text = every_text; every_fault = first_of_faults }
