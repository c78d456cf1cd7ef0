use Rattle.law_front.proofs.token_lines.Tokens.{lines_rise}
use Rattle.law_front.proofs.token_lines.laws.lines_of_tokens_rise.Goals as goal

pub returns : goal.returns
returns c = lines_rise
