use Rattle.law_front.proofs.parsed.Statements.{mentions_are_parsed}
use Rattle.law_front.proofs.parsed.laws.mentions_are_parsed.Goals as goal

pub returns : goal.returns
returns c = mentions_are_parsed
