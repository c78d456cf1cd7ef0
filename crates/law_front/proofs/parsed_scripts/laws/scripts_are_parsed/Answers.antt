use Rattle.law_front.proofs.parsed_scripts.Statements.{parsed}
use Rattle.law_front.proofs.parsed_scripts.laws.scripts_are_parsed.Goals as goal

pub returns : goal.returns
returns c = parsed
