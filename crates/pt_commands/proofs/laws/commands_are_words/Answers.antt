use Rattle.std.proofs.Common.{refl}
use Rattle.pt_commands.proofs.CommandLemmas.{blanks_are_bad}
use Rattle.pt_commands.proofs.laws.commands_are_words.Goals as goal

pub returns-clause-names : goal.returns-clause-names
returns-clause-names c = refl

pub returns-clause-blanks : goal.returns-clause-blanks
returns-clause-blanks c = blanks_are_bad
